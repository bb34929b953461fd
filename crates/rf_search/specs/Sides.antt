-- Private: no public contract cites this.
-- What a side of a decision changes.
use Rattle.std.specs.Prelude.{Bool, true, false}
use Rattle.rf_pending.specs.declared.change.Change.{Change}
use Rattle.rf_pending.specs.declared.change.Change.TheVariants.{Candidates, Count, Fact, Fresh as FreshOf}
use Rattle.rf_rules.specs.declared.decision.Decision.{Decision}
use Rattle.rf_rules.specs.declared.decision.Decision.TheVariants.{Fresh, Kind, Ref}

abbrev pub change_on : Decision → Bool → Change
change_on (Fresh o) true = FreshOf o
change_on (Fresh o) false = Count o
change_on (Kind o c) first = Candidates o
change_on (Ref r a b) first = Fact r a b

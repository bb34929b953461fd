-- What an effect changes.
use Rattle.rf_pending.specs.declared.change.Change.{Change}
use Rattle.rf_pending.specs.declared.change.Change.TheVariants.{Candidates, Count, Fact}
use Rattle.rf_rules.specs.declared.effect.Effect.{Effect}
use Rattle.rf_rules.specs.declared.effect.Effect.TheVariants.{AtLeast, AtMost, Close, Keep, Lose, Merge}

-- what an effect changes; of a closing, which changes nothing, it is never asked
abbrev pub change_by : Effect → Change
change_by Close = Count 0
change_by (AtMost o n) = Count o
change_by (AtLeast o n) = Count o
change_by (Keep o set) = Candidates o
change_by (Lose o set) = Candidates o
change_by (Merge r a b v) = Fact r a b

use Rattle.std.proofs.Common.{◌≡◌, map, take}
use Rattle.rf_names.specs.Tables.{numbers_among}
use Rattle.rf_names.proofs.supers.supers_of.Given as goal

abbrev pub invariant-loop-form : goal.invariant-loop-form
invariant-loop-form l =
    map (λ list. list.items) l.supers.items
    ≡ map (λ c. numbers_among (map (λ n. n.now) l.classes.names.items) c.supers) (take l.form-index l.forms)

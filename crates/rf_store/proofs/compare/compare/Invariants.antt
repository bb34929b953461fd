use Rattle.std.proofs.Common.{◌≡◌, drop}
use Rattle.rf_store.specs.Entries.{key_cmp}
use Rattle.rf_store.proofs.compare.compare.Given as goal

-- what is left of the keys decides
abbrev pub invariant-loop-i : goal.invariant-loop-i
invariant-loop-i l = key_cmp l.a l.b ≡ key_cmp (drop l.i l.a) (drop l.i l.b)

use Rattle.std.proofs.Common.{◌≡◌, take}
use Rattle.rf_rules.specs.Predicates.{origins_of}
use Rattle.rf_prop_broken.proofs.asserted.origins_of.Given as goal

abbrev pub invariant-loop-o : goal.invariant-loop-o
invariant-loop-o g l = l.origins ≡ origins_of (g.F.Facts.state l.view) (take l.o-index l.objects)

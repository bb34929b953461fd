use Rattle.std.proofs.Common.{take}
use Rattle.std.specs.Prelude.{AllPairs}
use Rattle.rf_problem.specs.Noted.{AreNamedApart, AreNoted}
use Rattle.rf_problem.proofs.make.objects.have_names_apart.Given as goal

abbrev pub invariant-loop-object : goal.invariant-loop-object
invariant-loop-object l = record {
  apart : AllPairs AreNamedApart (take l.object-index l.objects);
  noted : AreNoted (take l.object-index l.objects) l.seen;
}

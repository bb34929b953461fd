use Rattle.rf_resolve.proofs.Made.{refused_never, small}
use Rattle.rf_resolve.proofs.PartsFit.{parts_fit}
use Rattle.rf_resolve.proofs.Passing.{passes}
use Rattle.rf_resolve.proofs.resolving.problem_of.Goals as goal

pub build-requires : goal.build-requires
build-requires c =
    small c.requires.read.0 c.args.names.now.declared.now c.requires.read.2 c.requires.read.1 c.requires.sound

pub unreachable-requires : goal.unreachable-requires
unreachable-requires c =
    refused_never _ _ c.in-None.is c.in_ok-made.ensures.refused
    (parts_fit c.requires.read.0 c.args.names.now.declared.now c.requires.read.2
    (passes c.args.names.now.declared.now c.requires.sound) c.requires.read.1)

use Rattle.std.proofs.Common.{length}
use Rattle.rf_syntax.specs.Parts.{each_after}
use Rattle.rf_parser.specs.Private.Parts.{kind_of}
use Rattle.rf_parser.specs.Private.Parsing.{either}
use Rattle.rf_parser.proofs.ListParts.{SoFar}
use Rattle.rf_parser.proofs.lists.push_each_after.Given as goal

abbrev pub invariant-loop-after : goal.invariant-loop-after
invariant-loop-after g l =
    SoFar (each_after (kind_of l.terminal) g.T.Part.pieces) (either (kind_of l.terminal) g.T.Part.longer) l.tokens l.initial.parts l.parts l.rest

abbrev pub decreases-loop-after : goal.decreases-loop-after
decreases-loop-after g l = length l.rest

use Rattle.std.proofs.Common.{[], length}
use Rattle.rf_parser.specs.Private.Parts.{statements_pieces}
use Rattle.rf_parser.specs.Private.Parsing.{anything}
use Rattle.rf_parser.proofs.ListParts.{SoFar}
use Rattle.rf_parser.proofs.parsing.parse_statements.Given as goal

abbrev pub invariant-loop-rest : goal.invariant-loop-rest
invariant-loop-rest l = SoFar statements_pieces anything l.tokens [] l.statements l.rest

abbrev pub decreases-loop-rest : goal.decreases-loop-rest
decreases-loop-rest l = length l.rest

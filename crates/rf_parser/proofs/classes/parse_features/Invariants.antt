use Rattle.std.proofs.Common.{[], length}
use Rattle.rf_parser.specs.Private.Parts.{features_to_brace}
use Rattle.rf_parser.specs.Private.Parsing.{never}
use Rattle.rf_parser.proofs.ListParts.{SoFar}
use Rattle.rf_parser.proofs.classes.parse_features.Given as goal

abbrev pub invariant-loop-after : goal.invariant-loop-after
invariant-loop-after l = SoFar features_to_brace never l.tokens [] l.features l.rest

abbrev pub decreases-loop-after : goal.decreases-loop-after
decreases-loop-after l = length l.rest

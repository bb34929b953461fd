use Rattle.std.proofs.Common.{◌≡◌, ◌++◌, take}
use Rattle.rf_lexer.specs.declared.token.Kind.TheVariants.{Mark}
use Rattle.rf_syntax.specs.Parts.{each_after}
use Rattle.rf_syntax.specs.Piece.{kinds_of}
use Rattle.rf_syntax.proofs.spell.parts.push_each_after.Given as goal

abbrev pub invariant-loop-part : goal.invariant-loop-part
invariant-loop-part g l = l.out.items ≡ l.initial.out.items ++ kinds_of (each_after (Mark l.mark) g.T.Production.pieces (take l.part-index l.parts))

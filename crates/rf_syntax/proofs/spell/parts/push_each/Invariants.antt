use Rattle.std.proofs.Common.{◌≡◌, ◌++◌, take}
use Rattle.std.specs.List.{flat_map}
use Rattle.rf_syntax.specs.Piece.{kinds_of}
use Rattle.rf_syntax.proofs.spell.parts.push_each.Given as goal

abbrev pub invariant-loop-part : goal.invariant-loop-part
invariant-loop-part g l = l.out.items ≡ l.initial.out.items ++ kinds_of (flat_map g.T.Production.pieces (take l.part-index l.parts))

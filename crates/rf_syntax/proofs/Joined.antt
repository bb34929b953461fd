-- The kinds of joined pieces.
use Rattle.std.proofs.Common.{◌≡◌, List, ◌++◌}
use Rattle.std.proofs.lemmas.List.{map-append}
use Rattle.rf_syntax.specs.Piece.{Piece, kinds_of}

pub kinds_joined : (xs ys : List Piece) → kinds_of (xs ++ ys) ≡ kinds_of xs ++ kinds_of ys
kinds_joined xs ys = map-append (λ (p : Piece). p.kind) xs ys

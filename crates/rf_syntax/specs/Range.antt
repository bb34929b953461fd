use Rattle.std.specs.Prelude.{List, [], ◌∷◌, ◌++◌, Some}
use Rattle.rf_syntax.specs.declared.range.Range.{Range}
use Rattle.rf_syntax.specs.declared.range.Upper.{Upper}
use Rattle.rf_syntax.specs.declared.range.Upper.TheVariants.{Absent, Star, Number}
use Rattle.rf_syntax.specs.declared.range.Mult.{Mult}
use Rattle.rf_syntax.specs.Parts.{optional}
use Rattle.rf_syntax.specs.Piece.{Piece, terminal}
use Rattle.rf_syntax.specs.Terminals.{number, dot_dot, star, left_bracket, right_bracket}

-- [ ".." ( NUMBER | "*" ) ]
abbrev pub upper_pieces : Upper → List Piece
upper_pieces Absent = []
upper_pieces Star = terminal dot_dot ∷ terminal star ∷ []
upper_pieces (Number n) = terminal dot_dot ∷ terminal (number n) ∷ []

-- range = NUMBER [ ".." ( NUMBER | "*" ) ]
abbrev pub range_pieces : Range → List Piece
range_pieces r = record { kind = number r.lo; at = Some r.at } ∷ upper_pieces r.hi

-- mult = "[" [ range ] "]"
abbrev pub mult_pieces : Mult → List Piece
mult_pieces m =
    terminal left_bracket ∷ optional range_pieces m.range ++ terminal right_bracket ∷ []

use Rattle.std.specs.Prelude.{Bool, List, [], ◌∷◌, ◌++◌, Option}
use Rattle.std.specs.List.{flat_map}
use Rattle.rf_syntax.specs.declared.class.Feature.{Feature}
use Rattle.rf_syntax.specs.declared.class.FeatureWord.{FeatureWord}
use Rattle.rf_syntax.specs.declared.class.FeatureWord.TheVariants.{Contains, Container, Refers}
use Rattle.rf_syntax.specs.declared.class.MultPlace.{MultPlace}
use Rattle.rf_syntax.specs.declared.class.MultPlace.TheVariants.{Absent, AfterType, AfterName}
use Rattle.rf_syntax.specs.declared.non_empty.NonEmpty.{NonEmpty}
use Rattle.rf_syntax.specs.declared.name.Name.{Name}
use Rattle.rf_syntax.specs.Name.{name_pieces}
use Rattle.rf_syntax.specs.Parts.{dot_or_braces, flagged, optional, optional_after, separated}
use Rattle.rf_syntax.specs.Piece.{Piece, terminal}
use Rattle.rf_syntax.specs.Range.{mult_pieces}
use Rattle.rf_syntax.specs.Terminals.{abstract_word, class_word, contains_word, container_word, extends_word, opposite_word, refers_word, comma, semicolon}

-- "contains" | "container" | "refers"
abbrev pub feature_word_pieces : FeatureWord → List Piece
feature_word_pieces Contains = terminal contains_word ∷ []
feature_word_pieces Container = terminal container_word ∷ []
feature_word_pieces Refers = terminal refers_word ∷ []

-- [ mult ] NAME | NAME mult
abbrev pub with_mult_pieces : MultPlace → Name → List Piece
with_mult_pieces Absent name = name_pieces name
with_mult_pieces (AfterType mult) name = mult_pieces mult ++ name_pieces name
with_mult_pieces (AfterName mult) name = name_pieces name ++ mult_pieces mult

-- feature = [ "contains" | "container" | "refers" ] NAME ( [ mult ] NAME | NAME mult )
--           [ "opposite" NAME ] [ ";" ]
abbrev pub feature_pieces : Feature → List Piece
feature_pieces f =
    optional feature_word_pieces f.word
    ++ name_pieces f.target
    ++ with_mult_pieces f.mult f.name
    ++ optional_after opposite_word name_pieces f.opposite
    ++ flagged f.semicolon semicolon

-- "." | "{" { feature } "}"
abbrev pub body_pieces : Option (List Feature) → List Piece
body_pieces features = dot_or_braces (flat_map feature_pieces) features

-- [ "abstract" ] "class" NAME [ "extends" NAME { "," NAME } ] ( "." | "{" { feature } "}" )
abbrev pub class_pieces :
    Bool → Name → Option (NonEmpty Name) → Option (List Feature) → List Piece
class_pieces is_abstract name supers body =
    flagged is_abstract abstract_word
    ++ terminal class_word ∷ name_pieces name
    ++ optional_after extends_word (separated comma name_pieces) supers
    ++ body_pieces body

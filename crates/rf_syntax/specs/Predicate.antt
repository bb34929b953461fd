use Rattle.std.specs.Prelude.{List, [], ◌∷◌, ◌++◌}
use Rattle.rf_syntax.specs.declared.non_empty.NonEmpty.{NonEmpty}
use Rattle.rf_syntax.specs.declared.name.Name.{Name}
use Rattle.rf_syntax.specs.declared.predicate.BodyLiteral.{BodyLiteral}
use Rattle.rf_syntax.specs.declared.predicate.BodyLiteral.TheVariants.{Call, Same, Differ}
use Rattle.rf_syntax.specs.declared.predicate.Param.{Param}
use Rattle.rf_syntax.specs.declared.predicate.PredicateWord.{PredicateWord}
use Rattle.rf_syntax.specs.declared.predicate.PredicateWord.TheVariants.{Pred, Error, ErrorPred}
use Rattle.rf_syntax.specs.Name.{name_pieces, symbol_pieces}
use Rattle.rf_syntax.specs.Parts.{flagged, optional, separated, separated_or_none, in_parens}
use Rattle.rf_syntax.specs.Piece.{Piece, terminal}
use Rattle.rf_syntax.specs.Terminals.{error_word, pred_word, bang, bang_equal, comma, dot, equal_equal, iff, plus, semicolon}

-- "pred" | "error" [ "pred" ]
abbrev pub start_pieces : PredicateWord → List Piece
start_pieces Pred = terminal pred_word ∷ []
start_pieces Error = terminal error_word ∷ []
start_pieces ErrorPred = terminal error_word ∷ terminal pred_word ∷ []

-- param = [ NAME ] NAME
abbrev pub param_pieces : Param → List Piece
param_pieces p = optional name_pieces p.class ++ name_pieces p.name

-- literal = [ "!" ] symbol [ "+" ] "(" [ NAME { "," NAME } ] ")"
--         | NAME ( "==" | "!=" ) NAME
abbrev pub literal_pieces : BodyLiteral → List Piece
literal_pieces (Call negated symbol closure args) =
    flagged negated bang
    ++ symbol_pieces symbol
    ++ flagged closure plus
    ++ in_parens (separated_or_none comma name_pieces args)
literal_pieces (Same left right) = name_pieces left ++ terminal equal_equal ∷ name_pieces right
literal_pieces (Differ left right) = name_pieces left ++ terminal bang_equal ∷ name_pieces right

-- clause = literal { "," literal }
abbrev pub clause_pieces : NonEmpty BodyLiteral → List Piece
clause_pieces literals = separated comma literal_pieces literals

-- ( "pred" | "error" [ "pred" ] ) NAME "(" [ param { "," param } ] ")"
-- "<->" clause { ";" clause } "."
abbrev pub predicate_pieces :
    PredicateWord → Name → List Param → NonEmpty (NonEmpty BodyLiteral) → List Piece
predicate_pieces start name params clauses =
    start_pieces start
    ++ name_pieces name
    ++ in_parens (separated_or_none comma param_pieces params)
    ++ terminal iff ∷ separated semicolon clause_pieces clauses
    ++ terminal dot ∷ []

use Rattle.std.specs.Prelude.{List, [], ◌∷◌, ◌++◌}
use Rattle.rf_syntax.specs.declared.assertion.Arg.{Arg}
use Rattle.rf_syntax.specs.declared.assertion.Arg.TheVariants.{Star, Symbol}
use Rattle.rf_syntax.specs.declared.assertion.AssertionForm.{AssertionForm}
use Rattle.rf_syntax.specs.declared.assertion.AssertionForm.TheVariants.{Plain, Not, Maybe, Valued}
use Rattle.rf_syntax.specs.declared.assertion.AtomForm.{AtomForm}
use Rattle.rf_syntax.specs.declared.assertion.ValueWord.{ValueWord}
use Rattle.rf_syntax.specs.declared.assertion.ValueWord.TheVariants.{True, False, Unknown, Error}
use Rattle.rf_syntax.specs.Name.{symbol_pieces}
use Rattle.rf_syntax.specs.Parts.{separated_or_none, in_parens}
use Rattle.rf_syntax.specs.Piece.{Piece, terminal}
use Rattle.rf_syntax.specs.Terminals.{error_word, false_word, true_word, unknown_word, bang, colon, comma, question, star}

-- arg = "*" | symbol
abbrev pub arg_pieces : Arg → List Piece
arg_pieces Star = terminal star ∷ []
arg_pieces (Symbol symbol) = symbol_pieces symbol

-- atom = symbol "(" [ arg { "," arg } ] ")"
abbrev pub atom_pieces : AtomForm → List Piece
atom_pieces a = symbol_pieces a.symbol ++ in_parens (separated_or_none comma arg_pieces a.args)

-- value = "true" | "false" | "unknown" | "error"
abbrev pub value_pieces : ValueWord → List Piece
value_pieces True = terminal true_word ∷ []
value_pieces False = terminal false_word ∷ []
value_pieces Unknown = terminal unknown_word ∷ []
value_pieces Error = terminal error_word ∷ []

-- assertion = [ "!" | "?" ] atom | atom ":" value
abbrev pub assertion_pieces : AssertionForm → List Piece
assertion_pieces (Plain atom) = atom_pieces atom
assertion_pieces (Not atom) = terminal bang ∷ atom_pieces atom
assertion_pieces (Maybe atom) = terminal question ∷ atom_pieces atom
assertion_pieces (Valued atom value) = atom_pieces atom ++ terminal colon ∷ value_pieces value

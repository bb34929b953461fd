-- What is parsed of enumerations.
use Rattle.std.proofs.Common.{◌≡◌, ◌⊎◌, List, Option, Some, inl, inr, refl}
use Rattle.rf_lexer.specs.declared.token.Kind.{Kind}
use Rattle.rf_syntax.specs.declared.name.Name.{Name}
use Rattle.rf_syntax.specs.declared.statement.Statement.{Statement}
use Rattle.rf_syntax.specs.declared.statement.Statement.TheVariants.{Class, Enum, Predicate, Declare, Multi, Atoms, Scope, Assert}
use Rattle.rf_syntax.specs.Enum.{enum_body_pieces}
use Rattle.rf_syntax.specs.Name.{name_pieces}
use Rattle.rf_syntax.specs.Piece.{Piece}
use Rattle.rf_syntax.specs.Statement.{statement_pieces}
use Rattle.rf_syntax.specs.Terminals.{enum_word}
use Rattle.rf_parser.specs.Private.Parts.{single}
use Rattle.rf_parser.specs.Private.Parsing.{never}
use Rattle.rf_parser.proofs.Beginnings.{Begun, word_case}
use Rattle.rf_parser.proofs.Wholes.{IsCase, pair}

abbrev pub enum_rest : Name × Option (List Name) → List Piece
enum_rest p = pair name_pieces enum_body_pieces p

pub enum_case : (next : Option Kind) → next ≡ Some enum_word → IsCase (pair (single enum_word) enum_rest) never statement_pieces never next (λ p. Enum p.1.0 p.1.1)
enum_case = word_case enum_word enum_rest (λ p. Enum p.0 p.1) (λ p. refl) cases where
  cases : (s : Statement) → ((p : Name × Option (List Name)) × (Enum p.0 p.1 ≡ s)) ⊎ (Begun s (Some enum_word) → ⊥)
  cases (Class a n s b) = inr (λ h. elim h [ inl x ↦ cc | inr x ↦ cc ])
  cases (Enum n ls) = inl ((n, ls), refl)
  cases (Predicate a n p c) = inr (λ h. elim h [ inl x ↦ cc | inr x ↦ cc ])
  cases (Declare names) = inr (λ h. cc)
  cases (Multi items) = inr (λ h. cc)
  cases (Atoms names) = inr (λ h. cc)
  cases (Scope bounds) = inr (λ h. cc)
  cases (Assert b a) = inr (λ h. h.no_enum refl)

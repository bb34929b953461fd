-- What is parsed of lists of objects and bounds.
use Rattle.std.proofs.Common.{◌≡◌, ◌⊎◌, Bool, true, false, List, [], Option, None, Some, inl, inr, refl, sym, ◌∙◌}
use Rattle.rf_lexer.specs.declared.token.Kind.{Kind}
use Rattle.rf_syntax.specs.declared.non_empty.NonEmpty.{NonEmpty}
use Rattle.rf_syntax.specs.declared.name.Name.{Name}
use Rattle.rf_syntax.specs.declared.range.Range.{Range}
use Rattle.rf_syntax.specs.declared.range.Upper.TheVariants.{Absent}
use Rattle.rf_syntax.specs.declared.statement.Bound.{Bound}
use Rattle.rf_syntax.specs.declared.statement.Item.{Item}
use Rattle.rf_syntax.specs.declared.statement.Statement.{Statement}
use Rattle.rf_syntax.specs.declared.statement.Statement.TheVariants.{Class, Enum, Predicate, Declare, Multi, Atoms, Scope, Assert}
use Rattle.rf_syntax.specs.Name.{name_pieces}
use Rattle.rf_syntax.specs.Parts.{optional_after, separated}
use Rattle.rf_syntax.specs.Piece.{Piece}
use Rattle.rf_syntax.specs.Range.{range_pieces}
use Rattle.rf_syntax.specs.Statement.{bound_pieces, item_pieces, statement_pieces}
use Rattle.rf_syntax.specs.Terminals.{atom_word, comma, declare_word, dot, dot_dot, equal, multi_word, plus_equal, scope_word}
use Rattle.rf_parser.specs.Private.Parts.{bound_mark, list_to_dot, single}
use Rattle.rf_parser.specs.Private.Parsing.{either, never}
use Rattle.rf_parser.proofs.Beginnings.{Begun, word_case}
use Rattle.rf_parser.proofs.NameParts.{a_name}
use Rattle.rf_parser.proofs.Wholes.{Apart, Begins, IsCase, pair}

pub a_range : Range
a_range = record { at = 0; lo = 0; hi = Absent }

pub item_case : (next : Option Kind)
    → IsCase (pair name_pieces (optional_after equal range_pieces)) (either equal (either dot_dot never)) item_pieces (either equal (either dot_dot never)) next (λ p. record { name = p.0; range = p.1 })
item_case next = record { same = λ p. refl; ends = λ more h. h; cases = λ i. inl ((i.name, i.range), refl) }

pub plus_equal_case : (next : Option Kind) → next ≡ Some plus_equal → IsCase (single plus_equal) never bound_mark never next (λ u. true)
plus_equal_case next e = record { same = λ u. refl; ends = λ more h. h; cases = cases } where
  cases : (b : Bool) → ((u : Unit {0}) × (true ≡ b)) ⊎ Begins bound_mark never next b
  cases true = inl (tt, refl)
  cases false = inr (λ more h f. let both : Some equal ≡ Some plus_equal = f ∙ e in cc)

pub equal_case : (next : Option Kind) → (next ≡ Some plus_equal → ⊥) → IsCase (single equal) never bound_mark never next (λ u. false)
equal_case next none = record { same = λ u. refl; ends = λ more h. h; cases = cases } where
  cases : (b : Bool) → ((u : Unit {0}) × (false ≡ b)) ⊎ Begins bound_mark never next b
  cases true = inr (λ more h e. none (sym e))
  cases false = inl (tt, refl)

pub bound_case : (next : Option Kind)
    → IsCase (pair name_pieces (pair bound_mark range_pieces)) (either dot_dot never) bound_pieces (either dot_dot never) next (λ p. record { name = p.0; only_new = p.1.0; range = p.1.1 })
bound_case next = record { same = λ p. refl; ends = λ more h. h; cases = λ b. inl ((b.name, (b.only_new, b.range)), refl) }

module _ {T : Type 0} (pieces : T → List Piece) (longer : Kind → Type 0) where
  pub list_case : (next : Option Kind) → IsCase (pair (separated comma pieces) (single dot)) never (list_to_dot pieces) never next (λ p. p.0)
  list_case next = record { same = λ p. refl; ends = λ more h. h; cases = λ ps. inl ((ps, tt), refl) }

  pub dot_after : (longer dot → ⊥) → Apart (either comma longer) (single dot) never
  dot_after none b more h = λ e. elim e [ inl same ↦ cc | inr other ↦ none other ]

pub declare_case : (next : Option Kind) → next ≡ Some declare_word → IsCase (pair (single declare_word) (list_to_dot name_pieces)) never statement_pieces never next (λ p. Declare p.1)
declare_case = word_case declare_word (list_to_dot name_pieces) Declare (λ names. refl) cases where
  cases : (s : Statement) → ((names : NonEmpty Name) × (Declare names ≡ s)) ⊎ (Begun s (Some declare_word) → ⊥)
  cases (Class a n s b) = inr (λ h. elim h [ inl x ↦ cc | inr x ↦ cc ])
  cases (Enum n ls) = inr (λ h. cc)
  cases (Predicate a n p c) = inr (λ h. elim h [ inl x ↦ cc | inr x ↦ cc ])
  cases (Declare names) = inl (names, refl)
  cases (Multi items) = inr (λ h. cc)
  cases (Atoms names) = inr (λ h. cc)
  cases (Scope bounds) = inr (λ h. cc)
  cases (Assert b a) = inr (λ h. h.no_declare refl)

pub multi_case : (next : Option Kind) → next ≡ Some multi_word → IsCase (pair (single multi_word) (list_to_dot item_pieces)) never statement_pieces never next (λ p. Multi p.1)
multi_case = word_case multi_word (list_to_dot item_pieces) Multi (λ items. refl) cases where
  cases : (s : Statement) → ((items : NonEmpty Item) × (Multi items ≡ s)) ⊎ (Begun s (Some multi_word) → ⊥)
  cases (Class a n s b) = inr (λ h. elim h [ inl x ↦ cc | inr x ↦ cc ])
  cases (Enum n ls) = inr (λ h. cc)
  cases (Predicate a n p c) = inr (λ h. elim h [ inl x ↦ cc | inr x ↦ cc ])
  cases (Declare names) = inr (λ h. cc)
  cases (Multi items) = inl (items, refl)
  cases (Atoms names) = inr (λ h. cc)
  cases (Scope bounds) = inr (λ h. cc)
  cases (Assert b a) = inr (λ h. h.no_multi refl)

pub atoms_case : (next : Option Kind) → next ≡ Some atom_word → IsCase (pair (single atom_word) (list_to_dot name_pieces)) never statement_pieces never next (λ p. Atoms p.1)
atoms_case = word_case atom_word (list_to_dot name_pieces) Atoms (λ names. refl) cases where
  cases : (s : Statement) → ((names : NonEmpty Name) × (Atoms names ≡ s)) ⊎ (Begun s (Some atom_word) → ⊥)
  cases (Class a n s b) = inr (λ h. elim h [ inl x ↦ cc | inr x ↦ cc ])
  cases (Enum n ls) = inr (λ h. cc)
  cases (Predicate a n p c) = inr (λ h. elim h [ inl x ↦ cc | inr x ↦ cc ])
  cases (Declare names) = inr (λ h. cc)
  cases (Multi items) = inr (λ h. cc)
  cases (Atoms names) = inl (names, refl)
  cases (Scope bounds) = inr (λ h. cc)
  cases (Assert b a) = inr (λ h. h.no_atoms refl)

pub scope_case : (next : Option Kind) → next ≡ Some scope_word → IsCase (pair (single scope_word) (list_to_dot bound_pieces)) never statement_pieces never next (λ p. Scope p.1)
scope_case = word_case scope_word (list_to_dot bound_pieces) Scope (λ bounds. refl) cases where
  cases : (s : Statement) → ((bounds : NonEmpty Bound) × (Scope bounds ≡ s)) ⊎ (Begun s (Some scope_word) → ⊥)
  cases (Class a n s b) = inr (λ h. elim h [ inl x ↦ cc | inr x ↦ cc ])
  cases (Enum n ls) = inr (λ h. cc)
  cases (Predicate a n p c) = inr (λ h. elim h [ inl x ↦ cc | inr x ↦ cc ])
  cases (Declare names) = inr (λ h. cc)
  cases (Multi items) = inr (λ h. cc)
  cases (Atoms names) = inr (λ h. cc)
  cases (Scope bounds) = inl (bounds, refl)
  cases (Assert b a) = inr (λ h. h.no_scope refl)

-- lists of one part, where any will do
pub a_list : {T : Type 0} → T → NonEmpty T
a_list part = record { first = part; rest = [] }

pub an_item : Item
an_item = record { name = a_name; range = None }

pub a_bound : Bound
a_bound = record { name = a_name; only_new = false; range = a_range }

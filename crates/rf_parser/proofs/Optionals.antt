-- What is parsed of a part that may be left out.
use Rattle.std.proofs.Common.{◌≡◌, ◌⊎◌, ℕ, List, [], ◌∷◌, Option, None, Some, inl, inr, refl, sym, ◌∙◌}
use Rattle.rf_lexer.specs.declared.token.Kind.{Kind}
use Rattle.rf_lexer.specs.declared.token.Token.{Token}
use Rattle.rf_syntax.specs.Parts.{optional_after}
use Rattle.rf_syntax.specs.Piece.{Piece}
use Rattle.rf_parser.specs.Fit.{token_kinds}
use Rattle.rf_parser.specs.Private.Parts.{single}
use Rattle.rf_parser.specs.Private.Parsing.{Halts, Parses, IsStuck, StartsWith, either, first_kind}
use Rattle.rf_parser.proofs.Singles.{not_halted, starts_first, starts_parsed}
use Rattle.rf_parser.proofs.Wholes.{Begins, IsCase, pair, parsed_as, parsed_less, parsed_next, parsed_nothing, stuck_as, stuck_less, stuck_next}

-- where more kinds are avoided, fewer are
pub halts_less : (kind : Kind) (others : Kind → Type 0) (more : List Kind) → Halts (either kind others) more → Halts others more
halts_less kind others [] h = tt
halts_less kind others (k ∷ ks) h = λ other. h (inr other)

module _ {T : Type 0} (pieces : T → List Piece) (longer : Kind → Type 0) (kind : Kind) where
  some_cases : (next : Option Kind) → next ≡ Some kind → (o : Option T)
      → ((p : Unit {0} × T) × (Some p.1 ≡ o)) ⊎ Begins (optional_after kind pieces) (either kind longer) next o
  some_cases next e None = inr (λ more halts f. not_halted kind longer more halts (f ∙ e))
  some_cases next e (Some part) = inl ((tt, part), refl)

  some_case : {ts rest : List Token} → StartsWith ts kind rest
      → IsCase (pair (single kind) pieces) (either kind longer) (optional_after kind pieces) (either kind longer) (first_kind (token_kinds ts)) (λ p. Some p.1)
  some_case s = record { same = λ p. refl; ends = λ more h. h; cases = some_cases _ (starts_first s) }

  none_cases : (next : Option Kind) → (next ≡ Some kind → ⊥) → (o : Option T) → (o ≡ None) ⊎ Begins (optional_after kind pieces) (either kind longer) next o
  none_cases next no_kind None = inl refl
  none_cases next no_kind (Some part) = inr (λ more halts e. no_kind (sym e))

module _ {T : Type 0} {pieces : T → List Piece} {longer : Kind → Type 0} {kind : Kind} where
  pub after_parsed : {ts rest rest' : List Token} {part : T} → StartsWith ts kind rest → Parses pieces longer rest part rest'
      → Parses (optional_after kind pieces) (either kind longer) ts (Some part) rest'
  after_parsed s h = parsed_as (some_case pieces longer kind s) (parsed_next (starts_parsed s) (parsed_less (halts_less kind longer) h))

  pub after_stuck : {ts rest : List Token} {left : ℕ} → StartsWith ts kind rest → IsStuck pieces longer rest left
      → IsStuck (optional_after kind pieces) (either kind longer) ts left
  after_stuck s h = stuck_as (some_case pieces longer kind s) (stuck_next (starts_parsed s) (stuck_less (halts_less kind longer) h))

  pub after_none : {ts : List Token} → (first_kind (token_kinds ts) ≡ Some kind → ⊥) → Parses (optional_after kind pieces) (either kind longer) ts None ts
  after_none no_kind = parsed_nothing None refl (none_cases pieces longer kind _ no_kind)

-- Identifiers and the test for them.
use Rattle.std.proofs.Common.{◌≡◌, ◌↔◌, ◌∙◌, ℕ, Bool, true, false, not, ◌&&◌, IsTrue, List, [], ◌∷◌, refl, sym, ap, inl, inr, arith}
use Rattle.std.specs.Prelude.{◌==◌}
use Rattle.std.specs.List.{list_all}
use Rattle.std.specs.Str.{NonePass}
use Rattle.std.proofs.lemmas.Bool.{and_parts, and_from, or_cases, eqb-true, not_from_true}
use Rattle.unicode_ident.specs.Ident.{is_xid_start, is_xid_continue}
use Rattle.unicode_ident.proofs.IdentLemmas.{is_xid_continue-ascii, is_xid_start-is_xid_continue}
use Rattle.rf_text.specs.Identifier.{EachPasses, IsIdentifier, is_identifier, starts_identifier}

pub EachPasses-from_list_all : (p : ℕ → Bool) (cs : List ℕ) → list_all p cs ≡ true → EachPasses p cs
EachPasses-from_list_all p [] e = tt
EachPasses-from_list_all p (c ∷ cs) e =
    let parts = and_parts (p c) (list_all p cs) e in
    (parts.0, EachPasses-from_list_all p cs parts.1)

pub list_all-from_EachPasses : (p : ℕ → Bool) (cs : List ℕ) → EachPasses p cs → list_all p cs ≡ true
list_all-from_EachPasses p [] each = refl
list_all-from_EachPasses p (c ∷ cs) each = and_from (p c) (list_all p cs) each.0 (list_all-from_EachPasses p cs each.1)

-- the test tells identifiers
pub identifier_told : (cs : List ℕ) → IsTrue (is_identifier cs) ↔ IsIdentifier cs
identifier_told [] = (λ e. let none : false ≡ true = e in cc, λ i. absurd i)
identifier_told (c ∷ cs) = (
  λ e. (let parts = and_parts (starts_identifier c) (list_all is_xid_continue cs) e in
      (parts.0, EachPasses-from_list_all is_xid_continue cs parts.1)),
  λ i. and_from (starts_identifier c) (list_all is_xid_continue cs) i.0 (list_all-from_EachPasses is_xid_continue cs i.1),
)

-- the test, by the first character and the others
pub is_identifier-begun :
    (cs rest : List ℕ) (first : ℕ) (continues : Bool) → cs ≡ first ∷ rest → true ≡ starts_identifier first →
    continues ≡ list_all is_xid_continue rest → continues ≡ is_identifier cs
is_identifier-begun cs rest first continues e starts more =
    more ∙ ap (λ b. b && list_all is_xid_continue rest) starts ∙ ap is_identifier (sym e)

-- what may begin an identifier may continue one
starts-continues : (c : ℕ) → starts_identifier c ≡ true → is_xid_continue c ≡ true
starts-continues c starts = elim (or_cases (is_xid_start c) (c == 95) starts) [
  | inl start ↦ is_xid_start-is_xid_continue c start
  | inr underscore ↦ ap is_xid_continue (eqb-true c 95 underscore) ∙ is_xid_continue-ascii 95 (omega arith)
]

-- each character of an identifier may continue one
pub identifier_continues : (cs : List ℕ) → is_identifier cs ≡ true → list_all is_xid_continue cs ≡ true
identifier_continues [] e = let none : false ≡ true = e in cc
identifier_continues (c ∷ cs) e =
    let parts = and_parts (starts_identifier c) (list_all is_xid_continue cs) e in
    and_from (is_xid_continue c) (list_all is_xid_continue cs) (starts-continues c parts.0) parts.1

-- and none fails to
pub none_fails : (cs : List ℕ) → list_all is_xid_continue cs ≡ true → NonePass (λ c. not (is_xid_continue c)) cs
none_fails [] e = tt
none_fails (c ∷ cs) e =
    let parts = and_parts (is_xid_continue c) (list_all is_xid_continue cs) e in
    (not_from_true (is_xid_continue c) parts.0, none_fails cs parts.1)

-- Truths of one of a number of elements at least, found one by one.
use Rattle.std.proofs.Common.{◌≡◌, ℕ, zero, suc, ◌+◌, ◌≤◌, true, ◌==◌, refl, sym, ap, ap₂, subst, inl, inr, arith, rules}
use Rattle.std.proofs.lemmas.Bool.{eq-eqb}
use Rattle.rf_finite.specs.Range.{some_below}
use Rattle.rf_finite.proofs.Range.{below_or_last, some_below-from_one}
use Rattle.rf_values.specs.Truth.{disjunction}
use Rattle.rf_values.specs.declared.truth.Truth.{Truth}
use Rattle.rf_values.specs.declared.truth.Truth.TheVariants.{True, False, Unknown, Error}
use Rattle.rf_evaluate.specs.Elements.{count, element_at, includes}
use Rattle.rf_evaluate.specs.Evaluating.{some_truth}
use Rattle.rf_evaluate.specs.declared.elements.Elements.{Elements}
use Rattle.rf_evaluate.proofs.Candidates.{number-of}

pub disjunction-assoc : (a b c : Truth) → disjunction (disjunction a b) c ≡ disjunction a (disjunction b c)
disjunction-assoc a b c = search rules

pub disjunction-False : (a : Truth) → disjunction a False ≡ a
disjunction-False True = refl
disjunction-False False = refl
disjunction-False Unknown = refl
disjunction-False Error = refl

-- where it holds of one of the first, it does of one
pub some_truth-found : (m n : ℕ) (f : ℕ → Truth) → m ≤ n → some_truth m f ≡ True → some_truth n f ≡ True
some_truth-found m zero f l e = let none : m ≡ 0 = omega arith in subst (λ (j : ℕ). some_truth j f ≡ True) none e
some_truth-found m (suc n) f l e = elim (below_or_last (suc n) m (omega arith)) [
  | inl b ↦ (let before : m ≤ n = omega arith in ap (λ (a : Truth). disjunction a (f n)) (some_truth-found m n f before e))
  | inr q ↦ subst (λ (j : ℕ). some_truth j f ≡ True) q e
]

-- with one more
pub some_truth-next : (n : ℕ) (f : ℕ → Truth) (found value : Truth) → found ≡ some_truth n f → value ≡ f n → disjunction found value ≡ some_truth (n + 1) f
some_truth-next n f found value h e = let more : n + 1 ≡ suc n = omega arith in subst (λ (j : ℕ). disjunction found value ≡ some_truth j f) (sym more) (ap₂ disjunction h e)

-- an element that is among some stands at a number
pub included-element_at : (elements : Elements) (x : ℕ) → includes elements x ≡ true → some_below (count elements) (λ i. element_at elements i == x) ≡ true
included-element_at elements x h =
    let one = number-of elements x h in
    some_below-from_one (count elements) (λ i. element_at elements i == x) one.0 one.1 (eq-eqb (element_at elements one.0) x one.2)

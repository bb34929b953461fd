-- Truths, and the parts of what is known of an edge.
use Rattle.std.proofs.Common.{◌≡◌, ℕ, Bool, true, false, if◌then◌else◌, [], ◌∷◌, ◌⊎◌, refl, sym, ◌∙◌, inl, inr, rules, true≢false}
use Rattle.std.proofs.lemmas.Bool.{and_parts}
use Rattle.rf_values.specs.Truth.{keeps, may, merge, must}
use Rattle.rf_values.specs.declared.truth.Truth.{Truth}
use Rattle.rf_values.specs.declared.truth.Truth.TheVariants.{True, False, Unknown, Error}
use Rattle.rf_values.proofs.Kept.{keeps-merge}
use Rattle.rf_problem.specs.Asserted.{asserted}
use Rattle.rf_problem.specs.Parts.{reference_at}
use Rattle.rf_problem.specs.declared.problem.Problem.{Problem}
use Rattle.rf_problem.specs.declared.symbol.Symbol.TheVariants.{Reference}
use Rattle.rf_state.specs.State.{State, by_classes, fact, object_of, told, told_back}
use Rattle.rf_rules.specs.Effects.{is_same_truth}
use Rattle.rf_rules.specs.Words.{is_error, is_unknown}

pub same_truth : (v w : Truth) → is_same_truth v w ≡ true → v ≡ w
same_truth v w h = search rules

pub true_itself : (v : Truth) → v ≡ True → is_same_truth v True ≡ true
true_itself v e = rw e refl

-- what is neither unknown nor error is true or false
pub true_or_false : (v : Truth) → is_unknown v ≡ false → is_error v ≡ false → (v ≡ True) ⊎ (v ≡ False)
true_or_false True u e = inl refl
true_or_false False u e = inr refl
true_or_false Unknown u e = absurd (true≢false u)
true_or_false Error u e = absurd (true≢false e)

-- false changes what lets an edge be there
pub false_changes : (v : Truth) → keeps v true ≡ true → is_same_truth (merge v False) v ≡ false
false_changes True k = refl
false_changes Unknown k = refl
false_changes False k = absurd (true≢false (sym k))
false_changes Error k = absurd (true≢false (sym k))

-- a value that is settled, is so of a fact, and isn't merged into an error: the fact keeps what was asserted
pub merged_kept : (v w : Truth) (holds : Bool) → (may w ≡ true → must w ≡ true) → keeps w holds ≡ true → is_error (merge v w) ≡ false
    → keeps v holds ≡ true
merged_kept v Error holds settled kept none = absurd (true≢false (sym kept))
merged_kept v Unknown holds settled kept none = absurd (true≢false (sym (settled refl)))
merged_kept Unknown w holds settled kept none = refl
merged_kept True True holds settled kept none = kept
merged_kept True False holds settled kept none = absurd (true≢false none)
merged_kept False True holds settled kept none = absurd (true≢false none)
merged_kept False False holds settled kept none = kept
merged_kept Error True holds settled kept none = absurd (true≢false none)
merged_kept Error False holds settled kept none = absurd (true≢false none)

keeps_parts : (v w : Truth) (b : Bool) → keeps (merge v w) b ≡ true → (keeps v b ≡ true) × (keeps w b ≡ true)
keeps_parts v w b k = and_parts (keeps v b) (keeps w b) (sym (keeps-merge v w b) ∙ k)

-- what keeps a fact keeps what is asserted, what was added and what is known by the classes
pub record KeepsParts (p : Problem) (s : State) (r a b : ℕ) (e : Bool) : Type 0 where
  pub said : keeps (asserted p (Reference r) ((object_of s a).origin ∷ (object_of s b).origin ∷ [])) e ≡ true
  pub added : keeps (s.added r a b) e ≡ true
  pub classes : keeps (by_classes p s r a b) e ≡ true

pub fact_parts : (p : Problem) (s : State) (r a b : ℕ) (e : Bool) → keeps (fact p s r a b) e ≡ true → KeepsParts p s r a b e
fact_parts p s r a b e h =
    let one = keeps_parts (told p s r a b) (merge (told_back p s (reference_at p.references r).opposite a b) (by_classes p s r a b)) e h in
    let two = keeps_parts (told_back p s (reference_at p.references r).opposite a b) (by_classes p s r a b) e one.1 in
    let three = keeps_parts (asserted p (Reference r) ((object_of s a).origin ∷ (object_of s b).origin ∷ [])) (s.added r a b) e one.0 in
    record { said = three.0; added = three.1; classes = two.1 }

-- an edge that may be there by the classes
pub fits_classes : (b : Bool) → keeps (if b then Unknown else False) true ≡ true → b ≡ true
fits_classes true k = refl
fits_classes false k = absurd (true≢false (sym k))

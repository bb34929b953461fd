-- What merging a truth into what was added of an edge changes. What was added is a part of what is known of the edge, so where
-- nothing is known nothing was added, and where the edge may be there it wasn't said that it isn't.
use Rattle.std.proofs.Common.{◌≡◌, ℕ, true, false, [], ◌∷◌, refl, inl, inr, rules}
use Rattle.std.proofs.lemmas.Bool.{cases_Bool}
use Rattle.rf_values.specs.Truth as truth
use Rattle.rf_values.specs.Truth.{merge}
use Rattle.rf_values.specs.declared.truth.Truth.{Truth}
use Rattle.rf_values.specs.declared.truth.Truth.TheVariants.{False}
use Rattle.rf_problem.specs.Asserted.{asserted}
use Rattle.rf_problem.specs.Parts.{reference_at}
use Rattle.rf_problem.specs.declared.problem.Problem.{Problem}
use Rattle.rf_problem.specs.declared.symbol.Symbol.TheVariants.{Reference}
use Rattle.rf_state.specs.State.{State, by_classes, fact, object_of, told_back}
use Rattle.rf_rules.specs.Effects.{Instance, has_effect, is_ready, is_same_truth}
use Rattle.rf_rules.specs.Words.{is_unknown, may}
use Rattle.rf_rules.specs.declared.effect.Effect.TheVariants.{Merge}

known_changes : (added asserted rest v : Truth) → is_unknown (merge (merge asserted added) rest) ≡ true → is_unknown v ≡ false → is_same_truth (merge added v) added ≡ false
known_changes added asserted rest v e d = search rules

false_changes : (added asserted rest : Truth) → truth.may (merge (merge asserted added) rest) ≡ true → is_same_truth (merge added False) added ≡ false
false_changes added asserted rest e = search rules

module _ (p : Problem) (s : State) (r a b : ℕ) where
  -- what is known of an edge beside what was added and what is asserted
  abbrev rest : Truth
  rest = merge (told_back p s (reference_at p.references r).opposite a b) (by_classes p s r a b)

  abbrev said : Truth
  said = asserted p (Reference r) ((object_of s a).origin ∷ (object_of s b).origin ∷ [])

  -- where nothing is known of an edge, each truth but unknown changes what was added
  pub changes-where_unknown : (v : Truth) → is_unknown (fact p s r a b) ≡ true → is_unknown v ≡ false → has_effect s (Merge r a b v) ≡ true
  changes-where_unknown v e d = let same = known_changes (s.added r a b) said rest v e d in rw same refl

  -- where it may be there, false does
  pub changes-where_may : may p s r a b ≡ true → has_effect s (Merge r a b False) ≡ true
  changes-where_may e = let same = false_changes (s.added r a b) said rest e in rw same refl

-- a rule whose condition says that its effect changes the state fires where the condition holds
pub is_ready-by_condition : (s : State) (i : Instance) → (i.holds ≡ true → has_effect s i.effect ≡ true) → i.holds ≡ is_ready s i
is_ready-by_condition s i changes = elim (cases_Bool i.holds) [
  | inl e ↦ (let change = changes e in rw (e, change) refl)
  | inr e ↦ rw e refl
]

-- Of the ends of edges that aren't listed it is known that no edge leads there.
use Rattle.std.proofs.Common.{◌≡◌, ◌∙◌, ℕ, ◌<◌, Bool, true, false, ◌&&◌, if◌then◌else◌, Option, None, Some, List, [], ◌∷◌, length, refl, ap, ap₂, rules}
use Rattle.rf_values.specs.Truth.{merge}
use Rattle.rf_values.specs.declared.truth.Truth.{Truth}
use Rattle.rf_values.specs.declared.truth.Truth.TheVariants.{False, Unknown}
use Rattle.rf_problem.specs.Asserted.{asserted}
use Rattle.rf_problem.specs.Parts.{reference_at}
use Rattle.rf_problem.specs.declared.problem.Problem.{Problem}
use Rattle.rf_problem.specs.declared.symbol.Symbol.TheVariants.{Reference}
use Rattle.rf_state.specs.Added.{Added, added_at}
use Rattle.rf_state.specs.Lists.{is_listed}
use Rattle.rf_state.specs.NamedEnds.{IsIndex, asserted_back, asserted_both}
use Rattle.rf_state.specs.State.{State, by_classes, fact, object_of, some_candidate, told, told_back}
use Rattle.rf_state.specs.declared.named_ends.NamedEnds.{NamedEnds}
use Rattle.rf_state.specs.declared.object.Object.{Object}
use Rattle.rf_state.proofs.AssertedLemmas.{asserted-first, asserted-second}
use Rattle.rf_state.proofs.FactLemmas.{assoc}

merge-unknown : (t : Truth) → merge t Unknown ≡ t
merge-unknown t = search rules

-- what is false by assertions stays so by the classes of both ends
false-by_classes : (b : Bool) → merge False (if b then Unknown else False) ≡ False
false-by_classes true = refl
false-by_classes false = refl

module _ (p : Problem) (s : State) (r a b : ℕ) (from : (object_of s a).origin ≡ a) (to : (object_of s b).origin ≡ b) where
  told-asserted : (q x y : ℕ) → (object_of s x).origin ≡ x → (object_of s y).origin ≡ y → s.added q x y ≡ Unknown → told p s q x y ≡ asserted p (Reference q) (x ∷ y ∷ [])
  told-asserted q x y e f none =
      ap₂ merge (ap₂ (λ (m n : ℕ). asserted p (Reference q) (m ∷ n ∷ [])) e f) none ∙ merge-unknown (asserted p (Reference q) (x ∷ y ∷ []))

  back-asserted : (o : Option ℕ) → ((q : ℕ) → o ≡ Some q → s.added q b a ≡ Unknown) → told_back p s o a b ≡ asserted_back p o a b
  back-asserted None none = refl
  back-asserted (Some q) none = told-asserted q b a to from (none q refl)

  -- an edge of which nothing was added is known not to be there where that is asserted
  pub fact-asserted : s.added r a b ≡ Unknown → ((q : ℕ) → (reference_at p.references r).opposite ≡ Some q → s.added q b a ≡ Unknown)
      → asserted_both p r a b ≡ False → fact p s r a b ≡ False
  fact-asserted none none_back is =
      let there : told p s r a b ≡ asserted p (Reference r) (a ∷ b ∷ []) = told-asserted r a b from to none in
      let back = back-asserted (reference_at p.references r).opposite none_back in
      ap₂ (λ (x y : Truth). merge x (merge y (by_classes p s r a b))) there back
      ∙ assoc (asserted p (Reference r) (a ∷ b ∷ [])) (asserted_back p (reference_at p.references r).opposite a b) (by_classes p s r a b)
      ∙ ap (λ (x : Truth). merge x (by_classes p s r a b)) is
      ∙ false-by_classes (some_candidate p s a (reference_at p.references r).source && some_candidate p s b (reference_at p.references r).target)

module _ (p : Problem) (objects : List Object) (added : Added) (named : NamedEnds) (index : IsIndex p objects added named) (r a b : ℕ)
    (there : a < length objects) (too : b < length objects) where
  abbrev s : State
  s = record { objects = objects; added = added_at added }

  back-same : (m n : ℕ) (o : Option ℕ) → ((q : ℕ) → o ≡ Some q → asserted p (Reference q) (b ∷ a ∷ []) ≡ asserted p (Reference q) (n ∷ m ∷ []))
      → asserted_back p o a b ≡ asserted_back p o m n
  back-same m n None same = refl
  back-same m n (Some q) same = same q refl

  -- no edge leads to what isn't listed for a, nor for `*`, where none leads to what no assertion names
  pub fact-unlisted_from : is_listed named.from r (Some a) b ≡ false → is_listed named.from r None b ≡ false
      → asserted_both p r a (length p.objects) ≡ False → fact p s r a b ≡ False
  fact-unlisted_from off any is =
      let own = index.stated.from r (Some a) b off in
      let free = index.stated.from r None b any in
      let none = index.added_too.from r a b off in
      let same : asserted_both p r a b ≡ asserted_both p r a (length p.objects) =
      ap₂ merge (asserted-second p r a b own.there free.there)
      (back-same a (length p.objects) (reference_at p.references r).opposite (λ q e. asserted-first p q b a (own.back q e) (free.back q e))) in
      fact-asserted p s r a b (index.origins a there) (index.origins b too) none.there none.back (same ∙ is)

  pub fact-unlisted_into : is_listed named.into r (Some b) a ≡ false → is_listed named.into r None a ≡ false
      → asserted_both p r (length p.objects) b ≡ False → fact p s r a b ≡ False
  fact-unlisted_into off any is =
      let own = index.stated.into r (Some b) a off in
      let free = index.stated.into r None a any in
      let none = index.added_too.into r a b off in
      let same : asserted_both p r a b ≡ asserted_both p r (length p.objects) b =
      ap₂ merge (asserted-first p r a b own.there free.there)
      (back-same (length p.objects) b (reference_at p.references r).opposite (λ q e. asserted-second p q b a (own.back q e) (free.back q e))) in
      fact-asserted p s r a b (index.origins a there) (index.origins b too) none.there none.back (same ∙ is)

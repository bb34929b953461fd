-- What a change leaves as it was.
use Rattle.std.proofs.Common.{◌≡◌, ◌≢◌, ℕ, ◌<◌, Bool, true, false, ◌==◌, ◌&&◌, ◌||◌, if◌then◌else◌, Option, Some, length, refl, sym, ap, ◌∙◌, subst, inl, inr, arith, true≢false}
use Rattle.std.proofs.lemmas.Bool.{and_from, both_ways, cases_eq, eq-eqb, eqb-true, false_from_ne_true, or_parts}
use Rattle.std.proofs.lemmas.List.{length-set}
use Rattle.rf_values.specs.Truth.{merge}
use Rattle.rf_values.specs.declared.count.Count.{Count}
use Rattle.rf_values.specs.declared.class_set.ClassSet.{ClassSet}
use Rattle.rf_values.specs.declared.truth.Truth.{Truth}
use Rattle.rf_problem.specs.Parts.{reference_at}
use Rattle.rf_problem.specs.declared.problem.Problem.{Problem}
use Rattle.rf_state.specs.State.{State, fact, is_at, kept_to, merged_at, narrowed, object_of}
use Rattle.rf_state.proofs.EditLemmas.{keeping, narrowing}
use Rattle.rf_state.proofs.FactLemmas.{fact-off, numbers-from_is_at}
use Rattle.rf_pending.specs.Changes.{FitsChange, IsChange, is_fresh}
use Rattle.rf_pending.specs.Touching.{IsSameRow, is_at_object, is_back, is_near, stands}
use Rattle.rf_pending.specs.declared.change.Change.{Change}
use Rattle.rf_pending.specs.declared.change.Change.TheVariants.{Fact, Count as CountOf, Candidates, Fresh}
use Rattle.rf_pending.specs.declared.standing.Standing.{Standing}

module _ (p : Problem) (s : State) where
  there-narrowed : (o : ℕ) (count : Count) → o < length (narrowed s o count).objects → o < length s.objects
  there-narrowed o count l = subst (λ (n : ℕ). o < n) (length-set s.objects o _) l

  there-kept : (o : ℕ) (set : ClassSet) → o < length (kept_to s o set).objects → o < length s.objects
  there-kept o set l = subst (λ (n : ℕ). o < n) (length-set s.objects o _) l

  -- as many objects, but where one is fresh
  pub same_many : (t : State) (change : Change) → IsChange change s t → is_fresh change ≡ false → length t.objects ≡ length s.objects
  same_many t (Fact q x y) h old = ap (λ (u : State). length u.objects) h.1
  same_many t (CountOf o) h old = ap (λ (u : State). length u.objects) h.1 ∙ length-set s.objects o _
  same_many t (Candidates o) h old = ap (λ (u : State). length u.objects) h.1 ∙ length-set s.objects o _
  same_many t (Fresh o) h old = absurd (true≢false old)

  -- each object that isn't the changed one
  pub same_object : (t : State) (change : Change) → IsChange change s t → FitsChange p t change → (o : ℕ) → is_at_object change o ≡ false
      → object_of t o ≡ object_of s o
  same_object t (Fact q x y) h fits o far = ap (λ (u : State). object_of u o) h.1
  same_object t (CountOf x) h fits o far =
      let l = there-narrowed x h.0 (subst (λ (u : State). x < length u.objects) h.1 fits) in
      ap (λ (u : State). object_of u o) h.1 ∙ (narrowing p s x h.0 l).same.others o (λ e. both_ways (x == o) far (eq-eqb x o (sym e)))
  same_object t (Candidates x) h fits o far =
      let l = there-kept x h.0 (subst (λ (u : State). x < length u.objects) h.1 fits) in
      ap (λ (u : State). object_of u o) h.1 ∙ (keeping p s x h.0 l).same.others o (λ e. both_ways (x == o) far (eq-eqb x o (sym e)))
  same_object t (Fresh x) h fits o far = absurd (true≢false far)

  -- the row of a reference and an object, after a merge into another row
  back-off : (opposite : Option ℕ) (b r a : ℕ) → is_back opposite b r a ≡ false → opposite ≡ Some r → a ≡ b → ⊥
  back-off opposite b r a far e at =
      let same : is_back (Some r) b r a ≡ false = subst (λ (o : Option ℕ). is_back o b r a ≡ false) e far in
      both_ways (r == r && b == a) same (and_from (r == r) (b == a) (eq-eqb r r refl) (eq-eqb b a (sym at)))

  merged_row : (standing : Standing) (q x y : ℕ) (v : Truth) (r a : ℕ) → is_near p (merged_at s q x y v) standing (Fact q x y) r a ≡ false
      → IsSameRow p standing r a s (merged_at s q x y v)
  merged_row standing q x y v r a far =
      let parts = or_parts (q == r && x == a) (is_back (reference_at p.references q).opposite y r a) far in
      record {
        many = refl;
        from = refl;
        facts = λ b. fact-off p s q x y v r a b
            (λ e. both_ways (q == r && x == a) parts.0 (and_from (q == r) (x == a) (eq-eqb q r (sym e.0)) (eq-eqb x a (sym e.1))))
            (λ e. back-off (reference_at p.references q).opposite y r a parts.1 e.0 e.1);
        added = λ b. (
            let off : is_at q x y r a b ≡ false = false_from_ne_true (is_at q x y r a b) (λ t.
            let at = numbers-from_is_at q x y r a b t in
            both_ways (q == r && x == a) parts.0 (and_from (q == r) (x == a) (eq-eqb q r (sym at.0)) (eq-eqb x a (sym at.1)))) in
            ap (λ i. if i then merge (s.added r a b) v else s.added r a b) off
            );
        ends = λ b h. refl;
      }

  -- and after a count was narrowed at which the row doesn't look
  narrowed_row : (standing : Standing) (o : ℕ) (count : Count) (r a : ℕ) → o < length s.objects → is_near p (narrowed s o count) standing (CountOf o) r a ≡ false
      → IsSameRow p standing r a s (narrowed s o count)
  narrowed_row standing o count r a l far =
      let is = narrowing p s o count l in
      let parts = or_parts (o == a) (stands standing (fact p (narrowed s o count) r a o)) far in
      record {
        many = is.same.many;
        from = is.same.others a (λ e. both_ways (o == a) parts.0 (eq-eqb o a (sym e)));
        facts = λ b. is.facts r a b;
        added = λ b. is.same.added r a b;
        ends = λ b h. elim (cases_eq b o) [
          | inl e ↦ absurd (
              let here : stands standing (fact p s r a o) ≡ true = subst (λ (x : ℕ). stands standing (fact p s r a x) ≡ true) e h in
              both_ways (stands standing (fact p (narrowed s o count) r a o)) parts.1 (ap (stands standing) (is.facts r a o) ∙ here))
          | inr ne ↦ is.same.others b ne
        ];
      }

  -- a row that a change can't concern is as it was
  pub same_row : (t : State) (standing : Standing) (change : Change) → IsChange change s t → FitsChange p t change → (r a : ℕ)
      → is_near p t standing change r a ≡ false → IsSameRow p standing r a s t
  same_row t standing (Fact q x y) h fits r a far =
      subst (λ (u : State). is_near p u standing (Fact q x y) r a ≡ false → IsSameRow p standing r a s u) (sym h.1) (merged_row standing q x y h.0 r a) far
  same_row t standing (CountOf o) h fits r a far =
      let l = there-narrowed o h.0 (subst (λ (u : State). o < length u.objects) h.1 fits) in
      subst (λ (u : State). is_near p u standing (CountOf o) r a ≡ false → IsSameRow p standing r a s u) (sym h.1) (narrowed_row standing o h.0 r a l) far
  same_row t standing (Candidates o) h fits r a far = absurd (true≢false far)
  same_row t standing (Fresh o) h fits r a far = absurd (true≢false far)

-- What candidates that an object lost leave as it was.
use Rattle.std.proofs.Common.{◌≡◌, ◌≢◌, ℕ, ◌<◌, Bool, true, false, ◌==◌, ◌&&◌, not, if◌then◌else◌, Option, None, Some, length, refl, sym, ap, ap₂, ◌∙◌, subst, inl, inr}
use Rattle.std.specs.Cmp.{nat_cmp_total}
use Rattle.std.specs.FinSet.{contains, contains-intersection, intersection}
use Rattle.std.proofs.lemmas.Bool.{and_from, and_parts, both_ways, cases_eq, eq-eqb, or_parts}
use Rattle.rf_finite.specs.Range.{some_below}
use Rattle.rf_finite.proofs.Range.{some_below-more_pass}
use Rattle.rf_values.specs.Truth.{merge}
use Rattle.rf_values.specs.declared.class_set.ClassSet.{ClassSet}
use Rattle.rf_values.specs.declared.truth.Truth.TheVariants.{False, Unknown}
use Rattle.rf_problem.specs.Classes.{is_below}
use Rattle.rf_problem.specs.Parts.{reference_at}
use Rattle.rf_problem.specs.declared.problem.Problem.{Problem}
use Rattle.rf_state.specs.State.{State, by_classes, fact, kept_to, object_of, some_candidate, told, told_back}
use Rattle.rf_state.proofs.EditLemmas.{keeping}
use Rattle.rf_rules.specs.Words.{target}
use Rattle.rf_pending.specs.declared.standing.Standing.{Standing}
use Rattle.rf_prop_mult.specs.Kinds.{is_near}
use Rattle.rf_prop_mult.proofs.LocalLemmas.{IsSameForCounts}

positive_off : (x : Bool) → not x ≡ false → x ≡ true
positive_off true e = refl
positive_off false e = sym e

module _ (p : Problem) (s : State) (o : ℕ) (set : ClassSet) (there : o < length s.objects) where
  abbrev after : State
  after = kept_to s o set

  -- where some candidate that is left is below a class, some was
  some-before : (k : ℕ) → some_candidate p after o k ≡ true → some_candidate p s o k ≡ true
  some-before k e =
      let own = (object_of s o).candidates in
      let is : (object_of after o).candidates ≡ intersection own set = ap (λ x. x.candidates) (keeping p s o set there).object in
      some_below-more_pass (length p.classes) (λ c. contains (object_of after o).candidates c && is_below p.classes c k)
      (λ c. contains own c && is_below p.classes c k)
      (λ c l h.
      let parts = and_parts (contains (object_of after o).candidates c) (is_below p.classes c k) h in
      let both : (contains own c && contains set c) ≡ true =
      sym (contains-intersection nat_cmp_total own set c) ∙ (sym (ap (λ (x : ClassSet). contains x c) is) ∙ parts.0) in
      and_from (contains own c) (is_below p.classes c k) (and_parts (contains own c) (contains set c) both).0 parts.1)
      e

  told_back-same : (opposite : Option ℕ) (a b : ℕ) → told_back p after opposite a b ≡ told_back p s opposite a b
  told_back-same None a b = refl
  told_back-same (Some q) a b = (keeping p s o set there).told_facts q b a

  -- a row of another object, where some candidate that is left is below the target
  pub kept_row : (standing : Standing) (r a : ℕ) → is_near p after o r a ≡ false → IsSameForCounts p standing r a s after
  kept_row standing r a far =
      let is = keeping p s o set there in
      let parts = or_parts (o == a) (not (some_candidate p after o (target p r))) far in
      let other : a ≢ o = λ e. both_ways (o == a) parts.0 (eq-eqb o a (sym e)) in
      let left : some_candidate p after o (target p r) ≡ true = positive_off _ parts.1 in
      let from : object_of after a ≡ object_of s a = is.same.others a other in
      let opposite = (reference_at p.references r).opposite in
      let begin : State → Bool = λ u. some_candidate p u a (reference_at p.references r).source in
      let begins : begin after ≡ begin s = some-same a from (reference_at p.references r).source in
      let classes : by_classes p after r a o ≡ by_classes p s r a o =
      ap₂ (λ m n. if m && n then Unknown else False) begins (left ∙ sym (some-before (target p r) left)) in
      let known : fact p after r a o ≡ fact p s r a o =
      ap (λ v. merge v (merge (told_back p after opposite a o) (by_classes p after r a o))) (is.told_facts r a o)
      ∙ (ap (λ v. merge (told p s r a o) (merge v (by_classes p after r a o))) (told_back-same opposite a o)
      ∙ ap (λ v. merge (told p s r a o) (merge (told_back p s opposite a o) v)) classes) in
      record {
        many = is.same.many;
        from = from;
        facts = λ b. elim (cases_eq b o) [
          | inl e ↦ subst (λ (x : ℕ). fact p after r a x ≡ fact p s r a x) (sym e) known
          | inr ne ↦ is.facts r a b other ne
        ];
        added = λ b. is.same.added r a b;
        ends = λ b h. elim (cases_eq b o) [
          | inl e ↦ subst (λ (x : ℕ). (object_of after x).count ≡ (object_of s x).count) (sym e) (ap (λ x. x.count) is.object)
          | inr ne ↦ ap (λ x. x.count) (is.same.others b ne)
        ];
      }
    where
      some-same : (a : ℕ) → object_of after a ≡ object_of s a → (k : ℕ) → some_candidate p after a k ≡ some_candidate p s a k
      some-same a e k = ap (λ x. some_of x.candidates k) e
        where
          some_of : ClassSet → ℕ → Bool
          some_of x k = some_below (length p.classes) (λ c. contains x c && is_below p.classes c k)

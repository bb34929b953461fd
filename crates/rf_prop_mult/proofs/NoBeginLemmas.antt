-- Without the candidates or the node that it asks of the object of a row, no rule of the row fires.
use Rattle.std.proofs.Common.{◌≡◌, ℕ, Bool, true, false, ◌&&◌, if◌then◌else◌, nat_le, not, None, is_some, length, refl, sym, ap, ◌∙◌, inl, inr, true≢false}
use Rattle.std.specs.Bool.{then_some}
use Rattle.std.specs.Cmp.{nat_cmp_total}
use Rattle.std.specs.FinSet.{contains, contains-difference, difference, nat_cmp-IsAntisymmetric, same_set}
use Rattle.std.proofs.lemmas.Bool.{and_parts, cases_Bool, ltb-true}
use Rattle.rf_finite.proofs.Range.{each-from_some_below}
use Rattle.rf_values.specs.Truth as truth
use Rattle.rf_values.specs.WordLemmas.{contains-members_below}
use Rattle.rf_values.specs.declared.truth.Truth.{Truth}
use Rattle.rf_values.specs.declared.truth.Truth.TheVariants.{True, False, Unknown, Error}
use Rattle.rf_values.proofs.Marked.{equal_is_same}
use Rattle.rf_problem.specs.Classes.{is_below}
use Rattle.rf_problem.specs.Parts.{reference_at}
use Rattle.rf_problem.specs.declared.problem.Problem.{Problem}
use Rattle.rf_state.specs.State.{State, all_candidates, fact, object_of, some_candidate, told, told_back}
use Rattle.rf_rules.specs.Degrees.{may_sum_beside}
use Rattle.rf_rules.specs.Effects.{has_effect}
use Rattle.rf_rules.specs.Rules.{instance_of}
use Rattle.rf_rules.specs.Words.{classes_below, is_unknown, lo, max, may, source}
use Rattle.rf_rules.specs.declared.effect.Effect.TheVariants.{Lose}
use Rattle.rf_rules.specs.declared.rule.Rule.TheVariants.{Full, Need, NeedCount, Room, TypeLow}
use Rattle.rf_prop_mult.specs.Kinds.{can_begin, first_in_row}
use Rattle.rf_prop_mult.specs.declared.kinds.Kind.{Kind}
use Rattle.rf_prop_mult.specs.declared.kinds.Kind.TheVariants as kind
use Rattle.rf_prop_mult.proofs.NoEndLemmas.{row-none, unready}

-- what is false by one of three is not unknown
known-by_last : (v w : Truth) → is_unknown (truth.merge v (truth.merge w False)) ≡ false
known-by_last True True = refl
known-by_last True False = refl
known-by_last True Unknown = refl
known-by_last True Error = refl
known-by_last False True = refl
known-by_last False False = refl
known-by_last False Unknown = refl
known-by_last False Error = refl
known-by_last Unknown True = refl
known-by_last Unknown False = refl
known-by_last Unknown Unknown = refl
known-by_last Unknown Error = refl
known-by_last Error True = refl
known-by_last Error False = refl
known-by_last Error Unknown = refl
known-by_last Error Error = refl

last_off : (x y : Bool) → y ≡ false → (x && y) ≡ false
last_off true y e = e
last_off false y e = refl

first_off : (x y : Bool) → x ≡ false → (x && y) ≡ false
first_off x y e = rw e refl

both_off : (x y v w : Bool) → (x && y) ≡ false → ((y && (x && v)) && w) ≡ false
both_off x false v w e = refl
both_off false true v w e = refl
both_off true true v w e = absurd (true≢false e)

module _ (p : Problem) (s : State) (r a : ℕ) where
  -- where no candidate is below the source, no edge is unknown
  known : some_candidate p s a (source p r) ≡ false → (b : ℕ) → is_unknown (fact p s r a b) ≡ false
  known e b =
      ap (λ x. is_unknown (truth.merge (told p s r a b) (truth.merge (told_back p s (reference_at p.references r).opposite a b)
      (if x && some_candidate p s b (reference_at p.references r).target then Unknown else False)))) e
      ∙ known-by_last (told p s r a b) (told_back p s (reference_at p.references r).opposite a b)

  -- and there is none to lose
  none_lost : some_candidate p s a (source p r) ≡ false → has_effect s (Lose a (classes_below p (source p r))) ≡ false
  none_lost e =
      let own = (object_of s a).candidates in
      let below = classes_below p (source p r) in
      let left : difference own below ≡ own = same_set nat_cmp_total nat_cmp-IsAntisymmetric (difference own below) own (λ c.
      contains-difference nat_cmp_total own below c ∙ elim (cases_Bool (contains below c)) [
        | inl h ↦ (
            let parts = and_parts _ _ (sym (contains-members_below (length p.classes) (λ x. is_below p.classes x (source p r)) c) ∙ h) in
            let off = each-from_some_below (length p.classes) (λ x. contains own x && is_below p.classes x (source p r)) e c
            (ltb-true c (length p.classes) parts.0) in
            let out : contains own c ≡ false = own_off (contains own c) (is_below p.classes c (source p r)) off parts.1 in
            rw (h, out) refl
            )
        | inr h ↦ kept (contains own c) (contains below c) h
      ]) in
      ap not ((equal_is_same (difference own below) own).1 left)
    where
      own_off : (x y : Bool) → (x && y) ≡ false → y ≡ true → x ≡ false
      own_off false y e h = refl
      own_off true y e h = absurd (true≢false (sym h ∙ e))

      kept : (x y : Bool) → y ≡ false → (x && not y) ≡ x
      kept true y e = ap not e
      kept false y e = refl

  pub no_begin : (kind : Kind) → can_begin p s kind r a ≡ false → first_in_row p s kind r a ≡ None
  no_begin kind.Full e = row-none p s (Full r a) (λ b. first_off _ _ (last_off _ _ (known e b)))
  no_begin kind.Room e = row-none p s (Room r a) (λ b. first_off _ _ (last_off (is_some (max p r)) _ (last_off _ _ e)))
  no_begin kind.Need e = row-none p s (Need r a) (λ b. first_off _ _ (first_off _ _ e))
  no_begin kind.NeedCount e = row-none p s (NeedCount r a) (λ b.
      both_off (nat_le 1 (lo s a)) (all_candidates p s a (source p r)) (may p s r a b && is_some (may_sum_beside p s r a b))
      (has_effect s (instance_of p s (NeedCount r a b)).effect) e)
  no_begin kind.TypeLow e = ap (λ x. then_some x (TypeLow r a)) (unready p s (TypeLow r a) (last_off _ _ (none_lost e)))

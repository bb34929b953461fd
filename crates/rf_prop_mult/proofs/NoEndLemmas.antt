-- Without the end of the range that it needs, no rule of a row fires.
use Rattle.std.proofs.Common.{◌≡◌, ℕ, ◌-◌, Bool, true, false, ◌&&◌, nat_le, nat_lt, Option, None, Some, is_some, unwrap_or, length, refl, sym, ap, ◌∙◌, inl, inr, true≢false, arith}
use Rattle.std.specs.Bool.{then_some}
use Rattle.std.specs.Option.{option_map}
use Rattle.std.proofs.lemmas.Bool.{cases_lt, le-leb, le-ltb, lt-ltb}
use Rattle.rf_finite.proofs.Range.{first_below-none}
use Rattle.rf_problem.specs.Parts.{reference_at}
use Rattle.rf_problem.specs.declared.problem.Problem.{Problem}
use Rattle.rf_state.specs.State.{State, all_candidates, fact}
use Rattle.rf_rules.specs.Degrees.{may_sum, may_sum_beside, must_sum}
use Rattle.rf_rules.specs.Effects.{has_effect, is_ready}
use Rattle.rf_rules.specs.Rules.{fires, fits, instance_of}
use Rattle.rf_rules.specs.Words.{is_less, is_one, is_unknown, lo, max, min, reaches, source}
use Rattle.rf_rules.specs.declared.effect.Effect.TheVariants.{Merge}
use Rattle.rf_rules.specs.declared.rule.Rule.{Rule}
use Rattle.rf_values.specs.declared.truth.Truth.TheVariants.{True}
use Rattle.rf_rules.specs.declared.rule.Rule.TheVariants.{Full, Need, NeedCount, Room, TypeLow}
use Rattle.rf_pending.specs.Rows.{least_of_row}
use Rattle.rf_prop_mult.specs.Kinds.{first_in_row, has_end}
use Rattle.rf_prop_mult.specs.declared.kinds.Kind.{Kind}
use Rattle.rf_prop_mult.specs.declared.kinds.Kind.TheVariants as kind

and_false : (x : Bool) → (x && false) ≡ false
and_false true = refl
and_false false = refl

fourth_false : (c o u y : Bool) → ((c && (o && (u && false))) && y) ≡ false
fourth_false false o u y = refl
fourth_false true false u y = refl
fourth_false true true false y = refl
fourth_false true true true y = refl

reaches-none : (n : ℕ) (end : Option ℕ) → is_some end ≡ false → reaches n end ≡ false
reaches-none n None e = refl
reaches-none n (Some x) e = absurd (true≢false e)

zero-from_test : (n : ℕ) → nat_lt 0 n ≡ false → n ≡ 0
zero-from_test n e = elim (cases_lt 0 n) [
  | inl l ↦ absurd (true≢false (sym (lt-ltb 0 n l) ∙ e))
  | inr m ↦ omega arith
]

is_less-zero : (end : Option ℕ) → is_less end 0 ≡ false
is_less-zero None = refl
is_less-zero (Some x) = let least : nat_le 0 x ≡ true = le-leb 0 x (omega arith) in rw least refl

module _ (p : Problem) (s : State) where
  -- what asks for something that doesn't hold doesn't fire
  pub unready : (rule : Rule) → is_ready s (instance_of p s rule) ≡ false → fires p s rule ≡ false
  unready rule e = ap (λ x. fits p s rule && x) e ∙ and_false (fits p s rule)

  pub row-none : (rule_at : ℕ → Rule) → ((b : ℕ) → is_ready s (instance_of p s (rule_at b)) ≡ false) → least_of_row p s rule_at ≡ None
  row-none rule_at off = ap (option_map rule_at) (first_below-none (length s.objects) (λ b. then_some (fires p s (rule_at b)) b)
      (λ b l. ap (λ x. then_some x b) (unready (rule_at b) (off b))))

  pub no_end : (kind : Kind) (r a : ℕ) → has_end kind (reference_at p.references r).range ≡ false → first_in_row p s kind r a ≡ None
  no_end kind.Full r a e = row-none (Full r a) (λ b. let off = reaches-none (must_sum p s r a) (max p r) e in rw off refl)
  no_end kind.Room r a e = row-none (Room r a) (λ b. rw e refl)
  no_end kind.Need r a e = row-none (Need r a) (λ b.
      let candidates = all_candidates p s a (source p r) in
      let unknown = is_unknown (fact p s r a b) in
      let off : is_less (may_sum_beside p s r a b) (min p r) ≡ false =
      ap (is_less (may_sum_beside p s r a b)) (zero-from_test (min p r) e) ∙ is_less-zero (may_sum_beside p s r a b) in
      ap (λ l. (candidates && (is_one s b && (unknown && l))) && has_effect s (Merge r a b True)) off
      ∙ fourth_false candidates (is_one s b) unknown (has_effect s (Merge r a b True)))
  no_end kind.NeedCount r a e = row-none (NeedCount r a) (λ b.
      let zero = zero-from_test (min p r) e in
      let others = unwrap_or (may_sum_beside p s r a b) 0 in
      let off : nat_lt (lo s b) (min p r - others) ≡ false = le-ltb (lo s b) (min p r - others) (omega (arith, zero)) in
      ap (λ x. (instance_of p s (NeedCount r a b)).holds && x) off ∙ and_false (instance_of p s (NeedCount r a b)).holds)
  no_end kind.TypeLow r a e = (
      let off : is_less (may_sum p s r a) (min p r) ≡ false =
      ap (is_less (may_sum p s r a)) (zero-from_test (min p r) e) ∙ is_less-zero (may_sum p s r a) in
      ap (λ x. then_some x (TypeLow r a)) (unready (TypeLow r a) (rw off refl)))

-- Where a row or an object is as it was, the same rule fires in it.
use Rattle.std.proofs.Common.{◌≡◌, ℕ, ◌<◌, Bool, true, false, ◌==◌, ◌&&◌, not, nat_le, nat_lt, Option, length, refl, sym, ap, ap₂, ◌∙◌, subst, true≢false}
use Rattle.std.specs.Bool.{then_some}
use Rattle.std.specs.FinSet.{contains, intersection}
use Rattle.std.specs.Option.{option_map, option_or}
use Rattle.rf_finite.specs.Ends.{within}
use Rattle.rf_finite.specs.Range.{first_below, some_below}
use Rattle.rf_values.specs.ClassSet.{is_same_set}
use Rattle.rf_values.specs.Truth as truth
use Rattle.rf_values.specs.declared.class_set.ClassSet.{ClassSet}
use Rattle.rf_values.specs.declared.truth.Truth.{Truth}
use Rattle.rf_values.specs.declared.truth.Truth.TheVariants.{True, False, Unknown, Error}
use Rattle.rf_problem.specs.declared.problem.Problem.{Problem}
use Rattle.rf_state.specs.State.{State, fact, object_of}
use Rattle.rf_state.specs.declared.object.Object.{Object}
use Rattle.rf_rules.specs.Rows.{clash_at}
use Rattle.rf_rules.specs.Rules.{fires}
use Rattle.rf_rules.specs.Words.{classes_below, is_error, source, target}
use Rattle.rf_rules.specs.declared.rule.End.{End}
use Rattle.rf_rules.specs.declared.rule.End.TheVariants.{Target, Source}
use Rattle.rf_rules.specs.declared.rule.Rule.{Rule}
use Rattle.rf_rules.specs.declared.rule.Rule.TheVariants.{Clash, Empty, NoClass, Src, Tgt}
use Rattle.rf_pending.specs.Rows.{firing, least_of_row}
use Rattle.rf_pending.specs.Touching.{IsSameRow}
use Rattle.rf_pending.specs.declared.standing.Standing.TheVariants.{Must}
use Rattle.rf_pending.proofs.LeastLemmas.{local, row-same}
use Rattle.rf_pending.proofs.RowLemmas.{first_below-same}
use Rattle.rf_prop_type.specs.Pending.{first_clash}

-- an edge that needn't be there is in no error
no_error : (v : Truth) → truth.must v ≡ false → is_error v ≡ false
no_error True e = absurd (true≢false e)
no_error False e = refl
no_error Unknown e = refl
no_error Error e = absurd (true≢false e)

-- whether these are there
abbrev are_there : Problem → ℕ → ℕ → ℕ → ℕ → Bool
are_there p n r a b = nat_lt r (length p.references) && (nat_lt a n && nat_lt b n)

abbrev loses : Object → ClassSet → Bool
loses x set = not (is_same_set (intersection x.candidates set) x.candidates)

module _ (p : Problem) (s t : State) where
  pub empty-same : (o : ℕ) → length t.objects ≡ length s.objects → object_of t o ≡ object_of s o → firing p t (Empty o) ≡ firing p s (Empty o)
  empty-same o many same = ap (λ i. then_some i (Empty o)) (ap₂ (λ (n : ℕ) (x : Object). nat_lt o n && (not (within x.count.lo x.count.hi) && true)) many same)

  module _ (r a : ℕ) (h : IsSameRow p Must r a s t) where
    pub src-same : least_of_row p t (Src r a) ≡ least_of_row p s (Src r a)
    src-same = row-same p s t (Src r a) h.many (λ b. local p s t Must r a h
        (λ n known added from to. are_there p n r a b && ((truth.must known && nat_le 1 to.count.lo) && loses from (classes_below p (source p r))))
        (λ n known added from to other e. ap (λ m. are_there p n r a b && ((m && nat_le 1 to.count.lo) && loses from (classes_below p (source p r)))) e
        ∙ sym (ap (λ m. are_there p n r a b && ((m && nat_le 1 other.count.lo) && loses from (classes_below p (source p r)))) e)) b)

    pub tgt-same : least_of_row p t (Tgt r a) ≡ least_of_row p s (Tgt r a)
    tgt-same = row-same p s t (Tgt r a) h.many (λ b. local p s t Must r a h
        (λ n known added from to. are_there p n r a b && ((truth.must known && nat_le 1 from.count.lo) && loses to (classes_below p (target p r))))
        (λ n known added from to other e. ap (λ m. are_there p n r a b && ((m && nat_le 1 from.count.lo) && loses to (classes_below p (target p r)))) e
        ∙ sym (ap (λ m. are_there p n r a b && ((m && nat_le 1 from.count.lo) && loses other (classes_below p (target p r)))) e)) b)

    clash_target-same : (b : ℕ) → fires p t (Clash r a b Target) ≡ fires p s (Clash r a b Target)
    clash_target-same b = local p s t Must r a h
        (λ n known added from to. are_there p n r a b && ((is_error known && nat_le 1 from.count.lo) && within 1 to.count.hi))
        (λ n known added from to other e. ap (λ m. are_there p n r a b && ((m && nat_le 1 from.count.lo) && within 1 to.count.hi)) (no_error known e)
        ∙ sym (ap (λ m. are_there p n r a b && ((m && nat_le 1 from.count.lo) && within 1 other.count.hi)) (no_error known e))) b

    clash_source-same : (b : ℕ) → fires p t (Clash r a b Source) ≡ fires p s (Clash r a b Source)
    clash_source-same b = local p s t Must r a h
        (λ n known added from to. are_there p n r a b && ((is_error known && nat_le 1 to.count.lo) && within 1 from.count.hi))
        (λ n known added from to other e. ap (λ m. are_there p n r a b && ((m && nat_le 1 to.count.lo) && within 1 from.count.hi)) (no_error known e)
        ∙ sym (ap (λ m. are_there p n r a b && ((m && nat_le 1 other.count.lo) && within 1 from.count.hi)) (no_error known e))) b

    pub clash-same : first_clash p t r a ≡ first_clash p s r a
    clash-same = ap (option_map (λ (at : ℕ × End). Clash r a at.0 at.1))
        (ap (λ n. first_below n (clash_at p t r a)) h.many
        ∙ first_below-same (length s.objects) (clash_at p t r a) (clash_at p s r a)
        (λ b l. ap₂ (λ i j. option_or (then_some i (b, Target)) (then_some j (b, Source))) (clash_target-same b) (clash_source-same b)))

  pub no_class-same : (o : ℕ) → length t.objects ≡ length s.objects → object_of t o ≡ object_of s o → firing p t (NoClass o) ≡ firing p s (NoClass o)
  no_class-same o many same = ap (λ i. then_some i (NoClass o))
      (ap₂ (λ (n : ℕ) (x : Object). nat_lt o n && (not (some_below (length p.classes) (λ c. contains x.candidates c && true)) && within 1 x.count.hi)) many same)

-- Where what these rules ask of a row is as it was, the same rule fires in it.
use Rattle.std.proofs.Common.{◌≡◌, ℕ, suc, ◌-◌, Bool, true, false, ◌==◌, ◌&&◌, ◌||◌, not, nat_le, nat_lt, Option, is_some, unwrap_or, length, refl, sym, ap, ◌∙◌, inl, inr, true≢false}
use Rattle.std.specs.Bool.{then_some}
use Rattle.std.specs.FinSet.{contains, difference}
use Rattle.std.proofs.lemmas.Bool.{and_parts, cases_Bool}
use Rattle.rf_finite.specs.Ends.{ends_below, within}
use Rattle.rf_finite.specs.Range.{all_below, sum_below}
use Rattle.rf_finite.proofs.Ends.{ends_below-pointwise}
use Rattle.rf_finite.proofs.Range.{sum_below-pointwise}
use Rattle.rf_values.specs.ClassSet.{is_same_set}
use Rattle.rf_values.specs.Count.{is_single}
use Rattle.rf_values.specs.Truth as truth
use Rattle.rf_values.specs.declared.count.Count.{Count}
use Rattle.rf_values.specs.declared.truth.Truth.{Truth}
use Rattle.rf_values.specs.declared.truth.Truth.TheVariants.{True, False, Unknown, Error}
use Rattle.rf_problem.specs.Classes.{is_below}
use Rattle.rf_problem.specs.declared.problem.Problem.{Problem}
use Rattle.rf_state.specs.State.{State, fact, object_of}
use Rattle.rf_state.specs.declared.object.Object.{Object}
use Rattle.rf_rules.specs.Degrees.{may_sum, may_sum_beside, must_sum, must_sum_beside}
use Rattle.rf_rules.specs.Effects.{is_same_truth}
use Rattle.rf_rules.specs.Rules.{fires}
use Rattle.rf_rules.specs.Words.{classes_below, hi, is_less, is_unknown, lo, max, may, min, must, reaches, source}
use Rattle.rf_rules.specs.declared.rule.Rule.TheVariants.{Full, Need, NeedCount, Room, TypeLow}
use Rattle.rf_pending.specs.Rows.{firing, least_of_row}
use Rattle.rf_pending.specs.Touching.{IsSameRow, stands}
use Rattle.rf_pending.specs.declared.standing.Standing.{Standing}
use Rattle.rf_pending.specs.declared.standing.Standing.TheVariants.{May, Must}
use Rattle.rf_pending.proofs.LeastLemmas.{row-same}

-- an edge that can't be there is not unknown
not_unknown : (v : Truth) → truth.may v ≡ false → is_unknown v ≡ false
not_unknown True e = absurd (true≢false e)
not_unknown False e = refl
not_unknown Unknown e = absurd (true≢false e)
not_unknown Error e = refl

-- before what doesn't hold nothing counts
before_false : (x y u l : Bool) → u ≡ false → (x && (u && l)) ≡ (y && (u && l))
before_false true true u l e = refl
before_false true false u l e = ap (λ m. m && l) e
before_false false true u l e = sym (ap (λ m. m && l) e)
before_false false false u l e = refl

never : (x y : Bool) → (x && (y && false)) ≡ false
never true true = refl
never true false = refl
never false y = refl

-- whether these are there
abbrev are_there : Problem → ℕ → ℕ → ℕ → ℕ → Bool
are_there p n r a b = nat_lt r (length p.references) && (nat_lt a n && nat_lt b n)

-- whether each candidate of an object is below a class
abbrev all_below_class : Problem → Object → ℕ → Bool
all_below_class p x k = all_below (length p.classes) (λ c. not (contains x.candidates c) || is_below p.classes c k)

-- whether a truth that is merged in is another
abbrev turns : Truth → Truth → Bool
turns added v = not (is_same_truth (truth.merge added v) added)

-- what these rules ask of row (r, a) is the same in two states: at the other ends they ask for counts alone
pub record IsSameForCounts (p : Problem) (standing : Standing) (r a : ℕ) (s t : State) : Type 0 where
  pub many : length t.objects ≡ length s.objects
  pub from : object_of t a ≡ object_of s a
  pub facts : (b : ℕ) → fact p t r a b ≡ fact p s r a b
  pub added : (b : ℕ) → t.added r a b ≡ s.added r a b
  pub ends : (b : ℕ) → stands standing (fact p s r a b) ≡ true → (object_of t b).count ≡ (object_of s b).count

pub same_row-counts : (p : Problem) (standing : Standing) (r a : ℕ) (s t : State) → IsSameRow p standing r a s t
    → IsSameForCounts p standing r a s t
same_row-counts p standing r a s t h = record {
  many = h.many;
  from = h.from;
  facts = h.facts;
  added = h.added;
  ends = λ b e. ap (λ x. x.count) (h.ends b e);
}

-- what is asked of a row is answered as before, where nothing is asked of an object that doesn't count
local : (p : Problem) (s t : State) (standing : Standing) (r a : ℕ) → IsSameForCounts p standing r a s t
    → (asked : ℕ → Truth → Truth → Object → Count → Bool)
    → ((n : ℕ) (known added : Truth) (from : Object) (to other : Count) → stands standing known ≡ false
    → asked n known added from to ≡ asked n known added from other)
    → (b : ℕ) → asked (length t.objects) (fact p t r a b) (t.added r a b) (object_of t a) (object_of t b).count
    ≡ asked (length s.objects) (fact p s r a b) (s.added r a b) (object_of s a) (object_of s b).count
local p s t standing r a h asked off b =
    let n = length s.objects in
    let known = fact p s r a b in
    ap (λ m. asked m (fact p t r a b) (t.added r a b) (object_of t a) (object_of t b).count) h.many
    ∙ (ap (λ v. asked n v (t.added r a b) (object_of t a) (object_of t b).count) (h.facts b)
    ∙ (ap (λ v. asked n known v (object_of t a) (object_of t b).count) (h.added b)
    ∙ (ap (λ x. asked n known (s.added r a b) x (object_of t b).count) h.from
    ∙ elim (cases_Bool (stands standing known)) [
      | inl e ↦ ap (λ x. asked n known (s.added r a b) (object_of s a) x) (h.ends b e)
      | inr e ↦ off n known (s.added r a b) (object_of s a) (object_of t b).count (object_of s b).count e
    ])))

module _ (p : Problem) (s t : State) (r a : ℕ) where
  module _ (h : IsSameForCounts p Must r a s t) where
    full-same : (b : ℕ) → fires p t (Full r a b) ≡ fires p s (Full r a b)
    full-same b =
        let sum : must_sum p t r a ≡ must_sum p s r a =
        ap (λ n. sum_below n (must p t r a) (lo t)) h.many
        ∙ sum_below-pointwise (length s.objects) (must p t r a) (must p s r a) (lo t) (lo s) (λ c l. ap truth.must (h.facts c))
        (λ c l e. ap (λ x. x.lo) (h.ends c (sym (ap truth.must (h.facts c)) ∙ e))) in
        ap (λ m. are_there p (length t.objects) r a b
        && ((reaches m (max p r) && is_unknown (fact p t r a b)) && turns (t.added r a b) False)) sum
        ∙ local p s t Must r a h
        (λ n known added from to. are_there p n r a b && ((reaches (must_sum p s r a) (max p r) && is_unknown known) && turns added False))
        (λ n known added from to other e. refl) b

    beside : (b : ℕ) → must_sum_beside p t r a b ≡ must_sum_beside p s r a b
    beside b =
        ap (λ n. sum_below n (λ c. not (c == b) && must p t r a c) (lo t)) h.many
        ∙ sum_below-pointwise (length s.objects) (λ c. not (c == b) && must p t r a c) (λ c. not (c == b) && must p s r a c) (lo t) (lo s)
        (λ c l. ap (λ v. not (c == b) && truth.must v) (h.facts c))
        (λ c l e. ap (λ x. x.lo) (h.ends c (sym (ap truth.must (h.facts c)) ∙ (and_parts (not (c == b)) (must p t r a c) e).1)))

    room-same : (b : ℕ) → fires p t (Room r a b) ≡ fires p s (Room r a b)
    room-same b =
        ap (λ m. are_there p (length t.objects) r a b && ((is_some (max p r) && (must p t r a b && nat_le 1 (lo t a)))
        && within (suc (unwrap_or (max p r) 0 - m)) (hi t b))) (beside b)
        ∙ local p s t Must r a h
        (λ n known added from to. are_there p n r a b && ((is_some (max p r) && (truth.must known && nat_le 1 from.count.lo))
        && within (suc (unwrap_or (max p r) 0 - must_sum_beside p s r a b)) to.hi))
        (λ n known added from to other e.
        not_held (are_there p n r a b) (is_some (max p r)) (truth.must known) (nat_le 1 from.count.lo) _ _ e) b
      where
        not_held : (there x m l y z : Bool) → m ≡ false → (there && ((x && (m && l)) && y)) ≡ (there && ((x && (m && l)) && z))
        not_held there x m l y z e =
            ap (λ k. there && ((x && (k && l)) && y)) e
            ∙ (ap (λ k. there && k) (off x) ∙ sym (ap (λ k. there && ((x && (k && l)) && z)) e))
          where
            off : (x : Bool) → ((x && false) && y) ≡ ((x && false) && z)
            off true = refl
            off false = refl

    pub full_row-same : least_of_row p t (Full r a) ≡ least_of_row p s (Full r a)
    full_row-same = row-same p s t (Full r a) h.many full-same

    pub room_row-same : least_of_row p t (Room r a) ≡ least_of_row p s (Room r a)
    room_row-same = row-same p s t (Room r a) h.many room-same

  module _ (h : IsSameForCounts p May r a s t) where
    may_beside : (b : ℕ) → may_sum_beside p t r a b ≡ may_sum_beside p s r a b
    may_beside b =
        ap (λ n. ends_below n (λ c. not (c == b) && may p t r a c) (hi t)) h.many
        ∙ ends_below-pointwise (length s.objects) (λ c. not (c == b) && may p t r a c) (λ c. not (c == b) && may p s r a c) (hi t) (hi s)
        (λ c l. ap (λ v. not (c == b) && truth.may v) (h.facts c))
        (λ c l e. ap (λ x. x.hi) (h.ends c (sym (ap truth.may (h.facts c)) ∙ (and_parts (not (c == b)) (may p t r a c) e).1)))

    need-same : (b : ℕ) → fires p t (Need r a b) ≡ fires p s (Need r a b)
    need-same b =
        ap (λ m. are_there p (length t.objects) r a b && ((all_below_class p (object_of t a) (source p r)
        && (is_single (object_of t b).count && (is_unknown (fact p t r a b) && is_less m (min p r))))
        && turns (t.added r a b) True)) (may_beside b)
        ∙ local p s t May r a h
        (λ n known added from to. are_there p n r a b && ((all_below_class p from (source p r)
        && (is_single to && (is_unknown known && is_less (may_sum_beside p s r a b) (min p r)))) && turns added True))
        (λ n known added from to other e. ap (λ k. are_there p n r a b && ((all_below_class p from (source p r) && k) && turns added True))
        (before_false (is_single to) (is_single other) (is_unknown known)
        (is_less (may_sum_beside p s r a b) (min p r)) (not_unknown known e))) b

    need_count-same : (b : ℕ) → fires p t (NeedCount r a b) ≡ fires p s (NeedCount r a b)
    need_count-same b =
        ap (λ m. are_there p (length t.objects) r a b && ((all_below_class p (object_of t a) (source p r)
        && (nat_le 1 (lo t a) && (may p t r a b && is_some m))) && nat_lt (lo t b) (min p r - unwrap_or m 0))) (may_beside b)
        ∙ local p s t May r a h
        (λ n known added from to. are_there p n r a b && ((all_below_class p from (source p r)
        && (nat_le 1 from.count.lo && (truth.may known && is_some (may_sum_beside p s r a b))))
        && nat_lt to.lo (min p r - unwrap_or (may_sum_beside p s r a b) 0)))
        (λ n known added from to other e.
        not_held (are_there p n r a b) (all_below_class p from (source p r)) (nat_le 1 from.count.lo) (truth.may known) (is_some (may_sum_beside p s r a b)) _ _ e) b
      where
        not_held : (there c l m o y z : Bool) → m ≡ false
            → (there && ((c && (l && (m && o))) && y)) ≡ (there && ((c && (l && (m && o))) && z))
        not_held there c l m o y z e =
            ap (λ k. there && ((c && (l && (k && o))) && y)) e
            ∙ (ap (λ k. there && (k && y)) (never c l) ∙ sym (ap (λ k. there && (k && z)) (never c l)))
            ∙ sym (ap (λ k. there && ((c && (l && (k && o))) && z)) e)

    pub need_row-same : least_of_row p t (Need r a) ≡ least_of_row p s (Need r a)
    need_row-same = row-same p s t (Need r a) h.many need-same

    pub need_count_row-same : least_of_row p t (NeedCount r a) ≡ least_of_row p s (NeedCount r a)
    need_count_row-same = row-same p s t (NeedCount r a) h.many need_count-same

    pub type_low-same : firing p t (TypeLow r a) ≡ firing p s (TypeLow r a)
    type_low-same =
        let sum : may_sum p t r a ≡ may_sum p s r a =
        ap (λ n. ends_below n (may p t r a) (hi t)) h.many
        ∙ ends_below-pointwise (length s.objects) (may p t r a) (may p s r a) (hi t) (hi s) (λ c l. ap truth.may (h.facts c))
        (λ c l e. ap (λ x. x.hi) (h.ends c (sym (ap truth.may (h.facts c)) ∙ e))) in
        let low : ℕ → Option ℕ → Object → Bool = λ n m x. (nat_lt r (length p.references) && nat_lt a n)
        && (is_less m (min p r) && not (is_same_set (difference x.candidates (classes_below p (source p r))) x.candidates)) in
        ap (λ i. then_some i (TypeLow r a))
        (ap (λ n. low n (may_sum p t r a) (object_of t a)) h.many
        ∙ (ap (λ m. low (length s.objects) m (object_of t a)) sum ∙ ap (low (length s.objects) (may_sum p s r a)) h.from))

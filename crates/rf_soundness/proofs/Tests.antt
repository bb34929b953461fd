-- Tests that tell facts.
use Rattle.std.proofs.Common.{◌≡◌, ◌↔◌, ◌⊎◌, ◌<◌, ◌≤◌, ℕ, suc, Bool, true, false, not, ◌&&◌, ◌||◌, ◌==◌, Option, None, Some, List, [], ◌∷◌, All, refl, sym, ◌∙◌, ap, inl, inr, arith, true≢false}
use Rattle.std.specs.Prelude.{is_some, nat_le, nat_lt}
use Rattle.std.proofs.lemmas.Bool.{and_from, and_parts, both_ways, eq-eqb, eqb-true, false_from_ne_true, le-leb, leb-true, lt-ltb, ltb-true, not-true, not_from_false, or_cases, or_left, or_right}
use Rattle.std.proofs.lemmas.List.Elements.{All-cons}
use Rattle.rf_finite.specs.Ends.{within}
use Rattle.rf_values.specs.Count.{ends_at}
use Rattle.rf_values.specs.declared.truth.Truth.{Truth}
use Rattle.rf_values.specs.declared.truth.Truth.TheVariants.{Error, False, True, Unknown}
use Rattle.rf_state.specs.State.{State}
use Rattle.rf_rules.specs.Predicates.{are_there}
use Rattle.rf_rules.specs.Words.{is_error, is_false, is_less, is_unknown, lo, reaches}
use Rattle.rf_placement.proofs.AtObjects.{known_end, less_end, reached_end}
use Rattle.rf_soundness.specs.Ends.{IsAtLeast, IsAtMost, IsFinite, IsLess}

-- a test tells a fact
abbrev pub Tells : Bool → Type 0 → Type 0
Tells b P = (b ≡ true) ↔ P

pub itself : (b : Bool) → Tells b (b ≡ true)
itself b = (λ h. h, λ h. h)

pub and_tells : {A B : Type 0} (a b : Bool) → Tells a A → Tells b B → Tells (a && b) (A × B)
and_tells a b f g = (
  λ h. (let parts = and_parts a b h in (f.0 parts.0, g.0 parts.1)),
  λ k. and_from a b (f.1 k.0) (g.1 k.1),
)

pub and3_tells : {A B C : Type 0} (a b c : Bool) → Tells a A → Tells b B → Tells c C → Tells (a && (b && c)) (A × B × C)
and3_tells a b c f g h =
    let rest = and_tells b c g h in (
      λ k. (let parts = and_parts a (b && c) k in let more = rest.0 parts.1 in (f.0 parts.0, more.0, more.1)),
      λ k. and_from a (b && c) (f.1 k.0) (rest.1 (k.1, k.2)),
    )

pub and4_tells : {A B C D : Type 0} (a b c d : Bool) → Tells a A → Tells b B → Tells c C → Tells d D
    → Tells (a && (b && (c && d))) (A × B × C × D)
and4_tells a b c d f g h i =
    let rest = and3_tells b c d g h i in (
      λ k. (let parts = and_parts a (b && (c && d)) k in let more = rest.0 parts.1 in (f.0 parts.0, more.0, more.1, more.2)),
      λ k. and_from a (b && (c && d)) (f.1 k.0) (rest.1 (k.1, k.2, k.3)),
    )

pub and5_tells : {A B C D E : Type 0} (a b c d e : Bool) → Tells a A → Tells b B → Tells c C → Tells d D → Tells e E
    → Tells (a && (b && (c && (d && e)))) (A × B × C × D × E)
and5_tells a b c d e f g h i j =
    let rest = and4_tells b c d e g h i j in (
      λ k. (let parts = and_parts a (b && (c && (d && e))) k in let more = rest.0 parts.1 in (f.0 parts.0, more.0, more.1, more.2, more.3)),
      λ k. and_from a (b && (c && (d && e))) (f.1 k.0) (rest.1 (k.1, k.2, k.3, k.4)),
    )

pub or_tells : {A B : Type 0} (a b : Bool) → Tells a A → Tells b B → Tells (a || b) (A ⊎ B)
or_tells a b f g = (
  λ h. elim (or_cases a b h) [ inl e ↦ inl (f.0 e) | inr e ↦ inr (g.0 e) ],
  λ k. elim k [ inl x ↦ or_left a b (f.1 x) | inr y ↦ or_right a b (g.1 y) ],
)

pub not_tells : {A : Type 0} (a : Bool) → Tells a A → Tells (not a) (A → ⊥)
not_tells a f = (
  λ h x. both_ways a (not-true a h) (f.1 x),
  λ k. not_from_false a (false_from_ne_true a (λ e. k (f.0 e))),
)

pub le_tells : (m n : ℕ) → Tells (nat_le m n) (m ≤ n)
le_tells m n = (leb-true m n, le-leb m n)

pub eq_tells : (m n : ℕ) → Tells (m == n) (m ≡ n)
eq_tells m n = (eqb-true m n, eq-eqb m n)

pub unknown_tells : (v : Truth) → Tells (is_unknown v) (v ≡ Unknown)
unknown_tells v = (from v, λ e. ap is_unknown e)
  where
    from : (v : Truth) → is_unknown v ≡ true → v ≡ Unknown
    from Unknown h = refl
    from True h = absurd (true≢false (sym h))
    from False h = absurd (true≢false (sym h))
    from Error h = absurd (true≢false (sym h))

pub error_tells : (v : Truth) → Tells (is_error v) (v ≡ Error)
error_tells v = (from v, λ e. ap is_error e)
  where
    from : (v : Truth) → is_error v ≡ true → v ≡ Error
    from Error h = refl
    from True h = absurd (true≢false (sym h))
    from False h = absurd (true≢false (sym h))
    from Unknown h = absurd (true≢false (sym h))

pub finite_tells : (end : Option ℕ) → Tells (is_some end) (IsFinite end)
finite_tells end = (λ h. (_, known_end end h), λ k. ap is_some k.1)

pub less_tells : (end : Option ℕ) (n : ℕ) → Tells (is_less end n) (IsLess end n)
less_tells end n = (
  less_end end n,
  λ k. ap (λ e. is_less e n) k.1 ∙ not_from_false (nat_le n k.0) (false_from_ne_true (nat_le n k.0) (λ e.
      let le = leb-true n k.0 e in let lt = k.2 in absurd (omega arith))),
)

pub at_most_tells : (end : Option ℕ) (n : ℕ) → Tells (reaches n end) (IsAtMost end n)
at_most_tells end n = (reached_end n end, λ k. ap (reaches n) k.1 ∙ le-leb k.0 n k.2)

pub at_least_tells : (end : Option ℕ) (n : ℕ) → Tells (within n end) (IsAtLeast end n)
at_least_tells None n = (λ h. tt, λ k. refl)
at_least_tells (Some m) n = le_tells n m

pub ends_at_tells : (end : Option ℕ) (n : ℕ) → Tells (ends_at n end) (end ≡ Some n)
ends_at_tells None n = (λ h. absurd (true≢false (sym h)), λ e. absurd (let e = e in cc))
ends_at_tells (Some m) n = (λ h. ap Some (eqb-true m n h), λ e. eq-eqb m n (let e = e in cc))

pub false_tells : (v : Truth) → Tells (is_false v) (v ≡ False)
false_tells v = (from v, λ e. ap is_false e)
  where
    from : (v : Truth) → is_false v ≡ true → v ≡ False
    from False h = refl
    from True h = absurd (true≢false (sym h))
    from Error h = absurd (true≢false (sym h))
    from Unknown h = absurd (true≢false (sym h))

pub lt_tells : (m n : ℕ) → Tells (nat_lt m n) (m < n)
lt_tells m n = (ltb-true m n, lt-ltb m n)

pub implies_tells : {A B : Type 0} (a b : Bool) → Tells a A → Tells b B → Tells (not a || b) (A → B)
implies_tells true b f g = (λ h x. g.0 h, λ k. g.1 (k (f.0 refl)))
implies_tells false b f g = (λ h x. absurd (true≢false (sym (f.1 x))), λ k. refl)

-- each object of a tuple has a node at least
pub there_tells : (s : State) (t : List ℕ) → Tells (are_there s t) (All (λ o. 1 ≤ lo s o) t)
there_tells s [] = (λ h i d l. absurd (omega arith), λ k. refl)
there_tells s (o ∷ t) = (
  λ h. (let parts = and_parts (nat_le 1 (lo s o)) (are_there s t) h in All-cons (λ o. 1 ≤ lo s o) o t
      (leb-true 1 (lo s o) parts.0) ((there_tells s t).0 parts.1)),
  λ k. and_from (nat_le 1 (lo s o)) (are_there s t) (le-leb 1 (lo s o) (k 0 0 (omega arith)))
      ((there_tells s t).1 (λ i d l. k (suc i) d (omega arith))),
)

-- Scopes at which nothing fires.
use Rattle.std.proofs.Common.{◌≡◌, ◌∙◌, ◌-◌, length, ℕ, Bool, true, false, ◌&&◌, not, nat_lt, Option, None, Some, refl, sym, ap, inl, inr, true≢false, arith}
use Rattle.std.specs.Prelude.{is_some, nat_le, unwrap_or}
use Rattle.std.specs.Bool.{then_some}
use Rattle.std.proofs.lemmas.Bool.{cases_lt, le-leb, le-ltb, lt-ltb}
use Rattle.rf_finite.proofs.Range.{first_below-none}
use Rattle.rf_problem.specs.Parts.{scope_at}
use Rattle.rf_problem.specs.declared.problem.Problem.{Problem}
use Rattle.rf_state.specs.State.{State}
use Rattle.rf_rules.specs.Effects.{is_ready}
use Rattle.rf_rules.specs.Rules.{fires, is_scoped, least_object}
use Rattle.rf_rules.specs.ScopeRows.{has_end, scope_rule}
use Rattle.rf_rules.specs.Scopes.{is_surely_counted, may_be_counted, may_count, may_count_beside, scope_bottom, scope_lo, sure_count, under}
use Rattle.rf_rules.specs.Words.{is_less, is_one, lo, reaches}
use Rattle.rf_rules.specs.declared.scopes.Kind.{Kind}
use Rattle.rf_rules.specs.declared.scopes.Kind.TheVariants.{Bottom, In, Out, Top}

and_false : (a : Bool) → (a && false) ≡ false
and_false true = refl
and_false false = refl

reaches-none : (n : ℕ) (end : Option ℕ) → is_some end ≡ false → reaches n end ≡ false
reaches-none n None e = refl
reaches-none n (Some x) e = absurd (true≢false e)

zero-from_test : (n : ℕ) → nat_lt 0 n ≡ false → n ≡ 0
zero-from_test n e = elim (cases_lt 0 n) [
  | inl l ↦ absurd (true≢false (sym (lt-ltb 0 n l) ∙ e))
  | inr m ↦ omega arith
]

is_less-zero : (end : Option ℕ) → is_less end 0 ≡ false
is_less-zero None = refl
is_less-zero (Some x) = let least : nat_le 0 x ≡ true = le-leb 0 x (omega arith) in rw least refl

not_fired : (p : Problem) (s : State) (z o : ℕ) (kind : Kind) → has_end kind (scope_at p.scopes z).range ≡ false → fires p s (scope_rule kind z o) ≡ false
not_fired p s z o Top e = rw e (and_false (is_scoped p s z o))
not_fired p s z o Bottom e =
    let no_end = zero-from_test (scope_lo p z) e in
    let never : nat_lt (lo s o) (scope_lo p z - unwrap_or (may_count_beside p s z o) 0) ≡ false = le-ltb (lo s o) (scope_lo p z - unwrap_or (may_count_beside p s z o) 0) (omega (arith, no_end)) in
    rw (never, and_false (scope_bottom p s z o).holds) (and_false (is_scoped p s z o))
not_fired p s z o Out e =
    let never = reaches-none (sure_count p s z) (scope_at p.scopes z).range.hi e in
    rw never (and_false (is_scoped p s z o))
not_fired p s z o In e =
    let never : is_less (may_count_beside p s z o) (scope_lo p z) ≡ false = ap (is_less (may_count_beside p s z o)) (zero-from_test (scope_lo p z) e) ∙ is_less-zero (may_count_beside p s z o) in
    rw (never, and_false (not (is_surely_counted p s z o)), and_false (may_be_counted p s z o), and_false (is_one s o)) (and_false (is_scoped p s z o))

-- without the end of the range that it needs, a rule fires at no object
pub least_object-none : (p : Problem) (s : State) (z : ℕ) (kind : Kind) → has_end kind (scope_at p.scopes z).range ≡ false → least_object p s (scope_rule kind z) ≡ None
least_object-none p s z kind e = first_below-none (length s.objects) _ (λ o l. ap (λ b. then_some b o) (not_fired p s z o kind e))

-- nor where there may be as few nodes as none, `under`
pub under-zero : (p : Problem) (s : State) (z : ℕ) → scope_lo p z ≡ 0 → is_ready s (under p s z) ≡ false
under-zero p s z e =
    let never : is_less (may_count p s z) (scope_lo p z) ≡ false = ap (is_less (may_count p s z)) e ∙ is_less-zero (may_count p s z) in
    rw never refl

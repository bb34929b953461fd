-- The graph of a final state has as many nodes as the scopes ask for.
use Rattle.std.proofs.Common.{◌≡◌, ℕ, ◌-◌, ◌≤◌, ◌<◌, Bool, true, false, not, ◌&&◌, ◌==◌, Option, Some, None, length, refl, sym, ap, ap₂, ◌∙◌, inl, inr, arith, true≢false}
use Rattle.std.specs.Prelude.{is_some, nat_lt, unwrap_or}
use Rattle.std.specs.Option.{ForSome}
use Rattle.std.proofs.lemmas.Bool.{and_from, cases_lt, le-leb, lt-ltb}
use Rattle.rf_finite.specs.Ends.{within}
use Rattle.rf_finite.specs.Range.{count_below}
use Rattle.rf_finite.proofs.Passing.{ends_singles, sum_singles}
use Rattle.rf_finite.proofs.Range.{count_below-same, one-from_count_below}
use Rattle.rf_problem.specs.Counted.{counts_origin, has_scope_class}
use Rattle.rf_problem.specs.Parts.{no_scope, scope_at}
use Rattle.rf_problem.specs.declared.problem.Problem.{Problem}
use Rattle.rf_problem.specs.declared.scope.Scope.{Scope as Bound}
use Rattle.rf_graph.specs.Graph.{size_of}
use Rattle.rf_graph.specs.Violations.{is_counted}
use Rattle.rf_state.specs.State.{State, object_of}
use Rattle.rf_rules.specs.Rules.{is_object}
use Rattle.rf_rules.specs.Scopes.{is_surely_counted, may_be_counted, may_count, scope_hi, scope_lo, sure_count_beside}
use Rattle.rf_rules.specs.Words.{any_candidate, each_candidate, hi, is_one, lo}
use Rattle.rf_rules.specs.declared.rule.Rule.TheVariants.{ScopeTop, Under}
use Rattle.rf_tree.specs.Saturated.{IsFinal}
use Rattle.rf_final.specs.GraphOf.{graph_of, single_at}
use Rattle.rf_final.specs.Reached.{IsReached}
use Rattle.rf_final.proofs.Classes.{may_be_of, surely_of}
use Rattle.rf_final.proofs.Counts.{less_than, others}
use Rattle.rf_final.proofs.Nodes.{count_nodes, node_single, origin_is}
use Rattle.rf_final.proofs.Settled.{lower_is, not_less, quiet, upper_is}

and_swap : (a b : Bool) → (a && b) ≡ (b && a)
and_swap true true = refl
and_swap true false = refl
and_swap false true = refl
and_swap false false = refl

module _ (p : Problem) (s : State) (f : IsFinal p s) (reached : IsReached p s) (z : ℕ) (there : z < length p.scopes) where
  abbrev bound : Bound
  bound = scope_at p.scopes z

  -- how many nodes the scope counts
  abbrev pub counted : ℕ
  counted = count_below (size_of (graph_of p s)) (is_counted p (graph_of p s) bound)

  declared : ForSome bound.class (λ c. c < length p.classes)
  declared = p.scopes_fit.classes_there z no_scope there

  -- a node is counted where its object may be, and where it surely is
  may : (x : ℕ) → x < size_of (graph_of p s) → is_counted p (graph_of p s) bound x ≡ may_be_counted p s z (single_at s x)
  may x l =
      let some = any_candidate p s (single_at s x) (has_scope_class p bound.class) in
      let from = counts_origin p bound (object_of s (single_at s x)).origin in
      ap₂ (λ a b. a && b) (may_be_of p s f reached x bound.class declared l) (ap (counts_origin p bound) (origin_is p s x l))
      ∙ and_swap some from

  sure : (x : ℕ) → x < size_of (graph_of p s) → is_counted p (graph_of p s) bound x ≡ is_surely_counted p s z (single_at s x)
  sure x l =
      let each = each_candidate p s (single_at s x) (has_scope_class p bound.class) in
      let from = counts_origin p bound (object_of s (single_at s x)).origin in
      ap₂ (λ a b. a && b) (surely_of p s f reached x bound.class declared l) (ap (counts_origin p bound) (origin_is p s x l))
      ∙ and_swap each from

  pub scope_low : scope_lo p z ≤ counted
  scope_low =
      let count = count_below-same (size_of (graph_of p s)) (is_counted p (graph_of p s) bound)
      (λ x. may_be_counted p s z (single_at s x)) may ∙ count_nodes p s (may_be_counted p s z) in
      let total = count_below (length s.objects) (λ o. is_one s o && may_be_counted p s z o) in
      let ends : may_count p s z ≡ Some total = ends_singles (length s.objects) (may_be_counted p s z) (is_one s) (hi s) (upper_is p s f) in
      elim (cases_lt total (scope_lo p z)) [
        | inl lt ↦ absurd (true≢false (quiet p s f (Under z) (lt-ltb z (length p.scopes) there)
            (less_than (may_count p s z) total (scope_lo p z) ends lt)))
        | inr ge ↦ omega arith
      ]

  pub scope_high : within counted (scope_hi p z) ≡ true
  scope_high = go (scope_hi p z) refl
    where
      go : (u : Option ℕ) → scope_hi p z ≡ u → within counted u ≡ true
      go None e = refl
      go (Some m) e =
          elim (cases_lt m counted) [
            | inl lt ↦ (let x = one-from_count_below (size_of (graph_of p s)) (is_counted p (graph_of p s) bound) (omega arith) in
                let o = single_at s x.0 in let at = node_single p s x.0 x.1 in
                let held : is_surely_counted p s z o ≡ true = sym (sure x.0 x.1) ∙ x.2 in
                let fits = quiet p s f (ScopeTop z o) (and_from (nat_lt z (length p.scopes)) (is_object s o)
                (lt-ltb z (length p.scopes) there) (lt-ltb o (length s.objects) at.0))
                (and_from (is_some (scope_hi p z)) (is_surely_counted p s z o) (rw e refl) held) in
                let top = not_less p s f o (unwrap_or (scope_hi p z) 0 - sure_count_beside p s z o) at.0 at.1 fits in
                let sum = sum_singles (length s.objects) (λ c. not (c == o) && is_surely_counted p s z c) (is_one s) (lo s)
                (lower_is p s f) in
                let rest = others (length s.objects) (is_one s) (is_surely_counted p s z) o at.0 at.1 held in
                let count = count_below-same (size_of (graph_of p s)) (is_counted p (graph_of p s) bound)
                (λ x. is_surely_counted p s z (single_at s x)) sure
                ∙ count_nodes p s (is_surely_counted p s z) in
                let most : unwrap_or (scope_hi p z) 0 ≡ m = rw e refl in
                absurd (omega arith))
            | inr ge ↦ le-leb counted m ge
          ]

-- The predicates that depend on a reference, round by round.
use Rattle.std.proofs.Common.{◌≡◌, ℕ, zero, suc, ◌+◌, ◌-◌, ◌≤◌, Bool, List, map, sym, ap, ◌∙◌, arith, add-one}
use Rattle.std.proofs.Math.ListN.{get_or-map}
use Rattle.rf_problem.specs.Parts.{no_predicate, predicate_at}
use Rattle.rf_problem.specs.declared.predicate.Predicate.{Predicate}
use Rattle.rf_prop_broken.specs.Dependence.{depends, is_found, predicate_asks}
use Rattle.rf_prop_broken.specs.declared.dependence.Pair.{Pair}

module _ (predicates : List Predicate) (pair : Pair) where
  abbrev step : (ℕ → Bool) → ℕ → Bool
  step passes q = predicate_asks pair passes (predicate_at predicates q)

  -- the predicates that ask for those of one round are those of the next
  pub next_round : (marked next : List Bool) (depth : ℕ) → next ≡ map (predicate_asks pair (is_found marked)) predicates
      → is_found marked ≡ depends predicates pair depth → is_found next ≡ depends predicates pair (depth + 1)
  next_round marked next depth e is =
      (λ i q. (ap (λ (xs : List Bool). is_found xs q) e ∙ get_or-map (predicate_asks pair (is_found marked)) predicates q no_predicate) i)
      ∙ (ap step is ∙ ap (depends predicates pair) (sym (add-one depth)))

  stays : (k j : ℕ) → depends predicates pair k ≡ depends predicates pair (suc k) → depends predicates pair (k + j) ≡ depends predicates pair k
  stays k zero e = let z : k + 0 ≡ k = omega arith in ap (depends predicates pair) z
  stays k (suc j) e =
      let z : k + suc j ≡ suc (k + j) = omega arith in
      ap (depends predicates pair) z ∙ (ap step (stays k j e) ∙ sym e)

  -- where a round finds no more than the one before, nor do the rounds that follow
  pub no_more : (k n : ℕ) → k ≤ n → depends predicates pair k ≡ depends predicates pair (k + 1) → depends predicates pair k ≡ depends predicates pair n
  no_more k n l e =
      let z : k + (n - k) ≡ n = omega (arith, l) in
      sym (stays k (n - k) (e ∙ ap (depends predicates pair) (add-one k))) ∙ ap (depends predicates pair) z

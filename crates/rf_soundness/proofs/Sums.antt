-- How many nodes pass a test, by the counts of their objects.
use Rattle.std.proofs.Common.{◌≡◌, ℕ, ◌+◌, ◌-◌, ◌≤◌, ◌<◌, Bool, true, false, not, ◌&&◌, ◌==◌, Option, Some, length, refl, sym, ap, ◌∙◌, subst, inl, inr, arith}
use Rattle.std.proofs.lemmas.Bool.{and_from, cases_Bool, not_from_false, both_ways, eqb-true, eq-eqb, leb-true}
use Rattle.rf_finite.specs.Range.{count_below, sum_below}
use Rattle.rf_finite.specs.Ends.{ends_below, within}
use Rattle.rf_finite.proofs.Range.{count_below-apart, count_below-cover, count_below-le, count_below-none, count_below-positive}
use Rattle.rf_problem.specs.declared.problem.Problem.{Problem}
use Rattle.rf_graph.specs.Graph.{size_of}
use Rattle.rf_graph.specs.declared.graph.Graph.{Graph}
use Rattle.rf_state.specs.State.{State}
use Rattle.rf_rules.specs.Words.{hi, lo}
use Rattle.rf_placement.specs.Placement.{IsNodeOf, Placing, StandsFor, nodes_at}
use Rattle.rf_placement.proofs.AtObjects.{apart_le, highs_le, lows_le, most_beside}

-- what is within an end that is known is at most that
pub at_most_end : (n m : ℕ) (e : Option ℕ) → e ≡ Some m → within n e ≡ true → n ≤ m
at_most_end n m e is fits = leb-true n m (subst (λ e. within n e ≡ true) is fits)

-- some objects are chosen, and some nodes counted
module _ (p : Problem) (s : State) (g : Graph) (h : Placing) (c : StandsFor p s g h) (chosen counted : ℕ → Bool) where
  -- each node of an object that is chosen is counted, and each node that is counted is of such an object
  abbrev pub AreCounted : Type 0
  AreCounted = (y : ℕ) → y < size_of g → chosen (h y) ≡ true → counted y ≡ true

  abbrev pub AreChosen : Type 0
  AreChosen = (y : ℕ) → y < size_of g → counted y ≡ true → chosen (h y) ≡ true

  -- the number of nodes that are counted, and of the nodes that objects have at most: those that are chosen, and these beside one
  abbrev counts : ℕ
  counts = count_below (size_of g) counted

  abbrev highs : Option ℕ
  highs = ends_below (length s.objects) chosen (hi s)

  abbrev highs_beside : ℕ → Option ℕ
  highs_beside o = ends_below (length s.objects) (λ d. not (d == o) && chosen d) (hi s)

  -- where a node is counted that is of no object that is chosen, more are than these have at least
  pub one_more : (x : ℕ) → x < size_of g → AreCounted → chosen (h x) ≡ false → counted x ≡ true
      → sum_below (length s.objects) chosen (lo s) + 1 ≤ counts
  one_more x l are other more =
      let lows = lows_le p s g h c chosen in
      let one = count_below-positive (size_of g) (λ y. y == x) x l (eq-eqb x x refl) in
      let both = count_below-apart (size_of g) (λ y. chosen (h y)) (λ y. y == x) counted are
      (λ y l e. subst (λ y. counted y ≡ true) (sym (eqb-true y x e)) more)
      (λ y e f. both_ways (chosen (h y)) (ap (λ y. chosen (h y)) (eqb-true y x f) ∙ other) e) in
      omega arith

  -- an object that is chosen has at most what the others that are leave of a bound
  pub most_left : (o bound : ℕ) → AreCounted → chosen o ≡ true → counts ≤ bound
      → nodes_at g h o ≤ bound - sum_below (length s.objects) (λ d. not (d == o) && chosen d) (lo s)
  most_left o bound are here most =
      let both = apart_le p s g h c chosen o counted (λ y at. are y at.0 (ap chosen at.1 ∙ here)) are in
      most_beside p s g h c chosen o bound (omega arith)

  -- as many nodes are counted as the objects that are chosen have at most
  pub most_counted : (end : ℕ) → AreChosen → highs ≡ Some end → counts ≤ end
  most_counted end are is =
      let those = highs_le p s g h c chosen end is in
      let among = count_below-le (size_of g) counted (λ y. chosen (h y)) are in omega arith

  -- each node that is counted passes a test, or it is of an object that is chosen and isn't a given one
  beside : (o end : ℕ) (here : ℕ → Bool) → AreChosen → highs_beside o ≡ Some end
      → ((y : ℕ) → IsNodeOf g h o y → counted y ≡ true → here y ≡ true) → counts ≤ count_below (size_of g) here + end
  beside o end here are is passes =
      let others = highs_le p s g h c (λ d. not (d == o) && chosen d) end is in
      let cover = count_below-cover (size_of g) here (λ y. not (h y == o) && chosen (h y)) counted (λ y l e. elim (cases_Bool (h y == o)) [
        | inl at ↦ inl (passes y (l, eqb-true (h y) o at) e)
        | inr off ↦ inr (and_from (not (h y == o)) (chosen (h y)) (not_from_false (h y == o) off) (are y l e))
      ]) in
      omega arith

  -- as many are counted as an object has, and the others that are chosen have at most
  pub most_beside_one : (o end : ℕ) → AreChosen → highs_beside o ≡ Some end → counts ≤ nodes_at g h o + end
  most_beside_one o end are is = beside o end (λ y. h y == o) are is (λ y at e. eq-eqb (h y) o at.1)

  -- and where no node of that object is counted, as many as the others have at most
  pub most_without : (o end : ℕ) → AreChosen → highs_beside o ≡ Some end
      → ((y : ℕ) → IsNodeOf g h o y → counted y ≡ false) → counts ≤ end
  most_without o end are is none =
      let all = beside o end (λ y. false) are is (λ y at e. absurd (both_ways (counted y) (none y at) e)) in
      let zero = count_below-none (size_of g) (λ y. false) (λ y l. refl) in omega arith

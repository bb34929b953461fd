-- A graph whose nodes the root has: its nodes have classes and origins of the problem, and are as many as objects admit.
use Rattle.std.proofs.Common.{◌≡◌, ℕ, ◌<◌, true, false, not, ◌&&◌, ◌==◌, [], ◌∷◌, length, sym, ap, ◌∙◌, subst}
use Rattle.std.specs.Prelude.{nat_lt}
use Rattle.std.proofs.lemmas.Bool.{and_parts, ltb-true, not-true}
use Rattle.rf_finite.specs.Range.{all_below}
use Rattle.rf_finite.proofs.Range.{count_below-same, each-from_all_below}
use Rattle.rf_values.specs.Count.{contains}
use Rattle.rf_values.specs.Truth.{keeps}
use Rattle.rf_problem.specs.Asserted.{admitted, asserted}
use Rattle.rf_problem.specs.Classes.{class_at, is_below, is_concrete, may_have_class}
use Rattle.rf_problem.specs.Parts.{object_at}
use Rattle.rf_problem.specs.declared.problem.Problem.{Problem}
use Rattle.rf_problem.specs.declared.symbol.Symbol.TheVariants.{Class}
use Rattle.rf_graph.specs.Graph.{class_of, origin_of, size_of}
use Rattle.rf_graph.specs.Satisfied.{IsSatisfied}
use Rattle.rf_graph.specs.Violations.{nodes_from}
use Rattle.rf_graph.specs.declared.graph.Graph.{Graph}
use Rattle.rf_graph.proofs.FirstOfKind.{MayHaveClass-from_test}
use Rattle.rf_state.specs.State.{IsRoot, State, is_candidate, keeps_asserted}
use Rattle.rf_placement.specs.Placement.{Placing, nodes_at}
use Rattle.rf_final.specs.Standing.{HasNodes}

module _ (p : Problem) (root : State) (is : IsRoot p root) (g : Graph) (h : Placing) (c : HasNodes root g h) where
  there : (x : ℕ) → x < size_of g → h x < length p.objects
  there x l = subst (λ n. h x < n) is.many (c.objects x l)

  -- a node's object is its origin
  is_origin : (x : ℕ) → x < size_of g → origin_of g x ≡ h x
  is_origin x l = sym (c.origins x l) ∙ is.origins (h x) (there x l)

  pub origin_there : (x : ℕ) → x < size_of g → origin_of g x < length p.objects
  origin_there x l = subst (λ o. o < length p.objects) (sym (is_origin x l)) (there x l)

  root_class : (x : ℕ) → x < size_of g → is_candidate p (origin_of g x) (class_of g x) ≡ true
  root_class x l =
      subst (λ o. is_candidate p o (class_of g x) ≡ true) (sym (is_origin x l))
      (sym (is.candidates (h x) (class_of g x) (there x l)) ∙ c.classes x l)

  -- the tests of a candidate
  class_tests : (x : ℕ) → x < size_of g → (is_concrete p.classes (class_of g x) ≡ true)
      × (may_have_class p.classes (object_at p.objects (origin_of g x)).name (object_at p.objects (origin_of g x)).kind (class_of g x)
      ≡ true)
      × (all_below (length p.classes) (keeps_asserted p (origin_of g x) (class_of g x)) ≡ true)
  class_tests x l =
      let may = may_have_class p.classes (object_at p.objects (origin_of g x)).name (object_at p.objects (origin_of g x)).kind
      (class_of g x) in
      let kept = all_below (length p.classes) (keeps_asserted p (origin_of g x) (class_of g x)) in
      let one = and_parts (is_concrete p.classes (class_of g x)) (may && kept) (root_class x l) in
      let two = and_parts may kept one.1 in
      (one.0, two.0, two.1)

  pub class_known : (x : ℕ) → x < size_of g → (class_of g x < length p.classes) × ((class_at p.classes (class_of g x)).is_abstract ≡ false)
  class_known x l =
      let parts = and_parts (nat_lt (class_of g x) (length p.classes)) (not (class_at p.classes (class_of g x)).is_abstract)
      (class_tests x l).0 in
      (ltb-true (class_of g x) (length p.classes) parts.0, not-true (class_at p.classes (class_of g x)).is_abstract parts.1)

  pub class_kept : (x k : ℕ) → x < size_of g → k < length p.classes
      → keeps (asserted p (Class k) (origin_of g x ∷ [])) (is_below p.classes (class_of g x) k) ≡ true
  class_kept x k l lk = each-from_all_below (length p.classes) (keeps_asserted p (origin_of g x) (class_of g x)) (class_tests x l).2 k lk

  pub object_satisfied : (o : ℕ) → o < length p.objects → IsSatisfied p g o
  object_satisfied o l = record {
    number = (
        let many : nodes_at g h o ≡ nodes_from g o =
        count_below-same (size_of g) (λ x. h x == o) (λ x. origin_of g x == o) (λ x lx. ap (λ q. q == o) (sym (is_origin x lx))) in
        subst (λ n. contains (admitted p o) n ≡ true) many
        (subst (λ count. contains count (nodes_at g h o) ≡ true) (is.counts o l) (c.counts o (subst (λ n. o < n) (sym is.many) l))));
    classes = λ x lx from. MayHaveClass-from_test p g (object_at p.objects o).name (object_at p.objects o).kind (class_of g x)
        (subst (λ q. may_have_class p.classes (object_at p.objects q).name (object_at p.objects q).kind (class_of g x) ≡ true) from
        (class_tests x lx).1);
  }

-- In a graph that satisfies the problem, what a state adds is all that is to be asked of its facts.
use Rattle.std.proofs.Common.{◌≡◌, ℕ, zero, suc, ◌<◌, Bool, true, false, if◌then◌else◌, ◌&&◌, Option, Some, None, [], ◌∷◌, length, All, refl, sym, ap₂, ◌∙◌, subst, inl, inr, arith}
use Rattle.std.proofs.lemmas.Bool.{and_parts, and_from, cases_Bool, lt-ltb}
use Rattle.rf_values.specs.Truth.{keeps, merge}
use Rattle.rf_values.specs.declared.truth.Truth.{Truth}
use Rattle.rf_values.specs.declared.truth.Truth.TheVariants.{False, Unknown}
use Rattle.rf_values.proofs.Kept.{keeps-merge}
use Rattle.rf_problem.specs.Asserted.{asserted}
use Rattle.rf_problem.specs.Classes.{is_below}
use Rattle.rf_problem.specs.Parts.{reference_at}
use Rattle.rf_problem.specs.declared.problem.Problem.{Problem}
use Rattle.rf_problem.specs.declared.symbol.Symbol.TheVariants.{Reference}
use Rattle.rf_problem.proofs.BelowLemmas.{same_tests as same_bools}
use Rattle.rf_graph.specs.Graph.{class_of, has_edge, size_of}
use Rattle.rf_graph.specs.Violations.{Sat}
use Rattle.rf_graph.specs.declared.graph.Graph.{Graph}
use Rattle.rf_state.specs.State.{State, by_classes, object_of, some_candidate, told, told_back}
use Rattle.rf_state.proofs.FactLemmas.{opposite}
use Rattle.std.specs.FinSet.{contains as contains_class}
use Rattle.rf_finite.proofs.Range.{some_below-from_one}
use Rattle.rf_placement.specs.Laws.{AddedIsEnough}
use Rattle.rf_placement.specs.Placed.{IsPlaced}
use Rattle.rf_placement.specs.Placement.{Placing, StandsFor}
use Rattle.rf_placement.proofs.Satisfied.{asserted_kept, edge_back, edge_ends, node_class_below}

keeps_both : (v w : Truth) (b : Bool) → keeps v b ≡ true → keeps w b ≡ true → keeps (merge v w) b ≡ true
keeps_both v w b k l = keeps-merge v w b ∙ and_from (keeps v b) (keeps w b) k l

keeps_parts : (v w : Truth) (b : Bool) → keeps (merge v w) b ≡ true → (keeps v b ≡ true) × (keeps w b ≡ true)
keeps_parts v w b k = and_parts (keeps v b) (keeps w b) (sym (keeps-merge v w b) ∙ k)

-- what was added to a state is so of the graphs that it stands for
pub placed : (p : Problem) (s : State) (g : Graph) (h : Placing) → StandsFor p s g h → IsPlaced p s g h
placed p s g h c = record {
  many = c.many;
  numbered = c.numbered;
  objects = c.objects;
  origins = c.origins;
  counts = c.counts;
  classes = c.classes;
  added = λ r x y l lx ly. (
      let told_kept = (keeps_parts (told p s r (h x) (h y)) (merge (told_back p s (reference_at p.references r).opposite (h x) (h y)) (by_classes p s r (h x) (h y)))
      (has_edge g r x y) (c.facts r x y l lx ly)).0 in
      (keeps_parts (asserted p (Reference r) ((object_of s (h x)).origin ∷ (object_of s (h y)).origin ∷ [])) (s.added r (h x) (h y)) (has_edge g r x y) told_kept).1);
}

both_nodes : (n x y : ℕ) → x < n → y < n → All (λ z. z < n) (x ∷ y ∷ [])
both_nodes n x y lx ly zero d k = lx
both_nodes n x y lx ly (suc zero) d k = ly
both_nodes n x y lx ly (suc (suc i)) d k = absurd (omega arith)

module _ (p : Problem) (g : Graph) (sat : Sat p g) where
  -- an edge and the mirrored one are there together
  edges_mirrored : (r q x y : ℕ) → (reference_at p.references r).opposite ≡ Some q → has_edge g q y x ≡ has_edge g r x y
  edges_mirrored r q x y e = let m = opposite p r q e in
      same_bools (has_edge g q y x) (has_edge g r x y) (edge_back p g sat q r y x m.back) (edge_back p g sat r q x y e)

  module _ (s : State) (h : Placing) (c : IsPlaced p s g h) where
    told_kept : (r x y : ℕ) → r < length p.references → x < size_of g → y < size_of g → keeps (told p s r (h x) (h y)) (has_edge g r x y) ≡ true
    told_kept r x y l lx ly =
        keeps_both (asserted p (Reference r) ((object_of s (h x)).origin ∷ (object_of s (h y)).origin ∷ [])) (s.added r (h x) (h y)) (has_edge g r x y)
        (subst (λ v. keeps v (has_edge g r x y) ≡ true) (sym (ap₂ (λ a b. asserted p (Reference r) (a ∷ b ∷ [])) (c.origins x lx) (c.origins y ly)))
        (asserted_kept p g sat (Reference r) (x ∷ y ∷ []) (lt-ltb r (length p.references) l) refl (both_nodes (size_of g) x y lx ly)))
        (c.added r x y l lx ly)

    back_kept : (r x y : ℕ) (o : Option ℕ) → (reference_at p.references r).opposite ≡ o → x < size_of g → y < size_of g → keeps (told_back p s o (h x) (h y)) (has_edge g r x y) ≡ true
    back_kept r x y None e lx ly = refl
    back_kept r x y (Some q) e lx ly = let m = opposite p r q e in
        subst (λ b. keeps (told p s q (h y) (h x)) b ≡ true) (edges_mirrored r q x y e) (told_kept q y x m.there ly lx)

    some_class : (x k : ℕ) → x < size_of g → is_below p.classes (class_of g x) k ≡ true → some_candidate p s (h x) k ≡ true
    some_class x k l below = some_below-from_one (length p.classes) (λ d. contains_class (object_of s (h x)).candidates d && is_below p.classes d k)
        (class_of g x) (node_class_below p g sat x l)
        (and_from (contains_class (object_of s (h x)).candidates (class_of g x)) (is_below p.classes (class_of g x) k) (c.classes x l) below)

    unknown_or_false : (b : Bool) → keeps (if b then Unknown else False) false ≡ true
    unknown_or_false true = refl
    unknown_or_false false = refl

    classes_kept : (r x y : ℕ) → x < size_of g → y < size_of g → keeps (by_classes p s r (h x) (h y)) (has_edge g r x y) ≡ true
    classes_kept r x y lx ly = elim (cases_Bool (has_edge g r x y)) [
      | inl e ↦ (let ends = edge_ends p g sat r x y e in
          let from = some_class x (reference_at p.references r).source lx ends.0 in let to = some_class y (reference_at p.references r).target ly ends.1 in
          rw (e, from, to) refl)
      | inr e ↦ rw e (unknown_or_false (some_candidate p s (h x) (reference_at p.references r).source && some_candidate p s (h y) (reference_at p.references r).target))
    ]

    -- and the rest that is known is so of each graph that satisfies
    pub stands : StandsFor p s g h
    stands = record {
      many = c.many;
      numbered = c.numbered;
      objects = c.objects;
      origins = c.origins;
      counts = c.counts;
      classes = c.classes;
      facts = λ r x y l lx ly.
          keeps_both (told p s r (h x) (h y)) (merge (told_back p s (reference_at p.references r).opposite (h x) (h y)) (by_classes p s r (h x) (h y))) (has_edge g r x y)
          (told_kept r x y l lx ly)
          (keeps_both (told_back p s (reference_at p.references r).opposite (h x) (h y)) (by_classes p s r (h x) (h y)) (has_edge g r x y)
          (back_kept r x y (reference_at p.references r).opposite refl lx ly) (classes_kept r x y lx ly));
    }

pub added_is_enough : AddedIsEnough
added_is_enough p s g h sat = (placed p s g h, stands p g sat s h)

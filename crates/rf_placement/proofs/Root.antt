-- The root stands for each graph that satisfies the problem.
use Rattle.std.proofs.Common.{◌≡◌, ℕ, zero, suc, ◌<◌, true, ◌&&◌, [], ◌∷◌, length, All, refl, sym, ◌∙◌, subst, arith}
use Rattle.std.proofs.lemmas.Bool.{and_from, lt-ltb}
use Rattle.rf_finite.specs.Range.{all_below}
use Rattle.rf_finite.proofs.Range.{all_below-from_each}
use Rattle.rf_values.specs.Count.{contains}
use Rattle.rf_values.specs.Truth.{keeps}
use Rattle.rf_problem.specs.Classes.{is_concrete, may_have_class}
use Rattle.rf_problem.specs.Parts.{object_at}
use Rattle.rf_problem.specs.declared.problem.Problem.{Problem}
use Rattle.rf_problem.specs.declared.symbol.Symbol.TheVariants.{Class}
use Rattle.rf_graph.specs.Graph.{class_of, has_edge, origin_of, size_of}
use Rattle.rf_graph.specs.Violations.{Sat}
use Rattle.rf_graph.specs.declared.graph.Graph.{Graph}
use Rattle.rf_state.specs.State.{IsRoot, State, is_candidate, keeps_asserted}
use Rattle.rf_placement.specs.Laws.{RootIsConcretised}
use Rattle.rf_placement.specs.Placed.{IsPlaced}
use Rattle.rf_placement.specs.Placement.{nodes_at}
use Rattle.rf_placement.proofs.Placed.{stands}
use Rattle.rf_placement.proofs.Satisfied.{asserted_kept, node_class, node_origin, object_count, own_class}

module _ (p : Problem) (g : Graph) (sat : Sat p g) where
  own_node : (x : ℕ) → x < size_of g → All (λ z. z < size_of g) (x ∷ [])
  own_node x l zero d k = l
  own_node x l (suc i) d k = absurd (omega arith)

  -- the class of a node keeps what is asserted of each class at its origin
  class_kept : (x : ℕ) → x < size_of g → all_below (length p.classes) (keeps_asserted p (origin_of g x) (class_of g x)) ≡ true
  class_kept x l = all_below-from_each (length p.classes) (keeps_asserted p (origin_of g x) (class_of g x))
      (λ k lk. asserted_kept p g sat (Class k) (x ∷ []) (lt-ltb k (length p.classes) lk) refl (own_node x l))

  own_candidate : (x : ℕ) → x < size_of g → is_candidate p (origin_of g x) (class_of g x) ≡ true
  own_candidate x l =
      let may = may_have_class p.classes (object_at p.objects (origin_of g x)).name (object_at p.objects (origin_of g x)).kind (class_of g x) in
      let kept = all_below (length p.classes) (keeps_asserted p (origin_of g x) (class_of g x)) in
      and_from (is_concrete p.classes (class_of g x)) (may && kept) (node_class p g sat x l) (and_from may kept (own_class p g sat x l) (class_kept x l))

  root_placed : (s : State) → IsRoot p s → IsPlaced p s g (origin_of g)
  root_placed s root = record {
    many = let e = root.many in omega arith;
    numbered = root.origins;
    objects = λ x l. subst (λ n. origin_of g x < n) (sym root.many) (node_origin p g sat x l);
    origins = λ x l. root.origins (origin_of g x) (node_origin p g sat x l);
    counts = λ o l. (
        let there : o < length p.objects = subst (λ n. o < n) root.many l in
        subst (λ count. contains count (nodes_at g (origin_of g) o) ≡ true) (sym (root.counts o there)) (object_count p g sat o there));
    classes = λ x l. root.candidates (origin_of g x) (class_of g x) (node_origin p g sat x l) ∙ own_candidate x l;
    added = λ r x y l lx ly. subst (λ v. keeps v (has_edge g r x y) ≡ true) (sym (root.nothing r (origin_of g x) (origin_of g y))) refl;
  }

pub root_is_concretised : RootIsConcretised
root_is_concretised p s g root sat = record { satisfies = sat; stands = stands p g sat s (origin_of g) (root_placed p g sat s root) }

-- Nodes of the objects of a tuple.
use Rattle.std.proofs.Common.{◌≡◌, ℕ, suc, ◌<◌, true, List, [], ◌∷◌, All, length, map, refl, sym, ap, ap₂, ◌∙◌, arith}
use Rattle.std.specs.Prelude.{nat_le}
use Rattle.std.proofs.lemmas.Bool.{and_parts, ltb-true}
use Rattle.std.proofs.lemmas.List.Elements.{All-cons}
use Rattle.rf_problem.specs.declared.problem.Problem.{Problem}
use Rattle.rf_graph.specs.Graph.{origin_of, size_of}
use Rattle.rf_graph.specs.declared.graph.Graph.{Graph}
use Rattle.rf_state.specs.State.{State, object_of}
use Rattle.rf_rules.specs.Predicates.{are_there, origins_of}
use Rattle.rf_rules.specs.Rules.{are_objects, is_object}
use Rattle.rf_rules.specs.Words.{lo}
use Rattle.rf_placement.specs.Placement.{IsNodeOf, Placing, StandsFor}
use Rattle.rf_placement.proofs.AtObjects.{node_at}

-- a node of each object of a tuple, one by one
abbrev pub AreNodesOf : Graph → Placing → List ℕ → List ℕ → Type 0
AreNodesOf g h [] [] = Unit {0}
AreNodesOf g h [] (x ∷ xs) = ⊥
AreNodesOf g h (o ∷ t) [] = ⊥
AreNodesOf g h (o ∷ t) (x ∷ xs) = IsNodeOf g h o x × AreNodesOf g h t xs

module _ (g : Graph) (h : Placing) where
  pub as_long : (t xs : List ℕ) → AreNodesOf g h t xs → length xs ≡ length t
  as_long [] [] a = refl
  as_long [] (x ∷ xs) a = absurd a
  as_long (o ∷ t) [] a = absurd a
  as_long (o ∷ t) (x ∷ xs) a = ap suc (as_long t xs a.1)

  pub objects_of_nodes : (t xs : List ℕ) → AreNodesOf g h t xs → map h xs ≡ t
  objects_of_nodes [] [] a = refl
  objects_of_nodes [] (x ∷ xs) a = absurd a
  objects_of_nodes (o ∷ t) [] a = absurd a
  objects_of_nodes (o ∷ t) (x ∷ xs) a = ap₂ (λ o t. o ∷ t) a.0.1 (objects_of_nodes t xs a.1)

  pub each_is_node : (t xs : List ℕ) → AreNodesOf g h t xs → All (λ x. x < size_of g) xs
  each_is_node [] [] a = λ i d l. absurd (omega arith)
  each_is_node [] (x ∷ xs) a = absurd a
  each_is_node (o ∷ t) [] a = absurd a
  each_is_node (o ∷ t) (x ∷ xs) a = All-cons (λ x. x < size_of g) x xs a.0.0 (each_is_node t xs a.1)

module _ (p : Problem) (s : State) (g : Graph) (h : Placing) (c : StandsFor p s g h) where
  -- there are such nodes where each object has a node at least
  pub nodes_for : (t : List ℕ) → are_there s t ≡ true → are_objects s t ≡ true → (xs : List ℕ) × AreNodesOf g h t xs
  nodes_for [] there objects = ([], tt)
  nodes_for (o ∷ t) there objects =
      let one = and_parts (nat_le 1 (lo s o)) (are_there s t) there in
      let two = and_parts (is_object s o) (are_objects s t) objects in
      let x = node_at p s g h c o (ltb-true o (length s.objects) two.0) one.0 in
      let rest = nodes_for t one.1 two.1 in
      (x.0 ∷ rest.0, (x.1, rest.1))

  -- nodes come from the objects of the problem that their objects come from
  pub origins_of_nodes : (t xs : List ℕ) → AreNodesOf g h t xs → map (origin_of g) xs ≡ origins_of s t
  origins_of_nodes [] [] a = refl
  origins_of_nodes [] (x ∷ xs) a = absurd a
  origins_of_nodes (o ∷ t) [] a = absurd a
  origins_of_nodes (o ∷ t) (x ∷ xs) a =
      ap₂ (λ i is. i ∷ is) (sym (c.origins x a.0.0) ∙ ap (λ o. (object_of s o).origin) a.0.1) (origins_of_nodes t xs a.1)

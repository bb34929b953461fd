-- The edges of the graph of a state stand for something, and no two are the same.
use Rattle.std.proofs.Common.{◌≡◌, ◌≢◌, ℕ, ◌<◌, length, refl, ap, inl, inr, arith, All, AllPairs}
use Rattle.std.proofs.lemmas.Bool.{cases_Bool, cases_eq}
use Rattle.rf_finite.proofs.Joined.{all_joined, pairs_joined}
use Rattle.rf_problem.specs.declared.problem.Problem.{Problem}
use Rattle.rf_graph.specs.Graph.{FitsEdge}
use Rattle.rf_graph.specs.declared.graph.Edge.{Edge}
use Rattle.rf_state.specs.State.{State}
use Rattle.rf_final.specs.GraphOf.{edge_if, edges_of, is_edge, reference_edges, row_edges}

module _ (p : Problem) (s : State) (n : ℕ) where
  all_here : (P : Edge → Type 0) (r x y : ℕ) → P (record { reference = r; from = x; to = y }) → All P (edge_if (is_edge p s r x y) r x y)
  all_here P r x y h = elim (cases_Bool (is_edge p s r x y)) [
    | inl e ↦ rw e (λ i d l. elim (cases_eq i 0) [ inl z ↦ rw z h | inr ne ↦ absurd (omega arith) ])
    | inr e ↦ rw e (λ i d l. absurd (omega arith))
  ]

  one_here : (r x y : ℕ) → AllPairs (λ (e f : Edge). e ≢ f) (edge_if (is_edge p s r x y) r x y)
  one_here r x y = elim (cases_Bool (is_edge p s r x y)) [
    | inl e ↦ rw e (λ i j d l k. absurd (omega arith))
    | inr e ↦ rw e (λ i j d l k. absurd (omega arith))
  ]

  -- what holds of each possible edge holds of those of a node, and of those of a reference
  all_row : (P : Edge → Type 0) (r x : ℕ) → ((y : ℕ) → y < n → P (record { reference = r; from = x; to = y })) → All P (row_edges p s r x n)
  all_row P r x h = all_joined P n (λ y. edge_if (is_edge p s r x y) r x y) (λ y ly. all_here P r x y (h y ly))

  all_reference : (P : Edge → Type 0) (r : ℕ) → ((x y : ℕ) → x < n → y < n → P (record { reference = r; from = x; to = y }))
      → All P (reference_edges p s r n)
  all_reference P r h = all_joined P n (λ x. row_edges p s r x n) (λ x lx. all_row P r x (λ y ly. h x y lx ly))

  pub edges_fit : All (FitsEdge p n) (edges_of p s n)
  edges_fit = all_joined (FitsEdge p n) (length p.references) (λ r. reference_edges p s r n)
      (λ r lr. all_reference (FitsEdge p n) r (λ x y lx ly. record { reference = lr; from_node = lx; to_node = ly }))

  row_distinct : (r x : ℕ) → AllPairs (λ (e f : Edge). e ≢ f) (row_edges p s r x n)
  row_distinct r x =
      pairs_joined (λ (e f : Edge). e ≢ f) (λ (e : Edge). e.to) n (λ y. edge_if (is_edge p s r x y) r x y)
      (λ e f ne same. ne (ap (λ (e : Edge). e.to) same))
      (λ y ly. all_here (λ (e : Edge). e.to ≡ y) r x y refl) (λ y ly. one_here r x y)

  reference_distinct : (r : ℕ) → AllPairs (λ (e f : Edge). e ≢ f) (reference_edges p s r n)
  reference_distinct r =
      pairs_joined (λ (e f : Edge). e ≢ f) (λ (e : Edge). e.from) n (λ x. row_edges p s r x n)
      (λ e f ne same. ne (ap (λ (e : Edge). e.from) same))
      (λ x lx. all_row (λ (e : Edge). e.from ≡ x) r x (λ y ly. refl)) (λ x lx. row_distinct r x)

  pub edges_distinct : AllPairs (λ (e f : Edge). e ≢ f) (edges_of p s n)
  edges_distinct = pairs_joined (λ (e f : Edge). e ≢ f) (λ (e : Edge). e.reference) (length p.references) (λ r. reference_edges p s r n)
      (λ e f ne same. ne (ap (λ (e : Edge). e.reference) same))
      (λ r lr. all_reference (λ (e : Edge). e.reference ≡ r) r (λ x y lx ly. refl)) (λ r lr. reference_distinct r)

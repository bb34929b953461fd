-- A loop through the edges that keeps the first ends of an edge by which what is asserted isn't satisfied.
use Rattle.std.proofs.Common.{◌≡◌, ℕ, ◌+◌, ◌<◌, ◌≤◌, Bool, true, false, ◌&&◌, ◌||◌, eqb, Option, Some, None, List, [], ◌∷◌, length, take, get_or, refl, sym, ap, ◌∙◌, subst, arith}
use Rattle.std.specs.Prelude.{slice_index}
use Rattle.std.specs.List.{list_any}
use Rattle.std.specs.Cmp.Lexicographic.{slice_cmp, nat_list_cmp_total}
use Rattle.std.specs.Ordering.{nat_cmp}
use Rattle.std.specs.declared.cmp.Ordering.TheVariants.{Less, Equal}
use Rattle.std.proofs.lemmas.Bool.{and_parts, and_from, both_ways, eqb-true, eq-eqb}
use Rattle.std.proofs.lemmas.Cmp.{tied_itself}
use Rattle.std.proofs.lemmas.List.{take_all}
use Rattle.std.proofs.lemmas.List.Elements.{All-cons, All-nil}
use Rattle.std.proofs.lemmas.List.Folds.{list_any_more}
use Rattle.rf_finite.specs.Firsts.{earlier}
use Rattle.rf_finite.specs.Tuples.{IsTuple}
use Rattle.rf_problem.specs.declared.problem.Problem.{Problem}
use Rattle.rf_problem.specs.declared.symbol.Symbol.TheVariants.{Reference}
use Rattle.rf_graph.specs.Graph.{FitsEdge, size_of}
use Rattle.rf_graph.specs.declared.graph.Edge.{Edge}
use Rattle.rf_graph.specs.declared.graph.Graph.{Graph}
use Rattle.rf_satisfy.specs.Edges.{is_edge}
use Rattle.rf_satisfy.specs.Suspects.{is_denied_at, is_excess}
use Rattle.rf_satisfy.specs.Tuples.{IsFirst}
use Rattle.rf_satisfy.proofs.TupleLemmas.{IsFirst-earlier, IsFirst-same}

and-false : (a : Bool) → (a && false) ≡ false
and-false true = refl
and-false false = refl

not_before_itself : (t : List ℕ) → slice_cmp nat_cmp t t ≡ Less → ⊥
not_before_itself t before = let tied : slice_cmp nat_cmp t t ≡ Equal = tied_itself nat_list_cmp_total t in let same : Less ≡ Equal = sym before ∙ tied in cc

-- a pair at an edge is its ends
ends_of : (r n : ℕ) (e : Edge) (u : List ℕ) → IsTuple n 2 u → is_edge r (slice_index u 0) (slice_index u 1) e ≡ true → u ≡ e.from ∷ e.to ∷ []
ends_of r n e [] h t = absurd (let l = h.many in omega arith)
ends_of r n e (x ∷ []) h t = absurd (let l = h.many in omega arith)
ends_of r n e (x ∷ y ∷ []) h t =
    let ends = (and_parts (eqb e.reference r) (eqb e.from x && eqb e.to y) t).1 in
    let both = and_parts (eqb e.from x) (eqb e.to y) ends in
    λ i. sym (eqb-true e.from x both.0) i ∷ sym (eqb-true e.to y both.1) i ∷ []
ends_of r n e (x ∷ y ∷ z ∷ u) h t = absurd (let l = h.many in omega arith)

module _ (p : Problem) (g : Graph) (r : ℕ) where
  abbrev suspect : List ℕ → Bool
  suspect t = is_denied_at p g (Reference r) t

  abbrev at_edge : Edge → List ℕ → Bool
  at_edge e t = is_edge r (slice_index t 0) (slice_index t 1) e && suspect t

  -- the ends of one edge
  pub ends-suspect : (e : Edge) → FitsEdge p (size_of g) e → e.reference ≡ r → suspect (e.from ∷ e.to ∷ []) ≡ true
      → IsFirst (size_of g) 2 (at_edge e) (Some (e.from ∷ e.to ∷ []))
  ends-suspect e fits same s = record {
    passes = (
      record { many = refl; below = All-cons (λ x. x < size_of g) e.from (e.to ∷ []) fits.from_node (All-cons (λ x. x < size_of g) e.to [] fits.to_node (All-nil (λ x. x < size_of g))) },
      and_from (is_edge r e.from e.to e) (suspect (e.from ∷ e.to ∷ []))
          (and_from (eqb e.reference r) (eqb e.from e.from && eqb e.to e.to) (eq-eqb e.reference r same) (and_from (eqb e.from e.from) (eqb e.to e.to) (eq-eqb e.from e.from refl) (eq-eqb e.to e.to refl))) s,
    );
    first = λ u before h.
        let here = ends_of r (size_of g) e u h.0 (and_parts (is_edge r (slice_index u 0) (slice_index u 1) e) (suspect u) h.1).0 in
        not_before_itself (e.from ∷ e.to ∷ []) (subst (λ (w : List ℕ). slice_cmp nat_cmp w (e.from ∷ e.to ∷ []) ≡ Less) here before);
  }

  pub ends-other : (e : Edge) → (e.reference ≡ r → ⊥) → IsFirst (size_of g) 2 (at_edge e) None
  ends-other e other u h =
      let edge = (and_parts (is_edge r (slice_index u 0) (slice_index u 1) e) (suspect u) h.1).0 in
      other (eqb-true e.reference r (and_parts (eqb e.reference r) (eqb e.from (slice_index u 0) && eqb e.to (slice_index u 1)) edge).0)

  pub ends-kept : (e : Edge) → suspect (e.from ∷ e.to ∷ []) ≡ false → IsFirst (size_of g) 2 (at_edge e) None
  ends-kept e kept u h =
      let parts = and_parts (is_edge r (slice_index u 0) (slice_index u 1) e) (suspect u) h.1 in
      let here = ends_of r (size_of g) e u h.0 parts.0 in
      both_ways (suspect (e.from ∷ e.to ∷ [])) kept (subst (λ (w : List ℕ). suspect w ≡ true) here parts.1)

  abbrev among : List Edge → List ℕ → Bool
  among edges t = list_any (is_edge r (slice_index t 0) (slice_index t 1)) edges && suspect t

  either : (a b s : Bool) → ((a && s) || (b && s)) ≡ ((a || b) && s)
  either true true true = refl
  either true true false = refl
  either true false true = refl
  either true false false = refl
  either false b s = refl

  -- one edge more
  pub edges-more : (items : List Edge) (i : ℕ) (e : Edge) (first other : Option (List ℕ)) → i < length items → e ≡ get_or items i e
      → IsFirst (size_of g) 2 (among (take i items)) first → IsFirst (size_of g) 2 (at_edge e) other
      → IsFirst (size_of g) 2 (among (take (i + 1) items)) (earlier (slice_cmp nat_cmp) first other)
  edges-more items i e first other l at h ho =
      IsFirst-same (size_of g) 2 (λ t. among (take i items) t || at_edge e t) (among (take (i + 1) items)) (earlier (slice_cmp nat_cmp) first other)
      (λ t u. either (list_any (is_edge r (slice_index t 0) (slice_index t 1)) (take i items)) (is_edge r (slice_index t 0) (slice_index t 1) e) (suspect t)
      ∙ ap (λ (b : Bool). b && suspect t) (sym (list_any_more (is_edge r (slice_index t 0) (slice_index t 1)) items i e l
      ∙ ap (λ (f : Edge). list_any (is_edge r (slice_index t 0) (slice_index t 1)) (take i items) || is_edge r (slice_index t 0) (slice_index t 1) f) (sym at))))
      (IsFirst-earlier (size_of g) 2 (among (take i items)) (at_edge e) first other h ho)

  -- all edges of the graph
  pub edges-ended : (items : List Edge) (i : ℕ) (first : Option (List ℕ)) → length items ≤ i → items ≡ g.edges
      → IsFirst (size_of g) 2 (among (take i items)) first → IsFirst (size_of g) 2 (is_excess p g (Reference r)) first
  edges-ended items i first l e h =
      let whole : take i items ≡ g.edges = take_all i items l ∙ e in
      IsFirst-same (size_of g) 2 (among g.edges) (is_excess p g (Reference r)) first (λ t u. refl) (rw whole at h)

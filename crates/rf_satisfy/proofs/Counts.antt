-- How many edges of a list of distinct edges lead from a node, or to it: as many as nodes at which they end.
use Rattle.std.proofs.Common.{◌≡◌, ℕ, suc, ◌+◌, ◌<◌, Bool, true, false, not, ◌&&◌, ◌||◌, cond, eqb, List, [], ◌∷◌, get_or, refl, sym, ap, ◌∙◌, zero-add, inl, inr, arith}
use Rattle.std.proofs.lemmas.Bool.{and_parts, and_from, cases_Bool, cases_eq, false_from_ne_true, ne_eqb, eq-eqb, eqb-true}
use Rattle.std.proofs.lemmas.List.Folds.{list_any_none}
use Rattle.std.proofs.lemmas.List.Sums.{sum_by-cons}
use Rattle.std.specs.List.{list_any}
use Rattle.std.specs.Prelude.{All, AllPairs, count_by, ◌≢◌}
use Rattle.rf_finite.specs.Range.{count_below}
use Rattle.rf_finite.proofs.Range.{count_below-none, count_below-same, count_below-without}
use Rattle.rf_graph.specs.declared.graph.Edge.{Edge}
use Rattle.rf_graph.specs.declared.graph.Graph.{Graph}
use Rattle.rf_graph.specs.Graph.{Fits, has_edge, size_of}
use Rattle.rf_graph.specs.Violations.{degree_of}
use Rattle.rf_problem.specs.declared.problem.Problem.{Problem}
use Rattle.rf_satisfy.specs.Edges.{is_edge, is_from, is_into}
use Rattle.rf_satisfy.proofs.Keys.{and_right}

-- what is tested of the edges, at which node they end, and which edge it is that ends there
module _ (passes : Edge → Bool) (node : Edge → ℕ) (at : ℕ → Edge → Bool) (is_at : (y : ℕ) (e : Edge) → at y e ≡ (passes e && eqb (node e) y))
    (same : (e f : Edge) → passes e ≡ true → passes f ≡ true → node e ≡ node f → e ≡ f) where
  -- none is left that ends where this one does
  none_after : (e : Edge) (es : List Edge) → passes e ≡ true → AllPairs (λ f g. f ≢ g) (e ∷ es) → list_any (at (node e)) es ≡ false
  none_after e es t d = list_any_none (at (node e)) es (λ k z l. false_from_ne_true (at (node e) (get_or es k z)) (λ a.
      let parts = and_parts (passes (get_or es k z)) (eqb (node (get_or es k z)) (node e)) (sym (is_at (node e) (get_or es k z)) ∙ a) in
      d 0 (suc k) z (omega arith) (omega arith) (same e (get_or es k z) t parts.0 (sym (eqb-true (node (get_or es k z)) (node e) parts.1)))))

  at_other : (e : Edge) (y : ℕ) → passes e ≡ false → at y e ≡ false
  at_other e y f = is_at y e ∙ ap (λ b. b && eqb (node e) y) f

  at_own : (e : Edge) → passes e ≡ true → at (node e) e ≡ true
  at_own e t = is_at (node e) e ∙ and_from (passes e) (eqb (node e) (node e)) t (eq-eqb (node e) (node e) refl)

  without : (e : Edge) (es : List Edge) → passes e ≡ true → list_any (at (node e)) es ≡ false → (k : ℕ)
      → (not (eqb k (node e)) && (at k e || list_any (at k) es)) ≡ list_any (at k) es
  without e es t none k = elim (cases_eq k (node e)) [
    | inl s ↦ (let q : eqb k (node e) ≡ true = eq-eqb k (node e) s in
        let n : list_any (at k) es ≡ false = ap (λ m. list_any (at m) es) s ∙ none in rw (q, n) refl)
    | inr ne ↦ (let q : eqb k (node e) ≡ false = ne_eqb k (node e) ne in
        let p : eqb (node e) k ≡ false = ne_eqb (node e) k (λ s. ne (sym s)) in
        let n : at k e ≡ false = is_at k e ∙ (rw (t, p) refl) in rw (q, n) refl)
  ]

  -- as many edges pass as there are nodes at which one that passes ends
  pub count_by-ends : (n : ℕ) (es : List Edge) → All (λ e. node e < n) es → AllPairs (λ e f. e ≢ f) es
      → count_by passes es ≡ count_below n (λ y. list_any (at y) es)
  count_by-ends n [] into d = sym (count_below-none n (λ y. false) (λ k l. refl))
  count_by-ends n (e ∷ es) into d =
      let rest = count_by-ends n es (λ k z l. into (suc k) z (omega arith)) (λ i j z l h. d (suc i) (suc j) z (omega arith) (omega arith)) in
      sum_by-cons (λ f. cond (passes f) 1 0) e es ∙ elim (cases_Bool (passes e)) [
        | inl t ↦ (let none = none_after e es t d in
            let own : (at (node e) e || list_any (at (node e)) es) ≡ true = ap (λ b. b || list_any (at (node e)) es) (at_own e t) in
            let one = count_below-without n (λ y. at y e || list_any (at y) es) (node e) (into 0 e (omega arith)) own in
            let others = count_below-same n (λ k. not (eqb k (node e)) && (at k e || list_any (at k) es)) (λ k. list_any (at k) es) (λ k l. without e es t none k) in
            ap (λ b. cond b 1 0 + count_by passes es) t ∙ ap (λ m. 1 + m) (rest ∙ sym others) ∙ omega (arith, one))
        | inr f ↦ (let others = count_below-same n (λ y. at y e || list_any (at y) es) (λ y. list_any (at y) es) (λ k l. (let o = at_other e k f in rw o refl)) in
            ap (λ b. cond b 1 0 + count_by passes es) f ∙ zero-add (count_by passes es) ∙ rest ∙ sym others)
      ]

same_edge : (e f : Edge) → e.reference ≡ f.reference → e.from ≡ f.from → e.to ≡ f.to → e ≡ f
same_edge e f r x y = λ i. record { reference = r i; from = x i; to = y i }

and_last : (a b c : Bool) → (a && (b && c)) ≡ ((a && c) && b)
and_last true true true = refl
and_last true true false = refl
and_last true false true = refl
and_last true false false = refl
and_last false b c = refl

-- as many edges of a reference lead from a node as there are nodes to which one does
pub count_by-is_from : (n : ℕ) (es : List Edge) (r x : ℕ) → All (λ e. e.to < n) es → AllPairs (λ e f. e ≢ f) es
    → count_by (is_from r x) es ≡ count_below n (λ y. list_any (is_edge r x y) es)
count_by-is_from n es r x = count_by-ends (is_from r x) (λ e. e.to) (λ y. is_edge r x y)
    (λ y e. and_right (eqb e.reference r) (eqb e.from x) (eqb e.to y))
    (λ e f a b s.
    let p = and_parts (eqb e.reference r) (eqb e.from x) a in let q = and_parts (eqb f.reference r) (eqb f.from x) b in
    same_edge e f (eqb-true e.reference r p.0 ∙ sym (eqb-true f.reference r q.0)) (eqb-true e.from x p.1 ∙ sym (eqb-true f.from x q.1)) s)
    n es

-- and as many lead to it as there are nodes from which one does
pub count_by-is_into : (n : ℕ) (es : List Edge) (r y : ℕ) → All (λ e. e.from < n) es → AllPairs (λ e f. e ≢ f) es
    → count_by (is_into r y) es ≡ count_below n (λ x. list_any (is_edge r x y) es)
count_by-is_into n es r y = count_by-ends (is_into r y) (λ e. e.from) (λ x. is_edge r x y)
    (λ x e. and_last (eqb e.reference r) (eqb e.from x) (eqb e.to y))
    (λ e f a b s.
    let p = and_parts (eqb e.reference r) (eqb e.to y) a in let q = and_parts (eqb f.reference r) (eqb f.to y) b in
    same_edge e f (eqb-true e.reference r p.0 ∙ sym (eqb-true f.reference r q.0)) s (eqb-true e.to y p.1 ∙ sym (eqb-true f.to y q.1)))
    n es

-- in a graph that fits: how many edges of a reference lead from a node
pub count_by-degree : (p : Problem) (g : Graph) (r x : ℕ) → Fits p g → count_by (is_from r x) g.edges ≡ degree_of g r x
count_by-degree p g r x fits = count_by-is_from (size_of g) g.edges r x (λ k z l. (fits.edges k z l).to_node) fits.distinct

-- and how many into it
pub count_by-sources : (p : Problem) (g : Graph) (r y : ℕ) → Fits p g
    → count_by (is_into r y) g.edges ≡ count_below (size_of g) (λ x. has_edge g r x y)
count_by-sources p g r y fits = count_by-is_into (size_of g) g.edges r y (λ k z l. (fits.edges k z l).from_node) fits.distinct

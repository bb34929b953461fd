-- Lists of the nodes at the other ends of edges, with one edge more, and which nodes they have.
use Rattle.std.proofs.Common.{◌≡◌, ℕ, ◌+◌, ◌<◌, Bool, true, false, ◌&&◌, ◌||◌, cond, eqb, Some, List, [], ◌∷◌, ◌++◌, length, get_or, take, refl, sym, ap, ◌∙◌, subst, inl, inr}
use Rattle.std.specs.Prelude.{Vec, All}
use Rattle.std.specs.declared.alloc.Global.{Global}
use Rattle.std.specs.BTreeMap.{BTreeMap, get}
use Rattle.std.specs.Cmp.{unsigned_ties, both_tied}
use Rattle.std.specs.List.{list_any}
use Rattle.std.specs.Ordering.{is_eq}
use Rattle.std.proofs.lemmas.Bool.{and_parts, cases_Bool, eq-eqb, eqb-true}
use Rattle.std.proofs.lemmas.List.Folds.{Any-from_list_any, list_any-append, list_any_more, list_any_at}
use Rattle.rf_problem.specs.declared.problem.Problem.{Problem}
use Rattle.rf_graph.specs.Graph.{Fits, FitsEdge, has_edge, size_of}
use Rattle.rf_graph.specs.declared.graph.Edge.{Edge}
use Rattle.rf_graph.specs.declared.graph.Graph.{Graph}
use Rattle.rf_satisfy.specs.Edges.{is_edge}
use Rattle.rf_satisfy.specs.EdgeEnds.{AreFrom, AreInto, End, end_cmp, ends_at, is_end, is_listed}
use Rattle.rf_satisfy.specs.NodeLists.{items_of}
use Rattle.rf_satisfy.proofs.Keys.{and_right}

abbrev pub Lists : Type 0
Lists = BTreeMap End (Vec ℕ Global)

-- ends are tied where they are the same
is_end-tied : (a b : End) → is_end a b ≡ is_eq (end_cmp a b)
is_end-tied a b = both_tied _ _ _ _ (unsigned_ties a.0 b.0) (unsigned_ties a.1 b.1)

-- the list of one end is replaced by one with a node more
pub ends_at-more : (old new : Lists) (a : End) (x : ℕ) (v : Vec ℕ Global)
    → ((q : End) → get end_cmp new q ≡ cond (is_eq (end_cmp a q)) (Some v) (get end_cmp old q))
    → v.items ≡ ends_at old a ++ x ∷ []
    → (q : End) → ends_at new q ≡ cond (is_end a q) (ends_at old q ++ x ∷ []) (ends_at old q)
ends_at-more old new a x v put items q = elim (cases_Bool (is_end a q)) [
  | inl e ↦
      (let tied : is_eq (end_cmp a q) ≡ true = sym (is_end-tied a q) ∙ e in
      let parts = and_parts (eqb a.0 q.0) (eqb a.1 q.1) e in
      let first = eqb-true a.0 q.0 parts.0 in
      let second = eqb-true a.1 q.1 parts.1 in
      let same : ends_at old a ≡ ends_at old q = λ i. ends_at old (first i, second i) in
      ap items_of (put q ∙ ap (λ (b : Bool). cond b (Some v) (get end_cmp old q)) tied)
      ∙ (items ∙ (ap (λ (l : List ℕ). l ++ x ∷ []) same
      ∙ sym (ap (λ (b : Bool). cond b (ends_at old q ++ x ∷ []) (ends_at old q)) e))))
  | inr e ↦
      (let apart : is_eq (end_cmp a q) ≡ false = sym (is_end-tied a q) ∙ e in
      ap items_of (put q ∙ ap (λ (b : Bool). cond b (Some v) (get end_cmp old q)) apart)
      ∙ sym (ap (λ (b : Bool). cond b (ends_at old q ++ x ∷ []) (ends_at old q)) e))
]

or_false : (c : Bool) → (c || false) ≡ c
or_false true = refl
or_false false = refl

-- whether a node is listed with one node more
is_listed-more : (b : Bool) (l : List ℕ) (x y : ℕ) → is_listed (cond b (l ++ x ∷ []) l) y ≡ (is_listed l y || (b && eqb x y))
is_listed-more true l x y = list_any-append (λ z. eqb z y) l (x ∷ []) ∙ ap (λ (c : Bool). is_listed l y || c) (or_false (eqb x y))
is_listed-more false l x y = sym (or_false (is_listed l y))

and_turned : (a b c : Bool) → ((a && b) && c) ≡ (a && (c && b))
and_turned true true true = refl
and_turned true true false = refl
and_turned true false true = refl
and_turned true false false = refl
and_turned false b c = refl

-- one edge more
pub AreFrom-more : (old new : Lists) (edges : List Edge) (i : ℕ) (d : Edge) → i < length edges
    → ((q : End) → ends_at new q
    ≡ cond (is_end ((get_or edges i d).reference, (get_or edges i d).from) q) (ends_at old q ++ (get_or edges i d).to ∷ []) (ends_at old q))
    → AreFrom old (take i edges) → AreFrom new (take (i + 1) edges)
AreFrom-more old new edges i d l put held r x y =
    let e = get_or edges i d in
    ap (λ (nodes : List ℕ). is_listed nodes y) (put (r, x))
    ∙ (is_listed-more (is_end (e.reference, e.from) (r, x)) (ends_at old (r, x)) e.to y
    ∙ (ap (λ (b : Bool). b || (is_end (e.reference, e.from) (r, x) && eqb e.to y)) (held r x y)
    ∙ (ap (λ (b : Bool). list_any (is_edge r x y) (take i edges) || b) (sym (and_right (eqb e.reference r) (eqb e.from x) (eqb e.to y)))
    ∙ sym (list_any_more (is_edge r x y) edges i d l))))

pub AreInto-more : (old new : Lists) (edges : List Edge) (i : ℕ) (d : Edge) → i < length edges
    → ((q : End) → ends_at new q
    ≡ cond (is_end ((get_or edges i d).reference, (get_or edges i d).to) q) (ends_at old q ++ (get_or edges i d).from ∷ []) (ends_at old q))
    → AreInto old (take i edges) → AreInto new (take (i + 1) edges)
AreInto-more old new edges i d l put held r x y =
    let e = get_or edges i d in
    ap (λ (nodes : List ℕ). is_listed nodes x) (put (r, y))
    ∙ (is_listed-more (is_end (e.reference, e.to) (r, y)) (ends_at old (r, y)) e.from x
    ∙ (ap (λ (b : Bool). b || (is_end (e.reference, e.to) (r, y) && eqb e.from x)) (held r x y)
    ∙ (ap (λ (b : Bool). list_any (is_edge r x y) (take i edges) || b) (and_turned (eqb e.reference r) (eqb e.to y) (eqb e.from x))
    ∙ sym (list_any_more (is_edge r x y) edges i d l))))

-- the ends of an edge of a graph that fits are nodes
edge-nodes : (p : Problem) (g : Graph) (r x y : ℕ) → Fits p g → has_edge g r x y ≡ true → (x < size_of g) × (y < size_of g)
edge-nodes p g r x y fits h =
    let one = Any-from_list_any (is_edge r x y) g.edges h in
    let e = one.1 in
    let fit : FitsEdge p (length g.nodes) e = subst (FitsEdge p (length g.nodes)) one.3 (fits.edges one.0 e one.2) in
    let parts = and_parts (eqb e.reference r) (eqb e.from x && eqb e.to y) one.4 in
    let ends = and_parts (eqb e.from x) (eqb e.to y) parts.1 in (
      subst (λ (m : ℕ). m < size_of g) (eqb-true e.from x ends.0) fit.from_node,
      subst (λ (m : ℕ). m < size_of g) (eqb-true e.to y ends.1) fit.to_node,
    )

-- all nodes that are listed are so where each listed one is
All-listed : (n : ℕ) (nodes : List ℕ) → ((x : ℕ) → is_listed nodes x ≡ true → x < n) → All (λ x. x < n) nodes
All-listed n nodes h k d l = h (get_or nodes k d) (list_any_at (λ y. eqb y (get_or nodes k d)) nodes k d l (eq-eqb (get_or nodes k d) (get_or nodes k d) refl))

pub ends_from-nodes : (p : Problem) (g : Graph) (r x : ℕ) (nodes : List ℕ) → Fits p g → ((y : ℕ) → is_listed nodes y ≡ has_edge g r x y) → All (λ y. y < size_of g) nodes
ends_from-nodes p g r x nodes fits listed = All-listed (size_of g) nodes (λ y h. (edge-nodes p g r x y fits (sym (listed y) ∙ h)).1)

pub ends_into-nodes : (p : Problem) (g : Graph) (r y : ℕ) (nodes : List ℕ) → Fits p g → ((x : ℕ) → is_listed nodes x ≡ has_edge g r x y) → All (λ x. x < size_of g) nodes
ends_into-nodes p g r y nodes fits listed = All-listed (size_of g) nodes (λ x h. (edge-nodes p g r x y fits (sym (listed x) ∙ h)).0)

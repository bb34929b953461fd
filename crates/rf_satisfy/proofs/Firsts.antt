-- The first violation of a kind, met in a search through numbers, or as the first of a list of edges.
use Rattle.std.proofs.Common.{◌≡◌, ℕ, ◌+◌, ◌<◌, ◌≤◌, Bool, true, false, ◌&&◌, ◌||◌, eqb, Option, Some, None, List, length, get_or, take, refl, sym, ap, ◌∙◌, subst, ◌⊎◌, inl, inr, arith}
use Rattle.std.specs.Prelude.{All, nat_lt}
use Rattle.std.specs.List.{list_any}
use Rattle.std.specs.Option.{option_map}
use Rattle.std.proofs.lemmas.Bool.{and_parts, and_from, or_cases, or_left, or_right, cases_Bool, both_ways, false_from_ne_true, eq-eqb, eqb-true, ltb-true, lt-ltb}
use Rattle.std.proofs.lemmas.List.{take_all}
use Rattle.std.proofs.lemmas.List.Elements.{All-more}
use Rattle.std.proofs.lemmas.List.Folds.{Any-from_list_any, list_any_kept, list_any_more}
use Rattle.rf_finite.specs.Range.{first_below}
use Rattle.rf_finite.proofs.Range.{first_below-at, first_below-none}
use Rattle.rf_graph.specs.First.{first_edge_of, when}
use Rattle.rf_graph.specs.Graph.{Fits, FitsEdge, has_edge, size_of}
use Rattle.rf_graph.specs.declared.graph.Edge.{Edge}
use Rattle.rf_graph.specs.declared.graph.Graph.{Graph}
use Rattle.rf_graph.specs.declared.verdict.Violation.{Violation}
use Rattle.rf_problem.specs.declared.problem.Problem.{Problem}
use Rattle.rf_satisfy.specs.Edges.{is_edge}
use Rattle.rf_satisfy.specs.Least.{IsFirstFailing, IsLeast, comes_before, earlier}

pub when-true : (b : Bool) (v : Violation) → b ≡ true → when b v ≡ Some v
when-true b v t = ap (λ c. when c v) t

pub when-false : (b : Bool) (v : Violation) → b ≡ false → when b v ≡ None
when-false b v f = ap (λ c. when c v) f

-- a search that has found nothing below k and finds something there
pub first_below-when : (n : ℕ) (test : ℕ → Bool) (v : ℕ → Violation) (k : ℕ) → k < n → first_below k (λ x. when (test x) (v x)) ≡ None
    → test k ≡ true → Some (v k) ≡ first_below n (λ x. when (test x) (v x))
first_below-when n test v k l none t =
    sym (first_below-at n (λ x. when (test x) (v x)) k (v k) l none (when-true (test k) (v k) t))

-- edge e comes before edge f
abbrev pub Before : Edge → Edge → Type 0
Before e f = (e.reference < f.reference) ⊎ ((e.reference ≡ f.reference) × ((e.from < f.from) ⊎ ((e.from ≡ f.from) × (e.to < f.to))))

pub comes_before-from : (e f : Edge) → Before e f → comes_before e f ≡ true
comes_before-from e f b = elim b [
  | inl l ↦ or_left (nat_lt e.reference f.reference) (eqb e.reference f.reference && (nat_lt e.from f.from || (eqb e.from f.from && nat_lt e.to f.to))) (lt-ltb e.reference f.reference l)
  | inr s ↦ or_right (nat_lt e.reference f.reference) (eqb e.reference f.reference && (nat_lt e.from f.from || (eqb e.from f.from && nat_lt e.to f.to)))
      (and_from (eqb e.reference f.reference) (nat_lt e.from f.from || (eqb e.from f.from && nat_lt e.to f.to)) (eq-eqb e.reference f.reference s.0) (elim s.1 [
        | inl l ↦ or_left (nat_lt e.from f.from) (eqb e.from f.from && nat_lt e.to f.to) (lt-ltb e.from f.from l)
        | inr t ↦ or_right (nat_lt e.from f.from) (eqb e.from f.from && nat_lt e.to f.to) (and_from (eqb e.from f.from) (nat_lt e.to f.to) (eq-eqb e.from f.from t.0) (lt-ltb e.to f.to t.1))
      ]))
]

pub Before-from : (e f : Edge) → comes_before e f ≡ true → Before e f
Before-from e f h = elim (or_cases (nat_lt e.reference f.reference) (eqb e.reference f.reference && (nat_lt e.from f.from || (eqb e.from f.from && nat_lt e.to f.to))) h) [
  | inl l ↦ inl (ltb-true e.reference f.reference l)
  | inr s ↦ (let p = and_parts (eqb e.reference f.reference) (nat_lt e.from f.from || (eqb e.from f.from && nat_lt e.to f.to)) s in
      inr (
        eqb-true e.reference f.reference p.0,
        elim (or_cases (nat_lt e.from f.from) (eqb e.from f.from && nat_lt e.to f.to) p.1) [
          | inl l ↦ inl (ltb-true e.from f.from l)
          | inr t ↦ (let q = and_parts (eqb e.from f.from) (nat_lt e.to f.to) t in inr (eqb-true e.from f.from q.0, ltb-true e.to f.to q.1))
        ],
      ))
]

Before-itself : (e : Edge) → Before e e → ⊥
Before-itself e b = elim b [ inl l ↦ omega arith | inr s ↦ elim s.1 [ inl l ↦ omega arith | inr t ↦ (let l = t.1 in omega arith) ] ]

Before-trans : (e f g : Edge) → Before e f → Before f g → Before e g
Before-trans e f g a b = elim a [
  | inl l ↦ elim b [ inl m ↦ inl (omega arith) | inr t ↦ (let m = t.0 in inl (omega arith)) ]
  | inr s ↦ (let l = s.0 in elim b [
    | inl m ↦ inl (omega arith)
    | inr t ↦ (let m = t.0 in inr (
      omega arith,
      elim s.1 [
        | inl k ↦ elim t.1 [ inl n ↦ inl (omega arith) | inr u ↦ (let n = u.0 in inl (omega arith)) ]
        | inr v ↦ (let k = v.0 in let j = v.1 in elim t.1 [ inl n ↦ inl (omega arith) | inr u ↦ (let n = u.0 in let i = u.1 in inr (omega arith, omega arith)) ])
      ],
    ))
  ])
]

comes_before-itself : (e : Edge) → comes_before e e ≡ false
comes_before-itself e = false_from_ne_true (comes_before e e) (λ t. Before-itself e (Before-from e e t))

-- what doesn't come before f doesn't come before an e that does
not_before : (g e f : Edge) → comes_before e f ≡ true → comes_before g f ≡ false → comes_before g e ≡ false
not_before g e f ef gf = false_from_ne_true (comes_before g e) (λ ge.
    both_ways (comes_before g f) gf (comes_before-from g f (Before-trans g e f (Before-from g e ge) (Before-from e f ef))))

is_edge-itself : (e : Edge) → is_edge e.reference e.from e.to e ≡ true
is_edge-itself e = and_from (eqb e.reference e.reference) (eqb e.from e.from && eqb e.to e.to) (eq-eqb e.reference e.reference refl)
    (and_from (eqb e.from e.from) (eqb e.to e.to) (eq-eqb e.from e.from refl) (eq-eqb e.to e.to refl))

-- a loop through the edges that keeps the first that fails
module _ (fails : Edge → Bool) (edges : List Edge) (i : ℕ) (d : Edge) (l : i < length edges) where
  there_now : list_any (is_edge (get_or edges i d).reference (get_or edges i d).from (get_or edges i d).to) (take (i + 1) edges) ≡ true
  there_now = let e = get_or edges i d in
      list_any_more (is_edge e.reference e.from e.to) edges i d l
      ∙ or_right (list_any (is_edge e.reference e.from e.to) (take i edges)) (is_edge e.reference e.from e.to e) (is_edge-itself e)

  failing : (least : Option Edge) → IsFirstFailing fails (take i edges) least → fails (get_or edges i d) ≡ true
      → IsFirstFailing fails (take (i + 1) edges) (earlier least (get_or edges i d))
  failing None h t = record {
    there = there_now;
    itself = t;
    first = All-more (λ f. fails f ≡ true → comes_before f (get_or edges i d) ≡ false) edges i d l
        (λ k z m f. absurd (both_ways (fails (get_or (take i edges) k z)) (h k z m) f)) (λ f. comes_before-itself (get_or edges i d));
  }
  failing (Some f) h t = let e = get_or edges i d in elim (cases_Bool (comes_before e f)) [
    | inl b ↦ rw b record {
      there = there_now;
      itself = t;
      first = All-more (λ g. fails g ≡ true → comes_before g e ≡ false) edges i d l
          (λ k z m g. not_before (get_or (take i edges) k z) e f b (h.first k z m g)) (λ g. comes_before-itself e);
    }
    | inr b ↦ rw b record {
      there = list_any_kept (is_edge f.reference f.from f.to) edges i h.there;
      itself = h.itself;
      first = All-more (λ g. fails g ≡ true → comes_before g f ≡ false) edges i d l h.first (λ g. b);
    }
  ]

  passing : (least : Option Edge) → IsFirstFailing fails (take i edges) least → fails (get_or edges i d) ≡ false
      → IsFirstFailing fails (take (i + 1) edges) least
  passing None h p = All-more (λ f. fails f ≡ false) edges i d l h p
  passing (Some f) h p = record {
    there = list_any_kept (is_edge f.reference f.from f.to) edges i h.there;
    itself = h.itself;
    first = All-more (λ g. fails g ≡ true → comes_before g f ≡ false) edges i d l h.first (λ t. absurd (both_ways (fails (get_or edges i d)) p t));
  }

-- the first that fails, once the loop has come to the end
pub IsFirstFailing-ended : (fails : Edge → Bool) (items edges : List Edge) (i : ℕ) (least found : Option Edge) → length items ≤ i → items ≡ edges → least ≡ found
    → IsFirstFailing fails (take i items) least → IsFirstFailing fails edges found
IsFirstFailing-ended fails items edges i least found l same is h =
    let all : take i items ≡ edges = take_all i items l ∙ same in
    subst (IsFirstFailing fails edges) is (subst (λ es. IsFirstFailing fails es least) all h)

-- the first that fails, with one edge more
pub IsFirstFailing-more : (fails : Edge → Bool) (edges : List Edge) (i : ℕ) (d : Edge) (least now : Option Edge) → i < length edges → IsFirstFailing fails (take i edges) least
    → (fails (get_or edges i d) ≡ true) × (now ≡ earlier least (get_or edges i d)) ⊎ (fails (get_or edges i d) ≡ false) × (now ≡ least)
    → IsFirstFailing fails (take (i + 1) edges) now
IsFirstFailing-more fails edges i d least now l h s = elim s [
  | inl t ↦ subst (IsFirstFailing fails (take (i + 1) edges)) (sym t.1) (failing fails edges i d l least h t.0)
  | inr f ↦ subst (IsFirstFailing fails (take (i + 1) edges)) (sym f.1) (passing fails edges i d l least h f.0)
]

-- what holds of each edge of a graph holds of one that it has
at_edge : (P : Edge → Type 0) (g : Graph) → All P g.edges → (r x y : ℕ) → has_edge g r x y ≡ true → P record { reference = r; from = x; to = y }
at_edge P g all r x y h =
    let one = Any-from_list_any (is_edge r x y) g.edges h in
    let e = one.1 in
    let same = and_parts (eqb e.reference r) (eqb e.from x && eqb e.to y) one.4 in
    let ends = and_parts (eqb e.from x) (eqb e.to y) same.1 in
    let is : e ≡ record { reference = r; from = x; to = y } =
    λ i. record { reference = eqb-true e.reference r same.0 i; from = eqb-true e.from x ends.0 i; to = eqb-true e.to y ends.1 i } in
    subst P is (subst P one.3 (all one.0 e one.2))

-- the first edge of the list that fails is that of the search through references and nodes
module _ (p : Problem) (g : Graph) (fits : Fits p g) (fails : ℕ → ℕ → ℕ → Bool) (v : ℕ → ℕ → ℕ → Violation) where
  abbrev pub fails_edge : Edge → Bool
  fails_edge e = fails e.reference e.from e.to

  abbrev at : ℕ → ℕ → ℕ → Option Violation
  at r x y = when (has_edge g r x y && fails r x y) (v r x y)

  abbrev at_node : ℕ → ℕ → Option Violation
  at_node r x = first_below (size_of g) (at r x)

  abbrev at_reference : ℕ → Option Violation
  at_reference r = first_below (size_of g) (at_node r)

  -- nothing is found where no edge fails
  quiet : (r x y : ℕ) → (has_edge g r x y ≡ true → fails r x y ≡ true → ⊥) → at r x y ≡ None
  quiet r x y none = when-false (has_edge g r x y && fails r x y) (v r x y) (false_from_ne_true (has_edge g r x y && fails r x y) (λ t.
      let parts = and_parts (has_edge g r x y) (fails r x y) t in none parts.0 parts.1))

  before : (e : Edge) → IsLeast fails_edge g.edges e → (r x y : ℕ) → Before record { reference = r; from = x; to = y } e → at r x y ≡ None
  before e h r x y b = quiet r x y (λ has t.
      both_ways (comes_before record { reference = r; from = x; to = y } e)
      (at_edge (λ f. fails_edge f ≡ true → comes_before f e ≡ false) g h.first r x y has t)
      (comes_before-from record { reference = r; from = x; to = y } e b))

  pub first_edge_of-least : (least : Option Edge) → IsFirstFailing fails_edge g.edges least
      → option_map (λ e. v e.reference e.from e.to) least ≡ first_edge_of p g (λ r x y. when (has_edge g r x y && fails r x y) (v r x y))
  first_edge_of-least None h =
      sym (first_below-none (length p.references) at_reference (λ r a. first_below-none (size_of g) (at_node r) (λ x b. first_below-none (size_of g) (at r x) (λ y c.
      quiet r x y (λ has t. both_ways (fails r x y) (at_edge (λ f. fails_edge f ≡ false) g h r x y has) t)))))
  first_edge_of-least (Some e) h =
      let fit = at_edge (FitsEdge p (size_of g)) g fits.edges e.reference e.from e.to h.there in
      sym (first_below-at (length p.references) at_reference e.reference (v e.reference e.from e.to) fit.reference
      (first_below-none e.reference at_reference (λ r a. first_below-none (size_of g) (at_node r) (λ x b. first_below-none (size_of g) (at r x) (λ y c.
      before e h r x y (inl a)))))
      (first_below-at (size_of g) (at_node e.reference) e.from (v e.reference e.from e.to) fit.from_node
      (first_below-none e.from (at_node e.reference) (λ x b. first_below-none (size_of g) (at e.reference x) (λ y c.
      before e h e.reference x y (inr (refl, inl b)))))
      (first_below-at (size_of g) (at e.reference e.from) e.to (v e.reference e.from e.to) fit.to_node
      (first_below-none e.to (at e.reference e.from) (λ y c. before e h e.reference e.from y (inr (refl, inr (refl, c)))))
      (when-true (has_edge g e.reference e.from e.to && fails e.reference e.from e.to) (v e.reference e.from e.to)
      (and_from (has_edge g e.reference e.from e.to) (fails e.reference e.from e.to) h.there h.itself)))))

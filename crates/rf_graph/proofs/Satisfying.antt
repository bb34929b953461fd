-- What satisfies, kind by kind, in positive words and without violations.
use Rattle.std.proofs.Common.{◌≡◌, ℕ, zero, suc, ◌+◌, ◌≤◌, ◌<◌, Bool, true, false, not, ◌&&◌, cond, eqb, Some, List, length, map, All, refl, sym, ap, ◌∙◌, subst, inl, inr, arith, true≢false}
use Rattle.std.proofs.lemmas.Bool.{and_parts, both_ways, cases_Bool, cases_eq, cases_lt, false_from_ne_true, ne_eqb, eq-eqb}
use Rattle.rf_finite.specs.Range.{count_below, sum_below}
use Rattle.rf_finite.proofs.Range.{count_below-none, count_below-positive, count_below-without, one-from_count_below, same-from_count_below, sum_below-le, sum_below-one, sum_below-term, sum_below-two_terms}
use Rattle.rf_values.specs.Count.{contains}
use Rattle.rf_values.specs.Truth.{keeps}
use Rattle.rf_values.specs.declared.truth.Truth.{Truth}
use Rattle.rf_values.specs.declared.truth.Truth.TheVariants.{True, False, Unknown, Error}
use Rattle.rf_problem.specs.Asserted.{admitted, asserted}
use Rattle.rf_problem.specs.Classes.{IsBelow, class_at, is_below}
use Rattle.rf_problem.specs.Parts.{arity_of, object_at, reference_at, scope_at}
use Rattle.rf_problem.specs.Valid.{is_declared}
use Rattle.rf_problem.specs.declared.problem.Problem.{Problem}
use Rattle.rf_problem.specs.declared.symbol.Symbol.{Symbol}
use Rattle.rf_problem.proofs.Below.{IsBelow-from_is_below, is_below-from_IsBelow}
use Rattle.rf_graph.specs.Evaluate.{holds}
use Rattle.rf_graph.specs.First.{breaks, may_come_from}
use Rattle.rf_graph.specs.Graph.{Fits, HasEdge, class_of, has_edge, origin_of, size_of}
use Rattle.rf_graph.specs.Satisfied.{FitsEnds, HasContainer, IsContained, IsSatisfied, Satisfies}
use Rattle.rf_problem.specs.Contained.{is_containing}
use Rattle.rf_graph.specs.Violations.{IsViolation, Sat, container_count, degree_of, is_counted, nodes_from}
use Rattle.rf_graph.specs.declared.graph.Graph.{Graph}
use Rattle.rf_graph.specs.declared.verdict.Violation.{Violation}
use Rattle.rf_graph.specs.declared.verdict.Violation.TheVariants.{Class, Edge, Opposite, Degree, Containers, Cycle, Object, Asserted, Scope}
use Rattle.rf_graph.proofs.Edges.{HasEdge-from_has_edge, has_edge-from_HasEdge}
use Rattle.rf_graph.proofs.FirstOfKind.{IsBroken-from_test, MayHaveClass-from_test, edge-fits, is_broken, test-from_IsBroken, test-from_MayHaveClass}

-- a sum that isn't zero has a term that isn't
one-from_sum_below : (n : ℕ) (p : ℕ → Bool) (f : ℕ → ℕ) → 1 ≤ sum_below n p f → (k : ℕ) × (k < n) × (p k ≡ true) × (1 ≤ f k)
one-from_sum_below zero p f h = absurd (omega arith)
one-from_sum_below (suc n) p f h = elim (cases_lt 0 (sum_below n p f)) [
  | inl l ↦ (let one = one-from_sum_below n p f l in let k = one.1 in (one.0, omega arith, one.2, one.3))
  | inr none ↦ elim (cases_Bool (p n)) [
    | inl t ↦ (let last : 1 ≤ sum_below n p f + f n = rw t at h in (n, omega arith, t, omega arith))
    | inr e ↦ (let last : 1 ≤ sum_below n p f + 0 = rw e at h in absurd (omega arith))
  ]
]

-- what is asserted is kept where it isn't broken
keeps-breaks : (v : Truth) (b : Bool) → keeps v b ≡ not (breaks v b)
keeps-breaks True true = refl
keeps-breaks True false = refl
keeps-breaks False b = refl
keeps-breaks Unknown b = refl
keeps-breaks Error b = refl

module _ (p : Problem) (g : Graph) (fits : Fits p g) where
  -- how many edges of reference r contain node z
  abbrev from_reference : ℕ → ℕ → ℕ
  from_reference z r = count_below (size_of g) (λ x. has_edge g r x z)

  -- an edge that contains a node counts
  container_count-positive : (r x z : ℕ) → is_containing p r ≡ true → HasEdge g r x z → 1 ≤ container_count p g z
  container_count-positive r x z c e =
      let fit = edge-fits p g fits r x z e in
      let own = count_below-positive (size_of g) (λ y. has_edge g r y z) x fit.from_node (has_edge-from_HasEdge g r x z e) in
      let all = sum_below-term (length p.references) (is_containing p) (from_reference z) r fit.reference c in
      omega arith

  -- where at most one counts, two are the same
  same-container : (z : ℕ) → container_count p g z ≤ 1 → (q r x y : ℕ) → is_containing p q ≡ true → is_containing p r ≡ true → HasEdge g q x z → HasEdge g r y z → (q ≡ r) × (x ≡ y)
  same-container z few q r x y cq cr e f =
      let fit_e = edge-fits p g fits q x z e in
      let fit_f = edge-fits p g fits r y z f in
      let has_e = has_edge-from_HasEdge g q x z e in
      let has_f = has_edge-from_HasEdge g r y z f in
      elim (cases_eq q r) [
        | inl same ↦ (let one = sum_below-term (length p.references) (is_containing p) (from_reference z) r fit_f.reference cr in
            let here : has_edge g r x z ≡ true = subst (λ (k : ℕ). has_edge g k x z ≡ true) same has_e in
            (same, same-from_count_below (size_of g) (λ k. has_edge g r k z) x y (omega arith) fit_e.from_node fit_f.from_node here has_f))
        | inr apart ↦ (let two = sum_below-two_terms (length p.references) (is_containing p) (from_reference z) q r fit_e.reference fit_f.reference apart cq cr in
            let at_q = count_below-positive (size_of g) (λ k. has_edge g q k z) x fit_e.from_node has_e in
            let at_r = count_below-positive (size_of g) (λ k. has_edge g r k z) y fit_f.from_node has_f in
            absurd (omega arith))
      ]

  -- where one counts, it can be named
  HasContainer-from_count : (z : ℕ) → 1 ≤ container_count p g z → HasContainer p g z
  HasContainer-from_count z some =
      let at = one-from_sum_below (length p.references) (is_containing p) (from_reference z) some in
      let from = one-from_count_below (size_of g) (λ x. has_edge g at.0 x z) at.3 in
      record { r = at.0; x = from.0; containing = at.2; edge = HasEdge-from_has_edge g at.0 from.0 z from.2 }

  -- where two that count are the same, at most one does
  module _ (z : ℕ) (once : (q r x y : ℕ) → is_containing p q ≡ true → is_containing p r ≡ true → HasEdge g q x z → HasEdge g r y z → (q ≡ r) × (x ≡ y)) where
    only-term : (h : HasContainer p g z) → (k : ℕ) → k < length p.references → is_containing p k ≡ true → from_reference z k ≤ cond (eqb h.r k) 1 0
    only-term h k l c = elim (cases_eq h.r k) [
      | inl same ↦ (let here : has_edge g k h.x z ≡ true = subst (λ (q : ℕ). has_edge g q h.x z ≡ true) same (has_edge-from_HasEdge g h.r h.x z h.edge) in
          let split = count_below-without (size_of g) (λ x. has_edge g k x z) h.x (edge-fits p g fits h.r h.x z h.edge).from_node here in
          let none = count_below-none (size_of g) (λ x. not (eqb x h.x) && has_edge g k x z) (λ x lx. false_from_ne_true (not (eqb x h.x) && has_edge g k x z) (λ t.
          let parts = and_parts (not (eqb x h.x)) (has_edge g k x z) t in
          let own = (once k h.r x h.x c h.containing (HasEdge-from_has_edge g k x z parts.1) h.edge).1 in
          true≢false (sym parts.0 ∙ ap not (eq-eqb x h.x own)))) in
          rw (eq-eqb h.r k same) (omega arith))
      | inr apart ↦ (let none = count_below-none (size_of g) (λ x. has_edge g k x z) (λ x lx. false_from_ne_true (has_edge g k x z) (λ t.
          apart (sym (once k h.r x h.x c h.containing (HasEdge-from_has_edge g k x z t) h.edge).0))) in
          rw (ne_eqb h.r k apart) (omega arith))
    ]

    container_count-once : container_count p g z ≤ 1
    container_count-once = elim (cases_lt 0 (container_count p g z)) [
      | inl some ↦ (let h = HasContainer-from_count z some in
          let n = length p.references in
          let all = sum_below-le n (is_containing p) (from_reference z) (λ k. cond (eqb h.r k) 1 0) (only-term h) in
          let one = (sum_below-one n (is_containing p) h.r).0 (edge-fits p g fits h.r h.x z h.edge).reference in
          let own : sum_below n (is_containing p) (λ k. cond (eqb h.r k) 1 0) ≡ 1 = one ∙ rw h.containing refl in
          omega arith)
      | inr none ↦ omega arith
    ]

  -- what holds of a graph that has no violations
  module _ (none : (v : Violation) → IsViolation p g v → ⊥) where
    below : (r x y c d : ℕ) → (is_below p.classes c d ≡ false → IsViolation p g (Edge r x y)) → IsBelow p.classes c d
    below r x y c d fails = elim (cases_Bool (is_below p.classes c d)) [
      | inl t ↦ IsBelow-from_is_below p.classes c d t
      | inr f ↦ absurd (none (Edge r x y) (fails f))
    ]

    ends : (r x y : ℕ) → HasEdge g r x y → FitsEnds p g r x y
    ends r x y e =
        let source = (reference_at p.references r).source in
        let target = (reference_at p.references r).target in
        record {
          source = below r x y (class_of g x) source (λ f. record {
            edge = e;
            ends = λ s t. both_ways (is_below p.classes (class_of g x) source) f (is_below-from_IsBelow p.classes (class_of g x) source s);
          });
          target = below r x y (class_of g y) target (λ f. record {
            edge = e;
            ends = λ s t. both_ways (is_below p.classes (class_of g y) target) f (is_below-from_IsBelow p.classes (class_of g y) target t);
          });
        }

    back : (r s x y : ℕ) → HasEdge g r x y → (reference_at p.references r).opposite ≡ Some s → HasEdge g s y x
    back r s x y e o = elim (cases_Bool (has_edge g s y x)) [
      | inl t ↦ HasEdge-from_has_edge g s y x t
      | inr f ↦ absurd (none (Opposite r x y) (record { edge = e; s = s; opposite = o; missing = λ h. both_ways (has_edge g s y x) f (has_edge-from_HasEdge g s y x h) }))
    ]

    passes : (b : Bool) (v : Violation) → (b ≡ false → IsViolation p g v) → b ≡ true
    passes b v fails = elim (cases_Bool b) [ inl t ↦ t | inr f ↦ absurd (none v (fails f)) ]

    contained : (z : ℕ) → z < size_of g → IsContained p g z
    contained z l = record {
      once = same-container z (elim (cases_lt 1 (container_count p g z)) [
        | inl two ↦ absurd (none (Containers z) (record { node = l; pairs = inl two }))
        | inr few ↦ few
      ]);
      somewhere = λ c. elim (cases_lt 0 (container_count p g z)) [
        | inl some ↦ HasContainer-from_count z some
        | inr zero_ ↦ absurd (none (Containers z) (record { node = l; pairs = inr (omega arith, c) }))
      ];
    }

    satisfied : (o : ℕ) → o < length p.objects → IsSatisfied p g o
    satisfied o l = record {
      number = passes (contains (admitted p o) (nodes_from g o)) (Object o) (λ f. record { object = l; fails = inl f });
      classes = λ x node from. MayHaveClass-from_test p g (object_at p.objects o).name (object_at p.objects o).kind (class_of g x)
          (passes (may_come_from p g o x) (Object o) (λ f. record {
            object = l;
            fails = inr record {
              x = x;
              node = node;
              origin = from;
              other = λ may. both_ways (may_come_from p g o x) f (test-from_MayHaveClass p g (object_at p.objects o).name (object_at p.objects o).kind (class_of g x) may);
            };
          }));
    }

    kept : (symbol : Symbol) (t : List ℕ) → is_declared (length p.classes) (length p.references) (length p.predicates) symbol ≡ true
        → length t ≡ arity_of p.predicates symbol → All (λ x. x < size_of g) t → keeps (asserted p symbol (map (origin_of g) t)) (holds p g symbol t) ≡ true
    kept symbol t d e all = elim (cases_Bool (is_broken p g symbol t)) [
      | inl broken ↦ absurd (none (Asserted symbol t) (IsBroken-from_test p g symbol t d e all broken))
      | inr whole ↦ keeps-breaks (asserted p symbol (map (origin_of g) t)) (holds p g symbol t) ∙ ap not whole
    ]

    pub Satisfies-from_none : Satisfies p g
    Satisfies-from_none = record {
      classes = λ x l. false_from_ne_true (class_at p.classes (class_of g x)).is_abstract (λ a. none (Class x) (record { node = l; abstract_class = a }));
      edges = ends;
      opposites = back;
      degrees = λ r x k l s. passes (contains (reference_at p.references r).range (degree_of g r x)) (Degree r x) (λ f. record { reference = k; node = l; source = s; outside = f });
      containers = contained;
      no_cycle = λ x l c. none (Cycle x) (record { node = l; cycle = c });
      objects = satisfied;
      asserts = kept;
      scopes = λ s l. passes (contains (scope_at p.scopes s).range (count_below (size_of g) (is_counted p g (scope_at p.scopes s)))) (Scope s) (λ f. record { scope = l; outside = f });
    }

  -- and a graph of which this holds has none
  pub no_violation-from_Satisfies : Satisfies p g → (v : Violation) → IsViolation p g v → ⊥
  no_violation-from_Satisfies s (Class x) h = true≢false (sym h.abstract_class ∙ s.classes x h.node)
  no_violation-from_Satisfies s (Edge r x y) h = let fit = s.edges r x y h.edge in h.ends fit.source fit.target
  no_violation-from_Satisfies s (Opposite r x y) h = h.missing (s.opposites r h.s x y h.edge h.opposite)
  no_violation-from_Satisfies s (Degree r x) h =
      both_ways (contains (reference_at p.references r).range (degree_of g r x)) h.outside (s.degrees r x h.reference h.node h.source)
  no_violation-from_Satisfies s (Containers z) h = elim h.pairs [
    | inl two ↦ (let few = container_count-once z (s.containers z h.node).once in omega arith)
    | inr wants ↦ (let one = (s.containers z h.node).somewhere wants.1 in
        let some = container_count-positive one.r one.x z one.containing one.edge in
        let zero_ = wants.0 in
        omega arith)
  ]
  no_violation-from_Satisfies s (Cycle x) h = s.no_cycle x h.node h.cycle
  no_violation-from_Satisfies s (Object o) h = elim h.fails [
    | inl f ↦ both_ways (contains (admitted p o) (nodes_from g o)) f (s.objects o h.object).number
    | inr stranger ↦ stranger.other ((s.objects o h.object).classes stranger.x stranger.node stranger.origin)
  ]
  no_violation-from_Satisfies s (Asserted symbol t) h =
      let broken = test-from_IsBroken p g symbol t h in
      true≢false (sym (s.asserts symbol t h.declared h.arity h.nodes) ∙ (keeps-breaks (asserted p symbol (map (origin_of g) t)) (holds p g symbol t) ∙ ap not broken))
  no_violation-from_Satisfies s (Scope k) h =
      both_ways (contains (scope_at p.scopes k).range (count_below (size_of g) (is_counted p g (scope_at p.scopes k)))) h.outside (s.scopes k h.scope)

  pub Satisfies-from_Sat : Sat p g → Satisfies p g
  Satisfies-from_Sat s = Satisfies-from_none s.no_violation

  pub Sat-from_Satisfies : Satisfies p g → Sat p g
  Sat-from_Satisfies s = record { fits = fits; no_violation = no_violation-from_Satisfies s }

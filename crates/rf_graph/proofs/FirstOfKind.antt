-- The first violation of each kind, computed and in words.
use Rattle.std.proofs.Common.{◌≡◌, ◌⊎◌, ℕ, ◌≤◌, ◌<◌, Bool, true, false, not, ◌&&◌, ◌||◌, ◌==◌, nat_le, Option, Some, None, List, [], ◌∷◌, ◌++◌, length, map, All, append-nil, refl, sym, subst, inl, inr, true≢false}
use Rattle.std.specs.Option.{option_or}
use Rattle.std.proofs.lemmas.Bool.{and_parts, and_from, or_cases, or_left, or_right, or_from, or_parts, both_ways, not-true, not-false, not_from_false, not_from_true, false_from_ne_true, leb-true, le-leb, ltb-true, lt-ltb, eqb-true, eq-eqb}
use Rattle.std.proofs.lemmas.List.Elements.{All-contains}
use Rattle.rf_finite.specs.Range.{count_below, first_below}
use Rattle.rf_finite.specs.Walks.{walk_below}
use Rattle.rf_finite.proofs.Range.{one-from_some_below, some_below-from_one}
use Rattle.rf_finite.proofs.Walks.{IsReachable-from_walk_below, walk_below-from_IsWalk}
use Rattle.rf_values.specs.Count.{contains}
use Rattle.rf_values.specs.declared.truth.Truth.{Truth}
use Rattle.rf_values.specs.declared.truth.Truth.TheVariants.{True, False, Unknown, Error}
use Rattle.rf_problem.specs.Asserted.{admitted, asserted}
use Rattle.rf_problem.specs.Parts.{arity_of, object_at, reference_at, scope_at}
use Rattle.rf_problem.specs.Classes.{class_at, is_below, may_have_class}
use Rattle.rf_problem.specs.Contained.{is_contained_class}
use Rattle.rf_problem.specs.Valid.{is_declared}
use Rattle.rf_problem.specs.declared.object.ObjectKind.{ObjectKind}
use Rattle.rf_problem.specs.declared.object.ObjectKind.TheVariants.{Plain, Atom, LiteralOf}
use Rattle.rf_problem.specs.declared.object.ObjectName.{ObjectName}
use Rattle.rf_problem.specs.declared.object.ObjectName.TheVariants.{Named, NewOf}
use Rattle.rf_problem.specs.declared.problem.Problem.{Problem}
use Rattle.rf_problem.specs.declared.symbol.Symbol.{Symbol}
use Rattle.rf_problem.specs.declared.symbol.Symbol.TheVariants.{Class as OfClass, Reference, Predicate, Exists, Equals}
use Rattle.rf_problem.proofs.Below.{IsBelow-from_is_below, is_below-from_IsBelow}
use Rattle.rf_graph.specs.Evaluate.{holds}
use Rattle.rf_graph.specs.First.{breaks, first_asserted, first_broken, first_class, first_containers, first_cycle, first_degree, first_edge, first_edge_of, first_object, first_opposite, first_scope, fits_ends, has_mirror, has_stranger, is_in_range, may_come_from, is_wrongly_contained, when}
use Rattle.rf_graph.specs.Graph.{Fits, FitsEdge, HasEdge, class_of, has_edge, origin_of, size_of}
use Rattle.rf_graph.specs.Holds.{Holds}
use Rattle.rf_graph.specs.Violations.{Breaks, HasStranger, IsBroken, IsWronglyContained, IsMisplaced, IsOfAbstractClass, IsOffScope, IsOnCycle, IsOneWay, IsOutOfRange, IsUnsatisfied, MayHaveClass, container_count, degree_of, contains_in, is_counted, nodes_from, sort_key}
use Rattle.rf_graph.specs.declared.graph.Graph.{Graph}
use Rattle.rf_graph.specs.declared.verdict.Violation.{Violation}
use Rattle.rf_graph.specs.declared.verdict.Violation.TheVariants.{Class, Edge, Opposite, Degree, Containers, Cycle, Object, Asserted, Scope}
use Rattle.rf_graph.proofs.Edges.{HasEdge-from_has_edge, has_edge-from_HasEdge}
use Rattle.rf_finite.proofs.KeyedFirsts.{HasPrefix, IsKeyedFirst, IsKeyedFirst-below, IsKeyedFirst-last, IsKeyedFirst-or, IsKeyedFirst-row, IsKeyedFirst-same, IsKeyedFirst-tuple, IsKeyedFirst-one, IsThis, SomeBelow, SomeTuple}
use Rattle.rf_graph.proofs.Meaning.{Holds-from_holds, holds-from_Holds}

-- violations of one number below a bound
IsFirst-numbers : (kind n : ℕ) (this : ℕ → Violation) (test : ℕ → Bool) → ((x : ℕ) → sort_key (this x) ≡ kind ∷ x ∷ [])
    → IsKeyedFirst sort_key (HasPrefix (kind ∷ [])) (SomeBelow n (λ x. IsThis (this x) (test x))) (first_below n (λ x. when (test x) (this x)))
IsFirst-numbers kind n this test key = IsKeyedFirst-below sort_key (kind ∷ []) n (λ x. when (test x) (this x)) (λ x. IsThis (this x) (test x))
    (λ x l. IsKeyedFirst-one sort_key (this x) (test x) (kind ∷ x ∷ []) (key x))

module _ (p : Problem) (g : Graph) where
  -- violations of an edge
  abbrev AtEdges : (ℕ → ℕ → ℕ → Violation) → (ℕ → ℕ → ℕ → Bool) → Violation → Type 0
  AtEdges this test = SomeBelow (length p.references) (λ r. SomeBelow (size_of g) (λ x. SomeBelow (size_of g) (λ y. IsThis (this r x y) (test r x y))))

  IsFirst-edges : (kind : ℕ) (this : ℕ → ℕ → ℕ → Violation) (test : ℕ → ℕ → ℕ → Bool) → ((r x y : ℕ) → sort_key (this r x y) ≡ kind ∷ r ∷ x ∷ y ∷ [])
      → IsKeyedFirst sort_key (HasPrefix (kind ∷ [])) (AtEdges this test) (first_edge_of p g (λ r x y. when (test r x y) (this r x y)))
  IsFirst-edges kind this test key =
      IsKeyedFirst-below sort_key (kind ∷ []) (length p.references) (λ r. first_below (size_of g) (λ x. first_below (size_of g) (λ y. when (test r x y) (this r x y))))
      (λ r. SomeBelow (size_of g) (λ x. SomeBelow (size_of g) (λ y. IsThis (this r x y) (test r x y))))
      (λ r k. IsKeyedFirst-below sort_key (kind ∷ r ∷ []) (size_of g) (λ x. first_below (size_of g) (λ y. when (test r x y) (this r x y)))
      (λ x. SomeBelow (size_of g) (λ y. IsThis (this r x y) (test r x y)))
      (λ x l. IsKeyedFirst-below sort_key (kind ∷ r ∷ x ∷ []) (size_of g) (λ y. when (test r x y) (this r x y)) (λ y. IsThis (this r x y) (test r x y))
      (λ y m. IsKeyedFirst-one sort_key (this r x y) (test r x y) (kind ∷ r ∷ x ∷ y ∷ []) (key r x y))))

  -- nodes of abstract classes
  abbrev pub OfAbstractClass : Violation → Type 0
  OfAbstractClass v = (x : ℕ) × (v ≡ Class x) × IsOfAbstractClass p g x

  pub first_class-IsFirst : IsKeyedFirst sort_key (HasPrefix (0 ∷ [])) OfAbstractClass (first_class p g)
  first_class-IsFirst = IsKeyedFirst-same sort_key (HasPrefix (0 ∷ [])) (SomeBelow (size_of g) (λ x. IsThis (Class x) (class_at p.classes (class_of g x)).is_abstract)) OfAbstractClass (first_class p g)
      (IsFirst-numbers 0 (size_of g) (λ x. Class x) (λ x. (class_at p.classes (class_of g x)).is_abstract) (λ x. refl))
      (λ v s. (s.0, s.2.0, record { node = s.1; abstract_class = s.2.1 }))
      (λ v s. (s.0, s.2.node, (s.1, s.2.abstract_class)))

  -- edges of a graph that fits lead between its nodes, by references that are there
  pub edge-fits : Fits p g → (r x y : ℕ) → HasEdge g r x y → FitsEdge p (size_of g) (record { reference = r; from = x; to = y })
  edge-fits fits r x y h = All-contains (FitsEdge p (length g.nodes)) g.edges (record { reference = r; from = x; to = y }) fits.edges h

  -- misplaced edges
  abbrev pub Misplaced : Violation → Type 0
  Misplaced v = (r : ℕ) × (x : ℕ) × (y : ℕ) × (v ≡ Edge r x y) × IsMisplaced p g r x y

  IsMisplaced-from_test : (r x y : ℕ) → (has_edge g r x y && not (fits_ends p g r x y)) ≡ true → IsMisplaced p g r x y
  IsMisplaced-from_test r x y h =
      let parts = and_parts (has_edge g r x y) (not (fits_ends p g r x y)) h in
      record {
        edge = HasEdge-from_has_edge g r x y parts.0;
        ends = λ s t. both_ways (fits_ends p g r x y) (not-true (fits_ends p g r x y) parts.1)
            (and_from (is_below p.classes (class_of g x) (reference_at p.references r).source) (is_below p.classes (class_of g y) (reference_at p.references r).target)
            (is_below-from_IsBelow p.classes (class_of g x) (reference_at p.references r).source s) (is_below-from_IsBelow p.classes (class_of g y) (reference_at p.references r).target t));
      }

  test-from_IsMisplaced : (r x y : ℕ) → IsMisplaced p g r x y → (has_edge g r x y && not (fits_ends p g r x y)) ≡ true
  test-from_IsMisplaced r x y m =
      and_from (has_edge g r x y) (not (fits_ends p g r x y)) (has_edge-from_HasEdge g r x y m.edge)
      (not_from_false (fits_ends p g r x y) (false_from_ne_true (fits_ends p g r x y) (λ h.
      let parts = and_parts (is_below p.classes (class_of g x) (reference_at p.references r).source) (is_below p.classes (class_of g y) (reference_at p.references r).target) h in
      m.ends (IsBelow-from_is_below p.classes (class_of g x) (reference_at p.references r).source parts.0)
      (IsBelow-from_is_below p.classes (class_of g y) (reference_at p.references r).target parts.1))))

  pub first_edge-IsFirst : Fits p g → IsKeyedFirst sort_key (HasPrefix (1 ∷ [])) Misplaced (first_edge p g)
  first_edge-IsFirst fits = IsKeyedFirst-same sort_key (HasPrefix (1 ∷ [])) (AtEdges (λ r x y. Edge r x y) (λ r x y. has_edge g r x y && not (fits_ends p g r x y))) Misplaced (first_edge p g)
      (IsFirst-edges 1 (λ r x y. Edge r x y) (λ r x y. has_edge g r x y && not (fits_ends p g r x y)) (λ r x y. refl))
      (λ v s. (s.0, s.2.0, s.2.2.0, s.2.2.2.0, IsMisplaced-from_test s.0 s.2.0 s.2.2.0 s.2.2.2.1))
      (λ v s. (let fit = edge-fits fits s.0 s.1 s.2 s.4.edge in
      (s.0, fit.reference, (s.1, fit.from_node, (s.2, fit.to_node, (s.3, test-from_IsMisplaced s.0 s.1 s.2 s.4))))))

  -- edges without the mirrored one
  abbrev pub OneWay : Violation → Type 0
  OneWay v = (r : ℕ) × (x : ℕ) × (y : ℕ) × (v ≡ Opposite r x y) × IsOneWay p g r x y

  Missing-from_test : (o : Option ℕ) (x y : ℕ) → has_mirror g o x y ≡ false → (s : ℕ) × (o ≡ Some s) × (HasEdge g s y x → ⊥)
  Missing-from_test None x y h = absurd (true≢false h)
  Missing-from_test (Some s) x y h = (s, refl, λ e. both_ways (has_edge g s y x) h (has_edge-from_HasEdge g s y x e))

  test-from_missing : (o : Option ℕ) (s x y : ℕ) → o ≡ Some s → (HasEdge g s y x → ⊥) → has_mirror g o x y ≡ false
  test-from_missing o s x y e missing = subst (λ (o : Option ℕ). has_mirror g o x y ≡ false) (sym e)
      (false_from_ne_true (has_edge g s y x) (λ h. missing (HasEdge-from_has_edge g s y x h)))

  pub first_opposite-IsFirst : Fits p g → IsKeyedFirst sort_key (HasPrefix (2 ∷ [])) OneWay (first_opposite p g)
  first_opposite-IsFirst fits =
      IsKeyedFirst-same sort_key (HasPrefix (2 ∷ [])) (AtEdges (λ r x y. Opposite r x y) (λ r x y. has_edge g r x y && not (has_mirror g (reference_at p.references r).opposite x y))) OneWay (first_opposite p g)
      (IsFirst-edges 2 (λ r x y. Opposite r x y) (λ r x y. has_edge g r x y && not (has_mirror g (reference_at p.references r).opposite x y)) (λ r x y. refl))
      (λ v s. (s.0, s.2.0, s.2.2.0, s.2.2.2.0, to s.0 s.2.0 s.2.2.0 s.2.2.2.1))
      (λ v s. (let fit = edge-fits fits s.0 s.1 s.2 s.4.edge in
      (s.0, fit.reference, (s.1, fit.from_node, (s.2, fit.to_node, (s.3, from s.0 s.1 s.2 s.4))))))
    where
      to : (r x y : ℕ) → (has_edge g r x y && not (has_mirror g (reference_at p.references r).opposite x y)) ≡ true → IsOneWay p g r x y
      to r x y h =
          let parts = and_parts (has_edge g r x y) (not (has_mirror g (reference_at p.references r).opposite x y)) h in
          let missing = Missing-from_test (reference_at p.references r).opposite x y (not-true (has_mirror g (reference_at p.references r).opposite x y) parts.1) in
          record { edge = HasEdge-from_has_edge g r x y parts.0; s = missing.0; opposite = missing.1; missing = missing.2 }

      from : (r x y : ℕ) → IsOneWay p g r x y → (has_edge g r x y && not (has_mirror g (reference_at p.references r).opposite x y)) ≡ true
      from r x y m = and_from (has_edge g r x y) (not (has_mirror g (reference_at p.references r).opposite x y)) (has_edge-from_HasEdge g r x y m.edge)
          (not_from_false (has_mirror g (reference_at p.references r).opposite x y) (test-from_missing (reference_at p.references r).opposite m.s x y m.opposite m.missing))

  -- numbers of edges out of range
  abbrev pub OutOfRange : Violation → Type 0
  OutOfRange v = (r : ℕ) × (x : ℕ) × (v ≡ Degree r x) × IsOutOfRange p g r x

  abbrev AtDegrees : Violation → Type 0
  AtDegrees = SomeBelow (length p.references) (λ r. SomeBelow (size_of g) (λ x. IsThis (Degree r x) (not (is_in_range p g r x))))

  pub first_degree-IsFirst : IsKeyedFirst sort_key (HasPrefix (3 ∷ [])) OutOfRange (first_degree p g)
  first_degree-IsFirst = IsKeyedFirst-same sort_key (HasPrefix (3 ∷ [])) AtDegrees OutOfRange (first_degree p g)
      (IsKeyedFirst-below sort_key (3 ∷ []) (length p.references) (λ r. first_below (size_of g) (λ x. when (not (is_in_range p g r x)) (Degree r x)))
      (λ r. SomeBelow (size_of g) (λ x. IsThis (Degree r x) (not (is_in_range p g r x))))
      (λ r k. IsKeyedFirst-below sort_key (3 ∷ r ∷ []) (size_of g) (λ x. when (not (is_in_range p g r x)) (Degree r x)) (λ x. IsThis (Degree r x) (not (is_in_range p g r x)))
      (λ x l. IsKeyedFirst-one sort_key (Degree r x) (not (is_in_range p g r x)) (3 ∷ r ∷ x ∷ []) refl)))
      (λ v s. (s.0, s.2.0, s.2.2.0, to s.0 s.2.0 s.1 s.2.1 s.2.2.1))
      (λ v s. (s.0, s.3.reference, (s.1, s.3.node, (s.2, from s.0 s.1 s.3))))
    where
      to : (r x : ℕ) → r < length p.references → x < size_of g → not (is_in_range p g r x) ≡ true → IsOutOfRange p g r x
      to r x k l h =
          let below = is_below p.classes (class_of g x) (reference_at p.references r).source in
          let within = contains (reference_at p.references r).range (degree_of g r x) in
          let parts = or_parts (not below) within (not-true (is_in_range p g r x) h) in
          record {
            reference = k;
            node = l;
            source = IsBelow-from_is_below p.classes (class_of g x) (reference_at p.references r).source (not-false below parts.0);
            outside = parts.1;
          }

      from : (r x : ℕ) → IsOutOfRange p g r x → not (is_in_range p g r x) ≡ true
      from r x m =
          let below = is_below p.classes (class_of g x) (reference_at p.references r).source in
          let within = contains (reference_at p.references r).range (degree_of g r x) in
          not_from_false (is_in_range p g r x) (or_from (not below) within
          (not_from_true below (is_below-from_IsBelow p.classes (class_of g x) (reference_at p.references r).source m.source)) m.outside)

  -- nodes that are held too often, or not at all
  abbrev pub WronglyContained : Violation → Type 0
  WronglyContained v = (z : ℕ) × (v ≡ Containers z) × IsWronglyContained p g z

  pub first_containers-IsFirst : IsKeyedFirst sort_key (HasPrefix (4 ∷ [])) WronglyContained (first_containers p g)
  first_containers-IsFirst = IsKeyedFirst-same sort_key (HasPrefix (4 ∷ [])) (SomeBelow (size_of g) (λ z. IsThis (Containers z) (is_wrongly_contained p g z))) WronglyContained (first_containers p g)
      (IsFirst-numbers 4 (size_of g) (λ z. Containers z) (λ z. is_wrongly_contained p g z) (λ z. refl))
      (λ v s. (s.0, s.2.0, record { node = s.1; pairs = to s.0 s.2.1 }))
      (λ v s. (s.0, s.2.node, (s.1, from s.0 s.2.pairs)))
    where
      to : (z : ℕ) → is_wrongly_contained p g z ≡ true → (2 ≤ container_count p g z) ⊎ ((container_count p g z ≡ 0) × (is_contained_class p (class_of g z) ≡ true))
      to z h = elim (or_cases (nat_le 2 (container_count p g z)) (container_count p g z == 0 && is_contained_class p (class_of g z)) h) [
        | inl e ↦ inl (leb-true 2 (container_count p g z) e)
        | inr e ↦ (let parts = and_parts (container_count p g z == 0) (is_contained_class p (class_of g z)) e in inr (eqb-true (container_count p g z) 0 parts.0, parts.1))
      ]

      from : (z : ℕ) → (2 ≤ container_count p g z) ⊎ ((container_count p g z ≡ 0) × (is_contained_class p (class_of g z) ≡ true)) → is_wrongly_contained p g z ≡ true
      from z h = elim h [
        | inl l ↦ or_left (nat_le 2 (container_count p g z)) (container_count p g z == 0 && is_contained_class p (class_of g z)) (le-leb 2 (container_count p g z) l)
        | inr e ↦ or_right (nat_le 2 (container_count p g z)) (container_count p g z == 0 && is_contained_class p (class_of g z))
            (and_from (container_count p g z == 0) (is_contained_class p (class_of g z)) (eq-eqb (container_count p g z) 0 e.0) e.1)
      ]

  -- nodes on a cycle
  abbrev pub OnCycle : Violation → Type 0
  OnCycle v = (x : ℕ) × (v ≡ Cycle x) × IsOnCycle p g x

  pub first_cycle-IsFirst : IsKeyedFirst sort_key (HasPrefix (5 ∷ [])) OnCycle (first_cycle p g)
  first_cycle-IsFirst =
      IsKeyedFirst-same sort_key (HasPrefix (5 ∷ [])) (SomeBelow (size_of g) (λ x. IsThis (Cycle x) (walk_below (contains_in p g) (λ y. true) (size_of g) x x))) OnCycle (first_cycle p g)
      (IsFirst-numbers 5 (size_of g) (λ x. Cycle x) (λ x. walk_below (contains_in p g) (λ y. true) (size_of g) x x) (λ x. refl))
      (λ v s. (s.0, s.2.0, record { node = s.1; cycle = IsReachable-from_walk_below (contains_in p g) (λ y. true) (size_of g) s.0 s.0 s.2.1 }))
      (λ v s. (s.0, s.2.node, (s.1, walk_below-from_IsWalk (contains_in p g) (λ y. true) (size_of g) s.0 s.2.cycle.0 s.0 s.2.cycle.1)))

  -- objects with a wrong number of nodes, or with a stranger
  abbrev pub Unsatisfied : Violation → Type 0
  Unsatisfied v = (o : ℕ) × (v ≡ Object o) × IsUnsatisfied p g o

  pub MayHaveClass-from_test : (name : ObjectName) (kind : ObjectKind) (c : ℕ) → may_have_class p.classes name kind c ≡ true → MayHaveClass p.classes name kind c
  MayHaveClass-from_test (NewOf k) kind c h = eqb-true c k h
  MayHaveClass-from_test (Named name) (LiteralOf e) c h = eqb-true c e h
  MayHaveClass-from_test (Named name) Plain c h = not-true (class_at p.classes c).is_enum h
  MayHaveClass-from_test (Named name) Atom c h = not-true (class_at p.classes c).is_enum h

  pub test-from_MayHaveClass : (name : ObjectName) (kind : ObjectKind) (c : ℕ) → MayHaveClass p.classes name kind c → may_have_class p.classes name kind c ≡ true
  test-from_MayHaveClass (NewOf k) kind c h = eq-eqb c k h
  test-from_MayHaveClass (Named name) (LiteralOf e) c h = eq-eqb c e h
  test-from_MayHaveClass (Named name) Plain c h = not_from_false (class_at p.classes c).is_enum h
  test-from_MayHaveClass (Named name) Atom c h = not_from_false (class_at p.classes c).is_enum h

  -- whether node x is a stranger to object o
  abbrev is_stranger : ℕ → ℕ → Bool
  is_stranger o x = origin_of g x == o && not (may_come_from p g o x)

  HasStranger-from_test : (o : ℕ) → has_stranger p g o ≡ true → HasStranger p g o
  HasStranger-from_test o h =
      let one = one-from_some_below (size_of g) (is_stranger o) h in
      let parts = and_parts (origin_of g one.0 == o) (not (may_come_from p g o one.0)) one.2 in
      record {
        x = one.0;
        node = one.1;
        origin = eqb-true (origin_of g one.0) o parts.0;
        other = λ may. both_ways (may_come_from p g o one.0) (not-true (may_come_from p g o one.0) parts.1)
            (test-from_MayHaveClass (object_at p.objects o).name (object_at p.objects o).kind (class_of g one.0) may);
      }

  test-from_HasStranger : (o : ℕ) → HasStranger p g o → has_stranger p g o ≡ true
  test-from_HasStranger o s = some_below-from_one (size_of g) (is_stranger o) s.x s.node
      (and_from (origin_of g s.x == o) (not (may_come_from p g o s.x)) (eq-eqb (origin_of g s.x) o s.origin)
      (not_from_false (may_come_from p g o s.x) (false_from_ne_true (may_come_from p g o s.x) (λ may.
      s.other (MayHaveClass-from_test (object_at p.objects o).name (object_at p.objects o).kind (class_of g s.x) may)))))

  abbrev is_unsatisfied : ℕ → Bool
  is_unsatisfied o = not (contains (admitted p o) (nodes_from g o)) || has_stranger p g o

  pub first_object-IsFirst : IsKeyedFirst sort_key (HasPrefix (6 ∷ [])) Unsatisfied (first_object p g)
  first_object-IsFirst = IsKeyedFirst-same sort_key (HasPrefix (6 ∷ [])) (SomeBelow (length p.objects) (λ o. IsThis (Object o) (is_unsatisfied o))) Unsatisfied (first_object p g)
      (IsFirst-numbers 6 (length p.objects) (λ o. Object o) is_unsatisfied (λ o. refl))
      (λ v s. (s.0, s.2.0, record { object = s.1; fails = to s.0 s.2.1 }))
      (λ v s. (s.0, s.2.object, (s.1, from s.0 s.2.fails)))
    where
      to : (o : ℕ) → is_unsatisfied o ≡ true → (contains (admitted p o) (nodes_from g o) ≡ false) ⊎ HasStranger p g o
      to o h = elim (or_cases (not (contains (admitted p o) (nodes_from g o))) (has_stranger p g o) h) [
        | inl e ↦ inl (not-true (contains (admitted p o) (nodes_from g o)) e)
        | inr e ↦ inr (HasStranger-from_test o e)
      ]

      from : (o : ℕ) → (contains (admitted p o) (nodes_from g o) ≡ false) ⊎ HasStranger p g o → is_unsatisfied o ≡ true
      from o h = elim h [
        | inl e ↦ or_left (not (contains (admitted p o) (nodes_from g o))) (has_stranger p g o) (not_from_false (contains (admitted p o) (nodes_from g o)) e)
        | inr s ↦ or_right (not (contains (admitted p o) (nodes_from g o))) (has_stranger p g o) (test-from_HasStranger o s)
      ]

  -- scopes
  abbrev pub OffScope : Violation → Type 0
  OffScope v = (s : ℕ) × (v ≡ Scope s) × IsOffScope p g s

  -- whether the number of nodes that scope s counts is in its range
  abbrev pub is_on_scope : ℕ → Bool
  is_on_scope s = contains (scope_at p.scopes s).range (count_below (size_of g) (is_counted p g (scope_at p.scopes s)))

  pub first_scope-IsFirst : IsKeyedFirst sort_key (HasPrefix (8 ∷ [])) OffScope (first_scope p g)
  first_scope-IsFirst = IsKeyedFirst-same sort_key (HasPrefix (8 ∷ [])) (SomeBelow (length p.scopes) (λ s. IsThis (Scope s) (not (is_on_scope s)))) OffScope (first_scope p g)
      (IsFirst-numbers 8 (length p.scopes) (λ s. Scope s) (λ s. not (is_on_scope s)) (λ s. refl))
      (λ v s. (s.0, s.2.0, record { scope = s.1; outside = not-true (is_on_scope s.0) s.2.1 }))
      (λ v s. (s.0, s.2.scope, (s.1, not_from_false (is_on_scope s.0) s.2.outside)))

  -- assertions that aren't satisfied
  Breaks-from_test : (v : Truth) (b : Bool) (P : Type 0) → (b ≡ true → P) → (P → b ≡ true) → breaks v b ≡ true → Breaks v P
  Breaks-from_test True b P to from h = λ q. both_ways b (not-true b h) (from q)
  Breaks-from_test False b P to from h = to h
  Breaks-from_test Unknown b P to from h = absurd (true≢false (sym h))
  Breaks-from_test Error b P to from h = tt

  test-from_Breaks : (v : Truth) (b : Bool) (P : Type 0) → (b ≡ true → P) → (P → b ≡ true) → Breaks v P → breaks v b ≡ true
  test-from_Breaks True b P to from h = not_from_false b (false_from_ne_true b (λ e. h (to e)))
  test-from_Breaks False b P to from h = from h
  test-from_Breaks Unknown b P to from h = absurd h
  test-from_Breaks Error b P to from h = refl

  -- whether what is asserted of a symbol at a tuple isn't satisfied
  abbrev pub is_broken : Symbol → List ℕ → Bool
  is_broken symbol t = breaks (asserted p symbol (map (origin_of g) t)) (holds p g symbol t)

  pub IsBroken-from_test : (symbol : Symbol) (t : List ℕ) → is_declared (length p.classes) (length p.references) (length p.predicates) symbol ≡ true
      → length t ≡ arity_of p.predicates symbol → All (λ x. x < size_of g) t → is_broken symbol t ≡ true → IsBroken p g symbol t
  IsBroken-from_test symbol t d e all h = record {
    declared = d;
    arity = e;
    nodes = all;
    breaks = Breaks-from_test (asserted p symbol (map (origin_of g) t)) (holds p g symbol t) (Holds p g symbol t)
        (Holds-from_holds p g symbol t e) (holds-from_Holds p g symbol t e) h;
  }

  pub test-from_IsBroken : (symbol : Symbol) (t : List ℕ) → IsBroken p g symbol t → is_broken symbol t ≡ true
  test-from_IsBroken symbol t b = test-from_Breaks (asserted p symbol (map (origin_of g) t)) (holds p g symbol t) (Holds p g symbol t)
      (Holds-from_holds p g symbol t b.arity) (holds-from_Holds p g symbol t b.arity) b.breaks

  -- of one symbol
  abbrev pub BrokenAt : Symbol → Violation → Type 0
  BrokenAt symbol v = (t : List ℕ) × (v ≡ Asserted symbol t) × IsBroken p g symbol t

  pub first_broken-IsFirst : (symbol : Symbol) (prefix : List ℕ) → is_declared (length p.classes) (length p.references) (length p.predicates) symbol ≡ true
      → ((t : List ℕ) → sort_key (Asserted symbol t) ≡ prefix ++ t) → IsKeyedFirst sort_key (HasPrefix prefix) (BrokenAt symbol) (first_broken p g symbol)
  first_broken-IsFirst symbol prefix d key =
      IsKeyedFirst-same sort_key (HasPrefix prefix) (SomeTuple (size_of g) (arity_of p.predicates symbol) [] (λ t. IsThis (Asserted symbol t) (is_broken symbol t))) (BrokenAt symbol) (first_broken p g symbol)
      (subst (λ at. IsKeyedFirst sort_key (HasPrefix at) (SomeTuple (size_of g) (arity_of p.predicates symbol) [] (λ t. IsThis (Asserted symbol t) (is_broken symbol t))) (first_broken p g symbol)) (append-nil prefix)
      (IsKeyedFirst-tuple sort_key prefix (size_of g) (λ t. when (is_broken symbol t) (Asserted symbol t)) (λ t. IsThis (Asserted symbol t) (is_broken symbol t))
      (λ t. IsKeyedFirst-one sort_key (Asserted symbol t) (is_broken symbol t) (prefix ++ t) (key t)) (arity_of p.predicates symbol) []))
      (λ v s. (s.rest, s.there.0, IsBroken-from_test symbol s.rest d s.tuple.many s.tuple.below s.there.1))
      (λ v s. record { rest = s.0; tuple = record { many = s.2.arity; below = s.2.nodes }; there = (s.1, test-from_IsBroken symbol s.0 s.2) })

  -- of any
  abbrev pub Broken : Violation → Type 0
  Broken v = (symbol : Symbol) × (t : List ℕ) × (v ≡ Asserted symbol t) × IsBroken p g symbol t

  -- by what its symbol is
  abbrev BrokenByKind : Violation → Type 0
  BrokenByKind v =
      SomeBelow (length p.classes) (λ c. BrokenAt (OfClass c)) v
      ⊎ (SomeBelow (length p.references) (λ r. BrokenAt (Reference r)) v ⊎ SomeBelow (length p.predicates) (λ q. BrokenAt (Predicate q)) v)

  kind-from_Broken : (v : Violation) (symbol : Symbol) (t : List ℕ) → v ≡ Asserted symbol t → IsBroken p g symbol t → BrokenByKind v
  kind-from_Broken v (OfClass c) t e b = inl (c, ltb-true c (length p.classes) b.declared, (t, e, b))
  kind-from_Broken v (Reference r) t e b = inr (inl (r, ltb-true r (length p.references) b.declared, (t, e, b)))
  kind-from_Broken v (Predicate q) t e b = inr (inr (q, ltb-true q (length p.predicates) b.declared, (t, e, b)))
  kind-from_Broken v Exists t e b = absurd (true≢false (sym b.declared))
  kind-from_Broken v Equals t e b = absurd (true≢false (sym b.declared))

  Broken-from_kind : (v : Violation) → BrokenByKind v → Broken v
  Broken-from_kind v s = elim s [
    | inl s ↦ (OfClass s.0, s.2.0, s.2.1, s.2.2)
    | inr s ↦ elim s [ inl s ↦ (Reference s.0, s.2.0, s.2.1, s.2.2) | inr s ↦ (Predicate s.0, s.2.0, s.2.1, s.2.2) ]
  ]

  pub first_asserted-IsFirst : IsKeyedFirst sort_key (HasPrefix (7 ∷ [])) Broken (first_asserted p g)
  first_asserted-IsFirst = IsKeyedFirst-same sort_key (HasPrefix (7 ∷ [])) BrokenByKind Broken (first_asserted p g)
      (IsKeyedFirst-row sort_key (7 ∷ []) 0 BrokenByKind (first_asserted p g)
      (IsKeyedFirst-or sort_key (7 ∷ []) 0 (SomeBelow (length p.classes) (λ c. BrokenAt (OfClass c)))
      (λ v. SomeBelow (length p.references) (λ r. BrokenAt (Reference r)) v ⊎ SomeBelow (length p.predicates) (λ q. BrokenAt (Predicate q)) v)
      (first_below (length p.classes) (λ c. first_broken p g (OfClass c)))
      (option_or (first_below (length p.references) (λ r. first_broken p g (Reference r))) (first_below (length p.predicates) (λ q. first_broken p g (Predicate q))))
      (IsKeyedFirst-below sort_key (7 ∷ 0 ∷ []) (length p.classes) (λ c. first_broken p g (OfClass c)) (λ c. BrokenAt (OfClass c))
      (λ c l. first_broken-IsFirst (OfClass c) (7 ∷ 0 ∷ c ∷ []) (lt-ltb c (length p.classes) l) (λ t. refl)))
      (IsKeyedFirst-or sort_key (7 ∷ []) 1 (SomeBelow (length p.references) (λ r. BrokenAt (Reference r))) (SomeBelow (length p.predicates) (λ q. BrokenAt (Predicate q)))
      (first_below (length p.references) (λ r. first_broken p g (Reference r))) (first_below (length p.predicates) (λ q. first_broken p g (Predicate q)))
      (IsKeyedFirst-below sort_key (7 ∷ 1 ∷ []) (length p.references) (λ r. first_broken p g (Reference r)) (λ r. BrokenAt (Reference r))
      (λ r l. first_broken-IsFirst (Reference r) (7 ∷ 1 ∷ r ∷ []) (lt-ltb r (length p.references) l) (λ t. refl)))
      (IsKeyedFirst-last sort_key (7 ∷ []) 2 (SomeBelow (length p.predicates) (λ q. BrokenAt (Predicate q))) (first_below (length p.predicates) (λ q. first_broken p g (Predicate q)))
      (IsKeyedFirst-below sort_key (7 ∷ 2 ∷ []) (length p.predicates) (λ q. first_broken p g (Predicate q)) (λ q. BrokenAt (Predicate q))
      (λ q l. first_broken-IsFirst (Predicate q) (7 ∷ 2 ∷ q ∷ []) (lt-ltb q (length p.predicates) l) (λ t. refl)))))))
      Broken-from_kind
      (λ v s. kind-from_Broken v s.0 s.1 s.2 s.3)

-- Which node contains which, by the edges looked at so far, and by all where no node is contained twice.
use Rattle.std.proofs.Common.{◌≡◌, ℕ, ◌+◌, ◌≤◌, ◌<◌, ◌&&◌, ◌||◌, Bool, true, false, eqb, leb, Option, None, Some, List, [], length, get_or, set, take, replicate, refl, sym, ap, ◌∙◌, subst, inl, inr, arith, get_or-set_same, get_or-set_other, length-set}
use Rattle.std.specs.Prelude.{All}
use Rattle.std.specs.List.{list_any}
use Rattle.std.specs.Option.{ForSome, is_some}
use Rattle.std.proofs.lemmas.Bool.{and_parts, and_from, or_cases, or_right, or_parts, cases_Bool, cases_eq, both_ways, false_from_ne_true, eq-eqb, eqb-true, leb-false}
use Rattle.std.proofs.lemmas.List.{get_or-replicate, length-replicate}
use Rattle.std.proofs.lemmas.List.Elements.{All-replicate, All-set}
use Rattle.std.proofs.lemmas.List.Folds.{Any-from_list_any, list_any_at, list_any_kept, list_any_more}
use Rattle.rf_finite.specs.Range.{count_below, first_below}
use Rattle.rf_finite.specs.Walks.{walk_below}
use Rattle.rf_finite.proofs.Range.{count_below-positive, each-from_first_below, None-ne_Some, same-from_count_below, sum_below-term, sum_below-two_terms}
use Rattle.rf_finite.proofs.Walks.{walk_below-same}
use Rattle.rf_graph.specs.First.{is_wrongly_contained, when}
use Rattle.rf_graph.specs.Graph.{Fits, FitsEdge, class_of, has_edge, size_of}
use Rattle.rf_graph.specs.declared.verdict.Violation.TheVariants.{Containers}
use Rattle.rf_problem.specs.Contained.{is_contained_class, is_containing}
use Rattle.rf_graph.specs.Violations.{container_count, contains_in}
use Rattle.rf_graph.specs.declared.graph.Edge.{Edge}
use Rattle.rf_graph.specs.declared.graph.Graph.{Graph}
use Rattle.rf_problem.specs.declared.problem.Problem.{Problem}
use Rattle.rf_satisfy.specs.Containers.{AreContainedOnce}
use Rattle.rf_satisfy.specs.ContainerOf.{contains_by, is_cyclic, is_node}

-- whether by this edge x contains z
abbrev pub is_containment : Problem → ℕ → ℕ → Edge → Bool
is_containment p x z e = is_containing p e.reference && (eqb e.from x && eqb e.to z)

-- whether by one of these edges it does
abbrev pub contains_among : Problem → List Edge → ℕ → ℕ → Bool
contains_among p es x z = list_any (is_containment p x z) es

-- each node that one of these edges contains has a container, and containers are the nodes that some of these edges say
pub record AreContainers (p : Problem) (n : ℕ) (es : List Edge) (containers : List (Option ℕ)) : Type 0 where
  pub len : length containers ≡ n
  pub inside : All (λ container. ForSome container (λ x. x < n)) containers
  pub said : (x z : ℕ) → z < n → contains_by containers x z ≡ true → contains_among p es x z ≡ true
  pub found : (x z : ℕ) → z < n → contains_among p es x z ≡ true → is_some (get_or containers z None) ≡ true

module _ (p : Problem) (g : Graph) where
  -- by which reference x contains z
  containing_reference : (x z : ℕ) → Fits p g → contains_in p g x z ≡ true
      → (r : ℕ) × (r < length p.references) × (is_containing p r ≡ true) × (x < size_of g) × (z < size_of g) × (has_edge g r x z ≡ true)
  containing_reference x z fits h =
      let one = Any-from_list_any (λ e. is_containing p e.reference && (eqb e.from x && eqb e.to z)) g.edges h in
      let e = one.1 in
      let fit : FitsEdge p (length g.nodes) e = subst (FitsEdge p (length g.nodes)) one.3 (fits.edges one.0 e one.2) in
      let parts = and_parts (is_containing p e.reference) (eqb e.from x && eqb e.to z) one.4 in
      let ends = and_parts (eqb e.from x) (eqb e.to z) parts.1 in
      let test : (λ (f : Edge). eqb f.reference e.reference && (eqb f.from x && eqb f.to z)) (get_or g.edges one.0 e) ≡ true =
      ap (λ (f : Edge). eqb f.reference e.reference && (eqb f.from x && eqb f.to z)) one.3
      ∙ and_from (eqb e.reference e.reference) (eqb e.from x && eqb e.to z) (eq-eqb e.reference e.reference refl) parts.1 in (
        e.reference,
        fit.reference,
        parts.0,
        subst (λ m. m < size_of g) (eqb-true e.from x ends.0) fit.from_node,
        subst (λ m. m < size_of g) (eqb-true e.to z ends.1) fit.to_node,
        list_any_at (λ f. eqb f.reference e.reference && (eqb f.from x && eqb f.to z)) g.edges one.0 e one.2 test,
      )

  -- where no node is contained twice, what contains the same node is the same
  same_container : (x y z : ℕ) → Fits p g → AreContainedOnce p g → contains_in p g x z ≡ true → contains_in p g y z ≡ true → x ≡ y
  same_container x y z fits once h k =
      let a = containing_reference x z fits h in
      let b = containing_reference y z fits k in
      let few = once z a.4 in
      elim (cases_eq a.0 b.0) [
        | inl e ↦ (let term = sum_below-term (length p.references) (is_containing p) (λ r. count_below (size_of g) (λ x. has_edge g r x z)) a.0 a.1 a.2 in
            same-from_count_below (size_of g) (λ x. has_edge g a.0 x z) x y (omega arith) a.3 b.3 a.5 (subst (λ r. has_edge g r y z ≡ true) (sym e) b.5))
        | inr ne ↦ (let terms = sum_below-two_terms (length p.references) (is_containing p) (λ r. count_below (size_of g) (λ x. has_edge g r x z)) a.0 b.0 a.1 b.1 ne a.2 b.2 in
            let one = count_below-positive (size_of g) (λ x. has_edge g a.0 x z) x a.3 a.5 in
            let other = count_below-positive (size_of g) (λ x. has_edge g b.0 x z) y b.3 b.5 in
            absurd (omega arith))
      ]

  -- there is no container before the first edge
  pub AreContainers-none : (n : ℕ) (containers : List (Option ℕ)) → containers ≡ replicate n None → AreContainers p n [] containers
  AreContainers-none n containers e = record {
    len = ap length e ∙ length-replicate n None;
    inside = subst (All (λ container. ForSome container (λ x. x < n))) (sym e) (All-replicate (λ container. ForSome container (λ x. x < n)) n None (λ x e. absurd (None-ne_Some e)));
    said = λ x z l h. absurd (both_ways (contains_by containers x z) (ap (λ hs. is_node (get_or hs z None) x) e ∙ ap (λ o. is_node o x) (get_or-replicate n z None None l)) h);
    found = λ x z l h. absurd (both_ways false refl h);
  }

  -- one more edge that contains a node
  pub AreContainers-more : (n : ℕ) (es : List Edge) (i : ℕ) (d : Edge) (containers : List (Option ℕ)) → i < length es → (get_or es i d).from < n → (get_or es i d).to < n
      → is_containing p (get_or es i d).reference ≡ true → AreContainers p n (take i es) containers
      → AreContainers p n (take (i + 1) es) (set containers (get_or es i d).to (Some (get_or es i d).from))
  AreContainers-more n es i d containers l lx lz contains so_far =
      let from = (get_or es i d).from in
      let to = (get_or es i d).to in
      let in_containers : to < length containers = (let e = so_far.len in omega arith) in
      let at : (z : ℕ) → z ≡ to → get_or (set containers to (Some from)) z None ≡ Some from =
      λ z e. subst (λ z. get_or (set containers to (Some from)) z None ≡ Some from) (sym e) (get_or-set_same containers to (Some from) None in_containers) in
      let other : (z : ℕ) → (z ≡ to → ⊥) → get_or (set containers to (Some from)) z None ≡ get_or containers z None =
      λ z ne. get_or-set_other containers to z (Some from) None ne in record {
        len = rw length-set so_far.len;
        inside = All-set (λ container. ForSome container (λ x. x < n)) containers to (Some from) (λ x e. (let s : from ≡ x = cc in subst (λ x. x < n) s lx)) so_far.inside;
        said = λ x z lk h. elim (cases_eq z to) [
          | inl e ↦ (let same : eqb from x ≡ true = sym (ap (λ o. is_node o x) (at z e)) ∙ h in
              list_any_more (is_containment p x z) es i d l
              ∙ or_right (list_any (is_containment p x z) (take i es)) (is_containment p x z (get_or es i d))
              (and_from (is_containing p (get_or es i d).reference) (eqb from x && eqb to z) contains (and_from (eqb from x) (eqb to z) same (eq-eqb to z (sym e)))))
          | inr ne ↦ list_any_kept (is_containment p x z) es i (so_far.said x z lk (sym (ap (λ o. is_node o x) (other z ne)) ∙ h))
        ];
        found = λ x z lk h. elim (cases_eq z to) [
          | inl e ↦ ap is_some (at z e)
          | inr ne ↦ ap is_some (other z ne) ∙ so_far.found x z lk (elim (or_cases (list_any (is_containment p x z) (take i es)) (is_containment p x z (get_or es i d))
              (sym (list_any_more (is_containment p x z) es i d l) ∙ h)) [
                | inl e ↦ e
                | inr e ↦ absurd (ne (sym (eqb-true to z (and_parts (eqb from x) (eqb to z) (and_parts (is_containing p (get_or es i d).reference) (eqb from x && eqb to z) e).1).1)))
              ])
        ];
      }

  -- one more edge that contains none
  pub AreContainers-same : (n : ℕ) (es : List Edge) (i : ℕ) (d : Edge) (containers : List (Option ℕ)) → i < length es
      → is_containing p (get_or es i d).reference ≡ false → AreContainers p n (take i es) containers → AreContainers p n (take (i + 1) es) containers
  AreContainers-same n es i d containers l plain so_far = record {
    len = so_far.len;
    inside = so_far.inside;
    said = λ x z lk h. list_any_kept (is_containment p x z) es i (so_far.said x z lk h);
    found = λ x z lk h. so_far.found x z lk (elim (or_cases (list_any (is_containment p x z) (take i es)) (is_containment p x z (get_or es i d))
        (sym (list_any_more (is_containment p x z) es i d l) ∙ h)) [
          | inl e ↦ e
          | inr e ↦ absurd (both_ways (is_containing p (get_or es i d).reference) plain
              (and_parts (is_containing p (get_or es i d).reference) (eqb (get_or es i d).from x && eqb (get_or es i d).to z) e).0)
        ]);
  }

  -- once all edges are looked at, the containers are those that the graph says
  pub AreContainers-all : (containers : List (Option ℕ)) → Fits p g → AreContainedOnce p g → AreContainers p (size_of g) g.edges containers
      → (x z : ℕ) → z < size_of g → contains_by containers x z ≡ contains_in p g x z
  AreContainers-all containers fits once all x z l = elim (cases_Bool (contains_by containers x z)) [
    | inl e ↦ e ∙ sym (all.said x z l e)
    | inr e ↦ e ∙ sym (false_from_ne_true (contains_in p g x z) (λ h. go (get_or containers z None) refl h (all.found x z l h) e))
  ]
    where
      go : (o : Option ℕ) → get_or containers z None ≡ o → contains_in p g x z ≡ true → is_some (get_or containers z None) ≡ true → contains_by containers x z ≡ false → ⊥
      go None at h some off = both_ways false refl (sym (ap is_some at) ∙ some)
      go (Some y) at h some off =
          let contained : contains_by containers y z ≡ true = ap (λ o. is_node o y) at ∙ eq-eqb y y refl in
          let same : x ≡ y = same_container x y z fits once h (all.said y z l contained) in
          both_ways (contains_by containers x z) off (subst (λ y. contains_by containers y z ≡ true) (sym same) contained)

  -- so cycles by them are those of the graph
  pub is_cyclic-contains_in : (containers : List (Option ℕ)) → length containers ≡ size_of g
      → ((x z : ℕ) → x < size_of g → z < size_of g → contains_by containers x z ≡ contains_in p g x z)
      → (x : ℕ) → x < size_of g → is_cyclic containers x ≡ walk_below (contains_in p g) (λ y. true) (size_of g) x x
  is_cyclic-contains_in containers len same x l = ap (λ n. walk_below (contains_by containers) (λ y. true) n x x) len
      ∙ walk_below-same (contains_by containers) (contains_in p g) (λ y. true) (λ y. true) (size_of g) same (λ y h. refl) (size_of g) x x (omega arith) l l

  -- where no node is found to be contained wrongly, none is contained twice
  pub AreContainedOnce-from_first : (i : ℕ) → size_of g ≤ i → first_below i (λ z. when (is_wrongly_contained p g z) (Containers z)) ≡ None → AreContainedOnce p g
  AreContainedOnce-from_first i l none z lz =
      let passed = each-from_first_below i (λ z. when (is_wrongly_contained p g z) (Containers z)) none z (omega arith) in
      let peeling : is_wrongly_contained p g z ≡ false = off (is_wrongly_contained p g z) passed in
      let few = leb-false 2 (container_count p g z) (or_parts (leb 2 (container_count p g z)) (eqb (container_count p g z) 0 && is_contained_class p (class_of g z)) peeling).0 in
      omega arith
    where
      off : (b : Bool) → when b (Containers z) ≡ None → b ≡ false
      off true h = absurd (None-ne_Some (sym h))
      off false h = refl

  -- a node is contained wrongly where the count of its containers and the test of its class say so
  pub is_wrongly_contained-from : (z n : ℕ) (has : Bool) → n ≡ container_count p g z → has ≡ is_contained_class p (class_of g z)
      → (leb 2 n || (eqb n 0 && has)) ≡ true → is_wrongly_contained p g z ≡ true
  is_wrongly_contained-from z n has e f h =
      ap (λ m. leb 2 m || (eqb m 0 && is_contained_class p (class_of g z))) (sym e) ∙ (ap (λ b. leb 2 n || (eqb n 0 && b)) (sym f) ∙ h)

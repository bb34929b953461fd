-- A graph that concretises a state concretises one of the sides of each allowed decision.
use Rattle.std.proofs.Common.{◌≡◌, ◌≢◌, ℕ, suc, ◌-◌, ◌<◌, Bool, true, false, not, ◌&&◌, ◌||◌, ◌==◌, if◌then◌else◌, Option, Some, None, length, refl, sym, ap, ap₂, ◌∙◌, subst, inl, inr, arith}
use Rattle.std.specs.Prelude.{nat_le, nat_lt}
use Rattle.std.specs.FinSet.{contains as contains_class}
use Rattle.std.proofs.lemmas.Bool.{and_parts, and_from, both_ways, cases_Bool, cases_eq, eq-eqb, eqb-true, leb-true, le-leb, ltb-true, ne_eqb, not_from_false}
use Rattle.rf_finite.specs.Ends.{within}
use Rattle.rf_finite.proofs.Range.{below_or_last, count_below-none, count_below-same, count_below-without}
use Rattle.rf_values.specs.Count.{contains, end_less_one, ends_at, less_one}
use Rattle.rf_values.specs.Truth.{keeps}
use Rattle.rf_values.specs.declared.count.Count.{Count}
use Rattle.rf_values.specs.declared.truth.Truth.TheVariants.{False, True}
use Rattle.rf_problem.specs.Classes.{is_below}
use Rattle.rf_problem.specs.declared.problem.Problem.{Problem}
use Rattle.rf_graph.specs.Graph.{class_of, has_edge, size_of}
use Rattle.rf_graph.specs.declared.graph.Graph.{Graph}
use Rattle.rf_state.specs.Laws.{IsFresh}
use Rattle.rf_state.specs.State.{State, all_candidates, copied_from, fact, fresh_of, object_of, some_candidate}
use Rattle.rf_state.specs.declared.object.Object.{Object}
use Rattle.rf_state.proofs.EditLemmas.{fresh_is}
use Rattle.rf_rules.specs.Decisions.{allowed, side}
use Rattle.rf_rules.specs.Rules.{is_edge, is_object}
use Rattle.rf_rules.specs.Words.{classes_below, hi, is_one, is_unknown, lo}
use Rattle.rf_rules.specs.declared.decision.Decision.{Decision}
use Rattle.rf_rules.specs.declared.decision.Decision.TheVariants.{Fresh, Kind, Ref}
use Rattle.rf_rules.specs.declared.effect.Effect.TheVariants.{AtMost, Keep, Lose, Merge}
use Rattle.rf_rules.proofs.ClassLemmas.{contains-classes_where}
use Rattle.rf_placement.specs.Placed.{IsPlaced}
use Rattle.rf_placement.specs.Placement.{Concretises, IsConcretised, IsNodeOf, Placing, nodes_at}
use Rattle.rf_placement.proofs.AtObjects.{edge_parts, none_or_some, single_node, single_same}
use Rattle.rf_placement.proofs.Placed.{placed, stands}
use Rattle.rf_placement.proofs.Satisfied.{contains_parts, node_class_below}
use Rattle.rf_soundness.specs.Laws.{DecisionsLoseNoGraph}
use Rattle.rf_soundness.proofs.Effects.{effects_lose_no_graph}

-- node x goes to the fresh object, which has this number
abbrev moved : ℕ → Placing → ℕ → Placing
moved n h x y = if y == x then n else h y

fewer : (m : ℕ) (e : Option ℕ) → within (suc m) e ≡ true → within m (end_less_one e) ≡ true
fewer m None k = refl
fewer m (Some e) k = let b = leb-true (suc m) e k in le-leb m (e - 1) (omega arith)

contains_less_one : (c : Count) (m : ℕ) → contains c (suc m) ≡ true → contains (less_one c) m ≡ true
contains_less_one c m k =
    let parts = contains_parts c (suc m) k in let low = parts.0 in
    and_from (nat_le (c.lo - 1) m) (within m (end_less_one c.hi)) (le-leb (c.lo - 1) m (omega arith)) (fewer m c.hi parts.1)

module _ (p : Problem) (s : State) (g : Graph) (h : Placing) (c : IsPlaced p s g h) (o : ℕ) (l : o < length s.objects) (x : ℕ) (at : IsNodeOf g h o x) where
  abbrev n : ℕ
  n = length s.objects

  abbrev to : Placing
  to = moved n h x

  abbrev fresh : IsFresh p s o (fresh_of s o)
  fresh = fresh_is p s o l

  one_more : length (fresh_of s o).objects ≡ suc n
  one_more = fresh.many ∙ omega arith

  -- what holds of the fresh object, of o and of the others holds of each
  each_object : (P : ℕ → Object → Type 0) → P n (record (object_of s o) { count = record { lo = 1; hi = Some 1 } })
      → P o (record (object_of s o) { count = less_one (object_of s o).count }) → ((q : ℕ) → q < n → q ≢ o → P q (object_of s q))
      → (q : ℕ) → q < suc n → P q (object_of (fresh_of s o) q)
  each_object P new here rest q k = elim (below_or_last n q k) [
    | inl old ↦ elim (cases_eq q o) [
      | inl e ↦ subst (λ q. P q (object_of (fresh_of s o) q)) (sym e) (subst (P o) (sym fresh.own) here)
      | inr ne ↦ subst (P q) (sym (fresh.others q old ne)) (rest q old ne)
    ]
    | inr e ↦ subst (λ q. P q (object_of (fresh_of s o) q)) (sym e) (subst (P n) (sym fresh.fresh) new)
  ]

  -- each node still has the facts that it had
  copied_moved : (y : ℕ) → y < size_of g → copied_from o n (to y) ≡ h y
  copied_moved y ly = elim (cases_Bool (y == x)) [
    | inl e ↦ rw (e, eq-eqb n n refl) (sym at.1 ∙ ap h (sym (eqb-true y x e)))
    | inr e ↦ (let k = c.objects y ly in let f : (h y == n) ≡ false = ne_eqb (h y) n (λ q. absurd (omega arith)) in rw (e, f) refl)
  ]

  moved_there : (y : ℕ) → y < size_of g → to y < suc n
  moved_there y ly = elim (cases_Bool (y == x)) [ inl e ↦ rw e (omega arith) | inr e ↦ (let k = c.objects y ly in rw e (omega arith)) ]

  -- and an object of the origin and with the candidates of the one that it had
  same_origin : (y : ℕ) → y < size_of g → (object_of (fresh_of s o) (to y)).origin ≡ (object_of s (copied_from o n (to y))).origin
  same_origin y ly = each_object (λ q z. z.origin ≡ (object_of s (copied_from o n q)).origin) (rw (eq-eqb n n refl) refl)
      (let f : (o == n) ≡ false = ne_eqb o n (λ q. absurd (omega arith)) in rw f refl)
      (λ q k ne. (let f : (q == n) ≡ false = ne_eqb q n (λ e. absurd (omega arith)) in rw f refl)) (to y) (moved_there y ly)

  same_candidates : (y : ℕ) → y < size_of g → (object_of (fresh_of s o) (to y)).candidates ≡ (object_of s (copied_from o n (to y))).candidates
  same_candidates y ly = each_object (λ q z. z.candidates ≡ (object_of s (copied_from o n q)).candidates) (rw (eq-eqb n n refl) refl)
      (let f : (o == n) ≡ false = ne_eqb o n (λ q. absurd (omega arith)) in rw f refl)
      (λ q k ne. (let f : (q == n) ≡ false = ne_eqb q n (λ e. absurd (omega arith)) in rw f refl)) (to y) (moved_there y ly)

  one_new : nodes_at g to n ≡ 1
  one_new =
      count_below-without (size_of g) (λ y. to y == n) x at.0 (rw (eq-eqb x x refl) (eq-eqb n n refl))
      ∙ ap suc (count_below-none (size_of g) (λ y. not (y == x) && to y == n) (λ y ly. elim (cases_Bool (y == x)) [
        | inl e ↦ rw e refl
        | inr e ↦ (let k = c.objects y ly in let f : (h y == n) ≡ false = ne_eqb (h y) n (λ q. absurd (omega arith)) in rw (e, f) refl)
      ]))

  one_less : nodes_at g h o ≡ suc (nodes_at g to o)
  one_less =
      count_below-without (size_of g) (λ y. h y == o) x at.0 (eq-eqb (h x) o at.1)
      ∙ ap suc (count_below-same (size_of g) (λ y. not (y == x) && h y == o) (λ y. to y == o) (λ y ly. elim (cases_Bool (y == x)) [
        | inl e ↦ (let f : (n == o) ≡ false = ne_eqb n o (λ q. absurd (omega arith)) in rw (e, f) refl)
        | inr e ↦ rw e refl
      ]))

  others : (q : ℕ) → q < n → q ≢ o → nodes_at g to q ≡ nodes_at g h q
  others q k ne = count_below-same (size_of g) (λ y. to y == q) (λ y. h y == q) (λ y ly. elim (cases_Bool (y == x)) [
    | inl e ↦ (let f : (n == q) ≡ false = ne_eqb n q (λ r. absurd (omega arith)) in
        let there : h y ≡ o = ap h (eqb-true y x e) ∙ at.1 in
        let f' : (h y == q) ≡ false = ne_eqb (h y) q (λ r. ne (sym r ∙ there)) in rw (e, f, f') refl)
    | inr e ↦ rw e refl
  ])

  fresh_placed : IsPlaced p (fresh_of s o) g to
  fresh_placed = record {
    many = let more = one_more in let all = c.many in omega arith;
    numbered = λ q k. each_object (λ q z. q < length p.objects → z.origin ≡ q) (λ l. let all = c.many in absurd (omega arith)) (c.numbered o) (λ q old ne. c.numbered q) q
        (let all = c.many in omega arith) k;
    objects = λ y ly. subst (λ m. to y < m) (sym one_more) (moved_there y ly);
    origins = λ y ly. same_origin y ly ∙ ap (λ q. (object_of s q).origin) (copied_moved y ly) ∙ c.origins y ly;
    counts = λ q k. each_object (λ q z. contains z.count (nodes_at g to q) ≡ true) (rw one_new refl)
        (contains_less_one (object_of s o).count (nodes_at g to o) (subst (λ m. contains (object_of s o).count m ≡ true) one_less (c.counts o l)))
        (λ q k ne. subst (λ m. contains (object_of s q).count m ≡ true) (sym (others q k ne)) (c.counts q k)) q (subst (λ m. q < m) one_more k);
    classes = λ y ly. subst (λ set. contains_class set (class_of g y) ≡ true)
        (sym (same_candidates y ly ∙ ap (λ q. (object_of s q).candidates) (copied_moved y ly))) (c.classes y ly);
    added = λ r y z lr ly lz. subst (λ v. keeps v (has_edge g r y z) ≡ true)
        (ap₂ (λ a b. s.added r a b) (sym (copied_moved y ly)) (sym (copied_moved z lz))) (c.added r y z lr ly lz);
  }

module _ (p : Problem) (s : State) (g : Graph) (h : Placing) (c : Concretises p s g h) where
  abbrev IsOnSide : Decision → Type 0
  IsOnSide d = (first : Bool) × IsConcretised p (side p s d first) g

  fresh_side : (o : ℕ) → o < length s.objects → IsOnSide (Fresh o)
  fresh_side o l = elim (none_or_some p s g h c.stands o) [
    | inl none ↦ (false, (h, effects_lose_no_graph p s g h (AtMost o 0) c l (omega arith)))
    | inr x ↦ (
      true,
      (
        moved (length s.objects) h x.0,
        record {
          satisfies = c.satisfies;
          stands = stands p g c.satisfies (fresh_of s o) (moved (length s.objects) h x.0) (fresh_placed p s g h (placed p s g h c.stands) o l x.0 x.1);
        },
      ),
    )
  ]

  -- the classes of a single object's nodes are all below a class, or none is
  kind_side : (o k : ℕ) → o < length s.objects → is_one s o ≡ true → IsOnSide (Kind o k)
  kind_side o k l single =
      let x = single_node p s g h c.stands o l single in
      let there : (y : ℕ) → IsNodeOf g h o y → contains_class (classes_below p k) (class_of g y) ≡ is_below p.classes (class_of g x.0) k = λ y aty.
      contains-classes_where p (λ d. is_below p.classes d k) (class_of g y) (node_class_below p g c.satisfies y aty.0)
      ∙ ap (λ z. is_below p.classes (class_of g z) k) (single_same p s g h c.stands o y x.0 single aty x.1) in
      elim (cases_Bool (is_below p.classes (class_of g x.0) k)) [
        | inl e ↦ (true, (h, effects_lose_no_graph p s g h (Keep o (classes_below p k)) c l (λ y aty. there y aty ∙ e)))
        | inr e ↦ (
          false,
          (
            h,
            effects_lose_no_graph p s g h (Lose o (classes_below p k)) c l
                (λ y aty has. both_ways (is_below p.classes (class_of g x.0) k) e (sym (there y aty) ∙ has)),
          ),
        )
      ]

  -- an edge leads from a single object's node to another's, or none does
  ref_side : (r a b : ℕ) → a < length s.objects → b < length s.objects → is_one s a ≡ true → is_one s b ≡ true → IsOnSide (Ref r a b)
  ref_side r a b la lb one two =
      let x = single_node p s g h c.stands a la one in let y = single_node p s g h c.stands b lb two in
      let same : (u v : ℕ) → IsNodeOf g h a u → IsNodeOf g h b v → has_edge g r u v ≡ has_edge g r x.0 y.0 = λ u v atu atv.
      ap₂ (λ u v. has_edge g r u v) (single_same p s g h c.stands a u x.0 one atu x.1) (single_same p s g h c.stands b v y.0 two atv y.1) in
      elim (cases_Bool (has_edge g r x.0 y.0)) [
        | inl e ↦ (true, (h, effects_lose_no_graph p s g h (Merge r a b True) c tt (λ u v atu atv. same u v atu atv ∙ e)))
        | inr e ↦ (
          false,
          (
            h,
            effects_lose_no_graph p s g h (Merge r a b False) c tt
                (λ u v atu atv. not_from_false (has_edge g r u v) (same u v atu atv ∙ e)),
          ),
        )
      ]

  some_side : (d : Decision) → allowed p s d ≡ true → IsOnSide d
  some_side (Fresh o) m =
      fresh_side o (ltb-true o (length s.objects) (and_parts (is_object s o) (within 2 (hi s o) || (lo s o == 0 && ends_at 1 (hi s o))) m).0)
  some_side (Kind o k) m =
      let parts = and_parts (is_object s o && nat_lt k (length p.classes)) (is_one s o && (some_candidate p s o k && not (all_candidates p s o k))) m in
      kind_side o k (ltb-true o (length s.objects) (and_parts (is_object s o) (nat_lt k (length p.classes)) parts.0).0)
      (and_parts (is_one s o) (some_candidate p s o k && not (all_candidates p s o k)) parts.1).0
  some_side (Ref r a b) m =
      let parts = and_parts (is_edge p s r a b) (is_one s a && (is_one s b && is_unknown (fact p s r a b))) m in
      let l = edge_parts p s r a b parts.0 in
      let ones = and_parts (is_one s a) (is_one s b && is_unknown (fact p s r a b)) parts.1 in
      ref_side r a b l.1 l.2 ones.0 (and_parts (is_one s b) (is_unknown (fact p s r a b)) ones.1).0

pub decisions_lose_no_graph : DecisionsLoseNoGraph
decisions_lose_no_graph p s g d c m = some_side p s g c.0 c.1 d m

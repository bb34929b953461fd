-- In a final state what can hold of single objects has to, and its graph keeps what is asserted of predicates.
use Rattle.std.proofs.Common.{◌≡◌, ℕ, suc, ◌<◌, Bool, true, false, not, ◌&&◌, ◌||◌, ◌==◌, List, [], ◌∷◌, length, get_or, map, All, refl, sym, ap, ap₂, ◌∙◌, subst, inl, inr, arith, true≢false}
use Rattle.std.specs.Prelude.{nat_le, nat_lt}
use Rattle.std.specs.List.{list_all}
use Rattle.std.proofs.lemmas.Bool.{and_from, or_cases, not-true, not_from_false, false_from_ne_true, eqb-true, eqb-false, eq-eqb, ne_eqb, lt-ltb}
use Rattle.std.proofs.lemmas.List.{get_or-map, length-map}
use Rattle.rf_finite.specs.Ends.{within}
use Rattle.rf_values.specs.Truth.{keeps, may, merge, must}
use Rattle.rf_values.specs.declared.truth.Truth.{Truth}
use Rattle.rf_problem.specs.Asserted.{asserted}
use Rattle.rf_problem.specs.Follows.{Follows}
use Rattle.rf_problem.specs.Parts.{predicate_at}
use Rattle.rf_problem.specs.Reading.{predicate_true}
use Rattle.rf_problem.specs.declared.problem.Problem.{Problem}
use Rattle.rf_problem.specs.declared.symbol.Symbol.TheVariants.{Predicate}
use Rattle.rf_problem.proofs.Following.{predicates_carry_over}
use Rattle.rf_graph.specs.Evaluate.{holds}
use Rattle.rf_graph.specs.Graph.{origin_of, size_of}
use Rattle.rf_evaluate.specs.Known.{side}
use Rattle.rf_evaluate.proofs.InBoth.{may-truth_of, must-truth_of}
use Rattle.rf_state.specs.State.{State, all_candidates, fact, object_of, some_candidate}
use Rattle.rf_state.specs.StateKnown.{state_known, value}
use Rattle.rf_rules.specs.Predicates.{are_there, origins_of}
use Rattle.rf_rules.specs.Rules.{are_objects, is_called, is_object}
use Rattle.rf_rules.specs.Words.{hi, is_error, is_one, lo}
use Rattle.rf_rules.specs.declared.rule.Rule.TheVariants.{Broken}
use Rattle.rf_tree.specs.Saturated.{IsFinal}
use Rattle.rf_placement.proofs.Values.{value_kept}
use Rattle.rf_final.specs.GraphOf.{graph_of, single_at}
use Rattle.rf_final.specs.Reached.{IsReached}
use Rattle.rf_final.proofs.Nodes.{class_below, node_single, origin_is, stands}
use Rattle.rf_final.proofs.Settled.{counts, fact_settled, quiet, single_counts, single_from, single_low, some_each}
use Rattle.rf_final.proofs.Truths.{merged_kept}

-- the same single object
abbrev pub IsTwin : State → ℕ → ℕ → Type 0
IsTwin s a b = (a ≡ b) × (b < length s.objects) × (is_one s b ≡ true)

all_list : (test : ℕ → Bool) (t : List ℕ) → All (λ x. test x ≡ true) t → list_all test t ≡ true
all_list test [] a = refl
all_list test (x ∷ t) a = and_from (test x) (list_all test t) (a 0 0 (omega arith)) (all_list test t (λ i d l. a (suc i) d (omega arith)))

map_twice : (f g h : ℕ → ℕ) (t : List ℕ) → All (λ x. h x ≡ g (f x)) t → map h t ≡ map g (map f t)
map_twice f g h [] a = refl
map_twice f g h (x ∷ t) a = ap₂ (λ y ys. y ∷ ys) (a 0 0 (omega arith)) (map_twice f g h t (λ i d l. a (suc i) d (omega arith)))

module _ (p : Problem) (s : State) (f : IsFinal p s) where
  -- what is known of an edge between objects that are there
  edge_known : (r a b : ℕ) → a < length s.objects → b < length s.objects → (state_known p s).edge r a b ≡ fact p s r a b
  edge_known r a b la lb = let there = lt-ltb a (length s.objects) la in let too = lt-ltb b (length s.objects) lb in rw (there, too) refl

  settled_fact : (r a b : ℕ) → r < length p.references → IsTwin s a a → IsTwin s b b → may (fact p s r a b) ≡ true
      → must (fact p s r a b) ≡ true
  settled_fact r a b l ta tb m = elim (fact_settled p s f r a b l ta.1 tb.1 ta.2 tb.2) [
    | inl e ↦ rw e refl
    | inr e ↦ absurd (true≢false (sym m ∙ ap may e))
  ]

  one_at_most : (o : ℕ) → o < length s.objects → is_one s o ≡ true → within 2 (hi s o) ≡ false
  one_at_most o l single = let one = (single_counts p s f o l single).1 in rw one refl

  -- what can hold of single objects has to
  settled : Follows p (side may (state_known p s)) (side must (state_known p s)) (IsTwin s)
  settled = record {
    classes = λ k x y lk t m. must-truth_of (all_candidates p s y k) (some_candidate p s y k)
        ∙ some_each p s f y k lk t.1 t.2 (subst (λ x. some_candidate p s x k ≡ true) t.0
        (sym (may-truth_of (all_candidates p s x k) (some_candidate p s x k)) ∙ m));
    edges = λ r x y u v l tx ty m. ap must (edge_known r u v tx.1 ty.1) ∙ settled_fact r u v l (refl, tx.1, tx.2) (refl, ty.1, ty.2)
        (sym (ap may (edge_known r u v tx.1 ty.1)) ∙ subst (λ x. may ((state_known p s).edge r x v) ≡ true) tx.0
        (subst (λ y. may ((state_known p s).edge r x y) ≡ true) ty.0 m));
    sames = λ x y u v tx ty m. must-truth_of (u == v && not (within 2 (hi s u))) (u == v)
        ∙ and_from (u == v) (not (within 2 (hi s u)))
        (eq-eqb u v (sym tx.0 ∙ (eqb-true x y (sym (may-truth_of (x == y && not (within 2 (hi s x))) (x == y)) ∙ m) ∙ ty.0)))
        (not_from_false (within 2 (hi s u)) (one_at_most u tx.1 tx.2));
    differs = λ x y u v tx ty m. must-truth_of (not (u == v)) (not (u == v) || within 2 (hi s u))
        ∙ not_from_false (u == v) (ne_eqb u v (λ e.
        elim (or_cases (not (x == y)) (within 2 (hi s x)) (sym (may-truth_of (not (x == y)) (not (x == y) || within 2 (hi s x))) ∙ m)) [
          | inl d ↦ eqb-false x y (not-true (x == y) d) (tx.0 ∙ (e ∙ sym ty.0))
          | inr d ↦ true≢false (sym (subst (λ x. within 2 (hi s x) ≡ true) tx.0 d) ∙ one_at_most u tx.1 tx.2)
        ]));
    elements = λ x l m. elim (counts p s f x l) [
      | inl e ↦ (let single = single_from s x e in
          (x, (refl, l, single), l, must-truth_of (nat_le 1 (lo s x)) (within 1 (hi s x)) ∙ single_low p s f x l single, refl))
      | inr e ↦ absurd (true≢false (sym (rw e.1 at (sym (may-truth_of (nat_le 1 (lo s x)) (within 1 (hi s x))) ∙ m))))
    ];
  }

  turned : (x y : ℕ) → IsTwin s y x → IsTwin s x y
  turned x y t = (sym t.0, subst (λ x. x < length s.objects) (sym t.0) t.1, subst (λ x. is_one s x ≡ true) (sym t.0) t.2)

  settled_back : Follows p (side may (state_known p s)) (side must (state_known p s)) (λ x y. IsTwin s y x)
  settled_back = record {
    classes = λ k x y lk t m. settled.classes k x y lk (turned x y t) m;
    edges = λ r x y u v l tx ty m. settled.edges r x y u v l (turned x u tx) (turned y v ty) m;
    sames = λ x y u v tx ty m. settled.sames x y u v (turned x u tx) (turned y v ty) m;
    differs = λ x y u v tx ty m. settled.differs x y u v (turned x u tx) (turned y v ty) m;
    elements = λ x l m. (let r = settled.elements x l m in (r.0, turned r.0 x r.1, r.2, r.3, r.4));
  }

  abbrev AreSingle : List ℕ → Type 0
  AreSingle t = All (λ o. (o < length s.objects) × (is_one s o ≡ true)) t

  -- the value of a predicate at single objects
  settled_value : (q : ℕ) (t : List ℕ) → length t ≡ (predicate_at p.predicates q).arity → AreSingle t → may (value p s q t) ≡ true
      → must (value p s q t) ≡ true
  settled_value q t len l m =
      let n = length p.predicates in let k = state_known p s in
      let has_to = predicate_true p.predicates n (side must k) (side may k) q t in
      let can = predicate_true p.predicates n (side may k) (side must k) q t in
      must-truth_of has_to can ∙ predicates_carry_over p (IsTwin s) n (side may k) (side must k) (side must k)
      (side may k) settled settled_back
      q t t (record { left = len; right = len; each = λ i k. (let r = l i 0 (omega arith) in (refl, r.0, r.1)) })
      (sym (may-truth_of has_to can) ∙ m)

  module _ (reached : IsReached p s) where
    objects_single : (t : List ℕ) → All (λ x. x < size_of (graph_of p s)) t → AreSingle (map (single_at s) t)
    objects_single t l i d k =
        let lt : i < length t = (let e = length-map t (single_at s) in omega arith) in
        subst (λ o. (o < length s.objects) × (is_one s o ≡ true)) (sym (get_or-map (single_at s) t i 0 d lt))
        (node_single p s (get_or t i 0) (l i 0 lt))

    -- what is asserted of predicates is kept
    pub predicate_kept : (q : ℕ) (t : List ℕ) → q < length p.predicates → length t ≡ (predicate_at p.predicates q).arity
        → All (λ x. x < size_of (graph_of p s)) t
        → keeps (asserted p (Predicate q) (map (origin_of (graph_of p s)) t)) (holds p (graph_of p s) (Predicate q) t) ≡ true
    predicate_kept q t lq len l =
        let u : List ℕ = map (single_at s) t in
        let many : length u ≡ (predicate_at p.predicates q).arity = length-map t (single_at s) ∙ len in
        let at : AreSingle u = objects_single t l in
        let called = and_from (nat_lt q (length p.predicates)) (length u == (predicate_at p.predicates q).arity)
        (lt-ltb q (length p.predicates) lq)
        (eq-eqb (length u) (predicate_at p.predicates q).arity many) in
        let there = all_list (is_object s) u (λ i d k. lt-ltb (get_or u i d) (length s.objects) (at i d k).0) in
        let low = all_list (λ o. nat_le 1 (lo s o)) u (λ i d k. let r = at i d k in single_low p s f (get_or u i d) r.0 r.1) in
        let same : map (origin_of (graph_of p s)) t ≡ origins_of s u = map_twice (single_at s) (λ o. (object_of s o).origin)
        (origin_of (graph_of p s)) t
        (λ i d k. origin_is p s (get_or t i d) (l i d k)) in
        let said : Truth = asserted p (Predicate q) (origins_of s u) in
        let none = false_from_ne_true (is_error (merge said (value p s q u))) (λ e.
        true≢false (quiet p s f (Broken q u) (and_from (is_called p q u) (are_objects s u) called there)
        (and_from (are_there s u) (is_error (merge said (value p s q u))) low e))) in
        subst (λ os. keeps (asserted p (Predicate q) os) (holds p (graph_of p s) (Predicate q) t) ≡ true) (sym same)
        (merged_kept said (value p s q u) (holds p (graph_of p s) (Predicate q) t) (settled_value q u many at)
        (value_kept p s (graph_of p s) (single_at s) (stands p s f reached) (class_below p s f) q t len l) none)

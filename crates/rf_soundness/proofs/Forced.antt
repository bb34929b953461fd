-- The rule of forced literals is sound: a clause that may not hold, and does but for one literal, has no nodes at which that literal
-- holds. Nodes are chosen for the clause's variables, not for their objects: where an object is given for two variables, two nodes of
-- it may stand for them.
use Rattle.std.proofs.Common.{◌≡◌, ℕ, zero, suc, ◌+◌, ◌<◌, Bool, true, false, not, ◌&&◌, ◌||◌, ◌==◌, Option, None, List, [], ◌∷◌, length, get_or, slice_get, slice_index_or, map, take, drop, refl, sym, ap, ap₂, ◌∙◌, subst, inl, inr, arith, rules, true≢false}
use Rattle.std.specs.Prelude.{nat_lt, slice_index}
use Rattle.std.specs.List.{list_all, range_with_len}
use Rattle.std.proofs.lemmas.Bool.{and_parts, or_cases, cases_Bool, cases_lt, not-true, not_from_false, false_from_ne_true, true_from_ne_false, both_ways, eqb-true, ne_eqb, ltb-true, lt-ltb}
use Rattle.std.proofs.lemmas.List.{get_or_past}
use Rattle.std.proofs.lemmas.List.Folds.{list_any_at}
use Rattle.std.proofs.lemmas.List.FromFn.{length-map-range_with_len, get_or-map-range_with_len}
use Rattle.std.proofs.lemmas.Option.{same_Some, slice_get-get_or}
use Rattle.rf_finite.proofs.Range.{None-ne_Some}
use Rattle.rf_finite.specs.Ends.{within}
use Rattle.rf_values.specs.Truth.{keeps, must as has_to}
use Rattle.rf_values.specs.declared.truth.Truth.{Truth}
use Rattle.rf_problem.specs.Asserted.{asserted}
use Rattle.rf_problem.specs.Parts.{no_predicate, object_at, predicate_at}
use Rattle.rf_problem.specs.Reading.{Assignment, Calls, clause_true, is_entry, literal_true, literals_true, predicate_true, some_assignment}
use Rattle.rf_problem.specs.Valid.{FitsClause, fits_term, is_atom, is_free}
use Rattle.rf_problem.specs.declared.predicate.Literal.{Literal}
use Rattle.rf_problem.specs.declared.predicate.Literal.TheVariants.{Call, Same}
use Rattle.rf_problem.specs.declared.predicate.Term.{Term}
use Rattle.rf_problem.specs.declared.predicate.Term.TheVariants.{Var, Atom}
use Rattle.rf_problem.specs.declared.problem.Problem.{Problem}
use Rattle.rf_problem.specs.declared.symbol.Symbol.TheVariants.{Predicate, Reference}
use Rattle.rf_problem.proofs.Choices.{Picks, entry-from_inner, free-from_outer, is_chosen, one-from_some_assignment, outer-from_free, some_assignment-from_one}
use Rattle.rf_problem.proofs.Depth.{predicate_true-step}
use Rattle.rf_problem.proofs.Fitting.{FitsCall-from_literal_fits, IsFree, all-from_each, each-from_all, each-from_literals_fit, literal_fits, literals_fit, may_stand-parts}
use Rattle.rf_graph.specs.Evaluate.{graph_reading, holds}
use Rattle.rf_graph.specs.Graph.{has_edge, origin_of, size_of}
use Rattle.rf_graph.specs.declared.graph.Graph.{Graph}
use Rattle.rf_state.specs.State.{State, fact, object_of}
use Rattle.rf_rules.specs.Claims.{Claims}
use Rattle.rf_rules.specs.Predicates.{are_there, clause_at, forced_effect, free_count, given, is_open, is_same_term, literal_at, literal_known, may_be_forced, no_clause, object_of_term, origins_of, others_hold}
use Rattle.rf_rules.specs.Rules.{are_objects, is_literal}
use Rattle.rf_rules.specs.Words.{hi, is_false, is_unknown}
use Rattle.rf_rules.specs.declared.rule.Rule.TheVariants.{Forced}
use Rattle.rf_placement.specs.Placement.{Concretises, IsNodeOf, Placing}
use Rattle.rf_placement.proofs.AtObjects.{few_same}
use Rattle.rf_placement.proofs.Satisfied.{asserted_kept}
use Rattle.rf_placement.proofs.Values.{literal_must}
use Rattle.rf_soundness.specs.SoundRules.{IsSoundRule}
use Rattle.rf_soundness.proofs.Given.{free_is_none, given_nodes, given_none, given_parameter}
use Rattle.rf_soundness.proofs.NodesOfTuples.{nodes_for}
use Rattle.rf_soundness.proofs.TermNodes.{FitsAtom, assign-own, element-other, two_stand, with_variable}

-- what is kept of false doesn't hold
kept_false : (v : Truth) (b : Bool) → is_false v ≡ true → keeps v b ≡ true → b ≡ true → ⊥
kept_false v b f k e = search rules

-- a term that is the same stands for the same object
same_object : (places : Assignment) (t u : Term) → is_same_term t u ≡ true → object_of_term places u ≡ object_of_term places t
same_object places (Var u) (Var v) e = ap places (sym (eqb-true u v e))
same_object places (Atom o) (Atom q) e = sym (eqb-true o q e)
same_object places (Var u) (Atom q) e = absurd (true≢false (sym e))
same_object places (Atom o) (Var v) e = absurd (true≢false (sym e))

module _ (p : Problem) (s : State) (g : Graph) (h : Placing) (c : Concretises p s g h) where
  abbrev says : Calls
  says = predicate_true p.predicates (length p.predicates)

  -- whether literal i of a clause with these variables holds at nodes for them
  abbrev is_so : List (Option ℕ) → ℕ → Assignment → Literal → Bool
  is_so vs i w l = literal_true says (graph_reading p g) (graph_reading p g) vs i w l

  -- all literals hold at nodes of the objects at which the others have to, where literal j does
  all_hold : (vs : List (Option ℕ)) (at w : Assignment) → ((v : ℕ) → IsFree vs v → IsNodeOf g h (at v) (w v))
      → (j : ℕ) (ls : List Literal) → literals_fit p vs 0 ls ≡ true → j < length ls → others_hold p s vs j 0 at ls ≡ true
      → is_so vs j w (slice_index_or ls j (Same (Var 0) (Var 0))) ≡ true
      → literals_true says (graph_reading p g) (graph_reading p g) vs 0 w ls ≡ true
  all_hold vs at w nodes j ls fit lj others own =
      all-from_each (λ i l. is_so vs i w l) (λ i ls. literals_true says (graph_reading p g) (graph_reading p g) vs i w ls)
      (λ i l ls. refl) (λ i. refl) ls
      (λ k l e. elim (or_cases (k == j) (has_to (literal_known p s vs k at l))
      (each-from_all (λ i l. i == j || has_to (literal_known p s vs i at l)) (λ i ls. others_hold p s vs j i at ls)
      (λ i l ls. refl) ls others k l e)) [
        | inl same ↦ (let number = eqb-true k j same in
            let literal : slice_index_or ls j (Same (Var 0) (Var 0)) ≡ l =
            same_Some (slice_index_or ls j (Same (Var 0) (Var 0))) l
            (sym (slice_get-get_or ls j (Same (Var 0) (Var 0)) lj) ∙ (ap (slice_get ls) (sym number) ∙ e)) in
            subst (λ k. is_so vs k w l ≡ true) (sym number) (subst (λ l. is_so vs j w l ≡ true) literal own))
        | inr m ↦ literal_must p s g h c vs k at w l (each-from_literals_fit p vs ls fit k l e) nodes m
      ])

  -- the origins of nodes by number are those of a tuple's objects
  same_tuple : (w : Assignment) (n i : ℕ) (t : List ℕ)
      → ((m : ℕ) → m < n → (m < length t) × (origin_of g (w (i + m)) ≡ (object_of s (get_or t m 0)).origin))
      → map (origin_of g) (map w (range_with_len i n)) ≡ origins_of s (take n t)
  same_tuple w zero i [] f = refl
  same_tuple w zero i (o ∷ t) f = refl
  same_tuple w (suc n) i [] f = let l = (f 0 (omega arith)).0 in absurd (omega arith)
  same_tuple w (suc n) i (o ∷ t) f =
      let here : i + 0 ≡ i = omega arith in
      ap₂ (λ a os. a ∷ os) (subst (λ m. origin_of g (w m) ≡ (object_of s o).origin) here (f 0 (omega arith)).1)
      (same_tuple w n (i + 1) t (λ m l. (let r = f (suc m) (omega arith) in let a = r.0 in let e : i + suc m ≡ i + 1 + m = omega arith in
      (omega arith, subst (λ k. origin_of g (w k) ≡ (object_of s (get_or t m 0)).origin) e r.1))))

  -- the object from which a node comes is that of its object
  origin_at : (o x : ℕ) → IsNodeOf g h o x → origin_of g x ≡ (object_of s o).origin
  origin_at o x at = sym (c.stands.origins x at.0) ∙ ap (λ o. (object_of s o).origin) at.1

  module _ (q k j : ℕ) (t : List ℕ) (lq : q < length p.predicates) (lk : k < length (predicate_at p.predicates q).clauses)
      (lj : j < length (clause_at p q k).literals) (len : length t ≡ free_count (clause_at p q k).variables)
      (said : is_false (asserted p (Predicate q) (origins_of s (take (predicate_at p.predicates q).arity t))) ≡ true)
      (others : others_hold p s (clause_at p q k).variables j 0 (given (clause_at p q k).variables t)
      (clause_at p q k).literals ≡ true) where
    abbrev arity : ℕ
    arity = (predicate_at p.predicates q).arity

    abbrev vs : List (Option ℕ)
    vs = (clause_at p q k).variables

    abbrev at : Assignment
    at = given vs t

    abbrev literal : Literal
    literal = literal_at (clause_at p q k) j

    fits : FitsClause (length p.classes) (length p.references) p.objects p.predicates arity (clause_at p q k)
    fits = let all = p.predicates_fit.clauses q no_predicate lq in all k no_clause lk

    -- nodes of the given objects for the variables that range over the clause
    record AreChosen (w : Assignment) : Type 0 where
      nodes : (v : ℕ) → IsFree vs v → IsNodeOf g h (at v) (w v)
      zeros : (v : ℕ) → (IsFree vs v → ⊥) → w v ≡ 0

    -- at such nodes literal j doesn't hold
    module _ (w : Assignment) (are : AreChosen w) where
      abbrev tuple : List ℕ
      tuple = map w (range_with_len 0 arity)

      tuple_length : length tuple ≡ arity
      tuple_length = length-map-range_with_len w 0 arity

      tuple_at : (i d : ℕ) → i < arity → get_or tuple i d ≡ w i
      tuple_at i d l = get_or-map-range_with_len w 0 arity i i d l (omega arith)

      parameter : (i : ℕ) → i < arity → IsFree vs i × (i < length t) × (given vs t i ≡ get_or t i 0)
      parameter i l = given_parameter vs t arity i fits.free fits.parameters len l

      picks : Picks is_free (drop arity vs) arity (λ x. x < size_of g) (slice_index tuple) w
      picks = record {
        inside = λ u e. (let r = free-from_outer vs arity u e in (are.nodes u (r.1, r.2)).0);
        outside = λ u e. elim (cases_lt u arity) [
          | inl l ↦ sym (tuple_at u 0 l)
          | inr ge ↦ are.zeros u (λ f. both_ways (is_chosen is_free (drop arity vs) arity u) e (outer-from_free vs arity u ge f.0 f.1))
              ∙ sym (get_or_past tuple u 0 (let n = tuple_length in omega arith))
        ];
      }

      clause_holds : is_so vs j w literal ≡ true
          → clause_true says (graph_reading p g) (graph_reading p g) arity tuple (clause_at p q k) ≡ true
      clause_holds own = some_assignment-from_one is_free (graph_reading p g) (λ x. x < size_of g) (λ x l. (l, refl)) (λ x l e. l)
          (λ assignment. literals_true says (graph_reading p g) (graph_reading p g) vs 0 assignment (clause_at p q k).literals)
          (drop arity vs) arity (slice_index tuple) w picks
          (all_hold vs at w are.nodes j (clause_at p q k).literals fits.literals lj others own)

      predicate_holds : is_so vs j w literal ≡ true → holds p g (Predicate q) tuple ≡ true
      predicate_holds own =
          predicate_true-step p.classes p.references p.objects p.predicates p.predicates_fit (graph_reading p g) (graph_reading p g) q tuple
          ∙ list_any_at (clause_true says (graph_reading p g) (graph_reading p g) arity tuple)
          (predicate_at p.predicates q).clauses k no_clause lk (clause_holds own)

      tuple_origins : map (origin_of g) tuple ≡ origins_of s (take arity t)
      tuple_origins = same_tuple w arity 0 t (λ m l. (let r = parameter m l in
          let e : m ≡ 0 + m = omega arith in (
            r.1,
            subst (λ i. origin_of g (w i) ≡ (object_of s (get_or t m 0)).origin) e
                (origin_at (at m) (w m) (are.nodes m r.0) ∙ ap (λ o. (object_of s o).origin) r.2),
          )))

      not_so : is_so vs j w literal ≡ true → ⊥
      not_so own =
          kept_false (asserted p (Predicate q) (origins_of s (take arity t))) (holds p g (Predicate q) tuple) said
          (subst (λ os. keeps (asserted p (Predicate q) os) (holds p g (Predicate q) tuple) ≡ true) tuple_origins
          (asserted_kept p g c.satisfies (Predicate q) tuple (lt-ltb q (length p.predicates) lq) tuple_length
          (λ i d l. (let n = tuple_length in let k : i < arity = omega arith in subst (λ x. x < size_of g)
          (sym (tuple_at i d k)) (are.nodes i (parameter i k).0).0))))
          (predicate_holds own)

    -- a variable that ranges over the clause, or an object of the problem
    abbrev RangesOver : Term → Type 0
    RangesOver (Var v) = IsFree vs v
    RangesOver (Atom o) = o < length p.objects

    -- nodes stay chosen with node x of its object for a term
    chosen-with : (u : Term) (x : ℕ) (w : Assignment) → RangesOver u → IsNodeOf g h (object_of_term at u) x → AreChosen w
        → AreChosen (with_variable u x w)
    chosen-with (Atom o) x w ranges atx are = are
    chosen-with (Var v) x w ranges atx are = record {
      nodes = λ i f. elim (cases_Bool (i == v)) [
        | inl e ↦ rw e (subst (λ i. IsNodeOf g h (at i) x) (sym (eqb-true i v e)) atx)
        | inr e ↦ rw e (are.nodes i f)
      ];
      zeros = λ i f. (let other : (i == v) ≡ false = ne_eqb i v (λ e. f (subst (IsFree vs) (sym e) ranges)) in rw other (are.zeros i f));
    }

    fits_atom : (u : Term) (x : ℕ) → RangesOver u → IsNodeOf g h (object_of_term at u) x → FitsAtom p g u x
    fits_atom (Var v) x ranges atx = tt
    fits_atom (Atom o) x ranges atx = (atx.0, origin_at o x atx ∙ c.stands.numbered o ranges)

    -- where literal j calls a reference at two terms, no nodes of their objects are as it says
    module _ (w : Assignment) (are : AreChosen w) (a b : Term) (fa : RangesOver a) (fb : RangesOver b) (x y : ℕ)
        (atx : IsNodeOf g h (object_of_term at a) x) (aty : IsNodeOf g h (object_of_term at b) y)
        (same : is_same_term a b ≡ true → x ≡ y) where
      abbrev both : Assignment
      both = with_variable a x (with_variable b y w)

      both_chosen : AreChosen both
      both_chosen = chosen-with a x (with_variable b y w) fa atx (chosen-with b y w fb aty are)

      no_edge : (r : ℕ) → literal ≡ Call false false (Reference r) (a ∷ b ∷ []) → has_edge g r x y ≡ true → ⊥
      no_edge r e m = not_so both both_chosen (subst (λ l. is_so vs j both l ≡ true) (sym e)
          (two_stand p g w a b x y same (fits_atom a x fa atx) (fits_atom b y fb aty)
          (λ e. has_edge g r (slice_index e 0) (slice_index e 1)) m))

    -- nor, where it is negated, is an edge missing between nodes for its two variables
    module _ (w : Assignment) (are : AreChosen w) (u v : ℕ) (fu : IsFree vs u) (fv : IsFree vs v) (x y : ℕ)
        (atx : IsNodeOf g h (at u) x) (aty : IsNodeOf g h (at v) y)
        (same : is_same_term (Var u) (Var v) ≡ true → x ≡ y) where
      abbrev nodes : Assignment
      nodes = both w are (Var u) (Var v) fu fv x y atx aty same

      first : nodes u ≡ x
      first = assign-own (with_variable (Var v) y w) u x

      second : nodes v ≡ y
      second = element-other (Var u) (Var v) x y (with_variable (Var v) y w) (λ o. 0) (assign-own w v y) same

      abbrev edge : ℕ → Assignment → Bool
      edge r f = has_edge g r (f u) (f v)

      abbrev some_edge_inside : ℕ → Bool
      some_edge_inside r = some_assignment (graph_reading p g) (is_entry j) vs 0 nodes (edge r)

      no_edge_inside : (r : ℕ) → has_edge g r x y ≡ false → some_edge_inside r ≡ true → ⊥
      no_edge_inside r m is =
          let one = one-from_some_assignment (is_entry j) (graph_reading p g) (λ x. x < size_of g) (λ x l. (l, refl))
          (λ x l e. l) (edge r) vs 0 nodes is in
          let out : (i : ℕ) → IsFree vs i → one.0 i ≡ nodes i = λ i f.
          one.1.outside i (false_from_ne_true (is_chosen (is_entry j) vs 0 i) (λ k. None-ne_Some (sym f.1 ∙ entry-from_inner vs j i k))) in
          both_ways (has_edge g r x y) m (sym (ap₂ (λ a b. has_edge g r a b) (out u fu ∙ first) (out v fv ∙ second)) ∙ one.2)

      some_edge : (r : ℕ) → literal ≡ Call true false (Reference r) (Var u ∷ Var v ∷ []) → has_edge g r x y ≡ false → ⊥
      some_edge r e m = not_so nodes (both_chosen w are (Var u) (Var v) fu fv x y atx aty same)
          (subst (λ l. is_so vs j nodes l ≡ true) (sym e)
          (not_from_false (some_edge_inside r) (false_from_ne_true (some_edge_inside r) (no_edge_inside r m))))

    -- the terms of an open literal
    ranges : (negated : Bool) (a : Term) → may_be_forced s vs negated a ≡ true → fits_term p.objects vs j negated a ≡ true → RangesOver a
    ranges negated (Var v) m fit = ((may_stand-parts vs j v negated fit).0, free_is_none (slice_index_or vs v None) m)
    ranges negated (Atom o) m fit = ltb-true o (length p.objects)
        (and_parts (nat_lt o (length p.objects)) (is_atom (object_at p.objects o).kind) fit).0

    record IsOpen (a b : Term) : Type 0 where
      left : RangesOver a
      right : RangesOver b
      same : (x y : ℕ) → IsNodeOf g h (object_of_term at a) x → IsNodeOf g h (object_of_term at b) y → is_same_term a b ≡ true → x ≡ y

    open_parts : (negated : Bool) (r : ℕ) (a b : Term) → literal ≡ Call negated false (Reference r) (a ∷ b ∷ [])
        → is_open p s vs at (Call negated false (Reference r) (a ∷ b ∷ [])) ≡ true → IsOpen a b
    open_parts negated r a b e o =
        let few = not (is_same_term a b) || not (within 2 (hi s (object_of_term at a))) in
        let unknown = is_unknown (fact p s r (object_of_term at a) (object_of_term at b)) in
        let one = and_parts (may_be_forced s vs negated a && may_be_forced s vs negated b) (few && unknown) o in
        let terms = and_parts (may_be_forced s vs negated a) (may_be_forced s vs negated b) one.0 in
        let two = and_parts few unknown one.1 in
        let fit = each-from_literals_fit p vs (clause_at p q k).literals fits.literals j literal
        (slice_get-get_or (clause_at p q k).literals j (Same (Var 0) (Var 0)) lj) in
        let call = FitsCall-from_literal_fits p vs j negated false (Reference r) (a ∷ b ∷ [])
        (subst (λ l. literal_fits p vs j l ≡ true) e fit) in
        let first = and_parts (fits_term p.objects vs j negated a) (list_all (fits_term p.objects vs j negated) (b ∷ [])) call.stand in
        let second = and_parts (fits_term p.objects vs j negated b) true first.1 in
        record {
          left = ranges negated a terms.0 first.0;
          right = ranges negated b terms.1 second.0;
          same = λ x y atx aty is. elim (or_cases (not (is_same_term a b)) (not (within 2 (hi s (object_of_term at a)))) two.0) [
            | inl d ↦ absurd (both_ways (is_same_term a b) (not-true (is_same_term a b) d) is)
            | inr d ↦ few_same p s g h c.stands (object_of_term at a) x y (not-true (within 2 (hi s (object_of_term at a))) d) atx
                (aty.0, aty.1 ∙ same_object at a b is)
          ];
        }

    -- what an open literal forces is so
    module _ (w : Assignment) (are : AreChosen w) where
      -- no atom stands in an open literal that is negated
      no_atoms : (r : ℕ) (a b : Term) → is_open p s vs at (Call true false (Reference r) (a ∷ b ∷ [])) ≡ true
          → (may_be_forced s vs true a ≡ true) × (may_be_forced s vs true b ≡ true)
      no_atoms r a b o = and_parts (may_be_forced s vs true a) (may_be_forced s vs true b)
          (and_parts (may_be_forced s vs true a && may_be_forced s vs true b)
          ((not (is_same_term a b) || not (within 2 (hi s (object_of_term at a)))) && is_unknown
          (fact p s r (object_of_term at a) (object_of_term at b))) o).0

      forced_edge : (r : ℕ) (a b : Term) → literal ≡ Call true false (Reference r) (a ∷ b ∷ [])
          → is_open p s vs at (Call true false (Reference r) (a ∷ b ∷ [])) ≡ true
          → (x y : ℕ) → IsNodeOf g h (object_of_term at a) x → IsNodeOf g h (object_of_term at b) y → has_edge g r x y ≡ true
      forced_edge r (Var u) (Var v) e o x y atx aty =
          let parts = open_parts true r (Var u) (Var v) e o in
          true_from_ne_false (has_edge g r x y) (some_edge w are u v parts.left parts.right x y atx aty (parts.same x y atx aty) r e)
      forced_edge r (Atom u) b e o x y atx aty = absurd (true≢false (sym (no_atoms r (Atom u) b o).0))
      forced_edge r (Var u) (Atom v) e o x y atx aty = absurd (true≢false (sym (no_atoms r (Var u) (Atom v) o).1))

      forced_claim : (l : Literal) → literal ≡ l → is_open p s vs at l ≡ true → Claims g h (forced_effect at l)
      forced_claim (Call false false (Reference r) (a ∷ b ∷ [])) e o = (let parts = open_parts false r a b e o in
          λ x y atx aty. not_from_false (has_edge g r x y) (false_from_ne_true (has_edge g r x y)
          (no_edge w are a b parts.left parts.right x y atx aty (parts.same x y atx aty) r e)))
      forced_claim (Call true false (Reference r) (a ∷ b ∷ [])) e o = (λ x y atx aty. forced_edge r a b e o x y atx aty)
      forced_claim _ e o = absurd (true≢false (sym o))

module _ (p : Problem) where
  pub forced_sound : (q k j : ℕ) (t : List ℕ) → IsSoundRule p (Forced q k j t)
  forced_sound q k j t s g h c fit m =
      let clause = clause_at p q k in
      let numbers = and_parts (is_literal p q k j t) (are_objects s t) fit in
      let called = and_parts (nat_lt q (length p.predicates))
      (nat_lt k (length (predicate_at p.predicates q).clauses) &&
      (nat_lt j (length clause.literals) && length t == free_count clause.variables)) numbers.0 in
      let of_clause = and_parts (nat_lt k (length (predicate_at p.predicates q).clauses))
      (nat_lt j (length clause.literals) && length t == free_count clause.variables) called.1 in
      let of_literal = and_parts (nat_lt j (length clause.literals)) (length t == free_count clause.variables) of_clause.1 in
      let len = eqb-true (length t) (free_count clause.variables) of_literal.1 in
      let told = is_false (asserted p (Predicate q) (origins_of s (take (predicate_at p.predicates q).arity t))) in
      let hold = others_hold p s clause.variables j 0 (given clause.variables t) clause.literals in
      let unsettled = is_open p s clause.variables (given clause.variables t) (literal_at clause j) in
      let one = and_parts told (are_there s t && (hold && unsettled)) m in
      let two = and_parts (are_there s t) (hold && unsettled) one.1 in
      let three = and_parts hold unsettled two.1 in
      let nodes = nodes_for p s g h c.stands t two.0 numbers.1 in
      forced_claim p s g h c q k j t (ltb-true q (length p.predicates) called.0)
      (ltb-true k (length (predicate_at p.predicates q).clauses) of_clause.0)
      (ltb-true j (length clause.literals) of_literal.0) len one.0 three.0 (given clause.variables nodes.0)
      (record { nodes = given_nodes g h clause.variables t nodes.0 nodes.1 len; zeros = given_none clause.variables nodes.0 })
      (literal_at clause j) refl three.1

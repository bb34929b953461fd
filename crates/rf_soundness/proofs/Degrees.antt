-- The rules of how many edges lead from a node are sound.
use Rattle.std.proofs.Common.{◌≡◌, ℕ, ◌≤◌, ◌<◌, true, false, Some, length, refl, sym, ap, ◌∙◌, subst, inl, inr, arith, true≢false}
use Rattle.std.specs.Prelude.{is_some, nat_le, nat_lt, unwrap_or}
use Rattle.std.proofs.lemmas.Bool.{and_parts, not_from_false, false_from_ne_true, true_from_ne_false, ltb-true}
use Rattle.rf_finite.specs.Range.{count_below}
use Rattle.rf_values.specs.Truth as truth
use Rattle.rf_values.specs.declared.truth.Truth.{Truth}
use Rattle.rf_values.specs.declared.truth.Truth.TheVariants.{True, False, Unknown, Error}
use Rattle.rf_problem.specs.Classes.{is_below}
use Rattle.rf_problem.specs.declared.problem.Problem.{Problem}
use Rattle.rf_graph.specs.Graph.{class_of, has_edge, size_of}
use Rattle.rf_graph.specs.declared.graph.Graph.{Graph}
use Rattle.rf_state.specs.State.{State, all_candidates, fact}
use Rattle.rf_rules.specs.Degrees.{may_sum, may_sum_beside, must_sum}
use Rattle.rf_rules.specs.Words.{is_less, is_one, is_unknown, lo, max, may, min, must, reaches, source}
use Rattle.rf_rules.specs.declared.rule.Rule.TheVariants.{Full, Need, NeedCount, Room, TypeLow}
use Rattle.rf_rules.proofs.ClassLemmas.{contains-classes_where}
use Rattle.rf_placement.specs.Placement.{Concretises, IsNodeOf, Placing}
use Rattle.rf_placement.proofs.Satisfied.{degree, edge_ends, node_class_below}
use Rattle.rf_placement.proofs.AtObjects.{class_passes, edge_parts, known_end, less_end, may_edge, must_edge, node_at, none_or_some, reached_end, single_same}
use Rattle.rf_soundness.specs.SoundRules.{IsSoundRule}
use Rattle.rf_soundness.proofs.Conjunctions.{four_parts, three_parts}
use Rattle.rf_soundness.proofs.Sums.{at_most_end, most_beside_one, most_counted, most_left, most_without, one_more}

-- what is unknown doesn't have to hold
no_must : (v : Truth) → is_unknown v ≡ true → truth.must v ≡ false
no_must Unknown e = refl
no_must True e = absurd (true≢false (sym e))
no_must False e = absurd (true≢false (sym e))
no_must Error e = absurd (true≢false (sym e))

-- x is a node of object a
module _ (p : Problem) (s : State) (g : Graph) (h : Placing) (c : Concretises p s g h) (r a x : ℕ) (lr : r < length p.references)
    (at : IsNodeOf g h a x) where
  -- its edges lead to each node of an object to which one has to lead, and only to nodes of objects to which one can
  led : (y : ℕ) → y < size_of g → must p s r a (h y) ≡ true → has_edge g r x y ≡ true
  led y l e = must_edge p s g h c.stands r a (h y) x y lr at (l, refl) e

  reached : (y : ℕ) → y < size_of g → has_edge g r x y ≡ true → may p s r a (h y) ≡ true
  reached y l e = may_edge p s g h c.stands r a (h y) x y lr at (l, refl) e

  -- where it has an edge, it has at most as many as the upper end; where each candidate of its object is below the source, it has
  -- at least as many as the lower end
  degree_most : (y m : ℕ) → has_edge g r x y ≡ true → max p r ≡ Some m → count_below (size_of g) (has_edge g r x) ≤ m
  degree_most y m e is = at_most_end (count_below (size_of g) (has_edge g r x)) m (max p r) is
      (degree p g c.satisfies r x lr at.0 (edge_ends p g c.satisfies r x y e).0).1

  degree_least : all_candidates p s a (source p r) ≡ true → min p r ≤ count_below (size_of g) (has_edge g r x)
  degree_least all =
      let there = node_class_below p g c.satisfies x at.0 in
      let below = class_passes p s g h c.stands a x (λ d. is_below p.classes d (source p r)) there at all in
      (degree p g c.satisfies r x lr at.0 below).0

module _ (p : Problem) where
  pub full_sound : (r a b : ℕ) → IsSoundRule p (Full r a b)
  full_sound r a b s g h c fit m =
      let l = edge_parts p s r a b fit in
      let parts = and_parts (reaches (must_sum p s r a) (max p r)) (is_unknown (fact p s r a b)) m in
      let e = reached_end (must_sum p s r a) (max p r) parts.0 in let enough = e.2 in
      λ x y atx aty. not_from_false (has_edge g r x y) (false_from_ne_true (has_edge g r x y) (λ k.
      let most = degree_most p s g h c r a x l.0 atx y e.0 k e.1 in
      let other = ap (must p s r a) aty.1 ∙ no_must (fact p s r a b) parts.1 in
      let more = one_more p s g h c.stands (must p s r a) (has_edge g r x) y aty.0 (led p s g h c r a x l.0 atx) other k in
      absurd (omega arith)))

  pub room_sound : (r a b : ℕ) → IsSoundRule p (Room r a b)
  room_sound r a b s g h c fit m =
      let l = edge_parts p s r a b fit in
      let parts = three_parts (is_some (max p r)) (must p s r a b) (nat_le 1 (lo s a)) m in
      let x = node_at p s g h c.stands a l.1 parts.2 in
      elim (none_or_some p s g h c.stands b) [
        | inl none ↦ omega arith
        | inr y ↦ (let bound = unwrap_or (max p r) 0 in
            let edge = must_edge p s g h c.stands r a b x.0 y.0 l.0 x.1 y.1 parts.1 in
            let most = degree_most p s g h c r a x.0 l.0 x.1 y.0 bound edge (known_end (max p r) parts.0) in
            most_left p s g h c.stands (must p s r a) (has_edge g r x.0) b bound (led p s g h c r a x.0 l.0 x.1) parts.1 most)
      ]

  pub need_sound : (r a b : ℕ) → IsSoundRule p (Need r a b)
  need_sound r a b s g h c fit m =
      let l = edge_parts p s r a b fit in
      let others = may_sum_beside p s r a b in
      let parts = four_parts (all_candidates p s a (source p r)) (is_one s b) (is_unknown (fact p s r a b)) (is_less others (min p r)) m in
      let e = less_end others (min p r) parts.3 in let few = e.2 in
      λ x y atx aty. true_from_ne_false (has_edge g r x y) (λ k.
      let least = degree_least p s g h c r a x l.0 atx parts.0 in
      let none : (z : ℕ) → IsNodeOf g h b z → has_edge g r x z ≡ false =
      λ z atz. subst (λ z. has_edge g r x z ≡ false) (single_same p s g h c.stands b y z parts.1 aty atz) k in
      let most = most_without p s g h c.stands (may p s r a) (has_edge g r x) b e.0 (reached p s g h c r a x l.0 atx) e.1 none in
      absurd (omega arith))

  pub need_count_sound : (r a b : ℕ) → IsSoundRule p (NeedCount r a b)
  need_count_sound r a b s g h c fit m =
      let l = edge_parts p s r a b fit in
      let others = may_sum_beside p s r a b in
      let parts = four_parts (all_candidates p s a (source p r)) (nat_le 1 (lo s a)) (may p s r a b) (is_some others) m in
      let x = node_at p s g h c.stands a l.1 parts.1 in
      let least = degree_least p s g h c r a x.0 l.0 x.1 parts.0 in
      let most = most_beside_one p s g h c.stands (may p s r a) (has_edge g r x.0) b (unwrap_or others 0)
      (reached p s g h c r a x.0 l.0 x.1) (known_end others parts.3) in
      omega arith

  pub type_low_sound : (r a : ℕ) → IsSoundRule p (TypeLow r a)
  type_low_sound r a s g h c fit m x at k =
      let l = ltb-true r (length p.references) (and_parts (nat_lt r (length p.references)) (nat_lt a (length s.objects)) fit).0 in
      let e = less_end (may_sum p s r a) (min p r) m in let few = e.2 in
      let there = node_class_below p g c.satisfies x at.0 in
      let below = sym (contains-classes_where p (λ d. is_below p.classes d (source p r)) (class_of g x) there) ∙ k in
      let least = (degree p g c.satisfies r x l at.0 below).0 in
      let most = most_counted p s g h c.stands (may p s r a) (has_edge g r x) e.0 (reached p s g h c r a x l at) e.1 in
      absurd (omega arith)

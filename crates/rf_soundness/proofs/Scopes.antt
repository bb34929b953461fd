-- The rules of scopes are sound.
use Rattle.std.proofs.Common.{◌≡◌, ℕ, ◌≤◌, ◌<◌, Bool, true, false, not, ◌&&◌, Some, length, refl, sym, ap, ◌∙◌, subst, arith}
use Rattle.std.specs.Prelude.{is_some, nat_lt, unwrap_or}
use Rattle.std.proofs.lemmas.Bool.{and_parts, and_from, not-true, true_from_ne_false, ltb-true}
use Rattle.rf_finite.specs.Range.{count_below}
use Rattle.rf_problem.specs.Counted.{counts_origin}
use Rattle.rf_problem.specs.Parts.{scope_at}
use Rattle.rf_problem.specs.declared.problem.Problem.{Problem}
use Rattle.rf_graph.specs.Graph.{class_of, origin_of, size_of}
use Rattle.rf_graph.specs.Violations.{is_counted}
use Rattle.rf_graph.specs.declared.graph.Graph.{Graph}
use Rattle.rf_state.specs.State.{State, object_of}
use Rattle.rf_rules.specs.Rules.{is_object, is_scoped}
use Rattle.rf_rules.specs.Scopes.{is_of_scope, is_surely_counted, may_be_counted, may_count, may_count_beside, scope_hi, scope_lo, sure_count}
use Rattle.rf_rules.specs.Words.{any_candidate, each_candidate, is_less, is_one, reaches}
use Rattle.rf_rules.specs.declared.rule.Rule.TheVariants.{ScopeBottom, ScopeIn, ScopeOut, ScopeTop, Under}
use Rattle.rf_rules.proofs.ClassLemmas.{contains-classes_where}
use Rattle.rf_placement.specs.Placement.{Concretises, IsNodeOf, Placing}
use Rattle.rf_placement.proofs.Satisfied.{node_class_below, scope_count}
use Rattle.rf_placement.proofs.AtObjects.{candidate_passes, class_passes, known_end, less_end, reached_end, single_same}
use Rattle.rf_soundness.specs.SoundRules.{IsSoundRule}
use Rattle.rf_soundness.proofs.Conjunctions.{four_parts, three_parts}
use Rattle.rf_soundness.proofs.Sums.{at_most_end, most_beside_one, most_counted, most_left, most_without, one_more}

-- the scope of a rule of a scope and an object is there
scope_there : (p : Problem) (s : State) (z o : ℕ) → is_scoped p s z o ≡ true → z < length p.scopes
scope_there p s z o fit = ltb-true z (length p.scopes) (and_parts (nat_lt z (length p.scopes)) (is_object s o) fit).0

module _ (p : Problem) (s : State) (g : Graph) (h : Placing) (c : Concretises p s g h) (z : ℕ) where
  -- whether the scope counts what comes from an object of the problem, and whether it counts a node
  abbrev passes : ℕ → Bool
  passes = counts_origin p (scope_at p.scopes z)

  abbrev counts : ℕ → Bool
  counts = is_counted p g (scope_at p.scopes z)

  -- the origin of a node is that of its object
  passes_origin : (o y : ℕ) → IsNodeOf g h o y → passes (origin_of g y) ≡ passes (object_of s o).origin
  passes_origin o y at = sym (ap passes (ap (λ o. (object_of s o).origin) (sym at.1) ∙ c.stands.origins y at.0))

  -- each node of an object that is surely counted is counted, and each node that is counted is of an object that may be
  surely_is : (y : ℕ) → y < size_of g → is_surely_counted p s z (h y) ≡ true → counts y ≡ true
  surely_is y l m =
      let parts = and_parts (passes (object_of s (h y)).origin) (each_candidate p s (h y) (is_of_scope p z)) m in
      and_from (is_of_scope p z (class_of g y)) (passes (origin_of g y))
      (class_passes p s g h c.stands (h y) y (is_of_scope p z) (node_class_below p g c.satisfies y l) (l, refl) parts.1)
      (passes_origin (h y) y (l, refl) ∙ parts.0)

  counted_may : (y : ℕ) → y < size_of g → counts y ≡ true → may_be_counted p s z (h y) ≡ true
  counted_may y l m =
      let parts = and_parts (is_of_scope p z (class_of g y)) (passes (origin_of g y)) m in
      and_from (passes (object_of s (h y)).origin) (any_candidate p s (h y) (is_of_scope p z))
      (sym (passes_origin (h y) y (l, refl)) ∙ parts.1)
      (candidate_passes p s g h c.stands (h y) y (is_of_scope p z) (node_class_below p g c.satisfies y l) (l, refl) parts.0)

  -- a node of an object that may be counted is counted where its class is one of the scope's
  counted_from : (o y : ℕ) → IsNodeOf g h o y → may_be_counted p s z o ≡ true → is_of_scope p z (class_of g y) ≡ true → counts y ≡ true
  counted_from o y at m k =
      let parts = and_parts (passes (object_of s o).origin) (any_candidate p s o (is_of_scope p z)) m in
      and_from (is_of_scope p z (class_of g y)) (passes (origin_of g y)) k (passes_origin o y at ∙ parts.0)

  -- as many nodes are counted as the lower end at least, and as the upper end at most
  count_least : z < length p.scopes → scope_lo p z ≤ count_below (size_of g) counts
  count_least l = (scope_count p g c.satisfies z l).0

  count_most : (n : ℕ) → z < length p.scopes → scope_hi p z ≡ Some n → count_below (size_of g) counts ≤ n
  count_most n l is = at_most_end (count_below (size_of g) counts) n (scope_hi p z) is (scope_count p g c.satisfies z l).1

module _ (p : Problem) where
  pub under_sound : (z : ℕ) → IsSoundRule p (Under z)
  under_sound z s g h c fit m =
      let e = less_end (may_count p s z) (scope_lo p z) m in let few = e.2 in
      let least = count_least p s g h c z (ltb-true z (length p.scopes) fit) in
      let most = most_counted p s g h c.stands (may_be_counted p s z) (counts p s g h c z) e.0 (counted_may p s g h c z) e.1 in
      omega arith

  pub scope_top_sound : (z o : ℕ) → IsSoundRule p (ScopeTop z o)
  scope_top_sound z o s g h c fit m =
      let bound = unwrap_or (scope_hi p z) 0 in
      let parts = and_parts (is_some (scope_hi p z)) (is_surely_counted p s z o) m in
      let most = count_most p s g h c z bound (scope_there p s z o fit) (known_end (scope_hi p z) parts.0) in
      most_left p s g h c.stands (is_surely_counted p s z) (counts p s g h c z) o bound (surely_is p s g h c z) parts.1 most

  pub scope_bottom_sound : (z o : ℕ) → IsSoundRule p (ScopeBottom z o)
  scope_bottom_sound z o s g h c fit m =
      let others = may_count_beside p s z o in
      let parts = and_parts (may_be_counted p s z o) (is_some others) m in
      let least = count_least p s g h c z (scope_there p s z o fit) in
      let most = most_beside_one p s g h c.stands (may_be_counted p s z) (counts p s g h c z) o (unwrap_or others 0)
      (counted_may p s g h c z) (known_end others parts.1) in
      omega arith

  pub scope_out_sound : (z o : ℕ) → IsSoundRule p (ScopeOut z o)
  scope_out_sound z o s g h c fit m x at k =
      let surely = is_surely_counted p s z in
      let parts = three_parts (reaches (sure_count p s z) (scope_hi p z)) (may_be_counted p s z o) (not (surely o)) m in
      let e = reached_end (sure_count p s z) (scope_hi p z) parts.0 in let enough = e.2 in
      let there = node_class_below p g c.satisfies x at.0 in
      let class = sym (contains-classes_where p (is_of_scope p z) (class_of g x) there) ∙ k in
      let most = count_most p s g h c z e.0 (scope_there p s z o fit) e.1 in
      let other = ap surely at.1 ∙ not-true (surely o) parts.2 in
      let more = one_more p s g h c.stands surely (counts p s g h c z) x at.0 (surely_is p s g h c z) other
      (counted_from p s g h c z o x at parts.1 class) in
      absurd (omega arith)

  pub scope_in_sound : (z o : ℕ) → IsSoundRule p (ScopeIn z o)
  scope_in_sound z o s g h c fit m x at =
      let others = may_count_beside p s z o in
      let parts = four_parts (is_one s o) (may_be_counted p s z o) (not (is_surely_counted p s z o)) (is_less others (scope_lo p z)) m in
      let e = less_end others (scope_lo p z) parts.3 in let few = e.2 in
      contains-classes_where p (is_of_scope p z) (class_of g x) (node_class_below p g c.satisfies x at.0)
      ∙ true_from_ne_false (is_of_scope p z (class_of g x)) (λ k.
      let least = count_least p s g h c z (scope_there p s z o fit) in
      let off : counts p s g h c z x ≡ false = ap (λ b. b && passes p s g h c z (origin_of g x)) k in
      let none : (y : ℕ) → IsNodeOf g h o y → counts p s g h c z y ≡ false =
      λ y aty. subst (λ y. counts p s g h c z y ≡ false) (single_same p s g h c.stands o x y parts.0 at aty) off in
      let most = most_without p s g h c.stands (may_be_counted p s z) (counts p s g h c z) o e.0 (counted_may p s g h c z) e.1 none in
      absurd (omega arith))

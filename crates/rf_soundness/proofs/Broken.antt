-- The rule of broken predicates is sound.
use Rattle.std.proofs.Common.{◌≡◌, ℕ, true, ◌==◌, List, length, ◌∙◌, subst}
use Rattle.std.specs.Prelude.{nat_lt}
use Rattle.std.proofs.lemmas.Bool.{and_parts, and_from, eqb-true}
use Rattle.rf_values.specs.Truth.{keeps, merge}
use Rattle.rf_values.proofs.Kept.{keeps-merge}
use Rattle.rf_problem.specs.Asserted.{asserted}
use Rattle.rf_problem.specs.Parts.{predicate_at}
use Rattle.rf_problem.specs.declared.problem.Problem.{Problem}
use Rattle.rf_problem.specs.declared.symbol.Symbol.TheVariants.{Predicate}
use Rattle.rf_graph.specs.Evaluate.{holds}
use Rattle.rf_state.specs.StateKnown.{value}
use Rattle.rf_rules.specs.Predicates.{are_there, origins_of}
use Rattle.rf_rules.specs.Rules.{are_objects, is_called}
use Rattle.rf_rules.specs.Words.{is_error}
use Rattle.rf_rules.specs.declared.rule.Rule.TheVariants.{Broken}
use Rattle.rf_placement.proofs.Satisfied.{asserted_kept}
use Rattle.rf_placement.proofs.Values.{values_are_kept}
use Rattle.rf_soundness.specs.SoundRules.{IsSoundRule}
use Rattle.rf_soundness.proofs.NodesOfTuples.{as_long, each_is_node, nodes_for, objects_of_nodes, origins_of_nodes}
use Rattle.rf_soundness.proofs.Types.{no_kept_error}

module _ (p : Problem) where
  pub broken_sound : (q : ℕ) (t : List ℕ) → IsSoundRule p (Broken q t)
  broken_sound q t s g h c fit m =
      let numbers = and_parts (is_called p q t) (are_objects s t) fit in
      let called = and_parts (nat_lt q (length p.predicates)) (length t == (predicate_at p.predicates q).arity) numbers.0 in
      let told = asserted p (Predicate q) (origins_of s t) in
      let parts = and_parts (are_there s t) (is_error (merge told (value p s q t))) m in
      let nodes = nodes_for p s g h c.stands t parts.0 numbers.1 in
      let xs = nodes.0 in
      let len = as_long g h t xs nodes.1 ∙ eqb-true (length t) (predicate_at p.predicates q).arity called.1 in
      let there = each_is_node g h t xs nodes.1 in
      let so = holds p g (Predicate q) xs in
      let told_kept = subst (λ os. keeps (asserted p (Predicate q) os) so ≡ true) (origins_of_nodes p s g h c.stands t xs nodes.1)
      (asserted_kept p g c.satisfies (Predicate q) xs called.0 len there) in
      let value_kept = subst (λ t. keeps (value p s q t) so ≡ true) (objects_of_nodes g h t xs nodes.1)
      (values_are_kept p s g h c q xs len there) in
      no_kept_error (merge told (value p s q t)) parts.1 so
      (keeps-merge told (value p s q t) so ∙ and_from (keeps told so) (keeps (value p s q t) so) told_kept value_kept)

-- Which rules of predicates may fire: those of the marked predicates.
use Rattle.std.specs.Prelude.{ℕ, Option, [], length}
use Rattle.rf_finite.specs.Range.{first_below}
use Rattle.rf_finite.specs.Tuples.{first_tuple}
use Rattle.rf_problem.specs.Parts.{predicate_at}
use Rattle.rf_problem.specs.declared.problem.Problem.{Problem}
use Rattle.rf_state.specs.State.{State}
use Rattle.rf_rules.specs.Predicates.{clause_at, free_count}
use Rattle.rf_rules.specs.declared.rule.Rule.{Rule}
use Rattle.rf_rules.specs.declared.rule.Rule.TheVariants.{Broken, Forced}
use Rattle.rf_pending.specs.Rows.{Covers as CoversRows, firing}
use Rattle.rf_prop_broken.specs.declared.pending.Pending.{Pending}

-- the first tuple at which a predicate is broken
abbrev pub first_broken : Problem → State → ℕ → Option Rule
first_broken p s q = first_tuple (length s.objects) (predicate_at p.predicates q).arity [] (λ t. firing p s (Broken q t))

-- the first objects at which a literal of a clause is forced, and the first literal of a predicate that is
abbrev pub first_at_literal : Problem → State → ℕ → ℕ → ℕ → Option Rule
first_at_literal p s q k j = first_tuple (length s.objects) (free_count (clause_at p q k).variables) [] (λ t. firing p s (Forced q k j t))

abbrev pub first_in_clause : Problem → State → ℕ → ℕ → Option Rule
first_in_clause p s q k = first_below (length (clause_at p q k).literals) (first_at_literal p s q k)

abbrev pub first_forced : Problem → State → ℕ → Option Rule
first_forced p s q = first_below (length (predicate_at p.predicates q).clauses) (first_in_clause p s q)

-- each rule of predicates that fires is in a marked row, which is its predicate
pub record Covers (p : Problem) (s : State) (pending : Pending) : Type 0 where
  pub broken : CoversRows (length p.predicates) (first_broken p s) pending.broken
  pub forced : CoversRows (length p.predicates) (first_forced p s) pending.forced

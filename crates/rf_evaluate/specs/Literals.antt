-- The literals of a problem's predicates, and what is known of them.
use Rattle.std.specs.Prelude.{ℕ, Option, List, [], length, slice_index_or}
use Rattle.rf_values.specs.declared.truth.Truth.{Truth}
use Rattle.rf_problem.specs.Parts.{predicate_at}
use Rattle.rf_problem.specs.Reading.{Assignment, literal_true, predicate_true}
use Rattle.rf_problem.specs.declared.predicate.Clause.{Clause}
use Rattle.rf_problem.specs.declared.predicate.Literal.{Literal}
use Rattle.rf_problem.specs.declared.predicate.Literal.TheVariants.{Same}
use Rattle.rf_problem.specs.declared.predicate.Term.TheVariants.{Var}
use Rattle.rf_problem.specs.declared.problem.Problem.{Problem}
use Rattle.rf_evaluate.specs.Known.{Known, in_both}

-- clauses and literals by their numbers, and what stands where there is none
abbrev pub no_clause : Clause
no_clause = record { variables = []; literals = [] }

abbrev pub clause_at : Problem → ℕ → ℕ → Clause
clause_at p q k = slice_index_or (predicate_at p.predicates q).clauses k no_clause

abbrev pub literal_at : Clause → ℕ → Literal
literal_at c j = slice_index_or c.literals j (Same (Var 0) (Var 0))

-- what is known of literal i of a clause with these variables, where they stand for these elements
abbrev pub literal_known : Known → List (Option ℕ) → ℕ → Assignment → Literal → Truth
literal_known k variables i assignment literal =
    in_both k (λ here inside.
    literal_true (predicate_true k.problem.predicates (length k.problem.predicates)) here inside variables i assignment literal)

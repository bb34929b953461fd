-- Declarations that are few enough to be numbered.
use Rattle.std.specs.Prelude.{◌≤◌, ◌<◌, ◌^◌, List, length, All}
use Rattle.rf_bounds.specs.declared.TheConstants.{MOST_CLASSES, MOST_LITERALS, MOST_PARAMETERS, MOST_VARIABLES}
use Rattle.rf_syntax.specs.declared.predicate.BodyLiteral.{BodyLiteral}
use Rattle.rf_syntax.specs.declared.predicate.Param.{Param}
use Rattle.rf_names.specs.Bodies.{clause_variables}
use Rattle.rf_names.specs.Declarations.{Declared, PredicateDecl}

-- a clause has few parameters, literals and variables
pub record IsSmallClause (d : Declared) (params : List Param) (clause : List BodyLiteral) : Type 0 where
  pub arity : length params ≤ MOST_PARAMETERS
  pub literals : length clause ≤ MOST_LITERALS
  pub variables : length (clause_variables d params clause) ≤ MOST_VARIABLES

-- so has each clause of a predicate
pub record IsSmallPredicate (d : Declared) (p : PredicateDecl) : Type 0 where
  pub arity : length p.params ≤ MOST_PARAMETERS
  pub clauses : All (IsSmallClause d p.params) p.clauses

-- and of each predicate, and there are few classes
pub record IsSmall (d : Declared) : Type 0 where
  pub classes : length d.classes ≤ MOST_CLASSES
  pub sources : All (λ r. r.source < 2 ^ 32) d.references
  pub predicates : All (IsSmallPredicate d) d.predicates

-- Problems made of their parts.
use Rattle.std.specs.Prelude.{List}
use Rattle.rf_problem.specs.Valid.{AreAssertions, AreClasses, AreObjects, ArePredicates, AreReferences, AreScopes}
use Rattle.rf_problem.specs.declared.assertion.Assertion.{Assertion}
use Rattle.rf_problem.specs.declared.class.Class.{Class}
use Rattle.rf_problem.specs.declared.object.ObjectDecl.{ObjectDecl}
use Rattle.rf_problem.specs.declared.predicate.Predicate.{Predicate}
use Rattle.rf_problem.specs.declared.reference.Reference.{Reference as Relation}
use Rattle.rf_problem.specs.declared.scope.Scope.{Scope}

-- the lists are what the parts of every problem are
pub record AreParts (classes : List Class) (references : List Relation) (predicates : List Predicate) (objects : List ObjectDecl)
    (assertions : List Assertion) (scopes : List Scope) : Type 0 where
  pub classes_fit : AreClasses classes
  pub references_fit : AreReferences classes references
  pub objects_fit : AreObjects classes objects
  pub predicates_fit : ArePredicates classes references objects predicates
  pub assertions_fit : AreAssertions classes references predicates objects assertions
  pub scopes_fit : AreScopes classes scopes

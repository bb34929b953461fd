-- A problem is what its lists are.
use Rattle.std.proofs.Common.{◌≡◌, List, ap, subst}
use Rattle.std.proofs.Props.{props}
use Rattle.rf_problem.specs.Valid.{AreAssertions, AreClasses, AreObjects, ArePredicates, AreReferences, AreScopes}
use Rattle.rf_problem.specs.declared.assertion.Assertion.{Assertion}
use Rattle.rf_problem.specs.declared.class.Class.{Class}
use Rattle.rf_problem.specs.declared.object.ObjectDecl.{ObjectDecl}
use Rattle.rf_problem.specs.declared.predicate.Predicate.{Predicate}
use Rattle.rf_problem.specs.declared.problem.Problem.{Problem}
use Rattle.rf_problem.specs.declared.reference.Reference.{Reference}
use Rattle.rf_problem.specs.declared.scope.Scope.{Scope}

-- the lists of a problem
record Lists : Type 0 where
  pub classes : List Class
  pub references : List Reference
  pub predicates : List Predicate
  pub objects : List ObjectDecl
  pub assertions : List Assertion
  pub scopes : List Scope

-- what they keep
abbrev Fit : Lists → Type 0
Fit x =
    AreClasses x.classes × AreReferences x.classes x.references × AreObjects x.classes x.objects × ArePredicates x.classes x.references x.objects x.predicates
    × AreAssertions x.classes x.references x.predicates x.objects x.assertions × AreScopes x.classes x.scopes

Fit-prop : (x : Lists) → IsProp (Fit x)
Fit-prop x = hlevel props

abbrev problem_of : (x : Lists) → Fit x → Problem
problem_of x fit = record {
  classes = x.classes;
  references = x.references;
  predicates = x.predicates;
  objects = x.objects;
  assertions = x.assertions;
  scopes = x.scopes;
  classes_fit = fit.0;
  references_fit = fit.1;
  objects_fit = fit.2;
  predicates_fit = fit.3;
  assertions_fit = fit.4;
  scopes_fit = fit.5;
}

same_lists : (x y : Lists) → x ≡ y → (fit : Fit x) (also : Fit y) → problem_of x fit ≡ problem_of y also
same_lists x y e fit =
    subst (λ (z : Lists). (also : Fit z) → problem_of x fit ≡ problem_of z also) e (λ also. ap (problem_of x) (Fit-prop x fit also))

pub same_problem :
    (p q : Problem) → p.classes ≡ q.classes → p.references ≡ q.references → p.predicates ≡ q.predicates → p.objects ≡ q.objects →
    p.assertions ≡ q.assertions → p.scopes ≡ q.scopes → p ≡ q
same_problem p q classes references predicates objects assertions scopes = same_lists
    record {
      classes = p.classes;
      references = p.references;
      predicates = p.predicates;
      objects = p.objects;
      assertions = p.assertions;
      scopes = p.scopes;
    }
    record {
      classes = q.classes;
      references = q.references;
      predicates = q.predicates;
      objects = q.objects;
      assertions = q.assertions;
      scopes = q.scopes;
    }
    (λ i. record {
      classes = classes i;
      references = references i;
      predicates = predicates i;
      objects = objects i;
      assertions = assertions i;
      scopes = scopes i;
    })
    (p.classes_fit, p.references_fit, p.objects_fit, p.predicates_fit, p.assertions_fit, p.scopes_fit)
    (q.classes_fit, q.references_fit, q.objects_fit, q.predicates_fit, q.assertions_fit, q.scopes_fit)

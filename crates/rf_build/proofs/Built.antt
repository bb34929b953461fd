-- Problems made of the lists that declarations stand for.
use Rattle.std.proofs.Common.{◌≡◌, ◌∙◌, List, map, Option, Some, None, Result, Ok, Err, IfNone, IfOk, IfSome, sym, ap, subst}
use Rattle.rf_problem.specs.Made.{AreParts}
use Rattle.rf_problem.specs.declared.assertion.Assertion.{Assertion}
use Rattle.rf_problem.specs.declared.class.Class.{Class}
use Rattle.rf_problem.specs.declared.object.ObjectDecl.{ObjectDecl}
use Rattle.rf_problem.specs.declared.predicate.Predicate.{Predicate}
use Rattle.rf_problem.specs.declared.problem.Problem.{Problem}
use Rattle.rf_problem.specs.declared.reference.Reference.{Reference as Relation}
use Rattle.rf_problem.specs.declared.scope.Scope.{Scope}
use Rattle.rf_names.specs.Declarations.{Declared}
use Rattle.rf_build.specs.Parts.{PartsFit}
use Rattle.rf_build.specs.Resolved.{IsResolved, resolved_assertion, resolved_class, resolved_objects, resolved_predicate, resolved_reference, resolved_scope}

-- the lists that the declarations stand for
pub record AreLists (d : Declared) (classes : List Class) (references : List Relation) (predicates : List Predicate)
    (objects : List ObjectDecl) (assertions : List Assertion) (scopes : List Scope) : Type 0 where
  pub of_classes : classes ≡ map (resolved_class d) d.classes
  pub of_references : references ≡ map (resolved_reference d) d.references
  pub of_predicates : predicates ≡ map (resolved_predicate d) d.predicates
  pub of_objects : objects ≡ resolved_objects d classes
  pub of_assertions : assertions ≡ map (resolved_assertion d) d.assertions
  pub of_scopes : scopes ≡ map (resolved_scope d) d.bounds

module _ (d : Declared) (classes : List Class) (references : List Relation) (predicates : List Predicate)
    (objects : List ObjectDecl) (assertions : List Assertion) (scopes : List Scope)
    (are : AreLists d classes references predicates objects assertions scopes) where
  -- a problem of these lists is the one that the declarations stand for
  pub resolved_made :
      {E : Type 0} (made : Result (Option Problem) E) →
      IfOk made (λ m. IfSome m (λ p. p.classes ≡ classes)) → IfOk made (λ m. IfSome m (λ p. p.references ≡ references)) →
      IfOk made (λ m. IfSome m (λ p. p.predicates ≡ predicates)) → IfOk made (λ m. IfSome m (λ p. p.objects ≡ objects)) →
      IfOk made (λ m. IfSome m (λ p. p.assertions ≡ assertions)) → IfOk made (λ m. IfSome m (λ p. p.scopes ≡ scopes)) →
      IfOk made (λ m. IfSome m (λ p. IsResolved d p))
  resolved_made (Err e) cs rs ps os xs ss = tt
  resolved_made (Ok None) cs rs ps os xs ss = tt
  resolved_made (Ok (Some p)) cs rs ps os xs ss = record {
    classes = cs ∙ are.of_classes;
    references = rs ∙ are.of_references;
    predicates = ps ∙ are.of_predicates;
    objects = os ∙ are.of_objects ∙ ap (resolved_objects d) (sym cs);
    assertions = xs ∙ are.of_assertions;
    scopes = ss ∙ are.of_scopes;
  }

  -- where the lists that the declarations stand for are parts, these are
  parts_are : PartsFit d → AreParts classes references predicates objects assertions scopes
  parts_are fit =
      let os : objects ≡ resolved_objects d (map (resolved_class d) d.classes) =
      are.of_objects ∙ ap (resolved_objects d) are.of_classes in
      subst (λ (T : Type 0). T)
      (sym (λ i. AreParts (are.of_classes i) (are.of_references i) (are.of_predicates i) (os i) (are.of_assertions i) (are.of_scopes i))) fit

  -- so where these are refused, the declarations don't stand for parts
  pub refused_made :
      {E : Type 0} (made : Result (Option Problem) E) →
      IfOk made (λ m. IfNone m (AreParts classes references predicates objects assertions scopes → ⊥)) →
      IfOk made (λ m. IfNone m (PartsFit d → ⊥))
  refused_made (Err e) refused = tt
  refused_made (Ok None) refused = λ fit. refused (parts_are fit)
  refused_made (Ok (Some p)) refused = tt

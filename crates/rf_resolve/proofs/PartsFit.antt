-- What a text that breaks no rule of names stands for can be made a problem.
use Rattle.std.proofs.Common.{◌≡◌, refl, sym, subst}
use Rattle.rf_syntax.specs.declared.statement.Ast.{Ast}
use Rattle.rf_names.specs.Declarations.{Declared, declared_in}
use Rattle.rf_build.specs.Parts.{PartsFit}
use Rattle.rf_resolve.specs.Passes.{Passes}
use Rattle.rf_resolve.specs.Readable.{IsReadableDeclared, IsReadableTree}
use Rattle.rf_resolve.proofs.AssertionsFit.{assertions_fit}
use Rattle.rf_resolve.proofs.ClassesFit.{classes_fit}
use Rattle.rf_resolve.proofs.ObjectsFit.{objects_fit}
use Rattle.rf_resolve.proofs.PredicatesFit.{predicates_fit}
use Rattle.rf_resolve.proofs.ReadableParts.{readable_declared}
use Rattle.rf_resolve.proofs.ReferencesFit.{references_fit}
use Rattle.rf_resolve.proofs.ScopesFit.{scopes_fit}

module _ (ast : Ast) where
  abbrev own : Declared
  own = declared_in ast

  -- the lists that the tree stands for are the parts of a problem
  resolved_parts_fit : Passes own → IsReadableDeclared own → PartsFit own
  resolved_parts_fit passes readable = record {
    classes_fit = classes_fit ast passes readable;
    references_fit = references_fit own refl passes readable;
    predicates_fit = predicates_fit ast passes readable;
    objects_fit = objects_fit ast passes readable;
    assertions_fit = assertions_fit ast passes;
    scopes_fit = scopes_fit own passes readable;
  }

  -- so are those that its declarations stand for
  pub parts_fit : (d : Declared) → d ≡ own → Passes d → IsReadableTree ast → PartsFit d
  parts_fit d is passes readable =
      subst PartsFit (sym is) (resolved_parts_fit (subst Passes is passes) (readable_declared ast readable))

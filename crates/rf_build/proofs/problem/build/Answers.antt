use Rattle.std.proofs.Common.{◌∙◌, ap}
use Rattle.rf_build.specs.Resolved.{resolved_objects}
use Rattle.rf_build.proofs.Built.{AreLists, refused_made, resolved_made}
use Rattle.rf_build.proofs.problem.build.Goals as goal

pub returns : goal.returns
returns c =
    let d = c.args.names.now.declared.now in
    let are : AreLists d c.in_ok-classes.classes.items c.in_ok-references.references.items c.in_ok-predicates.predicates.items
    c.in_ok-objects.objects.items c.in_ok-assertions.assertions.items c.in_ok-scopes.scopes.items = record {
      of_classes = c.in_ok-classes.ensures;
      of_references = c.in_ok-references.ensures;
      of_predicates = c.in_ok-predicates.ensures;
      of_objects = c.in_ok-objects.ensures ∙ ap (resolved_objects d) c.deref.ensures.value;
      of_assertions = c.in_ok-assertions.ensures;
      of_scopes = c.in_ok-scopes.ensures;
    } in
    record {
      resolved = resolved_made d _ _ _ _ _ _ are _ c.new.ensures.classes c.new.ensures.references c.new.ensures.predicates
          c.new.ensures.objects c.new.ensures.assertions c.new.ensures.scopes;
      refused = refused_made d _ _ _ _ _ _ are _ c.new.ensures.refused;
    }

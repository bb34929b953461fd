use Rattle.std.proofs.Common.{◌∙◌, [], ap, map}
use Rattle.rf_names.specs.LookUp.{first_of_each}
use Rattle.rf_names.proofs.NamedLemmas.{item_names-lent}
use Rattle.rf_names.proofs.object_tables.ObjectTables.of.Goals as goal

pub invariant_of-result : goal.invariant_of-result
invariant_of-result c =
    let objects = rw (c.in_ok-objects.ensures.first) at c.of_first.ensures in
    let items = rw (c.in_ok-objects.ensures.second) at c.numbered.ensures in
    record {
      of_objects = objects ∙ ap (λ ms. first_of_each [] (map (λ n. n.now) ms)) c.as_slice.ensures.value ∙ ap (λ d. first_of_each [] d.mentions) c.declared.view_is;
      of_items = items ∙ ap (map (λ i. i.now.name)) c.as_slice-2.ensures.value
          ∙ item_names-lent c.declared.inside.items.items c.args.declared.now.items (ap (λ d. d.items) c.declared.view_is);
    }

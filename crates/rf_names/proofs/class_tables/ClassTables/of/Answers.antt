use Rattle.std.proofs.Common.{◌≡◌, ◌∙◌, ap, map}
use Rattle.rf_names.specs.Tables.{numbers_among}
use Rattle.rf_names.proofs.class_tables.ClassTables.of.Goals as goal

pub invariant_of-result : goal.invariant_of-result
invariant_of-result c =
    let classes = c.args.declared.now.classes in
    let lent = c.as_slice-classes.result.now in
    let forms : lent ≡ classes = c.as_slice-classes.ensures.value ∙ ap (λ d. d.classes) c.declared.view_is in
    let names : map (λ n. n.now) c.in_ok-names.names.names.items ≡ map (λ x. x.name) classes = c.in_ok-names.ensures ∙ ap (map (λ x. x.name)) forms in
    let supers = rw (c.in_ok-supers.ensures.first) at c.supers_of.ensures in
    let counts = rw (c.in_ok-supers.ensures.second) at c.new_before.ensures in
    record {
      of_names = names;
      of_supers = supers ∙ ap (λ ns. map (λ x. numbers_among ns x.supers) lent) names ∙ ap (map (λ x. numbers_among (map (λ y. y.name) classes) x.supers)) forms;
      counted = rw forms at counts;
      few = c.requires;
    }

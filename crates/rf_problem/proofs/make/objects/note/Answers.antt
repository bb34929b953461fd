use Rattle.std.proofs.Common.{◌≡◌, ◌∙◌, ap, sym}
use Rattle.rf_problem.specs.declared.object.ObjectName.TheVariants.{Named}
use Rattle.rf_problem.proofs.NamedApart.{named_apart, named_noted}
use Rattle.rf_problem.proofs.make.objects.note.Goals as goal

pub returns-in_ok-insert-in-Named : goal.returns-in_ok-insert-in-Named
returns-in_ok-insert-in-Named c objects noted =
    let object = c.args.object.now in
    let bytes = c.as_bytes.result in
    let is : object.name ≡ Named bytes.now = c.in-Named.is ∙ ap Named (sym (c.as_bytes.ensures.value ∙ c.as_str.ensures.bytes)) in (
      named_noted objects c.args.seen.now c.insert.new.self object bytes is noted c.in_ok-insert-in-Named.ensures.updates,
      named_apart objects c.args.seen.now object bytes c.in_ok-insert-in-Named.field-0 is noted c.in_ok-insert-in-Named.ensures.added,
    )

use Rattle.std.proofs.Common.{◌∙◌, ap}
use Rattle.rf_tree.specs.Private.Fields.{line_at}
use Rattle.rf_tree.proofs.FieldLemmas.{line_found, line_none}
use Rattle.rf_tree.proofs.line_fields.line_of.Goals as goal

pub returns-clause-found : goal.returns-clause-found
returns-clause-found c =
    line_found c.args.format c.args.fields.now c.line_at.result c.requires.0
    (c.line_at.ensures ∙ ap (λ ns. line_at c.args.format c.args.fields.now.word ns c.args.fields.now.tail) c.as_slice.ensures.items)

pub returns-clause-none : goal.returns-clause-none
returns-clause-none c =
    line_none c.args.format c.args.fields.now c.line_at.result
    (c.line_at.ensures ∙ ap (λ ns. line_at c.args.format c.args.fields.now.word ns c.args.fields.now.tail) c.as_slice.ensures.items)

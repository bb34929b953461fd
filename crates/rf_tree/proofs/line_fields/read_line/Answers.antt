use Rattle.std.proofs.Common.{◌∙◌, sym}
use Rattle.rf_tree.specs.Private.Fields.{line_fields}
use Rattle.rf_tree.proofs.TextLemmas.{line_eleven, line_text-fields}
use Rattle.rf_tree.proofs.WordLemmas.{IfNone-from, IfNone-map, one_fields}
use Rattle.rf_tree.proofs.line_fields.read_line.Goals as goal

pub returns-in_err-fields-clause-none : goal.returns-in_err-fields-clause-none
returns-in_err-fields-clause-none c =
    IfNone-from _ c.from_residual.result
    (λ line writable is. c.in_err-fields.ensures.none (line_fields line) (line_eleven c.args.format line writable) (is ∙ line_text-fields line))

pub returns-clause-none : goal.returns-clause-none
returns-clause-none c =
    IfNone-map _ _ c.line_of.result
    (λ none line writable is. none line writable
    (one_fields (line_fields line) c.in_ok-fields.fields (line_eleven c.args.format line writable) c.in_ok-fields.ensures.numbers
    (sym (line_text-fields line) ∙ sym is ∙ c.in_ok-fields.ensures.found)))
    c.line_of.ensures.none

use Rattle.std.proofs.Common.{◌≡◌, ◌∙◌, ◌∷◌, [], ◌++◌, OnOk, ap, subst, sym}
use Rattle.rf_tree.specs.Private.Fields.{fields_text}
use Rattle.rf_tree.proofs.TextLemmas.{line_text-fields}
use Rattle.rf_tree.proofs.print.push_line.Goals as goal

pub returns-clause-text : goal.returns-clause-text
returns-clause-text c =
    subst (λ text. OnOk c.push_fields.result (c.push_fields.new.out ≡ c.args.out.now ++ (text ++ 10 ∷ [])))
    (ap fields_text c.fields_of.ensures.fields ∙ sym (line_text-fields c.args.line.now)) c.push_fields.ensures

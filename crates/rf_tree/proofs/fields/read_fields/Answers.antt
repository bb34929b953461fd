use Rattle.std.proofs.Common.{◌∙◌, sym}
use Rattle.rf_tree.proofs.WordLemmas.{IfNone-from, fields_split, one_numbers}
use Rattle.rf_tree.proofs.fields.read_fields.Goals as goal

pub returns-in_err-word-clause-none : goal.returns-in_err-word-clause-none
returns-in_err-word-clause-none c =
    IfNone-from _ c.from_residual.result
    (λ f few is.
    let parts = fields_split _ _ f c.split_word.ensures.plain c.split_word.ensures.ended (sym c.split_word.ensures.joined ∙ is) in
    c.in_err-word.ensures.none f.word parts.0)

pub returns-in_err-tail-clause-none : goal.returns-in_err-tail-clause-none
returns-in_err-tail-clause-none c =
    IfNone-from _ c.from_residual-in_err-tail.result
    (λ f few is.
    let parts = fields_split _ _ f c.split_word.ensures.plain c.split_word.ensures.ended (sym c.split_word.ensures.joined ∙ is) in
    let numbers = one_numbers 11 _ f.numbers _ f.tail c.read_numbers-numbers.ensures.numbers few c.read_numbers-numbers.ensures.ended
    c.read_numbers-numbers.ensures.over (sym c.read_numbers-numbers.ensures.joined ∙ parts.1) in
    c.in_err-tail.ensures.none f.tail numbers.1)

use Rattle.std.proofs.Common.{◌≡◌, ◌∙◌, ◌∷◌, ◌++◌, sym}
use Rattle.std.specs.Prelude.{decimal}
use Rattle.rf_tree.proofs.WordLemmas.{IfNone-from, NoSpace-decimal, one_word}
use Rattle.rf_tree.proofs.fields.first_number.Goals as goal

pub returns-in_err-number-clause-none : goal.returns-in_err-number-clause-none
returns-in_err-number-clause-none c =
    IfNone-from _ c.from_residual-in_err-number.result
    (λ n rest is.
    let both : 32 ∷ c.in_ok-words.words.now ≡ 32 ∷ (decimal n ++ rest) = sym c.in_ok-words.ensures.found ∙ is.joined in
    let tails : c.in_ok-words.words.now ≡ decimal n ++ rest = cc in
    let words = one_word _ (decimal n) _ rest c.split_word.ensures.plain (NoSpace-decimal n is.small) c.split_word.ensures.ended is.ended (sym c.split_word.ensures.joined ∙ tails) in
    let read = c.in_err-number.ensures.found n is.small words.0 in
    cc)

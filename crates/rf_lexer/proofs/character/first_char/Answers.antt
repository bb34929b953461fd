use Rattle.std.proofs.Common.{◌≡◌, ◌++◌, ◌∙◌, ap, sym}
use Rattle.std.specs.Char.{encode_utf8}
use Rattle.std.proofs.lemmas.Str.{chars_past_char}
use Rattle.rf_lexer.proofs.character.first_char.Goals as goal

pub returns-clause-found : goal.returns-clause-found
returns-clause-found c =
    let read : c.args.text.now ≡ encode_utf8 c.in_ok-first.first ++ c.as_str.result.now =
    sym c.chars-rest.ensures.rest ∙ c.in_ok-first.ensures.steps.0 ∙ ap (λ r. encode_utf8 c.in_ok-first.first ++ r) (sym c.as_str.ensures) in
    chars_past_char _ _ _ c.utf8.text read

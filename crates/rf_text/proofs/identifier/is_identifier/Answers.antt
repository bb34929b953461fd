use Rattle.std.proofs.Common.{◌≡◌, ◌++◌, ◌∙◌, ap, sym}
use Rattle.std.specs.Char.{encode_utf8}
use Rattle.std.proofs.lemmas.Str.{chars_past_char}
use Rattle.rf_text.proofs.IdentifierLemmas.{is_identifier-begun}
use Rattle.rf_text.proofs.identifier.is_identifier.Goals as goal

pub returns-then-starts_identifier : goal.returns-then-starts_identifier
returns-then-starts_identifier c =
    let read : c.args.text.now ≡ encode_utf8 c.in-Some.first ++ c.as_str.result.now =
    sym c.chars-rest.ensures.rest ∙ c.in-Some.ensures.steps.0 ∙ ap (λ r. encode_utf8 c.in-Some.first ++ r) (sym c.as_str.ensures) in
    is_identifier-begun _ _ _ _ (chars_past_char _ _ _ c.utf8.text read) (sym c.if-starts_identifier.true ∙ c.starts_identifier.ensures) c.continues_identifier.ensures

use Rattle.std.proofs.Common.{◌&&◌, not, ap, sym, refl, ◌∙◌}
use Rattle.rf_text.specs.Keyword.{is_keyword}
use Rattle.rf_text.proofs.WrittenLemmas.{is_bare-text}
use Rattle.rf_text.proofs.written.is_bare.Goals as goal

pub returns-then-is_identifier : goal.returns-then-is_identifier
returns-then-is_identifier c =
    let kept = c.is_keyword.ensures ∙ ap is_keyword c.as_bytes.ensures.value in
    ap (λ i. i && not c.is_keyword.result) (sym c.if-is_identifier.true) ∙ is_bare-text _ _ _ c.utf8.name c.is_identifier.ensures kept

pub returns-else-is_identifier : goal.returns-else-is_identifier
returns-else-is_identifier c =
    let keyword = is_keyword c.args.name.now in
    c.if-is_identifier.false ∙ ap (λ i. i && not keyword) (sym c.if-is_identifier.false) ∙
    is_bare-text c.args.name.now c.is_identifier.result keyword c.utf8.name c.is_identifier.ensures refl

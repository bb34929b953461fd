-- The number of the next reference goes after those of its name, and the other lists stay.
use Rattle.std.proofs.Common.{◌≡◌, ◌∙◌, arith, ap, get_or}
use Rattle.std.proofs.lemmas.Grind.{text_groups}
use Rattle.rf_names.proofs.ListedLemmas.{numbers_more}
use Rattle.rf_names.proofs.listing.numbers_by_name.Goals as goal

pub loop-number-preserved : goal.loop-number-preserved
loop-number-preserved c =
    let text : c.as_str-text.result.now ≡ (get_or c.args.references.now c.loop-number.number c.index-references-number.result).feature.name.text =
    c.as_str-text.ensures.bytes ∙ ap (λ r. r.feature.name.text) (c.reference.view_is ∙ c.index-references-number.is) in
    λ query. grind (arith, text_groups, numbers_more c.args.references.now c.loop-number.number c.index-references-number.result c.as_str-text.result.now c.loop-number-test.true text query)

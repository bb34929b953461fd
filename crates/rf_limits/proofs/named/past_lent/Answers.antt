use Rattle.std.proofs.Common.{◌∙◌, Some, length, refl, sym, ap}
use Rattle.std.specs.Option.{option_map}
use Rattle.std.proofs.lemmas.Option.{slice_get_read}
use Rattle.rf_syntax.specs.declared.name.Name.{Name}
use Rattle.rf_limits.proofs.Past.{past_lent_item}
use Rattle.rf_limits.proofs.named.past_lent.Goals as goal

pub returns : goal.returns
returns g c =
    let h = c.in_ok-item.ensures.lookup in
    let items = c.args.items.now in
    let found = slice_get_read items (length items) c.args.limit c.in_ok-item.item.now refl h.3.0 h.1 in
    ap (λ (n : Name). Some n.at) c.name.ensures
    ∙ ap (option_map (λ x. (g.T.Named.name_of x.now).at)) (sym found)
    ∙ sym (past_lent_item c.args.limit g.T.Named.name_of items)

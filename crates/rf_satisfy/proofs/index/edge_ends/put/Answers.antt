use Rattle.std.proofs.Common.{◌≡◌, ℕ, None, Some, List, [], ◌∷◌, ◌++◌, cond, ap, sym, ◌∙◌}
use Rattle.std.specs.BTreeMap.{get}
use Rattle.std.specs.Ordering.{is_eq}
use Rattle.rf_satisfy.specs.EdgeEnds.{End, end_cmp, ends_at}
use Rattle.rf_satisfy.specs.NodeLists.{items_of}
use Rattle.rf_satisfy.proofs.EdgeEndLemmas.{Lists, ends_at-more}
use Rattle.rf_satisfy.proofs.index.edge_ends.put.Goals as goal

pub returns : goal.returns
returns c =
    let old = c.args.lists.now in
    let gone : get end_cmp old c.args.end ≡ None = sym c.in_default.ensures.value in
    let put : (q : End) → get end_cmp c.insert.new.self q ≡ cond (is_eq (end_cmp c.args.end q)) (Some c.push-2.new.self) (get end_cmp old q) =
    λ q. c.in_ok-insert.ensures.updates.0 q ∙ ap (λ (m : Lists). cond (is_eq (end_cmp c.args.end q)) (Some c.push-2.new.self) (get end_cmp m q)) c.get_mut.follows.holds-at-none in
    let items : c.push-2.new.self.items ≡ ends_at old c.args.end ++ c.args.other ∷ [] =
    c.in_ok-push-2.ensures.items ∙ ap (λ (l : List ℕ). l ++ c.args.other ∷ []) (c.new-others.ensures.items ∙ sym (ap items_of gone)) in
    ends_at-more old c.insert.new.self c.args.end c.args.other c.push-2.new.self put items

use Rattle.std.proofs.Common.{◌≡◌, ◌∙◌, ℕ, true, List, [], map, get_or, ap, sym, arith, below_more}
use Rattle.std.specs.Prelude.{nat_lt}
use Rattle.std.specs.List.{list_all}
use Rattle.std.specs.declared.alloc.Global.{Global}
use Rattle.std.specs.declared.vec.Vec.{Vec}
use Rattle.std.proofs.lemmas.List.{get_or-map, length-map}
use Rattle.rf_names.proofs.RankLemmas.{falls_along, ranks_below}
use Rattle.rf_names.proofs.ranks.falls.Goals as goal

pub loop-vertex-preserved : goal.loop-vertex-preserved
loop-vertex-preserved c =
    let items : Vec ℕ Global → List ℕ = λ v. v.items in
    let ranks = c.args.ranks.now in
    let here = c.loop-vertex.vertex in
    let list = c.index-successors-vertex.result in
    let at : get_or (map items c.args.successors.now) here [] ≡ c.as_slice.result.now =
    get_or-map items c.args.successors.now here list [] c.loop-vertex-test.true
    ∙ ap items (sym c.index-successors-vertex.is) ∙ sym c.as_slice.ensures.value in
    let below : list_all (λ q. nat_lt (get_or ranks q 0) (get_or ranks here 0)) c.as_slice.result.now ≡ true =
    ap (λ (r : ℕ). list_all (λ q. nat_lt (get_or ranks q 0) r) c.as_slice.result.now) (sym c.rank_at.ensures)
    ∙ sym c.are_below.ensures ∙ c.if-not-are_below.false in
    below_more _ _ c.loop-vertex.invariant
    (ranks_below ranks (map items c.args.successors.now) here (get_or ranks here 0) c.as_slice.result.now at below)

pub returns : goal.returns
returns c = λ _.
    let items : Vec ℕ Global → List ℕ = λ v. v.items in
    let many = length-map c.args.successors.now items in
    falls_along c.args.ranks.now (map items c.args.successors.now) c.loop-vertex.vertex (omega arith) c.loop-vertex.invariant

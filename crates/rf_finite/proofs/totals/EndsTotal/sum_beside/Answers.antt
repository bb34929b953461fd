use Rattle.std.proofs.Common.{◌∙◌, ◌==◌, ◌&&◌, not, ap, sym, subst}
use Rattle.rf_finite.specs.Totals.{HasEnd, IsTotal, without}
use Rattle.rf_finite.proofs.TotalLemmas.{HasEnd-at, IsTotal-without}
use Rattle.rf_finite.proofs.totals.EndsTotal.sum_beside.Goals as goal

pub without-requires : goal.without-requires
without-requires g c =
    subst (HasEnd c.args.self) (sym c.part.ensures)
    (HasEnd-at (g.P.Parts.bound c.args.ends.now) (g.P.Parts.counted c.args.ends.now) (g.P.Parts.part c.args.ends.now) c.args.self c.args.number c.requires.total c.requires.below
    (sym c.counted.ensures ∙ c.if-counted.true))

pub returns-then-counted : goal.returns-then-counted
returns-then-counted g c =
    let n = g.P.Parts.bound c.args.ends.now in
    let p = g.P.Parts.counted c.args.ends.now in
    let f = g.P.Parts.part c.args.ends.now in
    let others = IsTotal-without n p f c.args.self c.args.number c.requires.total c.requires.below (sym c.counted.ensures ∙ c.if-counted.true) in
    c.sum.ensures n (λ j. not (j == c.args.number) && p j) f
    (subst (IsTotal n (λ j. not (j == c.args.number) && p j) f) (sym (c.without.ensures ∙ ap (without c.args.self) c.part.ensures)) others)

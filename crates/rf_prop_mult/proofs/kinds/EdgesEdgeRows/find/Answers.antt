use Rattle.std.proofs.Common.{◌≡◌, false, sym, subst, ◌∙◌}
use Rattle.rf_problem.specs.Parts.{reference_at}
use Rattle.rf_problem.specs.declared.problem.Problem.{Problem}
use Rattle.rf_prop_mult.specs.Kinds.{can_begin, has_end}
use Rattle.rf_prop_mult.proofs.NoBeginLemmas.{no_begin}
use Rattle.rf_prop_mult.proofs.NoEndLemmas.{no_end}
use Rattle.rf_prop_mult.proofs.kinds.EdgesEdgeRows.find.Goals as goal

pub returns-then-not-has_end : goal.returns-then-not-has_end
returns-then-not-has_end g c =
    let p = g.F.Facts.problem c.args.self.now.view.now in
    let s = g.F.Facts.state c.args.self.now.view.now in
    let kind = c.args.self.now.kind in
    sym (no_end p s kind c.args.r c.args.a
    (subst (λ (x : Problem). has_end kind (reference_at x.references c.args.r).range ≡ false) c.problem.ensures
    (subst (λ x. has_end kind x.range ≡ false) c.reference.ensures (sym c.has_end.ensures ∙ c.if-not-has_end.true))))

pub returns-then-not-can_begin : goal.returns-then-not-can_begin
returns-then-not-can_begin g c =
    let p = g.F.Facts.problem c.args.self.now.view.now in
    let s = g.F.Facts.state c.args.self.now.view.now in
    let kind = c.args.self.now.kind in
    let off : can_begin p s kind c.args.r c.args.a ≡ false =
    sym {b = can_begin p s kind c.args.r c.args.a} c.can_begin.ensures ∙ c.if-not-can_begin.true in
    sym (no_begin p s c.args.r c.args.a kind off)

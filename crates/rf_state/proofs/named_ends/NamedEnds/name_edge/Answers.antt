use Rattle.std.proofs.Common.{◌∙◌, ap, sym}
use Rattle.std.proofs.lemmas.Result.{on_ok_weaker}
use Rattle.rf_problem.specs.declared.reference.Reference.{Reference}
use Rattle.rf_state.proofs.NamedLemmas.{IsEdgeNamed-two}
use Rattle.rf_state.proofs.named_ends.NamedEnds.name_edge.Goals as goal

pub returns-in-Some-clause-named : goal.returns-in-Some-clause-named
returns-in-Some-clause-named c = on_ok_weaker c.name-in-Some.result
    (IsEdgeNamed-two c.args.problem.now c.args.self.now c.name.new.self c.name-in-Some.new.self c.args.r c.args.x c.args.y c.in-Some.q
    (sym (ap (λ (x : Reference). x.opposite) c.reference.ensures) ∙ c.in-Some.is) c.in_ok-name.ensures.named)
    c.name-in-Some.ensures.named

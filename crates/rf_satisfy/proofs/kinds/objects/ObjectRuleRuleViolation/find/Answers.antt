use Rattle.std.proofs.Common.{ap, arith, sym, ◌∙◌}
use Rattle.rf_graph.specs.First.{when}
use Rattle.rf_graph.specs.declared.verdict.Violation.TheVariants.{Object}
use Rattle.rf_satisfy.proofs.ObjectCounts.{satisfied-test}
use Rattle.rf_satisfy.proofs.kinds.objects.ObjectRuleRuleViolation.find.Goals as goal

pub returns : goal.returns
returns c =
    let s = c.args.self.now in
    c.when.ensures
    ∙ ap (λ b. when b (Object c.args.object)) (sym (satisfied-test s.problem.now s.graph.now s.counts.now s.strange.now c.args.object c.is_satisfied-satisfied.result s.counted
    (omega (arith, s.len, c.requires)) (omega (arith, s.strange_len, c.requires)) c.is_satisfied-satisfied.ensures))

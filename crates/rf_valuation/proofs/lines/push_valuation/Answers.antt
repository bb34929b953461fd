use Rattle.std.proofs.Common.{◌≡◌, ◌∙◌}
use Rattle.rf_valuation.proofs.LineLemmas.{below-more}
use Rattle.rf_valuation.proofs.lines.push_valuation.Goals as goal

pub loop-predicate-preserved : goal.loop-predicate-preserved
loop-predicate-preserved g c =
    let facts = c.args.facts.now in
    let same = c.loop-predicate.invariant.facts in
    let after : c.values.new.self.facts.now ≡ c.args.facts.now = c.in_ok-values.ensures.facts ∙ same in
    let are = rw same at c.in_ok-values.ensures.values in
    let lines = rw c.as_slice.ensures.value at c.in_ok-push_values.ensures in
    record {
      facts = after;
      lines = below-more (g.F.Facts.problem facts) (g.F.Facts.state facts) c.loop-predicate.predicate c.in_ok-values.values.items c.args.out.now
          c.loop-predicate.out c.push_values.new.out c.loop-predicate.invariant.lines are lines;
    }

use Rattle.std.proofs.Common.{◌∙◌, sym}
use Rattle.rf_finite.proofs.TotalLemmas.{end_of-total, end_of-some, end_of-none}
use Rattle.rf_finite.proofs.totals.EndsTotal.sum.Goals as goal

pub returns-then-self-eq0 : goal.returns-then-self-eq0
returns-then-self-eq0 c = λ n p f t. sym (end_of-some c.args.self.unbounded c.args.self.finite c.if-self-eq0.true) ∙ end_of-total n p f c.args.self t

pub returns-else-self-eq0 : goal.returns-else-self-eq0
returns-else-self-eq0 c = λ n p f t. sym (end_of-none c.args.self.unbounded c.args.self.finite c.if-self-eq0.false) ∙ end_of-total n p f c.args.self t

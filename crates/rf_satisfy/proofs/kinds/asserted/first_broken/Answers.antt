use Rattle.std.proofs.Common.{sym, ◌∙◌, ap}
use Rattle.std.specs.Option.{option_map}
use Rattle.rf_graph.specs.declared.verdict.Violation.TheVariants.{Asserted}
use Rattle.rf_satisfy.proofs.SuspectLemmas.{first_broken-is}
use Rattle.rf_satisfy.proofs.kinds.asserted.first_broken.Goals as goal

pub returns-in-Some-clause-first : goal.returns-in-Some-clause-first
returns-in-Some-clause-first c = ap (option_map (Asserted c.args.symbol)) (sym c.in-Some.is) ∙ first_broken-is c.args.index.now.problem c.args.index.now.graph c.args.symbol c.in_ok-tuple.field-0 c.in_ok-tuple.ensures.first

pub returns-in-None-clause-first : goal.returns-in-None-clause-first
returns-in-None-clause-first c = ap (option_map (Asserted c.args.symbol)) (sym c.in-None.is) ∙ first_broken-is c.args.index.now.problem c.args.index.now.graph c.args.symbol c.in_ok-tuple.field-0 c.in_ok-tuple.ensures.first

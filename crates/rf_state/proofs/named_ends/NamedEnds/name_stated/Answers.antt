use Rattle.std.proofs.Common.{◌∙◌, sym, refl}
use Rattle.std.proofs.lemmas.Result.{on_ok_weaker}
use Rattle.rf_state.proofs.NamedLemmas.{AreStated-more, AreStated-skip, no_reference-speaks, two_items}
use Rattle.rf_state.proofs.named_ends.NamedEnds.name_stated.Goals as goal

pub returns-in_default : goal.returns-in_default
returns-in_default c = record {
  numbers = refl;
  stated = λ xs held. AreStated-skip c.args.problem.now xs c.args.assertion.now c.args.self.now (no_reference-speaks c.args.assertion.now c.in_default.not-Reference) held;
}

pub returns-clause-stated : goal.returns-clause-stated
returns-clause-stated c = on_ok_weaker c.name_edge.result
    (λ named xs held. AreStated-more c.args.problem.now xs c.args.assertion.now c.in-Reference.r _ _ c.in-Reference.is
    (sym c.as_slice.ensures ∙ two_items c.as_slice.result.now c.in-len2.len_at_least c.in-len2.len_below) c.args.self.now c.name_edge.new.self named held)
    c.name_edge.ensures.named

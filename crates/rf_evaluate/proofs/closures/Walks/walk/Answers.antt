use Rattle.std.proofs.Common.{◌∙◌, sym}
use Rattle.rf_evaluate.proofs.WalkLemmas.{mark_of-walk}
use Rattle.rf_evaluate.proofs.closures.Walks.walk.Goals as goal

pub returns-in-Some-clause-value : goal.returns-in-Some-clause-value
returns-in-Some-clause-value c = λ k symbol held lx ly. c.at.ensures
    ∙ mark_of-walk k symbol c.args.self.now c.args.from c.args.to c.in-Some.marks.now held
    (held.searched c.args.from c.in-Some.marks.now (sym c.in-Some.ensures.value)) lx ly

pub returns-clause-value : goal.returns-clause-value
returns-clause-value c = λ k symbol held lx ly. c.at-value.ensures
    ∙ mark_of-walk k symbol c.args.self.now c.args.from c.args.to c.in_ok-marks.marks held c.in_ok-marks.ensures lx ly

pub returns-in_err-keep-clause-kept : goal.returns-in_err-keep-clause-kept
returns-in_err-keep-clause-kept c = λ k symbol held. c.keep.ensures.walks k symbol held c.in_ok-marks.ensures

pub returns-clause-kept : goal.returns-clause-kept
returns-clause-kept c = λ k symbol held. c.keep.ensures.walks k symbol held c.in_ok-marks.ensures

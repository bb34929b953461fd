use Rattle.std.proofs.Common.{refl, sym, true≢false}
use Rattle.rf_soundness.proofs.Trees.{valid_is_sound}
use Rattle.rf_check.proofs.CheckingLemmas.{refuted, unfinished}
use Rattle.rf_check.proofs.checker.Checker.finish.Goals as goal

pub returns-in-None-clause-checked : goal.returns-in-None-clause-checked
returns-in-None-clause-checked c p lines checked = refuted p c.args.self.now lines c.in-None.is (c.if-is_empty.ensures.0 refl) checked

pub returns-in-None-2-clause-checked : goal.returns-in-None-2-clause-checked
returns-in-None-2-clause-checked c p lines checked =
    unfinished p c.args.self.now lines c.in-None-2.is (λ empty. true≢false (sym (c.if-is_empty.ensures.1 empty))) checked

pub returns-in-None-clause-sound : goal.returns-in-None-clause-sound
returns-in-None-clause-sound c p lines checked =
    valid_is_sound p lines (refuted p c.args.self.now lines c.in-None.is (c.if-is_empty.ensures.0 refl) checked).0

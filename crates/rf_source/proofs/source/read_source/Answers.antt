use Rattle.std.proofs.Common.{ℕ, subst, sym}
use Rattle.std.specs.Str.{IsValidUpTo}
use Rattle.rf_source.proofs.StageLemmas.{Answers-not_utf8}
use Rattle.rf_source.proofs.source.read_source.Goals as goal

pub returns-in-Err : goal.returns-in-Err
returns-in-Err c = record {
  answers = Answers-not_utf8 c.args.bytes.now c.valid_up_to.result c.in-Err.ensures.cases.0
      (subst (λ (n : ℕ). IsValidUpTo c.args.bytes.now n) (sym c.valid_up_to.ensures) c.in-Err.ensures.cases.1);
}

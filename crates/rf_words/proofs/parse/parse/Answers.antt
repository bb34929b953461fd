use Rattle.std.proofs.Common.{◌≡◌, IfOk, true, subst, inl, inr}
use Rattle.clap.specs.Simple.{HasMatchesOf}
use Rattle.clap.specs.Kinds.{FailsBy}
use Rattle.clap.specs.Faults.{fault_of, is_simple_and_free}
use Rattle.rf_words.specs.Reader.{texts}
use Rattle.rf_words.proofs.Taken.{answered}
use Rattle.rf_words.proofs.parse.parse.Goals as goal

pub returns-in-Ok-clause-ok : goal.returns-in-Ok-clause-ok
returns-in-Ok-clause-ok c =
    let has = subst (λ a. IfOk c.try_get_matches_from.result (HasMatchesOf a (texts c.args.words.now))) c.in_ok-command.ensures c.try_get_matches_from.ensures.matches in
    let fails = subst (λ a. is_simple_and_free a ≡ true → FailsBy (fault_of a (texts c.args.words.now)) c.try_get_matches_from.result) c.in_ok-command.ensures c.try_get_matches_from.ensures.kinds in
    rw c.in-Ok.is at (answered (texts c.args.names.now) (texts c.args.words.now) c.try_get_matches_from.result c.requires.names c.requires.checked has fails)

pub returns-in-Err-clause-usage : goal.returns-in-Err-clause-usage
returns-in-Err-clause-usage c usage =
    let has = subst (λ a. IfOk c.try_get_matches_from.result (HasMatchesOf a (texts c.args.words.now))) c.in_ok-command.ensures c.try_get_matches_from.ensures.matches in
    let fails = subst (λ a. is_simple_and_free a ≡ true → FailsBy (fault_of a (texts c.args.words.now)) c.try_get_matches_from.result) c.in_ok-command.ensures c.try_get_matches_from.ensures.kinds in
    let either = rw c.in-Err.is at (answered (texts c.args.names.now) (texts c.args.words.now) c.try_get_matches_from.result c.requires.names c.requires.checked has fails) in
    elim either [ inl memory ↦ absurd (c.refusal.ensures usage memory) | inr none ↦ none ]

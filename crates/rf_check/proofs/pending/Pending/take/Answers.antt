use Rattle.std.proofs.Common.{Ok, refl, sym, ◌∙◌, ap, arith}
use Rattle.std.proofs.lemmas.List.{nil_from_length}
use Rattle.std.proofs.lemmas.Option.{MatchOption-at_none}
use Rattle.rf_check.proofs.KeptLemmas.{takes-close, takes-split}
use Rattle.rf_check.proofs.pending.Pending.take.Goals as goal

pub returns-in_ok-push-in-Some-2-clause-taken : goal.returns-in_ok-push-in-Some-2-clause-taken
returns-in_ok-push-in-Some-2-clause-taken c _ p kept = rw c.in-Decide.is
    (takes-split p c.args.self.now _ c.in-Decide.decision c.in-Decide.first c.in-Some.state c.split.new.state c.in-Some-2.other c.in-Some.is refl
    c.in_ok-push-in-Some-2.ensures.items (c.in_ok-split-in-Decide.ensures.split c.in-Some-2.other (ap Ok c.in-Some-2.is)) kept)

pub returns-then-closed-clause-taken : goal.returns-then-closed-clause-taken
returns-then-closed-clause-taken c _ p kept = rw c.in-Close.is
    (takes-close p c.args.self.now _ c.in-Close.rule c.in-Some.state c.in-Some.is (sym c.in_ok-closed-in-Close.ensures ∙ c.if-closed.true) c.pop.ensures.items
    (λ e. let last = (MatchOption-at_none _ _ e c.pop.ensures.cases).0 in nil_from_length c.args.self.now.others.items (omega (arith, last))) kept)

use Rattle.std.proofs.Common.{◌∙◌, ℕ, List, ap, ap₂, sym, Option}
use Rattle.std.proofs.lemmas.List.{nil_from_length}
use Rattle.rf_problem.specs.Patterns.{fits}
use Rattle.rf_problem.specs.Spoken.{heard_by, is_at, join}
use Rattle.rf_problem.proofs.HeardLemmas.{heard_from-all, heard_from-next}
use Rattle.rf_problem.proofs.assertions.Assertions.+heard_from.Goals as goal

pub returns-in_default : goal.returns-in_default
returns-in_default t c =
    c.heard_at.ensures
    ∙ ap (λ (args : List (Option ℕ)). heard_by (is_at c.args.symbol args) c.args.self.now) c.as_slice.ensures.args
    ∙ heard_from-all c.args.symbol c.args.first.now c.args.self.now
    ∙ ap (λ (rest : List ℕ). heard_by (fits c.args.symbol c.args.first.now rest) c.args.self.now) (sym (nil_from_length c.args.rest.now c.in_default.ensures.cases))

pub returns : goal.returns
returns t c =
    c.join.ensures
    ∙ ap₂ join
    (c.heard_from-told.ensures ∙ ap (λ (first : List (Option ℕ)). heard_by (fits c.args.symbol first c.in-Some.others.now) c.args.self.now) c.with.ensures)
    (c.heard_from.ensures ∙ ap (λ (first : List (Option ℕ)). heard_by (fits c.args.symbol first c.in-Some.others.now) c.args.self.now) c.with-2.ensures)
    ∙ heard_from-next c.args.symbol c.args.first.now c.in-Some.object.now c.in-Some.others.now c.args.self.now
    ∙ ap (λ (rest : List ℕ). heard_by (fits c.args.symbol c.args.first.now rest) c.args.self.now) (sym c.in-Some.ensures.cases.0)

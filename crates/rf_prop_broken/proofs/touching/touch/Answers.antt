use Rattle.std.proofs.Common.{Bool, List, ap, ◌∙◌, subst}
use Rattle.rf_problem.specs.declared.problem.Problem.{Problem as ProblemOf}
use Rattle.rf_pending.specs.Changes.{IsChange}
use Rattle.rf_pending.specs.Touching.{AreTouched}
use Rattle.rf_pending.specs.declared.change.Change.{Change as ChangeOf}
use Rattle.rf_prop_broken.specs.Dependence.{depends_on, is_found}
use Rattle.rf_prop_broken.proofs.AfterLemmas.{covers-after}
use Rattle.rf_prop_broken.proofs.touching.touch.Goals as goal

pub returns-in_ok-found-in-Fact-clause-covers : goal.returns-in_ok-found-in-Fact-clause-covers
returns-in_ok-found-in-Fact-clause-covers g c = λ s is covers.
    let p = g.F.Facts.problem c.args.view.now in
    let t = g.F.Facts.state c.args.view.now in
    let h = subst (λ (change : ChangeOf). IsChange change s t) c.in-Fact.is is in
    let found = c.in_ok-found-in-Fact.found.items in
    covers-after p s t c.in-Fact.r c.in-Fact.field-1 c.in-Fact.field-2 h.0 h.1 found
    (λ q. c.in_ok-found-in-Fact.ensures q ∙ ap (λ (x : ProblemOf). depends_on x c.in-Fact.r q) c.problem.ensures) c.args.pending.now _ covers
    (subst (λ (xs : List Bool). AreTouched (is_found xs) c.args.pending.now.broken c.touch_found.new.marks) c.as_slice.ensures.value c.touch_found.ensures)
    (subst (λ (xs : List Bool). AreTouched (is_found xs) c.args.pending.now.forced c.touch_found-in-Fact.new.marks) c.as_slice-in-Fact.ensures.value c.touch_found-in-Fact.ensures)

use Rattle.std.proofs.Common.{Option, refl, subst, sym}
use Rattle.std.specs.Option.{IsSome}
use Rattle.std.proofs.lemmas.Result.{IfOk-weaker}
use Rattle.rf_evaluate.specs.declared.closures.Walks.{Walks}
use Rattle.rf_evaluate.proofs.WalkLemmas.{kept-more}
use Rattle.rf_evaluate.proofs.closures.Closures.walk.Goals as goal

pub returns-in-Some-clause-kept : goal.returns-in-Some-clause-kept
returns-in-Some-clause-kept c = λ k kept.
    let here = sym c.in-Some.ensures.value in
    let written = c.get_mut.follows.holds c.walk.new.self in
    let put = (written.3 (subst (λ (o : Option Walks). IsSome o) c.in-Some.ensures.value refl)).0 in
    kept-more k c.args.self.now.walks (c.get_mut.follows.lender c.walk.new.self) c.args.symbol c.walk.new.self put
    (c.walk.ensures.kept k c.args.symbol (kept c.args.symbol c.in-Some.walks.now here)) kept

pub returns-in-Some-clause-value : goal.returns-in-Some-clause-value
returns-in-Some-clause-value c = IfOk-weaker c.walk.result _ _
    (λ v told k kept lx ly. told k c.args.symbol (kept c.args.symbol c.in-Some.walks.now (sym c.in-Some.ensures.value)) lx ly) c.walk.ensures.value

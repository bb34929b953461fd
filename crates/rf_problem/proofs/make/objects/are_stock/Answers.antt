use Rattle.std.proofs.Common.{◌∙◌, ◌≤◌, length, arith, ap, sym, true≢false}
use Rattle.std.proofs.lemmas.Bool.{eq-eqb, eqb-true}
use Rattle.std.proofs.lemmas.List.{nil_from_length}
use Rattle.rf_problem.proofs.StockLemmas.{AreStock-end, AreStock-next, AreStock-not_empty, AreStock-not_first, AreStock-skip}
use Rattle.rf_problem.proofs.make.objects.are_stock.Goals as goal
use Rattle.rf_problem.proofs.make.objects.are_stock.Goals.{then-has_new+in-Some+else-not-is_new_object, else-has_new}

pub returns-in_default : goal.returns-in_default
returns-in_default c = (
  λ never. absurd (true≢false (sym never)),
  λ stock. absurd (AreStock-not_empty c.args.classes.now c.loop-number.number c.index-classes-number.result c.loop-number-test.true
      c.index-classes-number.is c.loop-number.rest.now (sym c.has_new.ensures ∙ c.if-has_new.true) (nil_from_length c.loop-number.rest.now c.in_default.ensures.cases)
      (c.loop-number.invariant.there stock)),
)

pub returns-then-not-is_new_object : goal.returns-then-not-is_new_object
returns-then-not-is_new_object c = (
  λ never. absurd (true≢false (sym never)),
  λ stock. absurd (AreStock-not_first c.args.classes.now c.loop-number.number c.index-classes-number.result c.loop-number-test.true
      c.index-classes-number.is c.loop-number.rest.now c.in-Some.first.now c.in-Some.others.now (sym c.has_new.ensures ∙ c.if-has_new.true) c.in-Some.ensures.cases.0
      (λ new. true≢false (sym (c.is_new_object.ensures.1 new) ∙ c.if-not-is_new_object.true)) (c.loop-number.invariant.there stock)),
)

pub loop-number-preserved : goal.loop-number-preserved
loop-number-preserved c = elim c.if-has_new.branch [
  | then-has_new+in-Some+else-not-is_new_object w ↦ (let both = AreStock-next c.args.classes.now c.loop-number.number c.index-classes-number.result
      c.loop-number-test.true c.index-classes-number.is c.loop-number.rest.now w.in-Some.first.now w.in-Some.others.now (sym c.has_new.ensures ∙ w.if-has_new.true)
      w.in-Some.ensures.cases.0 (w.is_new_object.ensures.0 w.if-not-is_new_object.false) in
      rw w.rest-is record { there = λ h. both.0 (c.loop-number.invariant.there h); back = λ h. c.loop-number.invariant.back (both.1 h) })
  | else-has_new w ↦ (let both = AreStock-skip c.args.classes.now c.loop-number.number c.index-classes-number.result
      c.loop-number-test.true c.index-classes-number.is c.loop-number.rest.now (sym c.has_new.ensures ∙ w.if-has_new.false) in
      rw w.rest-is record { there = λ h. both.0 (c.loop-number.invariant.there h); back = λ h. c.loop-number.invariant.back (both.1 h) })
]

pub returns : goal.returns
returns c =
    let past : length c.args.classes.now ≤ c.loop-number.number = omega arith in
    let ends = AreStock-end c.args.classes.now c.loop-number.number c.loop-number.rest.now past in (
      λ t. c.loop-number.invariant.back (ends.1 (nil_from_length c.loop-number.rest.now (eqb-true _ _ (sym c.is_empty.ensures ∙ t)))),
      λ stock. c.is_empty.ensures ∙ eq-eqb _ _ (ap length (ends.0 (c.loop-number.invariant.there stock))),
    )

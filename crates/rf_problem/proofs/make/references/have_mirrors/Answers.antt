use Rattle.std.proofs.Common.{◌∙◌, refl, sym, true≢false, arith, subst, inl, inr}
use Rattle.std.proofs.lemmas.Bool.{cases_eq}
use Rattle.std.specs.Option.{ForSome}
use Rattle.rf_problem.specs.Parts.{reference_at}
use Rattle.rf_problem.specs.Valid.{AreMirrored}
use Rattle.rf_problem.proofs.make.references.have_mirrors.Goals as goal

pub returns-then-not-has_mirror : goal.returns-then-not-has_mirror
returns-then-not-has_mirror c = (
  λ never. absurd (true≢false (sym never)),
  λ all. sym c.if-not-has_mirror.true ∙ c.has_mirror.ensures.1 (all c.loop-number.number (omega arith)),
)

pub loop-number-preserved : goal.loop-number-preserved
loop-number-preserved c = λ r l. elim (cases_eq r c.loop-number.number) [
  | inl same ↦ subst (λ k. ForSome (reference_at c.args.references.now k).opposite (AreMirrored c.args.references.now k)) (sym same)
      (c.has_mirror.ensures.0 c.if-not-has_mirror.false)
  | inr other ↦ c.loop-number.invariant r (omega arith)
]

pub returns : goal.returns
returns c = (λ _ r l. c.loop-number.invariant r (omega arith), λ _. refl)

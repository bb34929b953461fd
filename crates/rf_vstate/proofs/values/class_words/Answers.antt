use Rattle.std.proofs.Common.{◌+◌, ◌≡◌, ℕ, List, arith, subst, sym, ◌∙◌}
use Rattle.rf_vstate.proofs.Bits.{IsSpelling, IsSpelling-none, IsSpelling-with, IsSpelling-without, spelled, spelled-words}
use Rattle.rf_vstate.proofs.values.class_words.Goals as goal
use Rattle.rf_vstate.proofs.values.class_words.Goals.{then-has, else-has}

pub loop-class-init : goal.loop-class-init
loop-class-init c = IsSpelling-none c.args.classes

pub loop-class-preserved : goal.loop-class-preserved
loop-class-preserved c = elim c.if-has.branch [
  | then-has w ↦ subst (λ (words : List ℕ). IsSpelling c.args.classes (c.loop-class.class + 1) words) (sym w.words-is)
      (IsSpelling-with c.args.classes c.loop-class.class c.loop-class.words (omega (arith, c.loop-class-test.true, c.requires.end)) c.loop-class.invariant
      (sym c.has.ensures.has ∙ w.if-has.true))
  | else-has w ↦ subst (λ (words : List ℕ). IsSpelling c.args.classes (c.loop-class.class + 1) words) (sym w.words-is)
      (IsSpelling-without c.args.classes c.loop-class.class c.loop-class.words (omega (arith, c.loop-class-test.true, c.requires.end)) c.loop-class.invariant
      (sym c.has.ensures.has ∙ w.if-has.false))
]

pub returns-clause-words : goal.returns-clause-words
returns-clause-words c =
    let whole : c.loop-class.class ≡ c.args.end = omega (arith, c.loop-class-test.false, c.loop-class.auto.class-end) in
    spelled-words c.args.classes c.args.end c.loop-class.words (subst (λ (n : ℕ). IsSpelling c.args.classes n c.loop-class.words) whole c.loop-class.invariant) c.requires.below

pub returns-clause-classes : goal.returns-clause-classes
returns-clause-classes c =
    let whole : c.loop-class.class ≡ c.args.end = omega (arith, c.loop-class-test.false, c.loop-class.auto.class-end) in
    spelled c.args.classes c.args.end c.loop-class.words (subst (λ (n : ℕ). IsSpelling c.args.classes n c.loop-class.words) whole c.loop-class.invariant) c.requires.below

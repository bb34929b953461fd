use Rattle.std.proofs.Common.{◌≡◌, ℕ, arith, subst}
use Rattle.rf_vstate.proofs.Bits.{AreOfWords, AreOfWords-more, marked-of_words}
use Rattle.rf_vstate.proofs.values.classes_in.Goals as goal

pub loop-place-preserved : goal.loop-place-preserved
loop-place-preserved c = AreOfWords-more c.args.words c.loop-place.place c.loop-place.classes c.with_word-classes.result c.with_word-classes.ensures c.loop-place.invariant

pub returns : goal.returns
returns c =
    let whole : c.loop-place.place ≡ 4 = omega (arith, c.loop-place-test.false, c.loop-place.auto.place-end) in
    marked-of_words c.args.words c.loop-place.classes (subst (λ (n : ℕ). AreOfWords c.args.words n c.loop-place.classes) whole c.loop-place.invariant)

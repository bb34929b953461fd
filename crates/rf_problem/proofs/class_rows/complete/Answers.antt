use Rattle.std.proofs.Common.{◌<◌, arith, length, refl}
use Rattle.rf_problem.proofs.AboveLemmas.{AreAbove-past, AreAbove-settled, AreNear-more, AreNear-selves}
use Rattle.rf_problem.proofs.class_rows.complete.Goals as goal

pub loop-round-init : goal.loop-round-init
loop-round-init c = AreNear-selves c.args.classes.now c.args.rows.now c.requires.rows

pub returns-then-not-raise : goal.returns-then-not-raise
returns-then-not-raise c =
    AreAbove-settled c.args.classes.now c.loop-round.rows c.raise.new.rows c.loop-round._round c.loop-round.invariant c.raise.ensures.same_length
    c.raise.ensures.kept c.raise.ensures.through c.raise.ensures.sound (c.raise.ensures.settled c.if-not-raise.true)

pub loop-round-preserved : goal.loop-round-preserved
loop-round-preserved c =
    AreNear-more c.args.classes.now c.loop-round.rows c.raise.new.rows c.loop-round._round _ c.loop-round.invariant c.raise.ensures.same_length
    c.raise.ensures.kept c.raise.ensures.through c.raise.ensures.sound refl

pub returns : goal.returns
returns c =
    let past : length c.args.classes.now < c.loop-round._round = omega arith in
    AreAbove-past c.args.classes.now c.loop-round.rows c.loop-round._round past c.loop-round.invariant

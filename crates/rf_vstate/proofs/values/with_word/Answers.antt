use Rattle.std.proofs.Common.{◌+◌, ◌/◌, subst, sym}
use Rattle.std.specs.FinSet.{FinSet}
use Rattle.std.specs.Ordering.{nat_cmp}
use Rattle.rf_vstate.proofs.Bits.{IsGathering, IsGathering-none, IsGathering-with, IsGathering-without, gathered}
use Rattle.rf_vstate.proofs.values.with_word.Goals as goal
use Rattle.rf_vstate.proofs.values.with_word.Goals.{then-rest-eq1, else-rest-eq1}

pub loop-rest-init : goal.loop-rest-init
loop-rest-init c = IsGathering-none c.args.classes c.args.place c.args.word c.ranges.word.fits

pub loop-rest-preserved : goal.loop-rest-preserved
loop-rest-preserved c = elim c.if-rest-eq1.branch [
  | then-rest-eq1 w ↦ subst (λ (all : FinSet nat_cmp). IsGathering c.args.classes c.args.place c.args.word all (c.loop-rest.bit + 1) (c.loop-rest.rest / 2)) (sym w.all-is)
      (IsGathering-with c.args.classes c.args.place c.args.word c.loop-rest.all w.adding-all.result c.loop-rest.bit c.loop-rest.rest c.requires
      c.loop-rest.invariant c.loop-rest-test.true w.if-rest-eq1.true w.adding-all.ensures.members)
  | else-rest-eq1 w ↦ subst (λ (all : FinSet nat_cmp). IsGathering c.args.classes c.args.place c.args.word all (c.loop-rest.bit + 1) (c.loop-rest.rest / 2)) (sym w.all-is)
      (IsGathering-without c.args.classes c.args.place c.args.word c.loop-rest.all c.loop-rest.all c.loop-rest.bit c.loop-rest.rest c.requires
      c.loop-rest.invariant c.loop-rest-test.true w.if-rest-eq1.false)
]

pub returns : goal.returns
returns c = gathered c.args.classes c.args.place c.args.word c.loop-rest.all c.loop-rest.bit c.loop-rest.rest c.loop-rest.invariant c.loop-rest-test.false

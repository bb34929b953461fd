use Rattle.std.proofs.Common.{Option, List, ℕ, sym, subst}
use Rattle.rf_evaluate.specs.Gathering.{HasGathered, IsFirst, IsNotAfter}
use Rattle.rf_evaluate.proofs.Gathered.{IsTold, gathered-earlier}
use Rattle.rf_evaluate.proofs.gather.OptionTupleGather.add.Goals as goal

pub returns : goal.returns
returns c =
    subst (λ (first : Option (List ℕ)). HasGathered IsFirst IsNotAfter (IsTold c.args.tuple c.args._value) c.args.self.now first) (sym c.earlier.ensures)
    (gathered-earlier c.args.self.now c.args.tuple c.args._value c.requires)

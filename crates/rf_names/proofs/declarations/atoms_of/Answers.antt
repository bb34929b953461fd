use Rattle.std.proofs.Common.{[], map}
use Rattle.rf_names.specs.Declarations.{atoms_in}
use Rattle.rf_names.proofs.LoopSteps.{flat_more}
use Rattle.rf_names.proofs.declarations.atoms_of.Goals as goal

pub loop-statement-preserved : goal.loop-statement-preserved
loop-statement-preserved c =
    flat_more atoms_in [] (map (λ n. n.now) c.loop-statement.names.items) (map (λ n. n.now) c.push_atoms.new.out.items) c.args.statements.now c.loop-statement.statement-index
    c.statement-item.result c.loop-statement-test.true c.statement-item.is c.loop-statement.invariant c.in_ok-push_atoms.ensures

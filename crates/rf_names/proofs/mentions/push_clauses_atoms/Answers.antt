use Rattle.std.proofs.Common.{map}
use Rattle.rf_names.specs.Declarations.{items_of}
use Rattle.rf_names.specs.Gathering.{atoms_among}
use Rattle.rf_names.proofs.LoopSteps.{flat_more}
use Rattle.rf_names.proofs.mentions.push_clauses_atoms.Goals as goal

pub loop-clause-preserved : goal.loop-clause-preserved
loop-clause-preserved c =
    flat_more (λ clause. atoms_among (map (λ n. n.now) c.args.atoms.now.names.items) (map (λ n. n.now) c.args.params.now.names.items) (items_of clause))
    (map (λ n. n.now) c.args.out.now.items) (map (λ n. n.now) c.loop-clause.out.items) (map (λ n. n.now) c.push_clause_atoms.new.out.items) c.args.clauses.now c.loop-clause.clause-index
    c.clause-item.result c.loop-clause-test.true c.clause-item.is c.loop-clause.invariant c.in_ok-push_clause_atoms.ensures

use Rattle.rf_bounds.specs.declared.TheConstants.{MOST_VARIABLES}
use Rattle.rf_build.proofs.BodyLemmas.{clause_names_few, known_step, written_step}
use Rattle.rf_build.proofs.predicates.written.Goals as goal

pub literal_of-requires : goal.literal_of-requires
literal_of-requires c =
    rw c.loop-literal.invariant.known
    (clause_names_few c.args.arguments.now.names.now.declared.now c.args.arguments.now.params.now (λ m. m.now) c.args.known.now
    c.args.literals.now c.loop-literal.literal-index c.literal-item.result MOST_VARIABLES
    c.loop-literal-test.true c.literal-item.is c.requires)

pub loop-literal-preserved : goal.loop-literal-preserved
loop-literal-preserved c = record {
  known = known_step c.args.arguments.now.names.now.declared.now c.args.arguments.now.params.now (λ m. m.now) c.args.known.now
      c.args.literals.now c.loop-literal.literal-index c.literal-item.result _ _
      c.loop-literal-test.true c.literal-item.is c.loop-literal.invariant.known c.in_ok-resolved.ensures.known;
  written = written_step c.args.arguments.now.names.now.declared.now c.args.arguments.now.params.now (λ m. m.now) c.args.known.now
      c.args.literals.now c.loop-literal.literal-index c.literal-item.result _ _ _ _
      c.loop-literal-test.true c.literal-item.is c.loop-literal.invariant.known
      c.loop-literal.invariant.written c.in_ok-resolved.ensures.literal c.in_ok-push.ensures.items;
}

use Rattle.std.proofs.Common.{◌∙◌, ap, map}
use Rattle.std.proofs.lemmas.List.{take_all}
use Rattle.rf_names.specs.Gathering.{gathered_by, with_statement}
use Rattle.rf_names.proofs.Gathered.{gathered_more}
use Rattle.rf_names.proofs.declarations.Declarations.gathered.Goals as goal

pub returns : goal.returns
returns c =
    c.loop-statement.invariant
    ∙ ap (gathered_by (map (λ n. n.now) c.args.atoms.names.items)) (take_all c.loop-statement.statement-index c.args.statements.now c.loop-statement-test.false)

pub loop-statement-preserved : goal.loop-statement-preserved
loop-statement-preserved c =
    c.in_ok-add.ensures ∙ ap (λ d. with_statement d c.statement-item.result) c.loop-statement.invariant
    ∙ gathered_more _ c.args.statements.now c.loop-statement.statement-index c.statement-item.result c.loop-statement-test.true c.statement-item.is

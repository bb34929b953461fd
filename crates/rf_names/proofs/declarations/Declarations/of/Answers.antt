use Rattle.rf_names.proofs.Gathered.{declared_whole}
use Rattle.rf_names.proofs.declarations.Declarations.of.Goals as goal

pub returns : goal.returns
returns c =
    declared_whole c.as_slice-statements.result.now c.args.ast.now.statements _ c.in_ok-declarations.declarations _ c.in_ok-declarations-inside.field-0.items _
    c.as_slice-statements.ensures c.declarations.view_is c.in_ok-declarations.ensures c.in_ok-atoms.ensures c.as_slice.ensures.value c.in_ok-declarations-inside.ensures

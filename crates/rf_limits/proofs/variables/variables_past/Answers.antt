use Rattle.std.proofs.Common.{◌∙◌, arith, sym, ap}
use Rattle.rf_names.specs.Bodies.{clause_names}
use Rattle.rf_names.specs.Offsets.{least_of}
use Rattle.rf_limits.proofs.VariablesPast.{passed_by_params}
use Rattle.rf_limits.proofs.variables.variables_past.Goals as goal

pub returns-then-params-limit : goal.returns-then-params-limit
returns-then-params-limit c =
    let params = c.args.arguments.now.params.now in
    c.past.ensures
    ∙ ap least_of (sym (passed_by_params c.args.limit params (clause_names c.args.arguments.now.names.now.declared.now params c.args.clause.now) (omega arith)))

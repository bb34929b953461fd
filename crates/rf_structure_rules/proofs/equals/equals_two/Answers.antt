use Rattle.std.proofs.Common.{◌&&◌, not}
use Rattle.rf_names.specs.Offsets.{offset_if}
use Rattle.rf_names.proofs.LeastOffsets.{least_of_sensed}
use Rattle.rf_structure_rules.specs.StructureOffsets.{is_equals, is_twice}
use Rattle.rf_structure_rules.proofs.equals.equals_two.Goals as goal

pub returns : goal.returns
returns c =
    least_of_sensed c.args.names.now.declared.now (λ a. offset_if (is_equals a.sense && not (is_twice a.form.atom.args)) a.form.atom.symbol.name.at)
    c.assertions.result.now c.in_ok-at.at c.in_ok-at.ensures c.assertions.ensures

use Rattle.std.proofs.Common.{arith}
use Rattle.std.proofs.lemmas.Grind.{common_steps}
use Rattle.rf_problem.specs.Spoken.{join}
use Rattle.rf_problem.specs.Table.{heard_at}
use Rattle.rf_problem.proofs.TableLemmas.{heard_at-put}
use Rattle.rf_problem.proofs.table.put.Goals as goal

pub returns : goal.returns
returns c = λ q. grind (arith, common_steps, heard_at-put c.args.table.now c.args.key (join (heard_at c.args.table.now c.args.key) c.args.told) q)

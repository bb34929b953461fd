use Rattle.std.proofs.Common.{length, arith, ap}
use Rattle.rf_store.proofs.Trees.{length-parts_of}
use Rattle.rf_store.proofs.table.Table.len.Goals as goal

pub returns : goal.returns
returns c = omega (arith, ap (λ t. length t.parts) c.self.view_is, length-parts_of c.self.inside.rows.items, c.len.ensures)

use Rattle.std.proofs.Common.{sym}
use Rattle.rf_vstate.specs.Meaning.{current}
use Rattle.rf_mirror.proofs.ToldLemmas.{root-asserted}
use Rattle.rf_mirror.proofs.mirrored.Mirrored.root.Goals as goal

pub add_all_cells-requires-clause-asserted : goal.add_all_cells-requires-clause-asserted
add_all_cells-requires-clause-asserted c =
    let inner = c.in_ok-inner.inner in
    let root = rw (sym c.in_ok-inner.ensures.problem) at c.in_ok-inner.ensures.root in
    root-asserted inner.problem.now (current inner) root

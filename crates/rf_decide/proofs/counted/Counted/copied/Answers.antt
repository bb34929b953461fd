use Rattle.rf_decide.specs.Choice.{kinds_of}
use Rattle.rf_decide.specs.Counted.{edge_row}
use Rattle.rf_decide.specs.declared.limit.TheConstants.{MOST_OBJECTS}
use Rattle.std.proofs.Common.{length, ◌*◌}
use Rattle.rf_decide.proofs.counted.Counted.copied.Goals as goal

pub returns : goal.returns
returns c p s h = record {
  kinds = c.in_ok-copied.ensures (length s.objects) 256 (kinds_of p s) h.kinds;
  edges = c.in_ok-copied-2.ensures (length p.references * length s.objects) MOST_OBJECTS (edge_row p s) h.edges;
}

use Rattle.std.proofs.Common.{◌++◌, ap, arith, length, map, sym}
use Rattle.rf_text.specs.Line.{joined_lines}
use Rattle.rf_graph.specs.Document.{edge_line}
use Rattle.rf_graph.specs.Graph.{FitsEdge}
use Rattle.rf_graph.proofs.Grown.{All-none, All-pushed, no_longer, one_more_line}
use Rattle.rf_graph.proofs.Lines.{one_first_edge}
use Rattle.rf_graph.proofs.Seen.{among, no_mark, none_distinct, not_among, one_more_mark, still_distinct}
use Rattle.rf_graph.proofs.read.read_edges.Goals as goal
use Rattle.rf_graph.proofs.read.read_edges.Goals.{in-Some+in_ok-insert+then-not-branch, in_default}

pub loop-edge-preserved : goal.loop-edge-preserved
loop-edge-preserved c =
    let p = c.args.numbers.now.problem.now in
    let so = c.loop-edge.invariant in
    let edge = c.in-Some.edge in
    let begun = c.in-Some.ensures.joined in
    let pushed = c.in_ok-push.ensures.items in
    let absent = not_among c.loop-edge.edges.items c.loop-edge.seen edge _ so.marks c.in_ok-insert.ensures.added c.if-not-branch.false in
    record {
      fits = All-pushed (FitsEdge p c.args.nodes) _ _ edge so.fits c.in-Some.ensures.fits pushed;
      distinct = still_distinct c.loop-edge.edges.items _ edge so.distinct absent pushed;
      marks = one_more_mark c.loop-edge.edges.items _ c.loop-edge.seen c.insert.new.self edge so.marks c.in_ok-insert.ensures.updates pushed;
      joined = one_more_line (edge_line p) c.args.bytes.now _ _ _ _ edge so.joined begun pushed;
      few = no_longer (edge_line p) _ _ _ _ edge _ begun pushed so.few;
    }

pub loop-edge-init : goal.loop-edge-init
loop-edge-init c =
    let none = c.new-edges.ensures.items in
    record {
      fits = All-none (FitsEdge c.args.numbers.now.problem.now c.args.nodes) _ none;
      distinct = none_distinct _ none;
      marks = no_mark _ _ none c.new-seen.ensures.empty;
      joined = ap (λ edges. joined_lines (map (edge_line c.args.numbers.now.problem.now) edges) ++ c.args.bytes.now) (sym none);
      few = omega (arith, ap length none);
    }

pub returns-clause-over : goal.returns-clause-over
returns-clause-over c edge after fits absent begun = elim c.match-first_edge.branch [
  | in-Some+in_ok-insert+then-not-branch w ↦ one_first_edge c.args.numbers.now.problem.now c.args.nodes c.loop-edge.edges.items w.in-Some.edge edge c.loop-edge.rest.now
      w.in-Some.after.now after c.ranges.nodes.fits w.in-Some.ensures.fits fits w.in-Some.ensures.joined begun
      (among c.loop-edge.edges.items c.loop-edge.seen w.in-Some.edge _ c.loop-edge.invariant.marks w.in_ok-insert.ensures.added w.if-not-branch.true) absent
  | in_default w ↦ w.in_default.ensures.none edge after fits begun
]

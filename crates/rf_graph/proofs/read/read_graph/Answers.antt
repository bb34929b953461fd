use Rattle.rf_graph.proofs.BadLines.{document_found, bad_line_found}
use Rattle.rf_graph.proofs.read.read_graph.Goals as goal

pub returns-clause-found : goal.returns-clause-found
returns-clause-found c graph drawn = document_found c.args.problem.now c.args.bytes.now graph _ c.read_document.ensures.same c.read_document.ensures.bad_line drawn

pub returns-clause-stuck : goal.returns-clause-stuck
returns-clause-stuck c line bad = bad_line_found c.args.problem.now c.args.bytes.now line _ c.read_document.ensures.ok c.read_document.ensures.bad_line bad

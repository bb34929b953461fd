use Rattle.std.proofs.Common.{sym}
use Rattle.rf_graph.proofs.Lines.{IfNone-from, edge_words, no_words, one_word}
use Rattle.rf_graph.proofs.line.read_edge.Goals as goal

pub returns-in_err-prefix-clause-none : goal.returns-in_err-prefix-clause-none
returns-in_err-prefix-clause-none c =
    IfNone-from _ c.from_residual-in_err-prefix.result
    (λ e fits same. no_words c.args.numbers.now.problem.now c.args.line.now _ c.in_ok-tail.ensures.found c.in_err-prefix.ensures.none e same)

pub returns-in_err-reference_name-clause-none : goal.returns-in_err-reference_name-clause-none
returns-in_err-reference_name-clause-none c =
    IfNone-from _ c.from_residual-in_err-reference_name.result
    (λ e fits same. one_word c.args.numbers.now.problem.now c.args.line.now _ _ _ c.in_ok-tail.ensures.found c.in_ok-prefix.ensures.found
    c.in_err-reference_name.ensures.none e same)

pub returns-in_err-reference-clause-none : goal.returns-in_err-reference-clause-none
returns-in_err-reference-clause-none c =
    IfNone-from _ c.from_residual-in_err-reference.result
    (λ e fits same. let words = edge_words c.args.numbers.now.problem.now e c.args.line.now _ _ _ _ _ c.in_ok-tail.ensures.found c.in_ok-prefix.ensures.found c.in_ok-reference_name.ensures.found same in
    c.in_err-reference.ensures.none e.reference (fits.reference, sym words.0))

pub returns-in_err-from-clause-none : goal.returns-in_err-from-clause-none
returns-in_err-from-clause-none c =
    IfNone-from _ c.from_residual-in_err-from.result
    (λ e fits same. let words = edge_words c.args.numbers.now.problem.now e c.args.line.now _ _ _ _ _ c.in_ok-tail.ensures.found c.in_ok-prefix.ensures.found c.in_ok-reference_name.ensures.found same in
    c.in_err-from.ensures.none e.from fits.from_node words.1)

pub returns-in_err-to-clause-none : goal.returns-in_err-to-clause-none
returns-in_err-to-clause-none c =
    IfNone-from _ c.from_residual-in_err-to.result
    (λ e fits same. let words = edge_words c.args.numbers.now.problem.now e c.args.line.now _ _ _ _ _ c.in_ok-tail.ensures.found c.in_ok-prefix.ensures.found c.in_ok-reference_name.ensures.found same in
    c.in_err-to.ensures.none e.to fits.to_node words.2)

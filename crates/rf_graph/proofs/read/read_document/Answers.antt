use Rattle.std.proofs.Common.{◌≡◌, ◌∙◌, ◌+◌, ◌^◌, ◌<◌, ℕ, arith, length, subst}
use Rattle.std.proofs.lemmas.Grind.{common_steps}
use Rattle.rf_graph.specs.BadLine.{IsBadLine}
use Rattle.rf_graph.proofs.Documents.{IsBadLine-after, IsBadLine-head, IsBadLine-next, IsDocument-ended, IsRead-parts, graph_of, one_document, stuck}
use Rattle.rf_graph.proofs.read.read_document.Goals as goal

pub returns-in_default-clause-bad_line : goal.returns-in_default-clause-bad_line
returns-in_default-clause-bad_line c line e =
    let here : ◌≡◌ {A = ℕ} 1 line = cc in
    subst (λ (k : ℕ). IsBadLine c.args.problem.now c.args.bytes.now k) here (IsBadLine-head c.args.problem.now c.args.bytes.now c.in_default.ensures.none)

pub returns-in_default-after_end-clause-bad_line : goal.returns-in_default-after_end-clause-bad_line
returns-in_default-after_end-clause-bad_line c line e =
    let here : ◌≡◌ {A = ℕ} (c.len-2.result + c.len-3.result + 2) line = cc in
    let p = c.args.problem.now in
    let nodes = c.in_ok-nodes.nodes.items in
    let edges = c.in_ok-edges.edges.items in
    let rest = c.in_ok-edges.rest.now in
    let few : length nodes < 2 ^ 64 = omega arith in
    let so = IsRead-parts p _ c.args.bytes.now _ _ rest nodes edges c.len.result (c.in_ok-numbers.ensures ∙ c.in_ok-names.ensures) (omega arith) c.in-Some.ensures.found
    c.in_ok-nodes.ensures.fits c.in_ok-nodes.ensures.joined c.in_ok-nodes.ensures.over c.in_ok-edges.ensures.fits c.in_ok-edges.ensures.distinct
    c.in_ok-edges.ensures.joined c.in_ok-edges.ensures.over in
    IsBadLine-next p c.args.bytes.now rest nodes edges line few so.fits so.so_far (omega arith)
    (stuck p nodes edges rest _ (λ after same _. c.in_default-after_end.ensures.none after same) so.no_node so.no_edge)
    (stuck p nodes edges rest _ (λ after same _. c.in_default-after_end.ensures.none after same) so.no_node so.no_edge)

pub returns-then-not-is_empty-clause-bad_line : goal.returns-then-not-is_empty-clause-bad_line
returns-then-not-is_empty-clause-bad_line c line e =
    let here : ◌≡◌ {A = ℕ} (c.len-2.result + c.len-3.result + 2 + 1) line = cc in
    let p = c.args.problem.now in
    let nodes = c.in_ok-nodes.nodes.items in
    let edges = c.in_ok-edges.edges.items in
    let rest = c.in_ok-edges.rest.now in
    let few : length nodes < 2 ^ 64 = omega arith in
    let so = IsRead-parts p _ c.args.bytes.now _ _ rest nodes edges c.len.result (c.in_ok-numbers.ensures ∙ c.in_ok-names.ensures) (omega arith) c.in-Some.ensures.found
    c.in_ok-nodes.ensures.fits c.in_ok-nodes.ensures.joined c.in_ok-nodes.ensures.over c.in_ok-edges.ensures.fits c.in_ok-edges.ensures.distinct
    c.in_ok-edges.ensures.joined c.in_ok-edges.ensures.over in
    IsBadLine-after p c.args.bytes.now rest _ nodes edges line few so.fits so.so_far c.in-Some-after_end.ensures.found (λ none. grind (arith, common_steps, none)) (omega arith)

pub returns-clause-ok : goal.returns-clause-ok
returns-clause-ok c =
    let p = c.args.problem.now in
    let nodes = c.in_ok-nodes.nodes.items in
    let edges = c.in_ok-edges.edges.items in
    let rest = c.in_ok-edges.rest.now in
    let over : length c.in-Some-after_end.after.now ≡ 0 = grind (arith, common_steps) in
    let so = IsRead-parts p _ c.args.bytes.now _ _ rest nodes edges c.len.result (c.in_ok-numbers.ensures ∙ c.in_ok-names.ensures) (omega arith) c.in-Some.ensures.found
    c.in_ok-nodes.ensures.fits c.in_ok-nodes.ensures.joined c.in_ok-nodes.ensures.over c.in_ok-edges.ensures.fits c.in_ok-edges.ensures.distinct
    c.in_ok-edges.ensures.joined c.in_ok-edges.ensures.over in
    rw (c.from_vec.ensures, c.from_vec-2.ensures) (IsDocument-ended p c.args.bytes.now rest _ nodes edges so.fits so.so_far c.in-Some-after_end.ensures.found over)

pub returns-clause-same : goal.returns-clause-same
returns-clause-same c other doc =
    let few : length c.from_vec.result < 2 ^ 64 = rw c.from_vec.ensures (omega arith) in
    one_document c.args.problem.now c.args.bytes.now (graph_of c.from_vec.result c.from_vec-2.result) other few (returns-clause-ok c) doc

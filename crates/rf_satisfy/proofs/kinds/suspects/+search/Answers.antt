use Rattle.std.proofs.Common.{rules, arith, ◌≡◌, ◌+◌, ◌<◌, ◌++◌, ◌∷◌, [], None, Bool, ap, sym, ◌∙◌, get_or, length, length-append}
use Rattle.std.specs.Bool.{then_some}
use Rattle.std.specs.Prelude.{All}
use Rattle.std.proofs.lemmas.List.Elements.{All-push}
use Rattle.rf_problem.specs.Asserted.{matches}
use Rattle.rf_graph.specs.Graph.{origin_of, size_of}
use Rattle.rf_satisfy.specs.Tuples.{ArePassing}
use Rattle.rf_satisfy.proofs.SuspectLemmas.{matched-more, search-ended, search-found, search-leaf, search-next}
use Rattle.rf_satisfy.proofs.kinds.suspects.+search.Goals as goal
use Rattle.rf_satisfy.proofs.kinds.suspects.+search.Goals.{then-found, else-found}

pub returns-then-position-args-clause-value : goal.returns-then-position-args-clause-value
returns-then-position-args-clause-value t c =
    let whole : length c.args.prefix ≡ length c.args.args.now = rw c.as_slice-position.ensures.items at c.if-position-args.true in
    let leaf = search-leaf c.args.index.now.problem c.args.index.now.graph c.args.symbol c.args.args.now c.args.value c.args.prefix c.in_ok-found.found whole c.requires.matched
    (rw c.as_slice.ensures.items at c.in_ok-found.ensures.value) in
    elim c.if-found.branch [
      | then-found w ↦ w.result-is ∙ sym (leaf ∙ ap (λ (b : Bool). then_some b c.args.prefix) w.if-found.true)
      | else-found w ↦ w.result-is ∙ sym (leaf ∙ ap (λ (b : Bool). then_some b c.args.prefix) w.if-found.false)
    ]

pub first_from-requires : goal.first_from-requires
first_from-requires t c =
    let raw : ArePassing (size_of c.args.index.now.graph) (λ x. matches (get_or c.args.args.now (length c.as_slice-position.result.now) None) (origin_of c.args.index.now.graph x)) c.nodes_matching-x-items.result.now = c.nodes_matching-x-items.ensures in
    let nodes : ArePassing (size_of c.args.index.now.graph) (λ x. matches (get_or c.args.args.now (length c.args.prefix) None) (origin_of c.args.index.now.graph x)) c.nodes_matching-x-items.result.now =
    rw c.as_slice-position.ensures.items at raw in
    let other = rw c.as_slice-position.ensures.items at c.if-position-args.false in
    let short : length c.args.prefix < length c.args.args.now = omega (arith, c.requires.short) in
    let x = get_or c.nodes_matching-x-items.result.now c.loop-x.x-index 0 in
    let node = nodes.only c.loop-x.x-index c.loop-x-test.true in
    let len : length (c.args.prefix ++ x ∷ []) ≡ length c.args.prefix + 1 = length-append c.args.prefix (x ∷ []) in
    let longer : length c.with.result ≡ length c.args.prefix + 1 = ap length c.with.ensures ∙ len in
    let all : All (λ y. y < size_of c.args.index.now.graph) c.with.result = rw c.with.ensures (All-push (λ y. y < size_of c.args.index.now.graph) c.args.prefix x c.requires.nodes node.0) in
    let matched = matched-more (origin_of c.args.index.now.graph) c.args.args.now c.args.prefix x short c.requires.matched node.1 in
    (search (rules, longer, short), (c.requires.declared, (c.requires.arity, (c.requires.few, (omega arith, (all, (rw c.with.ensures matched, c.loop-x.invariant.kept)))))))

pub returns-then-is_some-clause-value : goal.returns-then-is_some-clause-value
returns-then-is_some-clause-value t c =
    let raw : ArePassing (size_of c.args.index.now.graph) (λ x. matches (get_or c.args.args.now (length c.as_slice-position.result.now) None) (origin_of c.args.index.now.graph x)) c.nodes_matching-x-items.result.now = c.nodes_matching-x-items.ensures in
    let nodes : ArePassing (size_of c.args.index.now.graph) (λ x. matches (get_or c.args.args.now (length c.args.prefix) None) (origin_of c.args.index.now.graph x)) c.nodes_matching-x-items.result.now =
    rw c.as_slice-position.ensures.items at raw in
    let other = rw c.as_slice-position.ensures.items at c.if-position-args.false in
    let short : length c.args.prefix < length c.args.args.now = omega (arith, c.requires.short) in
    search-found c.args.index.now.problem c.args.index.now.graph c.args.symbol c.args.args.now c.args.value c.args.prefix c.nodes_matching-x-items.result.now short nodes
    c.loop-x.x-index c.in_ok-first.first c.with.result c.loop-x-test.true c.loop-x.invariant.none c.with.ensures c.in_ok-first.ensures.value (sym c.is_some.ensures ∙ c.if-is_some.true)

pub loop-x-preserved : goal.loop-x-preserved
loop-x-preserved t c =
    let raw : ArePassing (size_of c.args.index.now.graph) (λ x. matches (get_or c.args.args.now (length c.as_slice-position.result.now) None) (origin_of c.args.index.now.graph x)) c.nodes_matching-x-items.result.now = c.nodes_matching-x-items.ensures in
    let nodes : ArePassing (size_of c.args.index.now.graph) (λ x. matches (get_or c.args.args.now (length c.args.prefix) None) (origin_of c.args.index.now.graph x)) c.nodes_matching-x-items.result.now =
    rw c.as_slice-position.ensures.items at raw in
    let other = rw c.as_slice-position.ensures.items at c.if-position-args.false in
    let short : length c.args.prefix < length c.args.args.now = omega (arith, c.requires.short) in
    record {
      kept = c.first_from.ensures.kept;
      none = search-next c.args.index.now.problem c.args.index.now.graph c.args.symbol c.args.args.now c.args.value c.args.prefix c.nodes_matching-x-items.result.now short nodes
          c.loop-x.x-index c.in_ok-first.first c.with.result c.loop-x.invariant.none c.with.ensures c.in_ok-first.ensures.value (sym c.is_some.ensures ∙ c.if-is_some.false);
    }

pub returns-clause-value : goal.returns-clause-value
returns-clause-value t c =
    let raw : ArePassing (size_of c.args.index.now.graph) (λ x. matches (get_or c.args.args.now (length c.as_slice-position.result.now) None) (origin_of c.args.index.now.graph x)) c.nodes_matching-x-items.result.now = c.nodes_matching-x-items.ensures in
    let nodes : ArePassing (size_of c.args.index.now.graph) (λ x. matches (get_or c.args.args.now (length c.args.prefix) None) (origin_of c.args.index.now.graph x)) c.nodes_matching-x-items.result.now =
    rw c.as_slice-position.ensures.items at raw in
    let other = rw c.as_slice-position.ensures.items at c.if-position-args.false in
    let short : length c.args.prefix < length c.args.args.now = omega (arith, c.requires.short) in
    search-ended c.args.index.now.problem c.args.index.now.graph c.args.symbol c.args.args.now c.args.value c.args.prefix c.nodes_matching-x-items.result.now short nodes
    (λ i l. c.loop-x.invariant.none i (omega arith))

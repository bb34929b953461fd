use Rattle.std.proofs.Common.{◌≡◌, ◌∙◌, ◌<◌, arith, get_or, length, subst}
use Rattle.std.proofs.lemmas.List.{get_or_default}
use Rattle.rf_problem.specs.Parts.{arity_of}
use Rattle.rf_problem.specs.declared.assertion.Assertion.{Assertion}
use Rattle.rf_graph.specs.Graph.{size_of}
use Rattle.rf_satisfy.specs.Suspects.{assertion_at, is_lack_by, no_assertion}
use Rattle.rf_satisfy.specs.Tuples.{IsFirst}
use Rattle.rf_satisfy.proofs.BrokenLemmas.{lacks-more, lacks-ended}
use Rattle.rf_satisfy.proofs.kinds.asserted.first_lack.Goals as goal

pub loop-number-preserved : goal.loop-number-preserved
loop-number-preserved c =
    let p = c.args.index.now.problem in
    let g = c.args.index.now.graph in
    let n = get_or c.args.numbers.now c.loop-number.number-index 0 in
    let there : n < length p.assertions = (c.requires.numbers.only c.loop-number.number-index c.loop-number-test.true).0 in
    let item = rw (c.as_slice.ensures, c.problem.ensures) at c.index-as_slice-number.is in
    let at : c.index-as_slice-number.result ≡ assertion_at p c.args.symbol n = item ∙ get_or_default p.assertions n c.index-as_slice-number.result (no_assertion c.args.symbol) there in
    record {
      kept = c.first_wanted.ensures.kept;
      first = rw c.earlier-first.ensures
          (lacks-more p g c.args.symbol c.args.numbers.now c.requires.numbers (size_of g) (arity_of p.predicates c.args.symbol) c.loop-number.number-index
          c.loop-number.first c.in_ok-first_wanted.field-0 c.loop-number-test.true c.loop-number.invariant.first
          (subst (λ (a : Assertion). IsFirst (size_of g) (arity_of p.predicates c.args.symbol) (λ t. is_lack_by p g c.args.symbol t a) c.in_ok-first_wanted.field-0) at c.in_ok-first_wanted.ensures.first));
    }

pub returns-clause-first : goal.returns-clause-first
returns-clause-first c =
    let p = c.args.index.now.problem in
    let g = c.args.index.now.graph in
    lacks-ended p g c.args.symbol c.args.numbers.now c.requires.numbers (size_of g) (arity_of p.predicates c.args.symbol) c.loop-number.number-index
    c.loop-number.first (omega arith) c.loop-number.invariant.first

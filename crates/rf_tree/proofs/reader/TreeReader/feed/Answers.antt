use Rattle.std.proofs.Common.{◌≡◌, ◌∙◌, Err, ap, false, sym, true}
use Rattle.rf_tree.specs.declared.reader.TreeError.TheVariants.{BadLine}
use Rattle.rf_tree.proofs.StopLemmas.{met_stuck}
use Rattle.rf_tree.proofs.reader.TreeReader.feed.Goals as goal

pub returns-then-is_stuck-clause-met : goal.returns-then-is_stuck-clause-met
returns-then-is_stuck-clause-met c n bytes lines h m = ap (λ x. Err (BadLine x)) (met_stuck c.args.self.now.lines bytes lines n h.follows m).1

pub returns-in_err-more-clause-met : goal.returns-in_err-more-clause-met
returns-in_err-more-clause-met c n bytes lines h m =
    let stuck = (met_stuck c.args.self.now.lines bytes lines n h.follows m).0 in
    let both : false ≡ true = sym c.if-is_stuck.false ∙ c.is_stuck.ensures.1 stuck in
    absurd cc

pub returns-clause-met : goal.returns-clause-met
returns-clause-met c n bytes lines h m =
    let stuck = (met_stuck c.args.self.now.lines bytes lines n h.follows m).0 in
    let both : false ≡ true = sym c.if-is_stuck.false ∙ c.is_stuck.ensures.1 stuck in
    absurd cc

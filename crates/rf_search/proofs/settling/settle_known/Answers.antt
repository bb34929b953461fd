use Rattle.std.proofs.Common.{◌≡◌, ◌<◌, ◌++◌, ◌∷◌, [], List, Some, false, sym, ap, ◌∙◌, subst}
use Rattle.std.proofs.lemmas.List.{append_assoc}
use Rattle.rf_problem.specs.declared.problem.Problem.{Problem}
use Rattle.rf_rules.specs.Rules.{after, is_closing}
use Rattle.rf_tree.specs.declared.line.Line.{Line}
use Rattle.rf_tree.specs.declared.line.Line.TheVariants.{Step}
use Rattle.rf_search.specs.Least.{IsLeast}
use Rattle.rf_search.specs.Rank.{rank}
use Rattle.rf_search.specs.Settled.{Steps}
use Rattle.rf_search.proofs.RankLemmas.{rule_narrows}
use Rattle.rf_search.proofs.StepLemmas.{Steps-more}
use Rattle.rf_search.proofs.settling.settle_known.Goals as goal

pub loop-rule-smaller : goal.loop-rule-smaller
loop-rule-smaller g c =
    let p = g.E.Facts.problem c.loop-rule.edit in
    let s = g.E.Facts.state c.loop-rule.edit in
    let least : IsLeast p s (Some c.in-Some.rule) = subst (IsLeast p s) c.in-Some.is c.in_ok-rule.ensures.least in
    let opened : is_closing c.in-Some.rule ≡ false = sym c.is_closing.ensures ∙ c.if-is_closing.false in
    let less : rank p (after p s c.in-Some.rule) < rank p s = rule_narrows p s c.in-Some.rule least.passes opened in
    rw (c.in_ok-step.ensures.problem, c.in_ok-step.ensures.after) less

pub loop-rule-preserved : goal.loop-rule-preserved
loop-rule-preserved g c =
    let p = g.E.Facts.problem c.loop-rule.edit in
    let s = g.E.Facts.state c.loop-rule.edit in
    let q = g.E.Facts.problem c.args.edit.now in
    let start = g.E.Facts.state c.args.edit.now in
    let least : IsLeast p s (Some c.in-Some.rule) = subst (IsLeast p s) c.in-Some.is c.in_ok-rule.ensures.least in
    let opened : is_closing c.in-Some.rule ≡ false = sym c.is_closing.ensures ∙ c.if-is_closing.false in
    let first = c.loop-rule.invariant.steps in
    let one : List Line = Step c.in-Some.rule ∷ [] in
    let items : c.push-in-Some.new.self.items ≡ c.args.lines.now.items ++ (first.0 ++ one) =
    c.in_ok-push-2.ensures.items ∙ (ap (λ xs. xs ++ one) first.1 ∙ append_assoc c.args.lines.now.items first.0 one) in
    let same : p ≡ q = c.loop-rule.invariant.problem in
    let more : Steps q start (first.0 ++ one) (after q s c.in-Some.rule) =
    Steps-more q start first.0 s c.in-Some.rule first.2 (subst (λ (x : Problem). IsLeast x s (Some c.in-Some.rule)) same least) opened in
    let reached : g.E.Facts.state c.step.new.edit ≡ after q s c.in-Some.rule =
    c.in_ok-step.ensures.after ∙ ap (λ (x : Problem). after x s c.in-Some.rule) same in
    record {
      problem = c.in_ok-step.ensures.problem ∙ c.loop-rule.invariant.problem;
      kept = c.in_ok-step.ensures.kept ∙ c.loop-rule.invariant.kept;
      known = c.in_ok-step.ensures.known;
      steps = (first.0 ++ one, items, subst (Steps q start (first.0 ++ one)) (sym reached) more);
    }

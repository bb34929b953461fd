use Rattle.std.proofs.Common.{◌≡◌, ◌<◌, ◌++◌, ◌∷◌, [], List, Some, None, true, false, length, refl, sym, ◌∙◌, arith}
use Rattle.rf_decide.proofs.Chosen.{chosen_allowed}
use Rattle.rf_decide.specs.Choice.{chosen}
use Rattle.rf_decide.specs.Counted.{IsCounted}
use Rattle.rf_decide.specs.Words.{word}
use Rattle.rf_search.specs.Least.{IsLeast}
use Rattle.rf_search.specs.Settled.{Settles}
use Rattle.rf_search.specs.Stack.{IsSearching}
use Rattle.rf_search.specs.declared.untried.Untried.{Untried}
use Rattle.rf_search.proofs.SearchLemmas.{closed, decided, found, gone_back, settled, unfinished}
use Rattle.rf_search.proofs.SizeLemmas.{searching-few}
use Rattle.rf_search.proofs.StackLemmas.{IsRooted-take}
use Rattle.rf_search.proofs.searching.rounds.Goals as goal

empty_list : (xs : List Untried) → length xs ≡ 0 → xs ≡ []
empty_list [] e = refl
empty_list (x ∷ xs) e = absurd (omega arith)

pub returns-in_default-clause-ends : goal.returns-in_default-clause-ends
returns-in_default-clause-ends g c =
    let p = g.T.Facts.problem c.args.t.now in
    let root = g.T.Facts.state c.args.t.now in
    let seed = c.args.seed in
    let budget = c.args.budget in
    let made = c.loop-untried.made in
    let before = c.loop-untried.lines.items in
    let lines = c.settle_known.new.lines.items in
    let s = g.T.Facts.state c.loop-untried.t in
    let t = g.T.Facts.state c.settle_known.new.edit in
    let kept = g.T.Edit.kept c.loop-untried.t in
    let same : g.T.Facts.problem c.settle_known.new.edit ≡ p = c.in_ok-settle_known.ensures.problem ∙ c.loop-untried.invariant.problem in
    let done : Settles p s before lines t true = rw (c.loop-untried.invariant.problem, c.if-branch.true) at c.in_ok-settle_known.ensures.settles in
    let none : c.loop-untried.untried.items ≡ [] = empty_list c.loop-untried.untried.items (omega (arith, c.in_default.ensures.cases.0)) in
    let end = (closed p seed budget root made before lines s t kept c.loop-untried.untried.items c.loop-untried.invariant.searching done).refuted none in
    rw (c.from_vec.ensures, c.in_ok-settle_known.ensures.kept) end

pub go_back-requires-clause-version : goal.go_back-requires-clause-version
go_back-requires-clause-version g c =
    let p = g.T.Facts.problem c.args.t.now in
    let root = g.T.Facts.state c.args.t.now in
    let seed = c.args.seed in
    let budget = c.args.budget in
    let made = c.loop-untried.made in
    let before = c.loop-untried.lines.items in
    let lines = c.settle_known.new.lines.items in
    let s = g.T.Facts.state c.loop-untried.t in
    let t = g.T.Facts.state c.settle_known.new.edit in
    let kept = g.T.Edit.kept c.loop-untried.t in
    let same : g.T.Facts.problem c.settle_known.new.edit ≡ p = c.in_ok-settle_known.ensures.problem ∙ c.loop-untried.invariant.problem in
    let done : Settles p s before lines t true = rw (c.loop-untried.invariant.problem, c.if-branch.true) at c.in_ok-settle_known.ensures.settles in
    let us = c.pop.new.self.items in
    let u = c.in-Some.latest in
    let at : IsSearching p seed budget root made before s kept (us ++ u ∷ []) = rw c.in-Some.ensures.items at c.loop-untried.invariant.searching in
    let back = gone_back p seed budget root made before lines s t kept us u at done in
    rw c.in_ok-settle_known.ensures.kept back.below

pub go_back-requires-clause-back : goal.go_back-requires-clause-back
go_back-requires-clause-back g c =
    let p = g.T.Facts.problem c.args.t.now in
    let root = g.T.Facts.state c.args.t.now in
    let seed = c.args.seed in
    let budget = c.args.budget in
    let made = c.loop-untried.made in
    let before = c.loop-untried.lines.items in
    let lines = c.settle_known.new.lines.items in
    let s = g.T.Facts.state c.loop-untried.t in
    let t = g.T.Facts.state c.settle_known.new.edit in
    let kept = g.T.Edit.kept c.loop-untried.t in
    let same : g.T.Facts.problem c.settle_known.new.edit ≡ p = c.in_ok-settle_known.ensures.problem ∙ c.loop-untried.invariant.problem in
    let done : Settles p s before lines t true = rw (c.loop-untried.invariant.problem, c.if-branch.true) at c.in_ok-settle_known.ensures.settles in
    let us = c.pop.new.self.items in
    let u = c.in-Some.latest in
    let at : IsSearching p seed budget root made before s kept (us ++ u ∷ []) = rw c.in-Some.ensures.items at c.loop-untried.invariant.searching in
    let back = gone_back p seed budget root made before lines s t kept us u at done in
    rw (same, c.in_ok-settle_known.ensures.kept) back.back

pub returns-in_err-knowledge-2-clause-rooted : goal.returns-in_err-knowledge-2-clause-rooted
returns-in_err-knowledge-2-clause-rooted g c =
    let p = g.T.Facts.problem c.args.t.now in
    let root = g.T.Facts.state c.args.t.now in
    let seed = c.args.seed in
    let budget = c.args.budget in
    let made = c.loop-untried.made in
    let before = c.loop-untried.lines.items in
    let lines = c.settle_known.new.lines.items in
    let s = g.T.Facts.state c.loop-untried.t in
    let t = g.T.Facts.state c.settle_known.new.edit in
    let kept = g.T.Edit.kept c.loop-untried.t in
    let same : g.T.Facts.problem c.settle_known.new.edit ≡ p = c.in_ok-settle_known.ensures.problem ∙ c.loop-untried.invariant.problem in
    rw (c.go_back.ensures.kept, c.in_ok-settle_known.ensures.kept) (IsRooted-take root kept c.in-Some.latest.version c.loop-untried.invariant.rooted)

pub loop-untried-preserved-then-branch : goal.loop-untried-preserved-then-branch
loop-untried-preserved-then-branch g c =
    let p = g.T.Facts.problem c.args.t.now in
    let root = g.T.Facts.state c.args.t.now in
    let seed = c.args.seed in
    let budget = c.args.budget in
    let made = c.loop-untried.made in
    let before = c.loop-untried.lines.items in
    let lines = c.settle_known.new.lines.items in
    let s = g.T.Facts.state c.loop-untried.t in
    let t = g.T.Facts.state c.settle_known.new.edit in
    let kept = g.T.Edit.kept c.loop-untried.t in
    let same : g.T.Facts.problem c.settle_known.new.edit ≡ p = c.in_ok-settle_known.ensures.problem ∙ c.loop-untried.invariant.problem in
    let done : Settles p s before lines t true = rw (c.loop-untried.invariant.problem, c.if-branch.true) at c.in_ok-settle_known.ensures.settles in
    let us = c.pop.new.self.items in
    let u = c.in-Some.latest in
    let at : IsSearching p seed budget root made before s kept (us ++ u ∷ []) = rw c.in-Some.ensures.items at c.loop-untried.invariant.searching in
    let back = gone_back p seed budget root made before lines s t kept us u at done in
    record {
      problem = c.go_back.ensures.problem ∙ same;
      known = rw c.go_back.ensures.problem c.in_ok-knowledge-2.ensures.known;
      rooted = rw (c.go_back.ensures.kept, c.in_ok-settle_known.ensures.kept) (IsRooted-take root kept u.version c.loop-untried.invariant.rooted);
      taken = c.loop-untried.invariant.taken;
      searching = rw (c.in_ok-knowledge-2.ensures.side, c.go_back.ensures.kept, same, c.in_ok-settle_known.ensures.kept) back.rest;
    }

pub choose-requires-clause-few : goal.choose-requires-clause-few
choose-requires-clause-few g c =
    let p = g.T.Facts.problem c.args.t.now in
    let root = g.T.Facts.state c.args.t.now in
    let seed = c.args.seed in
    let budget = c.args.budget in
    let made = c.loop-untried.made in
    let before = c.loop-untried.lines.items in
    let lines = c.settle_known.new.lines.items in
    let s = g.T.Facts.state c.loop-untried.t in
    let t = g.T.Facts.state c.settle_known.new.edit in
    let kept = g.T.Edit.kept c.loop-untried.t in
    let same : g.T.Facts.problem c.settle_known.new.edit ≡ p = c.in_ok-settle_known.ensures.problem ∙ c.loop-untried.invariant.problem in
    let done : Settles p s before lines t false = rw (c.loop-untried.invariant.problem, c.if-branch.false) at c.in_ok-settle_known.ensures.settles in
    let us = c.loop-untried.untried.items in
    let at : IsSearching p seed budget root made lines t kept us = settled p seed budget root made before lines s t kept us c.loop-untried.invariant.searching done in
    let least : IsLeast p t None = done.settled.1 in
    searching-few p seed budget root made lines t kept us c.requires.root c.requires.most at

pub returns-in_default-choose-clause-ends : goal.returns-in_default-choose-clause-ends
returns-in_default-choose-clause-ends g c =
    let p = g.T.Facts.problem c.args.t.now in
    let root = g.T.Facts.state c.args.t.now in
    let seed = c.args.seed in
    let budget = c.args.budget in
    let made = c.loop-untried.made in
    let before = c.loop-untried.lines.items in
    let lines = c.settle_known.new.lines.items in
    let s = g.T.Facts.state c.loop-untried.t in
    let t = g.T.Facts.state c.settle_known.new.edit in
    let kept = g.T.Edit.kept c.loop-untried.t in
    let same : g.T.Facts.problem c.settle_known.new.edit ≡ p = c.in_ok-settle_known.ensures.problem ∙ c.loop-untried.invariant.problem in
    let done : Settles p s before lines t false = rw (c.loop-untried.invariant.problem, c.if-branch.false) at c.in_ok-settle_known.ensures.settles in
    let us = c.loop-untried.untried.items in
    let at : IsSearching p seed budget root made lines t kept us = settled p seed budget root made before lines s t kept us c.loop-untried.invariant.searching done in
    let least : IsLeast p t None = done.settled.1 in
    let choice : chosen p t (word seed made) ≡ None =
    rw (← same, ← c.next.ensures.word seed made c.loop-untried.invariant.taken) (sym c.in_default-choose.ensures.chosen) in
    (rw c.in_ok-settle_known.ensures.kept (found p seed budget root made lines t kept us at least choice), rw (← same) c.in_ok-graph.ensures)

pub returns-then-made-budget-clause-ends : goal.returns-then-made-budget-clause-ends
returns-then-made-budget-clause-ends g c =
    let p = g.T.Facts.problem c.args.t.now in
    let root = g.T.Facts.state c.args.t.now in
    let seed = c.args.seed in
    let budget = c.args.budget in
    let made = c.loop-untried.made in
    let before = c.loop-untried.lines.items in
    let lines = c.settle_known.new.lines.items in
    let s = g.T.Facts.state c.loop-untried.t in
    let t = g.T.Facts.state c.settle_known.new.edit in
    let kept = g.T.Edit.kept c.loop-untried.t in
    let same : g.T.Facts.problem c.settle_known.new.edit ≡ p = c.in_ok-settle_known.ensures.problem ∙ c.loop-untried.invariant.problem in
    let done : Settles p s before lines t false = rw (c.loop-untried.invariant.problem, c.if-branch.false) at c.in_ok-settle_known.ensures.settles in
    let us = c.loop-untried.untried.items in
    let at : IsSearching p seed budget root made lines t kept us = settled p seed budget root made before lines s t kept us c.loop-untried.invariant.searching done in
    let least : IsLeast p t None = done.settled.1 in
    let choice : chosen p t (word seed made) ≡ Some (c.in-Some-choose.decision, c.in-Some-choose.first) =
    rw (← same, ← c.next.ensures.word seed made c.loop-untried.invariant.taken) (sym c.in-Some-choose.ensures.chosen) in
    rw (c.from_vec-then-made-budget.ensures, c.in_ok-settle_known.ensures.kept)
    (unfinished p seed budget root made lines t kept us c.in-Some-choose.decision c.in-Some-choose.first at least choice c.if-made-budget.true)

pub go_on-requires-clause-allowed : goal.go_on-requires-clause-allowed
go_on-requires-clause-allowed g c =
    let p = g.T.Facts.problem c.args.t.now in
    let root = g.T.Facts.state c.args.t.now in
    let seed = c.args.seed in
    let budget = c.args.budget in
    let made = c.loop-untried.made in
    let before = c.loop-untried.lines.items in
    let lines = c.settle_known.new.lines.items in
    let s = g.T.Facts.state c.loop-untried.t in
    let t = g.T.Facts.state c.settle_known.new.edit in
    let kept = g.T.Edit.kept c.loop-untried.t in
    let same : g.T.Facts.problem c.settle_known.new.edit ≡ p = c.in_ok-settle_known.ensures.problem ∙ c.loop-untried.invariant.problem in
    let choice : chosen p t (word seed made) ≡ Some (c.in-Some-choose.decision, c.in-Some-choose.first) =
    rw (← same, ← c.next.ensures.word seed made c.loop-untried.invariant.taken) (sym c.in-Some-choose.ensures.chosen) in
    rw same (chosen_allowed p t (word seed made) c.in-Some-choose.decision c.in-Some-choose.first choice)

pub returns-in_err-latest-clause-rooted : goal.returns-in_err-latest-clause-rooted
returns-in_err-latest-clause-rooted g c =
    let p = g.T.Facts.problem c.args.t.now in
    let root = g.T.Facts.state c.args.t.now in
    let seed = c.args.seed in
    let budget = c.args.budget in
    let made = c.loop-untried.made in
    let before = c.loop-untried.lines.items in
    let lines = c.settle_known.new.lines.items in
    let s = g.T.Facts.state c.loop-untried.t in
    let t = g.T.Facts.state c.settle_known.new.edit in
    let kept = g.T.Edit.kept c.loop-untried.t in
    let same : g.T.Facts.problem c.settle_known.new.edit ≡ p = c.in_ok-settle_known.ensures.problem ∙ c.loop-untried.invariant.problem in
    c.go_on.ensures.rooted root (rw c.in_ok-settle_known.ensures.kept c.loop-untried.invariant.rooted)

pub loop-untried-preserved : goal.loop-untried-preserved
loop-untried-preserved g c =
    let p = g.T.Facts.problem c.args.t.now in
    let root = g.T.Facts.state c.args.t.now in
    let seed = c.args.seed in
    let budget = c.args.budget in
    let made = c.loop-untried.made in
    let before = c.loop-untried.lines.items in
    let lines = c.settle_known.new.lines.items in
    let s = g.T.Facts.state c.loop-untried.t in
    let t = g.T.Facts.state c.settle_known.new.edit in
    let kept = g.T.Edit.kept c.loop-untried.t in
    let same : g.T.Facts.problem c.settle_known.new.edit ≡ p = c.in_ok-settle_known.ensures.problem ∙ c.loop-untried.invariant.problem in
    let done : Settles p s before lines t false = rw (c.loop-untried.invariant.problem, c.if-branch.false) at c.in_ok-settle_known.ensures.settles in
    let us = c.loop-untried.untried.items in
    let at : IsSearching p seed budget root made lines t kept us = settled p seed budget root made before lines s t kept us c.loop-untried.invariant.searching done in
    let least : IsLeast p t None = done.settled.1 in
    let u : Untried = c.in_ok-latest.latest in
    let choice : chosen p t (word seed made) ≡ Some (u.decision, u.first) =
    rw (← same, ← c.next.ensures.word seed made c.loop-untried.invariant.taken, c.in_ok-latest.ensures.decision, c.in_ok-latest.ensures.first)
    (sym c.in-Some-choose.ensures.chosen) in
    let counted : IsCounted p t u.counted = rw (← same) c.in_ok-latest.ensures.counted in
    let version : u.version ≡ length kept = rw (← c.in_ok-settle_known.ensures.kept) c.in_ok-latest.ensures.version in
    let few : made < budget = (let f = at.few in omega (arith, c.if-made-budget.false)) in
    record {
      problem = c.go_on.ensures.problem ∙ same;
      known = rw c.go_on.ensures.problem c.in_ok-latest.ensures.known;
      rooted = c.go_on.ensures.rooted root (rw c.in_ok-settle_known.ensures.kept c.loop-untried.invariant.rooted);
      taken = c.next.ensures.taken seed made c.loop-untried.invariant.taken;
      searching =
          rw (
            c.in_ok-push-2.ensures.items,
            c.in_ok-push.ensures.items,
            c.in_ok-latest.ensures.side,
            c.in_ok-latest.ensures.kept,
            same,
            c.in_ok-settle_known.ensures.kept,
            ← c.in_ok-latest.ensures.decision,
            ← c.in_ok-latest.ensures.first,
          )
          (decided p seed budget root made lines t kept us u at least choice few version counted);
    }

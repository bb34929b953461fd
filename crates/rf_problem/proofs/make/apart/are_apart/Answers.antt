use Rattle.std.proofs.Common.{◌∙◌, refl, sym, true≢false}
use Rattle.rf_problem.proofs.ApartLemmas.{All-later, AreFirstApart-more}
use Rattle.rf_problem.proofs.make.apart.are_apart.Goals as goal

pub returns-then-not-is_apart_from_all : goal.returns-then-not-is_apart_from_all
returns-then-not-is_apart_from_all g c = (
  λ never. absurd (true≢false (sym never)),
  λ apart. sym c.if-not-is_apart_from_all.true
      ∙ c.is_apart_from_all.ensures.1
      (All-later g.T.Apart.AreApart c.args.things.now c.loop-number.number c.index-things-number.result c.loop-number-test.true c.index-things-number.is apart),
)

pub loop-number-preserved : goal.loop-number-preserved
loop-number-preserved g c =
    AreFirstApart-more g.T.Apart.AreApart c.args.things.now c.loop-number.number _ c.index-things-number.result c.loop-number-test.true
    c.index-things-number.is (c.is_apart_from_all.ensures.0 c.if-not-is_apart_from_all.false) c.loop-number.invariant refl

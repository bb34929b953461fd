use Rattle.std.proofs.Common.{◌∙◌, ◌≤◌, arith, length, refl, subst, sym, take, take_all, true≢false, List}
use Rattle.std.specs.Prelude.{AllPairs}
use Rattle.rf_problem.specs.Noted.{AreNamedApart, AreNoted}
use Rattle.rf_problem.specs.declared.object.ObjectDecl.{ObjectDecl}
use Rattle.rf_problem.proofs.NamedApart.{apart_here, apart_more, first_more}
use Rattle.rf_problem.proofs.make.objects.have_names_apart.Goals as goal

pub returns-then-not-branch : goal.returns-then-not-branch
returns-then-not-branch c =
    let here = c.in_ok-note.ensures (take c.loop-object.object-index c.args.objects.now) c.loop-object.invariant.noted in (
      λ never. absurd (true≢false (sym never)),
      λ apart. sym c.if-not-branch.true
          ∙ here.1.1 (apart_here c.args.objects.now c.loop-object.object-index c.object-item.result c.loop-object-test.true c.object-item.is apart),
    )

pub loop-object-preserved : goal.loop-object-preserved
loop-object-preserved c =
    let objects = c.args.objects.now in
    let i = c.loop-object.object-index in
    let here = c.in_ok-note.ensures (take i objects) c.loop-object.invariant.noted in
    let more = first_more objects i c.object-item.result c.loop-object-test.true c.object-item.is in
    record {
      apart = apart_more objects i c.object-item.result c.loop-object-test.true c.object-item.is c.loop-object.invariant.apart (here.1.0 c.if-not-branch.false);
      noted = subst (λ (first : List ObjectDecl). AreNoted first c.note.new.seen) (sym more) here.0;
    }

pub returns : goal.returns
returns c =
    let past : length c.args.objects.now ≤ c.loop-object.object-index = omega arith in (
      λ _. subst (λ (all : List ObjectDecl). AllPairs AreNamedApart all) (take_all c.loop-object.object-index c.args.objects.now past) c.loop-object.invariant.apart,
      λ _. refl,
    )

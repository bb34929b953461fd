use Rattle.std.proofs.Common.{◌≡◌, ◌++◌, ◌∷◌, [], ◌∙◌, List, suc, length, ap, sym, take, drop, set, arith}
use Rattle.std.proofs.lemmas.List.{length_push}
use Rattle.rf_trail.specs.Trail.{undone}
use Rattle.rf_trail.proofs.Undoing.{cut}
use Rattle.rf_trail.proofs.trail.undoing.undo.Goals as goal

pub loop-changes-preserved-in-Some : goal.loop-changes-preserved-in-Some
loop-changes-preserved-in-Some g c =
    let all = c.args.changes.now.items in
    let xs = c.args.items.now.items in
    let here = c.loop-changes.changes.items in
    let cs = c.pop.new.self.items in
    let change = c.in-Some.change in
    let long : length here ≡ suc (length cs) = (let p = ap length c.in-Some.ensures.items in let q = length_push cs change in omega (arith, p, q)) in
    let e : cs ++ change ∷ [] ≡ take (suc (length cs)) all = sym c.in-Some.ensures.items ∙ c.loop-changes.invariant.first ∙ ap (λ n. take n all) long in
    let r = cut all cs change e in
    record {
      enough = omega (arith, c.loop-changes-test.true, c.len.ensures, long);
      first = r.first;
      undone =
          c.put.ensures
          ∙ ap (λ ys. set ys change.place change.before) (c.loop-changes.invariant.undone ∙ ap (λ n. undone (drop n all) xs) long)
          ∙ sym (ap (λ ds. undone ds xs) r.rest);
    }

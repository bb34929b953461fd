use Rattle.std.proofs.Common.{arith, sym, subst, ap, ◌∙◌, ◌<◌, ◌≤◌, length}
use Rattle.std.specs.Prelude.{unwrap_or}
use Rattle.std.specs.FinSet.{contains}
use Rattle.rf_final.proofs.Firsts.{first-small}
use Rattle.rf_final.proofs.graph.class_in.Goals as goal

pub overflow_cast-result : goal.overflow_cast-result
overflow_cast-result g c =
    let few : length c.as_slice.result.now ≤ 256 = subst (λ classes. length classes ≤ 256)
    (sym c.as_slice.ensures) c.problem.result.now.classes_fit.few in
    let small : c.unwrap_or.result < 4294967296 = subst (λ n. n < 4294967296)
    (sym (c.unwrap_or.ensures ∙ ap (λ o. unwrap_or o 0) c.first_passing.ensures))
    (first-small (length c.as_slice.result.now) (contains c.candidates.result) 4294967296 (omega arith) (omega arith)) in
    omega (arith, small)

use Rattle.std.proofs.Common.{◌≡◌, true}
use Rattle.rf_problem.proofs.Following.{predicates_carry_over}
use Rattle.rf_problem.proofs.laws.following_law.Goals as goal

pub returns : goal.returns
returns _ = λ p related. predicates_carry_over p (λ x y. related x y ≡ true)

-- The tuples at which a predicate isn't false.
use Rattle.std.proofs.Common.{◌≡◌, ℕ, List}
use Rattle.std.specs.FinMap.{nat_cmp-IsAntisymmetric, slice_cmp-IsAntisymmetric}
use Rattle.std.proofs.lemmas.Cmp.{nat_list_cmp_total}
use Rattle.rf_problem.specs.declared.problem.Problem.{Problem}
use Rattle.rf_state.specs.State.{State}
use Rattle.rf_state.specs.Values.{AreNotFalse}
use Rattle.rf_valuation.proofs.SortedLemmas.{sorted-same}

-- there is one list of them
pub AreNotFalse-unique :
    (p : Problem) (s : State) (q : ℕ) (tuples others : List (List ℕ)) → AreNotFalse p s q tuples → AreNotFalse p s q others
    → tuples ≡ others
AreNotFalse-unique p s q tuples others found same =
    sorted-same nat_list_cmp_total (slice_cmp-IsAntisymmetric nat_cmp-IsAntisymmetric) tuples others found.ordered same.ordered
    (λ t. (λ has. (same.members t).1 ((found.members t).0 has), λ has. (found.members t).1 ((same.members t).0 has)))

-- What a fact that holds, or doesn't, keeps of what is known of it.
use Rattle.std.proofs.Common.{◌≡◌, Bool, true, ◌&&◌, rules, arith}
use Rattle.std.proofs.lemmas.Grind.{common_steps}
use Rattle.rf_values.specs.declared.truth.Truth.{Truth}
use Rattle.rf_values.specs.Truth.{keeps, may, merge, must}

-- what is merged is kept exactly where both are
pub keeps-merge : (a b : Truth) (holds : Bool) → keeps (merge a b) holds ≡ (keeps a holds && keeps b holds)
keeps-merge a b holds = search rules

-- what has to hold holds where it is kept
pub holds-from_keeps : (a : Truth) (holds : Bool) → keeps a holds ≡ true → must a ≡ true → holds ≡ true
holds-from_keeps a holds kept has_to = search rules

-- and what holds can
pub may-from_keeps : (a : Truth) (holds : Bool) → keeps a holds ≡ true → holds ≡ true → may a ≡ true
may-from_keeps a holds kept h = grind (arith, common_steps)

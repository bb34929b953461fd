use Rattle.std.proofs.Common.{◌≡◌, true}
use Rattle.std.proofs.lemmas.Bool.{both_ways, false_from_ne_true}
use Rattle.rf_finite.proofs.Firsts.{IsFirstOf-or, IsFirstOf-unique, none-from_IsFirstOf, nothing-from_IsFirstOf}
use Rattle.rf_finite.proofs.laws.first_law.Goals as goal

pub returns : goal.returns
returns g c = record {
  unique = λ cmp p. IsFirstOf-unique cmp (λ x. p x ≡ true);
  none = λ cmp p o first. (
    λ e x. false_from_ne_true (p x) (nothing-from_IsFirstOf cmp (λ x. p x ≡ true) o first e x),
    λ fails. none-from_IsFirstOf cmp (λ x. p x ≡ true) o first (λ x passes. both_ways (p x) (fails x) passes),
  );
  either = IsFirstOf-or;
}

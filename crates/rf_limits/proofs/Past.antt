-- The first item past a limit.
use Rattle.std.proofs.Common.{◌≡◌, ℕ, zero, suc, List, [], ◌∷◌, map, refl}
use Rattle.std.specs.List.{slice_get}
use Rattle.std.specs.Option.{option_map}
use Rattle.rf_syntax.specs.declared.name.Name.{Name}
use Rattle.rf_names.specs.Offsets.{least_of}
use Rattle.rf_limits.specs.Limits.{first_past}
use denote.Ref.{Bor}

pub past_item : {T : Type 0} (limit : ℕ) (name : T → Name) (xs : List T) → least_of (first_past limit name xs) ≡ option_map (λ x. (name x).at) (slice_get xs limit)
past_item zero name [] = refl
past_item zero name (x ∷ xs) = refl
past_item (suc n) name [] = refl
past_item (suc n) name (x ∷ xs) = past_item n name xs

pub past_lent_item : {T : Type 0} (limit : ℕ) (name : T → Name) (xs : List (Bor T)) → least_of (first_past limit name (map (λ (x : Bor T). x.now) xs)) ≡ option_map (λ x. (name x.now).at) (slice_get xs limit)
past_lent_item zero name [] = refl
past_lent_item zero name (x ∷ xs) = refl
past_lent_item (suc n) name [] = refl
past_lent_item (suc n) name (x ∷ xs) = past_lent_item n name xs

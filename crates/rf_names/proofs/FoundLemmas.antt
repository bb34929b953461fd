-- Numbers that look-ups give.
use Rattle.std.proofs.Common.{◌≡◌, ◌<◌, ℕ, Bool, List, [], ◌∷◌, length, Option, None, Some, refl}
use Rattle.std.proofs.lemmas.List.Quantifiers.{position-Some}
use Rattle.std.specs.List.{position, slice_get}
use Rattle.std.specs.Option.{IfSome}
use Rattle.rf_names.specs.Declarations.{Declared}
use Rattle.rf_names.specs.LookUp.{class_named, no_class_decl, the_first}
use Rattle.rf_names.specs.Texts.{reads}

some_fits : {X : Type 0} (p : X → Bool) (xs : List X) (d : X) (o : Option ℕ) → position p xs ≡ o → IfSome o (λ c. c < length xs)
some_fits p xs d None is = tt
some_fits p xs d (Some c) is = (position-Some p xs c d is).0

-- the number of a class is below their number
pub position_fits : (d : Declared) (text : List ℕ) → IfSome (class_named d text) (λ c. c < length d.classes)
position_fits d text = some_fits (λ c. reads text c.name) d.classes no_class_decl (class_named d text) refl

pub first_is : (ns : List ℕ) → the_first ns ≡ slice_get ns 0
first_is [] = refl
first_is (n ∷ ns) = refl

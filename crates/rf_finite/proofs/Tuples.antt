-- Lemmas on the first tuple.
use Rattle.std.proofs.Common.{◌≡◌, ◌↔◌, ℕ, zero, suc, Bool, true, Option, List, [], ◌∷◌, ◌++◌, nat_cmp, refl, sym, ap, ◌∙◌, subst}
use Rattle.std.specs.Bool.{then_some}
use Rattle.std.specs.Option.{option_map}
use Rattle.std.specs.Cmp.Lexicographic.{slice_cmp}
use Rattle.rf_finite.specs.Firsts.{IsFirstOf}
use Rattle.rf_finite.specs.Range.{first_below}
use Rattle.rf_finite.specs.Tuples.{IsTuple, first_tuple}
use Rattle.rf_finite.proofs.KeyedFirsts.{HasPrefix, IsKeyedFirst-one, IsKeyedFirst-same, IsKeyedFirst-tuple, IsThis, SomeTuple, found_is_first}
use Rattle.rf_finite.proofs.Range.{first_below-map}

-- the search finds a tuple exactly where that is the first that passes, and none exactly where none passes
pub first_tuple-is_first : (n k : ℕ) (p : List ℕ → Bool) (o : Option (List ℕ))
    → (first_tuple n k [] (λ t. then_some (p t) t) ≡ o) ↔ IsFirstOf (slice_cmp nat_cmp) (λ t. IsTuple n k t × (p t ≡ true)) o
first_tuple-is_first n k p o = found_is_first (λ t. t) (HasPrefix []) (λ t. IsTuple n k t × (p t ≡ true)) (first_tuple n k [] (λ t. then_some (p t) t))
    (IsKeyedFirst-same (λ t. t) (HasPrefix []) (SomeTuple n k [] (λ t. IsThis t (p t))) (λ t. IsTuple n k t × (p t ≡ true)) (first_tuple n k [] (λ t. then_some (p t) t))
    (IsKeyedFirst-tuple (λ t. t) [] n (λ t. then_some (p t) t) (λ t. IsThis t (p t)) (λ t. IsKeyedFirst-one (λ t. t) t (p t) t refl) k [])
    (λ t s. (subst (IsTuple n k) (sym s.there.0) s.tuple, ap p s.there.0 ∙ s.there.1))
    (λ t s. record { rest = t; tuple = s.0; there = (refl, s.1) }))
    o

-- values of what is found are what is found by their values
pub first_tuple-map : {A B : Type 0} (v : A → B) (n k : ℕ) (t : List ℕ) (f : List ℕ → Option A)
    → first_tuple n k t (λ u. option_map v (f u)) ≡ option_map v (first_tuple n k t f)
first_tuple-map v n zero t f = refl
first_tuple-map v n (suc k) t f =
    ap (first_below n) (λ i x. first_tuple-map v n k (t ++ x ∷ []) f i) ∙ first_below-map v n (λ x. first_tuple n k (t ++ x ∷ []) f)

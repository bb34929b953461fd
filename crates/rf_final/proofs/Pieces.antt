-- What the loops that make a graph keep.
use Rattle.std.proofs.Common.{◌≡◌, ℕ, suc, ◌+◌, ◌<◌, List, ◌++◌, length, refl, sym, ap, ◌∙◌, subst, arith}
use Rattle.std.specs.Prelude.{slice_index}
use Rattle.std.proofs.lemmas.List.{append_assoc}
use Rattle.rf_finite.specs.Passing.{joined}
use Rattle.rf_finite.proofs.Passing.{passing_in_order}
use Rattle.rf_state.specs.State.{State}
use Rattle.rf_rules.specs.Words.{is_one}
use Rattle.rf_final.specs.GraphOf.{singles}

-- an object that is one node is there
pub single-there : (s : State) (objects : List ℕ) (x : ℕ) → objects ≡ singles s → x < length objects
    → slice_index objects x < length s.objects
single-there s objects x e l = subst (λ xs. slice_index xs x < length s.objects) (sym e)
    (passing_in_order (length s.objects) (is_one s) x (subst (λ xs. x < length xs) e l)).0

-- one piece more
pub joined-more : {A : Type 0} (before old new : List A) (k : ℕ) (f : ℕ → List A) → old ≡ before ++ joined k f → new ≡ old ++ f k
    → new ≡ before ++ joined (k + 1) f
joined-more before old new k f so more =
    let next : suc k ≡ k + 1 = omega arith in
    more ∙ ap (λ xs. xs ++ f k) so ∙ append_assoc before (joined k f) (f k) ∙ subst
    (λ n. before ++ joined (suc k) f ≡ before ++ joined n f) next refl

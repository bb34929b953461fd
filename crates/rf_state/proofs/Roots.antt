-- The objects of the root, one after another, and their candidates, class by class.
use Rattle.std.proofs.Common.{◌≡◌, ◌∙◌, ℕ, ◌+◌, ◌<◌, Bool, ◌&&◌, List, [], ◌∷◌, ◌++◌, sym, ap, subst, inl, inr, arith, add-one}
use Rattle.std.proofs.Math.Bool.{and_assoc}
use Rattle.std.proofs.lemmas.List.{get_or_append_left, get_or_push, length_push}
use Rattle.rf_finite.specs.Range.{all_below}
use Rattle.rf_finite.proofs.Range.{below_or_last}
use Rattle.rf_problem.specs.declared.problem.Problem.{Problem}
use Rattle.rf_state.specs.Root.{AreRootObjects, IsRootObject}
use Rattle.rf_state.specs.State.{no_object}
use Rattle.rf_state.specs.declared.object.Object.{Object}

-- what passes two tests and one for each number, with one number more
pub passes-more : (a b old now : Bool) (p : ℕ → Bool) (n : ℕ) → old ≡ (a && (b && all_below n p)) → now ≡ (old && p n)
    → now ≡ (a && (b && all_below (n + 1) p))
passes-more a b old now p n was is = rw add-one (is ∙ ap (λ x. x && p n) was ∙ and_assoc a (b && all_below n p) (p n) ∙ ap (λ x. a && x) (and_assoc b (all_below n p) (p n)))

-- one object more
pub AreRootObjects-more :
    (p : Problem) (n : ℕ) (objects : List Object) (x : Object) → AreRootObjects p n objects → IsRootObject p n x
    → AreRootObjects p (n + 1) (objects ++ x ∷ [])
AreRootObjects-more p n objects x held is = record {
  many = length_push objects x ∙ ap (λ m. m + 1) held.many;
  each = λ o l. elim (below_or_last n o (subst (λ m. o < m) (add-one n) l)) [
    | inl b ↦ subst (IsRootObject p o) (sym (get_or_append_left objects (x ∷ []) no_object o (omega (arith, held.many)))) (held.each o b)
    | inr e ↦ subst (IsRootObject p o) (sym (get_or_push objects x no_object o (held.many ∙ sym e))) (subst (λ m. IsRootObject p m x) (sym e) is)
  ];
}

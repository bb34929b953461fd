-- The tuples of objects that may have nodes at which a predicate isn't false.
use Rattle.std.proofs.Common.{◌≡◌, ◌<◌, ℕ, zero, suc, Bool, true, List, [], ◌∷◌, get_or, length, map, ap, refl, sym, subst, ◌∙◌, inl, inr, arith, true≢false}
use Rattle.std.specs.List.{Contains, list_all}
use Rattle.std.specs.Prelude.{All}
use Rattle.std.proofs.lemmas.Bool.{and_from, cases_Bool}
use Rattle.std.proofs.lemmas.List.{get_or-map, get_or_default, length-map}
use Rattle.std.proofs.lemmas.List.Folds.{list_all_at}
use Rattle.rf_values.specs.declared.truth.Truth.{Truth}
use Rattle.rf_values.specs.declared.truth.Truth.TheVariants.{False}
use Rattle.rf_problem.specs.declared.problem.Problem.{Problem}
use Rattle.rf_evaluate.specs.Search.{AreValuesFound}
use Rattle.rf_state.specs.State.{State}
use Rattle.rf_state.specs.StateKnown.{state_known, value}
use Rattle.rf_state.specs.Values.{AreValues, IsNotFalseAt, may_have_node}

list_all-from_All : (p : ℕ → Bool) (xs : List ℕ) → All (λ x. p x ≡ true) xs → list_all p xs ≡ true
list_all-from_All p [] h = refl
list_all-from_All p (x ∷ xs) h = and_from (p x) (list_all p xs) (h zero x (omega arith)) (list_all-from_All p xs (λ k d l. h (suc k) d (omega arith)))

All-from_list_all : (p : ℕ → Bool) (xs : List ℕ) → list_all p xs ≡ true → All (λ x. p x ≡ true) xs
All-from_list_all p xs e k d l = elim (cases_Bool (p (get_or xs k d))) [
  | inl t ↦ t
  | inr f ↦ absurd (true≢false (sym e ∙ list_all_at p xs k d l f))
]

-- what a list contains, its image under a function contains the image of
Contains-map : {X Y : Type 0} (f : X → Y) (xs : List X) (x : X) → Contains xs x → Contains (map f xs) (f x)
Contains-map f xs x (k, l, is) = (k, (let e = length-map xs f in omega (arith, e, l)), get_or-map f xs k x (f x) l ∙ ap f is)

-- and what the image contains is the image of something in the list
Contains-from_map : {X Y : Type 0} (f : X → Y) (d : X) (xs : List X) (y : Y) → Contains (map f xs) y → (x : X) × Contains xs x × (f x ≡ y)
Contains-from_map f d xs y (k, l, is) =
    let there : k < length xs = (let e = length-map xs f in omega (arith, e, l)) in
    (get_or xs k d, (k, there, get_or_default xs k (get_or xs k d) d there), sym (get_or-map f xs k d y there) ∙ is)

-- the values that are found where each object may have a node
pub AreValues-found : (p : Problem) (s : State) (q : ℕ) (values : List (List ℕ × Truth)) → AreValuesFound (state_known p s) q (list_all (may_have_node s)) values → AreValues p s q values
AreValues-found p s q values found = record {
  tuples = record {
    ordered = found.ordered;
    members = λ t. (
      λ there. (let one = Contains-from_map (λ (e : List ℕ × Truth). e.0) ([], False) values t there in
          let is = ((found.members one.0.0 one.0.1).0 one.1).0 in
          subst (IsNotFalseAt p s q) one.2 (record { tuple = is.tuple; nodes = All-from_list_all (may_have_node s) one.0.0 is.passed; value = is.value })),
      λ is. (let v = value p s q t in
          Contains-map (λ (e : List ℕ × Truth). e.0) values (t, v)
          ((found.members t v).1 (record { tuple = is.tuple; passed = list_all-from_All (may_have_node s) t is.nodes; value = is.value }, refl))),
    );
  };
  each = λ k d l. (let e = get_or values k d in ((found.members e.0 e.1).0 (k, l, get_or_default values k e d l)).1);
}

-- What is named in a state, after each edit.
use Rattle.std.proofs.Common.{◌≡◌, ◌∙◌, ℕ, ◌<◌, if◌then◌else◌, Option, Some, List, length, slice_set, Result, Ok, Err, unwrap_or, refl, sym, ap, subst, inl, inr}
use Rattle.std.specs.BTreeMap.{get}
use Rattle.std.specs.Prelude.{OnErr, OnOk, slice_index_or, vec_len}
use Rattle.std.proofs.lemmas.Bool.{cases_eq}
use Rattle.std.proofs.lemmas.List.{get_or-set_other, get_or-set_same, length-set}
use Rattle.rf_values.specs.declared.truth.Truth.{Truth}
use Rattle.rf_values.specs.declared.truth.Truth.TheVariants.{Unknown}
use Rattle.rf_problem.specs.declared.problem.Problem.{Problem}
use Rattle.rf_state.specs.Added.{Added, added_at, key_cmp}
use Rattle.rf_state.specs.NamedEnds.{AreAdded, AreSameBut, IsGrown, IsIndex}
use Rattle.rf_state.specs.State.{no_object}
use Rattle.rf_state.specs.declared.named_ends.NamedEnds.{NamedEnds}
use Rattle.rf_state.specs.declared.object.Object.{Object}
use Rattle.rf_state.proofs.Keys.{IsPut, get-put}
use Rattle.rf_state.proofs.NamedLemmas.{AreAdded-grown, AreStated-grown}

-- with more named
pub IsIndex-grown : (p : Problem) (objects : List Object) (added : Added) (old new : NamedEnds) → vec_len new.numbers ≡ vec_len old.numbers → IsGrown old new
    → IsIndex p objects added old → IsIndex p objects added new
IsIndex-grown p objects added old new same grown index = record {
  many = index.many;
  numbers = same ∙ index.numbers;
  origins = index.origins;
  stated = AreStated-grown p old new grown p.assertions index.stated;
  added_too = AreAdded-grown p old new grown added index.added_too;
}

-- with an object replaced by one of the same origin
pub IsIndex-object : (p : Problem) (objects : List Object) (added : Added) (named : NamedEnds) (o : ℕ) (object : Object) → o < length objects
    → object.origin ≡ (slice_index_or objects o no_object).origin → IsIndex p objects added named → IsIndex p (slice_set objects o object) added named
IsIndex-object p objects added named o object there same index = record {
  many = length-set objects o object ∙ index.many;
  numbers = index.numbers;
  origins = λ x l. own x (subst (λ n. x < n) (length-set objects o object) l);
  stated = index.stated;
  added_too = index.added_too;
}
  where
    own : (x : ℕ) → x < length objects → (slice_index_or (slice_set objects o object) x no_object).origin ≡ x
    own x l = elim (cases_eq x o) [
      | inl e ↦ subst (λ y. (slice_index_or (slice_set objects o object) y no_object).origin ≡ y) (sym e)
          (ap (λ (z : Object). z.origin) (get_or-set_same objects o object no_object there) ∙ same ∙ index.origins o there)
      | inr ne ↦ ap (λ (z : Object). z.origin) (get_or-set_other objects o x object no_object ne) ∙ index.origins x l
    ]

-- with other added facts
pub IsIndex-added : (p : Problem) (objects : List Object) (before after : Added) (named : NamedEnds) → AreAdded p after named
    → IsIndex p objects before named → IsIndex p objects after named
IsIndex-added p objects before after named added index = record {
  many = index.many;
  numbers = index.numbers;
  origins = index.origins;
  stated = index.stated;
  added_too = added;
}

-- an insert that may run out of memory
pub AreSameBut-put : (old new : Added) (r a b : ℕ) (t : Truth) → IsPut old r a b (Some t) new → AreSameBut r a b old new
AreSameBut-put old new r a b t put q x y off = ap (λ (o : Option Truth). unwrap_or o Unknown)
    (get-put old new r a b q x y (Some t) put ∙ ap (λ e. if e then Some t else get key_cmp old (q, x, y)) off)

pub AreSameBut-unchanged : (old new : Added) (r a b : ℕ) → new.entries ≡ old.entries → AreSameBut r a b old new
AreSameBut-unchanged old new r a b same q x y off = rw same refl

pub AreSameBut-insert : {T E : Type 0} {Q : Type 0} (result : Result T E) (old new : Added) (r a b : ℕ) (t : Truth) → (Q → IsPut old r a b (Some t) new)
    → OnOk result Q → OnErr result (new.entries ≡ old.entries) → AreSameBut r a b old new
AreSameBut-insert (Ok x) old new r a b t put done failed = AreSameBut-put old new r a b t (put done)
AreSameBut-insert (Err x) old new r a b t put done failed = AreSameBut-unchanged old new r a b failed

-- the same objects and added facts
pub IsIndex-same : (p : Problem) (old new : List Object) (before after : Added) (named : NamedEnds) → new ≡ old → after.entries ≡ before.entries
    → IsIndex p old before named → IsIndex p new after named
IsIndex-same p old new before after named objects entries index =
    subst (λ (l : List Object). IsIndex p l after named) (sym objects) (IsIndex-added p old before after named added index)
  where
    same : (q x y : ℕ) → added_at after q x y ≡ added_at before q x y
    same q x y = rw entries refl

    added : AreAdded p after named
    added = record {
      from = λ r a b off. (let held = index.added_too.from r a b off in record { there = same r a b ∙ held.there; back = λ q has. same q b a ∙ held.back q has });
      into = λ r a b off. (let held = index.added_too.into r a b off in record { there = same r a b ∙ held.there; back = λ q has. same q b a ∙ held.back q has });
    }

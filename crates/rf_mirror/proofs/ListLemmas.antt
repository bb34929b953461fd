-- The lists that are kept beside states, and the list of objects.
use Rattle.std.proofs.Common.{◌≡◌, ◌<◌, ◌≤◌, ◌+◌, ◌==◌, ℕ, List, [], ◌∷◌, ◌++◌, length, min, take, if◌then◌else◌, refl, sym, ◌∙◌, ap, subst, inl, inr, arith}
use Rattle.std.specs.Prelude.{slice_index_or}
use Rattle.std.proofs.lemmas.Bool.{cases_eq, eq-eqb, ne_eqb}
use Rattle.std.proofs.lemmas.List.{get_or-set_other, get_or-set_same, get_or-take, get_or_append_left, length-set, length-take, length_push}
use Rattle.std.proofs.Math.Seq.{get_or-append_seam}
use Rattle.rf_values.specs.declared.truth.Truth.{Truth}
use Rattle.rf_values.specs.declared.truth.Truth.TheVariants.{Unknown}
use Rattle.rf_problem.specs.declared.problem.Problem.{Problem}
use Rattle.rf_state.specs.State.{State, no_object, object_of, with_object}
use Rattle.rf_state.specs.declared.object.Object.{Object}
use Rattle.rf_trail.specs.Trail.{HaveNoMore}
use Rattle.rf_mirror.specs.Mirror.{AreMirrors, AreObjects, AreTold, IsMirror, no_state}

module _ {A : Type 0} where
  pub same-have : (xs : List (List A)) → HaveNoMore xs xs
  same-have xs = record { many = refl; few = λ v. omega arith; same = λ v k none l. refl }

  pub none-have : (old new : List (List A)) → length new ≡ length old → ((v : ℕ) → slice_index_or new v [] ≡ []) → HaveNoMore old new
  none-have old new many none = record {
    many = many;
    few = λ v. let e = ap length (none v) in omega (arith, e);
    same = λ v k d l. absurd (let e = ap length (none v) in omega (arith, e, l));
  }

  -- where both of two lists have nothing more than the ones before them
  pub twice-have : (xs ys zs : List (List A)) → HaveNoMore xs ys → HaveNoMore ys zs → HaveNoMore xs zs
  twice-have xs ys zs first next = record {
    many = next.many ∙ first.many;
    few = λ v. let a = first.few v in let b = next.few v in omega (arith, a, b);
    same = λ v k d l. let b = next.few v in next.same v k d l ∙ first.same v k d (omega (arith, b, l));
  }

-- with fewer of the objects, and fewer of the cells
pub fewer-objects : (s : State) (old new : List Object) → length new ≤ length old
    → ((k : ℕ) → k < length new → slice_index_or new k no_object ≡ slice_index_or old k no_object) → AreObjects s old → AreObjects s new
fewer-objects s old new few same h = record {
  few = let f = h.few in omega (arith, few, f);
  right = λ o l. same o l ∙ h.right o (omega (arith, few, l));
}

pub fewer-cells : (p : Problem) (s : State) (old new : List Truth) → length new ≤ length old
    → ((k : ℕ) → k < length new → slice_index_or new k Unknown ≡ slice_index_or old k Unknown) → AreTold p s old → AreTold p s new
fewer-cells p s old new few same h = record {
  few = let f = h.few in omega (arith, few, f);
  right = λ r a b lr la lb l. same _ l ∙ h.right r a b lr la lb (omega (arith, few, l));
}

pub no-mirror : (p : Problem) (s : State) → IsMirror p s [] []
no-mirror p s = record {
  first = record { few = omega arith; right = λ o l. absurd (omega (arith, l)) };
  known = record { few = omega arith; right = λ r a b lr la lb l. absurd (omega (arith, l)) };
}

-- the lists that are kept, where they have no more than before
pub fewer-mirrors : (p : Problem) (states : List State) (os us : List (List Object)) (cs ds : List (List Truth))
    → HaveNoMore os us → HaveNoMore cs ds → AreMirrors p states os cs → AreMirrors p states us ds
fewer-mirrors p states os us cs ds objects cells h = record {
  many_objects = objects.many ∙ h.many_objects;
  many_cells = cells.many ∙ h.many_cells;
  right = λ v l. record {
    first = fewer-objects _ (slice_index_or os v []) (slice_index_or us v []) (objects.few v) (λ k m. objects.same v k no_object m) (h.right v l).first;
    known = fewer-cells p _ (slice_index_or cs v []) (slice_index_or ds v []) (cells.few v) (λ k m. cells.same v k Unknown m) (h.right v l).known;
  };
}

at-end : {A : Type 0} (xs : List A) (x none : A) (n : ℕ) → length xs ≡ n → slice_index_or (xs ++ x ∷ []) n none ≡ x
at-end xs x none n e = subst (λ m. slice_index_or (xs ++ x ∷ []) m none ≡ x) e (get_or-append_seam xs x [] none)

-- one more is kept
pub more-mirrors : (p : Problem) (states : List State) (os : List (List Object)) (cs : List (List Truth)) (s : State) (xs : List Object) (ys : List Truth)
    → AreMirrors p states os cs → IsMirror p s xs ys → AreMirrors p (states ++ s ∷ []) (os ++ xs ∷ []) (cs ++ ys ∷ [])
more-mirrors p states os cs s xs ys h now = record {
  many_objects = length_push os xs ∙ ap (λ m. m + 1) h.many_objects ∙ sym (length_push states s);
  many_cells = length_push cs ys ∙ ap (λ m. m + 1) h.many_cells ∙ sym (length_push states s);
  right = λ v l. elim (cases_eq v (length states)) [
    | inl e ↦ (
        let first = at-end states s no_state v (sym e) in
        let second = at-end os xs [] v (h.many_objects ∙ sym e) in
        let third = at-end cs ys [] v (h.many_cells ∙ sym e) in
        rw (first, second, third) now)
    | inr ne ↦ (
        let many = length_push states s in
        let m : v < length states = omega (arith, ne, l, many) in
        let a = h.many_objects in
        let b = h.many_cells in
        let first = get_or_append_left states (s ∷ []) no_state v m in
        let second = get_or_append_left os (xs ∷ []) [] v (omega (arith, m, a)) in
        let third = get_or_append_left cs (ys ∷ []) [] v (omega (arith, m, b)) in
        rw (first, second, third) (h.right v m))
  ];
}

-- only the first ones are kept
pub first-mirrors : (p : Problem) (states : List State) (os : List (List Object)) (cs : List (List Truth)) (n : ℕ)
    → AreMirrors p states os cs → AreMirrors p (take n states) (take n os) (take n cs)
first-mirrors p states os cs n h = record {
  many_objects = length-take n os ∙ ap (λ m. min n m) h.many_objects ∙ sym (length-take n states);
  many_cells = length-take n cs ∙ ap (λ m. min n m) h.many_cells ∙ sym (length-take n states);
  right = λ v l.
      let many = length-take n states in
      let m : v < length states = omega (arith, l, many) in
      let k : v < n = omega (arith, l, many) in
      let first = get_or-take n states v no_state k in
      let second = get_or-take n os v [] k in
      let third = get_or-take n cs v [] k in
      rw (first, second, third) (h.right v m);
}

-- with one of the objects another
pub put-objects : (s : State) (o : ℕ) (object : Object) (old new : List Object) → length new ≤ length old
    → ((k : ℕ) (none : Object) → k < length new → slice_index_or new k none ≡ (if k == o then object else slice_index_or old k none))
    → AreObjects s old → AreObjects (with_object s o object) new
put-objects s o object old new few put h = record {
  few = let f = h.few in let e = length-set s.objects o object in omega (arith, few, f, e);
  right = λ x l. elim (cases_eq x o) [
    | inl e ↦ (
        let f = h.few in
        let same = eq-eqb x o e in
        let at = put x no_object l in
        let there : o < length s.objects = omega (arith, few, f, l, e) in
        (rw same at at) ∙ sym (subst (λ y. object_of (with_object s o object) y ≡ object) (sym e) (get_or-set_same s.objects o object no_object there)))
    | inr ne ↦ (
        let other = ne_eqb x o ne in
        let at = put x no_object l in
        (rw other at at) ∙ h.right x (omega (arith, few, l)) ∙ sym (get_or-set_other s.objects o x object no_object ne))
  ];
}

-- with one object more
pub push-objects : (s : State) (o : ℕ) (object : Object) (old : List Object) → length old ≡ o → o < length s.objects
    → object ≡ object_of s o → AreObjects s old → AreObjects s (old ++ object ∷ [])
push-objects s o object old at there is h = record {
  few = let e = length_push old object in omega (arith, e, at, there);
  right = λ x l. elim (cases_eq x o) [
    | inl e ↦ (at-end old object no_object x (at ∙ sym e) ∙ is ∙ ap (object_of s) (sym e))
    | inr ne ↦ (
        let many = length_push old object in
        let m : x < length old = omega (arith, ne, l, many, at) in
        get_or_append_left old (object ∷ []) no_object x m ∙ h.right x m)
  ];
}

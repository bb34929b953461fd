-- Lists that are right for a state, after each edit of it.
use Rattle.std.proofs.Common.{◌≡◌, ◌<◌, ℕ, List, [], length, Some, sym, ◌∙◌, ap, subst, inl, inr, arith}
use Rattle.std.specs.Prelude.{IfSome, slice_get, slice_index_or}
use Rattle.std.specs.FinSet.{intersection}
use Rattle.std.proofs.lemmas.Bool.{cases_eq, cases_lt}
use Rattle.std.proofs.lemmas.List.{get_or-set_other, get_or-set_same, length-set}
use Rattle.std.proofs.lemmas.Option.{get_or_from_slice_get, slice_get-get_or, slice_get_past}
use Rattle.rf_finite.proofs.Range.{None-ne_Some}
use Rattle.rf_values.specs.Count.{less_one, meet}
use Rattle.rf_values.specs.declared.class_set.ClassSet.{ClassSet}
use Rattle.rf_values.specs.declared.count.Count.{Count}
use Rattle.rf_values.specs.declared.truth.Truth.{Truth}
use Rattle.rf_problem.specs.declared.problem.Problem.{Problem}
use Rattle.rf_state.specs.Laws.{IsFresh}
use Rattle.rf_state.specs.State.{State, fresh_of, kept_to, merged_at, narrowed, no_object, object_of, with_object}
use Rattle.rf_state.specs.declared.object.Object.{Object}
use Rattle.rf_state.proofs.EditLemmas.{fresh_is, keeping, narrowing}
use Rattle.rf_mirror.specs.Mirror.{AreMirrors, AreObjects, AreTold, IsMirror, no_state}
use Rattle.rf_mirror.specs.Sources.{IsCopied, StayTold}
use Rattle.rf_mirror.specs.declared.adding.Source.TheVariants.{Copied}
use Rattle.rf_mirror.proofs.ToldLemmas.{fresh-cells, fresh-copied, same-cells}

-- an object that the list has
inside : (objects : List Object) (o : ℕ) (x : Object) → slice_get objects o ≡ Some x → o < length objects
inside objects o x e = elim (cases_lt o (length objects)) [
  | inl l ↦ l
  | inr past ↦ absurd (None-ne_Some (sym (slice_get_past objects o past) ∙ e))
]

pub read-object : (s : State) (objects : List Object) (o : ℕ) (x : Object) → AreObjects s objects → slice_get objects o ≡ Some x
    → x ≡ object_of s o
read-object s objects o x h e = sym (get_or_from_slice_get objects o x no_object e) ∙ h.right o (inside objects o x e)

pub merged-mirror : (p : Problem) (s : State) (objects : List Object) (old new : List Truth) (r a b : ℕ) (v : Truth)
    → IsMirror p s objects old → AreTold p (merged_at s r a b v) new → IsMirror p (merged_at s r a b v) objects new
merged-mirror p s objects old new r a b v h told = record {
  first = record { few = h.first.few; right = h.first.right };
  known = told;
}

pub narrowed-mirror : (p : Problem) (s : State) (o : ℕ) (count : Count) (old new : List Object) (cells : List Truth)
    → o < length s.objects → IsMirror p s old cells → AreObjects (narrowed s o count) new → IsMirror p (narrowed s o count) new cells
narrowed-mirror p s o count old new cells there h objects =
    let law = narrowing p s o count there in
    record { first = objects; known = same-cells p s (narrowed s o count) cells law.same.many law.told_facts h.known }

pub kept-mirror : (p : Problem) (s : State) (o : ℕ) (set : ClassSet) (old new : List Object) (cells : List Truth)
    → o < length s.objects → IsMirror p s old cells → AreObjects (kept_to s o set) new → IsMirror p (kept_to s o set) new cells
kept-mirror p s o set old new cells there h objects =
    let law = keeping p s o set there in
    record { first = objects; known = same-cells p s (kept_to s o set) cells law.same.many law.told_facts h.known }

-- the objects of the state in which an object has one node less are the first ones of that with the fresh one
pub fresh-objects : (p : Problem) (s : State) (o : ℕ) (objects : List Object) → o < length s.objects
    → AreObjects (with_object s o (record (object_of s o) { count = less_one (object_of s o).count })) objects
    → AreObjects (fresh_of s o) objects
fresh-objects p s o objects there h =
    let left : Object = record (object_of s o) { count = less_one (object_of s o).count } in
    let is : IsFresh p s o (fresh_of s o) = fresh_is p s o there in
    let same = length-set s.objects o left in
    record {
      few = let f = h.few in let e = is.many in omega (arith, f, e, same);
      right = λ x l. elim (cases_eq x o) [
        | inl e ↦ (h.right x l ∙ ap (object_of (with_object s o left)) e ∙ own left is ∙ sym (ap (object_of (fresh_of s o)) e))
        | inr ne ↦ (
            let f = h.few in
            h.right x l ∙ get_or-set_other s.objects o x left no_object ne ∙ sym (is.others x (omega (arith, l, f, same)) ne))
      ];
    }
  where
    own : (left : Object) → IsFresh p s o (fresh_of s o) → object_of (with_object s o (record (object_of s o) { count = less_one (object_of s o).count })) o ≡ object_of (fresh_of s o) o
    own left is = at ∙ sym is.own
      where
        at : object_of (with_object s o (record (object_of s o) { count = less_one (object_of s o).count })) o ≡ record (object_of s o) { count = less_one (object_of s o).count }
        at = get_or-set_same s.objects o _ no_object there

-- a state that is kept, with its lists
pub mirror-at : (p : Problem) (states : List State) (os : List (List Object)) (cs : List (List Truth)) (v : ℕ) (s : State) (xs : List Object) (ys : List Truth)
    → AreMirrors p states os cs → v < length states → IfSome (slice_get states v) (λ t. s ≡ t) → IfSome (slice_get os v) (λ zs. xs ≡ zs)
    → IfSome (slice_get cs v) (λ zs. ys ≡ zs) → IsMirror p s xs ys
mirror-at p states os cs v s xs ys h there state objects cells =
    let first : s ≡ slice_index_or states v no_state = if-there states v no_state s there state in
    let second : xs ≡ slice_index_or os v [] = if-there os v [] xs (let e = h.many_objects in omega (arith, there, e)) objects in
    let third : ys ≡ slice_index_or cs v [] = if-there cs v [] ys (let e = h.many_cells in omega (arith, there, e)) cells in
    rw (first, second, third) (h.right v there)
  where
    if-there : {A : Type 0} (zs : List A) (i : ℕ) (none z : A) → i < length zs → IfSome (slice_get zs i) (λ t. z ≡ t) → z ≡ slice_index_or zs i none
    if-there zs i none z l is = let e = slice_get-get_or zs i none l in rw e at is

-- the same of another state that is the same
pub moved : (p q : Problem) (s t : State) (objects : List Object) (cells : List Truth) → q ≡ p → t ≡ s → IsMirror p s objects cells
    → IsMirror q t objects cells
moved p q s t objects cells e f h = rw (e, f) h

pub moved-all : (p q : Problem) (states us : List State) (os : List (List Object)) (cs : List (List Truth)) → q ≡ p → us ≡ states
    → AreMirrors p states os cs → AreMirrors q us os cs
moved-all p q states us os cs e f h = rw (e, f) h

pub narrowed-objects : (s : State) (o : ℕ) (count : Count) (x : Object) (met : Count) (objects : List Object) → x ≡ object_of s o → met ≡ meet x.count count
    → AreObjects (with_object s o (record x { count = met })) objects → AreObjects (narrowed s o count) objects
narrowed-objects s o count x met objects e f h = rw (f, e) at h

pub kept-objects : (s : State) (o : ℕ) (set : ClassSet) (x : Object) (both : ClassSet) (objects : List Object) → x ≡ object_of s o
    → both ≡ intersection x.candidates set
    → AreObjects (with_object s o (record x { candidates = both })) objects → AreObjects (kept_to s o set) objects
kept-objects s o set x both objects e f h = rw (f, e) at h

pub less-objects : (p : Problem) (s : State) (o : ℕ) (x : Object) (less : Count) (objects : List Object) → o < length s.objects → x ≡ object_of s o
    → less ≡ less_one x.count
    → AreObjects (with_object s o (record x { count = less })) objects → AreObjects (fresh_of s o) objects
less-objects p s o x less objects there e f h = fresh-objects p s o objects there (rw (f, e) at h)

pub fresh-object : (p : Problem) (s : State) (o : ℕ) (x : Object) → o < length s.objects → x ≡ object_of s o
    → record x { count = record { lo = 1; hi = Some 1 } } ≡ object_of (fresh_of s o) (length s.objects)
fresh-object p s o x there e = ap (λ (y : Object). record y { count = record { lo = 1; hi = Some 1 } }) e ∙ sym (fresh_is p s o there).fresh

pub renamed : (p q : Problem) (s : State) (objects : List Object) (cells : List Truth) → q ≡ p → IsMirror p s objects cells → IsMirror q s objects cells
renamed p q s objects cells e h = rw e h

pub fresh-mirror : (p q : Problem) (s : State) (o n : ℕ) (x : Object) (less : Count) (old between objects : List Object) (before cells : List Truth)
    → q ≡ p → o < length s.objects → n ≡ length s.objects → x ≡ object_of s o → less ≡ less_one x.count
    → ((t : State) → AreObjects t old → AreObjects (with_object t o (record x { count = less })) between)
    → ((t : State) → AreObjects t between → n < length t.objects → record x { count = record { lo = 1; hi = Some 1 } } ≡ object_of t n → AreObjects t objects)
    → StayTold q (Copied o n) n n before cells → IsMirror p s old before → IsMirror p (fresh_of s o) objects cells
fresh-mirror p q s o n x less old between objects before cells same there e is minus renew add told h =
    let law : IsFresh p s o (fresh_of s o) = fresh_is p s o there in
    let m = law.many in
    let inside : n < length (fresh_of s o).objects = omega (arith, m, e) in
    let rest = less-objects p s o x less between there is minus (renew s h.first) in
    let made : record x { count = record { lo = 1; hi = Some 1 } } ≡ object_of (fresh_of s o) n = subst (λ k. record x { count = record { lo = 1; hi = Some 1 } } ≡ object_of (fresh_of s o) k) (sym e) (fresh-object p s o x there is) in
    let copied : IsCopied q (fresh_of s o) o n = subst (λ k. IsCopied q (fresh_of s o) o k) (sym e) (subst (λ r. IsCopied r (fresh_of s o) o (length s.objects)) (sym same) (fresh-copied p s o there)) in
    record {
      first = add (fresh_of s o) rest inside made;
      known = subst (λ r. AreTold r (fresh_of s o) cells) same (told (fresh_of s o) copied inside inside
          (subst (λ r. AreTold r (fresh_of s o) before) (sym same) (fresh-cells p s o there before h.known)));
    }

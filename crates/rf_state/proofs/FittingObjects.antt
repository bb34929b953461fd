-- The counts of objects have ends of at most the greatest number, and their candidates are classes of the problem, in the root and after
-- each edit.
use Rattle.std.proofs.Common.{◌≡◌, ◌∙◌, ◌&&◌, true, nat_lt, ℕ, ◌<◌, ◌≤◌, Option, None, Some, List, [], ◌∷◌, All, length, min, slice_set, refl, sym, subst, arith}
use Rattle.std.specs.FinSet.{contains}
use Rattle.std.specs.Prelude.{slice_index_or}
use Rattle.std.specs.Option.{ForSome}
use Rattle.std.proofs.lemmas.Bool.{and_parts, ltb-true}
use Rattle.std.proofs.lemmas.List.Elements.{All-from_get_or, All-set}
use Rattle.std.proofs.lemmas.Option.{same_Some}
use Rattle.rf_bounds.specs.declared.TheConstants.{GREATEST_NUMBER}
use Rattle.rf_values.specs.Count.{lesser_end, meet}
use Rattle.rf_values.specs.declared.class_set.ClassSet.{ClassSet}
use Rattle.rf_values.specs.declared.count.Count.{Count}
use Rattle.rf_values.specs.declared.truth.Truth.{Truth}
use Rattle.rf_values.specs.declared.truth.Truth.TheVariants.{True, False, Unknown, Error}
use Rattle.rf_problem.specs.Asserted.{admitted, asserted, with_equals, with_exists}
use Rattle.rf_problem.specs.Classes.{is_concrete}
use Rattle.rf_problem.specs.Parts.{object_at}
use Rattle.rf_problem.specs.Valid.{IsSmall}
use Rattle.rf_problem.specs.declared.problem.Problem.{Problem}
use Rattle.rf_problem.specs.declared.symbol.Symbol.TheVariants.{Equals, Exists}
use Rattle.rf_state.specs.Root.{AreRootObjects, FitsObject}
use Rattle.rf_state.specs.State.{is_candidate, no_object}
use Rattle.rf_state.specs.declared.object.Object.{Object}

-- where there is an upper end, it is at most that
abbrev IsSmallEnd : Option ℕ → Type 0
IsSmallEnd end = ForSome end (λ n. n ≤ GREATEST_NUMBER)

small_some : (m : ℕ) → m ≤ GREATEST_NUMBER → IsSmallEnd (Some m)
small_some m l n e = subst (λ k. k ≤ GREATEST_NUMBER) (same_Some m n e) l

small_lesser : (a b : Option ℕ) → IsSmallEnd a → IsSmallEnd b → IsSmallEnd (lesser_end a b)
small_lesser None b first second = second
small_lesser (Some x) None first second = first
small_lesser (Some x) (Some y) first second = (let l = first x refl in small_some (min x y) (omega (arith, l)))

pub IsSmall-meet : (a b : Count) → IsSmall a → IsSmall b → IsSmall (meet a b)
IsSmall-meet a b first second = record {
  lower = (let l = first.lower in let m = second.lower in omega (arith, l, m));
  upper = small_lesser a.hi b.hi first.upper second.upper;
}

IsSmall-exists : (t : Truth) (c : Count) → IsSmall c → IsSmall (with_exists t c)
IsSmall-exists True c small = record { lower = (let l = small.lower in omega (arith, l)); upper = small.upper }
IsSmall-exists False c small = record { lower = small.lower; upper = small_some 0 (omega arith) }
IsSmall-exists Unknown c small = small
IsSmall-exists Error c small = record { lower = (let l = small.lower in omega (arith, l)); upper = small_some 0 (omega arith) }

IsSmall-equals : (t : Truth) (c : Count) → IsSmall c → IsSmall (with_equals t c)
IsSmall-equals True c small = record { lower = small.lower; upper = small_lesser c.hi (Some 1) small.upper (small_some 1 (omega arith)) }
IsSmall-equals False c small = record { lower = small.lower; upper = small_some 0 (omega arith) }
IsSmall-equals Unknown c small = small
IsSmall-equals Error c small = record { lower = small.lower; upper = small_some 0 (omega arith) }

-- a class that nodes may have is one of the problem
declared_candidate : (p : Problem) (o c : ℕ) → is_candidate p o c ≡ true → c < length p.classes
declared_candidate p o c h =
    let concrete = (and_parts (is_concrete p.classes c) _ h).0 in
    ltb-true c (length p.classes) (and_parts (nat_lt c (length p.classes)) _ concrete).0

-- what every state keeps of its objects
abbrev pub AreFit : Problem → List Object → Type 0
AreFit p objects = All (FitsObject p) objects

-- an object admits a small count
IsSmall-admitted : (p : Problem) (o : ℕ) → o < length p.objects → IsSmall (admitted p o)
IsSmall-admitted p o there =
    IsSmall-equals (asserted p Equals (o ∷ o ∷ [])) (with_exists (asserted p Exists (o ∷ [])) (object_at p.objects o).count)
    (IsSmall-exists (asserted p Exists (o ∷ [])) (object_at p.objects o).count (p.objects_fit.counts o _ there))

pub AreFit-root : (p : Problem) (objects : List Object) → AreRootObjects p (length p.objects) objects → AreFit p objects
AreFit-root p objects root = All-from_get_or (FitsObject p) objects no_object (λ o l.
    let there = subst (λ n. o < n) root.many l in
    let object = root.each o there in
    record {
      small = subst IsSmall (sym object.count) (IsSmall-admitted p o there);
      declared = λ c h. declared_candidate p o c (sym (object.candidates c) ∙ h);
    })

-- an object keeps that
pub FitsObject-at : (p : Problem) (objects : List Object) (o : ℕ) (object : Object) → object ≡ slice_index_or objects o no_object → o < length objects → AreFit p objects
    → FitsObject p object
FitsObject-at p objects o object is there held = subst (FitsObject p) (sym is) (held o no_object there)

-- with a count met by a small one, and with fewer candidates
pub FitsObject-narrowed : (p : Problem) (x : Object) (count met : Count) → met ≡ meet x.count count → IsSmall count → FitsObject p x
    → FitsObject p (record x { count = met })
FitsObject-narrowed p x count met is small held = record {
  small = subst IsSmall (sym is) (IsSmall-meet x.count count held.small small);
  declared = held.declared;
}

pub FitsObject-kept : (p : Problem) (x : Object) (set both : ClassSet) → ((c : ℕ) → contains both c ≡ (contains x.candidates c && contains set c))
    → FitsObject p x → FitsObject p (record x { candidates = both })
FitsObject-kept p x set both members held = record {
  small = held.small;
  declared = λ c h. held.declared c (and_parts (contains x.candidates c) (contains set c) (sym (members c) ∙ h)).0;
}

-- with an object replaced by one that keeps it
pub AreFit-object : (p : Problem) (objects : List Object) (o : ℕ) (object : Object) → FitsObject p object → AreFit p objects → AreFit p (slice_set objects o object)
AreFit-object p objects o object fits held = All-set (FitsObject p) objects o object fits held

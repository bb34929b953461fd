-- What stays as it was where an object is another, or where there is a fresh one.
use Rattle.std.proofs.Common.{◌≡◌, ◌≢◌, ◌<◌, ◌+◌, ℕ, List, [], ◌∷◌, length, Some, refl, sym, ◌∙◌, ap, subst, inl, inr, arith, slice_set}
use Rattle.std.specs.FinSet.{intersection}
use Rattle.std.proofs.lemmas.Bool.{cases_eq, eq-eqb, ne_eqb}
use Rattle.std.proofs.lemmas.List.{get_or-set_other, get_or-set_same, get_or_append_left, length-append, length-set}
use Rattle.std.proofs.Math.Seq.{get_or-append_seam}
use Rattle.rf_values.specs.Count.{less_one, meet}
use Rattle.rf_problem.specs.declared.problem.Problem.{Problem}
use Rattle.rf_state.specs.declared.object.Object.{Object}
use Rattle.rf_state.specs.Laws.{AreSameButFor, FreshIsOneNode, KeepingIsOfCandidates, NarrowingIsOfCount}
use Rattle.rf_state.specs.State.{State, copied_from, fact, fresh_of, no_object, object_of, told, with_object}
use Rattle.rf_state.proofs.FactLemmas.{fact-like, told-like}

-- with object o another of the same origin
module _ (p : Problem) (s : State) (o : ℕ) (object : Object) (there : o < length s.objects) (same : object.origin ≡ (object_of s o).origin) where
  abbrev after : State
  after = with_object s o object

  pub own : object_of after o ≡ object
  own = get_or-set_same s.objects o object no_object there

  other : (x : ℕ) → x ≢ o → object_of after x ≡ object_of s x
  other x ne = get_or-set_other s.objects o x object no_object ne

  pub same_but_for : AreSameButFor o s after
  same_but_for = record { many = length-set s.objects o object; others = other; added = λ r a b. refl }

  origin-same : (x : ℕ) → (object_of after x).origin ≡ (object_of s x).origin
  origin-same x = elim (cases_eq x o) [
    | inl e ↦ subst (λ y. (object_of after y).origin ≡ (object_of s y).origin) (sym e) (ap (λ z. z.origin) own ∙ same)
    | inr ne ↦ ap (λ z. z.origin) (other x ne)
  ]

  pub told-same : (r a b : ℕ) → told p after r a b ≡ told p s r a b
  told-same r a b = told-like p s after a b a b (origin-same a) (origin-same b) r refl

  pub fact-elsewhere : (r a b : ℕ) → a ≢ o → b ≢ o → fact p after r a b ≡ fact p s r a b
  fact-elsewhere r a b from to =
      fact-like p s after a b a b (origin-same a) (origin-same b) (λ k. refl) (λ k. refl)
      (ap (λ z. z.candidates) (other a from)) (ap (λ z. z.candidates) (other b to)) r

  module _ (candidates : object.candidates ≡ (object_of s o).candidates) where
    candidates-same : (x : ℕ) → (object_of after x).candidates ≡ (object_of s x).candidates
    candidates-same x = elim (cases_eq x o) [
      | inl e ↦ subst (λ y. (object_of after y).candidates ≡ (object_of s y).candidates) (sym e) (ap (λ z. z.candidates) own ∙ candidates)
      | inr ne ↦ ap (λ z. z.candidates) (other x ne)
    ]

    pub fact-same : (r a b : ℕ) → fact p after r a b ≡ fact p s r a b
    fact-same r a b = fact-like p s after a b a b (origin-same a) (origin-same b) (λ k. refl) (λ k. refl) (candidates-same a) (candidates-same b) r

pub narrowing : NarrowingIsOfCount
narrowing p s o count l =
    let object : Object = record (object_of s o) { count = meet (object_of s o).count count } in
    record {
      same = same_but_for p s o object l refl;
      object = own p s o object l refl;
      told_facts = told-same p s o object l refl;
      facts = fact-same p s o object l refl refl;
    }

pub keeping : KeepingIsOfCandidates
keeping p s o set l =
    let object : Object = record (object_of s o) { candidates = intersection (object_of s o).candidates set } in
    record {
      same = same_but_for p s o object l refl;
      object = own p s o object l refl;
      told_facts = told-same p s o object l refl;
      facts = fact-elsewhere p s o object l refl;
    }

module _ (p : Problem) (s : State) (o : ℕ) (there : o < length s.objects) where
  abbrev n : ℕ
  n = length s.objects

  abbrev left : Object
  left = record (object_of s o) { count = less_one (object_of s o).count }

  abbrev fresh : Object
  fresh = record (object_of s o) { count = record { lo = 1; hi = Some 1 } }

  abbrev olds : List Object
  olds = slice_set s.objects o left

  olds-length : length olds ≡ n
  olds-length = length-set s.objects o left

  object-fresh : object_of (fresh_of s o) n ≡ fresh
  object-fresh = subst (λ m. object_of (fresh_of s o) m ≡ fresh) olds-length (get_or-append_seam olds fresh [] no_object)

  object-old : (x : ℕ) → x < n → object_of (fresh_of s o) x ≡ object_of (with_object s o left) x
  object-old x l = let e = olds-length in get_or_append_left olds (fresh ∷ []) no_object x (omega (arith, e, l))

  object-own : object_of (fresh_of s o) o ≡ left
  object-own = object-old o there ∙ own p s o left there refl

  object-other : (x : ℕ) → x < n → x ≢ o → object_of (fresh_of s o) x ≡ object_of s x
  object-other x l ne = object-old x l ∙ get_or-set_other s.objects o x left no_object ne

  copied-fresh : copied_from o n n ≡ o
  copied-fresh = let e = eq-eqb n n refl in rw e refl

  copied-old : (x : ℕ) → x < n → copied_from o n x ≡ x
  copied-old x l = let e = ne_eqb x n (λ q. absurd (omega (arith, l, q))) in rw e refl

  -- an object of the state after, and that of the state before of whose origin and candidates it is
  record IsLike (x y : ℕ) : Type 0 where
    pub origin : (object_of (fresh_of s o) x).origin ≡ (object_of s y).origin
    pub candidates : (object_of (fresh_of s o) x).candidates ≡ (object_of s y).candidates
    pub copied : copied_from o n x ≡ y

  like-fresh : IsLike n o
  like-fresh = record { origin = ap (λ z. z.origin) object-fresh; candidates = ap (λ z. z.candidates) object-fresh; copied = copied-fresh }

  like-old : (x : ℕ) → x < n → IsLike x x
  like-old x l = elim (cases_eq x o) [
    | inl e ↦ subst (λ y. IsLike y y) (sym e) record { origin = ap (λ z. z.origin) object-own; candidates = ap (λ z. z.candidates) object-own; copied = copied-old o there }
    | inr ne ↦ record { origin = ap (λ z. z.origin) (object-other x l ne); candidates = ap (λ z. z.candidates) (object-other x l ne); copied = copied-old x l }
  ]

  added-like : (a b x y : ℕ) → IsLike a x → IsLike b y → (r : ℕ) → (fresh_of s o).added r a b ≡ s.added r x y
  added-like a b x y from to r = let e = from.copied in let f = to.copied in rw (e, f) refl

  fact-copied : (a b x y : ℕ) → IsLike a x → IsLike b y → (r : ℕ) → fact p (fresh_of s o) r a b ≡ fact p s r x y
  fact-copied a b x y from to =
      fact-like p s (fresh_of s o) a b x y from.origin to.origin (added-like a b x y from to) (added-like b a y x to from) from.candidates to.candidates

pub fresh_is : FreshIsOneNode
fresh_is p s o l = record {
  many = length-append (olds p s o l) (fresh p s o l ∷ []) ∙ ap (λ m. m + 1) (olds-length p s o l);
  fresh = object-fresh p s o l;
  own = object-own p s o l;
  others = object-other p s o l;
  added_from = λ r b m. added-like p s o l (length s.objects) b o b (like-fresh p s o l) (like-old p s o l b m) r;
  added_to = λ r a m. added-like p s o l a (length s.objects) a o (like-old p s o l a m) (like-fresh p s o l) r;
  added_within = added-like p s o l (length s.objects) (length s.objects) o o (like-fresh p s o l) (like-fresh p s o l);
  facts = λ r a b m k. fact-copied p s o l a b a b (like-old p s o l a m) (like-old p s o l b k) r;
  facts_from = λ r b m. fact-copied p s o l (length s.objects) b o b (like-fresh p s o l) (like-old p s o l b m) r;
  facts_to = λ r a m. fact-copied p s o l a (length s.objects) a o (like-old p s o l a m) (like-fresh p s o l) r;
  facts_within = fact-copied p s o l (length s.objects) (length s.objects) o o (like-fresh p s o l) (like-fresh p s o l);
}

-- A set of classes that is a part of another has fewer members.
use Rattle.std.proofs.Common.{◌≡◌, ◌⊎◌, ℕ, zero, suc, ◌-◌, ◌≤◌, ◌<◌, Bool, true, false, not, ◌&&◌, ◌||◌, cond, List, [], ◌∷◌, refl, sym, ap, ◌∙◌, inl, inr, arith, true≢false}
use Rattle.std.specs.Cmp.{nat_cmp_total}
use Rattle.std.specs.FinSet.{FinSet, contains, contains-difference, contains-empty, contains-intersection, contains-items, contains-remove, difference, empty, empty_of_len, intersection, items, len, len-empty, len-remove, nat_cmp-IsAntisymmetric, remove, same_set}
use Rattle.std.specs.List.{list_any}
use Rattle.std.specs.Ordering.{eq_by_cmp, is_eq, nat_cmp}
use Rattle.std.specs.declared.cmp.Ordering.{Ordering}
use Rattle.std.specs.declared.cmp.Ordering.TheVariants.{Less, Equal, Greater}
use Rattle.std.proofs.lemmas.Cmp.{tied_itself}
use Rattle.std.proofs.lemmas.Bool.{and_from, and_parts, both_ways, false_from_ne_true, not-true, not_from_false}
use Rattle.rf_values.specs.ClassSet.{is_same_set}
use Rattle.rf_values.proofs.Marked.{equal_is_same}

abbrev Set : Type 0
Set = FinSet nat_cmp

tied-itself : (x : ℕ) → eq_by_cmp nat_cmp x x ≡ true
tied-itself x = ap is_eq (tied_itself nat_cmp_total x)

equal-from_is_eq : (o : Ordering) → is_eq o ≡ true → o ≡ Equal
equal-from_is_eq Less e = absurd (true≢false (sym e))
equal-from_is_eq Equal e = refl
equal-from_is_eq Greater e = absurd (true≢false (sym e))

same-from_tied : (x y : ℕ) → eq_by_cmp nat_cmp x y ≡ true → x ≡ y
same-from_tied x y e = nat_cmp-IsAntisymmetric x y (equal-from_is_eq (nat_cmp x y) e)

-- a set has a member, or is empty
member-of : (s : Set) (xs : List ℕ) → items s ≡ xs → ((q : ℕ) → contains s q ≡ false) ⊎ ((q : ℕ) × (contains s q ≡ true))
member-of s [] e = inl (λ q. contains-items s q ∙ ap (list_any (eq_by_cmp nat_cmp q)) e)
member-of s (x ∷ xs) e = inr (
  x,
  contains-items s x ∙ (ap (list_any (eq_by_cmp nat_cmp x)) e
      ∙ ap (λ t. t || list_any (eq_by_cmp nat_cmp x) xs) (tied-itself x)),
)

len-none : (s : Set) → ((q : ℕ) → contains s q ≡ false) → len s ≡ 0
len-none s none =
    let e : s ≡ empty = same_set nat_cmp_total nat_cmp-IsAntisymmetric s empty (λ q. none q ∙ sym (contains-empty nat_cmp q)) in
    ap len e ∙ len-empty nat_cmp

len-some : (s : Set) (x : ℕ) → contains s x ≡ true → (n : ℕ) → len s ≡ n → 1 ≤ n
len-some s x here zero e = absurd (
    let none : s ≡ empty = empty_of_len s e in
    true≢false (sym here ∙ (ap (λ u. contains u x) none ∙ contains-empty nat_cmp x)))
len-some s x here (suc n) e = omega arith

len-without : (s : Set) (x : ℕ) → contains s x ≡ true → len (remove s x) ≡ len s - 1
len-without s x here = len-remove nat_cmp_total s x ∙ ap (λ t. cond t (len s - 1) (len s)) here

-- a part of a set has no more members
part-no_more : (n : ℕ) (s u : Set) → len s ≡ n → ((q : ℕ) → contains s q ≡ true → contains u q ≡ true) → n ≤ len u
part-no_more zero s u e part = omega arith
part-no_more (suc n) s u e part = elim (member-of s (items s) refl) [
  | inl none ↦ absurd (let z = len-none s none in omega arith)
  | inr at ↦ (
      let x = at.0 in
      let rest : len (remove s x) ≡ n = len-without s x at.1 ∙ (ap (λ m. m - 1) e ∙ omega arith) in
      let fewer : n ≤ len (remove u x) = part-no_more n (remove s x) (remove u x) rest (λ q h.
      let parts = and_parts (not (eq_by_cmp nat_cmp q x)) (contains s q) (sym (contains-remove nat_cmp_total s x q) ∙ h) in
      contains-remove nat_cmp_total u x q ∙ and_from (not (eq_by_cmp nat_cmp q x)) (contains u q) parts.0 (part q parts.1)) in
      let some = len-some u x (part x at.1) (len u) refl in
      let less = len-without u x (part x at.1) in
      omega arith)
]

-- and fewer, where a member isn't in it
part-less : (s u : Set) (x : ℕ) → ((q : ℕ) → contains s q ≡ true → contains u q ≡ true) → contains u x ≡ true → contains s x ≡ false → len s < len u
part-less s u x part here out =
    let apart : (q : ℕ) → contains s q ≡ true → eq_by_cmp nat_cmp q x ≡ false =
    λ q h. false_from_ne_true (eq_by_cmp nat_cmp q x) (λ e. true≢false (sym h ∙ (ap (contains s) (same-from_tied q x e) ∙ out))) in
    let fewer : len s ≤ len (remove u x) = part-no_more (len s) s (remove u x) refl (λ q h.
    contains-remove nat_cmp_total u x q ∙ and_from (not (eq_by_cmp nat_cmp q x)) (contains u q) (not_from_false (eq_by_cmp nat_cmp q x) (apart q h)) (part q h)) in
    let some = len-some u x here (len u) refl in
    let less = len-without u x here in
    omega arith

-- what is left of a set that loses some member is smaller
pub part-fewer : (own set : Set) → is_same_set (intersection own set) own ≡ false → len (intersection own set) < len own
part-fewer own set other =
    let kept = intersection own set in
    let part : (q : ℕ) → contains kept q ≡ true → contains own q ≡ true =
    λ q h. (and_parts (contains own q) (contains set q) (sym (contains-intersection nat_cmp_total own set q) ∙ h)).0 in
    elim (member-of (difference own kept) (items (difference own kept)) refl) [
      | inl none ↦ absurd (both_ways (is_same_set kept own) other ((equal_is_same kept own).1
          (same_set nat_cmp_total nat_cmp-IsAntisymmetric kept own (λ q. same q (none q)))))
      | inr at ↦ (
          let parts = and_parts (contains own at.0) (not (contains kept at.0)) (sym (contains-difference nat_cmp_total own kept at.0) ∙ at.1) in
          part-less kept own at.0 part parts.0 (not-true (contains kept at.0) parts.1))
    ]
  where
    both : (o k : Bool) → (o && not k) ≡ false → (k ≡ true → o ≡ true) → k ≡ o
    both true true e part = refl
    both true false e part = absurd (true≢false e)
    both false true e part = sym (part refl)
    both false false e part = refl

    same : (q : ℕ) → contains (difference own (intersection own set)) q ≡ false → contains (intersection own set) q ≡ contains own q
    same q none = both (contains own q) (contains (intersection own set) q) (sym (contains-difference nat_cmp_total own (intersection own set) q) ∙ none)
        (λ h. (and_parts (contains own q) (contains set q) (sym (contains-intersection nat_cmp_total own set q) ∙ h)).0)

-- The objects that new nodes come from, and where they stand after the named ones.
use Rattle.std.proofs.Common.{◌≡◌, ◌∙◌, ℕ, zero, suc, ◌+◌, ◌-◌, ◌≤◌, ◌<◌, Bool, true, false, if◌then◌else◌, List, [], ◌∷◌, ◌++◌, map, length, take, drop, take_all, length-drop, get_or, add-one, refl, sym, ap, inl, inr, arith}
use Rattle.std.proofs.Math.Seq.{drop-append_seam, take-suc}
use Rattle.std.proofs.lemmas.Bool.{cases_Bool}
use Rattle.std.proofs.lemmas.List.{append-nil, drop_all, drop_more, length-take-le, map-append}
use Rattle.rf_problem.specs.Valid.{has_new, is_named, named_objects, new_numbers, new_object}
use Rattle.rf_problem.specs.declared.class.Class.{Class}
use Rattle.rf_problem.specs.declared.object.ObjectDecl.{ObjectDecl}

-- new objects have no names of their own
named_objects-new : (ns : List ℕ) → named_objects (map new_object ns) ≡ []
named_objects-new [] = refl
named_objects-new (n ∷ ns) = named_objects-new ns

-- the numbers of one class more
new_numbers-push :
    (n k : ℕ) (xs : List Class) (c : Class) → k ≡ n + length xs →
    new_numbers n (xs ++ c ∷ []) ≡ new_numbers n xs ++ (if has_new c then k ∷ [] else [])
new_numbers-push n k [] c e =
    let same : n ≡ k = omega arith in
    elim (cases_Bool (has_new c)) [ inl t ↦ rw t (ap (λ m. m ∷ []) same) | inr f ↦ rw f refl ]
new_numbers-push n k (x ∷ xs) c e =
    let rest = new_numbers-push (suc n) k xs c (omega arith) in
    elim (cases_Bool (has_new x)) [ inl t ↦ rw t (ap (λ ms. n ∷ ms) rest) | inr f ↦ rw f rest ]

-- the new objects of one class more
pub new_objects-more :
    (classes : List Class) (i : ℕ) (c : Class) (old now : List ObjectDecl) → i < length classes → c ≡ get_or classes i c →
    old ≡ map new_object (new_numbers 0 (take i classes)) → (has_new c ≡ true → now ≡ old ++ new_object i ∷ []) →
    (has_new c ≡ false → now ≡ old) → now ≡ map new_object (new_numbers 0 (take (i + 1) classes))
new_objects-more classes i c old now l at before add skip =
    let front : take (i + 1) classes ≡ take i classes ++ c ∷ [] =
    ap (λ k. take k classes) (add-one i) ∙ take-suc classes i c l ∙ ap (λ d. take i classes ++ d ∷ []) (sym at) in
    let long : length (take i classes) ≡ i = length-take-le i classes (omega arith) in
    let count : i ≡ 0 + length (take i classes) = omega arith in
    let numbers = new_numbers-push 0 i (take i classes) c count in
    let all : map new_object (new_numbers 0 (take (i + 1) classes)) ≡ old ++ map new_object (if has_new c then i ∷ [] else []) =
    ap (λ cs. map new_object (new_numbers 0 cs)) front ∙ ap (map new_object) numbers
    ∙ map-append new_object (new_numbers 0 (take i classes)) (if has_new c then i ∷ [] else [])
    ∙ ap (λ os. os ++ map new_object (if has_new c then i ∷ [] else [])) (sym before) in
    elim (cases_Bool (has_new c)) [
      | inr t ↦ (let same : map new_object (if has_new c then i ∷ [] else []) ≡ [] = ap (λ (b : Bool). map new_object (if b then i ∷ [] else [])) t in
          skip t ∙ sym (append-nil old) ∙ ap (λ os. old ++ os) (sym same) ∙ sym all)
      | inl f ↦ (let same : map new_object (if has_new c then i ∷ [] else []) ≡ new_object i ∷ [] = ap (λ (b : Bool). map new_object (if b then i ∷ [] else [])) f in
          add f ∙ ap (λ os. old ++ os) (sym same) ∙ sym all)
    ]

-- the objects are those that the new nodes of these classes come from, of which the first has number n
abbrev pub AreStock : ℕ → List Class → List ObjectDecl → Type 0
AreStock n classes objects = objects ≡ map new_object (new_numbers n classes)

module _ (classes : List Class) (i : ℕ) (class : Class) (l : i < length classes) (at : class ≡ get_or classes i class) where
  numbers-without : has_new class ≡ false → new_numbers i (drop i classes) ≡ new_numbers (i + 1) (drop (i + 1) classes)
  numbers-without is = rw (drop_more classes i class l, ← at, is, add-one) refl

  numbers-with : has_new class ≡ true → new_numbers i (drop i classes) ≡ i ∷ new_numbers (i + 1) (drop (i + 1) classes)
  numbers-with is = rw (drop_more classes i class l, ← at, is, add-one) refl

  -- a class without a new object has none
  pub AreStock-skip :
      (objects : List ObjectDecl) → has_new class ≡ false →
      (AreStock i (drop i classes) objects → AreStock (i + 1) (drop (i + 1) classes) objects)
      × (AreStock (i + 1) (drop (i + 1) classes) objects → AreStock i (drop i classes) objects)
  AreStock-skip objects is =
      let same = ap (map new_object) (numbers-without is) in (λ h. h ∙ same, λ h. h ∙ sym same)

  -- any other has one
  pub AreStock-next :
      (objects : List ObjectDecl) (first : ObjectDecl) (others : List ObjectDecl) → has_new class ≡ true → objects ≡ first ∷ others →
      first ≡ new_object i →
      (AreStock i (drop i classes) objects → AreStock (i + 1) (drop (i + 1) classes) others)
      × (AreStock (i + 1) (drop (i + 1) classes) others → AreStock i (drop i classes) objects)
  AreStock-next objects first others is split new =
      let all : map new_object (new_numbers i (drop i classes)) ≡ new_object i ∷ map new_object (new_numbers (i + 1) (drop (i + 1) classes)) =
      ap (map new_object) (numbers-with is) in
      (λ h. cc, λ h. cc)

  pub AreStock-not_first :
      (objects : List ObjectDecl) (first : ObjectDecl) (others : List ObjectDecl) → has_new class ≡ true → objects ≡ first ∷ others →
      (first ≡ new_object i → ⊥) → AreStock i (drop i classes) objects → ⊥
  AreStock-not_first objects first others is split other h =
      let all : map new_object (new_numbers i (drop i classes)) ≡ new_object i ∷ map new_object (new_numbers (i + 1) (drop (i + 1) classes)) =
      ap (map new_object) (numbers-with is) in
      other cc

  pub AreStock-not_empty : (objects : List ObjectDecl) → has_new class ≡ true → objects ≡ [] → AreStock i (drop i classes) objects → ⊥
  AreStock-not_empty objects is none h =
      let all : map new_object (new_numbers i (drop i classes)) ≡ new_object i ∷ map new_object (new_numbers (i + 1) (drop (i + 1) classes)) =
      ap (map new_object) (numbers-with is) in
      let clash : [] ≡ new_object i ∷ map new_object (new_numbers (i + 1) (drop (i + 1) classes)) = cc in cc

-- where the classes end nothing is left
pub AreStock-end :
    (classes : List Class) (i : ℕ) (objects : List ObjectDecl) → length classes ≤ i →
    (AreStock i (drop i classes) objects → objects ≡ []) × (objects ≡ [] → AreStock i (drop i classes) objects)
AreStock-end classes i objects past =
    let none : map new_object (new_numbers i (drop i classes)) ≡ [] = ap (λ cs. map new_object (new_numbers i cs)) (drop_all i classes past) in
    (λ h. h ∙ none, λ h. h ∙ sym none)

-- dropping m objects drops at most m named ones
length-named_objects_drop : (m : ℕ) (objects : List ObjectDecl) → length (named_objects objects) ≤ m + length (named_objects (drop m objects))
length-named_objects_drop zero objects = omega arith
length-named_objects_drop (suc m) [] = omega arith
length-named_objects_drop (suc m) (o ∷ objects) =
    let rest = length-named_objects_drop m objects in
    elim (cases_Bool (is_named o.name)) [ inl e ↦ rw e (omega arith) | inr e ↦ rw e (omega arith) ]

-- as many objects as are named are dropped, and new ones alone are left
stocked-from_drop :
    (objects : List ObjectDecl) (numbers : List ℕ) → drop (length (named_objects objects)) objects ≡ map new_object numbers →
    objects ≡ named_objects objects ++ map new_object numbers
stocked-from_drop [] numbers h = h
stocked-from_drop (o ∷ objects) numbers h = elim (cases_Bool (is_named o.name)) [
  | inl e ↦ rw e (ap (λ rest. o ∷ rest) (stocked-from_drop objects numbers (rw e at h)))
  | inr e ↦ rw e (unnamed (named_objects objects) refl (rw e at h))
]
  where
    unnamed : (named : List ObjectDecl) → named ≡ named_objects objects → drop (length named) (o ∷ objects) ≡ map new_object numbers →
        o ∷ objects ≡ named ++ map new_object numbers
    unnamed [] is left = left
    unnamed (q ∷ named) is left =
        let few = length-named_objects_drop (length named) objects in
        let none : named_objects (drop (length named) objects) ≡ [] = ap named_objects left ∙ named_objects-new numbers in
        let none_long : length (named_objects (drop (length named) objects)) ≡ 0 = ap length none in
        let long : suc (length named) ≡ length (named_objects objects) = ap length is in
        absurd (omega arith)

-- the new objects stand after the named ones exactly where they are all that follows as many objects as are named
pub stocked :
    (objects : List ObjectDecl) (numbers : List ℕ) (n : ℕ) → n ≡ length (named_objects objects) →
    (take (length objects - n) (drop n objects) ≡ map new_object numbers → objects ≡ named_objects objects ++ map new_object numbers)
    × (objects ≡ named_objects objects ++ map new_object numbers → take (length objects - n) (drop n objects) ≡ map new_object numbers)
stocked objects numbers n is =
    let all : take (length objects - n) (drop n objects) ≡ drop n objects = take_all (length objects - n) (drop n objects) (let short = length-drop n objects in omega arith) in (
      λ h. stocked-from_drop objects numbers (ap (λ k. drop k objects) (sym is) ∙ sym all ∙ h),
      λ h. all ∙ ap (drop n) h ∙ ap (λ k. drop k (named_objects objects ++ map new_object numbers)) is
          ∙ drop-append_seam (named_objects objects) (map new_object numbers),
    )

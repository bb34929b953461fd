-- Lists whose changes are undone, and the lists that were kept at marks.
use Rattle.std.proofs.Common.{◌≡◌, ℕ, zero, suc, ◌+◌, ◌≤◌, ◌<◌, List, [], ◌∷◌, ◌++◌, Bool, true, false, if◌then◌else◌, length, map, take, drop, set, get_or, refl, sym, ap, ap₂, subst, ◌∙◌, inl, inr, arith}
use Rattle.std.specs.Prelude.{IfSome, slice_get, slice_index_or}
use Rattle.std.proofs.lemmas.Bool.{cases_lt}
use Rattle.std.proofs.lemmas.List.{drop-append-le, get_or-take, get_or_append_left, get_or_push, length-set, length-take, length_push, map_push, take-map}
use Rattle.std.proofs.Math.Seq.{drop-length, take-length}
use Rattle.rf_trail.specs.Marks.{AreMarks, IsWithin, mark_at, no_mark}
use Rattle.rf_trail.specs.Trail.{list_at, undone}
use Rattle.rf_trail.specs.declared.trail.Change.{Change}
use Rattle.rf_trail.specs.declared.trail.Mark.{Mark}

module _ {A : Type 0} where
  -- the last changes are undone first
  pub undone-join : (cs ds : List (Change A)) (xs : List A) → undone (cs ++ ds) xs ≡ undone cs (undone ds xs)
  undone-join [] ds xs = refl
  undone-join (c ∷ cs) ds xs = ap (λ (ys : List A). set ys c.place c.before) (undone-join cs ds xs)

  take-set : (n : ℕ) (xs : List A) (k : ℕ) (x : A) → take n (set xs k x) ≡ set (take n xs) k x
  take-set zero [] k x = refl
  take-set zero (y ∷ ys) zero x = refl
  take-set zero (y ∷ ys) (suc k) x = refl
  take-set (suc n) [] k x = refl
  take-set (suc n) (y ∷ ys) zero x = refl
  take-set (suc n) (y ∷ ys) (suc k) x = ap (λ (zs : List A). y ∷ zs) (take-set n ys k x)

  -- what stands before a place rests on what stood before it
  pub undone-take : (n : ℕ) (cs : List (Change A)) (xs : List A) → take n (undone cs xs) ≡ undone cs (take n xs)
  undone-take n [] xs = refl
  undone-take n (c ∷ cs) xs = take-set n (undone cs xs) c.place c.before ∙ ap (λ (ys : List A). set ys c.place c.before) (undone-take n cs xs)

  take-more : (n : ℕ) (xs : List A) (x : A) → n ≤ length xs → take n (xs ++ x ∷ []) ≡ take n xs
  take-more zero [] x l = refl
  take-more zero (y ∷ ys) x l = refl
  take-more (suc n) [] x l = absurd (omega arith)
  take-more (suc n) (y ∷ ys) x l = ap (λ (zs : List A). y ∷ zs) (take-more n ys x (omega arith))

  take-take : (n m : ℕ) (xs : List A) → n ≤ m → take n (take m xs) ≡ take n xs
  take-take zero m [] l = refl
  take-take zero zero (y ∷ ys) l = refl
  take-take zero (suc m) (y ∷ ys) l = refl
  take-take (suc n) zero xs l = absurd (omega arith)
  take-take (suc n) (suc m) [] l = refl
  take-take (suc n) (suc m) (y ∷ ys) l = ap (λ (zs : List A). y ∷ zs) (take-take n m ys (omega arith))

  pub set-back : (xs : List A) (k : ℕ) (x : A) (d : A) → k < length xs → set (set xs k x) k (get_or xs k d) ≡ xs
  set-back [] k x d l = absurd (omega arith)
  set-back (y ∷ ys) zero x d l = refl
  set-back (y ∷ ys) (suc k) x d l = ap (λ (zs : List A). y ∷ zs) (set-back ys k x d (omega arith))

  drop-split : (n m : ℕ) (xs : List (Change A)) → n ≤ m → drop n xs ≡ drop n (take m xs) ++ drop m xs
  drop-split zero zero [] l = refl
  drop-split zero (suc m) [] l = refl
  drop-split zero zero (y ∷ ys) l = refl
  drop-split zero (suc m) (y ∷ ys) l = ap (λ (zs : List (Change A)). y ∷ zs) (drop-split zero m ys (omega arith))
  drop-split (suc n) zero xs l = absurd (omega arith)
  drop-split (suc n) (suc m) [] l = refl
  drop-split (suc n) (suc m) (y ∷ ys) l = drop-split n m ys (omega arith)

  -- the lists that were kept stay the same
  map-same : (f g : Mark → List A) (ms : List Mark) → ((i : ℕ) → i < length ms → f (mark_at ms i) ≡ g (mark_at ms i)) → map f ms ≡ map g ms
  map-same f g [] same = refl
  map-same f g (m ∷ ms) same = ap₂ (λ (x : List A) (xs : List (List A)). x ∷ xs) (same 0 (omega arith)) (map-same f g ms (λ i l. same (suc i) (omega (arith, l))))

  -- where an item is added
  pub kept-push : (cs : List (Change A)) (xs : List A) (x : A) (ms : List Mark) → AreMarks (length cs) (length xs) ms
      → map (list_at cs (xs ++ x ∷ [])) ms ≡ map (list_at cs xs) ms
  kept-push cs xs x ms h = map-same (list_at cs (xs ++ x ∷ [])) (list_at cs xs) ms (λ i l.
      let m = mark_at ms i in
      undone-take m.length (drop m.changes cs) (xs ++ x ∷ [])
      ∙ ap (undone (drop m.changes cs)) (take-more m.length xs x (h.within i l).short)
      ∙ sym (undone-take m.length (drop m.changes cs) xs))

  -- where an item is changed, and noted
  pub kept-set : (cs : List (Change A)) (xs : List A) (c : Change A) (x : A) (ms : List Mark) → AreMarks (length cs) (length xs) ms
      → set (set xs c.place x) c.place c.before ≡ xs → map (list_at (cs ++ c ∷ []) (set xs c.place x)) ms ≡ map (list_at cs xs) ms
  kept-set cs xs c x ms h back = map-same (list_at (cs ++ c ∷ []) (set xs c.place x)) (list_at cs xs) ms (λ i l.
      let m = mark_at ms i in
      ap (take m.length) (
      ap (λ (ds : List (Change A)). undone ds (set xs c.place x)) (drop-append-le m.changes cs (c ∷ []) (h.within i l).few)
      ∙ undone-join (drop m.changes cs) (c ∷ []) (set xs c.place x)
      ∙ ap (undone (drop m.changes cs)) back
      ))

  pub undone-length : (cs : List (Change A)) (xs : List A) → length (undone cs xs) ≡ length xs
  undone-length [] xs = refl
  undone-length (c ∷ cs) xs = length-set (undone cs xs) c.place c.before ∙ undone-length cs xs

  -- a list that ends with an item is cut before it
  pub record IsCut (all : List (Change A)) (cs : List (Change A)) (c : Change A) : Type 0 where
    pub first : cs ≡ take (length cs) all
    pub rest : drop (length cs) all ≡ c ∷ drop (suc (length cs)) all

  take-none : (n : ℕ) → let none : List (Change A) = [] in take n none ≡ none
  take-none zero = refl
  take-none (suc n) = refl

  pub cut : (all cs : List (Change A)) (c : Change A) → cs ++ c ∷ [] ≡ take (suc (length cs)) all → IsCut all cs c
  cut [] cs c e = absurd (let many = length_push cs c in let none = ap length (take-none (suc (length cs))) in omega (arith, many, none, ap length e))
  cut (a ∷ more) [] c e = record { first = refl; rest = ap (λ (x : Change A). x ∷ more) (sym (ap (λ (xs : List (Change A)). get_or xs 0 c) e)) }
  cut (a ∷ more) (d ∷ ds) c e =
      let r = cut more ds c (ap (drop 1) e) in
      record { first = ap₂ (λ (x : Change A) (xs : List (Change A)). x ∷ xs) (ap (λ (xs : List (Change A)). get_or xs 0 c) e) r.first; rest = r.rest }

  -- what is kept after going back to mark number v
  pub kept-back : (cs : List (Change A)) (xs : List A) (ms : List Mark) (v : ℕ) → AreMarks (length cs) (length xs) ms → v < length ms
      → map (list_at (take (mark_at ms v).changes cs) (take (mark_at ms v).length (undone (drop (mark_at ms v).changes cs) xs))) (take (v + 1) ms)
      ≡ take (v + 1) (map (list_at cs xs) ms)
  kept-back cs xs ms v h l =
      let m = mark_at ms v in
      let ys : List A = undone (drop m.changes cs) xs in
      map-same (list_at (take m.changes cs) (take m.length ys)) (list_at cs xs) (take (v + 1) ms) (λ i il.
      let many = length-take (v + 1) ms in
      let at : mark_at (take (v + 1) ms) i ≡ mark_at ms i = get_or-take (v + 1) ms i no_mark (omega (arith, il, many)) in
      let w = mark_at ms i in
      let in_v : IsWithin m.changes m.length w = h.ordered i v (omega (arith, il, many)) l in
      let split : drop w.changes cs ≡ drop w.changes (take m.changes cs) ++ drop m.changes cs = drop-split w.changes m.changes cs in_v.few in
      ap (list_at (take m.changes cs) (take m.length ys)) at
      ∙ ap (take w.length) (sym (undone-take m.length (drop w.changes (take m.changes cs)) ys))
      ∙ take-take w.length m.length (undone (drop w.changes (take m.changes cs)) ys) in_v.short
      ∙ ap (take w.length) (
      sym (undone-join (drop w.changes (take m.changes cs)) (drop m.changes cs) xs)
      ∙ ap (λ (ds : List (Change A)). undone ds xs) (sym split)
      )
      ∙ ap (list_at cs xs) (sym at))
      ∙ sym (take-map (list_at cs xs) (v + 1) ms)

  -- what is kept where the list is
  pub kept-last : (cs : List (Change A)) (xs : List A) (ms : List Mark)
      → map (list_at cs xs) (ms ++ record { changes = length cs; length = length xs } ∷ []) ≡ map (list_at cs xs) ms ++ xs ∷ []
  kept-last cs xs ms =
      let m : Mark = record { changes = length cs; length = length xs } in
      map_push (list_at cs xs) ms m
      ∙ ap (λ (x : List A). map (list_at cs xs) ms ++ x ∷ [])
      (ap (λ (ds : List (Change A)). take (length xs) (undone ds xs)) (drop-length cs) ∙ take-length xs)

  -- where an item is added, or memory runs out
  pub kept-tried : (cs : List (Change A)) (xs ys : List A) (x : A) (ms : List Mark) (there : Bool) → AreMarks (length cs) (length xs) ms
      → ys ≡ (if there then xs ++ x ∷ [] else xs) → map (list_at cs ys) ms ≡ map (list_at cs xs) ms
  kept-tried cs xs ys x ms true h e = ap (λ (zs : List A). map (list_at cs zs) ms) e ∙ kept-push cs xs x ms h
  kept-tried cs xs ys x ms false h e = ap (λ (zs : List A). map (list_at cs zs) ms) e

  pub kept-there : (f : Mark → List A) (ms : List Mark) (v : ℕ) (y : List A) → v < length ms → y ≡ f (mark_at ms v) → IfSome (slice_get (map f ms) v) (λ ys. y ≡ ys)
  kept-there f [] v y l e = absurd (omega arith)
  kept-there f (m ∷ ms) zero y l e = e
  kept-there f (m ∷ ms) (suc v) y l e = kept-there f ms v y (omega (arith, l)) e

  list-none : (m : Mark) → let none : List (Change A) = [] in let empty : List A = [] in list_at none empty m ≡ empty
  list-none m = cut-none m.length m.changes
    where
      cut-none : (n k : ℕ) → let none : List (Change A) = [] in let empty : List A = [] in take n (undone (drop k none) empty) ≡ empty
      cut-none zero zero = refl
      cut-none zero (suc k) = refl
      cut-none (suc n) zero = refl
      cut-none (suc n) (suc k) = refl

  -- nothing is kept of a list without items
  pub kept-none : (ms : List Mark) (v : ℕ) → let none : List (Change A) = [] in let empty : List A = [] in get_or (map (list_at none empty) ms) v empty ≡ empty
  kept-none [] v = refl
  kept-none (m ∷ ms) zero = list-none m
  kept-none (m ∷ ms) (suc v) = kept-none ms v

pub take-nothing : {X : Type 0} → (xs : List X) → take 0 xs ≡ []
take-nothing [] = refl
take-nothing (x ∷ xs) = refl

-- after going back to mark number v
pub marks-back : (many short : ℕ) (ms : List Mark) (v : ℕ) → AreMarks many short ms → v < length ms
    → AreMarks (mark_at ms v).changes (mark_at ms v).length (take (v + 1) ms)
marks-back many short ms v h l =
    let long = length-take (v + 1) ms in
    record {
      within = λ i il.
          let at : mark_at (take (v + 1) ms) i ≡ mark_at ms i = get_or-take (v + 1) ms i no_mark (omega (arith, il, long)) in
          subst (IsWithin (mark_at ms v).changes (mark_at ms v).length) (sym at) (h.ordered i v (omega (arith, il, long)) l);
      ordered = λ i j le jl.
          let at : mark_at (take (v + 1) ms) i ≡ mark_at ms i = get_or-take (v + 1) ms i no_mark (omega (arith, le, jl, long)) in
          let to : mark_at (take (v + 1) ms) j ≡ mark_at ms j = get_or-take (v + 1) ms j no_mark (omega (arith, jl, long)) in
          rw (to, at) (h.ordered i j le (omega (arith, jl, long)));
    }

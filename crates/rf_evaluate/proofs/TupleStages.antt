-- Stages with a tuple's elements for the variables that come first.
use Rattle.std.proofs.Common.{◌≡◌, ℕ, zero, suc, ◌+◌, ◌-◌, ◌<◌, ◌≤◌, Bool, false, List, [], ◌∷◌, ◌++◌, length, map, drop, set, get_or, get_or-drop, drop-set-lt, length-append, length-drop, ext_get_or, refl, sym, ap, ap₂, ◌∙◌, inl, inr, arith, slice_index, slice_index_or}
use Rattle.std.proofs.lemmas.Bool.{cases_lt}
use Rattle.std.proofs.lemmas.List.{drop-set-add, get_or-append_right, get_or_append_left, set-append_right}
use Rattle.rf_evaluate.specs.Evaluating.{with_element}
use Rattle.rf_evaluate.specs.Hunts.{AreClosed, GoesOn, with_tuple}
use Rattle.rf_evaluate.specs.declared.stage.Stage.{Stage}
use Rattle.rf_evaluate.proofs.Unassigned.{AgreeOutside}

module _ {A : Type 0} (xs ys : List A) (n : ℕ) (same : length xs ≡ n) where
  -- the first n of a list replaced
  first-replaced : (v : ℕ) (d : A) → v < n → get_or (xs ++ drop n ys) v d ≡ get_or xs v d
  first-replaced v d l = get_or_append_left xs (drop n ys) d v (omega (arith, same))

  later-kept : (v : ℕ) (d : A) → n ≤ v → get_or (xs ++ drop n ys) v d ≡ get_or ys v d
  later-kept v d l =
      let e : n + (v - n) ≡ v = omega arith in
      get_or-append_right xs (drop n ys) n v d same l ∙ (get_or-drop n ys (v - n) d ∙ ap (λ (j : ℕ). get_or ys j d) e)

  first-set : (v : ℕ) (x : A) → v < n → xs ++ drop n (set ys v x) ≡ xs ++ drop n ys
  first-set v x l = ap (λ (zs : List A). xs ++ zs) (drop-set-lt n ys v x l)

  later-set : (v : ℕ) (x : A) → n ≤ v → xs ++ drop n (set ys v x) ≡ set (xs ++ drop n ys) v x
  later-set v x l =
      let e : n + (v - n) ≡ v = omega arith in
      ap (λ (zs : List A). xs ++ zs) (ap (λ (j : ℕ). drop n (set ys j x)) (sym e) ∙ drop-set-add n ys (v - n) x)
      ∙ sym (set-append_right xs (drop n ys) n v x same l)

  replaced-length : n ≤ length ys → length (xs ++ drop n ys) ≡ length ys
  replaced-length l =
      let d : length (drop n ys) ≡ length ys - n = length-drop n ys in
      let e : length (xs ++ drop n ys) ≡ length xs + length (drop n ys) = length-append xs (drop n ys) in
      omega (arith, d, e, same)

  replaced-same : (d : A) → n ≤ length ys → ((v : ℕ) → v < n → get_or xs v d ≡ get_or ys v d) → xs ++ drop n ys ≡ ys
  replaced-same d l h = ext_get_or d (xs ++ drop n ys) ys (replaced-length l) (λ v m. elim (cases_lt v n) [
    | inl lt ↦ first-replaced v d lt ∙ h v lt
    | inr ge ↦ later-kept v d ge
  ])

length-marks : (t : List ℕ) → length (map (λ x. false) t) ≡ length t
length-marks [] = refl
length-marks (x ∷ t) = ap suc (length-marks t)

get_or-marks : (t : List ℕ) (v : ℕ) → get_or (map (λ x. false) t) v false ≡ false
get_or-marks [] v = refl
get_or-marks (x ∷ t) zero = refl
get_or-marks (x ∷ t) (suc v) = get_or-marks t v

abbrev staged : List Bool → List ℕ → List Bool → Stage
staged pending elements unassigned = record { elements = elements; unassigned = unassigned; pending = pending }

module _ (s : Stage) (t : List ℕ) where
  -- the element of a variable, and whether it is unassigned
  pub first-element : (v : ℕ) → v < length t → slice_index (with_tuple s t).elements v ≡ slice_index t v
  first-element v l = first-replaced t s.elements (length t) refl v 0 l

  pub later-element : (v : ℕ) → length t ≤ v → slice_index (with_tuple s t).elements v ≡ slice_index s.elements v
  later-element v l = later-kept t s.elements (length t) refl v 0 l

  pub first-assigned : (v : ℕ) → v < length t → slice_index_or (with_tuple s t).unassigned v false ≡ false
  first-assigned v l = first-replaced (map (λ x. false) t) s.unassigned (length t) (length-marks t) v false l ∙ get_or-marks t v

  pub later-assigned : (v : ℕ) → length t ≤ v → slice_index_or (with_tuple s t).unassigned v false ≡ slice_index_or s.unassigned v false
  later-assigned v l = later-kept (map (λ x. false) t) s.unassigned (length t) (length-marks t) v false l

  -- an element for one of them is replaced
  pub with_tuple-first : (v x : ℕ) → v < length t → with_tuple (with_element s v x) t ≡ with_tuple s t
  with_tuple-first v x l = ap₂ (staged s.pending) (first-set t s.elements (length t) refl v x l)
      (first-set (map (λ x. false) t) s.unassigned (length t) (length-marks t) v false l)

  -- that for another is kept
  pub with_tuple-later : (v x : ℕ) → length t ≤ v → with_tuple (with_element s v x) t ≡ with_element (with_tuple s t) v x
  with_tuple-later v x l = ap₂ (staged s.pending) (later-set t s.elements (length t) refl v x l)
      (later-set (map (λ x. false) t) s.unassigned (length t) (length-marks t) v false l)

  -- a tuple of the elements that are there changes nothing
  pub with_tuple-same : length t ≤ length s.elements → length t ≤ length s.unassigned → AreClosed (length t) s → GoesOn s t → with_tuple s t ≡ s
  with_tuple-same l m closed on = ap₂ (staged s.pending)
      (replaced-same t s.elements (length t) refl 0 l (λ v less. on v less (closed v less)))
      (replaced-same (map (λ x. false) t) s.unassigned (length t) (length-marks t) false m (λ v less. get_or-marks t v ∙ sym (closed v less)))

  pub length-elements : length t ≤ length s.elements → length (with_tuple s t).elements ≡ length s.elements
  length-elements l = replaced-length t s.elements (length t) refl l

  pub length-unassigned : length t ≤ length s.unassigned → length (with_tuple s t).unassigned ≡ length s.unassigned
  length-unassigned l = replaced-length (map (λ x. false) t) s.unassigned (length t) (length-marks t) l

  -- fewer are unassigned
  pub assigned-still : (u : ℕ) → slice_index_or s.unassigned u false ≡ false → slice_index_or (with_tuple s t).unassigned u false ≡ false
  assigned-still u e = elim (cases_lt u (length t)) [ inl l ↦ first-assigned u l | inr g ↦ later-assigned u g ∙ e ]

  -- the elements of the assigned variables stay
  pub assigned-same : GoesOn s t → AgreeOutside s.unassigned (slice_index (with_tuple s t).elements) (slice_index s.elements)
  assigned-same on u e = elim (cases_lt u (length t)) [ inl l ↦ first-element u l ∙ on u l e | inr g ↦ later-element u g ]

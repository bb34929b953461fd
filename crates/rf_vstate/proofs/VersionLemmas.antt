-- The states that are kept, where the store has other versions.
use Rattle.std.proofs.Common.{◌≡◌, ◌∙◌, ℕ, ◌+◌, ◌<◌, ◌≤◌, List, [], ◌∷◌, ◌++◌, Bool, true, false, if◌then◌else◌, length, map, take, get_or, refl, sym, ap, ap₂, subst, inl, inr, arith}
use Rattle.std.specs.Prelude.{IfSome, slice_get}
use Rattle.std.proofs.lemmas.Bool.{cases_lt}
use Rattle.std.proofs.lemmas.List.{ext_get_or, get_or-map, get_or-take, get_or_append_left, get_or_default, get_or_push, length-map, length-take, length_push, map_push, take-map, take_all}
use Rattle.std.proofs.lemmas.List.Elements.{All-push}
use Rattle.std.proofs.lemmas.Option.{slice_get-get_or}
use Rattle.rf_problem.specs.declared.problem.Problem.{Problem}
use Rattle.rf_store.specs.Contents.{Version}
use Rattle.rf_store.specs.Entries.{Entry}
use Rattle.rf_state.specs.State.{State}
use Rattle.rf_vstate.specs.Maps.{map_at, state_of, states_at}
use Rattle.rf_vstate.specs.Rows.{AreKept, IsSound}

abbrev no_version : Version
no_version = record { entries = []; rows = 0 }

-- the versions of the old list have the same maps in the new one
abbrev pub Covers : List Version → List Version → Type 0
Covers old new = (place : ℕ) → place < length old → (place < length new) × (map_at new place ≡ map_at old place)

pub covers-push : (saved : List Version) (x : Version) → Covers saved (saved ++ x ∷ [])
covers-push saved x place l = (
  (let more = length_push saved x in omega (arith, more, l)),
  ap (λ (v : Version). v.entries) (get_or_append_left saved (x ∷ []) no_version place l),
)

pub map_at-last : (saved : List Version) (x : Version) → map_at (saved ++ x ∷ []) (length saved) ≡ x.entries
map_at-last saved x = ap (λ (v : Version). v.entries) (get_or_push saved x no_version (length saved) refl)

-- maps of functions that are the same at each of a list's items
map-same : (f g : ℕ → State) (xs : List ℕ) → ((i : ℕ) → i < length xs → f (get_or xs i 0) ≡ g (get_or xs i 0)) → map f xs ≡ map g xs
map-same f g xs same = ext_get_or (state_of []) (map f xs) (map g xs) (length-map xs f ∙ sym (length-map xs g)) (λ i l.
    let there = subst (λ (n : ℕ). i < n) (length-map xs f) l in
    get_or-map f xs i 0 (state_of []) there ∙ same i there ∙ sym (get_or-map g xs i 0 (state_of []) there))

module _ (p : Problem) (old new : List Version) (places : List ℕ) (covers : Covers old new) (held : AreKept p old places) where
  pub AreKept-covers : AreKept p new places
  AreKept-covers = record {
    there = λ i d l. (covers (get_or places i d) (held.there i d l)).0;
    sound = λ i d l. subst (IsSound p) (sym (covers (get_or places i d) (held.there i d l)).1) (held.sound i d l);
    ordered = held.ordered;
  }

  pub states_at-covers : states_at new places ≡ states_at old places
  states_at-covers = map-same (λ place. state_of (map_at new place)) (λ place. state_of (map_at old place)) places
      (λ i l. ap state_of (covers (get_or places i 0) (held.there i 0 l)).1)

-- one state more
module _ (p : Problem) (saved : List Version) (places : List ℕ) (x : Version) (held : AreKept p saved places) (sound : IsSound p x.entries) where
  abbrev more : List Version
  more = saved ++ x ∷ []

  abbrev longer : List ℕ
  longer = places ++ length saved ∷ []

  before : AreKept p more places
  before = AreKept-covers p saved more places (covers-push saved x) held

  ordered : (i j : ℕ) → i ≤ j → j < length longer → get_or longer i 0 ≤ get_or longer j 0
  ordered i j le l = elim (cases_lt j (length places)) [
    | inl inside ↦ (
        let from = get_or_append_left places (length saved ∷ []) 0 i (omega (arith, le, inside)) in
        let to = get_or_append_left places (length saved ∷ []) 0 j inside in
        let was = held.ordered i j le inside in
        omega (arith, from, to, was))
    | inr last ↦ (
        let many = length_push places (length saved) in
        let to = get_or_push places (length saved) 0 j (omega (arith, many, l, last)) in
        elim (cases_lt i (length places)) [
          | inl inside ↦ (
              let from = get_or_append_left places (length saved ∷ []) 0 i inside in
              let below = held.there i 0 inside in
              omega (arith, from, to, below))
          | inr at ↦ (
              let from = get_or_push places (length saved) 0 i (omega (arith, many, l, at, le)) in
              omega (arith, from, to))
        ])
  ]

  pub AreKept-more : AreKept p more longer
  AreKept-more = record {
    there = All-push (λ place. place < length more) places (length saved) before.there (let many = length_push saved x in omega (arith, many));
    sound = All-push (λ place. IsSound p (map_at more place)) places (length saved) before.sound (subst (IsSound p) (sym (map_at-last saved x)) sound);
    ordered = ordered;
  }

  pub states_at-more : states_at more longer ≡ states_at saved places ++ state_of x.entries ∷ []
  states_at-more =
      map_push (λ place. state_of (map_at more place)) places (length saved)
      ∙ ap₂ (λ (states : List State) (state : State). states ++ state ∷ []) (states_at-covers p saved more places (covers-push saved x) held)
      (ap state_of (map_at-last saved x))

-- one state more, or none where memory ran out
pub AreKept-tried : (p : Problem) (saved : List Version) (places items : List ℕ) (x : Version) (there : Bool) → AreKept p saved places → IsSound p x.entries
    → items ≡ (if there then places ++ length saved ∷ [] else places) → AreKept p (saved ++ x ∷ []) items
AreKept-tried p saved places items x true held sound is = subst (AreKept p (saved ++ x ∷ [])) (sym is) (AreKept-more p saved places x held sound)
AreKept-tried p saved places items x false held sound is =
    subst (AreKept p (saved ++ x ∷ [])) (sym is) (AreKept-covers p saved (saved ++ x ∷ []) places (covers-push saved x) held)

-- the place is that of a state that is kept
pub place-inside : (saved : List Version) (places : List ℕ) (v : ℕ) → v < length (states_at saved places) → v < length places
place-inside saved places v l = subst (λ (n : ℕ). v < n) (length-map places (λ place. state_of (map_at saved place))) l

-- the first states alone
module _ (p : Problem) (saved : List Version) (places : List ℕ) (v place : ℕ) (held : AreKept p saved places) (there : v < length places) (is : place ≡ get_or places v 0) where
  abbrev fewer : List Version
  fewer = take (place + 1) saved

  abbrev shorter : List ℕ
  shorter = take (v + 1) places

  inside : (i d : ℕ) → i < length shorter → (i < length places) × ((i ≤ v) × (get_or shorter i d ≡ get_or places i 0))
  inside i d l =
      let many = length-take (v + 1) places in
      let below : i < length places = omega (arith, many, l) in
      let first : i ≤ v = omega (arith, many, l) in
      (below, (first, get_or-take (v + 1) places i d (omega (arith, first)) ∙ default places i d below))
    where
      default : (xs : List ℕ) (i d : ℕ) → i < length xs → get_or xs i d ≡ get_or xs i 0
      default xs i d l = get_or_default xs i d 0 l

  low : (i : ℕ) → i ≤ v → get_or places i 0 ≤ place
  low i le = let was = held.ordered i v le there in omega (arith, was, is)

  same : (i d : ℕ) → i < length shorter → map_at fewer (get_or shorter i d) ≡ map_at saved (get_or places i 0)
  same i d l =
      let w = inside i d l in
      let below = low i w.1.0 in
      ap (map_at fewer) w.1.1 ∙ ap (λ (x : Version). x.entries) (get_or-take (place + 1) saved (get_or places i 0) no_version (omega (arith, below)))

  pub AreKept-fewer : AreKept p fewer shorter
  AreKept-fewer = record {
    there = λ i d l.
        let w = inside i d l in
        let below = low i w.1.0 in
        let old = held.there i 0 w.0 in
        let e = w.1.1 in
        let many = length-take (place + 1) saved in
        omega (arith, below, old, e, many);
    sound = λ i d l. subst (IsSound p) (sym (same i d l)) (held.sound i 0 (inside i d l).0);
    ordered = λ i j le l.
        let to = inside j 0 l in
        let from = inside i 0 (omega (arith, le, l)) in
        let was = held.ordered i j le to.0 in
        let e = from.1.1 in
        let f = to.1.1 in
        omega (arith, was, e, f);
  }

  pub states_at-fewer : states_at fewer shorter ≡ take (v + 1) (states_at saved places)
  states_at-fewer =
      map-same (λ k. state_of (map_at fewer k)) (λ k. state_of (map_at saved k)) shorter
      (λ i l. ap state_of (same i 0 l ∙ ap (map_at saved) (sym (inside i 0 l).1.1)))
      ∙ sym (take-map (λ k. state_of (map_at saved k)) (v + 1) places)

  place-there : place < length saved
  place-there = let old = held.there v 0 there in omega (arith, old, is)

  -- the map of the version is that of the state
  pub map-back : (current : List Entry) → IfSome (slice_get saved place) (λ (x : Version). current ≡ x.entries) → current ≡ map_at saved place
  map-back current back = subst (λ w. IfSome w (λ (x : Version). current ≡ x.entries)) (slice_get-get_or saved place no_version place-there) back

  pub sound-back : (current : List Entry) → IfSome (slice_get saved place) (λ (x : Version). current ≡ x.entries) → IsSound p current
  sound-back current back =
      subst (IsSound p) (sym (map-back current back ∙ ap (map_at saved) is)) (held.sound v 0 there)

  pub state-back : (current : List Entry) → IfSome (slice_get saved place) (λ (x : Version). current ≡ x.entries)
      → IfSome (slice_get (states_at saved places) v) (λ (s : State). state_of current ≡ s)
  state-back current back =
      let many : length (states_at saved places) ≡ length places = length-map places (λ k. state_of (map_at saved k)) in
      let here = slice_get-get_or (states_at saved places) v (state_of []) (subst (λ n. v < n) (sym many) there) in
      subst (λ w. IfSome w (λ (s : State). state_of current ≡ s)) (sym here)
      (ap state_of (map-back current back ∙ ap (map_at saved) is) ∙ sym (get_or-map (λ k. state_of (map_at saved k)) places v 0 (state_of []) there))

-- ---- going back after a refusal

module _ (saved all : List Version) (x : Version) (place : ℕ) (is : all ≡ saved ++ x ∷ []) (at : place ≡ length saved) where
  pub refused-saved : take (place + 1) all ≡ saved ++ x ∷ []
  refused-saved =
      let many : length all ≡ length saved + 1 = ap length is ∙ length_push saved x in
      take_all (place + 1) all (omega (arith, many, at)) ∙ is

  pub refused-current : (current : List Entry) → IfSome (slice_get all place) (λ (y : Version). current ≡ y.entries) → current ≡ x.entries
  refused-current current back =
      let many : length all ≡ length saved + 1 = ap length is ∙ length_push saved x in
      subst (λ w. IfSome w (λ (y : Version). current ≡ y.entries)) (slice_get-get_or all place no_version (omega (arith, many, at))) back
      ∙ ap (λ (ys : List Version). map_at ys place) is ∙ ap (map_at (saved ++ x ∷ [])) at ∙ map_at-last saved x

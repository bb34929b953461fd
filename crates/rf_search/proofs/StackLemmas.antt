-- Decisions whose other side is untried: the latest is put on and taken off.
use Rattle.std.proofs.Common.{◌≡◌, ℕ, zero, suc, ◌+◌, ◌≤◌, ◌<◌, true, not, None, List, [], ◌∷◌, ◌++◌, length, take, refl, ap, subst, ◌∙◌, arith}
use Rattle.rf_problem.specs.declared.problem.Problem.{Problem}
use Rattle.rf_state.specs.State.{State}
use Rattle.rf_rules.specs.Decisions.{allowed, side}
use Rattle.rf_decide.specs.Counted.{IsCounted}
use Rattle.rf_search.specs.Course.{Place}
use Rattle.rf_search.specs.Least.{IsLeast}
use Rattle.rf_search.specs.Stack.{AreUntried, CanGoBack, IsRooted, kept_at, untried_place, untried_places}
use Rattle.rf_search.specs.declared.untried.Untried.{Untried}

pub untried_places-push : (p : Problem) (kept : List State) (us : List Untried) (u : Untried) (places : List Place)
    → untried_places p kept (us ++ u ∷ []) places ≡ untried_place p kept u ∷ untried_places p kept us places
untried_places-push p kept [] u places = refl
untried_places-push p kept (w ∷ us) u places = untried_places-push p kept us u (untried_place p kept w ∷ places)

pub AreUntried-push : (p : Problem) (kept : List State) (low : ℕ) (us : List Untried) (end : ℕ) (u : Untried) → AreUntried p kept low us end → u.version ≡ end
    → CanGoBack p kept u → AreUntried p kept low (us ++ u ∷ []) (end + 1)
AreUntried-push p kept low [] end u h e back = let l : low ≤ end = h in (omega arith, back, omega arith)
AreUntried-push p kept low (w ∷ us) end u h e back = (h.0, h.1, AreUntried-push p kept (w.version + 1) us end u h.2 e back)

-- what is known of the latest one, and of those before it
pub record IsLatest (p : Problem) (kept : List State) (low : ℕ) (us : List Untried) (u : Untried) (end : ℕ) : Type 0 where
  pub rest : AreUntried p kept low us u.version
  pub below : u.version < end
  pub back : CanGoBack p kept u

pub AreUntried-pop : (p : Problem) (kept : List State) (low : ℕ) (us : List Untried) (end : ℕ) (u : Untried) → AreUntried p kept low (us ++ u ∷ []) end
    → IsLatest p kept low us u end
AreUntried-pop p kept low [] end u h = record { rest = h.0; below = omega (arith, h.2); back = h.1 }
AreUntried-pop p kept low (w ∷ us) end u h =
    let r = AreUntried-pop p kept (w.version + 1) us end u h.2 in
    record { rest = (h.0, h.1, r.rest); below = r.below; back = r.back }

-- two lists of kept states are the same below a version
abbrev pub AreSameBelow : ℕ → List State → List State → Type 0
AreSameBelow end kept other = (v : ℕ) → v < end → (kept_at kept v ≡ kept_at other v) × (take (v + 1) kept ≡ take (v + 1) other)

low-below : (p : Problem) (kept : List State) (low : ℕ) (us : List Untried) (end : ℕ) → AreUntried p kept low us end → low ≤ end
low-below p kept low [] end h = h
low-below p kept low (u ∷ us) end h = let r = low-below p kept (u.version + 1) us end h.2 in let l = h.0 in omega arith

pub AreUntried-same : (p : Problem) (kept other : List State) (low : ℕ) (us : List Untried) (end last : ℕ) → AreSameBelow end kept other → end ≤ last
    → AreUntried p kept low us end → AreUntried p other low us last
AreUntried-same p kept other low [] end last same l h = let k : low ≤ end = h in omega arith
AreUntried-same p kept other low (u ∷ us) end last same l h =
    let r = low-below p kept (u.version + 1) us end h.2 in
    let e : kept_at kept u.version ≡ kept_at other u.version = (same u.version (omega arith)).0 in
    let least : IsLeast p (kept_at other u.version) None = subst (λ (s : State). IsLeast p s None) e h.1.least in
    let ok : allowed p (kept_at other u.version) u.decision ≡ true = subst (λ (s : State). allowed p s u.decision ≡ true) e h.1.ok in
    let counted : IsCounted p (kept_at other u.version) u.counted = subst (λ (s : State). IsCounted p s u.counted) e h.1.counted in
    (h.0, record { least = least; ok = ok; counted = counted }, AreUntried-same p kept other (u.version + 1) us end last same l h.2)

pub untried_places-same : (p : Problem) (kept other : List State) (low : ℕ) (us : List Untried) (end : ℕ) (places : List Place) → AreSameBelow end kept other
    → AreUntried p kept low us end → untried_places p kept us places ≡ untried_places p other us places
untried_places-same p kept other low [] end places same h = refl
untried_places-same p kept other low (u ∷ us) end places same h =
    let r = low-below p kept (u.version + 1) us end h.2 in
    let both = same u.version (omega arith) in
    let e : untried_place p kept u ≡ untried_place p other u =
    λ i. record { state = side p (both.0 i) u.decision (not u.first); way = both.1 i } in
    ap (λ (x : Place). untried_places p kept us (x ∷ places)) e
    ∙ untried_places-same p kept other (u.version + 1) us end (untried_place p other u ∷ places) same h.2

at-more : (kept : List State) (s : State) (v : ℕ) → v < length kept → kept_at kept v ≡ kept_at (kept ++ s ∷ []) v
at-more [] s v l = absurd (omega arith)
at-more (x ∷ xs) s zero l = refl
at-more (x ∷ xs) s (suc v) l = at-more xs s v (omega arith)

take-more : (kept : List State) (s : State) (v : ℕ) → v ≤ length kept → take v kept ≡ take v (kept ++ s ∷ [])
take-more [] s zero l = refl
take-more [] s (suc v) l = absurd (omega arith)
take-more (x ∷ xs) s zero l = refl
take-more (x ∷ xs) s (suc v) l = ap (λ (ys : List State). x ∷ ys) (take-more xs s v (omega arith))

pub same-more : (kept : List State) (s : State) → AreSameBelow (length kept) kept (kept ++ s ∷ [])
same-more kept s = λ v l. (at-more kept s v l, take-more kept s (v + 1) (omega arith))

pub at-last : (kept : List State) (s : State) → kept_at (kept ++ s ∷ []) (length kept) ≡ s
at-last [] s = refl
at-last (x ∷ xs) s = at-last xs s

pub take-last : (kept : List State) (s : State) → take (length kept + 1) (kept ++ s ∷ []) ≡ kept ++ s ∷ []
take-last [] s = refl
take-last (x ∷ xs) s =
    let e : suc (length xs) + 1 ≡ suc (length xs + 1) = omega arith in
    ap (λ (n : ℕ). take n (x ∷ (xs ++ s ∷ []))) e ∙ ap (λ (ys : List State). x ∷ ys) (take-last xs s)

at-take : (kept : List State) (n v : ℕ) → v < n → kept_at kept v ≡ kept_at (take n kept) v
at-take kept zero v l = absurd (omega arith)
at-take [] (suc n) v l = refl
at-take (x ∷ xs) (suc n) zero l = refl
at-take (x ∷ xs) (suc n) (suc v) l = at-take xs n v (omega arith)

take-take : (kept : List State) (n v : ℕ) → v ≤ n → take v kept ≡ take v (take n kept)
take-take kept n zero l = refl
take-take kept zero (suc v) l = absurd (omega arith)
take-take [] (suc n) (suc v) l = refl
take-take (x ∷ xs) (suc n) (suc v) l = ap (λ (ys : List State). x ∷ ys) (take-take xs n v (omega arith))

pub same-take : (kept : List State) (n : ℕ) → AreSameBelow n kept (take (n + 1) kept)
same-take kept n = λ v l. (at-take kept (n + 1) v (omega arith), take-take kept (n + 1) (v + 1) (omega arith))

pub length-take_below : (kept : List State) (n : ℕ) → n ≤ length kept → length (take n kept) ≡ n
length-take_below kept zero l = refl
length-take_below [] (suc n) l = absurd (omega arith)
length-take_below (x ∷ xs) (suc n) l = ap suc (length-take_below xs n (omega arith))

pub length-more : (kept : List State) (s : State) → length (kept ++ s ∷ []) ≡ length kept + 1
length-more [] s = refl
length-more (x ∷ xs) s = let r = length-more xs s in omega arith

pub IsRooted-take : (root : State) (kept : List State) (v : ℕ) → IsRooted root kept → IsRooted root (take (v + 1) kept)
IsRooted-take root kept v h = let e : v + 1 ≡ suc v = omega arith in (take v h.0, rw (e, h.1) refl)

pub IsRooted-more : (root : State) (kept : List State) (s : State) → IsRooted root kept → IsRooted root (kept ++ s ∷ [])
IsRooted-more root kept s h = (h.0 ++ s ∷ [], rw h.1 refl)

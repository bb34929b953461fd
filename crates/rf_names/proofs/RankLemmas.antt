-- Ranks that fall along edges, and walks.
use Rattle.std.proofs.Common.{◌≡◌, ◌∙◌, ℕ, zero, suc, ◌<◌, ◌≤◌, Bool, true, false, ◌==◌, ◌&&◌, List, [], ◌∷◌, length, get_or, sym, ap, subst, arith, inl, inr, true≢false}
use Rattle.std.specs.Prelude.{nat_lt}
use Rattle.std.specs.List.{list_all, list_any}
use Rattle.std.proofs.lemmas.Bool.{and_parts, cases_Bool, cases_lt, eqb-true, ltb-true, or_cases}
use Rattle.std.proofs.lemmas.List.{get_or_past}
use Rattle.rf_closure.specs.Along.{leads}
use Rattle.rf_finite.specs.Walks.{walk_below}
use Rattle.rf_names.specs.Ranks.{FallsAlong, HasRanks}

-- ranks that fall along each edge fall along each walk
pub ranks_fall :
    (edge : ℕ → ℕ → Bool) (through : ℕ → Bool) (rank : ℕ → ℕ) → ((a b : ℕ) → edge a b ≡ true → rank b < rank a) →
    (n a b : ℕ) → walk_below edge through n a b ≡ true → rank b < rank a
ranks_fall edge through rank falls zero a b walk = falls a b walk
ranks_fall edge through rank falls (suc n) a b walk =
    let passing : Bool = walk_below edge through n a n && walk_below edge through n n b in
    elim (or_cases (walk_below edge through n a b) (through n && passing) walk) [
      | inl straight ↦ ranks_fall edge through rank falls n a b straight
      | inr passes ↦ (let both = and_parts (through n) passing passes in
          let parts = and_parts (walk_below edge through n a n) (walk_below edge through n n b) both.1 in
          let to = ranks_fall edge through rank falls n a n parts.0 in
          let from = ranks_fall edge through rank falls n n b parts.1 in
          omega arith)
    ]

-- so no walk leads back to its start
pub no_walk_back :
    (edge : ℕ → ℕ → Bool) (through : ℕ → Bool) (rank : ℕ → ℕ) → ((a b : ℕ) → edge a b ≡ true → rank b < rank a) →
    (n a : ℕ) → walk_below edge through n a a ≡ false
no_walk_back edge through rank falls n a = elim (cases_Bool (walk_below edge through n a a)) [
  | inl back ↦ (let less = ranks_fall edge through rank falls n a a back in absurd (omega arith))
  | inr none ↦ none
]

pub no_walk_back-from_ranks : (successors : List (List ℕ)) (through : ℕ → Bool) → HasRanks successors → (n a : ℕ) → walk_below (leads successors) through n a a ≡ false
no_walk_back-from_ranks successors through ranks n a = no_walk_back (leads successors) through ranks.0 ranks.1 n a

-- what all numbers of a list pass, one that is listed passes
listed_passes : (test : ℕ → Bool) (numbers : List ℕ) (q : ℕ) → list_all test numbers ≡ true → list_any (λ c. c == q) numbers ≡ true → test q ≡ true
listed_passes test [] q all listed = absurd (true≢false (sym listed))
listed_passes test (n ∷ ns) q all listed =
    let parts = and_parts (test n) (list_all test ns) all in
    elim (or_cases (n == q) (list_any (λ c. c == q) ns) listed) [
      | inl here ↦ subst (λ k. test k ≡ true) (eqb-true n q here) parts.0
      | inr later ↦ listed_passes test ns q parts.1 later
    ]

-- the ranks of the vertices that a list names are less than this rank
pub ranks_below :
    (ranks : List ℕ) (lists : List (List ℕ)) (p rank : ℕ) (list : List ℕ) → get_or lists p [] ≡ list →
    list_all (λ q. nat_lt (get_or ranks q 0) rank) list ≡ true →
    (q : ℕ) → leads lists p q ≡ true → get_or ranks q 0 < rank
ranks_below ranks lists p rank list at all q edge =
    ltb-true (get_or ranks q 0) rank
    (listed_passes (λ k. nat_lt (get_or ranks k 0) rank) list q all (ap (list_any (λ c. c == q)) (sym at) ∙ edge))

-- ranks that fall from each vertex that has a list fall along each edge
pub falls_along :
    (ranks : List ℕ) (lists : List (List ℕ)) (many : ℕ) → length lists ≤ many →
    ((p : ℕ) → p < many → (q : ℕ) → leads lists p q ≡ true → get_or ranks q 0 < get_or ranks p 0) →
    FallsAlong (λ p. get_or ranks p 0) lists
falls_along ranks lists many end falls p q edge = elim (cases_lt p many) [
  | inl within ↦ falls p within q edge
  | inr past ↦ (let none : get_or lists p [] ≡ [] = get_or_past lists p [] (omega arith) in
      absurd (true≢false (sym edge ∙ ap (list_any (λ c. c == q)) none)))
]

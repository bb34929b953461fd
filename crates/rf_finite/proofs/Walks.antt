-- Walks as lists of vertices, and by recursion on the bound of their inner vertices.
use Rattle.std.proofs.Common.{◌≡◌, ℕ, zero, suc, ◌≤◌, ◌<◌, Bool, true, false, ◌&&◌, List, [], ◌∷◌, ◌++◌, ◌⊎◌, refl, sym, subst, eqb, length, inl, inr, arith, map}
use Rattle.std.proofs.lemmas.Bool.{and_parts, and_from, or_cases, or_left, or_right, eqb-true, eq-eqb}
use Rattle.std.specs.Prelude.{reverse, Contains}
use mathlib.Core.List.{reverse_aux}
use Rattle.rf_finite.specs.Range.{count_below}
use Rattle.rf_finite.specs.Lists.{HasNoRepeats}
use Rattle.rf_finite.specs.Walks.{IsWalk, IsReachable, walk_below}
use Rattle.rf_finite.proofs.Range.{below_or_last, count_below-le_bound, count_below-positive, count_below-apart}
use Rattle.rf_finite.proofs.Repeats.{cases_Contains, Contains-cons_cases, HasNoRepeats-rest, length-no_repeats}

module _ (edge : ℕ → ℕ → Bool) (through : ℕ → Bool) where
  -- two walks that meet at a vertex that may be passed through are one
  pub IsWalk-append : (n a : ℕ) (cs : List ℕ) (k : ℕ) (ds : List ℕ) (b : ℕ) → IsWalk edge through n a cs k → k < n → through k ≡ true
      → IsWalk edge through n k ds b → IsWalk edge through n a (cs ++ k ∷ ds) b
  IsWalk-append n a [] k ds b w l t v = (w, l, t, v)
  IsWalk-append n a (c ∷ cs) k ds b w l t v = (w.0, w.1, w.2, IsWalk-append n c cs k ds b w.3 l t v)

  -- the part of a walk up to an inner vertex
  pub IsWalk-before : (n a : ℕ) (cs : List ℕ) (k : ℕ) (ds : List ℕ) (b : ℕ) → IsWalk edge through n a (cs ++ k ∷ ds) b → IsWalk edge through n a cs k
  IsWalk-before n a [] k ds b w = w.0
  IsWalk-before n a (c ∷ cs) k ds b w = (w.0, w.1, w.2, IsWalk-before n c cs k ds b w.3)

  -- an inner vertex is below n, may be passed through, and is the start of the rest of the walk
  pub IsWalk-after : (n a : ℕ) (cs : List ℕ) (k : ℕ) (ds : List ℕ) (b : ℕ) → IsWalk edge through n a (cs ++ k ∷ ds) b
      → (k < n) × (through k ≡ true) × IsWalk edge through n k ds b
  IsWalk-after n a [] k ds b w = (w.1, w.2, w.3)
  IsWalk-after n a (c ∷ cs) k ds b w = IsWalk-after n c cs k ds b w.3

  -- a walk that was turned round up to a, and the rest of it
  IsWalk-reverse_onto : (n a : ℕ) (cs : List ℕ) (b : ℕ) (ds : List ℕ) (z : ℕ) → IsWalk edge through n a cs b → a < n → through a ≡ true
      → IsWalk (λ x y. edge y x) through n a ds z → IsWalk (λ x y. edge y x) through n b (reverse_aux cs (a ∷ ds)) z
  IsWalk-reverse_onto n a [] b ds z w l t v = (w, l, t, v)
  IsWalk-reverse_onto n a (c ∷ cs) b ds z w l t v = IsWalk-reverse_onto n c cs b (a ∷ ds) z w.3 w.1 w.2 (w.0, l, t, v)

  -- the same walk backwards goes over the edges backwards
  pub IsWalk-reverse : (n a : ℕ) (cs : List ℕ) (b : ℕ) → IsWalk edge through n a cs b → IsWalk (λ x y. edge y x) through n b (reverse cs) a
  IsWalk-reverse n a [] b w = w
  IsWalk-reverse n a (c ∷ cs) b w = IsWalk-reverse_onto n c cs b [] a w.3 w.1 w.2 w.0

  -- the last vertex before the end of a walk: where it begins, or one that a walk leads to
  pub IsWalk-last : (n a : ℕ) (cs : List ℕ) (b : ℕ) → IsWalk edge through n a cs b
      → (y : ℕ) × (edge y b ≡ true) × ((y ≡ a) ⊎ ((y < n) × (through y ≡ true) × IsReachable edge through n a y))
  IsWalk-last n a [] b w = (a, w, inl refl)
  IsWalk-last n a (c ∷ cs) b w =
      let r = IsWalk-last n c cs b w.3 in (
        r.0,
        r.1,
        elim r.2 [
          | inl e ↦ inr (subst (λ y. y < n) (sym e) w.1, subst (λ y. through y ≡ true) (sym e) w.2, ([], subst (λ y. edge a y ≡ true) (sym e) w.0))
          | inr t ↦ inr (t.0, t.1, (c ∷ t.2.0, (w.0, w.1, w.2, t.2.1)))
        ],
      )

  pub IsWalk-from_IsWalk_below : (m n a : ℕ) (cs : List ℕ) (b : ℕ) → m ≤ n → IsWalk edge through m a cs b → IsWalk edge through n a cs b
  IsWalk-from_IsWalk_below m n a [] b l w = w
  IsWalk-from_IsWalk_below m n a (c ∷ cs) b l w = let below = w.1 in (w.0, omega arith, w.2, IsWalk-from_IsWalk_below m n c cs b l w.3)

  -- a walk whose inner vertices differ, by leaving out what lies between two visits of a vertex
  pub IsWalk-without_repeats : (n a : ℕ) (cs : List ℕ) (b : ℕ) → IsWalk edge through n a cs b → (ds : List ℕ) × IsWalk edge through n a ds b × HasNoRepeats ds
  IsWalk-without_repeats n a [] b w = ([], w, tt)
  IsWalk-without_repeats n a (c ∷ cs) b w =
      let r = IsWalk-without_repeats n c cs b w.3 in
      elim (cases_Contains r.0 c) [
        | inl no_more ↦ (c ∷ r.0, (w.0, w.1, w.2, r.1), (no_more, r.2))
        | inr s ↦ (let v = subst (λ ds. IsWalk edge through n c ds b) s.2 r.1 in
            let u = subst (λ ds. HasNoRepeats ds) s.2 r.2 in
            (c ∷ s.1, (w.0, w.1, w.2, (IsWalk-after n c s.0 c s.1 b v).2), HasNoRepeats-rest s.0 (c ∷ s.1) u))
      ]

  -- each inner vertex is below n and may be passed through
  pub IsWalk-inner : (n a : ℕ) (cs : List ℕ) (b : ℕ) → IsWalk edge through n a cs b → (c : ℕ) → Contains cs c → (c < n) × (through c ≡ true)
  IsWalk-inner n a [] b w c k = absurd (omega (arith, k.1))
  IsWalk-inner n a (d ∷ cs) b w c k = elim (Contains-cons_cases d cs c k) [
    | inl e ↦ (subst (λ c. c < n) e w.1, subst (λ c. through c ≡ true) e w.2)
    | inr t ↦ IsWalk-inner n d cs b w.3 c t
  ]

  -- a walk whose inner vertices differ has at most n of them
  pub IsWalk-length : (n a : ℕ) (cs : List ℕ) (b : ℕ) → IsWalk edge through n a cs b → HasNoRepeats cs → length cs ≤ n
  IsWalk-length n a cs b w d =
      let some = length-no_repeats n cs through d (IsWalk-inner n a cs b w) in
      let all = count_below-le_bound n through in omega arith

  -- what the test for n + 1 says, by cases
  abbrev IsSplit : ℕ → ℕ → ℕ → Type 0
  IsSplit n a b = (walk_below edge through n a b ≡ true) ⊎ ((through n ≡ true) × (walk_below edge through n a n ≡ true) × (walk_below edge through n n b ≡ true))

  walk_below-cases : (n a b : ℕ) → walk_below edge through (suc n) a b ≡ true → IsSplit n a b
  walk_below-cases n a b h = elim (or_cases (walk_below edge through n a b) (through n && (walk_below edge through n a n && walk_below edge through n n b)) h) [
    | inl e ↦ inl e
    | inr e ↦ (let p = and_parts (through n) (walk_below edge through n a n && walk_below edge through n n b) e in
        let q = and_parts (walk_below edge through n a n) (walk_below edge through n n b) p.1 in inr (p.0, q.0, q.1))
  ]

  walk_below-avoid : (n a b : ℕ) → walk_below edge through n a b ≡ true → walk_below edge through (suc n) a b ≡ true
  walk_below-avoid n a b h = or_left (walk_below edge through n a b) (through n && (walk_below edge through n a n && walk_below edge through n n b)) h

  walk_below-pass : (n a b : ℕ) → through n ≡ true → walk_below edge through n a n ≡ true → walk_below edge through n n b ≡ true → walk_below edge through (suc n) a b ≡ true
  walk_below-pass n a b t h k = or_right (walk_below edge through n a b) (through n && (walk_below edge through n a n && walk_below edge through n n b))
      (and_from (through n) (walk_below edge through n a n && walk_below edge through n n b) t (and_from (walk_below edge through n a n) (walk_below edge through n n b) h k))

  -- a walk need not pass the vertex where it ends, nor the one where it begins
  walk_below-to_last : (n a : ℕ) → walk_below edge through (suc n) a n ≡ true → walk_below edge through n a n ≡ true
  walk_below-to_last n a h = elim (walk_below-cases n a n h) [ inl e ↦ e | inr v ↦ v.1 ]

  walk_below-from_last : (n c : ℕ) → walk_below edge through (suc n) n c ≡ true → walk_below edge through n n c ≡ true
  walk_below-from_last n c h = elim (walk_below-cases n n c h) [ inl e ↦ e | inr v ↦ v.2 ]

  pub walk_below-trans : (n a b c : ℕ) → b < n → through b ≡ true → walk_below edge through n a b ≡ true → walk_below edge through n b c ≡ true → walk_below edge through n a c ≡ true
  walk_below-trans zero a b c l t h k = absurd (omega arith)
  walk_below-trans (suc n) a b c l t h k = elim (below_or_last n b l) [
    | inl lt ↦ elim (walk_below-cases n a b h) [
      | inl ab ↦ elim (walk_below-cases n b c k) [
        | inl bc ↦ walk_below-avoid n a c (walk_below-trans n a b c lt t ab bc)
        | inr v ↦ walk_below-pass n a c v.0 (walk_below-trans n a b n lt t ab v.1) v.2
      ]
      | inr u ↦ elim (walk_below-cases n b c k) [
        | inl bc ↦ walk_below-pass n a c u.0 u.1 (walk_below-trans n n b c lt t u.2 bc)
        | inr v ↦ walk_below-pass n a c v.0 u.1 v.2
      ]
    ]
    | inr e ↦ (let hn = subst (λ m. walk_below edge through (suc n) a m ≡ true) e h in
        let kn = subst (λ m. walk_below edge through (suc n) m c ≡ true) e k in
        let tn = subst (λ m. through m ≡ true) e t in
        walk_below-pass n a c tn (walk_below-to_last n a hn) (walk_below-from_last n c kn))
  ]

  pub walk_below-from_edge : (n a b : ℕ) → edge a b ≡ true → walk_below edge through n a b ≡ true
  walk_below-from_edge zero a b h = h
  walk_below-from_edge (suc n) a b h = walk_below-avoid n a b (walk_below-from_edge n a b h)

  pub walk_below-from_IsWalk : (n a : ℕ) (cs : List ℕ) (b : ℕ) → IsWalk edge through n a cs b → walk_below edge through n a b ≡ true
  walk_below-from_IsWalk n a [] b w = walk_below-from_edge n a b w
  walk_below-from_IsWalk n a (c ∷ cs) b w = walk_below-trans n a c b w.1 w.2 (walk_below-from_edge n a c w.0) (walk_below-from_IsWalk n c cs b w.3)

  pub IsReachable-from_walk_below : (n a b : ℕ) → walk_below edge through n a b ≡ true → IsReachable edge through n a b
  IsReachable-from_walk_below zero a b h = ([], h)
  IsReachable-from_walk_below (suc n) a b h = elim (walk_below-cases n a b h) [
    | inl e ↦ (let r = IsReachable-from_walk_below n a b e in (r.0, IsWalk-from_IsWalk_below n (suc n) a r.0 b (omega arith) r.1))
    | inr v ↦ (let r = IsReachable-from_walk_below n a n v.1 in
        let s = IsReachable-from_walk_below n n b v.2 in (
          r.0 ++ n ∷ s.0,
          IsWalk-append (suc n) a r.0 n s.0 b (IsWalk-from_IsWalk_below n (suc n) a r.0 n (omega arith) r.1) (omega arith) v.0
              (IsWalk-from_IsWalk_below n (suc n) n s.0 b (omega arith) s.1),
        ))
  ]

-- more edges, more vertices that may be passed through and a greater bound keep a walk
pub IsWalk-more : (edge edge' : ℕ → ℕ → Bool) (through through' : ℕ → Bool) (m n : ℕ) → m ≤ n
    → ((x y : ℕ) → x < n → y < n → edge x y ≡ true → edge' x y ≡ true) → ((x : ℕ) → x < n → through x ≡ true → through' x ≡ true)
    → (a : ℕ) (cs : List ℕ) (b : ℕ) → a < n → b < n → IsWalk edge through m a cs b → IsWalk edge' through' n a cs b
IsWalk-more edge edge' through through' m n l more_edges more_through a [] b la lb w = more_edges a b la lb w
IsWalk-more edge edge' through through' m n l more_edges more_through a (c ∷ cs) b la lb w =
    let below = w.1 in
    let lc : c < n = omega arith in
    (more_edges a c la lc w.0, lc, more_through c lc w.2, IsWalk-more edge edge' through through' m n l more_edges more_through c cs b lc lb w.3)

-- a walk carried along a map of vertices is a walk over the vertices that they go to
pub IsWalk-map : (edge edge' : ℕ → ℕ → Bool) (through through' : ℕ → Bool) (m n : ℕ) (to : ℕ → ℕ)
    → ((x y : ℕ) → edge x y ≡ true → edge' (to x) (to y) ≡ true) → ((x : ℕ) → x < m → through x ≡ true → (to x < n) × (through' (to x) ≡ true))
    → (a : ℕ) (cs : List ℕ) (b : ℕ) → IsWalk edge through m a cs b → IsWalk edge' through' n (to a) (map to cs) (to b)
IsWalk-map edge edge' through through' m n to edges inner a [] b w = edges a b w
IsWalk-map edge edge' through through' m n to edges inner a (c ∷ cs) b w =
    let here = inner c w.1 w.2 in
    (edges a c w.0, here.0, here.1, IsWalk-map edge edge' through through' m n to edges inner c cs b w.3)

-- a walk followed along a relation of vertices: it leads between any vertices that its ends are related to
pub IsReachable-along : (edge edge' : ℕ → ℕ → Bool) (through through' : ℕ → Bool) (m n : ℕ) (Rel : ℕ → ℕ → Type 0)
    → ((x y u v : ℕ) → Rel x u → Rel y v → edge x y ≡ true → edge' u v ≡ true)
    → ((x : ℕ) → x < m → through x ≡ true → (u : ℕ) × Rel x u × (u < n) × (through' u ≡ true))
    → (a : ℕ) (cs : List ℕ) (b u v : ℕ) → Rel a u → Rel b v → IsWalk edge through m a cs b → IsReachable edge' through' n u v
IsReachable-along edge edge' through through' m n Rel edges inner a [] b u v from to w = ([], edges a b u v from to w)
IsReachable-along edge edge' through through' m n Rel edges inner a (c ∷ cs) b u v from to w =
    let here = inner c w.1 w.2 in
    let rest = IsReachable-along edge edge' through through' m n Rel edges inner c cs b here.0 v here.1 to w.3 in
    (here.0 ∷ rest.0, (edges a c u here.0 from here.1 w.0, here.2, here.3, rest.1))

-- walks depend on the edges and the tests of the vertices below the bound alone
pub walk_below-same : (edge edge' : ℕ → ℕ → Bool) (through through' : ℕ → Bool) (n : ℕ)
    → ((x y : ℕ) → x < n → y < n → edge x y ≡ edge' x y) → ((x : ℕ) → x < n → through x ≡ through' x)
    → (k a b : ℕ) → k ≤ n → a < n → b < n → walk_below edge through k a b ≡ walk_below edge' through' k a b
walk_below-same edge edge' through through' n e t zero a b l la lb = e a b la lb
walk_below-same edge edge' through through' n e t (suc k) a b l la lb =
    let here = t k (omega arith) in
    let direct = walk_below-same edge edge' through through' n e t k a b (omega arith) la lb in
    let first = walk_below-same edge edge' through through' n e t k a k (omega arith) la (omega arith) in
    let second = walk_below-same edge edge' through through' n e t k k b (omega arith) (omega arith) lb in
    rw (here, direct, first, second) refl

module _ (edge : ℕ → ℕ → Bool) (through : ℕ → Bool) where
  pub IsReachable-from_edge : (n a b : ℕ) → edge a b ≡ true → IsReachable edge through n a b
  IsReachable-from_edge n a b e = ([], e)

  pub IsReachable-trans : (n a b c : ℕ) → b < n → through b ≡ true → IsReachable edge through n a b → IsReachable edge through n b c → IsReachable edge through n a c
  IsReachable-trans n a b c l t w v = (w.0 ++ b ∷ v.0, IsWalk-append edge through n a w.0 b v.0 c w.1 l t v.1)

  pub IsReachable-reverse : (n a b : ℕ) → IsReachable edge through n a b → IsReachable (λ x y. edge y x) through n b a
  IsReachable-reverse n a b w = (reverse w.0, IsWalk-reverse edge through n a w.0 b w.1)

same_tests : (t u : Bool) → (t ≡ true → u ≡ true) → (u ≡ true → t ≡ true) → t ≡ u
same_tests true u h k = sym (h refl)
same_tests false true h k = k refl
same_tests false false h k = refl

-- a walk leads from a to b where one leads from b to a over the edges turned round
pub walk_below-reverse : (edge : ℕ → ℕ → Bool) (through : ℕ → Bool) (n a b : ℕ) → walk_below (λ x y. edge y x) through n b a ≡ walk_below edge through n a b
walk_below-reverse edge through n a b = same_tests (walk_below (λ x y. edge y x) through n b a) (walk_below edge through n a b)
    (λ h. let w = IsReachable-from_walk_below (λ x y. edge y x) through n b a h in
    let v = IsReachable-reverse (λ x y. edge y x) through n b a w in walk_below-from_IsWalk edge through n a v.0 b v.1)
    (λ h. let w = IsReachable-from_walk_below edge through n a b h in
    let v = IsReachable-reverse edge through n a b w in walk_below-from_IsWalk (λ x y. edge y x) through n b v.0 a v.1)

-- more edges, more vertices that may be passed through and a greater bound keep what can be reached
pub walk_below-more : (edge edge' : ℕ → ℕ → Bool) (through through' : ℕ → Bool) (m n : ℕ) → m ≤ n
    → ((x y : ℕ) → x < n → y < n → edge x y ≡ true → edge' x y ≡ true) → ((x : ℕ) → x < n → through x ≡ true → through' x ≡ true)
    → (a b : ℕ) → a < n → b < n → walk_below edge through m a b ≡ true → walk_below edge' through' n a b ≡ true
walk_below-more edge edge' through through' m n l more_edges more_through a b la lb h =
    let w = IsReachable-from_walk_below edge through m a b h in
    walk_below-from_IsWalk edge' through' n a w.0 b (IsWalk-more edge edge' through through' m n l more_edges more_through a w.0 b la lb w.1)

module _ (edge : ℕ → ℕ → Bool) (n : ℕ) where
  abbrev anywhere : ℕ → Bool
  anywhere _ = true

  -- how many vertices can be reached falls along an edge to a vertex from which no walk leads back to it
  pub count_below-reachable_falls_at : (x y : ℕ) → x < n → y < n → edge x y ≡ true → (IsReachable edge anywhere n y y → ⊥)
      → count_below n (walk_below edge anywhere n y) < count_below n (walk_below edge anywhere n x)
  count_below-reachable_falls_at x y lx ly e no_way_back =
      let step = walk_below-from_edge edge anywhere n x y e in
      let both = count_below-apart n (walk_below edge anywhere n y) (λ z. eqb z y) (walk_below edge anywhere n x)
      (λ z l w. walk_below-trans edge anywhere n x y z ly refl step w)
      (λ z l q. subst (λ m. walk_below edge anywhere n x m ≡ true) (sym (eqb-true z y q)) step)
      (λ z w q. no_way_back (IsReachable-from_walk_below edge anywhere n y y (subst (λ m. walk_below edge anywhere n y m ≡ true) (eqb-true z y q) w))) in
      let one = count_below-positive n (λ z. eqb z y) y ly (eq-eqb y y refl) in
      omega arith

  -- so it falls along each edge where no walk leads back to its start
  pub count_below-reachable_falls : ((x : ℕ) → x < n → IsReachable edge anywhere n x x → ⊥) → (x y : ℕ) → x < n → y < n → edge x y ≡ true
      → count_below n (walk_below edge anywhere n y) < count_below n (walk_below edge anywhere n x)
  count_below-reachable_falls no_cycle x y lx ly e = count_below-reachable_falls_at x y lx ly e (no_cycle y ly)

  -- a rank that falls along each edge falls along each walk
  pub rank_falls-from_IsWalk : (rank : ℕ → ℕ) → ((x y : ℕ) → x < n → y < n → edge x y ≡ true → rank y < rank x)
      → (a : ℕ) (cs : List ℕ) (b : ℕ) → a < n → b < n → IsWalk edge anywhere n a cs b → rank b < rank a
  rank_falls-from_IsWalk rank falls a [] b la lb w = falls a b la lb w
  rank_falls-from_IsWalk rank falls a (c ∷ cs) b la lb w =
      let here = falls a c la w.1 w.0 in
      let rest = rank_falls-from_IsWalk rank falls c cs b w.1 lb w.3 in
      omega arith

  pub no_cycle-from_rank : (rank : ℕ → ℕ) → ((x y : ℕ) → x < n → y < n → edge x y ≡ true → rank y < rank x)
      → (x : ℕ) → x < n → IsReachable edge anywhere n x x → ⊥
  no_cycle-from_rank rank falls x l w = let less = rank_falls-from_IsWalk rank falls x w.0 x l l w.1 in omega arith

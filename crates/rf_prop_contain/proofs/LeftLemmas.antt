-- What a change leaves, whichever it is: rows of which it can't concern what has to be there, objects that it doesn't concern, and walks.
use Rattle.std.proofs.Common.{◌≡◌, ℕ, ◌≤◌, ◌<◌, Bool, true, false, ◌==◌, ◌&&◌, ◌||◌, not, nat_le, List, [], ◌∷◌, length, refl, sym, ap, ap₂, ◌∙◌, subst, inl, inr, arith, true≢false}
use Rattle.std.proofs.lemmas.Bool.{and_from, and_parts, both_ways, cases_Bool, cases_eq, eq-eqb, eqb-true, or_parts}
use Rattle.rf_finite.specs.Ends.{within}
use Rattle.rf_finite.specs.Walks.{IsWalk, walk_below}
use Rattle.rf_finite.proofs.Range.{each-from_some_below, some_below-from_one, some_below-more_pass}
use Rattle.rf_finite.proofs.Walks.{IsReachable-from_walk_below, walk_below-from_IsWalk}
use Rattle.rf_values.specs.Truth as truth
use Rattle.rf_values.specs.declared.truth.Truth.{Truth}
use Rattle.rf_problem.specs.Contained.{is_containing}
use Rattle.rf_problem.specs.declared.problem.Problem.{Problem}
use Rattle.rf_state.specs.State.{State, fact, merged_at, object_of}
use Rattle.rf_state.proofs.EditLemmas.{narrowing}
use Rattle.rf_state.proofs.FactLemmas.{fact-mirrored}
use Rattle.rf_rules.specs.Containment.{is_possible, must_hold}
use Rattle.rf_rules.specs.Words.{hi, lo, may, must}
use Rattle.rf_pending.specs.Changes.{FitsChange, IsChange, is_fresh}
use Rattle.rf_pending.specs.Touching.{IsSameRow, is_near}
use Rattle.rf_pending.specs.declared.change.Change.{Change}
use Rattle.rf_pending.specs.declared.change.Change.TheVariants.{Fact, Count as CountOf, Candidates, Fresh}
use Rattle.rf_pending.specs.declared.standing.Standing.TheVariants.{May, Must}
use Rattle.rf_pending.proofs.SameRows.{same_many, same_object, same_row}
use Rattle.rf_prop_contain.specs.Touching.{concerns, contains_back, contains_either, does_contain, does_hold, is_from, is_near_held, must_hold_some, renews_walks}
use Rattle.rf_prop_contain.proofs.ChangeLemmas.{kept-count, kept-may, kept-must, merged-cases, merged-may, narrowed-hi, narrowed-lo}

-- what has to be of row (r, a) is as it was
pub record IsHeldRow (p : Problem) (r a : ℕ) (s t : State) : Type 0 where
  pub edges : (b : ℕ) → must p t r a b ≡ must p s r a b
  pub from : lo t a ≡ lo s a
  pub to : (b : ℕ) → must p s r a b ≡ true → lo t b ≡ lo s b

-- the object is as it was, and so are its possible containers and what is known of them
pub record IsHeldObject (p : Problem) (b : ℕ) (s t : State) : Type 0 where
  pub object : object_of t b ≡ object_of s b
  pub facts : (q c : ℕ) → is_containing p q ≡ true → fact p t q c b ≡ fact p s q c b
  pub possible : (q c : ℕ) → q < length p.references → is_possible p t b q c ≡ is_possible p s b q c

module _ (p : Problem) (s : State) where
  there-before : (t : State) (change : Change) → IsChange change s t → is_fresh change ≡ false → (o : ℕ) → o < length t.objects
      → o < length s.objects
  there-before t change h old o l = subst (λ (n : ℕ). o < n) (same_many p s t change h old) l

  -- what can be there could be, and counts are no wider
  pub less_may : (t : State) (change : Change) → IsChange change s t → FitsChange p t change → is_fresh change ≡ false
      → (r a b : ℕ) → may p t r a b ≡ true → may p s r a b ≡ true
  less_may t (Fact q x y) h fits old r a b m = merged-may p s q x y h.0 r a b (subst (λ (u : State). may p u r a b ≡ true) h.1 m)
  less_may t (CountOf o) h fits old r a b m =
      ap truth.may (sym ((narrowing p s o h.0 (there-before t (CountOf o) h old o fits)).facts r a b))
      ∙ subst (λ (u : State). may p u r a b ≡ true) h.1 m
  less_may t (Candidates o) h fits old r a b m =
      kept-may p s o h.0 (there-before t (Candidates o) h old o fits) r a b (subst (λ (u : State). may p u r a b ≡ true) h.1 m)
  less_may t (Fresh o) h fits old r a b m = absurd (true≢false old)

  pub more_lo : (t : State) (change : Change) → IsChange change s t → FitsChange p t change → is_fresh change ≡ false → (c : ℕ)
      → lo s c ≤ lo t c
  more_lo t (Fact q x y) h fits old c = let same : lo t c ≡ lo s c = ap (λ (u : State). lo u c) h.1 in omega (arith, same)
  more_lo t (CountOf o) h fits old c =
      subst (λ (u : State). lo s c ≤ lo u c) (sym h.1) (narrowed-lo p s o h.0 (there-before t (CountOf o) h old o fits) c)
  more_lo t (Candidates o) h fits old c =
      let same : lo t c ≡ lo s c = ap (λ (u : State). lo u c) h.1
      ∙ ap (λ z. z.lo) (kept-count p s o h.0 (there-before t (Candidates o) h old o fits) c) in omega (arith, same)
  more_lo t (Fresh o) h fits old c = absurd (true≢false old)

  pub less_hi : (t : State) (change : Change) → IsChange change s t → FitsChange p t change → is_fresh change ≡ false
      → (n c : ℕ) → within n (hi t c) ≡ true → within n (hi s c) ≡ true
  less_hi t (Fact q x y) h fits old n c w = subst (λ (u : State). within n (hi u c) ≡ true) h.1 w
  less_hi t (CountOf o) h fits old n c w =
      narrowed-hi p s o h.0 (there-before t (CountOf o) h old o fits) n c (subst (λ (u : State). within n (hi u c) ≡ true) h.1 w)
  less_hi t (Candidates o) h fits old n c w =
      sym (ap (λ z. within n z.hi) (kept-count p s o h.0 (there-before t (Candidates o) h old o fits) c))
      ∙ subst (λ (u : State). within n (hi u c) ≡ true) h.1 w
  less_hi t (Fresh o) h fits old n c w = absurd (true≢false old)

  -- the count of an object that isn't the changed one
  pub own_count : (t : State) (change : Change) → IsChange change s t → FitsChange p t change → is_fresh change ≡ false
      → (a : ℕ) → is_from change a ≡ false → (object_of t a).count ≡ (object_of s a).count
  own_count t (Fact q x y) h fits old a far = ap (λ (u : State). (object_of u a).count) h.1
  own_count t (CountOf o) h fits old a far = ap (λ z. z.count) (same_object p s t (CountOf o) h fits a far)
  own_count t (Candidates o) h fits old a far =
      ap (λ (u : State). (object_of u a).count) h.1 ∙ kept-count p s o h.0 (there-before t (Candidates o) h old o fits) a
  own_count t (Fresh o) h fits old a far = absurd (true≢false old)

  -- a row of which it can't concern what has to be there
  held_from_same : (t : State) (r a : ℕ) → IsSameRow p Must r a s t → IsHeldRow p r a s t
  held_from_same t r a h = record {
    edges = λ b. ap truth.must (h.facts b);
    from = ap (λ z. z.count.lo) h.from;
    to = λ b m. ap (λ z. z.count.lo) (h.ends b m);
  }

  merged_row : (q x y : ℕ) (v : Truth) → contains_either p q ≡ false → (r a : ℕ) → is_containing p r ≡ true
      → IsHeldRow p r a s (merged_at s q x y v)
  merged_row q x y v neither r a contains =
      let parts = or_parts (is_containing p q) (contains_back p q) neither in
      record {
        edges = λ b. elim (merged-cases p s q x y v r a b) [
          | inl same ↦ ap truth.must same
          | inr changed ↦ elim changed [
            | inl at ↦ absurd (both_ways (is_containing p q) parts.0 (sym (ap (is_containing p) at.0) ∙ contains))
            | inr back ↦ absurd (both_ways (contains_back p q) parts.1 (ap (does_contain p) back.0 ∙ contains))
          ]
        ];
        from = refl;
        to = λ b m. refl;
      }

  pub held_row : (t : State) (change : Change) → IsChange change s t → FitsChange p t change → is_fresh change ≡ false
      → (r a : ℕ) → is_containing p r ≡ true → is_near_held p t change r a ≡ false → IsHeldRow p r a s t
  held_row t (Fact q x y) h fits old r a contains far = elim (cases_Bool (contains_either p q)) [
    | inl e ↦ held_from_same t r a (same_row p s t Must (Fact q x y) h fits r a
        (sym (ap (λ i. i && is_near p t Must (Fact q x y) r a) e) ∙ far))
    | inr e ↦ subst (IsHeldRow p r a s) (sym h.1) (merged_row q x y h.0 e r a contains)
  ]
  held_row t (CountOf o) h fits old r a contains far = held_from_same t r a (same_row p s t Must (CountOf o) h fits r a far)
  held_row t (Candidates o) h fits old r a contains far =
      let l = there-before t (Candidates o) h old o fits in
      subst (IsHeldRow p r a s) (sym h.1) (record {
        edges = λ b. kept-must p s o h.0 l r a b;
        from = ap (λ z. z.lo) (kept-count p s o h.0 l a);
        to = λ b m. ap (λ z. z.lo) (kept-count p s o h.0 l b);
      })
  held_row t (Fresh o) h fits old r a contains far = absurd (true≢false old)

  -- an object that it doesn't concern
  merged_into : (q x y : ℕ) (v : Truth) (b : ℕ) → concerns p (merged_at s q x y v) (Fact q x y) b ≡ false → (k c : ℕ)
      → is_containing p k ≡ true
      → fact p (merged_at s q x y v) k c b ≡ fact p s k c b
  merged_into q x y v b far k c contains =
      let parts = or_parts (is_containing p q && y == b) (contains_back p q && x == b) far in
      elim (merged-cases p s q x y v k c b) [
        | inl same ↦ same
        | inr changed ↦ elim changed [
          | inl at ↦ absurd (both_ways (is_containing p q && y == b) parts.0
              (and_from (is_containing p q) (y == b) (sym (ap (is_containing p) at.0) ∙ contains) (eq-eqb y b (sym at.2))))
          | inr back ↦ absurd (both_ways (contains_back p q && x == b) parts.1
              (and_from (contains_back p q) (x == b) (ap (does_contain p) back.0 ∙ contains) (eq-eqb x b (sym back.2))))
        ]
      ]

  merged_possible : (q x y : ℕ) (v : Truth) (b : ℕ) → concerns p (merged_at s q x y v) (Fact q x y) b ≡ false → (k c : ℕ)
      → is_possible p (merged_at s q x y v) b k c ≡ is_possible p s b k c
  merged_possible q x y v b far k c = elim (cases_Bool (is_containing p k)) [
    | inl e ↦ ap (λ f. is_containing p k && (truth.may f && within 1 (hi s c))) (merged_into q x y v b far k c e)
    | inr e ↦ rw e refl
  ]

  narrowed_possible : (t : State) (o b : ℕ) → ((q c : ℕ) → fact p t q c b ≡ fact p s q c b)
      → ((c : ℕ) → (o == c) ≡ false → hi t c ≡ hi s c)
      → (within 1 (hi t o) ≡ true → within 1 (hi s o) ≡ true) → (not (within 1 (hi t o)) && does_hold p t May o b) ≡ false
      → (k c : ℕ) → k < length p.references → is_possible p t b k c ≡ is_possible p s b k c
  narrowed_possible t o b facts others less far k c l =
      let may_same : may p t k c b ≡ may p s k c b = ap truth.may (facts k c) in
      elim (cases_eq c o) [
        | inr ne ↦ ap₂ (λ m i. is_containing p k && (m && i)) may_same (ap (within 1) (others c (false_eq o c (λ e. ne (sym e)))))
        | inl e ↦ elim (cases_Bool (within 1 (hi t o))) [
          | inl is ↦ (
              let now : within 1 (hi t c) ≡ true = subst (λ (i : ℕ). within 1 (hi t i) ≡ true) (sym e) is in
              let was : within 1 (hi s c) ≡ true = subst (λ (i : ℕ). within 1 (hi s i) ≡ true) (sym e) (less is) in
              ap₂ (λ m i. is_containing p k && (m && i)) may_same (now ∙ sym was))
          | inr isnt ↦ (
              let none : does_hold p t May o b ≡ false = sym (ap (λ i. not i && does_hold p t May o b) isnt) ∙ far in
              let led : (is_containing p k && may p t k c b) ≡ false =
              subst (λ (i : ℕ). (is_containing p k && may p t k i b) ≡ false) (sym e)
              (each-from_some_below (length p.references) (λ q. is_containing p q && may p t q o b) none k l) in
              never (is_containing p k) (may p t k c b) (within 1 (hi t c)) led
              ∙ sym (never (is_containing p k) (may p s k c b) (within 1 (hi s c))
              (sym (ap (λ m. is_containing p k && m) may_same) ∙ led)))
        ]
      ]
    where
      false_eq : (x y : ℕ) → (x ≡ y → ⊥) → (x == y) ≡ false
      false_eq x y ne = elim (cases_Bool (x == y)) [ inl e ↦ absurd (ne (eqb-true x y e)) | inr e ↦ e ]

      never : (x y z : Bool) → (x && y) ≡ false → (x && (y && z)) ≡ false
      never false y z e = refl
      never true false z e = refl
      never true true z e = absurd (true≢false e)

  pub held_object : (t : State) (change : Change) → IsChange change s t → FitsChange p t change → is_fresh change ≡ false
      → (b : ℕ) → concerns p t change b ≡ false → IsHeldObject p b s t
  held_object t (Fact q x y) h fits old b far =
      let off = subst (λ (u : State). concerns p u (Fact q x y) b ≡ false) h.1 far in
      subst (IsHeldObject p b s) (sym h.1) (record {
        object = refl;
        facts = λ k c contains. merged_into q x y h.0 b off k c contains;
        possible = λ k c l. merged_possible q x y h.0 b off k c;
      })
  held_object t (CountOf o) h fits old b far =
      let parts = or_parts (o == b) (not (within 1 (hi t o)) && does_hold p t May o b) far in
      let facts : (q c d : ℕ) → fact p t q c d ≡ fact p s q c d =
      λ q c d. ap (λ (u : State). fact p u q c d) h.1 ∙ (narrowing p s o h.0 (there-before t (CountOf o) h old o fits)).facts q c d in
      record {
        object = same_object p s t (CountOf o) h fits b parts.0;
        facts = λ k c contains. facts k c b;
        possible = narrowed_possible t o b (λ q c. facts q c b)
            (λ c apart. ap (λ z. z.count.hi) (same_object p s t (CountOf o) h fits c apart))
            (less_hi t (CountOf o) h fits old 1 o) parts.1;
      }
  held_object t (Candidates o) h fits old b far = absurd (true≢false far)
  held_object t (Fresh o) h fits old b far = absurd (true≢false old)

  -- walks that were there
  merged_holds : (q x y : ℕ) (v : Truth) → renews_walks p (merged_at s q x y v) (Fact q x y) ≡ false → (k a b : ℕ)
      → is_containing p k ≡ true
      → must p (merged_at s q x y v) k a b ≡ true → must p s k a b ≡ true
  merged_holds q x y v far k a b contains m =
      let t = merged_at s q x y v in
      elim (merged-cases p s q x y v k a b) [
        | inl same ↦ sym (ap truth.must same) ∙ m
        | inr changed ↦ elim changed [
          | inl at ↦ absurd (
              let now : must p t q x y ≡ true =
              subst (λ (i : ℕ). must p t i x y ≡ true) at.0 (subst (λ (i : ℕ). must p t k i y ≡ true) at.1
              (subst (λ (i : ℕ). must p t k a i ≡ true) at.2 m)) in
              let held : is_containing p q ≡ true = sym (ap (is_containing p) at.0) ∙ contains in
              true≢false (sym (rw (held, now) refl) ∙ far))
          | inr back ↦ absurd (
              let there : must p t k y x ≡ true =
              subst (λ (i : ℕ). must p t k i x ≡ true) back.1 (subst (λ (i : ℕ). must p t k a i ≡ true) back.2 m) in
              let now : must p t q x y ≡ true = ap truth.must (fact-mirrored p t q k x y back.0) ∙ there in
              let held : contains_back p q ≡ true = ap (does_contain p) back.0 ∙ contains in
              let parts = and_either (is_containing p q) (contains_back p q) (must p t q x y) held now in
              true≢false (sym parts ∙ far))
        ]
      ]
    where
      and_either : (i j m : Bool) → j ≡ true → m ≡ true → ((i || j) && m) ≡ true
      and_either true j m e f = f
      and_either false j m e f = and_from j m e f

  pub walk_edges : (t : State) (change : Change) → IsChange change s t → FitsChange p t change → is_fresh change ≡ false
      → renews_walks p t change ≡ false
      → (x y : ℕ) → must_hold p t x y ≡ true → must_hold p s x y ≡ true
  walk_edges t (Fact q a b) h fits old far x y m =
      let off = subst (λ (u : State). renews_walks p u (Fact q a b) ≡ false) h.1 far in
      some_below-more_pass (length p.references) _ _ (λ k l both.
      let parts = and_parts (is_containing p k) (must p t k x y) both in
      and_from (is_containing p k) (must p s k x y) parts.0
      (merged_holds q a b h.0 off k x y parts.0 (subst (λ (u : State). must p u k x y ≡ true) h.1 parts.1))) m
  walk_edges t (CountOf o) h fits old far x y m = some_below-more_pass (length p.references) _ _ (λ k l both.
      let parts = and_parts (is_containing p k) (must p t k x y) both in
      and_from (is_containing p k) (must p s k x y) parts.0
      (sym (ap truth.must ((narrowing p s o h.0 (there-before t (CountOf o) h old o fits)).facts k x y))
      ∙ subst (λ (u : State). must p u k x y ≡ true) h.1 parts.1)) m
  walk_edges t (Candidates o) h fits old far x y m = some_below-more_pass (length p.references) _ _ (λ k l both.
      let parts = and_parts (is_containing p k) (must p t k x y) both in
      and_from (is_containing p k) (must p s k x y) parts.0
      (sym (kept-must p s o h.0 (there-before t (Candidates o) h old o fits) k x y)
      ∙ subst (λ (u : State). must p u k x y ≡ true) h.1 parts.1)) m
  walk_edges t (Fresh o) h fits old far x y m = absurd (true≢false old)

  pub walk_through : (t : State) (change : Change) → IsChange change s t → FitsChange p t change → is_fresh change ≡ false
      → renews_walks p t change ≡ false
      → (x y : ℕ) → y < length t.objects → nat_le 1 (lo t x) ≡ true → must_hold p t x y ≡ true → nat_le 1 (lo s x) ≡ true
  walk_through t (Fact q a b) h fits old far x y l n m = sym (ap (λ (u : State). nat_le 1 (lo u x)) h.1) ∙ n
  walk_through t (CountOf o) h fits old far x y l n m = elim (cases_Bool (o == x)) [
    | inl e ↦ absurd (
        let at : o ≡ x = eqb-true o x e in
        let node : nat_le 1 (lo t o) ≡ true = subst (λ (i : ℕ). nat_le 1 (lo t i) ≡ true) (sym at) n in
        let holds : must_hold p t o y ≡ true = subst (λ (i : ℕ). must_hold p t i y ≡ true) (sym at) m in
        both_ways (nat_le 1 (lo t o) && must_hold_some p t o) far
        (and_from (nat_le 1 (lo t o)) (must_hold_some p t o) node (some_below-from_one (length t.objects) (must_hold p t o) y l holds)))
    | inr e ↦ sym (ap (λ z. nat_le 1 z.count.lo) (same_object p s t (CountOf o) h fits x e)) ∙ n
  ]
  walk_through t (Candidates o) h fits old far x y l n m =
      sym (ap (λ (u : State). nat_le 1 (lo u x)) h.1
      ∙ ap (λ z. nat_le 1 z.lo) (kept-count p s o h.0 (there-before t (Candidates o) h old o fits) x)) ∙ n
  walk_through t (Fresh o) h fits old far x y l n m = absurd (true≢false old)

-- a walk over edges that are there too, where what it goes on from may be passed through
module _ (edge edge' : ℕ → ℕ → Bool) (through through' : ℕ → Bool) (n : ℕ) (edges : (x y : ℕ) → edge x y ≡ true → edge' x y ≡ true)
    (goes_on : (x y : ℕ) → y < n → through x ≡ true → edge x y ≡ true → through' x ≡ true) where
  first_step : (c : ℕ) (cs : List ℕ) (b : ℕ) → b < n → IsWalk edge through n c cs b → (d : ℕ) × (d < n) × (edge c d ≡ true)
  first_step c [] b l w = (b, l, w)
  first_step c (d ∷ ds) b l w = (d, w.1, w.0)

  IsWalk-still : (a : ℕ) (cs : List ℕ) (b : ℕ) → b < n → IsWalk edge through n a cs b → IsWalk edge' through' n a cs b
  IsWalk-still a [] b l w = edges a b w
  IsWalk-still a (c ∷ cs) b l w =
      let step = first_step c cs b l w.3 in
      (edges a c w.0, w.1, goes_on c step.0 step.1 w.2 step.2, IsWalk-still c cs b l w.3)

  pub walk_below-still : (a b : ℕ) → b < n → walk_below edge through n a b ≡ true → walk_below edge' through' n a b ≡ true
  walk_below-still a b l h =
      let w = IsReachable-from_walk_below edge through n a b h in
      walk_below-from_IsWalk edge' through' n a w.0 b (IsWalk-still a w.0 b l w.1)

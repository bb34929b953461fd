-- A state in which all is settled that is settled in another, and maybe more.
use Rattle.std.proofs.Common.{◌≡◌, ℕ, ◌≤◌, ◌<◌, Bool, true, false, cond, not, ◌&&◌, ◌||◌, Option, Some, None, [], ◌∷◌, length, refl, sym, ap₂, ◌∙◌, subst, inl, inr, arith, true≢false}
use Rattle.std.proofs.lemmas.Bool.{and_parts, and_from, or_cases, or_left, or_right, cases_Bool, not-true, not_from_false, both_ways}
use Rattle.std.specs.FinSet.{contains}
use Rattle.rf_finite.specs.Range.{count_below}
use Rattle.rf_finite.proofs.Range.{count_below-le, some_below-more_pass, sum_below-le, sum_below-more}
use Rattle.rf_values.specs.declared.truth.Truth.{Truth}
use Rattle.rf_values.specs.declared.truth.Truth.TheVariants.{True, False, Unknown, Error}
use Rattle.rf_values.specs.Truth.{merge}
use Rattle.rf_problem.specs.Asserted.{asserted}
use Rattle.rf_problem.specs.Classes.{is_below, is_concrete}
use Rattle.rf_problem.specs.Parts.{reference_at}
use Rattle.rf_problem.specs.declared.problem.Problem.{Problem}
use Rattle.rf_problem.specs.declared.symbol.Symbol.TheVariants.{Reference}
use Rattle.rf_state.specs.State.{State, by_classes, fact, object_of, some_candidate, told, told_back}
use Rattle.rf_depth.specs.Measure.{ended, is_ended, is_known, is_lost, is_settled_to, is_tight, known, known_of, lost, made, settled}
use Rattle.rf_depth.proofs.SumLemmas.{count_below-less, count_below-more, sum_below-less}

pub record Grows (s t : State) : Type 0 where
  pub longer : length s.objects ≤ length t.objects
  pub origins : (o : ℕ) → o < length s.objects → (object_of t o).origin ≡ (object_of s o).origin
  pub tight : (o : ℕ) → o < length s.objects → is_tight s o ≡ true → is_tight t o ≡ true
  pub ends : (o : ℕ) → o < length s.objects → is_ended s o ≡ true → is_ended t o ≡ true
  pub classes : (o c : ℕ) → o < length s.objects → contains (object_of t o).candidates c ≡ true → contains (object_of s o).candidates c ≡ true
  pub added : (r a b : ℕ) → a < length s.objects → b < length s.objects → is_known (s.added r a b) ≡ true → is_known (t.added r a b) ≡ true

pub known-merge : (v w : Truth) → is_known (merge v w) ≡ (is_known v || is_known w)
known-merge Unknown True = refl
known-merge Unknown False = refl
known-merge Unknown Unknown = refl
known-merge Unknown Error = refl
known-merge True True = refl
known-merge True False = refl
known-merge True Unknown = refl
known-merge True Error = refl
known-merge False True = refl
known-merge False False = refl
known-merge False Unknown = refl
known-merge False Error = refl
known-merge Error True = refl
known-merge Error False = refl
known-merge Error Unknown = refl
known-merge Error Error = refl

merge-grows : (v w x y : Truth) → (is_known v ≡ true → is_known x ≡ true) → (is_known w ≡ true → is_known y ≡ true) → is_known (merge v w) ≡ true
    → is_known (merge x y) ≡ true
merge-grows v w x y f g h = known-merge x y ∙ elim (or_cases (is_known v) (is_known w) (sym (known-merge v w) ∙ h)) [
  | inl e ↦ or_left (is_known x) (is_known y) (f e)
  | inr e ↦ or_right (is_known x) (is_known y) (g e)
]

by_classes-grows : (c d : Bool) → (d ≡ true → c ≡ true) → is_known (cond c Unknown False) ≡ true → is_known (cond d Unknown False) ≡ true
by_classes-grows true d f h = absurd (true≢false (sym h))
by_classes-grows false true f h = absurd (true≢false (sym (f refl)))
by_classes-grows false false f h = refl

module _ (p : Problem) (s t : State) (g : Grows s t) where
  told-grows : (r a b : ℕ) → a < length s.objects → b < length s.objects → is_known (told p s r a b) ≡ true → is_known (told p t r a b) ≡ true
  told-grows r a b la lb h = merge-grows (asserted p (Reference r) ((object_of s a).origin ∷ (object_of s b).origin ∷ [])) (s.added r a b)
      (asserted p (Reference r) ((object_of t a).origin ∷ (object_of t b).origin ∷ [])) (t.added r a b)
      (λ k. subst (λ v. is_known v ≡ true) (ap₂ (λ a b. asserted p (Reference r) (a ∷ b ∷ [])) (sym (g.origins a la)) (sym (g.origins b lb))) k)
      (g.added r a b la lb) h

  back-grows : (u : Option ℕ) (a b : ℕ) → a < length s.objects → b < length s.objects → is_known (told_back p s u a b) ≡ true
      → is_known (told_back p t u a b) ≡ true
  back-grows None a b la lb h = h
  back-grows (Some q) a b la lb h = told-grows q b a lb la h

  class_before : (o k : ℕ) → o < length s.objects → some_candidate p t o k ≡ true → some_candidate p s o k ≡ true
  class_before o k l = some_below-more_pass (length p.classes) (λ c. contains (object_of t o).candidates c && is_below p.classes c k)
      (λ c. contains (object_of s o).candidates c && is_below p.classes c k) (λ c lc e.
      let both = and_parts (contains (object_of t o).candidates c) (is_below p.classes c k) e in
      and_from (contains (object_of s o).candidates c) (is_below p.classes c k) (g.classes o c l both.0) both.1)

  fact-grows : (r a b : ℕ) → a < length s.objects → b < length s.objects → is_known (fact p s r a b) ≡ true → is_known (fact p t r a b) ≡ true
  fact-grows r a b la lb h =
      let u = (reference_at p.references r).opposite in
      let k = (reference_at p.references r).source in
      let m = (reference_at p.references r).target in
      merge-grows (told p s r a b) (merge (told_back p s u a b) (by_classes p s r a b)) (told p t r a b) (merge (told_back p t u a b) (by_classes p t r a b))
      (told-grows r a b la lb)
      (merge-grows (told_back p s u a b) (by_classes p s r a b) (told_back p t u a b) (by_classes p t r a b)
      (back-grows u a b la lb)
      (by_classes-grows (some_candidate p s a k && some_candidate p s b m) (some_candidate p t a k && some_candidate p t b m)
      (λ e. let both = and_parts (some_candidate p t a k) (some_candidate p t b m) e in
      and_from (some_candidate p s a k) (some_candidate p s b m) (class_before a k la both.0) (class_before b m lb both.1)))) h

  lost-grows : (o c : ℕ) → o < length s.objects → is_lost p s o c ≡ true → is_lost p t o c ≡ true
  lost-grows o c l h =
      let both = and_parts (is_concrete p.classes c) (not (contains (object_of s o).candidates c)) h in
      and_from (is_concrete p.classes c) (not (contains (object_of t o).candidates c)) both.0 (elim (cases_Bool (contains (object_of t o).candidates c)) [
        | inl e ↦ absurd (both_ways (contains (object_of s o).candidates c) (not-true (contains (object_of s o).candidates c) both.1) (g.classes o c l e))
        | inr e ↦ not_from_false (contains (object_of t o).candidates c) e
      ])

  edge-grows : (r a b : ℕ) → a < length s.objects → b < length s.objects → is_settled_to p s r a b ≡ true → is_settled_to p t r a b ≡ true
  edge-grows r a b la lb h =
      let both = and_parts (is_tight s b) (is_known (fact p s r a b)) h in
      and_from (is_tight t b) (is_known (fact p t r a b)) (g.tight b lb both.0) (fact-grows r a b la lb both.1)

  made-le : made p s ≤ made p t
  made-le = let l = g.longer in omega arith

  lost-row : (o : ℕ) → o < length s.objects → is_tight s o ≡ true
      → (is_tight t o ≡ true) × (count_below (length p.classes) (is_lost p s o) ≤ count_below (length p.classes) (is_lost p t o))
  lost-row o l e = (g.tight o l e, count_below-le (length p.classes) (is_lost p s o) (is_lost p t o) (λ c lc. lost-grows o c l))

  lost-le : lost p s ≤ lost p t
  lost-le = sum_below-more (length s.objects) (length t.objects) (is_tight s) (is_tight t) (λ o. count_below (length p.classes) (is_lost p s o))
      (λ o. count_below (length p.classes) (is_lost p t o)) g.longer lost-row

  known-row : (r a : ℕ) → a < length s.objects → is_tight s a ≡ true
      → (is_tight t a ≡ true) × (count_below (length s.objects) (is_settled_to p s r a) ≤ count_below (length t.objects) (is_settled_to p t r a))
  known-row r a la e = (
    g.tight a la e,
    count_below-more (length s.objects) (length t.objects) (is_settled_to p s r a) (is_settled_to p t r a) g.longer (λ b lb. edge-grows r a b la lb),
  )

  known_of-le : (r : ℕ) → known_of p s r ≤ known_of p t r
  known_of-le r = sum_below-more (length s.objects) (length t.objects) (is_tight s) (is_tight t) (λ a. count_below (length s.objects) (is_settled_to p s r a))
      (λ a. count_below (length t.objects) (is_settled_to p t r a)) g.longer (known-row r)

  known-le : known p s ≤ known p t
  known-le = sum_below-le (length p.references) (λ r. true) (known_of p s) (known_of p t) (λ r l e. known_of-le r)

  module _ (inputs : length p.objects ≤ length s.objects) where
    ended-more : (o : ℕ) → o < length p.objects → is_ended s o ≡ true → is_ended t o ≡ true
    ended-more o l = g.ends o (omega arith)

    ended-le : ended p s ≤ ended p t
    ended-le = count_below-le (length p.objects) (is_ended s) (is_ended t) ended-more

    -- nothing that is settled is taken away
    pub settled-le : settled p s ≤ settled p t
    settled-le = let a = made-le in let b = ended-le in let c = lost-le in let d = known-le in omega arith

    -- and there is more where an object is made, an object of the problem ended, a class lost, or an edge settled
    pub more_made : length s.objects < length t.objects → settled p s < settled p t
    more_made l = let b = ended-le in let c = lost-le in let d = known-le in omega arith

    pub more_ended : (o : ℕ) → o < length p.objects → is_ended s o ≡ false → is_ended t o ≡ true → settled p s < settled p t
    more_ended o l h k =
        let b = count_below-less (length p.objects) (length p.objects) (is_ended s) (is_ended t) o (omega arith) ended-more l h k in
        let a = made-le in
        let c = lost-le in
        let d = known-le in
        omega arith

    pub more_lost : (o c : ℕ) → o < length s.objects → c < length p.classes → is_tight s o ≡ true → is_lost p s o c ≡ false → is_lost p t o c ≡ true
        → settled p s < settled p t
    more_lost o c l lc tight h k =
        let row = count_below-less (length p.classes) (length p.classes) (is_lost p s o) (is_lost p t o) c (omega arith) (λ c lc. lost-grows o c l) lc h k in
        let m : lost p s < lost p t = sum_below-less (length s.objects) (length t.objects) (is_tight s) (is_tight t)
        (λ o. count_below (length p.classes) (is_lost p s o)) (λ o. count_below (length p.classes) (is_lost p t o)) o g.longer lost-row l (g.tight o l tight)
        (rw tight row) in
        let a = made-le in
        let b = ended-le in
        let d = known-le in
        omega arith

    pub more_known : (r a b : ℕ) → r < length p.references → a < length s.objects → b < length s.objects → is_tight s a ≡ true
        → is_settled_to p s r a b ≡ false → is_settled_to p t r a b ≡ true → settled p s < settled p t
    more_known r a b lr la lb tight h k =
        let row = count_below-less (length s.objects) (length t.objects) (is_settled_to p s r a) (is_settled_to p t r a) b g.longer
        (λ b lb. edge-grows r a b la lb) lb h k in
        let rows : known_of p s r < known_of p t r = sum_below-less (length s.objects) (length t.objects) (is_tight s) (is_tight t)
        (λ a. count_below (length s.objects) (is_settled_to p s r a)) (λ a. count_below (length t.objects) (is_settled_to p t r a)) a g.longer
        (known-row r) la (g.tight a la tight) (rw tight row) in
        let m : known p s < known p t = sum_below-less (length p.references) (length p.references) (λ r. true) (λ r. true) (known_of p s) (known_of p t) r
        (omega arith) (λ r l e. (refl, known_of-le r)) lr refl rows in
        let x = made-le in
        let y = ended-le in
        let z = lost-le in
        omega arith

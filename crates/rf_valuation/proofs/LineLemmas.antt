-- Texts to which the lines of values are appended, one after another.
use Rattle.std.proofs.Common.{◌≡◌, ◌∙◌, ◌<◌, ◌+◌, ℕ, zero, suc, List, [], ◌∷◌, ◌++◌, All, Contains, length, get_or, map, take, refl, sym, ap, subst, add-one, arith}
use Rattle.std.proofs.lemmas.List.{append_assoc, append-nil, get_or-map, length-map, map_more}
use Rattle.rf_values.specs.declared.truth.Truth.{Truth}
use Rattle.rf_problem.specs.declared.problem.Problem.{Problem}
use Rattle.rf_state.specs.State.{State}
use Rattle.rf_state.specs.StateKnown.{value}
use Rattle.rf_state.specs.Values.{AreValues}
use Rattle.rf_valuation.specs.Valuation.{AreLinesBelow, IsValuation, line_of, lines_of}
use Rattle.rf_valuation.proofs.TupleLemmas.{AreNotFalse-unique}

-- what is appended twice is appended once
appended-twice :
    (old between new first second : List ℕ) → between ≡ old ++ first → new ≡ between ++ second → new ≡ old ++ (first ++ second)
appended-twice old between new first second was is =
    is ∙ ap (λ bytes. bytes ++ second) was ∙ append_assoc old first second

module _ (p : Problem) (s : State) (q : ℕ) where
  -- the lines at tuples and at one more
  lines_of-push :
      (tuples : List (List ℕ)) (t : List ℕ)
      → lines_of p s q (tuples ++ t ∷ []) ≡ lines_of p s q tuples ++ line_of p q t (value p s q t)
  lines_of-push [] t = append-nil (line_of p q t (value p s q t))
  lines_of-push (u ∷ tuples) t =
      let first = line_of p q u (value p s q u) in
      ap (λ lines. first ++ lines) (lines_of-push tuples t)
      ∙ sym (append_assoc first (lines_of p s q tuples) (line_of p q t (value p s q t)))

  -- the line of one value more of a list, after those before it
  pub lines-more :
      (values : List (List ℕ × Truth)) (n : ℕ) (e : List ℕ × Truth) (old between new : List ℕ) → AreValues p s q values → n < length values
      → e ≡ get_or values n e
      → between ≡ old ++ lines_of p s q (map (λ (x : List ℕ × Truth). x.0) (take n values)) → new ≡ between ++ line_of p q e.0 e.1
      → new ≡ old ++ lines_of p s q (map (λ (x : List ℕ × Truth). x.0) (take (n + 1) values))
  lines-more values n e old between new are there at was is =
      let first = λ (x : List ℕ × Truth). x.0 in
      let front = map first (take n values) in
      let value_there : e.1 ≡ value p s q e.0 = subst (λ (x : List ℕ × Truth). x.1 ≡ value p s q x.0) (sym at) (are.each n e there) in
      let next : map first (take (n + 1) values) ≡ front ++ e.0 ∷ [] =
      map_more first values n e there ∙ ap (λ (x : List ℕ × Truth). front ++ x.0 ∷ []) (sym at) in
      let more : lines_of p s q (map first (take (n + 1) values)) ≡ lines_of p s q front ++ line_of p q e.0 e.1 =
      ap (lines_of p s q) next ∙ (lines_of-push front e.0 ∙ ap (λ (v : Truth). lines_of p s q front ++ line_of p q e.0 v) (sym value_there)) in
      appended-twice old between new (lines_of p s q front) (line_of p q e.0 e.1) was is ∙ ap (λ bytes. old ++ bytes) (sym more)

  -- a value's tuple is of objects
  pub objects-of_value :
      (values : List (List ℕ × Truth)) (n : ℕ) (e : List ℕ × Truth) → AreValues p s q values → n < length values → e ≡ get_or values n e
      → All (λ o. o < length s.objects) e.0
  objects-of_value values n e are there at =
      let first = λ (x : List ℕ × Truth). x.0 in
      let has : Contains (map first values) e.0 =
      (n, (let m = length-map values first in omega (arith, m, there)), get_or-map first values n e e.0 there ∙ ap first (sym at)) in
      ((are.tuples.members e.0).0 has).tuple.below

-- the lines of the predicates below n were appended
abbrev pub HasLinesBelow : Problem → State → ℕ → List ℕ → List ℕ → Type 0
HasLinesBelow p s n old new = (text : List ℕ) × AreLinesBelow p s n text × (new ≡ old ++ text)

-- none of no predicates
pub below-none : (p : Problem) (s : State) (old : List ℕ) → HasLinesBelow p s 0 old old
below-none p s old = ([], refl, sym (append-nil old))

-- and those of one predicate more
pub below-more :
    (p : Problem) (s : State) (q : ℕ) (values : List (List ℕ × Truth)) (old between new : List ℕ) → HasLinesBelow p s q old between
    → AreValues p s q values → new ≡ between ++ lines_of p s q (map (λ (x : List ℕ × Truth). x.0) values) → HasLinesBelow p s (q + 1) old new
below-more p s q values old between new (before, below, was) are is =
    let tuples = map (λ (x : List ℕ × Truth). x.0) values in
    let lines = lines_of p s q tuples in
    let more : AreLinesBelow p s (suc q) (before ++ lines) = (before, tuples, below, are.tuples, refl) in
    (before ++ lines, rw add-one more, appended-twice old between new before lines was is)

-- there is one text of them
pub AreLinesBelow-unique :
    (p : Problem) (s : State) (n : ℕ) (text other : List ℕ) → AreLinesBelow p s n text → AreLinesBelow p s n other → text ≡ other
AreLinesBelow-unique p s zero text other are same = are ∙ sym same
AreLinesBelow-unique p s (suc q) text other (before, tuples, below, found, is) (front, others, beside, all, was) =
    let first : before ≡ front = AreLinesBelow-unique p s q before front below beside in
    let rest : tuples ≡ others = AreNotFalse-unique p s q tuples others found all in
    is
    ∙ ap (λ bytes. bytes ++ lines_of p s q tuples) first
    ∙ ap (λ (ts : List (List ℕ)). front ++ lines_of p s q ts) rest
    ∙ sym was

-- the lines of all predicates were appended to nothing
pub whole-from_empty :
    (p q : Problem) (s : State) (empty text : List ℕ) → q ≡ p → empty ≡ [] → HasLinesBelow q s (length q.predicates) empty text
    → IsValuation p s text
whole-from_empty p q s empty text same none (lines, are, is) =
    let all : text ≡ lines = is ∙ ap (λ bytes. bytes ++ lines) none in
    subst (λ (r : Problem). IsValuation r s text) same (subst (IsValuation q s) (sym all) are)

-- What covers a state before a fact is merged covers the state after it once it is touched.
use Rattle.std.proofs.Common.{◌≡◌, ℕ, zero, suc, Bool, true, false, not, ◌&&◌, ◌||◌, ◌==◌, nat_lt, if◌then◌else◌, Option, Some, List, [], ◌∷◌, length, take, refl, sym, ap, ap₂, ◌∙◌, subst, arith}
use Rattle.std.specs.Bool.{then_some}
use Rattle.std.specs.List.{list_any}
use Rattle.std.specs.Prelude.{slice_index_or}
use Rattle.std.proofs.lemmas.Bool.{both_ways, eq-eqb, false_from_ne_true, or_parts}
use Rattle.rf_finite.specs.Ends.{within}
use Rattle.rf_finite.specs.Range.{first_below}
use Rattle.rf_finite.specs.Tuples.{first_tuple}
use Rattle.rf_values.specs.Truth.{may, merge, must, truth_of}
use Rattle.rf_values.specs.declared.truth.Truth.{Truth}
use Rattle.rf_values.specs.declared.truth.Truth.TheVariants.{True, False, Unknown, Error}
use Rattle.rf_problem.specs.Asserted.{asserted}
use Rattle.rf_problem.specs.Parts.{predicate_at, reference_at}
use Rattle.rf_problem.specs.Reading.{Assignment, predicate_true}
use Rattle.rf_problem.specs.declared.predicate.Literal.{Literal}
use Rattle.rf_problem.specs.declared.predicate.Literal.TheVariants.{Call, Same, Differ}
use Rattle.rf_problem.specs.declared.predicate.Term.TheVariants.{Var}
use Rattle.rf_problem.specs.declared.problem.Problem.{Problem}
use Rattle.rf_problem.specs.declared.symbol.Symbol.TheVariants.{Class, Reference, Predicate as Defined, Exists, Equals}
use Rattle.rf_problem.proofs.Depth.{predicate_true-of_all}
use Rattle.rf_evaluate.specs.Known.{side}
use Rattle.rf_state.specs.State.{State, fact, is_at, merged_at}
use Rattle.rf_state.specs.StateKnown.{state_known, value}
use Rattle.rf_state.proofs.FactLemmas.{fact-off, numbers-from_is_at}
use Rattle.rf_rules.specs.Effects.{has_effect, is_same_truth}
use Rattle.rf_rules.specs.Predicates.{are_there, clause_at, forced_effect, free_count, given, is_open, is_same_term, literal_at, literal_known, may_be_forced, no_clause, object_of_term, origins_of, others_hold}
use Rattle.rf_rules.specs.Rules.{fires, fits}
use Rattle.rf_rules.specs.Words.{hi, is_error, is_false, is_unknown}
use Rattle.rf_rules.specs.declared.rule.Rule.TheVariants.{Broken, Forced}
use Rattle.rf_pending.specs.Touching.{AreTouched}
use Rattle.rf_pending.proofs.CoverLemmas.{covers-touched}
use Rattle.rf_prop_broken.specs.Dependence.{asks_for, clause_asks, depends, depends_on, is_found, is_of, is_opposite, pair_of}
use Rattle.rf_prop_broken.specs.Pending.{Covers, first_broken, first_forced}
use Rattle.rf_prop_broken.specs.declared.pending.Pending.{Pending}
use Rattle.rf_prop_broken.proofs.FarLemmas.{literal-far, predicate-far}

-- of a list of which no element passes, none by its number does, nor what stands for one that isn't there
none-at : {X : Type 0} (p : X → Bool) (xs : List X) (k : ℕ) (d : X) → p d ≡ false → list_any p xs ≡ false → p (slice_index_or xs k d) ≡ false
none-at p [] k d e none = e
none-at p (x ∷ xs) zero d e none = (or_parts (p x) (list_any p xs) none).0
none-at p (x ∷ xs) (suc k) d e none = none-at p xs k d e (or_parts (p x) (list_any p xs) none).1

-- merging nothing known changes nothing
no_change : (w : Truth) → not (is_same_truth (merge w Unknown) w) ≡ false
no_change True = refl
no_change False = refl
no_change Unknown = refl
no_change Error = refl

module _ (p : Problem) (s : State) (r x y : ℕ) (v : Truth) where
  abbrev after : State
  after = merged_at s r x y v

  not_pair : (q : ℕ) → is_of (pair_of p r) q ≡ false → (q ≡ r → ⊥) × ((reference_at p.references r).opposite ≡ Some q → ⊥)
  not_pair q far =
      let parts = or_parts (r == q) (is_opposite (reference_at p.references r).opposite q) far in (
        λ e. both_ways (r == q) parts.0 (eq-eqb r q (sym e)),
        λ e. both_ways (is_opposite (reference_at p.references r).opposite q) parts.1 (subst (λ (o : Option ℕ). is_opposite o q ≡ true) (sym e) (eq-eqb q q refl)),
      )

  fact-far : (q a b : ℕ) → is_of (pair_of p r) q ≡ false → fact p after q a b ≡ fact p s q a b
  fact-far q a b far = let apart = not_pair q far in fact-off p s r x y v q a b (λ e. apart.0 e.0) (λ e. apart.1 e.0)

  added-far : (q a b : ℕ) → is_of (pair_of p r) q ≡ false → after.added q a b ≡ s.added q a b
  added-far q a b far =
      let off : is_at r x y q a b ≡ false = false_from_ne_true (is_at r x y q a b) (λ t. (not_pair q far).0 (numbers-from_is_at r x y q a b t).0) in
      ap (λ i. if i then merge (s.added q a b) v else s.added q a b) off

  edge-far : (column : Truth → Bool) (q a b : ℕ) → is_of (pair_of p r) q ≡ false → column ((state_known p after).edge q a b) ≡ column ((state_known p s).edge q a b)
  edge-far column q a b far = ap (λ w. column (if nat_lt a (length s.objects) && nat_lt b (length s.objects) then w else False)) (fact-far q a b far)

  -- the values of a predicate that doesn't depend on the reference
  says-far : (here inside : Truth → Bool) (q : ℕ) (t : List ℕ) → depends_on p r q ≡ false
      → predicate_true p.predicates (length p.predicates) (side here (state_known p after)) (side inside (state_known p after)) q t
      ≡ predicate_true p.predicates (length p.predicates) (side here (state_known p s)) (side inside (state_known p s)) q t
  says-far here inside q t far =
      let n = length p.predicates in
      let deep = predicate_true-of_all p.classes p.references p.objects p.predicates p.predicates_fit (suc n) in
      sym (deep (side here (state_known p after)) (side inside (state_known p after)) q t (omega arith))
      ∙ (predicate-far p.predicates (pair_of p r) (suc n) (side here (state_known p s)) (side inside (state_known p s))
      (λ q a b. here ((state_known p after).edge q a b)) (λ q a b. inside ((state_known p after).edge q a b))
      (λ q a b e. edge-far here q a b e) (λ q a b e. edge-far inside q a b e) q t far
      ∙ deep (side here (state_known p s)) (side inside (state_known p s)) q t (omega arith))

  value-far : (q : ℕ) (t : List ℕ) → depends_on p r q ≡ false → value p after q t ≡ value p s q t
  value-far q t far = ap₂ truth_of (says-far must may q t far) (says-far may must q t far)

  abbrev asks : Literal → Bool
  asks = asks_for (pair_of p r) (depends p.predicates (pair_of p r) (length p.predicates))

  known-far : (variables : List (Option ℕ)) (i : ℕ) (places : Assignment) (l : Literal) → asks l ≡ false
      → literal_known p after variables i places l ≡ literal_known p s variables i places l
  known-far variables i places l far =
      let n = length p.predicates in
      let both = λ (here inside : Truth → Bool). literal-far (pair_of p r) (depends p.predicates (pair_of p r) n) (predicate_true p.predicates n)
      (predicate-far p.predicates (pair_of p r) n) (side here (state_known p s)) (side inside (state_known p s))
      (λ q a b. here ((state_known p after).edge q a b)) (λ q a b. inside ((state_known p after).edge q a b))
      (λ q a b e. edge-far here q a b e) (λ q a b e. edge-far inside q a b e) variables i places l far in
      ap₂ truth_of (both must may) (both may must)

  others-far : (variables : List (Option ℕ)) (j i : ℕ) (places : Assignment) (ls : List Literal) → list_any asks ls ≡ false
      → others_hold p after variables j i places ls ≡ others_hold p s variables j i places ls
  others-far variables j i places [] far = refl
  others-far variables j i places (l ∷ ls) far =
      let parts = or_parts (asks l) (list_any asks ls) far in
      ap₂ (λ w more. (i == j || must w) && more) (known-far variables i places l parts.0) (others-far variables j (suc i) places ls parts.1)

  -- what is forced at a literal that doesn't ask for the reference
  abbrev SameOpen : List (Option ℕ) → Assignment → Literal → Type 0
  SameOpen variables places l =
      (is_open p after variables places l ≡ is_open p s variables places l) × (has_effect after (forced_effect places l) ≡ has_effect s (forced_effect places l))

  nothing : not (is_same_truth (merge (after.added 0 0 0) Unknown) (after.added 0 0 0)) ≡ not (is_same_truth (merge (s.added 0 0 0) Unknown) (s.added 0 0 0))
  nothing = no_change (after.added 0 0 0) ∙ sym (no_change (s.added 0 0 0))

  open-far : (variables : List (Option ℕ)) (places : Assignment) (l : Literal) → asks l ≡ false → SameOpen variables places l
  open-far variables places (Call negated false (Reference q) (t ∷ u ∷ [])) far =
      let a = object_of_term places t in
      let b = object_of_term places u in
      let forced : Truth = if negated then True else False in (
        ap (λ w. (may_be_forced s variables negated t && may_be_forced s variables negated u)
            && ((not (is_same_term t u) || not (within 2 (hi s a))) && is_unknown w)) (fact-far q a b far),
        ap (λ w. not (is_same_truth (merge w forced) w)) (added-far q a b far),
      )
  open-far variables places (Call negated false (Reference q) []) far = (refl, nothing)
  open-far variables places (Call negated false (Reference q) (t ∷ [])) far = (refl, nothing)
  open-far variables places (Call negated false (Reference q) (t ∷ u ∷ w ∷ args)) far = (refl, nothing)
  open-far variables places (Call negated false (Class c) args) far = (refl, nothing)
  open-far variables places (Call negated false (Defined q) args) far = (refl, nothing)
  open-far variables places (Call negated false Exists args) far = (refl, nothing)
  open-far variables places (Call negated false Equals args) far = (refl, nothing)
  open-far variables places (Call negated true symbol args) far = (refl, nothing)
  open-far variables places (Same a b) far = (refl, nothing)
  open-far variables places (Differ a b) far = (refl, nothing)

  -- the rules of a predicate that doesn't depend on the reference
  broken-far : (q : ℕ) (t : List ℕ) → depends_on p r q ≡ false → fires p after (Broken q t) ≡ fires p s (Broken q t)
  broken-far q t far =
      ap (λ w. fits p s (Broken q t) && ((are_there s t && is_error (merge (asserted p (Defined q) (origins_of s t)) w)) && true)) (value-far q t far)

  forced-far : (q k j : ℕ) (t : List ℕ) → depends_on p r q ≡ false → fires p after (Forced q k j t) ≡ fires p s (Forced q k j t)
  forced-far q k j t far =
      let c = clause_at p q k in
      let places = given c.variables t in
      let none : list_any asks c.literals ≡ false =
      none-at (clause_asks (pair_of p r) (depends p.predicates (pair_of p r) (length p.predicates))) (predicate_at p.predicates q).clauses k no_clause refl far in
      let others = others-far c.variables j 0 places c.literals none in
      let literal = open-far c.variables places (literal_at c j) (none-at asks c.literals j (Same (Var 0) (Var 0)) refl none) in
      λ i. fits p s (Forced q k j t)
      && ((is_false (asserted p (Defined q) (origins_of s (take (predicate_at p.predicates q).arity t))) && (are_there s t && (others i && literal.0 i))) && literal.1 i)

  broken-row : (q : ℕ) → depends_on p r q ≡ false → first_broken p after q ≡ first_broken p s q
  broken-row q far = λ i. first_tuple (length s.objects) (predicate_at p.predicates q).arity [] (λ t. then_some (broken-far q t far i) (Broken q t))

  forced-row : (q : ℕ) → depends_on p r q ≡ false → first_forced p after q ≡ first_forced p s q
  forced-row q far = λ i. first_below (length (predicate_at p.predicates q).clauses) (λ k. first_below (length (clause_at p q k).literals) (λ j.
      first_tuple (length s.objects) (free_count (clause_at p q k).variables) [] (λ t. then_some (forced-far q k j t far i) (Forced q k j t))))

  -- so the others are to be looked at again
  covers-merged : (found : List Bool) → ((q : ℕ) → is_found found q ≡ depends_on p r q) → (was pending : Pending) → Covers p s was
      → AreTouched (is_found found) was.broken pending.broken → AreTouched (is_found found) was.forced pending.forced → Covers p after pending
  covers-merged found is was pending covers broken forced = record {
    broken = covers-touched (length p.predicates) (first_broken p s) (first_broken p after) (is_found found) was.broken pending.broken covers.broken broken
        (λ q l near. broken-row q (sym (is q) ∙ near));
    forced = covers-touched (length p.predicates) (first_forced p s) (first_forced p after) (is_found found) was.forced pending.forced covers.forced forced
        (λ q l near. forced-row q (sym (is q) ∙ near));
  }

pub covers-after : (p : Problem) (s t : State) (r x y : ℕ) (v : Truth) → t ≡ merged_at s r x y v → (found : List Bool) → ((q : ℕ) → is_found found q ≡ depends_on p r q)
    → (was pending : Pending) → Covers p s was → AreTouched (is_found found) was.broken pending.broken → AreTouched (is_found found) was.forced pending.forced
    → Covers p t pending
covers-after p s t r x y v e found is was pending covers broken forced =
    subst (λ (u : State). Covers p u pending) (sym e) (covers-merged p s r x y v found is was pending covers broken forced)

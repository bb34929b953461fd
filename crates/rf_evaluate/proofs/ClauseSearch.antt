-- The search for tuples, begun for a clause, and clause by clause.
use Rattle.std.proofs.Common.{◌≡◌, ℕ, zero, suc, ◌+◌, ◌-◌, ◌<◌, ◌≤◌, max, Bool, true, false, ◌&&◌, Option, Some, None, List, [], ◌∷◌, ◌⊎◌, length, take, get_or, refl, sym, ap, ap₂, ◌∙◌, subst, inl, inr, arith, true≢false, slice_get, slice_index, slice_index_or, nat_le, nat_lt, lt-ltb, le-leb, eqb-true, ◌==◌}
use Rattle.std.specs.List.{list_all}
use Rattle.std.proofs.lemmas.Bool.{and_parts, cases_lt, false_from_ne_true, leb-true}
use Rattle.std.proofs.lemmas.List.{get_or_past}
use Rattle.std.proofs.lemmas.Option.{same_Some}
use Rattle.rf_values.specs.Truth.{may, must}
use Rattle.rf_values.specs.declared.truth.Truth.TheVariants.{True}
use Rattle.rf_problem.specs.Parts.{predicate_at}
use Rattle.rf_problem.specs.Reading.{clause_true}
use Rattle.rf_problem.specs.Valid.{is_free}
use Rattle.rf_problem.specs.declared.predicate.Clause.{Clause}
use Rattle.rf_problem.proofs.Depth.{call_rank-below}
use Rattle.rf_evaluate.specs.Evaluating.{IsSoundClause, call_rank, calls_of, clause_value, completed_value}
use Rattle.rf_evaluate.specs.Gathering.{Column, HasGathered, tells}
use Rattle.rf_evaluate.specs.Hunts.{GoesOn, IsFoundAmong, IsFoundAt, IsMet, IsPlaced, IsReached, with_tuple}
use Rattle.rf_evaluate.specs.Known.{Known, side}
use Rattle.rf_evaluate.specs.declared.stage.Body.{Body}
use Rattle.rf_evaluate.specs.declared.stage.Stage.{Stage}
use Rattle.rf_evaluate.proofs.Gathered.{gathered-none, gathered-same, gathered-then}
use Rattle.rf_evaluate.proofs.Completing.{clause-completed}
use Rattle.rf_evaluate.proofs.Conjunctions.{conjunction-True, list_any-from_one, one-from_list_any}
use Rattle.rf_evaluate.proofs.EvaluationSymbols.{IsSoundClause-from_problem, slice_get-below, value_of-clauses}
use Rattle.rf_evaluate.proofs.Reached.{IsFull}
use Rattle.rf_evaluate.proofs.TupleStages.{first-assigned, first-element, later-assigned, later-element, length-unassigned}

-- where each of the first n entries is free, one of them is
free-at : (n : ℕ) (entries : List (Option ℕ)) (v : ℕ) → list_all is_free (take n entries) ≡ true → v < n → v < length entries → is_free (slice_index_or entries v None) ≡ true
free-at zero entries v h l m = absurd (omega arith)
free-at (suc n) [] v h l m = absurd (omega arith)
free-at (suc n) (entry ∷ entries) zero h l m = (and_parts (is_free entry) (list_all is_free (take n entries)) h).0
free-at (suc n) (entry ∷ entries) (suc v) h l m = free-at n entries v (and_parts (is_free entry) (list_all is_free (take n entries)) h).1 (omega arith) (omega arith)

-- cells that all are 0
pub zero-at : (cells : List ℕ) (v : ℕ) → list_all (λ x. x == 0) cells ≡ true → slice_index cells v ≡ 0
zero-at [] v h = refl
zero-at (x ∷ cells) zero h = eqb-true x 0 (and_parts (x == 0) (list_all (λ y. y == 0) cells) h).0
zero-at (x ∷ cells) (suc v) h = zero-at cells v (and_parts (x == 0) (list_all (λ y. y == 0) cells) h).1

-- a stage from which a clause is searched: all variables that range over it are unassigned, and all literals pending
pub record IsBegun (b : Body) (s : Stage) (arity : ℕ) (c : Clause) : Type 0 where
  pub inner : b.is_inner ≡ false
  pub variables : b.variables.now ≡ c.variables
  pub literals : b.literals.now ≡ c.literals
  pub full : IsFull s
  pub zeros : (v : ℕ) → slice_index s.elements v ≡ 0
  pub unassigned : (v : ℕ) → slice_index_or s.unassigned v false ≡ (nat_le 0 v && (nat_lt v (length b.variables.now) && is_free (slice_index_or b.variables.now v None)))
  pub pending : (i : ℕ) → i < length b.literals.now → slice_index_or s.pending i false ≡ true
  pub few : arity ≤ 4
  pub wide : length c.variables ≤ 8
  pub parameters : arity ≤ length c.variables
  pub free : list_all is_free (take arity c.variables) ≡ true

module _ (k : Known) (b : Body) (passes : List ℕ → Bool) (arity : ℕ) (s : Stage) (c : Clause) (begun : IsBegun b s arity c) where
  unassigned-at : (v : ℕ) → slice_index_or s.unassigned v false ≡ (nat_lt v (length c.variables) && is_free (slice_index_or c.variables v None))
  unassigned-at v = begun.unassigned v ∙ (ap (λ (x : Bool). x && (nat_lt v (length b.variables.now) && is_free (slice_index_or b.variables.now v None))) (le-leb 0 v (omega arith))
      ∙ ap (λ (entries : List (Option ℕ)). nat_lt v (length entries) && is_free (slice_index_or entries v None)) begun.variables)

  -- each parameter is unassigned
  parameter-unassigned : (v : ℕ) → v < arity → slice_index_or s.unassigned v false ≡ true
  parameter-unassigned v l =
      let parameters : arity ≤ length c.variables = begun.parameters in
      unassigned-at v ∙ ap₂ (λ x y. x && y) (lt-ltb v (length c.variables) (omega (arith, parameters))) (free-at arity c.variables v begun.free l (omega (arith, parameters)))

  pub begun-placed : IsPlaced k arity s
  begun-placed = record {
    elements = λ v. subst (λ (x : ℕ). x < max 1 k.size) (sym (begun.zeros v)) (omega arith);
    parameters = λ v l e. absurd (true≢false (sym (parameter-unassigned v l) ∙ e));
  }

  GoesOn-begun : (t : List ℕ) → length t ≡ arity → GoesOn s t
  GoesOn-begun t len v l e = absurd (true≢false (sym (parameter-unassigned v (omega (arith, len))) ∙ e))

  -- the body with a tuple's elements is the clause at the tuple
  clause-at : (t : List ℕ) → length t ≡ arity → clause_value k arity t c ≡ completed_value k b (with_tuple s t)
  clause-at t len = clause-completed k b (with_tuple s t) arity t c begun.inner begun.variables begun.literals wide cells unassigned
      (λ i l. begun.pending i (subst (λ (n : ℕ). i < n) (sym (ap length begun.literals)) l))
    where
      wide : length c.variables ≤ length (with_tuple s t).unassigned
      wide =
          let few : arity ≤ 4 = begun.few in
          let same : length (with_tuple s t).unassigned ≡ length s.unassigned = length-unassigned s t (omega (arith, begun.full.unassigned, few, len)) in
          omega (arith, same, begun.full.unassigned, begun.wide)

      cell : (v : ℕ) → slice_index (with_tuple s t).elements v ≡ slice_index t v
      cell v = elim (cases_lt v (length t)) [
        | inl l ↦ first-element s t v l
        | inr g ↦ later-element s t v g ∙ (begun.zeros v ∙ sym (get_or_past t v 0 g))
      ]

      cells : slice_index (with_tuple s t).elements ≡ slice_index t
      cells = λ j v. cell v j

      unassigned : (v : ℕ) → slice_index_or (with_tuple s t).unassigned v false ≡ (nat_le arity v && (nat_lt v (length c.variables) && is_free (slice_index_or c.variables v None)))
      unassigned v = elim (cases_lt v (length t)) [
        | inl l ↦ first-assigned s t v l ∙ sym (ap (λ (x : Bool). x && (nat_lt v (length c.variables) && is_free (slice_index_or c.variables v None)))
            (false_from_ne_true (nat_le arity v) (λ h. let m : arity ≤ v = leb-true arity v h in absurd (omega (arith, len)))))
        | inr g ↦ later-assigned s t v g ∙ (unassigned-at v ∙ sym (ap (λ (x : Bool). x && (nat_lt v (length c.variables) && is_free (slice_index_or c.variables v None)))
            (le-leb arity v (omega (arith, len)))))
      ]

  -- what is reached from such a stage is what is found at the clause
  pub gathered-clause : {G : Type 0} (has covers : G → List ℕ → Column → Type 0) (a z : G) → HasGathered has covers (IsReached k b passes arity s True) a z
      → HasGathered has covers (IsFoundAt k passes arity c) a z
  gathered-clause has covers a z h =
      let same = λ (t : List ℕ) (len : length t ≡ arity). conjunction-True (completed_value k b (with_tuple s t)) ∙ sym (clause-at t len) in
      gathered-same has covers (IsReached k b passes arity s True) (IsFoundAt k passes arity c) a z
      (λ t d r. record { tuple = r.tuple; passed = r.passed; told = sym (ap (tells d) (same t r.tuple.many)) ∙ r.told })
      (λ t d r. record { tuple = r.tuple; passed = r.passed; goes_on = GoesOn-begun t r.tuple.many; told = ap (tells d) (same t r.tuple.many) ∙ r.told })
      h

module _ {G : Type 0} (has covers : G → List ℕ → Column → Type 0) (k : Known) (passes : List ℕ → Bool) (a : G) where
  module _ (arity : ℕ) (clauses : List Clause) where
    -- no clause was searched yet
    pub gathered-no_clause : HasGathered has covers (IsFoundAmong k passes arity clauses 0) a a
    gathered-no_clause = gathered-none has covers (IsFoundAmong k passes arity clauses 0) a (λ t c r. let l : r.place < 0 = r.before in absurd (omega (arith, l)))

    -- one more was
    pub gathered-more_clauses : (n : ℕ) (c : Clause) (y z : G) → slice_get clauses n ≡ Some c → HasGathered has covers (IsFoundAmong k passes arity clauses n) a y
        → HasGathered has covers (IsFoundAt k passes arity c) y z → HasGathered has covers (IsFoundAmong k passes arity clauses (n + 1)) a z
    gathered-more_clauses n c y z there h g =
        gathered-same has covers (λ t d. IsFoundAmong k passes arity clauses n t d ⊎ IsFoundAt k passes arity c t d) (IsFoundAmong k passes arity clauses (n + 1)) a z
        (λ t d either. elim either [
          | inl r ↦ (let l : r.place < n = r.before in record { place = r.place; clause = r.clause; before = omega (arith, l); there = r.there; found = r.found })
          | inr r ↦ record { place = n; clause = c; before = omega arith; there = there; found = r }
        ])
        (λ t d r. elim (cases_lt r.place n) [
          | inl l ↦ inl (record { place = r.place; clause = r.clause; before = l; there = r.there; found = r.found })
          | inr m ↦ (let l : r.place < n + 1 = r.before in let e : r.place ≡ n = omega (arith, l) in
              let same : r.clause ≡ c = same_Some r.clause c (sym r.there ∙ (ap (slice_get clauses) e ∙ there)) in
              inr (subst (λ (x : Clause). IsFoundAt k passes arity x t d) same r.found))
        ])
        (gathered-then has covers (IsFoundAmong k passes arity clauses n) (IsFoundAt k passes arity c) a y z h g)

  gathered-met_at : (q n : ℕ) (z : G) → length (predicate_at k.problem.predicates q).clauses ≤ n
      → HasGathered has covers (IsFoundAmong k passes (predicate_at k.problem.predicates q).arity (predicate_at k.problem.predicates q).clauses n) a z
      → HasGathered has covers (IsMet k q passes) a z
  gathered-met_at q n z all h =
      let arity = (predicate_at k.problem.predicates q).arity in
      let clauses = (predicate_at k.problem.predicates q).clauses in
      let holds = λ (t : List ℕ). clause_true (calls_of k) (side must k) (side may k) arity t in
      let can = λ (t : List ℕ). clause_true (calls_of k) (side may k) (side must k) arity t in
      gathered-same has covers (IsFoundAmong k passes arity clauses n) (IsMet k q passes) a z
      (λ t c r. record {
        tuple = r.found.tuple;
        passed = r.found.passed;
        told = ap (tells c) (value_of-clauses k q t) ∙ list_any-from_one c (holds t) (can t) clauses r.place r.clause r.there r.found.told;
      })
      (λ t c r. let one = one-from_list_any c (holds t) (can t) clauses (sym (ap (tells c) (value_of-clauses k q t)) ∙ r.told) in
      let l : one.0 < length clauses = slice_get-below clauses one.0 one.1 one.2 in
      record { place = one.0; clause = one.1; before = omega (arith, l, all); there = one.2; found = record { tuple = r.tuple; passed = r.passed; told = one.3 } })
      h

  -- what is found among all clauses of a predicate is met
  pub gathered-met : (q n arity : ℕ) (clauses : List Clause) (z : G) → arity ≡ (predicate_at k.problem.predicates q).arity
      → clauses ≡ (predicate_at k.problem.predicates q).clauses → length clauses ≤ n
      → HasGathered has covers (IsFoundAmong k passes arity clauses n) a z → HasGathered has covers (IsMet k q passes) a z
  gathered-met q n arity clauses z many same all h =
      gathered-met_at q n z (subst (λ (cs : List Clause). length cs ≤ n) same all)
      (subst (λ (m : ℕ). HasGathered has covers (IsFoundAmong k passes m (predicate_at k.problem.predicates q).clauses n) a z) many
      (subst (λ (cs : List Clause). HasGathered has covers (IsFoundAmong k passes arity cs n) a z) same h))

-- a clause of a predicate is well formed
pub sound-clause : (k : Known) (q : ℕ) (clauses : List Clause) (i : ℕ) (c : Clause) → q < length k.problem.predicates → clauses ≡ (predicate_at k.problem.predicates q).clauses
    → i < length clauses → c ≡ get_or clauses i c → IsSoundClause k (length k.problem.predicates) c
sound-clause k q clauses i c declared same l at =
    let n = length k.problem.predicates in
    let rank : call_rank k.problem.predicates q < n = call_rank-below k.problem.classes k.problem.references k.problem.objects k.problem.predicates k.problem.predicates_fit q declared in
    let depth : (n + 1) - 1 ≡ n = omega arith in
    let all = IsSoundClause-from_problem k (n + 1) q declared (omega (arith, rank)) in
    let here : IsSoundClause k ((n + 1) - 1) (get_or clauses i c) = subst (λ (cs : List Clause). IsSoundClause k ((n + 1) - 1) (get_or cs i c)) (sym same)
    (all i c (subst (λ (cs : List Clause). i < length cs) same l)) in
    subst (λ (d : ℕ). IsSoundClause k d c) depth (subst (IsSoundClause k ((n + 1) - 1)) (sym at) here)

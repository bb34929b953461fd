-- What doesn't rest on what changed stays: the filters, asked with every tuple of what does, leave it out.
use Rattle.std.proofs.Common.{◌≡◌, ℕ, zero, suc, Bool, true, false, ◌&&◌, ◌||◌, ◌==◌, if◌then◌else◌, None, List, [], ◌∷◌, length, nat_lt, refl, sym, subst, inl, inr, arith, true≢false, replicate}
use Rattle.std.specs.List.{list_any, list_all}
use Rattle.std.proofs.lemmas.Bool.{and_from, and_parts, both_ways, cases_Bool, false_from_ne_true, or_cases, or_left, or_right}
use Rattle.rf_finite.specs.Range.{some_below}
use Rattle.rf_finite.proofs.Lists.{list_any-more_pass}
use Rattle.rf_finite.proofs.Range.{one-from_some_below}
use Rattle.rf_problem.specs.Asserted.{match_each}
use Rattle.rf_problem.specs.Parts.{predicate_at}
use Rattle.rf_problem.specs.declared.predicate.Clause.{Clause}
use Rattle.rf_problem.specs.declared.predicate.Literal.{Literal}
use Rattle.rf_problem.specs.declared.predicate.Literal.TheVariants.{Call, Same, Differ}
use Rattle.rf_problem.specs.declared.predicate.Term.{Term}
use Rattle.rf_problem.specs.declared.predicate.Term.TheVariants.{Var, Atom}
use Rattle.rf_problem.specs.declared.problem.Problem.{Problem}
use Rattle.rf_problem.specs.declared.symbol.Symbol.{Symbol}
use Rattle.rf_problem.specs.declared.symbol.Symbol.TheVariants.{Class, Reference, Predicate, Exists, Equals}
use Rattle.rf_evaluate.specs.Known.{Known}
use Rattle.rf_renewal.specs.Changes.{Changes, asked_of, clause_may_change, has_presences, is_changed_atom, is_within_reach, literal_may_change, may_change, may_go_on_otherwise, row_may_change, terms_may_change}
use Rattle.rf_renewal.specs.Covered.{Cover, CoverFacts, Done, is_ready, literal_ready, steps_ready}
use Rattle.rf_renewal.specs.Laws.{UnrelatedValuesStay, UnrelatedWalksStay}
use Rattle.rf_renewal.specs.Patterns.{Pattern, match_some, may_match}
use Rattle.rf_renewal.specs.Resting.{AreResting, asked_rests, clause_rests, has_some, literal_rests, symbol_rests, walks_rest}
use Rattle.rf_renewal.proofs.Staying.{value-stays, walk-stays}

-- the pattern of every tuple of so many
abbrev every : ℕ → Pattern
every n = replicate n None

every-matches : (n : ℕ) (t : List ℕ) → length t ≡ n → match_each (every n) t ≡ true
every-matches zero [] e = refl
every-matches zero (x ∷ t) e = absurd (omega arith)
every-matches (suc n) [] e = absurd (omega arith)
every-matches (suc n) (x ∷ t) e = every-matches n t (omega arith)

some-from_one : (test : Pattern → Bool) (patterns : List Pattern) → list_any test patterns ≡ true
    → has_some patterns ≡ true
some-from_one test patterns h = list_any-more_pass test (λ pattern. true) patterns (λ x e. refl) h

-- what is in the one or in none
chosen-if : (b : Bool) (pattern : Pattern) → has_some (if b then pattern ∷ [] else []) ≡ true → b ≡ true
chosen-if true pattern h = refl
chosen-if false pattern h = h

-- all was compared
abbrev all_done : Done
all_done = record { predicates = λ q. true; walks = λ symbol. true }

steps_all_ready : (symbol : Symbol) → steps_ready all_done symbol ≡ true
steps_all_ready (Class k) = refl
steps_all_ready (Reference r) = refl
steps_all_ready (Predicate q) = refl
steps_all_ready Exists = refl
steps_all_ready Equals = refl

literal_all_ready : (l : Literal) → literal_ready all_done l ≡ true
literal_all_ready (Call negated false symbol args) = steps_all_ready symbol
literal_all_ready (Call negated true symbol args) = refl
literal_all_ready (Same a b) = refl
literal_all_ready (Differ a b) = refl

all_pass : {X : Type 0} (test : X → Bool) (xs : List X) → ((x : X) → test x ≡ true) → list_all test xs ≡ true
all_pass test [] each = refl
all_pass test (x ∷ xs) each = and_from (test x) (list_all test xs) (each x) (all_pass test xs each)

all_ready : (p : Problem) (q : ℕ) → is_ready p all_done q ≡ true
all_ready p q = all_pass (λ c. list_all (literal_ready all_done) c.literals) (predicate_at p.predicates q).clauses
    (λ c. all_pass (literal_ready all_done) c.literals literal_all_ready)

module _ (p : Problem) (changes : Changes) (resting : ℕ → Bool) where
  -- the changes, with every tuple of each predicate that rests on them, and every walk of each symbol of which walks
  -- do
  abbrev tuples_with : Symbol → List Pattern
  tuples_with (Class k) = changes.tuples (Class k)
  tuples_with (Reference r) = changes.tuples (Reference r)
  tuples_with (Predicate q) = if resting q then every (predicate_at p.predicates q).arity ∷ [] else []
  tuples_with Exists = changes.tuples Exists
  tuples_with Equals = changes.tuples Equals

  abbrev extended : Changes
  extended = record {
    presences = changes.presences;
    tuples = tuples_with;
    walks = λ symbol. if walks_rest changes resting symbol then (None ∷ None ∷ []) ∷ [] else [];
    sames = changes.sames;
    differences = changes.differences;
  }

  symbol-asked : (symbol : Symbol) → has_some (tuples_with symbol) ≡ true → symbol_rests changes resting symbol ≡ true
  symbol-asked (Class k) h = h
  symbol-asked (Reference r) h = h
  symbol-asked (Predicate q) h = chosen-if (resting q) (every (predicate_at p.predicates q).arity) h
  symbol-asked Exists h = h
  symbol-asked Equals h = h

  asked : (closure : Bool) (symbol : Symbol) → has_some (asked_of extended closure symbol) ≡ true
      → asked_rests changes resting closure symbol ≡ true
  asked false symbol h = symbol-asked symbol h
  asked true symbol h = chosen-if (walks_rest changes resting symbol) (None ∷ None ∷ []) h

  module _ (origin : ℕ → ℕ) (t : List ℕ) where
    -- the same elements may be present otherwise
    same_atom : (term : Term) → is_changed_atom origin extended term ≡ true
        → is_changed_atom origin changes term ≡ true
    same_atom (Var v) h = h
    same_atom (Atom o) h = h

    comparison : (a b : Term) (patterns : List Pattern) → terms_may_change origin extended t
        (a ∷ b ∷ []) patterns ≡ true
        → (has_some patterns || (is_changed_atom origin changes a || is_changed_atom origin changes b)) ≡ true
    comparison a b patterns h = elim (or_cases (list_any (may_match origin t (a ∷ b ∷ [])) patterns)
        (list_any (is_changed_atom origin extended) (a ∷ b ∷ [])) h) [
          | inl e ↦ or_left (has_some patterns) (is_changed_atom origin changes a || is_changed_atom origin changes b)
              (some-from_one (may_match origin t (a ∷ b ∷ [])) patterns e)
          | inr e ↦ or_right (has_some patterns) (is_changed_atom origin changes a || is_changed_atom origin changes b)
              (elim (or_cases (is_changed_atom origin extended a) (is_changed_atom origin extended b || false) e) [
                | inl f ↦ or_left (is_changed_atom origin changes a) (is_changed_atom origin changes b) (same_atom a f)
                | inr f ↦ elim (or_cases (is_changed_atom origin extended b) false f) [
                  | inl g ↦ or_right (is_changed_atom origin changes a) (is_changed_atom origin changes b)
                      (same_atom b g)
                  | inr g ↦ absurd (true≢false (sym g))
                ]
              ])
        ]

    literal : (l : Literal) → literal_may_change origin extended t l ≡ true
        → literal_rests origin changes resting l ≡ true
    literal (Call negated closure symbol args) h =
        elim (or_cases (list_any (may_match origin t args) (asked_of extended closure symbol))
        (list_any (is_changed_atom origin extended) args) h) [
          | inl e ↦ or_left (asked_rests changes resting closure symbol)
              (list_any (is_changed_atom origin changes) args)
              (asked closure symbol (some-from_one (may_match origin t args) (asked_of extended closure symbol) e))
          | inr e ↦ or_right (asked_rests changes resting closure symbol)
              (list_any (is_changed_atom origin changes) args)
              (list_any-more_pass (is_changed_atom origin extended) (is_changed_atom origin changes) args same_atom e)
        ]
    literal (Same a b) h = comparison a b changes.sames h
    literal (Differ a b) h = comparison a b changes.differences h

    clause : (c : Clause) → clause_may_change origin extended t c ≡ true → clause_rests origin changes resting
        (length t) c ≡ true
    clause c h = elim (or_cases (nat_lt (length t) (length c.variables) && has_presences extended)
        (list_any (literal_may_change origin extended t) c.literals) h) [
          | inl e ↦ or_left (nat_lt (length t) (length c.variables) && has_presences changes)
              (list_any (literal_rests origin changes resting) c.literals) e
          | inr e ↦ or_right (nat_lt (length t) (length c.variables) && has_presences changes)
              (list_any (literal_rests origin changes resting) c.literals)
              (list_any-more_pass (literal_may_change origin extended t)
              (literal_rests origin changes resting) c.literals literal e)
        ]

module _ (was now : Known) (changes : Changes) (resting : ℕ → Bool) (facts : CoverFacts was now changes)
    (are : AreResting was.problem was.origin changes resting) where
  abbrev more : Changes
  more = extended was.problem changes resting

  -- the filter of tuples lets through none of a predicate that doesn't rest on what changed
  predicate-left_out : (q : ℕ) (t : List ℕ) → length t ≡ (predicate_at was.problem.predicates q).arity
      → resting q ≡ false → may_change was more q t ≡ false
  predicate-left_out q t len none = false_from_ne_true (may_change was more q t)
      (λ h. both_ways (resting q) none (are q
      (subst (λ n. list_any (clause_rests was.origin changes resting n)
      (predicate_at was.problem.predicates q).clauses ≡ true) len
      (list_any-more_pass (clause_may_change was.origin more t) (clause_rests was.origin changes resting (length t))
      (predicate_at was.problem.predicates q).clauses
      (clause was.problem changes resting was.origin t) h))))

  -- nor does the filter of rows
  row-left_out : (symbol : Symbol) (x : ℕ) → walks_rest changes resting symbol ≡ false
      → row_may_change was more symbol x ≡ false
  row-left_out symbol x none = false_from_ne_true (row_may_change was more symbol x)
      (λ h. both_ways (walks_rest changes resting symbol) none (
      let one = one-from_some_below was.size (λ u. is_within_reach was symbol x u
      && may_go_on_otherwise was more symbol u) h in
      let parts = and_parts (is_within_reach was symbol x one.0) (may_go_on_otherwise was more symbol one.0) one.2 in
      elim (or_cases (list_any (λ v. v == one.0) changes.presences)
      (some_below was.size (λ y. match_some (more.tuples symbol) (one.0 ∷ y ∷ []))) parts.1) [
        | inl e ↦ or_right (symbol_rests changes resting symbol) (has_presences changes)
            (list_any-more_pass (λ v. v == one.0) (λ v. true) changes.presences (λ v f. refl) e)
        | inr e ↦ (let step = one-from_some_below was.size (λ y. match_some (more.tuples symbol) (one.0 ∷ y ∷ [])) e in
            or_left (symbol_rests changes resting symbol) (has_presences changes)
            (symbol-asked was.problem changes resting symbol
            (some-from_one (λ pattern. match_each pattern (one.0 ∷ step.0 ∷ [])) (more.tuples symbol) step.2)))
      ]))

  covered : Cover was now more all_done
  covered = record {
    facts = record {
      problem = facts.problem;
      size = facts.size;
      origins = facts.origins;
      presences = facts.presences;
      classes = facts.classes;
      edges = facts.edges;
      sames = facts.sames;
      differences = facts.differences;
    };
    predicates_ready = λ q e. all_ready was.problem q;
    walks_ready = λ symbol e. steps_all_ready symbol;
    values = λ q t is_done tuple h. elim (cases_Bool (resting q)) [
      | inl e ↦ inr (rw e (or_left (match_each (every (predicate_at was.problem.predicates q).arity) t) false
          (every-matches (predicate_at was.problem.predicates q).arity t tuple.many)))
      | inr e ↦ absurd (both_ways (may_change was more q t) (predicate-left_out q t tuple.many e) h)
    ];
    walks = λ symbol x y is_done steps lx ly h. elim (cases_Bool (walks_rest changes resting symbol)) [
      | inl e ↦ inr (rw e refl)
      | inr e ↦ absurd (both_ways (row_may_change was more symbol x) (row-left_out symbol x e) h)
    ];
  }

pub unrelated_values_stay : UnrelatedValuesStay
unrelated_values_stay was now changes resting facts are q t tuple none =
    value-stays was now (more was now changes resting facts are) all_done
    (covered was now changes resting facts are) q t (all_ready was.problem q) tuple
    (predicate-left_out was now changes resting facts are q t tuple.many none)

pub unrelated_walks_stay : UnrelatedWalksStay
unrelated_walks_stay was now changes resting facts are symbol x y steps lx ly none =
    walk-stays was now (more was now changes resting facts are) all_done
    (covered was now changes resting facts are) symbol x y (steps_all_ready symbol) steps lx ly
    (row-left_out was now changes resting facts are symbol x none)

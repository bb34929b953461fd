-- How the changes come to cover predicate after predicate, and symbol after symbol.
use Rattle.std.proofs.Common.{◌≡◌, ℕ, ◌<◌, Bool, true, false, ◌==◌, List, [], ◌∷◌, Contains, ◌⊎◌, refl, sym, subst, inl, inr, true≢false}
use Rattle.std.specs.List.{list_all}
use Rattle.std.proofs.lemmas.Bool.{and_from, and_parts, cases_Bool, eqb-true, or_cases, or_right}
use Rattle.rf_finite.specs.Tuples.{IsTuple}
use Rattle.rf_finite.proofs.Lists.{list_any-from_one, one-from_list_any}
use Rattle.rf_problem.specs.Asserted.{match_each}
use Rattle.rf_problem.specs.Parts.{predicate_at, same_symbol}
use Rattle.rf_problem.specs.Valid.{has_steps}
use Rattle.rf_problem.specs.declared.predicate.Literal.{Literal}
use Rattle.rf_problem.specs.declared.predicate.Literal.TheVariants.{Call, Same, Differ}
use Rattle.rf_problem.specs.declared.problem.Problem.{Problem}
use Rattle.rf_problem.specs.declared.symbol.Symbol.{Symbol}
use Rattle.rf_problem.specs.declared.symbol.Symbol.TheVariants.{Class, Reference, Predicate, Exists, Equals}
use Rattle.rf_problem.proofs.KeyLemmas.{same_symbol-same}
use Rattle.rf_evaluate.specs.Known.{Known}
use Rattle.rf_renewal.specs.Changes.{Changes, may_change, row_may_change}
use Rattle.rf_renewal.specs.Comparing.{IsIn, with_predicate, with_walks}
use Rattle.rf_renewal.specs.Covered.{Cover, CoverFacts, Done, IsValueCovered, IsWalkCovered, is_ready, literal_ready, steps_ready}
use Rattle.rf_renewal.specs.Laws.{FactsCoverNothingDone, PredicateIsCovered, SymbolIsCovered}
use Rattle.rf_renewal.specs.Patterns.{Pattern, match_some}
use Rattle.rf_renewal.proofs.Staying.{value-stays, walk-stays}

pub facts_cover_nothing_done : FactsCoverNothingDone
facts_cover_nothing_done was now changes facts = record {
  facts = facts;
  predicates_ready = λ q e. absurd (true≢false (sym e));
  walks_ready = λ symbol e. absurd (true≢false (sym e));
  values = λ q t e tuple h. absurd (true≢false (sym e));
  walks = λ symbol x y e steps lx ly h. absurd (true≢false (sym e));
}

-- more patterns match more
more_match : (patterns more : List Pattern) (t : List ℕ) →
    ((pattern : Pattern) → Contains patterns pattern → Contains more pattern)
    → match_some patterns t ≡ true → match_some more t ≡ true
more_match patterns more t within h =
    let one = one-from_list_any (λ pattern. match_each pattern t) patterns h in
    list_any-from_one (λ pattern. match_each pattern t) more one.0 (within one.0 one.1) one.2

or_more : {A B C : Type 0} → (B → C) → A ⊎ B → A ⊎ C
or_more f (inl a) = inl a
or_more f (inr b) = inr (f b)

-- more changes cover what these do
more_facts : (was now : Known) (changes more : Changes) → IsIn changes more → CoverFacts was now changes
    → CoverFacts was now more
more_facts was now changes more within facts = record {
  problem = facts.problem;
  size = facts.size;
  origins = facts.origins;
  presences = λ x l. or_more (within.presences x) (facts.presences x l);
  classes = λ c x l. or_more (more_match (changes.tuples (Class c)) (more.tuples (Class c)) (x ∷ [])
      (within.tuples (Class c))) (facts.classes c x l);
  edges = λ r x y l m. or_more (more_match (changes.tuples (Reference r)) (more.tuples (Reference r)) (x ∷ y ∷ [])
      (within.tuples (Reference r))) (facts.edges r x y l m);
  sames = λ x y l m. or_more (more_match changes.sames more.sames (x ∷ y ∷ []) within.sames) (facts.sames x y l m);
  differences = λ x y l m. or_more (more_match changes.differences more.differences (x ∷ y ∷ []) within.differences)
      (facts.differences x y l m);
}

-- what is ready stays so as more is compared
module _ (done later : Done) (predicates : (q : ℕ) → done.predicates q ≡ true → later.predicates q ≡ true)
    (walks : (symbol : Symbol) → done.walks symbol ≡ true → later.walks symbol ≡ true) where
  steps_more : (symbol : Symbol) → steps_ready done symbol ≡ true → steps_ready later symbol ≡ true
  steps_more (Class k) h = refl
  steps_more (Reference r) h = refl
  steps_more (Predicate q) h = predicates q h
  steps_more Exists h = refl
  steps_more Equals h = refl

  literal_more : (l : Literal) → literal_ready done l ≡ true → literal_ready later l ≡ true
  literal_more (Call negated false symbol args) h = steps_more symbol h
  literal_more (Call negated true symbol args) h = walks symbol h
  literal_more (Same a b) h = refl
  literal_more (Differ a b) h = refl

  all_more : {X : Type 0} (test tell : X → Bool) (xs : List X) → ((x : X) → test x ≡ true → tell x ≡ true)
      → list_all test xs ≡ true → list_all tell xs ≡ true
  all_more test tell [] each h = refl
  all_more test tell (x ∷ xs) each h =
      let parts = and_parts (test x) (list_all test xs) h in and_from (tell x) (list_all tell xs) (each x parts.0)
      (all_more test tell xs each parts.1)

  ready_more : (p : Problem) (q : ℕ) → is_ready p done q ≡ true → is_ready p later q ≡ true
  ready_more p q h = all_more (λ c. list_all (literal_ready done) c.literals)
      (λ c. list_all (literal_ready later) c.literals) (predicate_at p.predicates q).clauses
      (λ c. all_more (literal_ready done) (literal_ready later) c.literals literal_more) h

module _ (was now : Known) (changes more : Changes) (done : Done) (c : Cover was now changes done)
    (within : IsIn changes more) where
  -- values and walks that were compared where the filter let them through, are covered wherever they are
  value_covered : (q : ℕ) (t : List ℕ) → is_ready was.problem done q ≡ true → IsTuple was.size
      (predicate_at was.problem.predicates q).arity t
      → (may_change was changes q t ≡ true → IsValueCovered was now more q t) → IsValueCovered was now more q t
  value_covered q t ready tuple let_through = elim (cases_Bool (may_change was changes q t)) [
    | inl e ↦ let_through e
    | inr e ↦ inl (value-stays was now changes done c q t ready tuple e)
  ]

  walk_covered : (symbol : Symbol) (x y : ℕ) → steps_ready done symbol ≡ true
      → has_steps was.problem.predicates symbol ≡ true → x < was.size → y < was.size
      → (row_may_change was changes symbol x ≡ true → IsWalkCovered was now more symbol x y)
      → IsWalkCovered was now more symbol x y
  walk_covered symbol x y ready steps lx ly let_through = elim (cases_Bool (row_may_change was changes symbol x)) [
    | inl e ↦ let_through e
    | inr e ↦ inl (walk-stays was now changes done c symbol x y ready steps lx ly e)
  ]

  old_value : (q : ℕ) (t : List ℕ) → done.predicates q ≡ true → IsTuple was.size
      (predicate_at was.problem.predicates q).arity t → IsValueCovered was now more q t
  old_value q t is_done tuple = value_covered q t (c.predicates_ready q is_done) tuple
      (λ e. or_more (more_match (changes.tuples (Predicate q)) (more.tuples (Predicate q)) t
      (within.tuples (Predicate q))) (c.values q t is_done tuple e))

  old_walk : (symbol : Symbol) (x y : ℕ) → done.walks symbol ≡ true → has_steps was.problem.predicates symbol ≡ true
      → x < was.size → y < was.size → IsWalkCovered was now more symbol x y
  old_walk symbol x y is_done steps lx ly = walk_covered symbol x y (c.walks_ready symbol is_done) steps lx ly
      (λ e. or_more (more_match (changes.walks symbol) (more.walks symbol) (x ∷ y ∷ []) (within.walks symbol))
      (c.walks symbol x y is_done steps lx ly e))

pub predicate_is_covered : PredicateIsCovered
predicate_is_covered was now changes more done q c within ready compared =
    let later = with_predicate done q in
    let grows : (d : ℕ) → done.predicates d ≡ true → later.predicates d ≡ true = λ d e. or_right (q == d)
    (done.predicates d) e in
    record {
      facts = more_facts was now changes more within c.facts;
      predicates_ready = λ d e. ready_more done later grows (λ symbol h. h) was.problem d
          (elim (or_cases (q == d) (done.predicates d) e) [
            | inl own ↦ subst (λ z. is_ready was.problem done z ≡ true) (eqb-true q d own) ready
            | inr old ↦ c.predicates_ready d old
          ]);
      walks_ready = λ symbol e. steps_more done later grows (λ symbol h. h) symbol (c.walks_ready symbol e);
      values = λ d t e tuple h. elim (or_cases (q == d) (done.predicates d) e) [
        | inr old ↦ old_value was now changes more done c within d t old tuple
        | inl own ↦ subst (λ z. IsTuple was.size (predicate_at was.problem.predicates z).arity t
            → IsValueCovered was now more z t) (eqb-true q d own)
            (λ tuple. value_covered was now changes more done c within q t ready tuple (compared t tuple)) tuple
      ];
      walks = λ symbol x y e steps lx ly h. old_walk was now changes more done c within symbol x y e steps lx ly;
    }

pub symbol_is_covered : SymbolIsCovered
symbol_is_covered was now changes more done symbol c within ready compared =
    let later = with_walks done symbol in
    let grows : (other : Symbol) → done.walks other ≡ true → later.walks other ≡ true = λ other e. or_right
    (same_symbol symbol other) (done.walks other) e in
    record {
      facts = more_facts was now changes more within c.facts;
      predicates_ready = λ d e. ready_more done later (λ q h. h) grows was.problem d (c.predicates_ready d e);
      walks_ready = λ other e. steps_more done later (λ q h. h) grows other
          (elim (or_cases (same_symbol symbol other) (done.walks other) e) [
            | inl own ↦ subst (λ z. steps_ready done z ≡ true) (same_symbol-same symbol other own) ready
            | inr old ↦ c.walks_ready other old
          ]);
      values = λ d t e tuple h. old_value was now changes more done c within d t e tuple;
      walks = λ other x y e steps lx ly h. elim (or_cases (same_symbol symbol other) (done.walks other) e) [
        | inr old ↦ old_walk was now changes more done c within other x y old steps lx ly
        | inl own ↦ subst (λ z. has_steps was.problem.predicates z ≡ true → IsWalkCovered was now more z x y)
            (same_symbol-same symbol other own)
            (λ steps. walk_covered was now changes more done c within symbol x y ready steps lx ly
            (compared x y steps lx ly)) steps
      ];
    }

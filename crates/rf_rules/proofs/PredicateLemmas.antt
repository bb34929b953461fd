-- The rules of predicates, step by step.
use Rattle.std.proofs.Common.{◌≡◌, ◌≢◌, ◌<◌, ◌≤◌, ◌+◌, ◌-◌, ℕ, zero, suc, Bool, true, false, ◌==◌, ◌&&◌, ◌||◌, if◌then◌else◌, Option, None, Some, List, [], ◌∷◌, All, length, take, drop, get_or, max, refl, sym, ap, ap₂, ◌∙◌, subst, inl, inr, arith, rules, add-one, true≢false}
use Rattle.std.specs.FinSet.{contains-empty}
use Rattle.std.specs.List.{list_all}
use Rattle.std.specs.Ordering.{nat_cmp}
use Rattle.std.specs.Prelude.{slice_index, slice_set}
use Rattle.std.proofs.lemmas.Bool.{and_parts, cases_Bool, cases_lt, eqb-true, ltb-true}
use Rattle.std.proofs.lemmas.Grind.{get_or-set_at}
use Rattle.std.proofs.lemmas.List.{drop_all, drop_more, get_or-set_other, get_or_past, length-set}
use Rattle.std.proofs.lemmas.Option.{slice_get-get_or}
use Rattle.rf_finite.proofs.Range.{some_below-none}
use Rattle.rf_values.specs.Truth.{merge, must as has_to}
use Rattle.rf_values.specs.declared.truth.Truth.{Truth}
use Rattle.rf_values.specs.declared.truth.Truth.TheVariants.{True, False, Unknown}
use Rattle.rf_problem.proofs.Fitting.{FitsCall-from_literal_fits, each-from_literals_fit}
use Rattle.rf_problem.specs.Asserted.{asserted}
use Rattle.rf_problem.specs.Parts.{no_predicate, predicate_at, reference_at}
use Rattle.rf_problem.specs.Reading.{Assignment}
use Rattle.rf_problem.specs.Valid.{FitsClause, is_free}
use Rattle.rf_problem.specs.declared.predicate.Literal.{Literal}
use Rattle.rf_problem.specs.declared.predicate.Literal.TheVariants.{Call, Same}
use Rattle.rf_problem.specs.declared.predicate.Term.TheVariants.{Var}
use Rattle.rf_problem.specs.declared.problem.Problem.{Problem}
use Rattle.rf_problem.specs.declared.symbol.Symbol.TheVariants.{Reference, Predicate}
use Rattle.rf_evaluate.proofs.Cells.{AreFilled}
use Rattle.rf_state.specs.State.{State, by_classes, fact, no_object, object_of, some_candidate, told, told_back}
use Rattle.rf_rules.specs.Effects.{has_effect, is_ready}
use Rattle.rf_rules.specs.Forcing.{HasReference}
use Rattle.rf_rules.specs.Predicates.{are_there, clause_at, forced, forced_effect, free_count, given, is_open, literal_at, literal_known, no_clause, object_of_term, origins_of, others_hold}
use Rattle.rf_rules.specs.Words.{is_false, is_unknown}
use Rattle.rf_rules.proofs.MergeLemmas.{changes-where_unknown}

-- an object that isn't there has no candidates
no_candidate : (p : Problem) (s : State) (o k : ℕ) → length s.objects ≤ o → some_candidate p s o k ≡ false
no_candidate p s o k past =
    let none : object_of s o ≡ no_object = get_or_past s.objects o no_object past in
    some_below-none (length p.classes) _ (λ c l. rw (none, contains-empty nat_cmp c) refl)

false_known : (a b : Truth) → is_unknown (merge a (merge b False)) ≡ false
false_known a b = search rules

by_neither : (b : Bool) → (if b && false then Unknown else False) ≡ False
by_neither true = refl
by_neither false = refl

-- so something is known of an edge at it
module _ (p : Problem) (s : State) (r a b : ℕ) where
  known-by_classes : by_classes p s r a b ≡ False → is_unknown (fact p s r a b) ≡ false
  known-by_classes e =
      ap (λ v. is_unknown (merge (told p s r a b) (merge (told_back p s (reference_at p.references r).opposite a b) v))) e
      ∙ false_known (told p s r a b) (told_back p s (reference_at p.references r).opposite a b)

  pub edge_known-from : length s.objects ≤ a → is_unknown (fact p s r a b) ≡ false
  edge_known-from past = known-by_classes (let none = no_candidate p s a (reference_at p.references r).source past in rw none refl)

  pub edge_known-to : length s.objects ≤ b → is_unknown (fact p s r a b) ≡ false
  edge_known-to past =
      known-by_classes (let none = no_candidate p s b (reference_at p.references r).target past in
      rw none (by_neither (some_candidate p s a (reference_at p.references r).source)))

-- with no objects left, each variable stands for object 0
given-none : (entries : List (Option ℕ)) (u : ℕ) → given entries [] u ≡ 0
given-none [] u = refl
given-none (Some i ∷ entries) zero = refl
given-none (Some i ∷ entries) (suc u) = given-none entries u
given-none (None ∷ entries) u = refl

-- each variable stands for an object that is there, or for object 0
pub given-below : (entries : List (Option ℕ)) (t : List ℕ) (n u : ℕ) → All (λ o. o < n) t → given entries t u < max 1 n
given-below [] t n u h = omega arith
given-below (Some i ∷ entries) t n zero h = omega arith
given-below (Some i ∷ entries) t n (suc u) h = given-below entries t n u h
given-below (None ∷ entries) [] n u h = omega arith
given-below (None ∷ entries) (o ∷ t) n zero h = let l = h 0 0 (omega arith) in omega arith
given-below (None ∷ entries) (o ∷ t) n (suc u) h = given-below entries t n u (λ i d l. h (suc i) d (omega (arith, l)))

-- the objects of the variables before v, of which so many were used
pub record AreGiven (variables : List (Option ℕ)) (objects cells : List ℕ) (v used : ℕ) : Type 0 where
  pub filled : AreFilled 0 8 (λ k. 0) (given variables objects) cells v
  pub rest : (u : ℕ) → given variables objects (v + u) ≡ given (drop v variables) (drop used objects) u

module _ (variables : List (Option ℕ)) (objects cells : List ℕ) (v used : ℕ) (l : v < length variables) (h : AreGiven variables objects cells v used) where
  left : (entry : Option ℕ) → get_or variables v None ≡ entry → drop v variables ≡ entry ∷ drop (v + 1) variables
  left entry e = drop_more variables v None l ∙ ap (λ (x : Option ℕ). x ∷ drop (v + 1) variables) e

  -- where the variable stands for x, and the others for what is left
  onward : (x : ℕ) (cells_after : List ℕ) (used_after : ℕ) → get_or cells_after v 0 ≡ x → ((k : ℕ) → k ≢ v → get_or cells_after k 0 ≡ get_or cells k 0) → length cells_after ≡ 8
      → given (drop v variables) (drop used objects) 0 ≡ x
      → ((u : ℕ) → given (drop v variables) (drop used objects) (suc u) ≡ given (drop (v + 1) variables) (drop used_after objects) u)
      → AreGiven variables objects cells_after (v + 1) used_after
  onward x cells_after used_after own others long first more = record {
    filled = record {
      len = long;
      taken = λ k lk. elim (cases_Bool (k == v)) [
        | inl t ↦ (let e = eqb-true k v t in let z : v + 0 ≡ v = omega arith in
            subst (λ (m : ℕ). get_or cells_after m 0 ≡ given variables objects m) (sym e) (own ∙ sym (subst (λ (m : ℕ). given variables objects m ≡ x) z (h.rest 0 ∙ first))))
        | inr f ↦ (let apart : k ≢ v = λ e. true≢false (sym (ap (λ (m : ℕ). m == v) e ∙ refl_eq v) ∙ f) in
            others k apart ∙ h.filled.taken k (below k lk apart))
      ];
      rest = λ k lk. others k (λ e. past k lk e) ∙ h.filled.rest k (omega (arith, lk));
    };
    rest = λ u. let m : v + 1 + u ≡ v + suc u = omega arith in ap (given variables objects) m ∙ h.rest (suc u) ∙ more u;
  }
    where
      refl_eq : (n : ℕ) → (n == n) ≡ true
      refl_eq n = search rules

      below : (k : ℕ) → k < v + 1 → k ≢ v → k < v
      below k lk apart = omega (arith, lk, apart)

      past : (k : ℕ) → v + 1 ≤ k → k ≢ v
      past k lk e = omega (arith, lk, e)

  -- the next object is the variable's
  pub AreGiven-with : length variables ≤ 8 → get_or variables v None ≡ None → used < length objects
      → AreGiven variables objects (slice_set cells v (get_or objects used 0)) (v + 1) (used + 1)
  AreGiven-with few none lu =
      let x = get_or objects used 0 in
      let long = h.filled.len in
      let both : (u : ℕ) → given (drop v variables) (drop used objects) u ≡ given (None ∷ drop (v + 1) variables) (x ∷ drop (used + 1) objects) u =
      λ u. ap₂ (λ (vs : List (Option ℕ)) (os : List ℕ). given vs os u) (left None none) (drop_more objects used 0 lu) in
      onward x (slice_set cells v x) (used + 1) (get_or-set_at cells v v x 0 refl (omega (arith, long, l, few)))
      (λ k apart. get_or-set_other cells v k x 0 apart) (length-set cells v x ∙ long) (both 0) (λ u. both (suc u))

  -- the variable gets none
  pub AreGiven-without : (get_or variables v None ≡ None → length objects ≤ used) → AreGiven variables objects cells (v + 1) used
  AreGiven-without ended = each (get_or variables v None) refl
    where
      each : (entry : Option ℕ) → get_or variables v None ≡ entry → AreGiven variables objects cells (v + 1) used
      each None e =
          let over = drop_all used objects (ended e) in
          let both : (u : ℕ) → given (drop v variables) (drop used objects) u ≡ 0 =
          λ u. ap₂ (λ (vs : List (Option ℕ)) (os : List ℕ). given vs os u) (left None e) over in
          onward 0 cells used (h.filled.rest v (omega arith)) (λ k apart. refl) h.filled.len (both 0)
          (λ u. both (suc u) ∙ sym (ap (λ (os : List ℕ). given (drop (v + 1) variables) os u) over ∙ given-none (drop (v + 1) variables) u))
      each (Some i) e =
          let both : (u : ℕ) → given (drop v variables) (drop used objects) u ≡ given (Some i ∷ drop (v + 1) variables) (drop used objects) u =
          λ u. ap (λ (vs : List (Option ℕ)). given vs (drop used objects) u) (left (Some i) e) in
          onward 0 cells used (h.filled.rest v (omega arith)) (λ k apart. refl) h.filled.len (both 0) (λ u. both (suc u))

-- at the end all are there
pub AreGiven-ended : (variables : List (Option ℕ)) (objects cells : List ℕ) (v used : ℕ) → length variables ≤ v → AreGiven variables objects cells v used
    → slice_index cells ≡ given variables objects
AreGiven-ended variables objects cells v used past h = λ j u. each u j
  where
    each : (u : ℕ) → get_or cells u 0 ≡ given variables objects u
    each u = elim (cases_lt u v) [
      | inl l ↦ h.filled.taken u l
      | inr g ↦ (let m : v + (u - v) ≡ u = omega arith in
          h.filled.rest u g ∙ sym (subst (λ (n : ℕ). given variables objects n ≡ 0) m
          (h.rest (u - v) ∙ ap (λ (vs : List (Option ℕ)). given vs (drop used objects) (u - v)) (drop_all v variables past))))
    ]

-- the literals from one place on, one by one
others_hold-at : (p : Problem) (s : State) (variables : List (Option ℕ)) (j i : ℕ) (places : Assignment) (ls : List Literal) (d : Literal) → i < length ls
    → others_hold p s variables j i places (drop i ls)
    ≡ ((i == j || has_to (literal_known p s variables i places (get_or ls i d))) && others_hold p s variables j (i + 1) places (drop (i + 1) ls))
others_hold-at p s variables j i places ls d l =
    ap (others_hold p s variables j i places) (drop_more ls i d l)
    ∙ ap (λ (n : ℕ). (i == j || has_to (literal_known p s variables i places (get_or ls i d))) && others_hold p s variables j n places (drop (i + 1) ls)) (sym (add-one i))

pub others_hold-ended : (p : Problem) (s : State) (variables : List (Option ℕ)) (j i : ℕ) (places : Assignment) (ls : List Literal) → length ls ≤ i
    → others_hold p s variables j i places (drop i ls) ≡ true
others_hold-ended p s variables j i places ls past = ap (others_hold p s variables j i places) (drop_all i ls past)

-- the loop through them: it ends at one that needn't hold, and goes on after one that has to
module _ (p : Problem) (s : State) (variables : List (Option ℕ)) (j i : ℕ) (places : Assignment) (ls : List Literal) (whole holds : Bool) (l : i < length ls)
    (so_far : whole ≡ others_hold p s variables j i places (drop i ls))
    (is : holds ≡ (i == j || has_to (literal_known p s variables i places (literal_at (record { variables = variables; literals = ls }) i)))) where
  others_hold-step : whole ≡ (holds && others_hold p s variables j (i + 1) places (drop (i + 1) ls))
  others_hold-step =
      so_far ∙ others_hold-at p s variables j i places ls (Same (Var 0) (Var 0)) l ∙ ap (λ (b : Bool). b && others_hold p s variables j (i + 1) places (drop (i + 1) ls)) (sym is)

  pub others_hold-stopped : holds ≡ false → false ≡ whole
  others_hold-stopped e = sym (others_hold-step ∙ ap (λ (b : Bool). b && others_hold p s variables j (i + 1) places (drop (i + 1) ls)) e)

  pub others_hold-next : holds ≡ true → whole ≡ others_hold p s variables j (i + 1) places (drop (i + 1) ls)
  others_hold-next e = others_hold-step ∙ ap (λ (b : Bool). b && others_hold p s variables j (i + 1) places (drop (i + 1) ls)) e

-- the parameters of a clause are among the variables that range over it
free_count-parameters : (n : ℕ) (variables : List (Option ℕ)) → list_all is_free (take n variables) ≡ true → n ≤ length variables → n ≤ free_count variables
free_count-parameters zero variables free l = omega arith
free_count-parameters (suc n) [] free l = l
free_count-parameters (suc n) (None ∷ variables) free l = let h = free_count-parameters n variables free (omega (arith, l)) in omega (arith, h)
free_count-parameters (suc n) (Some i ∷ variables) free l = absurd (true≢false (sym free))

module _ (p : Problem) (q k : ℕ) (lq : q < length p.predicates) (lk : k < length (predicate_at p.predicates q).clauses) where
  fits : FitsClause (length p.classes) (length p.references) p.objects p.predicates (predicate_at p.predicates q).arity (clause_at p q k)
  fits = let all = p.predicates_fit.clauses q no_predicate lq in all k no_clause lk

  pub few_variables : length (clause_at p q k).variables ≤ 8
  few_variables = fits.few_variables

  pub few_parameters : (predicate_at p.predicates q).arity ≤ 4
  few_parameters = p.predicates_fit.arities q no_predicate lq

  pub parameters-given : (predicate_at p.predicates q).arity ≤ free_count (clause_at p q k).variables
  parameters-given = free_count-parameters (predicate_at p.predicates q).arity (clause_at p q k).variables fits.free fits.parameters

  -- a reference that a literal of the clause calls is one of the problem
  pub HasReference-literal_at : (j : ℕ) → j < length (clause_at p q k).literals → HasReference p (literal_at (clause_at p q k) j)
  HasReference-literal_at j lj = λ negated closure r args e.
      let there = slice_get-get_or (clause_at p q k).literals j (Same (Var 0) (Var 0)) lj ∙ ap Some e in
      let fit = each-from_literals_fit p (clause_at p q k).variables (clause_at p q k).literals fits.literals j (Call negated closure (Reference r) args) there in
      ltb-true r (length p.references) (FitsCall-from_literal_fits p (clause_at p q k).variables j negated closure (Reference r) args fit).declared

-- what an open literal forces changes the state
one_way : (negated : Bool) → is_unknown (if negated then True else False) ≡ false
one_way true = refl
one_way false = refl

forced-changes : (p : Problem) (s : State) (variables : List (Option ℕ)) (places : Assignment) (l : Literal) → is_open p s variables places l ≡ true
    → has_effect s (forced_effect places l) ≡ true
forced-changes p s variables places (Call negated false (Reference r) (x ∷ y ∷ [])) ready =
    let all = and_parts _ _ ready in
    let last = and_parts _ _ all.1 in
    changes-where_unknown p s r (object_of_term places x) (object_of_term places y) (if negated then True else False) last.1 (one_way negated)
forced-changes p s variables places _ ready = absurd (true≢false (sym ready))

-- what is asked for, in the order in which it is computed, and what the effect changes
refused : (a b c d e : Bool) → (a && (b && d)) ≡ false → ((a && (b && (c && d))) && e) ≡ false
refused false b c d e h = refl
refused true false c d e h = refl
refused true true false d e h = refl
refused true true true d e h = rw h refl

fired : (a b c d e : Bool) → (a && (b && d)) ≡ true → (d ≡ true → e ≡ true) → c ≡ ((a && (b && (c && d))) && e)
fired false b c d e h change = absurd (true≢false (sym h))
fired true false c d e h change = absurd (true≢false (sym h))
fired true true c false e h change = absurd (true≢false (sym h))
fired true true false true e h change = refl
fired true true true true e h change = sym (change refl)

module _ (p : Problem) (s : State) (q k j : ℕ) (t places : List ℕ) (may : Bool) (at_given : slice_index places ≡ given (clause_at p q k).variables t)
    (is : may ≡ (is_false (asserted p (Predicate q) (origins_of s (take (predicate_at p.predicates q).arity t)))
    && (are_there s t && is_open p s (clause_at p q k).variables (slice_index places) (literal_at (clause_at p q k) j)))) where
  abbrev said : Bool
  said = is_false (asserted p (Predicate q) (origins_of s (take (predicate_at p.predicates q).arity t)))

  abbrev others : Assignment → Bool
  others chosen = others_hold p s (clause_at p q k).variables j 0 chosen (clause_at p q k).literals

  abbrev ready : Assignment → Bool
  ready chosen = is_open p s (clause_at p q k).variables chosen (literal_at (clause_at p q k) j)

  abbrev objects : Assignment
  objects = given (clause_at p q k).variables t

  abbrev changes : Bool
  changes = has_effect s (forced_effect objects (literal_at (clause_at p q k) j))

  at_objects : may ≡ (said && (are_there s t && ready objects))
  at_objects = subst (λ (chosen : Assignment). may ≡ (said && (are_there s t && ready chosen))) at_given is

  pub forced-refused : may ≡ false → false ≡ is_ready s (forced p s q k j t)
  forced-refused e = sym (refused said (are_there s t) (others objects) (ready objects) changes (sym at_objects ∙ e))

  pub forced-fires : may ≡ true → (hold : Bool) → hold ≡ others_hold p s (clause_at p q k).variables j 0 (slice_index places) (clause_at p q k).literals
      → hold ≡ is_ready s (forced p s q k j t)
  forced-fires e hold own =
      own ∙ ap others at_given
      ∙ fired said (are_there s t) (others objects) (ready objects) changes (sym at_objects ∙ e)
      (forced-changes p s (clause_at p q k).variables objects (literal_at (clause_at p q k) j))

-- How deep calls go.
use Rattle.std.proofs.Common.{◌≡◌, ℕ, zero, suc, ◌≤◌, ◌<◌, Bool, true, false, not, ◌&&◌, ◌||◌, ◌==◌, Option, List, [], ◌∷◌, length, drop, All, refl, sym, ap, ap₂, ◌∙◌, subst, inl, inr, arith, true≢false, slice_index}
use Rattle.std.specs.List.{list_any}
use Rattle.std.proofs.lemmas.Bool.{or_cases, or_left, or_right, and_parts, cases_lt, eqb-true, eq-eqb, ltb-true}
use Rattle.std.proofs.lemmas.List.{get_or_past}
use Rattle.std.proofs.lemmas.List.Elements.{All-head, All-tail}
use Rattle.rf_finite.specs.Range.{count_below}
use Rattle.rf_finite.specs.Walks.{walk_below}
use Rattle.rf_finite.proofs.Range.{count_below-apart, count_below-all, count_below-positive}
use Rattle.rf_finite.proofs.Walks.{IsReachable-from_walk_below, count_below-reachable_falls}
use Rattle.rf_problem.specs.Parts.{no_predicate, predicate_at}
use Rattle.rf_problem.specs.Reading.{Calls, Assignment, Reading, atom_true, call_true, clause_true, is_entry, literal_true, literals_true, predicate_true, some_assignment, some_elements, symbol_true}
use Rattle.rf_problem.specs.Valid.{ArePredicates, FitsClause, calls, calls_predicate, fit_literals, fits_literal, is_free}
use Rattle.rf_problem.specs.declared.class.Class.{Class}
use Rattle.rf_problem.specs.declared.object.ObjectDecl.{ObjectDecl}
use Rattle.rf_problem.specs.declared.predicate.Clause.{Clause}
use Rattle.rf_problem.specs.declared.predicate.Literal.{Literal}
use Rattle.rf_problem.specs.declared.predicate.Literal.TheVariants.{Call, Same, Differ}
use Rattle.rf_problem.specs.declared.predicate.Predicate.{Predicate}
use Rattle.rf_problem.specs.declared.predicate.Term.{Term}
use Rattle.rf_problem.specs.declared.reference.Reference.{Reference as Relation}
use Rattle.rf_problem.specs.declared.symbol.Symbol.{Symbol}
use Rattle.rf_problem.specs.declared.symbol.Symbol.TheVariants.{Class as OfClass, Reference, Predicate as Defined, Exists, Equals}

-- what is called by some literals, and by some clauses
abbrev pub literals_call : List Literal → ℕ → Bool
literals_call ls s = list_any (calls_predicate s) ls

abbrev pub clauses_call : List Clause → ℕ → Bool
clauses_call cs s = list_any (λ c. list_any (calls_predicate s) c.literals) cs

module _ (says tells : Calls) where
  -- the two say the same of predicate s
  abbrev pub Agree : ℕ → Type 0
  Agree s = (here inside : Reading) (t : List ℕ) → says here inside s t ≡ tells here inside s t

  -- where they agree on what a literal calls, they say the same of its symbol
  symbol-same : (here inside : Reading) (negated closure : Bool) (symbol : Symbol) (args : List Term) → ((s : ℕ) → calls_predicate s (Call negated closure symbol args) ≡ true → Agree s)
      → (t : List ℕ) → symbol_true says here inside symbol t ≡ symbol_true tells here inside symbol t
  symbol-same here inside negated closure (OfClass k) args agree t = refl
  symbol-same here inside negated closure (Reference r) args agree t = refl
  symbol-same here inside negated closure (Defined q) args agree t = agree q (eq-eqb q q refl) here inside t
  symbol-same here inside negated closure Exists args agree t = refl
  symbol-same here inside negated closure Equals args agree t = refl

  atom-same : (here inside : Reading) (negated closure : Bool) (symbol : Symbol) (args : List Term) → ((s : ℕ) → calls_predicate s (Call negated closure symbol args) ≡ true → Agree s)
      → (t : List ℕ) → atom_true says here inside closure symbol t ≡ atom_true tells here inside closure symbol t
  atom-same here inside negated false symbol args agree t = symbol-same here inside negated false symbol args agree t
  atom-same here inside negated true symbol args agree t =
      ap (λ (step : ℕ → ℕ → Bool). walk_below step here.present here.size (slice_index t 0) (slice_index t 1))
      (λ j x y. symbol-same here inside negated true symbol args agree (x ∷ y ∷ []) j)

  call-same : (here inside : Reading) (negated closure : Bool) (symbol : Symbol) (args : List Term) → ((s : ℕ) → calls_predicate s (Call negated closure symbol args) ≡ true → Agree s)
      → (assignment : Assignment) → call_true says here inside closure symbol assignment args ≡ call_true tells here inside closure symbol assignment args
  call-same here inside negated closure symbol args agree assignment =
      ap (λ (test : List ℕ → Bool). some_elements here assignment args test)
      (λ j t. atom-same here inside negated closure symbol args agree t j)

  literal-same : (here inside : Reading) (variables : List (Option ℕ)) (i : ℕ) (assignment : Assignment) (l : Literal) → ((s : ℕ) → calls_predicate s l ≡ true → Agree s)
      → literal_true says here inside variables i assignment l ≡ literal_true tells here inside variables i assignment l
  literal-same here inside variables i assignment (Call false closure symbol args) agree = call-same here inside false closure symbol args agree assignment
  literal-same here inside variables i assignment (Call true closure symbol args) agree =
      ap (λ (test : Assignment → Bool). not (some_assignment inside (is_entry i) variables 0 assignment test))
      (λ j chosen. call-same inside here true closure symbol args agree chosen j)
  literal-same here inside variables i assignment (Same a b) agree = refl
  literal-same here inside variables i assignment (Differ a b) agree = refl

  literals-same : (here inside : Reading) (variables : List (Option ℕ)) (i : ℕ) (assignment : Assignment) (ls : List Literal) → ((s : ℕ) → literals_call ls s ≡ true → Agree s)
      → literals_true says here inside variables i assignment ls ≡ literals_true tells here inside variables i assignment ls
  literals-same here inside variables i assignment [] agree = refl
  literals-same here inside variables i assignment (l ∷ ls) agree =
      ap₂ (λ x y. x && y)
      (literal-same here inside variables i assignment l (λ s h. agree s (or_left (calls_predicate s l) (literals_call ls s) h)))
      (literals-same here inside variables (suc i) assignment ls (λ s h. agree s (or_right (calls_predicate s l) (literals_call ls s) h)))

  -- where they agree on what a clause calls, they say the same of it
  pub clause-same : (here inside : Reading) (arity : ℕ) (t : List ℕ) (c : Clause) → ((s : ℕ) → literals_call c.literals s ≡ true → Agree s)
      → clause_true says here inside arity t c ≡ clause_true tells here inside arity t c
  clause-same here inside arity t c agree =
      ap (λ (test : Assignment → Bool). some_assignment here is_free (drop arity c.variables) arity (slice_index t) test)
      (λ j assignment. literals-same here inside c.variables 0 assignment c.literals agree j)

  -- where they agree on what some clauses call, they say the same of them
  pub clauses-same : (here inside : Reading) (arity : ℕ) (t : List ℕ) (cs : List Clause) → ((s : ℕ) → clauses_call cs s ≡ true → Agree s)
      → list_any (clause_true says here inside arity t) cs ≡ list_any (clause_true tells here inside arity t) cs
  clauses-same here inside arity t [] agree = refl
  clauses-same here inside arity t (c ∷ cs) agree =
      ap₂ (λ x y. x || y)
      (clause-same here inside arity t c (λ s h. agree s (or_left (literals_call c.literals s) (clauses_call cs s) h)))
      (clauses-same here inside arity t cs (λ s h. agree s (or_right (literals_call c.literals s) (clauses_call cs s) h)))

-- past a predicate's rank all depths say the same of it
pub predicate_true-same_depths : (predicates : List Predicate) (rank : ℕ → ℕ) → ((q s : ℕ) → calls predicates q s ≡ true → rank s < rank q)
    → (d e : ℕ) (here inside : Reading) (q : ℕ) (t : List ℕ) → rank q < d → rank q < e
    → predicate_true predicates d here inside q t ≡ predicate_true predicates e here inside q t
predicate_true-same_depths predicates rank falls zero e here inside q t l m = absurd (omega arith)
predicate_true-same_depths predicates rank falls (suc d) zero here inside q t l m = absurd (omega arith)
predicate_true-same_depths predicates rank falls (suc d) (suc e) here inside q t l m =
    clauses-same (predicate_true predicates d) (predicate_true predicates e) here inside (predicate_at predicates q).arity t (predicate_at predicates q).clauses
    (λ s c h i u. let less : rank s < rank q = falls q s c in predicate_true-same_depths predicates rank falls d e h i s u (omega arith) (omega arith))

-- where some element passes and all have a property, one that passes has it
pub one-from_All_any : {X : Type 0} (P : X → Type 0) (p : X → Bool) (xs : List X) → All P xs → list_any p xs ≡ true → (x : X) × P x × (p x ≡ true)
one-from_All_any P p [] all any = absurd (true≢false (sym any))
one-from_All_any P p (x ∷ xs) all any = elim (or_cases (p x) (list_any p xs) any) [
  | inl e ↦ (x, All-head P x xs all, e)
  | inr e ↦ one-from_All_any P p xs (All-tail P x xs all) e
]

-- a literal that fits calls a predicate that is there
calls_predicate-declared : (classes references : ℕ) (objects : List ObjectDecl) (predicates : List Predicate) (variables : List (Option ℕ)) (i s : ℕ) (l : Literal)
    → fits_literal classes references objects predicates variables i l ≡ true → calls_predicate s l ≡ true → s < length predicates
calls_predicate-declared classes references objects predicates variables i s (Call negated closure (OfClass k) args) fits c = absurd (true≢false (sym c))
calls_predicate-declared classes references objects predicates variables i s (Call negated closure (Reference r) args) fits c = absurd (true≢false (sym c))
calls_predicate-declared classes references objects predicates variables i s (Call negated closure (Defined q) args) fits c =
    subst (λ m. m < length predicates) (eqb-true q s c) (ltb-true q (length predicates) (and_parts _ _ fits).0)
calls_predicate-declared classes references objects predicates variables i s (Call negated closure Exists args) fits c = absurd (true≢false (sym c))
calls_predicate-declared classes references objects predicates variables i s (Call negated closure Equals args) fits c = absurd (true≢false (sym c))
calls_predicate-declared classes references objects predicates variables i s (Same a b) fits c = absurd (true≢false (sym c))
calls_predicate-declared classes references objects predicates variables i s (Differ a b) fits c = absurd (true≢false (sym c))

literals_call-declared : (classes references : ℕ) (objects : List ObjectDecl) (predicates : List Predicate) (variables : List (Option ℕ)) (i s : ℕ) (ls : List Literal)
    → fit_literals classes references objects predicates variables i ls ≡ true → literals_call ls s ≡ true → s < length predicates
literals_call-declared classes references objects predicates variables i s [] fits c = absurd (true≢false (sym c))
literals_call-declared classes references objects predicates variables i s (l ∷ ls) fits c =
    let parts = and_parts (fits_literal classes references objects predicates variables i l) (fit_literals classes references objects predicates variables (suc i) ls) fits in
    elim (or_cases (calls_predicate s l) (literals_call ls s) c) [
      | inl e ↦ calls_predicate-declared classes references objects predicates variables i s l parts.0 e
      | inr e ↦ literals_call-declared classes references objects predicates variables (suc i) s ls parts.1 e
    ]

-- no clauses stand where no predicate has the number
pub predicate_at-past : (predicates : List Predicate) (q : ℕ) → length predicates ≤ q → predicate_at predicates q ≡ no_predicate
predicate_at-past predicates q l = get_or_past predicates q no_predicate l

module _ (classes : List Class) (references : List Relation) (objects : List ObjectDecl) (predicates : List Predicate)
    (fit : ArePredicates classes references objects predicates) where
  -- only predicates that are there call, and are called
  pub calls-declared : (q s : ℕ) → calls predicates q s ≡ true → (q < length predicates) × (s < length predicates)
  calls-declared q s c = elim (cases_lt q (length predicates)) [
    | inl l ↦ (let one = one-from_All_any (FitsClause (length classes) (length references) objects predicates (predicate_at predicates q).arity) (λ c. literals_call c.literals s)
        (predicate_at predicates q).clauses (fit.clauses q no_predicate l) c in
        (l, literals_call-declared (length classes) (length references) objects predicates one.0.variables 0 s one.0.literals one.1.literals one.2))
    | inr g ↦ absurd (true≢false (sym (subst (λ (p : Predicate). clauses_call p.clauses s ≡ true) (predicate_at-past predicates q g) c)))
  ]

  -- how many predicates a predicate calls, directly or through others
  abbrev pub call_rank : ℕ → ℕ
  call_rank q = count_below (length predicates) (walk_below (calls predicates) (λ _. true) (length predicates) q)

  -- which falls along each call
  pub call_rank-falls : (q s : ℕ) → calls predicates q s ≡ true → call_rank s < call_rank q
  call_rank-falls q s c = let there = calls-declared q s c in
      count_below-reachable_falls (calls predicates) (length predicates) fit.no_cycle q s there.0 there.1 c

  -- and is below the number of predicates
  pub call_rank-below : (q : ℕ) → q < length predicates → call_rank q < length predicates
  call_rank-below q l =
      let n = length predicates in
      let both = count_below-apart n (walk_below (calls predicates) (λ _. true) n q) (λ s. s == q) (λ _. true) (λ k m w. refl) (λ k m w. refl)
      (λ k w e. fit.no_cycle q l (IsReachable-from_walk_below (calls predicates) (λ _. true) n q q (subst (λ m. walk_below (calls predicates) (λ _. true) n q m ≡ true) (eqb-true k q e) w))) in
      let all = count_below-all n (λ _. true) (λ k m. refl) in
      let one = count_below-positive n (λ s. s == q) q l (eq-eqb q q refl) in
      omega arith

  -- no clause of a predicate that isn't there says anything, however deep
  predicate_true-past : (d : ℕ) (here inside : Reading) (q : ℕ) (t : List ℕ) → length predicates ≤ q → predicate_true predicates d here inside q t ≡ false
  predicate_true-past zero here inside q t g = refl
  predicate_true-past (suc d) here inside q t g =
      ap (λ (p : Predicate). list_any (clause_true (predicate_true predicates d) here inside p.arity t) p.clauses) (predicate_at-past predicates q g)

  -- as deep as there are predicates is deep enough
  pub predicate_true-of_all : (d : ℕ) (here inside : Reading) (q : ℕ) (t : List ℕ) → length predicates ≤ d
      → predicate_true predicates d here inside q t ≡ predicate_true predicates (length predicates) here inside q t
  predicate_true-of_all d here inside q t l = elim (cases_lt q (length predicates)) [
    | inl m ↦ (let less = call_rank-below q m in predicate_true-same_depths predicates call_rank call_rank-falls d (length predicates) here inside q t (omega arith) less)
    | inr g ↦ predicate_true-past d here inside q t g ∙ sym (predicate_true-past (length predicates) here inside q t g)
  ]

  -- a predicate says what its clauses do
  pub predicate_true-step : (here inside : Reading) (q : ℕ) (t : List ℕ)
      → predicate_true predicates (length predicates) here inside q t
      ≡ list_any (clause_true (predicate_true predicates (length predicates)) here inside (predicate_at predicates q).arity t) (predicate_at predicates q).clauses
  predicate_true-step here inside q t = sym (predicate_true-of_all (suc (length predicates)) here inside q t (omega arith))

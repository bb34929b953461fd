-- What the filter leaves out says the same: literals, clauses and predicates.
use Rattle.std.proofs.Common.{◌≡◌, ℕ, zero, suc, ◌<◌, Bool, true, false, not, ◌&&◌, ◌||◌, Option, None, List, [], ◌∷◌, All, Contains, length, drop, slice_index, slice_index_or, nat_lt, ◌⊎◌, refl, sym, ap, ap₂, ◌∙◌, subst, inl, inr, arith, true≢false}
use Rattle.std.specs.Prelude.{take}
use Rattle.std.specs.List.{list_any, list_all}
use Rattle.std.proofs.lemmas.Bool.{and_parts, and_from, or_parts, cases_lt, lt-ltb}
use Rattle.std.proofs.lemmas.List.{get_or_past}
use Rattle.rf_finite.proofs.Range.{None-ne_Some}
use Rattle.rf_problem.specs.Parts.{arity_of, no_predicate, predicate_at}
use Rattle.rf_problem.specs.Reading.{Assignment, Calls, Reading, atom_true, call_true, clause_true, is_entry, literal_true, literals_true, predicate_true, some_elements}
use Rattle.rf_problem.specs.Valid.{FitsClause, fits_term, is_free}
use Rattle.rf_problem.specs.declared.predicate.Clause.{Clause}
use Rattle.rf_problem.specs.declared.predicate.Literal.{Literal}
use Rattle.rf_problem.specs.declared.predicate.Literal.TheVariants.{Call, Same, Differ}
use Rattle.rf_problem.specs.declared.predicate.Term.{Term}
use Rattle.rf_problem.specs.declared.problem.Problem.{Problem}
use Rattle.rf_problem.specs.declared.symbol.Symbol.{Symbol}
use Rattle.rf_problem.proofs.Choices.{is_chosen, entry-from_inner, free-from_outer, inner-from_entry, is_entry-Some, outer-from_free}
use Rattle.rf_problem.proofs.Depth.{predicate_at-past, predicate_true-step}
use Rattle.rf_problem.proofs.Fitting.{FitsCall-from_literal_fits, IsFree, literal_fits, literals_fit, may_stand-free, may_stand-parts, ranges_over-cases}
use Rattle.rf_problem.specs.Valid.{may_stand}
use Rattle.rf_renewal.specs.Changes.{Changes, asked_of, clause_may_change, has_presences, literal_may_change, terms_may_change}
use Rattle.rf_renewal.specs.Patterns.{Pattern}
use Rattle.rf_renewal.proofs.Elements.{AreAlike, Below, DifferAt, Fits, SamePresences, same_presences, some_assignment-same, some_elements-same}

-- what a list has, a longer one has
later : {X : Type 0} (y : X) (xs : List X) (x : X) → Contains xs x → Contains (y ∷ xs) x
later y xs x c = let l = c.1 in (suc c.0, omega arith, c.2)

-- what a list of one has, each list has that begins with it
widened : {X : Type 0} (y : X) (xs : List X) (x : X) → Contains (y ∷ []) x → Contains (y ∷ xs) x
widened y xs x (zero, l, e) = (0, omega arith, e)
widened y xs x (suc k, l, e) = absurd (omega arith)

first : {X : Type 0} (x : X) (xs : List X) → Contains (x ∷ xs) x
first x xs = (0, omega arith, refl)

-- a parameter ranges over the clause
parameter_free : (n : ℕ) (variables : List (Option ℕ)) (u : ℕ) → list_all is_free (take n variables) ≡ true → u < n
    → is_free (slice_index_or variables u None) ≡ true
parameter_free zero variables u h l = absurd (omega arith)
parameter_free (suc n) [] u h l = refl
parameter_free (suc n) (entry ∷ variables) zero h l =
    (and_parts (is_free entry) (list_all is_free (take n variables)) h).0
parameter_free (suc n) (entry ∷ variables) (suc u) h l = parameter_free n variables u
    (and_parts (is_free entry) (list_all is_free (take n variables)) h).1 (omega arith)

pub stands_inside : (variables : List (Option ℕ)) (i v : ℕ) → may_stand variables i true v ≡ true → IsFree variables v ⊎
    (is_chosen (is_entry i) variables 0 v ≡ true)
stands_inside variables i v h =
    let parts = may_stand-parts variables i v true h in
    elim (ranges_over-cases (slice_index_or variables v None) i parts.1) [
      | inl e ↦ inl (parts.0, e)
      | inr e ↦ inr (inner-from_entry variables i v (is_entry-Some i (slice_index_or variables v None) e))
    ]

-- where it is false that a premise and something else are so, and the premise is so, the other isn't
other_false : (x y : Bool) → (x && y) ≡ false → x ≡ true → y ≡ false
other_false true y none h = none
other_false false y none h = absurd (true≢false (sym h))

module _ (p : Problem) (origin : ℕ → ℕ) (size : ℕ) (changes : Changes) (says : Calls) (a n b m : Reading) where
  -- what a literal may ask for is said alike in both pairs of readings but for the changes, and in the pairs turned
  -- round
  pub record AskedDiffers (closure : Bool) (symbol : Symbol) : Type 0 where
    pub outside : DifferAt size (arity_of p.predicates symbol) (asked_of changes closure symbol)
        (atom_true says a n closure symbol) (atom_true says b m closure symbol)
    pub within : DifferAt size (arity_of p.predicates symbol) (asked_of changes closure symbol)
        (atom_true says n a closure symbol) (atom_true says m b closure symbol)

  -- so of all that some literals ask for
  abbrev pub LiteralsDiffer : List Literal → Type 0
  LiteralsDiffer ls = (negated closure : Bool) (symbol : Symbol) (args : List Term) → Contains ls
      (Call negated closure symbol args) → AskedDiffers closure symbol

module _ (p : Problem) (origin : ℕ → ℕ) (size : ℕ) (changes : Changes) (says : Calls) (a n b m : Reading)
    (like : AreAlike origin size changes a b) (like_inside : AreAlike origin size changes n m)
    (arity : ℕ) (t : List ℕ) (len : length t ≡ arity) (below : Below size t)
    (variables : List (Option ℕ)) (free : list_all is_free (take arity variables) ≡ true)
    (ranging : (nat_lt (length t) (length variables) && has_presences changes) ≡ false) where
  -- elements for a parameter fit nowhere inside a negation
  inner_ranges : (i u : ℕ) → is_chosen (is_entry i) variables 0 u ≡ true → u < arity → ⊥
  inner_ranges i u h l =
      let entry = entry-from_inner variables i u h in
      true≢false (sym (subst (λ o. is_free o ≡ true) entry (parameter_free arity variables u free l)))

  -- where some variable isn't a parameter, no element is present otherwise
  none_present : (u : ℕ) → u < length variables → (u < arity → ⊥) → has_presences changes ≡ false
  none_present u l past = other_false (nat_lt (length t) (length variables)) (has_presences changes) ranging
      (elim (cases_lt u arity) [
        | inl less ↦ absurd (past less)
        | inr ge ↦ lt-ltb (length t) (length variables) (omega arith)
      ])

  inner_there : (i u : ℕ) → is_chosen (is_entry i) variables 0 u ≡ true
      → SamePresences origin size changes n m like_inside
  inner_there i u h =
      let entry = entry-from_inner variables i u h in
      let within : u < length variables = elim (cases_lt u (length variables)) [
        | inl l ↦ l
        | inr ge ↦ absurd (None-ne_Some (sym (get_or_past variables u None ge) ∙ entry))
      ] in
      same_presences origin size changes n m like_inside (none_present u within (λ l. inner_ranges i u h l))

  abbrev AreKnown : Assignment → Type 0
  AreKnown s = (v : ℕ) → IsFree variables v → Fits origin size changes t v (s v)

  comparison-same : (i : ℕ) (s : Assignment) (x y : Term) (patterns : List Pattern) (tests tells : List ℕ → Bool)
      → (fits_term p.objects variables i false x && fits_term p.objects variables i false y) ≡ true → AreKnown s
      → DifferAt size 2 patterns tests tells → terms_may_change origin changes t (x ∷ y ∷ []) patterns ≡ false
      → some_elements a s (x ∷ y ∷ []) tests ≡ some_elements b s (x ∷ y ∷ []) tells
  comparison-same i s x y patterns tests tells fit known differ none =
      let parts = and_parts (fits_term p.objects variables i false x) (fits_term p.objects variables i false y) fit in
      some_elements-same origin size changes t a b like (fits_term p.objects variables i false)
      (x ∷ y ∷ []) s patterns tests tells
      (and_from (fits_term p.objects variables i false x)
      (list_all (fits_term p.objects variables i false) (y ∷ [])) parts.0
      (and_from (fits_term p.objects variables i false y) true parts.1 refl))
      (λ v k. known v (may_stand-free variables i v k)) differ none

  literal-same : (i : ℕ) (s : Assignment) (l : Literal) → literal_fits p variables i l ≡ true → AreKnown s
      → LiteralsDiffer p origin size changes says a n b m (l ∷ []) → literal_may_change origin changes t l ≡ false
      → literal_true says a n variables i s l ≡ literal_true says b m variables i s l
  literal-same i s (Call false closure symbol args) fit known differ none =
      let c = FitsCall-from_literal_fits p variables i false closure symbol args fit in
      let asked = differ false closure symbol args (first (Call false closure symbol args) []) in
      some_elements-same origin size changes t a b like (fits_term p.objects variables i false) args s
      (asked_of changes closure symbol)
      (atom_true says a n closure symbol) (atom_true says b m closure symbol) c.stand
      (λ v k. known v (may_stand-free variables i v k)) (λ w e. asked.outside w (e ∙ c.arity)) none
  literal-same i s (Call true closure symbol args) fit known differ none =
      let c = FitsCall-from_literal_fits p variables i true closure symbol args fit in
      let asked = differ true closure symbol args (first (Call true closure symbol args) []) in
      ap not (some_assignment-same origin size changes n m like_inside (is_entry i) variables 0 s
      (Fits origin size changes t) (IsFree variables)
      (λ chosen. call_true says n a closure symbol chosen args)
      (λ chosen. call_true says m b closure symbol chosen args)
      (inner_there i) known (λ u x h l. (
        l,
        λ k. (let less : u < arity = omega arith in absurd
            (inner_ranges i u h less)),
      ))
      (λ s' h. some_elements-same origin size changes t n m like_inside
      (fits_term p.objects variables i true) args s' (asked_of changes closure symbol)
      (atom_true says n a closure symbol) (atom_true says m b closure symbol) c.stand
      (λ v k. h v (stands_inside variables i v k)) (λ w e. asked.within w (e ∙ c.arity)) none))
  literal-same i s (Same x y) fit known differ none =
      comparison-same i s x y changes.sames (λ w. a.is_same (slice_index w 0) (slice_index w 1))
      (λ w. b.is_same (slice_index w 0) (slice_index w 1)) fit known like.sames none
  literal-same i s (Differ x y) fit known differ none =
      comparison-same i s x y changes.differences (λ w. a.is_different (slice_index w 0) (slice_index w 1))
      (λ w. b.is_different (slice_index w 0) (slice_index w 1))
      fit known like.differences none

  literals-same : (i : ℕ) (s : Assignment) (ls : List Literal) → literals_fit p variables i ls ≡ true → AreKnown s
      → LiteralsDiffer p origin size changes says a n b m ls → list_any
      (literal_may_change origin changes t) ls ≡ false
      → literals_true says a n variables i s ls ≡ literals_true says b m variables i s ls
  literals-same i s [] fit known differ none = refl
  literals-same i s (l ∷ ls) fit known differ none =
      let both = and_parts (literal_fits p variables i l) (literals_fit p variables (suc i) ls) fit in
      let apart = or_parts (literal_may_change origin changes t l)
      (list_any (literal_may_change origin changes t) ls) none in
      ap₂ (λ x y. x && y)
      (literal-same i s l both.0 known (λ negated closure symbol args c. differ negated closure symbol args
      (widened l ls (Call negated closure symbol args) c)) apart.0)
      (literals-same (suc i) s ls both.1 known (λ negated closure symbol args c. differ negated closure symbol args
      (later l ls (Call negated closure symbol args) c)) apart.1)

module _ (p : Problem) (origin : ℕ → ℕ) (size : ℕ) (changes : Changes) (says : Calls) (a n b m : Reading)
    (like : AreAlike origin size changes a b) (like_inside : AreAlike origin size changes n m)
    (arity : ℕ) (t : List ℕ) (len : length t ≡ arity) (below : Below size t) where
  -- a clause says the same at each tuple that the filter leaves out
  clause-same : (c : Clause) → FitsClause (length p.classes) (length p.references) p.objects p.predicates arity c
      → LiteralsDiffer p origin size changes says a n b m c.literals → clause_may_change origin changes t c ≡ false
      → clause_true says a n arity t c ≡ clause_true says b m arity t c
  clause-same c fit differ none =
      let apart = or_parts (nat_lt (length t) (length c.variables) && has_presences changes)
      (list_any (literal_may_change origin changes t) c.literals) none in
      some_assignment-same origin size changes a b like is_free (drop arity c.variables) arity (slice_index t)
      (Fits origin size changes t) (λ v. v < arity)
      (λ s. literals_true says a n c.variables 0 s c.literals) (λ s. literals_true says b m c.variables 0 s c.literals)
      (λ u h. (let outer = free-from_outer c.variables arity u h in let past = outer.0 in
      same_presences origin size changes a b like
      (none_present p origin size changes says a n b m like like_inside arity t len below c.variables fit.free apart.0 u outer.1 (λ l. omega arith))))
      (λ u l. (below u (omega arith), λ k. refl))
      (λ u x h l. (l, λ k. (let outer = (free-from_outer c.variables arity u h).0 in absurd (omega arith))))
      (λ s h. literals-same p origin size changes says a n b m like like_inside arity t len below c.variables fit.free apart.0 0 s c.literals fit.literals
      (λ v k. h v (elim (cases_lt v arity) [
        | inl l ↦ inl l
        | inr ge ↦ inr (outer-from_free c.variables arity v ge k.0 k.1)
      ])) differ apart.1)

  clauses-same : (cs : List Clause) → All (FitsClause (length p.classes)
      (length p.references) p.objects p.predicates arity) cs
      → ((c : Clause) → Contains cs c → LiteralsDiffer p origin size changes says a n b m c.literals)
      → list_any (clause_may_change origin changes t) cs ≡ false
      → list_any (clause_true says a n arity t) cs ≡ list_any (clause_true says b m arity t) cs
  clauses-same [] fit differ none = refl
  clauses-same (c ∷ cs) fit differ none =
      let apart = or_parts (clause_may_change origin changes t c)
      (list_any (clause_may_change origin changes t) cs) none in
      ap₂ (λ x y. x || y)
      (clause-same c (fit 0 c (omega arith)) (differ c (first c cs)) apart.0)
      (clauses-same cs (λ i e l. fit (suc i) e (omega arith)) (λ d at. differ d (later c cs d at)) apart.1)

-- what calls of the problem's predicates say
abbrev pub says_of : Problem → Calls
says_of p = predicate_true p.predicates (length p.predicates)

-- a predicate says the same at each tuple that the filter leaves out, where what its literals ask for is said alike
-- but for the changes
pub predicate-same : (p : Problem) (origin : ℕ → ℕ) (size : ℕ) (changes : Changes) (a n b m : Reading)
    → AreAlike origin size changes a b → AreAlike origin size changes n m
    → (q : ℕ) (t : List ℕ) → length t ≡ (predicate_at p.predicates q).arity → Below size t
    → ((c : Clause) → Contains (predicate_at p.predicates q).clauses c → LiteralsDiffer p origin size changes
    (says_of p) a n b m c.literals)
    → list_any (clause_may_change origin changes t) (predicate_at p.predicates q).clauses ≡ false
    → says_of p a n q t ≡ says_of p b m q t
predicate-same p origin size changes a n b m like like_inside q t len below differ none =
    let step = predicate_true-step p.classes p.references p.objects p.predicates p.predicates_fit a n q t in
    let step' = predicate_true-step p.classes p.references p.objects p.predicates p.predicates_fit b m q t in
    step ∙ (elim (cases_lt q (length p.predicates)) [
      | inl l ↦ clauses-same p origin size changes (says_of p) a n b m like like_inside
          (predicate_at p.predicates q).arity t len below
          (predicate_at p.predicates q).clauses (p.predicates_fit.clauses q no_predicate l) differ none
      | inr ge ↦ (let past = predicate_at-past p.predicates q ge in rw past refl)
    ] ∙ sym step')

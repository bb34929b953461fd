-- What a predicate says depends on the elements of its parameters alone.
use Rattle.std.proofs.Common.{◌≡◌, ℕ, suc, ◌<◌, Bool, true, false, not, ◌&&◌, ◌||◌, ◌==◌, Option, List, [], ◌∷◌, All, length, map, drop, slice_index, ◌⊎◌, refl, sym, ap, ap₂, ◌∙◌, inl, inr, arith, true≢false}
use Rattle.std.specs.List.{list_any, list_all}
use Rattle.std.proofs.lemmas.Bool.{and_from, and_parts, both_ways, cases_Bool, cases_lt, eqb-false, eqb-true, or_cases}
use Rattle.rf_finite.proofs.Range.{some_below-same}
use Rattle.rf_values.specs.Truth.{may, must, truth_of}
use Rattle.rf_problem.specs.Parts.{no_predicate, predicate_at}
use Rattle.rf_problem.specs.Reading.{Assignment, Calls, Choice, Reading, assign, atom_true, atoms_among, call_true, clause_true, element_of, is_entry, literal_true, literals_true, some_assignment, some_choice, some_elements}
use Rattle.rf_problem.specs.Valid.{FitsClause, fits_term, is_free}
use Rattle.rf_problem.specs.declared.predicate.Clause.{Clause}
use Rattle.rf_problem.specs.declared.predicate.Literal.{Literal}
use Rattle.rf_problem.specs.declared.predicate.Literal.TheVariants.{Call, Same, Differ}
use Rattle.rf_problem.specs.declared.predicate.Term.{Term}
use Rattle.rf_problem.specs.declared.predicate.Term.TheVariants.{Var, Atom}
use Rattle.rf_problem.specs.declared.problem.Problem.{Problem}
use Rattle.rf_problem.proofs.Choices.{is_chosen, outer-from_free}
use Rattle.rf_problem.proofs.Depth.{predicate_at-past, predicate_true-step}
use Rattle.rf_problem.proofs.Fitting.{FitsCall-from_literal_fits, IsFree, literal_fits, literals_fit, may_stand-free}
use Rattle.rf_evaluate.specs.Known.{Known, side}
use Rattle.rf_renewal.specs.Laws.{ParametersAreEnough}
use Rattle.rf_renewal.proofs.Clauses.{says_of, stands_inside}

-- assignments that agree on what is known lead on to the same
assignments-same : (a : Reading) (chosen : Option ℕ → Bool) (entries : List (Option ℕ)) (v : ℕ) (f g : Assignment)
    (Known : ℕ → Type 0) (test : Assignment → Bool)
    → ((u : ℕ) → Known u → f u ≡ g u)
    → ((f g : Assignment) → ((u : ℕ) → Known u ⊎ (is_chosen chosen entries v u ≡ true) → f u ≡ g u) → test f ≡ test g)
    → some_assignment a chosen entries v f test ≡ some_assignment a chosen entries v g test
assignments-same a chosen [] v f g Known test known k =
    k f g (λ u. elim [ inl e ↦ known u e | inr e ↦ absurd (true≢false (sym e)) ])
assignments-same a chosen (entry ∷ entries) v f g Known test known k = elim (cases_Bool (chosen entry)) [
  | inl e ↦ rw e (some_below-same a.size
      (λ x. a.present x && some_assignment a chosen entries (suc v) (assign f v x) test)
      (λ x. a.present x && some_assignment a chosen entries (suc v) (assign g v x) test)
      (λ x l. ap (λ m. a.present x && m)
      (assignments-same a chosen entries (suc v) (assign f v x) (assign g v x) (λ u. Known u ⊎ (u ≡ v)) test
      (λ u w. elim (cases_Bool (u == v)) [
        | inl at ↦ rw at refl
        | inr off ↦ rw off (elim w [ inl was ↦ known u was | inr is ↦ absurd (eqb-false u v off is) ])
      ])
      (λ f g h. k f g (λ u w. h u (elim w [
        | inl x ↦ inl (inl x)
        | inr x ↦ elim (or_cases (u == v && chosen entry) (is_chosen chosen entries (suc v) u) x) [
          | inl y ↦ inl (inr (eqb-true u v (and_parts (u == v) (chosen entry) y).0))
          | inr y ↦ inr y
        ]
      ]))))))
  | inr e ↦ rw e (assignments-same a chosen entries (suc v) f g Known test known
      (λ f g h. k f g (λ u w. h u (elim w [
        | inl x ↦ inl x
        | inr x ↦ elim (or_cases (u == v && chosen entry) (is_chosen chosen entries (suc v) u) x) [
          | inl y ↦ absurd (both_ways (chosen entry) e (and_parts (u == v) (chosen entry) y).1)
          | inr y ↦ inr y
        ]
      ]))))
]

-- terms stand for the same elements where the variables that may stand there do
terms-same : (test : Term → Bool) (f g : Assignment) (choice : Choice) (terms : List Term) → list_all test terms ≡ true
    → ((v : ℕ) → test (Var v) ≡ true → f v ≡ g v) → map (element_of f choice) terms ≡ map (element_of g choice) terms
terms-same test f g choice [] all same = refl
terms-same test f g choice (Var v ∷ terms) all same =
    let parts = and_parts (test (Var v)) (list_all test terms) all in
    ap₂ (λ (x : ℕ) (xs : List ℕ). x ∷ xs) (same v parts.0) (terms-same test f g choice terms parts.1 same)
terms-same test f g choice (Atom o ∷ terms) all same =
    let parts = and_parts (test (Atom o)) (list_all test terms) all in
    ap (λ (xs : List ℕ). choice o ∷ xs) (terms-same test f g choice terms parts.1 same)

elements-same : (test : Term → Bool) (a : Reading) (f g : Assignment) (terms : List Term) (says : List ℕ → Bool)
    → list_all test terms ≡ true → ((v : ℕ) → test (Var v) ≡ true → f v ≡ g v)
    → some_elements a f terms says ≡ some_elements a g terms says
elements-same test a f g terms says all same =
    ap (λ (tell : Choice → Bool). some_choice a (atoms_among terms) (λ o. 0) tell)
    (λ j choice. ap says (terms-same test f g choice terms all same) j)

module _ (p : Problem) (says : Calls) (a n : Reading) (variables : List (Option ℕ)) where
  abbrev Agree : Assignment → Assignment → Type 0
  Agree f g = (v : ℕ) → IsFree variables v → f v ≡ g v

  both-fit : (i : ℕ) (x y : Term) → (fits_term p.objects variables i false x && fits_term p.objects variables i false y) ≡ true
      → list_all (fits_term p.objects variables i false) (x ∷ y ∷ []) ≡ true
  both-fit i x y h =
      let parts = and_parts (fits_term p.objects variables i false x) (fits_term p.objects variables i false y) h in
      and_from (fits_term p.objects variables i false x) (list_all (fits_term p.objects variables i false) (y ∷ [])) parts.0
      (and_from (fits_term p.objects variables i false y) true parts.1 refl)

  literal-agrees : (i : ℕ) (f g : Assignment) (l : Literal) → literal_fits p variables i l ≡ true → Agree f g
      → literal_true says a n variables i f l ≡ literal_true says a n variables i g l
  literal-agrees i f g (Call false closure symbol args) fit agree =
      let c = FitsCall-from_literal_fits p variables i false closure symbol args fit in
      elements-same (fits_term p.objects variables i false) a f g args (atom_true says a n closure symbol) c.stand
      (λ v k. agree v (may_stand-free variables i v k))
  literal-agrees i f g (Call true closure symbol args) fit agree =
      let c = FitsCall-from_literal_fits p variables i true closure symbol args fit in
      ap not (assignments-same n (is_entry i) variables 0 f g (IsFree variables)
      (λ chosen. call_true says n a closure symbol chosen args) agree
      (λ f g h. elements-same (fits_term p.objects variables i true) n f g args (atom_true says n a closure symbol) c.stand
      (λ v k. h v (stands_inside variables i v k))))
  literal-agrees i f g (Same x y) fit agree =
      elements-same (fits_term p.objects variables i false) a f g (x ∷ y ∷ [])
      (λ w. a.is_same (slice_index w 0) (slice_index w 1)) (both-fit i x y fit)
      (λ v k. agree v (may_stand-free variables i v k))
  literal-agrees i f g (Differ x y) fit agree =
      elements-same (fits_term p.objects variables i false) a f g (x ∷ y ∷ [])
      (λ w. a.is_different (slice_index w 0) (slice_index w 1)) (both-fit i x y fit)
      (λ v k. agree v (may_stand-free variables i v k))

  literals-agree : (i : ℕ) (f g : Assignment) (ls : List Literal) → literals_fit p variables i ls ≡ true → Agree f g
      → literals_true says a n variables i f ls ≡ literals_true says a n variables i g ls
  literals-agree i f g [] fit agree = refl
  literals-agree i f g (l ∷ ls) fit agree =
      let both = and_parts (literal_fits p variables i l) (literals_fit p variables (suc i) ls) fit in
      ap₂ (λ x y. x && y) (literal-agrees i f g l both.0 agree) (literals-agree (suc i) f g ls both.1 agree)

module _ (p : Problem) (says : Calls) (a n : Reading) (arity : ℕ) (t u : List ℕ)
    (same : (i : ℕ) → i < arity → slice_index t i ≡ slice_index u i) where
  clause-agrees : (c : Clause) → FitsClause (length p.classes) (length p.references) p.objects p.predicates arity c
      → clause_true says a n arity t c ≡ clause_true says a n arity u c
  clause-agrees c fit =
      assignments-same a is_free (drop arity c.variables) arity (slice_index t) (slice_index u) (λ v. v < arity)
      (λ s. literals_true says a n c.variables 0 s c.literals) same
      (λ f g h. literals-agree p says a n c.variables 0 f g c.literals fit.literals (λ v free. h v (elim (cases_lt v arity) [
        | inl l ↦ inl l
        | inr ge ↦ inr (outer-from_free c.variables arity v ge free.0 free.1)
      ])))

  clauses-agree : (cs : List Clause) → All (FitsClause (length p.classes) (length p.references) p.objects p.predicates arity) cs
      → list_any (clause_true says a n arity t) cs ≡ list_any (clause_true says a n arity u) cs
  clauses-agree [] fit = refl
  clauses-agree (c ∷ cs) fit =
      ap₂ (λ x y. x || y) (clause-agrees c (fit 0 c (omega arith))) (clauses-agree cs (λ i e l. fit (suc i) e (omega arith)))

predicate-agrees : (p : Problem) (a n : Reading) (q : ℕ) (t u : List ℕ)
    → ((i : ℕ) → i < (predicate_at p.predicates q).arity → slice_index t i ≡ slice_index u i)
    → says_of p a n q t ≡ says_of p a n q u
predicate-agrees p a n q t u same =
    let step = predicate_true-step p.classes p.references p.objects p.predicates p.predicates_fit a n q t in
    let step' = predicate_true-step p.classes p.references p.objects p.predicates p.predicates_fit a n q u in
    step ∙ (elim (cases_lt q (length p.predicates)) [
      | inl l ↦ clauses-agree p (says_of p) a n (predicate_at p.predicates q).arity t u same (predicate_at p.predicates q).clauses
          (p.predicates_fit.clauses q no_predicate l)
      | inr ge ↦ (let past = predicate_at-past p.predicates q ge in rw past refl)
    ] ∙ sym step')

pub parameters_are_enough : ParametersAreEnough
parameters_are_enough k q t u same =
    ap₂ truth_of (predicate-agrees k.problem (side must k) (side may k) q t u same)
    (predicate-agrees k.problem (side may k) (side must k) q t u same)

-- Private: no public contract cites this.
-- What the parts of a clause say of what is known.
use Rattle.std.specs.Prelude.{◌≡◌, ◌<◌, ◌≤◌, ◌&&◌, ◌||◌, ◌==◌, if◌then◌else◌, not, ℕ, zero, suc, Bool, true, false, IsTrue, Option, Some, List, [], ◌∷◌, length, map, slice_get, slice_index, slice_index_or, slice_set}
use Rattle.std.specs.List.{list_any}
use Rattle.rf_finite.specs.Range.{count_below, some_below}
use Rattle.rf_finite.specs.Walks.{walk_below}
use Rattle.rf_values.specs.Truth.{conjunction, disjunction}
use Rattle.rf_values.specs.declared.truth.Truth.{Truth}
use Rattle.rf_values.specs.declared.truth.Truth.TheVariants.{False}
use Rattle.rf_problem.specs.Reading.{Assignment, Calls, Choice, Reading, assign, atom_true, clause_true, element_of, literal_true, predicate_true, some_choice, some_elements}
use Rattle.rf_problem.specs.Valid.{calls, fit_literals}
use Rattle.rf_problem.specs.declared.predicate.Clause.{Clause}
use Rattle.rf_problem.specs.declared.predicate.Literal.{Literal}
use Rattle.rf_problem.specs.declared.predicate.Literal.TheVariants.{Call}
use Rattle.rf_problem.specs.declared.predicate.Predicate.{Predicate}
use Rattle.rf_problem.specs.declared.predicate.Term.{Term}
use Rattle.rf_problem.specs.declared.problem.Problem.{Problem}
use Rattle.rf_problem.specs.declared.symbol.Symbol.{Symbol}
use Rattle.rf_problem.specs.declared.symbol.Symbol.TheVariants.{Predicate as Defined}
use Rattle.rf_evaluate.specs.Elements.{AreBelow, includes}
use Rattle.rf_evaluate.specs.declared.elements.Elements.{Elements}
use Rattle.rf_evaluate.specs.Known.{Known, declares, in_both}
use Rattle.rf_evaluate.specs.Terms.{StandFor, names_unassigned}
use Rattle.rf_evaluate.specs.declared.claim.Claim.{Claim}
use Rattle.rf_evaluate.specs.declared.claim.Claim.TheVariants.{Holds, Same as AreSame, Differ as AreDifferent}
use Rattle.rf_evaluate.specs.declared.stage.Body.{Body}
use Rattle.rf_evaluate.specs.declared.stage.Stage.{Stage}

-- what the predicates of a problem say
abbrev pub calls_of : Known → Calls
calls_of k = predicate_true k.problem.predicates (length k.problem.predicates)

-- how many predicates a predicate calls, directly or through others
abbrev pub call_rank : List Predicate → ℕ → ℕ
call_rank predicates q = count_below (length predicates) (walk_below (calls predicates) (λ _. true) (length predicates) q)

-- a symbol's calls go less deep than this
abbrev pub IsWithin : List Predicate → ℕ → Symbol → Type 0
IsWithin predicates depth (Defined q) = call_rank predicates q < depth
IsWithin predicates depth _ = Unit {0}

abbrev pub LiteralIsWithin : List Predicate → ℕ → Literal → Type 0
LiteralIsWithin predicates depth (Call negated closure symbol args) = IsWithin predicates depth symbol
LiteralIsWithin predicates depth _ = Unit {0}

abbrev pub ClaimIsWithin : List Predicate → ℕ → Claim → Type 0
ClaimIsWithin predicates depth (Holds closure symbol) = IsWithin predicates depth symbol
ClaimIsWithin predicates depth _ = Unit {0}

-- literals of a clause of the problem with these variables, whose calls go less deep than this
pub record AreSound (p : Problem) (depth : ℕ) (variables : List (Option ℕ)) (literals : List Literal) : Type 0 where
  pub few_variables : length variables ≤ 8
  pub few_literals : length literals ≤ 36
  pub fit : IsTrue (fit_literals (length p.classes) (length p.references) p.objects p.predicates variables 0 literals)
  pub within : (i : ℕ) (l : Literal) → slice_get literals i ≡ Some l → LiteralIsWithin p.predicates depth l

abbrev pub IsSoundBody : Known → Body → Type 0
IsSoundBody k b = AreSound k.problem b.depth b.variables.now b.literals.now

abbrev pub IsSoundClause : Known → ℕ → Clause → Type 0
IsSoundClause k depth c = AreSound k.problem depth c.variables c.literals

-- a literal as it stands in a body: inside its negation without it
abbrev pub standing : Bool → Literal → Literal
standing false l = l
standing true (Call negated closure symbol args) = Call false closure symbol args
standing true l = l

-- whether some present elements for the unassigned variables from v on make the assignment pass the test
abbrev pub some_unassigned : Reading → List Bool → ℕ → Assignment → (Assignment → Bool) → Bool
some_unassigned here [] v assignment test = test assignment
some_unassigned here (true ∷ more) v assignment test =
    some_below here.size (λ x. here.present x && some_unassigned here more (suc v) (assign assignment v x) test)
some_unassigned here (false ∷ more) v assignment test = some_unassigned here more (suc v) assignment test

-- whether each literal from number i on that is to be evaluated holds
abbrev pub pending_true : Calls → Reading → Reading → List (Option ℕ) → Bool → List Bool → ℕ → Assignment → List Literal → Bool
pending_true says here inside variables is_inner pending i assignment [] = true
pending_true says here inside variables is_inner pending i assignment (l ∷ ls) =
    (not (slice_index_or pending i false) || literal_true says here inside variables i assignment (standing is_inner l))
    && pending_true says here inside variables is_inner pending (suc i) assignment ls

-- whether the literals of a body that are to be evaluated hold for some elements for the variables that are unassigned
abbrev pub completes : Known → Body → Stage → Reading → Reading → Bool
completes k b s here inside =
    some_unassigned here s.unassigned 0 (slice_index s.elements)
    (λ assignment. pending_true (calls_of k) here inside b.variables.now b.is_inner s.pending 0 assignment b.literals.now)

abbrev pub completed_value : Known → Body → Stage → Truth
completed_value k b s = in_both k (completes k b s)

-- the value of literal i of a body
abbrev pub literal_value : Known → Body → ℕ → Literal → Assignment → Truth
literal_value k b i l assignment =
    in_both k (λ here inside. literal_true (calls_of k) here inside b.variables.now i assignment (standing b.is_inner l))

-- the value of a clause at a tuple
abbrev pub clause_value : Known → ℕ → List ℕ → Clause → Truth
clause_value k arity t c = in_both k (λ here inside. clause_true (calls_of k) here inside arity t c)

-- whether a claim holds at a tuple
abbrev pub claim_true : Known → Claim → List ℕ → Reading → Reading → Bool
claim_true k (Holds closure symbol) t here inside = atom_true (calls_of k) here inside closure symbol t
claim_true k AreSame t here inside = here.is_same (slice_index t 0) (slice_index t 1)
claim_true k AreDifferent t here inside = here.is_different (slice_index t 0) (slice_index t 1)

-- the value of a claim at terms: for some elements for the atoms among them
abbrev pub claim_value : Known → Claim → List Term → Assignment → Truth
claim_value k claim terms assignment =
    in_both k (λ here inside. some_elements here assignment terms (λ t. claim_true k claim t here inside))

-- the same where elements are chosen for some atoms, and some are to be chosen for these
abbrev pub claim_for : Known → Claim → List Term → List ℕ → Assignment → Choice → Truth
claim_for k claim terms atoms assignment choice =
    in_both k (λ here inside. some_choice here atoms choice (λ taken. claim_true k claim (map (element_of assignment taken) terms) here inside))

-- it is the value for some elements for these atoms, where the cells have the elements of the other terms
abbrev pub IsValueFor : Known → Claim → List Term → List ℕ → List ℕ → Truth → Type 0
IsValueFor k claim terms cells atoms value =
    (assignment : Assignment) (choice : Choice) → StandFor cells terms assignment choice → value ≡ claim_for k claim terms atoms assignment choice

-- whether what a claim says is of a symbol that is declared
abbrev pub is_sound_claim : Problem → Claim → Bool
is_sound_claim p (Holds closure symbol) = declares p symbol
is_sound_claim p AreSame = true
is_sound_claim p AreDifferent = true

-- that one of the numbers below n has what f tells of it
abbrev pub some_truth : ℕ → (ℕ → Truth) → Truth
some_truth zero f = False
some_truth (suc n) f = disjunction (some_truth n f) (f n)

-- a stage with element x for variable v, and after literal i was evaluated
abbrev pub with_element : Stage → ℕ → ℕ → Stage
with_element s v x = record { elements = slice_set s.elements v x; unassigned = slice_set s.unassigned v false; pending = s.pending }

abbrev pub without_literal : Stage → ℕ → Stage
without_literal s i = record { elements = s.elements; unassigned = s.unassigned; pending = slice_set s.pending i false }

-- a literal is left that names no unassigned variable and is false
pub record IsRefuted (k : Known) (b : Body) (s : Stage) : Type 0 where
  pub place : ℕ
  pub literal : Literal
  pub there : slice_get b.literals.now place ≡ Some literal
  pub pending : slice_index_or s.pending place false ≡ true
  pub ground : names_unassigned s.unassigned literal ≡ false
  pub refuted : literal_value k b place literal (slice_index s.elements) ≡ False

-- the elements are those among which a variable's has to be so that no literal is refuted
pub record AreCandidates (k : Known) (b : Body) (s : Stage) (v : ℕ) (elements : Elements) : Type 0 where
  pub variable : v < 8
  pub unassigned : slice_index_or s.unassigned v false ≡ true
  pub below : AreBelow k.size elements
  pub others : (x : ℕ) → x < k.size → includes elements x ≡ false → IsRefuted k b (with_element s v x)

-- that a variable has one of some elements which complete the body: an element that is present and completes the rest
abbrev pub completed_with : Known → Body → Stage → ℕ → ℕ → Truth
completed_with k b s v x = conjunction (k.presence x) (completed_value k b (with_element s v x))

-- the value of some clause at a tuple
abbrev pub some_clause_value : Known → ℕ → List ℕ → List Clause → Truth
some_clause_value k arity t clauses = in_both k (λ here inside. list_any (clause_true (calls_of k) here inside arity t) clauses)

-- that an element is present and comes from an object
abbrev pub presence_from : Known → ℕ → ℕ → Truth
presence_from k o x = if k.origin x == o then k.presence x else False

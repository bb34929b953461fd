-- What the clauses of predicates say, over a reading of the atoms: which of them hold, and over which elements variables range.
-- One evaluation serves every reading: a graph read at its nodes, and what is known of objects.
use Rattle.std.specs.Prelude.{ℕ, zero, suc, Bool, true, false, ◌==◌, if◌then◌else◌, not, ◌&&◌, Option, None, Some, List, [], ◌∷◌, map, drop, slice_index}
use Rattle.std.specs.List.{list_any}
use Rattle.rf_finite.specs.Range.{some_below}
use Rattle.rf_finite.specs.Walks.{walk_below}
use Rattle.rf_problem.specs.Parts.{predicate_at}
use Rattle.rf_problem.specs.Valid.{is_free}
use Rattle.rf_problem.specs.declared.predicate.Clause.{Clause}
use Rattle.rf_problem.specs.declared.predicate.Literal.{Literal}
use Rattle.rf_problem.specs.declared.predicate.Literal.TheVariants.{Call, Same, Differ}
use Rattle.rf_problem.specs.declared.predicate.Predicate.{Predicate}
use Rattle.rf_problem.specs.declared.predicate.Term.{Term}
use Rattle.rf_problem.specs.declared.predicate.Term.TheVariants.{Var, Atom}
use Rattle.rf_problem.specs.declared.symbol.Symbol.{Symbol}
use Rattle.rf_problem.specs.declared.symbol.Symbol.TheVariants.{Class, Reference, Predicate as Defined, Exists, Equals}

-- which atoms hold at the elements, which are the numbers below size, over which of them variables range, and from which
-- object each of them comes
pub record Reading : Type 0 where
  pub size : ℕ
  pub present : ℕ → Bool
  pub has_class : ℕ → ℕ → Bool
  pub has_edge : ℕ → ℕ → ℕ → Bool
  pub is_same : ℕ → ℕ → Bool
  pub is_different : ℕ → ℕ → Bool
  pub origin : ℕ → ℕ

-- the element that each variable stands for
abbrev pub Assignment : Type 0
Assignment = ℕ → ℕ

-- this assignment, but x for variable v
abbrev pub assign : Assignment → ℕ → ℕ → Assignment
assign assignment v x u = if u == v then x else assignment u

-- what calls of predicates say: over a reading, the reading inside negations, a predicate and a tuple
abbrev pub Calls : Type 0
Calls = Reading → Reading → ℕ → List ℕ → Bool

-- whether a symbol holds at a tuple
abbrev pub symbol_true : Calls → Reading → Reading → Symbol → List ℕ → Bool
symbol_true calls here inside (Class k) t = here.has_class k (slice_index t 0)
symbol_true calls here inside (Reference r) t = here.has_edge r (slice_index t 0) (slice_index t 1)
symbol_true calls here inside (Defined q) t = calls here inside q t
symbol_true calls here inside Exists t = false
symbol_true calls here inside Equals t = false

-- whether it does, or, with closure, whether a walk of its steps leads from the first element to the second
abbrev pub atom_true : Calls → Reading → Reading → Bool → Symbol → List ℕ → Bool
atom_true calls here inside false symbol t = symbol_true calls here inside symbol t
atom_true calls here inside true symbol t =
    walk_below (λ x y. symbol_true calls here inside symbol (x ∷ y ∷ [])) here.present here.size (slice_index t 0) (slice_index t 1)

-- whether some present elements for the variables from v on, those whose entry is chosen, make the assignment pass the test
abbrev pub some_assignment : Reading → (Option ℕ → Bool) → List (Option ℕ) → ℕ → Assignment → (Assignment → Bool) → Bool
some_assignment here chosen [] v assignment test = test assignment
some_assignment here chosen (entry ∷ entries) v assignment test =
    if chosen entry
    then some_below here.size (λ x. here.present x && some_assignment here chosen entries (suc v) (assign assignment v x) test)
    else some_assignment here chosen entries (suc v) assignment test

-- the element that is chosen for each atom
abbrev pub Choice : Type 0
Choice = ℕ → ℕ

-- the element that a term stands for
abbrev pub element_of : Assignment → Choice → Term → ℕ
element_of assignment choice (Var v) = assignment v
element_of assignment choice (Atom o) = choice o

-- the atoms among the terms
abbrev pub atoms_among : List Term → List ℕ
atoms_among [] = []
atoms_among (Var v ∷ terms) = atoms_among terms
atoms_among (Atom o ∷ terms) = o ∷ atoms_among terms

-- whether some present elements that come from these atoms make the choice pass the test
abbrev pub some_choice : Reading → List ℕ → Choice → (Choice → Bool) → Bool
some_choice here [] choice test = test choice
some_choice here (o ∷ atoms) choice test =
    some_below here.size (λ x. here.present x && (here.origin x == o && some_choice here atoms (assign choice o x) test))

-- whether the terms stand for elements that pass the test, with some choice for the atoms among them
abbrev pub some_elements : Reading → Assignment → List Term → (List ℕ → Bool) → Bool
some_elements here assignment terms test =
    some_choice here (atoms_among terms) (λ o. 0) (λ choice. test (map (element_of assignment choice) terms))

-- whether a symbol holds at terms, or with closure a walk of its steps leads from the first to the second
abbrev pub call_true : Calls → Reading → Reading → Bool → Symbol → Assignment → List Term → Bool
call_true calls here inside closure symbol assignment args =
    some_elements here assignment args (atom_true calls here inside closure symbol)

-- whether a variable ranges inside the negation of literal i
abbrev pub is_entry : ℕ → Option ℕ → Bool
is_entry i None = false
is_entry i (Some j) = i == j

-- whether literal i of a clause with these variables holds; inside a negation the readings are exchanged
abbrev pub literal_true : Calls → Reading → Reading → List (Option ℕ) → ℕ → Assignment → Literal → Bool
literal_true calls here inside variables i assignment (Call false closure symbol args) =
    call_true calls here inside closure symbol assignment args
literal_true calls here inside variables i assignment (Call true closure symbol args) =
    not (some_assignment inside (is_entry i) variables 0 assignment (λ chosen. call_true calls inside here closure symbol chosen args))
literal_true calls here inside variables i assignment (Same a b) =
    some_elements here assignment (a ∷ b ∷ []) (λ t. here.is_same (slice_index t 0) (slice_index t 1))
literal_true calls here inside variables i assignment (Differ a b) =
    some_elements here assignment (a ∷ b ∷ []) (λ t. here.is_different (slice_index t 0) (slice_index t 1))

-- whether the literals from number i on hold
abbrev pub literals_true : Calls → Reading → Reading → List (Option ℕ) → ℕ → Assignment → List Literal → Bool
literals_true calls here inside variables i assignment [] = true
literals_true calls here inside variables i assignment (l ∷ ls) =
    literal_true calls here inside variables i assignment l && literals_true calls here inside variables (suc i) assignment ls

-- whether a clause holds at a tuple: its parameters stand for the tuple's elements, and some elements for its other
-- variables make every literal hold
abbrev pub clause_true : Calls → Reading → Reading → ℕ → List ℕ → Clause → Bool
clause_true calls here inside arity t c =
    some_assignment here is_free (drop arity c.variables) arity (slice_index t)
    (λ assignment. literals_true calls here inside c.variables 0 assignment c.literals)

-- whether a predicate holds at a tuple: some clause of it does; calls go at most `depth` deep
abbrev pub predicate_true : List Predicate → ℕ → Calls
predicate_true predicates zero here inside q t = false
predicate_true predicates (suc depth) here inside q t =
    list_any (clause_true (predicate_true predicates depth) here inside (predicate_at predicates q).arity t) (predicate_at predicates q).clauses

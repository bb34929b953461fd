-- When a class, a reference or a predicate holds, in words. Elements are numbers; what stands for them is told by two
-- interpretations, one for what stands outside of negations and one for what stands inside. In a graph both are the same, and
-- the elements are its nodes.
use Rattle.std.specs.Prelude.{◌≡◌, ◌<◌, ◌≤◌, ◌↔◌, ℕ, Bool, true, false, Option, None, Some, List, [], ◌∷◌, map, length, Contains, slice_get, slice_index, slice_index_or}
use Rattle.rf_problem.specs.Parts.{predicate_at}
use Rattle.rf_problem.specs.Reading.{Assignment, Choice, Reading, element_of}
use Rattle.rf_problem.specs.declared.predicate.Clause.{Clause}
use Rattle.rf_problem.specs.declared.predicate.Literal.{Literal}
use Rattle.rf_problem.specs.declared.predicate.Literal.TheVariants.{Call, Same, Differ}
use Rattle.rf_problem.specs.declared.predicate.Predicate.{Predicate}
use Rattle.rf_problem.specs.declared.predicate.Term.{Term}
use Rattle.rf_problem.specs.declared.predicate.Term.TheVariants.{Atom}
use Rattle.rf_problem.specs.declared.problem.Problem.{Problem}
use Rattle.rf_problem.specs.declared.symbol.Symbol.{Symbol}
use Rattle.rf_problem.specs.declared.symbol.Symbol.TheVariants.{Class, Reference, Predicate as Defined}

-- at which tuples of elements each predicate holds
abbrev pub Meaning : Type 0
Meaning = ℕ → List ℕ → Bool

-- which elements there are, over which of them variables range, from which object each comes, and what holds at them
pub record Interpretation : Type 1 where
  pub IsPresent : ℕ → Type 0
  pub ComesFrom : ℕ → ℕ → Type 0
  pub HasClass : ℕ → ℕ → Type 0
  pub HasEdge : ℕ → ℕ → ℕ → Type 0
  pub AreSame : ℕ → ℕ → Type 0
  pub AreDifferent : ℕ → ℕ → Type 0
  pub says : Meaning

-- a symbol holds at a tuple: a class at an element that has it, a reference where an edge of it leads from the first element to
-- the second, a predicate by its meaning
abbrev pub SymbolHolds : Interpretation → Symbol → List ℕ → Type 0
SymbolHolds here (Class k) (x ∷ []) = here.HasClass k x
SymbolHolds here (Reference r) (x ∷ y ∷ []) = here.HasEdge r x y
SymbolHolds here (Defined q) t = here.says q t ≡ true
SymbolHolds here _ _ = ⊥

-- a list of elements leads from x to y: x, these present elements in between, and y, with a step from each to the next
abbrev pub LeadsTo : (ℕ → ℕ → Type 0) → (ℕ → Type 0) → ℕ → List ℕ → ℕ → Type 0
LeadsTo Step IsPresent x [] y = Step x y
LeadsTo Step IsPresent x (z ∷ zs) y = Step x z × IsPresent z × LeadsTo Step IsPresent z zs y

-- an atom holds: the symbol does, or, with closure, a list of at least two elements leads from the first to the second by
-- steps of the symbol
abbrev pub AtomHolds : Interpretation → Bool → Symbol → List ℕ → Type 0
AtomHolds here false symbol t = SymbolHolds here symbol t
AtomHolds here true symbol (x ∷ y ∷ []) =
    (between : List ℕ) × LeadsTo (λ a b. SymbolHolds here symbol (a ∷ b ∷ [])) here.IsPresent x between y
AtomHolds here true symbol _ = ⊥

-- for each atom among the terms a present element that comes from it is chosen, the same at all places of the atom
pub record ChoosesAtoms (here : Interpretation) (terms : List Term) (choice : Choice) : Type 0 where
  pub present : (o : ℕ) → Contains terms (Atom o) → here.IsPresent (choice o)
  pub origins : (o : ℕ) → Contains terms (Atom o) → here.ComesFrom o (choice o)

-- with some choice for the atoms among them, the elements that terms stand for have a property
abbrev pub ForSomeChoice : Interpretation → Assignment → List Term → (List ℕ → Type 0) → Type 0
ForSomeChoice here assignment terms P = (choice : Choice) × ChoosesAtoms here terms choice × P (map (element_of assignment choice) terms)

-- the chosen elements are those of the clause but for the variables that range inside the negation of literal i, for which any
-- present elements are chosen
pub record ChoosesInside (variables : List (Option ℕ)) (i : ℕ) (inside : Interpretation) (assignment chosen : Assignment) : Type 0 where
  pub own : (v : ℕ) → slice_index_or variables v None ≡ Some i → inside.IsPresent (chosen v)
  pub others : (v : ℕ) → (slice_index_or variables v None ≡ Some i → ⊥) → chosen v ≡ assignment v

-- the first two elements of a list are related
abbrev pub RelatesTwo : (ℕ → ℕ → Type 0) → List ℕ → Type 0
RelatesTwo Rel t = Rel (slice_index t 0) (slice_index t 1)

-- literal i of a clause with these variables holds at these elements; what ranges inside its negation does so over the present
-- elements of the other interpretation
abbrev pub LiteralHolds : Interpretation → Interpretation → List (Option ℕ) → ℕ → Assignment → Literal → Type 0
LiteralHolds here inside variables i assignment (Call false closure symbol args) =
    ForSomeChoice here assignment args (AtomHolds here closure symbol)
LiteralHolds here inside variables i assignment (Call true closure symbol args) =
    (chosen : Assignment) → ChoosesInside variables i inside assignment chosen
    → ForSomeChoice inside chosen args (AtomHolds inside closure symbol) → ⊥
LiteralHolds here inside variables i assignment (Same a b) = ForSomeChoice here assignment (a ∷ b ∷ []) (RelatesTwo here.AreSame)
LiteralHolds here inside variables i assignment (Differ a b) = ForSomeChoice here assignment (a ∷ b ∷ []) (RelatesTwo here.AreDifferent)

-- the parameters stand for the elements of the tuple, and each other variable that ranges over the clause for a present one
pub record StandFor (here : Interpretation) (variables : List (Option ℕ)) (t : List ℕ) (assignment : Assignment) : Type 0 where
  pub parameters : (v : ℕ) → v < length t → assignment v ≡ slice_index t v
  pub others : (v : ℕ) → length t ≤ v → v < length variables → slice_index_or variables v None ≡ None → here.IsPresent (assignment v)

-- a clause holds at a tuple: some elements for its variables make every literal hold
pub record ClauseHolds (here inside : Interpretation) (t : List ℕ) (c : Clause) : Type 0 where
  pub assignment : Assignment
  pub stand : StandFor here c.variables t assignment
  pub literals : (i : ℕ) (l : Literal) → slice_get c.literals i ≡ Some l → LiteralHolds here inside c.variables i assignment l

-- a predicate holds at a tuple: some clause of it does
abbrev pub PredicateHolds : List Predicate → Interpretation → Interpretation → ℕ → List ℕ → Type 0
PredicateHolds predicates here inside q t = (c : Clause) × Contains (predicate_at predicates q).clauses c × ClauseHolds here inside t c

-- an interpretation says of each predicate, at tuples of as many elements as it has parameters, what its clauses say
abbrev pub SaysItsClauses : List Predicate → Interpretation → Interpretation → Type 0
SaysItsClauses predicates here inside =
    (q : ℕ) (t : List ℕ) → length t ≡ (predicate_at predicates q).arity
    → (here.says q t ≡ true) ↔ PredicateHolds predicates here inside q t

-- a reading as an interpretation, with what predicates say
abbrev pub interpreted : Reading → Meaning → Interpretation
interpreted a says = record {
  IsPresent = λ x. (x < a.size) × (a.present x ≡ true);
  ComesFrom = λ o x. a.origin x ≡ o;
  HasClass = λ k x. a.has_class k x ≡ true;
  HasEdge = λ r x y. a.has_edge r x y ≡ true;
  AreSame = λ x y. a.is_same x y ≡ true;
  AreDifferent = λ x y. a.is_different x y ≡ true;
  says = says;
}

-- what predicates say in a pair of readings, outside of negations and inside: what their clauses say
pub record AreMeanings (p : Problem) (here inside : Reading) (says tells : Meaning) : Type 0 where
  pub outer : SaysItsClauses p.predicates (interpreted here says) (interpreted inside tells)
  pub inner : SaysItsClauses p.predicates (interpreted inside tells) (interpreted here says)

-- a symbol holds at a tuple in a pair of readings, by what predicates say in them; a law says that this is one thing alone
pub record HoldsIn (p : Problem) (here inside : Reading) (symbol : Symbol) (t : List ℕ) : Type 0 where
  pub says : Meaning
  pub tells : Meaning
  pub meanings : AreMeanings p here inside says tells
  pub symbol_holds : SymbolHolds (interpreted here says) symbol t

-- Which predicates, and which walks, rest on what changed.
use Rattle.std.specs.Prelude.{◌≡◌, ℕ, Bool, true, false, ◌&&◌, ◌||◌, nat_lt, List, length}
use Rattle.std.specs.List.{list_any}
use Rattle.rf_problem.specs.Parts.{predicate_at}
use Rattle.rf_problem.specs.declared.predicate.Clause.{Clause}
use Rattle.rf_problem.specs.declared.predicate.Literal.{Literal}
use Rattle.rf_problem.specs.declared.predicate.Literal.TheVariants.{Call, Same, Differ}
use Rattle.rf_problem.specs.declared.predicate.Predicate.{Predicate as Definition}
use Rattle.rf_problem.specs.declared.problem.Problem.{Problem}
use Rattle.rf_problem.specs.declared.symbol.Symbol.{Symbol}
use Rattle.rf_problem.specs.declared.symbol.Symbol.TheVariants.{Predicate}
use Rattle.rf_renewal.specs.Changes.{Changes, has_presences, is_changed_atom}
use Rattle.rf_renewal.specs.Patterns.{Pattern}

-- whether there is some pattern
abbrev pub has_some : List Pattern → Bool
has_some patterns = list_any (λ pattern. true) patterns

-- whether what a symbol says rests on what changed, where these predicates do
abbrev pub symbol_rests : Changes → (ℕ → Bool) → Symbol → Bool
symbol_rests changes resting (Predicate q) = resting q
symbol_rests changes resting symbol = has_some (changes.tuples symbol)

-- whether walks of its steps do: they lead through elements that are present
abbrev pub walks_rest : Changes → (ℕ → Bool) → Symbol → Bool
walks_rest changes resting symbol = symbol_rests changes resting symbol || has_presences changes

-- whether what a literal asks for does
abbrev pub asked_rests : Changes → (ℕ → Bool) → Bool → Symbol → Bool
asked_rests changes resting false symbol = symbol_rests changes resting symbol
asked_rests changes resting true symbol = walks_rest changes resting symbol

-- whether a literal does
abbrev pub literal_rests : (ℕ → ℕ) → Changes → (ℕ → Bool) → Literal → Bool
literal_rests origin changes resting (Call negated closure symbol args) =
    asked_rests changes resting closure symbol || list_any (is_changed_atom origin changes) args
literal_rests origin changes resting (Same a b) =
    has_some changes.sames || (is_changed_atom origin changes a || is_changed_atom origin changes b)
literal_rests origin changes resting (Differ a b) =
    has_some changes.differences || (is_changed_atom origin changes a || is_changed_atom origin changes b)

-- whether a clause of a predicate of so many parameters does
abbrev pub clause_rests : (ℕ → ℕ) → Changes → (ℕ → Bool) → ℕ → Clause → Bool
clause_rests origin changes resting arity c =
    (nat_lt arity (length c.variables) && has_presences changes)
    || list_any (literal_rests origin changes resting) c.literals

-- whether some clause of a predicate does
abbrev pub predicate_rests : (ℕ → ℕ) → Changes → (ℕ → Bool) → Definition → Bool
predicate_rests origin changes resting d = list_any (clause_rests origin changes resting d.arity) d.clauses

-- these are predicates among which each is that rests on what changed, by a clause of its own or by a predicate that
-- it calls
abbrev pub AreResting : Problem → (ℕ → ℕ) → Changes → (ℕ → Bool) → Type 0
AreResting p origin changes resting =
    (q : ℕ) → predicate_rests origin changes resting (predicate_at p.predicates q) ≡ true → resting q ≡ true

-- Private: no public contract cites this.
-- Which predicates depend on a reference: those that ask for its edges, or for those of its opposite, or that call a predicate that does.
use Rattle.std.specs.Prelude.{ℕ, zero, suc, Bool, false, ◌==◌, ◌||◌, Option, None, Some, List, length, slice_index_or}
use Rattle.std.specs.List.{list_any}
use Rattle.rf_problem.specs.Parts.{predicate_at, reference_at}
use Rattle.rf_problem.specs.declared.predicate.Clause.{Clause}
use Rattle.rf_problem.specs.declared.predicate.Literal.{Literal}
use Rattle.rf_problem.specs.declared.predicate.Literal.TheVariants.{Call}
use Rattle.rf_problem.specs.declared.predicate.Predicate.{Predicate}
use Rattle.rf_problem.specs.declared.problem.Problem.{Problem}
use Rattle.rf_problem.specs.declared.symbol.Symbol.TheVariants.{Reference, Predicate as Defined}
use Rattle.rf_prop_broken.specs.declared.dependence.Pair.{Pair}

-- a reference and its opposite, and whether a reference is one of them
abbrev pub pair_of : Problem → ℕ → Pair
pair_of p r = record { reference = r; opposite = (reference_at p.references r).opposite }

abbrev pub is_opposite : Option ℕ → ℕ → Bool
is_opposite None x = false
is_opposite (Some q) x = q == x

abbrev pub is_of : Pair → ℕ → Bool
is_of pair x = pair.reference == x || is_opposite pair.opposite x

-- whether a literal asks for edges of one of the references, or calls a predicate that passes
abbrev pub asks_for : Pair → (ℕ → Bool) → Literal → Bool
asks_for pair passes (Call negated closure (Reference r) args) = is_of pair r
asks_for pair passes (Call negated closure (Defined q) args) = passes q
asks_for pair passes _ = false

-- whether some literal of a clause, and of a predicate does
abbrev pub clause_asks : Pair → (ℕ → Bool) → Clause → Bool
clause_asks pair passes c = list_any (asks_for pair passes) c.literals

abbrev pub predicate_asks : Pair → (ℕ → Bool) → Predicate → Bool
predicate_asks pair passes d = list_any (clause_asks pair passes) d.clauses

-- whether a predicate depends on them by calls that go less than `depth` deep
abbrev pub depends : List Predicate → Pair → ℕ → ℕ → Bool
depends predicates pair zero q = false
depends predicates pair (suc depth) q = predicate_asks pair (depends predicates pair depth) (predicate_at predicates q)

-- whether it depends on a reference
abbrev pub depends_on : Problem → ℕ → ℕ → Bool
depends_on p r q = depends p.predicates (pair_of p r) (suc (length p.predicates)) q

-- whether a predicate is marked
abbrev pub is_found : List Bool → ℕ → Bool
is_found marked q = slice_index_or marked q false

-- The rules of predicates. Above each stands its line of the table: its numbers | what it asks for | what it does.
use Rattle.std.specs.Prelude.{ℕ, zero, suc, Bool, true, false, ◌==◌, ◌&&◌, ◌||◌, not, nat_le, nat_lt, if◌then◌else◌, Option, None, Some, List, [], ◌∷◌, length, map, take, slice_index_or}
use Rattle.std.specs.List.{list_all}
use Rattle.rf_finite.specs.Ends.{within}
use Rattle.rf_values.specs.Truth.{merge, must as has_to}
use Rattle.rf_values.specs.declared.truth.Truth.{Truth}
use Rattle.rf_values.specs.declared.truth.Truth.TheVariants.{False, True, Unknown}
use Rattle.rf_problem.specs.Asserted.{asserted}
use Rattle.rf_problem.specs.Parts.{predicate_at}
use Rattle.rf_problem.specs.Reading.{Assignment}
use Rattle.rf_problem.specs.Valid.{is_free}
use Rattle.rf_problem.specs.declared.predicate.Literal.{Literal}
use Rattle.rf_problem.specs.declared.predicate.Literal.TheVariants.{Call}
use Rattle.rf_problem.specs.declared.predicate.Term.{Term}
use Rattle.rf_problem.specs.declared.predicate.Term.TheVariants.{Var, Atom}
use Rattle.rf_problem.specs.declared.problem.Problem.{Problem}
use Rattle.rf_problem.specs.declared.symbol.Symbol.TheVariants.{Predicate, Reference}
use Rattle.rf_evaluate.specs.Literals as literals
pub use Rattle.rf_evaluate.specs.Literals.{clause_at, literal_at, no_clause}
use Rattle.rf_state.specs.State.{State, fact, object_of}
use Rattle.rf_state.specs.StateKnown.{state_known, value}
use Rattle.rf_rules.specs.Effects.{Instance}
use Rattle.rf_rules.specs.Words.{hi, is_error, is_false, is_unknown, lo}
use Rattle.rf_rules.specs.declared.effect.Effect.{Effect}
use Rattle.rf_rules.specs.declared.effect.Effect.TheVariants.{Close, Merge}

-- whether each of these objects has lo at least 1
abbrev pub are_there : State → List ℕ → Bool
are_there s t = list_all (λ o. nat_le 1 (lo s o)) t

abbrev pub origins_of : State → List ℕ → List ℕ
origins_of s t = map (λ o. (object_of s o).origin) t

-- broken p o.. | each object of the tuple has lo at least 1, and the merge of the asserted value of p at the origins with
--                value(p, tuple) is error
--              | closing
abbrev pub broken : Problem → State → ℕ → List ℕ → Instance
broken p s q t = record {
  holds = are_there s t && is_error (merge (asserted p (Predicate q) (origins_of s t)) (value p s q t));
  effect = Close;
}

-- the objects that are given for the variables that range over the clause, in order; the others stand for object 0
abbrev pub given : List (Option ℕ) → List ℕ → Assignment
given [] t u = 0
given (Some i ∷ entries) t zero = 0
given (Some i ∷ entries) t (suc u) = given entries t u
given (None ∷ entries) [] u = 0
given (None ∷ entries) (o ∷ t) zero = o
given (None ∷ entries) (o ∷ t) (suc u) = given entries t u

-- how many variables range over the clause
abbrev pub free_count : List (Option ℕ) → ℕ
free_count [] = 0
free_count (None ∷ entries) = suc (free_count entries)
free_count (Some i ∷ entries) = free_count entries

-- what is known of literal i of a clause with these variables at these objects
abbrev pub literal_known : Problem → State → List (Option ℕ) → ℕ → Assignment → Literal → Truth
literal_known p s variables i places literal = literals.literal_known (state_known p s) variables i places literal

-- whether the literals from number i on, but for literal j, have to hold
abbrev pub others_hold : Problem → State → List (Option ℕ) → ℕ → ℕ → Assignment → List Literal → Bool
others_hold p s variables j i places [] = true
others_hold p s variables j i places (l ∷ ls) =
    (i == j || has_to (literal_known p s variables i places l)) && others_hold p s variables j (suc i) places ls

-- the object that a term stands for; an atom stands for its object of the problem, which has the same number in each state
abbrev pub object_of_term : Assignment → Term → ℕ
object_of_term places (Var v) = places v
object_of_term places (Atom o) = o

-- whether a term may stand in the literal that is forced: a variable that isn't quantified inside a negation, or, where the literal
-- isn't negated, an atom
abbrev pub may_be_forced : State → List (Option ℕ) → Bool → Term → Bool
may_be_forced s variables negated (Var v) = is_free (slice_index_or variables v None)
may_be_forced s variables negated (Atom o) = not negated && nat_lt o (length s.objects)

abbrev pub is_same_term : Term → Term → Bool
is_same_term (Var u) (Var v) = u == v
is_same_term (Atom o) (Atom q) = o == q
is_same_term _ _ = false

-- whether a literal is a call of a reference without closure, at terms that may stand in it and that stand for one node where they
-- are the same, and the fact is unknown
abbrev pub is_open : Problem → State → List (Option ℕ) → Assignment → Literal → Bool
is_open p s variables places (Call negated false (Reference r) (t ∷ u ∷ [])) =
    (may_be_forced s variables negated t && may_be_forced s variables negated u)
    && ((not (is_same_term t u) || not (within 2 (hi s (object_of_term places t))))
    && is_unknown (fact p s r (object_of_term places t) (object_of_term places u)))
is_open p s variables places _ = false

-- what such a literal forces where all others have to hold and the clause may not
abbrev pub forced_effect : Assignment → Literal → Effect
forced_effect places (Call negated false (Reference r) (t ∷ u ∷ [])) =
    Merge r (object_of_term places t) (object_of_term places u) (if negated then True else False)
forced_effect places _ = Merge 0 0 0 Unknown

-- forced p k j o..
--   | the asserted value of p at the origins of the parameters' objects is false; each given object has lo at least 1; each literal of
--     the clause but j has must at the given objects; literal j is a call of a reference r without closure; none of its arguments is
--     quantified inside a negation, and where it is negated, none is an atom; where both are the same variable or the same atom,
--     hi(a) is at most 1; fact(r, a, b) is unknown, where a and b are their objects
--   | false merged into (r, a, b) where literal j isn't negated, true where it is
abbrev pub forced : Problem → State → ℕ → ℕ → ℕ → List ℕ → Instance
forced p s q k j t = record {
  holds =
      is_false (asserted p (Predicate q) (origins_of s (take (predicate_at p.predicates q).arity t)))
      && (are_there s t
      && (others_hold p s (clause_at p q k).variables j 0 (given (clause_at p q k).variables t) (clause_at p q k).literals
      && is_open p s (clause_at p q k).variables (given (clause_at p q k).variables t) (literal_at (clause_at p q k) j)));
  effect = forced_effect (given (clause_at p q k).variables t) (literal_at (clause_at p q k) j);
}

-- For private functions: the calls of predicates in clauses, in lists.
use Rattle.std.specs.Prelude.{ℕ, List, [], ◌∷◌, Option, None, Some, ◌==◌, Bool, ◌&&◌, ◌||◌, nat_lt, true, length, ◌≡◌, slice_index_or, ◌<◌}
use Rattle.std.specs.List.{flat_map, list_any}
use Rattle.rf_syntax.specs.declared.predicate.BodyLiteral.{BodyLiteral}
use Rattle.rf_syntax.specs.declared.predicate.BodyLiteral.TheVariants.{Call, Same, Differ}
use Rattle.rf_closure.specs.Along.{leads}
use Rattle.rf_finite.specs.Walks.{walk_below}
use Rattle.rf_clause_rules.specs.declared.calls.PredicateCall.{PredicateCall}
use Rattle.rf_names.specs.Bodies.{called_by}
use Rattle.rf_names.specs.Declarations.{Declared, PredicateDecl}

-- the call at an offset, where a predicate is called there
abbrev pub call_at : Option ℕ → ℕ → List PredicateCall
call_at None at = []
call_at (Some q) at = record { predicate = q; at = at } ∷ []

-- the calls in a literal, in a clause and in a predicate
abbrev pub calls_in : Declared → BodyLiteral → List PredicateCall
calls_in d (Call negated symbol closure args) =
    call_at (called_by d (Call negated symbol closure args)) symbol.name.at
calls_in d (Same a b) = []
calls_in d (Differ a b) = []

abbrev pub calls_among : Declared → List BodyLiteral → List PredicateCall
calls_among d clause = flat_map (calls_in d) clause

abbrev pub calls_of : Declared → PredicateDecl → List PredicateCall
calls_of d p = flat_map (calls_among d) p.clauses

-- whether a call is one of this predicate
abbrev pub is_call_of : ℕ → PredicateCall → Bool
is_call_of q c = c.predicate == q

-- whether a predicate is the one of this number, or one to which its callers lead
abbrev pub is_back_at : List (List ℕ) → ℕ → ℕ → Bool
is_back_at callers p q =
    (q == p) || (nat_lt q (length callers) && walk_below (leads callers) (λ x. true)
    (length callers) p q)

-- each list is that of the predicates that call the one of its number
pub record AreCallers (calls : List (List PredicateCall)) (callers : List (List ℕ)) : Type 0 where
  pub count : length callers ≡ length calls
  pub each : (q p : ℕ) → q < length calls → leads callers q p
      ≡ list_any (is_call_of q) (slice_index_or calls p [])

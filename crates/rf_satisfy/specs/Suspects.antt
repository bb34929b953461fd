-- Private: no public contract cites this.
-- Tuples at which what is asserted isn't satisfied, found assertion by assertion.
use Rattle.std.specs.Prelude.{ℕ, Bool, true, false, ◌&&◌, ◌==◌, Option, Some, List, [], ◌∷◌, length, map, slice_index_or}
use Rattle.std.specs.List.{list_any}
use Rattle.rf_finite.specs.Range.{some_below}
use Rattle.rf_values.specs.declared.truth.Truth.{Truth}
use Rattle.rf_values.specs.declared.truth.Truth.TheVariants.{True}
use Rattle.rf_problem.specs.Asserted.{asserted, is_literal_of, match_each, unwritten}
use Rattle.rf_problem.specs.Parts.{object_at, predicate_at, same_symbol}
use Rattle.rf_problem.specs.declared.assertion.Assertion.{Assertion}
use Rattle.rf_problem.specs.declared.problem.Problem.{Problem}
use Rattle.rf_problem.specs.declared.symbol.Symbol.{Symbol}
use Rattle.rf_problem.specs.declared.symbol.Symbol.TheVariants.{Class, Predicate}
use Rattle.rf_graph.specs.Evaluate.{holds}
use Rattle.rf_graph.specs.First.{breaks}
use Rattle.rf_graph.specs.Graph.{origin_of}
use Rattle.rf_graph.specs.declared.graph.Graph.{Graph}

-- whether what is asserted of a symbol isn't satisfied at a tuple of nodes
abbrev pub is_broken : Problem → Graph → Symbol → List ℕ → Bool
is_broken p g s t = breaks (asserted p s (map (origin_of g) t)) (holds p g s t)

-- whether what is asserted of a symbol isn't satisfied where it holds
abbrev pub is_denied_at : Problem → Graph → Symbol → List ℕ → Bool
is_denied_at p g s t = breaks (asserted p s (map (origin_of g) t)) true

-- whether the symbol holds, and what is asserted isn't satisfied by that
abbrev pub is_excess : Problem → Graph → Symbol → List ℕ → Bool
is_excess p g s t = holds p g s t && is_denied_at p g s t

-- whether what is asserted isn't satisfied, nor is this value that is stated where the origins match these arguments
abbrev pub is_suspect : Problem → Graph → Symbol → List (Option ℕ) → Truth → List ℕ → Bool
is_suspect p g s args value t =
    match_each args (map (origin_of g) t) && (breaks value (holds p g s t) && is_broken p g s t)

-- whether it isn't at a tuple where an assertion speaks of the symbol and isn't satisfied
abbrev pub is_suspect_by : Problem → Graph → Symbol → List ℕ → Assertion → Bool
is_suspect_by p g s t a = same_symbol a.symbol s && is_suspect p g s a.args a.value t

-- whether a value isn't satisfied where the symbol doesn't hold, and where it does
abbrev pub wants : Truth → Bool
wants value = breaks value false

abbrev pub denies : Truth → Bool
denies value = breaks value true

-- the same by an assertion that wants the symbol to hold
abbrev pub is_lack_by : Problem → Graph → Symbol → List ℕ → Assertion → Bool
is_lack_by p g s t a = wants a.value && is_suspect p g s a.args a.value t

-- whether it isn't, nor is a value that is asserted there unwritten
abbrev pub is_unwritten_at : Problem → Graph → Symbol → List ℕ → Bool
is_unwritten_at p g s t =
    list_any (λ v. breaks v (holds p g s t)) (unwritten p s (map (origin_of g) t)) && is_broken p g s t

-- the same where the symbol is a class
abbrev pub is_stray : Problem → Graph → Symbol → List ℕ → Bool
is_stray p g (Class c) t = is_unwritten_at p g (Class c) t
is_stray p g s t = false

-- whether what is asserted of class c isn't satisfied at a node of object o, which is a literal of it
abbrev pub is_stray_from : Problem → Graph → ℕ → ℕ → List ℕ → Bool
is_stray_from p g c o t = is_literal_of (object_at p.objects o).kind c && is_suspect p g (Class c) (Some o ∷ []) True t

-- the same at a node of one of the first n objects
abbrev pub is_stray_among : Problem → Graph → ℕ → ℕ → List ℕ → Bool
is_stray_among p g c n t = some_below n (λ o. is_stray_from p g c o t)

-- an assertion by its number
abbrev pub no_assertion : Symbol → Assertion
no_assertion s = record { is_default = false; symbol = s; args = []; value = True }

abbrev pub assertion_at : Problem → Symbol → ℕ → Assertion
assertion_at p s i = slice_index_or p.assertions i (no_assertion s)

-- whether the assertion of a number speaks of a symbol
abbrev pub speaks_at : Problem → Symbol → ℕ → Bool
speaks_at p s i = same_symbol (assertion_at p s i).symbol s

-- whether a predicate is one, and must hold nowhere
abbrev pub is_error_symbol : Problem → Symbol → Bool
is_error_symbol p (Predicate q) = (predicate_at p.predicates q).is_error
is_error_symbol p s = false

-- the test of a search for tuples at which a predicate holds though that isn't satisfied
abbrev pub is_denied_tuple : Problem → Graph → Symbol → ℕ → List ℕ → Bool
is_denied_tuple p g s n t = (length t == n) && is_denied_at p g s t

-- Private: no public contract cites this.
-- Where assertions say that a predicate holds, or that it doesn't.
use Rattle.std.specs.Prelude.{◌≡◌, ◌<◌, ◌++◌, ℕ, Bool, true, false, ◌&&◌, ◌||◌, Option, List, All, length}
use Rattle.std.specs.List.{list_any}
use Rattle.rf_values.specs.declared.truth.Truth.{Truth}
use Rattle.rf_values.specs.declared.truth.Truth.TheVariants.{True, False, Unknown, Error}
use Rattle.rf_problem.specs.Asserted.{match_each}
use Rattle.rf_problem.specs.Parts.{predicate_at, same_symbol}
use Rattle.rf_problem.specs.declared.assertion.Assertion.{Assertion}
use Rattle.rf_problem.specs.declared.problem.Problem.{Problem}
use Rattle.rf_problem.specs.declared.symbol.Symbol.TheVariants.{Predicate as Defined}
use Rattle.rf_state.specs.State.{State}
use Rattle.rf_rules.specs.Predicates.{origins_of}
use Rattle.rf_rules.specs.Words.{is_false}

-- whether a truth says that something holds, perhaps among other things
abbrev pub has_true : Truth → Bool
has_true True = true
has_true Error = true
has_true False = false
has_true Unknown = false

-- whether an assertion speaks of a predicate, says that it holds, and says that it doesn't
abbrev pub speaks : ℕ → Assertion → Bool
speaks q a = same_symbol a.symbol (Defined q)

abbrev pub affirms : ℕ → Assertion → Bool
affirms q a = speaks q a && has_true a.value

abbrev pub denies : ℕ → Assertion → Bool
denies q a = speaks q a && is_false a.value

-- whether it can be asserted of the predicate that it doesn't hold
abbrev pub is_deniable : Problem → ℕ → Bool
is_deniable p q = (predicate_at p.predicates q).is_error || list_any (denies q) p.assertions

-- whether some assertion says of a tuple of the problem's objects that it holds
abbrev pub is_affirmed_by : ℕ → List ℕ → Assertion → Bool
is_affirmed_by q t a = affirms q a && match_each a.args t

abbrev pub is_affirmed : Problem → ℕ → List ℕ → Bool
is_affirmed p q t = list_any (is_affirmed_by q t) p.assertions

-- the list goes on from these objects with objects whose origins the arguments match
pub record Matches (s : State) (objects : List ℕ) (args : List (Option ℕ)) (t : List ℕ) : Type 0 where
  pub rest : List ℕ
  pub same : t ≡ objects ++ rest
  pub there : All (λ o. o < length s.objects) rest
  pub matching : match_each args (origins_of s rest) ≡ true

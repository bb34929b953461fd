-- What may be known otherwise than before, and at which tuples a predicate may therefore say something else, and from
-- which elements walks may lead elsewhere.
use Rattle.std.specs.Prelude.{ℕ, Bool, true, false, ◌==◌, ◌&&◌, ◌||◌, nat_lt, if◌then◌else◌, List, [], ◌∷◌, length}
use Rattle.std.specs.List.{list_any}
use Rattle.rf_finite.specs.Range.{some_below}
use Rattle.rf_values.specs.Truth.{may, must}
use Rattle.rf_problem.specs.Parts.{predicate_at}
use Rattle.rf_problem.specs.declared.predicate.Clause.{Clause}
use Rattle.rf_problem.specs.declared.predicate.Literal.{Literal}
use Rattle.rf_problem.specs.declared.predicate.Literal.TheVariants.{Call, Same, Differ}
use Rattle.rf_problem.specs.declared.predicate.Term.{Term}
use Rattle.rf_problem.specs.declared.predicate.Term.TheVariants.{Var, Atom}
use Rattle.rf_problem.specs.declared.symbol.Symbol.{Symbol}
use Rattle.rf_evaluate.specs.Known.{Known, walk_of}
use Rattle.rf_renewal.specs.Patterns.{Pattern, match_some, may_match}

-- the elements that may be present otherwise than before; for each symbol the tuples at which it may hold otherwise,
-- and the pairs between which walks of its steps may lead otherwise; the pairs that may be the same, and different,
-- otherwise
pub record Changes : Type 0 where
  pub presences : List ℕ
  pub tuples : Symbol → List Pattern
  pub walks : Symbol → List Pattern
  pub sames : List Pattern
  pub differences : List Pattern

-- what a literal with or without closure asks for
abbrev pub asked_of : Changes → Bool → Symbol → List Pattern
asked_of changes closure symbol = if closure then changes.walks symbol else changes.tuples symbol

-- whether some element may be present otherwise
abbrev pub has_presences : Changes → Bool
has_presences changes = list_any (λ x. true) changes.presences

-- whether a term is an atom from which such an element comes
abbrev pub is_changed_atom : (ℕ → ℕ) → Changes → Term → Bool
is_changed_atom origin changes (Var v) = false
is_changed_atom origin changes (Atom o) = list_any (λ x. origin x == o) changes.presences

-- whether terms may stand for a tuple of one of these patterns, or for an element that is present otherwise
abbrev pub terms_may_change : (ℕ → ℕ) → Changes → List ℕ → List Term → List Pattern → Bool
terms_may_change origin changes t terms patterns =
    list_any (may_match origin t terms) patterns || list_any (is_changed_atom origin changes) terms

-- whether a literal may hold otherwise, in a clause that is asked at tuple t
abbrev pub literal_may_change : (ℕ → ℕ) → Changes → List ℕ → Literal → Bool
literal_may_change origin changes t (Call negated closure symbol args) =
    terms_may_change origin changes t args (asked_of changes closure symbol)
literal_may_change origin changes t (Same a b) = terms_may_change origin changes t (a ∷ b ∷ []) changes.sames
literal_may_change origin changes t (Differ a b) = terms_may_change origin changes t (a ∷ b ∷ []) changes.differences

-- whether a clause may: one of its variables ranges over elements, and which of them are present may have changed, or
-- one of its literals may hold otherwise
abbrev pub clause_may_change : (ℕ → ℕ) → Changes → List ℕ → Clause → Bool
clause_may_change origin changes t c =
    (nat_lt (length t) (length c.variables) && has_presences changes)
    || list_any (literal_may_change origin changes t) c.literals

-- the filter of tuples: whether a predicate may say something else at a tuple
abbrev pub may_change : Known → Changes → ℕ → List ℕ → Bool
may_change k changes q t = list_any (clause_may_change k.origin changes t) (predicate_at k.problem.predicates q).clauses

-- whether an element is another or walks of a symbol's steps lead to it, where they have to or where they can
abbrev pub is_within_reach : Known → Symbol → ℕ → ℕ → Bool
is_within_reach k symbol x u = u == x || (must (walk_of k symbol x u) || may (walk_of k symbol x u))

-- whether walks may go on otherwise from an element: it may be present otherwise, or steps from it may lead elsewhere
abbrev pub may_go_on_otherwise : Known → Changes → Symbol → ℕ → Bool
may_go_on_otherwise k changes symbol u =
    list_any (λ x. x == u) changes.presences
    || some_below k.size (λ y. match_some (changes.tuples symbol) (u ∷ y ∷ []))

-- the filter of rows: whether walks of a symbol's steps from an element may lead elsewhere
abbrev pub row_may_change : Known → Changes → Symbol → ℕ → Bool
row_may_change k changes symbol x =
    some_below k.size (λ u. is_within_reach k symbol x u && may_go_on_otherwise k changes symbol u)

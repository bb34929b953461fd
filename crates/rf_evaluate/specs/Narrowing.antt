-- Private: no public contract cites this.
-- Which elements a literal that asks for an edge leaves for a variable.
use Rattle.std.specs.Prelude.{◌≡◌, ◌<◌, ℕ, Bool, true, false, Option, List, length, slice_index, slice_index_or, slice_set}
use Rattle.rf_values.specs.declared.truth.Truth.TheVariants.{False}
use Rattle.rf_problem.specs.Reading.{literal_true}
use Rattle.rf_problem.specs.declared.predicate.Literal.{Literal}
use Rattle.rf_problem.specs.declared.predicate.Literal.TheVariants.{Call}
use Rattle.rf_problem.specs.declared.predicate.Term.{Term}
use Rattle.rf_problem.specs.declared.predicate.Term.TheVariants.{Var, Atom}
use Rattle.rf_problem.specs.declared.problem.Problem.{Problem}
use Rattle.rf_evaluate.specs.Elements.{AreBelow, includes}
use Rattle.rf_evaluate.specs.Evaluating.{calls_of}
use Rattle.rf_evaluate.specs.Known.{Known, declares, in_both}
use Rattle.rf_evaluate.specs.Terms.{names_unassigned}
use Rattle.rf_evaluate.specs.declared.elements.Elements.{Elements}
use Rattle.rf_evaluate.specs.declared.stage.Stage.{Stage}

-- no element but x comes from object o
abbrev pub IsOnlyElement : Known → ℕ → ℕ → Type 0
IsOnlyElement k o x = (y : ℕ) → y < k.size → k.origin y ≡ o → y ≡ x

-- a term stands for element x, whatever the unassigned variables stand for
abbrev pub IsAnchor : Known → Stage → Term → ℕ → Type 0
IsAnchor k s (Var v) x = (slice_index_or s.unassigned v false ≡ false) × (slice_index s.elements v ≡ x)
IsAnchor k s (Atom o) x = IsOnlyElement k o x

-- a term is variable v, which is to get its element
pub record AwaitsElement (s : Stage) (t : Term) (v : ℕ) : Type 0 where
  pub term : t ≡ Var v
  pub few : v < 8
  pub place : v < length s.elements
  pub unassigned : slice_index_or s.unassigned v false ≡ true

-- variable v is unassigned, and with any element but these for it a literal is false, which names no other unassigned variable
pub record Narrows (k : Known) (s : Stage) (l : Literal) (v : ℕ) (elements : Elements) : Type 0 where
  pub few : v < 8
  pub unassigned : slice_index_or s.unassigned v false ≡ true
  pub below : AreBelow k.size elements
  pub ground : names_unassigned (slice_set s.unassigned v false) l ≡ false
  pub others : (x : ℕ) → x < k.size → includes elements x ≡ false → (i : ℕ) (variables : List (Option ℕ))
      → in_both k (λ here inside. literal_true (calls_of k) here inside variables i (slice_index (slice_set s.elements v x)) l) ≡ False

-- whether the symbol that a literal calls is there
abbrev pub declares_called : Problem → Literal → Bool
declares_called p (Call negated closure symbol args) = declares p symbol
declares_called p _ = true

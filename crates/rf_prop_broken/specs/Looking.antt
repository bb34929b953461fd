-- Private: no public contract cites this.
-- The search for objects at which a literal of a clause is forced.
use Rattle.std.specs.Prelude.{◌≡◌, ◌≢◌, ◌<◌, ◌≤◌, ℕ, suc, Bool, true, false, ◌==◌, not, if◌then◌else◌, Option, None, Some, List, [], ◌∷◌, length, slice_index, slice_index_or}
use Rattle.rf_values.specs.Truth.{must as has_to}
use Rattle.rf_values.specs.declared.truth.Truth.TheVariants.{False}
use Rattle.rf_problem.specs.Parts.{predicate_at}
use Rattle.rf_problem.specs.Reading.{Assignment}
use Rattle.rf_problem.specs.declared.problem.Problem.{Problem}
use Rattle.rf_evaluate.specs.Elements.{AreBelow, includes}
use Rattle.rf_evaluate.specs.declared.elements.Elements.{Elements}
use Rattle.rf_state.specs.State.{State, fact}
use Rattle.rf_state.specs.Values.{may_have_node}
use Rattle.rf_rules.specs.Predicates.{clause_at, given, is_open, literal_at, literal_known}
use Rattle.rf_rules.specs.Words.{lo}
use Rattle.rf_prop_broken.specs.Best.{fires_at}
use Rattle.rf_prop_broken.specs.declared.choice.Choice.{Choice}
use Rattle.rf_prop_broken.specs.declared.edge.Edge.{Edge}
use Rattle.rf_prop_broken.specs.declared.instances.Instances.TheVariants.{Forced}

-- each object that has to have a node may have one
abbrev pub MayBeThere : State → Type 0
MayBeThere s = (o : ℕ) → o < length s.objects → 1 ≤ lo s o → may_have_node s o ≡ true

-- there is a literal of these numbers
pub record IsLiteral (p : Problem) (q k j : ℕ) : Type 0 where
  pub predicate : q < length p.predicates
  pub clause : k < length (predicate_at p.predicates q).clauses
  pub literal : j < length (clause_at p q k).literals

-- whether literal i keeps literal j from being forced where the variables stand for these objects: literal j itself where it isn't
-- open, another where it needn't hold
abbrev pub fails_at : Problem → State → ℕ → ℕ → ℕ → ℕ → Assignment → Bool
fails_at p s q k j i places =
    if i == j
    then not (is_open p s (clause_at p q k).variables places (literal_at (clause_at p q k) i))
    else not (has_to (literal_known p s (clause_at p q k).variables i places (literal_at (clause_at p q k) i)))

-- an assignment has the objects that are chosen, and a list of objects gives it
abbrev pub HasChosen : Choice → Assignment → Type 0
HasChosen choice places = (v : ℕ) → slice_index_or choice.waiting v false ≡ false → places v ≡ slice_index choice.places v

abbrev pub GoesOn : List (Option ℕ) → Choice → List ℕ → Type 0
GoesOn variables choice t = HasChosen choice (given variables t)

-- the variable waits, and its object is one of these wherever an edge can lead from the object of one variable to that of the other
pub record Leads (p : Problem) (s : State) (edge : Edge) (choice : Choice) (v : ℕ) (elements : Elements) : Type 0 where
  pub few : v < 8
  pub waiting : slice_index_or choice.waiting v false ≡ true
  pub below : AreBelow (length s.objects) elements
  pub includes : (places : Assignment) → HasChosen choice places → places v < length s.objects
      → fact p s edge.reference (places edge.from) (places edge.to) ≢ False → includes elements (places v) ≡ true
  pub some : 0 < length s.objects

-- and wherever the literal is forced
pub record IsNext (p : Problem) (s : State) (q k j : ℕ) (choice : Choice) (v : ℕ) (elements : Elements) : Type 0 where
  pub few : v < 8
  pub waiting : slice_index_or choice.waiting v false ≡ true
  pub below : AreBelow (length s.objects) elements
  pub includes : (t : List ℕ) → GoesOn (clause_at p q k).variables choice t → fires_at p s (Forced q k j) t ≡ true
      → includes elements (given (clause_at p q k).variables t v) ≡ true

-- the objects of the variables that range over a clause, in order
abbrev pub collected : List (Option ℕ) → Assignment → List ℕ
collected [] places = []
collected (None ∷ entries) places = places 0 ∷ collected entries (λ v. places (suc v))
collected (Some i ∷ entries) places = collected entries (λ v. places (suc v))

-- What an effect says of a graph whose nodes each come from an object of a state: where that is so of a graph, the graph is one of the
-- state after the effect too.
use Rattle.std.specs.Prelude.{◌≡◌, ℕ, ◌<◌, ◌≤◌, true, ◌==◌}
use Rattle.std.specs.FinSet.{contains}
use Rattle.rf_finite.specs.Range.{count_below}
use Rattle.rf_values.specs.Truth.{keeps}
use Rattle.rf_graph.specs.Graph.{class_of, has_edge, size_of}
use Rattle.rf_graph.specs.declared.graph.Graph.{Graph}
use Rattle.rf_rules.specs.declared.effect.Effect.{Effect}
use Rattle.rf_rules.specs.declared.effect.Effect.TheVariants.{Close, AtMost, AtLeast, Keep, Lose, Merge}

-- the object from which each node comes
abbrev pub Placing : Type 0
Placing = ℕ → ℕ

-- node x comes from object o, and how many nodes do
abbrev pub IsNodeOf : Graph → Placing → ℕ → ℕ → Type 0
IsNodeOf g placing o x = (x < size_of g) × (placing x ≡ o)

abbrev pub nodes_at : Graph → Placing → ℕ → ℕ
nodes_at g placing o = count_below (size_of g) (λ x. placing x == o)

-- a closing says that there is no such graph; a bound on a count, that so many nodes come from o; a bound on candidates, that each
-- node of o has a class that is kept, or none that is lost; a merged fact, that each pair of nodes of the two objects keeps it
abbrev pub Claims : Graph → Placing → Effect → Type 0
Claims g placing Close = ⊥
Claims g placing (AtMost o n) = nodes_at g placing o ≤ n
Claims g placing (AtLeast o n) = n ≤ nodes_at g placing o
Claims g placing (Keep o set) = (x : ℕ) → IsNodeOf g placing o x → contains set (class_of g x) ≡ true
Claims g placing (Lose o set) = (x : ℕ) → IsNodeOf g placing o x → contains set (class_of g x) ≡ true → ⊥
Claims g placing (Merge r a b v) = (x y : ℕ) → IsNodeOf g placing a x → IsNodeOf g placing b y → keeps v (has_edge g r x y) ≡ true

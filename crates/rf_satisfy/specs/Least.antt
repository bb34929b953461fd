-- Of a list of edges the first by reference and then by ends, among those that fail a test.
use Rattle.std.specs.Prelude.{◌≡◌, ◌==◌, ◌&&◌, ◌||◌, nat_lt, Bool, true, false, if◌then◌else◌, Option, None, Some, List, All}
use Rattle.std.specs.List.{list_any}
use Rattle.rf_graph.specs.declared.graph.Edge.{Edge}
use Rattle.rf_satisfy.specs.Edges.{is_edge}

-- whether edge e comes before edge f: by reference, then by the node that it leads from, then by the other
abbrev pub comes_before : Edge → Edge → Bool
comes_before e f =
    nat_lt e.reference f.reference
    || (e.reference == f.reference && (nat_lt e.from f.from || (e.from == f.from && nat_lt e.to f.to)))

-- the earlier of the two, where there are two
abbrev pub earlier : Option Edge → Edge → Option Edge
earlier None e = Some e
earlier (Some f) e = if comes_before e f then Some e else Some f

-- edge e is of the list and fails, and none that fails comes before it
pub record IsLeast (fails : Edge → Bool) (edges : List Edge) (e : Edge) : Type 0 where
  pub there : list_any (is_edge e.reference e.from e.to) edges ≡ true
  pub itself : fails e ≡ true
  pub first : All (λ f. fails f ≡ true → comes_before f e ≡ false) edges

-- it is the first that fails, or none does
abbrev pub IsFirstFailing : (Edge → Bool) → List Edge → Option Edge → Type 0
IsFirstFailing fails edges None = All (λ f. fails f ≡ false) edges
IsFirstFailing fails edges (Some e) = IsLeast fails edges e

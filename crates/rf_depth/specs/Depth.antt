-- How many decisions can be taken one after another where a scope bounds all nodes.
use Rattle.std.specs.Prelude.{◌≡◌, ℕ, zero, suc, ◌+◌, ◌*◌, ◌<◌, Bool, true, not, ◌&&◌, if◌then◌else◌, Option, None, Some, is_some, List, length}
use Rattle.std.specs.Option.{option_map}
use Rattle.rf_finite.specs.Range.{count_below}
use Rattle.rf_values.specs.Count.{lesser_end}
use Rattle.rf_problem.specs.Classes.{is_concrete}
use Rattle.rf_problem.specs.Parts.{scope_at}
use Rattle.rf_problem.specs.declared.problem.Problem.{Problem}
use Rattle.rf_problem.specs.declared.scope.Scope.{Scope}

-- whether a scope counts all nodes: it is one on `node` with `=`
abbrev pub counts_all : Scope → Bool
counts_all z = not (is_some z.class) && not z.only_new

-- the upper end of such a scope; none of another
abbrev pub end_of : Scope → Option ℕ
end_of z = if counts_all z then z.range.hi else None

-- the least of these ends of the first n scopes, and of all; none where none has one
abbrev pub node_end_below : List Scope → ℕ → Option ℕ
node_end_below scopes zero = None
node_end_below scopes (suc n) = lesser_end (node_end_below scopes n) (end_of (scope_at scopes n))

abbrev pub node_end : List Scope → Option ℕ
node_end scopes = node_end_below scopes (length scopes)

-- n is the upper end of some scope that counts all nodes
abbrev pub IsEndOfSome : List Scope → ℕ → Type 0
IsEndOfSome scopes n =
    (z : ℕ) × (z < length scopes) × (counts_all (scope_at scopes z) ≡ true) × ((scope_at scopes z).range.hi ≡ Some n)

abbrev pub concrete_classes : Problem → ℕ
concrete_classes p = count_below (length p.classes) (is_concrete p.classes)

-- with at most n nodes: n objects can be made, each object of the problem ended, n nodes lose each class that nodes
-- may have, and each edge of each reference between n nodes be settled
abbrev pub depth_with : Problem → ℕ → ℕ
depth_with p n = n + (length p.objects + (n * concrete_classes p + length p.references * (n * n)))

-- of a problem: with as many nodes as that least end; none where there is no such end
abbrev pub depth : Problem → Option ℕ
depth p = option_map (depth_with p) (node_end p.scopes)

-- Which decision is taken in a state, and which of its sides leads.
use Rattle.std.specs.Prelude.{ℕ, Bool, true, false, ◌==◌, ◌/◌, ◌%◌, if◌then◌else◌, nat_le, Option, None, Some, List, [], ◌∷◌, length, slice_index_or}
use Rattle.std.specs.Option.{is_none}
use Rattle.rf_finite.specs.Passing.{joined}
use Rattle.rf_problem.specs.declared.problem.Problem.{Problem}
use Rattle.rf_state.specs.State.{State}
use Rattle.rf_rules.specs.Decisions.{allowed}
use Rattle.rf_rules.specs.Words.{hi, lo}
use Rattle.rf_rules.specs.declared.decision.Decision.{Decision}
use Rattle.rf_rules.specs.declared.decision.Decision.TheVariants.{Fresh, Kind, Ref}
use Rattle.rf_decide.specs.declared.first_group.Choices.{Choices}
use Rattle.rf_decide.specs.declared.first_group.Choices.TheVariants.{Group, Nothing}

-- a decision, where it is allowed
abbrev pub if_allowed : Problem → State → Decision → List Decision
if_allowed p s d = if allowed p s d then d ∷ [] else []

-- the allowed decisions on fresh objects, by object
abbrev pub allowed_fresh : Problem → State → List Decision
allowed_fresh p s = joined (length s.objects) (λ o. if_allowed p s (Fresh o))

-- those on the class of an object, by class, and on the classes of all objects
abbrev pub kinds_of : Problem → State → ℕ → List Decision
kinds_of p s o = joined (length p.classes) (λ c. if_allowed p s (Kind o c))

abbrev pub allowed_kinds : Problem → State → List Decision
allowed_kinds p s = joined (length s.objects) (kinds_of p s)

-- those on the edges of a reference from an object, by the object to which they lead; of a reference; and of all references
abbrev pub edges_from : Problem → State → ℕ → ℕ → List Decision
edges_from p s r a = joined (length s.objects) (λ b. if_allowed p s (Ref r a b))

abbrev pub edges_of : Problem → State → ℕ → List Decision
edges_of p s r = joined (length s.objects) (edges_from p s r)

abbrev pub allowed_edges : Problem → State → List Decision
allowed_edges p s = joined (length p.references) (edges_of p s)

-- a group of decisions, by its number
abbrev pub group : Problem → State → ℕ → List Decision
group p s number = if number == 0 then allowed_fresh p s else (if number == 1 then allowed_kinds p s else allowed_edges p s)

-- the number of the first group that has a decision, or of the last
abbrev pub group_number : Problem → State → ℕ
group_number p s =
    if length (allowed_fresh p s) == 0 then (if length (allowed_kinds p s) == 0 then 2 else 1) else 0

-- the decisions of that group, in order; there is none exactly where no decision is allowed
abbrev pub members : Problem → State → List Decision
members p s = group p s (group_number p s)

abbrev pub choices_in : Problem → State → Choices
choices_in p s = if length (members p s) == 0 then Nothing else Group (group_number p s) (length (members p s))

-- what stands where there is no decision
abbrev pub no_decision : Decision
no_decision = Fresh 0

-- the decision at a place among them
abbrev pub member_at : Problem → State → ℕ → Decision
member_at p s k = slice_index_or (members p s) k no_decision

-- whether the first side of a decision leads, by a word: of a fresh object where one has to be there, and not where there may be any
-- number; of an edge once in eight times; otherwise where the word is even
abbrev pub leads : State → Decision → ℕ → Bool
leads s (Fresh o) w = if nat_le 1 (lo s o) then true else (if is_none (hi s o) then false else w % 2 == 0)
leads s (Kind o c) w = w % 2 == 0
leads s (Ref r a b) w = w % 8 == 0

-- the decision that a word takes, with whether its first side leads; none where no decision is allowed
abbrev pub chosen : Problem → State → ℕ → Option (Decision × Bool)
chosen p s w =
    if length (members p s) == 0 then None
    else Some (member_at p s (w / 8 % length (members p s)), leads s (member_at p s (w / 8 % length (members p s))) w)

-- What holds of rules that are applied one after another, and of searches.
use Rattle.std.specs.Prelude.{◌≡◌, ◌⊎◌, ◌<◌, ◌++◌, ℕ, true, false, Option, List, length}
use Rattle.std.specs.Option.{option_or}
use Rattle.rf_problem.specs.declared.problem.Problem.{Problem}
use Rattle.rf_state.specs.State.{State}
use Rattle.rf_rules.specs.Rules.{after, fires, is_closing}
use Rattle.rf_rules.specs.declared.rule.Rule.{Rule}
use Rattle.rf_pending.specs.Families.{IsLeastOf, is_of_containment, is_of_degrees, is_of_predicates, is_of_scopes, is_of_types}
use Rattle.rf_tree.specs.Lines.{CanStand}
use Rattle.rf_tree.specs.Outcomes.{IsRightOutcome}
use Rattle.rf_tree.specs.declared.line.Line.{Line}
use Rattle.rf_tree.specs.declared.outcome.Outcome.{Outcome}
use Rattle.rf_depth.specs.Outcomes.{IsEnough, IsFinished, IsShallow}
use Rattle.rf_search.specs.Course.{IsCourse}
use Rattle.rf_search.specs.Least.{IsLeast}
use Rattle.rf_search.specs.Outcome.{IsOutcome}
use Rattle.rf_search.specs.Rank.{rank}

-- a rule that fires and is no closing leaves less to be narrowed; so rules can't be applied for ever
abbrev pub RuleNarrows : Type 0
RuleNarrows = (p : Problem) (s : State) (rule : Rule) → fires p s rule ≡ true → is_closing rule ≡ false → rank p (after p s rule) < rank p s

-- the least rule is that of the first family that has one: types, degrees, containment, scopes, predicates
abbrev pub FamiliesAreInOrder : Type 0
FamiliesAreInOrder =
    (p : Problem) (s : State) (types degrees containment scopes predicates : Option Rule)
    → IsLeastOf is_of_types p s types → IsLeastOf is_of_degrees p s degrees → IsLeastOf is_of_containment p s containment
    → IsLeastOf is_of_scopes p s scopes → IsLeastOf is_of_predicates p s predicates
    → IsLeast p s (option_or types (option_or degrees (option_or containment (option_or scopes predicates))))

-- of each length a problem and a seed have at most one course
abbrev pub CourseIsUnique : Type 0
CourseIsUnique =
    (p : Problem) (seed : ℕ) (lines other : List Line) → IsCourse p seed lines → IsCourse p seed other → length lines ≡ length other → lines ≡ other

-- and of two courses of theirs one is a prefix of the other
abbrev pub CoursesArePrefixes : Type 0
CoursesArePrefixes =
    (p : Problem) (seed : ℕ) (lines other : List Line) → IsCourse p seed lines → IsCourse p seed other
    → ((more : List Line) × (other ≡ lines ++ more)) ⊎ ((more : List Line) × (lines ≡ other ++ more))

-- the lines of a course can stand
abbrev pub CourseStands : Type 0
CourseStands = (p : Problem) (seed : ℕ) (lines : List Line) → IsCourse p seed lines → CanStand p lines

-- a problem, a seed and a budget have at most one outcome
abbrev pub OutcomeIsUnique : Type 0
OutcomeIsUnique =
    (p : Problem) (seed budget : ℕ) (a b : Outcome) → IsOutcome p seed budget a → IsOutcome p seed budget b → a ≡ b

-- an outcome is right: a graph satisfies, lines that refute are valid, and unfinished ones are open, with as many decisions as the budget
abbrev pub OutcomeIsRight : Type 0
OutcomeIsRight = (p : Problem) (seed budget : ℕ) (outcome : Outcome) → IsOutcome p seed budget outcome → IsRightOutcome p budget outcome

-- where a scope bounds all nodes, no way of the lines of an outcome holds more decisions than the depth of the problem
abbrev pub OutcomeIsShallow : Type 0
OutcomeIsShallow = (p : Problem) (seed budget : ℕ) (outcome : Outcome) → IsOutcome p seed budget outcome → IsShallow p outcome

-- and with a budget of two to the power of that depth it is a graph or a refutation
abbrev pub EnoughIsFinished : Type 0
EnoughIsFinished = (p : Problem) (seed budget : ℕ) (outcome : Outcome) → IsOutcome p seed budget outcome → IsEnough p budget → IsFinished outcome

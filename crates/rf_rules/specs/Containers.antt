-- The possible containers of an object, as a search finds them, and the first container that another one excludes.
use Rattle.std.specs.Prelude.{◌≡◌, ◌<◌, ℕ, Bool, true, false, ◌==◌, ◌&&◌, if◌then◌else◌, not, nat_le, Option, length}
use Rattle.std.specs.Option.{option_map}
use Rattle.rf_finite.specs.Range.{first_below}
use Rattle.rf_problem.specs.Contained.{is_containing}
use Rattle.rf_problem.specs.declared.problem.Problem.{Problem}
use Rattle.rf_state.specs.State.{State}
use Rattle.rf_rules.specs.Containment.{is_possible}
use Rattle.rf_rules.specs.Rules.{least_object}
use Rattle.rf_rules.specs.Words.{lo, may, must}
use Rattle.rf_rules.specs.declared.containment.possible.Containers.{Containers}
use Rattle.rf_rules.specs.declared.containment.possible.Containers.TheVariants.{Absent, Only, Several}
use Rattle.rf_rules.specs.declared.rule.Rule.TheVariants.{OneContainer}

-- whether there is none, and whether (x, y) is the only one
abbrev pub are_absent : Containers → Bool
are_absent Absent = true
are_absent (Only q c) = false
are_absent Several = false

abbrev pub are_only : Containers → ℕ → ℕ → Bool
are_only Absent x y = false
are_only (Only q c) x y = q == x && c == y
are_only Several x y = false

-- whether (x, y) can be one of them
abbrev pub covers : Containers → ℕ → ℕ → Bool
covers Absent x y = false
covers (Only q c) x y = q == x && c == y
covers Several x y = true

-- these and (x, y)
abbrev pub with_container : Containers → ℕ → ℕ → Containers
with_container Absent x y = Only x y
with_container (Only q c) x y = if q == x && c == y then Only x y else Several
with_container Several x y = Several

-- each that can be one of the first can be one of the others
abbrev pub Covers : Containers → Containers → Type 0
Covers found more = (x y : ℕ) → covers found x y ≡ true → covers more x y ≡ true

-- (q, c) is a possible container of b
pub record IsPossible (p : Problem) (s : State) (b q c : ℕ) : Type 0 where
  pub reference : q < length p.references
  pub object : c < length s.objects
  pub possible : is_possible p s b q c ≡ true

-- each of them is a possible container of b, and where they are several there are two
abbrev pub AreContainers : Problem → State → ℕ → Containers → Type 0
AreContainers p s b Absent = Unit {0}
AreContainers p s b (Only q c) = IsPossible p s b q c
AreContainers p s b Several =
    (q : ℕ) × (c : ℕ) × (x : ℕ) × (y : ℕ) × IsPossible p s b q c × IsPossible p s b x y × ((q == x && c == y) ≡ false)

-- whether a has a node, contains b by r, and has to
abbrev pub is_held : Problem → State → ℕ → ℕ → ℕ → Bool
is_held p s r a b = is_containing p r && (must p s r a b && nat_le 1 (lo s a))

-- whether (q, c) isn't (r, a) and may lead to b too
abbrev pub is_other : Problem → State → ℕ → ℕ → ℕ → ℕ → ℕ → Bool
is_other p s r a b q c = not (q == r && c == a) && may p s q c b

-- the first (q, c) at which `one-container r a b q c` fires, and the first (b, q, c) at which it does
abbrev pub least_excluded_at : Problem → State → ℕ → ℕ → ℕ → Option (ℕ × ℕ)
least_excluded_at p s r a b =
    first_below (length p.references) (λ q. option_map (λ c. (q, c)) (least_object p s (OneContainer r a b q)))

abbrev pub least_excluded : Problem → State → ℕ → ℕ → Option (ℕ × ℕ × ℕ)
least_excluded p s r a =
    first_below (length s.objects) (λ b. option_map (λ at. (b, at.0, at.1)) (least_excluded_at p s r a b))

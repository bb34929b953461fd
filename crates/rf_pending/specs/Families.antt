-- The families of rules, and the least rule of a family that fires.
use Rattle.std.specs.Prelude.{◌≡◌, Bool, true, false, Option}
use Rattle.rf_finite.specs.Firsts.{IsFirstOf}
use Rattle.rf_problem.specs.declared.problem.Problem.{Problem}
use Rattle.rf_state.specs.State.{State}
use Rattle.rf_rules.specs.Rules.{fires, rule_cmp}
use Rattle.rf_rules.specs.declared.rule.Rule.{Rule}
use Rattle.rf_rules.specs.declared.rule.Rule.TheVariants.{Acyclic, Alone, Broken, Clash, ContainCount, Empty, Forced, Full, MustContain, Need, NeedCount, NoClass, NoContainer, OneContainer, Room, ScopeBottom, ScopeIn, ScopeOut, ScopeTop, Src, Tgt, TypeLow, Under}

-- whether a rule is one of counts and types
abbrev pub is_of_types : Rule → Bool
is_of_types (Empty o) = true
is_of_types (NoClass o) = true
is_of_types (Src r a b) = true
is_of_types (Tgt r a b) = true
is_of_types (Clash r a b end) = true
is_of_types _ = false

-- one of how many edges lead from a node
abbrev pub is_of_degrees : Rule → Bool
is_of_degrees (Full r a b) = true
is_of_degrees (Room r a b) = true
is_of_degrees (Need r a b) = true
is_of_degrees (NeedCount r a b) = true
is_of_degrees (TypeLow r a) = true
is_of_degrees _ = false

-- one of containment
abbrev pub is_of_containment : Rule → Bool
is_of_containment (OneContainer r a b q c) = true
is_of_containment (Alone r a b) = true
is_of_containment (MustContain r a b) = true
is_of_containment (ContainCount r a b) = true
is_of_containment (NoContainer b) = true
is_of_containment (Acyclic r a b) = true
is_of_containment _ = false

-- one of scopes
abbrev pub is_of_scopes : Rule → Bool
is_of_scopes (Under z) = true
is_of_scopes (ScopeTop z o) = true
is_of_scopes (ScopeBottom z o) = true
is_of_scopes (ScopeOut z o) = true
is_of_scopes (ScopeIn z o) = true
is_of_scopes _ = false

-- one of predicates
abbrev pub is_of_predicates : Rule → Bool
is_of_predicates (Broken q t) = true
is_of_predicates (Forced q k j t) = true
is_of_predicates _ = false

-- a rule is one of a family, and fires
abbrev pub IsFiring : (Rule → Bool) → Problem → State → Rule → Type 0
IsFiring family p s rule = (family rule ≡ true) × (fires p s rule ≡ true)

-- it is the least rule of the family that fires, or none fires
abbrev pub IsLeastOf : (Rule → Bool) → Problem → State → Option Rule → Type 0
IsLeastOf family p s = IsFirstOf rule_cmp (IsFiring family p s)

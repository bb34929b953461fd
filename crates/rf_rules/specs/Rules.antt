-- The rules: their numbers, what each asks for and does, when one fires, and their order.
use Rattle.std.specs.Prelude.{◌≡◌, ◌≢◌, ◌⊎◌, ℕ, Bool, true, false, ◌==◌, ◌&&◌, nat_lt, Option, List, [], ◌∷◌, length}
use Rattle.std.specs.Cmp.Lexicographic.{slice_cmp}
use Rattle.std.specs.Bool.{then_some}
use Rattle.std.specs.List.{list_all}
use Rattle.std.specs.Ordering.{nat_cmp}
use Rattle.std.specs.declared.cmp.Ordering.{Ordering}
use Rattle.rf_finite.specs.Range.{first_below}
use Rattle.rf_problem.specs.Parts.{predicate_at}
use Rattle.rf_problem.specs.declared.problem.Problem.{Problem}
use Rattle.rf_state.specs.State.{State}
use Rattle.rf_rules.specs.Containment.{acyclic, alone, contain_count, must_contain, no_container, one_container}
use Rattle.rf_rules.specs.Degrees.{full, need, need_count, room, type_low}
use Rattle.rf_rules.specs.Effects.{Instance, after_effect, is_ready}
use Rattle.rf_rules.specs.Predicates.{broken, clause_at, forced, free_count}
use Rattle.rf_rules.specs.Scopes.{scope_bottom, scope_in, scope_out, scope_top, under}
use Rattle.rf_rules.specs.Types.{clash, empty, no_class, src, tgt}
use Rattle.rf_rules.specs.declared.rule.End.{End}
use Rattle.rf_rules.specs.declared.rule.End.TheVariants.{Target, Source}
use Rattle.rf_rules.specs.declared.rule.Rule.{Rule}
use Rattle.rf_rules.specs.declared.rule.Rule.TheVariants.{Acyclic, Alone, Broken, Clash, ContainCount, Empty, Forced, Full, MustContain, Need, NeedCount, NoClass, NoContainer, OneContainer, Room, ScopeBottom, ScopeIn, ScopeOut, ScopeTop, Src, Tgt, TypeLow, Under}

-- whether there are an object, some objects, a reference and two objects, and a scope and an object of these numbers
abbrev pub is_object : State → ℕ → Bool
is_object s o = nat_lt o (length s.objects)

abbrev pub are_objects : State → List ℕ → Bool
are_objects s t = list_all (is_object s) t

abbrev pub is_edge : Problem → State → ℕ → ℕ → ℕ → Bool
is_edge p s r a b = nat_lt r (length p.references) && (is_object s a && is_object s b)

abbrev pub is_scoped : Problem → State → ℕ → ℕ → Bool
is_scoped p s z o = nat_lt z (length p.scopes) && is_object s o

-- whether there is a predicate of this number and of as many parameters
abbrev pub is_called : Problem → ℕ → List ℕ → Bool
is_called p q t = nat_lt q (length p.predicates) && (length t == (predicate_at p.predicates q).arity)

-- whether there is a literal of these numbers, of a clause of which so many variables range over it
abbrev pub is_literal : Problem → ℕ → ℕ → ℕ → List ℕ → Bool
is_literal p q k j t =
    nat_lt q (length p.predicates)
    && (nat_lt k (length (predicate_at p.predicates q).clauses)
    && (nat_lt j (length (clause_at p q k).literals) && (length t == free_count (clause_at p q k).variables)))

-- whether the numbers of a rule are in range, and as many as it has
abbrev pub fits : Problem → State → Rule → Bool
fits p s (Empty o) = is_object s o
fits p s (NoClass o) = is_object s o
fits p s (Src r a b) = is_edge p s r a b
fits p s (Tgt r a b) = is_edge p s r a b
fits p s (Clash r a b end) = is_edge p s r a b
fits p s (Full r a b) = is_edge p s r a b
fits p s (Room r a b) = is_edge p s r a b
fits p s (Need r a b) = is_edge p s r a b
fits p s (NeedCount r a b) = is_edge p s r a b
fits p s (TypeLow r a) = nat_lt r (length p.references) && is_object s a
fits p s (OneContainer r a b q c) = is_edge p s r a b && is_edge p s q c b
fits p s (Alone r a b) = is_edge p s r a b
fits p s (MustContain r a b) = is_edge p s r a b
fits p s (ContainCount r a b) = is_edge p s r a b
fits p s (NoContainer b) = is_object s b
fits p s (Acyclic r a b) = is_edge p s r a b
fits p s (Under z) = nat_lt z (length p.scopes)
fits p s (ScopeTop z o) = is_scoped p s z o
fits p s (ScopeBottom z o) = is_scoped p s z o
fits p s (ScopeOut z o) = is_scoped p s z o
fits p s (ScopeIn z o) = is_scoped p s z o
fits p s (Broken q t) = is_called p q t && are_objects s t
fits p s (Forced q k j t) = is_literal p q k j t && are_objects s t

-- what a rule asks for, and what it does
abbrev pub instance_of : Problem → State → Rule → Instance
instance_of p s (Empty o) = empty s o
instance_of p s (NoClass o) = no_class p s o
instance_of p s (Src r a b) = src p s r a b
instance_of p s (Tgt r a b) = tgt p s r a b
instance_of p s (Clash r a b end) = clash p s r a b end
instance_of p s (Full r a b) = full p s r a b
instance_of p s (Room r a b) = room p s r a b
instance_of p s (Need r a b) = need p s r a b
instance_of p s (NeedCount r a b) = need_count p s r a b
instance_of p s (TypeLow r a) = type_low p s r a
instance_of p s (OneContainer r a b q c) = one_container p s r a b q c
instance_of p s (Alone r a b) = alone p s r a b
instance_of p s (MustContain r a b) = must_contain p s r a b
instance_of p s (ContainCount r a b) = contain_count p s r a b
instance_of p s (NoContainer b) = no_container p s b
instance_of p s (Acyclic r a b) = acyclic p s r a b
instance_of p s (Under z) = under p s z
instance_of p s (ScopeTop z o) = scope_top p s z o
instance_of p s (ScopeBottom z o) = scope_bottom p s z o
instance_of p s (ScopeOut z o) = scope_out p s z o
instance_of p s (ScopeIn z o) = scope_in p s z o
instance_of p s (Broken q t) = broken p s q t
instance_of p s (Forced q k j t) = forced p s q k j t

-- whether a rule is a closing
abbrev pub is_closing : Rule → Bool
is_closing (Empty o) = true
is_closing (Under z) = true
is_closing (Broken q t) = true
is_closing _ = false

-- whether a rule fires: its numbers are in range, its condition holds, and it closes the state or changes it
abbrev pub fires : Problem → State → Rule → Bool
fires p s rule = fits p s rule && is_ready s (instance_of p s rule)

-- the least object at which a rule of a row fires, where the row has a rule for each object
abbrev pub least_object : Problem → State → (ℕ → Rule) → Option ℕ
least_object p s rule_at = first_below (length s.objects) (λ b. then_some (fires p s (rule_at b)) b)

-- the state after it
abbrev pub after : Problem → State → Rule → State
after p s rule = after_effect s (instance_of p s rule).effect

-- the same in words
pub record Fires (p : Problem) (s : State) (rule : Rule) : Type 0 where
  pub numbers : fits p s rule ≡ true
  pub condition : (instance_of p s rule).holds ≡ true
  pub changes : (is_closing rule ≡ true) ⊎ (after p s rule ≢ s)

-- the place of a rule in their order: its line in the table, and its numbers
abbrev pub end_number : End → ℕ
end_number Target = 0
end_number Source = 1

abbrev pub place : Rule → List ℕ
place (Empty o) = 0 ∷ o ∷ []
place (NoClass o) = 1 ∷ o ∷ []
place (Src r a b) = 2 ∷ r ∷ a ∷ b ∷ []
place (Tgt r a b) = 3 ∷ r ∷ a ∷ b ∷ []
place (Clash r a b end) = 4 ∷ r ∷ a ∷ b ∷ end_number end ∷ []
place (Full r a b) = 5 ∷ r ∷ a ∷ b ∷ []
place (Room r a b) = 6 ∷ r ∷ a ∷ b ∷ []
place (Need r a b) = 7 ∷ r ∷ a ∷ b ∷ []
place (NeedCount r a b) = 8 ∷ r ∷ a ∷ b ∷ []
place (TypeLow r a) = 9 ∷ r ∷ a ∷ []
place (OneContainer r a b q c) = 10 ∷ r ∷ a ∷ b ∷ q ∷ c ∷ []
place (Alone r a b) = 11 ∷ r ∷ a ∷ b ∷ []
place (MustContain r a b) = 12 ∷ r ∷ a ∷ b ∷ []
place (ContainCount r a b) = 13 ∷ r ∷ a ∷ b ∷ []
place (NoContainer b) = 14 ∷ b ∷ []
place (Acyclic r a b) = 15 ∷ r ∷ a ∷ b ∷ []
place (Under z) = 16 ∷ z ∷ []
place (ScopeTop z o) = 17 ∷ z ∷ o ∷ []
place (ScopeBottom z o) = 18 ∷ z ∷ o ∷ []
place (ScopeOut z o) = 19 ∷ z ∷ o ∷ []
place (ScopeIn z o) = 20 ∷ z ∷ o ∷ []
place (Broken q t) = 21 ∷ q ∷ t
place (Forced q k j t) = 22 ∷ q ∷ k ∷ j ∷ t

-- the order of rules: by their places, number by number
abbrev pub rule_cmp : Rule → Rule → Ordering
rule_cmp a b = slice_cmp nat_cmp (place a) (place b)

-- The decisions: which are allowed, and the state of each side. Above each stands its line of the table: its numbers | where it is
-- allowed | its first side | its second side.
use Rattle.std.specs.Prelude.{Bool, true, false, ◌==◌, ◌&&◌, ◌||◌, not, nat_lt, length}
use Rattle.rf_finite.specs.Ends.{within}
use Rattle.rf_values.specs.Count.{ends_at}
use Rattle.rf_values.specs.declared.truth.Truth.TheVariants.{False, True}
use Rattle.rf_problem.specs.declared.problem.Problem.{Problem}
use Rattle.rf_state.specs.State.{State, all_candidates, fact, fresh_of, some_candidate}
use Rattle.rf_rules.specs.Effects.{after_effect}
use Rattle.rf_rules.specs.Rules.{is_edge, is_object}
use Rattle.rf_rules.specs.Words.{classes_below, hi, is_one, is_unknown, lo}
use Rattle.rf_rules.specs.declared.decision.Decision.{Decision}
use Rattle.rf_rules.specs.declared.decision.Decision.TheVariants.{Fresh, Kind, Ref}
use Rattle.rf_rules.specs.declared.effect.Effect.TheVariants.{AtMost, Keep, Lose, Merge}

-- whether a decision's numbers are in range
abbrev pub fits : Problem → State → Decision → Bool
fits p s (Fresh o) = is_object s o
fits p s (Kind o c) = is_object s o && nat_lt c (length p.classes)
fits p s (Ref r a b) = is_edge p s r a b

-- new o | hi(o) is at least 2, or the count is 0 to 1 | the fresh object of o is made | hi(o) becomes 0
-- type o c | o single, some candidate below class c and some not | o keeps the candidates below c | o loses them
-- ref r a b | a and b single, fact(r, a, b) unknown | true merged in | false merged in
abbrev pub is_open : Problem → State → Decision → Bool
is_open p s (Fresh o) = within 2 (hi s o) || (lo s o == 0 && ends_at 1 (hi s o))
is_open p s (Kind o c) = is_one s o && (some_candidate p s o c && not (all_candidates p s o c))
is_open p s (Ref r a b) = is_one s a && (is_one s b && is_unknown (fact p s r a b))

-- whether a decision is allowed: its numbers are in range, and what it decides isn't settled
abbrev pub allowed : Problem → State → Decision → Bool
allowed p s d = fits p s d && is_open p s d

-- the state of its first side, and of its second
abbrev pub side : Problem → State → Decision → Bool → State
side p s (Fresh o) true = fresh_of s o
side p s (Fresh o) false = after_effect s (AtMost o 0)
side p s (Kind o c) true = after_effect s (Keep o (classes_below p c))
side p s (Kind o c) false = after_effect s (Lose o (classes_below p c))
side p s (Ref r a b) true = after_effect s (Merge r a b True)
side p s (Ref r a b) false = after_effect s (Merge r a b False)

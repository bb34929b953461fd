-- The rules of counts and types. Above each stands its line of the table: its numbers | what it asks for | what it does.
use Rattle.std.specs.Prelude.{ℕ, true, ◌&&◌, not, nat_le}
use Rattle.rf_finite.specs.Ends.{within}
use Rattle.rf_problem.specs.declared.problem.Problem.{Problem}
use Rattle.rf_state.specs.State.{State, fact}
use Rattle.rf_rules.specs.Effects.{Instance}
use Rattle.rf_rules.specs.Words.{any_candidate, classes_below, hi, is_error, lo, must, source as source_class, target as target_class}
use Rattle.rf_rules.specs.declared.effect.Effect.TheVariants.{Close, AtMost, Keep}
use Rattle.rf_rules.specs.declared.rule.End.{End}
use Rattle.rf_rules.specs.declared.rule.End.TheVariants.{Target, Source}

-- empty o | lo(o) > hi(o) | closing
abbrev pub empty : State → ℕ → Instance
empty s o = record { holds = not (within (lo s o) (hi s o)); effect = Close }

-- no-class o | o has no candidate | hi(o) becomes 0
abbrev pub no_class : Problem → State → ℕ → Instance
no_class p s o = record { holds = not (any_candidate p s o (λ c. true)); effect = AtMost o 0 }

-- src r a b | must(r, a, b), lo(b) at least 1 | a keeps the candidates below r's source
abbrev pub src : Problem → State → ℕ → ℕ → ℕ → Instance
src p s r a b = record { holds = must p s r a b && nat_le 1 (lo s b); effect = Keep a (classes_below p (source_class p r)) }

-- tgt r a b | must(r, a, b), lo(a) at least 1 | b keeps the candidates below r's target
abbrev pub tgt : Problem → State → ℕ → ℕ → ℕ → Instance
tgt p s r a b = record { holds = must p s r a b && nat_le 1 (lo s a); effect = Keep b (classes_below p (target_class p r)) }

-- clash r a b target | fact(r, a, b) is error, lo(a) at least 1 | hi(b) becomes 0
-- clash r a b source | fact(r, a, b) is error, lo(b) at least 1 | hi(a) becomes 0
abbrev pub clash : Problem → State → ℕ → ℕ → ℕ → End → Instance
clash p s r a b Target = record { holds = is_error (fact p s r a b) && nat_le 1 (lo s a); effect = AtMost b 0 }
clash p s r a b Source = record { holds = is_error (fact p s r a b) && nat_le 1 (lo s b); effect = AtMost a 0 }

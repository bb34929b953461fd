-- The rules of how many edges of a reference lead from a node. Above each stands its line of the table: its numbers | what it asks
-- for | what it does.
use Rattle.std.specs.Prelude.{ℕ, ◌-◌, ◌==◌, ◌&&◌, not, nat_le, Option, is_some, unwrap_or, length}
use Rattle.rf_finite.specs.Ends.{ends_below}
use Rattle.rf_finite.specs.Range.{sum_below}
use Rattle.rf_values.specs.declared.truth.Truth.TheVariants.{False, True}
use Rattle.rf_problem.specs.declared.problem.Problem.{Problem}
use Rattle.rf_state.specs.State.{State, all_candidates, fact}
use Rattle.rf_rules.specs.Effects.{Instance}
use Rattle.rf_rules.specs.Words.{classes_below, hi, is_less, is_one, is_unknown, lo, max, may, min, must, reaches, source}
use Rattle.rf_rules.specs.declared.effect.Effect.TheVariants.{AtLeast, AtMost, Lose, Merge}

-- how many nodes there are at least of the objects to which an edge of r has to lead from a, and the same beside b
abbrev pub must_sum : Problem → State → ℕ → ℕ → ℕ
must_sum p s r a = sum_below (length s.objects) (must p s r a) (lo s)

abbrev pub must_sum_beside : Problem → State → ℕ → ℕ → ℕ → ℕ
must_sum_beside p s r a b = sum_below (length s.objects) (λ c. not (c == b) && must p s r a c) (lo s)

-- how many nodes there are at most of the objects to which an edge of r can lead from a, and the same beside b
abbrev pub may_sum : Problem → State → ℕ → ℕ → Option ℕ
may_sum p s r a = ends_below (length s.objects) (may p s r a) (hi s)

abbrev pub may_sum_beside : Problem → State → ℕ → ℕ → ℕ → Option ℕ
may_sum_beside p s r a b = ends_below (length s.objects) (λ c. not (c == b) && may p s r a c) (hi s)

-- full r a b | max finite; the sum of lo(c) over must(r, a, c) is at least max; fact(r, a, b) is unknown | false merged into (r, a, b)
abbrev pub full : Problem → State → ℕ → ℕ → ℕ → Instance
full p s r a b = record { holds = reaches (must_sum p s r a) (max p r) && is_unknown (fact p s r a b); effect = Merge r a b False }

-- room r a b | max finite, must(r, a, b), lo(a) at least 1
--            | hi(b) becomes at most max less the sum of lo(c) over c other than b with must(r, a, c)
abbrev pub room : Problem → State → ℕ → ℕ → ℕ → Instance
room p s r a b = record {
  holds = is_some (max p r) && (must p s r a b && nat_le 1 (lo s a));
  effect = AtMost b (unwrap_or (max p r) 0 - must_sum_beside p s r a b);
}

-- need r a b | every candidate of a below r's source; b single; fact(r, a, b) unknown; the sum of hi(c) over c other than b with
--              may(r, a, c) is less than min
--            | true merged into (r, a, b)
abbrev pub need : Problem → State → ℕ → ℕ → ℕ → Instance
need p s r a b = record {
  holds =
      all_candidates p s a (source p r)
      && (is_one s b && (is_unknown (fact p s r a b) && is_less (may_sum_beside p s r a b) (min p r)));
  effect = Merge r a b True;
}

-- need-count r a b | every candidate of a below r's source; lo(a) at least 1; may(r, a, b); that sum is finite
--                  | lo(b) becomes at least min less that sum
abbrev pub need_count : Problem → State → ℕ → ℕ → ℕ → Instance
need_count p s r a b = record {
  holds = all_candidates p s a (source p r) && (nat_le 1 (lo s a) && (may p s r a b && is_some (may_sum_beside p s r a b)));
  effect = AtLeast b (min p r - unwrap_or (may_sum_beside p s r a b) 0);
}

-- type-low r a | the sum of hi(c) over may(r, a, c) is less than min | a loses the candidates below r's source
abbrev pub type_low : Problem → State → ℕ → ℕ → Instance
type_low p s r a = record { holds = is_less (may_sum p s r a) (min p r); effect = Lose a (classes_below p (source p r)) }

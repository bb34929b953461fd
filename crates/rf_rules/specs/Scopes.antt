-- The rules of scopes. Above each stands its line of the table: its numbers | what it asks for | what it does. An upper or lower end
-- of which no object is named is the scope's.
use Rattle.std.specs.Prelude.{ℕ, ◌-◌, Bool, ◌==◌, ◌&&◌, not, Option, is_some, unwrap_or, length}
use Rattle.rf_finite.specs.Ends.{ends_below}
use Rattle.rf_finite.specs.Range.{sum_below}
use Rattle.rf_problem.specs.Counted.{counts_origin, has_scope_class}
use Rattle.rf_problem.specs.Parts.{scope_at}
use Rattle.rf_problem.specs.declared.problem.Problem.{Problem}
use Rattle.rf_state.specs.State.{State, object_of}
use Rattle.rf_rules.specs.Effects.{Instance}
use Rattle.rf_rules.specs.Words.{any_candidate, classes_where, each_candidate, hi, is_less, is_one, lo, reaches}
use Rattle.rf_rules.specs.declared.effect.Effect.TheVariants.{AtLeast, AtMost, Close, Keep, Lose}

-- the ends of a scope
abbrev pub scope_lo : Problem → ℕ → ℕ
scope_lo p z = (scope_at p.scopes z).range.lo

abbrev pub scope_hi : Problem → ℕ → Option ℕ
scope_hi p z = (scope_at p.scopes z).range.hi

-- whether a class is one of the scope's
abbrev pub is_of_scope : Problem → ℕ → ℕ → Bool
is_of_scope p z c = has_scope_class p (scope_at p.scopes z).class c

-- whether scope z may count object o: by its origin, and some candidate is one of the scope's
abbrev pub may_be_counted : Problem → State → ℕ → ℕ → Bool
may_be_counted p s z o = counts_origin p (scope_at p.scopes z) (object_of s o).origin && any_candidate p s o (is_of_scope p z)

-- whether it surely counts it: by its origin, and every candidate is one of the scope's
abbrev pub is_surely_counted : Problem → State → ℕ → ℕ → Bool
is_surely_counted p s z o = counts_origin p (scope_at p.scopes z) (object_of s o).origin && each_candidate p s o (is_of_scope p z)

-- how many nodes there are at most of the objects that may be counted, and the same beside o
abbrev pub may_count : Problem → State → ℕ → Option ℕ
may_count p s z = ends_below (length s.objects) (may_be_counted p s z) (hi s)

abbrev pub may_count_beside : Problem → State → ℕ → ℕ → Option ℕ
may_count_beside p s z o = ends_below (length s.objects) (λ c. not (c == o) && may_be_counted p s z c) (hi s)

-- how many nodes there are at least of the objects that are surely counted, and the same beside o
abbrev pub sure_count : Problem → State → ℕ → ℕ
sure_count p s z = sum_below (length s.objects) (is_surely_counted p s z) (lo s)

abbrev pub sure_count_beside : Problem → State → ℕ → ℕ → ℕ
sure_count_beside p s z o = sum_below (length s.objects) (λ c. not (c == o) && is_surely_counted p s z c) (lo s)

-- under s | the sum of hi over the objects that may be counted is less than the lower end | closing
abbrev pub under : Problem → State → ℕ → Instance
under p s z = record { holds = is_less (may_count p s z) (scope_lo p z); effect = Close }

-- scope-top s o | upper end finite; o surely counted
--               | hi(o) becomes at most the upper end less the sum of lo over the other surely counted
abbrev pub scope_top : Problem → State → ℕ → ℕ → Instance
scope_top p s z o = record {
  holds = is_some (scope_hi p z) && is_surely_counted p s z o;
  effect = AtMost o (unwrap_or (scope_hi p z) 0 - sure_count_beside p s z o);
}

-- scope-bottom s o | o may be counted; the sum of hi over the others that may be is finite
--                  | lo(o) becomes at least the lower end less that sum
abbrev pub scope_bottom : Problem → State → ℕ → ℕ → Instance
scope_bottom p s z o = record {
  holds = may_be_counted p s z o && is_some (may_count_beside p s z o);
  effect = AtLeast o (scope_lo p z - unwrap_or (may_count_beside p s z o) 0);
}

-- scope-out s o | upper end finite; the sum of lo over the surely counted is at least the upper end; o may be counted and isn't surely
--               | o loses the candidates below the class
abbrev pub scope_out : Problem → State → ℕ → ℕ → Instance
scope_out p s z o = record {
  holds =
      reaches (sure_count p s z) (scope_hi p z) && (may_be_counted p s z o && not (is_surely_counted p s z o));
  effect = Lose o (classes_where p (is_of_scope p z));
}

-- scope-in s o | o single, may be counted and isn't surely; the sum of hi over the others that may be is less than the lower end
--              | o keeps the candidates below the class
abbrev pub scope_in : Problem → State → ℕ → ℕ → Instance
scope_in p s z o = record {
  holds =
      is_one s o
      && (may_be_counted p s z o && (not (is_surely_counted p s z o) && is_less (may_count_beside p s z o) (scope_lo p z)));
  effect = Keep o (classes_where p (is_of_scope p z));
}

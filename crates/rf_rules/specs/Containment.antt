-- The rules of containment. Here r and q are references that contain. Above each stands its line of the table: its numbers | what it
-- asks for | what it does.
use Rattle.std.specs.Prelude.{ℕ, Bool, ◌==◌, ◌&&◌, ◌||◌, not, nat_le, length}
use Rattle.rf_finite.specs.Ends.{within}
use Rattle.rf_finite.specs.Range.{all_below, some_below}
use Rattle.rf_finite.specs.Walks.{walk_below}
use Rattle.rf_values.specs.declared.truth.Truth.TheVariants.{False, True}
use Rattle.rf_problem.specs.Contained.{is_contained_class, is_containing}
use Rattle.rf_problem.specs.declared.problem.Problem.{Problem}
use Rattle.rf_state.specs.State.{State, fact}
use Rattle.rf_rules.specs.Effects.{Instance}
use Rattle.rf_rules.specs.Words.{classes_where, each_candidate, hi, is_one, is_unknown, lo, may, must}
use Rattle.rf_rules.specs.declared.effect.Effect.TheVariants.{AtLeast, AtMost, Lose, Merge}

-- (q, c) is a possible container of b: q contains, may(q, c, b), and hi(c) is at least 1
abbrev pub is_possible : Problem → State → ℕ → ℕ → ℕ → Bool
is_possible p s b q c = is_containing p q && (may p s q c b && within 1 (hi s c))

-- b has one
abbrev pub has_possible : Problem → State → ℕ → Bool
has_possible p s b = some_below (length p.references) (λ q. some_below (length s.objects) (is_possible p s b q))

-- (r, a) is the only one
abbrev pub is_only_possible : Problem → State → ℕ → ℕ → ℕ → Bool
is_only_possible p s r a b =
    is_possible p s b r a
    && all_below (length p.references) (λ q. all_below (length s.objects) (λ c. not (is_possible p s b q c) || (q == r && c == a)))

-- every candidate of b is contained
abbrev pub is_contained : Problem → State → ℕ → Bool
is_contained p s b = each_candidate p s b (is_contained_class p)

-- x has to contain y
abbrev pub must_hold : Problem → State → ℕ → ℕ → Bool
must_hold p s x y = some_below (length p.references) (λ q. is_containing p q && must p s q x y)

-- a walk of such steps leads from a to b, whose inner objects have lo at least 1
abbrev pub leads : Problem → State → ℕ → ℕ → Bool
leads p s a b = walk_below (must_hold p s) (λ c. nat_le 1 (lo s c)) (length s.objects) a b

-- one-container r a b q c | must(r, a, b), lo(a) at least 1, (q, c) isn't (r, a), fact(q, c, b) is true or unknown
--                         | false merged into (q, c, b)
abbrev pub one_container : Problem → State → ℕ → ℕ → ℕ → ℕ → ℕ → Instance
one_container p s r a b q c = record {
  holds =
      is_containing p r && (is_containing p q
      && (must p s r a b && (nat_le 1 (lo s a) && (not (q == r && c == a) && may p s q c b))));
  effect = Merge q c b False;
}

-- alone r a b | must(r, a, b), lo(b) at least 1 | hi(a) becomes at most 1
abbrev pub alone : Problem → State → ℕ → ℕ → ℕ → Instance
alone p s r a b = record { holds = is_containing p r && (must p s r a b && nat_le 1 (lo s b)); effect = AtMost a 1 }

-- must-contain r a b | every candidate of b is contained; (r, a) is the only possible container of b; a single; fact(r, a, b) unknown
--                    | true merged into (r, a, b)
abbrev pub must_contain : Problem → State → ℕ → ℕ → ℕ → Instance
must_contain p s r a b = record {
  holds =
      is_containing p r
      && (is_contained p s b && (is_only_possible p s r a b && (is_one s a && is_unknown (fact p s r a b))));
  effect = Merge r a b True;
}

-- contain-count r a b | every candidate of b is contained; (r, a) is the only possible container of b; lo(b) at least 1
--                     | lo(a) becomes at least 1
abbrev pub contain_count : Problem → State → ℕ → ℕ → ℕ → Instance
contain_count p s r a b = record {
  holds = is_containing p r && (is_contained p s b && (is_only_possible p s r a b && nat_le 1 (lo s b)));
  effect = AtLeast a 1;
}

-- no-container b | b has no possible container | b loses the contained classes
abbrev pub no_container : Problem → State → ℕ → Instance
no_container p s b = record { holds = not (has_possible p s b); effect = Lose b (classes_where p (is_contained_class p)) }

-- acyclic r a b | fact(r, a, b) is true or unknown; and either a = b is single, or a walk of must steps of references that contain
--                 leads from b to a whose inner objects have lo at least 1
--               | false merged into (r, a, b)
abbrev pub acyclic : Problem → State → ℕ → ℕ → ℕ → Instance
acyclic p s r a b = record {
  holds = is_containing p r && (may p s r a b && ((a == b && is_one s a) || leads p s b a));
  effect = Merge r a b False;
}

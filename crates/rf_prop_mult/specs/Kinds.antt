-- Private: no public contract cites this.
-- The kinds of these rules, the least rule kind by kind, and the rows that candidates touch.
use Rattle.std.specs.Prelude.{ℕ, Bool, ◌==◌, ◌&&◌, ◌||◌, not, Option, is_some, nat_le, nat_lt}
use Rattle.std.specs.Option.{option_or}
use Rattle.rf_values.specs.declared.count.Count.{Count}
use Rattle.rf_problem.specs.declared.problem.Problem.{Problem}
use Rattle.rf_state.specs.State.{State, all_candidates, some_candidate}
use Rattle.rf_rules.specs.declared.rule.Rule.{Rule}
use Rattle.rf_rules.specs.declared.rule.Rule.TheVariants as rule
use Rattle.rf_rules.specs.Words.{lo, source, target}
use Rattle.rf_pending.specs.Rows.{firing, least_of_edges, least_of_row}
use Rattle.rf_prop_mult.specs.declared.kinds.Kind.{Kind}
use Rattle.rf_prop_mult.specs.declared.kinds.Kind.TheVariants.{Full, Need, NeedCount, Room, TypeLow}

-- the first rule of a row of a reference and an object
abbrev pub first_in_row : Problem → State → Kind → ℕ → ℕ → Option Rule
first_in_row p s Full r a = least_of_row p s (rule.Full r a)
first_in_row p s Room r a = least_of_row p s (rule.Room r a)
first_in_row p s Need r a = least_of_row p s (rule.Need r a)
first_in_row p s NeedCount r a = least_of_row p s (rule.NeedCount r a)
first_in_row p s TypeLow r a = firing p s (rule.TypeLow r a)

-- whether a range has the end without which no rule of the kind fires
abbrev pub has_end : Kind → Count → Bool
has_end Full range = is_some range.hi
has_end Room range = is_some range.hi
has_end Need range = nat_lt 0 range.lo
has_end NeedCount range = nat_lt 0 range.lo
has_end TypeLow range = nat_lt 0 range.lo

-- whether an object has what each rule of the kind asks of it where its edges of reference r begin: candidates below the source, and a
-- node
abbrev pub can_begin : Problem → State → Kind → ℕ → ℕ → Bool
can_begin p s Full r a = some_candidate p s a (source p r)
can_begin p s Room r a = nat_le 1 (lo s a)
can_begin p s Need r a = all_candidates p s a (source p r)
can_begin p s NeedCount r a = nat_le 1 (lo s a) && all_candidates p s a (source p r)
can_begin p s TypeLow r a = some_candidate p s a (source p r)

-- the first rule of all, one kind after the other
abbrev pub first_of_all : Problem → State → Option Rule
first_of_all p s =
    option_or (least_of_edges p s (first_in_row p s Full))
    (option_or (least_of_edges p s (first_in_row p s Room))
    (option_or (least_of_edges p s (first_in_row p s Need))
    (option_or (least_of_edges p s (first_in_row p s NeedCount)) (least_of_edges p s (first_in_row p s TypeLow)))))

-- whether candidates that object o lost can concern row (r, a): its own rows, and those of references at whose target it is no more
abbrev pub is_near : Problem → State → ℕ → ℕ → ℕ → Bool
is_near p t o r a = o == a || not (some_candidate p t o (target p r))

-- Private: no public contract cites this.
-- The kinds of these rules, and the least rule kind by kind.
use Rattle.std.specs.Prelude.{ℕ, Option, length}
use Rattle.std.specs.Option.{option_or}
use Rattle.rf_finite.specs.Range.{first_below}
use Rattle.rf_problem.specs.declared.problem.Problem.{Problem}
use Rattle.rf_state.specs.State.{State}
use Rattle.rf_rules.specs.declared.rule.Rule.{Rule}
use Rattle.rf_rules.specs.declared.rule.Rule.TheVariants.{ScopeBottom, ScopeIn, ScopeOut, ScopeTop, Under as UnderRule}
use Rattle.rf_pending.specs.Rows.{firing, least_of_row}
use Rattle.rf_prop_scope.specs.declared.kinds.Kind.{Kind}
use Rattle.rf_prop_scope.specs.declared.kinds.Kind.TheVariants.{Bottom, In, Out, Top, Under}

-- the first rule of a scope
abbrev pub first_of_scope : Problem → State → Kind → ℕ → Option Rule
first_of_scope p s Under z = firing p s (UnderRule z)
first_of_scope p s Top z = least_of_row p s (ScopeTop z)
first_of_scope p s Bottom z = least_of_row p s (ScopeBottom z)
first_of_scope p s Out z = least_of_row p s (ScopeOut z)
first_of_scope p s In z = least_of_row p s (ScopeIn z)

-- the least rule of a kind
abbrev pub least_of_scopes : Problem → State → Kind → Option Rule
least_of_scopes p s kind = first_below (length p.scopes) (first_of_scope p s kind)

-- the first rule of all, one kind after the other
abbrev pub first_of_all : Problem → State → Option Rule
first_of_all p s =
    option_or (least_of_scopes p s Under)
    (option_or (least_of_scopes p s Top)
    (option_or (least_of_scopes p s Bottom) (option_or (least_of_scopes p s Out) (least_of_scopes p s In))))

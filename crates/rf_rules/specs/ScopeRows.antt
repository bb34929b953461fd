-- Private: no public contract cites this.
-- The rules of a scope and an object, by their kinds.
use Rattle.std.specs.Prelude.{ℕ, Bool, is_some, nat_lt}
use Rattle.rf_values.specs.declared.count.Count.{Count}
use Rattle.rf_rules.specs.declared.rule.Rule.{Rule}
use Rattle.rf_rules.specs.declared.rule.Rule.TheVariants.{ScopeBottom, ScopeIn, ScopeOut, ScopeTop}
use Rattle.rf_rules.specs.declared.scopes.Kind.{Kind}
use Rattle.rf_rules.specs.declared.scopes.Kind.TheVariants.{Bottom, In, Out, Top}

abbrev pub scope_rule : Kind → ℕ → ℕ → Rule
scope_rule Top z o = ScopeTop z o
scope_rule Bottom z o = ScopeBottom z o
scope_rule Out z o = ScopeOut z o
scope_rule In z o = ScopeIn z o

-- whether a range has the end without which such a rule fires at no object
abbrev pub has_end : Kind → Count → Bool
has_end Top range = is_some range.hi
has_end Bottom range = nat_lt 0 range.lo
has_end Out range = is_some range.hi
has_end In range = nat_lt 0 range.lo

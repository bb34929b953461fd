-- For private functions: declarations that break no rule.
use Rattle.std.specs.Prelude.{[], ◌≡◌}
use Rattle.rf_limits.specs.Limits.{limit_offsets}
use Rattle.rf_limits.specs.declared.kind.LimitKind.{LimitKind}
use Rattle.rf_names.specs.Declarations.{Declared}
use Rattle.rf_name_rules.specs.NameOffsets.{ambiguous_offsets, twice_offsets, unknown_offsets}
use Rattle.rf_structure_rules.specs.StructureOffsets.{arity_offsets, bad_container_offsets, bad_opposite_offsets, bad_range_offsets, cycle_offsets, equals_two_offsets}
use Rattle.rf_clause_rules.specs.ClauseOffsets.{loose_offsets, recursive_offsets}

-- no rule is broken anywhere, and no limit passed
pub record Passes (d : Declared) : Type 0 where
  pub twice : twice_offsets d ≡ []
  pub unknown : unknown_offsets d ≡ []
  pub ambiguous : ambiguous_offsets d ≡ []
  pub cycles : cycle_offsets d ≡ []
  pub opposites : bad_opposite_offsets d ≡ []
  pub containers : bad_container_offsets d ≡ []
  pub ranges : bad_range_offsets d ≡ []
  pub arities : arity_offsets d ≡ []
  pub loose : loose_offsets d ≡ []
  pub recursive : recursive_offsets d ≡ []
  pub equals_two : equals_two_offsets d ≡ []
  pub limits : (k : LimitKind) → limit_offsets d k ≡ []

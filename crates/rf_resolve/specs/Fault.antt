-- Why the names of a text don't make a problem.
use Rattle.std.specs.Prelude.{List, [], ◌∷◌, Option, None, ◌≡◌, Some}
use Rattle.std.specs.Option.{option_or, option_map}
use Rattle.rf_problem.specs.declared.problem.Problem.{Problem}
use Rattle.rf_syntax.specs.declared.statement.Ast.{Ast}
use Rattle.rf_resolve.specs.declared.error.NameError.{NameError}
use Rattle.rf_resolve.specs.declared.error.NameError.TheVariants.{Limit, Twice, Unknown, Ambiguous, ClassCycle, BadOpposite, BadContainer, BadRange, Arity, LooseVariable, Recursive, EqualsTwo}
use Rattle.rf_limits.specs.Limits.{Excess, limit_kinds, earliest}
use Rattle.rf_names.specs.Declarations.{Declared, declared_in}
use Rattle.rf_name_rules.specs.NameOffsets.{ambiguous_offsets, twice_offsets, unknown_offsets}
use Rattle.rf_structure_rules.specs.StructureOffsets.{arity_offsets, bad_container_offsets, bad_opposite_offsets, bad_range_offsets, cycle_offsets, equals_two_offsets}
use Rattle.rf_clause_rules.specs.ClauseOffsets.{loose_offsets, recursive_offsets}
use Rattle.rf_names.specs.Offsets.{least_of}
use Rattle.rf_build.specs.Resolved.{IsResolved}

abbrev pub limit_error : Excess → NameError
limit_error e = Limit e.kind e.at

-- the first error in a list
abbrev pub first_of : List (Option NameError) → Option NameError
first_of [] = None
first_of (e ∷ es) = option_or e (first_of es)

-- the rules in the order in which they are asked, each with its least offset where it is broken
abbrev pub fault_of : Declared → Option NameError
fault_of d = first_of (
    option_map Twice (least_of (twice_offsets d))
    ∷ option_map Unknown (least_of (unknown_offsets d))
    ∷ option_map Ambiguous (least_of (ambiguous_offsets d))
    ∷ option_map ClassCycle (least_of (cycle_offsets d))
    ∷ option_map BadOpposite (least_of (bad_opposite_offsets d))
    ∷ option_map BadContainer (least_of (bad_container_offsets d))
    ∷ option_map BadRange (least_of (bad_range_offsets d))
    ∷ option_map Arity (least_of (arity_offsets d))
    ∷ option_map LooseVariable (least_of (loose_offsets d))
    ∷ option_map Recursive (least_of (recursive_offsets d))
    ∷ option_map EqualsTwo (least_of (equals_two_offsets d))
    ∷ option_map limit_error (earliest d limit_kinds)
    ∷ [])

-- the tree is the text of this problem: no rule is broken, and the problem is what it declares
pub record Resolves (ast : Ast) (p : Problem) : Type 0 where
  pub sound : fault_of (declared_in ast) ≡ None
  pub resolved : IsResolved (declared_in ast) p

-- the tree breaks a rule of names: the first that it breaks, and its least offset
abbrev pub NameFault : Ast → NameError → Type 0
NameFault ast e = fault_of (declared_in ast) ≡ Some e

-- The byte offsets at which the rules of clauses are broken.
use Rattle.std.specs.Prelude.{ℕ, List, map, Bool, false, Option, None, Some, []}
use Rattle.rf_syntax.specs.declared.predicate.BodyLiteral.{BodyLiteral}
use Rattle.rf_syntax.specs.declared.predicate.BodyLiteral.TheVariants.{Call, Same, Differ}
use Rattle.rf_names.specs.Bodies.{loose_variables, leads_to, called_by}
use Rattle.rf_names.specs.Declarations.{Declared}
use Rattle.rf_names.specs.Offsets.{offsets_in_clauses, offset_if, offsets_in_literals}

-- LooseVariable: the first names of the variables that can't be quantified

abbrev pub loose_offsets : Declared → List ℕ
loose_offsets d = offsets_in_clauses (λ n params clause. map (λ v. v.at) (loose_variables d params clause)) 0 d.predicates

-- Recursive: symbols in literals of a predicate that stand for a predicate from which calls lead to it

-- whether it is a predicate from which calls lead to predicate p
abbrev pub leads_back_to : Declared → ℕ → Option ℕ → Bool
leads_back_to d p None = false
leads_back_to d p (Some q) = leads_to d q p

abbrev pub recursive_literal : Declared → ℕ → BodyLiteral → List ℕ
recursive_literal d p (Call negated symbol closure args) =
    offset_if (leads_back_to d p (called_by d (Call negated symbol closure args))) symbol.name.at
recursive_literal d p (Same a b) = []
recursive_literal d p (Differ a b) = []

abbrev pub recursive_offsets : Declared → List ℕ
recursive_offsets d = offsets_in_literals (recursive_literal d) d.predicates

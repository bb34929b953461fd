-- How many literals a clause has.
use Rattle.std.proofs.Common.{◌≡◌, ◌+◌, ◌≤◌, ℕ, suc, List, [], ◌∷◌, length, Option, None, Some, refl, ap, arith}
use Rattle.std.proofs.lemmas.List.{length-append}
use Rattle.rf_bounds.specs.declared.TheConstants.{MOST_LITERALS, MOST_PARAMETERS}
use Rattle.rf_syntax.specs.declared.name.Name.{Name}
use Rattle.rf_syntax.specs.declared.predicate.BodyLiteral.{BodyLiteral}
use Rattle.rf_syntax.specs.declared.predicate.Param.{Param}
use Rattle.rf_names.specs.Bodies.{literal_names, with_variables}
use Rattle.rf_names.specs.Declarations.{Declared, param_names}
use Rattle.rf_build.specs.Resolved.{all_literals, class_literal, class_literals, resolved_literals}
use Rattle.rf_build.specs.Small.{IsSmallClause}

module _ (d : Declared) where
  -- there are as many literals as are written, and at most one for each parameter
  pub length-resolved_literals : (params : List Param) (known : List Name) (ls : List BodyLiteral) →
      length (resolved_literals d params known ls) ≡ length ls
  length-resolved_literals params known [] = refl
  length-resolved_literals params known (l ∷ ls) =
      ap suc (length-resolved_literals params (with_variables known (literal_names d params l)) ls)

  length-class_literal : (n : ℕ) (o : Option Name) → length (class_literal d n o) ≤ 1
  length-class_literal n None = omega arith
  length-class_literal n (Some class) = omega arith

  pub length-class_literals : (n : ℕ) (ps : List Param) → length (class_literals d n ps) ≤ length ps
  length-class_literals n [] = omega arith
  length-class_literals n (p ∷ ps) =
      let both = length-append (class_literal d n p.class) (class_literals d (suc n) ps) in
      let one = length-class_literal n p.class in
      let rest = length-class_literals (suc n) ps in
      omega arith

-- the literals of a small clause
pub few_literals :
    (d : Declared) (params : List Param) (clause : List BodyLiteral) → IsSmallClause d params clause
    → length (all_literals d params clause) ≤ MOST_LITERALS + MOST_PARAMETERS
few_literals d params clause small =
    let arity : length params ≤ MOST_PARAMETERS = small.arity in
    let count : length clause ≤ MOST_LITERALS = small.literals in
    let written = length-resolved_literals d params (param_names params) clause in
    let typed = length-class_literals d 0 params in
    let all = length-append (resolved_literals d params (param_names params) clause)
    (class_literals d 0 params) in
    omega arith

-- Predicates that pass no limit have few parameters, literals and variables.
use Rattle.std.proofs.Common.{◌≡◌, [], get_or, All}
use Rattle.rf_bounds.specs.declared.TheConstants.{MOST_LITERALS, MOST_PARAMETERS, MOST_VARIABLES}
use Rattle.rf_names.specs.Bodies.{clause_variables, first_name}
use Rattle.rf_names.specs.Declarations.{Declared, PredicateDecl}
use Rattle.rf_limits.specs.Limits.{first_past, limit_offsets}
use Rattle.rf_limits.specs.declared.kind.LimitKind.{LimitKind}
use Rattle.rf_limits.specs.declared.kind.LimitKind.TheVariants.{Literals, Parameters, Variables}
use Rattle.rf_build.specs.Small.{IsSmallPredicate}
use Rattle.rf_resolve.proofs.ClearOffsets.{few-from_first_past, nil-each, offsets_in_clauses-each}

module _ (d : Declared) (limits : (k : LimitKind) → limit_offsets d k ≡ []) where
  few_params : All (λ p. first_past MOST_PARAMETERS (λ param. param.name) p.params ≡ []) d.predicates
  few_params = nil-each (λ (p : PredicateDecl). first_past MOST_PARAMETERS (λ param. param.name) p.params)
      d.predicates (limits Parameters)

  pub small_predicates : All (IsSmallPredicate d) d.predicates
  small_predicates k e l =
      let p : PredicateDecl = get_or d.predicates k e in
      let params = few-from_first_past (λ param. param.name) MOST_PARAMETERS p.params (few_params k e l) in
      record {
        arity = params;
        clauses = λ j c m. record {
          arity = params;
          literals = few-from_first_past first_name MOST_LITERALS (get_or p.clauses j c)
              (offsets_in_clauses-each (λ n params clause. first_past MOST_LITERALS first_name clause) d.predicates
              (limits Literals) k e l j c m);
          variables = few-from_first_past (λ name. name) MOST_VARIABLES
              (clause_variables d p.params (get_or p.clauses j c))
              (offsets_in_clauses-each (λ n params clause. first_past MOST_VARIABLES (λ name. name)
              (clause_variables d params clause)) d.predicates (limits Variables) k e l j c m);
        };
      }

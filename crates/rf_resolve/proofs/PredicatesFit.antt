-- The predicates of a problem fit, where the declarations break no rule.
use Rattle.std.proofs.Common.{◌≡◌, ℕ, zero, suc, ◌≤◌, ◌<◌, List, [], ◌∷◌, ◌++◌, length, get_or, map, All, refl, sym, ap, subst, arith}
use Rattle.std.specs.List.{flat_map}
use Rattle.std.proofs.lemmas.List.{length-map}
use Rattle.std.proofs.lemmas.List.Elements.{All-append, All-head, All-map, All-nil, All-tail}
use Rattle.rf_bounds.specs.declared.TheConstants.{MOST_CLAUSES, MOST_LITERALS, MOST_PARAMETERS, MOST_PREDICATES, MOST_VARIABLES}
use Rattle.rf_problem.specs.Valid.{ArePredicates, FitsClause}
use Rattle.rf_problem.specs.declared.object.ObjectDecl.{ObjectDecl}
use Rattle.rf_problem.specs.declared.predicate.Predicate.{Predicate}
use Rattle.rf_syntax.specs.declared.predicate.BodyLiteral.{BodyLiteral}
use Rattle.rf_syntax.specs.declared.statement.Ast.{Ast}
use Rattle.rf_syntax.specs.declared.statement.Statement.{Statement}
use Rattle.rf_syntax.specs.declared.statement.Statement.TheVariants.{Assert, Atoms, Class, Declare, Enum, Multi, Predicate as PredicateStatement, Scope}
use Rattle.rf_text.specs.Written.{CanBeQuoted}
use Rattle.rf_names.specs.Bodies.{clause_variables, first_name}
use Rattle.rf_names.specs.Declarations.{Declared, PredicateDecl, declared_in, items_of, predicates_in}
use Rattle.rf_resolve.specs.Passes.{Passes}
use Rattle.rf_limits.specs.Limits.{clause_name, first_past}
use Rattle.rf_name_rules.specs.NameOffsets.{ambiguous_literal, unknown_assertion, unknown_bound, unknown_literal, unknown_offsets, unknown_param_class, unknown_reference, unknown_super}
use Rattle.rf_structure_rules.specs.StructureOffsets.{literal_arity}
use Rattle.rf_names.specs.Offsets.{offsets_in_literals}
use Rattle.rf_resolve.specs.Readable.{IsReadableDeclared}
use Rattle.rf_build.specs.Resolved.{resolved_class, resolved_clause, resolved_predicate, resolved_reference}
use Rattle.rf_limits.specs.declared.kind.LimitKind.TheVariants.{Predicates, Parameters, Clauses, Literals, Variables}
use Rattle.rf_resolve.proofs.CallsFit.{calls-no_cycle, predicates_made}
use Rattle.rf_resolve.proofs.ClauseFit.{FitsClause-from_sound, IsSoundClause}
use Rattle.rf_resolve.proofs.ClearOffsets.{few-from_first_past, nil-each, nil-left, nil-right, offsets_in_clauses-each, offsets_in_literals-each}
use Rattle.rf_resolve.proofs.ObjectsThere.{AreAtomsThere, atoms_there, objects_made}

-- each clause has literals
abbrev pub HasLiterals : PredicateDecl → Type 0
HasLiterals p = All (λ (c : List BodyLiteral). 1 ≤ length c) p.clauses

-- the clauses that are written have some
HasLiterals-statement : (s : Statement) → All HasLiterals (predicates_in s)
HasLiterals-statement (Class is_abstract name supers body) = All-nil HasLiterals
HasLiterals-statement (PredicateStatement start name params clauses) = λ k d l. at k d l
  where
    at : (k : ℕ) (d : PredicateDecl) → k < 1 → HasLiterals (get_or (predicates_in (PredicateStatement start name params clauses)) k d)
    at zero d l =
        All-map (λ (c : List BodyLiteral). 1 ≤ length c) (items_of {T = BodyLiteral}) (items_of clauses) (λ j c m. omega arith)
    at (suc k) d l = absurd (omega arith)
HasLiterals-statement (Enum name literals) = All-nil HasLiterals
HasLiterals-statement (Declare names) = All-nil HasLiterals
HasLiterals-statement (Multi items) = All-nil HasLiterals
HasLiterals-statement (Atoms names) = All-nil HasLiterals
HasLiterals-statement (Scope bounds) = All-nil HasLiterals
HasLiterals-statement (Assert is_default assertion) = All-nil HasLiterals

HasLiterals-statements : (ss : List Statement) → All HasLiterals (flat_map predicates_in ss)
HasLiterals-statements [] = All-nil HasLiterals
HasLiterals-statements (s ∷ ss) =
    All-append HasLiterals (predicates_in s) (flat_map predicates_in ss) (HasLiterals-statement s) (HasLiterals-statements ss)

-- such clauses are as many as their first names
length-clause_names :
    (cs : List (List BodyLiteral)) → All (λ (c : List BodyLiteral). 1 ≤ length c) cs → length (flat_map clause_name cs) ≡ length cs
length-clause_names [] all = refl
length-clause_names ([] ∷ cs) all = absurd (omega (arith, All-head (λ (c : List BodyLiteral). 1 ≤ length c) [] cs all))
length-clause_names ((l ∷ ls) ∷ cs) all =
    ap suc (length-clause_names cs (All-tail (λ (c : List BodyLiteral). 1 ≤ length c) (l ∷ ls) cs all))

-- the third and the fifth of six lists, the second of three
nil-third : (xa xb xc xd xe xf : List ℕ) → xa ++ xb ++ xc ++ xd ++ xe ++ xf ≡ [] → xc ≡ []
nil-third xa xb xc xd xe xf e =
    nil-right (xa ++ xb) xc
    (nil-left (xa ++ xb ++ xc) xd (nil-left (xa ++ xb ++ xc ++ xd) xe (nil-left (xa ++ xb ++ xc ++ xd ++ xe) xf e)))

nil-fifth : (xa xb xc xd xe xf : List ℕ) → xa ++ xb ++ xc ++ xd ++ xe ++ xf ≡ [] → xe ≡ []
nil-fifth xa xb xc xd xe xf e = nil-right (xa ++ xb ++ xc ++ xd) xe (nil-left (xa ++ xb ++ xc ++ xd ++ xe) xf e)

nil-middle : (xa xb xc : List ℕ) → xa ++ xb ++ xc ≡ [] → xb ≡ []
nil-middle xa xb xc e = nil-right xa xb (nil-left (xa ++ xb) xc e)

module _ (d : Declared) where
  -- the offsets of unknown names, by where they stand
  abbrev in_supers : List ℕ
  in_supers = flat_map (λ c. flat_map (unknown_super d) c.supers) d.classes

  abbrev in_references : List ℕ
  in_references = flat_map (unknown_reference d) d.references

  abbrev in_params : List ℕ
  in_params = flat_map (λ p. flat_map (λ param. unknown_param_class d param.class) p.params) d.predicates

  abbrev in_bounds : List ℕ
  in_bounds = flat_map (λ b. unknown_bound d b.name) d.bounds

  abbrev in_literals : List ℕ
  in_literals = offsets_in_literals (λ n. unknown_literal d) d.predicates

  abbrev in_assertions : List ℕ
  in_assertions = flat_map (unknown_assertion d) d.assertions

  params-known : unknown_offsets d ≡ [] → in_params ≡ []
  params-known none = nil-third in_supers in_references in_params in_bounds in_literals in_assertions none

  literals-known : unknown_offsets d ≡ [] → in_literals ≡ []
  literals-known none = nil-fifth in_supers in_references in_params in_bounds in_literals in_assertions none

module _ (d : Declared) (passes : Passes d) where
  literals-clear : offsets_in_literals (λ n. ambiguous_literal d) d.predicates ≡ []
  literals-clear = nil-middle _ _ _ passes.ambiguous

  literals-arity : offsets_in_literals (λ n. literal_arity d) d.predicates ≡ []
  literals-arity = nil-left _ _ passes.arities

  -- each clause is sound
  clauses-sound :
      (k : ℕ) (e : PredicateDecl) → k < length d.predicates →
      All (IsSoundClause d (get_or d.predicates k e).params) (get_or d.predicates k e).clauses
  clauses-sound k e l j c m = record {
    literals = λ i b n. record {
      known = offsets_in_literals-each (λ q. unknown_literal d) d.predicates (literals-known d passes.unknown) k e l j c m i b n;
      clear = offsets_in_literals-each (λ q. ambiguous_literal d) d.predicates literals-clear k e l j c m i b n;
      arity = offsets_in_literals-each (λ q. literal_arity d) d.predicates literals-arity k e l j c m i b n;
    };
    typed =
        nil-each (λ param. unknown_param_class d param.class) (get_or d.predicates k e).params
        (nil-each (λ p. flat_map (λ param. unknown_param_class d param.class) p.params) d.predicates (params-known d passes.unknown) k e l);
    few_literals =
        few-from_first_past first_name MOST_LITERALS (get_or (get_or d.predicates k e).clauses j c)
        (offsets_in_clauses-each (λ n params clause. first_past MOST_LITERALS first_name clause) d.predicates (passes.limits Literals) k e l j c m);
    few_variables =
        few-from_first_past (λ name. name) MOST_VARIABLES (clause_variables d (get_or d.predicates k e).params (get_or (get_or d.predicates k e).clauses j c))
        (offsets_in_clauses-each (λ n params clause. first_past MOST_VARIABLES (λ name. name) (clause_variables d params clause)) d.predicates
        (passes.limits Variables) k e l j c m);
  }

  -- the predicates fit, where each clause has literals
  pub predicates_fit-with_literals :
      IsReadableDeclared d → All HasLiterals d.predicates → (objects : List ObjectDecl) → AreAtomsThere d objects →
      ArePredicates (map (resolved_class d) d.classes) (map (resolved_reference d) d.references) objects (map (resolved_predicate d) d.predicates)
  predicates_fit-with_literals readable full objects atoms =
      let count = length-map d.predicates (resolved_predicate d) in
      let few = few-from_first_past (λ p. p.name) MOST_PREDICATES d.predicates (passes.limits Predicates) in
      record {
        few = omega arith;
        named = All-map (λ (p : Predicate). CanBeQuoted p.name) (resolved_predicate d) d.predicates readable.predicates;
        arities = All-map (λ (p : Predicate). p.arity ≤ MOST_PARAMETERS) (resolved_predicate d) d.predicates
            (λ k e l. few-from_first_past (λ param. param.name) MOST_PARAMETERS (get_or d.predicates k e).params
            (nil-each (λ p. first_past MOST_PARAMETERS (λ param. param.name) p.params) d.predicates (passes.limits Parameters) k e l));
        few_clauses = All-map (λ (p : Predicate). length p.clauses ≤ MOST_CLAUSES) (resolved_predicate d) d.predicates
            (λ k e l.
            let written = few-from_first_past (λ name. name) MOST_CLAUSES (flat_map clause_name (get_or d.predicates k e).clauses)
            (nil-each (λ p. first_past MOST_CLAUSES (λ name. name) (flat_map clause_name p.clauses)) d.predicates (passes.limits Clauses) k e l) in
            let named = length-clause_names (get_or d.predicates k e).clauses (full k e l) in
            let made = length-map (get_or d.predicates k e).clauses (resolved_clause d (get_or d.predicates k e).params) in
            omega arith);
        clauses = subst
            (λ c. All (λ p. All (FitsClause c (length (map (resolved_reference d) d.references)) objects (predicates_made d) p.arity) p.clauses) (predicates_made d))
            (sym (length-map d.classes (resolved_class d)))
            (subst (λ r. All (λ p. All (FitsClause (length d.classes) r objects (predicates_made d) p.arity) p.clauses) (predicates_made d))
            (sym (length-map d.references (resolved_reference d))) clauses-fit);
        no_cycle = calls-no_cycle d passes.recursive;
      }
    where
      clauses-fit : All (λ (p : Predicate). All (FitsClause (length d.classes) (length d.references) objects (predicates_made d) p.arity) p.clauses) (predicates_made d)
      clauses-fit =
          All-map (λ (p : Predicate). All (FitsClause (length d.classes) (length d.references) objects (predicates_made d) p.arity) p.clauses)
          (resolved_predicate d) d.predicates
          (λ k e l. All-map
          (FitsClause (length d.classes) (length d.references) objects (predicates_made d) (length (get_or d.predicates k e).params))
          (resolved_clause d (get_or d.predicates k e).params) (get_or d.predicates k e).clauses
          (λ j c m. FitsClause-from_sound d objects atoms (get_or d.predicates k e).params (get_or (get_or d.predicates k e).clauses j c)
          (clauses-sound k e l j c m)))

-- the predicates that a text stands for fit, where it breaks no rule
pub predicates_fit :
    (ast : Ast) → Passes (declared_in ast) → IsReadableDeclared (declared_in ast) →
    ArePredicates (map (resolved_class (declared_in ast)) (declared_in ast).classes)
    (map (resolved_reference (declared_in ast)) (declared_in ast).references) (objects_made (declared_in ast))
    (map (resolved_predicate (declared_in ast)) (declared_in ast).predicates)
predicates_fit ast passes readable =
    predicates_fit-with_literals (declared_in ast) passes readable (HasLiterals-statements ast.statements) (objects_made (declared_in ast))
    (atoms_there ast)

-- The limits, and the first offsets past them.
use Rattle.std.specs.Prelude.{ℕ, List, [], ◌∷◌, drop, nat_lt, Option, None, Some, if◌then◌else◌}
use Rattle.std.specs.List.{flat_map}
use Rattle.std.specs.Option.{option_map}
use Rattle.rf_bounds.specs.declared.TheConstants.{MOST_ASSERTIONS, MOST_CLASSES, MOST_CLAUSES, MOST_LITERALS, MOST_OBJECTS, MOST_PARAMETERS, MOST_PREDICATES, MOST_REFERENCES, MOST_SCOPES, MOST_VARIABLES}
use Rattle.rf_syntax.specs.declared.name.Name.{Name}
use Rattle.rf_syntax.specs.declared.predicate.BodyLiteral.{BodyLiteral}
use Rattle.rf_names.specs.Bodies.{first_name, clause_variables}
use Rattle.rf_names.specs.Declarations.{Declared}
use Rattle.rf_names.specs.LookUp.{named_objects}
use Rattle.rf_names.specs.Offsets.{offsets_in_clauses, least_of}
use Rattle.rf_limits.specs.declared.kind.LimitKind.{LimitKind}
use Rattle.rf_limits.specs.declared.kind.LimitKind.TheVariants.{Classes, References, Predicates, Scopes, Parameters, Clauses, Literals, Variables, Objects, Assertions}

-- the offset of the first item of a list
abbrev pub first_offset : {T : Type 0} → (T → Name) → List T → List ℕ
first_offset name [] = []
first_offset name (x ∷ xs) = (name x).at ∷ []

-- the offset of the first item past a limit, by the name that shows it
abbrev pub first_past : {T : Type 0} → ℕ → (T → Name) → List T → List ℕ
first_past limit name xs = first_offset name (drop limit xs)

-- the first name of a clause
abbrev pub clause_name : List BodyLiteral → List Name
clause_name [] = []
clause_name (l ∷ ls) = first_name l ∷ []

-- the offsets past each limit; parameters and clauses are counted in each predicate, written literals
-- and variables in each clause
abbrev pub limit_offsets : Declared → LimitKind → List ℕ
limit_offsets d Classes = first_past MOST_CLASSES (λ c. c.name) d.classes
limit_offsets d References = first_past MOST_REFERENCES (λ r. r.feature.name) d.references
limit_offsets d Predicates = first_past MOST_PREDICATES (λ p. p.name) d.predicates
limit_offsets d Scopes = first_past MOST_SCOPES (λ b. b.name) d.bounds
limit_offsets d Parameters = flat_map (λ p. first_past MOST_PARAMETERS (λ param. param.name) p.params) d.predicates
limit_offsets d Clauses = flat_map (λ p. first_past MOST_CLAUSES (λ name. name) (flat_map clause_name p.clauses)) d.predicates
limit_offsets d Literals = offsets_in_clauses (λ n params clause. first_past MOST_LITERALS first_name clause) 0 d.predicates
limit_offsets d Variables = offsets_in_clauses (λ n params clause. first_past MOST_VARIABLES (λ name. name) (clause_variables d params clause)) 0 d.predicates
limit_offsets d Objects = first_past MOST_OBJECTS (λ name. name) (named_objects d)
limit_offsets d Assertions = first_past MOST_ASSERTIONS (λ a. a.atom.symbol.name) d.assertions

-- the kinds, in the order that decides at one offset
abbrev pub limit_kinds : List LimitKind
limit_kinds =
    Classes ∷ References ∷ Predicates ∷ Scopes ∷ Parameters ∷ Clauses ∷ Literals ∷ Variables ∷ Objects ∷ Assertions ∷ []

-- an offset past a limit
pub record Excess : Type 0 where
  pub at : ℕ
  pub kind : LimitKind

abbrev pub excess_at : LimitKind → ℕ → Excess
excess_at kind at = record { at = at; kind = kind }

-- the one at the lesser offset, the first of two at the same
abbrev pub earlier : Option Excess → Option Excess → Option Excess
earlier None b = b
earlier (Some a) None = Some a
earlier (Some a) (Some b) = if nat_lt b.at a.at then Some b else Some a

-- the earliest offset past a limit of these kinds
abbrev pub earliest : Declared → List LimitKind → Option Excess
earliest d [] = None
earliest d (k ∷ ks) = earlier (option_map (excess_at k) (least_of (limit_offsets d k))) (earliest d ks)

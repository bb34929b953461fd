-- Lists of byte offsets, and the least of them.
use Rattle.std.specs.Prelude.{ℕ, Bool, List, [], ◌∷◌, if◌then◌else◌, suc, ◌++◌, min, Option, None, Some}
use Rattle.std.specs.List.{flat_map}
use Rattle.rf_syntax.specs.declared.predicate.BodyLiteral.{BodyLiteral}
use Rattle.rf_syntax.specs.declared.predicate.Param.{Param}
use Rattle.rf_names.specs.Declarations.{PredicateDecl}

-- an offset, where a rule is broken there
abbrev pub offset_if : Bool → ℕ → List ℕ
offset_if broken at = if broken then at ∷ [] else []

-- the offsets in each item, by its number from n on
abbrev pub offsets_from : {T : Type 0} → (ℕ → T → List ℕ) → ℕ → List T → List ℕ
offsets_from offsets n [] = []
offsets_from offsets n (x ∷ xs) = offsets n x ++ offsets_from offsets (suc n) xs

-- the offsets in each predicate's clauses, by its number from n on, its parameters and its literals
abbrev pub offsets_in_clauses : (ℕ → List Param → List BodyLiteral → List ℕ) → ℕ → List PredicateDecl → List ℕ
offsets_in_clauses offsets n ps = offsets_from (λ k p. flat_map (offsets k p.params) p.clauses) n ps

-- the offsets in each literal, by the number of its predicate
abbrev pub offsets_in_literals : (ℕ → BodyLiteral → List ℕ) → List PredicateDecl → List ℕ
offsets_in_literals offsets ps = offsets_in_clauses (λ n params clause. flat_map (offsets n) clause) 0 ps

-- the lesser of two offsets, where there are such
abbrev pub lesser : Option ℕ → Option ℕ → Option ℕ
lesser None b = b
lesser (Some a) None = Some a
lesser (Some a) (Some b) = Some (min a b)

-- the least of the offsets
abbrev pub least_of : List ℕ → Option ℕ
least_of [] = None
least_of (at ∷ ats) = lesser (Some at) (least_of ats)

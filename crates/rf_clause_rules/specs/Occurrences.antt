-- For private functions: how the variables of a clause occur in its literals, by one pass over them.
use Rattle.std.specs.Prelude.{◌==◌, ℕ, Bool, true, false, if◌then◌else◌, List, suc, [], ◌∷◌, filter, not}
use Rattle.std.specs.List.{list_any}
use Rattle.std.specs.BTreeMap.{BTreeMap, get_by}
use Rattle.std.specs.Cmp.Lexicographic.{slice_cmp}
use Rattle.std.specs.Option.{unwrap_or}
use Rattle.std.specs.Ordering.{nat_cmp}
use denote.Ref.{Bor}
use Rattle.rf_syntax.specs.declared.name.Name.{Name}
use Rattle.rf_syntax.specs.declared.predicate.BodyLiteral.{BodyLiteral}
use Rattle.rf_syntax.specs.declared.predicate.Param.{Param}
use Rattle.rf_clause_rules.specs.declared.occurrence.Occurrence.{Occurrence}
use Rattle.rf_clause_rules.specs.declared.occurrence.Occurrence.TheVariants.{Nowhere, Inside, Loose, Bound}
use Rattle.rf_names.specs.Texts.{reads}
use Rattle.rf_names.specs.Bodies.{is_negated, names_variable}
use Rattle.rf_names.specs.Declarations.{Declared, is_atom_argument}

-- how a variable occurs once literal k names it too
abbrev pub named_in : ℕ → Bool → Occurrence → Occurrence
named_in k false occurrence = Bound
named_in k true Nowhere = Inside k
named_in k true (Inside j) = if j == k then Inside j else Loose
named_in k true Loose = Loose
named_in k true Bound = Bound

-- the same where the name is one of these, else as before
abbrev pub named_among : ℕ → Bool → List Name → List ℕ → Occurrence → Occurrence
named_among k negated names text occurrence =
    if list_any (reads text) names then named_in k negated occurrence else occurrence

-- how the variable of this name occurs after arguments of a literal; those that stand for atoms count for nothing
abbrev pub after_arguments : Declared → List Param → ℕ → Bool → List Name → List ℕ → Occurrence → Occurrence
after_arguments d params k negated names text occurrence =
    named_among k negated (filter (λ n. not (is_atom_argument d.atoms params n)) names) text occurrence

-- how it occurs after a literal, and after literals with the numbers from k on
abbrev pub after_literal : Declared → List Param → ℕ → BodyLiteral → List ℕ → Occurrence → Occurrence
after_literal d params k literal text occurrence =
    if names_variable d params text literal then named_in k (is_negated literal) occurrence else occurrence

abbrev pub after_literals : Declared → List Param → ℕ → List BodyLiteral → List ℕ → Occurrence → Occurrence
after_literals d params k [] text occurrence = occurrence
after_literals d params k (l ∷ ls) text occurrence =
    after_literals d params (suc k) ls text (after_literal d params k l text occurrence)

-- how it occurs in a clause
abbrev pub occurrence_of : Declared → List Param → List BodyLiteral → List ℕ → Occurrence
occurrence_of d params clause text = after_literals d params 0 clause text Nowhere

-- whether it stands in several negated literals alone
abbrev pub is_loose_occurrence : Occurrence → Bool
is_loose_occurrence Nowhere = false
is_loose_occurrence (Inside k) = false
is_loose_occurrence Loose = true
is_loose_occurrence Bound = false

-- what is stored under a text
abbrev pub occurrence_in : BTreeMap (Bor (List ℕ)) Occurrence → List ℕ → Occurrence
occurrence_in occurrences text =
    unwrap_or (get_by (λ key. slice_cmp nat_cmp text key.now) occurrences) Nowhere

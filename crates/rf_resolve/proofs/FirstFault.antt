-- The rules group by group, and the first that is broken.
use Rattle.std.proofs.Common.{◌≡◌, ◌∙◌, List, [], ◌∷◌, ◌++◌, Option, None, Some, Result, Ok, Err, IfOk, refl, sym, ap}
use Rattle.std.specs.Option.{option_map, option_or}
use Rattle.rf_names.specs.Declarations.{Declared}
use Rattle.rf_limits.specs.Limits.{earliest, limit_kinds}
use Rattle.rf_resolve.specs.Fault.{fault_of, first_of, limit_error}
use Rattle.rf_names.specs.Offsets.{least_of}
use Rattle.rf_name_rules.specs.NameOffsets.{ambiguous_offsets, twice_offsets, unknown_offsets}
use Rattle.rf_structure_rules.specs.StructureOffsets.{arity_offsets, bad_container_offsets, bad_opposite_offsets, bad_range_offsets, cycle_offsets, equals_two_offsets}
use Rattle.rf_clause_rules.specs.ClauseOffsets.{loose_offsets, recursive_offsets}
use Rattle.rf_resolve.specs.declared.error.NameError.{NameError}
use Rattle.rf_resolve.specs.declared.error.NameError.TheVariants.{Ambiguous, Arity, BadContainer, BadOpposite, BadRange, ClassCycle, EqualsTwo, LooseVariable, Recursive, Twice, Unknown}

or_assoc : (a b c : Option NameError) → option_or (option_or a b) c ≡ option_or a (option_or b c)
or_assoc None b c = refl
or_assoc (Some x) b c = refl

first_append : (es fs : List (Option NameError)) → first_of (es ++ fs) ≡ option_or (first_of es) (first_of fs)
first_append [] fs = refl
first_append (e ∷ es) fs = ap (option_or e) (first_append es fs) ∙ sym (or_assoc e (first_of es) (first_of fs))

abbrev names_part : Declared → List (Option NameError)
names_part d =
    option_map Twice (least_of (twice_offsets d))
    ∷ option_map Unknown (least_of (unknown_offsets d))
    ∷ option_map Ambiguous (least_of (ambiguous_offsets d))
    ∷ []

abbrev classes_part : Declared → List (Option NameError)
classes_part d =
    option_map ClassCycle (least_of (cycle_offsets d))
    ∷ option_map BadOpposite (least_of (bad_opposite_offsets d))
    ∷ option_map BadContainer (least_of (bad_container_offsets d))
    ∷ option_map BadRange (least_of (bad_range_offsets d))
    ∷ []

abbrev predicates_part : Declared → List (Option NameError)
predicates_part d =
    option_map Arity (least_of (arity_offsets d))
    ∷ option_map LooseVariable (least_of (loose_offsets d))
    ∷ option_map Recursive (least_of (recursive_offsets d))
    ∷ []

abbrev rest_part : Declared → List (Option NameError)
rest_part d =
    option_map EqualsTwo (least_of (equals_two_offsets d))
    ∷ option_map limit_error (earliest d limit_kinds)
    ∷ []

-- the first of all rules is the first of the groups
pub whole :
    (d : Declared) →
    fault_of d ≡ option_or (first_of (names_part d)) (option_or (first_of (classes_part d)) (option_or (first_of (predicates_part d)) (first_of (rest_part d))))
whole d =
    first_append (names_part d) (classes_part d ++ (predicates_part d ++ rest_part d))
    ∙ ap (option_or (first_of (names_part d)))
    (first_append (classes_part d) (predicates_part d ++ rest_part d)
    ∙ ap (option_or (first_of (classes_part d))) (first_append (predicates_part d) (rest_part d)))

-- the first of four where those before it are none
abbrev first_of_four : Option NameError → Option NameError → Option NameError → Option NameError → Option NameError
first_of_four a b c e = option_or a (option_or b (option_or c e))

pub from_groups :
    (d : Declared) (a b c e result : Option NameError) → a ≡ first_of (names_part d) → b ≡ first_of (classes_part d) →
    c ≡ first_of (predicates_part d) → e ≡ first_of (rest_part d) → result ≡ first_of_four a b c e → result ≡ fault_of d
from_groups d a b c e result at_names at_classes at_predicates at_rest is =
    is ∙ ap (λ x. first_of_four x b c e) at_names ∙ ap (λ x. first_of_four (first_of (names_part d)) x c e) at_classes
    ∙ ap (λ x. first_of_four (first_of (names_part d)) (first_of (classes_part d)) x e) at_predicates
    ∙ ap (λ x. first_of_four (first_of (names_part d)) (first_of (classes_part d)) (first_of (predicates_part d)) x) at_rest ∙ sym (whole d)

none_from : (o : Option NameError) → ((x : NameError) → o ≡ Some x → ⊥) → o ≡ None
none_from None never = refl
none_from (Some x) never = absurd (never x refl)

pub some_first :
    (d : Declared) (a : Option NameError) (x : NameError) → a ≡ first_of (names_part d) → a ≡ Some x → Some x ≡ fault_of d
some_first d a x at_names is =
    from_groups d a (first_of (classes_part d)) (first_of (predicates_part d)) (first_of (rest_part d)) (Some x) at_names refl refl refl (rw is refl)

pub some_second :
    (d : Declared) (a b : Option NameError) (x : NameError) → a ≡ first_of (names_part d) → ((y : NameError) → a ≡ Some y → ⊥) →
    b ≡ first_of (classes_part d) → b ≡ Some x → Some x ≡ fault_of d
some_second d a b x at_names never at_classes is =
    let none : a ≡ None = none_from a never in
    from_groups d a b (first_of (predicates_part d)) (first_of (rest_part d)) (Some x) at_names at_classes refl refl (rw (none, is) refl)

pub some_third :
    (d : Declared) (a b c : Option NameError) (x : NameError) → a ≡ first_of (names_part d) → ((y : NameError) → a ≡ Some y → ⊥) →
    b ≡ first_of (classes_part d) → ((y : NameError) → b ≡ Some y → ⊥) → c ≡ first_of (predicates_part d) → c ≡ Some x → Some x ≡ fault_of d
some_third d a b c x at_names no_a at_classes no_b at_predicates is =
    let none_a : a ≡ None = none_from a no_a in
    let none_b : b ≡ None = none_from b no_b in
    from_groups d a b c (first_of (rest_part d)) (Some x) at_names at_classes at_predicates refl (rw (none_a, none_b, is) refl)

pub the_rest :
    {E : Type 0} (d : Declared) (a b c : Option NameError) (result : Result (Option NameError) E) → a ≡ first_of (names_part d) →
    ((y : NameError) → a ≡ Some y → ⊥) → b ≡ first_of (classes_part d) → ((y : NameError) → b ≡ Some y → ⊥) → c ≡ first_of (predicates_part d) →
    ((y : NameError) → c ≡ Some y → ⊥) → IfOk result (λ e. e ≡ first_of (rest_part d)) → IfOk result (λ e. e ≡ fault_of d)
the_rest d a b c (Ok e) at_names no_a at_classes no_b at_predicates no_c at_rest =
    let none_a : a ≡ None = none_from a no_a in
    let none_b : b ≡ None = none_from b no_b in
    let none_c : c ≡ None = none_from c no_c in
    from_groups d a b c e e at_names at_classes at_predicates at_rest (rw (none_a, none_b, none_c) refl)
the_rest d a b c (Err f) at_names no_a at_classes no_b at_predicates no_c at_rest = tt

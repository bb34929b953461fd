-- Declarations in which no fault is found pass each rule and each limit.
use Rattle.std.proofs.Common.{◌≡◌, ℕ, Bool, true, false, List, [], ◌∷◌, Option, None, Some, refl}
use Rattle.std.specs.Prelude.{if◌then◌else◌, nat_lt}
use Rattle.std.specs.Option.{option_map, option_or}
use Rattle.rf_names.specs.Declarations.{Declared}
use Rattle.rf_limits.specs.Limits.{Excess, earlier, earliest, excess_at, limit_kinds, limit_offsets}
use Rattle.rf_resolve.specs.Passes.{Passes}
use Rattle.rf_resolve.specs.Fault.{fault_of, first_of, limit_error}
use Rattle.rf_names.specs.Offsets.{least_of, lesser}
use Rattle.rf_name_rules.specs.NameOffsets.{ambiguous_offsets, twice_offsets, unknown_offsets}
use Rattle.rf_structure_rules.specs.StructureOffsets.{arity_offsets, bad_container_offsets, bad_opposite_offsets, bad_range_offsets, cycle_offsets, equals_two_offsets}
use Rattle.rf_clause_rules.specs.ClauseOffsets.{loose_offsets, recursive_offsets}
use Rattle.rf_limits.specs.declared.kind.LimitKind.{LimitKind}
use Rattle.rf_limits.specs.declared.kind.LimitKind.TheVariants.{Classes, References, Predicates, Scopes, Parameters, Clauses, Literals, Variables, Objects, Assertions}
use Rattle.rf_resolve.specs.declared.error.NameError.{NameError}
use Rattle.rf_resolve.specs.declared.error.NameError.TheVariants.{Twice, Unknown, Ambiguous, ClassCycle, BadOpposite, BadContainer, BadRange, Arity, LooseVariable, Recursive, EqualsTwo}

never_none : {T : Type 0} (x : T) (o : Option T) → o ≡ Some x → o ≡ None → ⊥
never_none x o is none = cc

lesser_some : (at : ℕ) (b : Option ℕ) → lesser (Some at) b ≡ None → ⊥
lesser_some at None none = never_none at _ refl none
lesser_some at (Some b) none = never_none _ _ refl none

least_none : (ats : List ℕ) → least_of ats ≡ None → ats ≡ []
least_none [] none = refl
least_none (at ∷ ats) none = absurd (lesser_some at (least_of ats) none)

mapped_none : {T : Type 0} (f : ℕ → T) (o : Option ℕ) → option_map f o ≡ None → o ≡ None
mapped_none f None none = refl
mapped_none f (Some at) none = absurd (never_none _ _ refl none)

offsets_none : {T : Type 0} (f : ℕ → T) (ats : List ℕ) → option_map f (least_of ats) ≡ None → ats ≡ []
offsets_none f ats none = least_none ats (mapped_none f (least_of ats) none)

either_none : {T : Type 0} (a b : Option T) → option_or a b ≡ None → (a ≡ None) × (b ≡ None)
either_none None b none = (refl, none)
either_none (Some a) b none = absurd (never_none a _ refl none)

abbrev AllNone : List (Option NameError) → Type 0
AllNone [] = Unit {0}
AllNone (e ∷ es) = (e ≡ None) × AllNone es

first_none : (es : List (Option NameError)) → first_of es ≡ None → AllNone es
first_none [] none = tt
first_none (e ∷ es) none = let both = either_none e (first_of es) none in (both.0, first_none es both.1)

one_there : (c : Bool) (a b : Excess) (o : Option Excess) → o ≡ (if c then Some b else Some a) → o ≡ None → ⊥
one_there true a b o is none = never_none b o is none
one_there false a b o is none = never_none a o is none

earlier_none : (a b : Option Excess) → earlier a b ≡ None → (a ≡ None) × (b ≡ None)
earlier_none None b none = (refl, none)
earlier_none (Some a) None none = absurd (never_none a _ refl none)
earlier_none (Some a) (Some b) none = absurd (one_there (nat_lt b.at a.at) a b _ refl none)

abbrev AllEmpty : Declared → List LimitKind → Type 0
AllEmpty d [] = Unit {0}
AllEmpty d (k ∷ ks) = (limit_offsets d k ≡ []) × AllEmpty d ks

none_past : (d : Declared) (ks : List LimitKind) → earliest d ks ≡ None → AllEmpty d ks
none_past d [] none = tt
none_past d (k ∷ ks) none =
    let both = earlier_none (option_map (excess_at k) (least_of (limit_offsets d k))) (earliest d ks) none in
    (offsets_none (excess_at k) (limit_offsets d k) both.0, none_past d ks both.1)

each_kind : (d : Declared) → AllEmpty d limit_kinds → (k : LimitKind) → limit_offsets d k ≡ []
each_kind d all Classes = all.0
each_kind d all References = all.1.0
each_kind d all Predicates = all.1.1.0
each_kind d all Scopes = all.1.1.1.0
each_kind d all Parameters = all.1.1.1.1.0
each_kind d all Clauses = all.1.1.1.1.1.0
each_kind d all Literals = all.1.1.1.1.1.1.0
each_kind d all Variables = all.1.1.1.1.1.1.1.0
each_kind d all Objects = all.1.1.1.1.1.1.1.1.0
each_kind d all Assertions = all.1.1.1.1.1.1.1.1.1.0

abbrev faults : Declared → List (Option NameError)
faults d =
    option_map Twice (least_of (twice_offsets d))
    ∷ option_map Unknown (least_of (unknown_offsets d))
    ∷ option_map Ambiguous (least_of (ambiguous_offsets d))
    ∷ option_map ClassCycle (least_of (cycle_offsets d))
    ∷ option_map BadOpposite (least_of (bad_opposite_offsets d))
    ∷ option_map BadContainer (least_of (bad_container_offsets d))
    ∷ option_map BadRange (least_of (bad_range_offsets d))
    ∷ option_map Arity (least_of (arity_offsets d))
    ∷ option_map LooseVariable (least_of (loose_offsets d))
    ∷ option_map Recursive (least_of (recursive_offsets d))
    ∷ option_map EqualsTwo (least_of (equals_two_offsets d))
    ∷ option_map limit_error (earliest d limit_kinds)
    ∷ []

limits_none : (o : Option Excess) → option_map limit_error o ≡ None → o ≡ None
limits_none None none = refl
limits_none (Some e) none = absurd (never_none _ _ refl none)

pub passes : (d : Declared) → fault_of d ≡ None → Passes d
passes d none =
    let all = first_none (faults d) none in
    record {
      twice = offsets_none Twice (twice_offsets d) all.0;
      unknown = offsets_none Unknown (unknown_offsets d) all.1.0;
      ambiguous = offsets_none Ambiguous (ambiguous_offsets d) all.1.1.0;
      cycles = offsets_none ClassCycle (cycle_offsets d) all.1.1.1.0;
      opposites = offsets_none BadOpposite (bad_opposite_offsets d) all.1.1.1.1.0;
      containers = offsets_none BadContainer (bad_container_offsets d) all.1.1.1.1.1.0;
      ranges = offsets_none BadRange (bad_range_offsets d) all.1.1.1.1.1.1.0;
      arities = offsets_none Arity (arity_offsets d) all.1.1.1.1.1.1.1.0;
      loose = offsets_none LooseVariable (loose_offsets d) all.1.1.1.1.1.1.1.1.0;
      recursive = offsets_none Recursive (recursive_offsets d) all.1.1.1.1.1.1.1.1.1.0;
      equals_two = offsets_none EqualsTwo (equals_two_offsets d) all.1.1.1.1.1.1.1.1.1.1.0;
      limits = each_kind d (none_past d limit_kinds (limits_none (earliest d limit_kinds) all.1.1.1.1.1.1.1.1.1.1.1.0));
    }

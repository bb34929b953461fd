-- The byte offsets at which what names stand for doesn't fit together.
use Rattle.std.specs.Prelude.{ℕ, List, [], ◌∷◌, ◌++◌, not, Option, None, Some, ◌&&◌, Bool, true, false, ◌||◌, nat_lt, length, slice_index_or, nat_eq, ◌==◌}
use Rattle.std.specs.List.{flat_map}
use Rattle.std.specs.Str.{bytes_eq}
use Rattle.rf_syntax.specs.declared.name.Name.{Name}
use Rattle.rf_syntax.specs.declared.predicate.BodyLiteral.{BodyLiteral}
use Rattle.rf_syntax.specs.declared.predicate.BodyLiteral.TheVariants.{Call, Same, Differ}
use Rattle.rf_syntax.specs.declared.assertion.Arg.{Arg}
use Rattle.rf_syntax.specs.declared.assertion.Arg.TheVariants.{Symbol as OfSymbol}
use Rattle.rf_syntax.specs.declared.class.MultPlace.TheVariants.{Absent as NoMult, AfterType, AfterName}
use Rattle.rf_problem.specs.Parts.{is_contains}
use Rattle.rf_problem.specs.declared.reference.RefKind.{RefKind}
use Rattle.rf_problem.specs.declared.reference.RefKind.TheVariants.{Plain, Contains, Container}
use Rattle.rf_syntax.specs.declared.range.Upper.{Upper}
use Rattle.rf_syntax.specs.declared.range.Upper.TheVariants.{Absent, Star as Unbounded, Number}
use Rattle.rf_syntax.specs.declared.range.Range.{Range}
use Rattle.rf_syntax.specs.declared.class.MultPlace.{MultPlace}
use Rattle.rf_problem.specs.declared.symbol.Symbol.{Symbol}
use Rattle.rf_problem.specs.declared.symbol.Symbol.TheVariants.{Equals}
use Rattle.rf_names.specs.LookUp.{class_named, literal_symbols, sense_of, assertion_symbols, extends_somehow, opposite_of, can_be_closed, parameters_of}
use Rattle.rf_names.specs.Offsets.{offset_if, offsets_from, offsets_in_literals}
use Rattle.rf_names.specs.Declarations.{ClassDecl, Declared, ReferenceDecl, AssertDecl, kind_of_word, object_name}
use Rattle.rf_names.specs.declared.sense.Sense.{Sense}
use Rattle.rf_names.specs.declared.sense.Sense.TheVariants.{Nothing, One, Several}

-- ClassCycle: classes that extend themselves, by their number from n on
abbrev pub cycles_from : Declared → ℕ → List ClassDecl → List ℕ
cycles_from d n cs = offsets_from (λ k c. offset_if (extends_somehow d k k) c.name.at) n cs

abbrev pub cycle_offsets : Declared → List ℕ
cycle_offsets d = cycles_from d 0 d.classes

-- BadOpposite: names after `opposite` whose reference isn't one that the target declares, that leads
-- back, and whose own opposite is this one

-- what stands where no reference has the number
abbrev pub no_reference_decl : ReferenceDecl
no_reference_decl = record {
  source = 0;
  feature = record {
    word = None;
    target = record { text = []; quoted = false; at = 0 };
    name = record { text = []; quoted = false; at = 0 };
    mult = NoMult;
    opposite = None;
    semicolon = false;
  };
}

abbrev pub reference_decl_at : Declared → ℕ → ReferenceDecl
reference_decl_at d r = slice_index_or d.references r no_reference_decl

-- whether two numbers are there and the same
abbrev pub is_same_number : Option ℕ → Option ℕ → Bool
is_same_number (Some a) (Some b) = nat_eq a b
is_same_number _ _ = false

-- whether reference s, the opposite of reference n, has it as its opposite too, between the same classes
abbrev pub leads_back : Declared → ℕ → ReferenceDecl → Option ℕ → Bool
leads_back d n r None = false
leads_back d n r (Some s) =
    is_same_number (class_named d r.feature.target.text) (Some (reference_decl_at d s).source)
    && (is_same_number (class_named d (reference_decl_at d s).feature.target.text) (Some r.source)
    && is_same_number (opposite_of d (reference_decl_at d s) (reference_decl_at d s).feature.opposite) (Some n))

abbrev pub bad_opposite : Declared → ℕ → ReferenceDecl → Option Name → List ℕ
bad_opposite d n r None = []
bad_opposite d n r (Some name) = offset_if (not (leads_back d n r (opposite_of d r (Some name)))) name.at

-- those of the references with the numbers from n on
abbrev pub bad_opposites_from : Declared → ℕ → List ReferenceDecl → List ℕ
bad_opposites_from d n rs = offsets_from (λ k r. bad_opposite d k r r.feature.opposite) n rs

abbrev pub bad_opposite_offsets : Declared → List ℕ
bad_opposite_offsets d = bad_opposites_from d 0 d.references

-- BadContainer: `container` references without an opposite that contains, and references that contain
-- with such an opposite

-- whether the opposite contains
abbrev pub is_contained_by : Declared → Option ℕ → Bool
is_contained_by d None = false
is_contained_by d (Some s) = is_contains (kind_of_word (reference_decl_at d s).feature.word)

abbrev pub breaks_containment : RefKind → Bool → Bool
breaks_containment Plain opposite_contains = false
breaks_containment Contains opposite_contains = opposite_contains
breaks_containment Container opposite_contains = not opposite_contains

abbrev pub bad_container : Declared → ReferenceDecl → List ℕ
bad_container d r =
    offset_if (breaks_containment (kind_of_word r.feature.word) (is_contained_by d (opposite_of d r r.feature.opposite))) r.feature.name.at

abbrev pub bad_container_offsets : Declared → List ℕ
bad_container_offsets d = flat_map (bad_container d) d.references

-- BadRange: ranges whose upper number is less than their lower one

abbrev pub is_less : Upper → ℕ → Bool
is_less Absent lo = false
is_less Unbounded lo = false
is_less (Number n) lo = nat_lt n lo

abbrev pub bad_range : Range → List ℕ
bad_range r = offset_if (is_less r.hi r.lo) r.at

abbrev pub bad_range_or_none : Option Range → List ℕ
bad_range_or_none None = []
bad_range_or_none (Some r) = bad_range r

abbrev pub bad_mult : MultPlace → List ℕ
bad_mult NoMult = []
bad_mult (AfterType m) = bad_range_or_none m.range
bad_mult (AfterName m) = bad_range_or_none m.range

abbrev pub bad_range_offsets : Declared → List ℕ
bad_range_offsets d =
    flat_map (λ r. bad_mult r.feature.mult) d.references
    ++ flat_map (λ i. bad_range_or_none i.range) d.items
    ++ flat_map (λ b. bad_range b.range) d.bounds

-- Arity: symbols that don't have as many arguments as parameters; and before a `+` those that
-- are a class or don't have two parameters

abbrev pub fits_call : Declared → Symbol → Bool → ℕ → Bool
fits_call d symbol closure args = (args == parameters_of d symbol) && (not closure || can_be_closed d symbol)

abbrev pub bad_arity : Declared → Sense → Bool → ℕ → ℕ → List ℕ
bad_arity d Nothing closure args at = []
bad_arity d (One symbol) closure args at = offset_if (not (fits_call d symbol closure args)) at
bad_arity d Several closure args at = []

abbrev pub literal_arity : Declared → BodyLiteral → List ℕ
literal_arity d (Call negated symbol closure args) =
    bad_arity d (sense_of (literal_symbols d symbol)) closure (length args) symbol.name.at
literal_arity d (Same a b) = []
literal_arity d (Differ a b) = []

abbrev pub assertion_arity : Declared → AssertDecl → List ℕ
assertion_arity d a = bad_arity d (sense_of (assertion_symbols d a.atom.symbol)) false (length a.atom.args) a.atom.symbol.name.at

abbrev pub arity_offsets : Declared → List ℕ
arity_offsets d =
    offsets_in_literals (λ n. literal_arity d) d.predicates
    ++ flat_map (assertion_arity d) d.assertions

-- EqualsTwo: an `equals` of assertions whose arguments aren't the same object named twice

abbrev pub is_equals : Sense → Bool
is_equals (One Equals) = true
is_equals _ = false

-- whether these are the names of the same object, or neither is there and the classes have the same name
abbrev pub is_same_name : Option Name → Option Name → Bool → Bool
is_same_name None None same_class = same_class
is_same_name (Some m) (Some n) same_class = bytes_eq m.text n.text
is_same_name _ _ same_class = false

-- whether two arguments are the same object: a named one, or the new object of a class
abbrev pub is_same_object : Arg → Arg → Bool
is_same_object (OfSymbol s) (OfSymbol t) =
    is_same_name (object_name s.name s.member) (object_name t.name t.member) (bytes_eq s.name.text t.name.text)
is_same_object _ _ = false

abbrev pub is_twice : List Arg → Bool
is_twice (a ∷ b ∷ []) = is_same_object a b
is_twice _ = false

abbrev pub equals_two : Declared → AssertDecl → List ℕ
equals_two d a =
    offset_if (is_equals (sense_of (assertion_symbols d a.atom.symbol)) && not (is_twice a.atom.args)) a.atom.symbol.name.at

abbrev pub equals_two_offsets : Declared → List ℕ
equals_two_offsets d = flat_map (equals_two d) d.assertions

-- The byte offsets at which names are declared twice, unknown or ambiguous.
use Rattle.std.specs.Prelude.{ℕ, List, [], ◌∷◌, ◌++◌, codes, map, not, filter, Option, None, Some, ◌&&◌, Bool, true, false, ◌||◌, if◌then◌else◌, nat_lt, length}
use Rattle.std.specs.List.{flat_map}
use Rattle.std.specs.Option.{is_none, is_some}
use Rattle.rf_syntax.specs.declared.name.Name.{Name}
use Rattle.rf_syntax.specs.declared.predicate.BodyLiteral.{BodyLiteral}
use Rattle.rf_syntax.specs.declared.predicate.BodyLiteral.TheVariants.{Call, Same, Differ}
use Rattle.rf_syntax.specs.declared.assertion.Arg.{Arg}
use Rattle.rf_syntax.specs.declared.assertion.Arg.TheVariants.{Star, Symbol as OfSymbol}
use Rattle.rf_syntax.specs.declared.name.SymbolName.{SymbolName}
use Rattle.rf_names.specs.Texts.{is_blank, is_text_of, reads}
use Rattle.rf_names.specs.LookUp.{has_new, is_literal_of, class_named, opposites_named, literal_symbols, sense_of, predicate_named, class_decl_at, assertion_symbols}
use Rattle.rf_names.specs.Offsets.{offset_if, offsets_in_literals}
use Rattle.rf_names.specs.Declarations.{ClassDecl, PredicateDecl, Declared, ReferenceDecl, AssertDecl, param_names}
use Rattle.rf_names.specs.declared.sense.Sense.{Sense}
use Rattle.rf_names.specs.declared.sense.Sense.TheVariants.{Nothing, One, Several}

-- Twice: names that are declared earlier in their space, or are reserved there

-- the names that are among these texts, or have the text of a name before them
abbrev pub repeated : List (List ℕ) → List Name → List ℕ
repeated seen [] = []
repeated seen (n ∷ ns) = offset_if (is_text_of seen n) n.at ++ repeated (n.text ∷ seen) ns

-- what is reserved in the space of classes, predicates and objects, and among a class's members
abbrev pub reserved_names : List (List ℕ)
reserved_names = codes "node" ∷ codes "exists" ∷ codes "equals" ∷ []

abbrev pub reserved_members : List (List ℕ)
reserved_members = codes "new" ∷ []

-- the names of the references of a class
abbrev pub feature_names : ClassDecl → List Name
feature_names c = map (λ f. f.name) c.features

-- the parameters; `_` may stand any number of times
abbrev pub params_apart : PredicateDecl → List Name
params_apart p = filter (λ n. not (is_blank n)) (param_names p.params)

abbrev pub twice_offsets : Declared → List ℕ
twice_offsets d =
    repeated reserved_names d.names
    ++ flat_map (λ c. repeated reserved_members (feature_names c)) d.classes
    ++ flat_map (λ p. repeated [] (params_apart p)) d.predicates

-- Unknown: names that stand for nothing of the kind that is needed there

-- a name that isn't a class
abbrev pub unknown_class : Declared → Name → List ℕ
unknown_class d n = offset_if (is_none (class_named d n.text)) n.at

-- whether the class of this number is there and isn't an enum
abbrev pub can_be_extended : Declared → Option ℕ → Bool
can_be_extended d None = false
can_be_extended d (Some c) = not (class_decl_at d c).is_enum

-- a name after `extends` that isn't a class, or is an enum
abbrev pub unknown_super : Declared → Name → List ℕ
unknown_super d n = offset_if (not (can_be_extended d (class_named d n.text))) n.at

abbrev pub unknown_param_class : Declared → Option Name → List ℕ
unknown_param_class d None = []
unknown_param_class d (Some n) = unknown_class d n

-- a name in a scope that is neither a class nor `node`
abbrev pub unknown_bound : Declared → Name → List ℕ
unknown_bound d n = offset_if (is_none (class_named d n.text) && not (reads (codes "node") n)) n.at

-- whether there is nothing in a list
abbrev pub is_nothing : {T : Type 0} → List T → Bool
is_nothing [] = true
is_nothing (x ∷ xs) = false

-- a name after `opposite` that stands for no reference
abbrev pub unknown_opposite : Declared → ReferenceDecl → Option Name → List ℕ
unknown_opposite d r None = []
unknown_opposite d r (Some n) = offset_if (is_nothing (opposites_named d r n)) n.at

-- whether a symbol stands for nothing
abbrev pub is_unknown : Sense → Bool
is_unknown Nothing = true
is_unknown (One s) = false
is_unknown Several = false

-- a symbol that stands for nothing: its name, or with a member its class, the member, or both
abbrev pub unknown_symbol : Declared → Sense → Name → Option Name → List ℕ
unknown_symbol d sense name None = offset_if (is_unknown sense) name.at
unknown_symbol d sense name (Some member) = unknown_class d name ++ offset_if (is_unknown sense) member.at

abbrev pub unknown_literal : Declared → BodyLiteral → List ℕ
unknown_literal d (Call negated symbol closure args) =
    unknown_symbol d (sense_of (literal_symbols d symbol)) symbol.name symbol.member
unknown_literal d (Same a b) = []
unknown_literal d (Differ a b) = []

-- whether a name can't be that of an object: it is a class, a predicate, `_`, or is reserved
abbrev pub is_no_object : Declared → Name → Bool
is_no_object d n =
    is_some (class_named d n.text) || (is_some (predicate_named d n.text) || (is_blank n || is_text_of reserved_names n))

-- whether the class of this number has no object that its new nodes come from: it is abstract or an enum
abbrev pub has_no_new : Declared → Option ℕ → Bool
has_no_new d None = false
has_no_new d (Some c) = not (has_new (class_decl_at d c))

-- a member after a class in an argument: `new` of a class that has no new object, at the class; another that isn't a literal
-- of that class, at the member
abbrev pub unknown_member : Declared → Name → Name → List ℕ
unknown_member d name member =
    if reads (codes "new") member
    then offset_if (has_no_new d (class_named d name.text)) name.at
    else offset_if (not (is_literal_of d (class_named d name.text) member.text)) member.at

-- an argument that stands for no object: a name that can't be one; or a name before `::` that isn't a class, or what follows it
abbrev pub unknown_object : Declared → Name → Option Name → List ℕ
unknown_object d name None = offset_if (is_no_object d name) name.at
unknown_object d name (Some member) = unknown_class d name ++ unknown_member d name member

abbrev pub unknown_arg : Declared → Arg → List ℕ
unknown_arg d Star = []
unknown_arg d (OfSymbol s) = unknown_object d s.name s.member

abbrev pub unknown_assertion : Declared → AssertDecl → List ℕ
unknown_assertion d a =
    unknown_symbol d (sense_of (assertion_symbols d a.atom.symbol)) a.atom.symbol.name a.atom.symbol.member
    ++ flat_map (unknown_arg d) a.atom.args

abbrev pub unknown_reference : Declared → ReferenceDecl → List ℕ
unknown_reference d r = unknown_class d r.feature.target ++ unknown_opposite d r r.feature.opposite

abbrev pub unknown_offsets : Declared → List ℕ
unknown_offsets d =
    flat_map (λ c. flat_map (unknown_super d) c.supers) d.classes
    ++ flat_map (unknown_reference d) d.references
    ++ flat_map (λ p. flat_map (λ param. unknown_param_class d param.class) p.params) d.predicates
    ++ flat_map (λ b. unknown_bound d b.name) d.bounds
    ++ offsets_in_literals (λ n. unknown_literal d) d.predicates
    ++ flat_map (unknown_assertion d) d.assertions

-- Ambiguous: symbols and members that stand for more than one

abbrev pub is_ambiguous : Sense → Bool
is_ambiguous Nothing = false
is_ambiguous (One s) = false
is_ambiguous Several = true

-- the offset of a symbol that is judged by its member, where it has one
abbrev pub last_offset : Name → Option Name → ℕ
last_offset name None = name.at
last_offset name (Some member) = member.at

abbrev pub ambiguous_symbol : Sense → SymbolName → List ℕ
ambiguous_symbol sense s = offset_if (is_ambiguous sense) (last_offset s.name s.member)

abbrev pub ambiguous_literal : Declared → BodyLiteral → List ℕ
ambiguous_literal d (Call negated symbol closure args) = ambiguous_symbol (sense_of (literal_symbols d symbol)) symbol
ambiguous_literal d (Same a b) = []
ambiguous_literal d (Differ a b) = []

abbrev pub ambiguous_opposite : Declared → ReferenceDecl → Option Name → List ℕ
ambiguous_opposite d r None = []
ambiguous_opposite d r (Some n) = offset_if (nat_lt 1 (length (opposites_named d r n))) n.at

abbrev pub ambiguous_offsets : Declared → List ℕ
ambiguous_offsets d =
    flat_map (λ r. ambiguous_opposite d r r.feature.opposite) d.references
    ++ offsets_in_literals (λ n. ambiguous_literal d) d.predicates
    ++ flat_map (λ a. ambiguous_symbol (sense_of (assertion_symbols d a.atom.symbol)) a.atom.symbol) d.assertions

-- What the rules of names say of each part.
use Rattle.std.proofs.Common.{◌≡◌, ℕ, true, false, not, List, [], ◌++◌, get_or, All, Option, None, Some, is_none, refl, sym, true≢false}
use Rattle.std.proofs.lemmas.Bool.{not-false}
use Rattle.std.specs.List.{flat_map}
use Rattle.rf_syntax.specs.declared.name.Name.{Name}
use Rattle.rf_names.specs.Declarations.{Declared}
use Rattle.rf_names.specs.LookUp.{assertion_symbols, class_decl_at, class_named, sense_of, the_number}
use Rattle.rf_name_rules.specs.NameOffsets.{ambiguous_literal, ambiguous_offsets, ambiguous_opposite, ambiguous_symbol, can_be_extended, feature_names, params_apart, repeated, reserved_members, reserved_names, twice_offsets, unknown_assertion, unknown_bound, unknown_class, unknown_literal, unknown_offsets, unknown_param_class, unknown_reference, unknown_super}
use Rattle.rf_names.specs.Offsets.{offsets_in_literals}
use Rattle.rf_resolve.proofs.ClearOffsets.{nil-parts, nil-each, offset_if-nil}

module _ (d : Declared) where
  -- no name is unknown
  pub record AreKnown : Type 0 where
    pub supers : flat_map (λ c. flat_map (unknown_super d) c.supers) d.classes ≡ []
    pub references : flat_map (unknown_reference d) d.references ≡ []
    pub params : flat_map (λ p. flat_map (λ param. unknown_param_class d param.class) p.params) d.predicates ≡ []
    pub bounds : flat_map (λ b. unknown_bound d b.name) d.bounds ≡ []
    pub literals : offsets_in_literals (λ n. unknown_literal d) d.predicates ≡ []
    pub assertions : flat_map (unknown_assertion d) d.assertions ≡ []

  pub known : unknown_offsets d ≡ [] → AreKnown
  known e =
      let in_supers : List ℕ = flat_map (λ c. flat_map (unknown_super d) c.supers) d.classes in
      let in_references : List ℕ = flat_map (unknown_reference d) d.references in
      let in_params : List ℕ = flat_map (λ p. flat_map (λ param. unknown_param_class d param.class) p.params) d.predicates in
      let in_bounds : List ℕ = flat_map (λ b. unknown_bound d b.name) d.bounds in
      let in_literals : List ℕ = offsets_in_literals (λ n. unknown_literal d) d.predicates in
      let in_assertions : List ℕ = flat_map (unknown_assertion d) d.assertions in
      let last = nil-parts (in_supers ++ in_references ++ in_params ++ in_bounds ++ in_literals) in_assertions e in
      let fifth = nil-parts (in_supers ++ in_references ++ in_params ++ in_bounds) in_literals last.0 in
      let fourth = nil-parts (in_supers ++ in_references ++ in_params) in_bounds fifth.0 in
      let third = nil-parts (in_supers ++ in_references) in_params fourth.0 in
      let first = nil-parts in_supers in_references third.0 in
      record {
        supers = first.0;
        references = first.1;
        params = third.1;
        bounds = fourth.1;
        literals = fifth.1;
        assertions = last.1;
      }

  -- none is ambiguous
  pub record AreClear : Type 0 where
    pub opposites : flat_map (λ r. ambiguous_opposite d r r.feature.opposite) d.references ≡ []
    pub literals : offsets_in_literals (λ n. ambiguous_literal d) d.predicates ≡ []
    pub assertions : flat_map (λ a. ambiguous_symbol (sense_of (assertion_symbols d a.atom.symbol)) a.atom.symbol) d.assertions ≡ []

  pub clear : ambiguous_offsets d ≡ [] → AreClear
  clear e =
      let in_references : List ℕ = flat_map (λ r. ambiguous_opposite d r r.feature.opposite) d.references in
      let in_literals : List ℕ = offsets_in_literals (λ n. ambiguous_literal d) d.predicates in
      let in_assertions : List ℕ = flat_map (λ a. ambiguous_symbol (sense_of (assertion_symbols d a.atom.symbol)) a.atom.symbol) d.assertions in
      let last = nil-parts (in_references ++ in_literals) in_assertions e in
      let first = nil-parts in_references in_literals last.0 in
      record { opposites = first.0; literals = first.1; assertions = last.1 }

  -- none is declared twice
  pub record AreOnce : Type 0 where
    pub names : repeated reserved_names d.names ≡ []
    pub members : flat_map (λ c. repeated reserved_members (feature_names c)) d.classes ≡ []
    pub params : flat_map (λ p. repeated [] (params_apart p)) d.predicates ≡ []

  pub once : twice_offsets d ≡ [] → AreOnce
  once e =
      let in_members : List ℕ = flat_map (λ c. repeated reserved_members (feature_names c)) d.classes in
      let in_params : List ℕ = flat_map (λ p. repeated [] (params_apart p)) d.predicates in
      let last = nil-parts (repeated reserved_names d.names ++ in_members) in_params e in
      let first = nil-parts (repeated reserved_names d.names) in_members last.0 in
      record { names = first.0; members = first.1; params = last.1 }

  -- a name that isn't unknown is that of a class
  pub known_class : (n : Name) → unknown_class d n ≡ [] → is_none (class_named d n.text) ≡ false
  known_class n e = offset_if-nil (is_none (class_named d n.text)) n.at e

  -- a name that may stand after `extends` is that of a class that isn't an enum
  extended-there : (o : Option ℕ) → can_be_extended d o ≡ true → is_none o ≡ false
  extended-there None e = absurd (true≢false (sym e))
  extended-there (Some c) e = refl

  extended-plain : (o : Option ℕ) → can_be_extended d o ≡ true → not (class_decl_at d (the_number o)).is_enum ≡ true
  extended-plain None e = absurd (true≢false (sym e))
  extended-plain (Some c) e = e

  extended_supers :
      unknown_offsets d ≡ [] → All (λ c. All (λ s. can_be_extended d (class_named d s.text) ≡ true) c.supers) d.classes
  extended_supers e k c l j s m =
      let name : Name = get_or (get_or d.classes k c).supers j s in
      not-false (can_be_extended d (class_named d name.text))
      (offset_if-nil (not (can_be_extended d (class_named d name.text))) name.at
      (nil-each (unknown_super d) (get_or d.classes k c).supers
      (nil-each (λ c. flat_map (unknown_super d) c.supers) d.classes (known e).supers k c l) j s m))

  pub known_supers :
      unknown_offsets d ≡ [] → All (λ c. All (λ s. is_none (class_named d s.text) ≡ false) c.supers) d.classes
  known_supers e k c l j s m =
      extended-there (class_named d (get_or (get_or d.classes k c).supers j s).text) (extended_supers e k c l j s m)

  pub plain_supers :
      unknown_offsets d ≡ [] →
      All (λ c. All (λ s. not (class_decl_at d (the_number (class_named d s.text))).is_enum ≡ true) c.supers) d.classes
  plain_supers e k c l j s m =
      extended-plain (class_named d (get_or (get_or d.classes k c).supers j s).text) (extended_supers e k c l j s m)

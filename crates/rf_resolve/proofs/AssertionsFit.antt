-- The assertions of a text that breaks no rule of names are those of a problem.
use Rattle.std.proofs.Common.{◌≡◌, ◌∙◌, ◌<◌, Bool, true, false, not, List, [], ◌∷◌, ◌++◌, map, length, get_or, codes, All, Option, Some, None, is_none, refl, sym, ap, subst, arith}
use Rattle.std.specs.Prelude.{◌==◌, ◌||◌, if◌then◌else◌, option_to_list, ℕ}
use Rattle.std.specs.List.{flat_map, list_all, list_any}
use Rattle.std.specs.Option.{ForSome}
use Rattle.std.specs.Str.{bytes_eq}
use Rattle.std.proofs.lemmas.Bool.{and_from, and_parts, eqb-true, not-false}
use Rattle.std.proofs.lemmas.List.{length-map}
use Rattle.std.proofs.lemmas.List.Elements.{All-cons, All-head, All-map, All-nil}
use Rattle.rf_bounds.specs.declared.TheConstants.{MOST_ASSERTIONS}
use Rattle.rf_problem.specs.Parts.{arity_of}
use Rattle.rf_problem.specs.Valid.{AreAssertions, FitsAssertion, is_asserted}
use Rattle.rf_problem.specs.declared.assertion.Assertion.{Assertion}
use Rattle.rf_problem.specs.declared.symbol.Symbol.{Symbol}
use Rattle.rf_problem.specs.declared.symbol.Symbol.TheVariants.{Class as OfClass, Reference, Predicate as Defined, Exists, Equals}
use Rattle.rf_syntax.specs.declared.assertion.Arg.{Arg}
use Rattle.rf_syntax.specs.declared.assertion.Arg.TheVariants.{Star, Symbol as OfSymbol}
use Rattle.rf_syntax.specs.declared.name.Name.{Name}
use Rattle.rf_syntax.specs.declared.name.SymbolName.{SymbolName}
use Rattle.rf_syntax.specs.declared.statement.Ast.{Ast}
use Rattle.rf_syntax.specs.declared.statement.Statement.{Statement}
use Rattle.rf_syntax.specs.declared.statement.Statement.TheVariants.{Assert, Atoms, Class as ClassOf, Declare, Enum, Multi, Predicate as PredicateOf, Scope}
use Rattle.rf_limits.specs.declared.kind.LimitKind.TheVariants.{Assertions}
use Rattle.rf_names.specs.Declarations.{AssertDecl, Declared, asserted_atom, asserted_truth, assertions_in, declared_in, mentions_in, object_in, object_name}
use Rattle.rf_resolve.specs.Passes.{Passes}
use Rattle.rf_names.specs.LookUp.{assertion_symbols, can_be_closed, class_decl_at, class_named, has_new, literal_symbols, no_class_decl, no_predicate_decl, own_symbols, parameters_of, sense_of, symbols_named, symbols_or_members, the_number, the_symbol}
use Rattle.rf_names.specs.Texts.{reads}
use Rattle.rf_name_rules.specs.NameOffsets.{ambiguous_symbol, has_no_new, is_ambiguous, last_offset, unknown_arg, unknown_assertion, unknown_class, unknown_member, unknown_object, unknown_symbol}
use Rattle.rf_structure_rules.specs.StructureOffsets.{assertion_arity, literal_arity}
use Rattle.rf_names.specs.Offsets.{offset_if, offsets_in_literals}
use Rattle.rf_build.specs.Resolved.{object_or_new, resolved_arg, resolved_assertion, resolved_class, resolved_predicate, resolved_reference}
use Rattle.rf_resolve.proofs.ClassesFit.{class_count}
use Rattle.rf_resolve.proofs.ClearOffsets.{few-from_first_past, nil-each, nil-parts, nil-right, offset_if-nil}
use Rattle.rf_resolve.proofs.NumberFacts.{class_below, some_number}
use Rattle.rf_resolve.proofs.ObjectsThere.{named_there, new_there, objects_made, some_read}
use Rattle.rf_resolve.proofs.PairFacts.{All-back, All-flat_map, All-prefix, get_or-map_any}
use Rattle.rf_resolve.proofs.ReferencesFit.{reference_count}
use Rattle.rf_resolve.proofs.RuleParts.{clear, known, known_class}
use Rattle.rf_resolve.proofs.SenseLemmas.{all-both, fits-from_nil, is_there, known-from_nil, literal_symbols-there, one-from_clear, one-from_sense}

module _ (d : Declared) where
  -- what an assertion may speak of
  abbrev may_say : Symbol → Bool
  may_say s = is_asserted (length d.classes) (length d.references) (length d.predicates) s

  may_say-there : (s : Symbol) → is_there d s ≡ true → may_say s ≡ true
  may_say-there (OfClass c) e = e
  may_say-there (Reference r) e = e
  may_say-there (Defined q) e = e
  may_say-there Exists e = refl
  may_say-there Equals e = refl

  all_said : (ss : List Symbol) → list_all (is_there d) ss ≡ true → list_all may_say ss ≡ true
  all_said [] e = refl
  all_said (s ∷ ss) e =
      let parts = and_parts (is_there d s) (list_all (is_there d) ss) e in
      and_from (may_say s) (list_all may_say ss) (may_say-there s parts.0) (all_said ss parts.1)

  own_said : (text : List ℕ) → list_all may_say (own_symbols text) ≡ true
  own_said text = both (bytes_eq text (codes "exists")) (bytes_eq text (codes "equals"))
    where
      both : (a b : Bool) → list_all may_say ((if a then Exists ∷ [] else []) ++ (if b then Equals ∷ [] else [])) ≡ true
      both true true = refl
      both true false = refl
      both false true = refl
      both false false = refl

  symbols_said : (name : Name) (member : Option Name) →
      list_all may_say (symbols_or_members d (symbols_named d name.text ++ own_symbols name.text) name member) ≡ true
  symbols_said name None = all-both may_say (symbols_named d name.text) (own_symbols name.text)
      (all_said (symbols_named d name.text) (literal_symbols-there d record { name = name; member = None })) (own_said name.text)
  symbols_said name (Some m) =
      all_said (literal_symbols d record { name = name; member = Some m }) (literal_symbols-there d record { name = name; member = Some m })

  -- by its number a symbol has as many arguments as by its name
  arity_resolved : (s : Symbol) → arity_of (map (resolved_predicate d) d.predicates) s ≡ parameters_of d s
  arity_resolved (OfClass c) = refl
  arity_resolved (Reference r) = refl
  arity_resolved (Defined q) = ap (λ p. p.arity) (get_or-map_any (resolved_predicate d) d.predicates q no_predicate_decl)
  arity_resolved Exists = refl
  arity_resolved Equals = refl

-- what holds of the names at which a text speaks of objects holds of the names in its assertions
abbrev AreIn : (Name → Type 0) → AssertDecl → Type 0
AreIn P a = All (λ arg. All P (object_in arg)) a.atom.args

names_of_assertions : (P : Name → Type 0) (atoms : List Name) (ss : List Statement) → All P (flat_map (mentions_in atoms) ss) →
    All (AreIn P) (flat_map assertions_in ss)
names_of_assertions P atoms [] all = All-nil (AreIn P)
names_of_assertions P atoms (ClassOf is_abstract name supers body ∷ ss) all = names_of_assertions P atoms ss all
names_of_assertions P atoms (Enum name literals ∷ ss) all =
    names_of_assertions P atoms ss (All-back P (mentions_in atoms (Enum name literals)) (flat_map (mentions_in atoms) ss) all)
names_of_assertions P atoms (PredicateOf start name params clauses ∷ ss) all =
    names_of_assertions P atoms ss (All-back P (mentions_in atoms (PredicateOf start name params clauses)) (flat_map (mentions_in atoms) ss) all)
names_of_assertions P atoms (Declare names ∷ ss) all =
    names_of_assertions P atoms ss (All-back P (mentions_in atoms (Declare names)) (flat_map (mentions_in atoms) ss) all)
names_of_assertions P atoms (Multi items ∷ ss) all =
    names_of_assertions P atoms ss (All-back P (mentions_in atoms (Multi items)) (flat_map (mentions_in atoms) ss) all)
names_of_assertions P atoms (Atoms names ∷ ss) all =
    names_of_assertions P atoms ss (All-back P (mentions_in atoms (Atoms names)) (flat_map (mentions_in atoms) ss) all)
names_of_assertions P atoms (Scope bounds ∷ ss) all = names_of_assertions P atoms ss all
names_of_assertions P atoms (Assert is_default assertion ∷ ss) all =
    All-cons (AreIn P) record { is_default = is_default; atom = asserted_atom assertion; value = asserted_truth assertion } (flat_map assertions_in ss)
    (All-flat_map P object_in (asserted_atom assertion).args (All-prefix P (flat_map object_in (asserted_atom assertion).args) (flat_map (mentions_in atoms) ss) all))
    (names_of_assertions P atoms ss (All-back P (flat_map object_in (asserted_atom assertion).args) (flat_map (mentions_in atoms) ss) all))

-- a name at which the text speaks of an object
abbrev IsMentioned : Declared → Name → Type 0
IsMentioned d n = list_any (reads n.text) d.mentions ≡ true

module _ (d : Declared) where
  -- an object of a class that has one
  class_there : (name member : Name) → is_none (class_named d name.text) ≡ false → has_no_new d (class_named d name.text) ≡ false →
      object_or_new d None name < length (objects_made d)
  class_there name member there new =
      let c : ℕ = the_number (class_named d name.text) in
      let is : not (has_new (class_decl_at d c)) ≡ false = ap (has_no_new d) (sym (some_number (class_named d name.text) there)) ∙ new in
      new_there d c no_class_decl (class_below d name.text there) (not-false (has_new (class_decl_at d c)) is)

  -- what follows a class
  member_there :
      (name member : Name) (is_new : Bool) → reads (codes "new") member ≡ is_new → is_none (class_named d name.text) ≡ false →
      unknown_member d name member ≡ [] → All (IsMentioned d) (option_to_list (object_name name (Some member))) →
      object_or_new d (object_name name (Some member)) name < length (objects_made d)
  member_there name member true new there none all =
      let broken : offset_if (has_no_new d (class_named d name.text)) name.at ≡ [] = rw new at none in
      rw new (class_there name member there (offset_if-nil (has_no_new d (class_named d name.text)) name.at broken))
  member_there name member false other there none all =
      let mentioned : All (IsMentioned d) (member ∷ []) = rw other at all in
      rw other (named_there d member.text (All-head (IsMentioned d) member [] mentioned))

  -- the objects that arguments stand for are there
  object_there : (name : Name) (member : Option Name) → unknown_object d name member ≡ [] →
      All (IsMentioned d) (option_to_list (object_name name member)) → object_or_new d (object_name name member) name < length (objects_made d)
  object_there name None none all = named_there d name.text (All-head (IsMentioned d) name [] all)
  object_there name (Some member) none all =
      let parts = nil-parts (unknown_class d name) (unknown_member d name member) none in
      member_there name member (reads (codes "new") member) refl (known_class d name parts.0) parts.1 all

  arg_there : (arg : Arg) → unknown_arg d arg ≡ [] →
      All (IsMentioned d) (object_in arg) → ForSome (resolved_arg d arg) (λ o. o < length (objects_made d))
  arg_there Star none all o e = let never : ⊥ = cc in absurd never
  arg_there (OfSymbol s) none all o e =
      let same : object_or_new d (object_name s.name s.member) s.name ≡ o = cc in
      subst (λ k. k < length (objects_made d)) same (object_there s.name s.member none all)

  abbrev Fits : Assertion → Type 0
  Fits a = FitsAssertion (length (map (resolved_class d) d.classes)) (length (map (resolved_reference d) d.references))
      (map (resolved_predicate d) d.predicates) (length (objects_made d)) a

  assertion_fits : (a : AssertDecl) → unknown_assertion d a ≡ [] →
      ambiguous_symbol (sense_of (assertion_symbols d a.atom.symbol)) a.atom.symbol ≡ [] → assertion_arity d a ≡ [] →
      AreIn (IsMentioned d) a → Fits (resolved_assertion d a)
  assertion_fits a unknown ambiguous arity names =
      let symbol : SymbolName = a.atom.symbol in
      let symbols : List Symbol = assertion_symbols d symbol in
      let parts = nil-parts (unknown_symbol d (sense_of symbols) symbol.name symbol.member) (flat_map (unknown_arg d) a.atom.args) unknown in
      let one = one-from_clear (sense_of symbols) (known-from_nil d (sense_of symbols) symbol.name symbol.member parts.0)
      (offset_if-nil (is_ambiguous (sense_of symbols)) (last_offset symbol.name symbol.member) ambiguous) in
      let said = one-from_sense (may_say d) symbols one.0 one.1 (symbols_said d symbol.name symbol.member) in
      let fits = and_parts (length a.atom.args == parameters_of d one.0) (not false || can_be_closed d one.0)
      (fits-from_nil d (sense_of symbols) one.0 false (length a.atom.args) symbol.name.at one.1 arity) in
      let is : the_symbol (sense_of symbols) ≡ one.0 = ap the_symbol one.1 in
      record {
        symbol = symbol_there (the_symbol (sense_of symbols)) (subst (λ s. may_say d s ≡ true) (sym is) said);
        arity = length-map a.atom.args (resolved_arg d) ∙ eqb-true (length a.atom.args) (parameters_of d one.0) fits.0
            ∙ sym (arity_resolved d one.0) ∙ ap (arity_of (map (resolved_predicate d) d.predicates)) (sym is);
        args = All-map (λ arg. ForSome arg (λ o. o < length (objects_made d))) (resolved_arg d) a.atom.args
            (λ k arg l. arg_there (get_or a.atom.args k arg) (nil-each (unknown_arg d) a.atom.args parts.1 k arg l) (names k arg l));
      }
    where
      symbol_there : (s : Symbol) → may_say d s ≡ true →
          is_asserted (length (map (resolved_class d) d.classes)) (length (map (resolved_reference d) d.references))
          (length (map (resolved_predicate d) d.predicates)) s ≡ true
      symbol_there s e =
          let classes = class_count d in
          let references = reference_count d in
          let predicates = length-map d.predicates (resolved_predicate d) in
          (λ i. is_asserted (classes i) (references i) (predicates i) s) ∙ e

module _ (ast : Ast) where
  abbrev own : Declared
  own = declared_in ast

  pub assertions_fit : Passes own →
      AreAssertions (map (resolved_class own) own.classes) (map (resolved_reference own) own.references)
      (map (resolved_predicate own) own.predicates)
      (objects_made own)
      (map (resolved_assertion own) own.assertions)
  assertions_fit passes =
      let arities = nil-right (offsets_in_literals (λ n. literal_arity own) own.predicates)
      (flat_map (assertion_arity own) own.assertions) passes.arities in
      record {
        few = (let long = length-map own.assertions (resolved_assertion own) in
            let most = few-from_first_past (λ a. a.atom.symbol.name) MOST_ASSERTIONS own.assertions (passes.limits Assertions) in
            omega arith);
        each = All-map (Fits own) (resolved_assertion own) own.assertions
            (λ k a l. assertion_fits own (get_or own.assertions k a)
            (nil-each (unknown_assertion own) own.assertions (known own passes.unknown).assertions k a l)
            (nil-each (λ a. ambiguous_symbol (sense_of (assertion_symbols own a.atom.symbol)) a.atom.symbol)
            own.assertions (clear own passes.ambiguous).assertions k a l)
            (nil-each (assertion_arity own) own.assertions arities k a l)
            (names_of_assertions (IsMentioned own) own.atoms ast.statements
            (some_read own.mentions) k a l));
      }

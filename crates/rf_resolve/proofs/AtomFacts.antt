-- The atoms of a text: its enums' literals among them, each a named object, and none an item of `multi`.
use Rattle.std.proofs.Common.{◌≡◌, ◌∙◌, ℕ, ◌+◌, ◌≤◌, ◌<◌, Bool, true, false, ◌||◌, List, [], ◌∷◌, ◌++◌, map, length, get_or, cond, count_by, All, Option, None, Some, refl, sym, ap, subst, inl, inr, arith, true≢false}
use Rattle.std.specs.Prelude.{find}
use Rattle.std.specs.List.{flat_map, list_any}
use Rattle.std.specs.Str.{bytes_eq}
use Rattle.std.proofs.lemmas.Bool.{both_ways, cases_Bool, false_from_ne_true, or_cases, or_left, or_right}
use Rattle.std.proofs.lemmas.List.{map-append}
use Rattle.std.proofs.lemmas.List.Elements.{All-cons, All-nil}
use Rattle.std.proofs.lemmas.List.Folds.{list_any-append}
use Rattle.std.proofs.lemmas.List.Quantifiers.{position-Some}
use Rattle.std.proofs.lemmas.List.Sums.{sum_by-append}
use Rattle.std.proofs.lemmas.Slice.Eq.{bytes_eq-Decides}
use Rattle.rf_problem.specs.Valid.{is_atom}
use Rattle.rf_syntax.specs.declared.name.Name.{Name}
use Rattle.rf_syntax.specs.declared.statement.Ast.{Ast}
use Rattle.rf_syntax.specs.declared.statement.Item.{Item}
use Rattle.rf_syntax.specs.declared.statement.Statement.{Statement}
use Rattle.rf_syntax.specs.declared.statement.Statement.TheVariants.{Assert, Atoms, Class as ClassOf, Declare, Enum, Multi, Predicate as PredicateOf, Scope}
use Rattle.rf_names.specs.Declarations.{Declared, atoms_in, classes_in, declared_in, items_in, items_of, items_or_none, listed_or_none, mentions_in, names_in}
use Rattle.rf_names.specs.LookUp.{enum_of, has_literal, item_named, no_class_decl}
use Rattle.rf_names.specs.Texts.{is_text_of, reads}
use Rattle.rf_name_rules.specs.NameOffsets.{reserved_names}
use Rattle.rf_resolve.specs.Passes.{Passes}
use Rattle.rf_build.specs.Resolved.{kind_by_atom, kind_by_enum, kind_of_object}
use Rattle.rf_build.proofs.EntryLemmas.{counted, counted_none, counted_one}
use Rattle.rf_resolve.proofs.FreshNames.{AreFresh, AreFresh-from_repeated}
use Rattle.rf_build.proofs.KnownVariables.{any-some}
use Rattle.rf_resolve.proofs.RuleParts.{once}

-- some item of joined lists passes
any-before : {X : Type 0} (p : X → Bool) (xs ys : List X) → list_any p xs ≡ true → list_any p (xs ++ ys) ≡ true
any-before p xs ys h = list_any-append p xs ys ∙ or_left (list_any p xs) (list_any p ys) h

any-after : {X : Type 0} (p : X → Bool) (xs ys : List X) → list_any p ys ≡ true → list_any p (xs ++ ys) ≡ true
any-after p xs ys h = list_any-append p xs ys ∙ or_right (list_any p xs) (list_any p ys) h

any-parts : {X : Type 0} (p : X → Bool) (xs ys : List X) → list_any p (xs ++ ys) ≡ true → (list_any p xs || list_any p ys) ≡ true
any-parts p xs ys h = sym (list_any-append p xs ys) ∙ h

module _ (text : List ℕ) where
  -- a literal of an enum is an atom
  literals_atoms : (ss : List Statement) → list_any (has_literal text) (flat_map classes_in ss) ≡ true → list_any (reads text) (flat_map atoms_in ss) ≡ true
  literals_atoms [] h = h
  literals_atoms (ClassOf is_abstract name supers body ∷ ss) h = literals_atoms ss h
  literals_atoms (Enum name literals ∷ ss) h =
      elim (or_cases (list_any (reads text) (listed_or_none literals)) (list_any (has_literal text) (flat_map classes_in ss)) h) [
        | inl here ↦ any-before (reads text) (listed_or_none literals) (flat_map atoms_in ss) here
        | inr later ↦ any-after (reads text) (listed_or_none literals) (flat_map atoms_in ss) (literals_atoms ss later)
      ]
  literals_atoms (PredicateOf start name params clauses ∷ ss) h = literals_atoms ss h
  literals_atoms (Declare names ∷ ss) h = literals_atoms ss h
  literals_atoms (Multi items ∷ ss) h = literals_atoms ss h
  literals_atoms (Atoms names ∷ ss) h = any-after (reads text) (items_of names) (flat_map atoms_in ss) (literals_atoms ss h)
  literals_atoms (Scope bounds ∷ ss) h = literals_atoms ss h
  literals_atoms (Assert is_default assertion ∷ ss) h = literals_atoms ss h

  -- an atom is a named object
  atoms_mentioned :
      (atoms : List Name) (ss : List Statement) → list_any (reads text) (flat_map atoms_in ss) ≡ true →
      list_any (reads text) (flat_map (mentions_in atoms) ss) ≡ true
  atoms_mentioned atoms [] h = h
  atoms_mentioned atoms (ClassOf is_abstract name supers body ∷ ss) h = atoms_mentioned atoms ss h
  atoms_mentioned atoms (Enum name literals ∷ ss) h =
      elim (or_cases (list_any (reads text) (listed_or_none literals)) (list_any (reads text) (flat_map atoms_in ss))
      (any-parts (reads text) (listed_or_none literals) (flat_map atoms_in ss) h)) [
        | inl here ↦ any-before (reads text) (listed_or_none literals) (flat_map (mentions_in atoms) ss) here
        | inr later ↦ any-after (reads text) (listed_or_none literals) (flat_map (mentions_in atoms) ss) (atoms_mentioned atoms ss later)
      ]
  atoms_mentioned atoms (PredicateOf start name params clauses ∷ ss) h =
      any-after (reads text) (mentions_in atoms (PredicateOf start name params clauses)) (flat_map (mentions_in atoms) ss) (atoms_mentioned atoms ss h)
  atoms_mentioned atoms (Declare names ∷ ss) h =
      any-after (reads text) (mentions_in atoms (Declare names)) (flat_map (mentions_in atoms) ss) (atoms_mentioned atoms ss h)
  atoms_mentioned atoms (Multi items ∷ ss) h =
      any-after (reads text) (mentions_in atoms (Multi items)) (flat_map (mentions_in atoms) ss) (atoms_mentioned atoms ss h)
  atoms_mentioned atoms (Atoms names ∷ ss) h =
      elim (or_cases (list_any (reads text) (items_of names)) (list_any (reads text) (flat_map atoms_in ss))
      (any-parts (reads text) (items_of names) (flat_map atoms_in ss) h)) [
        | inl here ↦ any-before (reads text) (items_of names) (flat_map (mentions_in atoms) ss) here
        | inr later ↦ any-after (reads text) (items_of names) (flat_map (mentions_in atoms) ss) (atoms_mentioned atoms ss later)
      ]
  atoms_mentioned atoms (Scope bounds ∷ ss) h = atoms_mentioned atoms ss h
  atoms_mentioned atoms (Assert is_default assertion ∷ ss) h =
      any-after (reads text) (mentions_in atoms (Assert is_default assertion)) (flat_map (mentions_in atoms) ss) (atoms_mentioned atoms ss h)

  -- a class with a literal is an enum
  literals_of_enums : (ss : List Statement) → All (λ c. has_literal text c ≡ true → c.is_enum ≡ true) (flat_map classes_in ss)
  literals_of_enums [] = All-nil (λ c. has_literal text c ≡ true → c.is_enum ≡ true)
  literals_of_enums (ClassOf is_abstract name supers body ∷ ss) =
      All-cons (λ c. has_literal text c ≡ true → c.is_enum ≡ true)
      record {
        name = name;
        is_abstract = is_abstract;
        is_enum = false;
        supers = items_or_none supers;
        features = listed_or_none body;
        literals = [];
      }
      (flat_map classes_in ss) (λ h. absurd (true≢false (sym h))) (literals_of_enums ss)
  literals_of_enums (Enum name literals ∷ ss) =
      All-cons (λ c. has_literal text c ≡ true → c.is_enum ≡ true)
      record { name = name; is_abstract = false; is_enum = true; supers = []; features = []; literals = listed_or_none literals }
      (flat_map classes_in ss) (λ h. refl) (literals_of_enums ss)
  literals_of_enums (PredicateOf start name params clauses ∷ ss) = literals_of_enums ss
  literals_of_enums (Declare names ∷ ss) = literals_of_enums ss
  literals_of_enums (Multi items ∷ ss) = literals_of_enums ss
  literals_of_enums (Atoms names ∷ ss) = literals_of_enums ss
  literals_of_enums (Scope bounds ∷ ss) = literals_of_enums ss
  literals_of_enums (Assert is_default assertion ∷ ss) = literals_of_enums ss

  -- how many names of a list read so
  abbrev many : List Name → ℕ
  many ns = count_by (reads text) ns

  many-append : (ms ns : List Name) → many (ms ++ ns) ≡ many ms + many ns
  many-append ms ns = sum_by-append (λ m. cond (reads text m) 1 0) ms ns

  many-some : (ns : List Name) → list_any (reads text) ns ≡ true → 1 ≤ many ns
  many-some [] h = absurd (true≢false (sym h))
  many-some (n ∷ ns) h =
      elim (or_cases (reads text n) (list_any (reads text) ns) h) [
        | inl here ↦ (let one = counted_one (reads text) n ns here in omega arith)
        | inr later ↦ (let whole = counted (reads text) n ns in let more = many-some ns later in omega arith)
      ]

  -- an atom and an item of `multi` are two of the names that are declared
  many_declared : (ss : List Statement) →
      many (flat_map atoms_in ss) + many (map (λ i. i.name) (flat_map items_in ss)) ≤ many (flat_map names_in ss)
  many_declared [] = omega arith
  many_declared (ClassOf is_abstract name supers body ∷ ss) =
      let rest = many_declared ss in let one = counted (reads text) name (flat_map names_in ss) in omega arith
  many_declared (Enum name literals ∷ ss) =
      let rest = many_declared ss in
      let one = counted (reads text) name (listed_or_none literals ++ flat_map names_in ss) in
      let all = many-append (listed_or_none literals) (flat_map names_in ss) in
      let atoms = many-append (listed_or_none literals) (flat_map atoms_in ss) in
      omega arith
  many_declared (PredicateOf start name params clauses ∷ ss) =
      let rest = many_declared ss in let one = counted (reads text) name (flat_map names_in ss) in omega arith
  many_declared (Declare names ∷ ss) =
      let rest = many_declared ss in let all = many-append (items_of names) (flat_map names_in ss) in omega arith
  many_declared (Multi items ∷ ss) =
      let rest = many_declared ss in
      let all = many-append (map (λ i. i.name) (items_of items)) (flat_map names_in ss) in
      let mine = many-append (map (λ i. i.name) (items_of items)) (map (λ i. i.name) (flat_map items_in ss)) in
      let names : many (map (λ i. i.name) (items_of items ++ flat_map items_in ss))
      ≡ many (map (λ i. i.name) (items_of items) ++ map (λ i. i.name) (flat_map items_in ss)) =
      ap many (map-append (λ (i : Item). i.name) (items_of items) (flat_map items_in ss)) in
      omega arith
  many_declared (Atoms names ∷ ss) =
      let rest = many_declared ss in
      let all = many-append (items_of names) (flat_map names_in ss) in
      let atoms = many-append (items_of names) (flat_map atoms_in ss) in
      omega arith
  many_declared (Scope bounds ∷ ss) = many_declared ss
  many_declared (Assert is_default assertion ∷ ss) = many_declared ss

  -- where no name is declared twice, one at most reads so
  none_read : (seen : List (List ℕ)) (ns : List Name) → AreFresh seen ns → list_any (bytes_eq text) seen ≡ true → many ns ≡ 0
  none_read seen [] fresh h = refl
  none_read seen (n ∷ ns) fresh h =
      let other : reads text n ≡ false = false_from_ne_true (reads text n) (λ same. both_ways (is_text_of seen n) fresh.0
      (subst (λ t. list_any (bytes_eq t) seen ≡ true) (sym ((bytes_eq-Decides n.text text).0 same)) h)) in
      let rest = none_read (n.text ∷ seen) ns fresh.1 (or_right (bytes_eq text n.text) (list_any (bytes_eq text) seen) h) in
      let same = counted_none (reads text) n ns other in
      omega arith

  one_reads : (seen : List (List ℕ)) (ns : List Name) → AreFresh seen ns → many ns ≤ 1
  one_reads seen [] fresh = omega arith
  one_reads seen (n ∷ ns) fresh =
      elim (cases_Bool (reads text n)) [
        | inl here ↦ (let rest = none_read (n.text ∷ seen) ns fresh.1
            (or_left (bytes_eq text n.text) (list_any (bytes_eq text) seen)
            ((bytes_eq-Decides text n.text).1 (sym ((bytes_eq-Decides n.text text).0 here)))) in
            let one = counted_one (reads text) n ns here in omega arith)
        | inr other ↦ (let rest = one_reads (n.text ∷ seen) ns fresh.1 in
            let none = counted_none (reads text) n ns other in omega arith)
      ]

-- the item of a name is one of the list
found_among : (text : List ℕ) (items : List Item) (i : Item) → find (λ x. reads text x.name) items ≡ Some i →
    list_any (reads text) (map (λ x. x.name) items) ≡ true
found_among text [] i e = let never : ⊥ = cc in absurd never
found_among text (x ∷ xs) i e = elim (cases_Bool (reads text x.name)) [
  | inl here ↦ or_left (reads text x.name) (list_any (reads text) (map (λ y. y.name) xs)) here
  | inr other ↦ or_right (reads text x.name) (list_any (reads text) (map (λ y. y.name) xs)) (found_among text xs i (rw other at e))
]

module _ (ast : Ast) where
  abbrev own : Declared
  own = declared_in ast

  -- an atom has no item of `multi`
  pub atom_alone : (text : List ℕ) → Passes own → list_any (reads text) own.atoms ≡ true → item_named own text ≡ None
  atom_alone text passes atom = alone (item_named own text) refl
    where
      alone : (o : Option Item) → item_named own text ≡ o → o ≡ None
      alone None e = refl
      alone (Some i) e =
          let one = many-some text own.atoms atom in
          let other = many-some text (map (λ i. i.name) own.items) (found_among text own.items i e) in
          let both = many_declared text ast.statements in
          let most = one_reads text reserved_names own.names (AreFresh-from_repeated reserved_names own.names (once own passes.twice).names) in
          absurd (omega arith)

  -- an atom is a named object
  pub atom_mentioned : (text : List ℕ) → list_any (reads text) own.atoms ≡ true → list_any (reads text) own.mentions ≡ true
  atom_mentioned text atom = atoms_mentioned text own.atoms ast.statements atom

  -- an object's kind says whether it is an atom
  pub atom_from_kind : (text : List ℕ) → is_atom (kind_of_object own text) ≡ true → list_any (reads text) own.atoms ≡ true
  atom_from_kind text h = atom (enum_of own text) refl h
    where
      by_atom : (b : Bool) → is_atom (kind_by_atom b) ≡ true → b ≡ true
      by_atom true e = refl
      by_atom false e = absurd (true≢false (sym e))

      atom : (o : Option ℕ) → enum_of own text ≡ o → is_atom (kind_by_enum o (list_any (reads text) own.atoms)) ≡ true →
          list_any (reads text) own.atoms ≡ true
      atom None is e = by_atom (list_any (reads text) own.atoms) e
      atom (Some c) is e = literals_atoms text ast.statements (any-some (has_literal text) own.classes c is)

  pub kind_of_atom : (text : List ℕ) → list_any (reads text) own.atoms ≡ true → is_atom (kind_of_object own text) ≡ true
  kind_of_atom text atom = kind (enum_of own text)
    where
      kind : (o : Option ℕ) → is_atom (kind_by_enum o (list_any (reads text) own.atoms)) ≡ true
      kind None = ap (λ b. is_atom (kind_by_atom b)) atom
      kind (Some c) = refl

  -- the class of a literal is an enum
  pub enum_there : (text : List ℕ) (e : ℕ) → enum_of own text ≡ Some e →
      (e < length own.classes) × ((get_or own.classes e no_class_decl).is_enum ≡ true)
  enum_there text e is =
      let found = position-Some (has_literal text) own.classes e no_class_decl is in
      (found.0, literals_of_enums text ast.statements e no_class_decl found.0 found.1)

-- The objects of a text that breaks no rule of names are those of a problem.
use Rattle.std.proofs.Common.{◌≡◌, ◌≢◌, ◌∙◌, ℕ, ◌≤◌, Bool, true, false, List, [], ◌∷◌, ◌++◌, map, length, get_or, find, All, AllPairs, Option, None, Some, refl, sym, ap, subst, inl, inr, arith, true≢false}
use Rattle.std.specs.Prelude.{nat_lt}
use Rattle.std.specs.List.{list_any}
use Rattle.std.specs.Option.{ForSome}
use Rattle.std.proofs.lemmas.Bool.{and_from, cases_Bool, lt-ltb}
use Rattle.std.proofs.lemmas.List.{append-nil, length-map}
use Rattle.std.proofs.lemmas.List.Elements.{All-append, All-cons, All-head, All-map, All-tail, filter-append}
use Rattle.rf_bounds.specs.declared.TheConstants.{MOST_OBJECTS}
use Rattle.rf_problem.specs.Valid.{AreObjects, FitsCount, HasName, IsSmall, fits_kind, is_named, named_objects as own_objects, new_numbers, new_object}
use Rattle.rf_problem.specs.Classes.{class_at}
use Rattle.rf_problem.specs.declared.class.Class.{Class}
use Rattle.rf_problem.specs.declared.object.ObjectDecl.{ObjectDecl}
use Rattle.rf_problem.specs.declared.object.ObjectName.TheVariants.{Named}
use Rattle.rf_syntax.specs.declared.name.Name.{Name}
use Rattle.rf_syntax.specs.declared.statement.Ast.{Ast}
use Rattle.rf_text.specs.Written.{CanBeQuoted}
use Rattle.rf_limits.specs.declared.kind.LimitKind.TheVariants.{Objects}
use Rattle.rf_names.specs.Declarations.{Declared, declared_in}
use Rattle.rf_resolve.specs.Passes.{Passes}
use Rattle.rf_names.specs.LookUp.{enum_of, first_of_each, item_named, named_objects}
use Rattle.rf_names.specs.Texts.{is_text_of, reads}
use Rattle.rf_resolve.specs.Readable.{IsReadableDeclared, IsSmallRange}
use Rattle.rf_build.specs.Resolved.{count_of_item, kind_by_atom, kind_by_enum, kind_of_object, resolved_class, resolved_object}
use Rattle.rf_resolve.proofs.AtomFacts.{atom_alone, atom_from_kind, enum_there}
use Rattle.rf_resolve.proofs.ClassesFit.{class_at_resolved, class_count}
use Rattle.rf_resolve.proofs.ClearOffsets.{few-from_first_past}
use Rattle.rf_resolve.proofs.FreshNames.{AreFresh-apart, AreFresh-first_of_each}
use Rattle.rf_resolve.proofs.PairFacts.{AllPairs-append, AllPairs-map}
use Rattle.rf_resolve.proofs.SmallCounts.{IsSmall-item}

-- new objects have no names of their own
named_objects-new : (ns : List ℕ) → own_objects (map new_object ns) ≡ []
named_objects-new [] = refl
named_objects-new (n ∷ ns) = named_objects-new ns

unnamed : (n : ℕ) (own : List ℕ) → (new_object n).name ≡ Named own → ⊥
unnamed n own e = cc

-- what holds of all names holds of the first of each text
All-first_of_each : (P : Name → Type 0) (seen : List (List ℕ)) (ns : List Name) → All P ns →
    All P (first_of_each seen ns)
All-first_of_each P seen [] all = all
All-first_of_each P seen (n ∷ ns) all = elim (cases_Bool (is_text_of seen n)) [
  | inl e ↦ rw e (All-first_of_each P seen ns (All-tail P n ns all))
  | inr e ↦ rw e (All-cons P n (first_of_each (n.text ∷ seen) ns) (All-head P n ns all)
      (All-first_of_each P (n.text ∷ seen) ns (All-tail P n ns all)))
]

-- what holds of all holds of the first that passes
All-find : {X : Type 0} (P : X → Type 0) (p : X → Bool) (xs : List X) → All P xs → ForSome (find p xs) P
All-find P p [] all = λ x e. (let never : ⊥ = cc in absurd never)
All-find P p (y ∷ ys) all = elim (cases_Bool (p y)) [
  | inl e ↦ rw e (λ x same. (let here : y ≡ x = cc in subst P here (All-head P y ys all)))
  | inr e ↦ rw e (All-find P p ys (All-tail P y ys all))
]

module _ (d : Declared) (classes : List Class) where
  abbrev own : List ObjectDecl
  own = map (resolved_object d) (named_objects d)

  abbrev new : List ObjectDecl
  new = map new_object (new_numbers 0 classes)

  own_named : (ns : List Name) → own_objects (map (resolved_object d) ns) ≡ map (resolved_object d) ns
  own_named [] = refl
  own_named (n ∷ ns) = ap (λ os. resolved_object d n ∷ os) (own_named ns)

  -- the named ones come first
  pub own_first : own_objects (own ++ new) ≡ own
  own_first = filter-append (λ o. is_named o.name) own new
      ∙ ap (λ os. os ++ own_objects new) (own_named (named_objects d))
      ∙ ap (λ os. own ++ os) (named_objects-new (new_numbers 0 classes))
      ∙ append-nil own

  new_unnamed : All (λ o. HasName o.name (λ name. ⊥)) new
  new_unnamed = All-map (λ (o : ObjectDecl). HasName o.name (λ name. ⊥)) new_object (new_numbers 0 classes)
      (λ k c l. unnamed (get_or (new_numbers 0 classes) k c))

  named : All (λ n. CanBeQuoted n.text) (named_objects d) → All (λ o. HasName o.name CanBeQuoted) (own ++ new)
  named quoted = All-append (λ o. HasName o.name CanBeQuoted) own new
      (All-map (λ (o : ObjectDecl). HasName o.name CanBeQuoted) (resolved_object d) (named_objects d)
      (λ k n l name e. (let same : (get_or (named_objects d) k n).text ≡ name = cc in subst CanBeQuoted same (quoted k n l))))
      (λ k o l name e. absurd (new_unnamed k o l name e))

  abbrev AreApart : ObjectDecl → ObjectDecl → Type 0
  AreApart o q = HasName o.name (λ name. HasName q.name (λ other. name ≢ other))

  apart : AllPairs AreApart (own ++ new)
  apart = AllPairs-append AreApart own new
      (AllPairs-map AreApart (resolved_object d) (named_objects d)
      (λ i j n before l name e other f same.
      (let differ = AreFresh-apart [] (named_objects d) (AreFresh-first_of_each [] d.mentions) i j n before l in
      let one : (get_or (named_objects d) i n).text ≡ name = cc in
      let two : (get_or (named_objects d) j n).text ≡ other = cc in
      differ (one ∙ same ∙ sym two))))
      (λ i j o before l name e other f. absurd (new_unnamed j o l other f))
      (λ i o m k q l name e other f. absurd (new_unnamed k q l other f))

  counts : All (λ i. ForSome i.range IsSmallRange) d.items → All (λ o. IsSmall o.count) (own ++ new)
  counts small = All-append (λ o. IsSmall o.count) own new
      (All-map (λ (o : ObjectDecl). IsSmall o.count) (resolved_object d) (named_objects d)
      (λ k n l. IsSmall-item (item_named d (get_or (named_objects d) k n).text)
      (All-find (λ i. ForSome i.range IsSmallRange) (λ i. reads (get_or (named_objects d) k n).text i.name) d.items small)))
      (All-map (λ (o : ObjectDecl). IsSmall o.count) new_object (new_numbers 0 classes)
      (λ k c l. record { lower = omega arith; upper = λ n e. (let never : ⊥ = cc in absurd never) }))

  -- new objects are plain
  new_kinds : All (λ o. fits_kind classes o.name o.kind ≡ true) new
  new_kinds = All-map (λ (o : ObjectDecl). fits_kind classes o.name o.kind ≡ true) new_object (new_numbers 0 classes) (λ k c l. refl)

  new_atoms : All (λ o. FitsCount o.kind o.count) new
  new_atoms = All-map (λ (o : ObjectDecl). FitsCount o.kind o.count) new_object (new_numbers 0 classes)
      (λ k c l e. absurd (true≢false (sym e)))

  few : Passes d → length (own_objects (own ++ new)) ≤ MOST_OBJECTS
  few passes =
      let same = ap length own_first in
      let long = length-map (named_objects d) (resolved_object d) in
      let most = few-from_first_past (λ name. name) MOST_OBJECTS (named_objects d) (passes.limits Objects) in omega arith

module _ (ast : Ast) where
  abbrev d : Declared
  d = declared_in ast

  abbrev classes_made : List Class
  classes_made = map (resolved_class d) d.classes

  -- a literal is of an enum
  kind_fits : (name : List ℕ) → fits_kind classes_made (Named name) (kind_of_object d name) ≡ true
  kind_fits name = fit (enum_of d name) refl
    where
      by_atom : (b : Bool) → fits_kind classes_made (Named name) (kind_by_atom b) ≡ true
      by_atom true = refl
      by_atom false = refl

      fit : (o : Option ℕ) → enum_of d name ≡ o →
          fits_kind classes_made (Named name) (kind_by_enum o (list_any (reads name) d.atoms)) ≡ true
      fit None is = by_atom (list_any (reads name) d.atoms)
      fit (Some e) is =
          let there = enum_there ast name e is in
          let long = class_count d in
          let below : nat_lt e (length classes_made) ≡ true = lt-ltb e (length classes_made) (omega (arith, there.0, long)) in
          and_from (nat_lt e (length classes_made)) (class_at classes_made e).is_enum below
          (ap (λ c. c.is_enum) (class_at_resolved d e) ∙ there.1)

  kinds : All (λ o. fits_kind classes_made o.name o.kind ≡ true) (own d classes_made ++ new d classes_made)
  kinds = All-append (λ o. fits_kind classes_made o.name o.kind ≡ true) (own d classes_made) (new d classes_made)
      (All-map (λ (o : ObjectDecl). fits_kind classes_made o.name o.kind ≡ true) (resolved_object d) (named_objects d)
      (λ k n l. kind_fits (get_or (named_objects d) k n).text))
      (new_kinds d classes_made)

  -- an atom has the count of an object without an item
  atoms : Passes d → All (λ o. FitsCount o.kind o.count) (own d classes_made ++ new d classes_made)
  atoms passes = All-append (λ o. FitsCount o.kind o.count) (own d classes_made) (new d classes_made)
      (All-map (λ (o : ObjectDecl). FitsCount o.kind o.count) (resolved_object d) (named_objects d)
      (λ k n l e. ap count_of_item (atom_alone ast (get_or (named_objects d) k n).text passes
      (atom_from_kind ast (get_or (named_objects d) k n).text e))))
      (new_atoms d classes_made)

  pub objects_fit : Passes d → IsReadableDeclared d → AreObjects classes_made (own d classes_made ++ new d classes_made)
  objects_fit passes readable = record {
    few = few d classes_made passes;
    named = named d classes_made (All-first_of_each (λ n. CanBeQuoted n.text) [] d.mentions readable.mentions);
    apart = apart d classes_made;
    counts = counts d classes_made readable.items;
    kinds = kinds;
    atoms = atoms passes;
    stocked = ap (λ os. os ++ new d classes_made) (sym (own_first d classes_made));
  }

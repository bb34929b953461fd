-- The objects that names and classes stand for are there.
use Rattle.std.proofs.Common.{◌≡◌, ◌∙◌, ℕ, zero, suc, ◌+◌, ◌<◌, Bool, true, false, ◌&&◌, List, [], ◌∷◌, map, length, take, get_or, count_by, All, Some, refl, sym, ap, subst, inl, inr, arith}
use Rattle.std.specs.Prelude.{nat_lt, position}
use Rattle.std.specs.List.{list_any, position_or_len}
use Rattle.std.specs.Str.{bytes_eq}
use Rattle.std.proofs.lemmas.Bool.{and_from, both_ways, cases_Bool, false_from_ne_true, lt-ltb, or_cases, or_from, or_left, or_right}
use Rattle.std.proofs.lemmas.List.{get_or-map, get_or_append_left, length-append, length-map}
use Rattle.std.proofs.lemmas.List.Folds.{list_any_at}
use Rattle.std.proofs.lemmas.List.Quantifiers.{position-Some}
use Rattle.std.proofs.lemmas.Slice.Eq.{bytes_eq-Decides}
use Rattle.rf_problem.specs.Parts.{no_object, object_at}
use Rattle.rf_problem.specs.Valid.{is_atom, new_numbers, new_object}
use Rattle.rf_problem.specs.declared.object.ObjectDecl.{ObjectDecl}
use Rattle.rf_syntax.specs.declared.name.Name.{Name}
use Rattle.rf_syntax.specs.declared.statement.Ast.{Ast}
use Rattle.rf_names.specs.Declarations.{ClassDecl, Declared, declared_in}
use Rattle.rf_names.specs.LookUp.{first_of_each, has_new, named_objects, no_name, object_named, the_number}
use Rattle.rf_names.specs.Texts.{is_text_of, reads}
use Rattle.rf_names.proofs.VariableLemmas.{position-there, position_or_len-within}
use Rattle.rf_build.specs.Resolved.{kind_of_object, resolved_class, resolved_object, resolved_objects}
use Rattle.rf_resolve.proofs.AtomFacts.{atom_mentioned, kind_of_atom}
use Rattle.rf_build.proofs.EntryLemmas.{counted, counted_none, counted_one}

-- the objects of the problem
abbrev pub objects_made : Declared → List ObjectDecl
objects_made d = resolved_objects d (map (resolved_class d) d.classes)

-- an object is there and may be named in bodies
abbrev pub is_atom_object : List ObjectDecl → ℕ → Bool
is_atom_object objects o = nat_lt o (length objects) && is_atom (object_at objects o).kind

-- each name of an atom stands for such an object
abbrev pub AreAtomsThere : Declared → List ObjectDecl → Type 0
AreAtomsThere d objects =
    (text : List ℕ) → list_any (reads text) d.atoms ≡ true → is_atom_object objects (the_number (object_named d text)) ≡ true

-- each name of a list reads as one in it
pub some_read : (ms : List Name) → All (λ n. list_any (reads n.text) ms ≡ true) ms
some_read ms k n l = list_any_at (reads (get_or ms k n).text) ms k n l ((bytes_eq-Decides (get_or ms k n).text (get_or ms k n).text).1 refl)

-- the first of each text reads as all do
read_first : (text : List ℕ) (seen : List (List ℕ)) (ns : List Name) → list_any (bytes_eq text) seen ≡ false →
    list_any (reads text) ns ≡ true →
    list_any (reads text) (first_of_each seen ns) ≡ true
read_first text seen [] fresh e = e
read_first text seen (n ∷ ns) fresh e = elim (cases_Bool (is_text_of seen n)) [
  | inl was ↦ rw was (elim (or_cases (reads text n) (list_any (reads text) ns) e) [
    | inl here ↦ absurd (both_ways (list_any (bytes_eq text) seen) fresh
        (subst (λ t. list_any (bytes_eq t) seen ≡ true) ((bytes_eq-Decides n.text text).0 here) was))
    | inr later ↦ read_first text seen ns fresh later
  ])
  | inr new ↦ rw new (elim (cases_Bool (reads text n)) [
    | inl here ↦ or_left (reads text n) (list_any (reads text) (first_of_each (n.text ∷ seen) ns)) here
    | inr other ↦ or_right (reads text n) (list_any (reads text) (first_of_each (n.text ∷ seen) ns))
        (read_first text (n.text ∷ seen) ns
        (or_from (bytes_eq text n.text) (list_any (bytes_eq text) seen)
        (false_from_ne_true (bytes_eq text n.text) (λ same. both_ways (reads text n) other
        ((bytes_eq-Decides n.text text).1 (sym ((bytes_eq-Decides text n.text).0 same))))) fresh)
        (elim (or_cases (reads text n) (list_any (reads text) ns) e) [
          | inl here ↦ absurd (both_ways (reads text n) other here)
          | inr later ↦ later
        ]))
  ])
]

-- where some item passes, there is a first position of one
position_is : {X : Type 0} (p : X → Bool) (xs : List X) → list_any p xs ≡ true → position p xs ≡ Some (the_number (position p xs))
position_is p xs h =
    let within : nat_lt (position_or_len p xs) (length xs) ≡ true =
    lt-ltb (position_or_len p xs) (length xs) (position_or_len-within p xs h) in
    rw within refl

module _ (d : Declared) where
  -- there are as many new objects as classes that have one
  new_count : (n : ℕ) (cs : List ClassDecl) → length (new_numbers n (map (resolved_class d) cs)) ≡ count_by has_new cs
  new_count n [] = refl
  new_count n (c ∷ cs) = elim (cases_Bool (has_new c)) [
    | inl e ↦ (let here : length (new_numbers n (map (resolved_class d) (c ∷ cs)))
        ≡ suc (length (new_numbers (suc n) (map (resolved_class d) cs))) = rw e refl in
        let rest = new_count (suc n) cs in let step = counted_one has_new c cs e in omega arith)
    | inr e ↦ (let here : length (new_numbers n (map (resolved_class d) (c ∷ cs)))
        ≡ length (new_numbers (suc n) (map (resolved_class d) cs)) = rw e refl in
        let rest = new_count (suc n) cs in let step = counted_none has_new c cs e in omega arith)
  ]

  objects_long : length (objects_made d) ≡ length (named_objects d) + count_by has_new d.classes
  objects_long =
      let all = length-append (map (resolved_object d) (named_objects d)) (map new_object (new_numbers 0 (map (resolved_class d) d.classes))) in
      let own = length-map (named_objects d) (resolved_object d) in
      let new = length-map (new_numbers 0 (map (resolved_class d) d.classes)) new_object in
      let many = new_count 0 d.classes in omega arith

  fewer_before : (cs : List ClassDecl) (k : ℕ) (e : ClassDecl) → k < length cs → has_new (get_or cs k e) ≡ true →
      count_by has_new (take k cs) < count_by has_new cs
  fewer_before [] k e l is = absurd (omega arith)
  fewer_before (c ∷ cs) zero e l is =
      let step = counted_one has_new c cs is in
      let none : count_by has_new (take 0 (c ∷ cs)) ≡ 0 = refl in
      omega arith
  fewer_before (c ∷ cs) (suc k) e l is =
      let rest = fewer_before cs k e (omega arith) is in
      let step = counted has_new c cs in
      let before = counted has_new c (take k cs) in
      omega arith

  -- the new object of a class is there
  pub new_there : (c : ℕ) (e : ClassDecl) → c < length d.classes → has_new (get_or d.classes c e) ≡ true →
      length (named_objects d) + count_by has_new (take c d.classes) < length (objects_made d)
  new_there c e l is = let before = fewer_before d.classes c e l is in let long = objects_long in omega arith

  -- so is an object at whose name the text speaks of it
  named_among : (text : List ℕ) → list_any (reads text) d.mentions ≡ true → list_any (reads text) (named_objects d) ≡ true
  named_among text h = read_first text [] d.mentions refl h

  pub named_there : (text : List ℕ) → list_any (reads text) d.mentions ≡ true → the_number (object_named d text) < length (objects_made d)
  named_there text h =
      let below = position-there (reads text) (named_objects d) (named_among text h) in let long = objects_long in omega arith

  -- the object of a name is made of a name that reads so
  named_made : (text : List ℕ) → list_any (reads text) d.mentions ≡ true →
      (object_at (objects_made d) (the_number (object_named d text))).kind ≡ kind_of_object d text
  named_made text h =
      let o : ℕ = the_number (object_named d text) in
      let found = position-Some (reads text) (named_objects d) o no_name (position_is (reads text) (named_objects d) (named_among text h)) in
      let long = length-map (named_objects d) (resolved_object d) in
      let same = (bytes_eq-Decides (get_or (named_objects d) o no_name).text text).0 found.1 in
      ap (λ x. x.kind) (get_or_append_left (map (resolved_object d) (named_objects d))
      (map new_object (new_numbers 0 (map (resolved_class d) d.classes))) no_object o (omega (arith, found.0, long))
      ∙ get_or-map (resolved_object d) (named_objects d) o no_name no_object found.0)
      ∙ ap (kind_of_object d) same

-- each atom of a text is an object that may be named in bodies
pub atoms_there : (ast : Ast) → AreAtomsThere (declared_in ast) (objects_made (declared_in ast))
atoms_there ast text atom =
    let d : Declared = declared_in ast in
    let mentioned = atom_mentioned ast text atom in
    let o : ℕ = the_number (object_named d text) in
    and_from (nat_lt o (length (objects_made d))) (is_atom (object_at (objects_made d) o).kind)
    (lt-ltb o (length (objects_made d)) (named_there d text mentioned))
    (ap is_atom (named_made d text mentioned) ∙ kind_of_atom ast text atom)

-- The objects of the problem are those of a problem.
use Rattle.std.proofs.Common.{◌≡◌, ◌≢◌, ◌∙◌, ◌≤◌, ◌<◌, ◌+◌, ◌^◌, ℕ, zero, suc, List, [], ◌∷◌, ◌++◌, length, map, All, AllPairs, codes, IsTrue, refl, sym, ap, subst, arith}
use Rattle.std.specs.List.{range_with_len}
use Rattle.std.proofs.lemmas.List.{append-nil, length-append}
use Rattle.std.proofs.lemmas.List.Elements.{All-append, All-cons, All-nil, filter-append}
use Rattle.std.proofs.lemmas.List.FromFn.{length-map-range_with_len}
use Rattle.rf_bounds.specs.declared.TheConstants.{GREATEST_NUMBER, MOST_OBJECTS}
use Rattle.rf_text.specs.Written.{CanBeQuoted}
use Rattle.rf_problem.specs.Valid.{AreObjects, FitsCount, HasName, IsSmall, fits_kind, is_named, named_objects, new_object}
use Rattle.rf_problem.specs.declared.object.ObjectDecl.{ObjectDecl}
use Rattle.rf_problem.specs.declared.object.ObjectName.{ObjectName}
use Rattle.rf_problem.specs.declared.object.ObjectName.TheVariants.{Named, NewOf}
use Rattle.rf_grow.specs.Grown.{exactly, grown_classes, grown_objects, one_node, part_name, part_object}
use Rattle.rf_grow.proofs.Names.{part_name_first, part_name_quotable, part_names_differ, whole_name_quotable}
use Rattle.rf_grow.proofs.Rows.{all_items, pairs_cons, pairs_nil, where_none, where_some}

-- what holds of a name of one's own holds of the name of such an object
named_by : (P : List ℕ → Type 0) (name : List ℕ) → P name → HasName (Named name) P
named_by P name h own e = subst P (own_name e) h
  where
    name_in : ObjectName → List ℕ
    name_in (Named own) = own
    name_in (NewOf c) = []

    own_name : Named name ≡ Named own → name ≡ own
    own_name e = ap name_in e

-- a new object has none
unnamed : (P : List ℕ → Type 0) (c : ℕ) → HasName (NewOf c) P
unnamed P c own e = absurd (differ e)
  where
    differ : NewOf c ≡ Named own → ⊥
    differ e = cc

abbrev the_new : List ObjectDecl
the_new = new_object 0 ∷ new_object 1 ∷ []

-- what holds of the whole, of each part and of the new objects holds of all
each_object :
    (P : ObjectDecl → Type 0) (n : ℕ) → P (one_node (codes "t")) → ((k : ℕ) → k < n → P (part_object k)) → ((c : ℕ) → P (new_object c))
    → All P (grown_objects n)
each_object P n whole parts new =
    All-cons P (one_node (codes "t")) (map part_object (range_with_len 0 n) ++ the_new) whole
    (All-append P (map part_object (range_with_len 0 n)) the_new (all_items P part_object 0 n (λ k low high. parts k (omega arith)))
    (All-cons P (new_object 0) (new_object 1 ∷ []) (new 0) (All-cons P (new_object 1) [] (new 1) (All-nil P))))

-- the parts are those that have names
named_row : (a n : ℕ) → named_objects (map part_object (range_with_len a n)) ≡ map part_object (range_with_len a n)
named_row a zero = refl
named_row a (suc n) = ap (λ os. part_object a ∷ os) (named_row (a + 1) n)

named_all : (n : ℕ) → named_objects (grown_objects n) ≡ one_node (codes "t") ∷ map part_object (range_with_len 0 n)
named_all n = ap (λ os. one_node (codes "t") ∷ os) (
    filter-append (λ o. is_named o.name) (map part_object (range_with_len 0 n)) the_new
    ∙ ap (λ os. os ++ []) (named_row 0 n) ∙ append-nil (map part_object (range_with_len 0 n)))

-- two objects have different names, where both have one
abbrev AreApart : ObjectDecl → ObjectDecl → Type 0
AreApart o q = HasName o.name (λ name. HasName q.name (λ other. name ≢ other))

apart_names : (a b : List ℕ) → a ≢ b → AreApart (one_node a) (one_node b)
apart_names a b ne = named_by (λ name. HasName (Named b) (λ other. name ≢ other)) a (named_by (λ other. a ≢ other) b ne)

apart_new : (o : ObjectDecl) (c : ℕ) → AreApart o (new_object c)
apart_new o c name is = unnamed (λ other. name ≢ other) c

new_apart : (o : ObjectDecl) → All (AreApart o) the_new
new_apart o =
    All-cons (AreApart o) (new_object 0) (new_object 1 ∷ []) (apart_new o 0)
    (All-cons (AreApart o) (new_object 1) [] (apart_new o 1) (All-nil (AreApart o)))

-- an object is apart from parts, and from the new objects after them
apart_from_parts : (o : ObjectDecl) (a n : ℕ) → ((k : ℕ) → a ≤ k → k < a + n → AreApart o (part_object k))
    → All (AreApart o) (map part_object (range_with_len a n) ++ the_new)
apart_from_parts o a n each =
    All-append (AreApart o) (map part_object (range_with_len a n)) the_new (all_items (AreApart o) part_object a n each) (new_apart o)

parts_apart : (a n : ℕ) → a + n ≤ 2 ^ 32 → AllPairs AreApart (map part_object (range_with_len a n) ++ the_new)
parts_apart a zero small =
    pairs_cons AreApart (new_object 0) (new_object 1 ∷ [])
    (All-cons (AreApart (new_object 0)) (new_object 1) [] (apart_new (new_object 0) 1) (All-nil (AreApart (new_object 0))))
    (pairs_cons AreApart (new_object 1) [] (All-nil (AreApart (new_object 1))) (pairs_nil AreApart))
parts_apart a (suc n) small =
    pairs_cons AreApart (part_object a) (map part_object (range_with_len (a + 1) n) ++ the_new)
    (apart_from_parts (part_object a) (a + 1) n
    (λ k low high. apart_names (part_name a) (part_name k) (part_names_differ a k (omega arith) (omega arith))))
    (parts_apart (a + 1) n (omega arith))

pub length-grown_objects : (n : ℕ) → length (grown_objects n) ≡ n + 3
length-grown_objects n =
    let many : length (map part_object (range_with_len 0 n)) ≡ n = length-map-range_with_len part_object 0 n in
    let all = length-append (map part_object (range_with_len 0 n)) the_new in
    omega arith

pub objects_fit : (n : ℕ) → n < MOST_OBJECTS → AreObjects grown_classes (grown_objects n)
objects_fit n small =
    let names = named_all n in
    let many : length (map part_object (range_with_len 0 n)) ≡ n = length-map-range_with_len part_object 0 n in
    record {
      few = subst (λ os. length os ≤ MOST_OBJECTS) (sym names) (omega arith);
      named = each_object (λ o. HasName o.name CanBeQuoted) n (named_by CanBeQuoted (codes "t") whole_name_quotable)
          (λ k l. named_by CanBeQuoted (part_name k) (part_name_quotable k (omega arith))) (λ c. unnamed CanBeQuoted c);
      apart = pairs_cons AreApart (one_node (codes "t")) (map part_object (range_with_len 0 n) ++ the_new)
          (apart_from_parts (one_node (codes "t")) 0 n
          (λ k low high. apart_names (codes "t") (part_name k) (λ same. part_name_first k (sym same)))) (parts_apart 0 n (omega arith));
      counts = each_object (λ o. IsSmall o.count) n one_small (λ k l. one_small) (λ c. record { lower = omega arith; upper = where_none (λ n. n ≤ GREATEST_NUMBER) });
      kinds = each_object (λ o. IsTrue (fits_kind grown_classes o.name o.kind)) n refl (λ k l. refl) (λ c. refl);
      atoms = each_object (λ o. FitsCount o.kind o.count) n (λ e. cc) (λ k l e. cc) (λ c e. cc);
      stocked = ap (λ os. os ++ the_new) (sym names);
    }
  where
    one_small : IsSmall (exactly 1)
    one_small = record { lower = omega arith; upper = where_some (λ n. n ≤ GREATEST_NUMBER) 1 (omega arith) }

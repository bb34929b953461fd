-- What the tables of names say of what is declared.
use Rattle.std.proofs.Common.{◌≡◌, ◌∙◌, ℕ, ◌<◌, ◌≤◌, ◌^◌, Bool, true, false, ◌==◌, ◌&&◌, List, [], ◌∷◌, length, take, get_or, map, filter, Option, None, Some, refl, sym, ap, arith, inl, inr, nat_lt}
use Rattle.std.specs.Prelude.{option_map, slice_get}
use Rattle.std.proofs.lemmas.Bool.{cases_Bool, cases_lt, lt-ltb}
use Rattle.std.proofs.lemmas.List.{length-map, length-take}
use Rattle.std.proofs.lemmas.List.Folds.{find_at}
use Rattle.std.proofs.lemmas.List.Quantifiers.{position-Some}
use Rattle.std.proofs.lemmas.List.Sums.{count_by-le-length}
use Rattle.std.proofs.lemmas.Option.{slice_get_past, slice_get_read, slice_get-map}
use Rattle.std.proofs.lemmas.Simd.{map-map}
use Rattle.std.specs.List.{position, position_or_len}
use denote.Ref.{Bor}
use Rattle.rf_syntax.specs.declared.name.Name.{Name}
use Rattle.rf_syntax.specs.declared.statement.Item.{Item}
use Rattle.rf_names.specs.Declarations.{ClassDecl, Declared, ReferenceDecl}
use Rattle.rf_names.specs.LookUp.{class_named, extends_somehow, has_new, inherited_members, item_named, members_of_some, no_name, numbers_where, own_members, own_or_inherited, predicate_named, references_named}
use Rattle.rf_names.specs.Texts.{reads}
use Rattle.rf_names.specs.Tables.{AreCounts, passes_at}
use Rattle.rf_names.proofs.ListedLemmas.{numbers_passing, numbers_where-map, numbers_where-same}
use Rattle.rf_names.proofs.SuperLemmas.{marks_everywhere, position-map}

-- the number found is that of the class, of the predicate
pub class_found :
    (d : Declared) (names : List Name) (text : List ℕ) (found : Option ℕ) → names ≡ map (λ c. c.name) d.classes → found ≡ position (reads text) names →
    found ≡ class_named d text
class_found d names text found are finds = finds ∙ ap (position (reads text)) are ∙ position-map (reads text) (λ c. c.name) d.classes

pub predicate_found :
    (d : Declared) (names : List Name) (text : List ℕ) (found : Option ℕ) → names ≡ map (λ p. p.name) d.predicates → found ≡ position (reads text) names →
    found ≡ predicate_named d text
predicate_found d names text found are finds = finds ∙ ap (position (reads text)) are ∙ position-map (reads text) (λ p. p.name) d.predicates

-- the numbers kept are those of the references
pub references_found :
    (d : Declared) (text numbers : List ℕ) → numbers ≡ numbers_where 0 (reads text) (map (λ r. r.feature.name) d.references) → numbers ≡ references_named d text
references_found d text numbers are = are ∙ numbers_where-map 0 (reads text) (λ r. r.feature.name) d.references

-- the number found is that of an item
pub position_there : {T : Type 0} (p : T → Bool) (xs : List T) (n : ℕ) → position p xs ≡ Some n → position_or_len p xs ≡ n
position_there p xs n found = elim (cases_Bool (nat_lt (position_or_len p xs) (length xs))) [
  | inl within ↦ (let here : position p xs ≡ Some (position_or_len p xs) = rw within refl in cc)
  | inr past ↦ (let none : position p xs ≡ None = rw past refl in cc)
]

pub position_missing : {T : Type 0} (p : T → Bool) (xs : List T) → position p xs ≡ None → length xs ≤ position_or_len p xs
position_missing p xs none = elim (cases_lt (position_or_len p xs) (length xs)) [
  | inl within ↦ (let test : nat_lt (position_or_len p xs) (length xs) ≡ true = lt-ltb (position_or_len p xs) (length xs) within in
      let here : position p xs ≡ Some (position_or_len p xs) = rw test refl in cc)
  | inr past ↦ past
]

pub item_position :
    (d : Declared) (names : List Name) (text : List ℕ) (found : Option ℕ) (n : ℕ) → names ≡ map (λ i. i.name) d.items → found ≡ position (reads text) names →
    found ≡ Some n → (n < length d.items) × (item_named d text ≡ slice_get d.items n)
item_position d names text found n are finds is =
    let there : position (reads text) (map (λ i. i.name) d.items) ≡ Some n = sym (finds ∙ ap (position (reads text)) are) ∙ is in
    let place : position (λ i. reads text i.name) d.items ≡ Some n = sym (position-map (reads text) (λ i. i.name) d.items) ∙ there in
    let within = (position-Some (reads text) (map (λ i. i.name) d.items) n no_name there).0 in (
      omega (arith, within, length-map d.items (λ i. i.name)),
      find_at (λ i. reads text i.name) d.items ∙ ap (λ (k : ℕ). slice_get d.items k) (position_there (λ i. reads text i.name) d.items n place),
    )

pub item_read :
    (lent : List (Bor Item)) (all : List Item) (n : ℕ) (x : Bor Item) (found : Option Item) → map (λ i. i.now) lent ≡ all → n < length all → x ≡ get_or lent n x →
    found ≡ slice_get all n → Some x.now ≡ found
item_read lent all n x found seen within is finds =
    let now : Bor Item → Item = λ i. i.now in
    let room : n < length lent = omega (arith, length-map lent now, ap length seen, within) in
    sym (finds ∙ ap (λ xs. slice_get xs n) (sym seen) ∙ slice_get-map now lent n ∙ ap (option_map now) (slice_get_read lent (length lent) n x refl room is))

pub item_missing :
    (d : Declared) (names : List Name) (text : List ℕ) (found : Option ℕ) → names ≡ map (λ i. i.name) d.items → found ≡ position (reads text) names →
    found ≡ None → item_named d text ≡ None
item_missing d names text found are finds is =
    let missing : position (λ i. reads text i.name) d.items ≡ None =
    sym (finds ∙ ap (position (reads text)) are ∙ position-map (reads text) (λ i. i.name) d.items) ∙ is in
    find_at (λ i. reads text i.name) d.items ∙ slice_get_past d.items _ (position_missing (λ i. reads text i.name) d.items missing)

-- the names of items that are lent
pub item_names-lent : (lent : List (Bor Item)) (all : List Item) → map (λ x. x.now) lent ≡ all → map (λ x. x.now.name) lent ≡ map (λ x. x.name) all
item_names-lent lent all seen =
    let name : Item → Name = λ x. x.name in
    let now : Bor Item → Item = λ x. x.now in
    sym (map-map name now lent) ∙ ap (map name) seen

-- few classes have small counts
pub counts_below :
    (classes : List ClassDecl) (counts : List ℕ) (c : ℕ) → AreCounts classes (length classes) counts → c < length classes → length classes < 2 ^ 32 →
    get_or counts c 0 < 2 ^ 32
counts_below classes counts c are within few =
    let least = count_by-le-length has_new (take c classes) in
    omega (arith, are.each c within, least, length-take c classes)

-- members that the class declares itself
taken : (own inherited : List ℕ) → (length own ≡ 0 → ⊥) → own_or_inherited own inherited ≡ own
taken [] inherited some = absurd (some refl)
taken (r ∷ rs) inherited some = refl

passed : (own inherited : List ℕ) → length own ≡ 0 → own_or_inherited own inherited ≡ inherited
passed [] inherited none = refl
passed (r ∷ rs) inherited none = absurd (omega arith)

own_read :
    (d : Declared) (c : ℕ) (text named own : List ℕ) → named ≡ references_named d text → own ≡ filter (passes_at (λ r. r.source == c) d.references) named →
    own ≡ own_members d c text
own_read d c text named own are kept =
    kept ∙ ap (filter (passes_at (λ r. r.source == c) d.references)) are ∙ numbers_passing (λ r. r.source == c) (λ r. reads text r.feature.name) d.references

pub own_taken :
    (d : Declared) (class : Option ℕ) (c : ℕ) (text named own : List ℕ) → class ≡ Some c → named ≡ references_named d text →
    own ≡ filter (passes_at (λ r. r.source == c) d.references) named → (length own ≡ 0 → ⊥) → own ≡ members_of_some d class text
own_taken d class c text named own is are kept some =
    let mine = own_read d c text named own are kept in
    sym (taken own (inherited_members d c text) some) ∙ ap (λ o. own_or_inherited o (inherited_members d c text)) mine ∙ ap (λ k. members_of_some d k text) (sym is)

pub inherited_taken :
    (d : Declared) (class : Option ℕ) (c : ℕ) (text named own above : List ℕ) (marks : List Bool) → class ≡ Some c → named ≡ references_named d text →
    own ≡ filter (passes_at (λ r. r.source == c) d.references) named → length own ≡ 0 → length marks ≡ length d.classes →
    ((k : ℕ) → k < length d.classes → get_or marks k false ≡ extends_somehow d c k) →
    above ≡ filter (passes_at (λ r. get_or marks r.source false) d.references) named → above ≡ members_of_some d class text
inherited_taken d class c text named own above marks is are kept none len right passing =
    let mine = own_read d c text named own are kept in
    let marked : ReferenceDecl → Bool = λ r. get_or marks r.source false in
    let read : ReferenceDecl → Bool = λ r. reads text r.feature.name in
    let all : above ≡ inherited_members d c text =
    passing ∙ ap (filter (passes_at marked d.references)) are ∙ numbers_passing marked read d.references
    ∙ numbers_where-same 0 _ _ d.references (λ r. ap (λ b. b && read r) (marks_everywhere d c marks len right r.source)) in
    all ∙ sym (passed own (inherited_members d c text) none) ∙ ap (λ o. own_or_inherited o (inherited_members d c text)) mine ∙ ap (λ k. members_of_some d k text) (sym is)

-- The class of the first literal of a text is the first that has such a literal.
use Rattle.std.proofs.Common.{◌≡◌, ◌∙◌, ℕ, suc, ◌+◌, ◌<◌, ◌≤◌, Bool, true, false, List, [], ◌∷◌, ◌++◌, length, take, get_or, map, Option, None, Some, refl, sym, ap, arith, inl, inr, append_assoc, length-append}
use Rattle.std.specs.Prelude.{nat_lt, option_map, slice_get, unwrap_or}
use Rattle.std.proofs.lemmas.Option.{slice_get-map, unwrap_or-slice_get}
use Rattle.std.specs.List.{flat_map, list_any, position, position_or_len}
use Rattle.std.proofs.lemmas.Grind.{get_or_default_zero}
use Rattle.std.proofs.lemmas.Bool.{cases_Bool, lt-ltb, ltb-true}
use Rattle.std.proofs.lemmas.List.{append-nil, get_or-append-add, get_or-map, get_or_append_left, length-map, length-take, take_more}
use Rattle.std.proofs.lemmas.List.Quantifiers.{position-Some}
use Rattle.rf_syntax.specs.declared.name.Name.{Name}
use Rattle.rf_names.specs.Declarations.{ClassDecl, Declared}
use Rattle.rf_names.specs.LookUp.{enum_of, has_literal, is_literal_of, no_class_decl, no_name}
use Rattle.rf_names.specs.Tables.{owners_from, passes_at, some_passes}
use Rattle.rf_names.specs.Texts.{reads}
use Rattle.rf_names.proofs.NamedLemmas.{position_missing, position_there}
use Rattle.rf_names.proofs.VariableLemmas.{position_or_len-within}

-- the first that passes among items and others after them
position_or_len-first : {T : Type 0} (p : T → Bool) (xs ys : List T) → list_any p xs ≡ true → position_or_len p (xs ++ ys) ≡ position_or_len p xs
position_or_len-first p [] ys some = cc
position_or_len-first p (x ∷ xs) ys some = elim (cases_Bool (p x)) [
  | inl passes ↦ rw passes refl
  | inr fails ↦ (let later : list_any p xs ≡ true = rw fails at some in
      rw fails (ap (λ (n : ℕ). 1 + n) (position_or_len-first p xs ys later)))
]

position_or_len-later : {T : Type 0} (p : T → Bool) (xs ys : List T) → list_any p xs ≡ false → position_or_len p (xs ++ ys) ≡ length xs + position_or_len p ys
position_or_len-later p [] ys none = let e : position_or_len p ys ≡ 0 + position_or_len p ys = omega arith in e
position_or_len-later p (x ∷ xs) ys none = elim (cases_Bool (p x)) [
  | inl passes ↦ (let some : list_any p (x ∷ xs) ≡ true = rw passes refl in cc)
  | inr fails ↦ (let later : list_any p xs ≡ false = rw fails at none in
      let rest = position_or_len-later p xs ys later in
      rw fails (omega arith))
]

owner_at :
    (text : List ℕ) (n : ℕ) (cs : List ClassDecl) → position_or_len (reads text) (flat_map (λ c. c.literals) cs) < length (flat_map (λ c. c.literals) cs) →
    (position_or_len (has_literal text) cs < length cs)
    × (get_or (owners_from n cs) (position_or_len (reads text) (flat_map (λ c. c.literals) cs)) 0 ≡ n + position_or_len (has_literal text) cs)
owner_at text n [] within = absurd (omega arith)
owner_at text n (c ∷ cs) within =
    let own = map (λ (l : Name). n) c.literals in
    let rest = flat_map (λ x. x.literals) cs in
    let many : length own ≡ length c.literals = length-map c.literals (λ (l : Name). n) in
    let long : length (c.literals ++ rest) ≡ length c.literals + length rest = length-append c.literals rest in
    elim (cases_Bool (has_literal text c)) [
      | inl here ↦ (let place = position_or_len-first (reads text) c.literals rest here in
          let inside = position_or_len-within (reads text) c.literals here in
          let read : get_or (own ++ owners_from (suc n) cs) (position_or_len (reads text) (c.literals ++ rest)) 0 ≡ n =
          ap (λ (k : ℕ). get_or (own ++ owners_from (suc n) cs) k 0) place
          ∙ get_or_append_left own (owners_from (suc n) cs) 0 (position_or_len (reads text) c.literals) (omega arith)
          ∙ get_or-map (λ (l : Name). n) c.literals (position_or_len (reads text) c.literals) no_name 0 inside in
          rw here (omega arith, (let e : n ≡ n + 0 = omega arith in read ∙ e)))
      | inr other ↦ (let place = position_or_len-later (reads text) c.literals rest other in
          let later = owner_at text (suc n) cs (omega arith) in
          let next = later.0 in
          let read : get_or (own ++ owners_from (suc n) cs) (position_or_len (reads text) (c.literals ++ rest)) 0 ≡ suc n + position_or_len (has_literal text) cs =
          ap (λ (k : ℕ). get_or (own ++ owners_from (suc n) cs) k 0) (place ∙ ap (λ (k : ℕ). k + position_or_len (reads text) rest) (sym many))
          ∙ get_or-append-add own (owners_from (suc n) cs) (position_or_len (reads text) rest) 0
          ∙ later.1 in
          rw other (omega arith, (let e : suc n + position_or_len (has_literal text) cs ≡ n + (1 + position_or_len (has_literal text) cs) = omega arith in read ∙ e)))
    ]

owner_missing :
    (text : List ℕ) (cs : List ClassDecl) → length (flat_map (λ c. c.literals) cs) ≤ position_or_len (reads text) (flat_map (λ c. c.literals) cs) →
    length cs ≤ position_or_len (has_literal text) cs
owner_missing text [] past = omega arith
owner_missing text (c ∷ cs) past =
    let rest = flat_map (λ x. x.literals) cs in
    let long : length (c.literals ++ rest) ≡ length c.literals + length rest = length-append c.literals rest in
    elim (cases_Bool (has_literal text c)) [
      | inl here ↦ (let place = position_or_len-first (reads text) c.literals rest here in
          let inside = position_or_len-within (reads text) c.literals here in
          absurd (omega arith))
      | inr other ↦ (let place = position_or_len-later (reads text) c.literals rest other in
          let later = owner_missing text cs (omega arith) in
          rw other (omega arith))
    ]

-- no class has a literal that isn't there
pub enum_missing :
    (d : Declared) (names : List Name) (text : List ℕ) (found : Option ℕ) → names ≡ flat_map (λ c. c.literals) d.classes → found ≡ position (reads text) names →
    found ≡ None → None ≡ enum_of d text
enum_missing d names text found are finds is =
    let none : position (reads text) (flat_map (λ c. c.literals) d.classes) ≡ None = sym (ap (position (reads text)) are) ∙ sym finds ∙ is in
    let past = owner_missing text d.classes (position_missing (reads text) (flat_map (λ c. c.literals) d.classes) none) in
    elim (cases_Bool (nat_lt (position_or_len (has_literal text) d.classes) (length d.classes))) [
      | inl within ↦ (let less = ltb-true (position_or_len (has_literal text) d.classes) (length d.classes) within in absurd (omega arith))
      | inr out ↦ rw out refl
    ]

length-owners : (n : ℕ) (cs : List ClassDecl) → length (owners_from n cs) ≡ length (flat_map (λ c. c.literals) cs)
length-owners n [] = refl
length-owners n (c ∷ cs) =
    let own = map (λ (l : Name). n) c.literals in
    length-append own (owners_from (suc n) cs)
    ∙ ap (λ (k : ℕ). k + length (owners_from (suc n) cs)) (length-map c.literals (λ (l : Name). n))
    ∙ ap (λ (k : ℕ). length c.literals + k) (length-owners (suc n) cs)
    ∙ sym (length-append c.literals (flat_map (λ x. x.literals) cs))

-- each literal found has an owner
pub owner_there :
    (d : Declared) (names : List Name) (owners : List ℕ) (text : List ℕ) (found : Option ℕ) (k : ℕ) → names ≡ flat_map (λ c. c.literals) d.classes →
    owners ≡ owners_from 0 d.classes → found ≡ position (reads text) names → found ≡ Some k → k < length owners
owner_there d names owners text found k are own finds is =
    let all = flat_map (λ c. c.literals) d.classes in
    let there : position (reads text) all ≡ Some k = sym (ap (position (reads text)) are) ∙ sym finds ∙ is in
    let within = (position-Some (reads text) all k no_name there).0 in
    omega (arith, within, ap length own, length-owners 0 d.classes)

-- the owner of the literal found
pub enum_found :
    (d : Declared) (names : List Name) (owners : List ℕ) (text : List ℕ) (found : Option ℕ) (k owner : ℕ) → names ≡ flat_map (λ c. c.literals) d.classes →
    owners ≡ owners_from 0 d.classes → found ≡ position (reads text) names → found ≡ Some k → owner ≡ get_or owners k owner → Some owner ≡ enum_of d text
enum_found d names owners text found k owner are own finds is reading =
    let all = flat_map (λ c. c.literals) d.classes in
    let there : position (reads text) all ≡ Some k = sym (ap (position (reads text)) are) ∙ sym finds ∙ is in
    let place : position_or_len (reads text) all ≡ k = position_there (reads text) all k there in
    let within = (position-Some (reads text) all k no_name there).0 in
    let first = owner_at text 0 d.classes (omega arith) in
    let test : nat_lt (position_or_len (has_literal text) d.classes) (length d.classes) ≡ true = lt-ltb (position_or_len (has_literal text) d.classes) (length d.classes) first.0 in
    let e : 0 + position_or_len (has_literal text) d.classes ≡ position_or_len (has_literal text) d.classes = omega arith in
    let read : owner ≡ position_or_len (has_literal text) d.classes =
    reading ∙ get_or_default_zero owners k owner (owner_there d names owners text found k are own finds is) ∙ ap (λ xs. get_or xs k 0) own ∙ ap (λ (i : ℕ). get_or (owners_from 0 d.classes) i 0) (sym place) ∙ first.1 ∙ e in
    rw test (ap (λ n. Some n) read)

owners_snoc : (n m : ℕ) (cs : List ClassDecl) (c : ClassDecl) → m ≡ n + length cs → owners_from n (cs ++ c ∷ []) ≡ owners_from n cs ++ map (λ l. m) c.literals
owners_snoc n m [] c is = let e : m ≡ n = omega arith in rw e (append-nil (map (λ l. n) c.literals))
owners_snoc n m (x ∷ cs) c is =
    let e : m ≡ suc n + length cs = omega arith in
    ap (λ rest. map (λ l. n) x.literals ++ rest) (owners_snoc (suc n) m cs c e)
    ∙ sym (append_assoc (map (λ l. n) x.literals) (owners_from (suc n) cs) (map (λ l. m) c.literals))

-- a loop's step
pub owners_more : (cs : List ClassDecl) (i : ℕ) (c : ClassDecl) → i < length cs → c ≡ get_or cs i c → owners_from 0 (take (i + 1) cs) ≡ owners_from 0 (take i cs) ++ map (λ l. i) c.literals
owners_more cs i c below is =
    let e : i ≡ 0 + length (take i cs) = simp length-take (omega arith) in
    ap (owners_from 0) (take_more cs i c below)
    ∙ owners_snoc 0 i (take i cs) (get_or cs i c) e
    ∙ ap (λ (x : ClassDecl). owners_from 0 (take i cs) ++ map (λ l. i) x.literals) (sym is)

passes_seen : {S T : Type 0} (p : T → Bool) (f : S → T) (o : Option S) → some_passes (λ x. p (f x)) o ≡ some_passes p (option_map f o)
passes_seen p f None = refl
passes_seen p f (Some x) = refl

passes_there : {T : Type 0} (p : T → Bool) (d : T) (o : Option T) → p d ≡ false → some_passes p o ≡ p (unwrap_or o d)
passes_there p d None none = sym none
passes_there p d (Some x) none = refl

-- the names of each list are the literals of the class of its number
pub literal_passes :
    {S : Type 0} (d : Declared) (names : S → List Name) (lists : List S) (c : ℕ) (text : List ℕ) → map names lists ≡ map (λ x. x.literals) d.classes →
    passes_at (λ own. list_any (reads text) (names own)) lists c ≡ is_literal_of d (Some c) text
literal_passes d names lists c text are =
    let literals : ClassDecl → List Name = λ x. x.literals in
    passes_seen (list_any (reads text)) names (slice_get lists c)
    ∙ ap (some_passes (list_any (reads text))) (sym (slice_get-map names lists c) ∙ ap (λ xs. slice_get xs c) are ∙ slice_get-map literals d.classes c)
    ∙ sym (passes_seen (list_any (reads text)) literals (slice_get d.classes c))
    ∙ passes_there (has_literal text) no_class_decl (slice_get d.classes c) refl
    ∙ ap (has_literal text) (unwrap_or-slice_get d.classes c no_class_decl)

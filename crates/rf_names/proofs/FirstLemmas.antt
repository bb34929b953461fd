-- The first name of each text, with one name more.
use Rattle.std.proofs.Common.{◌≡◌, ◌∙◌, ℕ, ◌+◌, ◌<◌, Bool, true, false, not, ◌||◌, List, [], ◌∷◌, ◌++◌, length, take, get_or, map, Option, refl, sym, ap, inl, inr}
use Rattle.std.specs.Prelude.{if◌then◌else◌}
use Rattle.std.proofs.lemmas.Bool.{cases_Bool}
use Rattle.std.proofs.lemmas.Iterator.Adapters.{position_from-zero}
use Rattle.std.proofs.lemmas.List.{append-nil, map-append, take_more}
use Rattle.std.proofs.lemmas.Slice.Eq.{bytes_eq-Decides}
use Rattle.std.specs.List.{list_any, position, position_from}
use Rattle.std.specs.Option.{is_none, is_some}
use Rattle.std.specs.Str.{bytes_eq}
use denote.Ref.{Bor}
use Rattle.rf_syntax.specs.declared.name.Name.{Name}
use Rattle.rf_names.specs.LookUp.{first_of_each}
use Rattle.rf_names.specs.Texts.{is_text_of, reads}

bytes_eq-sym : (xs ys : List ℕ) → bytes_eq xs ys ≡ bytes_eq ys xs
bytes_eq-sym xs ys = elim (cases_Bool (bytes_eq xs ys)) [
  | inl same ↦ same ∙ sym ((bytes_eq-Decides ys xs).1 (sym ((bytes_eq-Decides xs ys).0 same)))
  | inr apart ↦ elim (cases_Bool (bytes_eq ys xs)) [
    | inl same ↦ (let again : bytes_eq xs ys ≡ true = (bytes_eq-Decides xs ys).1 (sym ((bytes_eq-Decides ys xs).0 same)) in cc)
    | inr also ↦ apart ∙ sym also
  ]
]

or_moved : (a b c e : Bool) → a ≡ e → ((a || b) || c) ≡ (b || (e || c))
or_moved true true c e h = refl
or_moved true false c e h = rw (← h) refl
or_moved false true c e h = refl
or_moved false false c e h = rw (← h) refl

first-push :
    (seen : List (List ℕ)) (xs : List Name) (x : Name) →
    first_of_each seen (xs ++ x ∷ []) ≡ first_of_each seen xs ++ (if is_text_of seen x || list_any (reads x.text) (first_of_each seen xs) then [] else x ∷ [])
first-push seen [] x = elim (cases_Bool (is_text_of seen x)) [ inl known ↦ rw known refl | inr new ↦ rw new refl ]
first-push seen (y ∷ ys) x = elim (cases_Bool (is_text_of seen y)) [
  | inl known ↦ rw known (first-push seen ys x)
  | inr new ↦ (let rest = first_of_each (y.text ∷ seen) ys in
      let same = or_moved (bytes_eq x.text y.text) (is_text_of seen x) (list_any (reads x.text) rest) (reads x.text y) (bytes_eq-sym x.text y.text) in
      rw new (ap (λ ns. y ∷ ns) (first-push (y.text ∷ seen) ys x) ∙ ap (λ b. y ∷ (rest ++ (if b then [] else x ∷ []))) same))
]

any_position_from : {T : Type 0} (p : T → Bool) (i : ℕ) (xs : List T) → is_none (position_from p i xs) ≡ not (list_any p xs)
any_position_from p i [] = refl
any_position_from p i (x ∷ xs) = elim (cases_Bool (p x)) [ inl passes ↦ rw passes refl | inr fails ↦ rw fails (any_position_from p (i + 1) xs) ]

any_position : {T : Type 0} (p : T → Bool) (xs : List T) → is_none (position p xs) ≡ not (list_any p xs)
any_position p xs = ap is_none (position_from-zero p xs) ∙ any_position_from p 0 xs

some_position_from : {T : Type 0} (p : T → Bool) (i : ℕ) (xs : List T) → is_some (position_from p i xs) ≡ list_any p xs
some_position_from p i [] = refl
some_position_from p i (x ∷ xs) = elim (cases_Bool (p x)) [ inl passes ↦ rw passes refl | inr fails ↦ rw fails (some_position_from p (i + 1) xs) ]

-- whether there is a position
pub some_position : {T : Type 0} (p : T → Bool) (xs : List T) → is_some (position p xs) ≡ list_any p xs
some_position p xs = ap is_some (position_from-zero p xs) ∙ some_position_from p 0 xs

not_true : (b : Bool) → not b ≡ true → b ≡ false
not_true true h = cc
not_true false h = refl

not_false : (b : Bool) → not b ≡ false → b ≡ true
not_false true h = refl
not_false false h = cc

first_of_more :
    (all : List (Bor Name)) (i : ℕ) (d x : Bor Name) (firsts : List Name) → i < length all → x ≡ get_or all i d → firsts ≡ first_of_each [] (map (λ n. n.now) (take i all)) →
    first_of_each [] (map (λ n. n.now) (take (i + 1) all)) ≡ firsts ++ (if list_any (reads x.now.text) firsts then [] else x.now ∷ [])
first_of_more all i d x firsts within is are =
    let lent : Bor Name → Name = λ n. n.now in
    let read : take (i + 1) all ≡ take i all ++ x ∷ [] = take_more all i d within ∙ ap (λ y. take i all ++ y ∷ []) (sym is) in
    let more : map lent (take (i + 1) all) ≡ map lent (take i all) ++ x.now ∷ [] = ap (map lent) read ∙ map-append lent (take i all) (x ∷ []) in
    ap (first_of_each []) more ∙ first-push [] (map lent (take i all)) x.now
    ∙ ap (λ ns. ns ++ (if list_any (reads x.now.text) ns then [] else x.now ∷ [])) (sym are)

-- the next name is the first of its text
pub first_new :
    (all : List (Bor Name)) (i : ℕ) (d x : Bor Name) (firsts more : List Name) (text : List ℕ) (found : Option ℕ) → i < length all → x ≡ get_or all i d →
    firsts ≡ first_of_each [] (map (λ n. n.now) (take i all)) → text ≡ x.now.text → found ≡ position (reads text) firsts → is_none found ≡ true →
    more ≡ firsts ++ x.now ∷ [] → more ≡ first_of_each [] (map (λ n. n.now) (take (i + 1) all))
first_new all i d x firsts more text found within is are read finds none pushed =
    let absent : list_any (reads x.now.text) firsts ≡ false = not_true (list_any (reads x.now.text) firsts)
    (sym (any_position (reads x.now.text) firsts) ∙ ap (λ t. is_none (position (reads t) firsts)) (sym read) ∙ sym (ap is_none finds) ∙ none) in
    pushed ∙ ap (λ b. firsts ++ (if b then [] else x.now ∷ [])) (sym absent) ∙ sym (first_of_more all i d x firsts within is are)

-- its text came before
pub first_known :
    (all : List (Bor Name)) (i : ℕ) (d x : Bor Name) (firsts : List Name) (text : List ℕ) (found : Option ℕ) → i < length all → x ≡ get_or all i d →
    firsts ≡ first_of_each [] (map (λ n. n.now) (take i all)) → text ≡ x.now.text → found ≡ position (reads text) firsts → is_none found ≡ false →
    firsts ≡ first_of_each [] (map (λ n. n.now) (take (i + 1) all))
first_known all i d x firsts text found within is are read finds some =
    let present : list_any (reads x.now.text) firsts ≡ true = not_false (list_any (reads x.now.text) firsts)
    (sym (any_position (reads x.now.text) firsts) ∙ ap (λ t. is_none (position (reads t) firsts)) (sym read) ∙ sym (ap is_none finds) ∙ some) in
    sym (first_of_more all i d x firsts within is are ∙ ap (λ b. firsts ++ (if b then [] else x.now ∷ [])) present ∙ append-nil firsts)

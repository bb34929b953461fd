-- The numbers of names, with one name more.
use Rattle.std.proofs.Common.{◌≡◌, ◌∙◌, ℕ, suc, ◌+◌, Bool, true, false, cond, List, [], ◌∷◌, ◌++◌, length, Option, None, Some, map, refl, sym, ap, subst, arith, inl, inr}
use Rattle.std.proofs.lemmas.Bool.{cases_Bool}
use Rattle.std.proofs.lemmas.Iterator.Adapters.{position_from-zero}
use Rattle.std.proofs.lemmas.Slice.Eq.{bytes_eq-Decides}
use Rattle.std.proofs.lemmas.List.{length-map, map-append}
use Rattle.std.specs.HashMap.{HashMap}
use Rattle.std.specs.List.{position, position_from}
use Rattle.std.specs.Map.{update}
use Rattle.std.specs.Option.{is_some, option_or}
use Rattle.std.specs.Str.{bytes_eq}
use denote.Ref.{Bor}
use Rattle.rf_syntax.specs.declared.name.Name.{Name}
use Rattle.rf_names.specs.Texts.{reads}
use Rattle.rf_names.specs.Tables.{AreNumbered, number_in}

or_none : {T : Type 0} (o : Option T) → option_or o None ≡ o
or_none None = refl
or_none (Some x) = refl

position_from-push :
    {T : Type 0} (p : T → Bool) (i : ℕ) (xs : List T) (y : T) →
    position_from p i (xs ++ y ∷ []) ≡ option_or (position_from p i xs) (cond (p y) (Some (i + length xs)) None)
position_from-push p i [] y = ap (λ (n : ℕ). cond (p y) (Some n) None) (omega arith)
position_from-push p i (x ∷ xs) y = elim (cases_Bool (p x)) [
  | inl passes ↦ rw passes refl
  | inr fails ↦ (let rest = position_from-push p (i + 1) xs y in
      let same : (i + 1) + length xs ≡ i + suc (length xs) = omega arith in
      rw fails (rest ∙ ap (λ (n : ℕ). option_or (position_from p (i + 1) xs) (cond (p y) (Some n) None)) same))
]

-- the first position among these and one more
pub position-push :
    {T : Type 0} (p : T → Bool) (xs : List T) (y : T) →
    position p (xs ++ y ∷ []) ≡ option_or (position p xs) (cond (p y) (Some (length xs)) None)
position-push p xs y =
    let same : 0 + length xs ≡ length xs = omega arith in
    position_from-zero p (xs ++ y ∷ []) ∙ position_from-push p 0 xs y
    ∙ ap (λ o. option_or o (cond (p y) (Some (0 + length xs)) None)) (sym (position_from-zero p xs))
    ∙ ap (λ (n : ℕ). option_or (position p xs) (cond (p y) (Some n) None)) same

text_read : (text : List ℕ) (name : Name) → reads text name ≡ true → name.text ≡ text
text_read text name = (bytes_eq-Decides name.text text).0

unread :
    {T : Type 0} (p : T → Bool) (xs : List T) (y : T) → p y ≡ false →
    option_or (position p xs) (cond (p y) (Some (length xs)) None) ≡ position p xs
unread p xs y other = ap (λ b. option_or (position p xs) (cond b (Some (length xs)) None)) other ∙ or_none (position p xs)

none_kept : {T : Type 0} (o : Option T) → is_some o ≡ false → o ≡ None
none_kept None h = refl
none_kept (Some x) h = cc

some_kept : {T : Type 0} (o more : Option T) → is_some o ≡ true → option_or o more ≡ o
some_kept None more h = cc
some_kept (Some x) more h = refl

-- a text that has no number yet takes the next
pub one_more_number :
    {S : Type 0} (names : List Name) (name : Name) (old new : HashMap (Bor (List ℕ)) ℕ S) → AreNumbered names old → is_some (number_in old name.text) ≡ false →
    ((text : List ℕ) → number_in new text ≡ update bytes_eq (number_in old) name.text (Some (length names)) text) → AreNumbered (names ++ name ∷ []) new
one_more_number names name old new are absent updated text = elim (cases_Bool (reads text name)) [
  | inl read ↦ (let here : name.text ≡ text = text_read text name read in
      let none : position (reads text) names ≡ None = sym (are text) ∙ none_kept (number_in old text) (subst (λ t. is_some (number_in old t) ≡ false) here absent) in
      let first : number_in new text ≡ Some (length names) = updated text ∙ rw read refl in
      let grown : option_or (position (reads text) names) (cond (reads text name) (Some (length names)) None) ≡ Some (length names) = rw (none, read) refl in
      first ∙ sym (position-push (reads text) names name ∙ grown))
  | inr other ↦ (let kept : number_in new text ≡ number_in old text = updated text ∙ rw other refl in
      kept ∙ are text ∙ sym (position-push (reads text) names name ∙ unread (reads text) names name other))
]

-- one that has a number keeps it
pub number_kept :
    {S : Type 0} (names : List Name) (name : Name) (numbers : HashMap (Bor (List ℕ)) ℕ S) → AreNumbered names numbers → is_some (number_in numbers name.text) ≡ true →
    AreNumbered (names ++ name ∷ []) numbers
number_kept names name numbers are present text = elim (cases_Bool (reads text name)) [
  | inl read ↦ (let here : name.text ≡ text = text_read text name read in
      let some : is_some (position (reads text) names) ≡ true = sym (ap is_some (are text)) ∙ subst (λ t. is_some (number_in numbers t) ≡ true) here present in
      are text ∙ sym (position-push (reads text) names name ∙ some_kept (position (reads text) names) _ some))
  | inr other ↦ are text ∙ sym (position-push (reads text) names name ∙ unread (reads text) names name other)
]

map_push : {S T : Type 0} (f : S → T) (xs more : List S) (x : S) → more ≡ xs ++ x ∷ [] → map f more ≡ map f xs ++ f x ∷ []
map_push f xs more x e = ap (map f) e ∙ map-append f xs (x ∷ [])

-- the same where the names are lent
pub AreNumbered-new :
    {S : Type 0} (names more : List (Bor Name)) (name : Bor Name) (text : List ℕ) (many : ℕ) (old new : HashMap (Bor (List ℕ)) ℕ S) → AreNumbered (map (λ n. n.now) names) old →
    more ≡ names ++ name ∷ [] → text ≡ name.now.text → many ≡ length names → is_some (number_in old text) ≡ false →
    ((query : List ℕ) → number_in new query ≡ update bytes_eq (number_in old) text (Some many) query) → AreNumbered (map (λ n. n.now) more) new
AreNumbered-new names more name text many old new are pushed read count absent updated =
    let lent : Bor Name → Name = λ n. n.now in
    let len : many ≡ length (map lent names) = count ∙ sym (length-map names lent) in
    subst (λ ns. AreNumbered ns new) (sym (map_push lent names more name pushed))
    (one_more_number (map lent names) name.now old new are (subst (λ t. is_some (number_in old t) ≡ false) read absent)
    (λ query. updated query ∙ ap (λ (k : ℕ). update bytes_eq (number_in old) text (Some k) query) len ∙ ap (λ t. update bytes_eq (number_in old) t (Some (length (map lent names))) query) read))

pub AreNumbered-kept :
    {S : Type 0} (names more : List (Bor Name)) (name : Bor Name) (text : List ℕ) (numbers : HashMap (Bor (List ℕ)) ℕ S) → AreNumbered (map (λ n. n.now) names) numbers →
    more ≡ names ++ name ∷ [] → text ≡ name.now.text → is_some (number_in numbers text) ≡ true → AreNumbered (map (λ n. n.now) more) numbers
AreNumbered-kept names more name text numbers are pushed read present =
    let lent : Bor Name → Name = λ n. n.now in
    subst (λ ns. AreNumbered ns numbers) (sym (map_push lent names more name pushed))
    (number_kept (map lent names) name.now numbers are (subst (λ t. is_some (number_in numbers t) ≡ true) read present))

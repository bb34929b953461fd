-- Words and numbers between spaces: where they end is the bytes' own.
use Rattle.std.proofs.Common.{◌≡◌, ◌∙◌, ℕ, zero, suc, ◌<◌, ◌≤◌, ◌^◌, ◌+◌, ◌%◌, List, [], ◌∷◌, ◌++◌, length, refl, sym, ap, subst, arith, append_assoc, All, IfNone, Option, Some, None}
use Rattle.std.specs.Prelude.{Bool, true, ◌&&◌, codes, decimal, nat_le, nat_lt}
use Rattle.std.specs.List.{find}
use Rattle.std.specs.Str.{bytes_eq}
use Rattle.std.proofs.lemmas.Bool.{leb-true}
use Rattle.std.proofs.lemmas.Bool.Decides.{nat_tests}
use Rattle.std.proofs.lemmas.Fmt.{decimal_by_steps, decimal_injective, decimal_nonempty}
use Rattle.std.proofs.lemmas.List.Elements.{All-append, All-cons, All-head, All-nil, All-tail}
use Rattle.rf_tree.specs.Document.{AreObjects, spaced}
use Rattle.rf_tree.specs.Private.Fields.{EndsWord, IsNumberFirst, NoSpace, fields_text, tail_text}
use Rattle.rf_tree.specs.Private.Words.{tail_spelling, word_spelling}
use Rattle.rf_tree.specs.declared.fields.Fields.{Fields}
use Rattle.rf_tree.specs.declared.word.Tail.{Tail}
use Rattle.rf_tree.specs.declared.word.Tail.TheVariants.{First, Second, Source, Target}
use Rattle.rf_tree.specs.declared.word.Word.{Word}
use Rattle.rf_tree.specs.declared.word.Word.TheVariants.{Acyclic, Alone, Broken, Clash, ContainCount, Empty, Forced, Fresh, Full, Kind, MustContain, Need, NeedCount, NoClass, NoContainer, OneContainer, Ref, Room, ScopeBottom, ScopeIn, ScopeOut, ScopeTop, Src, Tgt, TypeLow, Under}

-- a fact that holds anyhow holds of a None
pub IfNone-from : {X : Type 0} (P : Type 0) (r : Option X) → P → IfNone r P
IfNone-from P None h = h
IfNone-from P (Some x) h = tt

pub IfNone-map : {X : Type 0} (P Q : Type 0) (r : Option X) → (P → Q) → IfNone r P → IfNone r Q
IfNone-map P Q None f h = f h
IfNone-map P Q (Some x) f h = tt

-- the word before a space or the end is one
word_stops : (x : ℕ) (xs s : List ℕ) → EndsWord s → s ≡ x ∷ xs → x ≡ 32
word_stops x xs [] ended e = let none : [] ≡ x ∷ xs = e in cc
word_stops x xs (y ∷ ys) ended e = let same : y ≡ x = cc in let space : y ≡ 32 = ended in cc

pub one_word : (a b r s : List ℕ) → NoSpace a → NoSpace b → EndsWord r → EndsWord s → a ++ r ≡ b ++ s → (a ≡ b) × (r ≡ s)
one_word [] [] r s na nb er es e = (refl, e)
one_word [] (y ∷ b) r s na nb er es e = absurd (All-head (λ x. x ≡ 32 → ⊥) y b nb (word_stops y (b ++ s) r er e))
one_word (x ∷ a) [] r s na nb er es e = absurd (All-head (λ x. x ≡ 32 → ⊥) x a na (word_stops x (a ++ r) s es (sym e)))
one_word (x ∷ a) (y ∷ b) r s na nb er es e =
    let tails : a ++ r ≡ b ++ s = cc in
    let ih = one_word a b r s (All-tail (λ x. x ≡ 32 → ⊥) x a na) (All-tail (λ x. x ≡ 32 → ⊥) y b nb) er es tails in
    let heads : x ≡ y = cc in
    let same : a ≡ b = ih.0 in
    (cc, ih.1)

-- a digit; the spelling of a number has digits alone
abbrev pub IsDigit : ℕ → Type 0
IsDigit b = (47 < b) × (b < 58)

digit_above : (d : ℕ) → d < 10 → IsDigit (48 + d)
digit_above d h = (omega arith, omega arith)

one_digit : (n : ℕ) → n < 10 → All IsDigit ((48 + n) ∷ [])
one_digit n h = All-cons IsDigit (48 + n) [] (digit_above n h) (All-nil IsDigit)

more_digits : (n : ℕ) (ds : List ℕ) → 10 ≤ n → All IsDigit ds → All IsDigit (ds ++ ((48 + n % 10) ∷ []))
more_digits n ds h all = All-append IsDigit ds ((48 + n % 10) ∷ []) all (one_digit (n % 10) (omega arith))

pub IsDigit-decimal : (n : ℕ) → n < 2 ^ 64 → All IsDigit (decimal n)
IsDigit-decimal n h = decimal_by_steps (λ n ds. All IsDigit ds) one_digit more_digits n h

pub NoSpace-decimal : (n : ℕ) → n < 2 ^ 64 → NoSpace (decimal n)
NoSpace-decimal n h k d at e = let digit = IsDigit-decimal n h k d at in omega (arith, digit.0, e)

-- after the numbers of a line a word ends
pub EndsWord-tail : (tail : Option Tail) → EndsWord (tail_text tail)
EndsWord-tail None = tt
EndsWord-tail (Some t) = refl

pub EndsWord-spaced : (ns rest : List ℕ) → EndsWord rest → EndsWord (spaced ns ++ rest)
EndsWord-spaced [] rest h = h
EndsWord-spaced (n ∷ ns) rest h = refl

-- a line with more numbers has one first
pub spaced_first :
    (n : ℕ) (ns rest : List ℕ) → n < 2 ^ 64 → EndsWord rest → IsNumberFirst (spaced (n ∷ ns) ++ rest) n (spaced ns ++ rest)
spaced_first n ns rest small h = record {
  small = small;
  ended = EndsWord-spaced ns rest h;
  joined = append_assoc (32 ∷ decimal n) (spaced ns) rest;
}

-- the first number is one
pub one_number : (bytes : List ℕ) (n m : ℕ) (r s : List ℕ) → IsNumberFirst bytes n r → IsNumberFirst bytes m s → (n ≡ m) × (r ≡ s)
one_number bytes n m r s a b =
    let both : 32 ∷ (decimal n ++ r) ≡ 32 ∷ (decimal m ++ s) = sym a.joined ∙ b.joined in
    let tails : decimal n ++ r ≡ decimal m ++ s = cc in
    let words = one_word (decimal n) (decimal m) r s (NoSpace-decimal n a.small) (NoSpace-decimal m b.small) a.ended b.ended tails in
    (decimal_injective n m a.small b.small words.0, words.1)

-- the word at the end of a line begins with a letter, so it is no number
abbrev pub BeginsWithLetter : List ℕ → Type 0
BeginsWithLetter [] = ⊥
BeginsWithLetter (b ∷ bs) = 57 < b

tail_letter : (t : Tail) → BeginsWithLetter (tail_spelling t)
tail_letter Target = omega arith
tail_letter Source = omega arith
tail_letter First = omega arith
tail_letter Second = omega arith

no_letter : (word ds rest : List ℕ) → BeginsWithLetter word → 0 < length ds → All IsDigit ds → word ≡ ds ++ rest → ⊥
no_letter word [] rest letter some all e = absurd (omega arith)
no_letter [] (d ∷ ds) rest letter some all e = letter
no_letter (b ∷ word) (d ∷ ds) rest letter some all e =
    let digit = All-head IsDigit d ds all in
    let same : b ≡ d = cc in
    let above : 57 < b = letter in
    omega (arith, digit.1)

pub tail_no_number : (tail : Option Tail) (n : ℕ) (rest : List ℕ) → IsNumberFirst (tail_text tail) n rest → ⊥
tail_no_number None n rest is = let none : [] ≡ 32 ∷ (decimal n ++ rest) = is.joined in cc
tail_no_number (Some t) n rest is =
    let both : 32 ∷ tail_spelling t ≡ 32 ∷ (decimal n ++ rest) = is.joined in
    let tails : tail_spelling t ≡ decimal n ++ rest = cc in
    no_letter (tail_spelling t) (decimal n) rest (tail_letter t) (decimal_nonempty n is.small) (IsDigit-decimal n is.small) tails

-- the numbers of a line and what follows them are one, where at most so many are read and no number follows
pub one_numbers :
    (most : ℕ) (ns ms rest : List ℕ) (tail : Option Tail) → AreObjects most ns → AreObjects most ms → EndsWord rest
    → (length ns < most → (n : ℕ) (after : List ℕ) → IsNumberFirst rest n after → ⊥)
    → spaced ns ++ rest ≡ spaced ms ++ tail_text tail → (ns ≡ ms) × (rest ≡ tail_text tail)
one_numbers most [] [] rest tail few less ended over e = (refl, e)
one_numbers most [] (m ∷ ms) rest tail few less ended over e =
    let first = spaced_first m ms (tail_text tail) (All-head (λ o. o < 2 ^ 64) m ms less.0) (EndsWord-tail tail) in
    absurd (over (omega (arith, less.1)) m (spaced ms ++ tail_text tail) (subst (λ bytes. IsNumberFirst bytes m (spaced ms ++ tail_text tail)) (sym e) first))
one_numbers most (n ∷ ns) [] rest tail few less ended over e =
    let first = spaced_first n ns rest (All-head (λ o. o < 2 ^ 64) n ns few.0) ended in
    absurd (tail_no_number tail n (spaced ns ++ rest) (subst (λ bytes. IsNumberFirst bytes n (spaced ns ++ rest)) e first))
one_numbers zero (n ∷ ns) (m ∷ ms) rest tail few less ended over e = absurd (omega (arith, few.1))
one_numbers (suc most) (n ∷ ns) (m ∷ ms) rest tail few less ended over e =
    let first = spaced_first n ns rest (All-head (λ o. o < 2 ^ 64) n ns few.0) ended in
    let other = spaced_first m ms (tail_text tail) (All-head (λ o. o < 2 ^ 64) m ms less.0) (EndsWord-tail tail) in
    let one = one_number (spaced (n ∷ ns) ++ rest) n m (spaced ns ++ rest) (spaced ms ++ tail_text tail) first
    (subst (λ bytes. IsNumberFirst bytes m (spaced ms ++ tail_text tail)) (sym e) other) in
    let ih = one_numbers most ns ms rest tail (All-tail (λ o. o < 2 ^ 64) n ns few.0, omega (arith, few.1))
    (All-tail (λ o. o < 2 ^ 64) m ms less.0, omega (arith, less.1)) ended (λ h. over (omega arith)) one.1 in
    let heads : n ≡ m = one.0 in
    let same : ns ≡ ms = ih.0 in
    (cc, ih.1)

-- the words of lines have no space and no line feed, and at most thirteen bytes
abbrev pub is_plain : List ℕ → Bool
is_plain [] = true
is_plain (b ∷ bs) = nat_lt 32 b && is_plain bs

All-plain : (bytes : List ℕ) → is_plain bytes ≡ true → All (λ b. 32 < b) bytes
All-plain [] h = All-nil (λ b. 32 < b)
All-plain (b ∷ bs) h = All-cons (λ b. 32 < b) b bs (grind (arith, nat_tests)) (All-plain bs (grind (arith, nat_tests)))

word_plain : (word : Word) → (is_plain (word_spelling word) ≡ true) × (nat_le (length (word_spelling word)) 13 ≡ true)
word_plain Empty = (refl, refl)
word_plain NoClass = (refl, refl)
word_plain Src = (refl, refl)
word_plain Tgt = (refl, refl)
word_plain Clash = (refl, refl)
word_plain Full = (refl, refl)
word_plain Room = (refl, refl)
word_plain Need = (refl, refl)
word_plain NeedCount = (refl, refl)
word_plain TypeLow = (refl, refl)
word_plain OneContainer = (refl, refl)
word_plain Alone = (refl, refl)
word_plain MustContain = (refl, refl)
word_plain ContainCount = (refl, refl)
word_plain NoContainer = (refl, refl)
word_plain Acyclic = (refl, refl)
word_plain Under = (refl, refl)
word_plain ScopeTop = (refl, refl)
word_plain ScopeBottom = (refl, refl)
word_plain ScopeOut = (refl, refl)
word_plain ScopeIn = (refl, refl)
word_plain Broken = (refl, refl)
word_plain Forced = (refl, refl)
word_plain Fresh = (refl, refl)
word_plain Kind = (refl, refl)
word_plain Ref = (refl, refl)

pub above_space : (word : Word) → All (λ b. 32 < b) (word_spelling word)
above_space word = All-plain (word_spelling word) (word_plain word).0

pub NoSpace-word : (word : Word) → NoSpace (word_spelling word)
NoSpace-word word k d at e = let above = above_space word k d at in omega (arith, above, e)

-- where the word of a line ends is the line's own
pub fields_split :
    (start after : List ℕ) (f : Fields) → NoSpace start → EndsWord after → start ++ after ≡ fields_text f
    → (start ≡ word_spelling f.word) × (after ≡ spaced f.numbers ++ tail_text f.tail)
fields_split start after f plain ended e =
    one_word start (word_spelling f.word) after (spaced f.numbers ++ tail_text f.tail) plain (NoSpace-word f.word) ended
    (EndsWord-spaced f.numbers (tail_text f.tail) (EndsWord-tail f.tail)) e

pub short_word : (word : Word) → length (word_spelling word) ≤ 13
short_word word = leb-true (length (word_spelling word)) 13 (word_plain word).1

-- words that are written alike are the same, and so are words at the end
abbrev pub all_words : List Word
all_words =
    Empty ∷ NoClass ∷ Src ∷ Tgt ∷ Clash ∷ Full ∷ Room ∷ Need ∷ NeedCount ∷ TypeLow ∷ OneContainer ∷ Alone ∷ MustContain ∷
    ContainCount ∷ NoContainer ∷ Acyclic ∷ Under ∷ ScopeTop ∷ ScopeBottom ∷ ScopeOut ∷ ScopeIn ∷ Broken ∷ Forced ∷ Fresh ∷ Kind ∷ Ref ∷ []

abbrev pub word_read : List ℕ → Option Word
word_read bytes = find (λ word. bytes_eq (word_spelling word) bytes) all_words

word_back : (word : Word) → word_read (word_spelling word) ≡ Some word
word_back Empty = refl
word_back NoClass = refl
word_back Src = refl
word_back Tgt = refl
word_back Clash = refl
word_back Full = refl
word_back Room = refl
word_back Need = refl
word_back NeedCount = refl
word_back TypeLow = refl
word_back OneContainer = refl
word_back Alone = refl
word_back MustContain = refl
word_back ContainCount = refl
word_back NoContainer = refl
word_back Acyclic = refl
word_back Under = refl
word_back ScopeTop = refl
word_back ScopeBottom = refl
word_back ScopeOut = refl
word_back ScopeIn = refl
word_back Broken = refl
word_back Forced = refl
word_back Fresh = refl
word_back Kind = refl
word_back Ref = refl

pub one_spelling : (a b : Word) → word_spelling a ≡ word_spelling b → a ≡ b
one_spelling a b e = let both : Some a ≡ Some b = sym (word_back a) ∙ ap word_read e ∙ word_back b in cc

abbrev pub tail_read : List ℕ → Option (Option Tail)
tail_read bytes = find (λ tail. bytes_eq (tail_text tail) bytes) (None ∷ Some Target ∷ Some Source ∷ Some First ∷ Some Second ∷ [])

tail_back : (tail : Option Tail) → tail_read (tail_text tail) ≡ Some tail
tail_back None = refl
tail_back (Some Target) = refl
tail_back (Some Source) = refl
tail_back (Some First) = refl
tail_back (Some Second) = refl

pub one_tail : (a b : Option Tail) → tail_text a ≡ tail_text b → a ≡ b
one_tail a b e = let both : Some a ≡ Some b = sym (tail_back a) ∙ ap tail_read e ∙ tail_back b in cc

-- so fields that are written alike are the same
pub one_fields : (f g : Fields) → AreObjects 11 f.numbers → AreObjects 11 g.numbers → fields_text f ≡ fields_text g → f ≡ g
one_fields f g few less e =
    let parts = fields_split (word_spelling f.word) (spaced f.numbers ++ tail_text f.tail) g (NoSpace-word f.word)
    (EndsWord-spaced f.numbers (tail_text f.tail) (EndsWord-tail f.tail)) e in
    let numbers = one_numbers 11 f.numbers g.numbers (tail_text f.tail) g.tail few less (EndsWord-tail f.tail)
    (λ _ n after. tail_no_number f.tail n after) parts.1 in
    let word : f.word ≡ g.word = one_spelling f.word g.word parts.0 in
    let tail : f.tail ≡ g.tail = one_tail f.tail g.tail numbers.1 in
    λ i. record { word = word i; numbers = numbers.0 i; tail = tail i }

tail_plain : (t : Tail) → (is_plain (tail_spelling t) ≡ true) × (nat_le (length (tail_spelling t)) 6 ≡ true)
tail_plain Target = (refl, refl)
tail_plain Source = (refl, refl)
tail_plain First = (refl, refl)
tail_plain Second = (refl, refl)

pub above_tail : (t : Tail) → All (λ b. 32 < b) (tail_spelling t)
above_tail t = All-plain (tail_spelling t) (tail_plain t).0

pub short_tail : (tail : Option Tail) → length (tail_text tail) ≤ 7
short_tail None = omega arith
short_tail (Some t) = let short = leb-true (length (tail_spelling t)) 6 (tail_plain t).1 in omega (arith, short)

-- no line begins with the word that ends a document
not_word : (word : Word) → codes "end" ≡ word_spelling word → ⊥
not_word word e = let both : None ≡ Some word = ap word_read e ∙ word_back word in cc

pub not_end : (f : Fields) → fields_text f ≡ codes "end" → ⊥
not_end f e =
    let plain : NoSpace (codes "end") = λ k d h same. let above = All-plain (codes "end") refl k d h in omega (arith, above, same) in
    not_word f.word (fields_split (codes "end") [] f plain tt (sym e)).0

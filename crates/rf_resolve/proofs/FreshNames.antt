-- Names that differ from each other, and from those before them.
use Rattle.std.proofs.Common.{◌≡◌, ◌≢◌, ℕ, false, List, [], ◌∷◌, ◌++◌, get_or, All, AllPairs, sym, inl, inr}
use Rattle.std.specs.Str.{bytes_eq}
use Rattle.std.proofs.lemmas.Bool.{both_ways, cases_Bool, or_from, or_left, or_parts}
use Rattle.std.proofs.lemmas.List.Elements.{All-cons, All-nil}
use Rattle.std.proofs.lemmas.Slice.Eq.{bytes_eq-Decides}
use Rattle.rf_syntax.specs.declared.name.Name.{Name}
use Rattle.rf_names.specs.LookUp.{first_of_each}
use Rattle.rf_names.specs.Texts.{is_text_of}
use Rattle.rf_names.specs.Offsets.{offset_if}
use Rattle.rf_name_rules.specs.NameOffsets.{repeated}
use Rattle.rf_resolve.proofs.ClearOffsets.{nil-parts, offset_if-nil}
use Rattle.rf_resolve.proofs.PairFacts.{AllPairs-cons, AllPairs-nil}

-- none of these texts is that of a name, and no name has that of one before it
abbrev pub AreFresh : List (List ℕ) → List Name → Type 0
AreFresh seen [] = Unit {0}
AreFresh seen (n ∷ ns) = (is_text_of seen n ≡ false) × AreFresh (n.text ∷ seen) ns

pub AreFresh-from_repeated : (seen : List (List ℕ)) (ns : List Name) → repeated seen ns ≡ [] → AreFresh seen ns
AreFresh-from_repeated seen [] e = tt
AreFresh-from_repeated seen (n ∷ ns) e =
    let parts = nil-parts (offset_if (is_text_of seen n) n.at) (repeated (n.text ∷ seen) ns) e in
    (offset_if-nil (is_text_of seen n) n.at parts.0, AreFresh-from_repeated (n.text ∷ seen) ns parts.1)

-- fewer texts before them
abbrev AreFewer : List (List ℕ) → List (List ℕ) → Type 0
AreFewer few many = (n : Name) → is_text_of many n ≡ false → is_text_of few n ≡ false

AreFewer-cons : (few many : List (List ℕ)) (text : List ℕ) → AreFewer few many → AreFewer (text ∷ few) (text ∷ many)
AreFewer-cons few many text h n e =
    let parts = or_parts (bytes_eq n.text text) (is_text_of many n) e in
    or_from (bytes_eq n.text text) (is_text_of few n) parts.0 (h n parts.1)

AreFresh-fewer : (few many : List (List ℕ)) (ns : List Name) → AreFewer few many → AreFresh many ns → AreFresh few ns
AreFresh-fewer few many [] h fresh = tt
AreFresh-fewer few many (n ∷ ns) h fresh =
    (h n fresh.0, AreFresh-fewer (n.text ∷ few) (n.text ∷ many) ns (AreFewer-cons few many n.text h) fresh.1)

-- names after others
pub AreFresh-tail : (seen : List (List ℕ)) (n : Name) (ns : List Name) → AreFresh seen (n ∷ ns) → AreFresh seen ns
AreFresh-tail seen n ns fresh =
    AreFresh-fewer seen (n.text ∷ seen) ns (λ m e. (or_parts (bytes_eq m.text n.text) (is_text_of seen m) e).1) fresh.1

pub AreFresh-behind : (seen : List (List ℕ)) (ms ns : List Name) → AreFresh seen (ms ++ ns) → AreFresh seen ns
AreFresh-behind seen [] ns fresh = fresh
AreFresh-behind seen (m ∷ ms) ns fresh = AreFresh-behind seen ms ns (AreFresh-tail seen m (ms ++ ns) fresh)

-- the first name of each text
pub AreFresh-first_of_each : (seen : List (List ℕ)) (ns : List Name) → AreFresh seen (first_of_each seen ns)
AreFresh-first_of_each seen [] = tt
AreFresh-first_of_each seen (n ∷ ns) = elim (cases_Bool (is_text_of seen n)) [
  | inl e ↦ rw e (AreFresh-first_of_each seen ns)
  | inr e ↦ rw e (e, AreFresh-first_of_each (n.text ∷ seen) ns)
]

-- none of them has one of the texts
pub AreFresh-none : (seen : List (List ℕ)) (ns : List Name) → AreFresh seen ns → All (λ n. is_text_of seen n ≡ false) ns
AreFresh-none seen [] fresh = All-nil (λ (n : Name). is_text_of seen n ≡ false)
AreFresh-none seen (n ∷ ns) fresh =
    All-cons (λ m. is_text_of seen m ≡ false) n ns fresh.0 (AreFresh-none seen ns (AreFresh-tail seen n ns fresh))

-- no two of them are the same
pub AreFresh-apart : (seen : List (List ℕ)) (ns : List Name) → AreFresh seen ns → AllPairs (λ m n. m.text ≢ n.text) ns
AreFresh-apart seen [] fresh = AllPairs-nil (λ (m n : Name). m.text ≢ n.text)
AreFresh-apart seen (n ∷ ns) fresh = AllPairs-cons (λ m o. m.text ≢ o.text) n ns
    (λ k d l same. both_ways (is_text_of (n.text ∷ seen) (get_or ns k d)) (AreFresh-none (n.text ∷ seen) ns fresh.1 k d l)
    (or_left (bytes_eq (get_or ns k d).text n.text) (is_text_of seen (get_or ns k d)) ((bytes_eq-Decides (get_or ns k d).text n.text).1 (sym same))))
    (AreFresh-apart (n.text ∷ seen) ns fresh.1)

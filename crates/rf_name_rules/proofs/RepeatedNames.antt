-- The set of the texts of names so far, and the names that repeat one.
use Rattle.std.proofs.Common.{◌≡◌, ◌<◌, ◌+◌, ◌∙◌, length, map, take, get_or, ℕ, Bool, true, false, List, [], ◌∷◌, ◌++◌, ◌||◌, Option, refl, sym, ap, inl, inr, not}
use Rattle.std.specs.Prelude.{if◌then◌else◌}
use Rattle.std.specs.BTreeSet.{BTreeSet, contains, Updates}
use Rattle.std.specs.Cmp.Lexicographic.{slice_cmp}
use Rattle.std.specs.declared.cmp.Ordering.{Ordering}
use Rattle.std.specs.List.{list_any}
use Rattle.std.specs.Ordering.{is_eq, nat_cmp}
use Rattle.std.specs.Str.{bytes_eq}
use Rattle.std.proofs.lemmas.Bool.{cases_Bool, both_ways}
use Rattle.std.proofs.lemmas.List.{append-nil, append_assoc, map-append, take_more}
use Rattle.std.proofs.lemmas.List.Folds.{list_any-append, list_any_at}
use Rattle.std.proofs.lemmas.Map.Text.{is_eq-slice_cmp}
use Rattle.std.proofs.lemmas.Slice.Eq.{bytes_eq-Decides}
use denote.Ref.{Bor}
use Rattle.rf_syntax.specs.declared.name.Name.{Name}
use Rattle.rf_names.specs.Offsets.{least_of, lesser, offset_if}
use Rattle.rf_names.specs.Texts.{is_text_of}
use Rattle.rf_name_rules.specs.NameOffsets.{repeated}
use Rattle.rf_names.proofs.LeastOffsets.{least_of_append}

abbrev pub text_cmp : Bor (List ℕ) → Bor (List ℕ) → Ordering
text_cmp x y = slice_cmp nat_cmp x.now y.now

-- the set has the texts of these names
abbrev pub Marks : List Name → BTreeSet (Bor (List ℕ)) → Type 0
Marks names seen = (q : Bor (List ℕ)) → contains text_cmp seen q ≡ list_any (λ name. bytes_eq q.now name.text) names

-- the texts after these names
abbrev texts_after : List (List ℕ) → List Name → List (List ℕ)
texts_after seen [] = seen
texts_after seen (n ∷ ns) = texts_after (n.text ∷ seen) ns

repeated_snoc : (seen : List (List ℕ)) (names : List Name) (name : Name) → repeated seen (names ++ name ∷ []) ≡ repeated seen names ++ offset_if (is_text_of (texts_after seen names) name) name.at
repeated_snoc seen [] name = append-nil (offset_if (is_text_of seen name) name.at)
repeated_snoc seen (n ∷ ns) name =
    ap (λ ats. offset_if (is_text_of seen n) n.at ++ ats) (repeated_snoc (n.text ∷ seen) ns name)
    ∙ sym (append_assoc (offset_if (is_text_of seen n) n.at) (repeated (n.text ∷ seen) ns) (offset_if (is_text_of (texts_after (n.text ∷ seen) ns) name) name.at))

turned : (a b c : Bool) → ((a || b) || c) ≡ (b || (a || c))
turned true true c = refl
turned true false c = refl
turned false true c = refl
turned false false c = refl

among_after : (seen : List (List ℕ)) (names : List Name) (name : Name) → is_text_of (texts_after seen names) name ≡ (is_text_of seen name || list_any (λ n. bytes_eq name.text n.text) names)
among_after seen [] name = sym (or_none (is_text_of seen name))
  where
    or_none : (a : Bool) → (a || false) ≡ a
    or_none true = refl
    or_none false = refl
among_after seen (n ∷ ns) name =
    among_after (n.text ∷ seen) ns name
    ∙ turned (bytes_eq name.text n.text) (is_text_of seen name) (list_any (λ m. bytes_eq name.text m.text) ns)

turned_eq : (a b : List ℕ) → bytes_eq a b ≡ bytes_eq b a
turned_eq a b = elim (cases_Bool (bytes_eq a b)) [
  | inl same ↦ same ∙ sym ((bytes_eq-Decides b a).1 (sym ((bytes_eq-Decides a b).0 same)))
  | inr other ↦ elim (cases_Bool (bytes_eq b a)) [
    | inl back ↦ absurd (both_ways _ other ((bytes_eq-Decides a b).1 (sym ((bytes_eq-Decides b a).0 back))))
    | inr too ↦ other ∙ sym too
  ]
]

or_if : (a b : Bool) → (if a then true else b) ≡ (b || (a || false))
or_if true true = refl
or_if true false = refl
or_if false true = refl
or_if false false = refl

pub no_marks : (seen : BTreeSet (Bor (List ℕ))) → seen.keys ≡ [] → Marks [] seen
no_marks seen empty q = rw empty refl

pub one_more_mark :
    (names : List Name) (name : Name) (old new : BTreeSet (Bor (List ℕ))) (k : Bor (List ℕ)) → k.now ≡ name.text → Marks names old → Updates text_cmp old new k true → Marks (names ++ name ∷ []) new
one_more_mark names name old new k reads marks updates q =
    let e : is_eq (slice_cmp nat_cmp k.now q.now) ≡ bytes_eq q.now name.text = is_eq-slice_cmp k.now q.now ∙ turned_eq k.now q.now ∙ ap (bytes_eq q.now) reads in
    updates.0 q
    ∙ ap (λ b. if b then true else contains text_cmp old q) e
    ∙ ap (λ b. if bytes_eq q.now name.text then true else b) (marks q)
    ∙ or_if (bytes_eq q.now name.text) (list_any (λ n. bytes_eq q.now n.text) names)
    ∙ sym (list_any-append (λ n. bytes_eq q.now n.text) names (name ∷ []))

not_not : (a : Bool) → not (not a) ≡ a
not_not true = refl
not_not false = refl

pub one_more_offset :
    (reserved : List (List ℕ)) (names : List Name) (name : Name) (seen : BTreeSet (Bor (List ℕ))) (k : Bor (List ℕ)) (broken is_new : Bool) (least part next : Option ℕ) →
    k.now ≡ name.text → Marks names seen → is_new ≡ not (contains text_cmp seen k) → broken ≡ (is_text_of reserved name || not is_new) →
    least ≡ least_of (repeated reserved names) → part ≡ least_of (offset_if broken name.at) → next ≡ lesser least part → next ≡ least_of (repeated reserved (names ++ name ∷ []))
one_more_offset reserved names name seen k broken is_new least part next reads marks new is before here joined =
    let there : not is_new ≡ list_any (λ n. bytes_eq name.text n.text) names =
    ap not new ∙ not_not (contains text_cmp seen k) ∙ marks k ∙ ap (λ text. list_any (λ n. bytes_eq text n.text) names) reads in
    let test : broken ≡ is_text_of (texts_after reserved names) name = is ∙ ap (λ b. is_text_of reserved name || b) there ∙ sym (among_after reserved names name) in
    joined ∙ ap (λ a. lesser a part) before ∙ ap (lesser (least_of (repeated reserved names))) (here ∙ ap (λ b. least_of (offset_if b name.at)) test)
    ∙ sym (least_of_append (repeated reserved names) (offset_if (is_text_of (texts_after reserved names) name) name.at))
    ∙ ap least_of (sym (repeated_snoc reserved names name))

-- one more of lent names
pub names_more : (xs : List (Bor Name)) (i : ℕ) (x : Bor Name) → i < length xs → x ≡ get_or xs i x → map (λ (n : Bor Name). n.now) (take (i + 1) xs) ≡ map (λ (n : Bor Name). n.now) (take i xs) ++ x.now ∷ []
names_more xs i x below is =
    ap (map (λ (n : Bor Name). n.now)) (take_more xs i x below)
    ∙ map-append (λ (n : Bor Name). n.now) (take i xs) (get_or xs i x ∷ [])
    ∙ ap (λ (y : Bor Name). map (λ (n : Bor Name). n.now) (take i xs) ++ y.now ∷ []) (sym is)

any_lent_text : (p : List ℕ → Bool) (xs : List (Bor (List ℕ))) → list_any p (map (λ (t : Bor (List ℕ)). t.now) xs) ≡ list_any (λ (t : Bor (List ℕ)). p t.now) xs
any_lent_text p [] = refl
any_lent_text p (x ∷ xs) = ap (λ b. p x.now || b) (any_lent_text p xs)

any_text_at : (text : List ℕ) (reserved : List (Bor (List ℕ))) (i : ℕ) (d : Bor (List ℕ)) → i < length reserved → bytes_eq text (get_or reserved i d).now ≡ true → list_any (λ t. bytes_eq text t) (map (λ (t : Bor (List ℕ)). t.now) reserved) ≡ true
any_text_at text reserved i d below holds =
    any_lent_text (λ t. bytes_eq text t) reserved ∙ list_any_at (λ (t : Bor (List ℕ)). bytes_eq text t.now) reserved i d below holds

pub any_text_here :
    (name text : List ℕ) (same : Bool) (reserved : List (Bor (List ℕ))) (i : ℕ) (d : Bor (List ℕ)) → i < length reserved → text ≡ name → same ≡ bytes_eq text (get_or reserved i d).now → same ≡ true →
    list_any (λ t. bytes_eq name t) (map (λ (t : Bor (List ℕ)). t.now) reserved) ≡ true
any_text_here name text same reserved i d below reads is holds =
    any_text_at name reserved i d below (ap (λ n. bytes_eq n (get_or reserved i d).now) (sym reads) ∙ sym is ∙ holds)

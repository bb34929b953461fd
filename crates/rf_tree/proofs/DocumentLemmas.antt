-- What was read of a document, and where it stops, is the bytes' own.
use Rattle.std.proofs.Common.{◌≡◌, ◌≢◌, ◌∙◌, ℕ, suc, ◌≤◌, ◌+◌, ◌-◌, true, List, [], ◌∷◌, ◌++◌, length, get_or, map, take, drop, refl, sym, ap, subst, arith, append_assoc, All, inl, inr, length-append}
use Rattle.std.specs.Prelude.{◌⊎◌, Bool, ◌&&◌, codes, nat_lt, option_to_list}
use Rattle.std.proofs.Math.Seq.{take-append-add}
use Rattle.std.proofs.lemmas.Bool.{and_parts, cases_lt, ltb-true}
use Rattle.std.proofs.lemmas.List.{append-nil, length-take-le, map-append, take-append-drop}
use Rattle.std.proofs.lemmas.List.Elements.{All-append, All-cons, All-head, All-nil, All-tail}
use Rattle.rf_text.specs.Line.{NoBreak, joined_lines}
use Rattle.rf_text.proofs.LineLemmas.{NoBreak-break, joined_lines-append, one_line}
use Rattle.rf_tree.specs.Document.{IsTreeDocument, IsWritable, document_lines, head, line_text, tree_document}
use Rattle.rf_tree.specs.Private.Entries.{IsEntry, line_in, place_after, place_of}
use Rattle.rf_tree.specs.Reading.{BeginsTree, IsBad, IsBadTreeLine, IsPossible, IsReadTo, IsRefused, IsUnended, Stage, after_end, inside, line_limit, lines_in, outside, room_at, texts_in}
use Rattle.rf_tree.specs.declared.entry.Entry.{Entry}
use Rattle.rf_tree.specs.declared.entry.Entry.TheVariants as entry
use Rattle.rf_tree.specs.declared.format.Format.{Format}
use Rattle.rf_tree.specs.declared.format.Format.TheVariants.{One, Two}
use Rattle.rf_tree.specs.declared.line.Line.{Line}
use Rattle.rf_tree.proofs.TextLemmas.{NoBreak-line, length-line, line_no_end, one_text}

-- a test of each element of a list holds of those of a prefix
All-prefix : {X : Type 0} (P : X → Type 0) (xs ys : List X) → All P (xs ++ ys) → All P xs
All-prefix P [] ys all = All-nil P
All-prefix P (x ∷ xs) ys all = All-cons P x xs (All-head P x (xs ++ ys) all) (All-prefix P xs ys (All-tail P x (xs ++ ys) all))

-- the lines of documents have no line feed
abbrev pub has_no_break : List ℕ → Bool
has_no_break [] = true
has_no_break (b ∷ bs) = nat_lt 10 b && has_no_break bs

NoBreak-test : (bytes : List ℕ) → has_no_break bytes ≡ true → NoBreak bytes
NoBreak-test [] h = All-nil (λ b. b ≢ 10)
NoBreak-test (b ∷ bs) h =
    let parts = and_parts (nat_lt 10 b) (has_no_break bs) h in
    let above = ltb-true 10 b parts.0 in
    All-cons (λ b. b ≢ 10) b bs (λ e. omega (arith, above, e)) (NoBreak-test bs parts.1)

NoBreak-head : (format : Format) → NoBreak (head format)
NoBreak-head One = NoBreak-test (head One) refl
NoBreak-head Two = NoBreak-test (head Two) refl

NoBreak-end : NoBreak (codes "end")
NoBreak-end = NoBreak-test (codes "end") refl

NoBreak-lines : (format : Format) (lines : List Line) → All (IsWritable format) lines → All NoBreak (map line_text lines)
NoBreak-lines format [] all = All-nil NoBreak
NoBreak-lines format (line ∷ lines) all =
    All-cons NoBreak (line_text line) (map line_text lines) (NoBreak-line format line (All-head (IsWritable format) line lines all))
    (NoBreak-lines format lines (All-tail (IsWritable format) line lines all))

NoBreak-document : (format : Format) (lines : List Line) → All (IsWritable format) lines → All NoBreak (document_lines format lines)
NoBreak-document format lines all =
    All-cons NoBreak (head format) (map line_text lines ++ codes "end" ∷ []) (NoBreak-head format)
    (All-append NoBreak (map line_text lines) (codes "end" ∷ []) (NoBreak-lines format lines all) (All-cons NoBreak (codes "end") [] NoBreak-end (All-nil NoBreak)))

pub NoBreak-texts : (stage : Stage) → IsPossible stage → All NoBreak (texts_in stage)
NoBreak-texts outside possible = All-nil NoBreak
NoBreak-texts (inside format lines) possible = All-cons NoBreak (head format) (map line_text lines) (NoBreak-head format) (NoBreak-lines format lines possible)
NoBreak-texts (after_end format lines) possible = NoBreak-document format lines possible

-- of two lists of lines with which bytes begin the longer one begins with the other
pub common :
    (xs ys : List (List ℕ)) (r s : List ℕ) → All NoBreak xs → All NoBreak ys → length xs ≤ length ys → joined_lines xs ++ r ≡ joined_lines ys ++ s
    → (more : List (List ℕ)) × (ys ≡ xs ++ more) × (r ≡ joined_lines more ++ s)
common [] ys r s nx ny h e = (ys, refl, e)
common (x ∷ xs) [] r s nx ny h e = absurd (omega arith)
common (x ∷ xs) (y ∷ ys) r s nx ny h e =
    let both : x ++ 10 ∷ (joined_lines xs ++ r) ≡ y ++ 10 ∷ (joined_lines ys ++ s) =
    sym (append_assoc x (10 ∷ joined_lines xs) r) ∙ e ∙ append_assoc y (10 ∷ joined_lines ys) s in
    let one = one_line x y (joined_lines xs ++ r) (joined_lines ys ++ s) (All-head NoBreak x xs nx) (All-head NoBreak y ys ny) both in
    let ih = common xs ys r s (All-tail NoBreak x xs nx) (All-tail NoBreak y ys ny) (omega arith) one.1 in
    let same : x ≡ y = one.0 in
    let rest : ys ≡ xs ++ ih.0 = ih.1 in
    (ih.0, cc, ih.2)

-- lines before the end of a document are those of one list
ended_lines :
    (format : Format) (a b : List Line) (xs ys : List (List ℕ)) → All (IsWritable format) a → All (IsWritable format) b
    → map line_text a ++ codes "end" ∷ xs ≡ map line_text b ++ codes "end" ∷ ys → (a ≡ b) × (xs ≡ ys)
ended_lines format [] [] xs ys wa wb e = (refl, cc)
ended_lines format [] (m ∷ b) xs ys wa wb e =
    let same : codes "end" ≡ line_text m = cc in
    absurd (line_no_end format m (All-head (IsWritable format) m b wb) (sym same))
ended_lines format (l ∷ a) [] xs ys wa wb e =
    let same : line_text l ≡ codes "end" = cc in
    absurd (line_no_end format l (All-head (IsWritable format) l a wa) same)
ended_lines format (l ∷ a) (m ∷ b) xs ys wa wb e =
    let texts : line_text l ≡ line_text m = cc in
    let tails : map line_text a ++ codes "end" ∷ xs ≡ map line_text b ++ codes "end" ∷ ys = cc in
    let same = one_text format l m (All-head (IsWritable format) l a wa) (All-head (IsWritable format) m b wb) texts in
    let ih = ended_lines format a b xs ys (All-tail (IsWritable format) l a wa) (All-tail (IsWritable format) m b wb) tails in
    let rest : a ≡ b = ih.0 in
    (cc, ih.1)

pub one_head : (f g : Format) → head f ≡ head g → f ≡ g
one_head One One e = refl
one_head One Two e = let digits : ◌≡◌ {A = ℕ} 49 50 = ap (λ bytes. get_or bytes 5 0) e in absurd (omega arith)
one_head Two One e = let digits : ◌≡◌ {A = ℕ} 50 49 = ap (λ bytes. get_or bytes 5 0) e in absurd (omega arith)
one_head Two Two e = refl

-- the end is none of the lines before it
inside_ended :
    (f g : Format) (l m : List Line) (more : List (List ℕ)) → All (IsWritable f) l → All (IsWritable g) m
    → head f ∷ map line_text l ≡ document_lines g m ++ more → ⊥
inside_ended f g l m more wl wm e =
    let heads : head f ≡ head g = cc in
    let tails : map line_text l ≡ (map line_text m ++ codes "end" ∷ []) ++ more = cc in
    let format : f ≡ g = one_head f g heads in
    let ended : map line_text l ++ codes "end" ∷ [] ≡ map line_text m ++ codes "end" ∷ (more ++ codes "end" ∷ []) =
    ap (λ x. x ++ codes "end" ∷ []) (tails ∙ append_assoc (map line_text m) (codes "end" ∷ []) more)
    ∙ append_assoc (map line_text m) (codes "end" ∷ more) (codes "end" ∷ []) in
    let none = (ended_lines f l m [] (more ++ codes "end" ∷ []) wl (subst (λ x. All (IsWritable x) m) (sym format) wm) ended).1 in
    omega (arith, ap length none, length-append more (codes "end" ∷ []))

-- what was read is known by its lines
one_stage_of : (a b : Stage) → IsPossible a → IsPossible b → texts_in a ≡ texts_in b → a ≡ b
one_stage_of outside outside pa pb e = refl
one_stage_of outside (inside g m) pa pb e = let none : [] ≡ head g ∷ map line_text m = e in cc
one_stage_of outside (after_end g m) pa pb e = let none : [] ≡ document_lines g m = e in cc
one_stage_of (inside f l) outside pa pb e = let none : head f ∷ map line_text l ≡ [] = e in cc
one_stage_of (after_end f l) outside pa pb e = let none : document_lines f l ≡ [] = e in cc
one_stage_of (inside f l) (inside g m) pa pb e =
    let whole : head f ∷ map line_text l ≡ head g ∷ map line_text m = e in
    let heads : head f ≡ head g = cc in
    let tails : map line_text l ≡ map line_text m = cc in
    let format : f ≡ g = one_head f g heads in
    let lines : l ≡ m = (ended_lines f l m [] [] pa (subst (λ x. All (IsWritable x) m) (sym format) pb) (ap (λ x. x ++ codes "end" ∷ []) tails)).0 in
    cc
one_stage_of (after_end f l) (after_end g m) pa pb e =
    let whole : head f ∷ (map line_text l ++ codes "end" ∷ []) ≡ head g ∷ (map line_text m ++ codes "end" ∷ []) = e in
    let heads : head f ≡ head g = cc in
    let tails : map line_text l ++ codes "end" ∷ [] ≡ map line_text m ++ codes "end" ∷ [] = cc in
    let format : f ≡ g = one_head f g heads in
    let lines : l ≡ m = (ended_lines f l m [] [] pa (subst (λ x. All (IsWritable x) m) (sym format) pb) tails).0 in
    cc
one_stage_of (inside f l) (after_end g m) pa pb e = absurd (inside_ended f g l m [] pa pb (e ∙ sym (append-nil (document_lines g m))))
one_stage_of (after_end f l) (inside g m) pa pb e = absurd (inside_ended g f m l [] pb pa (sym e ∙ sym (append-nil (document_lines f l))))

-- the next line of a document after what was read says something that may stand there
abbrev pub SomeEntry : Stage → List ℕ → Type 0
SomeEntry stage text = (e : Entry) × IsEntry (place_of stage) text e

next_inside :
    (format : Format) (lines all : List Line) (text : List ℕ) (more : List (List ℕ)) → All (IsWritable format) all
    → map line_text all ++ codes "end" ∷ [] ≡ map line_text lines ++ text ∷ more → SomeEntry (inside format lines) text
next_inside format [] [] text more writable e = (entry.End, let same : text ≡ codes "end" = cc in same)
next_inside format [] (m ∷ all) text more writable e =
    (entry.Line m, (All-head (IsWritable format) m all writable, let same : text ≡ line_text m = cc in same))
next_inside format (l ∷ lines) [] text more writable e =
    let tails : [] ≡ map line_text lines ++ text ∷ more = cc in
    absurd (omega (arith, ap length tails, length-append (map line_text lines) (text ∷ more)))
next_inside format (l ∷ lines) (m ∷ all) text more writable e =
    let tails : map line_text all ++ codes "end" ∷ [] ≡ map line_text lines ++ text ∷ more = cc in
    next_inside format lines all text more (All-tail (IsWritable format) m all writable) tails

pub next_entry :
    (stage : Stage) (text : List ℕ) (format : Format) (lines : List Line) (more : List (List ℕ)) → IsPossible stage → All (IsWritable format) lines
    → document_lines format lines ≡ texts_in stage ++ text ∷ more → SomeEntry stage text
next_entry outside text format lines more possible writable e = (entry.Head format, let same : text ≡ head format = cc in same)
next_entry (inside f l) text format lines more possible writable e =
    let heads : head format ≡ head f = cc in
    let tails : map line_text lines ++ codes "end" ∷ [] ≡ map line_text l ++ text ∷ more = cc in
    next_inside f l lines text more (subst (λ x. All (IsWritable x) lines) (one_head format f heads) writable) tails
next_entry (after_end f l) text format lines more possible writable e =
    let heads : head format ≡ head f = cc in
    let tails : map line_text lines ++ codes "end" ∷ [] ≡ (map line_text l ++ codes "end" ∷ []) ++ text ∷ more = cc in
    let none = (ended_lines f lines l [] (text ∷ more) (subst (λ x. All (IsWritable x) lines) (one_head format f heads) writable) possible
    (tails ∙ append_assoc (map line_text l) (codes "end" ∷ []) (text ∷ more))).1 in
    let bad : [] ≡ text ∷ more = none in
    cc

-- so a line that says nothing there is one that no document has
pub refused_there : (stage : Stage) (text : List ℕ) → IsPossible stage → ((e : Entry) → IsEntry (place_of stage) text e → ⊥) → IsRefused stage text
refused_there stage text possible none format lines more writable e =
    let next = next_entry stage text format lines more possible writable e in
    none next.0 next.1

-- such a line isn't too long, and has no line feed
short_head : (format : Format) → length (head format) ≤ 256
short_head One = omega arith
short_head Two = omega arith

short_end : (format : Format) → length (codes "end") ≤ line_limit format
short_end One = omega arith
short_end Two = omega arith

pub short_entry : (stage : Stage) (text : List ℕ) (e : Entry) → IsEntry (place_of stage) text e → (length text ≤ room_at stage) × NoBreak text
short_entry outside text (entry.Head format) is =
    (subst (λ bytes. length bytes ≤ 256) (sym is) (short_head format), subst NoBreak (sym is) (NoBreak-head format))
short_entry outside text (entry.Line line) is = absurd is
short_entry outside text entry.End is = absurd is
short_entry (inside format lines) text (entry.Head f) is = absurd is
short_entry (inside format lines) text (entry.Line line) is =
    (subst (λ bytes. length bytes ≤ line_limit format) (sym is.1) (length-line format line is.0), subst NoBreak (sym is.1) (NoBreak-line format line is.0))
short_entry (inside format lines) text entry.End is =
    (subst (λ bytes. length bytes ≤ line_limit format) (sym is) (short_end format), subst NoBreak (sym is) NoBreak-end)
short_entry (after_end format lines) text (entry.Head f) is = absurd is
short_entry (after_end format lines) text (entry.Line line) is = absurd is
short_entry (after_end format lines) text entry.End is = absurd is

-- reading stops: the next line hasn't ended, or is bad
abbrev pub Stopped : Stage → List ℕ → Type 0
Stopped stage rest = IsUnended stage rest ⊎ IsBad stage rest

-- no document goes on with a line there
stopped : (stage : Stage) (rest text after : List ℕ) (format : Format) (lines : List Line) (more : List (List ℕ)) → IsPossible stage
    → All (IsWritable format) lines → document_lines format lines ≡ texts_in stage ++ text ∷ more → Stopped stage rest → rest ≡ text ++ 10 ∷ after → ⊥
stopped stage rest text after format lines more possible writable e (inl unended) is = NoBreak-break text after (subst NoBreak is unended.whole)
stopped stage rest text after format lines more possible writable e (inr (inl bad)) is =
    let next = next_entry stage text format lines more possible writable e in
    let short = short_entry stage text next.0 next.1 in
    let same : bad.text ≡ text = (one_line bad.text text bad.more after bad.whole short.1 (sym bad.ended ∙ is)).0 in
    bad.refused format lines more writable (e ∙ ap (λ t. texts_in stage ++ t ∷ more) (sym same))
stopped stage rest text after format lines more possible writable e (inr (inr long)) is =
    let next = next_entry stage text format lines more possible writable e in
    let short = short_entry stage text next.0 next.1 in
    let over : room_at stage + 1 ≡ length text + suc (room_at stage - length text) = omega (arith, short.0) in
    let begun : take (room_at stage + 1) rest ≡ text ++ 10 ∷ take (room_at stage - length text) after =
    ap (λ bytes. take (room_at stage + 1) bytes) is ∙ ap (λ n. take n (text ++ 10 ∷ after)) over
    ∙ take-append-add text (10 ∷ after) (suc (room_at stage - length text)) in
    NoBreak-break text (take (room_at stage - length text) after) (subst NoBreak begun long.whole)

-- the lines that were read begin a document
abbrev pub begins : (bytes : List ℕ) (stage : Stage) (rest : List ℕ) → IsReadTo bytes stage rest → BeginsTree bytes (length (texts_in stage))
begins bytes outside rest read = record {
  texts = [];
  rest = rest;
  format = Two;
  lines = [];
  more = document_lines Two [];
  writable = All-nil (IsWritable Two);
  many = refl;
  begun = read.begun;
  continued = refl;
}
begins bytes (inside format lines) rest read = record {
  texts = head format ∷ map line_text lines;
  rest = rest;
  format = format;
  lines = lines;
  more = codes "end" ∷ [];
  writable = read.possible;
  many = refl;
  begun = read.begun;
  continued = refl;
}
begins bytes (after_end format lines) rest read = record {
  texts = document_lines format lines;
  rest = rest;
  format = format;
  lines = lines;
  more = [];
  writable = read.possible;
  many = refl;
  begun = read.begun;
  continued = sym (append-nil (document_lines format lines));
}

-- and fewer lines do so too
abbrev pub begins_fewer : (bytes : List ℕ) (few many : ℕ) → few ≤ many → BeginsTree bytes many → BeginsTree bytes few
begins_fewer bytes few many h b = record {
  texts = take few b.texts;
  rest = joined_lines (drop few b.texts) ++ b.rest;
  format = b.format;
  lines = b.lines;
  more = drop few b.texts ++ b.more;
  writable = b.writable;
  many = length-take-le few b.texts (omega (arith, b.many));
  begun = b.begun ∙ ap (λ texts. joined_lines texts ++ b.rest) (sym (take-append-drop few b.texts))
      ∙ ap (λ bytes. bytes ++ b.rest) (joined_lines-append (take few b.texts) (drop few b.texts))
      ∙ append_assoc (joined_lines (take few b.texts)) (joined_lines (drop few b.texts)) b.rest;
  continued = b.continued ∙ ap (λ texts. texts ++ b.more) (sym (take-append-drop few b.texts)) ∙ append_assoc (take few b.texts) (drop few b.texts) b.more;
}

-- the lines with which a document begins have no line feed
pub NoBreak-begun : (format : Format) (lines : List Line) (texts more : List (List ℕ)) → All (IsWritable format) lines
    → document_lines format lines ≡ texts ++ more → All NoBreak texts
NoBreak-begun format lines texts more writable e = All-prefix NoBreak texts more (subst (All NoBreak) e (NoBreak-document format lines writable))

-- where reading stops no more lines begin a document
no_longer : (stage : Stage) (rest : List ℕ) (texts more after : List (List ℕ)) (tail : List ℕ) (format : Format) (lines : List Line) → IsPossible stage
    → All (IsWritable format) lines → Stopped stage rest → document_lines format lines ≡ texts ++ after → texts ≡ texts_in stage ++ more
    → rest ≡ joined_lines more ++ tail → length texts ≤ length (texts_in stage)
no_longer stage rest texts [] after tail format lines possible writable stop e is begun =
    omega (arith, ap length (is ∙ append-nil (texts_in stage)))
no_longer stage rest texts (text ∷ more) after tail format lines possible writable stop e is begun =
    absurd (stopped stage rest text (joined_lines more ++ tail) format lines (more ++ after) possible writable
    (e ∙ ap (λ t. t ++ after) is ∙ append_assoc (texts_in stage) (text ∷ more) after) stop (begun ∙ append_assoc text (10 ∷ joined_lines more) tail))

pub no_further :
    (bytes : List ℕ) (stage : Stage) (rest : List ℕ) (count : ℕ) → IsReadTo bytes stage rest → Stopped stage rest → BeginsTree bytes count
    → count ≤ length (texts_in stage)
no_further bytes stage rest count read stop b = elim (cases_lt count (length (texts_in stage))) [
  | inl less ↦ omega arith
  | inr more ↦ (
      let found = common (texts_in stage) b.texts rest b.rest (NoBreak-texts stage read.possible) (NoBreak-begun b.format b.lines b.texts b.more b.writable b.continued)
      (omega (arith, b.many)) (sym read.begun ∙ b.begun) in
      let least = no_longer stage rest b.texts found.0 b.more b.rest b.format b.lines read.possible b.writable stop b.continued found.1 found.2 in
      omega (arith, b.many))
]

-- so where it stops, and what is left, is the bytes' own
same_texts :
    (xs ys : List (List ℕ)) (r s : List ℕ) → All NoBreak xs → All NoBreak ys → length xs ≡ length ys → joined_lines xs ++ r ≡ joined_lines ys ++ s
    → (xs ≡ ys) × (r ≡ s)
same_texts [] [] r s nx ny h e = (refl, e)
same_texts [] (y ∷ ys) r s nx ny h e = absurd (omega arith)
same_texts (x ∷ xs) [] r s nx ny h e = absurd (omega arith)
same_texts (x ∷ xs) (y ∷ ys) r s nx ny h e =
    let both : x ++ 10 ∷ (joined_lines xs ++ r) ≡ y ++ 10 ∷ (joined_lines ys ++ s) =
    sym (append_assoc x (10 ∷ joined_lines xs) r) ∙ e ∙ append_assoc y (10 ∷ joined_lines ys) s in
    let one = one_line x y (joined_lines xs ++ r) (joined_lines ys ++ s) (All-head NoBreak x xs nx) (All-head NoBreak y ys ny) both in
    let ih = same_texts xs ys r s (All-tail NoBreak x xs nx) (All-tail NoBreak y ys ny) (omega arith) one.1 in
    let same : x ≡ y = one.0 in
    let rest : xs ≡ ys = ih.0 in
    (cc, ih.1)

pub one_stage :
    (bytes : List ℕ) (a b : Stage) (r s : List ℕ) → IsReadTo bytes a r → IsReadTo bytes b s → Stopped a r → Stopped b s → (a ≡ b) × (r ≡ s)
one_stage bytes a b r s ra rb sa sb =
    let less = no_further bytes b s (length (texts_in a)) rb sb (begins bytes a r ra) in
    let more = no_further bytes a r (length (texts_in b)) ra sa (begins bytes b s rb) in
    let same = same_texts (texts_in a) (texts_in b) r s (NoBreak-texts a ra.possible) (NoBreak-texts b rb.possible) (omega arith) (sym ra.begun ∙ rb.begun) in
    (one_stage_of a b ra.possible rb.possible same.0, same.1)

-- a document is read to its end
pub document_read : (lines : List Line) (bytes : List ℕ) → (d : IsTreeDocument lines bytes) → IsReadTo bytes (after_end d.format lines) []
document_read lines bytes d = record { possible = d.writable; begun = d.spelled ∙ sym (append-nil (tree_document d.format lines)) }

pub document_stops : (format : Format) (lines : List Line) → Stopped (after_end format lines) []
document_stops format lines = inl (record { short = omega arith; whole = All-nil (λ b. b ≢ 10) })

pub ended_document : (lines : List Line) (bytes : List ℕ) (format : Format) → IsReadTo bytes (after_end format lines) [] → IsTreeDocument lines bytes
ended_document lines bytes format read = record { format = format; writable = read.possible; spelled = read.begun ∙ append-nil (tree_document format lines) }

-- reading stopped before the end of a document, or after more than one
abbrev pub IsPartial : Stage → List ℕ → Type 0
IsPartial stage rest = (format : Format) (lines : List Line) → stage ≡ after_end format lines → rest ≡ [] → ⊥

-- then the line there is the bad one
pub bad_there :
    (bytes : List ℕ) (stage : Stage) (rest : List ℕ) → IsReadTo bytes stage rest → Stopped stage rest → IsPartial stage rest
    → IsBadTreeLine bytes (length (texts_in stage) + 1)
bad_there bytes stage rest read stop part = record {
  none = λ lines d.
      let same = one_stage bytes stage (after_end d.format lines) rest [] read (document_read lines bytes d) stop (document_stops d.format lines) in
      part d.format lines same.0 same.1;
  positive = omega arith;
  before = subst (BeginsTree bytes) (omega arith) (begins bytes stage rest read);
  here = λ b. let least = no_further bytes stage rest (length (texts_in stage) + 1) read stop b in omega arith;
}

-- and no other one is
pub one_bad_line :
    (bytes : List ℕ) (stage : Stage) (rest : List ℕ) (line : ℕ) → IsReadTo bytes stage rest → Stopped stage rest → IsBadTreeLine bytes line
    → line ≡ length (texts_in stage) + 1
one_bad_line bytes stage rest line read stop bad =
    let less = no_further bytes stage rest (line - 1) read stop bad.before in
    elim (cases_lt (length (texts_in stage)) line) [
      | inl more ↦ omega (arith, bad.positive)
      | inr few ↦ absurd (bad.here (begins_fewer bytes line (length (texts_in stage)) few (begins bytes stage rest read)))
    ]

-- an entry that may stand there is read
abbrev pub stage_after : Stage → Entry → Stage
stage_after outside (entry.Head format) = inside format []
stage_after (inside format lines) (entry.Line line) = inside format (lines ++ line ∷ [])
stage_after (inside format lines) entry.End = after_end format lines
stage_after stage _ = stage

pub record EntryRead (bytes : List ℕ) (stage : Stage) (text more : List ℕ) (e : Entry) : Type 0 where
  pub read : IsReadTo bytes (stage_after stage e) more
  pub place : place_of (stage_after stage e) ≡ place_after (place_of stage) e
  pub lines : lines_in (stage_after stage e) ≡ lines_in stage ++ option_to_list (line_in e)
  pub count : length (texts_in (stage_after stage e)) ≡ length (texts_in stage) + 1

one_more :
    (bytes : List ℕ) (texts new : List (List ℕ)) (text more : List ℕ) → bytes ≡ joined_lines texts ++ (text ++ 10 ∷ more) → new ≡ texts ++ text ∷ []
    → bytes ≡ joined_lines new ++ more
one_more bytes texts new text more e is =
    e ∙ sym (ap (λ t. joined_lines t ++ more) is ∙ ap (λ b. b ++ more) (joined_lines-append texts (text ∷ []))
    ∙ append_assoc (joined_lines texts) (text ++ 10 ∷ []) more ∙ ap (λ b. joined_lines texts ++ b) (append_assoc text (10 ∷ []) more))

pub entry_read :
    (bytes : List ℕ) (stage : Stage) (text more : List ℕ) (e : Entry) → IsReadTo bytes stage (text ++ 10 ∷ more) → IsEntry (place_of stage) text e
    → EntryRead bytes stage text more e
entry_read bytes outside text more (entry.Head format) read is = record {
  read = record { possible = All-nil (IsWritable format); begun = one_more bytes [] (head format ∷ []) text more read.begun (ap (λ t. t ∷ []) (sym is)) };
  place = refl;
  lines = refl;
  count = refl;
}
entry_read bytes outside text more (entry.Line line) read is = absurd is
entry_read bytes outside text more entry.End read is = absurd is
entry_read bytes (inside format lines) text more (entry.Head f) read is = absurd is
entry_read bytes (inside format lines) text more (entry.Line line) read is =
    let texts : head format ∷ map line_text (lines ++ line ∷ []) ≡ (head format ∷ map line_text lines) ++ text ∷ [] =
    ap (λ t. head format ∷ t) (map-append line_text lines (line ∷ [])) ∙ ap (λ t. head format ∷ (map line_text lines ++ t ∷ [])) (sym is.1) in
    record {
      read = record {
        possible = All-append (IsWritable format) lines (line ∷ []) read.possible (All-cons (IsWritable format) line [] is.0 (All-nil (IsWritable format)));
        begun = one_more bytes (head format ∷ map line_text lines) (head format ∷ map line_text (lines ++ line ∷ [])) text more read.begun texts;
      };
      place = refl;
      lines = refl;
      count = ap length texts ∙ length-append (head format ∷ map line_text lines) (text ∷ []);
    }
entry_read bytes (inside format lines) text more entry.End read is = record {
  read = record {
    possible = read.possible;
    begun = one_more bytes (head format ∷ map line_text lines) (document_lines format lines) text more read.begun
        (ap (λ t. (head format ∷ map line_text lines) ++ t ∷ []) (sym is));
  };
  place = refl;
  lines = sym (append-nil lines);
  count = length-append (head format ∷ map line_text lines) (codes "end" ∷ []);
}
entry_read bytes (after_end format lines) text more (entry.Head f) read is = absurd is
entry_read bytes (after_end format lines) text more (entry.Line line) read is = absurd is
entry_read bytes (after_end format lines) text more entry.End read is = absurd is

-- Where a reader of lines stops: at a line that hasn't ended, at a bad one, or at the end of a document.
use Rattle.std.proofs.Common.{◌≡◌, ◌∙◌, ℕ, ◌+◌, List, [], ◌∷◌, ◌++◌, length, refl, sym, ap, subst, arith, inl, inr, length-append}
use Rattle.std.proofs.lemmas.List.{nil_from_length}
use Rattle.rf_text.specs.Line.{NoBreak}
use Rattle.rf_text.proofs.LineLemmas.{NoBreak-break}
use Rattle.rf_tree.specs.Document.{IsTreeDocument}
use Rattle.rf_tree.specs.Private.Entries.{place_of}
use Rattle.rf_tree.specs.Private.Readers.{Follows}
use Rattle.rf_tree.specs.Reading.{HasLines, IsBad, IsBadTreeLine, IsReadTo, IsUnended, MeetsBadLine, Stage, after_end, inside, lines_in, outside, texts_in}
use Rattle.rf_tree.specs.declared.entry.Place.TheVariants as place
use Rattle.rf_tree.specs.declared.format.Format.{Format}
use Rattle.rf_tree.specs.declared.line.Line.{Line}
use Rattle.rf_tree.specs.declared.line_reader.LineReader.{LineReader}
use Rattle.rf_tree.proofs.DocumentLemmas.{IsPartial, Stopped, bad_there, document_read, document_stops, ended_document, one_bad_line, one_stage}
use Rattle.rf_tree.proofs.ReaderLemmas.{bad_before, read_before}

-- a line that hasn't ended isn't bad
unended_or_bad : (stage : Stage) (rest : List ℕ) → IsUnended stage rest → IsBad stage rest → ⊥
unended_or_bad stage rest unended (inl bad) = NoBreak-break bad.text bad.more (subst NoBreak bad.ended unended.whole)
unended_or_bad stage rest unended (inr long) = omega (arith, unended.short, long.long)

stops : (reader : LineReader) (bytes : List ℕ) (lines : List Line) (f : Follows reader bytes lines) → Stopped f.stage f.rest
stops reader bytes lines f = elim f.held [ inl holds ↦ inl holds.unended | inr met ↦ inr met.bad ]

pub lines_of_bytes : (reader : LineReader) (bytes : List ℕ) (lines : List Line) → Follows reader bytes lines → HasLines bytes lines
lines_of_bytes reader bytes lines f = record { stage = f.stage; rest = f.rest; read = f.read; stopped = stops reader bytes lines f; given = f.given }

pub lines_once : (bytes : List ℕ) (a b : List Line) → HasLines bytes a → HasLines bytes b → a ≡ b
lines_once bytes a b ha hb =
    let same = one_stage bytes ha.stage hb.stage ha.rest hb.rest ha.read hb.read ha.stopped hb.stopped in
    ha.given ∙ ap lines_in same.0 ∙ sym hb.given

pub lines_of_document : (lines : List Line) (bytes : List ℕ) → IsTreeDocument lines bytes → HasLines bytes lines
lines_of_document lines bytes d = record {
  stage = after_end d.format lines;
  rest = [];
  read = document_read lines bytes d;
  stopped = document_stops d.format lines;
  given = refl;
}

-- a bad line that is met is the one that the reader knows
pub met_stuck :
    (reader : LineReader) (bytes : List ℕ) (lines : List Line) (n : ℕ) → Follows reader bytes lines → MeetsBadLine bytes n
    → (reader.place ≡ place.Bad) × (reader.number ≡ n)
met_stuck reader bytes lines n f m =
    let same = one_stage bytes f.stage m.stage f.rest m.rest f.read m.read (stops reader bytes lines f) (inr m.bad) in
    let bad : IsBad f.stage f.rest = subst (λ s. IsBad s f.rest) (sym same.0) (subst (IsBad m.stage) (sym same.1) m.bad) in
    let number : reader.number ≡ n = f.number ∙ ap (λ s. length (texts_in s) + 1) same.0 ∙ sym m.number in
    elim f.held [
      | inl holds ↦ absurd (unended_or_bad f.stage f.rest holds.unended bad)
      | inr met ↦ (met.place, number)
    ]

never_stuck : (stage : Stage) → place_of stage ≡ place.Bad → ⊥
never_stuck outside e = cc
never_stuck (inside format lines) e = cc
never_stuck (after_end format lines) e = cc

pub stuck_meets : (reader : LineReader) (bytes : List ℕ) (lines : List Line) → Follows reader bytes lines → reader.place ≡ place.Bad → MeetsBadLine bytes reader.number
stuck_meets reader bytes lines f stuck = elim f.held [
  | inl holds ↦ absurd (never_stuck f.stage (sym holds.place ∙ stuck))
  | inr met ↦ record { stage = f.stage; rest = f.rest; read = f.read; bad = met.bad; number = f.number }
]

-- a reader after the end has read a document
ended_there : (bytes rest : List ℕ) (stage : Stage) (lines : List Line) → place.AfterEnd ≡ place_of stage → IsReadTo bytes stage rest → IsUnended stage rest
    → lines ≡ lines_in stage → IsTreeDocument lines bytes
ended_there bytes rest outside lines e read unended given = absurd cc
ended_there bytes rest (inside format l) lines e read unended given = absurd cc
ended_there bytes rest (after_end format l) lines e read unended given =
    let none : rest ≡ [] = nil_from_length rest (omega (arith, unended.short)) in
    subst (λ x. IsTreeDocument x bytes) (sym given) (ended_document l bytes format (subst (IsReadTo bytes (after_end format l)) none read))

pub ended_reads : (reader : LineReader) (bytes : List ℕ) (lines : List Line) → Follows reader bytes lines → reader.place ≡ place.AfterEnd → IsTreeDocument lines bytes
ended_reads reader bytes lines f ended = elim f.held [
  | inl holds ↦ ended_there bytes f.rest f.stage lines (sym ended ∙ holds.place) f.read holds.unended f.given
  | inr met ↦ (let no : place.AfterEnd ≡ place.Bad = sym ended ∙ met.place in cc)
]

-- one that isn't there has read none
nothing_bad : (format : Format) (lines : List Line) → IsBad (after_end format lines) [] → ⊥
nothing_bad format lines (inl bad) = omega (arith, ap length bad.ended, length-append bad.text (10 ∷ bad.more))
nothing_bad format lines (inr long) = omega (arith, long.long)

partly_read : (reader : LineReader) (bytes : List ℕ) (lines : List Line) (f : Follows reader bytes lines) → (reader.place ≡ place.AfterEnd → ⊥) → IsPartial f.stage f.rest
partly_read reader bytes lines f elsewhere format l same none = elim f.held [
  | inl holds ↦ elsewhere (holds.place ∙ ap place_of same)
  | inr met ↦ nothing_bad format l (subst (λ s. IsBad s []) same (subst (IsBad f.stage) none met.bad))
]

pub no_document :
    (reader : LineReader) (bytes : List ℕ) (lines other : List Line) → Follows reader bytes lines → (reader.place ≡ place.AfterEnd → ⊥) → IsTreeDocument other bytes → ⊥
no_document reader bytes lines other f elsewhere d =
    let same = one_stage bytes f.stage (after_end d.format other) f.rest [] f.read (document_read other bytes d) (stops reader bytes lines f) (document_stops d.format other) in
    partly_read reader bytes lines f elsewhere d.format other same.0 same.1

pub bad_line_there :
    (reader : LineReader) (bytes : List ℕ) (lines : List Line) → Follows reader bytes lines → (reader.place ≡ place.AfterEnd → ⊥) → IsBadTreeLine bytes reader.number
bad_line_there reader bytes lines f elsewhere =
    subst (IsBadTreeLine bytes) (sym f.number) (bad_there bytes f.stage f.rest f.read (stops reader bytes lines f) (partly_read reader bytes lines f elsewhere))

pub bad_line_number : (reader : LineReader) (bytes : List ℕ) (lines : List Line) (n : ℕ) → Follows reader bytes lines → IsBadTreeLine bytes n → reader.number ≡ n
bad_line_number reader bytes lines n f bad = f.number ∙ sym (one_bad_line bytes f.stage f.rest n f.read (stops reader bytes lines f) bad)

-- a document is of one list of lines
pub document_once : (lines other : List Line) (bytes : List ℕ) → IsTreeDocument lines bytes → IsTreeDocument other bytes → lines ≡ other
document_once lines other bytes d e = lines_once bytes lines other (lines_of_document lines bytes d) (lines_of_document other bytes e)

-- a bad line that was met stays the bad one
pub met_is_bad : (bytes more : List ℕ) (line : ℕ) → MeetsBadLine bytes line → IsBadTreeLine (bytes ++ more) line
met_is_bad bytes more line m =
    let read = read_before bytes more m.stage m.rest m.read in
    let bad = bad_before m.stage m.rest more m.bad in
    subst (IsBadTreeLine (bytes ++ more)) (sym m.number)
    (bad_there (bytes ++ more) m.stage (m.rest ++ more) read (inr bad)
    (λ format lines same none. nothing_bad format lines (subst (λ s. IsBad s []) same (subst (IsBad m.stage) none bad))))

pub met_ends :
    (bytes more : List ℕ) (line : ℕ) (lines : List Line) → MeetsBadLine bytes line → HasLines bytes lines → HasLines (bytes ++ more) lines
met_ends bytes more line lines m h =
    let same = one_stage bytes h.stage m.stage h.rest m.rest h.read m.read h.stopped (inr m.bad) in
    record {
      stage = m.stage;
      rest = m.rest ++ more;
      read = read_before bytes more m.stage m.rest m.read;
      stopped = inr (bad_before m.stage m.rest more m.bad);
      given = h.given ∙ ap lines_in same.0;
    }

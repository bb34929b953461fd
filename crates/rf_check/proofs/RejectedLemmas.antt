-- Where a rejected line is met, and which it is.
use Rattle.std.proofs.Common.{◌≡◌, ◌⊎◌, ◌+◌, ◌-◌, ◌<◌, ◌≤◌, ℕ, suc, List, [], ◌∷◌, ◌++◌, All, codes, length, map, take, drop, refl, inl, inr, sym, ap, ap₂, subst, ◌∙◌, append_assoc, length-append, arith}
use Rattle.std.proofs.lemmas.List.{length-map, length-take-le, map-append, take-append-drop}
use Rattle.std.proofs.lemmas.List.Elements.{All-take}
use Rattle.rf_problem.specs.declared.problem.Problem.{Problem}
use Rattle.rf_text.specs.Line.{joined_lines}
use Rattle.rf_tree.specs.Document.{IsTreeDocument, IsWritable, document_lines, head, line_text}
use Rattle.rf_tree.specs.Lines.{CanStand}
use Rattle.rf_tree.specs.Reading.{BeginsTree, HasLines, IsBad, IsBadTreeLine, IsPossible, IsReadTo, MeetsBadLine, Stage, after_end, inside, lines_in, outside, texts_in}
use Rattle.rf_tree.specs.Verdicts.{IsFirstRefused}
use Rattle.rf_tree.specs.declared.format.Format.{Format}
use Rattle.rf_tree.specs.declared.line.Line.{Line}
use Rattle.rf_tree.proofs.DocumentLemmas.{NoBreak-begun, NoBreak-texts, bad_there, begins, common}
use Rattle.rf_tree.proofs.StopLemmas.{lines_of_document}
use Rattle.rf_tree.proofs.PrefixLemmas.{prefixes_stand}
use Rattle.rf_check.specs.Documents.{BeginsStanding, IsRejectedAt}
use Rattle.rf_check.proofs.GoingOn.{goes_on, read-part, read-prefix, texts-tail}

-- some document of lines that can stand begins with what was read, where these lines can
pub standing-at : (p : Problem) (bytes : List ℕ) (stage : Stage) (rest : List ℕ) → IsReadTo bytes stage rest → CanStand p (lines_in stage)
    → BeginsStanding p bytes (length (texts_in stage))
standing-at p bytes outside rest read stands = record { document = begins bytes outside rest read; stands = stands }
standing-at p bytes (inside f ls) rest read stands = record { document = begins bytes (inside f ls) rest read; stands = stands }
standing-at p bytes (after_end f ls) rest read stands = record { document = begins bytes (after_end f ls) rest read; stands = stands }

-- what was read up to some of its lines, where there is a head
pub record Part (bytes : List ℕ) (ls : List Line) : Type 0 where
  pub format : Format
  pub rest : List ℕ
  pub read : IsReadTo bytes (inside format ls) rest

texts-cut : (k : ℕ) (ls : List Line) → map line_text ls ≡ map line_text (take k ls) ++ map line_text (drop k ls)
texts-cut k ls = ap (map line_text) (sym (take-append-drop k ls)) ∙ map-append line_text (take k ls) (drop k ls)

pub part-of : (bytes : List ℕ) (stage : Stage) (rest : List ℕ) (k : ℕ) → IsReadTo bytes stage rest → 0 < length (texts_in stage)
    → Part bytes (take k (lines_in stage))
part-of bytes outside rest k read some = absurd (omega arith)
part-of bytes (inside f ls) rest k read some = record {
  format = f;
  rest = joined_lines (map line_text (drop k ls)) ++ rest;
  read = read-part bytes (inside f ls) rest f (take k ls) (map line_text (drop k ls)) read (All-take (IsWritable f) k ls read.possible)
      (ap (λ ts. head f ∷ ts) (texts-cut k ls));
}
part-of bytes (after_end f ls) rest k read some = record {
  format = f;
  rest = joined_lines (map line_text (drop k ls) ++ codes "end" ∷ []) ++ rest;
  read = read-part bytes (after_end f ls) rest f (take k ls) (map line_text (drop k ls) ++ codes "end" ∷ []) read (All-take (IsWritable f) k ls read.possible)
      (ap (λ ts. head f ∷ ts) (ap (λ ts. ts ++ codes "end" ∷ []) (texts-cut k ls)
      ∙ append_assoc (map line_text (take k ls)) (map line_text (drop k ls)) (codes "end" ∷ [])));
}

texts-some : (stage : Stage) → 0 < length (lines_in stage) → 0 < length (texts_in stage)
texts-some outside some = some
texts-some (inside f ls) some = omega arith
texts-some (after_end f ls) some = omega arith

-- a document that begins with what was read has these lines first; so they can stand where its lines can
begun-has : (p : Problem) (bytes rest : List ℕ) (f : Format) (ls : List Line) (count : ℕ) → IsReadTo bytes (inside f ls) rest → length ls + 1 ≤ count
    → BeginsStanding p bytes count → CanStand p ls
begun-has p bytes rest f ls count read enough begun =
    let b = begun.document in
    let k = common (texts_in (inside f ls)) b.texts rest b.rest (NoBreak-texts (inside f ls) read.possible)
    (NoBreak-begun b.format b.lines b.texts b.more b.writable b.continued) (omega (arith, b.many, length-map ls line_text)) (sym read.begun ∙ b.begun) in
    let on = goes_on f b.format ls b.lines (k.0 ++ b.more) read.possible b.writable
    (b.continued ∙ (ap (λ ts. ts ++ b.more) k.1 ∙ append_assoc (texts_in (inside f ls)) k.0 b.more)) in
    prefixes_stand p ls on.extra (subst (CanStand p) on.lines begun.stands)

document-has : (p : Problem) (bytes rest : List ℕ) (f : Format) (ls ks : List Line) → IsReadTo bytes (inside f ls) rest → IsTreeDocument ks bytes
    → CanStand p ks → CanStand p ls
document-has p bytes rest f ls ks read document stands =
    let k = read-prefix bytes rest ks f ls (lines_of_document ks bytes document) read in
    prefixes_stand p ls k.0 (subst (CanStand p) k.1 stands)

-- the first line that can't stand is the rejected one
pub rejected-line : (p : Problem) (bytes : List ℕ) (stage : Stage) (rest : List ℕ) (k : ℕ) → IsReadTo bytes stage rest → IsFirstRefused p (lines_in stage) k
    → IsRejectedAt p bytes (k + 2)
rejected-line p bytes stage rest k read first = record {
  none = λ ks document stands. first.refused (document-has p bytes to.rest to.format (take (k + 1) (lines_in stage)) ks to.read document stands);
  positive = omega arith;
  before = subst (BeginsStanding p bytes) (omega (arith, length-map (take k (lines_in stage)) line_text, length-take-le k (lines_in stage) (omega (arith, first.there))))
      (standing-at p bytes (inside up.format (take k (lines_in stage))) up.rest up.read first.before);
  here = λ begun. first.refused (begun-has p bytes to.rest to.format (take (k + 1) (lines_in stage)) (k + 2) to.read
      (omega (arith, length-take-le (k + 1) (lines_in stage) (omega (arith, first.there)))) begun);
}
  where
    some : 0 < length (texts_in stage)
    some = texts-some stage (omega (arith, first.there))

    -- up to that line, and as far as it
    up : Part bytes (take k (lines_in stage))
    up = part-of bytes stage rest k read some

    to : Part bytes (take (k + 1) (lines_in stage))
    to = part-of bytes stage rest (k + 1) read some

-- all that is read can stand where the lines of a document's beginning can
pub read-stands : (p : Problem) (bytes : List ℕ) (lines : List Line) (stage : Stage) (rest : List ℕ) → HasLines bytes lines → CanStand p lines
    → IsReadTo bytes stage rest → CanStand p (lines_in stage)
read-stands p bytes lines outside rest has stands read = prefixes_stand p [] lines stands
read-stands p bytes lines (inside f ls) rest has stands read =
    let k = read-prefix bytes rest lines f ls has read in prefixes_stand p ls k.0 (subst (CanStand p) k.1 stands)
read-stands p bytes lines (after_end f ls) rest has stands read =
    let k = read-prefix bytes (joined_lines (codes "end" ∷ []) ++ rest) lines f ls has (read-part bytes (after_end f ls) rest f ls (codes "end" ∷ []) read read.possible refl) in
    prefixes_stand p ls k.0 (subst (CanStand p) k.1 stands)

-- the first lines of a document as a part of it that was read
pub record Cut (g : Format) (ts : List (List ℕ)) : Type 0 where
  pub stage : Stage
  pub possible : IsPossible stage
  pub texts : ts ≡ texts_in stage

-- how many lines of the tree are among some first lines after the head, and whether the end is
abbrev IsCut : List Line → List (List ℕ) → ℕ → Type 0
IsCut ks ts j = (ts ≡ map line_text (take j ks)) ⊎ (ts ≡ map line_text ks ++ codes "end" ∷ [])

first-nil : (xs ys : List (List ℕ)) → [] ≡ xs ++ ys → xs ≡ []
first-nil [] ys e = refl
first-nil (x ∷ xs) ys e = cc

cut-of : (ks : List Line) (ts more : List (List ℕ)) → map line_text ks ++ codes "end" ∷ [] ≡ ts ++ more → (j : ℕ) × IsCut ks ts j
cut-of ks [] more e = (0, inl refl)
cut-of [] (t ∷ ts) more e =
    let parts = texts-tail e in
    (0, inr (ap₂ (λ x xs. x ∷ xs) (sym parts.0) (first-nil ts more parts.1)))
cut-of (k ∷ ks) (t ∷ ts) more e =
    let parts = texts-tail e in
    let rest = cut-of ks ts more parts.1 in (
      suc rest.0,
      elim rest.1 [
        | inl some ↦ inl (ap₂ (λ x xs. x ∷ xs) (sym parts.0) some)
        | inr all ↦ inr (ap₂ (λ x xs. x ∷ xs) (sym parts.0) all)
      ],
    )

stage-of : (g : Format) (ks : List Line) (ts more : List (List ℕ)) → All (IsWritable g) ks → document_lines g ks ≡ ts ++ more → Cut g ts
stage-of g ks [] more writable e = record { stage = outside; possible = tt; texts = refl }
stage-of g ks (t ∷ ts) more writable e =
    let parts = texts-tail e in
    let cut = cut-of ks ts more parts.1 in
    elim cut.1 [
      | inl some ↦ record { stage = inside g (take cut.0 ks); possible = All-take (IsWritable g) cut.0 ks writable; texts = ap₂ (λ x xs. x ∷ xs) (sym parts.0) some }
      | inr all ↦ record { stage = after_end g ks; possible = writable; texts = ap₂ (λ x xs. x ∷ xs) (sym parts.0) all }
    ]

-- a line that is bad or missing is the rejected one, where the lines before it can stand
pub rejected-missing : (p : Problem) (bytes : List ℕ) (lines : List Line) (n : ℕ) → HasLines bytes lines → CanStand p lines → IsBadTreeLine bytes n
    → IsRejectedAt p bytes n
rejected-missing p bytes lines n has stands bad = record {
  none = λ ks document can. bad.none ks document;
  positive = bad.positive;
  before = before;
  here = λ b. bad.here b.document;
}
  where
    before : BeginsStanding p bytes (n - 1)
    before =
        let b : BeginsTree bytes (n - 1) = bad.before in
        let cut : Cut b.format b.texts = stage-of b.format b.lines b.texts b.more b.writable b.continued in
        let read : IsReadTo bytes cut.stage b.rest = record { possible = cut.possible; begun = b.begun ∙ ap (λ ts. joined_lines ts ++ b.rest) cut.texts } in
        subst (BeginsStanding p bytes) (sym (ap length cut.texts) ∙ b.many)
        (standing-at p bytes cut.stage b.rest read (read-stands p bytes lines cut.stage b.rest has stands read))

-- the bad line that is met is, where the lines before it can stand
pub bad-some : (stage : Stage) → IsBad stage [] → ⊥
bad-some stage bad = elim bad [
  | inl k ↦ omega (arith, ap length k.ended, length-append k.text (10 ∷ k.more))
  | inr k ↦ omega (arith, k.long)
]

pub rejected-bad : (p : Problem) (bytes : List ℕ) (stage : Stage) (rest : List ℕ) → IsReadTo bytes stage rest → CanStand p (lines_in stage) → IsBad stage rest
    → IsRejectedAt p bytes (length (texts_in stage) + 1)
rejected-bad p bytes stage rest read stands bad =
    rejected-missing p bytes (lines_in stage) (length (texts_in stage) + 1) record { stage = stage; rest = rest; read = read; stopped = inr bad; given = refl } stands
    (bad_there bytes stage rest read (inr bad) (λ f ls end none. bad-some stage (subst (IsBad stage) none bad)))

-- in no bytes a bad line is met
pub none-met : (line : ℕ) → MeetsBadLine [] line → ⊥
none-met line met = none met.rest (omega (arith, ap length met.read.begun, length-append (joined_lines (texts_in met.stage)) met.rest)) met.bad
  where
    none : (rest : List ℕ) → length rest ≡ 0 → IsBad met.stage rest → ⊥
    none [] e bad = bad-some met.stage bad
    none (b ∷ rest) e bad = omega arith

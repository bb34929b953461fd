-- How documents go on after what was read of them.
use Rattle.std.proofs.Common.{◌≡◌, ◌<◌, ◌≤◌, ℕ, List, [], ◌∷◌, ◌++◌, All, codes, length, map, refl, sym, ap, subst, ◌∙◌, append_assoc, append-nil, arith}
use Rattle.std.proofs.lemmas.List.Elements.{All-head, All-tail}
use Rattle.rf_text.specs.Line.{joined_lines}
use Rattle.rf_text.proofs.LineLemmas.{joined_lines-append}
use Rattle.rf_tree.specs.Document.{IsWritable, document_lines, line_text}
use Rattle.rf_tree.specs.Reading.{HasLines, IsPossible, IsReadTo, Stage, after_end, inside, lines_in, outside, texts_in}
use Rattle.rf_tree.specs.declared.format.Format.{Format}
use Rattle.rf_tree.specs.declared.line.Line.{Line}
use Rattle.rf_tree.proofs.DocumentLemmas.{NoBreak-texts, begins, common, no_further, one_head}
use Rattle.rf_tree.proofs.TextLemmas.{line_no_end, one_text}

-- a document goes on after some lines
pub record GoesOn (f g : Format) (ls ks : List Line) (more : List (List ℕ)) : Type 0 where
  pub format : g ≡ f
  pub extra : List Line
  pub lines : ks ≡ ls ++ extra
  pub texts : more ≡ map line_text extra ++ codes "end" ∷ []

pub texts-tail : {x y : List ℕ} {xs ys : List (List ℕ)} → x ∷ xs ≡ y ∷ ys → (x ≡ y) × (xs ≡ ys)
texts-tail e = (cc, cc)

lines-go_on : (f : Format) (ls ks : List Line) (more : List (List ℕ)) → All (IsWritable f) ls → All (IsWritable f) ks
    → map line_text ks ++ codes "end" ∷ [] ≡ map line_text ls ++ more → GoesOn f f ls ks more
lines-go_on f [] ks more wl wk e = record { format = refl; extra = ks; lines = refl; texts = sym e }
lines-go_on f (l ∷ ls) [] more wl wk e = absurd (line_no_end f l (All-head (IsWritable f) l ls wl) (sym (texts-tail e).0))
lines-go_on f (l ∷ ls) (k ∷ ks) more wl wk e =
    let parts = texts-tail e in
    let same : k ≡ l = one_text f k l (All-head (IsWritable f) k ks wk) (All-head (IsWritable f) l ls wl) parts.0 in
    let rest : GoesOn f f ls ks more = lines-go_on f ls ks more (All-tail (IsWritable f) l ls wl) (All-tail (IsWritable f) k ks wk) parts.1 in
    let others : ks ≡ ls ++ rest.extra = rest.lines in
    record { format = refl; extra = rest.extra; lines = cc; texts = rest.texts }

pub goes_on : (f g : Format) (ls ks : List Line) (more : List (List ℕ)) → All (IsWritable f) ls → All (IsWritable g) ks
    → document_lines g ks ≡ texts_in (inside f ls) ++ more → GoesOn f g ls ks more
goes_on f g ls ks more wl wk e =
    let parts = texts-tail e in
    let same : g ≡ f = one_head g f parts.0 in
    let rest : GoesOn f f ls ks more = lines-go_on f ls ks more wl (subst (λ h. All (IsWritable h) ks) same wk) parts.1 in
    record { format = same; extra = rest.extra; lines = rest.lines; texts = rest.texts }

-- what was read, as far as some of its lines
pub read-part : (bytes : List ℕ) (stage : Stage) (rest : List ℕ) (f : Format) (ls : List Line) (more : List (List ℕ)) → IsReadTo bytes stage rest
    → All (IsWritable f) ls → texts_in stage ≡ texts_in (inside f ls) ++ more → IsReadTo bytes (inside f ls) (joined_lines more ++ rest)
read-part bytes stage rest f ls more read writable e = record {
  possible = writable;
  begun = read.begun ∙ (ap (λ ts. joined_lines ts ++ rest) e
      ∙ (ap (λ bs. bs ++ rest) (joined_lines-append (texts_in (inside f ls)) more)
      ∙ append_assoc (joined_lines (texts_in (inside f ls))) (joined_lines more) rest));
}

-- the document of what was read, ended after it
pub record Ended (stage : Stage) (f : Format) : Type 0 where
  pub more : List (List ℕ)
  pub document : document_lines f (lines_in stage) ≡ texts_in stage ++ more
  pub writable : All (IsWritable f) (lines_in stage)

pub ended : (stage : Stage) → IsPossible stage → 0 < length (texts_in stage) → (f : Format) × Ended stage f
ended outside possible some = absurd (omega arith)
ended (inside f ls) possible some = (f, record { more = codes "end" ∷ []; document = refl; writable = possible })
ended (after_end f ls) possible some = (f, record { more = []; document = sym (append-nil (document_lines f ls)); writable = possible })

-- all that was read of a document is among the lines with which it begins
pub read-prefix : (bytes rest : List ℕ) (lines : List Line) (f : Format) (ls : List Line) → HasLines bytes lines → IsReadTo bytes (inside f ls) rest
    → (extra : List Line) × (lines ≡ ls ++ extra)
read-prefix bytes rest lines f ls has read =
    let many : length got ≤ length had = no_further bytes has.stage has.rest (length got) has.read has.stopped (begins bytes (inside f ls) rest read) in
    let k = common got had rest has.rest (NoBreak-texts (inside f ls) read.possible) (NoBreak-texts has.stage has.read.possible) many
    (sym read.begun ∙ has.read.begun) in
    let whole = ended has.stage has.read.possible (omega (arith, many)) in
    let on = goes_on f whole.0 ls (lines_in has.stage) (k.0 ++ whole.1.more) read.possible whole.1.writable
    (whole.1.document ∙ (ap (λ ts. ts ++ whole.1.more) k.1 ∙ append_assoc got k.0 whole.1.more)) in
    (on.extra, has.given ∙ on.lines)
  where
    had : List (List ℕ)
    had = texts_in has.stage

    got : List (List ℕ)
    got = texts_in (inside f ls)

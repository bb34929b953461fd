-- Printing a tree, line by line.
use Rattle.std.proofs.Common.{◌≡◌, ◌∙◌, ℕ, ◌<◌, ◌≤◌, ◌+◌, true, List, [], ◌∷◌, ◌++◌, length, get_or, map, take, refl, sym, ap, subst, append_assoc, codes, All}
use Rattle.std.proofs.lemmas.List.{map-append, take_all, take_more}
use Rattle.std.proofs.lemmas.List.Elements.{All-append, All-cons, All-nil}
use Rattle.rf_rules.specs.declared.rule.Rule.{Rule}
use Rattle.rf_text.specs.Line.{joined_lines}
use Rattle.rf_text.proofs.LineLemmas.{joined_lines-append}
use Rattle.rf_tree.specs.Document.{FitsKind, IsTreeDocument, IsWritable, has_rule, line_text, tree_document}
use Rattle.rf_tree.specs.Private.Fields.{FitsLine}
use Rattle.rf_tree.specs.declared.format.Format.TheVariants.{Two}
use Rattle.rf_tree.specs.declared.line.Line.{Line}
use Rattle.rf_tree.specs.declared.line.Line.TheVariants.{Close, Decide, Step}

-- the document up to some of the lines
abbrev pub printed : List Line → List ℕ
printed lines = codes "tree 2\n" ++ joined_lines (map line_text lines)

pub printed_more :
    (lines : List Line) (i : ℕ) (line : Line) (text now : List ℕ) → i < length lines → line ≡ get_or lines i line
    → text ≡ printed (take i lines) → now ≡ text ++ (line_text line ++ 10 ∷ []) → now ≡ printed (take (i + 1) lines)
printed_more lines i line text now within is so_far pushed =
    let more : take (i + 1) lines ≡ take i lines ++ line ∷ [] = take_more lines i line within ∙ ap (λ x. take i lines ++ x ∷ []) (sym is) in
    let texts : joined_lines (map line_text (take (i + 1) lines)) ≡ joined_lines (map line_text (take i lines)) ++ (line_text line ++ 10 ∷ []) =
    ap (λ l. joined_lines (map line_text l)) more ∙ ap joined_lines (map-append line_text (take i lines) (line ∷ []))
    ∙ joined_lines-append (map line_text (take i lines)) (line_text line ∷ []) in
    pushed ∙ ap (λ t. t ++ (line_text line ++ 10 ∷ [])) so_far
    ∙ append_assoc (codes "tree 2\n") (joined_lines (map line_text (take i lines))) (line_text line ++ 10 ∷ []) ∙ ap (λ t. codes "tree 2\n" ++ t) (sym texts)

pub fits_more :
    (lines : List Line) (i : ℕ) (line : Line) → i < length lines → line ≡ get_or lines i line → All FitsLine (take i lines) → FitsLine line
    → All FitsLine (take (i + 1) lines)
fits_more lines i line within is so_far fits =
    subst (All FitsLine) (sym (take_more lines i line within ∙ ap (λ x. take i lines ++ x ∷ []) (sym is)))
    (All-append FitsLine (take i lines) (line ∷ []) so_far (All-cons FitsLine line [] fits (All-nil FitsLine)))

pub printed_whole :
    (lines : List Line) (i : ℕ) (text now : List ℕ) → length lines ≤ i → text ≡ printed (take i lines) → now ≡ text ++ codes "end\n"
    → now ≡ tree_document Two lines
printed_whole lines i text now over so_far pushed =
    pushed ∙ ap (λ t. t ++ codes "end\n") (so_far ∙ ap printed (take_all i lines over))
    ∙ append_assoc (codes "tree 2\n") (joined_lines (map line_text lines)) (codes "end\n")
    ∙ ap (λ t. codes "tree 2\n" ++ t) (sym (joined_lines-append (map line_text lines) (codes "end" ∷ [])))

-- lines whose rules fit their kinds and whose numbers fit may be written
has_each : (r : Rule) → has_rule Two r ≡ true
has_each r = refl

writable_line : (line : Line) → FitsKind line → FitsLine line → IsWritable Two line
writable_line (Step r) kind fits = (kind, has_each r, fits)
writable_line (Decide d first) kind fits = fits
writable_line (Close r) kind fits = (kind, has_each r, fits)

pub printed_document :
    (lines : List Line) (i : ℕ) (text : List ℕ) → length lines ≤ i → All FitsKind lines → All FitsLine (take i lines) → text ≡ tree_document Two lines
    → IsTreeDocument lines text
printed_document lines i text over kinds fits spelled = record {
  format = Two;
  writable = λ k d h. writable_line (get_or lines k d) (kinds k d h) (subst (All FitsLine) (take_all i lines over) fits k d h);
  spelled = spelled;
}

-- The texts of lines: those of their fields, which are one line of limited length, one for each line, and none the end.
use Rattle.std.proofs.Common.{◌≡◌, ◌∙◌, ℕ, ◌<◌, ◌≤◌, ◌^◌, ◌+◌, ◌*◌, List, [], ◌∷◌, ◌++◌, length, refl, sym, ap, subst, arith, All, Option, Some, None, length-append, true, false}
use Rattle.std.specs.Prelude.{Bool, decimal, codes}
use Rattle.std.proofs.lemmas.Fmt.{length-decimal-le}
use Rattle.std.proofs.lemmas.List.{append-nil}
use Rattle.std.proofs.lemmas.List.Elements.{All-append, All-cons, All-head, All-nil, All-tail}
use Rattle.rf_rules.specs.declared.decision.Decision.{Decision}
use Rattle.rf_rules.specs.declared.decision.Decision.TheVariants as decision
use Rattle.rf_rules.specs.declared.rule.End.TheVariants as end
use Rattle.rf_rules.specs.declared.rule.Rule.{Rule}
use Rattle.rf_rules.specs.declared.rule.Rule.TheVariants as rule
use Rattle.rf_text.specs.Line.{NoBreak}
use Rattle.rf_tree.specs.Document.{AreObjects, FitsDecision, FitsRule, IsWritable, IsEdge, decision_text, has_rule, line_text, rule_text, side_word, spaced}
use Rattle.rf_tree.specs.Private.Fields.{decision_fields, fields_text, line_fields, rule_fields, tail_text}
use Rattle.rf_tree.specs.Private.Words.{tail_spelling, word_spelling}
use Rattle.rf_tree.specs.Reading.{line_limit}
use Rattle.rf_tree.specs.declared.fields.Fields.{Fields}
use Rattle.rf_tree.specs.declared.format.Format.{Format}
use Rattle.rf_tree.specs.declared.format.Format.TheVariants.{One, Two}
use Rattle.rf_tree.specs.declared.line.Line.{Line}
use Rattle.rf_tree.specs.declared.line.Line.TheVariants.{Close, Decide, Step}
use Rattle.rf_tree.specs.declared.word.Tail.{Tail}
use Rattle.rf_tree.proofs.FieldLemmas.{one_line_of}
use Rattle.rf_tree.proofs.WordLemmas.{IsDigit-decimal, above_space, above_tail, not_end, one_fields, short_tail, short_word}

-- the text of a line is that of its fields
rule_text-fields : (r : Rule) → rule_text r ≡ fields_text (rule_fields r)
rule_text-fields (rule.Empty o) = ap (λ bytes. codes "empty" ++ bytes) (sym (append-nil (spaced (o ∷ []))))
rule_text-fields (rule.NoClass o) = ap (λ bytes. codes "no-class" ++ bytes) (sym (append-nil (spaced (o ∷ []))))
rule_text-fields (rule.Src q a b) = ap (λ bytes. codes "src" ++ bytes) (sym (append-nil (spaced (q ∷ a ∷ b ∷ []))))
rule_text-fields (rule.Tgt q a b) = ap (λ bytes. codes "tgt" ++ bytes) (sym (append-nil (spaced (q ∷ a ∷ b ∷ []))))
rule_text-fields (rule.Clash q a b end.Target) = refl
rule_text-fields (rule.Clash q a b end.Source) = refl
rule_text-fields (rule.Full q a b) = ap (λ bytes. codes "full" ++ bytes) (sym (append-nil (spaced (q ∷ a ∷ b ∷ []))))
rule_text-fields (rule.Room q a b) = ap (λ bytes. codes "room" ++ bytes) (sym (append-nil (spaced (q ∷ a ∷ b ∷ []))))
rule_text-fields (rule.Need q a b) = ap (λ bytes. codes "need" ++ bytes) (sym (append-nil (spaced (q ∷ a ∷ b ∷ []))))
rule_text-fields (rule.NeedCount q a b) = ap (λ bytes. codes "need-count" ++ bytes) (sym (append-nil (spaced (q ∷ a ∷ b ∷ []))))
rule_text-fields (rule.TypeLow z o) = ap (λ bytes. codes "type-low" ++ bytes) (sym (append-nil (spaced (z ∷ o ∷ []))))
rule_text-fields (rule.OneContainer q a b s c) = ap (λ bytes. codes "one-container" ++ bytes) (sym (append-nil (spaced (q ∷ a ∷ b ∷ s ∷ c ∷ []))))
rule_text-fields (rule.Alone q a b) = ap (λ bytes. codes "alone" ++ bytes) (sym (append-nil (spaced (q ∷ a ∷ b ∷ []))))
rule_text-fields (rule.MustContain q a b) = ap (λ bytes. codes "must-contain" ++ bytes) (sym (append-nil (spaced (q ∷ a ∷ b ∷ []))))
rule_text-fields (rule.ContainCount q a b) = ap (λ bytes. codes "contain-count" ++ bytes) (sym (append-nil (spaced (q ∷ a ∷ b ∷ []))))
rule_text-fields (rule.NoContainer o) = ap (λ bytes. codes "no-container" ++ bytes) (sym (append-nil (spaced (o ∷ []))))
rule_text-fields (rule.Acyclic q a b) = ap (λ bytes. codes "acyclic" ++ bytes) (sym (append-nil (spaced (q ∷ a ∷ b ∷ []))))
rule_text-fields (rule.Under z) = ap (λ bytes. codes "under" ++ bytes) (sym (append-nil (spaced (z ∷ []))))
rule_text-fields (rule.ScopeTop z o) = ap (λ bytes. codes "scope-top" ++ bytes) (sym (append-nil (spaced (z ∷ o ∷ []))))
rule_text-fields (rule.ScopeBottom z o) = ap (λ bytes. codes "scope-bottom" ++ bytes) (sym (append-nil (spaced (z ∷ o ∷ []))))
rule_text-fields (rule.ScopeOut z o) = ap (λ bytes. codes "scope-out" ++ bytes) (sym (append-nil (spaced (z ∷ o ∷ []))))
rule_text-fields (rule.ScopeIn z o) = ap (λ bytes. codes "scope-in" ++ bytes) (sym (append-nil (spaced (z ∷ o ∷ []))))
rule_text-fields (rule.Broken q t) = ap (λ bytes. codes "broken" ++ bytes) (sym (append-nil (spaced (q ∷ t))))
rule_text-fields (rule.Forced q k j t) = ap (λ bytes. codes "forced" ++ bytes) (sym (append-nil (spaced (q ∷ k ∷ j ∷ t))))

decision_text-fields : (d : Decision) (first : Bool) → decision_text d ++ side_word first ≡ fields_text (decision_fields d first)
decision_text-fields (decision.Fresh o) true = refl
decision_text-fields (decision.Fresh o) false = refl
decision_text-fields (decision.Kind o c) true = refl
decision_text-fields (decision.Kind o c) false = refl
decision_text-fields (decision.Ref q a b) true = refl
decision_text-fields (decision.Ref q a b) false = refl

pub line_text-fields : (line : Line) → line_text line ≡ fields_text (line_fields line)
line_text-fields (Step r) = rule_text-fields r
line_text-fields (Decide d first) = decision_text-fields d first
line_text-fields (Close r) = rule_text-fields r

-- the fields of a line that may be written have few numbers
none_long : All (λ o. o < 2 ^ 64) []
none_long = All-nil (λ o. o < 2 ^ 64)

one_long : (o : ℕ) → o < 2 ^ 64 → AreObjects 1 (o ∷ [])
one_long o h = (All-cons (λ o. o < 2 ^ 64) o [] h none_long, omega arith)

more_long : (most o : ℕ) (ns : List ℕ) → o < 2 ^ 64 → AreObjects most ns → AreObjects (most + 1) (o ∷ ns)
more_long most o ns h few = (All-cons (λ o. o < 2 ^ 64) o ns h few.0, omega (arith, few.1))

up_to : (less most : ℕ) (ns : List ℕ) → less ≤ most → AreObjects less ns → AreObjects most ns
up_to less most ns h few = (few.0, omega (arith, few.1))

edge_few : (q a b : ℕ) → IsEdge q a b → AreObjects 3 (q ∷ a ∷ b ∷ [])
edge_few q a b h = more_long 2 q (a ∷ b ∷ []) (omega (arith, h.0)) (more_long 1 a (b ∷ []) h.1 (one_long b h.2))

scoped_few : (z o : ℕ) → z < 2 ^ 32 → o < 2 ^ 64 → AreObjects 2 (z ∷ o ∷ [])
scoped_few z o h k = more_long 1 z (o ∷ []) (omega arith) (one_long o k)

-- no more than five in format 1, eleven in format 2
abbrev pub most_numbers : Format → ℕ
most_numbers One = 5
most_numbers Two = 11

five : (format : Format) (less : ℕ) (ns : List ℕ) → less ≤ 5 → AreObjects less ns → AreObjects (most_numbers format) ns
five One less ns h few = up_to less 5 ns h few
five Two less ns h few = up_to less 11 ns (omega arith) few

rule_few : (format : Format) (r : Rule) → has_rule format r ≡ true → FitsRule r → AreObjects (most_numbers format) (rule_fields r).numbers
rule_few format (rule.Empty o) has h = five format 1 (o ∷ []) (omega arith) (one_long o h)
rule_few format (rule.NoClass o) has h = five format 1 (o ∷ []) (omega arith) (one_long o h)
rule_few format (rule.Src q a b) has h = five format 3 (q ∷ a ∷ b ∷ []) (omega arith) (edge_few q a b h)
rule_few format (rule.Tgt q a b) has h = five format 3 (q ∷ a ∷ b ∷ []) (omega arith) (edge_few q a b h)
rule_few format (rule.Clash q a b e) has h = five format 3 (q ∷ a ∷ b ∷ []) (omega arith) (edge_few q a b h)
rule_few format (rule.Full q a b) has h = five format 3 (q ∷ a ∷ b ∷ []) (omega arith) (edge_few q a b h)
rule_few format (rule.Room q a b) has h = five format 3 (q ∷ a ∷ b ∷ []) (omega arith) (edge_few q a b h)
rule_few format (rule.Need q a b) has h = five format 3 (q ∷ a ∷ b ∷ []) (omega arith) (edge_few q a b h)
rule_few format (rule.NeedCount q a b) has h = five format 3 (q ∷ a ∷ b ∷ []) (omega arith) (edge_few q a b h)
rule_few format (rule.TypeLow z o) has h = five format 2 (z ∷ o ∷ []) (omega arith) (scoped_few z o h.0 h.1)
rule_few format (rule.OneContainer q a b s c) has h =
    let rest = more_long 2 b (s ∷ c ∷ []) h.0.2 (scoped_few s c h.1 h.2) in
    five format 5 (q ∷ a ∷ b ∷ s ∷ c ∷ []) (omega arith) (more_long 4 q (a ∷ b ∷ s ∷ c ∷ []) (omega (arith, h.0.0)) (more_long 3 a (b ∷ s ∷ c ∷ []) h.0.1 rest))
rule_few format (rule.Alone q a b) has h = five format 3 (q ∷ a ∷ b ∷ []) (omega arith) (edge_few q a b h)
rule_few format (rule.MustContain q a b) has h = five format 3 (q ∷ a ∷ b ∷ []) (omega arith) (edge_few q a b h)
rule_few format (rule.ContainCount q a b) has h = five format 3 (q ∷ a ∷ b ∷ []) (omega arith) (edge_few q a b h)
rule_few format (rule.NoContainer o) has h = five format 1 (o ∷ []) (omega arith) (one_long o h)
rule_few format (rule.Acyclic q a b) has h = five format 3 (q ∷ a ∷ b ∷ []) (omega arith) (edge_few q a b h)
rule_few format (rule.Under z) has h = five format 1 (z ∷ []) (omega arith) (one_long z (omega arith))
rule_few format (rule.ScopeTop z o) has h = five format 2 (z ∷ o ∷ []) (omega arith) (scoped_few z o h.0 h.1)
rule_few format (rule.ScopeBottom z o) has h = five format 2 (z ∷ o ∷ []) (omega arith) (scoped_few z o h.0 h.1)
rule_few format (rule.ScopeOut z o) has h = five format 2 (z ∷ o ∷ []) (omega arith) (scoped_few z o h.0 h.1)
rule_few format (rule.ScopeIn z o) has h = five format 2 (z ∷ o ∷ []) (omega arith) (scoped_few z o h.0 h.1)
rule_few format (rule.Broken q t) has h = five format 5 (q ∷ t) (omega arith) (more_long 4 q t (omega (arith, h.0)) h.1)
rule_few One (rule.Forced q k j t) has h = let none : false ≡ true = has in cc
rule_few Two (rule.Forced q k j t) has h =
    more_long 10 q (k ∷ j ∷ t) (omega (arith, h.0)) (more_long 9 k (j ∷ t) (omega (arith, h.1)) (more_long 8 j t (omega (arith, h.2)) h.3))

decision_few : (format : Format) (d : Decision) (first : Bool) → FitsDecision d → AreObjects (most_numbers format) (decision_fields d first).numbers
decision_few format (decision.Fresh o) first h = five format 1 (o ∷ []) (omega arith) (one_long o h)
decision_few format (decision.Kind o c) first h = five format 2 (o ∷ c ∷ []) (omega arith) (more_long 1 o (c ∷ []) h.0 (one_long c (omega (arith, h.1))))
decision_few format (decision.Ref q a b) first h = five format 3 (q ∷ a ∷ b ∷ []) (omega arith) (edge_few q a b h)

pub line_few : (format : Format) (line : Line) → IsWritable format line → AreObjects (most_numbers format) (line_fields line).numbers
line_few format (Step r) h = rule_few format r h.1 h.2
line_few format (Decide d first) h = decision_few format d first h
line_few format (Close r) h = rule_few format r h.1 h.2

pub line_eleven : (format : Format) (line : Line) → IsWritable format line → AreObjects 11 (line_fields line).numbers
line_eleven One line h = up_to 5 11 (line_fields line).numbers (omega arith) (line_few One line h)
line_eleven Two line h = line_few Two line h

-- writable lines with the same text are the same
pub one_text : (format : Format) (a b : Line) → IsWritable format a → IsWritable format b → line_text a ≡ line_text b → a ≡ b
one_text format a b wa wb e =
    one_line_of format a b wa wb
    (one_fields (line_fields a) (line_fields b) (line_eleven format a wa) (line_eleven format b wb) (sym (line_text-fields a) ∙ e ∙ line_text-fields b))

-- a text of which each byte is above the line feed has none
NoBreak-above : (bytes : List ℕ) → All (λ b. 31 < b) bytes → NoBreak bytes
NoBreak-above bytes above k d h e = let byte = above k d h in omega (arith, byte, e)

spaced_above : (ns : List ℕ) → All (λ o. o < 2 ^ 64) ns → All (λ b. 31 < b) (spaced ns)
spaced_above [] long = All-nil (λ b. 31 < b)
spaced_above (n ∷ ns) long =
    let digits : All (λ b. 31 < b) (decimal n) = λ k d h. let digit = IsDigit-decimal n (All-head (λ o. o < 2 ^ 64) n ns long) k d h in omega (arith, digit.0) in
    All-append (λ b. 31 < b) (32 ∷ decimal n) (spaced ns) (All-cons (λ b. 31 < b) 32 (decimal n) (omega arith) digits)
    (spaced_above ns (All-tail (λ o. o < 2 ^ 64) n ns long))

tail_above : (tail : Option Tail) → All (λ b. 31 < b) (tail_text tail)
tail_above None = All-nil (λ b. 31 < b)
tail_above (Some t) = All-cons (λ b. 31 < b) 32 (tail_spelling t) (omega arith) (λ k d h. let above = above_tail t k d h in omega (arith, above))

fields_above : (f : Fields) → All (λ o. o < 2 ^ 64) f.numbers → All (λ b. 31 < b) (fields_text f)
fields_above f long =
    All-append (λ b. 31 < b) (word_spelling f.word) (spaced f.numbers ++ tail_text f.tail)
    (λ k d h. let above = above_space f.word k d h in omega (arith, above))
    (All-append (λ b. 31 < b) (spaced f.numbers) (tail_text f.tail) (spaced_above f.numbers long) (tail_above f.tail))

pub NoBreak-line : (format : Format) (line : Line) → IsWritable format line → NoBreak (line_text line)
NoBreak-line format line h =
    subst NoBreak (sym (line_text-fields line))
    (NoBreak-above (fields_text (line_fields line)) (fields_above (line_fields line) (line_eleven format line h).0))

-- a line has at most 128 bytes in format 1, and 256 in format 2
length-spaced : (ns : List ℕ) → All (λ o. o < 2 ^ 64) ns → length (spaced ns) ≤ 21 * length ns
length-spaced [] long = omega arith
length-spaced (n ∷ ns) long =
    let small = All-head (λ o. o < 2 ^ 64) n ns long in
    let first = length-decimal-le 20 n (omega arith) (omega arith) small in
    let ih = length-spaced ns (All-tail (λ o. o < 2 ^ 64) n ns long) in
    omega (arith, length-append (32 ∷ decimal n) (spaced ns), first, ih)

length-fields : (f : Fields) → All (λ o. o < 2 ^ 64) f.numbers → length (fields_text f) ≤ 20 + 21 * length f.numbers
length-fields f long =
    omega (
      arith,
      length-append (word_spelling f.word) (spaced f.numbers ++ tail_text f.tail),
      length-append (spaced f.numbers) (tail_text f.tail),
      short_word f.word,
      short_tail f.tail,
      length-spaced f.numbers long,
    )

pub length-line : (format : Format) (line : Line) → IsWritable format line → length (line_text line) ≤ line_limit format
length-line One line h =
    let few = line_few One line h in
    omega (arith, length-fields (line_fields line) few.0, few.1, ap length (line_text-fields line))
length-line Two line h =
    let few = line_few Two line h in
    omega (arith, length-fields (line_fields line) few.0, few.1, ap length (line_text-fields line))

-- no line of a tree is the end of a document
pub line_no_end : (format : Format) (line : Line) → IsWritable format line → line_text line ≡ codes "end" → ⊥
line_no_end format line h e = not_end (line_fields line) (sym (line_text-fields line) ∙ e)

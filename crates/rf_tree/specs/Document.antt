-- The documents of trees, in both of their formats.
use Rattle.std.specs.Prelude.{◌≡◌, ◌<◌, ◌≤◌, ◌^◌, ℕ, Bool, true, false, List, [], ◌∷◌, ◌++◌, All, codes, decimal, length, map}
use Rattle.std.specs.List.{flat_map}
use Rattle.rf_text.specs.Line.{joined_lines}
use Rattle.rf_rules.specs.Rules.{is_closing}
use Rattle.rf_rules.specs.declared.decision.Decision.{Decision}
use Rattle.rf_rules.specs.declared.decision.Decision.TheVariants.{Fresh, Kind, Ref}
use Rattle.rf_rules.specs.declared.rule.End.{End}
use Rattle.rf_rules.specs.declared.rule.End.TheVariants.{Target, Source}
use Rattle.rf_rules.specs.declared.rule.Rule.{Rule}
use Rattle.rf_rules.specs.declared.rule.Rule.TheVariants.{Acyclic, Alone, Broken, Clash, ContainCount, Empty, Forced, Full, MustContain, Need, NeedCount, NoClass, NoContainer, OneContainer, Room, ScopeBottom, ScopeIn, ScopeOut, ScopeTop, Src, Tgt, TypeLow, Under}
use Rattle.rf_tree.specs.declared.format.Format.{Format}
use Rattle.rf_tree.specs.declared.format.Format.TheVariants.{One, Two}
use Rattle.rf_tree.specs.declared.line.Line.{Line}
use Rattle.rf_tree.specs.declared.line.Line.TheVariants.{Close, Decide, Step}

-- numbers, each after a space
abbrev pub spaced : List ℕ → List ℕ
spaced ns = flat_map (λ n. codes " " ++ decimal n) ns

-- the word for an end of an edge, and for a side of a decision, each after a space
abbrev pub end_word : End → List ℕ
end_word Target = codes " target"
end_word Source = codes " source"

abbrev pub side_word : Bool → List ℕ
side_word true = codes " first"
side_word false = codes " second"

-- how a rule is written: its word, and its numbers in order
abbrev pub rule_text : Rule → List ℕ
rule_text (Empty o) = codes "empty" ++ spaced (o ∷ [])
rule_text (NoClass o) = codes "no-class" ++ spaced (o ∷ [])
rule_text (Src r a b) = codes "src" ++ spaced (r ∷ a ∷ b ∷ [])
rule_text (Tgt r a b) = codes "tgt" ++ spaced (r ∷ a ∷ b ∷ [])
rule_text (Clash r a b end) = codes "clash" ++ (spaced (r ∷ a ∷ b ∷ []) ++ end_word end)
rule_text (Full r a b) = codes "full" ++ spaced (r ∷ a ∷ b ∷ [])
rule_text (Room r a b) = codes "room" ++ spaced (r ∷ a ∷ b ∷ [])
rule_text (Need r a b) = codes "need" ++ spaced (r ∷ a ∷ b ∷ [])
rule_text (NeedCount r a b) = codes "need-count" ++ spaced (r ∷ a ∷ b ∷ [])
rule_text (TypeLow r a) = codes "type-low" ++ spaced (r ∷ a ∷ [])
rule_text (OneContainer r a b q c) = codes "one-container" ++ spaced (r ∷ a ∷ b ∷ q ∷ c ∷ [])
rule_text (Alone r a b) = codes "alone" ++ spaced (r ∷ a ∷ b ∷ [])
rule_text (MustContain r a b) = codes "must-contain" ++ spaced (r ∷ a ∷ b ∷ [])
rule_text (ContainCount r a b) = codes "contain-count" ++ spaced (r ∷ a ∷ b ∷ [])
rule_text (NoContainer b) = codes "no-container" ++ spaced (b ∷ [])
rule_text (Acyclic r a b) = codes "acyclic" ++ spaced (r ∷ a ∷ b ∷ [])
rule_text (Under z) = codes "under" ++ spaced (z ∷ [])
rule_text (ScopeTop z o) = codes "scope-top" ++ spaced (z ∷ o ∷ [])
rule_text (ScopeBottom z o) = codes "scope-bottom" ++ spaced (z ∷ o ∷ [])
rule_text (ScopeOut z o) = codes "scope-out" ++ spaced (z ∷ o ∷ [])
rule_text (ScopeIn z o) = codes "scope-in" ++ spaced (z ∷ o ∷ [])
rule_text (Broken q t) = codes "broken" ++ spaced (q ∷ t)
rule_text (Forced q k j t) = codes "forced" ++ spaced (q ∷ k ∷ j ∷ t)

-- how a decision is written, after which stands the side that comes first
abbrev pub decision_text : Decision → List ℕ
decision_text (Fresh o) = codes "new" ++ spaced (o ∷ [])
decision_text (Kind o c) = codes "type" ++ spaced (o ∷ c ∷ [])
decision_text (Ref r a b) = codes "ref" ++ spaced (r ∷ a ∷ b ∷ [])

-- the line of a document for a line of a tree
abbrev pub line_text : Line → List ℕ
line_text (Step rule) = rule_text rule
line_text (Decide d first) = decision_text d ++ side_word first
line_text (Close rule) = rule_text rule

-- a number of a reference, a class, a predicate, a scope, a clause or a literal as documents have them, and one of an object;
-- some numbers of objects, at most so many
abbrev pub IsShort : ℕ → Type 0
IsShort n = n < 2 ^ 32

abbrev pub IsLong : ℕ → Type 0
IsLong n = n < 2 ^ 64

abbrev pub AreObjects : ℕ → List ℕ → Type 0
AreObjects most t = All (λ o. o < 2 ^ 64) t × (length t ≤ most)

abbrev pub IsEdge : ℕ → ℕ → ℕ → Type 0
IsEdge r a b = IsShort r × IsLong a × IsLong b

-- the numbers of a rule, and of a decision, are such
abbrev pub FitsRule : Rule → Type 0
FitsRule (Empty o) = IsLong o
FitsRule (NoClass o) = IsLong o
FitsRule (Src r a b) = IsEdge r a b
FitsRule (Tgt r a b) = IsEdge r a b
FitsRule (Clash r a b end) = IsEdge r a b
FitsRule (Full r a b) = IsEdge r a b
FitsRule (Room r a b) = IsEdge r a b
FitsRule (Need r a b) = IsEdge r a b
FitsRule (NeedCount r a b) = IsEdge r a b
FitsRule (TypeLow r a) = IsShort r × IsLong a
FitsRule (OneContainer r a b q c) = IsEdge r a b × IsShort q × IsLong c
FitsRule (Alone r a b) = IsEdge r a b
FitsRule (MustContain r a b) = IsEdge r a b
FitsRule (ContainCount r a b) = IsEdge r a b
FitsRule (NoContainer b) = IsLong b
FitsRule (Acyclic r a b) = IsEdge r a b
FitsRule (Under z) = IsShort z
FitsRule (ScopeTop z o) = IsShort z × IsLong o
FitsRule (ScopeBottom z o) = IsShort z × IsLong o
FitsRule (ScopeOut z o) = IsShort z × IsLong o
FitsRule (ScopeIn z o) = IsShort z × IsLong o
FitsRule (Broken q t) = IsShort q × AreObjects 4 t
FitsRule (Forced q k j t) = IsShort q × IsShort k × IsShort j × AreObjects 8 t

abbrev pub FitsDecision : Decision → Type 0
FitsDecision (Fresh o) = IsLong o
FitsDecision (Kind o c) = IsLong o × IsShort c
FitsDecision (Ref r a b) = IsEdge r a b

-- whether a format has a rule: format 1 is older than `forced`
abbrev pub has_rule : Format → Rule → Bool
has_rule One (Forced q k j t) = false
has_rule _ rule = true

-- the rule of a step is no closing, and that of a closing is one
abbrev pub FitsKind : Line → Type 0
FitsKind (Step rule) = is_closing rule ≡ false
FitsKind (Decide d first) = Unit {0}
FitsKind (Close rule) = is_closing rule ≡ true

-- a document may have this line: its rule fits its kind, the format has it, and its numbers are such as documents have
abbrev pub IsWritable : Format → Line → Type 0
IsWritable format (Step rule) = (is_closing rule ≡ false) × (has_rule format rule ≡ true) × FitsRule rule
IsWritable format (Decide d first) = FitsDecision d
IsWritable format (Close rule) = (is_closing rule ≡ true) × (has_rule format rule ≡ true) × FitsRule rule

-- the first line of a document tells its format
abbrev pub head : Format → List ℕ
head One = codes "tree 1"
head Two = codes "tree 2"

-- the lines of a document: its head, one for each line of the tree, and the end
abbrev pub document_lines : Format → List Line → List (List ℕ)
document_lines format lines = head format ∷ (map line_text lines ++ codes "end" ∷ [])

-- the document of some lines in a format: these lines, each ended by a line feed, and nothing after them
abbrev pub tree_document : Format → List Line → List ℕ
tree_document format lines = joined_lines (document_lines format lines)

-- the bytes are a document of these lines
pub record IsTreeDocument (lines : List Line) (bytes : List ℕ) : Type 0 where
  pub format : Format
  pub writable : All (IsWritable format) lines
  pub spelled : bytes ≡ tree_document format lines

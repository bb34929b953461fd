-- Lines by their fields: a word, numbers, and a word at the end.
use Rattle.std.specs.Prelude.{◌≡◌, ◌<◌, ◌^◌, ℕ, Bool, true, false, if◌then◌else◌, nat_le, nat_lt, ◌&&◌, Option, None, Some, List, [], ◌∷◌, ◌++◌, All, decimal, length}
use Rattle.rf_rules.specs.Rules.{is_closing}
use Rattle.rf_rules.specs.declared.decision.Decision.{Decision}
use Rattle.rf_rules.specs.declared.decision.Decision.TheVariants as decision
use Rattle.rf_rules.specs.declared.rule.End.{End}
use Rattle.rf_rules.specs.declared.rule.End.TheVariants as end
use Rattle.rf_rules.specs.declared.rule.Rule.{Rule}
use Rattle.rf_rules.specs.declared.rule.Rule.TheVariants as rule
use Rattle.rf_tree.specs.Document.{FitsDecision, FitsRule, has_rule, spaced}
use Rattle.rf_tree.specs.Private.Words.{tail_spelling, word_spelling}
use Rattle.rf_tree.specs.declared.fields.Fields.{Fields}
use Rattle.rf_tree.specs.declared.format.Format.{Format}
use Rattle.rf_tree.specs.declared.line.Line.{Line}
use Rattle.rf_tree.specs.declared.line.Line.TheVariants.{Close, Decide, Step}
use Rattle.rf_tree.specs.declared.word.Tail.{Tail}
use Rattle.rf_tree.specs.declared.word.Tail.TheVariants.{First, Second, Source, Target}
use Rattle.rf_tree.specs.declared.word.Word.{Word}
use Rattle.rf_tree.specs.declared.word.Word.TheVariants.{Acyclic, Alone, Broken, Clash, ContainCount, Empty, Forced, Fresh, Full, Kind, MustContain, Need, NeedCount, NoClass, NoContainer, OneContainer, Ref, Room, ScopeBottom, ScopeIn, ScopeOut, ScopeTop, Src, Tgt, TypeLow, Under}

-- the word at the end, if there is one, after a space
abbrev pub tail_text : Option Tail → List ℕ
tail_text None = []
tail_text (Some tail) = 32 ∷ tail_spelling tail

-- how fields are written
abbrev pub fields_text : Fields → List ℕ
fields_text f = word_spelling f.word ++ (spaced f.numbers ++ tail_text f.tail)

-- no space is in the bytes; nothing follows a word, or a space does
abbrev pub NoSpace : List ℕ → Type 0
NoSpace bytes = All (λ b. b ≡ 32 → ⊥) bytes

abbrev pub EndsWord : List ℕ → Type 0
EndsWord [] = Unit {0}
EndsWord (b ∷ bs) = b ≡ 32

-- the bytes begin with a space, a number and the end of a word
pub record IsNumberFirst (bytes : List ℕ) (n : ℕ) (rest : List ℕ) : Type 0 where
  pub small : n < 2 ^ 64
  pub ended : EndsWord rest
  pub joined : bytes ≡ 32 ∷ (decimal n ++ rest)

-- the tail of a rule about an end of an edge, and that of a decision
abbrev pub end_tail : End → Tail
end_tail end.Target = Target
end_tail end.Source = Source

abbrev pub side_tail : Bool → Tail
side_tail true = First
side_tail false = Second

-- the fields of a rule, of a decision and of a line
abbrev pub rule_fields : Rule → Fields
rule_fields (rule.Empty o) = record { word = Empty; numbers = o ∷ []; tail = None }
rule_fields (rule.NoClass o) = record { word = NoClass; numbers = o ∷ []; tail = None }
rule_fields (rule.Src r a b) = record { word = Src; numbers = r ∷ a ∷ b ∷ []; tail = None }
rule_fields (rule.Tgt r a b) = record { word = Tgt; numbers = r ∷ a ∷ b ∷ []; tail = None }
rule_fields (rule.Clash r a b e) = record { word = Clash; numbers = r ∷ a ∷ b ∷ []; tail = Some (end_tail e) }
rule_fields (rule.Full r a b) = record { word = Full; numbers = r ∷ a ∷ b ∷ []; tail = None }
rule_fields (rule.Room r a b) = record { word = Room; numbers = r ∷ a ∷ b ∷ []; tail = None }
rule_fields (rule.Need r a b) = record { word = Need; numbers = r ∷ a ∷ b ∷ []; tail = None }
rule_fields (rule.NeedCount r a b) = record { word = NeedCount; numbers = r ∷ a ∷ b ∷ []; tail = None }
rule_fields (rule.TypeLow r a) = record { word = TypeLow; numbers = r ∷ a ∷ []; tail = None }
rule_fields (rule.OneContainer r a b q c) = record { word = OneContainer; numbers = r ∷ a ∷ b ∷ q ∷ c ∷ []; tail = None }
rule_fields (rule.Alone r a b) = record { word = Alone; numbers = r ∷ a ∷ b ∷ []; tail = None }
rule_fields (rule.MustContain r a b) = record { word = MustContain; numbers = r ∷ a ∷ b ∷ []; tail = None }
rule_fields (rule.ContainCount r a b) = record { word = ContainCount; numbers = r ∷ a ∷ b ∷ []; tail = None }
rule_fields (rule.NoContainer o) = record { word = NoContainer; numbers = o ∷ []; tail = None }
rule_fields (rule.Acyclic r a b) = record { word = Acyclic; numbers = r ∷ a ∷ b ∷ []; tail = None }
rule_fields (rule.Under z) = record { word = Under; numbers = z ∷ []; tail = None }
rule_fields (rule.ScopeTop z o) = record { word = ScopeTop; numbers = z ∷ o ∷ []; tail = None }
rule_fields (rule.ScopeBottom z o) = record { word = ScopeBottom; numbers = z ∷ o ∷ []; tail = None }
rule_fields (rule.ScopeOut z o) = record { word = ScopeOut; numbers = z ∷ o ∷ []; tail = None }
rule_fields (rule.ScopeIn z o) = record { word = ScopeIn; numbers = z ∷ o ∷ []; tail = None }
rule_fields (rule.Broken q t) = record { word = Broken; numbers = q ∷ t; tail = None }
rule_fields (rule.Forced q k j t) = record { word = Forced; numbers = q ∷ k ∷ j ∷ t; tail = None }

abbrev pub decision_fields : Decision → Bool → Fields
decision_fields (decision.Fresh o) first = record { word = Fresh; numbers = o ∷ []; tail = Some (side_tail first) }
decision_fields (decision.Kind o c) first = record { word = Kind; numbers = o ∷ c ∷ []; tail = Some (side_tail first) }
decision_fields (decision.Ref r a b) first = record { word = Ref; numbers = r ∷ a ∷ b ∷ []; tail = Some (side_tail first) }

abbrev pub line_fields : Line → Fields
line_fields (Step rule) = rule_fields rule
line_fields (Decide decision first) = decision_fields decision first
line_fields (Close rule) = rule_fields rule

-- the numbers of a line are such as documents have
abbrev pub FitsLine : Line → Type 0
FitsLine (Step rule) = FitsRule rule
FitsLine (Decide decision first) = FitsDecision decision
FitsLine (Close rule) = FitsRule rule

-- numbers of some forms: one of an object; one below 2^32; such a one and an object, or two objects; the other way round
abbrev pub one_of : List ℕ → Option ℕ
one_of (o ∷ []) = Some o
one_of _ = None

abbrev pub short_of : List ℕ → Option ℕ
short_of (z ∷ []) = if nat_lt z (2 ^ 32) then Some z else None
short_of _ = None

abbrev pub scoped_of : List ℕ → Option (ℕ × ℕ)
scoped_of (z ∷ o ∷ []) = if nat_lt z (2 ^ 32) then Some (z, o) else None
scoped_of _ = None

abbrev pub typed_of : List ℕ → Option (ℕ × ℕ)
typed_of (o ∷ c ∷ []) = if nat_lt c (2 ^ 32) then Some (o, c) else None
typed_of _ = None

abbrev pub edge_of : List ℕ → Option (ℕ × ℕ × ℕ)
edge_of (r ∷ a ∷ b ∷ []) = if nat_lt r (2 ^ 32) then Some (r, a, b) else None
edge_of _ = None

-- the rule of these numbers, where its word is none of the others'
abbrev pub from_one : (ℕ → Rule) → Option ℕ → Option Rule
from_one make None = None
from_one make (Some o) = Some (make o)

abbrev pub from_two : (ℕ → ℕ → Rule) → Option (ℕ × ℕ) → Option Rule
from_two make None = None
from_two make (Some n) = Some (make n.0 n.1)

abbrev pub from_edge : (ℕ → ℕ → ℕ → Rule) → Option (ℕ × ℕ × ℕ) → Option Rule
from_edge make None = None
from_edge make (Some n) = Some (make n.0 n.1 n.2)

abbrev pub one_container_of : List ℕ → Option Rule
one_container_of (r ∷ a ∷ b ∷ q ∷ c ∷ []) = if nat_lt r (2 ^ 32) && nat_lt q (2 ^ 32) then Some (rule.OneContainer r a b q c) else None
one_container_of _ = None

abbrev pub broken_of : List ℕ → Option Rule
broken_of [] = None
broken_of (q ∷ t) = if nat_lt q (2 ^ 32) && nat_le (length t) 4 then Some (rule.Broken q t) else None

abbrev pub forced_of : List ℕ → Option Rule
forced_of (q ∷ k ∷ j ∷ t) =
    if nat_lt q (2 ^ 32) && (nat_lt k (2 ^ 32) && (nat_lt j (2 ^ 32) && nat_le (length t) 8)) then Some (rule.Forced q k j t) else None
forced_of _ = None

-- the rule of a word and its numbers, where nothing follows them; of `clash`, where an end of an edge does
abbrev pub plain_rule : Word → List ℕ → Option Rule
plain_rule Empty ns = from_one rule.Empty (one_of ns)
plain_rule NoClass ns = from_one rule.NoClass (one_of ns)
plain_rule Src ns = from_edge rule.Src (edge_of ns)
plain_rule Tgt ns = from_edge rule.Tgt (edge_of ns)
plain_rule Full ns = from_edge rule.Full (edge_of ns)
plain_rule Room ns = from_edge rule.Room (edge_of ns)
plain_rule Need ns = from_edge rule.Need (edge_of ns)
plain_rule NeedCount ns = from_edge rule.NeedCount (edge_of ns)
plain_rule TypeLow ns = from_two rule.TypeLow (scoped_of ns)
plain_rule OneContainer ns = one_container_of ns
plain_rule Alone ns = from_edge rule.Alone (edge_of ns)
plain_rule MustContain ns = from_edge rule.MustContain (edge_of ns)
plain_rule ContainCount ns = from_edge rule.ContainCount (edge_of ns)
plain_rule NoContainer ns = from_one rule.NoContainer (one_of ns)
plain_rule Acyclic ns = from_edge rule.Acyclic (edge_of ns)
plain_rule Under ns = from_one rule.Under (short_of ns)
plain_rule ScopeTop ns = from_two rule.ScopeTop (scoped_of ns)
plain_rule ScopeBottom ns = from_two rule.ScopeBottom (scoped_of ns)
plain_rule ScopeOut ns = from_two rule.ScopeOut (scoped_of ns)
plain_rule ScopeIn ns = from_two rule.ScopeIn (scoped_of ns)
plain_rule Broken ns = broken_of ns
plain_rule Forced ns = forced_of ns
plain_rule _ ns = None

abbrev pub clash_rule : Word → List ℕ → End → Option Rule
clash_rule Clash ns e = from_edge (λ r a b. rule.Clash r a b e) (edge_of ns)
clash_rule _ ns e = None

abbrev pub fresh_of : Option ℕ → Option Decision
fresh_of None = None
fresh_of (Some o) = Some (decision.Fresh o)

abbrev pub kind_of : Option (ℕ × ℕ) → Option Decision
kind_of None = None
kind_of (Some n) = Some (decision.Kind n.0 n.1)

abbrev pub ref_of : Option (ℕ × ℕ × ℕ) → Option Decision
ref_of None = None
ref_of (Some n) = Some (decision.Ref n.0 n.1 n.2)

-- the decision of a word and its numbers
abbrev pub decision_of : Word → List ℕ → Option Decision
decision_of Fresh ns = fresh_of (one_of ns)
decision_of Kind ns = kind_of (typed_of ns)
decision_of Ref ns = ref_of (edge_of ns)
decision_of _ ns = None

-- the line of a rule in a format, and that of a decision
abbrev pub rule_line : Format → Option Rule → Option Line
rule_line format None = None
rule_line format (Some r) = if has_rule format r then (if is_closing r then Some (Close r) else Some (Step r)) else None

abbrev pub decision_line : Option Decision → Bool → Option Line
decision_line None first = None
decision_line (Some d) first = Some (Decide d first)

-- the line of some fields in a format
abbrev pub line_at : Format → Word → List ℕ → Option Tail → Option Line
line_at format word ns None = rule_line format (plain_rule word ns)
line_at format word ns (Some Target) = rule_line format (clash_rule word ns end.Target)
line_at format word ns (Some Source) = rule_line format (clash_rule word ns end.Source)
line_at format word ns (Some First) = decision_line (decision_of word ns) true
line_at format word ns (Some Second) = decision_line (decision_of word ns) false

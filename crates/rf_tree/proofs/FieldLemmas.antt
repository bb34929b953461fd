-- Lines and their fields: a writable line is the one of its fields, and what is read of fields has them.
use Rattle.std.proofs.Common.{◌≡◌, ◌∙◌, ℕ, ◌<◌, ◌^◌, Bool, true, false, List, [], ◌∷◌, length, refl, sym, ap, subst, arith, All, Option, Some, None, inl, inr}
use Rattle.std.specs.Prelude.{if◌then◌else◌, ◌&&◌, nat_le, nat_lt, IfSome, IfNone}
use Rattle.std.proofs.lemmas.Bool.{and_from, and_parts, cases_Bool, le-leb, leb-true, lt-ltb, ltb-true}
use Rattle.std.proofs.lemmas.List.Elements.{All-head, All-tail}
use Rattle.rf_rules.specs.Rules.{is_closing}
use Rattle.rf_rules.specs.declared.decision.Decision.{Decision}
use Rattle.rf_rules.specs.declared.decision.Decision.TheVariants as decision
use Rattle.rf_rules.specs.declared.rule.End.{End}
use Rattle.rf_rules.specs.declared.rule.End.TheVariants as end
use Rattle.rf_rules.specs.declared.rule.Rule.{Rule}
use Rattle.rf_rules.specs.declared.rule.Rule.TheVariants as rule
use Rattle.rf_tree.specs.Document.{FitsDecision, FitsRule, IsEdge, IsShort, IsWritable, has_rule}
use Rattle.rf_tree.specs.Private.Fields.{broken_of, clash_rule, decision_fields, decision_line, decision_of, edge_of, end_tail, forced_of, from_edge, from_one, from_two, kind_of, line_at, line_fields, one_container_of, one_of, plain_rule, ref_of, rule_fields, rule_line, scoped_of, short_of, side_tail}
use Rattle.rf_tree.specs.declared.fields.Fields.{Fields}
use Rattle.rf_tree.specs.declared.format.Format.{Format}
use Rattle.rf_tree.specs.declared.line.Line.{Line}
use Rattle.rf_tree.specs.declared.line.Line.TheVariants.{Close, Decide, Step}
use Rattle.rf_tree.specs.declared.word.Tail.{Tail}
use Rattle.rf_tree.specs.declared.word.Tail.TheVariants.{First, Second, Source, Target}
use Rattle.rf_tree.specs.declared.word.Word.{Word}
use Rattle.rf_tree.specs.declared.word.Word.TheVariants.{Acyclic, Alone, Broken, Clash, ContainCount, Empty, Forced, Fresh, Full, Kind, MustContain, Need, NeedCount, NoClass, NoContainer, OneContainer, Ref, Room, ScopeBottom, ScopeIn, ScopeOut, ScopeTop, Src, Tgt, TypeLow, Under}

-- the fields of a rule that fits are these
abbrev pub IsRuleOf : Word → List ℕ → Option Tail → Rule → Type 0
IsRuleOf word ns tail r = FitsRule r × (rule_fields r ≡ record { word = word; numbers = ns; tail = tail })

abbrev pub IsDecisionOf : Word → List ℕ → Tail → Decision → Bool → Type 0
IsDecisionOf word ns tail d first = FitsDecision d × (decision_fields d first ≡ record { word = word; numbers = ns; tail = Some tail })

-- an answer under a test is one where the test passes
under_test : {X : Type 0} (b : Bool) (x y : X) → (if b then Some x else None) ≡ Some y → (b ≡ true) × (x ≡ y)
under_test b x y e = elim (cases_Bool b) [
  | inl passes ↦ (let made : Some x ≡ Some y = sym (ap (λ t. if t then Some x else None) passes) ∙ e in (passes, cc))
  | inr fails ↦ (let none : None ≡ Some y = sym (ap (λ t. if t then Some x else None) fails) ∙ e in cc)
]

-- what is read of numbers of each form
from_one_is :
    (word : Word) (make : ℕ → Rule) (ns : List ℕ) (r : Rule) → All (λ o. o < 2 ^ 64) ns
    → ((o : ℕ) → o < 2 ^ 64 → IsRuleOf word (o ∷ []) None (make o)) → from_one make (one_of ns) ≡ Some r → IsRuleOf word ns None r
from_one_is word make [] r long is e = let none : None ≡ Some r = e in cc
from_one_is word make (o ∷ []) r long is e =
    let made : Some (make o) ≡ Some r = e in
    let same : make o ≡ r = cc in
    subst (IsRuleOf word (o ∷ []) None) same (is o (All-head (λ o. o < 2 ^ 64) o [] long))
from_one_is word make (o ∷ p ∷ ns) r long is e = let none : None ≡ Some r = e in cc

from_short_is :
    (word : Word) (make : ℕ → Rule) (ns : List ℕ) (r : Rule)
    → ((z : ℕ) → z < 2 ^ 32 → IsRuleOf word (z ∷ []) None (make z)) → from_one make (short_of ns) ≡ Some r → IsRuleOf word ns None r
from_short_is word make [] r is e = let none : None ≡ Some r = e in cc
from_short_is word make (z ∷ []) r is e = elim (cases_Bool (nat_lt z (2 ^ 32))) [
  | inl passes ↦ (let made : Some (make z) ≡ Some r = sym (ap (λ t. from_one make (if t then Some z else None)) passes) ∙ e in
      let same : make z ≡ r = cc in
      subst (IsRuleOf word (z ∷ []) None) same (is z (ltb-true z (2 ^ 32) passes)))
  | inr fails ↦ (let none : None ≡ Some r = sym (ap (λ t. from_one make (if t then Some z else None)) fails) ∙ e in cc)
]
from_short_is word make (z ∷ p ∷ ns) r is e = let none : None ≡ Some r = e in cc

from_scoped_is :
    (word : Word) (make : ℕ → ℕ → Rule) (ns : List ℕ) (r : Rule) → All (λ o. o < 2 ^ 64) ns
    → ((z o : ℕ) → IsShort z × (o < 2 ^ 64) → IsRuleOf word (z ∷ o ∷ []) None (make z o)) → from_two make (scoped_of ns) ≡ Some r
    → IsRuleOf word ns None r
from_scoped_is word make [] r long is e = let none : None ≡ Some r = e in cc
from_scoped_is word make (z ∷ []) r long is e = let none : None ≡ Some r = e in cc
from_scoped_is word make (z ∷ o ∷ []) r long is e = elim (cases_Bool (nat_lt z (2 ^ 32))) [
  | inl passes ↦ (let made : Some (make z o) ≡ Some r = sym (ap (λ t. from_two make (if t then Some (z, o) else None)) passes) ∙ e in
      let same : make z o ≡ r = cc in
      subst (IsRuleOf word (z ∷ o ∷ []) None) same (is z o (ltb-true z (2 ^ 32) passes, All-head (λ o. o < 2 ^ 64) o [] (All-tail (λ o. o < 2 ^ 64) z (o ∷ []) long))))
  | inr fails ↦ (let none : None ≡ Some r = sym (ap (λ t. from_two make (if t then Some (z, o) else None)) fails) ∙ e in cc)
]
from_scoped_is word make (z ∷ o ∷ p ∷ ns) r long is e = let none : None ≡ Some r = e in cc

second_long : (x y : ℕ) (ns : List ℕ) → All (λ o. o < 2 ^ 64) (x ∷ y ∷ ns) → y < 2 ^ 64
second_long x y ns long = long 1 y (omega arith)

third_long : (x y z : ℕ) (ns : List ℕ) → All (λ o. o < 2 ^ 64) (x ∷ y ∷ z ∷ ns) → z < 2 ^ 64
third_long x y z ns long = long 2 z (omega arith)

from_edge_is :
    (word : Word) (tail : Option Tail) (make : ℕ → ℕ → ℕ → Rule) (ns : List ℕ) (r : Rule) → All (λ o. o < 2 ^ 64) ns
    → ((q a b : ℕ) → IsEdge q a b → IsRuleOf word (q ∷ a ∷ b ∷ []) tail (make q a b)) → from_edge make (edge_of ns) ≡ Some r → IsRuleOf word ns tail r
from_edge_is word tail make [] r long is e = let none : None ≡ Some r = e in cc
from_edge_is word tail make (q ∷ []) r long is e = let none : None ≡ Some r = e in cc
from_edge_is word tail make (q ∷ a ∷ []) r long is e = let none : None ≡ Some r = e in cc
from_edge_is word tail make (q ∷ a ∷ b ∷ []) r long is e = elim (cases_Bool (nat_lt q (2 ^ 32))) [
  | inl passes ↦ (let made : Some (make q a b) ≡ Some r = sym (ap (λ t. from_edge make (if t then Some (q, a, b) else None)) passes) ∙ e in
      let same : make q a b ≡ r = cc in
      subst (IsRuleOf word (q ∷ a ∷ b ∷ []) tail) same (is q a b (ltb-true q (2 ^ 32) passes, second_long q a (b ∷ []) long, third_long q a b [] long)))
  | inr fails ↦ (let none : None ≡ Some r = sym (ap (λ t. from_edge make (if t then Some (q, a, b) else None)) fails) ∙ e in cc)
]
from_edge_is word tail make (q ∷ a ∷ b ∷ p ∷ ns) r long is e = let none : None ≡ Some r = e in cc

one_container_is : (ns : List ℕ) (r : Rule) → All (λ o. o < 2 ^ 64) ns → one_container_of ns ≡ Some r → IsRuleOf OneContainer ns None r
one_container_is [] r long e = let none : None ≡ Some r = e in cc
one_container_is (q ∷ []) r long e = let none : None ≡ Some r = e in cc
one_container_is (q ∷ a ∷ []) r long e = let none : None ≡ Some r = e in cc
one_container_is (q ∷ a ∷ b ∷ []) r long e = let none : None ≡ Some r = e in cc
one_container_is (q ∷ a ∷ b ∷ s ∷ []) r long e = let none : None ≡ Some r = e in cc
one_container_is (q ∷ a ∷ b ∷ s ∷ c ∷ []) r long e =
    let ns = q ∷ a ∷ b ∷ s ∷ c ∷ [] in
    let found = under_test (nat_lt q (2 ^ 32) && nat_lt s (2 ^ 32)) (rule.OneContainer q a b s c) r e in
    let parts = and_parts (nat_lt q (2 ^ 32)) (nat_lt s (2 ^ 32)) found.0 in
    let edge : IsEdge q a b = (ltb-true q (2 ^ 32) parts.0, second_long q a (b ∷ s ∷ c ∷ []) long, third_long q a b (s ∷ c ∷ []) long) in
    subst (IsRuleOf OneContainer ns None) found.1 ((edge, ltb-true s (2 ^ 32) parts.1, long 4 c (omega arith)), refl)
one_container_is (q ∷ a ∷ b ∷ s ∷ c ∷ p ∷ ns) r long e = let none : None ≡ Some r = e in cc

broken_is : (ns : List ℕ) (r : Rule) → All (λ o. o < 2 ^ 64) ns → broken_of ns ≡ Some r → IsRuleOf Broken ns None r
broken_is [] r long e = let none : None ≡ Some r = e in cc
broken_is (q ∷ t) r long e =
    let found = under_test (nat_lt q (2 ^ 32) && nat_le (length t) 4) (rule.Broken q t) r e in
    let parts = and_parts (nat_lt q (2 ^ 32)) (nat_le (length t) 4) found.0 in
    subst (IsRuleOf Broken (q ∷ t) None) found.1
    ((ltb-true q (2 ^ 32) parts.0, (All-tail (λ o. o < 2 ^ 64) q t long, leb-true (length t) 4 parts.1)), refl)

forced_is : (ns : List ℕ) (r : Rule) → All (λ o. o < 2 ^ 64) ns → forced_of ns ≡ Some r → IsRuleOf Forced ns None r
forced_is [] r long e = let none : None ≡ Some r = e in cc
forced_is (q ∷ []) r long e = let none : None ≡ Some r = e in cc
forced_is (q ∷ k ∷ []) r long e = let none : None ≡ Some r = e in cc
forced_is (q ∷ k ∷ j ∷ t) r long e =
    let short_k = nat_lt k (2 ^ 32) in
    let short_j = nat_lt j (2 ^ 32) in
    let few = nat_le (length t) 8 in
    let found = under_test (nat_lt q (2 ^ 32) && (short_k && (short_j && few))) (rule.Forced q k j t) r e in
    let first = and_parts (nat_lt q (2 ^ 32)) (short_k && (short_j && few)) found.0 in
    let second = and_parts short_k (short_j && few) first.1 in
    let third = and_parts short_j few second.1 in
    let objects = All-tail (λ o. o < 2 ^ 64) j t (All-tail (λ o. o < 2 ^ 64) k (j ∷ t) (All-tail (λ o. o < 2 ^ 64) q (k ∷ j ∷ t) long)) in
    subst (IsRuleOf Forced (q ∷ k ∷ j ∷ t) None) found.1
    ((ltb-true q (2 ^ 32) first.0, ltb-true k (2 ^ 32) second.0, ltb-true j (2 ^ 32) third.0, (objects, leb-true (length t) 8 third.1)), refl)

-- what is read of a word and its numbers
plain_is : (word : Word) (ns : List ℕ) (r : Rule) → All (λ o. o < 2 ^ 64) ns → plain_rule word ns ≡ Some r → IsRuleOf word ns None r
plain_is Empty ns r long e = from_one_is Empty rule.Empty ns r long (λ o h. (h, refl)) e
plain_is NoClass ns r long e = from_one_is NoClass rule.NoClass ns r long (λ o h. (h, refl)) e
plain_is Src ns r long e = from_edge_is Src None rule.Src ns r long (λ q a b h. (h, refl)) e
plain_is Tgt ns r long e = from_edge_is Tgt None rule.Tgt ns r long (λ q a b h. (h, refl)) e
plain_is Clash ns r long e = let none : None ≡ Some r = e in cc
plain_is Full ns r long e = from_edge_is Full None rule.Full ns r long (λ q a b h. (h, refl)) e
plain_is Room ns r long e = from_edge_is Room None rule.Room ns r long (λ q a b h. (h, refl)) e
plain_is Need ns r long e = from_edge_is Need None rule.Need ns r long (λ q a b h. (h, refl)) e
plain_is NeedCount ns r long e = from_edge_is NeedCount None rule.NeedCount ns r long (λ q a b h. (h, refl)) e
plain_is TypeLow ns r long e = from_scoped_is TypeLow rule.TypeLow ns r long (λ z o h. (h, refl)) e
plain_is OneContainer ns r long e = one_container_is ns r long e
plain_is Alone ns r long e = from_edge_is Alone None rule.Alone ns r long (λ q a b h. (h, refl)) e
plain_is MustContain ns r long e = from_edge_is MustContain None rule.MustContain ns r long (λ q a b h. (h, refl)) e
plain_is ContainCount ns r long e = from_edge_is ContainCount None rule.ContainCount ns r long (λ q a b h. (h, refl)) e
plain_is NoContainer ns r long e = from_one_is NoContainer rule.NoContainer ns r long (λ o h. (h, refl)) e
plain_is Acyclic ns r long e = from_edge_is Acyclic None rule.Acyclic ns r long (λ q a b h. (h, refl)) e
plain_is Under ns r long e = from_short_is Under rule.Under ns r (λ z h. (h, refl)) e
plain_is ScopeTop ns r long e = from_scoped_is ScopeTop rule.ScopeTop ns r long (λ z o h. (h, refl)) e
plain_is ScopeBottom ns r long e = from_scoped_is ScopeBottom rule.ScopeBottom ns r long (λ z o h. (h, refl)) e
plain_is ScopeOut ns r long e = from_scoped_is ScopeOut rule.ScopeOut ns r long (λ z o h. (h, refl)) e
plain_is ScopeIn ns r long e = from_scoped_is ScopeIn rule.ScopeIn ns r long (λ z o h. (h, refl)) e
plain_is Broken ns r long e = broken_is ns r long e
plain_is Forced ns r long e = forced_is ns r long e
plain_is Fresh ns r long e = let none : None ≡ Some r = e in cc
plain_is Kind ns r long e = let none : None ≡ Some r = e in cc
plain_is Ref ns r long e = let none : None ≡ Some r = e in cc

clash_is : (word : Word) (ns : List ℕ) (e : End) (r : Rule) → All (λ o. o < 2 ^ 64) ns → clash_rule word ns e ≡ Some r → IsRuleOf word ns (Some (end_tail e)) r
clash_is Clash ns e r long is = from_edge_is Clash (Some (end_tail e)) (λ q a b. rule.Clash q a b e) ns r long (λ q a b h. (h, refl)) is
clash_is Empty ns e r long is = let none : None ≡ Some r = is in cc
clash_is NoClass ns e r long is = let none : None ≡ Some r = is in cc
clash_is Src ns e r long is = let none : None ≡ Some r = is in cc
clash_is Tgt ns e r long is = let none : None ≡ Some r = is in cc
clash_is Full ns e r long is = let none : None ≡ Some r = is in cc
clash_is Room ns e r long is = let none : None ≡ Some r = is in cc
clash_is Need ns e r long is = let none : None ≡ Some r = is in cc
clash_is NeedCount ns e r long is = let none : None ≡ Some r = is in cc
clash_is TypeLow ns e r long is = let none : None ≡ Some r = is in cc
clash_is OneContainer ns e r long is = let none : None ≡ Some r = is in cc
clash_is Alone ns e r long is = let none : None ≡ Some r = is in cc
clash_is MustContain ns e r long is = let none : None ≡ Some r = is in cc
clash_is ContainCount ns e r long is = let none : None ≡ Some r = is in cc
clash_is NoContainer ns e r long is = let none : None ≡ Some r = is in cc
clash_is Acyclic ns e r long is = let none : None ≡ Some r = is in cc
clash_is Under ns e r long is = let none : None ≡ Some r = is in cc
clash_is ScopeTop ns e r long is = let none : None ≡ Some r = is in cc
clash_is ScopeBottom ns e r long is = let none : None ≡ Some r = is in cc
clash_is ScopeOut ns e r long is = let none : None ≡ Some r = is in cc
clash_is ScopeIn ns e r long is = let none : None ≡ Some r = is in cc
clash_is Broken ns e r long is = let none : None ≡ Some r = is in cc
clash_is Forced ns e r long is = let none : None ≡ Some r = is in cc
clash_is Fresh ns e r long is = let none : None ≡ Some r = is in cc
clash_is Kind ns e r long is = let none : None ≡ Some r = is in cc
clash_is Ref ns e r long is = let none : None ≡ Some r = is in cc

fresh_is : (ns : List ℕ) (d : Decision) (first : Bool) → All (λ o. o < 2 ^ 64) ns → decision_of Fresh ns ≡ Some d → IsDecisionOf Fresh ns (side_tail first) d first
fresh_is [] d first long e = let none : None ≡ Some d = e in cc
fresh_is (o ∷ []) d first long e =
    let made : Some (decision.Fresh o) ≡ Some d = e in
    let same : decision.Fresh o ≡ d = cc in
    subst (λ x. IsDecisionOf Fresh (o ∷ []) (side_tail first) x first) same (All-head (λ o. o < 2 ^ 64) o [] long, refl)
fresh_is (o ∷ p ∷ ns) d first long e = let none : None ≡ Some d = e in cc

kind_is : (ns : List ℕ) (d : Decision) (first : Bool) → All (λ o. o < 2 ^ 64) ns → decision_of Kind ns ≡ Some d → IsDecisionOf Kind ns (side_tail first) d first
kind_is [] d first long e = let none : None ≡ Some d = e in cc
kind_is (o ∷ []) d first long e = let none : None ≡ Some d = e in cc
kind_is (o ∷ c ∷ []) d first long e = elim (cases_Bool (nat_lt c (2 ^ 32))) [
  | inl passes ↦ (let made : Some (decision.Kind o c) ≡ Some d = sym (ap (λ t. kind_of (if t then Some (o, c) else None)) passes) ∙ e in
      let same : decision.Kind o c ≡ d = cc in
      subst (λ x. IsDecisionOf Kind (o ∷ c ∷ []) (side_tail first) x first) same ((All-head (λ o. o < 2 ^ 64) o (c ∷ []) long, ltb-true c (2 ^ 32) passes), refl))
  | inr fails ↦ (let none : None ≡ Some d = sym (ap (λ t. kind_of (if t then Some (o, c) else None)) fails) ∙ e in cc)
]
kind_is (o ∷ c ∷ p ∷ ns) d first long e = let none : None ≡ Some d = e in cc

ref_is : (ns : List ℕ) (d : Decision) (first : Bool) → All (λ o. o < 2 ^ 64) ns → decision_of Ref ns ≡ Some d → IsDecisionOf Ref ns (side_tail first) d first
ref_is [] d first long e = let none : None ≡ Some d = e in cc
ref_is (q ∷ []) d first long e = let none : None ≡ Some d = e in cc
ref_is (q ∷ a ∷ []) d first long e = let none : None ≡ Some d = e in cc
ref_is (q ∷ a ∷ b ∷ []) d first long e = elim (cases_Bool (nat_lt q (2 ^ 32))) [
  | inl passes ↦ (let made : Some (decision.Ref q a b) ≡ Some d = sym (ap (λ t. ref_of (if t then Some (q, a, b) else None)) passes) ∙ e in
      let same : decision.Ref q a b ≡ d = cc in
      subst (λ x. IsDecisionOf Ref (q ∷ a ∷ b ∷ []) (side_tail first) x first) same
      ((ltb-true q (2 ^ 32) passes, second_long q a (b ∷ []) long, third_long q a b [] long), refl))
  | inr fails ↦ (let none : None ≡ Some d = sym (ap (λ t. ref_of (if t then Some (q, a, b) else None)) fails) ∙ e in cc)
]
ref_is (q ∷ a ∷ b ∷ p ∷ ns) d first long e = let none : None ≡ Some d = e in cc

decision_is :
    (word : Word) (ns : List ℕ) (d : Decision) (first : Bool) → All (λ o. o < 2 ^ 64) ns → decision_of word ns ≡ Some d
    → IsDecisionOf word ns (side_tail first) d first
decision_is Empty ns d first long e = let none : None ≡ Some d = e in cc
decision_is NoClass ns d first long e = let none : None ≡ Some d = e in cc
decision_is Src ns d first long e = let none : None ≡ Some d = e in cc
decision_is Tgt ns d first long e = let none : None ≡ Some d = e in cc
decision_is Clash ns d first long e = let none : None ≡ Some d = e in cc
decision_is Full ns d first long e = let none : None ≡ Some d = e in cc
decision_is Room ns d first long e = let none : None ≡ Some d = e in cc
decision_is Need ns d first long e = let none : None ≡ Some d = e in cc
decision_is NeedCount ns d first long e = let none : None ≡ Some d = e in cc
decision_is TypeLow ns d first long e = let none : None ≡ Some d = e in cc
decision_is OneContainer ns d first long e = let none : None ≡ Some d = e in cc
decision_is Alone ns d first long e = let none : None ≡ Some d = e in cc
decision_is MustContain ns d first long e = let none : None ≡ Some d = e in cc
decision_is ContainCount ns d first long e = let none : None ≡ Some d = e in cc
decision_is NoContainer ns d first long e = let none : None ≡ Some d = e in cc
decision_is Acyclic ns d first long e = let none : None ≡ Some d = e in cc
decision_is Under ns d first long e = let none : None ≡ Some d = e in cc
decision_is ScopeTop ns d first long e = let none : None ≡ Some d = e in cc
decision_is ScopeBottom ns d first long e = let none : None ≡ Some d = e in cc
decision_is ScopeOut ns d first long e = let none : None ≡ Some d = e in cc
decision_is ScopeIn ns d first long e = let none : None ≡ Some d = e in cc
decision_is Broken ns d first long e = let none : None ≡ Some d = e in cc
decision_is Forced ns d first long e = let none : None ≡ Some d = e in cc
decision_is Fresh ns d first long e = fresh_is ns d first long e
decision_is Kind ns d first long e = kind_is ns d first long e
decision_is Ref ns d first long e = ref_is ns d first long e

-- a writable line with these fields
abbrev pub IsLineOf : Format → Fields → Line → Type 0
IsLineOf format fields line = IsWritable format line × (line_fields line ≡ fields)

rule_line_is :
    (format : Format) (word : Word) (ns : List ℕ) (tail : Option Tail) (r : Option Rule) (line : Line)
    → ((x : Rule) → r ≡ Some x → IsRuleOf word ns tail x) → rule_line format r ≡ Some line
    → IsLineOf format (record { word = word; numbers = ns; tail = tail }) line
rule_line_is format word ns tail None line is e = let none : None ≡ Some line = e in cc
rule_line_is format word ns tail (Some x) line is e = elim (cases_Bool (has_rule format x)) [
  | inl has ↦ elim (cases_Bool (is_closing x)) [
    | inl closes ↦ (let made : Some (Close x) ≡ Some line = sym (ap (λ t. if t then (if is_closing x then Some (Close x) else Some (Step x)) else None) has
        ∙ ap (λ t. if t then Some (Close x) else Some (Step x)) closes) ∙ e in
        let same : Close x ≡ line = cc in
        let of = is x refl in
        subst (IsLineOf format (record { word = word; numbers = ns; tail = tail })) same ((closes, has, of.0), of.1))
    | inr steps ↦ (let made : Some (Step x) ≡ Some line = sym (ap (λ t. if t then (if is_closing x then Some (Close x) else Some (Step x)) else None) has
        ∙ ap (λ t. if t then Some (Close x) else Some (Step x)) steps) ∙ e in
        let same : Step x ≡ line = cc in
        let of = is x refl in
        subst (IsLineOf format (record { word = word; numbers = ns; tail = tail })) same ((steps, has, of.0), of.1))
  ]
  | inr lacks ↦ (let none : None ≡ Some line = sym (ap (λ t. if t then (if is_closing x then Some (Close x) else Some (Step x)) else None) lacks) ∙ e in cc)
]

decision_line_is :
    (format : Format) (word : Word) (ns : List ℕ) (d : Option Decision) (first : Bool) (line : Line)
    → ((x : Decision) → d ≡ Some x → IsDecisionOf word ns (side_tail first) x first) → decision_line d first ≡ Some line
    → IsLineOf format (record { word = word; numbers = ns; tail = Some (side_tail first) }) line
decision_line_is format word ns None first line is e = let none : None ≡ Some line = e in cc
decision_line_is format word ns (Some x) first line is e =
    let made : Some (Decide x first) ≡ Some line = e in
    let same : Decide x first ≡ line = cc in
    subst (IsLineOf format (record { word = word; numbers = ns; tail = Some (side_tail first) })) same (is x refl)

-- the line that is read of fields is writable and has them
pub line_is :
    (format : Format) (word : Word) (ns : List ℕ) (tail : Option Tail) (line : Line) → All (λ o. o < 2 ^ 64) ns
    → line_at format word ns tail ≡ Some line → IsLineOf format (record { word = word; numbers = ns; tail = tail }) line
line_is format word ns None line long e = rule_line_is format word ns None (plain_rule word ns) line (λ x. plain_is word ns x long) e
line_is format word ns (Some Target) line long e =
    rule_line_is format word ns (Some Target) (clash_rule word ns end.Target) line (λ x. clash_is word ns end.Target x long) e
line_is format word ns (Some Source) line long e =
    rule_line_is format word ns (Some Source) (clash_rule word ns end.Source) line (λ x. clash_is word ns end.Source x long) e
line_is format word ns (Some First) line long e = decision_line_is format word ns (decision_of word ns) true line (λ x. decision_is word ns x true long) e
line_is format word ns (Some Second) line long e = decision_line_is format word ns (decision_of word ns) false line (λ x. decision_is word ns x false long) e

-- the other way round: a rule that fits is the one of its fields
abbrev pub line_of_fields : Format → Fields → Option Line
line_of_fields format f = line_at format f.word f.numbers f.tail

short_passes : {X : Type 0} (n : ℕ) (x : X) → n < 2 ^ 32 → (if nat_lt n (2 ^ 32) then Some x else None) ≡ Some x
short_passes n x h = ap (λ t. if t then Some x else None) (lt-ltb n (2 ^ 32) h)

rule_back : (format : Format) (r : Rule) → FitsRule r → line_of_fields format (rule_fields r) ≡ rule_line format (Some r)
rule_back format (rule.Empty o) h = refl
rule_back format (rule.NoClass o) h = refl
rule_back format (rule.Src q a b) h = ap (λ n. rule_line format (from_edge rule.Src n)) (short_passes q (q, a, b) h.0)
rule_back format (rule.Tgt q a b) h = ap (λ n. rule_line format (from_edge rule.Tgt n)) (short_passes q (q, a, b) h.0)
rule_back format (rule.Clash q a b end.Target) h =
    ap (λ n. rule_line format (from_edge (λ r a b. rule.Clash r a b end.Target) n)) (short_passes q (q, a, b) h.0)
rule_back format (rule.Clash q a b end.Source) h =
    ap (λ n. rule_line format (from_edge (λ r a b. rule.Clash r a b end.Source) n)) (short_passes q (q, a, b) h.0)
rule_back format (rule.Full q a b) h = ap (λ n. rule_line format (from_edge rule.Full n)) (short_passes q (q, a, b) h.0)
rule_back format (rule.Room q a b) h = ap (λ n. rule_line format (from_edge rule.Room n)) (short_passes q (q, a, b) h.0)
rule_back format (rule.Need q a b) h = ap (λ n. rule_line format (from_edge rule.Need n)) (short_passes q (q, a, b) h.0)
rule_back format (rule.NeedCount q a b) h = ap (λ n. rule_line format (from_edge rule.NeedCount n)) (short_passes q (q, a, b) h.0)
rule_back format (rule.TypeLow z o) h = ap (λ n. rule_line format (from_two rule.TypeLow n)) (short_passes z (z, o) h.0)
rule_back format (rule.OneContainer q a b s c) h =
    ap (λ t. rule_line format (if t then Some (rule.OneContainer q a b s c) else None))
    (and_from (nat_lt q (2 ^ 32)) (nat_lt s (2 ^ 32)) (lt-ltb q (2 ^ 32) h.0.0) (lt-ltb s (2 ^ 32) h.1))
rule_back format (rule.Alone q a b) h = ap (λ n. rule_line format (from_edge rule.Alone n)) (short_passes q (q, a, b) h.0)
rule_back format (rule.MustContain q a b) h = ap (λ n. rule_line format (from_edge rule.MustContain n)) (short_passes q (q, a, b) h.0)
rule_back format (rule.ContainCount q a b) h = ap (λ n. rule_line format (from_edge rule.ContainCount n)) (short_passes q (q, a, b) h.0)
rule_back format (rule.NoContainer o) h = refl
rule_back format (rule.Acyclic q a b) h = ap (λ n. rule_line format (from_edge rule.Acyclic n)) (short_passes q (q, a, b) h.0)
rule_back format (rule.Under z) h = ap (λ n. rule_line format (from_one rule.Under n)) (short_passes z z h)
rule_back format (rule.ScopeTop z o) h = ap (λ n. rule_line format (from_two rule.ScopeTop n)) (short_passes z (z, o) h.0)
rule_back format (rule.ScopeBottom z o) h = ap (λ n. rule_line format (from_two rule.ScopeBottom n)) (short_passes z (z, o) h.0)
rule_back format (rule.ScopeOut z o) h = ap (λ n. rule_line format (from_two rule.ScopeOut n)) (short_passes z (z, o) h.0)
rule_back format (rule.ScopeIn z o) h = ap (λ n. rule_line format (from_two rule.ScopeIn n)) (short_passes z (z, o) h.0)
rule_back format (rule.Broken q t) h =
    ap (λ b. rule_line format (if b then Some (rule.Broken q t) else None))
    (and_from (nat_lt q (2 ^ 32)) (nat_le (length t) 4) (lt-ltb q (2 ^ 32) h.0) (le-leb (length t) 4 h.1.1))
rule_back format (rule.Forced q k j t) h =
    ap (λ b. rule_line format (if b then Some (rule.Forced q k j t) else None))
    (and_from (nat_lt q (2 ^ 32)) (nat_lt k (2 ^ 32) && (nat_lt j (2 ^ 32) && nat_le (length t) 8)) (lt-ltb q (2 ^ 32) h.0)
    (and_from (nat_lt k (2 ^ 32)) (nat_lt j (2 ^ 32) && nat_le (length t) 8) (lt-ltb k (2 ^ 32) h.1)
    (and_from (nat_lt j (2 ^ 32)) (nat_le (length t) 8) (lt-ltb j (2 ^ 32) h.2) (le-leb (length t) 8 h.3.1))))

decision_back :
    (format : Format) (d : Decision) (first : Bool) → FitsDecision d → line_of_fields format (decision_fields d first) ≡ Some (Decide d first)
decision_back format (decision.Fresh o) true h = refl
decision_back format (decision.Fresh o) false h = refl
decision_back format (decision.Kind o c) true h = ap (λ n. decision_line (kind_of n) true) (short_passes c (o, c) h.1)
decision_back format (decision.Kind o c) false h = ap (λ n. decision_line (kind_of n) false) (short_passes c (o, c) h.1)
decision_back format (decision.Ref q a b) true h = ap (λ n. decision_line (ref_of n) true) (short_passes q (q, a, b) h.0)
decision_back format (decision.Ref q a b) false h = ap (λ n. decision_line (ref_of n) false) (short_passes q (q, a, b) h.0)

-- a writable line is the one of its fields
pub line_back : (format : Format) (line : Line) → IsWritable format line → line_of_fields format (line_fields line) ≡ Some line
line_back format (Step r) h =
    rule_back format r h.2 ∙ ap (λ t. if t then (if is_closing r then Some (Close r) else Some (Step r)) else None) h.1 ∙ ap (λ t. if t then Some (Close r) else Some (Step r)) h.0
line_back format (Decide d first) h = decision_back format d first h
line_back format (Close r) h =
    rule_back format r h.2 ∙ ap (λ t. if t then (if is_closing r then Some (Close r) else Some (Step r)) else None) h.1 ∙ ap (λ t. if t then Some (Close r) else Some (Step r)) h.0

-- so writable lines with the same fields are the same
pub one_line_of : (format : Format) (a b : Line) → IsWritable format a → IsWritable format b → line_fields a ≡ line_fields b → a ≡ b
one_line_of format a b wa wb e =
    let both : Some a ≡ Some b = sym (line_back format a wa) ∙ ap (line_of_fields format) e ∙ line_back format b wb in
    cc

-- what these say of an answer
pub line_found :
    (format : Format) (f : Fields) (r : Option Line) → All (λ o. o < 2 ^ 64) f.numbers → r ≡ line_of_fields format f → IfSome r (IsLineOf format f)
line_found format f None long e = tt
line_found format f (Some line) long e = line_is format f.word f.numbers f.tail line long (sym e)

pub line_none :
    (format : Format) (f : Fields) (r : Option Line) → r ≡ line_of_fields format f
    → IfNone r ((line : Line) → IsWritable format line → line_fields line ≡ f → ⊥)
line_none format f None e = λ line writable same.
    let both : None ≡ Some line = e ∙ sym (ap (line_of_fields format) same) ∙ line_back format line writable in
    cc
line_none format f (Some x) e = tt

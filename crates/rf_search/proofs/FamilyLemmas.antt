-- The families of rules follow each other in the order of rules.
use Rattle.std.proofs.Common.{◌≡◌, ℕ, ◌≤◌, ◌<◌, Bool, true, ◌&&◌, nat_le, nat_lt, Option, Some, None, List, [], ◌∷◌, refl, sym, ap, ◌∙◌, subst, inl, inr, arith, lt-ltb}
use Rattle.std.specs.Cmp.Lexicographic.{slice_cmp}
use Rattle.std.specs.Option.{option_or}
use Rattle.std.specs.Ordering.{nat_cmp, ordering_reverse, ordering_then}
use Rattle.std.specs.declared.cmp.Ordering.TheVariants.{Less, Greater}
use Rattle.std.proofs.lemmas.Bool.{and_from, cases_lt, le-leb, ltb-true, and_parts}
use Rattle.std.proofs.lemmas.Cmp.{nat_cmp_total}
use Rattle.rf_problem.specs.declared.problem.Problem.{Problem}
use Rattle.rf_state.specs.State.{State}
use Rattle.rf_rules.specs.Rules.{end_number, fires, place, rule_cmp}
use Rattle.rf_rules.specs.declared.rule.Rule.{Rule}
use Rattle.rf_rules.specs.declared.rule.Rule.TheVariants.{Acyclic, Alone, Broken, Clash, ContainCount, Empty, Forced, Full, MustContain, Need, NeedCount, NoClass, NoContainer, OneContainer, Room, ScopeBottom, ScopeIn, ScopeOut, ScopeTop, Src, Tgt, TypeLow, Under}
use Rattle.rf_pending.specs.Families.{IsLeastOf, is_of_containment, is_of_degrees, is_of_predicates, is_of_scopes, is_of_types}
use Rattle.rf_search.specs.Laws.{FamiliesAreInOrder}
use Rattle.rf_search.specs.Least.{IsLeast}

-- the line of a rule in the table, and its numbers
abbrev line : Rule → ℕ
line (Empty o) = 0
line (NoClass o) = 1
line (Src r a b) = 2
line (Tgt r a b) = 3
line (Clash r a b end) = 4
line (Full r a b) = 5
line (Room r a b) = 6
line (Need r a b) = 7
line (NeedCount r a b) = 8
line (TypeLow r a) = 9
line (OneContainer r a b q c) = 10
line (Alone r a b) = 11
line (MustContain r a b) = 12
line (ContainCount r a b) = 13
line (NoContainer b) = 14
line (Acyclic r a b) = 15
line (Under z) = 16
line (ScopeTop z o) = 17
line (ScopeBottom z o) = 18
line (ScopeOut z o) = 19
line (ScopeIn z o) = 20
line (Broken q t) = 21
line (Forced q k j t) = 22

abbrev numbers : Rule → List ℕ
numbers (Empty o) = o ∷ []
numbers (NoClass o) = o ∷ []
numbers (Src r a b) = r ∷ a ∷ b ∷ []
numbers (Tgt r a b) = r ∷ a ∷ b ∷ []
numbers (Clash r a b end) = r ∷ a ∷ b ∷ end_number end ∷ []
numbers (Full r a b) = r ∷ a ∷ b ∷ []
numbers (Room r a b) = r ∷ a ∷ b ∷ []
numbers (Need r a b) = r ∷ a ∷ b ∷ []
numbers (NeedCount r a b) = r ∷ a ∷ b ∷ []
numbers (TypeLow r a) = r ∷ a ∷ []
numbers (OneContainer r a b q c) = r ∷ a ∷ b ∷ q ∷ c ∷ []
numbers (Alone r a b) = r ∷ a ∷ b ∷ []
numbers (MustContain r a b) = r ∷ a ∷ b ∷ []
numbers (ContainCount r a b) = r ∷ a ∷ b ∷ []
numbers (NoContainer b) = b ∷ []
numbers (Acyclic r a b) = r ∷ a ∷ b ∷ []
numbers (Under z) = z ∷ []
numbers (ScopeTop z o) = z ∷ o ∷ []
numbers (ScopeBottom z o) = z ∷ o ∷ []
numbers (ScopeOut z o) = z ∷ o ∷ []
numbers (ScopeIn z o) = z ∷ o ∷ []
numbers (Broken q t) = q ∷ t
numbers (Forced q k j t) = q ∷ k ∷ j ∷ t

placed : (rule : Rule) → place rule ≡ line rule ∷ numbers rule
placed (Empty o) = refl
placed (NoClass o) = refl
placed (Src r a b) = refl
placed (Tgt r a b) = refl
placed (Clash r a b end) = refl
placed (Full r a b) = refl
placed (Room r a b) = refl
placed (Need r a b) = refl
placed (NeedCount r a b) = refl
placed (TypeLow r a) = refl
placed (OneContainer r a b q c) = refl
placed (Alone r a b) = refl
placed (MustContain r a b) = refl
placed (ContainCount r a b) = refl
placed (NoContainer b) = refl
placed (Acyclic r a b) = refl
placed (Under z) = refl
placed (ScopeTop z o) = refl
placed (ScopeBottom z o) = refl
placed (ScopeOut z o) = refl
placed (ScopeIn z o) = refl
placed (Broken q t) = refl
placed (Forced q k j t) = refl

of_types : (rule : Rule) → is_of_types rule ≡ (nat_le 0 (line rule) && nat_lt (line rule) 5)
of_types (Empty o) = refl
of_types (NoClass o) = refl
of_types (Src r a b) = refl
of_types (Tgt r a b) = refl
of_types (Clash r a b end) = refl
of_types (Full r a b) = refl
of_types (Room r a b) = refl
of_types (Need r a b) = refl
of_types (NeedCount r a b) = refl
of_types (TypeLow r a) = refl
of_types (OneContainer r a b q c) = refl
of_types (Alone r a b) = refl
of_types (MustContain r a b) = refl
of_types (ContainCount r a b) = refl
of_types (NoContainer b) = refl
of_types (Acyclic r a b) = refl
of_types (Under z) = refl
of_types (ScopeTop z o) = refl
of_types (ScopeBottom z o) = refl
of_types (ScopeOut z o) = refl
of_types (ScopeIn z o) = refl
of_types (Broken q t) = refl
of_types (Forced q k j t) = refl

of_degrees : (rule : Rule) → is_of_degrees rule ≡ (nat_le 5 (line rule) && nat_lt (line rule) 10)
of_degrees (Empty o) = refl
of_degrees (NoClass o) = refl
of_degrees (Src r a b) = refl
of_degrees (Tgt r a b) = refl
of_degrees (Clash r a b end) = refl
of_degrees (Full r a b) = refl
of_degrees (Room r a b) = refl
of_degrees (Need r a b) = refl
of_degrees (NeedCount r a b) = refl
of_degrees (TypeLow r a) = refl
of_degrees (OneContainer r a b q c) = refl
of_degrees (Alone r a b) = refl
of_degrees (MustContain r a b) = refl
of_degrees (ContainCount r a b) = refl
of_degrees (NoContainer b) = refl
of_degrees (Acyclic r a b) = refl
of_degrees (Under z) = refl
of_degrees (ScopeTop z o) = refl
of_degrees (ScopeBottom z o) = refl
of_degrees (ScopeOut z o) = refl
of_degrees (ScopeIn z o) = refl
of_degrees (Broken q t) = refl
of_degrees (Forced q k j t) = refl

of_containment : (rule : Rule) → is_of_containment rule ≡ (nat_le 10 (line rule) && nat_lt (line rule) 16)
of_containment (Empty o) = refl
of_containment (NoClass o) = refl
of_containment (Src r a b) = refl
of_containment (Tgt r a b) = refl
of_containment (Clash r a b end) = refl
of_containment (Full r a b) = refl
of_containment (Room r a b) = refl
of_containment (Need r a b) = refl
of_containment (NeedCount r a b) = refl
of_containment (TypeLow r a) = refl
of_containment (OneContainer r a b q c) = refl
of_containment (Alone r a b) = refl
of_containment (MustContain r a b) = refl
of_containment (ContainCount r a b) = refl
of_containment (NoContainer b) = refl
of_containment (Acyclic r a b) = refl
of_containment (Under z) = refl
of_containment (ScopeTop z o) = refl
of_containment (ScopeBottom z o) = refl
of_containment (ScopeOut z o) = refl
of_containment (ScopeIn z o) = refl
of_containment (Broken q t) = refl
of_containment (Forced q k j t) = refl

of_scopes : (rule : Rule) → is_of_scopes rule ≡ (nat_le 16 (line rule) && nat_lt (line rule) 21)
of_scopes (Empty o) = refl
of_scopes (NoClass o) = refl
of_scopes (Src r a b) = refl
of_scopes (Tgt r a b) = refl
of_scopes (Clash r a b end) = refl
of_scopes (Full r a b) = refl
of_scopes (Room r a b) = refl
of_scopes (Need r a b) = refl
of_scopes (NeedCount r a b) = refl
of_scopes (TypeLow r a) = refl
of_scopes (OneContainer r a b q c) = refl
of_scopes (Alone r a b) = refl
of_scopes (MustContain r a b) = refl
of_scopes (ContainCount r a b) = refl
of_scopes (NoContainer b) = refl
of_scopes (Acyclic r a b) = refl
of_scopes (Under z) = refl
of_scopes (ScopeTop z o) = refl
of_scopes (ScopeBottom z o) = refl
of_scopes (ScopeOut z o) = refl
of_scopes (ScopeIn z o) = refl
of_scopes (Broken q t) = refl
of_scopes (Forced q k j t) = refl

of_predicates : (rule : Rule) → is_of_predicates rule ≡ (nat_le 21 (line rule) && nat_lt (line rule) 23)
of_predicates (Empty o) = refl
of_predicates (NoClass o) = refl
of_predicates (Src r a b) = refl
of_predicates (Tgt r a b) = refl
of_predicates (Clash r a b end) = refl
of_predicates (Full r a b) = refl
of_predicates (Room r a b) = refl
of_predicates (Need r a b) = refl
of_predicates (NeedCount r a b) = refl
of_predicates (TypeLow r a) = refl
of_predicates (OneContainer r a b q c) = refl
of_predicates (Alone r a b) = refl
of_predicates (MustContain r a b) = refl
of_predicates (ContainCount r a b) = refl
of_predicates (NoContainer b) = refl
of_predicates (Acyclic r a b) = refl
of_predicates (Under z) = refl
of_predicates (ScopeTop z o) = refl
of_predicates (ScopeBottom z o) = refl
of_predicates (ScopeOut z o) = refl
of_predicates (ScopeIn z o) = refl
of_predicates (Broken q t) = refl
of_predicates (Forced q k j t) = refl

line-below : (rule : Rule) → nat_lt (line rule) 23 ≡ true
line-below (Empty o) = refl
line-below (NoClass o) = refl
line-below (Src r a b) = refl
line-below (Tgt r a b) = refl
line-below (Clash r a b end) = refl
line-below (Full r a b) = refl
line-below (Room r a b) = refl
line-below (Need r a b) = refl
line-below (NeedCount r a b) = refl
line-below (TypeLow r a) = refl
line-below (OneContainer r a b q c) = refl
line-below (Alone r a b) = refl
line-below (MustContain r a b) = refl
line-below (ContainCount r a b) = refl
line-below (NoContainer b) = refl
line-below (Acyclic r a b) = refl
line-below (Under z) = refl
line-below (ScopeTop z o) = refl
line-below (ScopeBottom z o) = refl
line-below (ScopeOut z o) = refl
line-below (ScopeIn z o) = refl
line-below (Broken q t) = refl
line-below (Forced q k j t) = refl

-- a rule of a later line doesn't come before
cmp-greater : (m n : ℕ) (a b : List ℕ) → n < m → slice_cmp nat_cmp (m ∷ a) (n ∷ b) ≡ Greater
cmp-greater m n a b l =
    let less : nat_cmp n m ≡ Less = rw (lt-ltb n m l) refl in
    ap (λ o. ordering_then o (slice_cmp nat_cmp a b)) (nat_cmp_total.antisymm m n ∙ ap ordering_reverse less)

not_before : (x y : Rule) → line x < line y → rule_cmp y x ≡ Less → ⊥
not_before x y l less =
    let greater : rule_cmp y x ≡ Greater = ap (λ key. slice_cmp nat_cmp key (place x)) (placed y) ∙ (ap (slice_cmp nat_cmp (line y ∷ numbers y)) (placed x)
    ∙ cmp-greater (line y) (line x) (numbers y) (numbers x) l) in
    let same : Less ≡ Greater = sym less ∙ greater in cc

module _ (p : Problem) (s : State) where
  -- no rule of a line before this one fires
  abbrev NoneBefore : ℕ → Type 0
  NoneBefore m = (y : Rule) → fires p s y ≡ true → m ≤ line y

  module _ (family : Rule → Bool) (m n : ℕ) (is : (rule : Rule) → family rule ≡ (nat_le m (line rule) && nat_lt (line rule) n)) where
    in_family : (y : Rule) → m ≤ line y → line y < n → family y ≡ true
    in_family y l k = is y ∙ and_from (nat_le m (line y)) (nat_lt (line y) n) (le-leb m (line y) l) (lt-ltb (line y) n k)

    -- where none of a family fires either
    none-next : NoneBefore m → IsLeastOf family p s None → NoneBefore n
    none-next before none y h = elim (cases_lt (line y) n) [
      | inl l ↦ absurd (none y (in_family y (before y h) l, h))
      | inr k ↦ omega (arith, k)
    ]

    -- and where some rule of it is the least that fires
    least-here : NoneBefore m → (x : Rule) → IsLeastOf family p s (Some x) → IsLeast p s (Some x)
    least-here before x least = record {
      passes = least.passes.1;
      first = λ y less h. elim (cases_lt (line y) n) [
        | inl l ↦ least.first y less (in_family y (before y h) l, h)
        | inr k ↦ (
            let mine = and_parts (nat_le m (line x)) (nat_lt (line x) n) (sym (is x) ∙ least.passes.0) in
            let below = ltb-true (line x) n mine.1 in
            not_before x y (omega (arith, k)) less)
      ];
    }

    or-next : NoneBefore m → (o rest : Option Rule) → IsLeastOf family p s o → (NoneBefore n → IsLeast p s rest) → IsLeast p s (option_or o rest)
    or-next before None rest least go = go (none-next before least)
    or-next before (Some x) rest least go = least-here before x least

  or-last : (rest : NoneBefore 23) → IsLeast p s None
  or-last rest y h = (let l = ltb-true (line y) 23 (line-below y) in let k = rest y h in omega arith)

  option_or-None : (o : Option Rule) → option_or o None ≡ o
  option_or-None None = refl
  option_or-None (Some x) = refl

pub families_in_order : FamiliesAreInOrder
families_in_order p s types degrees containment scopes predicates t d c z q =
    let rest3 : Option Rule = option_or scopes predicates in
    let rest2 : Option Rule = option_or containment rest3 in
    let rest1 : Option Rule = option_or degrees rest2 in
    or-next p s is_of_types 0 5 of_types (λ y h. omega arith) types rest1 t (λ b1.
    or-next p s is_of_degrees 5 10 of_degrees b1 degrees rest2 d (λ b2.
    or-next p s is_of_containment 10 16 of_containment b2 containment rest3 c (λ b3.
    or-next p s is_of_scopes 16 21 of_scopes b3 scopes predicates z (λ b4.
    subst (IsLeast p s) (option_or-None p s predicates)
    (or-next p s is_of_predicates 21 23 of_predicates b4 predicates None q (λ b5. or-last p s b5))))))

-- family by family: the least rule is that of the first family that has one, where those before have none
module _ (p : Problem) (s : State) where
  pub from_types : (x : Rule) → IsLeastOf is_of_types p s (Some x) → IsLeast p s (Some x)
  from_types x t = least-here p s is_of_types 0 5 of_types (λ y h. omega arith) x t

  module _ (t : IsLeastOf is_of_types p s None) where
    after-types : NoneBefore p s 5
    after-types = none-next p s is_of_types 0 5 of_types (λ y h. omega arith) t

    pub from_degrees : (x : Rule) → IsLeastOf is_of_degrees p s (Some x) → IsLeast p s (Some x)
    from_degrees x d = least-here p s is_of_degrees 5 10 of_degrees after-types x d

    module _ (d : IsLeastOf is_of_degrees p s None) where
      after-degrees : NoneBefore p s 10
      after-degrees = none-next p s is_of_degrees 5 10 of_degrees after-types d

      pub from_containment : (x : Rule) → IsLeastOf is_of_containment p s (Some x) → IsLeast p s (Some x)
      from_containment x c = least-here p s is_of_containment 10 16 of_containment after-degrees x c

      module _ (c : IsLeastOf is_of_containment p s None) where
        after-containment : NoneBefore p s 16
        after-containment = none-next p s is_of_containment 10 16 of_containment after-degrees c

        pub from_scopes : (x : Rule) → IsLeastOf is_of_scopes p s (Some x) → IsLeast p s (Some x)
        from_scopes x z = least-here p s is_of_scopes 16 21 of_scopes after-containment x z

        pub from_predicates : IsLeastOf is_of_scopes p s None → (o : Option Rule) → IsLeastOf is_of_predicates p s o → IsLeast p s o
        from_predicates z o q = subst (IsLeast p s) (option_or-None p s o)
            (or-next p s is_of_predicates 21 23 of_predicates (none-next p s is_of_scopes 16 21 of_scopes after-containment z) o None q (λ b. or-last p s b))

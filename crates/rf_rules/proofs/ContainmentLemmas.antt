-- What is known of the containers of an object by what was found of them.
use Rattle.std.proofs.Common.{◌≡◌, ◌<◌, ◌≤◌, get_or, ℕ, Bool, true, false, ◌==◌, ◌&&◌, ◌||◌, not, length, refl, sym, ap, subst, ◌∙◌, inl, inr, true≢false, None}
use Rattle.std.specs.Prelude.{nat_le, nat_lt}
use Rattle.std.specs.FinSet.{FinSet, contains}
use Rattle.std.specs.Ordering.{nat_cmp}
use Rattle.std.proofs.lemmas.Bool.{and_from, and_parts, and_right, cases_Bool, eq-eqb, eqb-true, lt-ltb}
use Rattle.std.proofs.lemmas.List.Folds.{list_any_none}
use Rattle.rf_finite.specs.Range.{all_below}
use Rattle.rf_finite.proofs.Range.{all_below-from_each, all_below-same, first_below-none, each-from_all_below, some_below-from_one, some_below-none}
use Rattle.rf_values.specs.Truth as truth
use Rattle.rf_values.specs.declared.truth.Truth.TheVariants.{False}
use Rattle.rf_problem.specs.Classes.{is_below}
use Rattle.rf_problem.specs.Contained.{is_contained_class, is_containing}
use Rattle.rf_problem.specs.Parts.{is_contains}
use Rattle.rf_problem.proofs.BelowLemmas.{is_below-past}
use Rattle.rf_problem.specs.declared.problem.Problem.{Problem}
use Rattle.rf_evaluate.specs.Elements.{count, element_at, includes}
use Rattle.rf_evaluate.specs.declared.elements.Elements.{Elements}
use Rattle.rf_evaluate.proofs.Candidates.{number-of}
use Rattle.rf_state.specs.State.{State, fact, object_of}
use Rattle.rf_rules.specs.Containers.{AreContainers, Covers, IsPossible, are_absent, are_only, covers, least_excluded_at, is_held, is_other, with_container}
use Rattle.rf_rules.specs.Containment.{has_possible, is_contained, is_only_possible, is_possible, one_container}
use Rattle.rf_rules.specs.Effects.{is_ready}
use Rattle.rf_rules.specs.Rules.{fires, fits, instance_of, least_object}
use Rattle.rf_rules.specs.Words.{classes_where, each_candidate, lo, may, must}
use Rattle.rf_rules.proofs.ClassLemmas.{contains-classes_where}
use Rattle.rf_rules.proofs.MergeLemmas.{changes-where_may, is_ready-by_condition}
use Rattle.rf_rules.specs.declared.rule.Rule.{Rule}
use Rattle.rf_rules.specs.declared.rule.Rule.TheVariants.{Acyclic, ContainCount, MustContain, OneContainer}
use Rattle.rf_rules.specs.declared.containment.possible.Containers.{Containers}
use Rattle.rf_rules.specs.declared.containment.possible.Containers.TheVariants.{Absent, Only, Several}

-- a number past the classes is none that is contained
pub is_contained_class-past : (p : Problem) (c : ℕ) → length p.classes ≤ c → is_contained_class p c ≡ false
is_contained_class-past p c past = list_any_none (λ r. is_contains r.kind && is_below p.classes c r.target) p.references (λ i d l.
    and_right (is_contains (get_or p.references i d).kind) (is_below p.classes c (get_or p.references i d).target)
    (is_below-past p.classes c (get_or p.references i d).target past (p.references_fit.targets i d l)))

-- two pairs that are the same as one are the same
same_pair : (q c x y u v : ℕ) → (q == u && c == v) ≡ true → (x == u && y == v) ≡ true → (q == x && c == y) ≡ true
same_pair q c x y u v e f =
    let l = and_parts (q == u) (c == v) e in
    let r = and_parts (x == u) (y == v) f in
    let at : q ≡ x = eqb-true q u l.0 ∙ sym (eqb-true x u r.0) in
    let on : c ≡ y = eqb-true c v l.1 ∙ sym (eqb-true y v r.1) in
    and_from (q == x) (c == y) (eq-eqb q x at) (eq-eqb c y on)

flipped : (q c x y : ℕ) → (q == x && c == y) ≡ true → (x == q && y == c) ≡ true
flipped q c x y e = same_pair x y q c x y (and_from (x == x) (y == y) (eq-eqb x x refl) (eq-eqb y y refl)) e

-- one more container is among what was found, and those that were found stay
pub covers-with_container : (found : Containers) (q c : ℕ) → covers (with_container found q c) q c ≡ true
covers-with_container Absent q c = and_from (q == q) (c == c) (eq-eqb q q refl) (eq-eqb c c refl)
covers-with_container (Only x y) q c = elim (cases_Bool (x == q && y == c)) [
  | inl e ↦ rw e (and_from (q == q) (c == c) (eq-eqb q q refl) (eq-eqb c c refl))
  | inr e ↦ rw e refl
]
covers-with_container Several q c = refl

pub Covers-with_container : (found : Containers) (q c : ℕ) → Covers found (with_container found q c)
Covers-with_container Absent q c u v h = absurd (true≢false (sym h))
Covers-with_container (Only x y) q c u v h = elim (cases_Bool (x == q && y == c)) [
  | inl e ↦ rw e (same_pair q c u v x y (flipped x y q c e) (flipped x y u v h))
  | inr e ↦ rw e refl
]
Covers-with_container Several q c u v h = refl

module _ (p : Problem) (s : State) (b : ℕ) where
  pub AreContainers-with_container : (found : Containers) (q c : ℕ) → AreContainers p s b found → IsPossible p s b q c → AreContainers p s b (with_container found q c)
  AreContainers-with_container Absent q c h new = new
  AreContainers-with_container (Only x y) q c h new = elim (cases_Bool (x == q && y == c)) [
    | inl e ↦ rw e new
    | inr e ↦ rw e (x, y, q, c, h, new, e)
  ]
  AreContainers-with_container Several q c h new = h

  -- where there is one
  has_possible-from_one : (q c : ℕ) → IsPossible p s b q c → has_possible p s b ≡ true
  has_possible-from_one q c h =
      some_below-from_one (length p.references) _ q h.reference (some_below-from_one (length s.objects) (is_possible p s b q) c h.object h.possible)

  -- the only possible container is each that is possible
  only-is : (r a q c : ℕ) → is_only_possible p s r a b ≡ true → IsPossible p s b q c → (q == r && c == a) ≡ true
  only-is r a q c t h =
      let each = and_parts (is_possible p s b r a) _ t in
      let those = each-from_all_below (length p.references) _ each.1 q h.reference in
      let this = each-from_all_below (length s.objects) _ those c h.object in
      let is = h.possible in
      let told : (not (is_possible p s b q c) || (q == r && c == a)) ≡ true = this in
      rw is at told

  abbrev pub AreAll : Containers → Type 0
  AreAll found = (q c : ℕ) → q < length p.references → c < length s.objects → is_possible p s b q c ≡ true → covers found q c ≡ true

  pub absent-from_found : (found : Containers) → AreContainers p s b found → AreAll found → not (has_possible p s b) ≡ are_absent found
  absent-from_found Absent h all =
      let none = some_below-none (length p.references) _ (λ q lq. some_below-none (length s.objects) (is_possible p s b q) (λ c lc. elim (cases_Bool (is_possible p s b q c)) [
        | inl e ↦ absurd (true≢false (sym (all q c lq lc e)))
        | inr e ↦ e
      ])) in
      ap not none
  absent-from_found (Only q c) h all = ap not (has_possible-from_one q c h)
  absent-from_found Several h all = ap not (has_possible-from_one h.0 h.1 h.4)

  pub only-from_found : (found : Containers) → AreContainers p s b found → AreAll found → (r a : ℕ) → r < length p.references → a < length s.objects
      → is_only_possible p s r a b ≡ are_only found r a
  only-from_found Absent h all r a lr la = elim (cases_Bool (is_possible p s b r a)) [
    | inl e ↦ absurd (true≢false (sym (all r a lr la e)))
    | inr e ↦ rw e refl
  ]
  only-from_found (Only q c) h all r a lr la = elim (cases_Bool (q == r && c == a)) [
    | inl e ↦
        (let parts = and_parts (q == r) (c == a) e in
        let at : q ≡ r = eqb-true q r parts.0 in
        let on : c ≡ a = eqb-true c a parts.1 in
        let here : is_possible p s b r a ≡ true = subst (λ (n : ℕ). is_possible p s b n a ≡ true) at (subst (λ (n : ℕ). is_possible p s b q n ≡ true) on h.possible) in
        let others : all_below (length p.references) (λ x. all_below (length s.objects) (λ y. not (is_possible p s b x y) || (x == r && y == a))) ≡ true =
        all_below-from_each (length p.references) _ (λ x lx. all_below-from_each (length s.objects) _ (λ y ly. elim (cases_Bool (is_possible p s b x y)) [
          | inl f ↦ (let is = same_pair x y r a q c (flipped q c x y (all x y lx ly f)) (flipped q c r a e) in rw f is)
          | inr f ↦ rw f refl
        ])) in
        and_from (is_possible p s b r a) _ here others ∙ sym e)
    | inr e ↦ elim (cases_Bool (is_possible p s b r a)) [
      | inl f ↦ absurd (true≢false (sym (all r a lr la f) ∙ e))
      | inr f ↦ rw f (sym e)
    ]
  ]
  only-from_found Several h all r a lr la = elim (cases_Bool (is_only_possible p s r a b)) [
    | inl t ↦ absurd (true≢false (sym (same_pair h.0 h.1 h.2 h.3 r a (only-is r a h.0 h.1 t h.4) (only-is r a h.2 h.3 t h.5)) ∙ h.6))
    | inr t ↦ t
  ]

  -- where nothing leads to b but from some ends, the possible containers by a reference are among those
  pub possible-among : (q : ℕ) (ends : Elements) (found : Containers) → ((c : ℕ) → c < length s.objects → includes ends c ≡ false → fact p s q c b ≡ False)
      → ((i : ℕ) → i < count ends → is_possible p s b q (element_at ends i) ≡ true → covers found q (element_at ends i) ≡ true)
      → (c : ℕ) → c < length s.objects → is_possible p s b q c ≡ true → covers found q c ≡ true
  possible-among q ends found off among c l h = elim (cases_Bool (includes ends c)) [
    | inl e ↦
        (let at = number-of ends c e in
        subst (λ (x : ℕ). is_possible p s b q x ≡ true → covers found q x ≡ true) at.2 (among at.0 at.1) h)
    | inr e ↦
        (let parts = and_parts (is_containing p q) _ h in
        let led : may p s q c b ≡ true = (and_parts (may p s q c b) _ parts.1).0 in
        absurd (true≢false (sym led ∙ ap truth.may (off c l e))))
  ]

  pub each_candidate-contained : (set : FinSet nat_cmp) → set ≡ classes_where p (is_contained_class p) → each_candidate p s b (contains set) ≡ is_contained p s b
  each_candidate-contained set is =
      ap (λ (members : FinSet nat_cmp). each_candidate p s b (contains members)) is
      ∙ all_below-same (length p.classes) _ _ (λ c l.
      ap (λ (t : Bool). not (contains (object_of s b).candidates c) || t) (contains-classes_where p (is_contained_class p) c l))

module _ (p : Problem) (s : State) where
  -- a rule whose condition doesn't hold doesn't fire, and a row of such rules has none that fires
  pub fires-not : (rule : Rule) → (instance_of p s rule).holds ≡ false → fires p s rule ≡ false
  fires-not rule e = rw e (and_right (fits p s rule) false refl)

  pub least_object-none : (rule_at : ℕ → Rule) → ((b : ℕ) → (instance_of p s (rule_at b)).holds ≡ false) → least_object p s rule_at ≡ None
  least_object-none rule_at none = first_below-none (length s.objects) _ (λ b l. let fails = fires-not (rule_at b) (none b) in rw fails refl)

  module _ (r a b : ℕ) where
    condition : (holding containing held node other : Bool) → (holding && (containing && (held && (node && other)))) ≡ (containing && ((holding && (held && node)) && other))
    condition false false held node other = refl
    condition false true held node other = refl
    condition true false held node other = refl
    condition true true false node other = refl
    condition true true true node other = refl

    pub one_container-holds : (q c : ℕ) → (one_container p s r a b q c).holds ≡ (is_containing p q && (is_held p s r a b && is_other p s r a b q c))
    one_container-holds q c = condition (is_containing p r) (is_containing p q) (must p s r a b) (nat_le 1 (lo s a)) (is_other p s r a b q c)

    pub one_container-ready : (q c : ℕ) → is_ready s (one_container p s r a b q c) ≡ (is_containing p q && (is_held p s r a b && is_other p s r a b q c))
    one_container-ready q c =
        sym (is_ready-by_condition s (one_container p s r a b q c) (λ h.
        let all = and_parts (is_containing p q) _ (sym (one_container-holds q c) ∙ h) in
        let rest = and_parts (is_held p s r a b) (is_other p s r a b q c) all.1 in
        let ends = and_parts _ (may p s q c b) rest.1 in
        changes-where_may p s q c b ends.1))
        ∙ one_container-holds q c

    pub one_container-fires : (q c : ℕ) → r < length p.references → a < length s.objects → b < length s.objects → q < length p.references → c < length s.objects
        → is_containing p q ≡ true → is_held p s r a b ≡ true → is_other p s r a b q c ≡ fires p s (OneContainer r a b q c)
    one_container-fires q c lr la lb lq lc contains held =
        let reference : nat_lt r (length p.references) ≡ true = lt-ltb r (length p.references) lr in
        let from : nat_lt a (length s.objects) ≡ true = lt-ltb a (length s.objects) la in
        let to : nat_lt b (length s.objects) ≡ true = lt-ltb b (length s.objects) lb in
        let other : nat_lt q (length p.references) ≡ true = lt-ltb q (length p.references) lq in
        let other_from : nat_lt c (length s.objects) ≡ true = lt-ltb c (length s.objects) lc in
        sym (rw (reference, from, to, other, other_from) (one_container-ready q c ∙ rw (contains, held) refl))

    -- nothing is excluded by a reference that doesn't contain, nor where a doesn't hold b
    pub least_other-none : (q : ℕ) → is_containing p q ≡ false → least_object p s (OneContainer r a b q) ≡ None
    least_other-none q e = least_object-none (OneContainer r a b q) (λ c. one_container-holds q c ∙ rw e refl)

    pub least_excluded_at-none : is_held p s r a b ≡ false → least_excluded_at p s r a b ≡ None
    least_excluded_at-none e = first_below-none (length p.references) _ (λ q l.
        let none = least_object-none (OneContainer r a b q) (λ c. one_container-holds q c ∙ rw e (and_right (is_containing p q) false refl)) in
        rw none refl)

  -- nothing has to be contained by a reference that doesn't contain
  pub must_contain-none : (r a : ℕ) → is_containing p r ≡ false → least_object p s (MustContain r a) ≡ None
  must_contain-none r a e = least_object-none (MustContain r a) (λ b. rw e refl)

  pub contain_count-none : (r a : ℕ) → is_containing p r ≡ false → least_object p s (ContainCount r a) ≡ None
  contain_count-none r a e = least_object-none (ContainCount r a) (λ b. rw e refl)

  pub acyclic-none : (r a : ℕ) → is_containing p r ≡ false → least_object p s (Acyclic r a) ≡ None
  acyclic-none r a e = least_object-none (Acyclic r a) (λ b. rw e refl)

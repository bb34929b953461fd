-- The decision that is chosen is allowed, and there is one where some decision is.
use Rattle.std.proofs.Common.{◌≡◌, ℕ, ◌/◌, ◌%◌, Bool, true, false, Option, None, Some, [], ◌∷◌, length, refl, ap, subst, inl, inr, arith}
use Rattle.std.proofs.lemmas.Bool.{and_parts, cases_Bool, cases_eq, ltb-true, ne_eqb}
use Rattle.std.proofs.lemmas.List.Elements.{All-contains}
use Rattle.std.proofs.Math.Nat.{mod-lt}
use Rattle.rf_problem.specs.declared.problem.Problem.{Problem}
use Rattle.rf_state.specs.State.{State}
use Rattle.rf_rules.specs.Decisions.{allowed, fits}
use Rattle.rf_rules.specs.Rules.{is_object}
use Rattle.rf_rules.specs.declared.decision.Decision.{Decision}
use Rattle.rf_rules.specs.declared.decision.Decision.TheVariants.{Fresh, Kind, Ref}
use Rattle.rf_decide.specs.Choice.{allowed_edges, allowed_fresh, allowed_kinds, edges_from, edges_of, group, group_number, if_allowed, kinds_of, leads, member_at, members, no_decision}
use Rattle.rf_decide.specs.Laws.{ChosenIsAllowed, MembersAreAllowed, NoneIsChosenWhereNoneIsAllowed}
use Rattle.rf_decide.proofs.Allowed.{IsAllowed, group_allowed}
use Rattle.rf_decide.proofs.Joining.{joined_none, joined_some}

pub members_allowed : MembersAreAllowed
members_allowed p s d there = All-contains (IsAllowed p s) (members p s) d (group_allowed p s (group_number p s)) there

abbrev decision_in : Option (Decision × Bool) → Decision
decision_in None = no_decision
decision_in (Some x) = x.0

same_pair : (d e : Decision) (a b : Bool) → ◌≡◌ {A = Option (Decision × Bool)} (Some (d, a)) (Some (e, b)) → d ≡ e
same_pair d e a b h = ap decision_in h

pub chosen_allowed : ChosenIsAllowed
chosen_allowed p s w d first is = elim (cases_eq (length (members p s)) 0) [
  | inl e ↦ (let none : ◌≡◌ {A = Option (Decision × Bool)} None (Some (d, first)) = rw e at is in absurd cc)
  | inr n ↦ (let k = w / 8 % length (members p s) in
      let some : ◌≡◌ {A = Option (Decision × Bool)} (Some (member_at p s k, leads s (member_at p s k) w)) (Some (d, first)) =
      rw (ne_eqb (length (members p s)) 0 n) at is in
      subst (IsAllowed p s) (same_pair (member_at p s k) d (leads s (member_at p s k) w) first some)
      (group_allowed p s (group_number p s) k no_decision (mod-lt (w / 8) (omega arith))))
]

-- where no group has a decision none is allowed, and the other way round
module _ (p : Problem) (s : State) where
  one_there : (d : Decision) → length (if_allowed p s d) ≡ 0 → allowed p s d ≡ false
  one_there d e = elim (cases_Bool (allowed p s d)) [
    | inl h ↦ (let one : length (d ∷ []) ≡ 0 = rw h at e in absurd cc)
    | inr h ↦ h
  ]

  none_there : (d : Decision) → allowed p s d ≡ false → length (if_allowed p s d) ≡ 0
  none_there d e = rw e refl

  out_of_range : (d : Decision) → fits p s d ≡ false → allowed p s d ≡ false
  out_of_range d e = rw e refl

  pub nothing_allowed : length (allowed_fresh p s) ≡ 0 → length (allowed_kinds p s) ≡ 0 → length (allowed_edges p s) ≡ 0
      → (d : Decision) → allowed p s d ≡ false
  nothing_allowed f k e d = elim (cases_Bool (fits p s d)) [ inl h ↦ within d h | inr h ↦ out_of_range d h ]
    where
      within : (d : Decision) → fits p s d ≡ true → allowed p s d ≡ false
      within (Fresh o) h = one_there (Fresh o) (joined_some (length s.objects) o (λ o. if_allowed p s (Fresh o))
          (ltb-true o (length s.objects) h) f)
      within (Kind o c) h =
          let parts = and_parts (is_object s o) _ h in
          let row = joined_some (length s.objects) o (kinds_of p s) (ltb-true o (length s.objects) parts.0) k in
          one_there (Kind o c) (joined_some (length p.classes) c (λ c. if_allowed p s (Kind o c))
          (ltb-true c (length p.classes) parts.1) row)
      within (Ref r a b) h =
          let parts = and_parts _ _ h in
          let ends = and_parts (is_object s a) (is_object s b) parts.1 in
          let one = joined_some (length p.references) r (edges_of p s) (ltb-true r (length p.references) parts.0) e in
          let row = joined_some (length s.objects) a (edges_from p s r) (ltb-true a (length s.objects) ends.0) one in
          one_there (Ref r a b) (joined_some (length s.objects) b (λ b. if_allowed p s (Ref r a b))
          (ltb-true b (length s.objects) ends.1) row)

  pub all_empty : ((d : Decision) → allowed p s d ≡ false) → (number : ℕ) → length (group p s number) ≡ 0
  all_empty h number = elim (cases_eq number 0) [
    | inl e ↦ rw e (joined_none (length s.objects) (λ o. if_allowed p s (Fresh o)) (λ o l. none_there (Fresh o) (h (Fresh o))))
    | inr n ↦ elim (cases_eq number 1) [
      | inl e ↦ rw e (joined_none (length s.objects) (kinds_of p s) (λ o l.
          joined_none (length p.classes) (λ c. if_allowed p s (Kind o c)) (λ c k. none_there (Kind o c) (h (Kind o c)))))
      | inr m ↦ rw (ne_eqb number 0 n, ne_eqb number 1 m) (joined_none (length p.references) (edges_of p s) (λ r l.
          joined_none (length s.objects) (edges_from p s r) (λ a k.
          joined_none (length s.objects) (λ b. if_allowed p s (Ref r a b)) (λ b j. none_there (Ref r a b) (h (Ref r a b))))))
    ]
  ]

  -- the group that is taken is empty only where all are
  pub each_empty : length (members p s) ≡ 0 →
      (length (allowed_fresh p s) ≡ 0) × (length (allowed_kinds p s) ≡ 0) × (length (allowed_edges p s) ≡ 0)
  each_empty e = elim (cases_eq (length (allowed_fresh p s)) 0) [
    | inl f ↦ elim (cases_eq (length (allowed_kinds p s)) 0) [
      | inl k ↦ (f, k, rw (f, k) at e)
      | inr n ↦ (let kinds : length (allowed_kinds p s) ≡ 0 = rw (f, ne_eqb (length (allowed_kinds p s)) 0 n) at e in absurd (n kinds))
    ]
    | inr n ↦ (let fresh : length (allowed_fresh p s) ≡ 0 = rw (ne_eqb (length (allowed_fresh p s)) 0 n) at e in absurd (n fresh))
  ]

pub none_chosen : NoneIsChosenWhereNoneIsAllowed
none_chosen p s w = (
  (λ is. elim (cases_eq (length (members p s)) 0) [
    | inl e ↦ (let each = each_empty p s e in nothing_allowed p s each.0 each.1 each.2)
    | inr n ↦ (let k = w / 8 % length (members p s) in
        let some : ◌≡◌ {A = Option (Decision × Bool)} (Some (member_at p s k, leads s (member_at p s k) w)) None =
        rw (ne_eqb (length (members p s)) 0 n) at is in absurd cc)
  ]),
  (λ h. rw (all_empty p s h (group_number p s)) refl),
)

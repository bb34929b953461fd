-- Each decision of a group is allowed, and where there is none no decision is.
use Rattle.std.proofs.Common.{◌≡◌, ℕ, ◌<◌, true, [], length, All, inl, inr}
use Rattle.std.proofs.lemmas.Bool.{and_parts, cases_Bool, cases_eq, ltb-true, ne_eqb}
use Rattle.std.proofs.lemmas.List.Elements.{All-cons, All-nil}
use Rattle.rf_finite.proofs.Joined.{all_joined}
use Rattle.rf_problem.specs.declared.problem.Problem.{Problem}
use Rattle.rf_state.specs.State.{State}
use Rattle.rf_rules.specs.Decisions.{allowed, fits, is_open}
use Rattle.rf_rules.specs.declared.decision.Decision.{Decision}
use Rattle.rf_rules.specs.declared.decision.Decision.TheVariants.{Fresh, Kind, Ref}
use Rattle.rf_decide.specs.Choice.{edges_from, edges_of, group, if_allowed, kinds_of}

module _ (p : Problem) (s : State) where
  abbrev pub IsAllowed : Decision → Type 0
  IsAllowed d = allowed p s d ≡ true

  one_allowed : (d : Decision) → All IsAllowed (if_allowed p s d)
  one_allowed d = elim (cases_Bool (allowed p s d)) [
    | inl e ↦ rw e (All-cons IsAllowed d [] e (All-nil IsAllowed))
    | inr e ↦ rw e (All-nil IsAllowed)
  ]

  pub group_allowed : (number : ℕ) → All IsAllowed (group p s number)
  group_allowed number = elim (cases_eq number 0) [
    | inl e ↦ rw e (all_joined IsAllowed (length s.objects) (λ o. if_allowed p s (Fresh o)) (λ o l. one_allowed (Fresh o)))
    | inr n ↦ elim (cases_eq number 1) [
      | inl e ↦ rw e (all_joined IsAllowed (length s.objects) (kinds_of p s) (λ o l.
          all_joined IsAllowed (length p.classes) (λ c. if_allowed p s (Kind o c)) (λ c k. one_allowed (Kind o c))))
      | inr m ↦ rw (ne_eqb number 0 n, ne_eqb number 1 m) (all_joined IsAllowed (length p.references) (edges_of p s) (λ r l.
          all_joined IsAllowed (length s.objects) (edges_from p s r) (λ a k.
          all_joined IsAllowed (length s.objects) (λ b. if_allowed p s (Ref r a b)) (λ b j. one_allowed (Ref r a b)))))
    ]
  ]

  pub object_there : (o : ℕ) → IsAllowed (Fresh o) → o < length s.objects
  object_there o h = ltb-true o (length s.objects) (and_parts (fits p s (Fresh o)) (is_open p s (Fresh o)) h).0

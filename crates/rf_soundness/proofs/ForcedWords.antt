-- The words of the rule of forced literals.
use Rattle.std.proofs.Common.{◌≡◌, ◌≢◌, ◌↔◌, ℕ, suc, ◌+◌, ◌≤◌, Bool, true, false, not, ◌&&◌, ◌||◌, ◌==◌, Option, None, Some, List, [], ◌∷◌, All, length, map, slice_get, slice_index_or, take, refl, sym, ap, ap₂, ◌∙◌, subst, arith, true≢false}
use Rattle.std.specs.Prelude.{nat_lt}
use Rattle.std.proofs.lemmas.Bool.{eq-eqb, eqb-true, not-true, not_from_false}
use Rattle.std.proofs.lemmas.Option.{slice_get-get_or}
use Rattle.rf_finite.specs.Ends.{within}
use Rattle.rf_finite.proofs.Range.{None-ne_Some}
use Rattle.rf_values.specs.Truth.{must as has_to}
use Rattle.rf_values.specs.declared.truth.Truth.TheVariants.{False, Unknown}
use Rattle.rf_problem.specs.Asserted.{asserted}
use Rattle.rf_problem.specs.Parts.{predicate_at}
use Rattle.rf_problem.specs.Reading.{Assignment}
use Rattle.rf_problem.specs.Valid.{is_free}
use Rattle.rf_problem.specs.declared.predicate.Literal.{Literal}
use Rattle.rf_problem.specs.declared.predicate.Literal.TheVariants.{Call}
use Rattle.rf_problem.specs.declared.predicate.Term.{Term}
use Rattle.rf_problem.specs.declared.predicate.Term.TheVariants.{Var, Atom}
use Rattle.rf_problem.specs.declared.problem.Problem.{Problem}
use Rattle.rf_problem.specs.declared.symbol.Symbol.TheVariants.{Predicate, Reference}
use Rattle.rf_problem.proofs.Fitting.{all-from_each, each-from_all}
use Rattle.rf_state.specs.State.{State, fact}
use Rattle.rf_rules.specs.Predicates.{are_there, clause_at, forced_effect, free_count, given, is_open, is_same_term, literal_at, literal_known, may_be_forced, object_of_term, origins_of, others_hold}
use Rattle.rf_rules.specs.Rules.{instance_of}
use Rattle.rf_rules.specs.Words.{hi, is_false, is_unknown, lo}
use Rattle.rf_rules.specs.declared.rule.Rule.TheVariants.{Forced}
use Rattle.rf_soundness.specs.Ends.{IsAtMost}
use Rattle.rf_soundness.specs.Forced.{ForcedEffectIsInWords, GivenIsInWords, IsForced, MayBeForced, places_of, ranging}
use Rattle.rf_soundness.proofs.Given.{given_none}
use Rattle.rf_soundness.proofs.Tests.{Tells, and_tells, and4_tells, false_tells, implies_tells, less_tells, lt_tells, there_tells, unknown_tells}

-- the terms of an open literal
free_tells : (entry : Option ℕ) → Tells (is_free entry) ((i : ℕ) → entry ≢ Some i)
free_tells None = (λ h i e. None-ne_Some e, λ k. refl)
free_tells (Some j) = (λ h. absurd (true≢false (sym h)), λ k. absurd (k j refl))

not_negated_tells : (negated : Bool) → Tells (not negated) (negated ≡ false)
not_negated_tells negated = (not-true negated, not_from_false negated)

may_be_forced_tells : (s : State) (variables : List (Option ℕ)) (negated : Bool) (a : Term)
    → Tells (may_be_forced s variables negated a) (MayBeForced s variables negated a)
may_be_forced_tells s variables negated (Var v) = free_tells (slice_index_or variables v None)
may_be_forced_tells s variables negated (Atom o) = and_tells (not negated) (nat_lt o (length s.objects))
    (not_negated_tells negated) (lt_tells o (length s.objects))

same_tells : (a b : Term) → Tells (is_same_term a b) (a ≡ b)
same_tells (Var u) (Var v) = (λ h. ap (λ v. Var v) (eqb-true u v h), λ e. eq-eqb u v (let e = e in cc))
same_tells (Atom o) (Atom q) = (λ h. ap (λ o. Atom o) (eqb-true o q h), λ e. eq-eqb o q (let e = e in cc))
same_tells (Var u) (Atom q) = (λ h. absurd (true≢false (sym h)), λ e. absurd (let e = e in cc))
same_tells (Atom o) (Var v) = (λ h. absurd (true≢false (sym h)), λ e. absurd (let e = e in cc))

one_tells : (end : Option ℕ) → Tells (not (within 2 end)) (IsAtMost end 1)
one_tells end =
    let less = less_tells end 2 in (
      λ h. (let k = less.0 h in let l = k.2 in (k.0, k.1, omega arith)),
      λ k. (let l = k.2 in less.1 (k.0, k.1, omega arith)),
    )

module _ (p : Problem) (s : State) (variables : List (Option ℕ)) (places : Assignment) where
  open_tells : (negated : Bool) (r : ℕ) (a b : Term) → Tells (is_open p s variables places (Call negated false (Reference r) (a ∷ b ∷ [])))
      ((MayBeForced s variables negated a × MayBeForced s variables negated b)
      × ((a ≡ b → IsAtMost (hi s (object_of_term places a)) 1)
      × (fact p s r (object_of_term places a) (object_of_term places b) ≡ Unknown)))
  open_tells negated r a b =
      let few = not (is_same_term a b) || not (within 2 (hi s (object_of_term places a))) in
      let unknown = is_unknown (fact p s r (object_of_term places a) (object_of_term places b)) in
      and_tells (may_be_forced s variables negated a && may_be_forced s variables negated b) (few && unknown)
      (and_tells (may_be_forced s variables negated a) (may_be_forced s variables negated b)
      (may_be_forced_tells s variables negated a) (may_be_forced_tells s variables negated b))
      (and_tells few unknown
      (implies_tells (is_same_term a b) (not (within 2 (hi s (object_of_term places a)))) (same_tells a b)
      (one_tells (hi s (object_of_term places a))))
      (unknown_tells (fact p s r (object_of_term places a) (object_of_term places b))))

  -- an open literal calls a reference at two terms
  abbrev CallsReference : Literal → Type 0
  CallsReference l = (negated : Bool) × (r : ℕ) × (a : Term) × (b : Term) × (l ≡ Call negated false (Reference r) (a ∷ b ∷ []))

  open-calls : (l : Literal) → is_open p s variables places l ≡ true → CallsReference l
  open-calls (Call negated false (Reference r) (a ∷ b ∷ [])) o = (negated, r, a, b, refl)
  open-calls _ o = absurd (true≢false (sym o))

  -- the literals but for one
  others_tells : (j : ℕ) (ls : List Literal) → Tells (others_hold p s variables j 0 places ls)
      ((i : ℕ) (l : Literal) → slice_get ls i ≡ Some l → i ≢ j → has_to (literal_known p s variables i places l) ≡ true)
  others_tells j ls = (
    λ h i l e ne. (or_else (i == j) (has_to (literal_known p s variables i places l)) (i ≡ j) (eqb-true i j) (λ x. eq-eqb i j x)).0
        (each-from_all (λ i l. i == j || has_to (literal_known p s variables i places l))
        (λ i ls. others_hold p s variables j i places ls) (λ i l ls. refl) ls h i l e) ne,
    λ k. all-from_each (λ i l. i == j || has_to (literal_known p s variables i places l))
        (λ i ls. others_hold p s variables j i places ls) (λ i l ls. refl) (λ i. refl) ls
        (λ i l e. (or_else (i == j) (has_to (literal_known p s variables i places l)) (i ≡ j) (eqb-true i j)
        (λ x. eq-eqb i j x)).1 (k i l e)),
  )
    where
      or_else : (a b : Bool) (A : Type 0) → (a ≡ true → A) → (A → a ≡ true) → Tells (a || b) ((A → ⊥) → b ≡ true)
      or_else true b A f g = (λ h ne. absurd (ne (f refl)), λ k. refl)
      or_else false b A f g = (λ h ne. h, λ k. k (λ x. true≢false (sym (g x))))

module _ (p : Problem) (s : State) (q k j : ℕ) (t : List ℕ) where
  abbrev vs : List (Option ℕ)
  vs = (clause_at p q k).variables

  abbrev at : Assignment
  at = places_of p q k t

  abbrev literal : Literal
  literal = literal_at (clause_at p q k) j

  abbrev told : Bool
  told = is_false (asserted p (Predicate q) (origins_of s (take (predicate_at p.predicates q).arity t)))

  abbrev hold : Bool
  hold = others_hold p s vs j 0 at (clause_at p q k).literals

  parts_tell : Tells (told && (are_there s t && (hold && is_open p s vs at literal)))
      ((asserted p (Predicate q) (origins_of s (take (predicate_at p.predicates q).arity t)) ≡ False)
      × All (λ o. 1 ≤ lo s o) t
      × ((i : ℕ) (l : Literal) → slice_get (clause_at p q k).literals i ≡ Some l → i ≢ j → has_to (literal_known p s vs i at l) ≡ true)
      × (is_open p s vs at literal ≡ true))
  parts_tell = and4_tells told (are_there s t) hold (is_open p s vs at literal)
      (false_tells (asserted p (Predicate q) (origins_of s (take (predicate_at p.predicates q).arity t)))) (there_tells s t)
      (others_tells p s vs at j (clause_at p q k).literals) (λ h. h, λ h. h)

  pub forced_is_in_words : ((instance_of p s (Forced q k j t)).holds ≡ true) ↔ IsForced p s q k j t
  forced_is_in_words = (
    λ h. (let parts = parts_tell.0 h in
        let call = open-calls p s vs at literal parts.3 in
        let settled = (open_tells p s vs at call.0 call.1 call.2 call.3).0 (subst (λ l. is_open p s vs at l ≡ true) call.4 parts.3) in
        record {
          negated = call.0;
          reference = call.1;
          source = call.2;
          target = call.3;
          forbidden = parts.0;
          there = parts.1;
          others = parts.2;
          literal = call.4;
          terms = settled.0;
          one_node = settled.1.0;
          unknown = settled.1.1;
        }),
    λ f. parts_tell.1 (
      f.forbidden,
      f.there,
      f.others,
      subst (λ l. is_open p s vs at l ≡ true) (sym f.literal)
          ((open_tells p s vs at f.negated f.reference f.source f.target).1 (f.terms, (f.one_node, f.unknown))),
    ),
  )

pub forced_effect_is_in_words : ForcedEffectIsInWords
forced_effect_is_in_words p s q k j t f = ap (forced_effect (places_of p q k t)) f.literal

-- the objects that are given
given_map : (n : ℕ) (variables : List (Option ℕ)) (t : List ℕ) (places : Assignment)
    → ((v : ℕ) → places (n + v) ≡ given variables t v) → length t ≡ free_count variables
    → map places (ranging n variables) ≡ t
given_map n [] [] places same len = refl
given_map n [] (o ∷ t) places same len = absurd (omega arith)
given_map n (None ∷ variables) [] places same len = absurd (omega arith)
given_map n (None ∷ variables) (o ∷ t) places same len =
    let here : n + 0 ≡ n = omega arith in
    ap₂ (λ o t. o ∷ t) (ap places (sym here) ∙ same 0)
    (given_map (suc n) variables t places (λ v. (let e : suc n + v ≡ n + suc v = omega arith in ap places e ∙ same (suc v))) (omega arith))
given_map n (Some i ∷ variables) t places same len =
    given_map (suc n) variables t places (λ v. (let e : suc n + v ≡ n + suc v = omega arith in ap places e ∙ same (suc v))) len

pub given_is_in_words : GivenIsInWords
given_is_in_words variables t len = record {
  ranging_ones = given_map 0 variables t (given variables t) (λ v. (let e : 0 + v ≡ v = omega arith in ap (given variables t) e)) len;
  others = λ v ne. given_none variables t v (λ free. ne (slice_get-get_or variables v None free.0 ∙ ap (λ e. Some e) free.1));
}

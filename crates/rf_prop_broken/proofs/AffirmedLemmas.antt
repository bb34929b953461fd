-- `broken` is considered where assertions say that the predicate holds, one assertion after the other.
use Rattle.std.proofs.Common.{◌≡◌, ◌⊎◌, ℕ, ◌+◌, ◌<◌, Bool, true, false, Option, List, [], ◌++◌, length, take, get_or, refl, sym, ap, ◌∙◌, subst, inl, inr, arith}
use Rattle.std.specs.List.{list_any}
use Rattle.std.proofs.lemmas.Bool.{and_parts, both_ways, or_cases}
use Rattle.std.proofs.lemmas.List.Folds.{list_any_more}
use Rattle.rf_problem.specs.Asserted.{match_each}
use Rattle.rf_problem.specs.Parts.{no_predicate}
use Rattle.rf_problem.specs.declared.assertion.Assertion.{Assertion}
use Rattle.rf_problem.specs.declared.problem.Problem.{Problem}
use Rattle.rf_state.specs.State.{State}
use Rattle.rf_rules.specs.Predicates.{origins_of}
use Rattle.rf_prop_broken.specs.Asserting.{Matches, affirms, is_affirmed_by}
use Rattle.rf_prop_broken.specs.Best.{Improves, fires_at}
use Rattle.rf_prop_broken.specs.declared.instances.Instances.TheVariants.{Broken}
use Rattle.rf_prop_broken.proofs.AssertingLemmas.{length-origins_of, match_each-length}
use Rattle.rf_prop_broken.proofs.BestLemmas.{improves-none, improves-then, improves-weaker}
use Rattle.rf_prop_broken.proofs.FireLemmas.{broken-parts}

module _ (p : Problem) (s : State) (q : ℕ) where
  abbrev passes : List ℕ → Bool
  passes = fires_at p s (Broken q)

  abbrev IsBy : Assertion → List ℕ → Type 0
  IsBy a t = is_affirmed_by q (origins_of s t) a ≡ true

  -- some of these assertions affirms
  abbrev pub AreBy : List Assertion → List ℕ → Type 0
  AreBy claims t = list_any (is_affirmed_by q (origins_of s t)) claims ≡ true

  pub affirmed-next : (claims : List Assertion) (i : ℕ) (a : Assertion) (o m n : Option (List ℕ)) → i < length claims → get_or claims i a ≡ a
      → Improves passes (AreBy (take i claims)) o m → Improves passes (IsBy a) m n → Improves passes (AreBy (take (i + 1) claims)) o n
  affirmed-next claims i a o m n l at before now =
      improves-weaker passes (λ t. AreBy (take i claims) t ⊎ IsBy a t) (AreBy (take (i + 1) claims)) o n each (improves-then passes (AreBy (take i claims)) (IsBy a) o m n before now)
    where
      each : (t : List ℕ) → AreBy (take (i + 1) claims) t → passes t ≡ true → AreBy (take i claims) t ⊎ IsBy a t
      each t h f =
          let by = is_affirmed_by q (origins_of s t) in
          elim (or_cases (list_any by (take i claims)) (by (get_or claims i a)) (sym (list_any_more by claims i a l) ∙ h)) [
            | inl e ↦ inl e
            | inr e ↦ inr (subst (λ (x : Assertion). by x ≡ true) at e)
          ]

  -- where this one does
  pub affirmed-matching : (a : Assertion) (args : List (Option ℕ)) (objects : List ℕ) (o n : Option (List ℕ)) → args ≡ a.args → objects ≡ []
      → Improves passes (Matches s objects args) o n → Improves passes (IsBy a) o n
  affirmed-matching a args objects o n same none h = improves-weaker passes (Matches s objects args) (IsBy a) o n each h
    where
      each : (t : List ℕ) → IsBy a t → passes t ≡ true → Matches s objects args t
      each t by f = record {
        rest = t;
        same = ap (λ (xs : List ℕ). xs ++ t) (sym none);
        there = (broken-parts p s q t f).tuple.below;
        matching = ap (λ (xs : List (Option ℕ)). match_each xs (origins_of s t)) same ∙ (and_parts (affirms q a) (match_each a.args (origins_of s t)) by).1;
      }

  pub unaffirmed : (a : Assertion) (o : Option (List ℕ)) → affirms q a ≡ false → Improves passes (IsBy a) o o
  unaffirmed a o none = improves-none passes (IsBy a) o
      (λ t by. absurd (both_ways (affirms q a) none (and_parts (affirms q a) (match_each a.args (origins_of s t)) by).0))

  pub unaffirmed-long : (a : Assertion) (o : Option (List ℕ)) → q < length p.predicates → 4 < length a.args → Improves passes (IsBy a) o o
  unaffirmed-long a o lq long = improves-none passes (IsBy a) o (λ t by. fails t by (passes t) refl)
    where
      fails : (t : List ℕ) → IsBy a t → (b : Bool) → passes t ≡ b → passes t ≡ false
      fails t by false e = e
      fails t by true e =
          let few = p.predicates_fit.arities q no_predicate lq in
          let many = (broken-parts p s q t e).tuple.many in
          let args = match_each-length a.args (origins_of s t) (and_parts (affirms q a) (match_each a.args (origins_of s t)) by).1 in
          let origins = length-origins_of s t in
          absurd (omega (arith, few, many, args, origins, long))

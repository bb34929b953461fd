-- Lists of decisions that are as they were.
use Rattle.std.proofs.Common.{◌≡◌, ℕ, Bool, true, false, ◌&&◌, ◌||◌, not, nat_lt, if◌then◌else◌, List, [], ◌∷◌, length, refl, sym, ap, ap₂, ◌∙◌, true≢false}
use Rattle.std.specs.FinSet.{contains}
use Rattle.rf_finite.specs.Passing.{joined}
use Rattle.rf_finite.specs.Range.{all_below, some_below}
use Rattle.rf_values.specs.Count.{is_single}
use Rattle.rf_values.specs.Truth.{may}
use Rattle.rf_values.specs.declared.truth.Truth.{Truth}
use Rattle.rf_values.specs.declared.truth.Truth.TheVariants.{True, False, Unknown, Error}
use Rattle.rf_problem.specs.Classes.{is_below}
use Rattle.rf_problem.specs.declared.problem.Problem.{Problem}
use Rattle.rf_state.specs.State.{State, object_of}
use Rattle.rf_state.specs.declared.object.Object.{Object}
use Rattle.rf_rules.specs.Decisions.{allowed}
use Rattle.rf_rules.specs.Words.{is_unknown}
use Rattle.rf_rules.specs.declared.decision.Decision.{Decision}
use Rattle.rf_rules.specs.declared.decision.Decision.TheVariants.{Kind, Ref}
use Rattle.rf_pending.specs.Touching.{IsSameRow}
use Rattle.rf_pending.specs.declared.standing.Standing.TheVariants.{May}
use Rattle.rf_pending.proofs.LeastLemmas.{local}
use Rattle.rf_decide.specs.Choice.{edges_from, if_allowed, kinds_of}
use Rattle.rf_decide.proofs.Joining.{joined_same}

-- whether a class splits the candidates of an object
abbrev splits : Problem → Object → ℕ → Bool
splits p x k =
    some_below (length p.classes) (λ c. contains x.candidates c && is_below p.classes c k)
    && not (all_below (length p.classes) (λ c. not (contains x.candidates c) || is_below p.classes c k))

-- the decisions on the class of object o, which is x, among n objects
abbrev kinds_at : Problem → ℕ → ℕ → Object → List Decision
kinds_at p o n x = joined (length p.classes) (λ c.
    if (nat_lt o n && nat_lt c (length p.classes)) && (is_single x.count && splits p x c) then Kind o c ∷ [] else [])

and_false : (a b : Bool) → b ≡ false → (a && b) ≡ false
and_false true b e = e
and_false false b e = refl

-- an edge that can't be there is known
known : (v : Truth) → may v ≡ false → is_unknown v ≡ false
known True e = absurd (true≢false e)
known False e = refl
known Unknown e = absurd (true≢false e)
known Error e = refl

abbrev asked : Problem → ℕ → ℕ → ℕ → ℕ → Truth → Object → Object → Bool
asked p r a b n v from to =
    (nat_lt r (length p.references) && (nat_lt a n && nat_lt b n)) && (is_single from.count && (is_single to.count && is_unknown v))

asked-known : (p : Problem) (r a b n : ℕ) (v : Truth) (from to : Object) → may v ≡ false → asked p r a b n v from to ≡ false
asked-known p r a b n v from to e =
    and_false (nat_lt r (length p.references) && (nat_lt a n && nat_lt b n)) (is_single from.count && (is_single to.count && is_unknown v))
    (and_false (is_single from.count) (is_single to.count && is_unknown v) (and_false (is_single to.count) (is_unknown v) (known v e)))

module _ (p : Problem) (s t : State) where
  pub kinds-same : (o : ℕ) → length t.objects ≡ length s.objects → object_of t o ≡ object_of s o → kinds_of p t o ≡ kinds_of p s o
  kinds-same o many same = ap₂ (kinds_at p o) many same

  edge-same : (r a : ℕ) → IsSameRow p May r a s t → (b : ℕ) → allowed p t (Ref r a b) ≡ allowed p s (Ref r a b)
  edge-same r a h b = local p s t May r a h (λ n v added from to. asked p r a b n v from to)
      (λ n v added from to other e. asked-known p r a b n v from to e ∙ sym (asked-known p r a b n v from other e)) b

  pub edges-same : (r a : ℕ) → IsSameRow p May r a s t → edges_from p t r a ≡ edges_from p s r a
  edges-same r a h =
      ap (λ n. joined n (λ b. if_allowed p t (Ref r a b))) h.many
      ∙ joined_same (length s.objects) (λ b. if_allowed p t (Ref r a b)) (λ b. if_allowed p s (Ref r a b))
      (λ b l. ap (λ i. if i then Ref r a b ∷ [] else []) (edge-same r a h b))

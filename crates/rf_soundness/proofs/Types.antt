-- The rules of counts and types are sound.
use Rattle.std.proofs.Common.{◌≡◌, ℕ, Bool, true, length, refl, sym, ◌∙◌, inl, inr, arith, true≢false}
use Rattle.std.specs.Prelude.{nat_le}
use Rattle.std.proofs.lemmas.Bool.{and_parts, not-true, both_ways, ltb-true}
use Rattle.rf_finite.specs.Ends.{within}
use Rattle.rf_finite.proofs.Ends.{within-le}
use Rattle.rf_values.specs.Truth.{keeps}
use Rattle.rf_values.specs.declared.truth.Truth.{Truth}
use Rattle.rf_values.specs.declared.truth.Truth.TheVariants.{True, False, Unknown, Error}
use Rattle.rf_problem.specs.Classes.{is_below}
use Rattle.rf_problem.specs.declared.problem.Problem.{Problem}
use Rattle.rf_graph.specs.Graph.{class_of, has_edge}
use Rattle.rf_state.specs.State.{fact}
use Rattle.rf_rules.specs.Words.{any_candidate, hi, is_error, lo, must, source as source_class, target as target_class}
use Rattle.rf_rules.specs.declared.rule.End.{End}
use Rattle.rf_rules.specs.declared.rule.End.TheVariants.{Target, Source}
use Rattle.rf_rules.specs.declared.rule.Rule.TheVariants.{Clash, Empty, NoClass, Src, Tgt}
use Rattle.rf_rules.proofs.ClassLemmas.{contains-classes_where}
use Rattle.rf_placement.specs.Placement.{nodes_at}
use Rattle.rf_placement.proofs.Satisfied.{edge_ends, node_class_below}
use Rattle.rf_placement.proofs.AtObjects.{candidate_passes, edge_parts, fact_kept, lowers, must_edge, node_at, none_or_some, uppers}
use Rattle.rf_soundness.specs.SoundRules.{IsSoundRule}

-- an error is kept by nothing
pub no_kept_error : (v : Truth) → is_error v ≡ true → (holds : Bool) → keeps v holds ≡ true → ⊥
no_kept_error Error e holds k = true≢false (sym k)
no_kept_error True e holds k = true≢false (sym e)
no_kept_error False e holds k = true≢false (sym e)
no_kept_error Unknown e holds k = true≢false (sym e)

module _ (p : Problem) where
  pub empty_sound : (o : ℕ) → IsSoundRule p (Empty o)
  empty_sound o s g h c fit m =
      let l = ltb-true o (length s.objects) fit in
      both_ways (within (lo s o) (hi s o)) (not-true (within (lo s o) (hi s o)) m)
      (within-le (lo s o) (nodes_at g h o) (hi s o) (lowers p s g h c.stands o l) (uppers p s g h c.stands o l))

  pub no_class_sound : (o : ℕ) → IsSoundRule p (NoClass o)
  no_class_sound o s g h c fit m = elim (none_or_some p s g h c.stands o) [
    | inl none ↦ omega arith
    | inr x ↦ absurd (both_ways (any_candidate p s o (λ d. true)) (not-true (any_candidate p s o (λ d. true)) m)
        (candidate_passes p s g h c.stands o x.0 (λ d. true) (node_class_below p g c.satisfies x.0 x.1.0) x.1 refl))
  ]

  pub src_sound : (r a b : ℕ) → IsSoundRule p (Src r a b)
  src_sound r a b s g h c fit m =
      let l = edge_parts p s r a b fit in
      let parts = and_parts (must p s r a b) (nat_le 1 (lo s b)) m in
      let y = node_at p s g h c.stands b l.2 parts.1 in
      λ x at. contains-classes_where p (λ d. is_below p.classes d (source_class p r)) (class_of g x) (node_class_below p g c.satisfies x at.0)
      ∙ (edge_ends p g c.satisfies r x y.0 (must_edge p s g h c.stands r a b x y.0 l.0 at y.1 parts.0)).0

  pub tgt_sound : (r a b : ℕ) → IsSoundRule p (Tgt r a b)
  tgt_sound r a b s g h c fit m =
      let l = edge_parts p s r a b fit in
      let parts = and_parts (must p s r a b) (nat_le 1 (lo s a)) m in
      let x = node_at p s g h c.stands a l.1 parts.1 in
      λ y at. contains-classes_where p (λ d. is_below p.classes d (target_class p r)) (class_of g y) (node_class_below p g c.satisfies y at.0)
      ∙ (edge_ends p g c.satisfies r x.0 y (must_edge p s g h c.stands r a b x.0 y l.0 x.1 at parts.0)).1

  pub clash_sound : (r a b : ℕ) (end : End) → IsSoundRule p (Clash r a b end)
  clash_sound r a b Target s g h c fit m =
      let l = edge_parts p s r a b fit in
      let parts = and_parts (is_error (fact p s r a b)) (nat_le 1 (lo s a)) m in
      let x = node_at p s g h c.stands a l.1 parts.1 in
      elim (none_or_some p s g h c.stands b) [
        | inl none ↦ omega arith
        | inr y ↦ absurd (no_kept_error (fact p s r a b) parts.0 (has_edge g r x.0 y.0) (fact_kept p s g h c.stands r a b x.0 y.0 l.0 x.1 y.1))
      ]
  clash_sound r a b Source s g h c fit m =
      let l = edge_parts p s r a b fit in
      let parts = and_parts (is_error (fact p s r a b)) (nat_le 1 (lo s b)) m in
      let y = node_at p s g h c.stands b l.2 parts.1 in
      elim (none_or_some p s g h c.stands a) [
        | inl none ↦ omega arith
        | inr x ↦ absurd (no_kept_error (fact p s r a b) parts.0 (has_edge g r x.0 y.0) (fact_kept p s g h c.stands r a b x.0 y.0 l.0 x.1 y.1))
      ]

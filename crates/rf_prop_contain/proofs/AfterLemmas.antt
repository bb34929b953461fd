-- What covers a state before a change covers the state after it once it is touched.
use Rattle.std.proofs.Common.{◌≡◌, ℕ, ◌<◌, Bool, true, false, ◌==◌, ◌&&◌, ◌||◌, Option, None, length, refl, sym, ap, ◌∙◌, subst}
use Rattle.std.proofs.lemmas.Bool.{and_from, both_ways, eq-eqb, false_from_ne_true, or_parts}
use Rattle.rf_finite.specs.Range.{first_below}
use Rattle.rf_finite.proofs.Range.{each-from_some_below}
use Rattle.rf_problem.specs.declared.problem.Problem.{Problem}
use Rattle.rf_state.specs.State.{State}
use Rattle.rf_rules.specs.Containment.{is_only_possible}
use Rattle.rf_rules.specs.declared.rule.Rule.{Rule}
use Rattle.rf_rules.specs.declared.rule.Rule.TheVariants.{Acyclic, Alone, ContainCount, MustContain, NoContainer, OneContainer}
use Rattle.rf_pending.specs.Changes.{FitsChange, IsChange, is_fresh}
use Rattle.rf_pending.specs.Rows.{Covers as CoversRows, CoversEdges, firing, least_of_row}
use Rattle.rf_pending.specs.Touching.{AreEdgesTouched, AreTouched}
use Rattle.rf_pending.specs.declared.change.Change.{Change}
use Rattle.rf_pending.specs.declared.marks.Marks.{Marks}
use Rattle.rf_pending.proofs.SameRows.{same_many}
use Rattle.rf_prop_contain.specs.Pending.{Covers, first_excluded}
use Rattle.rf_prop_contain.specs.Touching.{concerns, is_concerned, is_from, is_near_held, is_sole_of, renews_walks}
use Rattle.rf_prop_contain.specs.declared.pending.Pending.{Pending}
use Rattle.rf_prop_contain.proofs.CoverLemmas.{covers-edges_still, covers-still, first_below-still, firing-still, row-still, touched-twice}
use Rattle.rf_prop_contain.proofs.FirstLemmas.{excluded_at, excluded_by, first_excluded-is}
use Rattle.rf_prop_contain.proofs.StillLemmas.{acyclic-still, alone-still, contain_count-still, must_contain-still, no_container-still, one_container-still, only_from_contain_count, only_from_must_contain}

module _ (p : Problem) (s t : State) (change : Change) (is : IsChange change s t) (fits : FitsChange p t change)
    (old : is_fresh change ≡ false) where
  many : length t.objects ≡ length s.objects
  many = same_many p s t change is old

  edges-after : (f : State → ℕ → ℕ → Option Rule) (near : ℕ → ℕ → Bool) (was marks : Marks)
      → CoversEdges (length p.references) (length s.objects) (f s) was
      → AreEdgesTouched (length p.references) (length t.objects) near was marks
      → ((r a : ℕ) → near r a ≡ false → f s r a ≡ None → f t r a ≡ None)
      → CoversEdges (length p.references) (length t.objects) (f t) marks
  edges-after f near was marks covers touched still =
      covers-edges_still (length p.references) (length t.objects) (f s) (f t) near was marks
      (subst (λ (n : ℕ). CoversEdges (length p.references) n (f s) was) (sym many) covers) touched (λ r a lr la far. still r a far)

  -- a container that is excluded
  excluded-after : (r a : ℕ) → is_near_held p t change r a ≡ false → first_excluded p s r a ≡ None → first_excluded p t r a ≡ None
  excluded-after r a far e =
      first_excluded-is p t r a
      ∙ (ap (λ n. first_below n (excluded_at p t r a)) many
      ∙ first_below-still (length s.objects) (excluded_at p s r a) (excluded_at p t r a)
      (λ b lb. first_below-still (length p.references) (excluded_by p s r a b) (excluded_by p t r a b)
      (λ q lq f. ap (λ n. first_below n (λ c. firing p t (OneContainer r a b q c))) many
      ∙ first_below-still (length s.objects) (λ c. firing p s (OneContainer r a b q c)) (λ c. firing p t (OneContainer r a b q c))
      (λ c lc. firing-still p s t (OneContainer r a b q c) (one_container-still p s t change is fits old r a far b q c)) f))
      (sym (first_excluded-is p s r a) ∙ e))

  -- where (r, a) is the only possible container of nothing that is concerned, what it is the only one of isn't concerned
  unconcerned : (r a b : ℕ) → is_sole_of p t change (length t.objects) r a ≡ false → b < length s.objects
      → is_only_possible p t r a b ≡ true
      → concerns p t change b ≡ false
  unconcerned r a b far l only = false_from_ne_true (concerns p t change b) (λ e.
      both_ways (concerns p t change b && is_only_possible p t r a b)
      (each-from_some_below (length t.objects) (λ x. concerns p t change x && is_only_possible p t r a x) far b
      (subst (λ (n : ℕ). b < n) (sym many) l))
      (and_from (concerns p t change b) (is_only_possible p t r a b) e only))

  must_contain-after : (r a : ℕ) → (is_from change a || is_sole_of p t change (length t.objects) r a) ≡ false
      → least_of_row p s (MustContain r a) ≡ None → least_of_row p t (MustContain r a) ≡ None
  must_contain-after r a far =
      let parts = or_parts (is_from change a) (is_sole_of p t change (length t.objects) r a) far in
      row-still p s t (MustContain r a) many (λ b l h.
      must_contain-still p s t change is fits old b (unconcerned r a b parts.1 l (only_from_must_contain p t r a b h)) r a parts.0 h)

  contain_count-after : (r a : ℕ) → is_sole_of p t change (length t.objects) r a ≡ false
      → least_of_row p s (ContainCount r a) ≡ None → least_of_row p t (ContainCount r a) ≡ None
  contain_count-after r a far =
      row-still p s t (ContainCount r a) many (λ b l h.
      contain_count-still p s t change is fits old b (unconcerned r a b far l (only_from_contain_count p t r a b h)) r a h)

  no_container-after : (b : ℕ) → b < length t.objects → is_concerned p t change (length t.objects) b ≡ false
      → firing p s (NoContainer b) ≡ None → firing p t (NoContainer b) ≡ None
  no_container-after b l far =
      let off : concerns p t change b ≡ false = false_from_ne_true (concerns p t change b) (λ e.
      both_ways (concerns p t change b && b == b)
      (each-from_some_below (length t.objects) (λ x. concerns p t change x && x == b) far b l)
      (and_from (concerns p t change b) (b == b) e (eq-eqb b b refl))) in
      firing-still p s t (NoContainer b) (no_container-still p s t change is fits old b off)

  acyclic-after : (r a : ℕ) → (renews_walks p t change || is_from change a) ≡ false
      → least_of_row p s (Acyclic r a) ≡ None → least_of_row p t (Acyclic r a) ≡ None
  acyclic-after r a far =
      let parts = or_parts (renews_walks p t change) (is_from change a) far in
      row-still p s t (Acyclic r a) many (λ b l h. acyclic-still p s t change is fits old parts.0 r a b parts.1 h)

  pub covers-after : (was pending : Pending) (between : Marks) → Covers p s was
      → AreEdgesTouched (length p.references) (length t.objects) (is_near_held p t change) was.one_container pending.one_container
      → AreEdgesTouched (length p.references) (length t.objects) (is_near_held p t change) was.alone pending.alone
      → AreEdgesTouched (length p.references) (length t.objects) (λ r a. is_from change a) was.must_contain between
      → AreEdgesTouched (length p.references) (length t.objects) (is_sole_of p t change (length t.objects)) between pending.must_contain
      → AreEdgesTouched (length p.references) (length t.objects)
      (is_sole_of p t change (length t.objects)) was.contain_count pending.contain_count
      → AreTouched (is_concerned p t change (length t.objects)) was.no_container pending.no_container
      → AreEdgesTouched (length p.references) (length t.objects)
      (λ r a. renews_walks p t change || is_from change a) was.acyclic pending.acyclic
      → Covers p t pending
  covers-after was pending between covers one_container alone from must_contain contain_count no_container acyclic = record {
    one_container = edges-after (λ u r a. first_excluded p u r a)
        (is_near_held p t change) was.one_container pending.one_container covers.one_container one_container excluded-after;
    alone = edges-after (λ u r a. least_of_row p u (Alone r a)) (is_near_held p t change) was.alone pending.alone covers.alone alone
        (λ r a far. row-still p s t (Alone r a) many (λ b l h. alone-still p s t change is fits old r a far b h));
    must_contain = edges-after (λ u r a. least_of_row p u (MustContain r a))
        (λ r a. is_from change a || is_sole_of p t change (length t.objects) r a)
        was.must_contain pending.must_contain covers.must_contain
        (touched-twice (length p.references) (length t.objects) (λ r a. is_from change a)
        (is_sole_of p t change (length t.objects)) was.must_contain between pending.must_contain
        from must_contain) must_contain-after;
    contain_count = edges-after (λ u r a. least_of_row p u (ContainCount r a)) (is_sole_of p t change (length t.objects))
        was.contain_count pending.contain_count covers.contain_count contain_count contain_count-after;
    no_container = covers-still (length t.objects) (λ b. firing p s (NoContainer b)) (λ b. firing p t (NoContainer b))
        (is_concerned p t change (length t.objects))
        was.no_container pending.no_container
        (subst (λ (n : ℕ). CoversRows n (λ b. firing p s (NoContainer b)) was.no_container)
        (sym many) covers.no_container) no_container no_container-after;
    acyclic = edges-after (λ u r a. least_of_row p u (Acyclic r a)) (λ r a. renews_walks p t change || is_from change a)
        was.acyclic pending.acyclic covers.acyclic acyclic acyclic-after;
  }

-- Elements outside of which a literal is false.
use Rattle.std.proofs.Common.{◌≡◌, ℕ, ◌<◌, Bool, true, false, ◌&&◌, ◌||◌, ◌==◌, Option, None, Some, List, [], ◌∷◌, length, set, arith, refl, sym, ap, ap₂, ◌∙◌, subst, inl, inr, get_or-set_same, get_or-set_other}
use Rattle.std.specs.List.{list_any}
use Rattle.std.specs.Prelude.{IfSome, slice_get, slice_index, slice_index_or}
use Rattle.std.proofs.lemmas.Bool.{both_ways, cases_Bool, eq-eqb, eqb-true, or_from}
use Rattle.rf_finite.proofs.Range.{some_below-none}
use Rattle.rf_values.specs.Truth.{may, must, truth_of}
use Rattle.rf_values.specs.declared.truth.Truth.{Truth}
use Rattle.rf_values.specs.declared.truth.Truth.TheVariants.{False}
use Rattle.rf_problem.specs.Reading.{Assignment, Reading, assign, some_elements}
use Rattle.rf_problem.specs.declared.predicate.Literal.{Literal}
use Rattle.rf_problem.specs.declared.predicate.Literal.TheVariants.{Call, Same, Differ}
use Rattle.rf_problem.specs.declared.predicate.Term.{Term}
use Rattle.rf_problem.specs.declared.predicate.Term.TheVariants.{Var, Atom}
use Rattle.rf_problem.specs.declared.symbol.Symbol.TheVariants.{Reference}
use Rattle.rf_evaluate.specs.Elements.{AreBelow, includes}
use Rattle.rf_evaluate.specs.Evaluating.{AreCandidates, IsSoundBody, standing}
use Rattle.rf_evaluate.specs.Known.{Known, side}
use Rattle.rf_problem.proofs.Fitting.{FitsCall-from_literal_fits, each-from_literals_fit}
use Rattle.rf_evaluate.specs.Narrowing.{AwaitsElement, IsAnchor, Narrows, declares_called}
use Rattle.rf_evaluate.specs.Terms.{is_unassigned}
use Rattle.rf_evaluate.specs.declared.elements.Elements.{Elements}
use Rattle.rf_evaluate.specs.declared.next.Next.{Next}
use Rattle.rf_evaluate.specs.declared.stage.Body.{Body}
use Rattle.rf_evaluate.specs.declared.stage.Stage.{Stage}
use Rattle.rf_evaluate.proofs.Completing.{marked-within, names_unassigned-standing}

-- a term stands for x alone in a reading
abbrev StandsAlone : Reading → Assignment → Term → ℕ → Type 0
StandsAlone here assignment (Var u) x = assignment u ≡ x
StandsAlone here assignment (Atom o) x = (y : ℕ) → y < here.size → here.origin y ≡ o → y ≡ x

-- a test that fails at x and the element of variable v fails at a term that stands for x alone and the variable
module _ (here : Reading) (assignment : Assignment) (x v : ℕ) (test : List ℕ → Bool) where
  chosen-first : (o : ℕ) → ((y : ℕ) → y < here.size → here.origin y ≡ o → y ≡ x) → test (x ∷ assignment v ∷ []) ≡ false → (y : ℕ) → y < here.size
      → (here.present y && (here.origin y == o && test (assign (λ a. 0) o y o ∷ assignment v ∷ []))) ≡ false
  chosen-first o alone f y l = elim (cases_Bool (here.present y)) [
    | inr e ↦ rw e refl
    | inl e ↦ rw e (elim (cases_Bool (here.origin y == o)) [
      | inr g ↦ rw g refl
      | inl g ↦ (let own : (o == o) ≡ true = eq-eqb o o refl in
          let is : assign (λ a. 0) o y o ≡ x = rw own (alone y l (eqb-true (here.origin y) o g)) in
          rw g (ap (λ (n : ℕ). test (n ∷ assignment v ∷ [])) is ∙ f))
    ])
  ]

  fails-first : (t : Term) → StandsAlone here assignment t x → test (x ∷ assignment v ∷ []) ≡ false → some_elements here assignment (t ∷ Var v ∷ []) test ≡ false
  fails-first (Var u) e f = ap (λ (n : ℕ). test (n ∷ assignment v ∷ [])) e ∙ f
  fails-first (Atom o) alone f =
      some_below-none here.size (λ y. here.present y && (here.origin y == o && test (assign (λ a. 0) o y o ∷ assignment v ∷ []))) (chosen-first o alone f)

  chosen-second : (o : ℕ) → ((y : ℕ) → y < here.size → here.origin y ≡ o → y ≡ x) → test (assignment v ∷ x ∷ []) ≡ false → (y : ℕ) → y < here.size
      → (here.present y && (here.origin y == o && test (assignment v ∷ assign (λ a. 0) o y o ∷ []))) ≡ false
  chosen-second o alone f y l = elim (cases_Bool (here.present y)) [
    | inr e ↦ rw e refl
    | inl e ↦ rw e (elim (cases_Bool (here.origin y == o)) [
      | inr g ↦ rw g refl
      | inl g ↦ (let own : (o == o) ≡ true = eq-eqb o o refl in
          let is : assign (λ a. 0) o y o ≡ x = rw own (alone y l (eqb-true (here.origin y) o g)) in
          rw g (ap (λ (n : ℕ). test (assignment v ∷ n ∷ [])) is ∙ f))
    ])
  ]

  fails-second : (t : Term) → StandsAlone here assignment t x → test (assignment v ∷ x ∷ []) ≡ false → some_elements here assignment (Var v ∷ t ∷ []) test ≡ false
  fails-second (Var u) e f = ap (λ (n : ℕ). test (assignment v ∷ n ∷ [])) e ∙ f
  fails-second (Atom o) alone f =
      some_below-none here.size (λ y. here.present y && (here.origin y == o && test (assignment v ∷ assign (λ a. 0) o y o ∷ []))) (chosen-second o alone f)

-- what an anchor stands for stays so with an element for another variable
module _ (k : Known) (s : Stage) (v : ℕ) (unassigned : slice_index_or s.unassigned v false ≡ true) where
  apart : (u : ℕ) → slice_index_or s.unassigned u false ≡ false → u ≡ v → ⊥
  apart u e q = both_ways (slice_index_or s.unassigned v false) (subst (λ w. slice_index_or s.unassigned w false ≡ false) q e) unassigned

  StandsAlone-anchor : (column : Truth → Bool) (t : Term) (x y : ℕ) → IsAnchor k s t x → StandsAlone (side column k) (slice_index (set s.elements v y)) t x
  StandsAlone-anchor column (Var u) x y anchor = get_or-set_other s.elements v u y 0 (apart u anchor.0) ∙ anchor.1
  StandsAlone-anchor column (Atom o) x y anchor = anchor

  anchor-assigned : (t : Term) (x : ℕ) → IsAnchor k s t x → is_unassigned (set s.unassigned v false) t ≡ false
  anchor-assigned (Var u) x anchor = get_or-set_other s.unassigned v u false false (apart u anchor.0) ∙ anchor.0
  anchor-assigned (Atom o) x anchor = refl

  own-assigned : is_unassigned (set s.unassigned v false) (Var v) ≡ false
  own-assigned = get_or-set_same s.unassigned v false false (marked-within s.unassigned v unassigned)

  ground-pair : (a b : Term) → is_unassigned (set s.unassigned v false) a ≡ false → is_unassigned (set s.unassigned v false) b ≡ false
      → list_any (is_unassigned (set s.unassigned v false)) (a ∷ b ∷ []) ≡ false
  ground-pair a b e f =
      or_from (is_unassigned (set s.unassigned v false) a) (is_unassigned (set s.unassigned v false) b || false) e
      (or_from (is_unassigned (set s.unassigned v false) b) false f refl)

-- elements to which an edge can lead narrow the variable at its end
pub Narrows-to : (k : Known) (s : Stage) (r : ℕ) (a b : Term) (v x : ℕ) (elements : Elements) → AwaitsElement s b v → IsAnchor k s a x → AreBelow k.size elements
    → ((y : ℕ) → y < k.size → includes elements y ≡ false → k.edge r x y ≡ False) → Narrows k s (Call false false (Reference r) (a ∷ b ∷ [])) v elements
Narrows-to k s r a b v x elements awaits anchor below complete =
    subst (λ (t : Term). Narrows k s (Call false false (Reference r) (a ∷ t ∷ [])) v elements) (sym awaits.term) (record {
      few = awaits.few;
      unassigned = awaits.unassigned;
      below = below;
      ground = ground-pair k s v awaits.unassigned a (Var v) (anchor-assigned k s v awaits.unassigned a x anchor) (own-assigned k s v awaits.unassigned);
      others = λ y l off i variables. ap₂ truth_of (fails must refl y l off) (fails may refl y l off);
    })
  where
    fails : (column : Truth → Bool) → column False ≡ false → (y : ℕ) → y < k.size → includes elements y ≡ false
        → some_elements (side column k) (slice_index (set s.elements v y)) (a ∷ Var v ∷ []) (λ t. column (k.edge r (slice_index t 0) (slice_index t 1))) ≡ false
    fails column none y l off =
        fails-first (side column k) (slice_index (set s.elements v y)) x v (λ t. column (k.edge r (slice_index t 0) (slice_index t 1))) a
        (StandsAlone-anchor k s v awaits.unassigned column a x y anchor)
        (ap (λ (n : ℕ). column (k.edge r x n)) (get_or-set_same s.elements v y 0 awaits.place) ∙ (ap column (complete y l off) ∙ none))

-- and those from which it can
pub Narrows-from : (k : Known) (s : Stage) (r : ℕ) (a b : Term) (v x : ℕ) (elements : Elements) → AwaitsElement s a v → IsAnchor k s b x → AreBelow k.size elements
    → ((y : ℕ) → y < k.size → includes elements y ≡ false → k.edge r y x ≡ False) → Narrows k s (Call false false (Reference r) (a ∷ b ∷ [])) v elements
Narrows-from k s r a b v x elements awaits anchor below complete =
    subst (λ (t : Term). Narrows k s (Call false false (Reference r) (t ∷ b ∷ [])) v elements) (sym awaits.term) (record {
      few = awaits.few;
      unassigned = awaits.unassigned;
      below = below;
      ground = ground-pair k s v awaits.unassigned (Var v) b (own-assigned k s v awaits.unassigned) (anchor-assigned k s v awaits.unassigned b x anchor);
      others = λ y l off i variables. ap₂ truth_of (fails must refl y l off) (fails may refl y l off);
    })
  where
    fails : (column : Truth → Bool) → column False ≡ false → (y : ℕ) → y < k.size → includes elements y ≡ false
        → some_elements (side column k) (slice_index (set s.elements v y)) (Var v ∷ b ∷ []) (λ t. column (k.edge r (slice_index t 0) (slice_index t 1))) ≡ false
    fails column none y l off =
        fails-second (side column k) (slice_index (set s.elements v y)) x v (λ t. column (k.edge r (slice_index t 0) (slice_index t 1))) b
        (StandsAlone-anchor k s v awaits.unassigned column b x y anchor)
        (ap (λ (n : ℕ). column (k.edge r n x)) (get_or-set_same s.elements v y 0 awaits.place) ∙ (ap column (complete y l off) ∙ none))

-- the elements that a literal that is to be evaluated leaves are candidates
pub AreCandidates-from_literal : (k : Known) (b : Body) (s : Stage) (i : ℕ) (l : Literal) (v : ℕ) (elements : Elements) → slice_get b.literals.now i ≡ Some l
    → slice_index_or s.pending i false ≡ true → Narrows k s (standing b.is_inner l) v elements → AreCandidates k b s v elements
AreCandidates-from_literal k b s i l v elements at pending narrows = record {
  variable = narrows.few;
  unassigned = narrows.unassigned;
  below = narrows.below;
  others = λ x lt off. record {
    place = i;
    literal = l;
    there = at;
    pending = pending;
    ground = sym (names_unassigned-standing (set s.unassigned v false) b.is_inner l) ∙ narrows.ground;
    refuted = narrows.others x lt off i b.variables.now;
  };
}

-- the symbol that a literal of a sound body calls is there
pub declares_called-from_IsSoundBody : (k : Known) (b : Body) → IsSoundBody k b → (i : ℕ) (l : Literal) → slice_get b.literals.now i ≡ Some l → declares_called k.problem l ≡ true
declares_called-from_IsSoundBody k b sound i (Call negated closure symbol args) at =
    (FitsCall-from_literal_fits k.problem b.variables.now i negated closure symbol args
    (each-from_literals_fit k.problem b.variables.now b.literals.now sound.fit i (Call negated closure symbol args) at)).declared
declares_called-from_IsSoundBody k b sound i (Same x y) at = refl
declares_called-from_IsSoundBody k b sound i (Differ x y) at = refl

-- what narrows a variable is found with it
pub Narrows-found : (k : Known) (s : Stage) (l : Literal) (v : ℕ) (elements : Elements) (found : Option Next) → IfSome found (λ next. next.variable ≡ v)
    → IfSome found (λ next. next.elements ≡ elements) → Narrows k s l v elements → IfSome found (λ next. Narrows k s l next.variable next.elements)
Narrows-found k s l v elements None is are narrows = is
Narrows-found k s l v elements (Some next) is are narrows =
    subst (λ (e : Elements). Narrows k s l next.variable e) (sym are) (subst (λ (u : ℕ). Narrows k s l u elements) (sym is) narrows)

-- a list of two terms
pub two_terms : (args : List Term) → length args ≡ 2 → slice_index_or args 0 (Var 0) ∷ slice_index_or args 1 (Var 0) ∷ [] ≡ args
two_terms [] e = absurd (omega (arith, e))
two_terms (a ∷ []) e = absurd (omega (arith, e))
two_terms (a ∷ b ∷ []) e = refl
two_terms (a ∷ b ∷ c ∷ args) e = absurd (omega (arith, e))

pub AreCandidates-found : (k : Known) (b : Body) (s : Stage) (i : ℕ) (l : Literal) (found : Option Next) → slice_get b.literals.now i ≡ Some l
    → slice_index_or s.pending i false ≡ true → IfSome found (λ next. Narrows k s (standing b.is_inner l) next.variable next.elements)
    → IfSome found (λ next. AreCandidates k b s next.variable next.elements)
AreCandidates-found k b s i l None at pending narrows = narrows
AreCandidates-found k b s i l (Some next) at pending narrows = AreCandidates-from_literal k b s i l next.variable next.elements at pending narrows

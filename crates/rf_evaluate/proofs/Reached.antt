-- Which tuples are reached from a stage, and from the stages after it.
use Rattle.std.proofs.Common.{◌≡◌, ℕ, ◌<◌, ◌≤◌, Bool, true, false, if◌then◌else◌, Some, List, length, set, take, get_or, get_or-set_same, get_or-set_other, get_or-take, length-take-le, refl, sym, ap, ap₂, ◌∙◌, subst, inl, inr, arith, true≢false, slice_index, slice_index_or, slice_get, lt-ltb, le-ltb}
use Rattle.std.proofs.lemmas.Bool.{cases_Bool, cases_lt, cases_order}
use Rattle.std.proofs.lemmas.Grind.{same_number_lists}
use Rattle.std.proofs.lemmas.List.Elements.{All-get_or, All-from_get_or}
use Rattle.rf_values.specs.Truth.{conjunction}
use Rattle.rf_values.specs.declared.truth.Truth.{Truth}
use Rattle.rf_values.specs.declared.truth.Truth.TheVariants.{False}
use Rattle.rf_problem.specs.declared.predicate.Literal.{Literal}
use Rattle.rf_evaluate.specs.Elements.{count, element_at, includes}
use Rattle.rf_evaluate.specs.declared.elements.Elements.{Elements}
use Rattle.rf_evaluate.specs.Evaluating.{AreCandidates, IsRefuted, completed_value, completed_with, literal_value, some_truth, with_element, without_literal}
use Rattle.rf_evaluate.specs.Gathering.{Column, tells}
use Rattle.rf_evaluate.specs.Hunts.{AreClosed, GoesOn, IsPlaced, IsReached, IsReachedWith, value_with, with_tuple}
use Rattle.rf_evaluate.specs.Known.{Known}
use Rattle.rf_evaluate.specs.Terms.{names_unassigned}
use Rattle.rf_evaluate.specs.declared.stage.Body.{Body}
use Rattle.rf_evaluate.specs.declared.stage.Stage.{Stage}
use Rattle.rf_evaluate.proofs.Candidates.{element_at-below, number-of}
use Rattle.rf_evaluate.proofs.Completing.{completed-chosen, completed-evaluated, marked-within}
use Rattle.rf_evaluate.proofs.Conjunctions.{conjunction-assoc, one-from_some_truth, some_truth-from_one, tells-ne_False}
use Rattle.rf_evaluate.proofs.InBoth.{conjunction-False}
use Rattle.rf_evaluate.proofs.Independence.{literal_value-agreeing, names_unassigned-fewer}
use Rattle.rf_evaluate.proofs.TupleStages.{assigned-same, assigned-still, later-assigned, length-elements, length-unassigned, with_tuple-first, with_tuple-later, with_tuple-same}

-- a stage has eight variables
pub record IsFull (s : Stage) : Type 0 where
  pub elements : length s.elements ≡ 8
  pub unassigned : length s.unassigned ≡ 8

-- a tuple that goes on from a stage goes on from it with its own element for a variable
GoesOn-with : (s : Stage) (t : List ℕ) (v x : ℕ) → IsFull s → v < 8 → GoesOn s t → (v < length t → slice_index t v ≡ x) → GoesOn (with_element s v x) t
GoesOn-with s t v x full l on same u m e = elim (cases_order u v) [
  | inl q ↦ subst (λ (w : ℕ). slice_index t w ≡ slice_index (set s.elements v x) w) (sym q)
      (same (subst (λ (w : ℕ). w < length t) q m) ∙ sym (get_or-set_same s.elements v x 0 (omega (arith, full.elements))))
  | inr o ↦ (let apart : u ≡ v → ⊥ = λ q. elim o [ inl less ↦ absurd (omega arith) | inr more ↦ absurd (omega arith) ] in
      on u m (sym (get_or-set_other s.unassigned v u false false (λ q. apart q)) ∙ e) ∙ sym (get_or-set_other s.elements v u x 0 (λ q. apart q)))
]

-- and the other way round
GoesOn-without : (s : Stage) (t : List ℕ) (v x : ℕ) → slice_index_or s.unassigned v false ≡ true → GoesOn (with_element s v x) t → GoesOn s t
GoesOn-without s t v x open_at on u m e =
    let apart : u ≡ v → ⊥ = λ q. absurd (true≢false (sym open_at ∙ subst (λ (w : ℕ). slice_index_or s.unassigned w false ≡ false) q e)) in
    on u m (get_or-set_other s.unassigned v u false false (λ q. apart q) ∙ e) ∙ get_or-set_other s.elements v u x 0 (λ q. apart q)

value_with-parameter : (k : Known) (arity v : ℕ) (value : Truth) (x : ℕ) → v < arity → value_with k arity v value x ≡ value
value_with-parameter k arity v value x l = ap (λ (y : Bool). if y then value else conjunction value (k.presence x)) (lt-ltb v arity l)

value_with-other : (k : Known) (arity v : ℕ) (value : Truth) (x : ℕ) → arity ≤ v → value_with k arity v value x ≡ conjunction value (k.presence x)
value_with-other k arity v value x l = ap (λ (y : Bool). if y then value else conjunction value (k.presence x)) (le-ltb v arity l)

module _ (k : Known) (b : Body) (passes : List ℕ → Bool) (arity : ℕ) where
  -- the body with a tuple's elements where a literal is evaluated that names no unassigned variable
  value-evaluated : (s : Stage) (i : ℕ) (l : Literal) (t : List ℕ) → slice_index_or s.pending i false ≡ true → slice_get b.literals.now i ≡ Some l
      → names_unassigned s.unassigned l ≡ false → GoesOn s t
      → completed_value k b (with_tuple s t) ≡ conjunction (literal_value k b i l (slice_index s.elements)) (completed_value k b (with_tuple (without_literal s i) t))
  value-evaluated s i l t pending there ground on =
      completed-evaluated k b (with_tuple s t) i l (marked-within s.pending i pending) pending there
      (names_unassigned-fewer s.unassigned (with_tuple s t).unassigned l (assigned-still s t) ground)
      ∙ ap (λ (y : Truth). conjunction y (completed_value k b (with_tuple (without_literal s i) t)))
      (literal_value-agreeing k b i l s.unassigned (slice_index (with_tuple s t).elements) (slice_index s.elements) (assigned-same s t on) ground)

  -- what is reached before the evaluation of a literal is reached after it
  pub IsReached-without : (s : Stage) (i : ℕ) (l : Literal) (value own : Truth) (t : List ℕ) (c : Column) → slice_index_or s.pending i false ≡ true → slice_get b.literals.now i ≡ Some l
      → names_unassigned s.unassigned l ≡ false → own ≡ literal_value k b i l (slice_index s.elements)
      → IsReached k b passes arity s value t c → IsReached k b passes arity (without_literal s i) (conjunction value own) t c
  IsReached-without s i l value own t c pending there ground is h =
      let rest = completed_value k b (with_tuple (without_literal s i) t) in
      let e = ap (conjunction value) (value-evaluated s i l t pending there ground h.goes_on) ∙ (conjunction-assoc value (literal_value k b i l (slice_index s.elements)) rest
      ∙ ap (λ (y : Truth). conjunction (conjunction value y) rest) (sym is)) in
      record { tuple = h.tuple; passed = h.passed; goes_on = h.goes_on; told = sym (ap (tells c) e) ∙ h.told }

  pub IsReached-before : (s : Stage) (i : ℕ) (l : Literal) (value own : Truth) (t : List ℕ) (c : Column) → slice_index_or s.pending i false ≡ true → slice_get b.literals.now i ≡ Some l
      → names_unassigned s.unassigned l ≡ false → own ≡ literal_value k b i l (slice_index s.elements)
      → IsReached k b passes arity (without_literal s i) (conjunction value own) t c → IsReached k b passes arity s value t c
  IsReached-before s i l value own t c pending there ground is h =
      let rest = completed_value k b (with_tuple (without_literal s i) t) in
      let e = ap (conjunction value) (value-evaluated s i l t pending there ground h.goes_on) ∙ (conjunction-assoc value (literal_value k b i l (slice_index s.elements)) rest
      ∙ ap (λ (y : Truth). conjunction (conjunction value y) rest) (sym is)) in
      record { tuple = h.tuple; passed = h.passed; goes_on = h.goes_on; told = ap (tells c) e ∙ h.told }

  refuted-value : (s : Stage) (t : List ℕ) → IsRefuted k b s → GoesOn s t → completed_value k b (with_tuple s t) ≡ False
  refuted-value s t r on = value-evaluated s r.place r.literal t r.pending r.there r.ground on
      ∙ ap (λ (y : Truth). conjunction y (completed_value k b (with_tuple (without_literal s r.place) t))) r.refuted

  chosen-value : (s : Stage) (t : List ℕ) (v : ℕ) → IsFull s → length t ≤ 4 → length t ≤ v → slice_index_or s.unassigned v false ≡ true
      → completed_value k b (with_tuple s t) ≡ some_truth k.size (completed_with k b (with_tuple s t) v)
  chosen-value s t v full few g open_at =
      let m = length-elements s t (omega (arith, full.elements)) in
      let n = length-unassigned s t (omega (arith, full.unassigned)) in
      completed-chosen k b (with_tuple s t) v (omega (arith, m, n, full.elements, full.unassigned)) (later-assigned s t v g ∙ open_at)

  with-value : (s : Stage) (t : List ℕ) (v x : ℕ) (value : Truth) → arity ≤ v → length t ≤ v
      → conjunction value (completed_with k b (with_tuple s t) v x) ≡ conjunction (value_with k arity v value x) (completed_value k b (with_tuple (with_element s v x) t))
  with-value s t v x value g m =
      conjunction-assoc value (k.presence x) (completed_value k b (with_element (with_tuple s t) v x))
      ∙ ap₂ conjunction (sym (value_with-other k arity v value x g)) (ap (completed_value k b) (sym (with_tuple-later s t v x m)))

  -- what is reached is reached with some element for an unassigned variable
  chosen : (s : Stage) (value : Truth) (v : ℕ) (t : List ℕ) (c : Column) → IsFull s → arity ≤ 4 → v < 8 → slice_index_or s.unassigned v false ≡ true
      → IsReached k b passes arity s value t c → (x : ℕ) × (x < k.size) × IsReached k b passes arity (with_element s v x) (value_with k arity v value x) t c
  chosen s value v t c full few less open_at h = elim (cases_lt v arity) [
    | inl l ↦ (let m : v < length t = omega (arith, h.tuple.many) in
        let x = slice_index t v in (
          x,
          All-get_or (λ y. y < k.size) t v 0 m h.tuple.below,
          record {
            tuple = h.tuple;
            passed = h.passed;
            goes_on = GoesOn-with s t v x full less h.goes_on (λ q. refl);
            told = ap (tells c) (ap₂ conjunction (value_with-parameter k arity v value x l) (ap (completed_value k b) (with_tuple-first s t v x m))) ∙ h.told;
          },
        ))
    | inr g ↦ (let m : length t ≤ v = omega (arith, h.tuple.many) in
        let one = one-from_some_truth c value k.size (completed_with k b (with_tuple s t) v)
        (sym (ap (λ (y : Truth). tells c (conjunction value y)) (chosen-value s t v full (omega (arith, h.tuple.many)) m open_at)) ∙ h.told) in (
          one.0,
          one.1,
          record {
            tuple = h.tuple;
            passed = h.passed;
            goes_on = GoesOn-with s t v one.0 full less h.goes_on (λ q. absurd (omega arith));
            told = sym (ap (tells c) (with-value s t v one.0 value g m)) ∙ one.2;
          },
        ))
  ]

  -- and that is a candidate
  pub IsReachedWith-from_IsReached : (s : Stage) (value : Truth) (v : ℕ) (elements : Elements) (t : List ℕ) (c : Column) → IsFull s → arity ≤ 4 → AreCandidates k b s v elements
      → IsReached k b passes arity s value t c → IsReachedWith k b passes arity s value v elements (count elements) t c
  IsReachedWith-from_IsReached s value v elements t c full few candidates h =
      let one = chosen s value v t c full few candidates.variable candidates.unassigned h in
      elim (cases_Bool (includes elements one.0)) [
        | inl is ↦ (let n = number-of elements one.0 is in record {
          number = n.0;
          before = n.1;
          reached = subst (λ (x : ℕ). IsReached k b passes arity (with_element s v x) (value_with k arity v value x) t c) (sym n.2) one.2;
        })
        | inr isnt ↦ absurd (tells-ne_False c (conjunction (value_with k arity v value one.0) (completed_value k b (with_tuple (with_element s v one.0) t))) one.2.told (ap (conjunction (value_with k arity v value one.0))
            (refuted-value (with_element s v one.0) t (candidates.others one.0 one.1 isnt) one.2.goes_on) ∙ conjunction-False (value_with k arity v value one.0)))
      ]

  -- what is reached with an element is reached
  pub IsReached-from_IsReachedWith : (s : Stage) (value : Truth) (v : ℕ) (elements : Elements) (n : ℕ) (t : List ℕ) (c : Column) → IsFull s → arity ≤ 4 → AreCandidates k b s v elements
      → n ≤ count elements → IsReachedWith k b passes arity s value v elements n t c → IsReached k b passes arity s value t c
  IsReached-from_IsReachedWith s value v elements n t c full few candidates within r =
      let x = element_at elements r.number in
      let h = r.reached in
      let before : r.number < n = r.before in
      let below : x < k.size = element_at-below k.size elements r.number candidates.below (omega (arith, before)) in
      record {
        tuple = h.tuple;
        passed = h.passed;
        goes_on = GoesOn-without s t v x candidates.unassigned h.goes_on;
        told = elim (cases_lt v arity) [
          | inl l ↦ (let m : v < length t = omega (arith, h.tuple.many) in
              sym (ap (tells c) (ap₂ conjunction (value_with-parameter k arity v value x l) (ap (completed_value k b) (with_tuple-first s t v x m)))) ∙ h.told)
          | inr g ↦ (let m : length t ≤ v = omega (arith, h.tuple.many) in
              ap (λ (y : Truth). tells c (conjunction value y)) (chosen-value s t v full (omega (arith, h.tuple.many)) m candidates.unassigned)
              ∙ some_truth-from_one c value k.size (completed_with k b (with_tuple s t) v) x below (ap (tells c) (with-value s t v x value g m) ∙ h.told))
        ];
      }

  -- where all parameters are assigned, the tuple of their elements alone can be reached
  pub tuple-closed : (s : Stage) (value : Truth) (t : List ℕ) (c : Column) → IsFull s → arity ≤ 4 → AreClosed arity s → IsReached k b passes arity s value t c → t ≡ take arity s.elements
  tuple-closed s value t c full few closed h =
      let len : length (take arity s.elements) ≡ arity = length-take-le arity s.elements (omega (arith, full.elements)) in
      same_number_lists t (take arity s.elements) (h.tuple.many ∙ sym len)
      (λ v l. let m : v < arity = omega (arith, h.tuple.many) in h.goes_on v l (closed v m) ∙ sym (get_or-take arity s.elements v 0 m))

  closed-value : (s : Stage) (t : List ℕ) → IsFull s → arity ≤ 4 → AreClosed arity s → length t ≡ arity → GoesOn s t → with_tuple s t ≡ s
  closed-value s t full few closed len on =
      with_tuple-same s t (omega (arith, len, full.elements)) (omega (arith, len, full.unassigned)) (λ v l. closed v (omega (arith, len))) on

  pub told-closed : (s : Stage) (value : Truth) (t : List ℕ) (c : Column) → IsFull s → arity ≤ 4 → AreClosed arity s → IsReached k b passes arity s value t c
      → tells c (conjunction value (completed_value k b s)) ≡ true
  told-closed s value t c full few closed h =
      sym (ap (λ (r : Stage). tells c (conjunction value (completed_value k b r))) (closed-value s t full few closed h.tuple.many h.goes_on)) ∙ h.told

  pub IsReached-closed : (s : Stage) (value : Truth) (t : List ℕ) (c : Column) → IsFull s → arity ≤ 4 → IsPlaced k arity s → AreClosed arity s → t ≡ take arity s.elements
      → passes t ≡ true → tells c (conjunction value (completed_value k b s)) ≡ true → IsReached k b passes arity s value t c
  IsReached-closed s value t c full few placed closed same passed told =
      let len : length t ≡ arity = ap length same ∙ length-take-le arity s.elements (omega (arith, full.elements)) in
      let each : (v : ℕ) → v < arity → slice_index t v ≡ slice_index s.elements v =
      λ v l. ap (λ (u : List ℕ). get_or u v 0) same ∙ get_or-take arity s.elements v 0 l in
      let on : GoesOn s t = λ v l e. each v (omega (arith, len)) in
      record {
        tuple = record {
          many = len;
          below = All-from_get_or (λ x. x < k.size) t 0 (λ v l. let m : v < arity = omega (arith, len) in
              subst (λ (y : ℕ). y < k.size) (sym (each v m)) (placed.parameters v m (closed v m)));
        };
        passed = passed;
        goes_on = on;
        told = ap (λ (r : Stage). tells c (conjunction value (completed_value k b r))) (closed-value s t full few closed len on) ∙ told;
      }

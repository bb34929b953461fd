-- Elements chosen for variables.
use Rattle.std.proofs.Common.{◌≡◌, ℕ, zero, suc, ◌+◌, ◌-◌, ◌≤◌, ◌<◌, Bool, true, false, ◌&&◌, ◌||◌, ◌==◌, Option, Some, None, List, [], ◌∷◌, length, drop, slice_index_or, refl, sym, ap, ◌∙◌, subst, inl, inr, arith, true≢false, get_or-drop, length-drop, suc-add, add-suc}
use Rattle.std.proofs.lemmas.Bool.{cases_Bool, cases_lt, and_parts, and_from, and_left, and_right, or_cases, or_parts, or_left, or_right, or_from, eqb-true, eq-eqb, ne_eqb}
use Rattle.std.proofs.lemmas.List.{get_or_past}
use Rattle.rf_finite.specs.Range.{some_below}
use Rattle.rf_finite.proofs.Range.{None-ne_Some, one-from_some_below, some_below-from_one}
use Rattle.rf_problem.specs.Reading.{Assignment, Reading, is_entry, some_assignment, assign}
use Rattle.rf_problem.specs.Valid.{is_free}

module _ (chosen : Option ℕ → Bool) where
  -- whether u is one of the variables from number v on whose entries are these, and its entry is chosen
  abbrev pub is_chosen : List (Option ℕ) → ℕ → ℕ → Bool
  is_chosen [] v u = false
  is_chosen (entry ∷ entries) v u = (u == v && chosen entry) || is_chosen entries (suc v) u

  is_chosen-before : (entries : List (Option ℕ)) (v u : ℕ) → u < v → is_chosen entries v u ≡ false
  is_chosen-before [] v u l = refl
  is_chosen-before (entry ∷ entries) v u l =
      or_from (u == v && chosen entry) (is_chosen entries (suc v) u) (and_left (u == v) (chosen entry) (ne_eqb u v (λ e. omega arith))) (is_chosen-before entries (suc v) u (omega arith))

  -- such a variable by its place among the entries
  pub entry-from_is_chosen : (entries : List (Option ℕ)) (v u : ℕ) → is_chosen entries v u ≡ true
      → (k : ℕ) × (k < length entries) × (u ≡ v + k) × (chosen (slice_index_or entries k None) ≡ true)
  entry-from_is_chosen [] v u h = absurd (true≢false (sym h))
  entry-from_is_chosen (entry ∷ entries) v u h = elim (or_cases (u == v && chosen entry) (is_chosen entries (suc v) u) h) [
    | inl e ↦ (let parts = and_parts (u == v) (chosen entry) e in let e = eqb-true u v parts.0 in (zero, omega arith, omega arith, parts.1))
    | inr t ↦ (let r = entry-from_is_chosen entries (suc v) u t in
        let l = r.1 in let e : u ≡ suc v + r.0 = r.2 in (suc r.0, omega arith, omega arith, r.3))
  ]

  pub is_chosen-from_entry : (entries : List (Option ℕ)) (v k : ℕ) → k < length entries → chosen (slice_index_or entries k None) ≡ true → is_chosen entries v (v + k) ≡ true
  is_chosen-from_entry [] v k l h = absurd (omega arith)
  is_chosen-from_entry (entry ∷ entries) v zero l h =
      or_left (v + zero == v && chosen entry) (is_chosen entries (suc v) (v + zero)) (and_from (v + zero == v) (chosen entry) (eq-eqb (v + zero) v (omega arith)) h)
  is_chosen-from_entry (entry ∷ entries) v (suc k) l h =
      or_right (v + suc k == v && chosen entry) (is_chosen entries (suc v) (v + suc k))
      (subst (λ u. is_chosen entries (suc v) u ≡ true) (suc-add v k ∙ sym (add-suc v k)) (is_chosen-from_entry entries (suc v) k (omega arith) h))

  -- the picked assignment is this one but for the chosen variables, which stand for any of these elements
  pub record Picks (entries : List (Option ℕ)) (v : ℕ) (Is : ℕ → Type 0) (assignment picked : Assignment) : Type 0 where
    pub inside : (u : ℕ) → is_chosen entries v u ≡ true → Is (picked u)
    pub outside : (u : ℕ) → is_chosen entries v u ≡ false → picked u ≡ assignment u

  -- what follows for the first of the entries, where it is chosen
  Picks-first : (entry : Option ℕ) (entries : List (Option ℕ)) (v : ℕ) (Is : ℕ → Type 0) (assignment picked : Assignment) → chosen entry ≡ true
      → Picks (entry ∷ entries) v Is assignment picked → Is (picked v)
  Picks-first entry entries v Is assignment picked t c =
      c.inside v (or_left (v == v && chosen entry) (is_chosen entries (suc v) v) (and_from (v == v) (chosen entry) (eq-eqb v v refl) t))

  -- and for the rest
  Picks-rest : (entry : Option ℕ) (entries : List (Option ℕ)) (v : ℕ) (Is : ℕ → Type 0) (assignment picked : Assignment)
      → Picks (entry ∷ entries) v Is assignment picked → Picks entries (suc v) Is (assign assignment v (picked v)) picked
  Picks-rest entry entries v Is assignment picked c = record {
    inside = λ u e. c.inside u (or_right (u == v && chosen entry) (is_chosen entries (suc v) u) e);
    outside = λ u e. elim (cases_Bool (u == v)) [
      | inl same ↦ rw same (ap picked (eqb-true u v same))
      | inr apart ↦ rw apart (c.outside u (or_from (u == v && chosen entry) (is_chosen entries (suc v) u) (and_left (u == v) (chosen entry) apart) e))
    ];
  }

  -- where it isn't, only the rest counts
  Picks-rest_alone : (entry : Option ℕ) (entries : List (Option ℕ)) (v : ℕ) (Is : ℕ → Type 0) (assignment picked : Assignment) → chosen entry ≡ false
      → Picks (entry ∷ entries) v Is assignment picked → Picks entries (suc v) Is assignment picked
  Picks-rest_alone entry entries v Is assignment picked f c = record {
    inside = λ u e. c.inside u (or_right (u == v && chosen entry) (is_chosen entries (suc v) u) e);
    outside = λ u e. c.outside u (or_from (u == v && chosen entry) (is_chosen entries (suc v) u) (and_right (u == v) (chosen entry) f) e);
  }

  Picks-from_rest_alone : (entry : Option ℕ) (entries : List (Option ℕ)) (v : ℕ) (Is : ℕ → Type 0) (assignment picked : Assignment) → chosen entry ≡ false
      → Picks entries (suc v) Is assignment picked → Picks (entry ∷ entries) v Is assignment picked
  Picks-from_rest_alone entry entries v Is assignment picked f c = record {
    inside = λ u e. elim (or_cases (u == v && chosen entry) (is_chosen entries (suc v) u) e) [
      | inl at ↦ absurd (true≢false (sym (and_parts (u == v) (chosen entry) at).1 ∙ f))
      | inr later ↦ c.inside u later
    ];
    outside = λ u e. c.outside u (or_parts (u == v && chosen entry) (is_chosen entries (suc v) u) e).1;
  }

  Picks-from_rest : (entry : Option ℕ) (entries : List (Option ℕ)) (v : ℕ) (Is : ℕ → Type 0) (x : ℕ) (assignment picked : Assignment) → chosen entry ≡ true → Is x
      → Picks entries (suc v) Is (assign assignment v x) picked → Picks (entry ∷ entries) v Is assignment picked
  Picks-from_rest entry entries v Is x assignment picked t l c = record {
    inside = λ u e. elim (or_cases (u == v && chosen entry) (is_chosen entries (suc v) u) e) [
      | inl at ↦ (let place = eqb-true u v (and_parts (u == v) (chosen entry) at).0 in
          subst (λ m. Is (picked m)) (sym place) (subst Is (sym own) l))
      | inr later ↦ c.inside u later
    ];
    outside = λ u e. (let parts = or_parts (u == v && chosen entry) (is_chosen entries (suc v) u) e in
        let apart : (u == v) ≡ false = ne_eqb u v (λ place. true≢false (sym (and_from (u == v) (chosen entry) (eq-eqb u v place) t) ∙ parts.0)) in
        let elsewhere : assign assignment v x u ≡ assignment u = rw apart refl in
        c.outside u parts.1 ∙ elsewhere);
  }
    where
      own : picked v ≡ x
      own = let same : (v == v) ≡ true = eq-eqb v v refl in
          let here : assign assignment v x v ≡ x = rw same refl in
          c.outside v (is_chosen-before entries (suc v) v (omega arith)) ∙ here

  module _ (here : Reading) (Is : ℕ → Type 0) (within : (x : ℕ) → Is x → (x < here.size) × (here.present x ≡ true))
      (are : (x : ℕ) → x < here.size → here.present x ≡ true → Is x) (test : Assignment → Bool) where
    -- whether an element for variable v leads on to an assignment that passes
    abbrev leads_on : List (Option ℕ) → ℕ → Assignment → ℕ → Bool
    leads_on entries v assignment x = here.present x && some_assignment here chosen entries (suc v) (assign assignment v x) test

    -- some assignment passes where the one that is picked does
    pub some_assignment-from_one : (entries : List (Option ℕ)) (v : ℕ) (assignment picked : Assignment) → Picks entries v Is assignment picked
        → test picked ≡ true → some_assignment here chosen entries v assignment test ≡ true
    some_assignment-from_one [] v assignment picked c h = subst (λ (f : Assignment). test f ≡ true) (λ j u. c.outside u refl j) h
    some_assignment-from_one (entry ∷ entries) v assignment picked c h = elim (cases_Bool (chosen entry)) [
      | inl t ↦ (let own = Picks-first entry entries v Is assignment picked t c in
          let found : leads_on entries v assignment (picked v) ≡ true =
          and_from (here.present (picked v)) (some_assignment here chosen entries (suc v) (assign assignment v (picked v)) test) (within (picked v) own).1
          (some_assignment-from_one entries (suc v) (assign assignment v (picked v)) picked (Picks-rest entry entries v Is assignment picked c) h) in
          rw t (some_below-from_one here.size (leads_on entries v assignment) (picked v) (within (picked v) own).0 found))
      | inr f ↦ rw f (some_assignment-from_one entries (suc v) assignment picked (Picks-rest_alone entry entries v Is assignment picked f c) h)
    ]

    -- and where one passes, one that does can be picked
    pub one-from_some_assignment : (entries : List (Option ℕ)) (v : ℕ) (assignment : Assignment) → some_assignment here chosen entries v assignment test ≡ true
        → (picked : Assignment) × Picks entries v Is assignment picked × (test picked ≡ true)
    one-from_some_assignment [] v assignment h = (assignment, record { inside = λ u e. absurd (true≢false (sym e)); outside = λ u e. refl }, h)
    one-from_some_assignment (entry ∷ entries) v assignment h = elim (cases_Bool (chosen entry)) [
      | inl t ↦ (let some : some_below here.size (leads_on entries v assignment) ≡ true = rw t at h in
          let one = one-from_some_below here.size (leads_on entries v assignment) some in
          let parts = and_parts (here.present one.0) (some_assignment here chosen entries (suc v) (assign assignment v one.0) test) one.2 in
          let r = one-from_some_assignment entries (suc v) (assign assignment v one.0) parts.1 in
          (r.0, Picks-from_rest entry entries v Is one.0 assignment r.0 t (are one.0 one.1 parts.0) r.1, r.2))
      | inr f ↦ (let some : some_assignment here chosen entries (suc v) assignment test ≡ true = rw f at h in
          let r = one-from_some_assignment entries (suc v) assignment some in
          (r.0, Picks-from_rest_alone entry entries v Is assignment r.0 f r.1, r.2))
    ]

-- the variables that range inside the negation of literal i are those with that entry
pub is_entry-Some : (i : ℕ) (o : Option ℕ) → is_entry i o ≡ true → o ≡ Some i
is_entry-Some i None h = absurd (true≢false (sym h))
is_entry-Some i (Some j) h = ap (λ m. Some m) (sym (eqb-true i j h))

entry-within : (variables : List (Option ℕ)) (u i : ℕ) → slice_index_or variables u None ≡ Some i → u < length variables
entry-within variables u i e = elim (cases_lt u (length variables)) [
  | inl l ↦ l
  | inr g ↦ absurd (None-ne_Some (sym (get_or_past variables u None g) ∙ e))
]

pub entry-from_inner : (variables : List (Option ℕ)) (i u : ℕ) → is_chosen (is_entry i) variables 0 u ≡ true → slice_index_or variables u None ≡ Some i
entry-from_inner variables i u h =
    let r = entry-from_is_chosen (is_entry i) variables 0 u h in
    let e : u ≡ r.0 = (let s : u ≡ 0 + r.0 = r.2 in omega arith) in
    subst (λ m. slice_index_or variables m None ≡ Some i) (sym e) (is_entry-Some i (slice_index_or variables r.0 None) r.3)

pub inner-from_entry : (variables : List (Option ℕ)) (i u : ℕ) → slice_index_or variables u None ≡ Some i → is_chosen (is_entry i) variables 0 u ≡ true
inner-from_entry variables i u e =
    let own : is_entry i (Some i) ≡ true = eq-eqb i i refl in
    let z : 0 + u ≡ u = omega arith in
    subst (λ m. is_chosen (is_entry i) variables 0 m ≡ true) z
    (is_chosen-from_entry (is_entry i) variables 0 u (entry-within variables u i e) (subst (λ o. is_entry i o ≡ true) (sym e) own))

-- those that range over the clause, after its parameters, are those without an entry
is_free-None : (o : Option ℕ) → is_free o ≡ true → o ≡ None
is_free-None None h = refl
is_free-None (Some j) h = absurd (true≢false (sym h))

pub free-from_outer : (variables : List (Option ℕ)) (arity u : ℕ) → is_chosen is_free (drop arity variables) arity u ≡ true
    → (arity ≤ u) × (u < length variables) × (slice_index_or variables u None ≡ None)
free-from_outer variables arity u h =
    let r = entry-from_is_chosen is_free (drop arity variables) arity u h in
    let l : r.0 < length (drop arity variables) = r.1 in
    let e : u ≡ arity + r.0 = r.2 in
    let n = length-drop arity variables in
    (omega arith, omega arith, ap (λ m. slice_index_or variables m None) e ∙ (sym (get_or-drop arity variables r.0 None) ∙ is_free-None (slice_index_or (drop arity variables) r.0 None) r.3))

pub outer-from_free : (variables : List (Option ℕ)) (arity u : ℕ) → arity ≤ u → u < length variables → slice_index_or variables u None ≡ None
    → is_chosen is_free (drop arity variables) arity u ≡ true
outer-from_free variables arity u l m e =
    let n = length-drop arity variables in
    let s : arity + (u - arity) ≡ u = omega arith in
    let within : u - arity < length (drop arity variables) = omega arith in
    let entry : slice_index_or (drop arity variables) (u - arity) None ≡ None = get_or-drop arity variables (u - arity) None ∙ (ap (λ k. slice_index_or variables k None) s ∙ e) in
    subst (λ k. is_chosen is_free (drop arity variables) arity k ≡ true) s
    (is_chosen-from_entry is_free (drop arity variables) arity (u - arity) within (subst (λ o. is_free o ≡ true) (sym entry) refl))

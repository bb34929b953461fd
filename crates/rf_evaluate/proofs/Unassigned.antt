-- Elements chosen for the variables that are unassigned.
use Rattle.std.proofs.Common.{◌≡◌, ℕ, zero, suc, ◌+◌, ◌<◌, ◌≤◌, Bool, true, false, not, ◌&&◌, ◌||◌, ◌==◌, Option, None, List, [], ◌∷◌, length, drop, map, slice_index, slice_index_or, refl, sym, ap, ap₂, ◌∙◌, subst, inl, inr, arith, true≢false, set}
use Rattle.std.specs.List.{list_any}
use Rattle.std.proofs.lemmas.Bool.{and_parts, and_from, and_right, both_ways, cases_Bool, eqb-true, false_from_ne_true, ne_eqb, or_from, or_parts}
use Rattle.rf_finite.specs.Range.{some_below}
use Rattle.rf_finite.proofs.Range.{one-from_some_below, some_below-from_one, some_below-none, some_below-same}
use Rattle.rf_problem.specs.Reading.{Assignment, Calls, Choice, Reading, assign, atom_true, atoms_among, call_true, element_of, is_entry, literal_true, some_assignment, some_choice, some_elements}
use Rattle.rf_problem.specs.declared.predicate.Literal.{Literal}
use Rattle.rf_problem.specs.declared.predicate.Literal.TheVariants.{Call, Same, Differ}
use Rattle.rf_problem.specs.declared.predicate.Term.{Term}
use Rattle.rf_problem.specs.declared.predicate.Term.TheVariants.{Var, Atom}
use Rattle.rf_evaluate.specs.Evaluating.{some_unassigned}
use Rattle.rf_evaluate.specs.Terms.{is_unassigned, names_unassigned}

-- two assignments agree on the variables that aren't unassigned
abbrev pub AgreeOutside : List Bool → Assignment → Assignment → Type 0
AgreeOutside unassigned a b = (u : ℕ) → slice_index_or unassigned u false ≡ false → a u ≡ b u

AgreeOutside-assign : (unassigned : List Bool) (a b : Assignment) (v x : ℕ) → AgreeOutside unassigned a b → AgreeOutside unassigned (assign a v x) (assign b v x)
AgreeOutside-assign unassigned a b v x agree u e = elim (cases_Bool (u == v)) [ inl s ↦ rw s refl | inr s ↦ rw s (agree u e) ]

-- an element for an unassigned variable
AgreeOutside-own : (unassigned : List Bool) (a : Assignment) (v x : ℕ) → slice_index_or unassigned v false ≡ true → AgreeOutside unassigned (assign a v x) a
AgreeOutside-own unassigned a v x own u e =
    let apart : (u == v) ≡ false = ne_eqb u v (λ s. both_ways (slice_index_or unassigned u false) e (subst (λ w. slice_index_or unassigned w false ≡ true) (sym s) own)) in
    rw apart refl

module _ (unassigned : List Bool) where
  -- terms that name no unassigned variable stand for the same
  terms-same : (a b : Assignment) (choice : Choice) (terms : List Term) → AgreeOutside unassigned a b → list_any (is_unassigned unassigned) terms ≡ false
      → map (element_of a choice) terms ≡ map (element_of b choice) terms
  terms-same a b choice [] agree none = refl
  terms-same a b choice (Var v ∷ terms) agree none =
      let parts = or_parts (slice_index_or unassigned v false) (list_any (is_unassigned unassigned) terms) none in
      ap₂ (λ (x : ℕ) (xs : List ℕ). x ∷ xs) (agree v parts.0) (terms-same a b choice terms agree parts.1)
  terms-same a b choice (Atom o ∷ terms) agree none = ap (λ (xs : List ℕ). choice o ∷ xs) (terms-same a b choice terms agree none)

  some_elements-same : (here : Reading) (a b : Assignment) (terms : List Term) (test : List ℕ → Bool) → AgreeOutside unassigned a b
      → list_any (is_unassigned unassigned) terms ≡ false → some_elements here a terms test ≡ some_elements here b terms test
  some_elements-same here a b terms test agree none =
      ap (λ (says : Choice → Bool). some_choice here (atoms_among terms) (λ o. 0) says) (λ j choice. ap test (terms-same a b choice terms agree none) j)

  -- what says the same of assignments that agree does so of those that are gone on from them
  some_assignment-same : (here : Reading) (chosen : Option ℕ → Bool) (entries : List (Option ℕ)) (v : ℕ) (a b : Assignment) (test : Assignment → Bool)
      → ((c d : Assignment) → AgreeOutside unassigned c d → test c ≡ test d) → AgreeOutside unassigned a b
      → some_assignment here chosen entries v a test ≡ some_assignment here chosen entries v b test
  some_assignment-same here chosen [] v a b test same agree = same a b agree
  some_assignment-same here chosen (entry ∷ entries) v a b test same agree = elim (cases_Bool (chosen entry)) [
    | inl t ↦ rw t (some_below-same here.size (λ x. here.present x && some_assignment here chosen entries (suc v) (assign a v x) test)
        (λ x. here.present x && some_assignment here chosen entries (suc v) (assign b v x) test)
        (λ x l. ap (λ says. here.present x && says)
        (some_assignment-same here chosen entries (suc v) (assign a v x) (assign b v x) test same (AgreeOutside-assign unassigned a b v x agree))))
    | inr f ↦ rw f (some_assignment-same here chosen entries (suc v) a b test same agree)
  ]

  -- a literal that names no unassigned variable says the same
  pub literal-same : (calls : Calls) (here inside : Reading) (variables : List (Option ℕ)) (i : ℕ) (l : Literal) → names_unassigned unassigned l ≡ false
      → (a b : Assignment) → AgreeOutside unassigned a b → literal_true calls here inside variables i a l ≡ literal_true calls here inside variables i b l
  literal-same calls here inside variables i (Call false closure symbol args) none a b agree =
      some_elements-same here a b args (atom_true calls here inside closure symbol) agree none
  literal-same calls here inside variables i (Call true closure symbol args) none a b agree =
      ap not (some_assignment-same inside (is_entry i) variables 0 a b (λ chosen. call_true calls inside here closure symbol chosen args)
      (λ c d both. some_elements-same inside c d args (atom_true calls inside here closure symbol) both none) agree)
  literal-same calls here inside variables i (Same x y) none a b agree =
      let parts = or_parts (is_unassigned unassigned x) (is_unassigned unassigned y) none in
      some_elements-same here a b (x ∷ y ∷ []) (λ t. here.is_same (slice_index t 0) (slice_index t 1)) agree
      (or_from (is_unassigned unassigned x) (is_unassigned unassigned y || false) parts.0 (or_from (is_unassigned unassigned y) false parts.1 refl))
  literal-same calls here inside variables i (Differ x y) none a b agree =
      let parts = or_parts (is_unassigned unassigned x) (is_unassigned unassigned y) none in
      some_elements-same here a b (x ∷ y ∷ []) (λ t. here.is_different (slice_index t 0) (slice_index t 1)) agree
      (or_from (is_unassigned unassigned x) (is_unassigned unassigned y || false) parts.0 (or_from (is_unassigned unassigned y) false parts.1 refl))

-- what doesn't depend on the number is said beside
some_below-and : (n : ℕ) (b : Bool) (p q : ℕ → Bool) → some_below n (λ x. p x && (b && q x)) ≡ (b && some_below n (λ x. p x && q x))
some_below-and n true p q = refl
some_below-and n false p q = some_below-none n (λ x. p x && false) (λ x l. and_right (p x) false refl)

-- what says the same of all assignments that agree is said beside the elements chosen
pub some_unassigned-and : (here : Reading) (all unassigned : List Bool) (v : ℕ) (a : Assignment) (says test : Assignment → Bool)
    → ((k : ℕ) → slice_index_or unassigned k false ≡ true → slice_index_or all (v + k) false ≡ true)
    → ((c d : Assignment) → AgreeOutside all c d → says c ≡ says d)
    → some_unassigned here unassigned v a (λ c. says c && test c) ≡ (says a && some_unassigned here unassigned v a test)
some_unassigned-and here all [] v a says test within same = refl
some_unassigned-and here all (true ∷ more) v a says test within same =
    some_below-same here.size (λ x. here.present x && some_unassigned here more (suc v) (assign a v x) (λ c. says c && test c))
    (λ x. here.present x && (says a && some_unassigned here more (suc v) (assign a v x) test))
    (λ x l. ap (λ s. here.present x && s)
    (some_unassigned-and here all more (suc v) (assign a v x) says test further same
    ∙ ap (λ s. s && some_unassigned here more (suc v) (assign a v x) test) (same (assign a v x) a (AgreeOutside-own all a v x own))))
    ∙ some_below-and here.size (says a) here.present (λ x. some_unassigned here more (suc v) (assign a v x) test)
  where
    own : slice_index_or all v false ≡ true
    own = let e : v + 0 ≡ v = omega arith in subst (λ w. slice_index_or all w false ≡ true) e (within 0 refl)

    further : (k : ℕ) → slice_index_or more k false ≡ true → slice_index_or all (suc v + k) false ≡ true
    further k h = let e : v + suc k ≡ suc v + k = omega arith in subst (λ w. slice_index_or all w false ≡ true) e (within (suc k) h)
some_unassigned-and here all (false ∷ more) v a says test within same =
    some_unassigned-and here all more (suc v) a says test
    (λ k h. let e : v + suc k ≡ suc v + k = omega arith in subst (λ w. slice_index_or all w false ≡ true) e (within (suc k) h)) same

-- two numbers are found in either order
some_below-turned : (n : ℕ) (p : ℕ → Bool) (says : ℕ → ℕ → Bool) → some_below n (λ x. p x && some_below n (λ y. p y && says x y)) ≡ true
    → some_below n (λ y. p y && some_below n (λ x. p x && says x y)) ≡ true
some_below-turned n p says h =
    let one = one-from_some_below n (λ x. p x && some_below n (λ y. p y && says x y)) h in
    let first = and_parts (p one.0) (some_below n (λ y. p y && says one.0 y)) one.2 in
    let two = one-from_some_below n (λ y. p y && says one.0 y) first.1 in
    let second = and_parts (p two.0) (says one.0 two.0) two.2 in
    some_below-from_one n (λ y. p y && some_below n (λ x. p x && says x y)) two.0 two.1
    (and_from (p two.0) (some_below n (λ x. p x && says x two.0)) second.0
    (some_below-from_one n (λ x. p x && says x two.0) one.0 one.1 (and_from (p one.0) (says one.0 two.0) first.0 second.1)))

some_below-swapped : (n : ℕ) (p : ℕ → Bool) (says : ℕ → ℕ → Bool)
    → some_below n (λ x. p x && some_below n (λ y. p y && says x y)) ≡ some_below n (λ y. p y && some_below n (λ x. p x && says x y))
some_below-swapped n p says = elim (cases_Bool (some_below n (λ x. p x && some_below n (λ y. p y && says x y)))) [
  | inl t ↦ t ∙ sym (some_below-turned n p says t)
  | inr f ↦ f ∙ sym (false_from_ne_true (some_below n (λ y. p y && some_below n (λ x. p x && says x y)))
      (λ t. both_ways (some_below n (λ x. p x && some_below n (λ y. p y && says x y))) f (some_below-turned n p (λ y x. says x y) t)))
]

-- elements for two variables are assigned in either order
assign-swapped : (a : Assignment) (v w x y : ℕ) → (v ≡ w → ⊥) → assign (assign a v x) w y ≡ assign (assign a w y) v x
assign-swapped a v w x y apart = λ j u. each u j
  where
    each : (u : ℕ) → assign (assign a v x) w y u ≡ assign (assign a w y) v x u
    each u = elim (cases_Bool (u == w)) [
      | inl s ↦ (let other : (u == v) ≡ false = ne_eqb u v (λ e. apart (sym e ∙ eqb-true u w s)) in rw (s, other) refl)
      | inr s ↦ rw s refl
    ]

-- any unassigned variable may get its element first
pub some_unassigned-chosen : (here : Reading) (unassigned : List Bool) (v k : ℕ) (a : Assignment) (test : Assignment → Bool) → slice_index_or unassigned k false ≡ true
    → some_unassigned here unassigned v a test
    ≡ some_below here.size (λ x. here.present x && some_unassigned here (set unassigned k false) v (assign a (v + k) x) test)
some_unassigned-chosen here [] v k a test h = absurd (true≢false (sym h))
some_unassigned-chosen here (true ∷ more) v zero a test h =
    let e : v ≡ v + 0 = omega arith in
    ap (λ w. some_below here.size (λ x. here.present x && some_unassigned here more (suc v) (assign a w x) test)) e
some_unassigned-chosen here (false ∷ more) v zero a test h = absurd (true≢false (sym h))
some_unassigned-chosen here (false ∷ more) v (suc k) a test h =
    let e : suc v + k ≡ v + suc k = omega arith in
    some_unassigned-chosen here more (suc v) k a test h
    ∙ ap (λ w. some_below here.size (λ x. here.present x && some_unassigned here (set more k false) (suc v) (assign a w x) test)) e
some_unassigned-chosen here (true ∷ more) v (suc k) a test h =
    some_below-same here.size (λ x. here.present x && some_unassigned here more (suc v) (assign a v x) test)
    (λ x. here.present x && some_below here.size (λ y. here.present y && says x y))
    (λ x l. ap (λ s. here.present x && s) (some_unassigned-chosen here more (suc v) k (assign a v x) test h))
    ∙ some_below-swapped here.size here.present says
    ∙ some_below-same here.size (λ y. here.present y && some_below here.size (λ x. here.present x && says x y))
    (λ y. here.present y && some_below here.size (λ x. here.present x && some_unassigned here (set more k false) (suc v) (assign (assign a (v + suc k) y) v x) test))
    (λ y l. ap (λ s. here.present y && s) (some_below-same here.size (λ x. here.present x && says x y)
    (λ x. here.present x && some_unassigned here (set more k false) (suc v) (assign (assign a (v + suc k) y) v x) test)
    (λ x m. ap (λ s. here.present x && s) (turned x y))))
  where
    says : ℕ → ℕ → Bool
    says x y = some_unassigned here (set more k false) (suc v) (assign (assign a v x) (suc v + k) y) test

    turned : (x y : ℕ) → says x y ≡ some_unassigned here (set more k false) (suc v) (assign (assign a (v + suc k) y) v x) test
    turned x y =
        let e : suc v + k ≡ v + suc k = omega arith in
        ap (λ w. some_unassigned here (set more k false) (suc v) (assign (assign a v x) w y) test) e
        ∙ ap (λ c. some_unassigned here (set more k false) (suc v) c test) (assign-swapped a v (v + suc k) x y (λ s. omega arith))

-- where no variable is unassigned, nothing is chosen
pub some_unassigned-none : (here : Reading) (unassigned : List Bool) (v : ℕ) (a : Assignment) (test : Assignment → Bool)
    → ((k : ℕ) → slice_index_or unassigned k false ≡ false) → some_unassigned here unassigned v a test ≡ test a
some_unassigned-none here [] v a test none = refl
some_unassigned-none here (true ∷ more) v a test none = absurd (true≢false (none 0))
some_unassigned-none here (false ∷ more) v a test none = some_unassigned-none here more (suc v) a test (λ k. none (suc k))

-- elements for the unassigned variables are elements for those whose entries are chosen, where they are the same variables
pub some_unassigned-entries : (here : Reading) (chosen : Option ℕ → Bool) (entries : List (Option ℕ)) (unassigned : List Bool) (v : ℕ) (a : Assignment) (test : Assignment → Bool)
    → ((k : ℕ) → k < length entries → slice_index_or unassigned k false ≡ chosen (slice_index_or entries k None))
    → ((k : ℕ) → length entries ≤ k → slice_index_or unassigned k false ≡ false)
    → some_unassigned here unassigned v a test ≡ some_assignment here chosen entries v a test
some_unassigned-entries here chosen [] unassigned v a test same past = some_unassigned-none here unassigned v a test (λ k. past k (omega arith))
some_unassigned-entries here chosen (entry ∷ entries) [] v a test same past =
    let own : false ≡ chosen entry = same 0 (omega arith) in
    rw (← own) (some_unassigned-entries here chosen entries [] (suc v) a test (λ k l. same (suc k) (omega arith)) (λ k g. refl))
some_unassigned-entries here chosen (entry ∷ entries) (true ∷ more) v a test same past =
    let own : true ≡ chosen entry = same 0 (omega arith) in
    rw (← own) (some_below-same here.size (λ x. here.present x && some_unassigned here more (suc v) (assign a v x) test)
    (λ x. here.present x && some_assignment here chosen entries (suc v) (assign a v x) test)
    (λ x l. ap (λ s. here.present x && s) (some_unassigned-entries here chosen entries more (suc v) (assign a v x) test (λ k m. same (suc k) (omega arith)) (λ k g. past (suc k) (omega arith)))))
some_unassigned-entries here chosen (entry ∷ entries) (false ∷ more) v a test same past =
    let own : false ≡ chosen entry = same 0 (omega arith) in
    rw (← own) (some_unassigned-entries here chosen entries more (suc v) a test (λ k l. same (suc k) (omega arith)) (λ k g. past (suc k) (omega arith)))

-- variables that aren't unassigned are passed over
pub some_unassigned-drop : (here : Reading) (n : ℕ) (unassigned : List Bool) (v : ℕ) (a : Assignment) (test : Assignment → Bool)
    → ((k : ℕ) → k < n → slice_index_or unassigned k false ≡ false)
    → some_unassigned here unassigned v a test ≡ some_unassigned here (drop n unassigned) (n + v) a test
some_unassigned-drop here zero unassigned v a test none =
    let e : v ≡ 0 + v = omega arith in ap (λ w. some_unassigned here unassigned w a test) e
some_unassigned-drop here (suc n) [] v a test none = refl
some_unassigned-drop here (suc n) (true ∷ more) v a test none = absurd (true≢false (none 0 (omega arith)))
some_unassigned-drop here (suc n) (false ∷ more) v a test none =
    let e : n + suc v ≡ suc n + v = omega arith in
    some_unassigned-drop here n more (suc v) a test (λ k l. none (suc k) (omega arith)) ∙ ap (λ w. some_unassigned here (drop n more) w a test) e

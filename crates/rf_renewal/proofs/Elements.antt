-- Assignments and choices over two readings that are the same but for changes.
use Rattle.std.proofs.Common.{◌≡◌, ℕ, zero, suc, ◌<◌, Bool, true, false, not, ◌&&◌, ◌||◌, ◌==◌, Option, Some, None, List, [], ◌∷◌, Contains, length, map, slice_index, ◌⊎◌, refl, sym, ap, ap₂, ◌∙◌, inl, inr, arith, true≢false, nat_lt}
use Rattle.std.proofs.lemmas.Bool.{and_parts, and_from, and_left, and_right, or_cases, or_left, or_right, or_parts, or_from, cases_Bool, both_ways, eqb-true, eq-eqb, eqb-false, ltb-true}
use Rattle.std.proofs.lemmas.List.{length-map}
use Rattle.std.specs.List.{list_any, list_all}
use Rattle.rf_finite.specs.Range.{some_below}
use Rattle.rf_finite.proofs.Range.{some_below-same}
use Rattle.rf_finite.proofs.Lists.{one-from_list_any, list_any-from_one}
use Rattle.rf_problem.specs.Asserted.{match_each}
use Rattle.rf_problem.specs.Reading.{Assignment, Choice, Reading, assign, atoms_among, element_of, some_assignment, some_choice, some_elements}
use Rattle.rf_problem.specs.declared.predicate.Term.{Term}
use Rattle.rf_problem.specs.declared.predicate.Term.TheVariants.{Var, Atom}
use Rattle.rf_problem.proofs.Choices.{is_chosen}
use Rattle.rf_renewal.specs.Changes.{Changes, has_presences, is_changed_atom, terms_may_change}
use Rattle.rf_renewal.specs.Patterns.{Pattern, match_some, may_match}

-- each element of a tuple is below so many
abbrev pub Below : ℕ → List ℕ → Type 0
Below size w = (i : ℕ) → i < length w → slice_index w i < size

-- two tests say the same of tuples of so many elements but of those that some pattern matches
abbrev pub DifferAt : ℕ → ℕ → List Pattern → (List ℕ → Bool) → (List ℕ → Bool) → Type 0
DifferAt size arity patterns says tells =
    (w : List ℕ) → length w ≡ arity → Below size w → (says w ≡ tells w) ⊎ (match_some patterns w ≡ true)

-- two readings of as many elements, each from the same object, in which but for the changes the same elements are
-- present, the same and different
pub record AreAlike (origin : ℕ → ℕ) (size : ℕ) (changes : Changes) (a b : Reading) : Type 0 where
  pub left : a.size ≡ size
  pub right : b.size ≡ size
  pub from : (x : ℕ) → x < size → a.origin x ≡ origin x
  pub to : (x : ℕ) → x < size → b.origin x ≡ origin x
  pub presences : (x : ℕ) → x < size → (a.present x ≡ b.present x) ⊎ Contains changes.presences x
  pub sames : DifferAt size 2 changes.sames (λ t. a.is_same (slice_index t 0) (slice_index t 1))
      (λ t. b.is_same (slice_index t 0) (slice_index t 1))
  pub differences : DifferAt size 2 changes.differences (λ t. a.is_different (slice_index t 0) (slice_index t 1))
      (λ t. b.is_different (slice_index t 0) (slice_index t 1))

module _ (origin : ℕ → ℕ) (size : ℕ) (changes : Changes) (a b : Reading)
    (like : AreAlike origin size changes a b) where
  -- the same elements are present
  abbrev pub SamePresences : Type 0
  SamePresences = (x : ℕ) → x < size → a.present x ≡ b.present x

  pub same_presences : has_presences changes ≡ false → SamePresences
  same_presences none x l = elim (like.presences x l) [
    | inl e ↦ e
    | inr c ↦ absurd (both_ways (has_presences changes) none
        (list_any-from_one (λ x. true) changes.presences x c refl))
  ]

  -- some assignment passes where one does, where all that may be assigned say the same
  pub some_assignment-same : (chosen : Option ℕ → Bool) (entries : List (Option ℕ)) (v : ℕ) (s : Assignment)
      (Q : ℕ → ℕ → Type 0) (Known : ℕ → Type 0) (test tell : Assignment → Bool)
      → ((u : ℕ) → is_chosen chosen entries v u ≡ true → SamePresences)
      → ((u : ℕ) → Known u → Q u (s u))
      → ((u x : ℕ) → is_chosen chosen entries v u ≡ true → x < size → Q u x)
      → ((s : Assignment) → ((u : ℕ) → Known u ⊎ (is_chosen chosen entries v u ≡ true) → Q u (s u)) → test s ≡ tell s)
      → some_assignment a chosen entries v s test ≡ some_assignment b chosen entries v s tell
  some_assignment-same chosen [] v s Q Known test tell there known free k = k s
      (λ u. elim [ inl e ↦ known u e | inr e ↦ absurd (true≢false (sym e)) ])
  some_assignment-same chosen (entry ∷ entries) v s Q Known test tell there known free k = elim
      (cases_Bool (chosen entry)) [
        | inl e ↦ (let f : ℕ → Bool = λ x. a.present x && some_assignment a chosen entries (suc v)
            (assign s v x) test in
            let g : ℕ → Bool = λ x. b.present x && some_assignment b chosen entries (suc v) (assign s v x) tell in
            let own : is_chosen chosen (entry ∷ entries) v v ≡ true = or_left (v == v && chosen entry)
            (is_chosen chosen entries (suc v) v) (and_from (v == v) (chosen entry) (eq-eqb v v refl) e) in
            let same : (x : ℕ) → x < size → f x ≡ g x = λ x l. ap₂ (λ m n. m && n) (there v own x l)
            (some_assignment-same chosen entries (suc v) (assign s v x) Q (λ u. Known u ⊎ (u ≡ v)) test tell
            (λ u h. there u (or_right (u == v && chosen entry) (is_chosen chosen entries (suc v) u) h))
            (λ u w. elim (cases_Bool (u == v)) [
              | inl at ↦ rw at (free u x (or_left (u == v && chosen entry) (is_chosen chosen entries (suc v) u)
                  (and_from (u == v) (chosen entry) at e)) l)
              | inr off ↦ rw off (elim w [ inl was ↦ known u was | inr is ↦ absurd (eqb-false u v off is) ])
            ])
            (λ u y h. free u y (or_right (u == v && chosen entry) (is_chosen chosen entries (suc v) u) h))
            (λ s' h. k s' (λ u w. h u (elim w [
              | inl x ↦ inl (inl x)
              | inr x ↦ elim (or_cases (u == v && chosen entry) (is_chosen chosen entries (suc v) u) x) [
                | inl y ↦ inl (inr (eqb-true u v (and_parts (u == v) (chosen entry) y).0))
                | inr y ↦ inr y
              ]
            ])))) in
            rw e (ap (λ n. some_below n f) like.left ∙
            (some_below-same size f g same ∙ ap (λ n. some_below n g) (sym like.right))))
        | inr e ↦ rw e (some_assignment-same chosen entries (suc v) s Q Known test tell
            (λ u h. there u (or_right (u == v && chosen entry) (is_chosen chosen entries (suc v) u) h))
            known
            (λ u y h. free u y (or_right (u == v && chosen entry) (is_chosen chosen entries (suc v) u) h))
            (λ s' h. k s' (λ u w. h u (elim w [
              | inl x ↦ inl x
              | inr x ↦ elim (or_cases (u == v && chosen entry) (is_chosen chosen entries (suc v) u) x) [
                | inl y ↦ absurd (both_ways (chosen entry) e (and_parts (u == v) (chosen entry) y).1)
                | inr y ↦ inr y
              ]
            ]))))
      ]

  -- an element that comes from an object
  abbrev pub IsOf : ℕ → ℕ → Type 0
  IsOf o x = (x < size) × (origin x ≡ o)

  -- an element that an atom may stand for, where no element from its object is present otherwise
  element-same : (at x : ℕ) (p q : Bool) → x < size → list_any (λ y. origin y == at) changes.presences ≡ false →
      (origin x ≡ at → p ≡ q)
      → (a.present x && (a.origin x == at && p)) ≡ (b.present x && (b.origin x == at && q))
  element-same at x p q l none same =
      let from = ap (λ o. o == at) (like.from x l) in
      let to = ap (λ o. o == at) (like.to x l) in
      elim (cases_Bool (origin x == at)) [
        | inl e ↦ elim (like.presences x l) [
          | inl there ↦ ap₂ (λ m n. m && n) there (ap₂ (λ m n. m && n) (from ∙ sym to)
              (same (eqb-true (origin x) at e)))
          | inr c ↦ absurd (both_ways (list_any (λ y. origin y == at) changes.presences) none
              (list_any-from_one (λ y. origin y == at) changes.presences x c e))
        ]
        | inr e ↦ and_right (a.present x) (a.origin x == at && p) (and_left (a.origin x == at) p (from ∙ e))
            ∙ sym (and_right (b.present x) (b.origin x == at && q) (and_left (b.origin x == at) q (to ∙ e)))
      ]

  -- so with choices for atoms from which no element comes that is present otherwise
  pub some_choice-same : (atoms : List ℕ) (choice : Choice) (Known : ℕ → Type 0) (test tell : Choice → Bool)
      → list_any (λ o. list_any (λ y. origin y == o) changes.presences) atoms ≡ false
      → ((o : ℕ) → Known o → IsOf o (choice o))
      → ((s : Choice) → ((o : ℕ) → Known o ⊎ (list_any (λ x. o == x) atoms ≡ true) → IsOf o (s o)) → test s ≡ tell s)
      → some_choice a atoms choice test ≡ some_choice b atoms choice tell
  some_choice-same [] choice Known test tell none known k = k choice
      (λ o. elim [ inl e ↦ known o e | inr e ↦ absurd (true≢false (sym e)) ])
  some_choice-same (at ∷ atoms) choice Known test tell none known k =
      let f : ℕ → Bool = λ x. a.present x && (a.origin x == at && some_choice a atoms (assign choice at x) test) in
      let g : ℕ → Bool = λ x. b.present x && (b.origin x == at && some_choice b atoms (assign choice at x) tell) in
      let parts = or_parts (list_any (λ y. origin y == at) changes.presences)
      (list_any (λ o. list_any (λ y. origin y == o) changes.presences) atoms) none in
      let same : (x : ℕ) → x < size → f x ≡ g x = λ x l. element-same at x
      (some_choice a atoms (assign choice at x) test) (some_choice b atoms (assign choice at x) tell) l parts.0
      (λ own. some_choice-same atoms (assign choice at x) (λ o. Known o ⊎ (o ≡ at)) test tell parts.1
      (λ o w. elim (cases_Bool (o == at)) [
        | inl e ↦ rw e (l, own ∙ sym (eqb-true o at e))
        | inr e ↦ rw e (elim w [ inl was ↦ known o was | inr is ↦ absurd (eqb-false o at e is) ])
      ])
      (λ s h. k s (λ o w. h o (elim w [
        | inl x ↦ inl (inl x)
        | inr x ↦ elim (or_cases (o == at) (list_any (λ x. o == x) atoms) x) [
          | inl z ↦ inl (inr (eqb-true o at z))
          | inr z ↦ inr z
        ]
      ])))) in
      ap (λ n. some_below n f) like.left ∙ (some_below-same size f g same ∙ ap (λ n. some_below n g) (sym like.right))

-- atoms none of which comes from an object of an element that is present otherwise
unchanged_atoms : (origin : ℕ → ℕ) (changes : Changes) (terms : List Term) → list_any
    (is_changed_atom origin changes) terms ≡ false
    → list_any (λ o. list_any (λ y. origin y == o) changes.presences) (atoms_among terms) ≡ false
unchanged_atoms origin changes [] none = refl
unchanged_atoms origin changes (Var v ∷ terms) none = unchanged_atoms origin changes terms none
unchanged_atoms origin changes (Atom o ∷ terms) none =
    let parts = or_parts (list_any (λ y. origin y == o) changes.presences)
    (list_any (is_changed_atom origin changes) terms) none in
    or_from (list_any (λ y. origin y == o) changes.presences)
    (list_any (λ o. list_any (λ y. origin y == o) changes.presences) (atoms_among terms)) parts.0
    (unchanged_atoms origin changes terms parts.1)

module _ (origin : ℕ → ℕ) (size : ℕ) (changes : Changes) (t : List ℕ) where
  -- an element that variable v may stand for: it is there, and is the tuple's where v is a parameter
  abbrev pub Fits : ℕ → ℕ → Type 0
  Fits v x = (x < size) × (v < length t → slice_index t v ≡ x)

  -- of terms that pass a test, the variables stand for such elements, and the atoms for elements that come from them
  record AreSound (test : Term → Bool) (terms : List Term) (s : Assignment) (choice : Choice) : Type 0 where
    all : list_all test terms ≡ true
    variables : (v : ℕ) → test (Var v) ≡ true → Fits v (s v)
    atoms : (o : ℕ) → list_any (λ x. o == x) (atoms_among terms) ≡ true → (choice o < size) × (origin (choice o) ≡ o)

  after_variable : (test : Term → Bool) (v : ℕ) (terms : List Term) (s : Assignment) (choice : Choice)
      → AreSound test (Var v ∷ terms) s choice → AreSound test terms s choice
  after_variable test v terms s choice sound = record {
    all = (and_parts (test (Var v)) (list_all test terms) sound.all).1;
    variables = sound.variables;
    atoms = sound.atoms;
  }

  after_atom : (test : Term → Bool) (o : ℕ) (terms : List Term) (s : Assignment) (choice : Choice)
      → AreSound test (Atom o ∷ terms) s choice → AreSound test terms s choice
  after_atom test o terms s choice sound = record {
    all = (and_parts (test (Atom o)) (list_all test terms) sound.all).1;
    variables = sound.variables;
    atoms = λ u e. sound.atoms u (or_right (u == o) (list_any (λ x. u == x) (atoms_among terms)) e);
  }

  own_variable : (test : Term → Bool) (v : ℕ) (terms : List Term) (s : Assignment) (choice : Choice)
      → AreSound test (Var v ∷ terms) s choice → Fits v (s v)
  own_variable test v terms s choice sound = sound.variables v
      (and_parts (test (Var v)) (list_all test terms) sound.all).0

  own_atom : (test : Term → Bool) (o : ℕ) (terms : List Term) (s : Assignment) (choice : Choice)
      → AreSound test (Atom o ∷ terms) s choice → (choice o < size) × (origin (choice o) ≡ o)
  own_atom test o terms s choice sound = sound.atoms o
      (or_left (o == o) (list_any (λ x. o == x) (atoms_among terms)) (eq-eqb o o refl))

  -- the elements of terms are there
  elements_below : (test : Term → Bool) (terms : List Term) (s : Assignment) (choice : Choice)
      → AreSound test terms s choice
      → (i : ℕ) → i < length terms → slice_index (map (element_of s choice) terms) i < size
  elements_below test [] s choice sound i l = absurd (omega arith)
  elements_below test (Var v ∷ terms) s choice sound zero l = (own_variable test v terms s choice sound).0
  elements_below test (Var v ∷ terms) s choice sound (suc i) l = elements_below test terms s choice
      (after_variable test v terms s choice sound) i (omega arith)
  elements_below test (Atom o ∷ terms) s choice sound zero l = (own_atom test o terms s choice sound).0
  elements_below test (Atom o ∷ terms) s choice sound (suc i) l = elements_below test terms s choice
      (after_atom test o terms s choice sound) i (omega arith)

  -- terms may stand for the tuple that they stand for
  may_match-from_match : (test : Term → Bool) (terms : List Term) (pattern : Pattern) (s : Assignment)
      (choice : Choice) → AreSound test terms s choice
      → match_each pattern (map (element_of s choice) terms) ≡ true → may_match origin t terms pattern ≡ true
  may_match-from_match test [] [] s choice sound h = refl
  may_match-from_match test [] (entry ∷ pattern) s choice sound h = absurd (true≢false (sym h))
  may_match-from_match test (term ∷ terms) [] s choice sound h = absurd (true≢false (sym h))
  may_match-from_match test (Var v ∷ terms) (None ∷ pattern) s choice sound h =
      may_match-from_match test terms pattern s choice (after_variable test v terms s choice sound) h
  may_match-from_match test (Atom o ∷ terms) (None ∷ pattern) s choice sound h =
      may_match-from_match test terms pattern s choice (after_atom test o terms s choice sound) h
  may_match-from_match test (Var v ∷ terms) (Some x ∷ pattern) s choice sound h =
      let parts = and_parts (x == s v) (match_each pattern (map (element_of s choice) terms)) h in
      and_from (not (nat_lt v (length t)) || slice_index t v == x) (may_match origin t terms pattern)
      (elim (cases_Bool (nat_lt v (length t))) [
        | inl e ↦ rw e (eq-eqb (slice_index t v) x
            ((own_variable test v terms s choice sound).1 (ltb-true v (length t) e) ∙ sym (eqb-true x (s v) parts.0)))
        | inr e ↦ rw e refl
      ])
      (may_match-from_match test terms pattern s choice (after_variable test v terms s choice sound) parts.1)
  may_match-from_match test (Atom o ∷ terms) (Some x ∷ pattern) s choice sound h =
      let parts = and_parts (x == choice o) (match_each pattern (map (element_of s choice) terms)) h in
      and_from (origin x == o) (may_match origin t terms pattern)
      (eq-eqb (origin x) o (ap origin (eqb-true x (choice o) parts.0) ∙ (own_atom test o terms s choice sound).1))
      (may_match-from_match test terms pattern s choice (after_atom test o terms s choice sound) parts.1)

  -- what terms that the filter leaves out say is the same in both readings
  pub some_elements-same : (a b : Reading) → AreAlike origin size changes a b → (test : Term → Bool)
      (terms : List Term) (s : Assignment)
      (patterns : List Pattern) (says tells : List ℕ → Bool)
      → list_all test terms ≡ true → ((v : ℕ) → test (Var v) ≡ true → Fits v (s v)) → DifferAt size
      (length terms) patterns says tells
      → terms_may_change origin changes t terms patterns ≡ false
      → some_elements a s terms says ≡ some_elements b s terms tells
  some_elements-same a b like test terms s patterns says tells all known differ none =
      let parts = or_parts (list_any (may_match origin t terms) patterns)
      (list_any (is_changed_atom origin changes) terms) none in
      some_choice-same origin size changes a b like (atoms_among terms) (λ o. 0) (λ o. ⊥)
      (λ choice. says (map (element_of s choice) terms)) (λ choice. tells (map (element_of s choice) terms))
      (unchanged_atoms origin changes terms parts.1) (λ o e. absurd e)
      (λ choice of.
      (let sound : AreSound test terms s choice = record {
        all = all;
        variables = known;
        atoms = λ o e. of o
            (inr e);
      } in
      let many = length-map terms (element_of s choice) in
      elim (differ (map (element_of s choice) terms) many
      (λ i l. elements_below test terms s choice sound i (omega arith))) [
        | inl e ↦ e
        | inr m ↦ (let one = one-from_list_any (λ pattern. match_each pattern
            (map (element_of s choice) terms)) patterns m in
            absurd (both_ways (list_any (may_match origin t terms) patterns) parts.0
            (list_any-from_one (may_match origin t terms) patterns one.0 one.1
            (may_match-from_match test terms one.0 s choice sound one.2))))
      ]))

-- The elements chosen for the atoms of a literal, computed and in words.
use Rattle.std.proofs.Common.{◌≡◌, ℕ, Bool, true, false, ◌&&◌, ◌||◌, ◌==◌, if◌then◌else◌, List, [], ◌∷◌, Contains, map, refl, sym, ap, ap₂, ◌∙◌, subst, inl, inr, true≢false}
use Rattle.std.specs.List.{list_any}
use Rattle.std.proofs.lemmas.Bool.{cases_Bool, and_parts, and_from, or_cases, or_parts, or_left, or_right, eqb-true, eq-eqb, ne_eqb}
use Rattle.rf_finite.proofs.Range.{one-from_some_below, some_below-from_one}
use Rattle.rf_finite.proofs.Lists.{one-from_list_any, list_any-from_one}
use Rattle.rf_problem.specs.Holds.{ForSomeChoice, Interpretation}
use Rattle.rf_problem.specs.Reading.{Assignment, Choice, Reading, assign, atoms_among, element_of, some_choice, some_elements}
use Rattle.rf_problem.specs.declared.predicate.Term.{Term}
use Rattle.rf_problem.specs.declared.predicate.Term.TheVariants.{Var, Atom}
use Rattle.rf_problem.proofs.Agreements.{Agree}

-- whether an atom is one of these
abbrev is_among : List ℕ → ℕ → Bool
is_among atoms o = list_any (λ a. a == o) atoms

module _ (here : Reading) (w : Interpretation) (agree : Agree here w) where
  -- the choice is this one but for the atoms, for which elements that come from them are chosen
  record Takes (atoms : List ℕ) (choice taken : Choice) : Type 0 where
    inside : (o : ℕ) → is_among atoms o ≡ true → w.IsPresent (taken o) × w.ComesFrom o (taken o)
    outside : (o : ℕ) → is_among atoms o ≡ false → taken o ≡ choice o

  Takes-rest : (o : ℕ) (atoms : List ℕ) (choice taken : Choice) → Takes (o ∷ atoms) choice taken → Takes atoms (assign choice o (taken o)) taken
  Takes-rest o atoms choice taken t = record {
    inside = λ u e. t.inside u (or_right (o == u) (is_among atoms u) e);
    outside = λ u e. elim (cases_Bool (u == o)) [
      | inl same ↦ rw same (ap taken (eqb-true u o same))
      | inr apart ↦ rw apart (t.outside u (apart_too u apart e))
    ];
  }
    where
      apart_too : (u : ℕ) → (u == o) ≡ false → is_among atoms u ≡ false → (o == u || is_among atoms u) ≡ false
      apart_too u apart e = let other : (o == u) ≡ false = ne_eqb o u (λ q. true≢false (sym (eq-eqb u o (sym q)) ∙ apart)) in rw (other, e) refl

  Takes-from_rest : (o : ℕ) (atoms : List ℕ) (choice taken : Choice) (x : ℕ) → w.IsPresent x → w.ComesFrom o x
      → Takes atoms (assign choice o x) taken → Takes (o ∷ atoms) choice taken
  Takes-from_rest o atoms choice taken x l from t = record {
    inside = λ u e. elim (cases_Bool (is_among atoms u)) [
      | inl later ↦ t.inside u later
      | inr never ↦ elim (or_cases (o == u) (is_among atoms u) e) [
        | inl own ↦ (let same : (u == o) ≡ true = eq-eqb u o (sym (eqb-true o u own)) in
            let is : taken u ≡ x = t.outside u never ∙ (rw same refl) in
            (subst (λ y. w.IsPresent y) (sym is) l, subst (λ y. w.ComesFrom u y) (sym is) (subst (λ m. w.ComesFrom m x) (eqb-true o u own) from)))
        | inr later ↦ t.inside u later
      ]
    ];
    outside = λ u e. (let parts = or_parts (o == u) (is_among atoms u) e in
        let apart : (u == o) ≡ false = ne_eqb u o (λ q. true≢false (sym (eq-eqb o u (sym q)) ∙ parts.0)) in
        t.outside u parts.1 ∙ rw apart refl);
  }

  module _ (test : Choice → Bool) where
    abbrev leads_on : ℕ → List ℕ → Choice → ℕ → Bool
    leads_on o atoms choice x = here.present x && (here.origin x == o && some_choice here atoms (assign choice o x) test)

    some_choice-from_one : (atoms : List ℕ) (choice taken : Choice) → Takes atoms choice taken → test taken ≡ true → some_choice here atoms choice test ≡ true
    some_choice-from_one [] choice taken t h = subst (λ (f : Choice). test f ≡ true) (λ j u. t.outside u refl j) h
    some_choice-from_one (o ∷ atoms) choice taken t h =
        let own = t.inside o (or_left (o == o) (is_among atoms o) (eq-eqb o o refl)) in
        some_below-from_one here.size (leads_on o atoms choice) (taken o) (agree.within (taken o) own.0)
        (and_from (here.present (taken o)) (here.origin (taken o) == o && some_choice here atoms (assign choice o (taken o)) test) (agree.there (taken o) own.0)
        (and_from (here.origin (taken o) == o) (some_choice here atoms (assign choice o (taken o)) test) (eq-eqb (here.origin (taken o)) o ((agree.origins o (taken o)).1 own.1))
        (some_choice-from_one atoms (assign choice o (taken o)) taken (Takes-rest o atoms choice taken t) h)))

    one-from_some_choice : (atoms : List ℕ) (choice : Choice) → some_choice here atoms choice test ≡ true → (taken : Choice) × Takes atoms choice taken × (test taken ≡ true)
    one-from_some_choice [] choice h = (choice, record { inside = λ u e. absurd (true≢false (sym e)); outside = λ u e. refl }, h)
    one-from_some_choice (o ∷ atoms) choice h =
        let one = one-from_some_below here.size (leads_on o atoms choice) h in
        let first = and_parts (here.present one.0) (here.origin one.0 == o && some_choice here atoms (assign choice o one.0) test) one.2 in
        let rest = and_parts (here.origin one.0 == o) (some_choice here atoms (assign choice o one.0) test) first.1 in
        let r = one-from_some_choice atoms (assign choice o one.0) rest.1 in
        (r.0, Takes-from_rest o atoms choice r.0 one.0 (agree.present one.0 one.1 first.0) ((agree.origins o one.0).0 (eqb-true (here.origin one.0) o rest.0)) r.1, r.2)

-- whether a term is this atom
abbrev is_atom_term : ℕ → Term → Bool
is_atom_term o (Var v) = false
is_atom_term o (Atom a) = a == o

is_atom_term-same : (o : ℕ) (t : Term) → is_atom_term o t ≡ true → t ≡ Atom o
is_atom_term-same o (Var v) h = absurd (true≢false (sym h))
is_atom_term-same o (Atom a) h = ap (λ k. Atom k) (eqb-true a o h)

atoms_among-any : (o : ℕ) (terms : List Term) → list_any (is_atom_term o) terms ≡ is_among (atoms_among terms) o
atoms_among-any o [] = refl
atoms_among-any o (Var v ∷ terms) = atoms_among-any o terms
atoms_among-any o (Atom a ∷ terms) = ap (λ b. a == o || b) (atoms_among-any o terms)

-- the atoms among terms are those that stand there
among-from_Contains : (o : ℕ) (terms : List Term) → Contains terms (Atom o) → is_among (atoms_among terms) o ≡ true
among-from_Contains o terms c = sym (atoms_among-any o terms) ∙ list_any-from_one (is_atom_term o) terms (Atom o) c (eq-eqb o o refl)

Contains-from_among : (o : ℕ) (terms : List Term) → is_among (atoms_among terms) o ≡ true → Contains terms (Atom o)
Contains-from_among o terms h =
    let one = one-from_list_any (is_atom_term o) terms (atoms_among-any o terms ∙ h) in
    subst (λ (t : Term). Contains terms t) (is_atom_term-same o one.0 one.2) one.1

-- choices that agree on the atoms among terms choose the same for the terms
elements-same : (assignment : Assignment) (choice taken : Choice) (terms : List Term) → ((o : ℕ) → is_among (atoms_among terms) o ≡ true → choice o ≡ taken o)
    → map (element_of assignment choice) terms ≡ map (element_of assignment taken) terms
elements-same assignment choice taken [] same = refl
elements-same assignment choice taken (Var v ∷ terms) same =
    ap (λ (xs : List ℕ). assignment v ∷ xs) (elements-same assignment choice taken terms same)
elements-same assignment choice taken (Atom a ∷ terms) same =
    ap₂ (λ (x : ℕ) (xs : List ℕ). x ∷ xs) (same a (or_left (a == a) (is_among (atoms_among terms) a) (eq-eqb a a refl)))
    (elements-same assignment choice taken terms (λ o h. same o (or_right (a == o) (is_among (atoms_among terms) o) h)))

module _ (here : Reading) (w : Interpretation) (agree : Agree here w) (assignment : Assignment) (terms : List Term) (test : List ℕ → Bool) (P : List ℕ → Type 0) where
  abbrev passes : Choice → Bool
  passes choice = test (map (element_of assignment choice) terms)

  -- some elements of terms pass where a choice is there for which they do
  pub ForSomeChoice-from_some_elements : ((t : Choice) → passes t ≡ true → P (map (element_of assignment t) terms))
      → some_elements here assignment terms test ≡ true → ForSomeChoice w assignment terms P
  ForSomeChoice-from_some_elements holds h =
      let one = one-from_some_choice here w agree passes (atoms_among terms) (λ o. 0) h in (
        one.0,
        record {
          present = λ o c. (one.1.inside o (among-from_Contains o terms c)).0;
          origins = λ o c. (one.1.inside o (among-from_Contains o terms c)).1;
        },
        holds one.0 one.2,
      )

  -- and such a choice is there where some do
  pub some_elements-from_ForSomeChoice : ((t : Choice) → P (map (element_of assignment t) terms) → passes t ≡ true)
      → ForSomeChoice w assignment terms P → some_elements here assignment terms test ≡ true
  some_elements-from_ForSomeChoice tells (choice, c, h) =
      some_choice-from_one here w agree passes (atoms_among terms) (λ o. 0) taken takes
      (subst (λ (t : List ℕ). test t ≡ true) (elements-same assignment choice taken terms (λ o e. rw e refl)) (tells choice h))
    where
      taken : Choice
      taken o = if is_among (atoms_among terms) o then choice o else 0

      takes : Takes here w agree (atoms_among terms) (λ o. 0) taken
      takes = record {
        inside = λ o e. rw e (c.present o (Contains-from_among o terms e), c.origins o (Contains-from_among o terms e));
        outside = λ o e. rw e refl;
      }

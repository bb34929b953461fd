-- Nodes for the terms of a literal: an assignment and a choice by which they stand for them.
use Rattle.std.proofs.Common.{◌≡◌, ℕ, ◌<◌, Bool, true, ◌==◌, List, [], ◌∷◌, Contains, map, refl, sym, ap₂, ◌∙◌, subst, inl, inr, arith}
use Rattle.std.proofs.lemmas.Bool.{cases_Bool, eq-eqb, eqb-true}
use Rattle.rf_finite.proofs.Repeats.{Contains-cons_cases}
use Rattle.rf_problem.specs.Holds.{interpreted}
use Rattle.rf_problem.specs.Reading.{Assignment, Choice, assign, element_of, some_elements}
use Rattle.rf_problem.specs.declared.predicate.Term.{Term}
use Rattle.rf_problem.specs.declared.predicate.Term.TheVariants.{Var, Atom}
use Rattle.rf_problem.specs.declared.problem.Problem.{Problem}
use Rattle.rf_problem.proofs.ChosenAtoms.{some_elements-from_ForSomeChoice}
use Rattle.rf_problem.proofs.Meanings.{Agree-interpreted}
use Rattle.rf_graph.specs.Evaluate.{graph_reading}
use Rattle.rf_graph.specs.Graph.{origin_of, size_of}
use Rattle.rf_graph.specs.declared.graph.Graph.{Graph}
use Rattle.rf_rules.specs.Predicates.{is_same_term}

-- the assignment where a variable stands for node x, and the choice where an atom does
abbrev pub with_variable : Term → ℕ → Assignment → Assignment
with_variable (Var v) x w = assign w v x
with_variable (Atom o) x w = w

abbrev pub with_atom : Term → ℕ → Choice → Choice
with_atom (Var v) x choice = choice
with_atom (Atom o) x choice = assign choice o x

pub assign-own : (w : Assignment) (v x : ℕ) → assign w v x v ≡ x
assign-own w v x = let own : (v == v) ≡ true = eq-eqb v v refl in rw own refl

-- the term stands for x then
pub element-own : (t : Term) (x : ℕ) (w : Assignment) (choice : Choice) → element_of (with_variable t x w) (with_atom t x choice) t ≡ x
element-own (Var v) x w choice = assign-own w v x
element-own (Atom o) x w choice = assign-own choice o x

-- what stands for y still does, unless it is the same term
assign-other : (w : Assignment) (u v x y : ℕ) → w v ≡ y → ((u == v) ≡ true → x ≡ y) → assign w u x v ≡ y
assign-other w u v x y is same = elim (cases_Bool (v == u)) [
  | inl e ↦ rw e (same (eq-eqb u v (sym (eqb-true v u e))))
  | inr e ↦ rw e is
]

pub element-other : (t u : Term) (x y : ℕ) (w : Assignment) (choice : Choice) → element_of w choice u ≡ y →
    (is_same_term t u ≡ true → x ≡ y)
    → element_of (with_variable t x w) (with_atom t x choice) u ≡ y
element-other (Var u) (Var v) x y w choice is same = assign-other w u v x y is same
element-other (Var u) (Atom q) x y w choice is same = is
element-other (Atom o) (Var v) x y w choice is same = is
element-other (Atom o) (Atom q) x y w choice is same = assign-other choice o q x y is same

module _ (p : Problem) (g : Graph) where
  -- node x comes from the object of an atom
  abbrev pub FitsAtom : Term → ℕ → Type 0
  FitsAtom (Var v) x = Unit {0}
  FitsAtom (Atom o) x = (x < size_of g) × (origin_of g x ≡ o)

  abbrev Comes : Choice → ℕ → Type 0
  Comes choice o = (choice o < size_of g) × (origin_of g (choice o) ≡ o)

  comes-own : (t : Term) (x : ℕ) (choice : Choice) (o : ℕ) → FitsAtom t x → t ≡ Atom o → Comes (with_atom t x choice) o
  comes-own t x choice o fits e = subst (λ x. (x < size_of g) × (origin_of g x ≡ o)) (sym own) there
    where
      own : with_atom t x choice o ≡ x
      own = subst (λ t. with_atom t x choice o ≡ x) (sym e) (assign-own choice o x)

      there : (x < size_of g) × (origin_of g x ≡ o)
      there = subst (λ t. FitsAtom t x) e fits

  comes-other : (t : Term) (x : ℕ) (choice : Choice) (o : ℕ) → FitsAtom t x → Comes choice o → Comes (with_atom t x choice) o
  comes-other (Var v) x choice o fits is = is
  comes-other (Atom a) x choice o fits is = elim (cases_Bool (o == a)) [
    | inl e ↦ rw e (fits.0, fits.1 ∙ sym (eqb-true o a e))
    | inr e ↦ rw e is
  ]

  -- two terms stand for elements that pass a test where they stand for nodes x and y that do
  module _ (w : Assignment) (t u : Term) (x y : ℕ) (same : is_same_term t u ≡ true → x ≡ y) (fitst : FitsAtom t x)
      (fitsu : FitsAtom u y) where
    abbrev chosen : Choice
    chosen = with_atom t x (with_atom u y (λ o. 0))

    chosen_comes : (o : ℕ) → Contains (t ∷ u ∷ []) (Atom o) → Comes chosen o
    chosen_comes o c = elim (Contains-cons_cases t (u ∷ []) (Atom o) c) [
      | inl e ↦ comes-own t x (with_atom u y (λ o. 0)) o fitst e
      | inr c ↦ elim (Contains-cons_cases u [] (Atom o) c) [
        | inl e ↦ comes-other t x (with_atom u y (λ o. 0)) o fitst (comes-own u y (λ o. 0) o fitsu e)
        | inr c ↦ absurd (omega (arith, c.1))
      ]
    ]

    pub two_stand : (test : List ℕ → Bool) → test (x ∷ y ∷ []) ≡ true
        → some_elements (graph_reading p g) (with_variable t x (with_variable u y w)) (t ∷ u ∷ []) test ≡ true
    two_stand test h =
        some_elements-from_ForSomeChoice (graph_reading p g) (interpreted (graph_reading p g) (λ q t. true))
        (Agree-interpreted (graph_reading p g) (λ q t. true))
        (with_variable t x (with_variable u y w)) (t ∷ u ∷ []) test (λ e. test e ≡ true) (λ choice e. e) (
          chosen,
          record { present = λ o c. ((chosen_comes o c).0, refl); origins = λ o c. (chosen_comes o c).1 },
          subst (λ e. test e ≡ true) (sym elements) h,
        )
      where
        elements : map (element_of (with_variable t x (with_variable u y w)) chosen) (t ∷ u ∷ []) ≡ x ∷ y ∷ []
        elements = ap₂ (λ a b. a ∷ b ∷ []) (element-own t x (with_variable u y w) (with_atom u y (λ o. 0)))
            (element-other t u x y (with_variable u y w) (with_atom u y (λ o. 0)) (element-own u y w (λ o. 0)) same)

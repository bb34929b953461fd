-- Literals, computed and in words.
use Rattle.std.proofs.Common.{◌≡◌, ℕ, ◌<◌, Bool, true, false, ◌&&◌, Option, Some, None, List, [], ◌∷◌, length, map, if◌then◌else◌, slice_get, slice_index, slice_index_or, refl, sym, ap₂, ◌∙◌, subst, inl, inr}
use Rattle.std.specs.List.{list_all}
use Rattle.std.proofs.lemmas.Bool.{and_parts, both_ways, not-true, not_from_false, false_from_ne_true, eq-eqb}
use Rattle.std.proofs.lemmas.List.{length-map}
use Rattle.rf_finite.proofs.Range.{None-ne_Some}
use Rattle.rf_problem.specs.Holds.{AtomHolds, ChoosesInside, ForSomeChoice, Interpretation, LiteralHolds, RelatesTwo}
use Rattle.rf_problem.specs.Parts.{arity_of}
use Rattle.rf_problem.specs.Reading.{Assignment, Calls, Choice, Reading, atom_true, call_true, element_of, is_entry, literal_true, literals_true, some_assignment}
use Rattle.rf_problem.specs.Valid.{fits_term, may_stand}
use Rattle.rf_problem.specs.declared.object.ObjectDecl.{ObjectDecl}
use Rattle.rf_problem.specs.declared.predicate.Literal.{Literal}
use Rattle.rf_problem.specs.declared.predicate.Literal.TheVariants.{Call, Same, Differ}
use Rattle.rf_problem.specs.declared.predicate.Term.{Term}
use Rattle.rf_problem.specs.declared.predicate.Term.TheVariants.{Var, Atom}
use Rattle.rf_problem.specs.declared.problem.Problem.{Problem}
use Rattle.rf_problem.specs.declared.symbol.Symbol.{Symbol}
use Rattle.rf_problem.proofs.Agreements.{Agree, LiteralSays, SymbolSays}
use Rattle.rf_problem.proofs.Choices.{Picks, is_chosen, is_entry-Some, some_assignment-from_one, one-from_some_assignment, entry-from_inner, inner-from_entry}
use Rattle.rf_problem.proofs.ChosenAtoms.{ForSomeChoice-from_some_elements, some_elements-from_ForSomeChoice}
use Rattle.rf_problem.proofs.Fitting.{FitsCall, FitsCall-from_literal_fits, IsFree, all-from_each, each-from_all, each-from_literals_fit, literal_fits, literals_fit, may_stand-free, may_stand-parts, ranges_over-cases}
use Rattle.rf_problem.proofs.Holding.{AtomHolds-from_atom_true, atom_true-from_AtomHolds}

-- assignments that agree on the variables that may stand in a literal have the same elements for its terms
module _ (objects : List ObjectDecl) (variables : List (Option ℕ)) (i : ℕ) (negated : Bool) (assignment others : Assignment) (choice : Choice)
    (same : (v : ℕ) → may_stand variables i negated v ≡ true → assignment v ≡ others v) where
  element-elsewhere : (term : Term) → fits_term objects variables i negated term ≡ true → element_of assignment choice term ≡ element_of others choice term
  element-elsewhere (Var v) fits = same v fits
  element-elsewhere (Atom o) fits = refl

  elements-elsewhere : (terms : List Term) → list_all (fits_term objects variables i negated) terms ≡ true
      → map (element_of assignment choice) terms ≡ map (element_of others choice) terms
  elements-elsewhere [] fit = refl
  elements-elsewhere (term ∷ terms) fit =
      let parts = and_parts (fits_term objects variables i negated term) (list_all (fits_term objects variables i negated) terms) fit in
      ap₂ (λ (a : ℕ) (b : List ℕ). a ∷ b) (element-elsewhere term parts.0) (elements-elsewhere terms parts.1)

module _ (p : Problem) (out inn : Interpretation) where
  -- what terms have a property of stays so at assignments that agree on the variables that may stand in them
  ForSomeChoice-elsewhere : (w : Interpretation) (P : List ℕ → Type 0) (variables : List (Option ℕ)) (i : ℕ) (negated : Bool) (assignment others : Assignment) (terms : List Term)
      → list_all (fits_term p.objects variables i negated) terms ≡ true → ((v : ℕ) → may_stand variables i negated v ≡ true → assignment v ≡ others v)
      → ForSomeChoice w assignment terms P → ForSomeChoice w others terms P
  ForSomeChoice-elsewhere w P variables i negated assignment others terms fit same h =
      (h.0, h.1, subst P (elements-elsewhere p.objects variables i negated assignment others h.0 same terms fit) h.2)

  both_fit : (variables : List (Option ℕ)) (i : ℕ) (a b : Term) → (fits_term p.objects variables i false a && fits_term p.objects variables i false b) ≡ true
      → list_all (fits_term p.objects variables i false) (a ∷ b ∷ []) ≡ true
  both_fit variables i a b fits =
      let parts = and_parts (fits_term p.objects variables i false a) (fits_term p.objects variables i false b) fits in
      rw (parts.0, parts.1) refl

  -- literals hold at assignments that agree on the variables that range over the clause
  pub LiteralHolds-elsewhere : (variables : List (Option ℕ)) (i : ℕ) (assignment others : Assignment) (l : Literal)
      → literal_fits p variables i l ≡ true
      → ((v : ℕ) → IsFree variables v → assignment v ≡ others v)
      → LiteralHolds out inn variables i assignment l → LiteralHolds out inn variables i others l
  LiteralHolds-elsewhere variables i assignment others (Call false closure symbol args) fits same h =
      let parts = FitsCall-from_literal_fits p variables i false closure symbol args fits in
      ForSomeChoice-elsewhere out (AtomHolds out closure symbol) variables i false assignment others args parts.stand (λ v s. same v (may_stand-free variables i v s)) h
  LiteralHolds-elsewhere variables i assignment others (Call true closure symbol args) fits same h = λ chosen choice holds.
      let parts = FitsCall-from_literal_fits p variables i true closure symbol args fits in
      h (moved chosen) (moves chosen choice)
      (ForSomeChoice-elsewhere inn (AtomHolds inn closure symbol) variables i true chosen (moved chosen) args parts.stand (agrees chosen choice) holds)
    where
      moved : Assignment → Assignment
      moved chosen v = if is_entry i (slice_index_or variables v None) then chosen v else assignment v

      is_own : (o : Option ℕ) → o ≡ Some i → is_entry i o ≡ true
      is_own o e = subst (λ (o : Option ℕ). is_entry i o ≡ true) (sym e) (eq-eqb i i refl)

      moves : (chosen : Assignment) → ChoosesInside variables i inn others chosen → ChoosesInside variables i inn assignment (moved chosen)
      moves chosen choice = record {
        own = λ v e. (let own = is_own (slice_index_or variables v None) e in rw own (choice.own v e));
        others = λ v e. (let other : is_entry i (slice_index_or variables v None) ≡ false =
            false_from_ne_true (is_entry i (slice_index_or variables v None)) (λ own. e (is_entry-Some i (slice_index_or variables v None) own)) in rw other refl);
      }

      agrees : (chosen : Assignment) → ChoosesInside variables i inn others chosen → (v : ℕ) → may_stand variables i true v ≡ true → chosen v ≡ moved chosen v
      agrees chosen choice v s =
          let parts = may_stand-parts variables i v true s in
          elim (ranges_over-cases (slice_index_or variables v None) i parts.1) [
            | inl free ↦ (let none : is_entry i (slice_index_or variables v None) ≡ false = subst (λ (o : Option ℕ). is_entry i o ≡ false) (sym free) refl in
                rw none (choice.others v (λ e. None-ne_Some (sym free ∙ e)) ∙ sym (same v (parts.0, free))))
            | inr own ↦ rw own refl
          ]
  LiteralHolds-elsewhere variables i assignment others (Same a b) fits same h =
      ForSomeChoice-elsewhere out (RelatesTwo out.AreSame) variables i false assignment others (a ∷ b ∷ []) (both_fit variables i a b fits) (λ v s. same v (may_stand-free variables i v s)) h
  LiteralHolds-elsewhere variables i assignment others (Differ a b) fits same h =
      ForSomeChoice-elsewhere out (RelatesTwo out.AreDifferent) variables i false assignment others (a ∷ b ∷ []) (both_fit variables i a b fits) (λ v s. same v (may_stand-free variables i v s)) h

module _ (p : Problem) (calls : Calls) (here inside : Reading) (w : Interpretation) (agree : Agree here w) where
  -- the arguments of a call are as many as its symbol has
  map-arity : (element : Term → ℕ) (symbol : Symbol) (args : List Term) → length args ≡ arity_of p.predicates symbol → length (map element args) ≡ arity_of p.predicates symbol
  map-arity element symbol args e = length-map args element ∙ e

  -- a call holds where the test says so, and the test says so where it does
  pub CallHolds-from_call_true : (variables : List (Option ℕ)) (i : ℕ) (negated closure : Bool) (symbol : Symbol) (assignment : Assignment) (args : List Term)
      → SymbolSays p.predicates calls here inside w symbol → FitsCall p variables i negated closure symbol args
      → call_true calls here inside closure symbol assignment args ≡ true → ForSomeChoice w assignment args (AtomHolds w closure symbol)
  CallHolds-from_call_true variables i negated closure symbol assignment args says parts h =
      ForSomeChoice-from_some_elements here w agree assignment args (atom_true calls here inside closure symbol) (AtomHolds w closure symbol)
      (λ choice t. AtomHolds-from_atom_true p.predicates calls here inside w agree closure symbol says (map (element_of assignment choice) args)
      (map-arity (element_of assignment choice) symbol args parts.arity) parts.steps t) h

  pub call_true-from_CallHolds : (variables : List (Option ℕ)) (i : ℕ) (negated closure : Bool) (symbol : Symbol) (assignment : Assignment) (args : List Term)
      → SymbolSays p.predicates calls here inside w symbol → FitsCall p variables i negated closure symbol args
      → ForSomeChoice w assignment args (AtomHolds w closure symbol) → call_true calls here inside closure symbol assignment args ≡ true
  call_true-from_CallHolds variables i negated closure symbol assignment args says parts h =
      some_elements-from_ForSomeChoice here w agree assignment args (atom_true calls here inside closure symbol) (AtomHolds w closure symbol)
      (λ choice t. atom_true-from_AtomHolds p.predicates calls here inside w agree closure symbol says (map (element_of assignment choice) args)
      (map-arity (element_of assignment choice) symbol args parts.arity) parts.steps t) h

-- to choose elements inside a negation is to pick an assignment of its own variables
ChoosesInside-from_Picks : (variables : List (Option ℕ)) (i : ℕ) (w : Interpretation) (assignment chosen : Assignment)
    → Picks (is_entry i) variables 0 w.IsPresent assignment chosen → ChoosesInside variables i w assignment chosen
ChoosesInside-from_Picks variables i w assignment chosen c = record {
  own = λ v e. c.inside v (inner-from_entry variables i v e);
  others = λ v e. c.outside v (false_from_ne_true (is_chosen (is_entry i) variables 0 v) (λ h. e (entry-from_inner variables i v h)));
}

Picks-from_ChoosesInside : (variables : List (Option ℕ)) (i : ℕ) (w : Interpretation) (assignment chosen : Assignment)
    → ChoosesInside variables i w assignment chosen → Picks (is_entry i) variables 0 w.IsPresent assignment chosen
Picks-from_ChoosesInside variables i w assignment chosen c = record {
  inside = λ v h. c.own v (entry-from_inner variables i v h);
  outside = λ v h. c.others v (λ e. both_ways (is_chosen (is_entry i) variables 0 v) h (inner-from_entry variables i v e));
}

module _ (p : Problem) (calls : Calls) (here inside : Reading) (out inn : Interpretation) (agree : Agree here out) (agree' : Agree inside inn) where
  -- what a negated call tests of the assignment chosen inside it
  abbrev inner : Bool → Symbol → List Term → Assignment → Bool
  inner closure symbol args chosen = call_true calls inside here closure symbol chosen args

  -- whether some assignment chosen inside it makes it true
  abbrev some_inner : List (Option ℕ) → ℕ → Assignment → Bool → Symbol → List Term → Bool
  some_inner variables i assignment closure symbol args = some_assignment inside (is_entry i) variables 0 assignment (inner closure symbol args)

  present_within : (x : ℕ) → inn.IsPresent x → (x < inside.size) × (inside.present x ≡ true)
  present_within x h = (agree'.within x h, agree'.there x h)

  -- a literal holds where the test says so, and the test says so where it does
  pub LiteralHolds-from_literal_true : (variables : List (Option ℕ)) (i : ℕ) (assignment : Assignment) (l : Literal)
      → LiteralSays p.predicates calls here inside out inn l → literal_fits p variables i l ≡ true
      → literal_true calls here inside variables i assignment l ≡ true → LiteralHolds out inn variables i assignment l
  LiteralHolds-from_literal_true variables i assignment (Call false closure symbol args) says fits h =
      CallHolds-from_call_true p calls here inside out agree variables i false closure symbol assignment args says (FitsCall-from_literal_fits p variables i false closure symbol args fits) h
  LiteralHolds-from_literal_true variables i assignment (Call true closure symbol args) says fits h = λ chosen c holds.
      both_ways (some_inner variables i assignment closure symbol args)
      (not-true (some_inner variables i assignment closure symbol args) h)
      (some_assignment-from_one (is_entry i) inside inn.IsPresent present_within agree'.present (inner closure symbol args) variables 0 assignment chosen
      (Picks-from_ChoosesInside variables i inn assignment chosen c)
      (call_true-from_CallHolds p calls inside here inn agree' variables i true closure symbol chosen args says (FitsCall-from_literal_fits p variables i true closure symbol args fits) holds))
  LiteralHolds-from_literal_true variables i assignment (Same a b) says fits h =
      ForSomeChoice-from_some_elements here out agree assignment (a ∷ b ∷ []) (λ t. here.is_same (slice_index t 0) (slice_index t 1)) (RelatesTwo out.AreSame)
      (λ choice t. (agree.sames (element_of assignment choice a) (element_of assignment choice b)).0 t) h
  LiteralHolds-from_literal_true variables i assignment (Differ a b) says fits h =
      ForSomeChoice-from_some_elements here out agree assignment (a ∷ b ∷ []) (λ t. here.is_different (slice_index t 0) (slice_index t 1)) (RelatesTwo out.AreDifferent)
      (λ choice t. (agree.differs (element_of assignment choice a) (element_of assignment choice b)).0 t) h

  pub literal_true-from_LiteralHolds : (variables : List (Option ℕ)) (i : ℕ) (assignment : Assignment) (l : Literal)
      → LiteralSays p.predicates calls here inside out inn l → literal_fits p variables i l ≡ true
      → LiteralHolds out inn variables i assignment l → literal_true calls here inside variables i assignment l ≡ true
  literal_true-from_LiteralHolds variables i assignment (Call false closure symbol args) says fits h =
      call_true-from_CallHolds p calls here inside out agree variables i false closure symbol assignment args says (FitsCall-from_literal_fits p variables i false closure symbol args fits) h
  literal_true-from_LiteralHolds variables i assignment (Call true closure symbol args) says fits h =
      not_from_false (some_inner variables i assignment closure symbol args)
      (false_from_ne_true (some_inner variables i assignment closure symbol args) (λ some.
      let one = one-from_some_assignment (is_entry i) inside inn.IsPresent present_within agree'.present (inner closure symbol args) variables 0 assignment some in
      h one.0 (ChoosesInside-from_Picks variables i inn assignment one.0 one.1)
      (CallHolds-from_call_true p calls inside here inn agree' variables i true closure symbol one.0 args says (FitsCall-from_literal_fits p variables i true closure symbol args fits) one.2)))
  literal_true-from_LiteralHolds variables i assignment (Same a b) says fits h =
      some_elements-from_ForSomeChoice here out agree assignment (a ∷ b ∷ []) (λ t. here.is_same (slice_index t 0) (slice_index t 1)) (RelatesTwo out.AreSame)
      (λ choice t. (agree.sames (element_of assignment choice a) (element_of assignment choice b)).1 t) h
  literal_true-from_LiteralHolds variables i assignment (Differ a b) says fits h =
      some_elements-from_ForSomeChoice here out agree assignment (a ∷ b ∷ []) (λ t. here.is_different (slice_index t 0) (slice_index t 1)) (RelatesTwo out.AreDifferent)
      (λ choice t. (agree.differs (element_of assignment choice a) (element_of assignment choice b)).1 t) h

  -- they say the same of what each of these literals calls
  abbrev pub LiteralsSay : List Literal → Type 0
  LiteralsSay ls = (i : ℕ) (l : Literal) → slice_get ls i ≡ Some l → LiteralSays p.predicates calls here inside out inn l

  -- the literals of a clause hold
  pub literals-from_literals_true : (variables : List (Option ℕ)) (assignment : Assignment) (ls : List Literal) → LiteralsSay ls → literals_fit p variables 0 ls ≡ true
      → literals_true calls here inside variables 0 assignment ls ≡ true
      → (i : ℕ) (l : Literal) → slice_get ls i ≡ Some l → LiteralHolds out inn variables i assignment l
  literals-from_literals_true variables assignment ls say fit h i l e =
      LiteralHolds-from_literal_true variables i assignment l (say i l e) (each-from_literals_fit p variables ls fit i l e)
      (each-from_all (λ i. literal_true calls here inside variables i assignment)
      (λ i. literals_true calls here inside variables i assignment) (λ i l ls. refl) ls h i l e)

  pub literals_true-from_literals : (variables : List (Option ℕ)) (assignment : Assignment) (ls : List Literal) → LiteralsSay ls → literals_fit p variables 0 ls ≡ true
      → ((i : ℕ) (l : Literal) → slice_get ls i ≡ Some l → LiteralHolds out inn variables i assignment l)
      → literals_true calls here inside variables 0 assignment ls ≡ true
  literals_true-from_literals variables assignment ls say fit h =
      all-from_each (λ i. literal_true calls here inside variables i assignment)
      (λ i. literals_true calls here inside variables i assignment) (λ i l ls. refl) (λ i. refl) ls
      (λ i l e. literal_true-from_LiteralHolds variables i assignment l (say i l e) (each-from_literals_fit p variables ls fit i l e) (h i l e))

-- What is said of predicates that don't depend on a reference doesn't change with its edges.
use Rattle.std.proofs.Common.{◌≡◌, ℕ, zero, suc, Bool, true, false, not, ◌&&◌, ◌||◌, ◌==◌, if◌then◌else◌, Option, List, [], ◌∷◌, map, drop, refl, ap, ap₂, ◌∙◌, slice_index}
use Rattle.std.specs.List.{list_any}
use Rattle.std.proofs.lemmas.Bool.{or_parts}
use Rattle.rf_finite.specs.Range.{some_below}
use Rattle.rf_finite.specs.Walks.{walk_below}
use Rattle.rf_problem.specs.Parts.{predicate_at}
use Rattle.rf_problem.specs.Reading.{Assignment, Calls, Choice, Reading, assign, atom_true, atoms_among, call_true, clause_true, element_of, is_entry, literal_true, literals_true, predicate_true, some_assignment, some_choice, symbol_true}
use Rattle.rf_problem.specs.Valid.{is_free}
use Rattle.rf_problem.specs.declared.predicate.Clause.{Clause}
use Rattle.rf_problem.specs.declared.predicate.Literal.{Literal}
use Rattle.rf_problem.specs.declared.predicate.Literal.TheVariants.{Call, Same, Differ}
use Rattle.rf_problem.specs.declared.predicate.Predicate.{Predicate}
use Rattle.rf_problem.specs.declared.predicate.Term.{Term}
use Rattle.rf_problem.specs.declared.symbol.Symbol.{Symbol}
use Rattle.rf_problem.specs.declared.symbol.Symbol.TheVariants.{Class, Reference, Predicate as Defined, Exists, Equals}
use Rattle.rf_prop_broken.specs.Dependence.{asks_for, clause_asks, depends, is_of}
use Rattle.rf_prop_broken.specs.declared.dependence.Pair.{Pair}

-- a reading with other edges, which are the same but for those of two references
abbrev pub Edges : Type 0
Edges = ℕ → ℕ → ℕ → Bool

abbrev pub with_edges : Reading → Edges → Reading
with_edges a e = record {
  size = a.size;
  present = a.present;
  has_class = a.has_class;
  has_edge = e;
  is_same = a.is_same;
  is_different = a.is_different;
  origin = a.origin;
}

abbrev pub SameBut : Pair → Reading → Edges → Type 0
SameBut pair a e = (r x y : ℕ) → is_of pair r ≡ false → e r x y ≡ a.has_edge r x y

-- elements are chosen whatever edges there are
some_choice-same : (a : Reading) (e : Edges) (atoms : List ℕ) (choice : Choice) (test : Choice → Bool)
    → some_choice (with_edges a e) atoms choice test ≡ some_choice a atoms choice test
some_choice-same a e [] choice test = refl
some_choice-same a e (o ∷ atoms) choice test =
    λ i. some_below a.size (λ x. a.present x && (a.origin x == o && some_choice-same a e atoms (assign choice o x) test i))

some_assignment-same : (a : Reading) (e : Edges) (chosen : Option ℕ → Bool) (entries : List (Option ℕ)) (v : ℕ) (assignment : Assignment) (test : Assignment → Bool)
    → some_assignment (with_edges a e) chosen entries v assignment test ≡ some_assignment a chosen entries v assignment test
some_assignment-same a e chosen [] v assignment test = refl
some_assignment-same a e chosen (entry ∷ entries) v assignment test =
    λ i. if chosen entry
    then some_below a.size (λ x. a.present x && some_assignment-same a e chosen entries (suc v) (assign assignment v x) test i)
    else some_assignment-same a e chosen entries (suc v) assignment test i

-- where calls of predicates that don't pass say the same
abbrev Agree : Pair → (ℕ → Bool) → Calls → Type 0
Agree pair passes says = (a n : Reading) (e f : Edges) → SameBut pair a e → SameBut pair n f → (q : ℕ) (t : List ℕ) → passes q ≡ false
    → says (with_edges a e) (with_edges n f) q t ≡ says a n q t

module _ (pair : Pair) (passes : ℕ → Bool) (says : Calls) (agree : Agree pair passes says) where
  module _ (a n : Reading) (e f : Edges) (same : SameBut pair a e) (other : SameBut pair n f) where
    symbol-far : (negated closure : Bool) (symbol : Symbol) (args : List Term) → asks_for pair passes (Call negated closure symbol args) ≡ false
        → (t : List ℕ) → symbol_true says (with_edges a e) (with_edges n f) symbol t ≡ symbol_true says a n symbol t
    symbol-far negated closure (Class k) args far t = refl
    symbol-far negated closure (Reference r) args far t = same r (slice_index t 0) (slice_index t 1) far
    symbol-far negated closure (Defined q) args far t = agree a n e f same other q t far
    symbol-far negated closure Exists args far t = refl
    symbol-far negated closure Equals args far t = refl

    atom-far : (negated closure : Bool) (symbol : Symbol) (args : List Term) → asks_for pair passes (Call negated closure symbol args) ≡ false
        → (t : List ℕ) → atom_true says (with_edges a e) (with_edges n f) closure symbol t ≡ atom_true says a n closure symbol t
    atom-far negated false symbol args far t = symbol-far negated false symbol args far t
    atom-far negated true symbol args far t =
        λ i. walk_below (λ x y. symbol-far negated true symbol args far (x ∷ y ∷ []) i) a.present a.size (slice_index t 0) (slice_index t 1)

    call-far : (negated closure : Bool) (symbol : Symbol) (args : List Term) → asks_for pair passes (Call negated closure symbol args) ≡ false
        → (assignment : Assignment) → call_true says (with_edges a e) (with_edges n f) closure symbol assignment args ≡ call_true says a n closure symbol assignment args
    call-far negated closure symbol args far assignment =
        some_choice-same a e (atoms_among args) (λ o. 0) (λ choice. atom_true says (with_edges a e) (with_edges n f) closure symbol (map (element_of assignment choice) args))
        ∙ (λ i. some_choice a (atoms_among args) (λ o. 0) (λ choice. atom-far negated closure symbol args far (map (element_of assignment choice) args) i))

  -- so does a literal that asks for neither of the references and for no predicate that passes
  pub literal-far : (a n : Reading) (e f : Edges) → SameBut pair a e → SameBut pair n f → (variables : List (Option ℕ)) (i : ℕ) (assignment : Assignment) (l : Literal)
      → asks_for pair passes l ≡ false
      → literal_true says (with_edges a e) (with_edges n f) variables i assignment l ≡ literal_true says a n variables i assignment l
  literal-far a n e f same other variables i assignment (Call false closure symbol args) far = call-far a n e f same other false closure symbol args far assignment
  literal-far a n e f same other variables i assignment (Call true closure symbol args) far =
      ap not (some_assignment-same n f (is_entry i) variables 0 assignment (λ chosen. call_true says (with_edges n f) (with_edges a e) closure symbol chosen args)
      ∙ (λ j. some_assignment n (is_entry i) variables 0 assignment (λ chosen. call-far n a f e other same true closure symbol args far chosen j)))
  literal-far a n e f same other variables i assignment (Same x y) far =
      some_choice-same a e (atoms_among (x ∷ y ∷ [])) (λ o. 0)
      (λ choice. a.is_same (slice_index (map (element_of assignment choice) (x ∷ y ∷ [])) 0) (slice_index (map (element_of assignment choice) (x ∷ y ∷ [])) 1))
  literal-far a n e f same other variables i assignment (Differ x y) far =
      some_choice-same a e (atoms_among (x ∷ y ∷ [])) (λ o. 0)
      (λ choice. a.is_different (slice_index (map (element_of assignment choice) (x ∷ y ∷ [])) 0) (slice_index (map (element_of assignment choice) (x ∷ y ∷ [])) 1))

  module _ (a n : Reading) (e f : Edges) (same : SameBut pair a e) (other : SameBut pair n f) where
    literals-far : (variables : List (Option ℕ)) (i : ℕ) (assignment : Assignment) (ls : List Literal) → list_any (asks_for pair passes) ls ≡ false
        → literals_true says (with_edges a e) (with_edges n f) variables i assignment ls ≡ literals_true says a n variables i assignment ls
    literals-far variables i assignment [] far = refl
    literals-far variables i assignment (l ∷ ls) far =
        let parts = or_parts (asks_for pair passes l) (list_any (asks_for pair passes) ls) far in
        ap₂ (λ x y. x && y) (literal-far a n e f same other variables i assignment l parts.0) (literals-far variables (suc i) assignment ls parts.1)

    clause-far : (arity : ℕ) (t : List ℕ) (c : Clause) → clause_asks pair passes c ≡ false
        → clause_true says (with_edges a e) (with_edges n f) arity t c ≡ clause_true says a n arity t c
    clause-far arity t c far =
        some_assignment-same a e is_free (drop arity c.variables) arity (slice_index t) (λ assignment. literals_true says (with_edges a e) (with_edges n f) c.variables 0 assignment c.literals)
        ∙ (λ i. some_assignment a is_free (drop arity c.variables) arity (slice_index t) (λ assignment. literals-far c.variables 0 assignment c.literals far i))

    clauses-far : (arity : ℕ) (t : List ℕ) (cs : List Clause) → list_any (clause_asks pair passes) cs ≡ false
        → list_any (clause_true says (with_edges a e) (with_edges n f) arity t) cs ≡ list_any (clause_true says a n arity t) cs
    clauses-far arity t [] far = refl
    clauses-far arity t (c ∷ cs) far =
        let parts = or_parts (clause_asks pair passes c) (list_any (clause_asks pair passes) cs) far in
        ap₂ (λ x y. x || y) (clause-far arity t c parts.0) (clauses-far arity t cs parts.1)

-- so does a predicate that doesn't depend on them, however deep calls go
pub predicate-far : (predicates : List Predicate) (pair : Pair) (depth : ℕ) → Agree pair (depends predicates pair depth) (predicate_true predicates depth)
predicate-far predicates pair zero a n e f same other q t far = refl
predicate-far predicates pair (suc depth) a n e f same other q t far =
    clauses-far pair (depends predicates pair depth) (predicate_true predicates depth) (predicate-far predicates pair depth) a n e f same other
    (predicate_at predicates q).arity t (predicate_at predicates q).clauses far

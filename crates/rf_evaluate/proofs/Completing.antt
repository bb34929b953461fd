-- How a body is completed: a literal is evaluated, or a variable gets an element.
use Rattle.std.proofs.Common.{◌≡◌, ℕ, ◌+◌, ◌<◌, ◌≤◌, Bool, true, false, not, Option, Some, None, List, [], ◌∷◌, length, drop, set, refl, sym, ap, ap₂, ◌∙◌, subst, inl, inr, arith, true≢false, get_or-drop, length-drop, get_or-set_same, get_or-set_other}
use Rattle.std.specs.Prelude.{slice_get, slice_index, slice_index_or, nat_le, nat_lt, ◌&&◌, ◌==◌}
use Rattle.std.proofs.lemmas.Bool.{both_ways, cases_Bool, cases_lt, eqb-true, eq-eqb, le-leb, lt-leb, le-ltb, lt-ltb}
use Rattle.std.proofs.lemmas.List.{get_or_past}
use Rattle.std.specs.List.{list_any}
use Rattle.rf_finite.specs.Range.{some_below}
use Rattle.rf_values.specs.Truth.{conjunction, may, must, negation}
use Rattle.rf_values.specs.declared.truth.Truth.TheVariants.{True, False}
use Rattle.rf_problem.specs.Reading.{Assignment, Reading, assign, call_true, clause_true, is_entry, literal_true, literals_true, some_assignment}
use Rattle.rf_problem.specs.Valid.{is_free}
use Rattle.rf_problem.specs.declared.predicate.Clause.{Clause}
use Rattle.rf_problem.specs.declared.predicate.Literal.{Literal}
use Rattle.rf_problem.specs.declared.predicate.Literal.TheVariants.{Call, Same, Differ}
use Rattle.rf_problem.specs.declared.predicate.Term.{Term}
use Rattle.rf_problem.specs.declared.predicate.Term.TheVariants.{Var, Atom}
use Rattle.rf_problem.specs.declared.symbol.Symbol.{Symbol}
use Rattle.rf_evaluate.specs.Elements.{count, element_at}
use Rattle.rf_evaluate.specs.Evaluating.{AreCandidates, IsRefuted, calls_of, clause_value, completed_value, completed_with, completes, literal_value, pending_true, some_truth, some_unassigned, standing, with_element, without_literal}
use Rattle.rf_evaluate.specs.Known.{Known, side}
use Rattle.rf_evaluate.specs.Terms.{is_unassigned, names_unassigned}
use Rattle.rf_evaluate.specs.declared.elements.Elements.{Elements}
use Rattle.rf_evaluate.specs.declared.stage.Body.{Body}
use Rattle.rf_evaluate.specs.declared.stage.Stage.{Stage}
use Rattle.rf_evaluate.proofs.Candidates.{some_truth-among}
use Rattle.rf_evaluate.proofs.InBoth.{conjunction-False, conjunction-pair, conjunction-truth_of, in_both-same, negation-truth_of, some_truth-same, some_truth-truth_of}
use Rattle.rf_evaluate.proofs.Pending.{pending_true-all, pending_true-none, pending_true-one, pending_true-taken}
use Rattle.rf_evaluate.proofs.Unassigned.{literal-same, some_unassigned-and, some_unassigned-chosen, some_unassigned-drop, some_unassigned-entries, some_unassigned-none}

-- a literal names the same variables as it stands in a body
pub names_unassigned-standing : (unassigned : List Bool) (is_inner : Bool) (l : Literal) → names_unassigned unassigned (standing is_inner l) ≡ names_unassigned unassigned l
names_unassigned-standing unassigned false l = refl
names_unassigned-standing unassigned true (Call negated closure symbol args) = refl
names_unassigned-standing unassigned true (Same a b) = refl
names_unassigned-standing unassigned true (Differ a b) = refl

-- where no variable is unassigned, none is named
list_any-none : (unassigned : List Bool) (terms : List Term) → ((v : ℕ) → slice_index_or unassigned v false ≡ false) → list_any (is_unassigned unassigned) terms ≡ false
list_any-none unassigned [] none = refl
list_any-none unassigned (Var v ∷ terms) none = rw (none v) (list_any-none unassigned terms none)
list_any-none unassigned (Atom o ∷ terms) none = list_any-none unassigned terms none

is_unassigned-none : (unassigned : List Bool) (t : Term) → ((v : ℕ) → slice_index_or unassigned v false ≡ false) → is_unassigned unassigned t ≡ false
is_unassigned-none unassigned (Var v) none = none v
is_unassigned-none unassigned (Atom o) none = refl

names_unassigned-none : (unassigned : List Bool) (l : Literal) → ((v : ℕ) → slice_index_or unassigned v false ≡ false) → names_unassigned unassigned l ≡ false
names_unassigned-none unassigned (Call negated closure symbol args) none = list_any-none unassigned args none
names_unassigned-none unassigned (Same a b) none = rw (is_unassigned-none unassigned a none, is_unassigned-none unassigned b none) refl
names_unassigned-none unassigned (Differ a b) none = rw (is_unassigned-none unassigned a none, is_unassigned-none unassigned b none) refl

-- cells with another element are the assignment with it
slice_index-set : (cells : List ℕ) (v x : ℕ) → v < length cells → slice_index (set cells v x) ≡ assign (slice_index cells) v x
slice_index-set cells v x l = λ j u. each u j
  where
    each : (u : ℕ) → slice_index (set cells v x) u ≡ assign (slice_index cells) v x u
    each u = elim (cases_Bool (u == v)) [
      | inl s ↦ rw (s, eqb-true u v s) (get_or-set_same cells v x 0 l)
      | inr s ↦ rw s (get_or-set_other cells v u x 0 (λ e. both_ways (u == v) s (eq-eqb u v e)))
    ]

-- a number that is marked has a mark
pub marked-within : (marks : List Bool) (v : ℕ) → slice_index_or marks v false ≡ true → v < length marks
marked-within marks v own = elim (cases_lt v (length marks)) [
  | inl l ↦ l
  | inr g ↦ absurd (true≢false (sym own ∙ get_or_past marks v false g))
]

-- a literal that names no unassigned variable is taken out
pub completed-evaluated : (k : Known) (b : Body) (s : Stage) (i : ℕ) (l : Literal) → i < length s.pending → slice_index_or s.pending i false ≡ true
    → slice_get b.literals.now i ≡ Some l → names_unassigned s.unassigned l ≡ false
    → completed_value k b s ≡ conjunction (literal_value k b i l (slice_index s.elements)) (completed_value k b (without_literal s i))
completed-evaluated k b s i l within own at none =
    in_both-same k (completes k b s) (λ here inside. own_says here inside (slice_index s.elements) && completes k b (without_literal s i) here inside) each
    ∙ sym (conjunction-truth_of _ _ _ _)
  where
    own_says : Reading → Reading → Assignment → Bool
    own_says here inside a = literal_true (calls_of k) here inside b.variables.now i a (standing b.is_inner l)

    each : (here inside : Reading) → completes k b s here inside ≡ (own_says here inside (slice_index s.elements) && completes k b (without_literal s i) here inside)
    each here inside =
        ap (λ (test : Assignment → Bool). some_unassigned here s.unassigned 0 (slice_index s.elements) test)
        (λ j a. pending_true-taken (calls_of k) here inside b.variables.now b.is_inner a b.literals.now i s.pending l at own within j)
        ∙ some_unassigned-and here s.unassigned s.unassigned 0 (slice_index s.elements) (own_says here inside)
        (λ a. pending_true (calls_of k) here inside b.variables.now b.is_inner (set s.pending i false) 0 a b.literals.now)
        (λ v h. let z : v ≡ 0 + v = omega arith in subst (λ u. slice_index_or s.unassigned u false ≡ true) z h)
        (literal-same s.unassigned (calls_of k) here inside b.variables.now i (standing b.is_inner l) (names_unassigned-standing s.unassigned b.is_inner l ∙ none))

-- an unassigned variable has one of all elements
pub completed-chosen : (k : Known) (b : Body) (s : Stage) (v : ℕ) → length s.unassigned ≤ length s.elements → slice_index_or s.unassigned v false ≡ true
    → completed_value k b s ≡ some_truth k.size (completed_with k b s v)
completed-chosen k b s v few own =
    in_both-same k (completes k b s) (λ here inside. some_below here.size (λ x. here.present x && completes k b (with_element s v x) here inside)) each
    ∙ sym (some_truth-truth_of k.size (λ x. must (k.presence x) && completes k b (with_element s v x) (side must k) (side may k))
    (λ x. may (k.presence x) && completes k b (with_element s v x) (side may k) (side must k)))
    ∙ some_truth-same k.size _ (completed_with k b s v) (λ x l. sym (conjunction-pair (k.presence x) _ _))
  where
    within : v < length s.elements
    within = let l = marked-within s.unassigned v own in omega arith

    each : (here inside : Reading) → completes k b s here inside ≡ some_below here.size (λ x. here.present x && completes k b (with_element s v x) here inside)
    each here inside =
        some_unassigned-chosen here s.unassigned 0 v (slice_index s.elements) (λ a. pending_true (calls_of k) here inside b.variables.now b.is_inner s.pending 0 a b.literals.now) own
        ∙ ap (λ (p : ℕ → Bool). some_below here.size (λ x. here.present x && p x))
        (λ j x. ap (λ (a : Assignment). some_unassigned here (set s.unassigned v false) 0 a
        (λ c. pending_true (calls_of k) here inside b.variables.now b.is_inner s.pending 0 c b.literals.now)) (cells x) j)
      where
        cells : (x : ℕ) → assign (slice_index s.elements) (0 + v) x ≡ slice_index (set s.elements v x)
        cells x = let z : 0 + v ≡ v = omega arith in ap (λ u. assign (slice_index s.elements) u x) z ∙ sym (slice_index-set s.elements v x within)

-- where no variable is unassigned and no literal is left, nothing is
pub completed-done : (k : Known) (b : Body) (s : Stage) → ((v : ℕ) → slice_index_or s.unassigned v false ≡ false)
    → ((i : ℕ) (l : Literal) → slice_get b.literals.now i ≡ Some l → slice_index_or s.pending i false ≡ true → names_unassigned s.unassigned l ≡ true)
    → completed_value k b s ≡ True
completed-done k b s none left =
    in_both-same k (completes k b s) (λ here inside. true) (λ here inside.
    some_unassigned-none here s.unassigned 0 (slice_index s.elements) (λ a. pending_true (calls_of k) here inside b.variables.now b.is_inner s.pending 0 a b.literals.now) none
    ∙ pending_true-none (calls_of k) here inside b.variables.now b.is_inner (slice_index s.elements) b.literals.now 0 s.pending gone)
  where
    gone : (i : ℕ) (l : Literal) → slice_get b.literals.now i ≡ Some l → slice_index_or s.pending (0 + i) false ≡ false
    gone i l at = elim (cases_Bool (slice_index_or s.pending i false)) [
      | inl t ↦ absurd (true≢false (sym (left i l at t) ∙ names_unassigned-none s.unassigned l none))
      | inr f ↦ (let z : i ≡ 0 + i = omega arith in subst (λ j. slice_index_or s.pending j false ≡ false) z f)
    ]

-- a negated literal says that what stands inside its negation can't be completed
pub literal-negated : (k : Known) (b inner : Body) (s : Stage) (i : ℕ) (closure : Bool) (symbol : Symbol) (args : List Term) (assignment : Assignment)
    → b.is_inner ≡ false → inner.is_inner ≡ true → inner.variables.now ≡ b.variables.now → inner.literals.now ≡ b.literals.now
    → slice_get b.literals.now i ≡ Some (Call true closure symbol args) → length b.variables.now ≤ length s.unassigned
    → slice_index s.elements ≡ assignment → ((v : ℕ) → slice_index_or s.unassigned v false ≡ is_entry i (slice_index_or b.variables.now v None))
    → ((j : ℕ) → slice_index_or s.pending j false ≡ (j == i))
    → literal_value k b i (Call true closure symbol args) assignment ≡ negation (completed_value k inner s)
literal-negated k b inner s i closure symbol args assignment outer within variables literals at few cells ranging pending =
    in_both-same k (λ here inside. literal_true (calls_of k) here inside b.variables.now i assignment (standing b.is_inner (Call true closure symbol args)))
    (λ here inside. not (completes k inner s inside here)) each
    ∙ sym (negation-truth_of _ _)
  where
    there : slice_get inner.literals.now i ≡ Some (Call true closure symbol args)
    there = ap (λ (ls : List Literal). slice_get ls i) literals ∙ at

    past : (v : ℕ) → length b.variables.now ≤ v → slice_index_or s.unassigned v false ≡ false
    past v g = ranging v ∙ ap (is_entry i) (get_or_past b.variables.now v None g)

    positive : (here inside : Reading) (a : Assignment)
        → pending_true (calls_of k) inside here inner.variables.now inner.is_inner s.pending 0 a inner.literals.now ≡ call_true (calls_of k) inside here closure symbol a args
    positive here inside a =
        pending_true-one (calls_of k) inside here inner.variables.now inner.is_inner a inner.literals.now i s.pending (Call true closure symbol args) there pending
        ∙ ap (λ (z : Bool). literal_true (calls_of k) inside here inner.variables.now i a (standing z (Call true closure symbol args))) within

    each : (here inside : Reading) → literal_true (calls_of k) here inside b.variables.now i assignment (standing b.is_inner (Call true closure symbol args))
        ≡ not (completes k inner s inside here)
    each here inside =
        ap (λ (z : Bool). literal_true (calls_of k) here inside b.variables.now i assignment (standing z (Call true closure symbol args))) outer
        ∙ ap not (sym (
        ap (λ (test : Assignment → Bool). some_unassigned inside s.unassigned 0 (slice_index s.elements) test) (λ j a. positive here inside a j)
        ∙ some_unassigned-entries inside (is_entry i) b.variables.now s.unassigned 0 (slice_index s.elements) (λ a. call_true (calls_of k) inside here closure symbol a args) (λ v l. ranging v) past
        ∙ ap (λ (a : Assignment). some_assignment inside (is_entry i) b.variables.now 0 a (λ chosen. call_true (calls_of k) inside here closure symbol chosen args)) cells))

-- a clause says that its literals can be completed from the elements of its parameters
pub clause-completed : (k : Known) (b : Body) (s : Stage) (arity : ℕ) (t : List ℕ) (c : Clause)
    → b.is_inner ≡ false → b.variables.now ≡ c.variables → b.literals.now ≡ c.literals → length c.variables ≤ length s.unassigned
    → slice_index s.elements ≡ slice_index t
    → ((v : ℕ) → slice_index_or s.unassigned v false ≡ (nat_le arity v && (nat_lt v (length c.variables) && is_free (slice_index_or c.variables v None))))
    → ((i : ℕ) → i < length c.literals → slice_index_or s.pending i false ≡ true)
    → clause_value k arity t c ≡ completed_value k b s
clause-completed k b s arity t c outer variables literals few cells ranging pending =
    in_both-same k (λ here inside. clause_true (calls_of k) here inside arity t c) (completes k b s) (λ here inside. sym (each here inside))
  where
    before : (v : ℕ) → v < arity → slice_index_or s.unassigned v false ≡ false
    before v l = ranging v ∙ (let e = lt-leb arity v l in rw e refl)

    entries : (v : ℕ) → v < length (drop arity c.variables) → slice_index_or (drop arity s.unassigned) v false ≡ is_free (slice_index_or (drop arity c.variables) v None)
    entries v l =
        let n = length-drop arity c.variables in
        let above = le-leb arity (arity + v) (omega arith) in
        let below = lt-ltb (arity + v) (length c.variables) (omega arith) in
        get_or-drop arity s.unassigned v false
        ∙ ranging (arity + v)
        ∙ ap₂ (λ (y z : Bool). y && (z && is_free (slice_index_or c.variables (arity + v) None))) above below
        ∙ ap is_free (sym (get_or-drop arity c.variables v None))

    past : (v : ℕ) → length (drop arity c.variables) ≤ v → slice_index_or (drop arity s.unassigned) v false ≡ false
    past v g =
        let n = length-drop arity c.variables in
        let above = le-leb arity (arity + v) (omega arith) in
        let beyond = le-ltb (arity + v) (length c.variables) (omega arith) in
        get_or-drop arity s.unassigned v false
        ∙ ranging (arity + v)
        ∙ ap₂ (λ (y z : Bool). y && (z && is_free (slice_index_or c.variables (arity + v) None))) above beyond

    says : (here inside : Reading) (a : Assignment) → pending_true (calls_of k) here inside b.variables.now b.is_inner s.pending 0 a b.literals.now
        ≡ literals_true (calls_of k) here inside c.variables 0 a c.literals
    says here inside a =
        ap₂ (λ (vs : List (Option ℕ)) (ls : List Literal). pending_true (calls_of k) here inside vs b.is_inner s.pending 0 a ls) variables literals
        ∙ ap (λ (z : Bool). pending_true (calls_of k) here inside c.variables z s.pending 0 a c.literals) outer
        ∙ pending_true-all (calls_of k) here inside c.variables a c.literals 0 s.pending
        (λ i l. let z : i ≡ 0 + i = omega arith in subst (λ j. slice_index_or s.pending j false ≡ true) z (pending i l))

    each : (here inside : Reading) → completes k b s here inside ≡ clause_true (calls_of k) here inside arity t c
    each here inside =
        ap₂ (λ (a : Assignment) (test : Assignment → Bool). some_unassigned here s.unassigned 0 a test) cells (λ j a. says here inside a j)
        ∙ some_unassigned-drop here arity s.unassigned 0 (slice_index t) (λ a. literals_true (calls_of k) here inside c.variables 0 a c.literals) before
        ∙ (let z : arity + 0 ≡ arity = omega arith in
        ap (λ v. some_unassigned here (drop arity s.unassigned) v (slice_index t) (λ a. literals_true (calls_of k) here inside c.variables 0 a c.literals)) z)
        ∙ some_unassigned-entries here is_free (drop arity c.variables) (drop arity s.unassigned) arity (slice_index t)
        (λ a. literals_true (calls_of k) here inside c.variables 0 a c.literals) entries past

-- a body can't be completed where a literal is refuted
pub completed-refuted : (k : Known) (b : Body) (s : Stage) → IsRefuted k b s → completed_value k b s ≡ False
completed-refuted k b s r =
    completed-evaluated k b s r.place r.literal (marked-within s.pending r.place r.pending) r.pending r.there r.ground
    ∙ ap (λ own. conjunction own (completed_value k b (without_literal s r.place))) r.refuted

-- one of all elements completes the body where one of the candidates does
pub some_truth-candidates : (k : Known) (b : Body) (s : Stage) (v : ℕ) (elements : Elements) → AreCandidates k b s v elements
    → some_truth k.size (completed_with k b s v) ≡ some_truth (count elements) (λ n. completed_with k b s v (element_at elements n))
some_truth-candidates k b s v elements are =
    some_truth-among k.size (completed_with k b s v) elements are.below (λ x l off.
    ap (λ value. conjunction (k.presence x) value) (completed-refuted k b (with_element s v x) (are.others x l off)) ∙ conjunction-False (k.presence x))

-- One step of completing a body, and of its literals.
use Rattle.std.proofs.Common.{◌≡◌, ℕ, ◌+◌, ◌<◌, ◌≤◌, Bool, true, false, Option, Some, None, List, length, get_or, sym, ap, ◌∙◌, subst, inl, inr, arith, max, eqb, All, slice_set, true≢false}
use Rattle.std.specs.Prelude.{◌&&◌, nat_le, nat_lt, slice_get, slice_index, slice_index_or}
use Rattle.std.proofs.lemmas.Bool.{cases_Bool, cases_lt, eq-eqb, eqb-true}
use Rattle.std.proofs.lemmas.Grind.{get_or-set_at}
use Rattle.std.proofs.lemmas.List.{get_or-set_other, get_or_past, length-set}
use Rattle.std.proofs.lemmas.Option.{get_or_from_slice_get, slice_get-get_or}
use Rattle.rf_problem.specs.Valid.{is_free}
use Rattle.rf_problem.specs.declared.predicate.Literal.{Literal}
use Rattle.rf_problem.specs.declared.predicate.Literal.TheVariants.{Same}
use Rattle.rf_problem.specs.declared.predicate.Term.TheVariants.{Var}
use Rattle.rf_values.specs.Truth.{conjunction, disjunction}
use Rattle.rf_values.specs.declared.truth.Truth.{Truth}
use Rattle.rf_values.specs.declared.truth.Truth.TheVariants.{True}
use Rattle.rf_evaluate.specs.Elements.{count, element_at}
use Rattle.rf_problem.specs.declared.predicate.Clause.{Clause}
use Rattle.rf_evaluate.specs.Evaluating.{AreCandidates, AreSound, IsSoundBody, IsSoundClause, completed_value, completed_with, literal_value, some_truth, without_literal}
use Rattle.rf_evaluate.specs.Known.{Known}
use Rattle.rf_evaluate.specs.Terms.{AreElements, names_unassigned}
use Rattle.rf_evaluate.specs.declared.elements.Elements.{Elements}
use Rattle.rf_evaluate.specs.declared.stage.Body.{Body}
use Rattle.rf_evaluate.specs.declared.stage.Stage.{Stage}
use Rattle.rf_evaluate.proofs.EvaluationSymbols.{IsClausesLeft, IsClausesLeft-next}
use Rattle.rf_evaluate.proofs.Completing.{clause-completed, completed-chosen, completed-evaluated, marked-within, some_truth-candidates}
use Rattle.rf_evaluate.proofs.EvaluationTruths.{some_truth-found}

-- a literal's value, together with what is left
pub completed-literal : (k : Known) (b : Body) (s : Stage) (i : ℕ) (value : Truth) → i < length b.literals.now → slice_index_or s.pending i false ≡ true
    → ((l : Literal) → slice_get b.literals.now i ≡ Some l → names_unassigned s.unassigned l ≡ false)
    → ((l : Literal) → slice_get b.literals.now i ≡ Some l → value ≡ literal_value k b i l (slice_index s.elements))
    → completed_value k b s ≡ conjunction value (completed_value k b (without_literal s i))
completed-literal k b s i value l pending ground is =
    let none = Same (Var 0) (Var 0) in
    let there = slice_get-get_or b.literals.now i none l in
    completed-evaluated k b s i (get_or b.literals.now i none) (marked-within s.pending i pending) pending there (ground (get_or b.literals.now i none) there)
    ∙ ap (λ (v : Truth). conjunction v (completed_value k b (without_literal s i))) (sym (is (get_or b.literals.now i none) there))

-- one of the candidates for a variable, found one by one
module _ (k : Known) (b : Body) (s : Stage) (v : ℕ) (elements : Elements) (few : length s.unassigned ≤ length s.elements) (candidates : AreCandidates k b s v elements) where
  completed-candidates : completed_value k b s ≡ some_truth (count elements) (λ i. completed_with k b s v (element_at elements i))
  completed-candidates = completed-chosen k b s v few candidates.unassigned ∙ some_truth-candidates k b s v elements candidates

  pub completed-found : (n : ℕ) (found : Truth) → n ≤ count elements → found ≡ True → found ≡ some_truth n (λ i. completed_with k b s v (element_at elements i))
      → found ≡ completed_value k b s
  completed-found n found l e so_far =
      e ∙ sym (completed-candidates ∙ some_truth-found n (count elements) (λ i. completed_with k b s v (element_at elements i)) l (sym so_far ∙ e))

  pub completed-ended : (n : ℕ) (found : Truth) → count elements ≡ n → found ≡ some_truth n (λ i. completed_with k b s v (element_at elements i))
      → found ≡ completed_value k b s
  completed-ended n found e so_far =
      so_far ∙ (ap (λ (m : ℕ). some_truth m (λ i. completed_with k b s v (element_at elements i))) (sym e) ∙ sym completed-candidates)

-- what is listed at one place is one
pub same_listed : {X : Type 0} (xs : List X) (i : ℕ) (x y : X) → slice_get xs i ≡ Some x → slice_get xs i ≡ Some y → x ≡ y
same_listed xs i x y e h = sym (get_or_from_slice_get xs i x x e) ∙ get_or_from_slice_get xs i y x h

-- marks of eight variables, none of which is set
pub none_marked : (marks : List Bool) → length marks ≤ 8 → ((v : ℕ) → v < 8 → slice_index_or marks v false ≡ false) → (v : ℕ) → slice_index_or marks v false ≡ false
none_marked marks few none v = elim (cases_lt v 8) [ inl l ↦ none v l | inr g ↦ get_or_past marks v false (omega arith) ]

-- elements with another one among them
pub AreElements-set : (cells : List ℕ) (n v x : ℕ) → x < n → AreElements n cells → AreElements n (slice_set cells v x)
AreElements-set cells n v x l h k = elim (cases_Bool (eqb k v)) [
  | inl t ↦ elim (cases_lt v (length cells)) [
    | inl within ↦ subst (λ (y : ℕ). y < max 1 n) (sym (get_or-set_at cells v k x 0 (eqb-true k v t) within)) (omega arith)
    | inr past ↦ (let q = eqb-true k v t in
        subst (λ (y : ℕ). y < max 1 n) (sym (get_or_past (slice_set cells v x) k 0 (let same : length (slice_set cells v x) ≡ length cells = length-set cells v x in omega arith))) (omega arith))
  ]
  | inr f ↦ subst (λ (y : ℕ). y < max 1 n) (sym (get_or-set_other cells v k x 0 (λ e. true≢false (sym (eq-eqb k v e) ∙ f)))) (h k)
]

-- the body of a well-formed clause
pub IsSoundBody-of_clause : (k : Known) (depth : ℕ) (clauses : List Clause) (i : ℕ) (c : Clause) (b : Body) → All (IsSoundClause k depth) clauses → i < length clauses → c ≡ get_or clauses i c
    → b.variables.now ≡ c.variables → b.literals.now ≡ c.literals → b.depth ≡ depth → IsSoundBody k b
IsSoundBody-of_clause k depth clauses i c b all l e variables literals deep =
    let one : IsSoundClause k depth c = subst (IsSoundClause k depth) (sym e) (all i c l) in
    subst (λ (d : ℕ). AreSound k.problem d b.variables.now b.literals.now) (sym deep)
    (subst (λ (vs : List (Option ℕ)). AreSound k.problem depth vs b.literals.now) (sym variables)
    (subst (λ (ls : List Literal). AreSound k.problem depth c.variables ls) (sym literals) one))

-- a loop through clauses, with the value of one more, whose body was completed
pub IsClausesLeft-body : (k : Known) (depth arity : ℕ) (t : List ℕ) (clauses : List Clause) (i : ℕ) (c : Clause) (b : Body) (s : Stage) (found value next : Truth)
    → All (IsSoundClause k depth) clauses → i < length clauses → c ≡ get_or clauses i c → b.is_inner ≡ false → b.variables.now ≡ c.variables → b.literals.now ≡ c.literals
    → length s.unassigned ≡ 8 → s.elements ≡ t
    → ((v : ℕ) → slice_index_or s.unassigned v false ≡ (nat_le arity v && (nat_lt v (length b.variables.now) && is_free (slice_index_or b.variables.now v None))))
    → ((j : ℕ) → j < length b.literals.now → slice_index_or s.pending j false ≡ true)
    → value ≡ completed_value k b s → next ≡ disjunction found value → IsClausesLeft k arity t clauses i found → IsClausesLeft k arity t clauses (i + 1) next
IsClausesLeft-body k depth arity t clauses i c b s found value next all l e outer variables literals eight cells ranging pending is more so_far =
    let few : length c.variables ≤ 8 = subst (λ (d : Clause). length d.variables ≤ 8) (sym e) (all i c l).few_variables in
    let room : length c.variables ≤ length s.unassigned = omega arith in
    let says = clause-completed k b s arity t c outer variables literals room (ap slice_index cells) (rw variables at ranging) (rw literals at pending) in
    subst (IsClausesLeft k arity t clauses (i + 1)) (sym more) (IsClausesLeft-next k arity t clauses i c found value l e so_far (is ∙ sym says))

-- What was counted of the nodes of an object says whether it is satisfied.
use Rattle.std.proofs.Common.{◌≡◌, ℕ, ◌<◌, Bool, true, false, not, ◌&&◌, ◌||◌, eqb, List, length, get_or, refl, sym, ap, ◌∙◌, inl, inr}
use Rattle.std.proofs.lemmas.Bool.{cases_eq, ne_eqb}
use Rattle.rf_finite.proofs.Range.{some_below-same}
use Rattle.rf_graph.specs.First.{has_stranger, may_come_from}
use Rattle.rf_graph.specs.Graph.{origin_of, size_of}
use Rattle.rf_graph.specs.Violations.{nodes_from}
use Rattle.rf_graph.specs.declared.graph.Graph.{Graph}
use Rattle.rf_problem.specs.Asserted.{admitted}
use Rattle.rf_problem.specs.declared.problem.Problem.{Problem}
use Rattle.rf_values.specs.Count.{contains}
use Rattle.rf_satisfy.specs.Objects.{CountsNodes, is_native}

not_both : (a s : Bool) → (not a || s) ≡ not (a && not s)
not_both true true = refl
not_both true false = refl
not_both false s = refl

-- a stranger among the nodes of an object is one whose object may not have its class
stranger-is : (p : Problem) (g : Graph) (o x : ℕ) → (eqb (origin_of g x) o && not (is_native p g x)) ≡ (eqb (origin_of g x) o && not (may_come_from p g o x))
stranger-is p g o x = elim (cases_eq (origin_of g x) o) [
  | inl e ↦ ap (λ q. eqb (origin_of g x) o && not (may_come_from p g q x)) e
  | inr ne ↦ (let f = ne_eqb (origin_of g x) o ne in ap (λ b. b && not (is_native p g x)) f ∙ sym (ap (λ b. b && not (may_come_from p g o x)) f))
]

pub satisfied-test : (p : Problem) (g : Graph) (counts : List ℕ) (strange : List Bool) (o : ℕ) (satisfied : Bool) → CountsNodes p g (size_of g) counts strange → o < length counts → o < length strange
    → satisfied ≡ (contains (admitted p o) (get_or counts o 0) && not (get_or strange o false))
    → (not (contains (admitted p o) (nodes_from g o)) || has_stranger p g o) ≡ not satisfied
satisfied-test p g counts strange o satisfied h l m e =
    ap (λ n. not (contains (admitted p o) n) || has_stranger p g o) (sym (h.counted o l))
    ∙ ap (λ s. not (contains (admitted p o) (get_or counts o 0)) || s) (sym (h.strangers o m ∙ some_below-same (size_of g) _ _ (λ x a. stranger-is p g o x)))
    ∙ not_both (contains (admitted p o) (get_or counts o 0)) (get_or strange o false)
    ∙ sym (ap not e)

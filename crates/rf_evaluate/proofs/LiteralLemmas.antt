-- A literal of a clause of a problem, evaluated by itself.
use Rattle.std.proofs.Common.{◌≡◌, ℕ, ◌-◌, ◌<◌, Bool, false, Option, Some, List, length, get_or, sym, ap, ap₂, ◌∙◌, subst}
use Rattle.std.specs.Prelude.{slice_get}
use Rattle.std.proofs.lemmas.List.{get_or_default}
use Rattle.std.proofs.lemmas.Option.{slice_get-get_or}
use Rattle.rf_problem.proofs.Depth.{call_rank-below}
use Rattle.rf_problem.specs.Parts.{predicate_at}
use Rattle.rf_problem.specs.Reading.{Assignment, literal_true}
use Rattle.rf_problem.specs.declared.predicate.Clause.{Clause}
use Rattle.rf_problem.specs.declared.predicate.Literal.{Literal}
use Rattle.rf_problem.specs.declared.predicate.Literal.TheVariants.{Same}
use Rattle.rf_problem.specs.declared.predicate.Predicate.{Predicate}
use Rattle.rf_problem.specs.declared.predicate.Term.TheVariants.{Var}
use Rattle.rf_problem.specs.declared.problem.Problem.{Problem}
use Rattle.rf_evaluate.specs.Evaluating.{AreSound, IsSoundBody, calls_of, literal_value, standing}
use Rattle.rf_evaluate.specs.Known.{Known, in_both}
use Rattle.rf_evaluate.specs.Literals.{clause_at, literal_at, literal_known, no_clause}
use Rattle.rf_evaluate.specs.declared.stage.Body.{Body}
use Rattle.rf_evaluate.proofs.EvaluationSymbols.{IsSoundClause-from_problem}

-- the clause that stands at a place of a predicate's
pub clause_at-index : (p own : Problem) (q i : ℕ) (predicate : Predicate) (clauses : List Clause) (c : Clause) → own ≡ p → predicate ≡ predicate_at own.predicates q
    → clauses ≡ predicate.clauses → i < length (predicate_at p.predicates q).clauses → c ≡ get_or clauses i c → c ≡ clause_at p q i
clause_at-index p own q i predicate clauses c problem of listed l is =
    let all : clauses ≡ (predicate_at p.predicates q).clauses = listed ∙ ap (λ (d : Predicate). d.clauses) (of ∙ ap (λ (x : Problem). predicate_at x.predicates q) problem) in
    is ∙ ap (λ (cs : List Clause). get_or cs i c) all ∙ get_or_default (predicate_at p.predicates q).clauses i c no_clause l

module _ (k : Known) (q i : ℕ) (b : Body) (variables : b.variables.now ≡ (clause_at k.problem q i).variables) (literals : b.literals.now ≡ (clause_at k.problem q i).literals) where
  -- its body is well-formed
  pub IsSoundBody-clause_at : q < length k.problem.predicates → i < length (predicate_at k.problem.predicates q).clauses → b.depth ≡ length k.problem.predicates - 1 → IsSoundBody k b
  IsSoundBody-clause_at lq li depth =
      let p = k.problem in
      let rank = call_rank-below p.classes p.references p.objects p.predicates p.predicates_fit q lq in
      let one = IsSoundClause-from_problem k (length p.predicates) q lq rank i no_clause li in
      subst (λ (d : ℕ). AreSound p d b.variables.now b.literals.now) (sym depth)
      (subst (λ (vs : List (Option ℕ)). AreSound p (length p.predicates - 1) vs b.literals.now) (sym variables)
      (subst (λ (ls : List Literal). AreSound p (length p.predicates - 1) (clause_at p q i).variables ls) (sym literals) one))

  -- what is found of a literal of it
  pub literal_known-body : (j : ℕ) (assignment : Assignment) → b.is_inner ≡ false → j < length (clause_at k.problem q i).literals
      → (slice_get b.literals.now j ≡ Some (literal_at (clause_at k.problem q i) j))
      × (literal_value k b j (literal_at (clause_at k.problem q i) j) assignment
      ≡ literal_known k (clause_at k.problem q i).variables j assignment (literal_at (clause_at k.problem q i) j))
  literal_known-body j assignment outer l =
      let c = clause_at k.problem q i in (
        ap (λ (ls : List Literal). slice_get ls j) literals ∙ slice_get-get_or c.literals j (Same (Var 0) (Var 0)) l,
        ap₂ (λ (vs : List (Option ℕ)) (inner : Bool). in_both k (λ here inside. literal_true (calls_of k) here inside vs j assignment (standing inner (literal_at c j)))) variables outer,
      )

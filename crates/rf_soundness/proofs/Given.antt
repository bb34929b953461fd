-- What is given for the variables that range over a clause.
use Rattle.std.proofs.Common.{◌≡◌, ℕ, zero, suc, ◌≤◌, ◌<◌, true, Option, Some, None, List, [], ◌∷◌, length, get_or, take, refl, sym, arith, true≢false}
use Rattle.std.specs.List.{list_all}
use Rattle.rf_finite.proofs.Range.{None-ne_Some}
use Rattle.rf_problem.specs.Valid.{is_free}
use Rattle.rf_problem.proofs.Fitting.{IsFree}
use Rattle.rf_graph.specs.declared.graph.Graph.{Graph}
use Rattle.rf_rules.specs.Predicates.{free_count, given}
use Rattle.rf_placement.specs.Placement.{IsNodeOf, Placing}
use Rattle.rf_soundness.proofs.NodesOfTuples.{AreNodesOf}

free_later : (e : Option ℕ) (vs : List (Option ℕ)) (u : ℕ) → IsFree vs u → IsFree (e ∷ vs) (suc u)
free_later e vs u k = (let l = k.0 in omega arith, k.1)

free_rest : (e : Option ℕ) (vs : List (Option ℕ)) (u : ℕ) → IsFree (e ∷ vs) (suc u) → IsFree vs u
free_rest e vs u k = (let l = k.0 in omega arith, k.1)

-- the number 0 is given for the others
pub given_none : (vs : List (Option ℕ)) (t : List ℕ) (u : ℕ) → (IsFree vs u → ⊥) → given vs t u ≡ 0
given_none [] t u f = refl
given_none (Some i ∷ vs) t zero f = refl
given_none (Some i ∷ vs) t (suc u) f = given_none vs t u (λ k. f (free_later (Some i) vs u k))
given_none (None ∷ vs) [] u f = refl
given_none (None ∷ vs) (o ∷ t) zero f = absurd (f (omega arith, refl))
given_none (None ∷ vs) (o ∷ t) (suc u) f = given_none vs t u (λ k. f (free_later None vs u k))

-- nodes of the objects that are given
pub given_nodes : (g : Graph) (h : Placing) (vs : List (Option ℕ)) (t xs : List ℕ) → AreNodesOf g h t xs
    → length t ≡ free_count vs → (u : ℕ) → IsFree vs u
    → IsNodeOf g h (given vs t u) (given vs xs u)
given_nodes g h [] t xs a len u f = let l = f.0 in absurd (omega arith)
given_nodes g h (Some i ∷ vs) t xs a len zero f = absurd (None-ne_Some (sym f.1))
given_nodes g h (Some i ∷ vs) t xs a len (suc u) f = given_nodes g h vs t xs a len u (free_rest (Some i) vs u f)
given_nodes g h (None ∷ vs) [] xs a len u f = absurd (omega arith)
given_nodes g h (None ∷ vs) (o ∷ t) [] a len u f = absurd a
given_nodes g h (None ∷ vs) (o ∷ t) (x ∷ xs) a len zero f = a.0
given_nodes g h (None ∷ vs) (o ∷ t) (x ∷ xs) a len (suc u) f = given_nodes g h vs t xs a.1 (omega arith) u (free_rest None vs u f)

-- a parameter ranges over the clause, and the object of its number is given for it
pub given_parameter : (vs : List (Option ℕ)) (t : List ℕ) (arity i : ℕ) → list_all is_free (take arity vs) ≡ true
    → arity ≤ length vs → length t ≡ free_count vs → i < arity
    → IsFree vs i × (i < length t) × (given vs t i ≡ get_or t i 0)
given_parameter [] t arity i f l len k = absurd (omega arith)
given_parameter (v ∷ vs) t zero i f l len k = absurd (omega arith)
given_parameter (Some j ∷ vs) t (suc arity) i f l len k = absurd (true≢false (sym f))
given_parameter (None ∷ vs) [] (suc arity) i f l len k = absurd (omega arith)
given_parameter (None ∷ vs) (o ∷ t) (suc arity) zero f l len k = ((omega arith, refl), omega arith, refl)
given_parameter (None ∷ vs) (o ∷ t) (suc arity) (suc i) f l len k =
    let r = given_parameter vs t arity i f (omega arith) (omega arith) (omega arith) in let m = r.1 in
    (free_later None vs i r.0, omega arith, r.2)

pub free_is_none : (e : Option ℕ) → is_free e ≡ true → e ≡ None
free_is_none None h = refl
free_is_none (Some i) h = absurd (true≢false (sym h))

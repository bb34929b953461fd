-- What is known of a graph is what holds in it.
use Rattle.std.proofs.Common.{◌≡◌, ◌≢◌, ◌∙◌, ℕ, Bool, true, false, ◌==◌, not, List, [], ◌∷◌, length, Option, refl, sym, ap, ap₂}
use Rattle.std.specs.Bool.{then_some}
use Rattle.std.specs.Cmp.Lexicographic.{slice_cmp}
use Rattle.std.specs.Ordering.{nat_cmp}
use Rattle.std.proofs.lemmas.Bool.{and_parts, and_from, eq-eqb}
use Rattle.rf_finite.specs.Firsts.{IsFirstOf}
use Rattle.rf_finite.specs.Tuples.{IsTuple}
use Rattle.rf_finite.specs.Range.{first_below}
use Rattle.rf_finite.proofs.Firsts.{IsFirstOf-same}
use Rattle.rf_values.specs.Truth.{may, must, truth_of}
use Rattle.rf_values.specs.declared.truth.Truth.{Truth}
use Rattle.rf_values.specs.declared.truth.Truth.TheVariants.{False}
use Rattle.rf_problem.specs.Parts.{arity_of}
use Rattle.rf_problem.specs.Reading.{Reading, predicate_true, symbol_true}
use Rattle.rf_problem.specs.declared.problem.Problem.{Problem}
use Rattle.rf_problem.specs.declared.symbol.Symbol.{Symbol}
use Rattle.rf_problem.specs.declared.symbol.Symbol.TheVariants.{Class, Predicate}
use Rattle.rf_graph.specs.Evaluate.{graph_reading, holds}
use Rattle.rf_graph.specs.Graph.{class_of, has_edge, origin_of, size_of}
use Rattle.rf_graph.specs.declared.graph.Graph.{Graph}
use Rattle.rf_problem.specs.Classes.{is_below}
use Rattle.rf_evaluate.specs.Known.{in_both, side, value_of}
use Rattle.rf_evaluate.specs.Search.{IsFound}
use Rattle.rf_satisfy.specs.GraphKnown.{certain, graph_known}
use Rattle.rf_satisfy.specs.Suspects.{is_denied_at, is_denied_tuple, is_excess}
use Rattle.rf_satisfy.specs.Tuples.{IsFirst}
use Rattle.rf_satisfy.proofs.TupleLemmas.{IsFirst-from_first_passing}

must-certain : (b : Bool) → must (certain b) ≡ b
must-certain true = refl
must-certain false = refl

may-certain : (b : Bool) → may (certain b) ≡ b
may-certain true = refl
may-certain false = refl

module _ (p : Problem) (g : Graph) where
  must-is : side must (graph_known p g) ≡ graph_reading p g
  must-is = λ j. record {
    size = size_of g;
    present = λ x. true;
    has_class = λ k x. must-certain (is_below p.classes (class_of g x) k) j;
    has_edge = λ r x y. must-certain (has_edge g r x y) j;
    is_same = λ x y. must-certain (x == y) j;
    is_different = λ x y. must-certain (not (x == y)) j;
    origin = origin_of g;
  }

  may-is : side may (graph_known p g) ≡ graph_reading p g
  may-is = λ j. record {
    size = size_of g;
    present = λ x. true;
    has_class = λ k x. may-certain (is_below p.classes (class_of g x) k) j;
    has_edge = λ r x y. may-certain (has_edge g r x y) j;
    is_same = λ x y. may-certain (x == y) j;
    is_different = λ x y. may-certain (not (x == y)) j;
    origin = origin_of g;
  }

  -- what is said in both is said in the graph
  in_graph : (says : Reading → Reading → Bool) → in_both (graph_known p g) says ≡ certain (says (graph_reading p g) (graph_reading p g))
  in_graph says = ap₂ truth_of (ap₂ says must-is may-is) (ap₂ says may-is must-is)

  pub value-is : (s : Symbol) (t : List ℕ) → value_of (graph_known p g) s t ≡ certain (holds p g s t)
  value-is s t = in_graph (λ here inside. symbol_true (predicate_true p.predicates (length p.predicates)) here inside s t)

  -- what has to hold does
  pub must-value : (s : Symbol) (t : List ℕ) (v : Truth) → v ≡ value_of (graph_known p g) s t → must v ≡ holds p g s t
  must-value s t v e = ap must (e ∙ value-is s t) ∙ must-certain (holds p g s t)

  not_false : (b : Bool) → certain b ≢ False → b ≡ true
  not_false true ne = refl
  not_false false ne = absurd (ne refl)

  true_not : (b : Bool) → b ≡ true → certain b ≢ False
  true_not true e = λ q. cc
  true_not false e = absurd (let q : false ≡ true = e in cc)

  module _ (q n : ℕ) (arity : n ≡ arity_of p.predicates (Predicate q)) where
    abbrev passes : List ℕ → Bool
    passes t = is_denied_tuple p g (Predicate q) n t

    excess-from_found : (t : List ℕ) → IsFound (graph_known p g) q passes t → is_excess p g (Predicate q) t ≡ true
    excess-from_found t f =
        and_from (holds p g (Predicate q) t) (is_denied_at p g (Predicate q) t)
        (not_false (holds p g (Predicate q) t) (λ e. f.value (value-is (Predicate q) t ∙ e)))
        (and_parts (length t == n) (is_denied_at p g (Predicate q) t) f.passed).1

    found-from_excess : (t : List ℕ) → IsTuple (size_of g) n t → is_excess p g (Predicate q) t ≡ true → IsFound (graph_known p g) q passes t
    found-from_excess t h e =
        let parts = and_parts (holds p g (Predicate q) t) (is_denied_at p g (Predicate q) t) e in
        record {
          tuple = record { many = h.many ∙ arity; below = h.below };
          passed = and_from (length t == n) (is_denied_at p g (Predicate q) t) (eq-eqb (length t) n h.many) parts.1;
          value = λ w. true_not (holds p g (Predicate q) t) parts.0 (sym (value-is (Predicate q) t) ∙ w);
        }

    -- the first that is found is the first at which what is asserted isn't satisfied by the predicate's holding
    pub first-excess : (o : Option (List ℕ)) → IsFirstOf (slice_cmp nat_cmp) (IsFound (graph_known p g) q passes) o → IsFirst (size_of g) n (is_excess p g (Predicate q)) o
    first-excess o h =
        IsFirstOf-same (slice_cmp nat_cmp) (IsFound (graph_known p g) q passes) (λ t. IsTuple (size_of g) n t × (is_excess p g (Predicate q) t ≡ true)) o
        (λ t f. (record { many = f.tuple.many ∙ sym arity; below = f.tuple.below }, excess-from_found t f))
        (λ t e. found-from_excess t e.0 e.1) h

  -- the first node at which it isn't by its having a class
  pub first-node : (c : ℕ) (o : Option (List ℕ)) → o ≡ first_below (size_of g) (λ x. then_some (is_excess p g (Class c) (x ∷ [])) (x ∷ []))
      → IsFirst (size_of g) 1 (is_excess p g (Class c)) o
  first-node c o e = IsFirst-from_first_passing (size_of g) 1 (is_excess p g (Class c)) o e

-- What holds in a graph, computed and in words.
use Rattle.std.proofs.Common.{◌≡◌, ℕ, true, ◌==◌, List, length, refl, sym, ◌∙◌}
use Rattle.std.proofs.lemmas.Bool.{eqb-true, eq-eqb, eqb-false, ne_eqb, not-true, not_from_false}
use Rattle.rf_problem.specs.Holds.{Meaning}
use Rattle.rf_problem.specs.Parts.{arity_of, predicate_at}
use Rattle.rf_problem.specs.declared.problem.Problem.{Problem}
use Rattle.rf_problem.specs.declared.symbol.Symbol.{Symbol}
use Rattle.rf_problem.proofs.Agreements.{Agree, SaysSame}
use Rattle.rf_problem.proofs.Below.{IsBelow-from_is_below, is_below-from_IsBelow}
use Rattle.rf_problem.proofs.Holding.{SymbolHolds-from_symbol_true, symbol_true-from_SymbolHolds}
use Rattle.rf_problem.proofs.Meanings.{SaysItsClauses-by_test, by_test, computed, says-by_test, symbol_says}
use Rattle.rf_graph.specs.Evaluate.{graph_reading, holds}
use Rattle.rf_graph.specs.Graph.{class_of}
use Rattle.rf_graph.specs.Holds.{Holds, IsMeaning, graph_words}
use Rattle.rf_graph.specs.declared.graph.Graph.{Graph}
use Rattle.rf_graph.proofs.Edges.{HasEdge-from_has_edge, has_edge-from_HasEdge}

module _ (p : Problem) (g : Graph) where
  -- the computed reading of a graph says what its words say
  pub graph_agrees : (says : Meaning) → Agree (graph_reading p g) (graph_words p g says)
  graph_agrees says = record {
    present = λ x l e. l;
    within = λ x l. l;
    there = λ x l. refl;
    origins = λ o x. (λ e. e, λ e. e);
    classes = λ k x. (IsBelow-from_is_below p.classes (class_of g x) k, is_below-from_IsBelow p.classes (class_of g x) k);
    edges = λ r x y. (HasEdge-from_has_edge g r x y, has_edge-from_HasEdge g r x y);
    sames = λ x y. (eqb-true x y, eq-eqb x y);
    differs = λ x y. (λ e. eqb-false x y (not-true (x == y) e), λ e. not_from_false (x == y) (ne_eqb x y e));
  }

  -- the meaning that is computed
  abbrev pub computed_meaning : Meaning
  computed_meaning = computed p (graph_reading p g) (graph_reading p g)

  -- it is one
  pub computed_meaning-IsMeaning : IsMeaning p g computed_meaning
  computed_meaning-IsMeaning =
      SaysItsClauses-by_test p (graph_reading p g) (graph_reading p g) (graph_words p g computed_meaning) (graph_words p g computed_meaning)
      (graph_agrees computed_meaning) (graph_agrees computed_meaning) (λ q t e. refl) (λ q t e. refl)

  -- a meaning says what the test does
  meaning-by_test : (says : Meaning) → IsMeaning p g says → (q : ℕ) → SaysSame p.predicates (by_test p) (graph_reading p g) (graph_reading p g) (graph_words p g says) q
  meaning-by_test says meaning =
      says-by_test p (graph_reading p g) (graph_reading p g) (graph_words p g says) (graph_words p g says) (graph_agrees says) (graph_agrees says) meaning meaning

  -- there is one meaning alone
  pub meaning-unique : (says tells : Meaning) → IsMeaning p g says → IsMeaning p g tells → (q : ℕ) (t : List ℕ)
      → length t ≡ (predicate_at p.predicates q).arity → says q t ≡ tells q t
  meaning-unique says tells first second q t e = sym (meaning-by_test says first q t e) ∙ meaning-by_test tells second q t e

  -- a symbol holds where the test says so
  pub Holds-from_holds : (symbol : Symbol) (t : List ℕ) → length t ≡ arity_of p.predicates symbol → holds p g symbol t ≡ true → Holds p g symbol t
  Holds-from_holds symbol t e h = record {
    says = computed_meaning;
    meaning = computed_meaning-IsMeaning;
    symbol_holds = SymbolHolds-from_symbol_true p.predicates (by_test p) (graph_reading p g) (graph_reading p g) (graph_words p g computed_meaning) (graph_agrees computed_meaning)
        symbol (symbol_says p (graph_reading p g) (graph_reading p g) (graph_words p g computed_meaning) (λ q t e. refl) symbol) t e h;
  }

  -- and the test says so where it does
  pub holds-from_Holds : (symbol : Symbol) (t : List ℕ) → length t ≡ arity_of p.predicates symbol → Holds p g symbol t → holds p g symbol t ≡ true
  holds-from_Holds symbol t e h =
      symbol_true-from_SymbolHolds p.predicates (by_test p) (graph_reading p g) (graph_reading p g) (graph_words p g h.says) (graph_agrees h.says)
      symbol (symbol_says p (graph_reading p g) (graph_reading p g) (graph_words p g h.says) (meaning-by_test h.says h.meaning) symbol) t e h.symbol_holds

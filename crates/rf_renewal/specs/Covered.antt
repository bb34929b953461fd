-- When changes cover what is known otherwise than before.
use Rattle.std.specs.Prelude.{◌≡◌, ◌<◌, ◌⊎◌, ℕ, Bool, true, false, List, [], ◌∷◌, Contains}
use Rattle.std.specs.List.{list_all}
use Rattle.rf_finite.specs.Tuples.{IsTuple}
use Rattle.rf_problem.specs.Parts.{predicate_at}
use Rattle.rf_problem.specs.Valid.{has_steps}
use Rattle.rf_problem.specs.declared.predicate.Literal.{Literal}
use Rattle.rf_problem.specs.declared.predicate.Literal.TheVariants.{Call}
use Rattle.rf_problem.specs.declared.problem.Problem.{Problem}
use Rattle.rf_problem.specs.declared.symbol.Symbol.{Symbol}
use Rattle.rf_problem.specs.declared.symbol.Symbol.TheVariants.{Class, Reference, Predicate}
use Rattle.rf_evaluate.specs.Known.{Known, value_of, walk_of}
use Rattle.rf_renewal.specs.Changes.{Changes, may_change, row_may_change}
use Rattle.rf_renewal.specs.Patterns.{match_some}

-- of the same problem and as many elements, each from the same object: what is known of elements and of edges is as
-- it was but for the changes
pub record CoverFacts (was now : Known) (changes : Changes) : Type 0 where
  pub problem : now.problem ≡ was.problem
  pub size : now.size ≡ was.size
  pub origins : (x : ℕ) → x < was.size → now.origin x ≡ was.origin x
  pub presences : (x : ℕ) → x < was.size → (now.presence x ≡ was.presence x) ⊎ Contains changes.presences x
  pub classes : (c x : ℕ) → x < was.size
      → (now.class c x ≡ was.class c x) ⊎ (match_some (changes.tuples (Class c)) (x ∷ []) ≡ true)
  pub edges : (r x y : ℕ) → x < was.size → y < was.size
      → (now.edge r x y ≡ was.edge r x y) ⊎ (match_some (changes.tuples (Reference r)) (x ∷ y ∷ []) ≡ true)
  pub sames : (x y : ℕ) → x < was.size → y < was.size
      → (now.same x y ≡ was.same x y) ⊎ (match_some changes.sames (x ∷ y ∷ []) ≡ true)
  pub differences : (x y : ℕ) → x < was.size → y < was.size
      → (now.different x y ≡ was.different x y) ⊎ (match_some changes.differences (x ∷ y ∷ []) ≡ true)

-- the predicates whose values, and the symbols whose walks, were compared with those before
pub record Done : Type 0 where
  pub predicates : ℕ → Bool
  pub walks : Symbol → Bool

-- whether what a symbol's steps rest on was compared: the values of a predicate
abbrev pub steps_ready : Done → Symbol → Bool
steps_ready done (Predicate q) = done.predicates q
steps_ready done symbol = true

-- whether what a literal asks for was
abbrev pub literal_ready : Done → Literal → Bool
literal_ready done (Call negated false symbol args) = steps_ready done symbol
literal_ready done (Call negated true symbol args) = done.walks symbol
literal_ready done literal = true

-- whether all that a predicate's clauses ask for was
abbrev pub is_ready : Problem → Done → ℕ → Bool
is_ready p done q = list_all (λ c. list_all (literal_ready done) c.literals) (predicate_at p.predicates q).clauses

-- a predicate says the same at a tuple as it did, or the tuple is among the changes
abbrev pub IsValueCovered : Known → Known → Changes → ℕ → List ℕ → Type 0
IsValueCovered was now changes q t =
    (value_of now (Predicate q) t ≡ value_of was (Predicate q) t) ⊎ (match_some (changes.tuples (Predicate q)) t ≡ true)

-- walks lead from one element to another as they did, or the pair is among the changes
abbrev pub IsWalkCovered : Known → Known → Changes → Symbol → ℕ → ℕ → Type 0
IsWalkCovered was now changes symbol x y =
    (walk_of now symbol x y ≡ walk_of was symbol x y) ⊎ (match_some (changes.walks symbol) (x ∷ y ∷ []) ≡ true)

-- what is known is as it was but for the changes: of elements and edges; and, each after what it rests on, what was
-- compared of predicates, at the tuples that the filter lets through, and of walks, from the elements that it lets
-- through
pub record Cover (was now : Known) (changes : Changes) (done : Done) : Type 0 where
  pub facts : CoverFacts was now changes
  pub predicates_ready : (q : ℕ) → done.predicates q ≡ true → is_ready was.problem done q ≡ true
  pub walks_ready : (symbol : Symbol) → done.walks symbol ≡ true → steps_ready done symbol ≡ true
  pub values : (q : ℕ) (t : List ℕ) → done.predicates q ≡ true
      → IsTuple was.size (predicate_at was.problem.predicates q).arity t → may_change was changes q t ≡ true
      → IsValueCovered was now changes q t
  pub walks : (symbol : Symbol) (x y : ℕ) → done.walks symbol ≡ true → has_steps was.problem.predicates symbol ≡ true
      → x < was.size → y < was.size → row_may_change was changes symbol x ≡ true
      → IsWalkCovered was now changes symbol x y

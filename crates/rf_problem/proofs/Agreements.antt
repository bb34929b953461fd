-- Readings and interpretations that say the same.
use Rattle.std.proofs.Common.{◌≡◌, ◌↔◌, ℕ, ◌<◌, true, false, List, length}
use Rattle.rf_problem.specs.Holds.{Interpretation}
use Rattle.rf_problem.specs.Parts.{predicate_at}
use Rattle.rf_problem.specs.Reading.{Calls, Reading}
use Rattle.rf_problem.specs.declared.predicate.Literal.{Literal}
use Rattle.rf_problem.specs.declared.predicate.Literal.TheVariants.{Call}
use Rattle.rf_problem.specs.declared.predicate.Predicate.{Predicate as Definition}
use Rattle.rf_problem.specs.declared.symbol.Symbol.{Symbol}
use Rattle.rf_problem.specs.declared.symbol.Symbol.TheVariants.{Predicate}

-- they say the same of the elements
pub record Agree (here : Reading) (w : Interpretation) : Type 0 where
  pub present : (x : ℕ) → x < here.size → here.present x ≡ true → w.IsPresent x
  pub within : (x : ℕ) → w.IsPresent x → x < here.size
  pub there : (x : ℕ) → w.IsPresent x → here.present x ≡ true
  pub origins : (o x : ℕ) → (here.origin x ≡ o) ↔ w.ComesFrom o x
  pub classes : (k x : ℕ) → (here.has_class k x ≡ true) ↔ w.HasClass k x
  pub edges : (r x y : ℕ) → (here.has_edge r x y ≡ true) ↔ w.HasEdge r x y
  pub sames : (x y : ℕ) → (here.is_same x y ≡ true) ↔ w.AreSame x y
  pub differs : (x y : ℕ) → (here.is_different x y ≡ true) ↔ w.AreDifferent x y

-- they say the same of a predicate, at tuples of as many elements as it has parameters
abbrev pub SaysSame : List Definition → Calls → Reading → Reading → Interpretation → ℕ → Type 0
SaysSame predicates calls here inside w q = (t : List ℕ) → length t ≡ (predicate_at predicates q).arity → calls here inside q t ≡ w.says q t

-- of a symbol, where it is a predicate
abbrev pub SymbolSays : List Definition → Calls → Reading → Reading → Interpretation → Symbol → Type 0
SymbolSays predicates calls here inside w (Predicate q) = SaysSame predicates calls here inside w q
SymbolSays predicates calls here inside w _ = Unit {0}

-- of what a literal calls
abbrev pub LiteralSays : List Definition → Calls → Reading → Reading → Interpretation → Interpretation → Literal → Type 0
LiteralSays predicates calls here inside out inn (Call false closure symbol args) = SymbolSays predicates calls here inside out symbol
LiteralSays predicates calls here inside out inn (Call true closure symbol args) = SymbolSays predicates calls inside here inn symbol
LiteralSays predicates calls here inside out inn _ = Unit {0}

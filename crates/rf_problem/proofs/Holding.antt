-- Symbols and atoms, computed and in words.
use Rattle.std.proofs.Common.{◌≡◌, ℕ, Bool, true, false, List, [], ◌∷◌, length, refl, sym, ◌∙◌, arith, true≢false}
use Rattle.std.proofs.lemmas.Bool.{eqb-true}
use Rattle.rf_finite.specs.Walks.{IsWalk}
use Rattle.rf_finite.proofs.Walks.{IsReachable-from_walk_below, walk_below-from_IsWalk}
use Rattle.rf_problem.specs.Holds.{AtomHolds, Interpretation, LeadsTo, SymbolHolds}
use Rattle.rf_problem.specs.Parts.{arity_of, predicate_at}
use Rattle.rf_problem.specs.Reading.{Calls, Reading, atom_true, symbol_true}
use Rattle.rf_problem.specs.Valid.{has_steps}
use Rattle.rf_problem.specs.declared.predicate.Predicate.{Predicate as Definition}
use Rattle.rf_problem.specs.declared.symbol.Symbol.{Symbol}
use Rattle.rf_problem.specs.declared.symbol.Symbol.TheVariants.{Class, Reference, Predicate, Exists, Equals}
use Rattle.rf_problem.proofs.Agreements.{Agree, SymbolSays}

module _ (predicates : List Definition) (calls : Calls) (here inside : Reading) (w : Interpretation) (agree : Agree here w) where
  -- a symbol holds where the test says so, and the test says so where it does
  pub SymbolHolds-from_symbol_true : (symbol : Symbol) → SymbolSays predicates calls here inside w symbol → (t : List ℕ) → length t ≡ arity_of predicates symbol
      → symbol_true calls here inside symbol t ≡ true → SymbolHolds w symbol t
  SymbolHolds-from_symbol_true (Class k) says [] e h = absurd (omega arith)
  SymbolHolds-from_symbol_true (Class k) says (x ∷ []) e h = (agree.classes k x).0 h
  SymbolHolds-from_symbol_true (Class k) says (x ∷ y ∷ t) e h = absurd (omega arith)
  SymbolHolds-from_symbol_true (Reference r) says [] e h = absurd (omega arith)
  SymbolHolds-from_symbol_true (Reference r) says (x ∷ []) e h = absurd (omega arith)
  SymbolHolds-from_symbol_true (Reference r) says (x ∷ y ∷ []) e h = (agree.edges r x y).0 h
  SymbolHolds-from_symbol_true (Reference r) says (x ∷ y ∷ z ∷ t) e h = absurd (omega arith)
  SymbolHolds-from_symbol_true (Predicate q) says t e h = sym (says t e) ∙ h
  SymbolHolds-from_symbol_true Exists says t e h = absurd (true≢false (sym h))
  SymbolHolds-from_symbol_true Equals says t e h = absurd (true≢false (sym h))

  pub symbol_true-from_SymbolHolds : (symbol : Symbol) → SymbolSays predicates calls here inside w symbol → (t : List ℕ) → length t ≡ arity_of predicates symbol
      → SymbolHolds w symbol t → symbol_true calls here inside symbol t ≡ true
  symbol_true-from_SymbolHolds (Class k) says [] e h = absurd (omega arith)
  symbol_true-from_SymbolHolds (Class k) says (x ∷ []) e h = (agree.classes k x).1 h
  symbol_true-from_SymbolHolds (Class k) says (x ∷ y ∷ t) e h = absurd (omega arith)
  symbol_true-from_SymbolHolds (Reference r) says [] e h = absurd (omega arith)
  symbol_true-from_SymbolHolds (Reference r) says (x ∷ []) e h = absurd (omega arith)
  symbol_true-from_SymbolHolds (Reference r) says (x ∷ y ∷ []) e h = (agree.edges r x y).1 h
  symbol_true-from_SymbolHolds (Reference r) says (x ∷ y ∷ z ∷ t) e h = absurd (omega arith)
  symbol_true-from_SymbolHolds (Predicate q) says t e h = says t e ∙ h
  symbol_true-from_SymbolHolds Exists says t e h = absurd h
  symbol_true-from_SymbolHolds Equals says t e h = absurd h

  -- a symbol with steps has two arguments
  steps-arity : (symbol : Symbol) → has_steps predicates symbol ≡ true → arity_of predicates symbol ≡ 2
  steps-arity (Class k) h = absurd (true≢false (sym h))
  steps-arity (Reference r) h = refl
  steps-arity (Predicate q) h = eqb-true (predicate_at predicates q).arity 2 h
  steps-arity Exists h = absurd (true≢false (sym h))
  steps-arity Equals h = absurd (true≢false (sym h))

  -- whether a step of the symbol leads from one element to the next
  abbrev step : Symbol → ℕ → ℕ → Bool
  step symbol x y = symbol_true calls here inside symbol (x ∷ y ∷ [])

  -- a walk of its steps is a list of elements that leads there
  LeadsTo-from_IsWalk : (symbol : Symbol) → SymbolSays predicates calls here inside w symbol → arity_of predicates symbol ≡ 2 → (x : ℕ) (between : List ℕ) (y : ℕ)
      → IsWalk (step symbol) here.present here.size x between y → LeadsTo (λ a b. SymbolHolds w symbol (a ∷ b ∷ [])) w.IsPresent x between y
  LeadsTo-from_IsWalk symbol says two x [] y walk = SymbolHolds-from_symbol_true symbol says (x ∷ y ∷ []) (sym two) walk
  LeadsTo-from_IsWalk symbol says two x (z ∷ zs) y walk =
      (SymbolHolds-from_symbol_true symbol says (x ∷ z ∷ []) (sym two) walk.0, agree.present z walk.1 walk.2, LeadsTo-from_IsWalk symbol says two z zs y walk.3)

  IsWalk-from_LeadsTo : (symbol : Symbol) → SymbolSays predicates calls here inside w symbol → arity_of predicates symbol ≡ 2 → (x : ℕ) (between : List ℕ) (y : ℕ)
      → LeadsTo (λ a b. SymbolHolds w symbol (a ∷ b ∷ [])) w.IsPresent x between y → IsWalk (step symbol) here.present here.size x between y
  IsWalk-from_LeadsTo symbol says two x [] y walk = symbol_true-from_SymbolHolds symbol says (x ∷ y ∷ []) (sym two) walk
  IsWalk-from_LeadsTo symbol says two x (z ∷ zs) y walk =
      (symbol_true-from_SymbolHolds symbol says (x ∷ z ∷ []) (sym two) walk.0, agree.within z walk.1, agree.there z walk.1, IsWalk-from_LeadsTo symbol says two z zs y walk.2)

  -- an atom holds where the test says so, and the test says so where it does
  pub AtomHolds-from_atom_true : (closure : Bool) (symbol : Symbol) → SymbolSays predicates calls here inside w symbol → (t : List ℕ) → length t ≡ arity_of predicates symbol
      → (closure ≡ true → has_steps predicates symbol ≡ true)
      → atom_true calls here inside closure symbol t ≡ true → AtomHolds w closure symbol t
  AtomHolds-from_atom_true false symbol says t e steps h = SymbolHolds-from_symbol_true symbol says t e h
  AtomHolds-from_atom_true true symbol says [] e steps h = let two = steps-arity symbol (steps refl) in absurd (omega arith)
  AtomHolds-from_atom_true true symbol says (x ∷ []) e steps h = let two = steps-arity symbol (steps refl) in absurd (omega arith)
  AtomHolds-from_atom_true true symbol says (x ∷ y ∷ []) e steps h =
      let walk = IsReachable-from_walk_below (step symbol) here.present here.size x y h in
      (walk.0, LeadsTo-from_IsWalk symbol says (steps-arity symbol (steps refl)) x walk.0 y walk.1)
  AtomHolds-from_atom_true true symbol says (x ∷ y ∷ z ∷ t) e steps h = let two = steps-arity symbol (steps refl) in absurd (omega arith)

  pub atom_true-from_AtomHolds : (closure : Bool) (symbol : Symbol) → SymbolSays predicates calls here inside w symbol → (t : List ℕ) → length t ≡ arity_of predicates symbol
      → (closure ≡ true → has_steps predicates symbol ≡ true)
      → AtomHolds w closure symbol t → atom_true calls here inside closure symbol t ≡ true
  atom_true-from_AtomHolds false symbol says t e steps h = symbol_true-from_SymbolHolds symbol says t e h
  atom_true-from_AtomHolds true symbol says [] e steps h = absurd h
  atom_true-from_AtomHolds true symbol says (x ∷ []) e steps h = absurd h
  atom_true-from_AtomHolds true symbol says (x ∷ y ∷ []) e steps h =
      walk_below-from_IsWalk (step symbol) here.present here.size x h.0 y (IsWalk-from_LeadsTo symbol says (steps-arity symbol (steps refl)) x h.0 y h.1)
  atom_true-from_AtomHolds true symbol says (x ∷ y ∷ z ∷ t) e steps h = absurd h

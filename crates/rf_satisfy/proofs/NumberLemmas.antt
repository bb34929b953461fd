-- The numbers of the assertions that speak of each symbol of a kind.
use Rattle.std.proofs.Common.{◌≡◌, ◌∙◌, ℕ, ◌+◌, ◌<◌, Bool, false, ◌==◌, Option, None, Some, List, [], ◌∷◌, ◌++◌, length, get_or, refl, sym, ap, inl, inr}
use Rattle.std.specs.Prelude.{Vec}
use Rattle.std.specs.declared.alloc.Global.{Global}
use Rattle.std.proofs.lemmas.Bool.{cases_eq, eq-eqb, ne_eqb}
use Rattle.std.proofs.lemmas.List.{get_or_default}
use Rattle.rf_problem.specs.Parts.{same_symbol}
use Rattle.rf_problem.specs.declared.assertion.Assertion.{Assertion}
use Rattle.rf_problem.specs.declared.problem.Problem.{Problem}
use Rattle.rf_problem.specs.declared.symbol.Symbol.{Symbol}
use Rattle.rf_problem.specs.declared.symbol.Symbol.TheVariants.{Class, Reference, Predicate, Exists, Equals}
use Rattle.rf_satisfy.specs.NodeLists.{row_of}
use Rattle.rf_satisfy.specs.Suspects.{assertion_at, no_assertion, speaks_at}
use Rattle.rf_satisfy.specs.SymbolKinds.{AreNumbered, number_of, symbol_of}
use Rattle.rf_satisfy.specs.declared.kinds.asserted.SymbolKind.{SymbolKind}
use Rattle.rf_satisfy.specs.declared.kinds.asserted.SymbolKind.TheVariants.{Classes, References, Predicates}
use Rattle.rf_satisfy.proofs.NodeListLemmas.{ArePassing-push, ArePassing-skip}

-- whether k is a number, where there is one
abbrev is_number : Option ℕ → ℕ → Bool
is_number None k = false
is_number (Some j) k = j == k

-- a symbol is the one of a kind and number exactly where that is its number
speaks-number : (kind : SymbolKind) (s : Symbol) (k : ℕ) → same_symbol s (symbol_of kind k) ≡ is_number (number_of kind s) k
speaks-number Classes (Class c) k = refl
speaks-number Classes (Reference c) k = refl
speaks-number Classes (Predicate c) k = refl
speaks-number Classes Exists k = refl
speaks-number Classes Equals k = refl
speaks-number References (Class c) k = refl
speaks-number References (Reference c) k = refl
speaks-number References (Predicate c) k = refl
speaks-number References Exists k = refl
speaks-number References Equals k = refl
speaks-number Predicates (Class c) k = refl
speaks-number Predicates (Reference c) k = refl
speaks-number Predicates (Predicate c) k = refl
speaks-number Predicates Exists k = refl
speaks-number Predicates Equals k = refl

module _ (p : Problem) (kind : SymbolKind) (n : ℕ) (a : Assertion) (l : n < length p.assertions) (at : a ≡ get_or p.assertions n a)
    (rows : List (Vec ℕ Global)) (so_far : AreNumbered p kind n rows) where
  speaks : (k : ℕ) → speaks_at p (symbol_of kind k) n ≡ is_number (number_of kind a.symbol) k
  speaks k =
      let is : assertion_at p (symbol_of kind k) n ≡ a = get_or_default p.assertions n (no_assertion (symbol_of kind k)) a l ∙ sym at in
      ap (λ (b : Assertion). same_symbol b.symbol (symbol_of kind k)) is ∙ speaks-number kind a.symbol k

  -- an assertion of a symbol of another kind
  pub numbered-skip : number_of kind a.symbol ≡ None → AreNumbered p kind (n + 1) rows
  numbered-skip none = record {
    len = so_far.len;
    each = λ k lk. ArePassing-skip n (speaks_at p (symbol_of kind k)) (row_of rows k) (so_far.each k lk) (speaks k ∙ ap (λ (o : Option ℕ). is_number o k) none);
  }

  -- an assertion of a symbol of this kind
  pub numbered-put : (j : ℕ) (now : List (Vec ℕ Global)) → number_of kind a.symbol ≡ Some j → length now ≡ length rows
      → row_of now j ≡ row_of rows j ++ n ∷ [] → ((o : ℕ) → (o ≡ j → ⊥) → row_of now o ≡ row_of rows o) → AreNumbered p kind (n + 1) now
  numbered-put j now some len here others = record {
    len = len ∙ so_far.len;
    each = λ k lk. (let spoken : speaks_at p (symbol_of kind k) n ≡ (j == k) = speaks k ∙ ap (λ (o : Option ℕ). is_number o k) some in
        elim (cases_eq k j) [
          | inl e ↦ (let row : row_of now k ≡ row_of rows k ++ n ∷ [] = ap (row_of now) e ∙ (here ∙ ap (λ (m : ℕ). row_of rows m ++ n ∷ []) (sym e)) in
              rw row (ArePassing-push n (speaks_at p (symbol_of kind k)) (row_of rows k) (so_far.each k lk) (spoken ∙ eq-eqb j k (sym e))))
          | inr ne ↦ rw (others k ne) (ArePassing-skip n (speaks_at p (symbol_of kind k)) (row_of rows k) (so_far.each k lk) (spoken ∙ ne_eqb j k (λ q. ne (sym q))))
        ]);
  }

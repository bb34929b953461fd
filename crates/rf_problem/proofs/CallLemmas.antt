-- What clauses call.
use Rattle.std.proofs.Common.{◌≡◌, ℕ, Bool, true, List, [], ◌∷◌, refl, sym, subst, inl, inr, true≢false}
use Rattle.std.specs.List.{list_any}
use Rattle.std.proofs.lemmas.Bool.{eq-eqb, eqb-true, or_cases, or_left, or_right}
use Rattle.rf_finite.proofs.Lists.{list_any-more_pass}
use Rattle.rf_problem.specs.Calling.{calls_one_of, clause_calls_one_of}
use Rattle.rf_problem.specs.Valid.{calls_predicate}
use Rattle.rf_problem.specs.declared.predicate.Clause.{Clause}
use Rattle.rf_problem.specs.declared.predicate.Literal.{Literal}
use Rattle.rf_problem.specs.declared.predicate.Literal.TheVariants.{Call, Same, Differ}
use Rattle.rf_problem.specs.declared.symbol.Symbol.TheVariants.{Class, Reference, Predicate as Defined, Exists, Equals}

module _ (passes : ℕ → Bool) where
  -- what calls a predicate that passes calls one that can be named
  literal_calls-one : (l : Literal) → calls_one_of passes l ≡ true → (q : ℕ) × (passes q ≡ true) × (calls_predicate q l ≡ true)
  literal_calls-one (Call negated closure (Class c) args) h = absurd (true≢false (sym h))
  literal_calls-one (Call negated closure (Reference r) args) h = absurd (true≢false (sym h))
  literal_calls-one (Call negated closure (Defined q) args) h = (q, h, eq-eqb q q refl)
  literal_calls-one (Call negated closure Exists args) h = absurd (true≢false (sym h))
  literal_calls-one (Call negated closure Equals args) h = absurd (true≢false (sym h))
  literal_calls-one (Same a b) h = absurd (true≢false (sym h))
  literal_calls-one (Differ a b) h = absurd (true≢false (sym h))

  any-one :
      {X : Type 0} (test : X → Bool) (calls : ℕ → X → Bool) →
      ((x : X) → test x ≡ true → (q : ℕ) × (passes q ≡ true) × (calls q x ≡ true)) → (xs : List X) → list_any test xs ≡ true →
      (q : ℕ) × (passes q ≡ true) × (list_any (calls q) xs ≡ true)
  any-one test calls each [] h = absurd (true≢false (sym h))
  any-one test calls each (x ∷ xs) h = elim (or_cases (test x) (list_any test xs) h) [
    | inl here ↦ (let one = each x here in (one.0, one.1, or_left (calls one.0 x) (list_any (calls one.0) xs) one.2))
    | inr later ↦ (let one = any-one test calls each xs later in (one.0, one.1, or_right (calls one.0 x) (list_any (calls one.0) xs) one.2))
  ]

  clause_calls-one :
      (c : Clause) → clause_calls_one_of passes c ≡ true → (q : ℕ) × (passes q ≡ true) × (list_any (calls_predicate q) c.literals ≡ true)
  clause_calls-one c h = any-one (calls_one_of passes) calls_predicate literal_calls-one c.literals h

  pub clauses_call-one :
      (cs : List Clause) → list_any (clause_calls_one_of passes) cs ≡ true →
      (q : ℕ) × (passes q ≡ true) × (list_any (λ c. list_any (calls_predicate q) c.literals) cs ≡ true)
  clauses_call-one cs h = any-one (clause_calls_one_of passes) (λ q c. list_any (calls_predicate q) c.literals) clause_calls-one cs h

  -- what calls this predicate, which passes, calls one that does
  literal_calls-some : (q : ℕ) → passes q ≡ true → (l : Literal) → calls_predicate q l ≡ true → calls_one_of passes l ≡ true
  literal_calls-some q has (Call negated closure (Class c) args) h = absurd (true≢false (sym h))
  literal_calls-some q has (Call negated closure (Reference r) args) h = absurd (true≢false (sym h))
  literal_calls-some q has (Call negated closure (Defined p) args) h = subst (λ x. passes x ≡ true) (sym (eqb-true p q h)) has
  literal_calls-some q has (Call negated closure Exists args) h = absurd (true≢false (sym h))
  literal_calls-some q has (Call negated closure Equals args) h = absurd (true≢false (sym h))
  literal_calls-some q has (Same a b) h = absurd (true≢false (sym h))
  literal_calls-some q has (Differ a b) h = absurd (true≢false (sym h))

  pub clauses_call-some :
      (q : ℕ) (cs : List Clause) → list_any (λ c. list_any (calls_predicate q) c.literals) cs ≡ true → passes q ≡ true →
      list_any (clause_calls_one_of passes) cs ≡ true
  clauses_call-some q cs h has =
      list_any-more_pass (λ c. list_any (calls_predicate q) c.literals) (clause_calls_one_of passes) cs
      (λ c calls. list_any-more_pass (calls_predicate q) (calls_one_of passes) c.literals (literal_calls-some q has) calls) h

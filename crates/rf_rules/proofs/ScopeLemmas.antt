-- What a scope counts, by the set of its classes.
use Rattle.std.proofs.Common.{◌≡◌, ◌∙◌, ◌+◌, length, ℕ, Bool, true, ◌&&◌, ◌||◌, not, refl, sym, ap, add-one}
use Rattle.std.specs.FinSet.{FinSet, contains, empty, insert}
use Rattle.std.specs.Ordering.{nat_cmp}
use Rattle.rf_finite.proofs.Range.{all_below-same, some_below-same}
use Rattle.rf_values.specs.ClassSet.{members_below}
use Rattle.rf_problem.specs.Counted.{counts_origin}
use Rattle.rf_problem.specs.Parts.{scope_at}
use Rattle.rf_problem.specs.declared.problem.Problem.{Problem}
use Rattle.rf_state.specs.State.{State, object_of}
use Rattle.rf_rules.specs.Scopes.{is_of_scope, is_surely_counted, may_be_counted}
use Rattle.rf_rules.specs.Words.{any_candidate, classes_where, each_candidate}
use Rattle.rf_rules.proofs.ClassLemmas.{contains-classes_where}

-- no number is below 0, and below the next one there is one more
pub members_below-zero : members_below 0 (λ c. true) ≡ empty
unfolding members_below
members_below-zero = refl

pub members_below-all : (n : ℕ) → members_below (n + 1) (λ c. true) ≡ insert (members_below n (λ c. true)) n
unfolding members_below
members_below-all n = rw add-one refl

-- what is counted by the classes that pass is counted by the test
any_candidate-where : (p : Problem) (s : State) (o : ℕ) (test : ℕ → Bool) → any_candidate p s o (contains (classes_where p test)) ≡ any_candidate p s o test
any_candidate-where p s o test = some_below-same (length p.classes) _ _ (λ c l. ap (λ b. contains (object_of s o).candidates c && b) (contains-classes_where p test c l))

each_candidate-where : (p : Problem) (s : State) (o : ℕ) (test : ℕ → Bool) → each_candidate p s o (contains (classes_where p test)) ≡ each_candidate p s o test
each_candidate-where p s o test = all_below-same (length p.classes) _ _ (λ c l. ap (λ b. not (contains (object_of s o).candidates c) || b) (contains-classes_where p test c l))

module _ (p : Problem) (s : State) (z o : ℕ) (set : FinSet nat_cmp) (fit : set ≡ classes_where p (is_of_scope p z)) (by_origin result : Bool) (there : by_origin ≡ true)
    (is : by_origin ≡ counts_origin p (scope_at p.scopes z) (object_of s o).origin) where
  -- where it is counted by its origin, the candidates say whether it may be, and whether it surely is
  pub may_be_counted-is : result ≡ any_candidate p s o (contains set) → result ≡ may_be_counted p s z o
  may_be_counted-is h =
      let origin = sym is ∙ there in
      rw origin (h ∙ ap (λ t. any_candidate p s o (contains t)) fit ∙ any_candidate-where p s o (is_of_scope p z))

  pub is_surely_counted-is : result ≡ each_candidate p s o (contains set) → result ≡ is_surely_counted p s z o
  is_surely_counted-is h =
      let origin = sym is ∙ there in
      rw origin (h ∙ ap (λ t. each_candidate p s o (contains t)) fit ∙ each_candidate-where p s o (is_of_scope p z))

-- What is asserted of a symbol isn't satisfied where it holds though that is denied, at a literal of an enum, or where an
-- assertion wants it to hold.
use Rattle.std.proofs.Common.{◌≡◌, ◌∙◌, ℕ, ◌+◌, ◌<◌, ◌≤◌, Bool, true, false, ◌&&◌, ◌||◌, ◌==◌, Option, List, [], ◌∷◌, length, map, take, get_or, refl, sym, ap, subst, inl, inr, true≢false}
use Rattle.std.specs.List.{list_any}
use Rattle.std.proofs.lemmas.Bool.{cases_Bool, and_parts, and_from, or_cases, or_left, or_right, both_ways, eqb-true, false_from_ne_true}
use Rattle.std.proofs.lemmas.List.{get_or_default, take_all}
use Rattle.std.proofs.lemmas.List.Folds.{Any-from_list_any, list_any_more}
use Rattle.std.specs.Cmp.Lexicographic.{slice_cmp}
use Rattle.std.specs.Ordering.{nat_cmp}
use Rattle.rf_finite.specs.Firsts.{earlier}
use Rattle.rf_finite.proofs.Lists.{list_any-more_pass}
use Rattle.rf_values.specs.declared.truth.Truth.TheVariants.{True, False}
use Rattle.rf_problem.specs.Asserted.{asserted, is_literal_of, match_each, unwritten, when}
use Rattle.rf_problem.specs.Parts.{object_at, predicate_at, same_symbol}
use Rattle.rf_problem.specs.declared.assertion.Assertion.{Assertion}
use Rattle.rf_problem.specs.declared.problem.Problem.{Problem}
use Rattle.rf_problem.specs.declared.symbol.Symbol.{Symbol}
use Rattle.rf_problem.specs.declared.symbol.Symbol.TheVariants.{Class, Reference, Predicate, Exists, Equals}
use Rattle.rf_graph.specs.Evaluate.{holds}
use Rattle.rf_graph.specs.First.{breaks}
use Rattle.rf_graph.specs.Graph.{origin_of}
use Rattle.rf_graph.specs.declared.graph.Graph.{Graph}
use Rattle.rf_satisfy.specs.Suspects.{assertion_at, denies, is_broken, is_denied_at, is_error_symbol, is_excess, is_lack_by, is_stray, is_suspect, is_suspect_by, is_unwritten_at, no_assertion, speaks_at, wants}
use Rattle.rf_satisfy.specs.Tuples.{ArePassing, IsFirst}
use Rattle.rf_satisfy.proofs.SuspectLemmas.{found-is, list_any-weaker}
use Rattle.rf_satisfy.proofs.TupleLemmas.{IsFirst-earlier, IsFirst-same}

-- what is asserted unwritten is denied by holding only of an error predicate
unwritten-error : (p : Problem) (s : Symbol) (objects : List ℕ) → list_any (λ v. breaks v true) (unwritten p s objects) ≡ true → is_error_symbol p s ≡ true
unwritten-error p (Class c) [] h = absurd (true≢false (sym h))
unwritten-error p (Class c) (o ∷ []) h = absurd (no (is_literal_of (object_at p.objects o).kind c) h)
  where
    no : (b : Bool) → list_any (λ v. breaks v true) (when b True) ≡ true → ⊥
    no true e = true≢false (sym e)
    no false e = true≢false (sym e)
unwritten-error p (Class c) (o ∷ q ∷ t) h = absurd (true≢false (sym h))
unwritten-error p (Predicate q) t h = must_be (predicate_at p.predicates q).is_error h
  where
    must_be : (b : Bool) → list_any (λ v. breaks v true) (when b False) ≡ true → b ≡ true
    must_be true e = refl
    must_be false e = absurd (true≢false (sym e))
unwritten-error p (Reference r) t h = absurd (true≢false (sym h))
unwritten-error p Exists t h = absurd (true≢false (sym h))
unwritten-error p Equals t h = absurd (true≢false (sym h))

-- and by not holding only of an enum
unwritten-stray : (p : Problem) (g : Graph) (s : Symbol) (t : List ℕ) → holds p g s t ≡ false → is_unwritten_at p g s t ≡ true → is_stray p g s t ≡ true
unwritten-stray p g (Class c) t none h = h
unwritten-stray p g (Predicate q) t none h = absurd (no (predicate_at p.predicates q).is_error (rw none at
    (and_parts (list_any (λ v. breaks v (holds p g (Predicate q) t)) (when (predicate_at p.predicates q).is_error False)) (is_broken p g (Predicate q) t) h).0))
  where
    no : (b : Bool) → list_any (λ v. breaks v false) (when b False) ≡ true → ⊥
    no true e = true≢false (sym e)
    no false e = true≢false (sym e)
unwritten-stray p g (Reference r) t none h = absurd (true≢false (sym h))
unwritten-stray p g Exists t none h = absurd (true≢false (sym h))
unwritten-stray p g Equals t none h = absurd (true≢false (sym h))

stray-broken : (p : Problem) (g : Graph) (s : Symbol) (t : List ℕ) → is_stray p g s t ≡ true → is_broken p g s t ≡ true
stray-broken p g (Class c) t h = (and_parts (list_any (λ v. breaks v (holds p g (Class c) t)) (unwritten p (Class c) (map (origin_of g) t))) (is_broken p g (Class c) t) h).1
stray-broken p g (Predicate q) t h = absurd (true≢false (sym h))
stray-broken p g (Reference r) t h = absurd (true≢false (sym h))
stray-broken p g Exists t h = absurd (true≢false (sym h))
stray-broken p g Equals t h = absurd (true≢false (sym h))

module _ (p : Problem) (g : Graph) (s : Symbol) (numbers : List ℕ) (listed : ArePassing (length p.assertions) (speaks_at p s) numbers) where
  -- an assertion that speaks of the symbol is one of those with these numbers
  by_number : (test : Assertion → Bool) → list_any (λ a. same_symbol a.symbol s && test a) p.assertions ≡ true
      → list_any (λ i. test (assertion_at p s i)) numbers ≡ true
  by_number test e =
      let one = Any-from_list_any (λ a. same_symbol a.symbol s && test a) p.assertions e in
      let at : assertion_at p s one.0 ≡ one.1 = get_or_default p.assertions one.0 (no_assertion s) one.1 one.2 ∙ one.3 in
      let parts = and_parts (same_symbol one.1.symbol s) (test one.1) one.4 in
      let speaks : speaks_at p s one.0 ≡ true = subst (λ (a : Assertion). same_symbol a.symbol s ≡ true) (sym at) parts.0 in
      list_any-more_pass (λ y. y == one.0) (λ i. test (assertion_at p s i)) numbers
      (λ y q. subst (λ (k : ℕ). test (assertion_at p s k) ≡ true) (sym (eqb-true y one.0 q)) (subst (λ (a : Assertion). test a ≡ true) (sym at) parts.1))
      (listed.complete one.0 one.2 speaks)

  abbrev pub some_denies : Bool
  some_denies = list_any (λ i. denies (assertion_at p s i).value) numbers

  module _ (t : List ℕ) where
    abbrev now : Bool
    now = holds p g s t

    held : now ≡ true → is_broken p g s t ≡ is_denied_at p g s t
    held e = ap (λ (b : Bool). breaks (asserted p s (map (origin_of g) t)) b) e

    -- what isn't satisfied at an assertion breaks its value
    by_assertion : (b : Bool) → now ≡ b → (a : Assertion) → is_suspect_by p g s t a ≡ true → (same_symbol a.symbol s && breaks a.value b) ≡ true
    by_assertion b e a h =
        let one = and_parts (same_symbol a.symbol s) (is_suspect p g s a.args a.value t) h in
        let two = and_parts (match_each a.args (map (origin_of g) t)) (breaks a.value now && is_broken p g s t) one.1 in
        let three = and_parts (breaks a.value now) (is_broken p g s t) two.1 in
        and_from (same_symbol a.symbol s) (breaks a.value b) one.0 (subst (λ (c : Bool). breaks a.value c ≡ true) e three.0)

    -- where nothing denies the symbol, it is broken nowhere by holding
    pub excess-false : some_denies ≡ false → is_error_symbol p s ≡ false → is_excess p g s t ≡ false
    excess-false none no_error = false_from_ne_true (is_excess p g s t) (λ e.
        let parts = and_parts now (is_denied_at p g s t) e in
        let broken : is_broken p g s t ≡ true = held parts.0 ∙ parts.1 in
        elim (or_cases (is_unwritten_at p g s t) (list_any (is_suspect_by p g s t) p.assertions) (found-is p g s t ∙ broken)) [
          | inl h ↦ both_ways (is_error_symbol p s) no_error (unwritten-error p s (map (origin_of g) t)
              (subst (λ (c : Bool). list_any (λ v. breaks v c) (unwritten p s (map (origin_of g) t)) ≡ true) parts.0
              (and_parts (list_any (λ v. breaks v now) (unwritten p s (map (origin_of g) t))) (is_broken p g s t) h).0))
          | inr h ↦ both_ways some_denies none (by_number (λ a. denies a.value)
              (list_any-weaker (is_suspect_by p g s t) (λ a. same_symbol a.symbol s && denies a.value) p.assertions (by_assertion true parts.0) h))
        ])

    abbrev pub lacks : Bool
    lacks = list_any (λ i. is_lack_by p g s t (assertion_at p s i)) numbers

    lacks-broken : lacks ≡ true → is_broken p g s t ≡ true
    lacks-broken h =
        let one = Any-from_list_any (λ i. is_lack_by p g s t (assertion_at p s i)) numbers h in
        let a = assertion_at p s one.1 in
        let two = and_parts (wants a.value) (is_suspect p g s a.args a.value t) one.4 in
        let three = and_parts (match_each a.args (map (origin_of g) t)) (breaks a.value now && is_broken p g s t) two.1 in
        (and_parts (breaks a.value now) (is_broken p g s t) three.1).1

    suspects-lack : now ≡ false → (a : Assertion) → is_suspect_by p g s t a ≡ true → (same_symbol a.symbol s && is_lack_by p g s t a) ≡ true
    suspects-lack none a h =
        let one = and_parts (same_symbol a.symbol s) (is_suspect p g s a.args a.value t) h in
        let two = and_parts (same_symbol a.symbol s) (breaks a.value false) (by_assertion false none a h) in
        and_from (same_symbol a.symbol s) (is_lack_by p g s t a) one.0 (and_from (wants a.value) (is_suspect p g s a.args a.value t) two.1 one.1)

    abbrev pub parted : Bool
    parted = is_excess p g s t || (is_stray p g s t || lacks)

    broken-parted : is_broken p g s t ≡ true → parted ≡ true
    broken-parted b = elim (cases_Bool now) [
      | inl e ↦ or_left (is_excess p g s t) (is_stray p g s t || lacks) (and_from now (is_denied_at p g s t) e (sym (held e) ∙ b))
      | inr e ↦ or_right (is_excess p g s t) (is_stray p g s t || lacks) (elim (or_cases (is_unwritten_at p g s t) (list_any (is_suspect_by p g s t) p.assertions) (found-is p g s t ∙ b)) [
        | inl h ↦ or_left (is_stray p g s t) lacks (unwritten-stray p g s t e h)
        | inr h ↦ or_right (is_stray p g s t) lacks (by_number (is_lack_by p g s t)
            (list_any-weaker (is_suspect_by p g s t) (λ a. same_symbol a.symbol s && is_lack_by p g s t a) p.assertions (suspects-lack e) h))
      ])
    ]

    parted-broken : parted ≡ true → is_broken p g s t ≡ true
    parted-broken h = elim (or_cases (is_excess p g s t) (is_stray p g s t || lacks) h) [
      | inl e ↦ (let parts = and_parts now (is_denied_at p g s t) e in held parts.0 ∙ parts.1)
      | inr r ↦ elim (or_cases (is_stray p g s t) lacks r) [ inl e ↦ stray-broken p g s t e | inr e ↦ lacks-broken e ]
    ]

    parted-is : parted ≡ is_broken p g s t
    parted-is = elim (cases_Bool (is_broken p g s t)) [
      | inl b ↦ broken-parted b ∙ sym b
      | inr b ↦ false_from_ne_true parted (λ h. both_ways (is_broken p g s t) b (parted-broken h)) ∙ sym b
    ]

  -- none of the first numbers denies, and then none does
  pub none_denies : ((k : ℕ) → k < length numbers → denies (assertion_at p s (get_or numbers k 0)).value ≡ false) → some_denies ≡ false
  none_denies none = false_from_ne_true some_denies (λ h.
      let one = Any-from_list_any (λ i. denies (assertion_at p s i).value) numbers h in
      let at : get_or numbers one.0 0 ≡ one.1 = get_or_default numbers one.0 0 one.1 one.2 ∙ one.3 in
      both_ways (denies (assertion_at p s one.1).value) (subst (λ (k : ℕ). denies (assertion_at p s k).value ≡ false) at (none one.0 one.2)) one.4)

  -- the first of each part is the first of all
  pub broken-first : (n m : ℕ) (denied stray lack : Option (List ℕ)) → IsFirst n m (is_excess p g s) denied → IsFirst n m (is_stray p g s) stray
      → IsFirst n m (λ t. lacks t) lack → IsFirst n m (is_broken p g s) (earlier (slice_cmp nat_cmp) denied (earlier (slice_cmp nat_cmp) stray lack))
  broken-first n m denied stray lack a b c =
      IsFirst-same n m (λ t. parted t) (is_broken p g s) (earlier (slice_cmp nat_cmp) denied (earlier (slice_cmp nat_cmp) stray lack)) (λ t h. parted-is t)
      (IsFirst-earlier n m (is_excess p g s) (λ t. is_stray p g s t || lacks t) denied (earlier (slice_cmp nat_cmp) stray lack) a
      (IsFirst-earlier n m (is_stray p g s) (λ t. lacks t) stray lack b c))

  -- a loop through the numbers
  module _ (n m i : ℕ) (first other : Option (List ℕ)) (l : i < length numbers) where
    pub lacks-more : IsFirst n m (λ t. list_any (λ k. is_lack_by p g s t (assertion_at p s k)) (take i numbers)) first
        → IsFirst n m (λ t. is_lack_by p g s t (assertion_at p s (get_or numbers i 0))) other
        → IsFirst n m (λ t. list_any (λ k. is_lack_by p g s t (assertion_at p s k)) (take (i + 1) numbers)) (earlier (slice_cmp nat_cmp) first other)
    lacks-more so_far h =
        IsFirst-same n m (λ t. list_any (λ k. is_lack_by p g s t (assertion_at p s k)) (take i numbers) || is_lack_by p g s t (assertion_at p s (get_or numbers i 0)))
        (λ t. list_any (λ k. is_lack_by p g s t (assertion_at p s k)) (take (i + 1) numbers)) (earlier (slice_cmp nat_cmp) first other)
        (λ t u. sym (list_any_more (λ k. is_lack_by p g s t (assertion_at p s k)) numbers i 0 l))
        (IsFirst-earlier n m (λ t. list_any (λ k. is_lack_by p g s t (assertion_at p s k)) (take i numbers)) (λ t. is_lack_by p g s t (assertion_at p s (get_or numbers i 0))) first other so_far h)

  pub lacks-ended : (n m i : ℕ) (first : Option (List ℕ)) → length numbers ≤ i
      → IsFirst n m (λ t. list_any (λ k. is_lack_by p g s t (assertion_at p s k)) (take i numbers)) first → IsFirst n m (λ t. lacks t) first
  lacks-ended n m i first l h = let whole : take i numbers ≡ numbers = take_all i numbers l in rw whole at h

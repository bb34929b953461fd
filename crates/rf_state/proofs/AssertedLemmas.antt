-- What is asserted of an edge of which no assertion speaks by both of its ends.
use Rattle.std.proofs.Common.{◌≡◌, ◌∙◌, ℕ, ◌<◌, Bool, true, false, ◌&&◌, ◌==◌, suc, true≢false, if◌then◌else◌, Option, None, Some, List, [], ◌∷◌, ◌++◌, length, get_or, map, refl, sym, ap, ap₂, inl, inr, arith}
use Rattle.std.specs.List.{list_any}
use Rattle.std.specs.Option.{ForSome}
use Rattle.std.specs.Prelude.{All, filter}
use Rattle.std.proofs.lemmas.Bool.{cases_Bool, ne_eqb}
use Rattle.std.proofs.lemmas.List.Folds.{list_any_at}
use Rattle.rf_problem.specs.Asserted.{asserted, is_default, is_ordinary, match_each, matches, merge_first, speaks_of}
use Rattle.rf_problem.specs.Parts.{same_symbol}
use Rattle.rf_problem.specs.Spoken.{is_at as speaks_at, same_args}
use Rattle.rf_problem.specs.declared.assertion.Assertion.{Assertion}
use Rattle.rf_problem.specs.declared.problem.Problem.{Problem}
use Rattle.rf_problem.specs.declared.symbol.Symbol.TheVariants.{Reference}

-- objects of an assertion are the problem's
abbrev Within : ℕ → List (Option ℕ) → Type 0
Within n args = All (λ arg. ForSome arg (λ o. o < n)) args

and-false : (b : Bool) → (b && false) ≡ false
and-false true = refl
and-false false = refl

-- a test that fails for certain, after others
never : (t a : Bool) (c n : ℕ) → c < n → (t && (a && (c == n && true))) ≡ false
never t a c n l = let e : (c == n) ≡ false = ne_eqb c n (λ q. absurd (omega arith)) in rw (e, and-false a, and-false t) refl

never-first : (t a : Bool) (c n : ℕ) → c < n → (t && (c == n && (a && true))) ≡ false
never-first t a c n l = let e : (c == n) ≡ false = ne_eqb c n (λ q. absurd (omega arith)) in rw (e, and-false t) refl

module _ (t : Bool) (a b n : ℕ) where
  -- where an object is no argument beside a, nor beside `*`, it is matched where a number is that no assertion names
  matched-second : (args : List (Option ℕ)) → Within n args → (t && same_args args (Some a ∷ Some b ∷ [])) ≡ false
      → (t && same_args args (None ∷ Some b ∷ [])) ≡ false → (t && match_each args (a ∷ b ∷ [])) ≡ (t && match_each args (a ∷ n ∷ []))
  matched-second [] within one any = refl
  matched-second (u ∷ []) within one any = refl
  matched-second (u ∷ None ∷ []) within one any = refl
  matched-second (None ∷ Some c ∷ []) within one any = any ∙ sym (never t true c n (within 1 None (omega arith) c refl))
  matched-second (Some d ∷ Some c ∷ []) within one any = one ∙ sym (never t (d == a) c n (within 1 None (omega arith) c refl))
  matched-second (u ∷ v ∷ w ∷ ws) within one any = ap (λ e. t && (matches u a && e)) (and-false (matches v b) ∙ sym (and-false (matches v n)))

  -- the same of the first argument
  matched-first : (args : List (Option ℕ)) → Within n args → (t && same_args args (Some a ∷ Some b ∷ [])) ≡ false
      → (t && same_args args (Some a ∷ None ∷ [])) ≡ false → (t && match_each args (a ∷ b ∷ [])) ≡ (t && match_each args (n ∷ b ∷ []))
  matched-first [] within one any = refl
  matched-first (u ∷ []) within one any = ap (λ e. t && e) (and-false (matches u a) ∙ sym (and-false (matches u n)))
  matched-first (None ∷ v ∷ []) within one any = refl
  matched-first (Some c ∷ None ∷ []) within one any = any ∙ sym (never-first t true c n (within 0 None (omega arith) c refl))
  matched-first (Some c ∷ Some d ∷ []) within one any = one ∙ sym (never-first t (d == b) c n (within 0 None (omega arith) c refl))
  matched-first (u ∷ v ∷ w ∷ ws) within one any = ap (λ e. t && e)
      (ap (λ e. matches u a && e) (and-false (matches v b)) ∙ and-false (matches u a)
      ∙ sym (ap (λ e. matches u n && e) (and-false (matches v b)) ∙ and-false (matches u n)))

-- filters by tests that say the same
filter-same : (f g : Assertion → Bool) (xs : List Assertion) → All (λ z. f z ≡ g z) xs → filter f xs ≡ filter g xs
filter-same f g [] same = refl
filter-same f g (z ∷ zs) same =
    ap₂ (λ (b : Bool) (ls : List Assertion). if b then z ∷ ls else ls) (same 0 z (omega arith)) (filter-same f g zs (λ k d l. same (suc k) d (omega arith)))

-- a test that no element passes
none-passes : (test : Assertion → Bool) (xs : List Assertion) → list_any test xs ≡ false → All (λ z. test z ≡ false) xs
none-passes test xs none k d l = elim (cases_Bool (test (get_or xs k d))) [
  | inl e ↦ absurd (true≢false (sym (list_any_at test xs k d l e) ∙ none))
  | inr e ↦ e
]

-- what is asserted by the assertions that speak of a tuple
asserted-same : (p : Problem) (r : ℕ) (t u : List ℕ) → All (λ z. speaks_of (Reference r) t z ≡ speaks_of (Reference r) u z) p.assertions
    → asserted p (Reference r) t ≡ asserted p (Reference r) u
asserted-same p r t u same = ap₂ merge_first
    (ap (λ (zs : List Assertion). map (λ z. z.value) zs ++ [])
    (filter-same (is_ordinary (Reference r) t) (is_ordinary (Reference r) u) p.assertions (λ k d l. ap (λ (b : Bool). if (get_or p.assertions k d).is_default then false else b) (same k d l))))
    (ap (map (λ z. z.value))
    (filter-same (is_default (Reference r) t) (is_default (Reference r) u) p.assertions (λ k d l. ap (λ (b : Bool). if (get_or p.assertions k d).is_default then b else false) (same k d l))))

module _ (p : Problem) (r a b : ℕ) (one : list_any (speaks_at (Reference r) (Some a ∷ Some b ∷ [])) p.assertions ≡ false) where
  pub asserted-second : list_any (speaks_at (Reference r) (None ∷ Some b ∷ [])) p.assertions ≡ false
      → asserted p (Reference r) (a ∷ b ∷ []) ≡ asserted p (Reference r) (a ∷ length p.objects ∷ [])
  asserted-second any = asserted-same p r (a ∷ b ∷ []) (a ∷ length p.objects ∷ []) (λ k d l.
      let z = get_or p.assertions k d in
      matched-second (same_symbol z.symbol (Reference r)) a b (length p.objects) z.args (p.assertions_fit.each k d l).args
      (none-passes (speaks_at (Reference r) (Some a ∷ Some b ∷ [])) p.assertions one k d l)
      (none-passes (speaks_at (Reference r) (None ∷ Some b ∷ [])) p.assertions any k d l))

  pub asserted-first : list_any (speaks_at (Reference r) (Some a ∷ None ∷ [])) p.assertions ≡ false
      → asserted p (Reference r) (a ∷ b ∷ []) ≡ asserted p (Reference r) (length p.objects ∷ b ∷ [])
  asserted-first any = asserted-same p r (a ∷ b ∷ []) (length p.objects ∷ b ∷ []) (λ k d l.
      let z = get_or p.assertions k d in
      matched-first (same_symbol z.symbol (Reference r)) a b (length p.objects) z.args (p.assertions_fit.each k d l).args
      (none-passes (speaks_at (Reference r) (Some a ∷ Some b ∷ [])) p.assertions one k d l)
      (none-passes (speaks_at (Reference r) (Some a ∷ None ∷ [])) p.assertions any k d l))

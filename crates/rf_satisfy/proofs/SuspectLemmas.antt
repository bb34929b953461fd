-- Tuples of nodes whose origins match arguments, and what merged assertions break.
use Rattle.std.proofs.Common.{◌≡◌, ℕ, suc, ◌+◌, ◌-◌, ◌<◌, Bool, true, false, not, ◌&&◌, ◌||◌, eqb, Option, Some, None, List, [], ◌∷◌, ◌++◌, length, map, take, get_or, refl, sym, ap, ◌∙◌, subst, inl, inr, arith, true≢false, add-one, length-append}
use Rattle.std.specs.Prelude.{filter}
use Rattle.std.specs.List.{list_any}
use Rattle.std.specs.Option.{is_some, option_map}
use Rattle.std.specs.Bool.{then_some}
use Rattle.std.specs.Cmp.Lexicographic.{slice_cmp}
use Rattle.std.specs.Ordering.{nat_cmp}
use Rattle.std.specs.Cmp.{both_ways as same_tests}
use Rattle.std.proofs.lemmas.Bool.{cases_Bool, cases_order, and_parts, and_from, or_cases, or_left, or_right, both_ways, eq-eqb, eqb-true, false_from_ne_true}
use Rattle.std.proofs.lemmas.List.{get_or_default, take_all}
use Rattle.std.proofs.lemmas.List.Folds.{Any-from_list_any, list_any-append}
use Rattle.rf_finite.specs.Firsts.{earlier}
use Rattle.rf_finite.specs.Tuples.{IsTuple}
use Rattle.rf_finite.specs.Range.{first_below}
use Rattle.rf_finite.proofs.Range.{first_below-at, first_below-none, one-from_some_below, some_below-from_one}
use Rattle.rf_values.specs.Truth.{merge}
use Rattle.rf_values.specs.declared.truth.Truth.{Truth}
use Rattle.rf_values.specs.declared.truth.Truth.TheVariants.{True, False, Unknown, Error}
use Rattle.rf_problem.specs.Asserted.{default_values, is_default, is_literal_of, is_ordinary, match_each, matches, merge_first, ordinary_values, speaks_of, unwritten, when}
use Rattle.rf_problem.specs.Merged.{merge_all}
use Rattle.rf_problem.specs.Parts.{arity_of, object_at, same_symbol}
use Rattle.rf_problem.specs.declared.assertion.Assertion.{Assertion}
use Rattle.rf_problem.specs.declared.problem.Problem.{Problem}
use Rattle.rf_problem.specs.declared.symbol.Symbol.{Symbol}
use Rattle.rf_problem.specs.declared.symbol.Symbol.TheVariants.{Class}
use Rattle.rf_graph.specs.Evaluate.{holds}
use Rattle.rf_graph.specs.First.{breaks, first_broken}
use Rattle.rf_graph.specs.Graph.{origin_of, size_of}
use Rattle.rf_graph.specs.declared.graph.Graph.{Graph}
use Rattle.rf_graph.specs.declared.verdict.Violation.TheVariants.{Asserted}
use Rattle.rf_satisfy.specs.Suspects.{is_broken, is_stray_among, is_stray_from, is_suspect, is_suspect_by, is_unwritten_at}
use Rattle.rf_satisfy.specs.Tuples.{ArePassing, IsFirst, first_passing}
use Rattle.rf_satisfy.proofs.TupleLemmas.{IsFirst-earlier, IsFirst-same, first_passing-from_IsFirst, first_passing-none, first_tuple-is}

module _ (f : ℕ → ℕ) where
  -- arguments that match a prefix and one argument more
  pub matched-more : (args : List (Option ℕ)) (prefix : List ℕ) (x : ℕ) → length prefix < length args
      → match_each (take (length prefix) args) (map f prefix) ≡ true → matches (get_or args (length prefix) None) (f x) ≡ true
      → match_each (take (length (prefix ++ x ∷ [])) args) (map f (prefix ++ x ∷ [])) ≡ true
  matched-more [] prefix x l h m = absurd (omega arith)
  matched-more (a ∷ args) [] x l h m = and_from (matches a (f x)) true m refl
  matched-more (a ∷ args) (y ∷ prefix) x l h m =
      let parts = and_parts (matches a (f y)) (match_each (take (length prefix) args) (map f prefix)) h in
      and_from (matches a (f y)) (match_each (take (length (prefix ++ x ∷ [])) args) (map f (prefix ++ x ∷ []))) parts.0
      (matched-more args prefix x (omega arith) parts.1 m)

  -- where the argument after the prefix doesn't match, nothing matches that goes on with it
  pub unmatched : (args : List (Option ℕ)) (prefix : List ℕ) (x : ℕ) (u : List ℕ) → length prefix < length args
      → matches (get_or args (length prefix) None) (f x) ≡ false → match_each args (map f ((prefix ++ x ∷ []) ++ u)) ≡ false
  unmatched [] prefix x u l m = absurd (omega arith)
  unmatched (a ∷ args) [] x u l m = rw m refl
  unmatched (a ∷ args) (y ∷ prefix) x u l m = let rest = unmatched args prefix x u (omega arith) m in
      elim (cases_Bool (matches a (f y))) [ inl e ↦ rw (e, rest) refl | inr e ↦ rw e refl ]

-- the search at the nodes that match alone is the search at all nodes
module _ (p : Problem) (g : Graph) (s : Symbol) (args : List (Option ℕ)) (value : Truth) (prefix items : List ℕ) (more : ℕ)
    (short : length prefix < length args) (nodes : ArePassing (size_of g) (λ x. matches (get_or args (length prefix) None) (origin_of g x)) items) where
  abbrev goes_on : ℕ → Option (List ℕ)
  goes_on x = first_passing (size_of g) more (prefix ++ x ∷ []) (is_suspect p g s args value)

  passed_over : (x : ℕ) → matches (get_or args (length prefix) None) (origin_of g x) ≡ false → goes_on x ≡ None
  passed_over x m = first_passing-none (size_of g) more (prefix ++ x ∷ []) (is_suspect p g s args value) (λ u h.
      let e = unmatched (origin_of g) args prefix x u short m in rw e refl)

  below : (x : ℕ) → x < size_of g → ((i : ℕ) → i < length items → get_or items i 0 ≡ x → goes_on x ≡ None) → goes_on x ≡ None
  below x l h = elim (cases_Bool (matches (get_or args (length prefix) None) (origin_of g x))) [
    | inl t ↦ (let c = Any-from_list_any (λ y. eqb y x) items (nodes.complete x l t) in h c.0 c.2 (get_or_default items c.0 0 c.1 c.2 ∙ (c.3 ∙ eqb-true c.1 x c.4)))
    | inr f ↦ passed_over x f
  ]

  pub search-none : ((i : ℕ) → i < length items → goes_on (get_or items i 0) ≡ None) → first_passing (size_of g) (suc more) prefix (is_suspect p g s args value) ≡ None
  search-none none = first_below-none (size_of g) goes_on (λ x l. below x l (λ i li e. subst (λ (y : ℕ). goes_on y ≡ None) e (none i li)))

  pub search-here : (j : ℕ) (t : List ℕ) → j < length items → ((i : ℕ) → i < j → goes_on (get_or items i 0) ≡ None) → goes_on (get_or items j 0) ≡ Some t
      → first_passing (size_of g) (suc more) prefix (is_suspect p g s args value) ≡ Some t
  search-here j t l none here =
      let lj = (nodes.only j l).0 in
      first_below-at (size_of g) goes_on (get_or items j 0) t lj
      (first_below-none (get_or items j 0) goes_on (λ x lx. below x (omega arith) (λ i li e. elim (cases_order i j) [
        | inl q ↦ absurd (let w = ap (λ (k : ℕ). get_or items k 0) q in omega arith)
        | inr o ↦ elim o [
          | inl lt ↦ subst (λ (y : ℕ). goes_on y ≡ None) e (none i lt)
          | inr gt ↦ absurd (let w = nodes.ascending j i gt li in omega arith)
        ]
      ]))) here

-- what is merged breaks where one of its parts does
breaks-merge : (a b : Truth) (h : Bool) → breaks (merge a b) h ≡ true → (breaks a h || breaks b h) ≡ true
breaks-merge True True true e = e
breaks-merge True True false e = refl
breaks-merge True False true e = refl
breaks-merge True False false e = refl
breaks-merge True Unknown true e = e
breaks-merge True Unknown false e = refl
breaks-merge True Error h e = or_right (not h) true refl
breaks-merge False True true e = refl
breaks-merge False True false e = refl
breaks-merge False False true e = refl
breaks-merge False False false e = e
breaks-merge False Unknown true e = refl
breaks-merge False Unknown false e = e
breaks-merge False Error h e = or_right h true refl
breaks-merge Unknown b h e = e
breaks-merge Error b h e = refl

breaks-merge_all : (vs : List Truth) (h : Bool) → breaks (merge_all vs) h ≡ true → list_any (λ v. breaks v h) vs ≡ true
breaks-merge_all [] h e = e
breaks-merge_all (v ∷ vs) h e = elim (or_cases (breaks v h) (breaks (merge_all vs) h) (breaks-merge v (merge_all vs) h e)) [
  | inl here ↦ or_left (breaks v h) (list_any (λ v. breaks v h) vs) here
  | inr rest ↦ or_right (breaks v h) (list_any (λ v. breaks v h) vs) (breaks-merge_all vs h rest)
]

-- where a value of the assertions that a test keeps breaks, one of them is kept and breaks
breaks-kept : (keep : Assertion → Bool) (h : Bool) (as' : List Assertion) → list_any (λ v. breaks v h) (map (λ a. a.value) (filter keep as')) ≡ true
    → list_any (λ a. keep a && breaks a.value h) as' ≡ true
breaks-kept keep h [] e = e
breaks-kept keep h (a ∷ rest) e = elim (cases_Bool (keep a)) [
  | inl k ↦ elim (or_cases (breaks a.value h) (list_any (λ v. breaks v h) (map (λ a. a.value) (filter keep rest))) (rw k at e)) [
    | inl b ↦ or_left (keep a && breaks a.value h) (list_any (λ a. keep a && breaks a.value h) rest) (and_from (keep a) (breaks a.value h) k b)
    | inr r ↦ or_right (keep a && breaks a.value h) (list_any (λ a. keep a && breaks a.value h) rest) (breaks-kept keep h rest r)
  ]
  | inr k ↦ or_right (keep a && breaks a.value h) (list_any (λ a. keep a && breaks a.value h) rest) (breaks-kept keep h rest (rw k at e))
]

pub list_any-weaker : (p q : Assertion → Bool) (xs : List Assertion) → ((a : Assertion) → p a ≡ true → q a ≡ true) → list_any p xs ≡ true → list_any q xs ≡ true
list_any-weaker p q [] w e = e
list_any-weaker p q (x ∷ xs) w e = elim (or_cases (p x) (list_any p xs) e) [
  | inl h ↦ or_left (q x) (list_any q xs) (w x h)
  | inr r ↦ or_right (q x) (list_any q xs) (list_any-weaker p q xs w r)
]

-- what isn't satisfied altogether is so at some assertion, written or not
module _ (p : Problem) (g : Graph) (s : Symbol) (t : List ℕ) where
  abbrev objects : List ℕ
  objects = map (origin_of g) t

  abbrev now : Bool
  now = holds p g s t

  abbrev spoken : Assertion → Bool
  spoken a = speaks_of s objects a && breaks a.value now

  ordinary-spoken : (a : Assertion) → (is_ordinary s objects a && breaks a.value now) ≡ true → spoken a ≡ true
  ordinary-spoken a e = elim (cases_Bool a.is_default) [ inl d ↦ absurd (let q : false ≡ true = rw d at e in cc) | inr d ↦ rw d at e ]

  default-spoken : (a : Assertion) → (is_default s objects a && breaks a.value now) ≡ true → spoken a ≡ true
  default-spoken a e = elim (cases_Bool a.is_default) [ inl d ↦ rw d at e | inr d ↦ absurd (let q : false ≡ true = rw d at e in cc) ]

  by_first : (os ds : List Truth) → breaks (merge_first os ds) now ≡ true → (list_any (λ v. breaks v now) os || list_any (λ v. breaks v now) ds) ≡ true
  by_first [] ds e = breaks-merge_all ds now e
  by_first (o ∷ os) ds e = or_left (list_any (λ v. breaks v now) (o ∷ os)) (list_any (λ v. breaks v now) ds) (breaks-merge_all (o ∷ os) now e)

  abbrev pub found : Bool
  found = is_unwritten_at p g s t || list_any (is_suspect_by p g s t) p.assertions

  from_spoken : is_broken p g s t ≡ true → list_any spoken p.assertions ≡ true → found ≡ true
  from_spoken b e = or_right (is_unwritten_at p g s t) (list_any (is_suspect_by p g s t) p.assertions) (list_any-weaker spoken (is_suspect_by p g s t) p.assertions (λ a h.
      let one = and_parts (same_symbol a.symbol s && match_each a.args objects) (breaks a.value now) h in
      let two = and_parts (same_symbol a.symbol s) (match_each a.args objects) one.0 in
      and_from (same_symbol a.symbol s) (is_suspect p g s a.args a.value t) two.0
      (and_from (match_each a.args objects) (breaks a.value now && is_broken p g s t) two.1 (and_from (breaks a.value now) (is_broken p g s t) one.1 b))) e)

  abbrev says_unwritten : Bool
  says_unwritten = list_any (λ v. breaks v now) (unwritten p s objects)

  from_unwritten : is_broken p g s t ≡ true → says_unwritten ≡ true → found ≡ true
  from_unwritten b e = or_left (is_unwritten_at p g s t) (list_any (is_suspect_by p g s t) p.assertions) (and_from says_unwritten (is_broken p g s t) e b)

  broken-found : is_broken p g s t ≡ true → found ≡ true
  broken-found b = elim (or_cases (list_any (λ v. breaks v now) (ordinary_values p s objects)) (list_any (λ v. breaks v now) (default_values p s objects)) (by_first (ordinary_values p s objects) (default_values p s objects) b)) [
    | inl o ↦ elim (or_cases (list_any (λ v. breaks v now) (map (λ a. a.value) (filter (is_ordinary s objects) p.assertions))) says_unwritten
        (sym (list_any-append (λ v. breaks v now) (map (λ a. a.value) (filter (is_ordinary s objects) p.assertions)) (unwritten p s objects)) ∙ o)) [
          | inl h ↦ from_spoken b (list_any-weaker (λ a. is_ordinary s objects a && breaks a.value now) spoken p.assertions ordinary-spoken (breaks-kept (is_ordinary s objects) now p.assertions h))
          | inr h ↦ from_unwritten b h
        ]
    | inr d ↦ from_spoken b (list_any-weaker (λ a. is_default s objects a && breaks a.value now) spoken p.assertions default-spoken (breaks-kept (is_default s objects) now p.assertions d))
  ]

  suspect-broken : (as' : List Assertion) → list_any (is_suspect_by p g s t) as' ≡ true → is_broken p g s t ≡ true
  suspect-broken [] e = absurd (true≢false (sym e))
  suspect-broken (a ∷ rest) e = elim (or_cases (is_suspect_by p g s t a) (list_any (is_suspect_by p g s t) rest) e) [
    | inl h ↦ (let one = and_parts (same_symbol a.symbol s) (is_suspect p g s a.args a.value t) h in
        let two = and_parts (match_each a.args objects) (breaks a.value now && is_broken p g s t) one.1 in
        (and_parts (breaks a.value now) (is_broken p g s t) two.1).1)
    | inr r ↦ suspect-broken rest r
  ]

  found-broken : found ≡ true → is_broken p g s t ≡ true
  found-broken e = elim (or_cases (is_unwritten_at p g s t) (list_any (is_suspect_by p g s t) p.assertions) e) [
    | inl h ↦ (and_parts says_unwritten (is_broken p g s t) h).1
    | inr r ↦ suspect-broken p.assertions r
  ]

  pub found-is : found ≡ is_broken p g s t
  found-is = elim (cases_Bool (is_broken p g s t)) [
    | inl b ↦ broken-found b ∙ sym b
    | inr b ↦ false_from_ne_true found (λ h. both_ways (is_broken p g s t) b (found-broken h)) ∙ sym b
  ]

is_some-false : {A : Type 0} (o : Option A) → is_some o ≡ false → o ≡ None
is_some-false None e = refl
is_some-false (Some a) e = absurd (true≢false e)

-- a loop through the nodes that match the argument after the prefix
module _ (p : Problem) (g : Graph) (s : Symbol) (args : List (Option ℕ)) (value : Truth) (prefix items : List ℕ)
    (short : length prefix < length args) (nodes : ArePassing (size_of g) (λ x. matches (get_or args (length prefix) None) (origin_of g x)) items) where
  abbrev more : ℕ
  more = length args - (length prefix + 1)

  abbrev next : ℕ → Option (List ℕ)
  next i = first_passing (size_of g) more (prefix ++ get_or items i 0 ∷ []) (is_suspect p g s args value)

  abbrev all : Option (List ℕ)
  all = first_passing (size_of g) (length args - length prefix) prefix (is_suspect p g s args value)

  one_more : length args - length prefix ≡ suc more
  one_more = omega arith

  at_next : (i : ℕ) (o : Option (List ℕ)) (long : List ℕ) → long ≡ prefix ++ get_or items i 0 ∷ []
      → o ≡ first_passing (size_of g) (length args - length long) long (is_suspect p g s args value) → o ≡ next i
  at_next i o long e h =
      let len : length (prefix ++ get_or items i 0 ∷ []) ≡ length prefix + 1 = length-append prefix (get_or items i 0 ∷ []) in
      rw (e, len) at h

  pub search-ended : ((i : ℕ) → i < length items → next i ≡ None) → None ≡ all
  search-ended none = sym (rw one_more (search-none p g s args value prefix items more short nodes none))

  pub search-found : (j : ℕ) (o : Option (List ℕ)) (long : List ℕ) → j < length items → ((i : ℕ) → i < j → next i ≡ None) → long ≡ prefix ++ get_or items j 0 ∷ []
      → o ≡ first_passing (size_of g) (length args - length long) long (is_suspect p g s args value) → is_some o ≡ true → o ≡ all
  search-found j None long l none e h t = absurd (true≢false (sym t))
  search-found j (Some u) long l none e h t =
      sym (rw one_more (search-here p g s args value prefix items more short nodes j u l none (sym (at_next j (Some u) long e h))))

  pub search-next : (j : ℕ) (o : Option (List ℕ)) (long : List ℕ) → ((i : ℕ) → i < j → next i ≡ None) → long ≡ prefix ++ get_or items j 0 ∷ []
      → o ≡ first_passing (size_of g) (length args - length long) long (is_suspect p g s args value) → is_some o ≡ false
      → (i : ℕ) → i < j + 1 → next i ≡ None
  search-next j o long none e h f i l = elim (cases_order i j) [
    | inl q ↦ subst (λ (k : ℕ). next k ≡ None) (sym q) (sym (at_next j o long e h) ∙ is_some-false o f)
    | inr r ↦ elim r [ inl lt ↦ none i lt | inr gt ↦ absurd (omega arith) ]
  ]

-- the search has come to a whole tuple
pub search-leaf : (p : Problem) (g : Graph) (s : Symbol) (args : List (Option ℕ)) (value : Truth) (prefix : List ℕ) (found : Bool) → length prefix ≡ length args
    → match_each (take (length prefix) args) (map (origin_of g) prefix) ≡ true → found ≡ (breaks value (holds p g s prefix) && is_broken p g s prefix)
    → first_passing (size_of g) (length args - length prefix) prefix (is_suspect p g s args value) ≡ then_some found prefix
search-leaf p g s args value prefix found l h e =
    let none : length args - length prefix ≡ 0 = omega arith in
    let whole : take (length prefix) args ≡ args = take_all (length prefix) args (omega arith) in
    let m : match_each args (map (origin_of g) prefix) ≡ true = rw whole at h in
    rw (none, m, ← e) refl

pub first_passing-from_start : (n k m : ℕ) (test : List ℕ → Bool) (o : Option (List ℕ)) → k ≡ m → o ≡ first_passing n (k - 0) [] test → o ≡ first_passing n m [] test
first_passing-from_start n k m test o e h = let q : k - 0 ≡ m = omega arith in rw q at h

or-false : (b : Bool) → (b || false) ≡ b
or-false true = refl
or-false false = refl

when-breaks : (b held : Bool) → list_any (λ v. breaks v held) (when b True) ≡ (b && not held)
when-breaks true held = or-false (not held)
when-breaks false held = refl

-- a literal is stated to have its enum's class
module _ (p : Problem) (g : Graph) (c : ℕ) where
  abbrev is_literal : ℕ → Bool
  is_literal o = is_literal_of (object_at p.objects o).kind c

  -- whether what is asserted of the class isn't satisfied at a node of this literal
  abbrev is_stray : ℕ → List ℕ → Bool
  is_stray o t = is_literal o && is_suspect p g (Class c) (Some o ∷ []) True t

  module _ (x : ℕ) (from : origin_of g x < length p.objects) where
    abbrev own : ℕ
    own = origin_of g x

    abbrev lacks : Bool
    lacks = not (holds p g (Class c) (x ∷ []))

    abbrev fails : Bool
    fails = is_broken p g (Class c) (x ∷ [])

    -- what is asserted unwritten breaks at a literal's node that lacks the class
    abbrev breaks_unwritten : Bool
    breaks_unwritten = list_any (λ v. breaks v (holds p g (Class c) (x ∷ []))) (unwritten p (Class c) (own ∷ []))

    breaks_unwritten-is : breaks_unwritten ≡ (is_literal own && lacks)
    breaks_unwritten-is = when-breaks (is_literal own) (holds p g (Class c) (x ∷ []))

    stray-unwritten : is_stray_among p g c (length p.objects) (x ∷ []) ≡ true → is_unwritten_at p g (Class c) (x ∷ []) ≡ true
    stray-unwritten h =
        let one = one-from_some_below (length p.objects) (λ o. is_stray o (x ∷ [])) h in
        let first = and_parts (is_literal one.0) (is_suspect p g (Class c) (Some one.0 ∷ []) True (x ∷ [])) one.2 in
        let second = and_parts (eqb one.0 own && true) (lacks && fails) first.1 in
        let third = and_parts lacks fails second.1 in
        let same = eqb-true one.0 own (and_parts (eqb one.0 own) true second.0).0 in
        and_from breaks_unwritten fails (breaks_unwritten-is ∙ and_from (is_literal own) lacks (subst (λ (o : ℕ). is_literal o ≡ true) same first.0) third.0) third.1

    unwritten-stray : is_unwritten_at p g (Class c) (x ∷ []) ≡ true → is_stray_among p g c (length p.objects) (x ∷ []) ≡ true
    unwritten-stray h =
        let first = and_parts breaks_unwritten fails h in
        let second = and_parts (is_literal own) lacks (sym breaks_unwritten-is ∙ first.0) in
        some_below-from_one (length p.objects) (λ o. is_stray o (x ∷ [])) own from
        (and_from (is_literal own) (is_suspect p g (Class c) (Some own ∷ []) True (x ∷ [])) second.0
        (and_from (eqb own own && true) (lacks && fails) (and_from (eqb own own) true (eq-eqb own own refl) refl) (and_from lacks fails second.1 first.1)))

  -- so what isn't satisfied at some literal's node is what is asserted there unwritten
  strays : ((x : ℕ) → x < size_of g → origin_of g x < length p.objects) → (t : List ℕ) → IsTuple (size_of g) 1 t → is_stray_among p g c (length p.objects) t ≡ is_unwritten_at p g (Class c) t
  strays from [] h = absurd (let l = h.many in omega arith)
  strays from (x ∷ []) h =
      let own = from x (h.below 0 0 (omega arith)) in
      same_tests (is_stray_among p g c (length p.objects) (x ∷ [])) (is_unwritten_at p g (Class c) (x ∷ [])) (stray-unwritten x own) (unwritten-stray x own)
  strays from (x ∷ y ∷ t) h = absurd (let l = h.many in omega arith)

  -- a loop through the objects
  module _ (o : ℕ) (first : Option (List ℕ)) (so_far : IsFirst (size_of g) 1 (is_stray_among p g c o) first) where
    pub strays-more : (other : Option (List ℕ)) → IsFirst (size_of g) 1 (is_stray_from p g c o) other
        → IsFirst (size_of g) 1 (is_stray_among p g c (o + 1)) (earlier (slice_cmp nat_cmp) first other)
    strays-more other h = IsFirst-same (size_of g) 1 (λ t. is_stray_among p g c o t || is_stray_from p g c o t) (is_stray_among p g c (o + 1)) (earlier (slice_cmp nat_cmp) first other)
        (λ t u. rw add-one refl)
        (IsFirst-earlier (size_of g) 1 (is_stray_among p g c o) (is_stray_from p g c o) first other so_far h)

  pub strays-ended : (n i : ℕ) (first : Option (List ℕ)) → n ≡ length p.objects → ((x : ℕ) → x < size_of g → origin_of g x < n) → i ≡ n
      → IsFirst (size_of g) 1 (is_stray_among p g c i) first → IsFirst (size_of g) 1 (is_unwritten_at p g (Class c)) first
  strays-ended n i first count from all h = IsFirst-same (size_of g) 1 (is_stray_among p g c i) (is_unwritten_at p g (Class c)) first
      (λ t u. ap (λ (k : ℕ). is_stray_among p g c k t) (all ∙ count) ∙ strays (λ x l. subst (λ (k : ℕ). origin_of g x < k) count (from x l)) t u) h

-- the first violation of a symbol is at the first tuple
pub first_broken-is : (p : Problem) (g : Graph) (s : Symbol) (o : Option (List ℕ)) → IsFirst (size_of g) (arity_of p.predicates s) (is_broken p g s) o
    → option_map (Asserted s) o ≡ first_broken p g s
first_broken-is p g s o h =
    sym (first_tuple-is (size_of g) (arity_of p.predicates s) [] (is_broken p g s) (Asserted s)
    ∙ ap (option_map (Asserted s)) (first_passing-from_IsFirst (size_of g) (arity_of p.predicates s) (is_broken p g s) o h))

-- a search through numbers that ends where there is a value
pub first_below-found : {A : Type 0} (n : ℕ) (f : ℕ → Option A) (k : ℕ) (o : Option A) → k < n → first_below k f ≡ None → o ≡ f k → is_some o ≡ true → o ≡ first_below n f
first_below-found n f k None l none e t = absurd (true≢false (sym t))
first_below-found n f k (Some v) l none e t = sym (first_below-at n f k v l none (sym e))

pub first_below-next : {A : Type 0} (f : ℕ → Option A) (k : ℕ) (o : Option A) → first_below k f ≡ None → o ≡ f k → is_some o ≡ false → first_below (k + 1) f ≡ None
first_below-next f k o none e t = let here = sym e ∙ is_some-false o t in rw (add-one, none, here) refl

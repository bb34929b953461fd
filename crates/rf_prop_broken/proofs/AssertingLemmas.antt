-- Where assertions say that a predicate holds, or that it doesn't.
use Rattle.std.proofs.Common.{◌≡◌, ◌⊎◌, ℕ, zero, suc, ◌+◌, ◌<◌, ◌≤◌, Bool, true, false, ◌&&◌, if◌then◌else◌, Option, None, Some, List, [], ◌∷◌, ◌++◌, All, length, map, take, filter, refl, sym, ap, ◌∙◌, inl, inr, arith, true≢false, append_assoc, append-nil}
use Rattle.std.specs.List.{list_all, list_any}
use Rattle.std.proofs.lemmas.Bool.{and_from, and_parts, both_ways, cases_Bool, cases_order, or_cases, or_left, or_right}
use Rattle.std.proofs.lemmas.List.{length-take-le}
use Rattle.rf_values.specs.Truth.{merge}
use Rattle.rf_values.specs.declared.truth.Truth.{Truth}
use Rattle.rf_values.specs.declared.truth.Truth.TheVariants.{True, False, Unknown, Error}
use Rattle.rf_problem.specs.Asserted.{asserted, is_default, is_ordinary, match_each, matches, merge_all, merge_first, speaks_of, when}
use Rattle.rf_problem.specs.Parts.{predicate_at, same_symbol}
use Rattle.rf_problem.specs.Valid.{is_free}
use Rattle.rf_problem.specs.declared.assertion.Assertion.{Assertion}
use Rattle.rf_problem.specs.declared.problem.Problem.{Problem}
use Rattle.rf_problem.specs.declared.symbol.Symbol.TheVariants.{Predicate as Defined}
use Rattle.rf_evaluate.specs.Elements.{count, element_at, includes}
use Rattle.rf_evaluate.specs.declared.elements.Elements.{Elements}
use Rattle.rf_evaluate.proofs.Candidates.{number-of}
use Rattle.rf_state.specs.State.{State, object_of}
use Rattle.rf_rules.specs.Predicates.{origins_of}
use Rattle.rf_rules.specs.Words.{is_false}
use Rattle.rf_prop_broken.specs.Asserting.{Matches, denies, has_true, is_affirmed, is_deniable}
use Rattle.rf_prop_broken.specs.Best.{Improves}
use Rattle.rf_prop_broken.proofs.BestLemmas.{improves-none, improves-then, improves-weaker}

any-weaker : {X : Type 0} (p q : X → Bool) (xs : List X) → ((x : X) → p x ≡ true → q x ≡ true) → list_any p xs ≡ true → list_any q xs ≡ true
any-weaker p q [] to h = h
any-weaker p q (x ∷ xs) to h = elim (or_cases (p x) (list_any p xs) h) [
  | inl e ↦ or_left (q x) (list_any q xs) (to x e)
  | inr e ↦ or_right (q x) (list_any q xs) (any-weaker p q xs to e)
]

any-appended : {X : Type 0} (p : X → Bool) (xs ys : List X) → list_any p (xs ++ ys) ≡ true → (list_any p xs ≡ true) ⊎ (list_any p ys ≡ true)
any-appended p [] ys h = inr h
any-appended p (x ∷ xs) ys h = elim (or_cases (p x) (list_any p (xs ++ ys)) h) [
  | inl e ↦ inl (or_left (p x) (list_any p xs) e)
  | inr e ↦ elim (any-appended p xs ys e) [ inl a ↦ inl (or_right (p x) (list_any p xs) a) | inr b ↦ inr b ]
]

-- what a merge says is said by one of what is merged
module _ (says : Truth → Bool) (silent : says Unknown ≡ false) (parts : (a b : Truth) → says (merge a b) ≡ true → (says a ≡ true) ⊎ (says b ≡ true)) where
  said-merged : (vs : List Truth) → says (merge_all vs) ≡ true → list_any says vs ≡ true
  said-merged [] h = absurd (both_ways (says Unknown) silent h)
  said-merged (v ∷ vs) h = elim (parts v (merge_all vs) h) [
    | inl a ↦ or_left (says v) (list_any says vs) a
    | inr b ↦ or_right (says v) (list_any says vs) (said-merged vs b)
  ]

  said-first : (vs ws : List Truth) → says (merge_first vs ws) ≡ true → (list_any says vs ≡ true) ⊎ (list_any says ws ≡ true)
  said-first [] ws h = inr (said-merged ws h)
  said-first (v ∷ vs) ws h = inl (said-merged (v ∷ vs) h)

  said-kept : (test : Assertion → Bool) (claims : List Assertion) → list_any says (map (λ a. a.value) (filter test claims)) ≡ true
      → list_any (λ a. test a && says a.value) claims ≡ true
  said-kept test [] h = h
  said-kept test (a ∷ claims) h = elim (cases_Bool (test a)) [
    | inl e ↦ elim (or_cases (says a.value) (list_any says (map (λ x. x.value) (filter test claims))) (rw e at h)) [
      | inl v ↦ or_left (test a && says a.value) (list_any (λ x. test x && says x.value) claims) (and_from (test a) (says a.value) e v)
      | inr v ↦ or_right (test a && says a.value) (list_any (λ x. test x && says x.value) claims) (said-kept test claims v)
    ]
    | inr e ↦ or_right (test a && says a.value) (list_any (λ x. test x && says x.value) claims) (said-kept test claims (rw e at h))
  ]

  module _ (p : Problem) (q : ℕ) (t : List ℕ) where
    abbrev said_by : Assertion → Bool
    said_by a = (same_symbol a.symbol (Defined q) && says a.value) && match_each a.args t

    ordinary : (a : Assertion) → (is_ordinary (Defined q) t a && says a.value) ≡ true → said_by a ≡ true
    ordinary a h =
        let both = and_parts (is_ordinary (Defined q) t a) (says a.value) h in
        let speaks = and_parts (same_symbol a.symbol (Defined q)) (match_each a.args t) (speaks-ordinary a.is_default both.0) in
        and_from (same_symbol a.symbol (Defined q) && says a.value) (match_each a.args t) (and_from (same_symbol a.symbol (Defined q)) (says a.value) speaks.0 both.1) speaks.1
      where
        speaks-ordinary : (b : Bool) → (if b then false else speaks_of (Defined q) t a) ≡ true → speaks_of (Defined q) t a ≡ true
        speaks-ordinary true e = absurd (true≢false (sym e))
        speaks-ordinary false e = e

    default : (a : Assertion) → (is_default (Defined q) t a && says a.value) ≡ true → said_by a ≡ true
    default a h =
        let both = and_parts (is_default (Defined q) t a) (says a.value) h in
        let speaks = and_parts (same_symbol a.symbol (Defined q)) (match_each a.args t) (speaks-default a.is_default both.0) in
        and_from (same_symbol a.symbol (Defined q) && says a.value) (match_each a.args t) (and_from (same_symbol a.symbol (Defined q)) (says a.value) speaks.0 both.1) speaks.1
      where
        speaks-default : (b : Bool) → (if b then speaks_of (Defined q) t a else false) ≡ true → speaks_of (Defined q) t a ≡ true
        speaks-default true e = e
        speaks-default false e = absurd (true≢false (sym e))

    abbrev unwritten_values : List Truth
    unwritten_values = when (predicate_at p.predicates q).is_error False

    said-asserted : says (asserted p (Defined q) t) ≡ true → (list_any says unwritten_values ≡ true) ⊎ (list_any said_by p.assertions ≡ true)
    said-asserted h = elim (said-first (map (λ a. a.value) (filter (is_ordinary (Defined q) t) p.assertions) ++ unwritten_values)
        (map (λ a. a.value) (filter (is_default (Defined q) t) p.assertions)) h) [
          | inl first ↦ elim (any-appended says (map (λ a. a.value) (filter (is_ordinary (Defined q) t) p.assertions)) unwritten_values first) [
            | inl a ↦ inr (any-weaker (λ a. is_ordinary (Defined q) t a && says a.value) said_by p.assertions ordinary (said-kept (is_ordinary (Defined q) t) p.assertions a))
            | inr b ↦ inl b
          ]
          | inr other ↦ inr (any-weaker (λ a. is_default (Defined q) t a && says a.value) said_by p.assertions default (said-kept (is_default (Defined q) t) p.assertions other))
        ]

has_true-parts : (a b : Truth) → has_true (merge a b) ≡ true → (has_true a ≡ true) ⊎ (has_true b ≡ true)
has_true-parts True b h = inl refl
has_true-parts Error b h = inl refl
has_true-parts False True h = inr refl
has_true-parts False False h = absurd (true≢false (sym h))
has_true-parts False Unknown h = absurd (true≢false (sym h))
has_true-parts False Error h = inr refl
has_true-parts Unknown True h = inr refl
has_true-parts Unknown False h = absurd (true≢false (sym h))
has_true-parts Unknown Unknown h = absurd (true≢false (sym h))
has_true-parts Unknown Error h = inr refl

is_false-parts : (a b : Truth) → is_false (merge a b) ≡ true → (is_false a ≡ true) ⊎ (is_false b ≡ true)
is_false-parts False b h = inl refl
is_false-parts True True h = absurd (true≢false (sym h))
is_false-parts True False h = absurd (true≢false (sym h))
is_false-parts True Unknown h = absurd (true≢false (sym h))
is_false-parts True Error h = absurd (true≢false (sym h))
is_false-parts Error True h = absurd (true≢false (sym h))
is_false-parts Error False h = absurd (true≢false (sym h))
is_false-parts Error Unknown h = absurd (true≢false (sym h))
is_false-parts Error Error h = absurd (true≢false (sym h))
is_false-parts Unknown True h = absurd (true≢false (sym h))
is_false-parts Unknown False h = inr refl
is_false-parts Unknown Unknown h = absurd (true≢false (sym h))
is_false-parts Unknown Error h = absurd (true≢false (sym h))

not_unwritten : (b : Bool) → list_any has_true (when b False) ≡ true → ⊥
not_unwritten true h = true≢false (sym h)
not_unwritten false h = true≢false (sym h)

-- what is asserted to hold is affirmed, and what is asserted not to hold can be denied
pub affirmed-from_asserted : (p : Problem) (q : ℕ) (t : List ℕ) → has_true (asserted p (Defined q) t) ≡ true → is_affirmed p q t ≡ true
affirmed-from_asserted p q t h = elim (said-asserted has_true refl has_true-parts p q t h) [
  | inl n ↦ absurd (not_unwritten (predicate_at p.predicates q).is_error n)
  | inr s ↦ s
]

is_error-unwritten : (b : Bool) → list_any is_false (when b False) ≡ true → b ≡ true
is_error-unwritten true h = refl
is_error-unwritten false h = absurd (true≢false (sym h))

pub deniable-from_asserted : (p : Problem) (q : ℕ) (t : List ℕ) → is_false (asserted p (Defined q) t) ≡ true → is_deniable p q ≡ true
deniable-from_asserted p q t h = elim (said-asserted is_false refl is_false-parts p q t h) [
  | inl n ↦ or_left (predicate_at p.predicates q).is_error (list_any (denies q) p.assertions) (is_error-unwritten (predicate_at p.predicates q).is_error n)
  | inr s ↦ or_right (predicate_at p.predicates q).is_error (list_any (denies q) p.assertions)
      (any-weaker (λ a. (same_symbol a.symbol (Defined q) && is_false a.value) && match_each a.args t) (denies q) p.assertions
      (λ a both. (and_parts (same_symbol a.symbol (Defined q) && is_false a.value) (match_each a.args t) both).0) s)
]

-- claims many arguments match claims there are objects
pub match_each-length : (args : List (Option ℕ)) (t : List ℕ) → match_each args t ≡ true → length args ≡ length t
match_each-length [] [] h = refl
match_each-length [] (o ∷ t) h = absurd (true≢false (sym h))
match_each-length (a ∷ args) [] h = absurd (true≢false (sym h))
match_each-length (a ∷ args) (o ∷ t) h = ap suc (match_each-length args t (and_parts (matches a o) (match_each args t) h).1)

pub length-origins_of : (s : State) (t : List ℕ) → length (origins_of s t) ≡ length t
length-origins_of s [] = refl
length-origins_of s (o ∷ t) = ap suc (length-origins_of s t)

pub no_arguments : (args : List (Option ℕ)) → length args ≡ 0 → args ≡ []
no_arguments [] e = refl
no_arguments (a ∷ args) e = absurd (omega (arith, e))

-- the list goes on from these objects with one of the first n elements, and then with objects that the arguments match
pub record MatchesAmong (s : State) (objects : List ℕ) (args : List (Option ℕ)) (elements : Elements) (n : ℕ) (t : List ℕ) : Type 0 where
  pub number : ℕ
  pub among : number < n
  pub rest : List ℕ
  pub same : t ≡ objects ++ element_at elements number ∷ rest
  pub there : All (λ o. o < length s.objects) rest
  pub matching : match_each args (origins_of s rest) ≡ true

module _ (passes : List ℕ → Bool) (s : State) (objects : List ℕ) where
  -- with no arguments left there is one list
  pub matches-ended : (o b : Option (List ℕ)) → Improves passes (λ t. t ≡ objects) o b → Improves passes (Matches s objects []) o b
  matches-ended o b h = improves-weaker passes (λ t. t ≡ objects) (Matches s objects []) o b (λ t m f. only t m) h
    where
      none : (rest : List ℕ) → match_each [] (origins_of s rest) ≡ true → rest ≡ []
      none [] e = refl
      none (x ∷ rest) e = absurd (true≢false (sym e))

      only : (t : List ℕ) → Matches s objects [] t → t ≡ objects
      only t m = m.same ∙ (ap (λ (rest : List ℕ). objects ++ rest) (none m.rest m.matching) ∙ append-nil objects)

  -- with one argument more, its elements are gone over
  module _ (args : List (Option ℕ)) (elements : Elements) where
    pub matches-none : (o : Option (List ℕ)) → Improves passes (MatchesAmong s objects args elements 0) o o
    matches-none o = improves-none passes (MatchesAmong s objects args elements 0) o (λ t m. let l = m.among in absurd (omega (arith, l)))

    pub matches-next : (i : ℕ) (o b c : Option (List ℕ)) (next : List ℕ) → next ≡ objects ++ element_at elements i ∷ []
        → Improves passes (MatchesAmong s objects args elements i) o b
        → Improves passes (Matches s next args) b c → Improves passes (MatchesAmong s objects args elements (i + 1)) o c
    matches-next i o b c next is before now =
        improves-weaker passes (λ t. MatchesAmong s objects args elements i t ⊎ Matches s next args t)
        (MatchesAmong s objects args elements (i + 1)) o c (λ t m f. each t m)
        (improves-then passes (MatchesAmong s objects args elements i) (Matches s next args) o b c before now)
      where
        each : (t : List ℕ) → MatchesAmong s objects args elements (i + 1) t → MatchesAmong s objects args elements i t ⊎ Matches s next args t
        each t m = elim (cases_order m.number i) [
          | inl same ↦ inr (record {
            rest = m.rest;
            same = m.same ∙ (ap (λ (k : ℕ). objects ++ element_at elements k ∷ m.rest) same
                ∙ (sym (append_assoc objects (element_at elements i ∷ []) m.rest) ∙ ap (λ (xs : List ℕ). xs ++ m.rest) (sym is)));
            there = m.there;
            matching = m.matching;
          })
          | inr apart ↦ elim apart [
            | inl l ↦ inl (record { number = m.number; among = l; rest = m.rest; same = m.same; there = m.there; matching = m.matching })
            | inr after ↦ (let l = m.among in absurd (omega (arith, l, after)))
          ]
        ]

    pub matches-all : (arg : Option ℕ) (n : ℕ) (o b : Option (List ℕ)) → count elements ≤ n
        → ((x : ℕ) → x < length s.objects → matches arg (object_of s x).origin ≡ true → includes elements x ≡ true)
        → Improves passes (MatchesAmong s objects args elements n) o b → Improves passes (Matches s objects (arg ∷ args)) o b
    matches-all arg n o b past complete h = improves-weaker passes (MatchesAmong s objects args elements n) (Matches s objects (arg ∷ args)) o b (λ t m f. each t m) h
      where
        apart : (t rest : List ℕ) → t ≡ objects ++ rest → All (λ x. x < length s.objects) rest → match_each (arg ∷ args) (origins_of s rest) ≡ true
            → MatchesAmong s objects args elements n t
        apart t [] same there matching = absurd (true≢false (sym matching))
        apart t (x ∷ rest) same there matching =
            let both = and_parts (matches arg (object_of s x).origin) (match_each args (origins_of s rest)) matching in
            let lx : x < length s.objects = there 0 0 (omega arith) in
            let found = number-of elements x (complete x lx both.0) in
            let l = found.1 in
            record {
              number = found.0;
              among = omega (arith, l, past);
              rest = rest;
              same = same ∙ ap (λ (y : ℕ). objects ++ y ∷ rest) (sym found.2);
              there = λ i d m. there (suc i) d (omega (arith, m));
              matching = both.1;
            }

        each : (t : List ℕ) → Matches s objects (arg ∷ args) t → MatchesAmong s objects args elements n t
        each t m = apart t m.rest m.same m.there m.matching

-- arguments that are all `*` match any objects
stars-match : (args : List (Option ℕ)) (t : List ℕ) → list_all is_free args ≡ true → length args ≡ length t → match_each args t ≡ true
stars-match [] [] free e = refl
stars-match [] (o ∷ t) free e = absurd (omega (arith, e))
stars-match (Some a ∷ args) t free e = absurd (true≢false (sym free))
stars-match (None ∷ args) [] free e = absurd (omega (arith, e))
stars-match (None ∷ args) (o ∷ t) free e = stars-match args t free (omega (arith, e))

stars-take : (n : ℕ) (args : List (Option ℕ)) → list_all is_free args ≡ true → list_all is_free (take n args) ≡ true
stars-take zero args free = refl
stars-take (suc n) [] free = refl
stars-take (suc n) (None ∷ args) free = stars-take n args free
stars-take (suc n) (Some a ∷ args) free = absurd (true≢false (sym free))

abbrev pub any_four : List (Option ℕ)
any_four = None ∷ None ∷ None ∷ None ∷ []

pub matches-any : (passes : List ℕ → Bool) (s : State) (arity : ℕ) (objects : List ℕ) (o n : Option (List ℕ)) → arity ≤ 4 → objects ≡ []
    → ((t : List ℕ) → passes t ≡ true → All (λ x. x < length s.objects) t)
    → Improves passes (Matches s objects (take arity any_four)) o n → Improves passes (λ t. length t ≡ arity) o n
matches-any passes s arity objects o n few none below h = improves-weaker passes (Matches s objects (take arity any_four)) (λ t. length t ≡ arity) o n each h
  where
    each : (t : List ℕ) → length t ≡ arity → passes t ≡ true → Matches s objects (take arity any_four) t
    each t many f = record {
      rest = t;
      same = ap (λ (xs : List ℕ). xs ++ t) (sym none);
      there = below t f;
      matching = stars-match (take arity any_four) (origins_of s t) (stars-take arity any_four refl)
          (length-take-le arity any_four few ∙ (sym many ∙ sym (length-origins_of s t)));
    }

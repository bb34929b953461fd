-- Values and walks that the filters leave out are as they were, from the predicates that call nothing up.
use Rattle.std.proofs.Common.{◌≡◌, ℕ, zero, suc, ◌<◌, Bool, true, false, ◌&&◌, ◌||◌, ◌==◌, List, [], ◌∷◌, Contains, length, slice_index, ◌⊎◌, refl, sym, ap, ap₂, ◌∙◌, subst, inl, inr, arith, true≢false}
use Rattle.std.specs.List.{list_any, list_all}
use Rattle.std.proofs.lemmas.Bool.{and_parts, cases_Bool, cases_lt, both_ways, eq-eqb, eqb-true, or_left, or_parts, or_right}
use Rattle.std.proofs.lemmas.List.Elements.{All-contains, All-from_get_or}
use Rattle.std.proofs.lemmas.Option.{slice_get_read}
use Rattle.rf_finite.specs.Range.{some_below}
use Rattle.rf_finite.specs.Tuples.{IsTuple}
use Rattle.rf_finite.specs.Walks.{walk_below}
use Rattle.rf_finite.proofs.Lists.{list_any-from_one}
use Rattle.rf_finite.proofs.Range.{each-from_some_below}
use Rattle.rf_values.specs.Truth.{may, must, truth_of}
use Rattle.rf_values.specs.declared.truth.Truth.{Truth}
use Rattle.rf_problem.specs.Parts.{arity_of, predicate_at, no_predicate}
use Rattle.rf_problem.specs.Reading.{Reading, atom_true, symbol_true}
use Rattle.rf_problem.specs.Valid.{FitsClause, calls, calls_predicate, has_steps}
use Rattle.rf_problem.specs.declared.predicate.Clause.{Clause}
use Rattle.rf_problem.specs.declared.predicate.Literal.{Literal}
use Rattle.rf_problem.specs.declared.predicate.Literal.TheVariants.{Call}
use Rattle.rf_problem.specs.declared.predicate.Predicate.{Predicate as Definition}
use Rattle.rf_problem.specs.declared.predicate.Term.{Term}
use Rattle.rf_problem.specs.declared.problem.Problem.{Problem}
use Rattle.rf_problem.specs.declared.symbol.Symbol.{Symbol}
use Rattle.rf_problem.specs.declared.symbol.Symbol.TheVariants.{Class, Reference, Predicate, Exists, Equals}
use Rattle.rf_problem.proofs.Fitting.{FitsCall-from_literal_fits, each-from_literals_fit}
use Rattle.rf_problem.proofs.Depth.{call_rank, call_rank-falls, predicate_at-past}
use Rattle.rf_evaluate.specs.Known.{Known, in_both, side, value_of, walk_of}
use Rattle.rf_evaluate.proofs.InBoth.{may-truth_of, must-truth_of}
use Rattle.rf_renewal.specs.Changes.{Changes, asked_of, is_within_reach, may_change, may_go_on_otherwise, row_may_change}
use Rattle.rf_renewal.specs.Covered.{Cover, Done, is_ready, literal_ready, steps_ready}
use Rattle.rf_renewal.specs.Laws.{ValuesStay, WalksStay}
use Rattle.rf_renewal.specs.Patterns.{match_some}
use Rattle.rf_renewal.proofs.Clauses.{LiteralsDiffer, predicate-same, says_of}
use Rattle.rf_renewal.proofs.Elements.{AreAlike, Below}
use Rattle.rf_renewal.proofs.Walking.{walks-same}

-- lists of one and of two
as_one : (w : List ℕ) → length w ≡ 1 → w ≡ slice_index w 0 ∷ []
as_one [] e = absurd (omega arith)
as_one (x ∷ []) e = refl
as_one (x ∷ y ∷ w) e = absurd (omega arith)

as_two : (w : List ℕ) → length w ≡ 2 → w ≡ slice_index w 0 ∷ slice_index w 1 ∷ []
as_two [] e = absurd (omega arith)
as_two (x ∷ []) e = absurd (omega arith)
as_two (x ∷ y ∷ []) e = refl
as_two (x ∷ y ∷ z ∷ w) e = absurd (omega arith)

pub two_below : (size x y : ℕ) → x < size → y < size → Below size (x ∷ y ∷ [])
two_below size x y lx ly zero l = lx
two_below size x y lx ly (suc zero) l = ly
two_below size x y lx ly (suc (suc i)) l = absurd (omega arith)

pub steps_two : (predicates : List Definition) (symbol : Symbol) → has_steps predicates symbol ≡ true
    → arity_of predicates symbol ≡ 2
steps_two predicates (Class k) h = absurd (true≢false (sym h))
steps_two predicates (Reference r) h = refl
steps_two predicates (Predicate q) h = eqb-true (predicate_at predicates q).arity 2 h
steps_two predicates Exists h = absurd (true≢false (sym h))
steps_two predicates Equals h = absurd (true≢false (sym h))

pub tuple_below : (size arity : ℕ) (t : List ℕ) → IsTuple size arity t → Below size t
tuple_below size arity t tuple i l = tuple.below i 0 l

pub tuple-from_below : (size arity : ℕ) (t : List ℕ) → length t ≡ arity → Below size t → IsTuple size arity t
tuple-from_below size arity t len below = record {
  many = len;
  below = All-from_get_or (λ x. x < size) t 0
      (λ i l. below i l);
}

-- where all pass, one that is there does
one-from_all : {X : Type 0} (test : X → Bool) (xs : List X) (x : X) → list_all test xs ≡ true → Contains xs x
    → test x ≡ true
one-from_all test [] x all at = let l = at.1 in absurd (omega arith)
one-from_all test (y ∷ xs) x all (zero, l, e) = subst (λ z. test z ≡ true) e
    (and_parts (test y) (list_all test xs) all).0
one-from_all test (y ∷ xs) x all (suc k, l, e) = one-from_all test xs x
    (and_parts (test y) (list_all test xs) all).1 (k, omega arith, e)

-- of the premises of a rule that isn't so, where the first is, the second isn't
second_false : (x y : Bool) → (x && y) ≡ false → x ≡ true → y ≡ false
second_false true y none h = none
second_false false y none h = absurd (true≢false (sym h))

module _ (was now : Known) (changes : Changes) (done : Done) (c : Cover was now changes done) where
  abbrev p : Problem
  p = was.problem

  abbrev here : Reading
  here = side must was

  abbrev inside : Reading
  inside = side may was

  abbrev here' : Reading
  here' = side must now

  abbrev inside' : Reading
  inside' = side may now

  -- what is known of a symbol and of a walk, by the predicates of the first problem
  abbrev value_by : Problem → Known → Symbol → List ℕ → Truth
  value_by o k symbol w = in_both k (λ h i. symbol_true (says_of o) h i symbol w)

  abbrev walk_by : Problem → Known → Symbol → ℕ → ℕ → Truth
  walk_by o k symbol x y = in_both k (λ h i. atom_true (says_of o) h i true symbol (x ∷ y ∷ []))

  value-by_first : (symbol : Symbol) (w : List ℕ) → value_of now symbol w ≡ value_by p now symbol w
  value-by_first symbol w = ap (λ o. value_by o now symbol w) c.facts.problem

  walk-by_first : (symbol : Symbol) (x y : ℕ) → walk_of now symbol x y ≡ walk_by p now symbol x y
  walk-by_first symbol x y = ap (λ o. walk_by o now symbol x y) c.facts.problem

  -- an atom says the same, by what has to hold and by what can
  abbrev IsSame : Bool → Symbol → List ℕ → Type 0
  IsSame closure symbol w =
      (atom_true (says_of p) here inside closure symbol w ≡ atom_true (says_of p) here' inside' closure symbol w)
      × (atom_true (says_of p) inside here closure symbol w ≡ atom_true (says_of p) inside' here' closure symbol w)

  pair-from_truths : (m n m' n' : Bool) → truth_of m' n' ≡ truth_of m n → (m ≡ m') × (n ≡ n')
  pair-from_truths m n m' n' e = (
    sym (must-truth_of m n) ∙ (ap must (sym e) ∙ must-truth_of m' n'),
    sym (may-truth_of m n) ∙ (ap may (sym e) ∙ may-truth_of m' n'),
  )

  abbrev DiffersAt : ℕ → Type 0
  DiffersAt d = (w : List ℕ) → length w ≡ (predicate_at p.predicates d).arity → Below was.size w
      → IsSame false (Predicate d) w ⊎ (match_some (changes.tuples (Predicate d)) w ≡ true)

  step-differs : (symbol : Symbol) → ((d : ℕ) → symbol ≡ Predicate d → DiffersAt d)
      → (w : List ℕ) → length w ≡ arity_of p.predicates symbol → Below was.size w → IsSame false symbol w ⊎
      (match_some (changes.tuples symbol) w ≡ true)
  step-differs (Class k) called w len below = elim (c.facts.classes k (slice_index w 0) (below 0 (omega arith))) [
    | inl e ↦ inl (ap must (sym e), ap may (sym e))
    | inr h ↦ inr (subst (λ z. match_some (changes.tuples (Class k)) z ≡ true) (sym (as_one w len)) h)
  ]
  step-differs (Reference r) called w len below = elim
      (c.facts.edges r (slice_index w 0) (slice_index w 1) (below 0 (omega arith)) (below 1 (omega arith))) [
        | inl e ↦ inl (ap must (sym e), ap may (sym e))
        | inr h ↦ inr (subst (λ z. match_some (changes.tuples (Reference r)) z ≡ true) (sym (as_two w len)) h)
      ]
  step-differs (Predicate d) called w len below = called d refl w len below
  step-differs Exists called w len below = inl (refl, refl)
  step-differs Equals called w len below = inl (refl, refl)

  -- what is within reach of an element from which no walk may lead elsewhere
  untouched : (symbol : Symbol) (x u : ℕ) → row_may_change was changes symbol x ≡ false → u < was.size
      → is_within_reach was symbol x u ≡ true
      → may_go_on_otherwise was changes symbol u ≡ false
  untouched symbol x u e l within =
      second_false (is_within_reach was symbol x u) (may_go_on_otherwise was changes symbol u)
      (each-from_some_below was.size (λ u. is_within_reach was symbol x u
      && may_go_on_otherwise was changes symbol u) e u l) within

  pub walk-same : (symbol : Symbol) → has_steps p.predicates symbol ≡ true →
      ((d : ℕ) → symbol ≡ Predicate d → DiffersAt d)
      → (x y : ℕ) → row_may_change was changes symbol x ≡ false → x < was.size → y < was.size → IsSame true symbol
      (x ∷ y ∷ [])
  walk-same symbol steps called x y e lx ly =
      let n = was.size in
      let two = steps_two p.predicates symbol steps in
      let must_walk : ℕ → Bool = λ u. atom_true (says_of p) here inside true symbol (x ∷ u ∷ []) in
      let may_walk : ℕ → Bool = λ u. atom_true (says_of p) inside here true symbol (x ∷ u ∷ []) in
      let at_itself : (u : ℕ) → u ≡ x → is_within_reach was symbol x u ≡ true = λ u k. or_left (u == x)
      (must (walk_of was symbol x u) || may (walk_of was symbol x u)) (eq-eqb u x k) in
      let by_must : (u : ℕ) → must_walk u ≡ true → is_within_reach was symbol x u ≡ true = λ u k. or_right (u == x)
      (must (walk_of was symbol x u) || may (walk_of was symbol x u))
      (or_left (must (walk_of was symbol x u)) (may (walk_of was symbol x u))
      (must-truth_of (must_walk u) (may_walk u) ∙ k)) in
      let by_may : (u : ℕ) → may_walk u ≡ true → is_within_reach was symbol x u ≡ true = λ u k. or_right (u == x)
      (must (walk_of was symbol x u) || may (walk_of was symbol x u))
      (or_right (must (walk_of was symbol x u)) (may (walk_of was symbol x u))
      (may-truth_of (must_walk u) (may_walk u) ∙ k)) in
      let steps_same : (u z : ℕ) → u < n → z < n → is_within_reach was symbol x u ≡ true → IsSame false symbol
      (u ∷ z ∷ []) = λ u z lu lz within.
      elim (step-differs symbol called (u ∷ z ∷ []) (sym two) (two_below n u z lu lz)) [
        | inl k ↦ k
        | inr h ↦ (let none = untouched symbol x u e lu within in
            let parts = or_parts (list_any (λ v. v == u) changes.presences)
            (some_below n (λ y. match_some (changes.tuples symbol) (u ∷ y ∷ []))) none in
            absurd (both_ways (match_some (changes.tuples symbol) (u ∷ z ∷ []))
            (each-from_some_below n (λ y. match_some (changes.tuples symbol) (u ∷ y ∷ [])) parts.1 z lz) h))
      ] in
      let there : (u : ℕ) → u < n → is_within_reach was symbol x u ≡ true
      → now.presence u ≡ was.presence u = λ u lu within.
      elim (c.facts.presences u lu) [
        | inl k ↦ k
        | inr h ↦ (let none = untouched symbol x u e lu within in
            let parts = or_parts (list_any (λ v. v == u) changes.presences)
            (some_below n (λ y. match_some (changes.tuples symbol) (u ∷ y ∷ []))) none in
            absurd (both_ways (list_any (λ v. v == u) changes.presences) parts.0
            (list_any-from_one (λ v. v == u) changes.presences u h (eq-eqb u u refl))))
      ] in (
        walks-same (λ x y. symbol_true (says_of p) here inside symbol (x ∷ y ∷ []))
            (λ x y. symbol_true (says_of p) here' inside' symbol (x ∷ y ∷ [])) here.present here'.present n x y lx ly
            (λ u lu w.
            (let within : is_within_reach was symbol x u ≡ true = elim w [ inl k ↦ at_itself u k | inr k ↦ by_must u k ] in
            ((λ z lz. (steps_same u z lu lz within).0), ap must (sym (there u lu within)))))
            ∙ ap (λ m. walk_below (λ x y. symbol_true (says_of p) here' inside' symbol
            (x ∷ y ∷ [])) here'.present m x y) (sym c.facts.size),
        walks-same (λ x y. symbol_true (says_of p) inside here symbol (x ∷ y ∷ []))
            (λ x y. symbol_true (says_of p) inside' here' symbol
            (x ∷ y ∷ [])) inside.present inside'.present n x y lx ly
            (λ u lu w.
            (let within : is_within_reach was symbol x u ≡ true = elim w [ inl k ↦ at_itself u k | inr k ↦ by_may u k ] in
            ((λ z lz. (steps_same u z lu lz within).1), ap may (sym (there u lu within)))))
            ∙ ap (λ m. walk_below (λ x y. symbol_true (says_of p) inside' here' symbol
            (x ∷ y ∷ [])) inside'.present m x y) (sym c.facts.size),
      )

  -- what a literal of the problem's predicates may ask for is said alike but for the changes
  asked-differs : (closure : Bool) (symbol : Symbol) →
      (closure ≡ true → (has_steps p.predicates symbol ≡ true) × (done.walks symbol ≡ true))
      → ((d : ℕ) → symbol ≡ Predicate d → DiffersAt d)
      → (w : List ℕ) → length w ≡ arity_of p.predicates symbol → Below was.size w → IsSame closure symbol w ⊎
      (match_some (asked_of changes closure symbol) w ≡ true)
  asked-differs false symbol walked called w len below = step-differs symbol called w len below
  asked-differs true symbol walked called w len below =
      let parts = walked refl in
      let long : length w ≡ 2 = len ∙ steps_two p.predicates symbol parts.0 in
      let lx : slice_index w 0 < was.size = below 0 (omega arith) in
      let ly : slice_index w 1 < was.size = below 1 (omega arith) in
      elim (cases_Bool (row_may_change was changes symbol (slice_index w 0))) [
        | inr e ↦ inl (walk-same symbol parts.0 called (slice_index w 0) (slice_index w 1) e lx ly)
        | inl e ↦ elim (c.walks symbol (slice_index w 0) (slice_index w 1) parts.1 parts.0 lx ly e) [
          | inl k ↦ inl (pair-from_truths
              (atom_true (says_of p) here inside true symbol w) (atom_true (says_of p) inside here true symbol w)
              (atom_true (says_of p) here' inside' true symbol w) (atom_true (says_of p) inside' here' true symbol w)
              (sym (walk-by_first symbol (slice_index w 0) (slice_index w 1)) ∙ k))
          | inr h ↦ inr (subst (λ z. match_some (changes.walks symbol) z ≡ true) (sym (as_two w long)) h)
        ]
      ]

  alike : (column : Truth → Bool) → AreAlike was.origin was.size changes (side column was) (side column now)
  alike column = record {
    left = refl;
    right = c.facts.size;
    from = λ x l. refl;
    to = c.facts.origins;
    presences = λ x l. elim (c.facts.presences x l) [ inl e ↦ inl (ap column (sym e)) | inr h ↦ inr h ];
    sames = λ w len below. elim (c.facts.sames (slice_index w 0) (slice_index w 1) (below 0 (omega arith))
        (below 1 (omega arith))) [
          | inl e ↦ inl (ap column (sym e))
          | inr h ↦ inr (subst (λ z. match_some changes.sames z ≡ true) (sym (as_two w len)) h)
        ];
    differences = λ w len below. elim (c.facts.differences (slice_index w 0) (slice_index w 1)
        (below 0 (omega arith)) (below 1 (omega arith))) [
          | inl e ↦ inl (ap column (sym e))
          | inr h ↦ inr (subst (λ z. match_some changes.differences z ≡ true) (sym (as_two w len)) h)
        ];
  }

  -- what a literal of a clause of predicate q asks for, where what q calls is said alike but for the changes
  literals-differ : (q : ℕ) → is_ready p done q ≡ true →
      ((d : ℕ) → calls p.predicates q d ≡ true → done.predicates d ≡ true → DiffersAt d)
      → (clause : Clause) → Contains (predicate_at p.predicates q).clauses clause
      → LiteralsDiffer p was.origin was.size changes (says_of p) here inside here' inside' clause.literals
      × LiteralsDiffer p was.origin was.size changes (says_of p) inside here inside' here' clause.literals
  literals-differ q ready called clause there = (
    (λ negated closure symbol args at. record {
      outside = λ w len below. first_of_pair (asked negated closure symbol args at w len below);
      within = λ w len below. second_of_pair (asked negated closure symbol args at w len below);
    }),
    (λ negated closure symbol args at. record {
      outside = λ w len below. second_of_pair (asked negated closure symbol args at w len below);
      within = λ w len below. first_of_pair (asked negated closure symbol args at w len below);
    }),
  )
    where
      within : q < length p.predicates
      within = elim (cases_lt q (length p.predicates)) [
        | inl l ↦ l
        | inr ge ↦ (let none : Contains [] clause = subst (λ (d : Definition). Contains d.clauses clause)
            (predicate_at-past p.predicates q ge) there in
            let l = none.1 in absurd (omega arith))
      ]

      fits : FitsClause (length p.classes) (length p.references) p.objects p.predicates
          (predicate_at p.predicates q).arity clause
      fits = All-contains (FitsClause (length p.classes) (length p.references) p.objects p.predicates
          (predicate_at p.predicates q).arity)
          (predicate_at p.predicates q).clauses clause (p.predicates_fit.clauses q no_predicate within) there

      -- what a literal asks for was compared
      is_literal_ready : (l : Literal) → Contains clause.literals l → literal_ready done l ≡ true
      is_literal_ready l at = one-from_all (literal_ready done) clause.literals l
          (one-from_all (λ c. list_all (literal_ready done) c.literals)
          (predicate_at p.predicates q).clauses clause ready there) at

      steps : (negated : Bool) (symbol : Symbol) (args : List Term) → Contains clause.literals
          (Call negated true symbol args) → has_steps p.predicates symbol ≡ true
      steps negated symbol args at =
          (FitsCall-from_literal_fits p clause.variables at.0 negated true symbol args
          (each-from_literals_fit p clause.variables clause.literals fits.literals at.0 (Call negated true symbol args)
          (slice_get_read clause.literals (length clause.literals) at.0 (Call negated true symbol args) refl at.1
          (sym at.2)))).steps refl

      steps_done : (negated closure : Bool) (symbol : Symbol) (args : List Term) → Contains clause.literals
          (Call negated closure symbol args) → steps_ready done symbol ≡ true
      steps_done negated false symbol args at = is_literal_ready (Call negated false symbol args) at
      steps_done negated true symbol args at = c.walks_ready symbol
          (is_literal_ready (Call negated true symbol args) at)

      called_there : (negated closure : Bool) (symbol : Symbol) (args : List Term) → Contains clause.literals
          (Call negated closure symbol args)
          → (d : ℕ) → symbol ≡ Predicate d → DiffersAt d
      called_there negated closure symbol args at d e =
          let calls_it : calls_predicate d (Call negated closure symbol args) ≡ true = subst
          (λ z. calls_predicate d (Call negated closure z args) ≡ true) (sym e) (eq-eqb d d refl) in
          called d (list_any-from_one (λ c. list_any (calls_predicate d) c.literals)
          (predicate_at p.predicates q).clauses clause there
          (list_any-from_one (calls_predicate d) clause.literals (Call negated closure symbol args) at calls_it))
          (subst (λ z. steps_ready done z ≡ true) e (steps_done negated closure symbol args at))

      walked_if : (negated closure : Bool) (symbol : Symbol) (args : List Term) → Contains clause.literals
          (Call negated closure symbol args)
          → closure ≡ true → (has_steps p.predicates symbol ≡ true) × (done.walks symbol ≡ true)
      walked_if negated true symbol args at e = (
        steps negated symbol args at,
        is_literal_ready
            (Call negated true symbol args) at,
      )
      walked_if negated false symbol args at e = absurd (true≢false (sym e))

      asked : (negated closure : Bool) (symbol : Symbol) (args : List Term) → Contains clause.literals
          (Call negated closure symbol args)
          → (w : List ℕ) → length w ≡ arity_of p.predicates symbol → Below was.size w → IsSame closure symbol w ⊎
          (match_some (asked_of changes closure symbol) w ≡ true)
      asked negated closure symbol args at = asked-differs closure symbol (walked_if negated closure symbol args at)
          (called_there negated closure symbol args at)

      first_of_pair : {A B C : Type 0} → (A × B) ⊎ C → A ⊎ C
      first_of_pair (inl e) = inl e.0
      first_of_pair (inr h) = inr h

      second_of_pair : {A B C : Type 0} → (A × B) ⊎ C → B ⊎ C
      second_of_pair (inl e) = inl e.1
      second_of_pair (inr h) = inr h

  -- what is said of a predicate at a tuple that the filter leaves out, where what it calls is said alike but for the
  -- changes
  both-same : (q : ℕ) (t : List ℕ) → is_ready p done q ≡ true → length t ≡ (predicate_at p.predicates q).arity
      → Below was.size t
      → ((d : ℕ) → calls p.predicates q d ≡ true → done.predicates d ≡ true → DiffersAt d)
      → may_change was changes q t ≡ false → IsSame false (Predicate q) t
  both-same q t ready len below called none = (
    predicate-same p was.origin was.size changes here inside here' inside' (alike must) (alike may) q t len below
        (λ c at. (literals-differ q ready called c at).0) none,
    predicate-same p was.origin was.size changes inside here inside' here' (alike may) (alike must) q t len below
        (λ c at. (literals-differ q ready called c at).1) none,
  )

  abbrev rank : ℕ → ℕ
  rank q = call_rank p.classes p.references p.objects p.predicates p.predicates_fit q

  -- so what was compared is said alike but for the changes, by induction on how much a predicate calls
  differs-below : (n q : ℕ) → rank q < n → done.predicates q ≡ true → DiffersAt q
  differs-below zero q l is_done t len below = absurd (omega arith)
  differs-below (suc n) q l is_done t len below =
      let called : (d : ℕ) → calls p.predicates q d ≡ true → done.predicates d ≡ true
      → DiffersAt d = λ d calls_it called_done. (
      let fall = call_rank-falls p.classes p.references p.objects p.predicates p.predicates_fit q d calls_it in differs-below n d (omega arith) called_done) in
      elim (cases_Bool (may_change was changes q t)) [
        | inl e ↦ elim (c.values q t is_done (tuple-from_below was.size
            (predicate_at p.predicates q).arity t len below) e) [
              | inl k ↦ inl (pair-from_truths (says_of p here inside q t) (says_of p inside here q t)
                  (says_of p here' inside' q t) (says_of p inside' here' q t)
                  (sym (value-by_first (Predicate q) t) ∙ k))
              | inr h ↦ inr h
            ]
        | inr e ↦ inl (both-same q t (c.predicates_ready q is_done) len below called e)
      ]

  differs : (q : ℕ) → done.predicates q ≡ true → DiffersAt q
  differs q is_done = differs-below (suc (rank q)) q (omega arith) is_done

  pub value-stays : (q : ℕ) (t : List ℕ) → is_ready p done q ≡ true → IsTuple was.size
      (predicate_at p.predicates q).arity t → may_change was changes q t ≡ false
      → value_of now (Predicate q) t ≡ value_of was (Predicate q) t
  value-stays q t ready tuple none =
      let same = both-same q t ready tuple.many (tuple_below was.size (predicate_at p.predicates q).arity t tuple)
      (λ d calls_it called_done. differs d called_done) none in
      value-by_first (Predicate q) t ∙ ap₂ truth_of (sym same.0) (sym same.1)

  pub walk-stays : (symbol : Symbol) (x y : ℕ) → steps_ready done symbol ≡ true
      → has_steps p.predicates symbol ≡ true → x < was.size → y < was.size
      → row_may_change was changes symbol x ≡ false → walk_of now symbol x y ≡ walk_of was symbol x y
  walk-stays symbol x y ready steps lx ly none =
      let same = walk-same symbol steps (λ d e. differs d
      (subst (λ z. steps_ready done z ≡ true) e ready)) x y none lx ly in
      walk-by_first symbol x y ∙ ap₂ truth_of (sym same.0) (sym same.1)

pub values_stay : ValuesStay
values_stay was now changes done c q t ready tuple none = value-stays was now changes done c q t ready tuple none

pub walks_stay : WalksStay
walks_stay was now changes done c symbol x y ready steps lx ly none = walk-stays was now changes done c symbol x y ready steps lx ly none

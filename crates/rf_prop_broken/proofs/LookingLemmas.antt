-- The search for objects at which a literal of a clause is forced.
use Rattle.std.proofs.Common.{◌≡◌, ◌≢◌, ◌⊎◌, ℕ, zero, suc, ◌+◌, ◌<◌, ◌≤◌, Bool, true, false, not, ◌&&◌, ◌||◌, ◌==◌, nat_lt, if◌then◌else◌, Option, None, Some, List, [], ◌∷◌, All, length, take, get_or, max, refl, sym, ap, ap₂, ◌∙◌, subst, inl, inr, arith, true≢false, slice_set, lt-ltb}
use Rattle.std.specs.Prelude.{IfSome, slice_index, slice_index_or}
use Rattle.std.proofs.lemmas.Bool.{and_parts, both_ways, cases_Bool, cases_lt, cases_order, eq-eqb, eqb-true, or_cases, or_parts}
use Rattle.std.proofs.lemmas.Grind.{get_or-set_at}
use Rattle.std.proofs.lemmas.List.{get_or-set_other, get_or_past}
use Rattle.rf_finite.specs.Ends.{within}
use Rattle.rf_values.specs.Truth.{may, must, truth_of}
use Rattle.rf_values.specs.declared.truth.Truth.{Truth}
use Rattle.rf_values.specs.declared.truth.Truth.TheVariants.{False}
use Rattle.rf_problem.specs.Parts.{predicate_at}
use Rattle.rf_problem.specs.Reading.{Assignment, predicate_true}
use Rattle.rf_problem.specs.Valid.{is_free}
use Rattle.rf_problem.specs.declared.predicate.Clause.{Clause}
use Rattle.rf_problem.specs.declared.predicate.Literal.{Literal}
use Rattle.rf_problem.specs.declared.predicate.Literal.TheVariants.{Call, Same, Differ}
use Rattle.rf_problem.specs.declared.predicate.Term.{Term}
use Rattle.rf_problem.specs.declared.predicate.Term.TheVariants.{Var, Atom}
use Rattle.rf_problem.specs.declared.problem.Problem.{Problem}
use Rattle.rf_problem.specs.declared.symbol.Symbol.TheVariants.{Class, Reference, Predicate as Defined, Exists, Equals}
use Rattle.rf_evaluate.specs.Elements.{count, element_at}
use Rattle.rf_evaluate.specs.Known.{side}
use Rattle.rf_evaluate.specs.Terms.{is_unassigned, names_unassigned}
use Rattle.rf_evaluate.specs.declared.elements.Elements.{Elements}
use Rattle.rf_evaluate.specs.declared.elements.Elements.TheVariants.{Below}
use Rattle.rf_evaluate.proofs.Candidates.{number-of}
use Rattle.rf_evaluate.proofs.Unassigned.{literal-same}
use Rattle.rf_state.specs.State.{State, fact}
use Rattle.rf_state.specs.StateKnown.{state_known}
use Rattle.rf_rules.specs.Predicates.{clause_at, free_count, given, is_open, is_same_term, literal_at, literal_known, may_be_forced, object_of_term, origins_of, others_hold}
use Rattle.rf_rules.specs.Words.{hi, is_unknown}
use Rattle.rf_rules.proofs.PredicateLemmas.{given-below}
use Rattle.rf_prop_broken.specs.Best.{Improves, fires_at}
use Rattle.rf_prop_broken.specs.Looking.{GoesOn, HasChosen, IsNext, Leads, collected, fails_at}
use Rattle.rf_prop_broken.specs.declared.choice.Choice.{Choice}
use Rattle.rf_prop_broken.specs.declared.edge.Edge.{Edge}
use Rattle.rf_prop_broken.specs.declared.instances.Instances.TheVariants.{Forced}
use Rattle.rf_prop_broken.specs.Asserting.{is_deniable}
use Rattle.rf_prop_broken.proofs.AssertingLemmas.{deniable-from_asserted}
use Rattle.rf_prop_broken.proofs.BestLemmas.{improves-none, improves-then, improves-weaker}
use Rattle.rf_prop_broken.proofs.FireLemmas.{forced-parts}

pub IfSome-weaker : {T : Type 0} (o : Option T) (P Q : T → Type 0) → ((x : T) → P x → Q x) → IfSome o P → IfSome o Q
IfSome-weaker None P Q to h = h
IfSome-weaker (Some x) P Q to h = to x h

pub None-from : {A : Type 0} (o : Option A) → ((x : A) → o ≡ Some x → ⊥) → o ≡ None
None-from None h = refl
None-from (Some x) h = absurd (h x refl)

-- the objects that are given for a clause's variables are those of the list
no_list : (t : List ℕ) → length t ≡ 0 → [] ≡ t
no_list [] e = refl
no_list (x ∷ t) e = absurd (omega (arith, e))

pub collected-given : (variables : List (Option ℕ)) (t : List ℕ) → length t ≡ free_count variables → collected variables (given variables t) ≡ t
collected-given [] t e = no_list t e
collected-given (Some i ∷ variables) t e = collected-given variables t e
collected-given (None ∷ variables) [] e = absurd (omega (arith, e))
collected-given (None ∷ variables) (o ∷ t) e = let more : length t ≡ free_count variables = omega (arith, e) in ap (λ (xs : List ℕ). o ∷ xs) (collected-given variables t more)

-- a list of objects goes on from what is chosen, with one of the first n of some elements for a variable
pub record GoesOnAmong (variables : List (Option ℕ)) (choice : Choice) (v : ℕ) (elements : Elements) (n : ℕ) (t : List ℕ) : Type 0 where
  pub goes_on : GoesOn variables choice t
  pub number : ℕ
  pub among : number < n
  pub same : element_at elements number ≡ given variables t v

abbrev pub with_object : Choice → ℕ → ℕ → Choice
with_object choice v x = record { places = slice_set choice.places v x; waiting = slice_set choice.waiting v false; before = choice.waiting }

-- each place still has an object, or 0
pub places-with : (cells : List ℕ) (v x n : ℕ) → v < length cells → x < n → ((u : ℕ) → slice_index cells u < max 1 n) → (u : ℕ) → slice_index (slice_set cells v x) u < max 1 n
places-with cells v x n l lx all u = elim (cases_Bool (u == v)) [
  | inl same ↦ (let at : slice_index (slice_set cells v x) u ≡ x = get_or-set_at cells v u x 0 (eqb-true u v same) l in omega (arith, at, lx))
  | inr apart ↦ subst (λ (w : ℕ). w < max 1 n) (sym (get_or-set_other cells v u x 0 (λ at. both_ways (u == v) apart (eq-eqb u v at)))) (all u)
]

-- and so with that one chosen
goes_on-with : (variables : List (Option ℕ)) (choice : Choice) (v x : ℕ) (t : List ℕ) → v < length choice.places → GoesOn variables choice t → x ≡ given variables t v
    → GoesOn variables (with_object choice v x) t
goes_on-with variables choice v x t l goes e u free = elim (cases_Bool (u == v)) [
  | inl same ↦ (let at : u ≡ v = eqb-true u v same in
      ap (given variables t) at ∙ (sym e ∙ sym (ap (slice_index (slice_set choice.places v x)) at ∙ get_or-set_at choice.places v v x 0 refl l)))
  | inr apart ↦ (let other : u ≢ v = λ at. both_ways (u == v) apart (eq-eqb u v at) in
      goes u (sym (get_or-set_other choice.waiting v u false false other) ∙ free) ∙ sym (get_or-set_other choice.places v u x 0 other))
]

-- at the start every list goes on
given-ranging : (variables : List (Option ℕ)) (t : List ℕ) (u : ℕ) → (u < length variables → is_free (get_or variables u None) ≡ false) → given variables t u ≡ 0
given-ranging [] t u h = refl
given-ranging (Some i ∷ variables) t zero h = refl
given-ranging (Some i ∷ variables) t (suc u) h = given-ranging variables t u (λ l. h (omega (arith, l)))
given-ranging (None ∷ variables) [] u h = refl
given-ranging (None ∷ variables) (o ∷ t) zero h = absurd (true≢false (h (omega arith)))
given-ranging (None ∷ variables) (o ∷ t) (suc u) h = given-ranging variables t u (λ l. h (omega (arith, l)))

pub goes_on-start : (variables : List (Option ℕ)) (choice : Choice) → ((v : ℕ) → slice_index choice.places v ≡ 0)
    → ((v : ℕ) → slice_index_or choice.waiting v false ≡ (nat_lt v (length variables) && is_free (slice_index_or variables v None))) → (t : List ℕ)
    → GoesOn variables choice t
goes_on-start variables choice zeros waits t u free =
    given-ranging variables t u (λ l. sym (ap (λ (b : Bool). b && is_free (get_or variables u None)) (lt-ltb u (length variables) l)) ∙ (sym (waits u) ∙ free)) ∙ sym (zeros u)

-- where no variable waits, one list of objects is left
pub goes_on-ended : (variables : List (Option ℕ)) (choice : Choice) (t : List ℕ) → length choice.waiting ≡ 8
    → ((v : ℕ) → v < 8 → slice_index_or choice.waiting v false ≡ false) → GoesOn variables choice t → length t ≡ free_count variables
    → t ≡ collected variables (slice_index choice.places)
goes_on-ended variables choice t long none goes many =
    sym (collected-given variables t many) ∙ ap (collected variables) (λ i u. goes u (free u) i)
  where
    free : (u : ℕ) → slice_index_or choice.waiting u false ≡ false
    free u = elim (cases_lt u 8) [ inl l ↦ none u l | inr g ↦ get_or_past choice.waiting u false (omega (arith, g, long)) ]

-- a literal that names no variable that waits asks for the same with any objects that go on from what is chosen
module _ (p : Problem) (s : State) (q k j i : ℕ) (choice : Choice) (f : Assignment) (has : HasChosen choice f) where
  abbrev chosen : Assignment
  chosen = slice_index choice.places

  abbrev variables_here : List (Option ℕ)
  variables_here = (clause_at p q k).variables

  same-term : (t : Term) → is_unassigned choice.waiting t ≡ false → object_of_term chosen t ≡ object_of_term f t
  same-term (Var v) free = sym (has v free)
  same-term (Atom o) free = refl

  same-open : (l : Literal) → names_unassigned choice.waiting l ≡ false → is_open p s variables_here chosen l ≡ is_open p s variables_here f l
  same-open (Call negated false (Reference r) (t ∷ u ∷ [])) free =
      let one = or_parts (is_unassigned choice.waiting t) (is_unassigned choice.waiting u || false) free in
      let two = or_parts (is_unassigned choice.waiting u) false one.1 in
      ap₂ (λ (a b : ℕ). (may_be_forced s variables_here negated t && may_be_forced s variables_here negated u)
      && ((not (is_same_term t u) || not (within 2 (hi s a))) && is_unknown (fact p s r a b))) (same-term t one.0) (same-term u two.0)
  same-open (Call negated false (Reference r) []) free = refl
  same-open (Call negated false (Reference r) (t ∷ [])) free = refl
  same-open (Call negated false (Reference r) (t ∷ u ∷ w ∷ args)) free = refl
  same-open (Call negated false (Class c) args) free = refl
  same-open (Call negated false (Defined d) args) free = refl
  same-open (Call negated false Exists args) free = refl
  same-open (Call negated false Equals args) free = refl
  same-open (Call negated true symbol args) free = refl
  same-open (Same a b) free = refl
  same-open (Differ a b) free = refl

  same-known : (l : Literal) → names_unassigned choice.waiting l ≡ false → literal_known p s variables_here i chosen l ≡ literal_known p s variables_here i f l
  same-known l free =
      let n = length p.predicates in
      let both = λ (here inside : Truth → Bool). literal-same choice.waiting (predicate_true p.predicates n) (side here (state_known p s)) (side inside (state_known p s))
      variables_here i l free chosen f (λ u e. sym (has u e)) in
      ap₂ truth_of (both must may) (both may must)

  pub same-fails : names_unassigned choice.waiting (literal_at (clause_at p q k) i) ≡ false → fails_at p s q k j i chosen ≡ fails_at p s q k j i f
  same-fails free =
      ap₂ (λ (o h : Bool). if i == j then not o else not h) (same-open (literal_at (clause_at p q k) i) free) (ap must (same-known (literal_at (clause_at p q k) i) free))

-- no literal fails where literal j is forced
each-from_others : (p : Problem) (s : State) (variables : List (Option ℕ)) (j i : ℕ) (places : Assignment) (ls : List Literal) → others_hold p s variables j i places ls ≡ true
    → (m n : ℕ) → m < length ls → n ≡ i + m → (n == j) ≡ false → must (literal_known p s variables n places (get_or ls m (Same (Var 0) (Var 0)))) ≡ true
each-from_others p s variables j i places [] h m n l e apart = absurd (omega (arith, l))
each-from_others p s variables j i places (x ∷ ls) h zero n l e apart =
    let parts = and_parts (i == j || must (literal_known p s variables i places x)) (others_hold p s variables j (suc i) places ls) h in
    let at : n ≡ i = omega (arith, e) in
    elim (or_cases (i == j) (must (literal_known p s variables i places x)) parts.0) [
      | inl same ↦ absurd (both_ways (n == j) apart (subst (λ (w : ℕ). (w == j) ≡ true) (sym at) same))
      | inr holds ↦ subst (λ (w : ℕ). must (literal_known p s variables w places x) ≡ true) (sym at) holds
    ]
each-from_others p s variables j i places (x ∷ ls) h (suc m) n l e apart =
    let parts = and_parts (i == j || must (literal_known p s variables i places x)) (others_hold p s variables j (suc i) places ls) h in
    each-from_others p s variables j (suc i) places ls parts.1 m n (omega (arith, l)) (omega (arith, e)) apart

module _ (p : Problem) (s : State) (q k j : ℕ) where
  abbrev clause : Clause
  clause = clause_at p q k

  abbrev passes : List ℕ → Bool
  passes = fires_at p s (Forced q k j)

  pub nothing_fails : (t : List ℕ) (i : ℕ) → passes t ≡ true → i < length clause.literals → fails_at p s q k j i (given clause.variables t) ≡ false
  nothing_fails t i h l =
      let parts = forced-parts p s q k j t h in
      elim (cases_Bool (i == j)) [
        | inl same ↦ rw same (ap not (subst (λ (w : ℕ). is_open p s clause.variables (given clause.variables t) (literal_at clause w) ≡ true) (sym (eqb-true i j same)) parts.ready))
        | inr apart ↦ rw apart (ap not (each-from_others p s clause.variables j 0 (given clause.variables t) clause.literals parts.others i i l (omega arith) apart))
      ]

  -- nothing is forced where the literal is never open, or the predicate can't be denied
  pub never_open : ((places : Assignment) → is_open p s clause.variables places (literal_at clause j) ≡ false) → (t : List ℕ) → passes t ≡ false
  never_open closed t = elim (cases_Bool (passes t)) [
    | inl h ↦ absurd (both_ways (is_open p s clause.variables (given clause.variables t) (literal_at clause j))
        (closed (given clause.variables t)) (forced-parts p s q k j t h).ready)
    | inr h ↦ h
  ]

  pub never_denied : is_deniable p q ≡ false → (t : List ℕ) → passes t ≡ false
  never_denied none t = elim (cases_Bool (passes t)) [
    | inl h ↦ absurd (both_ways (is_deniable p q) none
        (deniable-from_asserted p q (origins_of s (take (predicate_at p.predicates q).arity t)) (forced-parts p s q k j t h).denied))
    | inr h ↦ h
  ]

  -- so nothing is forced where a literal fails with what is chosen
  pub hopeless : (choice : Choice) (i : ℕ) (t : List ℕ) → i < length clause.literals → names_unassigned choice.waiting (literal_at clause i) ≡ false
      → fails_at p s q k j i (slice_index choice.places) ≡ true → GoesOn clause.variables choice t → passes t ≡ false
  hopeless choice i t l free fails goes = elim (cases_Bool (passes t)) [
    | inl h ↦ absurd (both_ways (fails_at p s q k j i (given clause.variables t)) (nothing_fails t i h l)
        (sym (same-fails p s q k j i choice (given clause.variables t) goes free) ∙ fails))
    | inr h ↦ h
  ]

  -- the edge that a literal asks for isn't known to be missing
  unknown-not_false : (w : Truth) → is_unknown w ≡ true → w ≢ False
  unknown-not_false w h e = true≢false (sym h ∙ ap is_unknown e)

  known-edge : (b : Bool) (w : Truth) → must (truth_of (must (if b then w else False)) (may (if b then w else False))) ≡ true → w ≢ False
  known-edge b w h e = both_ways (must (truth_of (must (if b then w else False)) (may (if b then w else False)))) (none b) h
    where
      none : (c : Bool) → must (truth_of (must (if c then w else False)) (may (if c then w else False))) ≡ false
      none true = rw e refl
      none false = refl

  pub edge-there : (t : List ℕ) (i : ℕ) (negated : Bool) (r a b : ℕ) → passes t ≡ true → i < length clause.literals
      → literal_at clause i ≡ Call negated false (Reference r) (Var a ∷ Var b ∷ []) → (negated ≡ false) ⊎ (i ≡ j)
      → fact p s r (given clause.variables t a) (given clause.variables t b) ≢ False
  edge-there t i negated r a b h l is may_be =
      let parts = forced-parts p s q k j t h in
      let places = given clause.variables t in
      elim (cases_Bool (i == j)) [
        | inl same ↦
            (let open_edge : is_open p s clause.variables places (Call negated false (Reference r) (Var a ∷ Var b ∷ [])) ≡ true =
            subst (λ (x : Literal). is_open p s clause.variables places x ≡ true) is
            (subst (λ (w : ℕ). is_open p s clause.variables places (literal_at clause w) ≡ true) (sym (eqb-true i j same)) parts.ready) in
            let all = and_parts (may_be_forced s clause.variables negated (Var a) && may_be_forced s clause.variables negated (Var b))
            ((not (is_same_term (Var a) (Var b)) || not (within 2 (hi s (places a)))) && is_unknown (fact p s r (places a) (places b))) open_edge in
            let last = and_parts (not (is_same_term (Var a) (Var b)) || not (within 2 (hi s (places a)))) (is_unknown (fact p s r (places a) (places b))) all.1 in
            unknown-not_false (fact p s r (places a) (places b)) last.1)
        | inr apart ↦
            (let plain : negated ≡ false = elim may_be [ inl e ↦ e | inr e ↦ absurd (both_ways (i == j) apart (eq-eqb i j e)) ] in
            let holds : must (literal_known p s clause.variables i places (Call false false (Reference r) (Var a ∷ Var b ∷ []))) ≡ true =
            subst (λ (n : Bool). must (literal_known p s clause.variables i places (Call n false (Reference r) (Var a ∷ Var b ∷ []))) ≡ true) plain
            (subst (λ (x : Literal). must (literal_known p s clause.variables i places x) ≡ true) is
            (each-from_others p s clause.variables j 0 places clause.literals parts.others i i l (omega arith) apart)) in
            known-edge (nat_lt (places a) (length s.objects) && nat_lt (places b) (length s.objects)) (fact p s r (places a) (places b)) holds)
      ]

  -- each variable stands for an object
  given-there : (t : List ℕ) (v : ℕ) → passes t ≡ true → 0 < length s.objects → given clause.variables t v < length s.objects
  given-there t v h some =
      let l = given-below clause.variables t (length s.objects) v (forced-parts p s q k j t h).tuple.below in
      omega (arith, l, some)

  pub next-along : (edge : Edge) (choice : Choice) (v : ℕ) (elements : Elements) (i : ℕ) → i < length clause.literals
      → literal_at clause i ≡ Call edge.negated false (Reference edge.reference) (Var edge.from ∷ Var edge.to ∷ []) → (edge.negated ≡ false) ⊎ (i ≡ j)
      → Leads p s edge choice v elements → IsNext p s q k j choice v elements
  next-along edge choice v elements i l is may_be leads = record {
    few = leads.few;
    waiting = leads.waiting;
    below = leads.below;
    includes = λ t goes h. leads.includes (given clause.variables t) goes (given-there t v h leads.some)
        (edge-there t i edge.negated edge.reference edge.from edge.to h l is may_be);
  }

  pub next-any : (choice : Choice) (v : ℕ) → v < 8 → slice_index_or choice.waiting v false ≡ true → 0 < length s.objects
      → IsNext p s q k j choice v (Below (length s.objects))
  next-any choice v few waiting some = record {
    few = few;
    waiting = waiting;
    below = omega arith;
    includes = λ t goes h. lt-ltb (given clause.variables t v) (length s.objects) (given-there t v h some);
  }

  -- one element more
  module _ (choice : Choice) (v : ℕ) (elements : Elements) where
    abbrev Among : ℕ → List ℕ → Type 0
    Among = GoesOnAmong clause.variables choice v elements

    pub among-none : (o : Option (List ℕ)) → Improves passes (Among 0) o o
    among-none o = improves-none passes (Among 0) o (λ t m. let l = m.among in absurd (omega (arith, l)))

    pub among-next : (i : ℕ) (chosen : Choice) (o b c : Option (List ℕ)) → v < length choice.places → chosen ≡ with_object choice v (element_at elements i)
        → Improves passes (Among i) o b → Improves passes (GoesOn clause.variables chosen) b c → Improves passes (Among (i + 1)) o c
    among-next i chosen o b c l is before now =
        improves-weaker passes (λ t. Among i t ⊎ GoesOn clause.variables chosen t) (Among (i + 1)) o c (λ t m h. each t m)
        (improves-then passes (Among i) (GoesOn clause.variables chosen) o b c before now)
      where
        each : (t : List ℕ) → Among (i + 1) t → Among i t ⊎ GoesOn clause.variables chosen t
        each t m = elim (cases_order m.number i) [
          | inl same ↦ inr (subst (λ (x : Choice). GoesOn clause.variables x t) (sym is)
              (goes_on-with clause.variables choice v (element_at elements i) t l m.goes_on (ap (element_at elements) (sym same) ∙ m.same)))
          | inr apart ↦ elim apart [
            | inl less ↦ inl (record { goes_on = m.goes_on; number = m.number; among = less; same = m.same })
            | inr after ↦ (let less = m.among in absurd (omega (arith, less, after)))
          ]
        ]

    pub among-all : (n : ℕ) (o b : Option (List ℕ)) → count elements ≤ n → IsNext p s q k j choice v elements → Improves passes (Among n) o b
        → Improves passes (GoesOn clause.variables choice) o b
    among-all n o b past next h = improves-weaker passes (Among n) (GoesOn clause.variables choice) o b each h
      where
        each : (t : List ℕ) → GoesOn clause.variables choice t → passes t ≡ true → Among n t
        each t goes f =
            let found = number-of elements (given clause.variables t v) (next.includes t goes f) in
            let l = found.1 in
            record { goes_on = goes; number = found.0; among = omega (arith, l, past); same = found.2 }

  -- with no variable that waits
  pub looked-at : (choice : Choice) (o b : Option (List ℕ)) (objects : List ℕ) → objects ≡ collected clause.variables (slice_index choice.places) → length choice.waiting ≡ 8
      → ((v : ℕ) → v < 8 → slice_index_or choice.waiting v false ≡ false) → Improves passes (λ t. t ≡ objects) o b → Improves passes (GoesOn clause.variables choice) o b
  looked-at choice o b objects is long none h = improves-weaker passes (λ t. t ≡ objects) (GoesOn clause.variables choice) o b
      (λ t goes f. goes_on-ended clause.variables choice t long none goes (forced-parts p s q k j t f).tuple.many ∙ sym is) h

  -- without objects there is one list
  pub looked-without : (o b : Option (List ℕ)) (objects : List ℕ) → objects ≡ [] → length s.objects ≡ 0 → Improves passes (λ t. t ≡ objects) o b → Improves passes (λ t. Unit {0}) o b
  looked-without o b objects is empty h = improves-weaker passes (λ t. t ≡ objects) (λ t. Unit {0}) o b (λ t u f. only t (forced-parts p s q k j t f).tuple.below ∙ sym is) h
    where
      only : (t : List ℕ) → All (λ o. o < length s.objects) t → t ≡ []
      only [] below = refl
      only (x ∷ t) below = let l : x < length s.objects = below 0 0 (omega arith) in absurd (omega (arith, l, empty))

  -- every list goes on from the start
  pub looked-all : (choice : Choice) (o b : Option (List ℕ)) → ((v : ℕ) → slice_index choice.places v ≡ 0)
      → ((v : ℕ) → slice_index_or choice.waiting v false ≡ (nat_lt v (length clause.variables) && is_free (slice_index_or clause.variables v None)))
      → Improves passes (GoesOn clause.variables choice) o b → Improves passes (λ t. Unit {0}) o b
  looked-all choice o b zeros waits h =
      improves-weaker passes (GoesOn clause.variables choice) (λ t. Unit {0}) o b (λ t u f. goes_on-start clause.variables choice zeros waits t) h

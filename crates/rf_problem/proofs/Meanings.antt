-- Clauses and predicates, computed and in words; their one meaning.
use Rattle.std.proofs.Common.{◌≡◌, ℕ, zero, suc, ◌<◌, Bool, true, false, List, [], Contains, length, drop, if◌then◌else◌, slice_index, refl, sym, ◌∙◌, subst, inl, inr, arith}
use Rattle.std.specs.List.{list_any}
use Rattle.std.proofs.lemmas.Bool.{cases_Bool, cases_lt, both_ways, false_from_ne_true, eq-eqb}
use Rattle.std.proofs.lemmas.List.Elements.{All-contains}
use Rattle.std.proofs.lemmas.Option.{get_or_from_slice_get, slice_get_within}
use Rattle.std.specs.Cmp.{both_ways as same_tests}
use Rattle.rf_finite.proofs.Lists.{one-from_list_any, list_any-from_one}
use Rattle.rf_problem.specs.Holds.{AreMeanings, ClauseHolds, HoldsIn, Interpretation, Meaning, PredicateHolds, SaysItsClauses, interpreted}
use Rattle.rf_problem.specs.Parts.{arity_of, no_predicate, predicate_at}
use Rattle.rf_problem.specs.Reading.{Assignment, Calls, Reading, clause_true, literals_true, predicate_true, symbol_true}
use Rattle.rf_problem.specs.Valid.{FitsClause, calls, calls_predicate, is_free}
use Rattle.rf_problem.specs.declared.predicate.Clause.{Clause}
use Rattle.rf_problem.specs.declared.predicate.Literal.{Literal}
use Rattle.rf_problem.specs.declared.predicate.Literal.TheVariants.{Call, Same, Differ}
use Rattle.rf_problem.specs.declared.predicate.Predicate.{Predicate}
use Rattle.rf_problem.specs.declared.problem.Problem.{Problem}
use Rattle.rf_problem.specs.declared.symbol.Symbol.{Symbol}
use Rattle.rf_problem.specs.declared.symbol.Symbol.TheVariants.{Class, Reference, Predicate as Defined, Exists, Equals}
use Rattle.rf_problem.proofs.Agreements.{Agree, LiteralSays, SaysSame, SymbolSays}
use Rattle.rf_problem.proofs.Choices.{Picks, is_chosen, some_assignment-from_one, one-from_some_assignment, free-from_outer, outer-from_free}
use Rattle.rf_problem.proofs.Depth.{call_rank, call_rank-falls, predicate_at-past, predicate_true-step}
use Rattle.rf_problem.proofs.Fitting.{IsFree, each-from_literals_fit}
use Rattle.rf_problem.proofs.Holding.{SymbolHolds-from_symbol_true, symbol_true-from_SymbolHolds}
use Rattle.rf_problem.proofs.HoldingLiterals.{LiteralHolds-elsewhere, LiteralsSay, literals-from_literals_true, literals_true-from_literals}

module _ (p : Problem) where
  -- the number of parameters of a predicate, and its clauses
  abbrev pub arity_at : ℕ → ℕ
  arity_at q = (predicate_at p.predicates q).arity

  abbrev pub clauses_at : ℕ → List Clause
  clauses_at q = (predicate_at p.predicates q).clauses

  -- a clause of a predicate fits
  FitsClause-of : (q : ℕ) (c : Clause) → Contains (clauses_at q) c
      → FitsClause (length p.classes) (length p.references) p.objects p.predicates (arity_at q) c
  FitsClause-of q c there = elim (cases_lt q (length p.predicates)) [
    | inl l ↦ All-contains (FitsClause (length p.classes) (length p.references) p.objects p.predicates (arity_at q))
        (clauses_at q) c (p.predicates_fit.clauses q no_predicate l) there
    | inr past ↦ (let none : Contains [] c = subst (λ (r : Predicate). Contains r.clauses c) (predicate_at-past p.predicates q past) there in
        let l = none.1 in absurd (omega arith))
  ]

module _ (p : Problem) (told : Calls) (here inside : Reading) (out inn : Interpretation) (agree : Agree here out) (agree' : Agree inside inn) where
  -- what a clause tests of the assignment of its variables
  abbrev body : Clause → Assignment → Bool
  body c assignment = literals_true told here inside c.variables 0 assignment c.literals

  present_within : (x : ℕ) → out.IsPresent x → (x < here.size) × (here.present x ≡ true)
  present_within x h = (agree.within x h, agree.there x h)

  -- a clause holds where the test says so, and the test says so where it does
  ClauseHolds-from_clause_true : (arity : ℕ) (t : List ℕ) (c : Clause) → LiteralsSay p told here inside out inn agree agree' c.literals
      → FitsClause (length p.classes) (length p.references) p.objects p.predicates arity c
      → length t ≡ arity → clause_true told here inside arity t c ≡ true → ClauseHolds out inn t c
  ClauseHolds-from_clause_true arity t c say fit e h =
      let one = one-from_some_assignment is_free here out.IsPresent present_within agree.present (body c) (drop arity c.variables) arity (slice_index t) h in
      let picked : Assignment = one.0 in
      let picks : Picks is_free (drop arity c.variables) arity out.IsPresent (slice_index t) picked = one.1 in
      record {
        assignment = picked;
        stand = record {
          parameters = λ v l. picks.outside v (false_from_ne_true (is_chosen is_free (drop arity c.variables) arity v) (λ k.
              let outer = free-from_outer c.variables arity v k in let at = outer.0 in absurd (omega arith)));
          others = λ v l m none. picks.inside v (outer-from_free c.variables arity v (omega arith) m none);
        };
        literals = literals-from_literals_true p told here inside out inn agree agree' c.variables picked c.literals say fit.literals one.2;
      }

  clause_true-from_ClauseHolds : (arity : ℕ) (t : List ℕ) (c : Clause) → LiteralsSay p told here inside out inn agree agree' c.literals
      → FitsClause (length p.classes) (length p.references) p.objects p.predicates arity c
      → length t ≡ arity → ClauseHolds out inn t c → clause_true told here inside arity t c ≡ true
  clause_true-from_ClauseHolds arity t c say fit e h =
      some_assignment-from_one is_free here out.IsPresent present_within agree.present (body c) (drop arity c.variables) arity (slice_index t) picked picks
      (literals_true-from_literals p told here inside out inn agree agree' c.variables picked c.literals say fit.literals
      (λ i l at. LiteralHolds-elsewhere p out inn c.variables i h.assignment picked l (each-from_literals_fit p c.variables c.literals fit.literals i l at) same (h.literals i l at)))
    where
      picked : Assignment
      picked u = if is_chosen is_free (drop arity c.variables) arity u then h.assignment u else slice_index t u

      picks : Picks is_free (drop arity c.variables) arity out.IsPresent (slice_index t) picked
      picks = record {
        inside = λ u k. (let outer = free-from_outer c.variables arity u k in let at = outer.0 in
            rw k (h.stand.others u (omega arith) outer.1 outer.2));
        outside = λ u k. rw k refl;
      }

      same : (v : ℕ) → IsFree c.variables v → h.assignment v ≡ picked v
      same v free = elim (cases_Bool (is_chosen is_free (drop arity c.variables) arity v)) [
        | inl k ↦ rw k refl
        | inr k ↦ rw k (elim (cases_lt v arity) [
          | inl l ↦ h.stand.parameters v (omega arith)
          | inr past ↦ absurd (both_ways (is_chosen is_free (drop arity c.variables) arity v) k (outer-from_free c.variables arity v past free.0 free.1))
        ])
      ]

  -- they say the same of what predicate q calls
  abbrev pub CalledSay : ℕ → Type 0
  CalledSay q = (s : ℕ) → calls p.predicates q s ≡ true → SaysSame p.predicates told here inside out s × SaysSame p.predicates told inside here inn s

  -- so of what its literals call
  literal_says : (q : ℕ) → CalledSay q → (c : Clause) → Contains (clauses_at p q) c → LiteralsSay p told here inside out inn agree agree' c.literals
  literal_says q say c there i l at = of_literal l (i, slice_get_within c.literals i l at, get_or_from_slice_get c.literals i l l at)
    where
      called : (s : ℕ) (l : Literal) → Contains c.literals l → calls_predicate s l ≡ true → calls p.predicates q s ≡ true
      called s l within e = list_any-from_one (λ c. list_any (calls_predicate s) c.literals) (clauses_at p q) c there (list_any-from_one (calls_predicate s) c.literals l within e)

      of_literal : (l : Literal) → Contains c.literals l → LiteralSays p.predicates told here inside out inn l
      of_literal (Call false closure (Class k) args) within = record {}
      of_literal (Call false closure (Reference r) args) within = record {}
      of_literal (Call false closure (Defined s) args) within = (say s (called s (Call false closure (Defined s) args) within (eq-eqb s s refl))).0
      of_literal (Call false closure Exists args) within = record {}
      of_literal (Call false closure Equals args) within = record {}
      of_literal (Call true closure (Class k) args) within = record {}
      of_literal (Call true closure (Reference r) args) within = record {}
      of_literal (Call true closure (Defined s) args) within = (say s (called s (Call true closure (Defined s) args) within (eq-eqb s s refl))).1
      of_literal (Call true closure Exists args) within = record {}
      of_literal (Call true closure Equals args) within = record {}
      of_literal (Same a b) within = record {}
      of_literal (Differ a b) within = record {}

  -- whether some clause of a predicate says so
  abbrev by_clauses : ℕ → List ℕ → Bool
  by_clauses q t = list_any (clause_true told here inside (arity_at p q) t) (clauses_at p q)

  -- and so a predicate
  pub PredicateHolds-from_clauses : (q : ℕ) → CalledSay q → (t : List ℕ) → length t ≡ arity_at p q → by_clauses q t ≡ true → PredicateHolds p.predicates out inn q t
  PredicateHolds-from_clauses q say t e h =
      let one = one-from_list_any (clause_true told here inside (arity_at p q) t) (clauses_at p q) h in
      (one.0, one.1, ClauseHolds-from_clause_true (arity_at p q) t one.0 (literal_says q say one.0 one.1) (FitsClause-of p q one.0 one.1) e one.2)

  pub clauses-from_PredicateHolds : (q : ℕ) → CalledSay q → (t : List ℕ) → length t ≡ arity_at p q → PredicateHolds p.predicates out inn q t → by_clauses q t ≡ true
  clauses-from_PredicateHolds q say t e h =
      list_any-from_one (clause_true told here inside (arity_at p q) t) (clauses_at p q) h.0 h.1
      (clause_true-from_ClauseHolds (arity_at p q) t h.0 (literal_says q say h.0 h.1) (FitsClause-of p q h.0 h.1) e h.2)

-- a reading says what its interpretation does
pub Agree-interpreted : (a : Reading) (says : Meaning) → Agree a (interpreted a says)
Agree-interpreted a says = record {
  present = λ x l e. (l, e);
  within = λ x h. h.0;
  there = λ x h. h.1;
  origins = λ o x. (λ e. e, λ e. e);
  classes = λ k x. (λ e. e, λ e. e);
  edges = λ r x y. (λ e. e, λ e. e);
  sames = λ x y. (λ e. e, λ e. e);
  differs = λ x y. (λ e. e, λ e. e);
}

module _ (p : Problem) where
  -- what predicates say by the computed test
  abbrev pub by_test : Calls
  by_test = predicate_true p.predicates (length p.predicates)

  abbrev pub computed : Reading → Reading → Meaning
  computed here inside q t = by_test here inside q t

  abbrev rank : ℕ → ℕ
  rank q = call_rank p.classes p.references p.objects p.predicates p.predicates_fit q

  module _ (here inside : Reading) (out inn : Interpretation) (agree : Agree here out) (agree' : Agree inside inn) where
    -- where interpretations say the same as the test of all that a predicate calls, they do of the predicate, if they say what
    -- its clauses say
    same_as_test : SaysItsClauses p.predicates out inn → (q : ℕ) → CalledSay p by_test here inside out inn agree agree' q → SaysSame p.predicates by_test here inside out q
    same_as_test meaning q say t e =
        let step = predicate_true-step p.classes p.references p.objects p.predicates p.predicates_fit here inside q t in
        same_tests (by_test here inside q t) (out.says q t)
        (λ h. (meaning q t e).1 (PredicateHolds-from_clauses p by_test here inside out inn agree agree' q say t e (sym step ∙ h)))
        (λ h. step ∙ clauses-from_PredicateHolds p by_test here inside out inn agree agree' q say t e ((meaning q t e).0 h))

  module _ (here inside : Reading) (out inn : Interpretation) (agree : Agree here out) (agree' : Agree inside inn)
      (outer : SaysItsClauses p.predicates out inn) (inner : SaysItsClauses p.predicates inn out) where
    both_step : (q : ℕ) → ((s : ℕ) → calls p.predicates q s ≡ true → SaysSame p.predicates by_test here inside out s × SaysSame p.predicates by_test inside here inn s)
        → SaysSame p.predicates by_test here inside out q × SaysSame p.predicates by_test inside here inn q
    both_step q called = (
      same_as_test here inside out inn agree agree' outer q called,
      same_as_test inside here inn out agree' agree inner q (λ s c. (let both = called s c in (both.1, both.0))),
    )

    -- interpretations that say what clauses say say what the test does, by induction on how much a predicate calls
    both_same : (n q : ℕ) → rank q < n → SaysSame p.predicates by_test here inside out q × SaysSame p.predicates by_test inside here inn q
    both_same zero q l = absurd (omega arith)
    both_same (suc n) q l = both_step q (λ s c. (let falls = call_rank-falls p.classes p.references p.objects p.predicates p.predicates_fit q s c in both_same n s (omega arith)))

    pub says-by_test : (q : ℕ) → SaysSame p.predicates by_test here inside out q
    says-by_test q = (both_same (suc (rank q)) q (omega arith)).0

  -- the test says what clauses say, in any interpretation that agrees and says what it does
  pub SaysItsClauses-by_test : (here inside : Reading) (out inn : Interpretation) → Agree here out → Agree inside inn
      → ((q : ℕ) → SaysSame p.predicates by_test here inside out q) → ((q : ℕ) → SaysSame p.predicates by_test inside here inn q) → SaysItsClauses p.predicates out inn
  SaysItsClauses-by_test here inside out inn agree agree' says tells q t e =
      let step = predicate_true-step p.classes p.references p.objects p.predicates p.predicates_fit here inside q t in (
        λ h. PredicateHolds-from_clauses p by_test here inside out inn agree agree' q (λ s c. (says s, tells s)) t e (sym step ∙ (says q t e ∙ h)),
        λ h. sym (says q t e) ∙ (step ∙ clauses-from_PredicateHolds p by_test here inside out inn agree agree' q (λ s c. (says s, tells s)) t e h),
      )

  -- and so it gives the meanings in a pair of readings
  pub computed-AreMeanings : (here inside : Reading) → AreMeanings p here inside (computed here inside) (computed inside here)
  computed-AreMeanings here inside = record {
    outer = SaysItsClauses-by_test here inside (interpreted here (computed here inside)) (interpreted inside (computed inside here))
        (Agree-interpreted here (computed here inside)) (Agree-interpreted inside (computed inside here)) (λ q t e. refl) (λ q t e. refl);
    inner = SaysItsClauses-by_test inside here (interpreted inside (computed inside here)) (interpreted here (computed here inside))
        (Agree-interpreted inside (computed inside here)) (Agree-interpreted here (computed here inside)) (λ q t e. refl) (λ q t e. refl);
  }

  -- which are the only ones
  meanings-by_test : (here inside : Reading) (says tells : Meaning) → AreMeanings p here inside says tells → (q : ℕ) → SaysSame p.predicates by_test here inside (interpreted here says) q
  meanings-by_test here inside says tells m =
      says-by_test here inside (interpreted here says) (interpreted inside tells) (Agree-interpreted here says) (Agree-interpreted inside tells) m.outer m.inner

  pub meanings-unique : (here inside : Reading) (says tells says' tells' : Meaning) → AreMeanings p here inside says tells → AreMeanings p here inside says' tells'
      → (q : ℕ) (t : List ℕ) → length t ≡ arity_at p q → says q t ≡ says' q t
  meanings-unique here inside says tells says' tells' first second q t e =
      sym (meanings-by_test here inside says tells first q t e) ∙ meanings-by_test here inside says' tells' second q t e

  -- what is said of a symbol where it is of each predicate
  pub symbol_says : (here inside : Reading) (out : Interpretation) → ((q : ℕ) → SaysSame p.predicates by_test here inside out q) → (symbol : Symbol) → SymbolSays p.predicates by_test here inside out symbol
  symbol_says here inside out says (Class k) = record {}
  symbol_says here inside out says (Reference r) = record {}
  symbol_says here inside out says (Defined q) = says q
  symbol_says here inside out says Exists = record {}
  symbol_says here inside out says Equals = record {}

  -- a symbol holds where the test says so, and the test says so where it does
  pub HoldsIn-from_symbol_true : (here inside : Reading) (symbol : Symbol) (t : List ℕ) → length t ≡ arity_of p.predicates symbol
      → symbol_true by_test here inside symbol t ≡ true → HoldsIn p here inside symbol t
  HoldsIn-from_symbol_true here inside symbol t e h = record {
    says = computed here inside;
    tells = computed inside here;
    meanings = computed-AreMeanings here inside;
    symbol_holds = SymbolHolds-from_symbol_true p.predicates by_test here inside (interpreted here (computed here inside)) (Agree-interpreted here (computed here inside)) symbol
        (symbol_says here inside (interpreted here (computed here inside)) (λ q t e. refl) symbol) t e h;
  }

  pub symbol_true-from_HoldsIn : (here inside : Reading) (symbol : Symbol) (t : List ℕ) → length t ≡ arity_of p.predicates symbol
      → HoldsIn p here inside symbol t → symbol_true by_test here inside symbol t ≡ true
  symbol_true-from_HoldsIn here inside symbol t e h =
      symbol_true-from_SymbolHolds p.predicates by_test here inside (interpreted here h.says) (Agree-interpreted here h.says) symbol
      (symbol_says here inside (interpreted here h.says) (meanings-by_test here inside h.says h.tells h.meanings) symbol) t e h.symbol_holds

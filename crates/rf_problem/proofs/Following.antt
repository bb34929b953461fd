-- What a predicate says in one reading it says in each reading that follows.
use Rattle.std.proofs.Common.{◌≡◌, ℕ, zero, suc, ◌<◌, Bool, true, false, ◌&&◌, ◌==◌, Option, None, List, [], ◌∷◌, length, slice_index_or, slice_index, map, drop, ◌⊎◌, refl, sym, ◌∙◌, subst, inl, inr, arith, true≢false, All}
use Rattle.std.proofs.lemmas.Bool.{and_parts, and_from, or_cases, or_left, or_right, cases_Bool, cases_lt, not-true, not_from_false, false_from_ne_true, both_ways, eqb-true, eq-eqb, eqb-false, ltb-true}
use Rattle.std.proofs.lemmas.List.{length-map}
use Rattle.std.specs.List.{list_any, list_all}
use Rattle.rf_finite.proofs.Range.{some_below-from_one, one-from_some_below}
use Rattle.rf_finite.proofs.Walks.{walk_below-from_IsWalk, IsReachable-along, IsReachable-from_walk_below}
use Rattle.rf_problem.specs.Follows.{Follows, AreRelated, CarriesOver}
use Rattle.rf_problem.specs.Parts.{predicate_at, arity_of, no_predicate}
use Rattle.rf_problem.specs.Reading.{Assignment, Calls, Choice, Reading, assign, atom_true, atoms_among, call_true, clause_true, element_of, is_entry, literal_true, literals_true, predicate_true, some_assignment, some_choice, some_elements, symbol_true}
use Rattle.rf_problem.specs.Valid.{FitsClause, fits_term, has_steps, is_declared, is_free, may_stand}
use Rattle.rf_problem.specs.declared.predicate.Clause.{Clause}
use Rattle.rf_problem.specs.declared.predicate.Predicate.{Predicate as Definition}
use Rattle.rf_problem.specs.declared.predicate.Literal.{Literal}
use Rattle.rf_problem.specs.declared.predicate.Literal.TheVariants.{Call, Same, Differ}
use Rattle.rf_problem.specs.declared.predicate.Term.{Term}
use Rattle.rf_problem.specs.declared.predicate.Term.TheVariants.{Var, Atom}
use Rattle.rf_problem.specs.declared.problem.Problem.{Problem}
use Rattle.rf_problem.specs.declared.symbol.Symbol.{Symbol}
use Rattle.rf_problem.specs.declared.symbol.Symbol.TheVariants.{Class, Reference, Predicate, Exists, Equals}
use Rattle.rf_problem.proofs.Choices.{is_chosen, inner-from_entry, outer-from_free, is_entry-Some}
use Rattle.rf_problem.proofs.Depth.{predicate_at-past}
use Rattle.rf_problem.proofs.Fitting.{FitsCall, FitsCall-from_literal_fits, IsFree, literal_fits, literals_fit, may_stand-free, may_stand-parts, ranges_over-cases}

-- related assignments stay related where one more variable stands for related elements
assigned : (Rel : ℕ → ℕ → Type 0) (f h : Assignment) (v x y u : ℕ) → Rel x y → Rel (f u) (h u) ⊎ (u ≡ v) → Rel (assign f v x u) (assign h v y u)
assigned Rel f h v x y u r w = elim (cases_Bool (u == v)) [
  | inl e ↦ rw e r
  | inr e ↦ rw e (elim w [ inl known ↦ known | inr s ↦ absurd (eqb-false u v e s) ])
]

module _ (p : Problem) (a b : Reading) (Rel : ℕ → ℕ → Type 0) (f : Follows p a b Rel) where
  -- some assignment passes where some does that it follows from
  assignment_follows : (chosen : Option ℕ → Bool) (entries : List (Option ℕ)) (v : ℕ) (g h : Assignment) (Known : ℕ → Type 0) (test test' : Assignment → Bool)
      → ((u : ℕ) → Known u → Rel (g u) (h u))
      → ((s s' : Assignment) → ((u : ℕ) → Known u ⊎ (is_chosen chosen entries v u ≡ true) → Rel (s u) (s' u)) → test s ≡ true → test' s' ≡ true)
      → some_assignment a chosen entries v g test ≡ true → some_assignment b chosen entries v h test' ≡ true
  assignment_follows chosen [] v g h Known test test' known k t = k g h (λ u. elim [ inl e ↦ known u e | inr e ↦ absurd (true≢false (sym e)) ]) t
  assignment_follows chosen (entry ∷ entries) v g h Known test test' known k t = elim (cases_Bool (chosen entry)) [
    | inl e ↦ (let found = one-from_some_below a.size (λ x. a.present x && some_assignment a chosen entries (suc v) (assign g v x) test) (rw e at t) in
        let parts = and_parts (a.present found.0) (some_assignment a chosen entries (suc v) (assign g v found.0) test) found.2 in
        let y = f.elements found.0 found.1 parts.0 in
        let rest = assignment_follows chosen entries (suc v) (assign g v found.0) (assign h v y.0) (λ u. Known u ⊎ (u ≡ v)) test test'
        (λ u w. assigned Rel g h v found.0 y.0 u y.1 (elim w [ inl x ↦ inl (known u x) | inr x ↦ inr x ]))
        (λ s s' r. k s s' (λ u w. r u (elim w [
          | inl x ↦ inl (inl x)
          | inr x ↦ elim (or_cases (u == v && chosen entry) (is_chosen chosen entries (suc v) u) x) [
            | inl z ↦ inl (inr (eqb-true u v (and_parts (u == v) (chosen entry) z).0))
            | inr z ↦ inr z
          ]
        ])))
        parts.1 in
        rw e (some_below-from_one b.size (λ x. b.present x && some_assignment b chosen entries (suc v) (assign h v x) test') y.0 y.2
        (and_from (b.present y.0) (some_assignment b chosen entries (suc v) (assign h v y.0) test') y.3 rest)))
    | inr e ↦ rw e (assignment_follows chosen entries (suc v) g h Known test test' known
        (λ s s' r. k s s' (λ u w. r u (elim w [
          | inl x ↦ inl x
          | inr x ↦ elim (or_cases (u == v && chosen entry) (is_chosen chosen entries (suc v) u) x) [
            | inl z ↦ absurd (both_ways (chosen entry) e (and_parts (u == v) (chosen entry) z).1)
            | inr z ↦ inr z
          ]
        ])))
        (rw e at t))
  ]

  -- so with choices for atoms
  choice_follows : (atoms : List ℕ) (g h : Choice) (Known : ℕ → Type 0) (test test' : Choice → Bool)
      → ((o : ℕ) → Known o → Rel (g o) (h o))
      → ((s s' : Choice) → ((o : ℕ) → Known o ⊎ (list_any (λ x. o == x) atoms ≡ true) → Rel (s o) (s' o)) → test s ≡ true → test' s' ≡ true)
      → some_choice a atoms g test ≡ true → some_choice b atoms h test' ≡ true
  choice_follows [] g h Known test test' known k t = k g h (λ o. elim [ inl e ↦ known o e | inr e ↦ absurd (true≢false (sym e)) ]) t
  choice_follows (at ∷ atoms) g h Known test test' known k t =
      let found = one-from_some_below a.size (λ x. a.present x && (a.origin x == at && some_choice a atoms (assign g at x) test)) t in
      let parts = and_parts (a.present found.0) (a.origin found.0 == at && some_choice a atoms (assign g at found.0) test) found.2 in
      let more = and_parts (a.origin found.0 == at) (some_choice a atoms (assign g at found.0) test) parts.1 in
      let y = f.elements found.0 found.1 parts.0 in
      let rest = choice_follows atoms (assign g at found.0) (assign h at y.0) (λ o. Known o ⊎ (o ≡ at)) test test'
      (λ o w. assigned Rel g h at found.0 y.0 o y.1 (elim w [ inl x ↦ inl (known o x) | inr x ↦ inr x ]))
      (λ s s' r. k s s' (λ o w. r o (elim w [
        | inl x ↦ inl (inl x)
        | inr x ↦ elim (or_cases (o == at) (list_any (λ x. o == x) atoms) x) [
          | inl z ↦ inl (inr (eqb-true o at z))
          | inr z ↦ inr z
        ]
      ])))
      more.1 in
      some_below-from_one b.size (λ x. b.present x && (b.origin x == at && some_choice b atoms (assign h at x) test')) y.0 y.2
      (and_from (b.present y.0) (b.origin y.0 == at && some_choice b atoms (assign h at y.0) test') y.3
      (and_from (b.origin y.0 == at) (some_choice b atoms (assign h at y.0) test') (eq-eqb (b.origin y.0) at (y.4 ∙ eqb-true (a.origin found.0) at more.0)) rest))

-- terms whose variables and atoms stand for related elements stand for related ones
term_related : (Rel : ℕ → ℕ → Type 0) (test : Term → Bool) (args : List Term) (g h : Assignment) (s s' : Choice) → list_all test args ≡ true
    → ((v : ℕ) → test (Var v) ≡ true → Rel (g v) (h v)) → ((o : ℕ) → list_any (λ x. o == x) (atoms_among args) ≡ true → Rel (s o) (s' o))
    → (i : ℕ) → i < length args → Rel (slice_index (map (element_of g s) args) i) (slice_index (map (element_of h s') args) i)
term_related Rel test [] g h s s' all known chosen i l = absurd (omega arith)
term_related Rel test (Var v ∷ args) g h s s' all known chosen zero l = known v (and_parts (test (Var v)) (list_all test args) all).0
term_related Rel test (Var v ∷ args) g h s s' all known chosen (suc i) l =
    term_related Rel test args g h s s' (and_parts (test (Var v)) (list_all test args) all).1 known chosen i (omega arith)
term_related Rel test (Atom o ∷ args) g h s s' all known chosen zero l = chosen o (or_left (o == o) (list_any (λ x. o == x) (atoms_among args)) (eq-eqb o o refl))
term_related Rel test (Atom o ∷ args) g h s s' all known chosen (suc i) l =
    term_related Rel test args g h s s' (and_parts (test (Atom o)) (list_all test args) all).1 known
    (λ m e. chosen m (or_right (m == o) (list_any (λ x. m == x) (atoms_among args)) e)) i (omega arith)

-- what terms say follows where what their elements say does
elements_follow : (p : Problem) (a b : Reading) (Rel : ℕ → ℕ → Type 0) → Follows p a b Rel → (test : Term → Bool) (args : List Term) (g h : Assignment) (says says' : List ℕ → Bool)
    → list_all test args ≡ true → ((v : ℕ) → test (Var v) ≡ true → Rel (g v) (h v))
    → ((t u : List ℕ) → AreRelated (length args) Rel t u → says t ≡ true → says' u ≡ true)
    → some_elements a g args says ≡ true → some_elements b h args says' ≡ true
elements_follow p a b Rel f test args g h says says' all known k t =
    choice_follows p a b Rel f (atoms_among args) (λ o. 0) (λ o. 0) (λ o. ⊥)
    (λ s. says (map (element_of g s) args)) (λ s. says' (map (element_of h s) args))
    (λ o e. absurd e)
    (λ s s' r. k (map (element_of g s) args) (map (element_of h s') args) record {
      left = length-map args (element_of g s);
      right = length-map args (element_of h s');
      each = term_related Rel test args g h s s' all known (λ o e. r o (inr e));
    })
    t

abbrev pub CallsFollow : Problem → Calls → Reading → Reading → Reading → Reading → (ℕ → ℕ → Type 0) → Type 0
CallsFollow p calls a n b m Rel = (q : ℕ) (t u : List ℕ) → AreRelated (predicate_at p.predicates q).arity Rel t u → calls a n q t ≡ true → calls b m q u ≡ true

two_related : (Rel : ℕ → ℕ → Type 0) (x y u v : ℕ) → Rel x u → Rel y v → (i : ℕ) → i < 2 → Rel (slice_index (x ∷ y ∷ []) i) (slice_index (u ∷ v ∷ []) i)
two_related Rel x y u v r s zero l = r
two_related Rel x y u v r s (suc zero) l = s
two_related Rel x y u v r s (suc (suc i)) l = absurd (omega arith)

steps_two : (ps : List Definition) (symbol : Symbol) → has_steps ps symbol ≡ true → arity_of ps symbol ≡ 2
steps_two ps (Class k) h = absurd (true≢false (sym h))
steps_two ps (Reference r) h = refl
steps_two ps (Predicate q) h = eqb-true (predicate_at ps q).arity 2 h
steps_two ps Exists h = absurd (true≢false (sym h))
steps_two ps Equals h = absurd (true≢false (sym h))

stands_inside : (variables : List (Option ℕ)) (i v : ℕ) → may_stand variables i true v ≡ true → IsFree variables v ⊎ (is_chosen (is_entry i) variables 0 v ≡ true)
stands_inside variables i v h =
    let parts = may_stand-parts variables i v true h in
    elim (ranges_over-cases (slice_index_or variables v None) i parts.1) [
      | inl e ↦ inl (parts.0, e)
      | inr e ↦ inr (inner-from_entry variables i v (is_entry-Some i (slice_index_or variables v None) e))
    ]

module _ (p : Problem) (calls : Calls) (a n b m : Reading) (Rel : ℕ → ℕ → Type 0) (f : Follows p a b Rel) (cf : CallsFollow p calls a n b m Rel) where
  symbol_follows : (symbol : Symbol) (t u : List ℕ) → is_declared (length p.classes) (length p.references) (length p.predicates) symbol ≡ true
      → AreRelated (arity_of p.predicates symbol) Rel t u → symbol_true calls a n symbol t ≡ true → symbol_true calls b m symbol u ≡ true
  symbol_follows (Class k) t u d r h = f.classes k (slice_index t 0) (slice_index u 0) (ltb-true k (length p.classes) d) (r.each 0 (omega arith)) h
  symbol_follows (Reference k) t u d r h =
      f.edges k (slice_index t 0) (slice_index t 1) (slice_index u 0) (slice_index u 1) (ltb-true k (length p.references) d) (r.each 0 (omega arith)) (r.each 1 (omega arith)) h
  symbol_follows (Predicate q) t u d r h = cf q t u r h
  symbol_follows Exists t u d r h = absurd (true≢false (sym h))
  symbol_follows Equals t u d r h = absurd (true≢false (sym h))

  atom_follows : (closure : Bool) (symbol : Symbol) (t u : List ℕ) → is_declared (length p.classes) (length p.references) (length p.predicates) symbol ≡ true
      → (closure ≡ true → arity_of p.predicates symbol ≡ 2) → AreRelated (arity_of p.predicates symbol) Rel t u
      → atom_true calls a n closure symbol t ≡ true → atom_true calls b m closure symbol u ≡ true
  atom_follows false symbol t u d two r h = symbol_follows symbol t u d r h
  atom_follows true symbol t u d two r h =
      let both = two refl in
      let step : ℕ → ℕ → Bool = λ x y. symbol_true calls a n symbol (x ∷ y ∷ []) in
      let step' : ℕ → ℕ → Bool = λ x y. symbol_true calls b m symbol (x ∷ y ∷ []) in
      let w = IsReachable-from_walk_below step a.present a.size (slice_index t 0) (slice_index t 1) h in
      let w' = IsReachable-along step step' a.present b.present a.size b.size Rel
      (λ x y u v ru rv e. symbol_follows symbol (x ∷ y ∷ []) (u ∷ v ∷ []) d (record { left = sym both; right = sym both; each = λ i k. two_related Rel x y u v ru rv i (omega arith) }) e)
      (λ x l e. (let y = f.elements x l e in (y.0, y.1, y.2, y.3)))
      (slice_index t 0) w.0 (slice_index t 1) (slice_index u 0) (slice_index u 1) (r.each 0 (omega arith)) (r.each 1 (omega arith)) w.1 in
      walk_below-from_IsWalk step' b.present b.size (slice_index u 0) w'.0 (slice_index u 1) w'.1

  call_follows : (variables : List (Option ℕ)) (i : ℕ) (negated closure : Bool) (symbol : Symbol) (args : List Term) (g h : Assignment)
      → FitsCall p variables i negated closure symbol args → ((v : ℕ) → may_stand variables i negated v ≡ true → Rel (g v) (h v))
      → call_true calls a n closure symbol g args ≡ true → call_true calls b m closure symbol h args ≡ true
  call_follows variables i negated closure symbol args g h c known t =
      elements_follow p a b Rel f (fits_term p.objects variables i negated) args g h (atom_true calls a n closure symbol) (atom_true calls b m closure symbol) c.stand known
      (λ t u r e. atom_follows closure symbol t u c.declared (λ e. steps_two p.predicates symbol (c.steps e)) (subst (λ n. AreRelated n Rel t u) c.arity r) e)
      t

module _ (p : Problem) (calls : Calls) (a n b m : Reading) (Rel : ℕ → ℕ → Type 0) (f : Follows p a b Rel) (g : Follows p m n (λ x y. Rel y x))
    (cf : CallsFollow p calls a n b m Rel) (cg : CallsFollow p calls m b n a (λ x y. Rel y x)) (variables : List (Option ℕ)) where
  -- a comparison says the same of related elements
  comparison_follows : (i : ℕ) (x y : Term) (t u : Assignment) (says says' : ℕ → ℕ → Bool)
      → (fits_term p.objects variables i false x && fits_term p.objects variables i false y) ≡ true
      → ((v : ℕ) → IsFree variables v → Rel (t v) (u v)) → ((x y u v : ℕ) → Rel x u → Rel y v → says x y ≡ true → says' u v ≡ true)
      → some_elements a t (x ∷ y ∷ []) (λ e. says (slice_index e 0) (slice_index e 1)) ≡ true → some_elements b u (x ∷ y ∷ []) (λ e. says' (slice_index e 0) (slice_index e 1)) ≡ true
  comparison_follows i x y t u says says' stand r both h =
      let parts = and_parts (fits_term p.objects variables i false x) (fits_term p.objects variables i false y) stand in
      elements_follow p a b Rel f (fits_term p.objects variables i false) (x ∷ y ∷ []) t u (λ e. says (slice_index e 0) (slice_index e 1)) (λ e. says' (slice_index e 0) (slice_index e 1))
      (and_from (fits_term p.objects variables i false x) (list_all (fits_term p.objects variables i false) (y ∷ [])) parts.0
      (and_from (fits_term p.objects variables i false y) true parts.1 refl))
      (λ v s. r v (may_stand-free variables i v s))
      (λ k l rel e. both (slice_index k 0) (slice_index k 1) (slice_index l 0) (slice_index l 1) (rel.each 0 (omega arith)) (rel.each 1 (omega arith)) e)
      h

  pub literal_follows : (i : ℕ) (t u : Assignment) (l : Literal) → literal_fits p variables i l ≡ true → ((v : ℕ) → IsFree variables v → Rel (t v) (u v))
      → literal_true calls a n variables i t l ≡ true → literal_true calls b m variables i u l ≡ true
  literal_follows i t u (Call false closure symbol args) fit r h =
      call_follows p calls a n b m Rel f cf variables i false closure symbol args t u (FitsCall-from_literal_fits p variables i false closure symbol args fit) (λ v s. r v (may_stand-free variables i v s)) h
  literal_follows i t u (Call true closure symbol args) fit r h =
      let c = FitsCall-from_literal_fits p variables i true closure symbol args fit in
      let outer : Assignment → Bool = λ w. call_true calls n a closure symbol w args in
      let outer' : Assignment → Bool = λ w. call_true calls m b closure symbol w args in
      let none = not-true (some_assignment n (is_entry i) variables 0 t outer) h in
      not_from_false (some_assignment m (is_entry i) variables 0 u outer')
      (false_from_ne_true (some_assignment m (is_entry i) variables 0 u outer') (λ some.
      both_ways (some_assignment n (is_entry i) variables 0 t outer) none
      (assignment_follows p m n (λ x y. Rel y x) g (is_entry i) variables 0 u t (IsFree variables) outer' outer r
      (λ s' s known e. call_follows p calls m b n a (λ x y. Rel y x) g cg variables i true closure symbol args s' s c (λ v k. known v (stands_inside variables i v k)) e)
      some)))
  literal_follows i t u (Same x y) fit r h = comparison_follows i x y t u a.is_same b.is_same fit r f.sames h
  literal_follows i t u (Differ x y) fit r h = comparison_follows i x y t u a.is_different b.is_different fit r f.differs h

  literals_follow : (i : ℕ) (t u : Assignment) (ls : List Literal) → literals_fit p variables i ls ≡ true
      → ((v : ℕ) → IsFree variables v → Rel (t v) (u v))
      → literals_true calls a n variables i t ls ≡ true → literals_true calls b m variables i u ls ≡ true
  literals_follow i t u [] fit r h = refl
  literals_follow i t u (l ∷ ls) fit r h =
      let parts = and_parts (literal_true calls a n variables i t l) (literals_true calls a n variables (suc i) t ls) h in
      let both = and_parts (literal_fits p variables i l) (literals_fit p variables (suc i) ls) fit in
      and_from (literal_true calls b m variables i u l) (literals_true calls b m variables (suc i) u ls)
      (literal_follows i t u l both.0 r parts.0) (literals_follow (suc i) t u ls both.1 r parts.1)

  clause_follows : (arity : ℕ) (t u : List ℕ) (ls : List Literal) → literals_fit p variables 0 ls ≡ true → AreRelated arity Rel t u
      → some_assignment a is_free (drop arity variables) arity (slice_index t) (λ s. literals_true calls a n variables 0 s ls) ≡ true
      → some_assignment b is_free (drop arity variables) arity (slice_index u) (λ s. literals_true calls b m variables 0 s ls) ≡ true
  clause_follows arity t u ls fit r h =
      assignment_follows p a b Rel f is_free (drop arity variables) arity (slice_index t) (slice_index u) (λ v. v < arity)
      (λ s. literals_true calls a n variables 0 s ls) (λ s. literals_true calls b m variables 0 s ls)
      r.each (λ s s' known e. literals_follow 0 s s' ls fit (λ v free. known v (elim (cases_lt v arity) [
        | inl l ↦ inl l
        | inr ge ↦ inr (outer-from_free variables arity v ge free.0 free.1)
      ])) e) h

module _ (p : Problem) (calls : Calls) (a n b m : Reading) (Rel : ℕ → ℕ → Type 0) (f : Follows p a b Rel) (g : Follows p m n (λ x y. Rel y x))
    (cf : CallsFollow p calls a n b m Rel) (cg : CallsFollow p calls m b n a (λ x y. Rel y x)) (arity : ℕ) where
  clauses_follow : (t u : List ℕ) (cs : List Clause) → All (FitsClause (length p.classes) (length p.references) p.objects p.predicates arity) cs → AreRelated arity Rel t u
      → list_any (clause_true calls a n arity t) cs ≡ true → list_any (clause_true calls b m arity u) cs ≡ true
  clauses_follow t u [] fit r h = h
  clauses_follow t u (c ∷ cs) fit r h = elim (or_cases (clause_true calls a n arity t c) (list_any (clause_true calls a n arity t) cs) h) [
    | inl e ↦ or_left (clause_true calls b m arity u c) (list_any (clause_true calls b m arity u) cs)
        (clause_follows p calls a n b m Rel f g cf cg c.variables arity t u c.literals (fit 0 c (omega arith)).literals r e)
    | inr e ↦ or_right (clause_true calls b m arity u c) (list_any (clause_true calls b m arity u) cs) (clauses_follow t u cs (λ i d l. fit (suc i) d (omega arith)) r e)
  ]

pub predicates_carry_over : (p : Problem) (Rel : ℕ → ℕ → Type 0) → CarriesOver p Rel
predicates_carry_over p Rel zero a n b m f g q t u r h = absurd (true≢false (sym h))
predicates_carry_over p Rel (suc depth) a n b m f g q t u r h = elim (cases_lt q (length p.predicates)) [
  | inl l ↦ clauses_follow p (predicate_true p.predicates depth) a n b m Rel f g
      (λ q t u r h. predicates_carry_over p Rel depth a n b m f g q t u r h)
      (λ q t u r h. predicates_carry_over p (λ x y. Rel y x) depth m b n a g f q t u r h)
      (predicate_at p.predicates q).arity t u (predicate_at p.predicates q).clauses (p.predicates_fit.clauses q no_predicate l) r h
  | inr ge ↦ (let none = predicate_at-past p.predicates q ge in absurd (true≢false (sym (rw none at h))))
]

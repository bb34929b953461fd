-- What is known of symbols at tuples, and of the clauses of predicates.
use Rattle.std.proofs.Common.{◌≡◌, ℕ, zero, suc, ◌+◌, ◌-◌, ◌<◌, ◌≤◌, max, Bool, true, Some, List, [], ◌∷◌, length, get_or, drop, All, refl, sym, ap, ap₂, ◌∙◌, subst, inl, inr, arith, drop-cons, add-one}
use Rattle.std.proofs.lemmas.Bool.{cases_lt, eq-eqb, ltb-true}
use Rattle.std.proofs.lemmas.List.{drop_all, get_or_past}
use Rattle.std.proofs.lemmas.List.Folds.{list_any_at}
use Rattle.std.proofs.lemmas.Option.{get_or_from_slice_get, slice_get_past}
use Rattle.std.specs.List.{list_any}
use Rattle.std.specs.Prelude.{slice_get, slice_index}
use Rattle.rf_finite.proofs.Range.{None-ne_Some}
use Rattle.rf_finite.specs.Walks.{walk_below}
use Rattle.rf_problem.specs.Parts.{arity_of, no_predicate, predicate_at}
use Rattle.rf_problem.specs.Reading.{Assignment, Reading, clause_true, literals_true, predicate_true, some_assignment, symbol_true}
use Rattle.rf_problem.specs.Valid.{FitsClause, calls, calls_predicate, is_free}
use Rattle.rf_problem.specs.declared.predicate.Clause.{Clause}
use Rattle.rf_problem.specs.declared.predicate.Literal.{Literal}
use Rattle.rf_problem.specs.declared.predicate.Literal.TheVariants.{Call, Same, Differ}
use Rattle.rf_problem.specs.declared.predicate.Predicate.{Predicate}
use Rattle.rf_problem.specs.declared.problem.Problem.{Problem}
use Rattle.rf_problem.specs.declared.symbol.Symbol.{Symbol}
use Rattle.rf_problem.specs.declared.symbol.Symbol.TheVariants.{Class, Reference, Predicate as Defined, Exists, Equals}
use Rattle.rf_problem.proofs.Depth.{call_rank-below, call_rank-falls, predicate_true-step}
use Rattle.rf_values.specs.Truth.{disjunction, may, must, truth_of}
use Rattle.rf_values.specs.declared.truth.Truth.{Truth}
use Rattle.rf_values.specs.declared.truth.Truth.TheVariants.{True}
use Rattle.rf_evaluate.specs.Evaluating.{IsSoundClause, IsWithin, LiteralIsWithin, call_rank, calls_of, clause_value, some_clause_value}
use Rattle.rf_evaluate.specs.Known.{Known, declares, side, value_of, walk_of}
use Rattle.rf_evaluate.specs.Terms.{AreElements}
use Rattle.rf_evaluate.proofs.EvaluationTruths.{disjunction-assoc, disjunction-False}
use Rattle.rf_evaluate.proofs.InBoth.{disjunction-truth_of}

-- cells that hold elements
pub AreElements-tuple : (cells t : List ℕ) (n : ℕ) → slice_index cells ≡ slice_index t → All (λ x. x < n) t → AreElements n cells
AreElements-tuple cells t n e h k = subst (λ (y : ℕ). y < max 1 n) (sym (ap (λ (f : Assignment). f k) e)) (elim (cases_lt k (length t)) [
  | inl l ↦ (let element = h k 0 l in omega arith)
  | inr g ↦ rw (get_or_past t k 0 g) (omega arith)
])

pub AreElements-pair : (cells : List ℕ) (a b n : ℕ) → slice_index cells ≡ slice_index (a ∷ b ∷ []) → a < max 1 n → b < max 1 n → AreElements n cells
AreElements-pair cells a b n e la lb k = subst (λ (y : ℕ). y < max 1 n) (sym (ap (λ (f : Assignment). f k) e)) (each k)
  where
    each : (k : ℕ) → get_or (a ∷ b ∷ []) k 0 < max 1 n
    each zero = la
    each (suc zero) = lb
    each (suc (suc k)) = omega arith

-- calls read no more of a tuple than its elements
predicate_true-same : (ps : List Predicate) (depth : ℕ) (here inside : Reading) (q : ℕ) (t u : List ℕ) → slice_index t ≡ slice_index u
    → predicate_true ps depth here inside q t ≡ predicate_true ps depth here inside q u
predicate_true-same ps zero here inside q t u e = refl
predicate_true-same ps (suc depth) here inside q t u e =
    ap (λ (f : Assignment). list_any (λ c. some_assignment here is_free (drop (predicate_at ps q).arity c.variables) (predicate_at ps q).arity f
    (λ assignment. literals_true (predicate_true ps depth) here inside c.variables 0 assignment c.literals)) (predicate_at ps q).clauses) e

pub symbol_true-same : (ps : List Predicate) (depth : ℕ) (here inside : Reading) (s : Symbol) (t u : List ℕ) → slice_index t ≡ slice_index u
    → symbol_true (predicate_true ps depth) here inside s t ≡ symbol_true (predicate_true ps depth) here inside s u
symbol_true-same ps depth here inside (Class k) t u e = ap (λ (f : Assignment). here.has_class k (f 0)) e
symbol_true-same ps depth here inside (Reference r) t u e = ap (λ (f : Assignment). here.has_edge r (f 0) (f 1)) e
symbol_true-same ps depth here inside (Defined q) t u e = predicate_true-same ps depth here inside q t u e
symbol_true-same ps depth here inside Exists t u e = refl
symbol_true-same ps depth here inside Equals t u e = refl

pub value_of-same : (k : Known) (s : Symbol) (t u : List ℕ) → slice_index t ≡ slice_index u → value_of k s t ≡ value_of k s u
value_of-same k s t u e = ap₂ truth_of
    (symbol_true-same k.problem.predicates (length k.problem.predicates) (side must k) (side may k) s t u e)
    (symbol_true-same k.problem.predicates (length k.problem.predicates) (side may k) (side must k) s t u e)

-- between no elements a walk is a step
pub walk_of-empty : (k : Known) (s : Symbol) (x y : ℕ) → k.size ≡ 0 → walk_of k s x y ≡ value_of k s (x ∷ y ∷ [])
walk_of-empty k s x y e = ap (λ (n : ℕ). truth_of
    (walk_below (λ x y. symbol_true (calls_of k) (side must k) (side may k) s (x ∷ y ∷ [])) (side must k).present n x y)
    (walk_below (λ x y. symbol_true (calls_of k) (side may k) (side must k) s (x ∷ y ∷ [])) (side may k).present n x y)) e

-- symbols have few arguments
pub arity_of-few : (p : Problem) (s : Symbol) → arity_of p.predicates s ≤ 4
arity_of-few p (Class k) = omega arith
arity_of-few p (Reference r) = omega arith
arity_of-few p (Defined q) = elim (cases_lt q (length p.predicates)) [
  | inl l ↦ p.predicates_fit.arities q no_predicate l
  | inr g ↦ subst (λ (d : Predicate). d.arity ≤ 4) (sym (get_or_past p.predicates q no_predicate g)) (omega arith)
]
arity_of-few p Exists = omega arith
arity_of-few p Equals = omega arith

-- calls go less deep than there are predicates
pub IsWithin-all : (p : Problem) (s : Symbol) → declares p s ≡ true → IsWithin p.predicates (length p.predicates) s
IsWithin-all p (Class k) h = tt
IsWithin-all p (Reference r) h = tt
IsWithin-all p (Defined q) h = call_rank-below p.classes p.references p.objects p.predicates p.predicates_fit q (ltb-true q (length p.predicates) h)
IsWithin-all p Exists h = tt
IsWithin-all p Equals h = tt

-- an element that is there is below the end
pub slice_get-below : {X : Type 0} (xs : List X) (i : ℕ) (x : X) → slice_get xs i ≡ Some x → i < length xs
slice_get-below xs i x e = elim (cases_lt i (length xs)) [ inl l ↦ l | inr g ↦ absurd (None-ne_Some (sym (slice_get_past xs i g) ∙ e)) ]

list_any-from_slice_get : {X : Type 0} (test : X → Bool) (xs : List X) (i : ℕ) (x : X) → slice_get xs i ≡ Some x → test x ≡ true → list_any test xs ≡ true
list_any-from_slice_get test xs i x e h =
    list_any_at test xs i x (slice_get-below xs i x e) (ap test (get_or_from_slice_get xs i x x e) ∙ h)

-- the literals of a predicate's clauses call predicates that go less deep
pub LiteralIsWithin-called : (p : Problem) (depth q c : ℕ) (d : Clause) (i : ℕ) (l : Literal) → c < length (predicate_at p.predicates q).clauses
    → call_rank p.predicates q < depth → slice_get (get_or (predicate_at p.predicates q).clauses c d).literals i ≡ Some l → LiteralIsWithin p.predicates (depth - 1) l
LiteralIsWithin-called p depth q c d i (Call negated closure (Class k) args) lc less e = tt
LiteralIsWithin-called p depth q c d i (Call negated closure (Reference r) args) lc less e = tt
LiteralIsWithin-called p depth q c d i (Call negated closure (Defined s) args) lc less e =
    let one = list_any-from_slice_get (calls_predicate s) (get_or (predicate_at p.predicates q).clauses c d).literals i _ e (eq-eqb s s refl) in
    let called : calls p.predicates q s ≡ true = list_any_at (λ (k : Clause). list_any (calls_predicate s) k.literals) (predicate_at p.predicates q).clauses c d lc one in
    let falls : call_rank p.predicates s < call_rank p.predicates q = call_rank-falls p.classes p.references p.objects p.predicates p.predicates_fit q s called in
    omega arith
LiteralIsWithin-called p depth q c d i (Call negated closure Exists args) lc less e = tt
LiteralIsWithin-called p depth q c d i (Call negated closure Equals args) lc less e = tt
LiteralIsWithin-called p depth q c d i (Same a b) lc less e = tt
LiteralIsWithin-called p depth q c d i (Differ a b) lc less e = tt

-- the clauses of a predicate are well formed, and call predicates that go less deep
pub IsSoundClause-from_problem : (k : Known) (depth q : ℕ) → q < length k.problem.predicates → call_rank k.problem.predicates q < depth
    → All (IsSoundClause k (depth - 1)) (predicate_at k.problem.predicates q).clauses
IsSoundClause-from_problem k depth q l less c d lc =
    let p = k.problem in
    let all : All (FitsClause (length p.classes) (length p.references) p.objects p.predicates (predicate_at p.predicates q).arity) (predicate_at p.predicates q).clauses =
    p.predicates_fit.clauses q no_predicate l in
    let fits = all c d lc in
    let few : (predicate_at p.predicates q).arity ≤ 4 = p.predicates_fit.arities q no_predicate l in
    record {
      few_variables = fits.few_variables;
      few_literals = omega (arith, fits.few_literals);
      fit = fits.literals;
      within = λ i m e. LiteralIsWithin-called p depth q c d i m lc less e;
    }

-- a predicate says what its clauses do
pub value_of-clauses : (k : Known) (q : ℕ) (t : List ℕ)
    → value_of k (Defined q) t ≡ some_clause_value k (predicate_at k.problem.predicates q).arity t (predicate_at k.problem.predicates q).clauses
value_of-clauses k q t =
    let p = k.problem in
    ap₂ truth_of
    (predicate_true-step p.classes p.references p.objects p.predicates p.predicates_fit (side must k) (side may k) q t)
    (predicate_true-step p.classes p.references p.objects p.predicates p.predicates_fit (side may k) (side must k) q t)

-- the clauses that are left
pub some_clause_value-at : (k : Known) (arity : ℕ) (t : List ℕ) (clauses : List Clause) (i : ℕ) (c : Clause) → i < length clauses → c ≡ get_or clauses i c
    → some_clause_value k arity t (drop i clauses) ≡ disjunction (clause_value k arity t c) (some_clause_value k arity t (drop (i + 1) clauses))
some_clause_value-at k arity t clauses i c l e =
    let rest : drop i clauses ≡ c ∷ drop (i + 1) clauses = drop-cons clauses i c l ∙ ap₂ (λ (x : Clause) (xs : List Clause). x ∷ xs) (sym e) (ap (λ (n : ℕ). drop n clauses) (sym (add-one i))) in
    ap (some_clause_value k arity t) rest
    ∙ sym (disjunction-truth_of (clause_true (calls_of k) (side must k) (side may k) arity t c) (clause_true (calls_of k) (side may k) (side must k) arity t c)
    (list_any (clause_true (calls_of k) (side must k) (side may k) arity t) (drop (i + 1) clauses)) (list_any (clause_true (calls_of k) (side may k) (side must k) arity t) (drop (i + 1) clauses)))

-- a loop through clauses: what was found, with what is left, is all
abbrev pub IsClausesLeft : Known → ℕ → List ℕ → List Clause → ℕ → Truth → Type 0
IsClausesLeft k arity t clauses i found = disjunction found (some_clause_value k arity t (drop i clauses)) ≡ some_clause_value k arity t clauses

pub IsClausesLeft-next : (k : Known) (arity : ℕ) (t : List ℕ) (clauses : List Clause) (i : ℕ) (c : Clause) (found value : Truth) → i < length clauses → c ≡ get_or clauses i c
    → IsClausesLeft k arity t clauses i found → value ≡ clause_value k arity t c → IsClausesLeft k arity t clauses (i + 1) (disjunction found value)
IsClausesLeft-next k arity t clauses i c found value l e h v =
    disjunction-assoc found value (some_clause_value k arity t (drop (i + 1) clauses))
    ∙ (ap (λ (x : Truth). disjunction found (disjunction x (some_clause_value k arity t (drop (i + 1) clauses)))) v
    ∙ (ap (disjunction found) (sym (some_clause_value-at k arity t clauses i c l e)) ∙ h))

pub IsClausesLeft-found : (k : Known) (arity : ℕ) (t : List ℕ) (clauses : List Clause) (i : ℕ) (found : Truth) → IsClausesLeft k arity t clauses i found → found ≡ True
    → found ≡ some_clause_value k arity t clauses
IsClausesLeft-found k arity t clauses i found h e = e ∙ (sym (ap (λ (x : Truth). disjunction x (some_clause_value k arity t (drop i clauses))) e) ∙ h)

pub IsClausesLeft-ended : (k : Known) (arity : ℕ) (t : List ℕ) (clauses : List Clause) (i : ℕ) (found : Truth) → IsClausesLeft k arity t clauses i found → length clauses ≤ i
    → found ≡ some_clause_value k arity t clauses
IsClausesLeft-ended k arity t clauses i found h l =
    sym (disjunction-False found) ∙ (ap (λ (xs : List Clause). disjunction found (some_clause_value k arity t xs)) (sym (drop_all i clauses l)) ∙ h)

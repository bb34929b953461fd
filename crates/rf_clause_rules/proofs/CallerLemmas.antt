-- The lists of callers, one call more at a time.
use Rattle.std.proofs.Common.{◌≡◌, ◌<◌, ◌≤◌, ◌+◌, ◌∙◌, ℕ, suc, zero, Bool, true, false, List, [], ◌∷◌, ◌++◌, length, map, take, set, get_or, replicate, arith, refl, sym, ap, inl, inr, subst}
use Rattle.std.specs.Prelude.{◌==◌, ◌&&◌, ◌||◌, nat_lt}
use Rattle.std.specs.List.{flat_map, list_any}
use Rattle.std.proofs.lemmas.Bool.{cases_Bool, cases_eq, eq-eqb, ltb-false, ltb-true, ne_eqb}
use Rattle.std.proofs.lemmas.Grind.{common_steps}
use Rattle.std.proofs.lemmas.List.{get_or-set_other, get_or-set_same, get_or_past, length-append, length-take-le, map-set, take_all, take_more}
use Rattle.std.proofs.lemmas.List.Folds.{list_any-append, list_any_more}
use Rattle.std.proofs.Math.ListN.{get_or-append}
use Rattle.rf_closure.specs.Along.{leads}
use Rattle.rf_finite.specs.Walks.{walk_below}
use Rattle.rf_clause_rules.specs.Calls.{AreCallers, is_back_at, is_call_of}
use Rattle.rf_names.specs.Offsets.{offset_if}
use Rattle.rf_clause_rules.specs.declared.calls.PredicateCall.{PredicateCall}

or_true : (a b : Bool) → (a || (b || false)) ≡ (a || (b && true))
or_true true b = refl
or_true false true = refl
or_true false false = refl

or_never : (a b : Bool) → a ≡ (a || (b && false))
or_never true b = refl
or_never false true = refl
or_never false false = refl

-- a caller is put into the list of the predicate that it calls
pub call_added : (old new : List (List ℕ)) (caller called : ℕ) → called < length old →
    new ≡ set old called (get_or old called [] ++ caller ∷ []) →
    (q p : ℕ) → leads new q p ≡ (leads old q p || ((caller == p) && (called == q)))
call_added old new caller called below is q p = elim (cases_eq called q) [
  | inl same ↦ (let hit : (called == q) ≡ true = eq-eqb called q same in
      let here : get_or new q [] ≡ get_or old q [] ++ caller ∷ [] =
      ap (λ ls. get_or ls q []) is
      ∙ subst (λ k. get_or (set old called (get_or old called [] ++ caller ∷ [])) k []
      ≡ get_or old k [] ++ caller ∷ []) same
      (get_or-set_same old called (get_or old called [] ++ caller ∷ []) [] below) in
      ap (list_any (λ c. c == p)) here ∙ list_any-append (λ c. c == p) (get_or old q [])
      (caller ∷ [])
      ∙ or_true (leads old q p) (caller == p) ∙ ap (λ b. leads old q p || ((caller == p) && b))
      (sym hit))
  | inr apart ↦ (let miss : (called == q) ≡ false = ne_eqb called q apart in
      let here : get_or new q [] ≡ get_or old q [] =
      ap (λ ls. get_or ls q []) is ∙ get_or-set_other old called q (get_or old called []
      ++ caller ∷ []) [] (λ e. apart (sym e)) in
      ap (list_any (λ c. c == p)) here ∙ or_never (leads old q p) (caller == p)
      ∙ ap (λ b. leads old q p || ((caller == p) && b)) (sym miss))
]

-- a call of no predicate is passed over
pub call_passed : (old : List (List ℕ)) (caller called q p : ℕ) → length old ≤ called →
    q < length old →
    leads old q p ≡ (leads old q p || ((caller == p) && (called == q)))
call_passed old caller called q p past below =
    let miss : (called == q) ≡ false = ne_eqb called q (λ e. absurd (omega arith)) in
    or_never (leads old q p) (caller == p) ∙ ap (λ b. leads old q p || ((caller == p) && b))
    (sym miss)

-- one call more
or_more : (a b x y : Bool) → ((a || (b && x)) || (b && y)) ≡ (a || (b && (x || y)))
or_more true b x y = refl
or_more false true x y = refl
or_more false false x y = refl

pub calls_more : (caller q p : ℕ) (calls : List PredicateCall) (i : ℕ) (call : PredicateCall)
    (before now new : Bool) → i < length calls → call ≡ get_or calls i call →
    now ≡ (before || ((caller == p) && list_any (is_call_of q) (take i calls))) →
    new ≡ (now || ((caller == p) && is_call_of q call)) →
    new ≡ (before || ((caller == p) && list_any (is_call_of q) (take (i + 1) calls)))
calls_more caller q p calls i call before now new below is so_far step =
    step ∙ ap (λ b. b || ((caller == p) && is_call_of q call)) so_far
    ∙ or_more before (caller == p) (list_any (is_call_of q) (take i calls)) (is_call_of q call)
    ∙ ap (λ (c : PredicateCall). before
    || ((caller == p) && (list_any (is_call_of q) (take i calls) || is_call_of q c))) is
    ∙ ap (λ b. before || ((caller == p) && b))
    (sym (list_any_more (is_call_of q) calls i call below))

-- one caller more
at_end : {X : Type 0} (xs : List X) (x e : X) → get_or (xs ++ x ∷ []) (length xs) e ≡ x
at_end [] x e = refl
at_end (y ∷ xs) x e = at_end xs x e

caller_snoc : (t : PredicateCall → Bool) (ls : List (List PredicateCall)) (l : List PredicateCall)
    (i p : ℕ) → length ls ≡ i →
    (list_any t (get_or ls p []) || ((i == p) && list_any t l))
    ≡ list_any t (get_or (ls ++ l ∷ []) p [])
caller_snoc t ls l i p long = elim (cases_eq i p) [
  | inl same ↦ (let hit : (i == p) ≡ true = eq-eqb i p same in
      let none : get_or ls p [] ≡ [] = get_or_past ls p [] (omega arith) in
      let last : get_or (ls ++ l ∷ []) p [] ≡ l =
      subst (λ k. get_or (ls ++ l ∷ []) k [] ≡ l) (long ∙ same) (at_end ls l []) in
      rw (hit, none, last) refl)
  | inr apart ↦ (let miss : (i == p) ≡ false = ne_eqb i p apart in
      elim (cases_Bool (nat_lt p i)) [
        | inl before ↦ (let less : p < length ls = omega (arith, ltb-true p i before) in
            let same : get_or (ls ++ l ∷ []) p [] ≡ get_or ls p [] =
            get_or-append ls (l ∷ []) [] p less in
            rw (miss, same) (or_false (list_any t (get_or ls p []))))
        | inr behind ↦ (let least : i ≤ p = ltb-false p i behind in
            let more : length (ls ++ l ∷ []) ≤ p =
            (let n = length-append ls (l ∷ []) in omega (arith, apart)) in
            let none : get_or ls p [] ≡ [] = get_or_past ls p [] (omega arith) in
            let also : get_or (ls ++ l ∷ []) p [] ≡ [] = get_or_past (ls ++ l ∷ []) p [] more in
            rw (miss, none, also) refl)
      ])
]
  where
    or_false : (b : Bool) → (b || false) ≡ b
    or_false true = refl
    or_false false = refl

pub callers_more : (q p : ℕ) (lists : List (List PredicateCall)) (i : ℕ) (l : List PredicateCall)
    (now new : Bool) → i < length lists → get_or lists i [] ≡ l →
    now ≡ list_any (is_call_of q) (get_or (take i lists) p []) →
    new ≡ (now || ((i == p) && list_any (is_call_of q) l)) →
    new ≡ list_any (is_call_of q) (get_or (take (i + 1) lists) p [])
callers_more q p lists i l now new below is so_far step =
    step ∙ ap (λ b. b || ((i == p) && list_any (is_call_of q) l)) so_far
    ∙ caller_snoc (is_call_of q) (take i lists) l i p (length-take-le i lists (omega arith))
    ∙ ap (λ (m : List PredicateCall). list_any (is_call_of q)
    (get_or (take i lists ++ m ∷ []) p [])) (sym is)
    ∙ ap (λ ls. list_any (is_call_of q) (get_or ls p [])) (sym (take_more lists i [] below))

-- no callers at first
empty_lists : (n q : ℕ) → get_or (replicate {A = List ℕ} n []) q [] ≡ []
empty_lists zero q = refl
empty_lists (suc n) zero = refl
empty_lists (suc n) (suc q) = empty_lists n q

pub no_callers : (n q p : ℕ) → leads (replicate n []) q p ≡ false
no_callers n q p = ap (list_any (λ c. c == p)) (empty_lists n q)

-- what the marks say
pub marked_back : (callers : List (List ℕ)) (marks : List Bool) (p : ℕ) → length marks
    ≡ length callers →
    ((b : ℕ) → b < length callers → get_or marks b false
    ≡ walk_below (leads callers) (λ x. true) (length callers) p b) →
    (q : ℕ) → ((q == p) || get_or marks q false) ≡ is_back_at callers p q
marked_back callers marks p long each q = elim (cases_Bool (nat_lt q (length callers))) [
  | inl within ↦ rw within (ap (λ b. (q == p) || b) (each q (ltb-true q (length callers) within)))
  | inr past ↦ (let least : length callers ≤ q = ltb-false q (length callers) past in
      let none : get_or marks q false ≡ false = get_or_past marks q false (omega arith) in
      rw (past, none) refl)
]

pub marked_offsets : (callers : List (List ℕ)) (marks : List Bool) (p : ℕ) → length marks
    ≡ length callers →
    ((b : ℕ) → b < length callers → get_or marks b false
    ≡ walk_below (leads callers) (λ x. true) (length callers) p b) →
    (calls : List PredicateCall) →
    flat_map (λ c. offset_if ((c.predicate == p) || get_or marks c.predicate false) c.at) calls
    ≡ flat_map (λ c. offset_if (is_back_at callers p c.predicate) c.at) calls
marked_offsets callers marks p long each [] = refl
marked_offsets callers marks p long each (c ∷ cs) =
    let rest = marked_offsets callers marks p long each cs in
    ap (λ b. offset_if b c.at
    ++ flat_map (λ c. offset_if ((c.predicate == p) || get_or marks c.predicate false) c.at) cs)
    (marked_back callers marks p long each c.predicate)
    ∙ ap (λ ats. offset_if (is_back_at callers p c.predicate) c.at ++ ats) rest

pub ruleset call_steps = (common_steps, call_added, call_passed)

-- the list that an item has
pub mapped_at : {X Y : Type 0} (f : X → List Y) (xs : List X) (i : ℕ) (x : X) → i < length xs →
    x ≡ get_or xs i x → get_or (map f xs) i [] ≡ f x
mapped_at f [] i x below is = absurd (omega arith)
mapped_at f (y ∷ xs) zero x below is = ap f (sym is)
mapped_at f (y ∷ xs) (suc i) x below is = mapped_at f xs i x (omega arith) is

-- after all lists the callers are complete
pub callers_all :
    (lists : List (List PredicateCall)) (i : ℕ) (callers : List (List ℕ)) → length lists ≤ i →
    length callers ≡ length lists →
    ((q p : ℕ) → q < length lists → leads callers q p
    ≡ list_any (is_call_of q) (get_or (take i lists) p [])) → AreCallers lists callers
callers_all lists i callers end long each = record {
  count = long;
  each = λ q p l. each q p l ∙ ap (λ ls. list_any (is_call_of q) (get_or ls p []))
      (take_all i lists end);
}

-- the lists of callers where one of them is replaced
pub caller_put : {X : Type 0} (f : X → List ℕ) (xs : List X) (i caller : ℕ) (x y : X) →
    i < length xs → x ≡ get_or xs i x → f y ≡ f x ++ caller ∷ [] →
    map f (set xs i y) ≡ set (map f xs) i (get_or (map f xs) i [] ++ caller ∷ [])
caller_put f xs i caller x y below is step =
    map-set f xs i y ∙ ap (set (map f xs) i)
    (step ∙ ap (λ ls. ls ++ caller ∷ []) (sym (mapped_at f xs i x below is)))

-- The walks along a side of the steps are those of what is known, and the kept marks tell them.
use Rattle.std.proofs.Common.{◌≡◌, ◌∙◌, ℕ, ◌<◌, Bool, true, false, cond, Option, Some, None, List, [], ◌∷◌, length, map, get_or, refl, sym, ap, ap₂, subst, inl, inr, arith}
use Rattle.std.specs.BTreeMap.{BTreeMap, get}
use Rattle.std.specs.Ordering.{is_eq, nat_cmp}
use Rattle.std.specs.Cmp.{booleans_Decides, unsigned_ties}
use Rattle.std.specs.Cmp.Derive.Mapped.{pointwise-map}
use Rattle.std.specs.Prelude.{Vec, nat_eq}
use lib.Pointwise.{pointwise}
use mathlib.Core.Bool.{beq}
use Rattle.std.specs.declared.alloc.Global.{Global}
use Rattle.std.proofs.lemmas.Bool.{cases_Bool, eqb-true}
use Rattle.std.proofs.lemmas.List.{length-map}
use Rattle.std.proofs.lemmas.Option.{none-some, same_Some}
use Rattle.std.proofs.lemmas.Slice.Eq.{bytes_eq-Decides, slice_eq-Decides}
use Rattle.rf_finite.specs.Walks.{walk_below}
use Rattle.rf_finite.proofs.Walks.{walk_below-same}
use Rattle.rf_closure.specs.Along.{leads}
use Rattle.rf_values.specs.Truth.{may, must, truth_of}
use Rattle.rf_values.specs.declared.truth.Truth.{Truth}
use Rattle.rf_problem.specs.Parts.{symbol_cmp}
use Rattle.rf_problem.proofs.KeyLemmas.{same_symbol-same, symbol-tied}
use Rattle.rf_problem.specs.Reading.{Reading, predicate_true, symbol_true}
use Rattle.rf_problem.specs.declared.symbol.Symbol.{Symbol}
use Rattle.rf_evaluate.specs.Kept.{AreSearched, AreWalksOf, mark_of, side_or}
use Rattle.rf_evaluate.specs.Known.{Known, side, walk_of}
use Rattle.rf_evaluate.specs.Steps.{IsOther, IsSameSide, IsSideOf, step_of}
use Rattle.rf_evaluate.specs.declared.closures.Marks.{Marks}
use Rattle.rf_evaluate.specs.declared.closures.Walks.{Walks}
use Rattle.rf_evaluate.specs.declared.steps.Side.{Side}
use Rattle.rf_evaluate.proofs.StepLemmas.{lists_of}

-- a truth's sides
must-of : (a b : Bool) → must (truth_of a b) ≡ a
must-of true true = refl
must-of true false = refl
must-of false true = refl
must-of false false = refl

may-of : (a b : Bool) → may (truth_of a b) ≡ b
may-of true true = refl
may-of true false = refl
may-of false true = refl
may-of false false = refl

-- whether a step of a symbol leads from x to y, by a reading and that inside negations
abbrev step_in : Known → Symbol → Reading → Reading → ℕ → ℕ → Bool
step_in k symbol here inside x y = symbol_true (predicate_true k.problem.predicates (length k.problem.predicates)) here inside symbol (x ∷ y ∷ [])

-- the walks along one side of the steps are those of the steps that are known
walks-along : (column : Truth → Bool) (k : Known) (symbol : Symbol) (steps : Side) (edge : ℕ → ℕ → Bool)
    → ((x y : ℕ) → column (step_of k symbol x y) ≡ edge x y) → IsSideOf column k symbol k.size steps → (x y : ℕ) → x < k.size → y < k.size
    → walk_below (leads (lists_of steps.successors.items)) (λ c. get_or steps.through.items c false) (length steps.successors.items) x y
    ≡ walk_below edge (λ z. column (k.presence z)) k.size x y
walks-along column k symbol steps edge same held x y lx ly =
    ap (λ (n : ℕ). walk_below (leads (lists_of steps.successors.items)) (λ c. get_or steps.through.items c false) n x y) held.rows
    ∙ walk_below-same (leads (lists_of steps.successors.items)) edge (λ c. get_or steps.through.items c false) (λ z. column (k.presence z)) k.size
    (λ u v l m. held.steps u v l m ∙ same u v) held.passes k.size x y (omega arith) lx ly

-- the marks of an element tell what is known of the walks from it
pub mark_of-walk : (k : Known) (symbol : Symbol) (walks : Walks) (x y : ℕ) (marks : Marks) → AreWalksOf k symbol walks
    → AreSearched walks.must walks.may x marks → x < k.size → y < k.size → mark_of marks y ≡ walk_of k symbol x y
mark_of-walk k symbol walks x y marks held found lx ly =
    let must_rows = held.must_side.rows in
    let may_rows = held.may_side.rows in
    ap₂ truth_of
    (found.must_marks y (omega arith) (omega arith)
    ∙ walks-along must k symbol walks.must (step_in k symbol (side must k) (side may k))
    (λ u v. must-of (step_in k symbol (side must k) (side may k) u v) (step_in k symbol (side may k) (side must k) u v)) held.must_side x y lx ly)
    (found.may_marks y (omega arith) (omega arith)
    ∙ walks-along may k symbol (side_or walks.must walks.may) (step_in k symbol (side may k) (side must k))
    (λ u v. may-of (step_in k symbol (side must k) (side may k) u v) (step_in k symbol (side may k) (side must k) u v)) held.may_side x y lx ly)

-- the comparison of the lists of two sides
abbrev same_lists : Side → Side → Bool
same_lists a b = pointwise (λ (x y : Vec ℕ Global). pointwise nat_eq x.items y.items) a.successors.items b.successors.items

-- the same side has the same steps
IsSideOf-same : (column : Truth → Bool) (k : Known) (symbol : Symbol) (n : ℕ) (a b : Side) → IsSameSide a b → IsSideOf column k symbol n b → IsSideOf column k symbol n a
IsSideOf-same column k symbol n a b same held = record {
  rows = sym (length-map a.successors.items (λ list. list.items)) ∙ ap length same.successors ∙ length-map b.successors.items (λ list. list.items) ∙ held.rows;
  marks = ap length same.through ∙ held.marks;
  steps = λ x y l m. ap (λ (lists : List (List ℕ)). leads lists x y) same.successors ∙ held.steps x y l m;
  passes = λ x l. ap (λ (marks : List Bool). get_or marks x false) same.through ∙ held.passes x l;
}

-- two sides are the same where the comparisons of their marks and of their lists say so
pub same-from_equal : (a b : Side) → pointwise beq a.through.items b.through.items ≡ true → same_lists a b ≡ true → IsSameSide a b
same-from_equal a b marks lists = record {
  successors = (slice_eq-Decides bytes_eq-Decides (lists_of a.successors.items) (lists_of b.successors.items) _ refl).0
      (pointwise-map (λ list. list.items) (pointwise nat_eq) a.successors.items b.successors.items ∙ lists);
  through = (slice_eq-Decides booleans_Decides a.through.items b.through.items _ refl).0 marks;
}

pub equal_marks-from_same : (a b : Side) → IsSameSide a b → pointwise beq a.through.items b.through.items ≡ true
equal_marks-from_same a b same = (slice_eq-Decides booleans_Decides a.through.items b.through.items _ refl).1 same.through

pub equal_lists-from_same : (a b : Side) → IsSameSide a b → same_lists a b ≡ true
equal_lists-from_same a b same =
    sym (pointwise-map (λ list. list.items) (pointwise nat_eq) a.successors.items b.successors.items)
    ∙ (slice_eq-Decides bytes_eq-Decides (lists_of a.successors.items) (lists_of b.successors.items) _ refl).1 same.successors

-- so the second side needs to be kept only where it differs
pub IsSideOf-other : (column : Truth → Bool) (k : Known) (symbol : Symbol) (n : ℕ) (first second : Side) (other : Option Side) → IsOther first second other
    → IsSideOf column k symbol n second → IsSideOf column k symbol n (side_or first other)
IsSideOf-other column k symbol n first second None is held = IsSideOf-same column k symbol n first second is held
IsSideOf-other column k symbol n first second (Some side) is held = subst (IsSideOf column k symbol n) (sym is.0) held

-- the marks of one element more
pub searched-more : (must_side : Side) (may_side : Option Side) (old new : BTreeMap ℕ Marks) (x : ℕ) (marks : Marks)
    → ((q : ℕ) → get nat_cmp new q ≡ cond (is_eq (nat_cmp x q)) (Some marks) (get nat_cmp old q))
    → AreSearched must_side may_side x marks → ((q : ℕ) (own : Marks) → get nat_cmp old q ≡ Some own → AreSearched must_side may_side q own)
    → (q : ℕ) (own : Marks) → get nat_cmp new q ≡ Some own → AreSearched must_side may_side q own
searched-more must_side may_side old new x marks put right held q own found = elim (cases_Bool (is_eq (nat_cmp x q))) [
  | inl e ↦ (let here : x ≡ q = eqb-true x q (unsigned_ties x q ∙ e) in
      let same : marks ≡ own = same_Some marks own (sym (put q ∙ ap (λ (b : Bool). cond b (Some marks) (get nat_cmp old q)) e) ∙ found) in
      subst (AreSearched must_side may_side q) same (subst (λ (z : ℕ). AreSearched must_side may_side z marks) here right))
  | inr e ↦ held q own (sym (put q ∙ ap (λ (b : Bool). cond b (Some marks) (get nat_cmp old q)) e) ∙ found)
]

-- the walks with the marks of one element more, where some that were kept may be let go
pub AreWalksOf-more : (k : Known) (symbol : Symbol) (old room : Walks) (new : BTreeMap ℕ Marks) (x : ℕ) (marks : Marks)
    → room.must ≡ old.must → room.may ≡ old.may → ((q : ℕ) (own : Marks) → get nat_cmp room.marks q ≡ Some own → get nat_cmp old.marks q ≡ Some own)
    → ((q : ℕ) → get nat_cmp new q ≡ cond (is_eq (nat_cmp x q)) (Some marks) (get nat_cmp room.marks q))
    → AreWalksOf k symbol old → AreSearched old.must old.may x marks → AreWalksOf k symbol (record { must = room.must; may = room.may; marks = new })
AreWalksOf-more k symbol old room new x marks same_must same_may kept put held right =
    subst (λ (first : Side). AreWalksOf k symbol (record { must = first; may = room.may; marks = new })) (sym same_must)
    (subst (λ (second : Option Side). AreWalksOf k symbol (record { must = old.must; may = second; marks = new })) (sym same_may)
    (record {
      must_side = held.must_side;
      may_side = held.may_side;
      searched = searched-more old.must old.may room.marks new x marks put right (λ q own found. held.searched q own (kept q own found));
    }))

-- nothing is kept in an empty map
pub none-kept : (map : BTreeMap ℕ Marks) → map.entries ≡ [] → (x : ℕ) (own : Marks) → get nat_cmp map x ≡ Some own → ⊥
none-kept map empty x own found = let none : get nat_cmp map x ≡ None = rw empty refl in none-some own (sym none ∙ found)

-- symbols that are tied are the same
symbol-same : (a b : Symbol) → is_eq (symbol_cmp a b) ≡ true → a ≡ b
symbol-same a b e = same_symbol-same a b (symbol-tied a b ∙ e)

-- the walks of one symbol more
pub kept-more : (k : Known) (old new : BTreeMap Symbol Walks) (symbol : Symbol) (walks : Walks)
    → ((q : Symbol) → get symbol_cmp new q ≡ cond (is_eq (symbol_cmp symbol q)) (Some walks) (get symbol_cmp old q))
    → AreWalksOf k symbol walks → ((q : Symbol) (own : Walks) → get symbol_cmp old q ≡ Some own → AreWalksOf k q own)
    → (q : Symbol) (own : Walks) → get symbol_cmp new q ≡ Some own → AreWalksOf k q own
kept-more k old new symbol walks put right held q own found = elim (cases_Bool (is_eq (symbol_cmp symbol q))) [
  | inl e ↦ (let same : walks ≡ own = same_Some walks own (sym (put q ∙ ap (λ (b : Bool). cond b (Some walks) (get symbol_cmp old q)) e) ∙ found) in
      subst (AreWalksOf k q) same (subst (λ (s : Symbol). AreWalksOf k s walks) (symbol-same symbol q e) right))
  | inr e ↦ held q own (sym (put q ∙ ap (λ (b : Bool). cond b (Some walks) (get symbol_cmp old q)) e) ∙ found)
]

-- a map with the same entries keeps the same
pub kept-same : (k : Known) (old new : BTreeMap Symbol Walks) → new.entries ≡ old.entries
    → ((q : Symbol) (own : Walks) → get symbol_cmp old q ≡ Some own → AreWalksOf k q own)
    → (q : Symbol) (own : Walks) → get symbol_cmp new q ≡ Some own → AreWalksOf k q own
kept-same k old new same held q own found = let here : get symbol_cmp new q ≡ get symbol_cmp old q = rw same refl in held q own (sym here ∙ found)

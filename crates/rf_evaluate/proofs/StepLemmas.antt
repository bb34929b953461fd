-- Steps with those from one more element.
use Rattle.std.proofs.Common.{◌≡◌, ◌∙◌, ℕ, suc, ◌+◌, ◌<◌, ◌==◌, ◌⊎◌, Bool, false, List, [], ◌∷◌, ◌++◌, length, map, get_or, sym, ap, inl, inr, arith}
use Rattle.std.proofs.lemmas.List.{get_or_append_left, get_or_push, length_push, map_push}
use Rattle.std.proofs.Math.ListN.{length-map}
use Rattle.std.specs.Prelude.{Vec}
use Rattle.std.specs.declared.alloc.Global.{Global}
use Rattle.std.specs.List.{list_any}
use Rattle.rf_finite.proofs.Range.{below_or_last}
use Rattle.rf_closure.specs.Along.{leads}
use Rattle.rf_problem.specs.declared.symbol.Symbol.{Symbol}
use Rattle.rf_values.specs.declared.truth.Truth.{Truth}
use Rattle.rf_evaluate.specs.Known.{Known}
use Rattle.rf_evaluate.specs.Steps.{IsSideOf, Lists, step_of}
use Rattle.rf_evaluate.specs.declared.steps.Side.{Side}

-- the lists of numbers
abbrev pub lists_of : List (Vec ℕ Global) → List (List ℕ)
lists_of = map (λ list. list.items)

-- no steps yet
pub IsSideOf-none : (column : Truth → Bool) (k : Known) (symbol : Symbol) (side : Side) → side.successors.items ≡ [] → side.through.items ≡ []
    → IsSideOf column k symbol 0 side
IsSideOf-none column k symbol side rows marks = record {
  rows = ap length rows;
  marks = ap length marks;
  steps = λ x y l m. absurd (omega arith);
  passes = λ x l. absurd (omega arith);
}

-- an element of a longer list is one of the list before, or the new one
get_or-longer : {X : Type 0} (xs : List X) (y d : X) (n x : ℕ) → length xs ≡ n → x < n + 1
    → ((x < n) × (get_or (xs ++ y ∷ []) x d ≡ get_or xs x d)) ⊎ ((x ≡ n) × (get_or (xs ++ y ∷ []) x d ≡ y))
get_or-longer xs y d n x len l = let below : x < suc n = omega arith in elim (below_or_last n x below) [
  | inl b ↦ inl (b, get_or_append_left xs (y ∷ []) d x (omega arith))
  | inr e ↦ inr (e, get_or_push xs y d x (len ∙ sym e))
]

-- one more list
leads-longer : (lists : List (Vec ℕ Global)) (row : Vec ℕ Global) (n x y : ℕ) → length lists ≡ n → x < n + 1
    → ((x < n) × (leads (lists_of (lists ++ row ∷ [])) x y ≡ leads (lists_of lists) x y))
    ⊎ ((x ≡ n) × (leads (lists_of (lists ++ row ∷ [])) x y ≡ list_any (λ z. z == y) row.items))
leads-longer lists row n x y len l =
    let longer : lists_of (lists ++ row ∷ []) ≡ lists_of lists ++ row.items ∷ [] = map_push (λ list. list.items) lists row in
    let whole : leads (lists_of (lists ++ row ∷ [])) x y ≡ list_any (λ z. z == y) (get_or (lists_of lists ++ row.items ∷ []) x []) =
    ap (λ (own : List (List ℕ)). leads own x y) longer in
    elim (get_or-longer (lists_of lists) row.items [] n x (length-map lists (λ list. list.items) ∙ len) l) [
      | inl h ↦ inl (h.0, whole ∙ ap (list_any (λ z. z == y)) h.1)
      | inr h ↦ inr (h.0, whole ∙ ap (list_any (λ z. z == y)) h.1)
    ]

-- the steps from one more element
pub IsSideOf-push : (column : Truth → Bool) (k : Known) (symbol : Symbol) (n : ℕ) (old new : Side) (row : Vec ℕ Global) (through : Bool)
    → new.successors.items ≡ old.successors.items ++ row ∷ [] → new.through.items ≡ old.through.items ++ through ∷ []
    → IsSideOf column k symbol n old → Lists column k symbol n row.items → through ≡ column (k.presence n)
    → IsSideOf column k symbol (n + 1) new
IsSideOf-push column k symbol n old new row through more_rows more_marks before listed passes = record {
  rows = ap length more_rows ∙ length_push old.successors.items row ∙ ap (λ m. m + 1) before.rows;
  marks = ap length more_marks ∙ length_push old.through.items through ∙ ap (λ m. m + 1) before.marks;
  steps = λ x y l m.
      ap (λ (lists : List (Vec ℕ Global)). leads (lists_of lists) x y) more_rows
      ∙ elim (leads-longer old.successors.items row n x y before.rows l) [
        | inl h ↦ h.1 ∙ before.steps x y h.0 m
        | inr h ↦ h.1 ∙ listed y m ∙ ap (λ (z : ℕ). column (step_of k symbol z y)) (sym h.0)
      ];
  passes = λ x l.
      ap (λ (marks : List Bool). get_or marks x false) more_marks
      ∙ elim (get_or-longer old.through.items through false n x before.marks l) [
        | inl h ↦ h.1 ∙ before.passes x h.0
        | inr h ↦ h.1 ∙ passes ∙ ap (λ (z : ℕ). column (k.presence z)) (sym h.0)
      ];
}

-- The steps of a symbol from one element, listed one by one.
use Rattle.std.proofs.Common.{◌≡◌, ℕ, suc, ◌+◌, ◌<◌, Bool, true, false, ◌&&◌, ◌||◌, ◌==◌, if◌then◌else◌, List, [], ◌∷◌, ◌++◌, refl, sym, ap, ◌∙◌, subst, inl, inr, arith}
use Rattle.std.specs.List.{list_any}
use Rattle.std.proofs.lemmas.Bool.{cases_Bool, eqb-true}
use Rattle.std.proofs.lemmas.List.Folds.{list_any-append}
use Rattle.rf_finite.specs.Range.{some_below}
use Rattle.rf_problem.specs.declared.symbol.Symbol.{Symbol}
use Rattle.rf_values.specs.Truth.{may, must}
use Rattle.rf_values.specs.declared.truth.Truth.{Truth}
use Rattle.rf_values.specs.declared.truth.Truth.TheVariants.{False}
use Rattle.rf_evaluate.specs.Elements.{count, element_at, includes}
use Rattle.rf_evaluate.specs.Known.{Known, value_of}
use Rattle.rf_evaluate.specs.Steps.{IsRowOf, Lists, step_of}
use Rattle.rf_evaluate.specs.declared.elements.Elements.{Elements}
use Rattle.rf_evaluate.specs.declared.steps.Row.{Row}
use Rattle.rf_evaluate.proofs.EvaluationTruths.{included-element_at}

-- whether y is one of the first n of some elements
abbrev pub is_among : Elements → ℕ → ℕ → Bool
is_among elements n y = some_below n (λ i. element_at elements i == y)

-- one side lists the elements among the first n to which a step leads
abbrev pub ListsAmong : (Truth → Bool) → Known → Symbol → ℕ → Elements → ℕ → List ℕ → Type 0
ListsAmong column k symbol x elements n items = (y : ℕ) → list_any (λ z. z == y) items ≡ (is_among elements n y && column (step_of k symbol x y))

pub record IsRowBegun (k : Known) (symbol : Symbol) (x : ℕ) (elements : Elements) (n : ℕ) (row : Row) : Type 0 where
  pub must_side : ListsAmong must k symbol x elements n row.must.items
  pub may_side : ListsAmong may k symbol x elements n row.may.items

-- one more where a step leads to it, and where none does
listed_here : (a b s : Bool) → (b ≡ true → s ≡ true) → ((a && s) || (b || false)) ≡ ((a || b) && s)
listed_here true true s h = rw (h refl) refl
listed_here false true s h = sym (h refl)
listed_here true false true h = refl
listed_here true false false h = refl
listed_here false false s h = refl

passed_here : (a b s : Bool) → (b ≡ true → s ≡ false) → (a && s) ≡ ((a || b) && s)
passed_here true b s h = refl
passed_here false true s h = sym (h refl)
passed_here false false s h = refl

and_false : (a : Bool) → (a && false) ≡ false
and_false true = refl
and_false false = refl

module _ (column : Truth → Bool) (k : Known) (symbol : Symbol) (x : ℕ) (elements : Elements) where
  ListsAmong-none : ListsAmong column k symbol x elements 0 []
  ListsAmong-none y = refl

  ListsAmong-next : (n : ℕ) (items more : List ℕ) (value : Truth) → value ≡ step_of k symbol x (element_at elements n)
      → more ≡ (if column value then items ++ element_at elements n ∷ [] else items)
      → ListsAmong column k symbol x elements n items → ListsAmong column k symbol x elements (n + 1) more
  ListsAmong-next n items more value v e h y =
      let z = element_at elements n in
      let one_more : n + 1 ≡ suc n = omega arith in
      let among : is_among elements (n + 1) y ≡ (is_among elements n y || (z == y)) = ap (λ (m : ℕ). is_among elements m y) one_more in
      let step = ap column v in
      elim (cases_Bool (column value)) [
        | inl t ↦ (let listed : more ≡ items ++ z ∷ [] = e ∙ ap (λ (b : Bool). if b then items ++ z ∷ [] else items) t in
            ap (list_any (λ u. u == y)) listed ∙ (list_any-append (λ u. u == y) items (z ∷ [])
            ∙ (ap (λ (b : Bool). b || ((z == y) || false)) (h y)
            ∙ (listed_here (is_among elements n y) (z == y) (column (step_of k symbol x y)) (λ q. ap (λ (u : ℕ). column (step_of k symbol x u)) (sym (eqb-true z y q)) ∙ (sym step ∙ t))
            ∙ ap (λ (b : Bool). b && column (step_of k symbol x y)) (sym among)))))
        | inr f ↦ (let kept : more ≡ items = e ∙ ap (λ (b : Bool). if b then items ++ z ∷ [] else items) f in
            ap (list_any (λ u. u == y)) kept ∙ (h y
            ∙ (passed_here (is_among elements n y) (z == y) (column (step_of k symbol x y)) (λ q. ap (λ (u : ℕ). column (step_of k symbol x u)) (sym (eqb-true z y q)) ∙ (sym step ∙ f))
            ∙ ap (λ (b : Bool). b && column (step_of k symbol x y)) (sym among))))
      ]

  ListsAmong-ended : (n : ℕ) (items : List ℕ) → column False ≡ false → count elements ≡ n → ((y : ℕ) → y < k.size → includes elements y ≡ false → step_of k symbol x y ≡ False)
      → ListsAmong column k symbol x elements n items → Lists column k symbol x items
  ListsAmong-ended n items none e complete h y l = h y ∙ elim (cases_Bool (includes elements y)) [
    | inl t ↦ ap (λ (b : Bool). b && column (step_of k symbol x y)) (subst (λ (m : ℕ). is_among elements m y ≡ true) e (included-element_at elements y t))
    | inr f ↦ (let without : column (step_of k symbol x y) ≡ false = ap column (complete y l f) ∙ none in
        ap (λ (b : Bool). is_among elements n y && b) without ∙ (and_false (is_among elements n y) ∙ sym without))
  ]

module _ (k : Known) (symbol : Symbol) (x : ℕ) (elements : Elements) where
  pub IsRowBegun-none : (row : Row) → row.must.items ≡ [] → row.may.items ≡ [] → IsRowBegun k symbol x elements 0 row
  IsRowBegun-none row e f = record {
    must_side = subst (λ (items : List ℕ). ListsAmong must k symbol x elements 0 items) (sym e) (ListsAmong-none must k symbol x elements);
    may_side = subst (λ (items : List ℕ). ListsAmong may k symbol x elements 0 items) (sym f) (ListsAmong-none may k symbol x elements);
  }

  pub IsRowBegun-next : (n : ℕ) (row more : Row) (y : ℕ) (value : Truth) → y ≡ element_at elements n → value ≡ step_of k symbol x y
      → more.must.items ≡ (if must value then row.must.items ++ y ∷ [] else row.must.items)
      → more.may.items ≡ (if may value then row.may.items ++ y ∷ [] else row.may.items)
      → IsRowBegun k symbol x elements n row → IsRowBegun k symbol x elements (n + 1) more
  IsRowBegun-next n row more y value is v e f h = record {
    must_side = ListsAmong-next must k symbol x elements n row.must.items more.must.items value (v ∙ ap (step_of k symbol x) is)
        (e ∙ ap (λ (z : ℕ). if must value then row.must.items ++ z ∷ [] else row.must.items) is) h.must_side;
    may_side = ListsAmong-next may k symbol x elements n row.may.items more.may.items value (v ∙ ap (step_of k symbol x) is)
        (f ∙ ap (λ (z : ℕ). if may value then row.may.items ++ z ∷ [] else row.may.items) is) h.may_side;
  }

  pub IsRowOf-ended : (n : ℕ) (row : Row) → count elements ≡ n → ((y : ℕ) → y < k.size → includes elements y ≡ false → value_of k symbol (x ∷ y ∷ []) ≡ False)
      → IsRowBegun k symbol x elements n row → IsRowOf k symbol x row
  IsRowOf-ended n row e complete h = record {
    must_side = ListsAmong-ended must k symbol x elements n row.must.items refl e complete h.must_side;
    may_side = ListsAmong-ended may k symbol x elements n row.may.items refl e complete h.may_side;
  }

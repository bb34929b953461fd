-- The longest way of a tree, and that of its lines.
use Rattle.std.proofs.Common.{◌≡◌, ℕ, zero, suc, ◌+◌, ◌≤◌, max, List, [], ◌∷◌, ◌++◌, refl, sym, ap, ◌∙◌, subst, inl, inr, arith, append_assoc, append-nil}
use Rattle.std.proofs.lemmas.Bool.{cases_lt}
use Rattle.rf_tree.specs.Lines.{lines_of}
use Rattle.rf_tree.specs.Trees.{HasHole, HasNoHole, IsCut, Tree, choice, closing, effect, hole}
use Rattle.rf_tree.specs.declared.line.Line.{Line}
use Rattle.rf_depth.specs.Laws.{LinesTellLongest, LongestIsGreatest}
use Rattle.rf_depth.specs.Ways.{HasWay, longest, longest_from}

longest-way : (t : Tree) → HasWay t (longest t)
longest-way hole = refl
longest-way (closing rule) = refl
longest-way (effect rule t) = inr (longest-way t)
longest-way (choice d first t u) =
    let a = longest-way t in
    let b = longest-way u in
    elim (cases_lt (longest t) (longest u)) [
      | inl lt ↦ (let e : suc (longest u) ≡ 1 + max (longest t) (longest u) = omega arith in subst (HasWay (choice d first t u)) e (inr b))
      | inr ge ↦ (let e : suc (longest t) ≡ 1 + max (longest t) (longest u) = omega arith in subst (HasWay (choice d first t u)) e (inl a))
    ]

no-longer : (t : Tree) (n : ℕ) → HasWay t n → n ≤ longest t
no-longer hole n h = omega arith
no-longer (closing rule) n h = omega arith
no-longer (effect rule t) n h = elim h [ inl e ↦ omega arith | inr k ↦ no-longer t n k ]
no-longer (choice d first t u) zero h = omega arith
no-longer (choice d first t u) (suc n) h = elim h [
  | inl k ↦ (let r = no-longer t n k in omega arith)
  | inr k ↦ (let r = no-longer u n k in omega arith)
]

pub longest_is_greatest : LongestIsGreatest
longest_is_greatest t = (longest-way t, no-longer t)

whole-longest : (t : Tree) → HasNoHole t → (k : ℕ) (ks : List ℕ) (rest : List Line)
    → longest_from (k ∷ ks) (lines_of t ++ rest) ≡ max (k + longest t) (longest_from ks rest)
whole-longest hole whole k ks rest = absurd whole
whole-longest (closing rule) whole k ks rest = let e : k + 0 ≡ k = omega arith in rw e refl
whole-longest (effect rule t) whole k ks rest = whole-longest t whole k ks rest
whole-longest (choice d first t u) whole k ks rest =
    let a = whole-longest t whole.0 (suc k) (suc k ∷ ks) (lines_of u ++ rest) in
    let b = whole-longest u whole.1 (suc k) ks rest in
    ap (longest_from (suc k ∷ suc k ∷ ks)) (append_assoc (lines_of t) (lines_of u) rest) ∙ (a ∙ (ap (max (suc k + longest t)) b ∙ omega arith))

whole-or_hole : (t : Tree) → HasNoHole t → HasHole t → ⊥
whole-or_hole hole whole h = whole
whole-or_hole (closing rule) whole h = h
whole-or_hole (effect rule t) whole h = whole-or_hole t whole h
whole-or_hole (choice d first t u) whole h = elim h [ inl k ↦ whole-or_hole t whole.0 k | inr k ↦ whole-or_hole u whole.1 k ]

cut-longest : (t : Tree) → HasHole t → IsCut t → (k : ℕ) (ks : List ℕ) → longest_from (k ∷ ks) (lines_of t) ≡ k + longest t
cut-longest hole h cut k ks = omega arith
cut-longest (closing rule) h cut k ks = absurd h
cut-longest (effect rule t) h cut k ks = cut-longest t h cut k ks
cut-longest (choice d first t u) h cut k ks = elim cut [
  | inl c ↦ (let there : HasHole u = elim h [ inl x ↦ absurd (whole-or_hole t c.0 x) | inr x ↦ x ] in
      let a = whole-longest t c.0 (suc k) (suc k ∷ ks) (lines_of u) in
      let b = cut-longest u there c.1 (suc k) ks in
      a ∙ (ap (max (suc k + longest t)) b ∙ omega arith))
  | inr c ↦ (let a = cut-longest t c.0 c.1 (suc k) (suc k ∷ ks) in
      let e = ap longest c.2 in
      let f = ap lines_of c.2 in
      ap (λ ls. longest_from (suc k ∷ suc k ∷ ks) (lines_of t ++ ls)) f
      ∙ (ap (longest_from (suc k ∷ suc k ∷ ks)) (append-nil (lines_of t)) ∙ (a ∙ omega arith)))
]

pub lines_tell_longest : LinesTellLongest
lines_tell_longest t h = elim h [
  | inl w ↦ ap (longest_from (0 ∷ [])) (sym (append-nil (lines_of t))) ∙ (whole-longest t w 0 [] [] ∙ omega arith)
  | inr c ↦ cut-longest t c.0 c.1 0 [] ∙ omega arith
]

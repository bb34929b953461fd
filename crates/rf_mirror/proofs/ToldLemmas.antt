-- What is told of edges, and the cells that have it, after each edit.
use Rattle.std.proofs.Common.{◌≡◌, ◌<◌, ◌≤◌, ◌+◌, ◌*◌, ◌==◌, ℕ, Bool, true, List, [], ◌∷◌, ◌++◌, length, if◌then◌else◌, Some, refl, sym, ◌∙◌, ap, ap₂, subst, inl, inr, arith, rules}
use Rattle.std.specs.Prelude.{OnErr, OnOk}
use Rattle.std.specs.declared.result.Result.{Result}
use Rattle.std.specs.declared.result.Result.TheVariants.{Err, Ok}
use Rattle.std.proofs.lemmas.Bool.{cases_Bool, cases_eq, eq-eqb, eqb-true, false_from_ne_true, ne_eqb}
use Rattle.std.proofs.lemmas.List.{get_or_append_left, length_push}
use Rattle.std.proofs.Math.Seq.{get_or-append_seam}
use Rattle.rf_values.specs.Truth.{merge}
use Rattle.rf_values.specs.declared.truth.Truth.{Truth}
use Rattle.rf_values.specs.declared.truth.Truth.TheVariants.{Unknown}
use Rattle.rf_problem.specs.Asserted.{asserted}
use Rattle.rf_problem.specs.Parts.{reference_at}
use Rattle.rf_problem.specs.declared.problem.Problem.{Problem}
use Rattle.rf_problem.specs.declared.symbol.Symbol.TheVariants.{Reference}
use Rattle.rf_state.specs.Laws.{IsFresh}
use Rattle.rf_state.specs.State.{IsRoot, State, copied_from, fresh_of, is_at, merged_at, object_of, told}
use Rattle.rf_state.proofs.EditLemmas.{fresh_is}
use Rattle.rf_state.proofs.FactLemmas.{assoc, numbers-from_is_at, opposite, told-like}
use Rattle.rf_mirror.specs.Cells.{cell}
use Rattle.rf_mirror.specs.Mirror.{AreTold, truth_at}
use Rattle.rf_mirror.specs.Sources.{IsAsserted, IsCopied}
use Rattle.rf_mirror.proofs.CellLemmas.{cell-inside, inside-cell, same-cell}

pub merge-unknown : (t : Truth) → merge t Unknown ≡ t
merge-unknown t = search rules

module _ (p : Problem) where
  abbrev many : ℕ
  many = length p.references

  module _ (s : State) (r a b : ℕ) (v : Truth) where
    told-merged : (k x y : ℕ) → told p (merged_at s r a b v) k x y ≡ (if is_at r a b k x y then merge (told p s k x y) v else told p s k x y)
    told-merged k x y = elim (cases_Bool (is_at r a b k x y)) [
      | inl e ↦ rw e (assoc (asserted p (Reference k) ((object_of s x).origin ∷ (object_of s y).origin ∷ [])) (s.added k x y) v)
      | inr e ↦ rw e refl
    ]

    same-at : (k x y : ℕ) → r < many → k < many → (cell many k x y == cell many r a b) ≡ is_at r a b k x y
    same-at k x y lr lk = elim (cases_Bool (is_at r a b k x y)) [
      | inl e ↦ (
          let at = numbers-from_is_at r a b k x y e in
          eq-eqb (cell many k x y) (cell many r a b) (ap (λ z. cell many z x y) at.0 ∙ ap₂ (λ u w. cell many r u w) at.1 at.2) ∙ sym e)
      | inr e ↦ (false_from_ne_true (cell many k x y == cell many r a b) (λ t.
          let edge = same-cell many r a b k x y lr lk (eqb-true (cell many k x y) (cell many r a b) t) in
          absurd (let is = is-at edge.0 edge.1 edge.2 in cc)) ∙ sym e)
    ]
      where
        is-at : {k x y : ℕ} → k ≡ r → x ≡ a → y ≡ b → is_at r a b k x y ≡ true
        is-at e f g = let e = eq-eqb _ _ e in let f = eq-eqb _ _ f in let g = eq-eqb _ _ g in rw (e, f, g) refl

    pub merged-cells : (old new : List Truth) → r < many → length new ≤ length old
        → ((i : ℕ) → i < length new → truth_at new i ≡ (if i == cell many r a b then merge (truth_at old i) v else truth_at old i))
        → AreTold p s old → AreTold p (merged_at s r a b v) new
    merged-cells old new lr few put h = record {
      few = let f = h.few in omega (arith, few, f);
      right = λ k x y lk lx ly l.
          let was = h.right k x y lk lx ly (omega (arith, few, l)) in
          put (cell many k x y) l
          ∙ ap₂ (λ (c : Bool) (t : Truth). if c then merge t v else t) (same-at k x y lr lk) was
          ∙ sym (told-merged k x y);
    }

  -- where nothing is told otherwise
  pub same-cells : (s u : State) (cells : List Truth) → length u.objects ≡ length s.objects
      → ((r a b : ℕ) → told p u r a b ≡ told p s r a b) → AreTold p s cells → AreTold p u cells
  same-cells s u cells e same h = record {
    few = rw e h.few;
    right = λ r a b lr la lb l. h.right r a b lr (omega (arith, la, e)) (omega (arith, lb, e)) l ∙ sym (same r a b);
  }

  -- with the next cell
  pub pushed-cells : (s : State) (cells : List Truth) (r a b : ℕ) (t : Truth) → r < many → a < length s.objects → b < length s.objects
      → cell many r a b ≡ length cells → t ≡ told p s r a b → AreTold p s cells → AreTold p s (cells ++ t ∷ [])
  pushed-cells s cells r a b t lr la lb at is h = record {
    few = let e = length_push cells t in let l = cell-inside many (length s.objects) r a b lr la lb in omega (arith, e, l, at);
    right = λ k x y lk lx ly l. elim (cases_eq (cell many k x y) (length cells)) [
      | inl e ↦ (
          let edge = same-cell many r a b k x y lr lk (e ∙ sym at) in
          subst (λ i. truth_at (cells ++ t ∷ []) i ≡ t) (sym e) (get_or-append_seam cells t [] Unknown)
          ∙ is
          ∙ sym (ap (λ z. told p s z x y) edge.0 ∙ ap₂ (λ u w. told p s r u w) edge.1 edge.2))
      | inr ne ↦ (
          let more = length_push cells t in
          let m : cell many k x y < length cells = omega (arith, ne, l, more) in
          get_or_append_left cells (t ∷ []) Unknown (cell many k x y) m ∙ h.right k x y lk lx ly m)
    ];
  }

  pub root-asserted : (s : State) → IsRoot p s → IsAsserted p s
  root-asserted s root r a b la lb =
      let from = root.origins a (let e = root.many in omega (arith, la, e)) in
      let to = root.origins b (let e = root.many in omega (arith, lb, e)) in
      let none = root.nothing r a b in
      rw (from, to, none) (merge-unknown (asserted p (Reference r) (a ∷ b ∷ [])))

  -- a fresh object of o
  module _ (s : State) (o : ℕ) (there : o < length s.objects) where
    abbrev n : ℕ
    n = length s.objects

    abbrev fresh : State
    fresh = fresh_of s o

    is : IsFresh p s o fresh
    is = fresh_is p s o there

    copied-old : (x : ℕ) → x < n → copied_from o n x ≡ x
    copied-old x l = let e = ne_eqb x n (λ q. absurd (omega (arith, l, q))) in rw e refl

    copied-new : copied_from o n n ≡ o
    copied-new = let e = eq-eqb n n refl in rw e refl

    origin-old : (x : ℕ) → x < n → (object_of fresh x).origin ≡ (object_of s x).origin
    origin-old x l = elim (cases_eq x o) [
      | inl e ↦ subst (λ y. (object_of fresh y).origin ≡ (object_of s y).origin) (sym e) (ap (λ z. z.origin) is.own)
      | inr ne ↦ ap (λ z. z.origin) (is.others x l ne)
    ]

    pub fresh-cells : (cells : List Truth) → AreTold p s cells → AreTold p fresh cells
    fresh-cells cells h = record {
      few = let f = h.few in let e = is.many in more f e;
      right = λ r a b lr la lb l.
          let inside = inside-cell many n r a b (let f = h.few in omega (arith, l, f)) in
          let from = copied-old a inside.0 in
          let to = copied-old b inside.1 in
          h.right r a b lr inside.0 inside.1 l
          ∙ sym (told-like p s fresh a b a b (origin-old a inside.0) (origin-old b inside.1) r (rw (from, to) refl));
    }
      where
        more : length cells ≤ n * n * many → length fresh.objects ≡ n + 1 → length cells ≤ length fresh.objects * length fresh.objects * many
        more f e =
            let step : (n + 1) * (n + 1) * many ≡ n * n * many + (n + n + 1) * many = grind arith in
            rw e (omega (arith, f, step))

    copied-origin : (x : ℕ) → x < n + 1 → (object_of fresh x).origin ≡ (object_of fresh (copied_from o n x)).origin
    copied-origin x l = elim (cases_eq x n) [
      | inl e ↦ (
          let c = copied-new in
          subst (λ y. (object_of fresh y).origin ≡ (object_of fresh (copied_from o n y)).origin) (sym e)
          (ap (λ z. z.origin) is.fresh ∙ sym (ap (λ z. z.origin) is.own) ∙ ap (λ y. (object_of fresh y).origin) (sym c)))
      | inr ne ↦ ap (λ y. (object_of fresh y).origin) (sym (copied-old x (omega (arith, ne, l))))
    ]

    copied-twice : (x : ℕ) → x < n + 1 → copied_from o n (copied_from o n x) ≡ copied_from o n x
    copied-twice x l = elim (cases_eq x n) [
      | inl e ↦ (
          let c = ap (copied_from o n) e ∙ copied-new in
          let old = copied-old o there in
          rw c old)
      | inr ne ↦ ap (copied_from o n) (copied-old x (omega (arith, ne, l)))
    ]

    pub fresh-copied : IsCopied p fresh o n
    fresh-copied = record {
      there = let e = is.many in omega (arith, e, there);
      right = λ r a b la lb.
          let e = is.many in
          let from : a < n + 1 = omega (arith, la, e) in
          let to : b < n + 1 = omega (arith, lb, e) in
          told-like p fresh fresh a b (copied_from o n a) (copied_from o n b) (copied-origin a from) (copied-origin b to) r
          (sym (ap₂ (λ x y. s.added r x y) (copied-twice a from) (copied-twice b to)));
    }

  -- with the next cell, or where there was no memory for it
  pub pushed-or-not : {E : Type 0} (s : State) (old new : List Truth) (r a b : ℕ) (t : Truth) (tried : Result (Unit {0}) E) → r < many
      → a < length s.objects → b < length s.objects → cell many r a b ≡ length old → t ≡ told p s r a b → AreTold p s old
      → OnOk tried (new ≡ old ++ t ∷ []) → OnErr tried (new ≡ old) → AreTold p s new
  pushed-or-not s old new r a b t (Ok u) lr la lb at same h ok err = subst (AreTold p s) (sym ok) (pushed-cells s old r a b t lr la lb at same h)
  pushed-or-not s old new r a b t (Err e) lr la lb at same h ok err = subst (AreTold p s) (sym err) h

  pub opposite-inside : (r q : ℕ) → (reference_at p.references r).opposite ≡ Some q → q < many
  opposite-inside r q e = (opposite p r q e).there

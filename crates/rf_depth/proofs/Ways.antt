-- No way holds more decisions than the depth, and no tree as many as two to the power of it.
use Rattle.std.proofs.Common.{◌≡◌, ℕ, suc, ◌+◌, ◌-◌, ◌^◌, ◌≤◌, ◌<◌, not, ◌&&◌, max, Some, List, [], ◌∷◌, ap, subst, inl, inr, arith}
use Rattle.std.proofs.lemmas.Bool.{cases_Bool}
use Rattle.std.proofs.lemmas.Nat.{pow_pos}
use Rattle.std.proofs.Math.Pow.{pow_mono}
use Rattle.rf_finite.proofs.Range.{None-ne_Some}
use Rattle.rf_problem.specs.declared.problem.Problem.{Problem}
use Rattle.rf_state.specs.State.{State}
use Rattle.rf_rules.specs.Decisions.{allowed, side}
use Rattle.rf_rules.specs.Rules.{after, fires, instance_of, is_closing}
use Rattle.rf_tree.specs.Pending.{decisions_in, left_after}
use Rattle.rf_tree.specs.Trees.{FitsTree, Tree, choice, closing, decisions_of, effect, hole}
use Rattle.rf_tree.specs.declared.line.Line.{Line}
use Rattle.rf_tree.specs.declared.line.Line.TheVariants.{Close, Decide, Step}
use Rattle.rf_depth.specs.Depth.{depth_with, node_end}
use Rattle.rf_depth.specs.Late.{DecidesLate, LinesDecideLate}
use Rattle.rf_depth.specs.Laws.{LeftFalls, LinesAreWithin, LongestIsWithin}
use Rattle.rf_depth.specs.Measure.{IsKept, settled}
use Rattle.rf_depth.specs.Ways.{longest, longest_from, longest_in}
use Rattle.rf_depth.proofs.Bounds.{below_saturated, depth-is}
use Rattle.rf_depth.proofs.Steps.{effect_kept, effect_keeps, root_kept, side_kept, side_more}

-- two to a power, doubled
twice : (n : ℕ) → 2 ^ suc n ≡ 2 ^ n + 2 ^ n
twice n = omega arith

pub few-decisions : (t : Tree) → decisions_of t < 2 ^ longest t
few-decisions hole = omega arith
few-decisions (closing rule) = omega arith
few-decisions (effect rule t) = few-decisions t
few-decisions (choice d first t u) =
    let a = few-decisions t in
    let b = few-decisions u in
    let x : 2 ^ longest t ≤ 2 ^ max (longest t) (longest u) = pow_mono (omega arith) in
    let y : 2 ^ longest u ≤ 2 ^ max (longest t) (longest u) = pow_mono (omega arith) in
    let e : 1 + max (longest t) (longest u) ≡ suc (max (longest t) (longest u)) = omega arith in
    rw e (let z = twice (max (longest t) (longest u)) in omega arith)

module _ (p : Problem) (n : ℕ) (end : node_end p.scopes ≡ Some n) where
  -- what is left of the depth bounds each way
  longest-left : (t : Tree) (s : State) → IsKept p s → FitsTree p s t → DecidesLate p s t → longest t ≤ depth_with p n - settled p s
  longest-left hole s kept fits late = omega arith
  longest-left (closing rule) s kept fits late = omega arith
  longest-left (effect rule t) s kept fits late =
      let rest = longest-left t (after p s rule) (effect_kept p s kept (instance_of p s rule).effect) fits.2 late in
      let more = effect_keeps p s kept (instance_of p s rule).effect in
      omega arith
  longest-left (choice d first t u) s kept fits late =
      let one = longest-left t (side p s d first) (side_kept p s kept d first fits.0) fits.1 late.1 in
      let two = longest-left u (side p s d (not first)) (side_kept p s kept d (not first) fits.0) fits.2 late.2 in
      let a = side_more p s kept d first fits.0 in
      let b = side_more p s kept d (not first) fits.0 in
      let c = below_saturated p s d n end kept late.0 fits.0 in
      omega arith

  -- as many decisions led to each place that is left as leave room for what isn't settled there
  abbrev AreWithin : List ℕ → List State → Type 0
  AreWithin [] [] = Unit {0}
  AreWithin [] (s ∷ ss) = ⊥
  AreWithin (k ∷ ks) [] = ⊥
  AreWithin (k ∷ ks) (s ∷ ss) = IsKept p s × (k + (depth_with p n - settled p s) ≤ depth_with p n) × AreWithin ks ss

  -- how many decisions have room below these places
  abbrev room : List ℕ → ℕ
  room [] = 0
  room (k ∷ ks) = 2 ^ (depth_with p n - k) - 1 + room ks

  room-twice : (k : ℕ) (ks : List ℕ) → k < depth_with p n → room (k ∷ ks) ≡ 1 + room (suc k ∷ suc k ∷ ks)
  room-twice k ks l =
      let e : depth_with p n - k ≡ suc (depth_with p n - suc k) = omega arith in
      let t = twice (depth_with p n - suc k) in
      let q : 0 < 2 ^ (depth_with p n - suc k) = pow_pos (depth_with p n - suc k) in
      let f : 2 ^ (depth_with p n - k) ≡ 2 ^ suc (depth_with p n - suc k) = ap (λ m. 2 ^ m) e in
      omega arith

  abbrev Within : List ℕ → List Line → Type 0
  Within ks lines = (longest_from ks lines ≤ depth_with p n) × (decisions_in lines ≤ room ks)

  lines-left : (lines : List Line) (ks : List ℕ) (ss rest : List State) → left_after p lines ss ≡ Some rest → LinesDecideLate p lines ss → AreWithin ks ss
      → Within ks lines
  lines-left [] [] [] rest e late w = (omega arith, omega arith)
  lines-left [] [] (s ∷ ss) rest e late w = absurd w
  lines-left [] (k ∷ ks) [] rest e late w = absurd w
  lines-left [] (k ∷ ks) (s ∷ ss) rest e late w = (let a = w.1 in omega arith, omega arith)
  lines-left (line ∷ lines) ks [] rest e late w = absurd (None-ne_Some e)
  lines-left (line ∷ lines) [] (s ∷ ss) rest e late w = absurd w
  lines-left (Step rule ∷ lines) (k ∷ ks) (s ∷ ss) rest e late w = elim (cases_Bool (not (is_closing rule) && fires p s rule)) [
    | inl f ↦ (let more = effect_keeps p s w.0 (instance_of p s rule).effect in
        let a = w.1 in
        lines-left lines (k ∷ ks) (after p s rule ∷ ss) rest (rw f at e) late (effect_kept p s w.0 (instance_of p s rule).effect, omega arith, w.2))
    | inr f ↦ absurd (None-ne_Some (rw f at e))
  ]
  lines-left (Close rule ∷ lines) (k ∷ ks) (s ∷ ss) rest e late w = elim (cases_Bool (is_closing rule && fires p s rule)) [
    | inl f ↦ (let r = lines-left lines ks ss rest (rw f at e) late w.2 in
        let a = w.1 in
        let x = r.0 in
        let y = r.1 in
        (omega arith, omega arith))
    | inr f ↦ absurd (None-ne_Some (rw f at e))
  ]
  lines-left (Decide d first ∷ lines) (k ∷ ks) (s ∷ ss) rest e late w = elim (cases_Bool (allowed p s d)) [
    | inl f ↦ (let x = side_more p s w.0 d first f in
        let y = side_more p s w.0 d (not first) f in
        let c = below_saturated p s d n end w.0 late.0 f in
        let a = w.1 in
        let r = lines-left lines (suc k ∷ suc k ∷ ks) (side p s d first ∷ side p s d (not first) ∷ ss) rest (rw f at e) late.1
        (side_kept p s w.0 d first f, omega arith, (side_kept p s w.0 d (not first) f, omega arith, w.2)) in
        let t = room-twice k ks (omega arith) in
        let b = r.1 in
        (r.0, omega arith))
    | inr f ↦ absurd (None-ne_Some (rw f at e))
  ]

pub longest_is_within : LongestIsWithin
longest_is_within p root d t is_root h fits late =
    let n = depth-is p d h in
    let a = longest-left p n.0 n.1 t root (root_kept p root is_root) fits late in
    let b = few-decisions t in
    let c : 2 ^ longest t ≤ 2 ^ depth_with p n.0 = pow_mono (omega arith) in
    subst (λ d. (longest t ≤ d) × (decisions_of t < 2 ^ d)) n.2 (omega arith, omega arith)

pub lines_are_within : LinesAreWithin
lines_are_within p root d lines left is_root h e late =
    let n = depth-is p d h in
    let r = lines-left p n.0 n.1 lines (0 ∷ []) (root ∷ []) left e late (root_kept p root is_root, omega arith, tt) in
    let q : 0 < 2 ^ (depth_with p n.0 - 0) = pow_pos (depth_with p n.0 - 0) in
    let f : 2 ^ (depth_with p n.0 - 0) ≡ 2 ^ depth_with p n.0 = ap (λ m. 2 ^ m) (let g : depth_with p n.0 - 0 ≡ depth_with p n.0 = omega arith in g) in
    let b = r.1 in
    subst (λ d. (longest_in lines ≤ d) × (decisions_in lines < 2 ^ d)) n.2 (r.0, omega arith)

-- what is left of the depth
pub left_falls : LeftFalls
left_falls p d h s kept = let n = depth-is p d h in let same = n.2 in (
  λ e. (let more = effect_keeps p s kept e in omega arith),
  λ x first saturated a. (let more = side_more p s kept x first a in let below = below_saturated p s x n.0 n.1 kept saturated a in omega arith),
)

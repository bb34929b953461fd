-- Lines that leave something are those of trees of the states that were there.
use Rattle.std.proofs.Common.{◌≡◌, ◌⊎◌, Bool, true, false, not, ◌&&◌, Some, List, [], ◌∷◌, ◌++◌, refl, inl, inr, sym, ap, ◌∙◌, append_assoc, append-nil}
use Rattle.std.proofs.lemmas.Bool.{and_parts, cases_Bool, not-true}
use Rattle.rf_finite.proofs.Range.{None-ne_Some}
use Rattle.rf_problem.specs.declared.problem.Problem.{Problem}
use Rattle.rf_state.specs.State.{State}
use Rattle.rf_rules.specs.Decisions.{allowed, side}
use Rattle.rf_rules.specs.Rules.{after, fires, is_closing}
use Rattle.rf_rules.specs.declared.decision.Decision.{Decision}
use Rattle.rf_rules.specs.declared.rule.Rule.{Rule}
use Rattle.rf_tree.specs.Lines.{lines_of}
use Rattle.rf_tree.specs.Pending.{left_after}
use Rattle.rf_tree.specs.Trees.{FitsTree, HasHole, HasNoHole, IsCut, Tree, choice, closing, effect, hole, holes_of}
use Rattle.rf_tree.specs.declared.line.Line.{Line}
use Rattle.rf_tree.specs.declared.line.Line.TheVariants.{Close, Decide, Step}
use Rattle.rf_tree.proofs.LeavingLemmas.{holes_of-whole}

-- the lines begin with those of a tree without a hole, and go on like this
pub record Closes (p : Problem) (s : State) (lines : List Line) (GoesOn : List Line → Type 0) : Type 0 where
  pub tree : Tree
  pub fits : FitsTree p s tree
  pub whole : HasNoHole tree
  pub more : List Line
  pub read : lines ≡ lines_of tree ++ more
  pub goes_on : GoesOn more

-- they are those of a tree with a hole, after which only these states come
pub record Stops (p : Problem) (s : State) (rest : List State) (lines : List Line) (left : List State) : Type 0 where
  pub tree : Tree
  pub fits : FitsTree p s tree
  pub some : HasHole tree
  pub cut : IsCut tree
  pub read : lines ≡ lines_of tree
  pub left_is : left ≡ holes_of p s tree ++ rest

-- each state is closed, in order, up to one that isn't; so those are left
abbrev pub Stands : Problem → List State → List Line → List State → Type 0
Stands p [] lines left = (lines ≡ []) × (left ≡ [])
Stands p (s ∷ rest) lines left = Closes p s lines (λ more. Stands p rest more left) ⊎ Stops p s rest lines left

some_lists : {xs ys : List State} → Some xs ≡ Some ys → xs ≡ ys
some_lists e = cc

step_stands : (p : Problem) (s : State) (rest : List State) (rule : Rule) (lines : List Line) (left : List State)
    → is_closing rule ≡ false → fires p s rule ≡ true → Stands p (after p s rule ∷ rest) lines left → Stands p (s ∷ rest) (Step rule ∷ lines) left
step_stands p s rest rule lines left opens does stands = elim stands [
  | inl k ↦ inl (record { tree = effect rule k.tree; fits = (opens, does, k.fits); whole = k.whole; more = k.more; read = ap (λ ls. Step rule ∷ ls) k.read; goes_on = k.goes_on })
  | inr k ↦ inr (record { tree = effect rule k.tree; fits = (opens, does, k.fits); some = k.some; cut = k.cut; read = ap (λ ls. Step rule ∷ ls) k.read; left_is = k.left_is })
]

module _ (p : Problem) (s : State) (rest : List State) (d : Decision) (first : Bool) (lines : List Line) (left : List State) (may : allowed p s d ≡ true) where
  abbrev a : State
  a = side p s d first

  abbrev b : State
  b = side p s d (not first)

  -- the leading side is closed
  closed_first : Closes p a lines (λ more. Stands p (b ∷ rest) more left) → Stands p (s ∷ rest) (Decide d first ∷ lines) left
  closed_first k = elim k.goes_on [
    | inl n ↦ inl (record {
      tree = choice d first k.tree n.tree;
      fits = (may, k.fits, n.fits);
      whole = (k.whole, n.whole);
      more = n.more;
      read = ap (λ ls. Decide d first ∷ ls) (k.read ∙ (ap (λ ls. lines_of k.tree ++ ls) n.read ∙ sym (append_assoc (lines_of k.tree) (lines_of n.tree) n.more)));
      goes_on = n.goes_on;
    })
    | inr n ↦ inr (record {
      tree = choice d first k.tree n.tree;
      fits = (may, k.fits, n.fits);
      some = inr n.some;
      cut = inl (k.whole, n.cut);
      read = ap (λ ls. Decide d first ∷ ls) (k.read ∙ ap (λ ls. lines_of k.tree ++ ls) n.read);
      left_is = n.left_is ∙ ap (λ xs. (xs ++ holes_of p b n.tree) ++ rest) (sym (holes_of-whole p k.tree a k.whole));
    })
  ]

  -- it isn't, and so nothing is done to the other side
  stopped_first : Stops p a (b ∷ rest) lines left → Stands p (s ∷ rest) (Decide d first ∷ lines) left
  stopped_first k = inr (record {
    tree = choice d first k.tree hole;
    fits = (may, k.fits, tt);
    some = inl k.some;
    cut = inr (k.some, k.cut, refl);
    read = ap (λ ls. Decide d first ∷ ls) (k.read ∙ sym (append-nil (lines_of k.tree)));
    left_is = k.left_is ∙ sym (append_assoc (holes_of p a k.tree) (b ∷ []) rest);
  })

  decide_stands : Stands p (a ∷ b ∷ rest) lines left → Stands p (s ∷ rest) (Decide d first ∷ lines) left
  decide_stands stands = elim stands [ inl k ↦ closed_first k | inr k ↦ stopped_first k ]

pub stands-from_left_after : (p : Problem) (lines : List Line) (states left : List State) → left_after p lines states ≡ Some left → Stands p states lines left
stands-from_left_after p [] [] left e = (refl, sym (some_lists e))
stands-from_left_after p [] (s ∷ rest) left e = inr (record { tree = hole; fits = tt; some = tt; cut = tt; read = refl; left_is = sym (some_lists e) })
stands-from_left_after p (line ∷ lines) [] left e = absurd (None-ne_Some e)
stands-from_left_after p (Step rule ∷ lines) (s ∷ rest) left e = elim (cases_Bool (not (is_closing rule) && fires p s rule)) [
  | inl k ↦ (let parts = and_parts (not (is_closing rule)) (fires p s rule) k in
      step_stands p s rest rule lines left (not-true (is_closing rule) parts.0) parts.1 (stands-from_left_after p lines (after p s rule ∷ rest) left (rw k at e)))
  | inr k ↦ absurd (None-ne_Some (rw k at e))
]
stands-from_left_after p (Decide d first ∷ lines) (s ∷ rest) left e = elim (cases_Bool (allowed p s d)) [
  | inl k ↦ decide_stands p s rest d first lines left k (stands-from_left_after p lines (side p s d first ∷ side p s d (not first) ∷ rest) left (rw k at e))
  | inr k ↦ absurd (None-ne_Some (rw k at e))
]
stands-from_left_after p (Close rule ∷ lines) (s ∷ rest) left e = elim (cases_Bool (is_closing rule && fires p s rule)) [
  | inl k ↦ inl (record { tree = closing rule; fits = and_parts (is_closing rule) (fires p s rule) k; whole = tt; more = lines; read = refl; goes_on = stands-from_left_after p lines rest left (rw k at e) })
  | inr k ↦ absurd (None-ne_Some (rw k at e))
]

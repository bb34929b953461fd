-- The laws of trees and of what is left after their lines.
use Rattle.std.proofs.Common.{◌≡◌, ◌++◌, ℕ, true, is_some, Option, None, Some, List, [], ◌∷◌, refl, inl, inr, sym, ap, subst, ◌∙◌, append-nil, true≢false}
use Rattle.rf_problem.specs.declared.problem.Problem.{Problem}
use Rattle.rf_state.specs.State.{IsRoot, State}
use Rattle.rf_state.proofs.RootLemmas.{root-unique}
use Rattle.rf_tree.specs.Laws.{LeftAreHoles, OpenIsComputed, StandIsComputed, ValidIsComputed, ValidIsWhole}
use Rattle.rf_tree.specs.Lines.{CanStand, Open, Valid, lines_of}
use Rattle.rf_tree.specs.Pending.{decisions_in, left_after}
use Rattle.rf_tree.specs.Trees.{holes_of}
use Rattle.rf_tree.specs.declared.line.Line.{Line}
use Rattle.rf_tree.proofs.LeavingLemmas.{decisions_in-lines_of, holes_of-some, left_after-cut, left_after-whole}
use Rattle.rf_tree.proofs.StandingLemmas.{stands-from_left_after}

cons-not_nil : {x : State} {xs : List State} → x ∷ xs ≡ [] → ⊥
cons-not_nil e = cc

-- whatever root is taken, it is the one
left_after-root : (p : Problem) (lines : List Line) (s u : State) → IsRoot p s → IsRoot p u → left_after p lines (s ∷ []) ≡ left_after p lines (u ∷ [])
left_after-root p lines s u from to = ap (λ root. left_after p lines (root ∷ [])) (root-unique p s u from to)

left_after-valid : (p : Problem) (s : State) (lines : List Line) → IsRoot p s → Valid p lines → left_after p lines (s ∷ []) ≡ Some []
left_after-valid p s lines root v = left_after-root p lines s v.root root v.is_root
    ∙ (ap (λ ls. left_after p ls (v.root ∷ [])) (v.read ∙ sym (append-nil (lines_of v.tree))) ∙ left_after-whole p v.tree v.root [] [] v.fits v.whole)

valid-from_left_after : (p : Problem) (s : State) (lines : List Line) → IsRoot p s → left_after p lines (s ∷ []) ≡ Some [] → Valid p lines
valid-from_left_after p s lines root e = elim (stands-from_left_after p lines (s ∷ []) [] e) [
  | inl k ↦ record {
    root = s;
    is_root = root;
    tree = k.tree;
    fits = k.fits;
    whole = k.whole;
    read = k.read ∙ (ap (λ more. lines_of k.tree ++ more) k.goes_on.0 ∙ append-nil (lines_of k.tree));
  }
  | inr k ↦ (let found = holes_of-some p k.tree s k.some in
      absurd (cons-not_nil (sym found.2 ∙ (sym (append-nil (holes_of p s k.tree)) ∙ sym k.left_is))))
]

pub valid_is_computed : ValidIsComputed
valid_is_computed p s lines root = (left_after-valid p s lines root, valid-from_left_after p s lines root)

left_after-open : (p : Problem) (s : State) (lines : List Line) (n : ℕ) → IsRoot p s → (o : Open p lines n)
    → left_after p lines (s ∷ []) ≡ Some (holes_of p o.root o.tree)
left_after-open p s lines n root o = left_after-root p lines s o.root root o.is_root
    ∙ (ap (λ ls. left_after p ls (o.root ∷ [])) o.read
    ∙ (left_after-cut p o.tree o.root [] o.fits o.unfinished o.cut ∙ ap Some (append-nil (holes_of p o.root o.tree))))

pub left_are_holes : LeftAreHoles
left_are_holes p s lines n root o = left_after-open p s lines n root o ∙ ap (λ u. Some (holes_of p u o.tree)) (root-unique p o.root s o.is_root root)

open-from_left_after : (p : Problem) (s : State) (lines : List Line) (first : State) (rest : List State) → IsRoot p s
    → left_after p lines (s ∷ []) ≡ Some (first ∷ rest) → Open p lines (decisions_in lines)
open-from_left_after p s lines first rest root e = elim (stands-from_left_after p lines (s ∷ []) (first ∷ rest) e) [
  | inl k ↦ absurd (cons-not_nil k.goes_on.1)
  | inr k ↦ record {
    root = s;
    is_root = root;
    tree = k.tree;
    fits = k.fits;
    unfinished = k.some;
    cut = k.cut;
    read = k.read;
    decisions = ap decisions_in k.read ∙ decisions_in-lines_of k.tree;
  }
]

pub open_is_computed : OpenIsComputed
open_is_computed p s lines n root = (
  λ o. (let found = holes_of-some p o.tree o.root o.unfinished in
      (found.0, found.1, left_after-open p s lines n root o ∙ ap Some found.2, o.decisions ∙ (sym (decisions_in-lines_of o.tree) ∙ ap decisions_in (sym o.read)))),
  λ k. subst (λ n. Open p lines n) (sym k.3) (open-from_left_after p s lines k.0 k.1 root k.2),
)

pub stand_is_computed : StandIsComputed
stand_is_computed p s lines root = (to, λ h. from (left_after p lines (s ∷ [])) refl h)
  where
    to : CanStand p lines → is_some (left_after p lines (s ∷ [])) ≡ true
    to stands = elim stands [
      | inl v ↦ ap is_some (left_after-valid p s lines root v)
      | inr o ↦ ap is_some (left_after-open p s lines o.0 root o.1)
    ]

    from : (left : Option (List State)) → left_after p lines (s ∷ []) ≡ left → is_some left ≡ true → CanStand p lines
    from None e h = absurd (true≢false (sym h))
    from (Some []) e h = inl (valid-from_left_after p s lines root e)
    from (Some (first ∷ rest)) e h = inr (decisions_in lines, open-from_left_after p s lines first rest root e)

pub valid_is_whole : ValidIsWhole
valid_is_whole p lines line more v stands = absurd (true≢false (sym ((stand_is_computed p v.root (lines ++ line ∷ more) v.is_root).0 stands) ∙ ap is_some none_left))
  where
    none_left : left_after p (lines ++ line ∷ more) (v.root ∷ []) ≡ None
    none_left = ap (λ ls. left_after p (ls ++ line ∷ more) (v.root ∷ [])) v.read ∙ left_after-whole p v.tree v.root [] (line ∷ more) v.fits v.whole

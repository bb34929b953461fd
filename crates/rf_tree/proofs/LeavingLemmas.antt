-- What the lines of a tree leave to close.
use Rattle.std.proofs.Common.{◌≡◌, ◌⊎◌, ◌+◌, Some, not, List, [], ◌∷◌, ◌++◌, refl, inl, inr, sym, ap, ap₂, ◌∙◌, append_assoc, append-nil, arith}
use Rattle.rf_problem.specs.declared.problem.Problem.{Problem}
use Rattle.rf_state.specs.State.{State}
use Rattle.rf_rules.specs.Decisions.{side}
use Rattle.rf_rules.specs.Rules.{after}
use Rattle.rf_tree.specs.Lines.{lines_of}
use Rattle.rf_tree.specs.Pending.{decisions_in, left_after}
use Rattle.rf_tree.specs.Trees.{FitsTree, HasHole, HasNoHole, IsCut, Tree, choice, closing, decisions_of, effect, hole, holes_of}
use Rattle.rf_tree.specs.declared.line.Line.{Line}
use Rattle.rf_tree.specs.declared.line.Line.TheVariants.{Close, Decide, Step}

hole-not_whole : (t : Tree) → HasNoHole t → HasHole t → ⊥
hole-not_whole hole whole some = whole
hole-not_whole (closing rule) whole some = some
hole-not_whole (effect rule t) whole some = hole-not_whole t whole some
hole-not_whole (choice d first t u) whole some = elim some [ inl a ↦ hole-not_whole t whole.0 a | inr b ↦ hole-not_whole u whole.1 b ]

pub holes_of-whole : (p : Problem) (t : Tree) (s : State) → HasNoHole t → holes_of p s t ≡ []
holes_of-whole p hole s whole = absurd whole
holes_of-whole p (closing rule) s whole = refl
holes_of-whole p (effect rule t) s whole = holes_of-whole p t (after p s rule) whole
holes_of-whole p (choice d first t u) s whole =
    ap₂ (λ a b. a ++ b) (holes_of-whole p t (side p s d first) whole.0) (holes_of-whole p u (side p s d (not first)) whole.1)

-- a tree with a hole has a first one
pub holes_of-some : (p : Problem) (t : Tree) (s : State) → HasHole t → (x : State) × (xs : List State) × (holes_of p s t ≡ x ∷ xs)
holes_of-some p hole s some = (s, [], refl)
holes_of-some p (closing rule) s some = absurd some
holes_of-some p (effect rule t) s some = holes_of-some p t (after p s rule) some
holes_of-some p (choice d first t u) s some = elim some [
  | inl a ↦ (let found = holes_of-some p t (side p s d first) a in
      let behind = holes_of p (side p s d (not first)) u in
      (found.0, found.1 ++ behind, ap (λ xs. xs ++ behind) found.2))
  | inr b ↦ after_these (holes_of p (side p s d first) t) (holes_of-some p u (side p s d (not first)) b)
]
  where
    after_these : (xs : List State) {ys : List State} → (x : State) × (zs : List State) × (ys ≡ x ∷ zs) → (x : State) × (zs : List State) × (xs ++ ys ≡ x ∷ zs)
    after_these [] found = found
    after_these (x ∷ xs) {ys} found = (x, xs ++ ys, refl)

-- the lines of a tree without a hole close its state, whatever lines come after them
pub left_after-whole : (p : Problem) (t : Tree) (s : State) (rest : List State) (more : List Line) → FitsTree p s t → HasNoHole t
    → left_after p (lines_of t ++ more) (s ∷ rest) ≡ left_after p more rest
left_after-whole p hole s rest more fits whole = absurd whole
left_after-whole p (closing rule) s rest more fits whole = rw (fits.0, fits.1) refl
left_after-whole p (effect rule t) s rest more fits whole = rw (fits.0, fits.1) (left_after-whole p t (after p s rule) rest more fits.2 whole)
left_after-whole p (choice d first t u) s rest more fits whole =
    let a = side p s d first in let b = side p s d (not first) in
    ap (λ lines. left_after p (Decide d first ∷ lines) (s ∷ rest)) (append_assoc (lines_of t) (lines_of u) more)
    ∙ rw fits.0 (left_after-whole p t a (b ∷ rest) (lines_of u ++ more) fits.1 whole.0 ∙ left_after-whole p u b rest more fits.2 whole.1)

-- the lines of a tree with a hole leave the states at its holes
pub left_after-cut : (p : Problem) (t : Tree) (s : State) (rest : List State) → FitsTree p s t → HasHole t → IsCut t
    → left_after p (lines_of t) (s ∷ rest) ≡ Some (holes_of p s t ++ rest)
left_after-cut p hole s rest fits some cut = refl
left_after-cut p (closing rule) s rest fits some cut = absurd some
left_after-cut p (effect rule t) s rest fits some cut = rw (fits.0, fits.1) (left_after-cut p t (after p s rule) rest fits.2 some cut)
left_after-cut p (choice d first t u) s rest fits some cut =
    let a = side p s d first in let b = side p s d (not first) in
    elim cut [
      | inl k ↦ rw fits.0 (left_after-whole p t a (b ∷ rest) (lines_of u) fits.1 k.0
          ∙ (left_after-cut p u b rest fits.2 (in_second k.0 some) k.1
          ∙ ap (λ xs. Some ((xs ++ holes_of p b u) ++ rest)) (sym (holes_of-whole p t a k.0))))
      | inr k ↦ rw fits.0 (ap (λ lines. left_after p lines (a ∷ b ∷ rest)) (ap (λ u. lines_of t ++ lines_of u) k.2 ∙ append-nil (lines_of t))
          ∙ (left_after-cut p t a (b ∷ rest) fits.1 k.0 k.1
          ∙ ap Some (sym (ap (λ u. (holes_of p a t ++ holes_of p b u) ++ rest) k.2 ∙ append_assoc (holes_of p a t) (b ∷ []) rest))))
    ]
  where
    in_second : HasNoHole t → HasHole t ⊎ HasHole u → HasHole u
    in_second whole some = elim some [ inl a ↦ absurd (hole-not_whole t whole a) | inr b ↦ b ]

-- the decisions of a tree stand among its lines
pub decisions_in-append : (xs ys : List Line) → decisions_in (xs ++ ys) ≡ decisions_in xs + decisions_in ys
decisions_in-append [] ys = omega arith
decisions_in-append (Step rule ∷ xs) ys = decisions_in-append xs ys
decisions_in-append (Decide d first ∷ xs) ys = let rest = decisions_in-append xs ys in omega arith
decisions_in-append (Close rule ∷ xs) ys = decisions_in-append xs ys

pub decisions_in-lines_of : (t : Tree) → decisions_in (lines_of t) ≡ decisions_of t
decisions_in-lines_of hole = refl
decisions_in-lines_of (closing rule) = refl
decisions_in-lines_of (effect rule t) = decisions_in-lines_of t
decisions_in-lines_of (choice d first t u) =
    let both = decisions_in-append (lines_of t) (lines_of u) in
    let a = decisions_in-lines_of t in
    let b = decisions_in-lines_of u in
    omega arith

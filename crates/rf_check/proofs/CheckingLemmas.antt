-- What a checker knows after one line more, and what follows from what it knows.
use Rattle.std.proofs.Common.{◌≡◌, ◌↔◌, ◌+◌, ◌<◌, ℕ, Bool, true, false, not, is_some, Option, None, Some, List, [], ◌∷◌, ◌++◌, length, get_or, take, append_assoc, refl, sym, ap, subst, ◌∙◌, length-append, arith, true≢false}
use Rattle.std.specs.Option.{option_and_then}
use Rattle.std.proofs.lemmas.List.{take_more}
use Rattle.rf_problem.specs.declared.problem.Problem.{Problem}
use Rattle.rf_state.specs.State.{State}
use Rattle.rf_tree.specs.Lines.{CanStand, Open, Valid}
use Rattle.rf_tree.specs.Pending.{decisions_in, left_after}
use Rattle.rf_tree.specs.Verdicts.{IsFirstRefused}
use Rattle.rf_tree.specs.declared.line.Line.{Line}
use Rattle.rf_tree.proofs.LeavingLemmas.{decisions_in-append}
use Rattle.rf_tree.proofs.PrefixLemmas.{left_after-append, refused-here, refused-more, refused-not_standing}
use Rattle.rf_tree.proofs.TreeLaws.{open_is_computed, stand_is_computed, valid_is_computed}
use Rattle.rf_check.specs.Checking.{HasChecked, Knows, Stands}
use Rattle.rf_check.specs.Kept.{AreOf, left_of}
use Rattle.rf_check.specs.Steps.{TakesLine}
use Rattle.rf_check.specs.declared.checker.Checker.{Checker}

pub none_of : (o : Option ℕ) → is_some o ≡ false → o ≡ None
none_of None e = refl
none_of (Some k) e = absurd (true≢false e)

pub stands_of : {p : Problem} {c : Checker} {lines : List Line} → c.refused ≡ None → HasChecked p c lines → Stands p c lines
stands_of {p} {c} {lines} e checked = subst (Knows p c lines) e checked.knows

pub can_stand : {p : Problem} {c : Checker} {lines : List Line} → Stands p c lines → CanStand p lines
can_stand {p} {c} {lines} k = (stand_is_computed p k.root lines k.is_root).1 (ap is_some k.left)

pub refused_of : {p : Problem} {c : Checker} {lines : List Line} (k : ℕ) → c.refused ≡ Some k → HasChecked p c lines → IsFirstRefused p lines k
refused_of {p} {c} {lines} k e checked = subst (Knows p c lines) e checked.knows

-- no line is no line that can't stand
pub none-refused : (p : Problem) (c : Checker) → HasChecked p c [] → CanStand p []
none-refused p c checked = on c.refused refl
  where
    on : (r : Option ℕ) → c.refused ≡ r → CanStand p []
    on None e = can_stand (stands_of e checked)
    on (Some k) e = let first = refused_of k e checked in absurd (omega (arith, first.there))

-- what is left after one line more
left_after-next : (p : Problem) (lines : List Line) (line : Line) (root : State) (left : List State) → left_after p lines (root ∷ []) ≡ Some left
    → left_after p (lines ++ line ∷ []) (root ∷ []) ≡ left_after p (line ∷ []) left
left_after-next p lines line root left e = left_after-append p lines (line ∷ []) (root ∷ []) ∙ ap (option_and_then (left_after p (line ∷ []))) e

-- the first lines and the one after them
pub lines-next : (before lines : List Line) (i : ℕ) (line : Line) → line ≡ get_or lines i line → i < length lines
    → (before ++ take i lines) ++ line ∷ [] ≡ before ++ take (i + 1) lines
lines-next before lines i line here there = append_assoc before (take i lines) (line ∷ [])
    ∙ ap (λ ls. before ++ ls) (ap (λ x. take i lines ++ x ∷ []) here ∙ sym (take_more lines i line there))

module _ (p : Problem) (old new : Checker) (lines : List Line) (line : Line) (going : new.failed ≡ old.failed) (fed : new.fed ≡ old.fed + 1) where
  -- the line can stand
  pub step-taken : is_some old.refused ≡ false → new.refused ≡ old.refused → new.decisions ≡ old.decisions + decisions_in (line ∷ [])
      → (AreOf p old.pending → TakesLine p old.pending line new.pending) → HasChecked p old lines → HasChecked p new (lines ++ line ∷ [])
  step-taken none same counted takes checked = record {
    going = going ∙ checked.going;
    fed = omega (arith, length-append lines (line ∷ []), checked.fed, fed);
    knows = subst (Knows p new (lines ++ line ∷ [])) (sym (same ∙ none_of old.refused none)) record {
      root = k.root;
      is_root = k.is_root;
      left = left_after-next p lines line k.root (left_of old.pending) k.left ∙ taken.left;
      kept = taken.kept;
      decisions = omega (arith, counted, k.decisions, decisions_in-append lines (line ∷ []));
    };
  }
    where
      k : Stands p old lines
      k = stands_of (none_of old.refused none) checked

      taken : TakesLine p old.pending line new.pending
      taken = takes k.kept

  -- it is the first that can't
  pub step-refused : is_some old.refused ≡ false → new.refused ≡ Some old.fed
      → (AreOf p old.pending → left_after p (line ∷ []) (left_of old.pending) ≡ None) → HasChecked p old lines → HasChecked p new (lines ++ line ∷ [])
  step-refused none now fails checked = record {
    going = going ∙ checked.going;
    fed = omega (arith, length-append lines (line ∷ []), checked.fed, fed);
    knows = subst (Knows p new (lines ++ line ∷ [])) (sym (now ∙ ap Some checked.fed)) (refused-here p lines line (can_stand k) cannot);
  }
    where
      k : Stands p old lines
      k = stands_of (none_of old.refused none) checked

      cannot : CanStand p (lines ++ line ∷ []) → ⊥
      cannot stands = true≢false (sym ((stand_is_computed p k.root (lines ++ line ∷ []) k.is_root).0 stands)
          ∙ ap is_some (left_after-next p lines line k.root (left_of old.pending) k.left ∙ fails k.kept))

  -- there was one already
  pub step-after : is_some old.refused ≡ true → new.refused ≡ old.refused → HasChecked p old lines → HasChecked p new (lines ++ line ∷ [])
  step-after some same checked = record {
    going = going ∙ checked.going;
    fed = omega (arith, length-append lines (line ∷ []), checked.fed, fed);
    knows = subst (Knows p new (lines ++ line ∷ [])) (sym same) (knows-more old.refused some checked.knows);
  }
    where
      knows-more : (r : Option ℕ) → is_some r ≡ true → Knows p old lines r → Knows p new (lines ++ line ∷ []) r
      knows-more None some k = absurd (true≢false (sym some))
      knows-more (Some k) some first = refused-more p lines (line ∷ []) k first

refused-exactly : (p : Problem) (c : Checker) (lines : List Line) → is_some c.refused ≡ true → HasChecked p c lines → CanStand p lines → ⊥
refused-exactly p c lines some checked = on c.refused some checked.knows
  where
    on : (r : Option ℕ) → is_some r ≡ true → Knows p c lines r → CanStand p lines → ⊥
    on None some k = absurd (true≢false (sym some))
    on (Some k) some first = refused-not_standing p lines k first

-- whether the lines can stand
pub stands-exactly : (p : Problem) (c : Checker) (lines : List Line) (can : Bool) → is_some c.refused ≡ not can → HasChecked p c lines
    → (can ≡ true) ↔ CanStand p lines
stands-exactly p c lines true none checked = (λ _. can_stand (stands_of (none_of c.refused none) checked), λ _. refl)
stands-exactly p c lines false some checked = (λ t. absurd (true≢false (sym t)), λ stands. absurd (refused-exactly p c lines some checked stands))

pub refuted : (p : Problem) (c : Checker) (lines : List Line) → c.refused ≡ None → left_of c.pending ≡ [] → HasChecked p c lines
    → Valid p lines × (c.decisions ≡ decisions_in lines)
refuted p c lines none empty checked =
    let k : Stands p c lines = stands_of none checked in
    ((valid_is_computed p k.root lines k.is_root).1 (k.left ∙ ap Some empty), k.decisions)

pub unfinished : (p : Problem) (c : Checker) (lines : List Line) → c.refused ≡ None → (left_of c.pending ≡ [] → ⊥) → HasChecked p c lines
    → Open p lines c.decisions
unfinished p c lines none full checked = on (left_of c.pending) refl
  where
    k : Stands p c lines
    k = stands_of none checked

    on : (left : List State) → left_of c.pending ≡ left → Open p lines c.decisions
    on [] e = absurd (full e)
    on (first ∷ rest) e = (open_is_computed p k.root lines c.decisions k.is_root).1 (first, rest, k.left ∙ ap Some e, k.decisions)

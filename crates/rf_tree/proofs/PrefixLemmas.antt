-- What is left after lines and more lines; lines that can stand, and the first that can't.
use Rattle.std.proofs.Common.{◌≡◌, ◌+◌, ◌<◌, ◌≤◌, ℕ, true, is_some, Option, None, Some, List, [], ◌∷◌, ◌++◌, length, take, drop, refl, inl, inr, sym, ap, subst, ◌∙◌, length-append, arith}
use Rattle.std.specs.Option.{option_and_then}
use Rattle.std.proofs.Math.Seq.{take-append_seam}
use Rattle.std.proofs.lemmas.Bool.{cases_order}
use Rattle.std.proofs.lemmas.List.{length-take-le, take_all, take-append-drop, take-append-le}
use Rattle.rf_problem.specs.declared.problem.Problem.{Problem}
use Rattle.rf_state.specs.State.{IsRoot, State}
use Rattle.rf_tree.specs.Laws.{PrefixesStand}
use Rattle.rf_tree.specs.Lines.{CanStand}
use Rattle.rf_tree.specs.Pending.{after_line, left_after}
use Rattle.rf_tree.specs.Verdicts.{IsFirstRefused}
use Rattle.rf_tree.specs.declared.line.Line.{Line}
use Rattle.rf_tree.proofs.TreeLaws.{stand_is_computed}

and_then-twice : {A B C : Type 0} (f : A → Option B) (g : B → Option C) (h : A → Option C) → ((a : A) → h a ≡ option_and_then g (f a))
    → (o : Option A) → option_and_then h o ≡ option_and_then g (option_and_then f o)
and_then-twice f g h both None = refl
and_then-twice f g h both (Some a) = both a

pub left_after-append : (p : Problem) (xs ys : List Line) (states : List State)
    → left_after p (xs ++ ys) states ≡ option_and_then (left_after p ys) (left_after p xs states)
left_after-append p [] ys states = refl
left_after-append p (x ∷ xs) ys [] = refl
left_after-append p (x ∷ xs) ys (s ∷ rest) =
    and_then-twice (left_after p xs) (left_after p ys) (left_after p (xs ++ ys)) (λ left. left_after-append p xs ys left) (after_line p s rest x)

-- what can stand has a root
pub root_of : (p : Problem) (lines : List Line) → CanStand p lines → (s : State) × IsRoot p s
root_of p lines stands = elim stands [ inl v ↦ (v.root, v.is_root) | inr o ↦ (o.1.root, o.1.is_root) ]

some-before : {A B : Type 0} (f : A → Option B) (o : Option A) → is_some (option_and_then f o) ≡ true → is_some o ≡ true
some-before f None found = found
some-before f (Some a) found = refl

pub prefixes_stand : PrefixesStand
prefixes_stand p lines more stands =
    let root = root_of p (lines ++ more) stands in
    let s = root.0 in
    (stand_is_computed p s lines root.1).1 (some-before (left_after p more) (left_after p lines (s ∷ []))
    (ap is_some (sym (left_after-append p lines more (s ∷ []))) ∙ (stand_is_computed p s (lines ++ more) root.1).0 stands))

-- more lines and fewer
pub stands-take : (p : Problem) (lines : List Line) (k : ℕ) → CanStand p lines → CanStand p (take k lines)
stands-take p lines k stands = prefixes_stand p (take k lines) (drop k lines) (subst (CanStand p) (sym (take-append-drop k lines)) stands)

stands-fewer : (p : Problem) (lines : List Line) (j k : ℕ) → j ≤ k → k ≤ length lines → CanStand p (take k lines) → CanStand p (take j lines)
stands-fewer p lines j k le within stands = subst (CanStand p) (sym there) (stands-take p (take k lines) j stands)
  where
    there : take j lines ≡ take j (take k lines)
    there = ap (take j) (sym (take-append-drop k lines)) ∙ take-append-le j (take k lines) (drop k lines) (omega (arith, length-take-le k lines within))

pub refused-not_standing : (p : Problem) (lines : List Line) (k : ℕ) → IsFirstRefused p lines k → CanStand p lines → ⊥
refused-not_standing p lines k first stands = first.refused (stands-take p lines (k + 1) stands)

-- whatever lines come after it, a line is the first that can't stand
pub refused-more : (p : Problem) (lines more : List Line) (k : ℕ) → IsFirstRefused p lines k → IsFirstRefused p (lines ++ more) k
refused-more p lines more k first = record {
  there = omega (arith, length-append lines more, first.there);
  before = subst (CanStand p) (sym (take-append-le k lines more (omega (arith, first.there)))) first.before;
  refused = λ stands. first.refused (subst (CanStand p) (take-append-le (k + 1) lines more (omega (arith, first.there))) stands);
}

-- a line that can't stand after lines that can is the first one
pub refused-here : (p : Problem) (lines : List Line) (line : Line) → CanStand p lines → (CanStand p (lines ++ line ∷ []) → ⊥)
    → IsFirstRefused p (lines ++ line ∷ []) (length lines)
refused-here p lines line stands fails = record {
  there = omega (arith, length-append lines (line ∷ []));
  before = subst (CanStand p) (sym (take-append_seam lines (line ∷ []))) stands;
  refused = λ k. fails (subst (CanStand p) (take_all (length lines + 1) (lines ++ line ∷ []) (omega (arith, length-append lines (line ∷ [])))) k);
}

-- there is one first line that can't stand
refused-least : (p : Problem) (lines : List Line) (j k : ℕ) → IsFirstRefused p lines j → IsFirstRefused p lines k → j < k → ⊥
refused-least p lines j k one other less = one.refused (stands-fewer p lines (j + 1) k (omega arith) (omega (arith, other.there)) other.before)

pub refused-unique : (p : Problem) (lines : List Line) (j k : ℕ) → IsFirstRefused p lines j → IsFirstRefused p lines k → j ≡ k
refused-unique p lines j k one other = elim (cases_order j k) [
  | inl same ↦ same
  | inr apart ↦ elim apart [
    | inl less ↦ absurd (refused-least p lines j k one other less)
    | inr more ↦ absurd (refused-least p lines k j other one more)
  ]
]

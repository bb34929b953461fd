-- The places that a course leaves are reached, and have no more objects than decisions were made beside those of the root.
use Rattle.std.proofs.Common.{◌≡◌, ℕ, ◌+◌, ◌≤◌, Bool, true, false, not, List, [], ◌∷◌, ◌++◌, length, refl, ap, subst, ◌∙◌, arith}
use Rattle.std.specs.Prelude.{slice_set}
use Rattle.std.proofs.lemmas.List.{length-set}
use Rattle.rf_problem.specs.declared.problem.Problem.{Problem}
use Rattle.rf_state.specs.State.{IsRoot, State, fresh_of}
use Rattle.rf_state.specs.declared.object.Object.{Object}
use Rattle.rf_rules.specs.Decisions.{allowed, side}
use Rattle.rf_rules.specs.Effects.{after_effect}
use Rattle.rf_rules.specs.Rules.{after, instance_of}
use Rattle.rf_rules.specs.Words.{classes_below}
use Rattle.rf_rules.specs.declared.decision.Decision.{Decision}
use Rattle.rf_rules.specs.declared.decision.Decision.TheVariants.{Fresh, Kind, Ref}
use Rattle.rf_rules.specs.declared.effect.Effect.{Effect}
use Rattle.rf_rules.specs.declared.effect.Effect.TheVariants.{AtLeast, AtMost, Close as CloseEffect, Keep, Lose, Merge}
use Rattle.rf_rules.specs.declared.rule.Rule.{Rule}
use Rattle.rf_tree.specs.Pending.{decisions_in}
use Rattle.rf_tree.specs.declared.line.Line.{Line}
use Rattle.rf_tree.specs.declared.line.Line.TheVariants.{Close, Decide, Step}
use Rattle.rf_decide.specs.Words.{word}
use Rattle.rf_final.specs.Reached.{IsReached, at_root, by_decision, by_rule}
use Rattle.rf_search.specs.Course.{IsNext, Leads, Place, places_after, root_place}
use Rattle.rf_decide.proofs.Chosen.{chosen_allowed}
use Rattle.rf_search.proofs.CourseLemmas.{decisions_in-cons}

effect-objects : (s : State) (e : Effect) → length (after_effect s e).objects ≡ length s.objects
effect-objects s CloseEffect = refl
effect-objects s (AtMost o n) = length-set s.objects o _
effect-objects s (AtLeast o n) = length-set s.objects o _
effect-objects s (Keep o set) = length-set s.objects o _
effect-objects s (Lose o set) = length-set s.objects o _
effect-objects s (Merge r a b v) = refl

length-one_more : (xs : List Object) (x : Object) → length (xs ++ x ∷ []) ≡ length xs + 1
length-one_more [] x = refl
length-one_more (y ∷ ys) x = let r = length-one_more ys x in omega arith

pub fresh-objects : (s : State) (o : ℕ) → length (fresh_of s o).objects ≡ length s.objects + 1
fresh-objects s o = length-one_more (slice_set s.objects o _) _ ∙ ap (λ (n : ℕ). n + 1) (length-set s.objects o _)

side-objects : (p : Problem) (s : State) (d : Decision) (first : Bool) → length (side p s d first).objects ≤ length s.objects + 1
side-objects p s (Fresh o) true = let e = fresh-objects s o in omega arith
side-objects p s (Fresh o) false = let e = effect-objects s (AtMost o 0) in omega arith
side-objects p s (Kind o c) true = let e = effect-objects s (Keep o (classes_below p c)) in omega arith
side-objects p s (Kind o c) false = let e = effect-objects s (Lose o (classes_below p c)) in omega arith
side-objects p s (Ref r a b) true = omega arith
side-objects p s (Ref r a b) false = omega arith

-- a state after so many decisions
pub record IsOnCourse (p : Problem) (made : ℕ) (s : State) : Type 0 where
  pub reached : IsReached p s
  pub small : length s.objects ≤ length p.objects + made

-- each of these places is
abbrev pub AreOnCourse : Problem → ℕ → List Place → Type 0
AreOnCourse p made [] = Unit {0}
AreOnCourse p made (x ∷ places) = IsOnCourse p made x.state × AreOnCourse p made places

later : (p : Problem) (made more : ℕ) (s : State) → made ≤ more → IsOnCourse p made s → IsOnCourse p more s
later p made more s l h = record { reached = h.reached; small = (let k = h.small in omega arith) }

all-later : (p : Problem) (made more : ℕ) (places : List Place) → made ≤ more → AreOnCourse p made places → AreOnCourse p more places
all-later p made more [] l h = tt
all-later p made more (x ∷ places) l h = (later p made more x.state l h.0, all-later p made more places l h.1)

after-on_course : (p : Problem) (made : ℕ) (s : State) (rule : Rule) → IsOnCourse p made s → (h : IsReached p (after p s rule)) → IsOnCourse p made (after p s rule)
after-on_course p made s rule at h =
    record { reached = h; small = (let e = effect-objects s (instance_of p s rule).effect in let k = at.small in omega arith) }

side-on_course : (p : Problem) (made : ℕ) (s : State) (d : Decision) (first : Bool) → IsOnCourse p made s → allowed p s d ≡ true
    → IsOnCourse p (made + 1) (side p s d first)
side-on_course p made s d first at ok = record {
  reached = by_decision s d first at.reached ok;
  small = (let e = side-objects p s d first in let k = at.small in omega arith);
}

line-on_course : (p : Problem) (seed k made : ℕ) (x : Place) (line : Line) (rest : List Place) → IsNext p seed x.state k line → IsOnCourse p made x.state
    → AreOnCourse p made rest → AreOnCourse p (made + decisions_in (line ∷ [])) (places_after p x line ++ rest)
line-on_course p seed k made x (Step rule) rest next at all =
    all-later p made (made + 0) (record { state = after p x.state rule; way = x.way } ∷ rest) (omega arith)
    (after-on_course p made x.state rule at (by_rule x.state rule at.reached next.0.passes next.1), all)
line-on_course p seed k made x (Decide d first) rest next at all =
    let ok : allowed p x.state d ≡ true = chosen_allowed p x.state (word seed k) d first next.1 in (
      side-on_course p made x.state d first at ok,
      (side-on_course p made x.state d (not first) at ok, all-later p made (made + 1) rest (omega arith) all),
    )
line-on_course p seed k made x (Close rule) rest next at all = all-later p made (made + 0) rest (omega arith) all

pub Leads-on_course : (p : Problem) (seed k made : ℕ) (lines : List Line) (places left : List Place) → Leads p seed k lines places left
    → AreOnCourse p made places → AreOnCourse p (made + decisions_in lines) left
Leads-on_course p seed k made [] places left h all = all-later p made (made + 0) left (omega arith) (subst (AreOnCourse p made) h all)
Leads-on_course p seed k made (line ∷ lines) [] left h all = absurd h
Leads-on_course p seed k made (line ∷ lines) (x ∷ places) left h all =
    let m = made + decisions_in (line ∷ []) in
    let r = Leads-on_course p seed (k + decisions_in (line ∷ [])) m lines (places_after p x line ++ places) left h.1
    (line-on_course p seed k made x line places h.0 all.0 all.1) in
    let e = decisions_in-cons line lines in
    let f : m + decisions_in lines ≡ made + decisions_in (line ∷ lines) = omega arith in
    subst (λ (n : ℕ). AreOnCourse p n left) f r

-- the first place that lines leave, from the root
pub first-on_course : (p : Problem) (seed : ℕ) (root : State) (lines : List Line) (x : Place) (rest : List Place) → IsRoot p root
    → Leads p seed 0 lines (root_place root ∷ []) (x ∷ rest) → IsOnCourse p (decisions_in lines) x.state
first-on_course p seed root lines x rest h leads =
    let at : IsOnCourse p 0 root = record { reached = at_root root h; small = (let e = h.many in omega arith) } in
    let r = Leads-on_course p seed 0 0 lines (root_place root ∷ []) (x ∷ rest) leads (at, tt) in
    let e : 0 + decisions_in lines ≡ decisions_in lines = omega arith in
    subst (λ (n : ℕ). IsOnCourse p n x.state) e r.0

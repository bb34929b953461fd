-- Courses are joined, and what their lines lead to.
use Rattle.std.proofs.Common.{◌≡◌, ℕ, ◌+◌, true, Some, List, [], ◌∷◌, ◌++◌, map, refl, sym, ap, subst, arith}
use Rattle.rf_problem.specs.declared.problem.Problem.{Problem}
use Rattle.rf_state.specs.State.{State}
use Rattle.rf_rules.specs.Decisions.{allowed}
use Rattle.rf_rules.specs.Rules.{after, fires}
use Rattle.rf_tree.specs.Pending.{after_line, decisions_in, left_after}
use Rattle.rf_tree.specs.declared.line.Line.{Line}
use Rattle.rf_tree.specs.declared.line.Line.TheVariants.{Close, Decide, Step}
use Rattle.rf_decide.specs.Words.{word}
use Rattle.rf_search.specs.Course.{IsNext, Leads, Place, places_after}
use Rattle.rf_search.specs.Settled.{Steps}
use Rattle.rf_decide.proofs.Chosen.{chosen_allowed}

pub decisions_in-cons : (line : Line) (lines : List Line) → decisions_in (line ∷ lines) ≡ decisions_in (line ∷ []) + decisions_in lines
decisions_in-cons (Step rule) lines = omega arith
decisions_in-cons (Decide d first) lines = omega arith
decisions_in-cons (Close rule) lines = omega arith

pub decisions_in-join : (lines more : List Line) → decisions_in (lines ++ more) ≡ decisions_in lines + decisions_in more
decisions_in-join [] more = omega arith
decisions_in-join (line ∷ lines) more =
    let e = decisions_in-cons line (lines ++ more) in
    let f = decisions_in-cons line lines in
    let g = decisions_in-join lines more in
    omega arith

-- where lines lead somewhere, and more lines from there, they do together
pub Leads-join : (p : Problem) (seed k m : ℕ) (lines more : List Line) (places mid left : List Place)
    → Leads p seed k lines places mid → m ≡ k + decisions_in lines → Leads p seed m more mid left → Leads p seed k (lines ++ more) places left
Leads-join p seed k m [] more places mid left one e two =
    let f : m ≡ k = omega arith in
    subst (λ (n : ℕ). Leads p seed n more places left) f (subst (λ (xs : List Place). Leads p seed m more xs left) (sym one) two)
Leads-join p seed k m (line ∷ lines) more [] mid left one e two = absurd one
Leads-join p seed k m (line ∷ lines) more (x ∷ places) mid left one e two =
    let f = decisions_in-cons line lines in
    let g : m ≡ (k + decisions_in (line ∷ [])) + decisions_in lines = omega arith in
    (one.0, Leads-join p seed (k + decisions_in (line ∷ [])) m lines more (places_after p x line ++ places) mid left one.1 g two)

pub Steps-decide_nothing : (p : Problem) (s : State) (lines : List Line) (t : State) → Steps p s lines t → decisions_in lines ≡ 0
Steps-decide_nothing p s [] t h = refl
Steps-decide_nothing p s (Step rule ∷ lines) t h = Steps-decide_nothing p (after p s rule) lines t h.2
Steps-decide_nothing p s (Decide d first ∷ lines) t h = absurd h
Steps-decide_nothing p s (Close rule ∷ lines) t h = absurd h

-- steps are a part of the course
pub Steps-lead : (p : Problem) (seed k : ℕ) (s : State) (way : List State) (lines : List Line) (t : State) (rest : List Place) → Steps p s lines t
    → Leads p seed k lines (record { state = s; way = way } ∷ rest) (record { state = t; way = way } ∷ rest)
Steps-lead p seed k s way [] t rest h = λ i. record { state = sym h i; way = way } ∷ rest
Steps-lead p seed k s way (Step rule ∷ lines) t rest h =
    let e : k ≡ k + 0 = omega arith in (
      (h.0, h.1),
      subst (λ (n : ℕ). Leads p seed n lines (record { state = after p s rule; way = way } ∷ rest) (record { state = t; way = way } ∷ rest)) e
          (Steps-lead p seed k (after p s rule) way lines t rest h.2),
    )
Steps-lead p seed k s way (Decide d first ∷ lines) t rest h = absurd h
Steps-lead p seed k s way (Close rule ∷ lines) t rest h = absurd h

-- the states of places
abbrev pub states_of : List Place → List State
states_of places = map (λ (x : Place). x.state) places

pub states_of-append : (xs ys : List Place) → states_of (xs ++ ys) ≡ states_of xs ++ states_of ys
states_of-append [] ys = refl
states_of-append (x ∷ xs) ys = ap (λ (zs : List State). x.state ∷ zs) (states_of-append xs ys)

-- the next line can stand
next-stands : (p : Problem) (seed k : ℕ) (x : Place) (line : Line) (rest : List State) → IsNext p seed x.state k line
    → after_line p x.state rest line ≡ Some (states_of (places_after p x line) ++ rest)
next-stands p seed k x (Step rule) rest h =
    let f : fires p x.state rule ≡ true = h.0.passes in
    rw (h.1, f) refl
next-stands p seed k x (Decide d first) rest h =
    let f : allowed p x.state d ≡ true = chosen_allowed p x.state (word seed k) d first h.1 in
    rw f refl
next-stands p seed k x (Close rule) rest h =
    let f : fires p x.state rule ≡ true = h.0.passes in
    rw (h.1, f) refl

-- what a course leaves are the states that are left after its lines
pub Leads-left : (p : Problem) (seed k : ℕ) (lines : List Line) (places left : List Place) → Leads p seed k lines places left
    → left_after p lines (states_of places) ≡ Some (states_of left)
Leads-left p seed k [] places left h = ap (λ (xs : List Place). Some (states_of xs)) h
Leads-left p seed k (line ∷ lines) [] left h = absurd h
Leads-left p seed k (line ∷ lines) (x ∷ places) left h =
    let m = k + decisions_in (line ∷ []) in
    let e = next-stands p seed k x line (states_of places) h.0 in
    let f = Leads-left p seed m lines (places_after p x line ++ places) left h.1 in
    rw e (subst (λ (xs : List State). left_after p lines xs ≡ Some (states_of left)) (states_of-append (places_after p x line) places) f)

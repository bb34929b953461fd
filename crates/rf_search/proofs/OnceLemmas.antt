-- A problem, a seed and a budget have one course and one outcome.
use Rattle.std.proofs.Common.{◌≡◌, ◌⊎◌, ℕ, ◌+◌, ◌≤◌, ◌<◌, Bool, true, false, Option, Some, None, List, [], ◌∷◌, ◌++◌, length, refl, sym, ap, subst, ◌∙◌, inl, inr, arith, true≢false}
use Rattle.std.proofs.lemmas.List.{length-append}
use Rattle.rf_finite.proofs.Firsts.{IsFirstOf-unique}
use Rattle.rf_problem.specs.declared.problem.Problem.{Problem}
use Rattle.rf_state.specs.State.{State}
use Rattle.rf_state.proofs.RootLemmas.{root-unique}
use Rattle.rf_rules.specs.Rules.{fires, is_closing, rule_cmp}
use Rattle.rf_rules.specs.declared.decision.Decision.{Decision}
use Rattle.rf_rules.specs.declared.decision.Decision.TheVariants.{Fresh}
use Rattle.rf_rules.specs.declared.rule.Rule.{Rule}
use Rattle.rf_rules.proofs.RuleLemmas.{rules_are_ordered}
use Rattle.rf_tree.specs.Pending.{decisions_in}
use Rattle.rf_tree.specs.Saturated.{IsFinal, IsSaturated}
use Rattle.rf_tree.specs.declared.line.Line.{Line}
use Rattle.rf_tree.specs.declared.line.Line.TheVariants.{Close, Decide, Step}
use Rattle.rf_tree.specs.declared.outcome.Outcome.{Outcome}
use Rattle.rf_tree.specs.declared.outcome.Outcome.TheVariants.{Found, Refuted, Unfinished}
use Rattle.rf_decide.specs.Words.{word}
use Rattle.rf_decide.proofs.Chosen.{chosen_allowed}
use Rattle.rf_final.specs.GraphOf.{graph_of}
use Rattle.rf_search.specs.Course.{IsNext, Leads, Place, places_after, root_place}
use Rattle.rf_search.specs.Laws.{CourseIsUnique, OutcomeIsUnique}
use Rattle.rf_search.specs.Least.{IsLeast}
use Rattle.rf_search.specs.Outcome.{Ends, EndsFound, EndsRefuted, EndsUnfinished}
use Rattle.rf_search.proofs.CourseLemmas.{Leads-join, decisions_in-cons, decisions_in-join}

same_some : (x y : Rule) → Some x ≡ Some y → x ≡ y
same_some x y e = cc

-- the line of a decision that is chosen
abbrev line_of : Option (Decision × Bool) → Line
line_of None = Decide (Fresh 0) false
line_of (Some x) = Decide x.0 x.1

-- the state of the first place
abbrev state_in : List Place → State → State
state_in [] s = s
state_in (x ∷ places) s = x.state

module _ (p : Problem) (seed : ℕ) where
  least_once : (s : State) (a b : Option Rule) → IsLeast p s a → IsLeast p s b → a ≡ b
  least_once s a b one two = IsFirstOf-unique rule_cmp (λ rule. fires p s rule ≡ true) a b rules_are_ordered.0 rules_are_ordered.1 one two

  both_closings : (r q : Rule) → Some r ≡ Some q → is_closing r ≡ false → is_closing q ≡ true → ⊥
  both_closings r q e f t = let same : r ≡ q = cc in true≢false (sym t ∙ (ap is_closing (sym same) ∙ f))

  same_decision : (d e : Decision) (f g : Bool) → ◌≡◌ {A = Option (Decision × Bool)} (Some (d, f)) (Some (e, g)) → Decide d f ≡ Decide e g
  same_decision d e f g h = ap line_of h

  -- the line that is next is one
  next_once : (s : State) (k : ℕ) (a b : Line) → IsNext p seed s k a → IsNext p seed s k b → a ≡ b
  next_once s k (Step r) (Step q) one two = let e : r ≡ q = same_some r q (least_once s (Some r) (Some q) one.0 two.0) in ap Step e
  next_once s k (Close r) (Close q) one two = let e : r ≡ q = same_some r q (least_once s (Some r) (Some q) one.0 two.0) in ap Close e
  next_once s k (Step r) (Close q) one two = absurd (both_closings r q (least_once s (Some r) (Some q) one.0 two.0) one.1 two.1)
  next_once s k (Close r) (Step q) one two = absurd (both_closings q r (least_once s (Some q) (Some r) two.0 one.0) two.1 one.1)
  next_once s k (Step r) (Decide d f) one two = absurd (two.0 r one.0.passes)
  next_once s k (Close r) (Decide d f) one two = absurd (two.0 r one.0.passes)
  next_once s k (Decide d f) (Step r) one two = absurd (one.0 r two.0.passes)
  next_once s k (Decide d f) (Close r) one two = absurd (one.0 r two.0.passes)
  next_once s k (Decide d f) (Decide e g) one two = same_decision d e f g (sym one.1 ∙ two.1)

  -- of two lists of lines from the same places one goes on from the other
  abbrev pub GoesOn : ℕ → List Line → List Line → List Place → List Place → Type 0
  GoesOn k lines other left there = (more : List Line) × (other ≡ lines ++ more) × Leads p seed (k + decisions_in lines) more left there

  one_more : (k : ℕ) (line : Line) (lines other : List Line) (left there : List Place) → GoesOn (k + decisions_in (line ∷ [])) lines other left there
      → GoesOn k (line ∷ lines) (line ∷ other) left there
  one_more k line lines other left there h =
      let e = decisions_in-cons line lines in
      let f : (k + decisions_in (line ∷ [])) + decisions_in lines ≡ k + decisions_in (line ∷ lines) = omega arith in
      (h.0, ap (λ ls. line ∷ ls) h.1, subst (λ (n : ℕ). Leads p seed n h.0 left there) f h.2)

  pub agree : (k : ℕ) (lines other : List Line) (places left there : List Place) → Leads p seed k lines places left → Leads p seed k other places there
      → GoesOn k lines other left there ⊎ GoesOn k other lines there left
  agree k [] other places left there one two =
      let f : k ≡ k + 0 = omega arith in
      inl (other, refl, subst (λ (n : ℕ). Leads p seed n other left there) f (subst (λ (xs : List Place). Leads p seed k other xs there) one two))
  agree k (line ∷ lines) [] places left there one two =
      let f : k ≡ k + 0 = omega arith in
      inr (line ∷ lines, refl, subst (λ (n : ℕ). Leads p seed n (line ∷ lines) there left) f (subst (λ (xs : List Place). Leads p seed k (line ∷ lines) xs left) two one))
  agree k (line ∷ lines) (other ∷ others) [] left there one two = absurd one
  agree k (line ∷ lines) (other ∷ others) (x ∷ places) left there one two =
      let same : other ≡ line = next_once x.state k other line two.0 one.0 in
      let rest = subst (λ (l : Line). Leads p seed (k + decisions_in (l ∷ [])) others (places_after p x l ++ places) there) same two.1 in
      subst (λ (l : Line). GoesOn k (line ∷ lines) (l ∷ others) left there ⊎ GoesOn k (l ∷ others) (line ∷ lines) there left) (sym same)
      (elim (agree (k + decisions_in (line ∷ [])) lines others (places_after p x line ++ places) left there one.1 rest) [
        | inl h ↦ inl (one_more k line lines others left there h)
        | inr h ↦ inr (one_more k line others lines there left h)
      ])

  -- where lines stop: they have at most `budget` decisions, and with one line more there would be more
  pub record Stops (budget : ℕ) (root : State) (lines : List Line) (left : List Place) : Type 0 where
    pub leads : Leads p seed 0 lines (root_place root ∷ []) left
    pub few : decisions_in lines ≤ budget
    pub last : (line : Line) (more : List Line) (there : List Place) → Leads p seed (0 + decisions_in lines) (line ∷ more) left there
        → budget < decisions_in lines + decisions_in (line ∷ more)

  abbrev pub IsSameEnd : List Line → List Line → List Place → List Place → Type 0
  IsSameEnd lines other left there = (lines ≡ other) × (left ≡ there)

  nothing_after : (lines : List Line) → lines ++ [] ≡ lines
  nothing_after [] = refl
  nothing_after (line ∷ lines) = ap (λ ls. line ∷ ls) (nothing_after lines)

  one_way : (budget : ℕ) (root : State) (lines other : List Line) (left there : List Place) → Stops budget root lines left → Stops budget root other there
      → GoesOn 0 lines other left there → IsSameEnd lines other left there
  one_way budget root lines other left there one two h = by_case h.0 h.1 h.2
    where
      by_case : (more : List Line) → other ≡ lines ++ more → Leads p seed (0 + decisions_in lines) more left there → IsSameEnd lines other left there
      by_case [] e l = (sym (e ∙ nothing_after lines), l)
      by_case (line ∷ more) e l =
          let past = one.last line more there l in
          let many = decisions_in-join lines (line ∷ more) in
          let same : decisions_in other ≡ decisions_in (lines ++ line ∷ more) = ap decisions_in e in
          let few = two.few in absurd (omega arith)

  pub stops_once : (budget : ℕ) (root : State) (lines other : List Line) (left there : List Place) → Stops budget root lines left → Stops budget root other there
      → IsSameEnd lines other left there
  stops_once budget root lines other left there one two = elim (agree 0 lines other (root_place root ∷ []) left there one.leads two.leads) [
    | inl h ↦ one_way budget root lines other left there one two h
    | inr h ↦ (let same = one_way budget root other lines there left two one h in (sym same.0, sym same.1))
  ]

  -- in a final state no line is next, and in one where no rule fires only a decision is
  final_stops : (s : State) (k : ℕ) (line : Line) → IsFinal p s → IsNext p seed s k line → ⊥
  final_stops s k (Step r) final next = true≢false (sym next.0.passes ∙ final.saturated r)
  final_stops s k (Close r) final next = true≢false (sym next.0.passes ∙ final.saturated r)
  final_stops s k (Decide d f) final next = true≢false (sym (chosen_allowed p s (word seed k) d f next.1) ∙ final.decided d)

  decides : (s : State) (k : ℕ) (line : Line) (more : List Line) → IsSaturated p s → IsNext p seed s k line → 1 ≤ decisions_in (line ∷ more)
  decides s k (Step r) more saturated next = absurd (true≢false (sym next.0.passes ∙ saturated r))
  decides s k (Close r) more saturated next = absurd (true≢false (sym next.0.passes ∙ saturated r))
  decides s k (Decide d f) more saturated next = omega arith

  found_stops : (budget : ℕ) (root s : State) (way : List State) (h : EndsFound p seed budget root s way)
      → Stops budget root h.lines (record { state = s; way = way } ∷ h.rest)
  found_stops budget root s way h = record {
    leads = h.leads;
    few = h.few;
    last = λ line more there l. absurd (final_stops s (0 + decisions_in h.lines) line h.final l.0);
  }

  refuted_stops : (budget : ℕ) (root : State) (lines : List Line) (s : State) (way : List State) → EndsRefuted p seed budget root lines s way
      → Stops budget root lines []
  refuted_stops budget root lines s way h = record {
    leads = subst (λ (ls : List Line). Leads p seed 0 ls (root_place root ∷ []) []) (sym h.last)
        (Leads-join p seed 0 (decisions_in h.before) h.before (Close h.rule ∷ []) (root_place root ∷ []) (record { state = s; way = way } ∷ []) [] h.leads
        (omega arith) (h.closed, refl));
    few = (let same : decisions_in lines ≡ decisions_in (h.before ++ Close h.rule ∷ []) = ap decisions_in h.last in
        let join = decisions_in-join h.before (Close h.rule ∷ []) in let few = h.few in omega arith);
    last = λ line more there l. absurd l;
  }

  unfinished_stops : (budget : ℕ) (root : State) (lines : List Line) (s : State) (way : List State) (h : EndsUnfinished p seed budget root lines s way)
      → Stops budget root lines (record { state = s; way = way } ∷ h.rest)
  unfinished_stops budget root lines s way h = record {
    leads = h.leads;
    few = (let spent = h.spent in omega arith);
    last = λ line more there l. (let one = decides s (0 + decisions_in lines) line more h.saturated l.0 in let spent = h.spent in omega arith);
  }

  some_or_none : (x : Place) (places : List Place) → x ∷ places ≡ [] → ⊥
  some_or_none x places e = let n : length (x ∷ places) ≡ 0 = ap length e in absurd (omega arith)

  same_first : (x y : Place) (xs ys : List Place) → x ∷ xs ≡ y ∷ ys → x.state ≡ y.state
  same_first x y xs ys e = ap (λ places. state_in places x.state) e

  pub ends_once : (budget : ℕ) (root : State) (a b : Outcome) (s t : State) (way other : List State) → Ends p seed budget root a s way → Ends p seed budget root b t other → a ≡ b
  ends_once budget root (Found g) (Found h) s t way other one two =
      let same = stops_once budget root one.0.lines two.0.lines _ _ (found_stops budget root s way one.0) (found_stops budget root t other two.0) in
      let state : s ≡ t = same_first (record { state = s; way = way }) (record { state = t; way = other }) one.0.rest two.0.rest same.1 in
      ap Found (one.1 ∙ (ap (graph_of p) state ∙ sym two.1))
  ends_once budget root (Found g) (Refuted lines) s t way other one two =
      let same = stops_once budget root one.0.lines lines _ [] (found_stops budget root s way one.0) (refuted_stops budget root lines t other two) in
      absurd (some_or_none (record { state = s; way = way }) one.0.rest same.1)
  ends_once budget root (Found g) (Unfinished lines) s t way other one two =
      let same = stops_once budget root one.0.lines lines _ _ (found_stops budget root s way one.0) (unfinished_stops budget root lines t other two) in
      let state : s ≡ t = same_first (record { state = s; way = way }) (record { state = t; way = other }) one.0.rest two.rest same.1 in
      absurd (two.undecided (subst (IsFinal p) state one.0.final))
  ends_once budget root (Refuted lines) (Found g) s t way other one two =
      let same = stops_once budget root lines two.0.lines [] _ (refuted_stops budget root lines s way one) (found_stops budget root t other two.0) in
      absurd (some_or_none (record { state = t; way = other }) two.0.rest (sym same.1))
  ends_once budget root (Refuted lines) (Refuted others) s t way other one two =
      ap Refuted (stops_once budget root lines others [] [] (refuted_stops budget root lines s way one) (refuted_stops budget root others t other two)).0
  ends_once budget root (Refuted lines) (Unfinished others) s t way other one two =
      let same = stops_once budget root lines others [] _ (refuted_stops budget root lines s way one) (unfinished_stops budget root others t other two) in
      absurd (some_or_none (record { state = t; way = other }) two.rest (sym same.1))
  ends_once budget root (Unfinished lines) (Found g) s t way other one two =
      let same = stops_once budget root lines two.0.lines _ _ (unfinished_stops budget root lines s way one) (found_stops budget root t other two.0) in
      let state : s ≡ t = same_first (record { state = s; way = way }) (record { state = t; way = other }) one.rest two.0.rest same.1 in
      absurd (one.undecided (subst (IsFinal p) (sym state) two.0.final))
  ends_once budget root (Unfinished lines) (Refuted others) s t way other one two =
      let same = stops_once budget root lines others _ [] (unfinished_stops budget root lines s way one) (refuted_stops budget root others t other two) in
      absurd (some_or_none (record { state = s; way = way }) one.rest same.1)
  ends_once budget root (Unfinished lines) (Unfinished others) s t way other one two =
      ap Unfinished (stops_once budget root lines others _ _ (unfinished_stops budget root lines s way one) (unfinished_stops budget root others t other two)).0

pub outcome_once : OutcomeIsUnique
outcome_once p seed budget a b one two =
    let root : one.root ≡ two.root = root-unique p one.root two.root one.is_root two.is_root in
    ends_once p seed budget two.root a b one.state two.state one.way two.way
    (subst (λ (r : State). Ends p seed budget r a one.state one.way) root one.ends) two.ends

pub course_once : CourseIsUnique
course_once p seed lines other one two many =
    let root : two.root ≡ one.root = root-unique p two.root one.root two.is_root one.is_root in
    elim (agree p seed 0 lines other (root_place one.root ∷ []) one.left two.left one.leads
    (subst (λ (r : State). Leads p seed 0 other (root_place r ∷ []) two.left) root two.leads)) [
      | inl h ↦ none_more lines other h.0 h.1 many
      | inr h ↦ sym (none_more other lines h.0 h.1 (sym many))
    ]
  where
    none_more : (lines other more : List Line) → other ≡ lines ++ more → length lines ≡ length other → lines ≡ other
    none_more lines other [] e n = sym (e ∙ nothing_after p seed lines)
    none_more lines other (line ∷ more) e n =
        let long = length-append lines (line ∷ more) in
        let same : length other ≡ length (lines ++ line ∷ more) = ap length e in absurd (omega arith)

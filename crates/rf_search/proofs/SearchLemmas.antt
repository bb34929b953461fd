-- What a search knows, from round to round.
use Rattle.std.proofs.Common.{◌≡◌, ℕ, ◌+◌, ◌<◌, true, false, not, Some, None, List, [], ◌∷◌, ◌++◌, length, take, refl, sym, ap, ap₂, subst, ◌∙◌, arith}
use Rattle.rf_problem.specs.declared.problem.Problem.{Problem}
use Rattle.rf_state.specs.State.{State}
use Rattle.rf_rules.specs.Decisions.{allowed, side}
use Rattle.rf_tree.specs.Pending.{decisions_in}
use Rattle.rf_tree.specs.declared.line.Line.{Line}
use Rattle.rf_tree.specs.declared.line.Line.TheVariants.{Close, Decide}
use Rattle.rf_decide.specs.Choice.{chosen}
use Rattle.rf_decide.specs.Counted.{IsCounted}
use Rattle.rf_decide.specs.Words.{word}
use Rattle.rf_search.specs.Course.{IsNext, Leads, Place, root_place}
use Rattle.rf_search.specs.Least.{IsLeast}
use Rattle.rf_search.specs.Outcome.{EndsFound, EndsRefuted, EndsUnfinished}
use Rattle.rf_search.specs.Settled.{Settles, Steps}
use Rattle.rf_search.specs.Stack.{CanGoBack, IsSearching, kept_at, untried_place, untried_places}
use Rattle.rf_search.specs.declared.untried.Untried.{Untried}
use Rattle.rf_decide.proofs.Chosen.{chosen_allowed}
use Rattle.rf_search.proofs.CourseLemmas.{Leads-join, Steps-decide_nothing, Steps-lead, decisions_in-join}
use Rattle.rf_search.proofs.EndLemmas.{final-from_none, saturated-from_least, undecided-from_chosen}
use Rattle.rf_search.proofs.StackLemmas.{AreUntried-pop, AreUntried-push, AreUntried-same, at-last, length-more, length-take_below, same-more, same-take, take-last, untried_places-push, untried_places-same}

abbrev here : State → List State → Place
here s kept = record { state = s; way = kept }

module _ (p : Problem) (seed budget : ℕ) (root : State) where
  pub begun : IsSearching p seed budget root 0 [] root (root ∷ []) []
  begun = record { count = refl; few = omega arith; stack = omega arith; leads = refl }

  -- after steps
  pub stepped : (made : ℕ) (before steps : List Line) (s t : State) (kept : List State) (us : List Untried)
      → IsSearching p seed budget root made before s kept us → Steps p s steps t → IsSearching p seed budget root made (before ++ steps) t kept us
  stepped made before steps s t kept us h done = record {
    count = (let e = decisions_in-join before steps in let z = Steps-decide_nothing p s steps t done in let m = h.count in omega arith);
    few = h.few;
    stack = h.stack;
    leads =
        Leads-join p seed 0 made before steps (root_place root ∷ []) (here s kept ∷ untried_places p kept us []) (here t kept ∷ untried_places p kept us []) h.leads
        (let m = h.count in omega arith) (Steps-lead p seed made s kept steps t (untried_places p kept us []) done);
  }

  -- where a search has settled in a state in which no rule fires
  pub settled : (made : ℕ) (before lines : List Line) (s t : State) (kept : List State) (us : List Untried)
      → IsSearching p seed budget root made before s kept us → Settles p s before lines t false
      → IsSearching p seed budget root made lines t kept us
  settled made before lines s t kept us h done =
      subst (λ (ls : List Line). IsSearching p seed budget root made ls t kept us) (sym done.settled.0)
      (stepped made before done.steps s t kept us h done.reached)

  -- what is left after a closing
  pub record IsClosed (made : ℕ) (lines : List Line) (t : State) (kept : List State) (us : List Untried) : Type 0 where
    pub count : made ≡ decisions_in lines
    pub leads : Leads p seed 0 lines (root_place root ∷ []) (untried_places p kept us [])
    pub refuted : us ≡ [] → EndsRefuted p seed budget root lines t kept

  pub closed : (made : ℕ) (before lines : List Line) (s t : State) (kept : List State) (us : List Untried)
      → IsSearching p seed budget root made before s kept us → Settles p s before lines t true → IsClosed made lines t kept us
  closed made before lines s t kept us h done =
      let all : List Line = before ++ done.steps in
      let rule = done.settled.0 in
      let at = stepped made before done.steps s t kept us h done.reached in
      let m : made ≡ decisions_in all = at.count in
      let few = at.few in
      let next : IsNext p seed t made (Close rule) = (done.settled.2, done.settled.3) in
      let leads : Leads p seed 0 (all ++ Close rule ∷ []) (root_place root ∷ []) (untried_places p kept us []) =
      Leads-join p seed 0 made all (Close rule ∷ []) (root_place root ∷ []) (here t kept ∷ untried_places p kept us []) (untried_places p kept us []) at.leads
      (omega arith) (next, refl) in
      let last : lines ≡ all ++ Close rule ∷ [] = done.settled.1 in
      record {
        count = (let e = decisions_in-join all (Close rule ∷ []) in let f = ap decisions_in last in omega arith);
        leads = subst (λ (ls : List Line). Leads p seed 0 ls (root_place root ∷ []) (untried_places p kept us [])) (sym last) leads;
        refuted = λ nothing. record {
          before = all;
          rule = rule;
          last = last;
          leads = subst (λ (ws : List Untried). Leads p seed 0 all (root_place root ∷ []) (here t kept ∷ untried_places p kept ws [])) nothing at.leads;
          closed = (done.settled.2, done.settled.3);
          few = omega arith;
        };
      }

  -- what is known of the latest untried decision after a closing, and what is after going back to it
  pub record IsBack (made : ℕ) (lines : List Line) (kept : List State) (us : List Untried) (u : Untried) : Type 0 where
    pub below : u.version < length kept
    pub back : CanGoBack p kept u
    pub rest : IsSearching p seed budget root made lines (side p (kept_at kept u.version) u.decision (not u.first)) (take (u.version + 1) kept) us

  pub gone_back : (made : ℕ) (before lines : List Line) (s t : State) (kept : List State) (us : List Untried) (u : Untried)
      → IsSearching p seed budget root made before s kept (us ++ u ∷ []) → Settles p s before lines t true → IsBack made lines kept us u
  gone_back made before lines s t kept us u h done =
      let shut = closed made before lines s t kept (us ++ u ∷ []) h done in
      let latest = AreUntried-pop p kept 0 us (length kept) u h.stack in
      let below : u.version < length kept = latest.below in
      let cut : length (take (u.version + 1) kept) ≡ u.version + 1 = length-take_below kept (u.version + 1) (omega arith) in
      let same = same-take kept u.version in
      let places : untried_places p kept (us ++ u ∷ []) [] ≡ untried_place p kept u ∷ untried_places p (take (u.version + 1) kept) us [] =
      untried_places-push p kept us u []
      ∙ ap (λ (xs : List Place). untried_place p kept u ∷ xs) (untried_places-same p kept (take (u.version + 1) kept) 0 us u.version [] same latest.rest) in
      record {
        below = below;
        back = latest.back;
        rest = record {
          count = shut.count;
          few = h.few;
          stack = rw cut (AreUntried-same p kept (take (u.version + 1) kept) 0 us u.version (u.version + 1) same (omega arith) latest.rest);
          leads = subst (λ (xs : List Place). Leads p seed 0 lines (root_place root ∷ []) xs) places shut.leads;
        };
      }

  -- after a decision
  pub decided : (made : ℕ) (lines : List Line) (t : State) (kept : List State) (us : List Untried) (u : Untried)
      → IsSearching p seed budget root made lines t kept us → IsLeast p t None → chosen p t (word seed made) ≡ Some (u.decision, u.first)
      → made < budget → u.version ≡ length kept → IsCounted p t u.counted
      → IsSearching p seed budget root (made + 1) (lines ++ Decide u.decision u.first ∷ []) (side p t u.decision u.first) (kept ++ t ∷ []) (us ++ u ∷ [])
  decided made lines t kept us u h least choice few version counted =
      let more : List State = kept ++ t ∷ [] in
      let same = same-more kept t in
      let ok : allowed p t u.decision ≡ true = chosen_allowed p t (word seed made) u.decision u.first choice in
      let last : kept_at more u.version ≡ t = rw version (at-last kept t) in
      let way : take (u.version + 1) more ≡ more = rw version (take-last kept t) in
      let size : length more ≡ length kept + 1 = length-more kept t in
      let back : CanGoBack p more u = record {
        least = subst (λ (x : State). IsLeast p x None) (sym last) least;
        ok = subst (λ (x : State). allowed p x u.decision ≡ true) (sym last) ok;
        counted = subst (λ (x : State). IsCounted p x u.counted) (sym last) counted;
      } in
      let other : untried_place p more u ≡ here (side p t u.decision (not u.first)) more =
      λ i. record { state = side p (last i) u.decision (not u.first); way = way i } in
      let places : here (side p t u.decision (not u.first)) more ∷ untried_places p kept us [] ≡ untried_places p more (us ++ u ∷ []) [] =
      sym (untried_places-push p more us u []
      ∙ ap₂ (λ (x : Place) (xs : List Place). x ∷ xs) other (sym (untried_places-same p kept more 0 us (length kept) [] same h.stack))) in
      record {
        count = (let e = decisions_in-join lines (Decide u.decision u.first ∷ []) in let m = h.count in omega arith);
        few = omega arith;
        stack = rw size (AreUntried-push p more 0 us (length kept) u
            (AreUntried-same p kept more 0 us (length kept) (length kept) same (omega arith) h.stack) version back);
        leads =
            Leads-join p seed 0 made lines (Decide u.decision u.first ∷ []) (root_place root ∷ []) (here t kept ∷ untried_places p kept us [])
            (here (side p t u.decision u.first) more ∷ untried_places p more (us ++ u ∷ []) []) h.leads (let m = h.count in omega arith)
            ((least, choice), ap (λ (xs : List Place). here (side p t u.decision u.first) more ∷ xs) places);
      }

  -- where nothing is chosen
  pub found : (made : ℕ) (lines : List Line) (t : State) (kept : List State) (us : List Untried)
      → IsSearching p seed budget root made lines t kept us → IsLeast p t None → chosen p t (word seed made) ≡ None → EndsFound p seed budget root t kept
  found made lines t kept us h least choice = record {
    lines = lines;
    rest = untried_places p kept us [];
    leads = h.leads;
    final = final-from_none p t (word seed made) least choice;
    few = (let m = h.count in let f = h.few in omega arith);
  }

  -- where something is, but no decision more is to be made
  pub unfinished : (made : ℕ) (lines : List Line) (t : State) (kept : List State) (us : List Untried) (d : _) (first : _)
      → IsSearching p seed budget root made lines t kept us → IsLeast p t None → chosen p t (word seed made) ≡ Some (d, first) → made ≡ budget
      → EndsUnfinished p seed budget root lines t kept
  unfinished made lines t kept us d first h least choice spent = record {
    rest = untried_places p kept us [];
    leads = h.leads;
    saturated = saturated-from_least p t least;
    undecided = undecided-from_chosen p t (word seed made) d first choice;
    spent = (let m = h.count in omega arith);
  }

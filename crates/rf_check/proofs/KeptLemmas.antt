-- What is kept after a line.
use Rattle.std.proofs.Common.{◌≡◌, ◌&&◌, Bool, not, true, Option, None, Some, List, [], ◌∷◌, ◌++◌, All, map, reverse, refl, sym, ap, ap₂, subst, ◌∙◌}
use Rattle.std.proofs.lemmas.List.{reverse-append}
use Rattle.std.proofs.lemmas.List.Elements.{All-pop, All-push}
use Rattle.std.specs.Option.{IfSome, option_to_list}
use Rattle.rf_problem.specs.declared.problem.Problem.{Problem}
use Rattle.rf_eval.specs.declared.scratch.Scratch.{Scratch}
use Rattle.rf_state.specs.State.{State}
use Rattle.rf_rules.specs.Decisions.{allowed, side}
use Rattle.rf_rules.specs.Rules.{fires, is_closing}
use Rattle.rf_rules.specs.declared.decision.Decision.{Decision}
use Rattle.rf_rules.specs.declared.rule.Rule.{Rule}
use Rattle.rf_tree.specs.Pending.{left_after}
use Rattle.rf_tree.specs.declared.line.Line.TheVariants.{Close, Decide}
use Rattle.rf_check.specs.Kept.{AreOf, IsOf, left_by, state_of}
use Rattle.rf_check.specs.Steps.{IsSplit, TakesLine, problem_of}
use Rattle.rf_check.specs.declared.pending.Pending.{Pending}

-- the states of the other sides, where one comes last
others-push : (others : List Scratch) (other : Scratch) → map state_of (reverse (others ++ other ∷ [])) ≡ state_of other ∷ map state_of (reverse others)
others-push others other = ap (map state_of) (reverse-append others (other ∷ []))

-- the last one taken away becomes the current one
left_by-pop : (popped : Option Scratch) (others rest : List Scratch) → others ≡ rest ++ option_to_list popped → (popped ≡ None → others ≡ [])
    → left_by popped rest ≡ map state_of (reverse others)
left_by-pop None others rest cut none = ap (λ ss. map state_of (reverse ss)) (sym (none refl))
left_by-pop (Some last) others rest cut none = sym (ap (λ ss. map state_of (reverse ss)) cut ∙ others-push rest last)

left_after-decide : (p : Problem) (s : State) (rest : List State) (d : Decision) (first : Bool) → allowed p s d ≡ true
    → left_after p (Decide d first ∷ []) (s ∷ rest) ≡ Some (side p s d first ∷ side p s d (not first) ∷ rest)
left_after-decide p s rest d first may = rw may refl

left_after-close : (p : Problem) (s : State) (rest : List State) (rule : Rule) → (is_closing rule && fires p s rule) ≡ true
    → left_after p (Close rule ∷ []) (s ∷ rest) ≡ Some rest
left_after-close p s rest rule closes = rw closes refl

some-same : (s t : Scratch) → Some s ≡ Some t → s ≡ t
some-same s t e = cc

-- a decision is made of the current state
pub takes-split : (p : Problem) (old new : Pending) (d : Decision) (first : Bool) (s t other : Scratch) → old.current ≡ Some s → new.current ≡ Some t
    → new.others.items ≡ old.others.items ++ other ∷ [] → IsSplit s d first t other → AreOf p old → TakesLine p old (Decide d first) new
takes-split p old new d first s t other was now others split kept = record {
  left = ap (λ c. left_after p (Decide d first ∷ []) (left_by c old.others.items)) was
      ∙ (left_after-decide p (state_of s) rest d first may ∙ ap Some (sym (ap₂ left_by now others ∙ sides)));
  kept = record {
    current = λ x e. subst (IsOf p) (some-same t x (sym now ∙ e)) (split.problem ∙ is_of);
    others = subst (All (IsOf p)) (sym others) (All-push (IsOf p) old.others.items other kept.others (split.of_other ∙ is_of));
  };
}
  where
    rest : List State
    rest = map state_of (reverse old.others.items)

    is_of : problem_of s ≡ p
    is_of = kept.current s was

    may : allowed p (state_of s) d ≡ true
    may = subst (λ q. allowed q (state_of s) d ≡ true) is_of split.may

    sides : state_of t ∷ map state_of (reverse (old.others.items ++ other ∷ [])) ≡ side p (state_of s) d first ∷ side p (state_of s) d (not first) ∷ rest
    sides = ap₂ (λ x xs. x ∷ xs) (split.leading ∙ ap (λ q. side q (state_of s) d first) is_of)
        (others-push old.others.items other ∙ ap (λ x. x ∷ rest) (split.other_side ∙ ap (λ q. side q (state_of s) d (not first)) is_of))

-- the current state is closed
pub takes-close : (p : Problem) (old new : Pending) (rule : Rule) (s : Scratch) → old.current ≡ Some s
    → (is_closing rule && fires (problem_of s) (state_of s) rule) ≡ true
    → old.others.items ≡ new.others.items ++ option_to_list new.current → (new.current ≡ None → old.others.items ≡ [])
    → AreOf p old → TakesLine p old (Close rule) new
takes-close p old new rule s was closes cut none kept = record {
  left = ap (λ c. left_after p (Close rule ∷ []) (left_by c old.others.items)) was
      ∙ (left_after-close p (state_of s) (map state_of (reverse old.others.items)) rule (subst (λ q. (is_closing rule && fires q (state_of s) rule) ≡ true) (kept.current s was) closes)
      ∙ ap Some (sym (left_by-pop new.current old.others.items new.others.items cut none)));
  kept = record { current = λ x e. subst (λ c. IfSome c (IsOf p)) e parts.1; others = parts.0 };
}
  where
    parts : All (IsOf p) new.others.items × IfSome new.current (IsOf p)
    parts = All-pop (IsOf p) old.others.items new.others.items new.current cut kept.others

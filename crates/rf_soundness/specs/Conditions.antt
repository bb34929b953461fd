-- What each rule asks for, in the words of the table of rules.
use Rattle.std.specs.Prelude.{◌≡◌, ◌↔◌, ◌⊎◌, ◌<◌, ◌≤◌, ℕ, Bool, true, nat_le, Some, length, All}
use Rattle.std.specs.FinSet.{contains}
use Rattle.rf_finite.specs.Walks.{IsReachable}
use Rattle.rf_values.specs.Truth.{merge}
use Rattle.rf_values.specs.declared.truth.Truth.TheVariants.{Error, Unknown}
use Rattle.rf_problem.specs.Asserted.{asserted}
use Rattle.rf_problem.specs.Classes.{is_below}
use Rattle.rf_problem.specs.Contained.{is_contained_class, is_containing}
use Rattle.rf_problem.specs.Counted.{counts_origin}
use Rattle.rf_problem.specs.Parts.{scope_at}
use Rattle.rf_problem.specs.declared.problem.Problem.{Problem}
use Rattle.rf_problem.specs.declared.symbol.Symbol.TheVariants.{Predicate}
use Rattle.rf_state.specs.State.{State, fact, object_of}
use Rattle.rf_state.specs.StateKnown.{value}
use Rattle.rf_rules.specs.Containment.{must_hold}
use Rattle.rf_rules.specs.Degrees.{may_sum, may_sum_beside, must_sum}
use Rattle.rf_rules.specs.Predicates.{origins_of}
use Rattle.rf_rules.specs.Rules.{instance_of}
use Rattle.rf_rules.specs.Scopes.{is_of_scope, may_count, may_count_beside, scope_hi, scope_lo, sure_count}
use Rattle.rf_rules.specs.Words.{hi, lo, max, may, min, must, source}
use Rattle.rf_rules.specs.declared.rule.End.TheVariants.{Source, Target}
use Rattle.rf_rules.specs.declared.rule.Rule.{Rule}
use Rattle.rf_rules.specs.declared.rule.Rule.TheVariants.{Acyclic, Alone, Broken, Clash, ContainCount, Empty, Forced, Full, MustContain, Need, NeedCount, NoClass, NoContainer, OneContainer, Room, ScopeBottom, ScopeIn, ScopeOut, ScopeTop, Src, Tgt, TypeLow, Under}
pub use Rattle.rf_soundness.specs.Ends.{IsAtLeast, IsAtMost, IsFinite, IsLess}
use Rattle.rf_soundness.specs.Forced.{IsForced}

-- an object is single: it has one node
pub record IsSingle (s : State) (o : ℕ) : Type 0 where
  pub lower : lo s o ≡ 1
  pub upper : hi s o ≡ Some 1

-- each candidate of an object passes a test, and some candidate does
abbrev pub EachCandidate : Problem → State → ℕ → (ℕ → Bool) → Type 0
EachCandidate p s o test = (c : ℕ) → c < length p.classes → contains (object_of s o).candidates c ≡ true → test c ≡ true

abbrev pub SomeCandidate : Problem → State → ℕ → (ℕ → Bool) → Type 0
SomeCandidate p s o test = (c : ℕ) × (c < length p.classes) × (contains (object_of s o).candidates c ≡ true) × (test c ≡ true)

-- (q, c) is a possible container of b: q contains, an edge of it can lead from c to b, and c may have a node
pub record CanContain (p : Problem) (s : State) (b q c : ℕ) : Type 0 where
  pub containing : is_containing p q ≡ true
  pub edge : may p s q c b ≡ true
  pub node : IsAtLeast (hi s c) 1

-- there is none, and (r, a) is the only one
abbrev pub NothingCanContain : Problem → State → ℕ → Type 0
NothingCanContain p s b = (q c : ℕ) → q < length p.references → c < length s.objects → CanContain p s b q c → ⊥

pub record OnlyCanContain (p : Problem) (s : State) (r a b : ℕ) : Type 0 where
  pub one : CanContain p s b r a
  pub others : (q c : ℕ) → q < length p.references → c < length s.objects → CanContain p s b q c → (q ≡ r) × (c ≡ a)

-- every candidate of b is contained
abbrev pub EachIsContained : Problem → State → ℕ → Type 0
EachIsContained p s b = EachCandidate p s b (is_contained_class p)

-- a walk leads from a to b by steps by which an object has to contain the next, and each object between has a node
abbrev pub MustLeadTo : Problem → State → ℕ → ℕ → Type 0
MustLeadTo p s a b = IsReachable (must_hold p s) (λ c. nat_le 1 (lo s c)) (length s.objects) a b

-- scope z may count object o: by its origin, and some candidate is of the scope; and it surely does: every candidate is
abbrev pub MayBeCounted : Problem → State → ℕ → ℕ → Type 0
MayBeCounted p s z o = (counts_origin p (scope_at p.scopes z) (object_of s o).origin ≡ true) × SomeCandidate p s o (is_of_scope p z)

abbrev pub IsSurelyCounted : Problem → State → ℕ → ℕ → Type 0
IsSurelyCounted p s z o = (counts_origin p (scope_at p.scopes z) (object_of s o).origin ≡ true) × EachCandidate p s o (is_of_scope p z)

-- every candidate of a is below the source of r
abbrev pub IsOfSource : Problem → State → ℕ → ℕ → Type 0
IsOfSource p s r a = EachCandidate p s a (λ c. is_below p.classes c (source p r))

-- a state meets the condition of a rule
abbrev pub MeetsCondition : Problem → State → Rule → Type 0
MeetsCondition p s (Empty o) = IsLess (hi s o) (lo s o)
MeetsCondition p s (NoClass o) = SomeCandidate p s o (λ c. true) → ⊥
MeetsCondition p s (Src r a b) = (must p s r a b ≡ true) × (1 ≤ lo s b)
MeetsCondition p s (Tgt r a b) = (must p s r a b ≡ true) × (1 ≤ lo s a)
MeetsCondition p s (Clash r a b Target) = (fact p s r a b ≡ Error) × (1 ≤ lo s a)
MeetsCondition p s (Clash r a b Source) = (fact p s r a b ≡ Error) × (1 ≤ lo s b)
MeetsCondition p s (Full r a b) = IsAtMost (max p r) (must_sum p s r a) × (fact p s r a b ≡ Unknown)
MeetsCondition p s (Room r a b) = IsFinite (max p r) × (must p s r a b ≡ true) × (1 ≤ lo s a)
MeetsCondition p s (Need r a b) =
    IsOfSource p s r a × IsSingle s b × (fact p s r a b ≡ Unknown) × IsLess (may_sum_beside p s r a b) (min p r)
MeetsCondition p s (NeedCount r a b) =
    IsOfSource p s r a × (1 ≤ lo s a) × (may p s r a b ≡ true) × IsFinite (may_sum_beside p s r a b)
MeetsCondition p s (TypeLow r a) = IsLess (may_sum p s r a) (min p r)
MeetsCondition p s (OneContainer r a b q c) =
    (is_containing p r ≡ true) × (is_containing p q ≡ true) × (must p s r a b ≡ true) × (1 ≤ lo s a)
    × ((q ≡ r) × (c ≡ a) → ⊥) × (may p s q c b ≡ true)
MeetsCondition p s (Alone r a b) = (is_containing p r ≡ true) × (must p s r a b ≡ true) × (1 ≤ lo s b)
MeetsCondition p s (MustContain r a b) =
    (is_containing p r ≡ true) × EachIsContained p s b × OnlyCanContain p s r a b × IsSingle s a × (fact p s r a b ≡ Unknown)
MeetsCondition p s (ContainCount r a b) =
    (is_containing p r ≡ true) × EachIsContained p s b × OnlyCanContain p s r a b × (1 ≤ lo s b)
MeetsCondition p s (NoContainer b) = NothingCanContain p s b
MeetsCondition p s (Acyclic r a b) =
    (is_containing p r ≡ true) × (may p s r a b ≡ true) × (((a ≡ b) × IsSingle s a) ⊎ MustLeadTo p s b a)
MeetsCondition p s (Under z) = IsLess (may_count p s z) (scope_lo p z)
MeetsCondition p s (ScopeTop z o) = IsFinite (scope_hi p z) × IsSurelyCounted p s z o
MeetsCondition p s (ScopeBottom z o) = MayBeCounted p s z o × IsFinite (may_count_beside p s z o)
MeetsCondition p s (ScopeOut z o) =
    IsAtMost (scope_hi p z) (sure_count p s z) × MayBeCounted p s z o × (IsSurelyCounted p s z o → ⊥)
MeetsCondition p s (ScopeIn z o) =
    IsSingle s o × MayBeCounted p s z o × (IsSurelyCounted p s z o → ⊥) × IsLess (may_count_beside p s z o) (scope_lo p z)
MeetsCondition p s (Broken q t) =
    All (λ o. 1 ≤ lo s o) t × (merge (asserted p (Predicate q) (origins_of s t)) (value p s q t) ≡ Error)
MeetsCondition p s (Forced q k j t) = IsForced p s q k j t

-- the test of a rule's condition finds whether the state meets it
abbrev pub ConditionIsInWords : Type 0
ConditionIsInWords = (p : Problem) (s : State) (rule : Rule) → ((instance_of p s rule).holds ≡ true) ↔ MeetsCondition p s rule

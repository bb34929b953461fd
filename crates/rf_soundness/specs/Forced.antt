-- What the rule of forced literals asks for, in words.
use Rattle.std.specs.Prelude.{◌≡◌, ◌≢◌, ◌↔◌, ◌<◌, ◌≤◌, ℕ, suc, Bool, true, false, if◌then◌else◌, Option, None, Some, List, [], ◌∷◌, All, length, map, take, slice_get, slice_index_or}
use Rattle.rf_values.specs.Truth.{may as can, must as has_to}
use Rattle.rf_values.specs.declared.truth.Truth.TheVariants.{False, True, Unknown}
use Rattle.rf_problem.specs.Asserted.{asserted}
use Rattle.rf_problem.specs.Holds.{AreMeanings, LiteralHolds, Meaning, interpreted}
use Rattle.rf_problem.specs.Parts.{predicate_at}
use Rattle.rf_problem.specs.Reading.{Assignment}
use Rattle.rf_problem.specs.Valid.{fits_literal}
use Rattle.rf_problem.specs.declared.predicate.Literal.{Literal}
use Rattle.rf_problem.specs.declared.predicate.Literal.TheVariants.{Call}
use Rattle.rf_problem.specs.declared.predicate.Term.{Term}
use Rattle.rf_problem.specs.declared.predicate.Term.TheVariants.{Var, Atom}
use Rattle.rf_problem.specs.declared.problem.Problem.{Problem}
use Rattle.rf_problem.specs.declared.symbol.Symbol.TheVariants.{Predicate, Reference}
use Rattle.rf_evaluate.specs.Known.{side}
use Rattle.rf_state.specs.State.{State, fact}
use Rattle.rf_state.specs.StateKnown.{state_known}
use Rattle.rf_rules.specs.Predicates.{clause_at, free_count, given, literal_at, literal_known, object_of_term, origins_of}
use Rattle.rf_rules.specs.Rules.{instance_of}
use Rattle.rf_rules.specs.Words.{hi, lo}
use Rattle.rf_rules.specs.declared.effect.Effect.TheVariants.{Merge}
use Rattle.rf_rules.specs.declared.rule.Rule.TheVariants.{Forced}
use Rattle.rf_soundness.specs.Ends.{IsAtMost}

-- the object that stands for each variable of clause k of predicate q where these objects are given
abbrev pub places_of : Problem → ℕ → ℕ → List ℕ → Assignment
places_of p q k t = given (clause_at p q k).variables t

-- a term may stand in a literal that is forced: a variable that isn't quantified inside a negation; and, where the literal isn't
-- negated, an atom, whose object is there
abbrev pub MayBeForced : State → List (Option ℕ) → Bool → Term → Type 0
MayBeForced s variables negated (Var v) = (i : ℕ) → slice_index_or variables v None ≢ Some i
MayBeForced s variables negated (Atom o) = (negated ≡ false) × (o < length s.objects)

-- at the given objects clause k of predicate q may not hold, and has to but for literal j, which settles an edge: the predicate is
-- asserted to be false at the origins of the parameters' objects; each given object has a node; each literal but j has to hold;
-- literal j calls a reference, without closure, from one term to another; both may stand in a literal that is forced; where they are
-- the same variable or the same atom, its object has one node at most; and nothing is known of the edge between their objects
pub record IsForced (p : Problem) (s : State) (q k j : ℕ) (t : List ℕ) : Type 0 where
  pub negated : Bool
  pub reference : ℕ
  pub source : Term
  pub target : Term
  pub forbidden : asserted p (Predicate q) (origins_of s (take (predicate_at p.predicates q).arity t)) ≡ False
  pub there : All (λ o. 1 ≤ lo s o) t
  pub others : (i : ℕ) (l : Literal) → slice_get (clause_at p q k).literals i ≡ Some l → i ≢ j
      → has_to (literal_known p s (clause_at p q k).variables i (places_of p q k t) l) ≡ true
  pub literal : literal_at (clause_at p q k) j ≡ Call negated false (Reference reference) (source ∷ target ∷ [])
  pub terms : MayBeForced s (clause_at p q k).variables negated source × MayBeForced s (clause_at p q k).variables negated target
  pub one_node : source ≡ target → IsAtMost (hi s (object_of_term (places_of p q k t) source)) 1
  pub unknown : fact p s reference (object_of_term (places_of p q k t) source) (object_of_term (places_of p q k t) target) ≡ Unknown

-- what it forces: the edge isn't there where the literal isn't negated, and is where it is
abbrev pub ForcedEffectIsInWords : Type 0
ForcedEffectIsInWords =
    (p : Problem) (s : State) (q k j : ℕ) (t : List ℕ) (f : IsForced p s q k j t)
    → (instance_of p s (Forced q k j t)).effect
    ≡ Merge f.reference (object_of_term (places_of p q k t) f.source) (object_of_term (places_of p q k t) f.target)
    (if f.negated then True else False)

-- the numbers, from n on, of the variables that range over a clause
abbrev pub ranging : ℕ → List (Option ℕ) → List ℕ
ranging n [] = []
ranging n (None ∷ variables) = n ∷ ranging (suc n) variables
ranging n (Some i ∷ variables) = ranging (suc n) variables

-- the variables that range over a clause stand for these objects, in order, and each other one for object 0
pub record AreGiven (variables : List (Option ℕ)) (t : List ℕ) (places : Assignment) : Type 0 where
  pub ranging_ones : map places (ranging 0 variables) ≡ t
  pub others : (v : ℕ) → slice_get variables v ≢ Some None → places v ≡ 0

-- so it is with as many objects as there are such variables
abbrev pub GivenIsInWords : Type 0
GivenIsInWords =
    (variables : List (Option ℕ)) (t : List ℕ) → length t ≡ free_count variables → AreGiven variables t (given variables t)

-- a literal has to hold at objects: it holds there by what has to hold of them, and inside negations by what can
pub record HasToHold (p : Problem) (s : State) (variables : List (Option ℕ)) (i : ℕ) (places : Assignment) (l : Literal) : Type 0 where
  pub says : Meaning
  pub tells : Meaning
  pub meanings : AreMeanings p (side has_to (state_known p s)) (side can (state_known p s)) says tells
  pub holds : LiteralHolds (interpreted (side has_to (state_known p s)) says) (interpreted (side can (state_known p s)) tells)
      variables i places l

-- that is what is known of a literal that fits
abbrev pub LiteralIsInWords : Type 0
LiteralIsInWords =
    (p : Problem) (s : State) (variables : List (Option ℕ)) (i : ℕ) (places : Assignment) (l : Literal)
    → fits_literal (length p.classes) (length p.references) p.objects p.predicates variables i l ≡ true
    → (has_to (literal_known p s variables i places l) ≡ true) ↔ HasToHold p s variables i places l

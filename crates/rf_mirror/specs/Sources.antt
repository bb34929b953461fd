-- Private: no public contract cites this.
-- Where what is told of edges comes from, and how lists grow.
use Rattle.std.specs.Prelude.{◌≡◌, ◌<◌, ℕ, List, ◌∷◌, [], length}
use Rattle.rf_values.specs.declared.truth.Truth.{Truth}
use Rattle.rf_problem.specs.Asserted.{asserted}
use Rattle.rf_problem.specs.declared.problem.Problem.{Problem}
use Rattle.rf_problem.specs.declared.symbol.Symbol.TheVariants.{Reference}
use Rattle.rf_state.specs.State.{State, copied_from, told}
use Rattle.rf_mirror.specs.Mirror.{AreTold}
use Rattle.rf_mirror.specs.declared.adding.Source.{Source}
use Rattle.rf_mirror.specs.declared.adding.Source.TheVariants.{Asserted, Copied}

-- what is asserted of the objects of the same numbers is all that is told
abbrev pub IsAsserted : Problem → State → Type 0
IsAsserted p s =
    (r a b : ℕ) → a < length s.objects → b < length s.objects → told p s r a b ≡ asserted p (Reference r) (a ∷ b ∷ [])

-- of the object that has this number is told what is told of another
pub record IsCopied (p : Problem) (s : State) (of number : ℕ) : Type 0 where
  pub there : of < length s.objects
  pub right : (r a b : ℕ) → a < length s.objects → b < length s.objects
      → told p s r a b ≡ told p s r (copied_from of number a) (copied_from of number b)

abbrev pub IsSource : Problem → State → Source → Type 0
IsSource p s Asserted = IsAsserted p s
IsSource p s (Copied of number) = IsCopied p s of number

-- where cells are right for a state of which these objects are, the new ones are so too
abbrev pub StayTold : Problem → Source → ℕ → ℕ → List Truth → List Truth → Type 0
StayTold p source a b old new =
    (s : State) → IsSource p s source → a < length s.objects → b < length s.objects → AreTold p s old → AreTold p s new

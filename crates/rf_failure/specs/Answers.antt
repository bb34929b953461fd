-- What the answer of a call means that finds one thing, or the one fault of what it was given.
use Rattle.std.specs.Prelude.{◌≡◌, ◌⊎◌, Result, Err, IfOk, IfErr, MatchResult}
use Rattle.rf_failure.specs.declared.Failure.{Failure}
use Rattle.rf_failure.specs.declared.Failure.TheVariants.{Fault, Memory}

-- a failure is this fault, and not for want of memory
abbrev pub IfFault : {F : Type 0} → Failure F → (F → Type 0) → Type 0
IfFault (Fault f) P = P f
IfFault Memory P = Unit {0}

-- The answer is the one thing that is meant, or the one fault that there is, or memory ran out.
-- `view` is what of a result is meant.
pub record Answers {T X F : Type 0} (view : T → X) (Means : X → Type 0) (Fails : F → Type 0) (result : Result T (Failure F)) : Type 0 where
  pub ok : IfOk result (λ t. Means (view t))
  pub found : (x : X) → Means x → MatchResult result (λ t. view t ≡ x) (λ e. e ≡ Memory)
  pub fault : IfErr result (λ e. IfFault e Fails)
  pub stuck : (f : F) → Fails f → (result ≡ Err (Fault f)) ⊎ (result ≡ Err Memory)

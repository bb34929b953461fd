-- What the reading of a problem text says of the bytes of its file.
use Rattle.std.proofs.Common.{◌≡◌, ◌≤◌, ℕ, List, Ok, Err, length, arith, inl, inr}
use Rattle.rf_failure.specs.Answers.{Answers as Decides}
use Rattle.rf_failure.specs.declared.Failure.TheVariants.{Fault}
use Rattle.rf_problem.specs.declared.problem.Problem.{Problem}
use Rattle.rf_source.specs.Source.{IsSource, SourceFault}
use Rattle.rf_source.specs.declared.error.SourceError.{SourceError}
use Rattle.rf_run.specs.Refuses.{RefusesProblem}
use Rattle.rf_run.specs.declared.refusal.File.TheVariants.{Problem as OfProblem, Graph, Script, Tree}
use Rattle.rf_run.specs.declared.refusal.Refusal.{Refusal}
use Rattle.rf_run.specs.declared.refusal.Refusal.TheVariants.{TooLong, Problem as NoProblem, BadLine}
use Rattle.rf_run.specs.declared.refusal.TheConstants.{PROBLEM_LIMIT}
use Rattle.rf_run.specs.declared.stop.Stop.TheVariants.{Refused}

-- bytes that are a problem have no cause for a refusal
pub never_refused :
    (bytes : List ℕ) (p : Problem) → length bytes ≤ PROBLEM_LIMIT →
    Decides (λ (q : Problem). q) (IsSource bytes) (SourceFault bytes) (Ok p) → (r : Refusal) → RefusesProblem bytes r → ⊥
never_refused bytes p short decides (TooLong OfProblem) refuses = omega (arith, short, refuses)
never_refused bytes p short decides (TooLong Graph) refuses = refuses
never_refused bytes p short decides (TooLong Script) refuses = refuses
never_refused bytes p short decides (TooLong Tree) refuses = refuses
never_refused bytes p short decides (NoProblem fault) refuses = elim (decides.stuck fault refuses.1) [ inl e ↦ cc | inr e ↦ cc ]
never_refused bytes p short decides (BadLine sort line) refuses = refuses

-- bytes with a fault are refused for it alone
pub refused_for :
    (bytes : List ℕ) (f : SourceError) → length bytes ≤ PROBLEM_LIMIT →
    Decides (λ (q : Problem). q) (IsSource bytes) (SourceFault bytes) (Err (Fault f)) → (r : Refusal) → RefusesProblem bytes r →
    Refused (NoProblem f) ≡ Refused r
refused_for bytes f short decides (TooLong OfProblem) refuses = absurd (omega (arith, short, refuses))
refused_for bytes f short decides (TooLong Graph) refuses = absurd refuses
refused_for bytes f short decides (TooLong Script) refuses = absurd refuses
refused_for bytes f short decides (TooLong Tree) refuses = absurd refuses
refused_for bytes f short decides (NoProblem fault) refuses = elim (decides.stuck fault refuses.1) [ inl e ↦ cc | inr e ↦ absurd cc ]
refused_for bytes f short decides (BadLine sort line) refuses = absurd refuses

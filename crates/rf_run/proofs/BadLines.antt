-- A graph document with a bad line is refused for it alone.
use Rattle.std.proofs.Common.{◌≡◌, ◌⊎◌, ◌≤◌, ℕ, List, Result, Ok, Err, length, arith, inl, inr, ap}
use Rattle.rf_failure.specs.Answers.{Answers as Decides}
use Rattle.rf_failure.specs.declared.Failure.{Failure}
use Rattle.rf_failure.specs.declared.Failure.TheVariants.{Fault}
use Rattle.rf_graph.specs.BadLine.{IsBadLine}
use Rattle.rf_graph.specs.Document.{IsDocument}
use Rattle.rf_graph.specs.declared.graph.Graph.{Graph}
use Rattle.rf_graph.specs.declared.read.GraphError.{GraphError}
use Rattle.rf_graph.specs.declared.read.GraphError.TheVariants.{BadLine as FirstBad, Memory as NoRoom}
use Rattle.rf_problem.specs.declared.problem.Problem.{Problem}
use Rattle.rf_words.specs.declared.request.Command.TheVariants.{Check}
use Rattle.rf_run.specs.Answers.{Answers}
use Rattle.rf_run.specs.Refuses.{RefusesSecond}
use Rattle.rf_run.specs.declared.end.Reply.{Reply}
use Rattle.rf_run.specs.declared.refusal.File.TheVariants.{Problem as OfProblem, Graph as OfGraph, Script, Tree}
use Rattle.rf_run.specs.declared.refusal.Refusal.{Refusal}
use Rattle.rf_run.specs.declared.refusal.Refusal.TheVariants.{TooLong, Problem as NoProblem, BadLine}
use Rattle.rf_run.specs.declared.refusal.TheConstants.{GRAPH_LIMIT}

-- the answer of a job that refuses the second file
abbrev pub refusal_of : Refusal → Result Reply (Failure Refusal)
refusal_of r = Err (Fault r)

-- the answer of the reader of graph documents that found this bad line
pub bad_line_decides :
    (file graph : List ℕ) (p : Problem) (second : List ℕ) (line : ℕ) (result : Result Graph GraphError) → result ≡ Err (FirstBad line) →
    length second ≤ GRAPH_LIMIT → ((g : Graph) → IsDocument p g second → (result ≡ Ok g) ⊎ (result ≡ Err NoRoom)) → IsBadLine p second line →
    ((other : ℕ) → IsBadLine p second other → (result ≡ Err (FirstBad other)) ⊎ (result ≡ Err NoRoom)) →
    Decides (λ (a : Reply). a) (Answers (Check file graph) p second) (RefusesSecond (Check file graph) p second) (refusal_of (BadLine OfGraph line))
bad_line_decides file graph p second line result is short found bad stuck = record {
  ok = tt;
  found = λ a answers. elim (found answers.graph answers.drawn.document) [ inl e ↦ absurd cc | inr e ↦ absurd cc ];
  fault = (short, bad);
  stuck = λ r refuses. inl (one r refuses);
}
  where
    one : (r : Refusal) → RefusesSecond (Check file graph) p second r → refusal_of (BadLine OfGraph line) ≡ refusal_of r
    one (TooLong sort) refuses = absurd (omega (arith, short, refuses.0.1))
    one (NoProblem fault) refuses = absurd refuses
    one (BadLine OfGraph other) refuses =
        elim (stuck other refuses.1) [
          | inl e ↦ (let same : line ≡ other = cc in ap (λ n. refusal_of (BadLine OfGraph n)) same)
          | inr e ↦ absurd cc
        ]
    one (BadLine OfProblem other) refuses = absurd refuses
    one (BadLine Script other) refuses = absurd refuses
    one (BadLine Tree other) refuses = absurd refuses

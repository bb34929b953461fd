-- What is seen command by command.
use Rattle.std.proofs.Common.{◌≡◌, ℕ, List, Some, true, refl, arith}
use Rattle.rf_problem.specs.declared.problem.Problem.{Problem}
use Rattle.rf_words.specs.declared.request.Command.{Command}
use Rattle.rf_words.specs.declared.request.Command.TheVariants.{Generate, Check, Verify, Evaluate, Session, Grow}
use Rattle.rf_run.specs.Accepted.{IsAccepted}
use Rattle.rf_run.specs.Answers.{Answers}
use Rattle.rf_run.specs.Commands.{IsWhole, problem_file, second_file}
use Rattle.rf_run.specs.Ends.{Input, IsSubject, RefusesSubject}
use Rattle.rf_run.specs.Refuses.{HasBadLine, HasForm, RefusesProblem, RefusesSecond, is_of_second}
use Rattle.rf_run.specs.Stages.{IsWithin}
use Rattle.rf_run.specs.declared.end.Reply.{Reply}
use Rattle.rf_run.specs.declared.refusal.File.{File as Sort}
use Rattle.rf_run.specs.declared.refusal.File.TheVariants.{Problem as OfProblem, Graph, Script, Tree}
use Rattle.rf_run.specs.declared.refusal.Refusal.{Refusal}
use Rattle.rf_run.specs.declared.refusal.Refusal.TheVariants.{TooLong, Problem as NoProblem, BadLine}

pub subject_of : (c : Command) (i : Input) (p : Problem) (name : List ℕ) → problem_file c ≡ Some name → IsAccepted i.problem p → IsSubject c i p
subject_of (Generate file seed budget json) i p name is accepted = accepted
subject_of (Check file graph) i p name is accepted = accepted
subject_of (Verify file tree) i p name is accepted = accepted
subject_of (Evaluate file) i p name is accepted = accepted
subject_of (Session file script) i p name is accepted = accepted
subject_of (Grow n) i p name is accepted = absurd cc

pub accepted_of : (c : Command) (i : Input) (p : Problem) (name : List ℕ) → problem_file c ≡ Some name → IsSubject c i p → IsAccepted i.problem p
accepted_of (Generate file seed budget json) i p name is subject = subject
accepted_of (Check file graph) i p name is subject = subject
accepted_of (Verify file tree) i p name is subject = subject
accepted_of (Evaluate file) i p name is subject = subject
accepted_of (Session file script) i p name is subject = subject
accepted_of (Grow n) i p name is subject = absurd cc

pub refuses_subject :
    (c : Command) (i : Input) (r : Refusal) (name : List ℕ) → problem_file c ≡ Some name → RefusesProblem i.problem r → RefusesSubject c i r
refuses_subject (Generate file seed budget json) i r name is refuses = refuses
refuses_subject (Check file graph) i r name is refuses = refuses
refuses_subject (Verify file tree) i r name is refuses = refuses
refuses_subject (Evaluate file) i r name is refuses = refuses
refuses_subject (Session file script) i r name is refuses = refuses
refuses_subject (Grow n) i r name is refuses = absurd cc

pub refuses_problem : (c : Command) (i : Input) (r : Refusal) → RefusesSubject c i r → RefusesProblem i.problem r
refuses_problem (Generate file seed budget json) i r refuses = refuses
refuses_problem (Check file graph) i r refuses = refuses
refuses_problem (Verify file tree) i r refuses = refuses
refuses_problem (Evaluate file) i r refuses = refuses
refuses_problem (Session file script) i r refuses = refuses
refuses_problem (Grow n) i r refuses = absurd refuses

-- a refusal of the second file is one that is read after the problem
pub of_second : (c : Command) (p : Problem) (second : List ℕ) (r : Refusal) → RefusesSecond c p second r → is_of_second r ≡ true
of_second (Check file graph) p second (TooLong sort) refuses = rw refuses.0.0 refl
of_second (Verify file tree) p second (TooLong sort) refuses = rw refuses.0.0 refl
of_second (Session file script) p second (TooLong sort) refuses = rw refuses.0.0 refl
of_second (Generate file seed budget json) p second (TooLong sort) refuses = absurd refuses.0
of_second (Evaluate file) p second (TooLong sort) refuses = absurd refuses.0
of_second (Grow n) p second (TooLong sort) refuses = absurd refuses.0
of_second c p second (NoProblem fault) refuses = absurd refuses
of_second c p second (BadLine sort line) refuses = refl

-- a second file that has an answer, or a bad line, is within its limit
pub within_of_answer :
    (c : Command) (p : Problem) (second : List ℕ) (a : Reply) → IsWhole c → Answers c p second a → IsWithin (second_file c) second
within_of_answer (Check file graph) p second a whole answers = answers.drawn.short
within_of_answer (Generate file seed budget json) p second a whole answers = tt
within_of_answer (Verify file tree) p second a whole answers = absurd whole
within_of_answer (Evaluate file) p second a whole answers = tt
within_of_answer (Session file script) p second a whole answers = absurd answers
within_of_answer (Grow n) p second a whole answers = tt

pub within_of_line :
    (c : Command) (p : Problem) (second : List ℕ) (sort : Sort) (line : ℕ) → HasBadLine c p second sort line → IsWithin (second_file c) second
within_of_line (Check file graph) p second Graph line bad = bad.0
within_of_line (Check file graph) p second OfProblem line bad = absurd bad
within_of_line (Check file graph) p second Script line bad = absurd bad
within_of_line (Check file graph) p second Tree line bad = absurd bad
within_of_line (Generate file seed budget json) p second sort line bad = absurd bad
within_of_line (Verify file tree) p second sort line bad = absurd bad
within_of_line (Evaluate file) p second sort line bad = absurd bad
within_of_line (Session file script) p second sort line bad = absurd bad
within_of_line (Grow n) p second sort line bad = absurd bad

-- a second file that has its form isn't refused
pub formed_unrefused :
    (c : Command) (p : Problem) (second : List ℕ) (r : Refusal) → HasForm c p second → RefusesSecond c p second r → ⊥
formed_unrefused (Check file graph) p second (TooLong sort) form refuses = omega (arith, form.1.short, refuses.0.1)
formed_unrefused (Check file graph) p second (NoProblem fault) form refuses = refuses
formed_unrefused (Check file graph) p second (BadLine Graph line) form refuses = refuses.1.none form.0 form.1.document
formed_unrefused (Check file graph) p second (BadLine OfProblem line) form refuses = refuses
formed_unrefused (Check file graph) p second (BadLine Script line) form refuses = refuses
formed_unrefused (Check file graph) p second (BadLine Tree line) form refuses = refuses
formed_unrefused (Verify file tree) p second (TooLong sort) form refuses = omega (arith, form, refuses.0.1)
formed_unrefused (Verify file tree) p second (NoProblem fault) form refuses = refuses
formed_unrefused (Verify file tree) p second (BadLine sort line) form refuses = refuses
formed_unrefused (Generate file seed budget json) p second (TooLong sort) form refuses = refuses.0
formed_unrefused (Generate file seed budget json) p second (NoProblem fault) form refuses = refuses
formed_unrefused (Generate file seed budget json) p second (BadLine sort line) form refuses = refuses
formed_unrefused (Evaluate file) p second (TooLong sort) form refuses = refuses.0
formed_unrefused (Evaluate file) p second (NoProblem fault) form refuses = refuses
formed_unrefused (Evaluate file) p second (BadLine sort line) form refuses = refuses
formed_unrefused (Session file script) p second r form refuses = form
formed_unrefused (Grow n) p second (TooLong sort) form refuses = refuses.0
formed_unrefused (Grow n) p second (NoProblem fault) form refuses = refuses
formed_unrefused (Grow n) p second (BadLine sort line) form refuses = refuses

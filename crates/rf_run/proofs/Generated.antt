-- What `generate` answers, and that it is right.
use Rattle.std.proofs.Common.{◌≡◌, ◌∙◌, ℕ, List, [], ◌++◌, All, Ok, false, refl, sym, subst}
use Rattle.std.proofs.lemmas.List.Elements.{All-append, All-cons, All-nil}
use Rattle.rf_failure.specs.Answers.{Answers as Decides}
use Rattle.rf_problem.specs.declared.problem.Problem.{Problem}
use Rattle.rf_state.specs.State.{State}
use Rattle.rf_tree.specs.Document.{FitsKind}
use Rattle.rf_tree.specs.Lines.{lines_of}
use Rattle.rf_tree.specs.Outcomes.{IsRightOutcome}
use Rattle.rf_tree.specs.Trees.{FitsTree, Tree, choice, closing, effect, hole}
use Rattle.rf_tree.specs.declared.line.Line.TheVariants.{Close, Decide, Step}
use Rattle.rf_tree.specs.declared.outcome.Outcome.{Outcome}
use Rattle.rf_tree.specs.declared.outcome.Outcome.TheVariants.{Found, Refuted, Unfinished}
use Rattle.rf_soundness.proofs.Trees.{valid_is_sound}
use Rattle.rf_depth.specs.Outcomes.{IsEnough, IsFinished, IsShallow}
use Rattle.rf_search.specs.Outcome.{IsOutcome}
use Rattle.rf_search.proofs.OnceLemmas.{outcome_once}
use Rattle.rf_words.specs.declared.request.Command.TheVariants.{Generate}
use Rattle.rf_run.specs.Answers.{Answers, AnswersGenerate, IsRightGeneration}
use Rattle.rf_run.specs.Outcome.{FitsOutcome, IsDocumentOf, outcome_text, sign_of_outcome}
use Rattle.rf_run.specs.Refuses.{RefusesSecond}
use Rattle.rf_run.specs.declared.end.Reply.{Reply}
use Rattle.rf_run.specs.declared.refusal.Refusal.{Refusal}
use Rattle.rf_run.specs.declared.refusal.Refusal.TheVariants.{TooLong, Problem as NoProblem, BadLine}

-- the lines of a tree that fits are each of their kind
kinds_fit : (p : Problem) (t : Tree) (s : State) → FitsTree p s t → All FitsKind (lines_of t)
kinds_fit p hole s fits = (All-nil FitsKind)
kinds_fit p (closing rule) s fits = All-cons FitsKind (Close rule) [] fits.0 (All-nil FitsKind)
kinds_fit p (effect rule t) s fits = All-cons FitsKind (Step rule) (lines_of t) fits.0 (kinds_fit p t _ fits.2)
kinds_fit p (choice d first t u) s fits =
    All-cons FitsKind (Decide d first) (lines_of t ++ lines_of u) tt
    (All-append FitsKind (lines_of t) (lines_of u) (kinds_fit p t _ fits.1) (kinds_fit p u _ fits.2))

-- what is right can be printed
pub outcome_fits : (p : Problem) (budget : ℕ) (outcome : Outcome) → IsRightOutcome p budget outcome → FitsOutcome p outcome
outcome_fits p budget (Found g) right = right.fits
outcome_fits p budget (Refuted lines) right = subst (All FitsKind) (sym right.read) (kinds_fit p right.tree right.root right.fits)
outcome_fits p budget (Unfinished lines) right = subst (All FitsKind) (sym right.read) (kinds_fit p right.tree right.root right.fits)

-- what is printed of it is right in the user's words
pub generation_right :
    (p : Problem) (budget : ℕ) (outcome : Outcome) (reply : Reply) → IsRightOutcome p budget outcome → IsShallow p outcome →
    (IsEnough p budget → IsFinished outcome) → IsDocumentOf p outcome reply.text →
    reply.sign ≡ sign_of_outcome outcome → IsRightGeneration p budget reply.text reply.sign
generation_right p budget (Found g) reply right shallow enough document sign = rw sign (record { graph = g; document = document; satisfies = right })
generation_right p budget (Refuted lines) reply right shallow enough document sign = rw sign (record {
  lines = lines;
  document = document;
  valid = right;
  accepted = record { lines = lines; document = document; valid = right; counted = refl };
  shallow = shallow;
  no_graph = valid_is_sound p lines right;
})
generation_right p budget (Unfinished lines) reply right shallow enough document sign =
    rw sign (record { lines = lines; document = document; unfinished = right; shallow = shallow; too_few = enough })

-- there is one reply
same_reply : (p : Problem) (outcome : Outcome) (a b : Reply) → a.text ≡ outcome_text p outcome → b.text ≡ outcome_text p outcome
    → a.sign ≡ sign_of_outcome outcome → b.sign ≡ sign_of_outcome outcome → a ≡ b
same_reply p outcome a b ta tb sa sb =
    let text : a.text ≡ b.text = ta ∙ sym tb in
    let sign : a.sign ≡ b.sign = sa ∙ sym sb in
    λ i. record { text = text i; sign = sign i }

-- and it is the answer
pub generation_decides :
    (file : List ℕ) (p : Problem) (second : List ℕ) (seed budget : ℕ) (outcome : Outcome) (reply : Reply) → IsOutcome p seed budget outcome →
    reply.text ≡ outcome_text p outcome → reply.sign ≡ sign_of_outcome outcome →
    Decides (λ (a : Reply). a) (Answers (Generate file seed budget false) p second) (RefusesSecond (Generate file seed budget false) p second) (Ok reply)
generation_decides file p second seed budget outcome reply ends text sign = record {
  ok = record { outcome = outcome; ends = ends; text = text; sign = sign };
  found = λ x answers. other x answers;
  fault = tt;
  stuck = λ r refuses. absurd (never r refuses);
}
  where
    other : (x : Reply) → AnswersGenerate p seed budget x → reply ≡ x
    other x answers =
        let same : answers.outcome ≡ outcome = outcome_once p seed budget answers.outcome outcome answers.ends ends in
        same_reply p outcome reply x text (subst (λ o. x.text ≡ outcome_text p o) same answers.text) sign
        (subst (λ o. x.sign ≡ sign_of_outcome o) same answers.sign)

    never : (r : Refusal) → RefusesSecond (Generate file seed budget false) p second r → ⊥
    never (TooLong sort) refuses = absurd refuses.0
    never (NoProblem fault) refuses = absurd refuses
    never (BadLine sort line) refuses = absurd refuses

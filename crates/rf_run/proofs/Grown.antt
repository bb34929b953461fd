-- What `grow` answers, and that it is right.
use Rattle.std.proofs.Common.{◌≡◌, ◌∙◌, ◌<◌, ◌+◌, ℕ, List, [], ◌∷◌, length, get_or, take, add-one, Result, Ok, Err, IfOk, IfErr, IsErrOf, refl, sym, ap, subst, inl, inr}
use Rattle.rf_io.specs.Folder.{FolderState}
use Rattle.rf_problem.specs.declared.problem.Problem.{Problem}
use Rattle.std.proofs.Math.Seq.{take-suc}
use Rattle.rf_tree.specs.Outcomes.{IsRightOutcome}
use Rattle.rf_tree.specs.Pending.{decisions_in}
use Rattle.rf_tree.specs.declared.line.Line.{Line}
use Rattle.rf_tree.proofs.LeavingLemmas.{decisions_in-append}
use Rattle.rf_tree.specs.declared.outcome.Outcome.{Outcome}
use Rattle.rf_tree.specs.declared.outcome.Outcome.TheVariants.{Found, Refuted, Unfinished}
use Rattle.rf_soundness.proofs.Trees.{valid_is_sound}
use Rattle.rf_search.specs.Outcome.{IsOutcome}
use Rattle.rf_search.proofs.OnceLemmas.{outcome_once}
use Rattle.rf_grow.specs.Grown.{IsGrown}
use Rattle.rf_grow.proofs.Once.{grown_once}
use Rattle.rf_words.specs.declared.request.Command.TheVariants.{Grow}
use Rattle.rf_run.specs.Answers.{AnswersGrow, IsRightGrowth}
use Rattle.rf_run.specs.Ends.{EndsAs, Input, MissesFile}
use Rattle.rf_run.specs.Outcome.{outcome_line, sign_of_outcome}
use Rattle.rf_run.specs.Refuses.{RefusesSecond}
use Rattle.rf_run.specs.Stages.{EndsOver, no_input}
use Rattle.rf_run.specs.declared.end.Cut.{Cut}
use Rattle.rf_run.specs.declared.end.Cut.TheVariants.{ReadFault, Memory}
use Rattle.rf_run.specs.declared.end.End.{End}
use Rattle.rf_run.specs.declared.end.End.TheVariants.{Usage, Refused, Answered}
use Rattle.rf_run.specs.declared.end.Reply.{Reply}
use Rattle.rf_run.specs.declared.grow.TheConstants.{GROWTH_BUDGET}
use Rattle.rf_run.specs.declared.refusal.Refusal.{Refusal}
use Rattle.rf_run.specs.declared.refusal.Refusal.TheVariants.{TooLong, Problem as NoProblem, BadLine}

-- one line more
pub decisions_more :
    (lines : List Line) (i : ℕ) (line : Line) → i < length lines → line ≡ get_or lines i line →
    decisions_in (take (i + 1) lines) ≡ decisions_in (take i lines) + decisions_in (line ∷ [])
decisions_more lines i line l at =
    ap (λ k. decisions_in (take k lines)) (add-one i) ∙ ap decisions_in (take-suc lines i line l)
    ∙ decisions_in-append (take i lines) (get_or lines i line ∷ []) ∙ ap (λ x. decisions_in (take i lines) + decisions_in (x ∷ [])) (sym at)

-- the reply that this outcome makes
pub record IsLineOf (outcome : Outcome) (reply : Reply) : Type 0 where
  pub text : reply.text ≡ outcome_line outcome
  pub sign : reply.sign ≡ sign_of_outcome outcome

same_line : (outcome : Outcome) (a b : Reply) → IsLineOf outcome a → IsLineOf outcome b → a ≡ b
same_line outcome a b one two =
    let text : a.text ≡ b.text = one.text ∙ sym two.text in
    let sign : a.sign ≡ b.sign = one.sign ∙ sym two.sign in
    λ i. record { text = text i; sign = sign i }

pub growth_answers :
    (n : ℕ) (p : Problem) (outcome : Outcome) (reply : Reply) → IsOutcome p n GROWTH_BUDGET outcome → IsLineOf outcome reply → AnswersGrow p n reply
growth_answers n p outcome reply ends line = record { outcome = outcome; ends = ends; text = line.text; sign = line.sign }

-- there is one answer
pub growth_once :
    (n : ℕ) (p q : Problem) (outcome : Outcome) (reply a : Reply) → IsGrown n p → IsGrown n q → IsOutcome p n GROWTH_BUDGET outcome →
    IsLineOf outcome reply → AnswersGrow q n a → reply ≡ a
growth_once n p q outcome reply a one two ends line answers =
    let here : AnswersGrow p n a = subst (λ x. AnswersGrow x n a) (grown_once n q p two one) answers in
    let same : here.outcome ≡ outcome = outcome_once p n GROWTH_BUDGET here.outcome outcome here.ends ends in
    same_line outcome reply a line (subst (λ o. IsLineOf o a) same record { text = here.text; sign = here.sign })

-- and it is right
right_line : (p : Problem) (outcome : Outcome) (reply : Reply) → IsRightOutcome p GROWTH_BUDGET outcome → IsLineOf outcome reply
    → IsRightGrowth p reply.text reply.sign
right_line p (Found g) reply right line = rw line.sign (record { graph = g; line = line.text; satisfies = right })
right_line p (Refuted lines) reply right line =
    rw line.sign (record { lines = lines; line = line.text; valid = right; no_graph = valid_is_sound p lines right })
right_line p (Unfinished lines) reply right line = rw line.sign (record { lines = lines; line = line.text; unfinished = right })

pub growth_right :
    (n : ℕ) (p q : Problem) (outcome : Outcome) (reply : Reply) → IsGrown n p → IsGrown n q → IsRightOutcome p GROWTH_BUDGET outcome →
    IsLineOf outcome reply → IsRightGrowth q reply.text reply.sign
growth_right n p q outcome reply one two right line =
    subst (λ x. IsRightGrowth x reply.text reply.sign) (grown_once n p q one two) (right_line p outcome reply right line)

-- of what was made, where memory sufficed
module _ {E : Type 0} (n : ℕ) (p : Problem) (outcome : Outcome) (grown : IsGrown n p) where
  pub all_answers :
      (result : Result Reply E) → IsOutcome p n GROWTH_BUDGET outcome → IfOk result (λ r. r.text ≡ outcome_line outcome) →
      IfOk result (λ r. r.sign ≡ sign_of_outcome outcome) → IfOk result (λ reply. (q : Problem) × IsGrown n q × AnswersGrow q n reply)
  all_answers (Err e) ends text sign = tt
  all_answers (Ok reply) ends text sign = (p, grown, growth_answers n p outcome reply ends record { text = text; sign = sign })

  pub all_once :
      (result : Result Reply E) → IsOutcome p n GROWTH_BUDGET outcome → IfOk result (λ r. r.text ≡ outcome_line outcome) →
      IfOk result (λ r. r.sign ≡ sign_of_outcome outcome) → (q : Problem) (a : Reply) → IsGrown n q → AnswersGrow q n a →
      IfOk result (λ reply. reply ≡ a)
  all_once (Err e) ends text sign q a other answers = tt
  all_once (Ok reply) ends text sign q a other answers =
      growth_once n p q outcome reply a grown other ends record { text = text; sign = sign } answers

  pub all_right :
      (result : Result Reply E) → IsRightOutcome p GROWTH_BUDGET outcome → IfOk result (λ r. r.text ≡ outcome_line outcome) →
      IfOk result (λ r. r.sign ≡ sign_of_outcome outcome) → (q : Problem) → IsGrown n q →
      IfOk result (λ reply. IsRightGrowth q reply.text reply.sign)
  all_right (Err e) right text sign q other = tt
  all_right (Ok reply) right text sign q other = growth_right n p q outcome reply grown other right record { text = text; sign = sign }

-- no file is read
pub growth_ended :
    (s : FolderState) (n : ℕ) (result : Result End Cut) → IfOk result (EndsAs (Grow n) no_input) → IfOk result (EndsOver s (Grow n))
growth_ended s n (Err cut) ends = tt
growth_ended s n (Ok end) ends = record { input = no_input; told = record { problem = refl; second = refl }; ends = ends }

pub growth_unfailed : (result : Result End Cut) → IfErr result (λ cut. cut ≡ Memory) → IsErrOf result ReadFault → ⊥
growth_unfailed (Ok end) memory is = cc
growth_unfailed (Err cut) memory is = cc

pub growth_misses : (s : FolderState) (n : ℕ) → MissesFile s (Grow n) → ⊥
growth_misses s n misses = elim misses [
  | inl one ↦ (let is = one.1 in cc)
  | inr one ↦ (let is = one.named in cc)
]

pub growth_complete :
    (n : ℕ) (i : Input) (end : End) (reply : Reply) → EndsAs (Grow n) i end →
    ((p : Problem) (a : Reply) → IsGrown n p → AnswersGrow p n a → reply ≡ a) → Answered reply ≡ end
growth_complete n i Usage reply ends same = absurd ends
growth_complete n i (Answered a) reply ends same = ap Answered (same ends.0 a ends.1 ends.2)
growth_complete n i (Refused r) reply ends same = elim ends [ inl none ↦ absurd none | inr one ↦ absurd (never one.0 r one.2) ]
  where
    never : (p : Problem) (r : Refusal) → RefusesSecond (Grow n) p i.second r → ⊥
    never p (TooLong sort) refuses = refuses.0
    never p (NoProblem fault) refuses = refuses
    never p (BadLine sort line) refuses = refuses

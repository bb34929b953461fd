-- What is known of a literal at objects, in words.
use Rattle.std.proofs.Common.{ℕ, true, false, sym, ◌∙◌}
use Rattle.rf_values.specs.Truth.{may as can, must as has_to}
use Rattle.rf_problem.specs.Holds.{AreMeanings, Interpretation, Meaning, interpreted}
use Rattle.rf_problem.specs.Reading.{Reading, literal_true}
use Rattle.rf_problem.specs.declared.predicate.Literal.{Literal}
use Rattle.rf_problem.specs.declared.predicate.Literal.TheVariants.{Call, Same, Differ}
use Rattle.rf_problem.specs.declared.problem.Problem.{Problem}
use Rattle.rf_problem.proofs.Agreements.{LiteralSays, SaysSame}
use Rattle.rf_problem.proofs.HoldingLiterals.{LiteralHolds-from_literal_true, literal_true-from_LiteralHolds}
use Rattle.rf_problem.proofs.Meanings.{Agree-interpreted, by_test, computed, computed-AreMeanings, meanings-unique, symbol_says}
use Rattle.rf_evaluate.specs.Known.{side}
use Rattle.rf_evaluate.proofs.InBoth.{must-truth_of}
use Rattle.rf_state.specs.StateKnown.{state_known}
use Rattle.rf_soundness.specs.Forced.{LiteralIsInWords}

module _ (p : Problem) (here inside : Reading) (says tells : Meaning) (m : AreMeanings p here inside says tells) where
  abbrev out : Interpretation
  out = interpreted here says

  abbrev inn : Interpretation
  inn = interpreted inside tells

  outer_same : (q : ℕ) → SaysSame p.predicates (by_test p) here inside out q
  outer_same q t e = meanings-unique p here inside (computed p here inside) (computed p inside here) says tells
      (computed-AreMeanings p here inside) m q t e

  inner_same : (q : ℕ) → SaysSame p.predicates (by_test p) inside here inn q
  inner_same q t e = meanings-unique p inside here (computed p inside here) (computed p here inside) tells says
      (computed-AreMeanings p inside here)
      (record { outer = m.inner; inner = m.outer }) q t e

  -- what a literal calls is said in words as it is by the test
  called_same : (l : Literal) → LiteralSays p.predicates (by_test p) here inside out inn l
  called_same (Call false closure symbol args) = symbol_says p here inside out outer_same symbol
  called_same (Call true closure symbol args) = symbol_says p inside here inn inner_same symbol
  called_same (Same a b) = record {}
  called_same (Differ a b) = record {}

pub literal_is_in_words : LiteralIsInWords
literal_is_in_words p s variables i places l fits =
    let here = side has_to (state_known p s) in let inside = side can (state_known p s) in
    let holds = literal_true (by_test p) here inside variables i places l in
    let can_hold = literal_true (by_test p) inside here variables i places l in (
      λ h. record {
        says = computed p here inside;
        tells = computed p inside here;
        meanings = computed-AreMeanings p here inside;
        holds = LiteralHolds-from_literal_true p (by_test p) here inside (interpreted here (computed p here inside))
            (interpreted inside (computed p inside here))
            (Agree-interpreted here (computed p here inside)) (Agree-interpreted inside (computed p inside here)) variables i places l
            (called_same p here inside (computed p here inside) (computed p inside here)
            (computed-AreMeanings p here inside) l) fits (sym (must-truth_of holds can_hold) ∙ h);
      },
      λ k. must-truth_of holds can_hold
          ∙ literal_true-from_LiteralHolds p (by_test p) here inside (interpreted here k.says) (interpreted inside k.tells)
          (Agree-interpreted here k.says) (Agree-interpreted inside k.tells) variables i places l
          (called_same p here inside k.says k.tells k.meanings l) fits k.holds,
    )

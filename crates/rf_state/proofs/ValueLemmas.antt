-- The value of a predicate, in words.
use Rattle.std.proofs.Common.{ℕ, Bool, List, length, sym, ◌∙◌}
use Rattle.rf_values.specs.Truth.{may, must}
use Rattle.rf_problem.specs.Reading.{Reading, predicate_true, symbol_true}
use Rattle.rf_problem.specs.declared.problem.Problem.{Problem}
use Rattle.rf_problem.specs.declared.symbol.Symbol.TheVariants.{Predicate}
use Rattle.rf_problem.proofs.Meanings.{HoldsIn-from_symbol_true, symbol_true-from_HoldsIn}
use Rattle.rf_evaluate.specs.Known.{side}
use Rattle.rf_evaluate.proofs.InBoth.{may-truth_of, must-truth_of}
use Rattle.rf_state.specs.Laws.{MayValueIsInWords, MustValueIsInWords}
use Rattle.rf_state.specs.StateKnown.{state_known}

-- whether a predicate holds in a pair of readings
abbrev says : Problem → Reading → Reading → ℕ → List ℕ → Bool
says p here inside q t = symbol_true (predicate_true p.predicates (length p.predicates)) here inside (Predicate q) t

pub must-in_words : MustValueIsInWords
must-in_words p s q t e =
    let k = state_known p s in
    let pair = must-truth_of (says p (side must k) (side may k) q t) (says p (side may k) (side must k) q t) in (
      λ h. pair ∙ symbol_true-from_HoldsIn p (side must k) (side may k) (Predicate q) t e h,
      λ h. HoldsIn-from_symbol_true p (side must k) (side may k) (Predicate q) t e (sym pair ∙ h),
    )

pub may-in_words : MayValueIsInWords
may-in_words p s q t e =
    let k = state_known p s in
    let pair = may-truth_of (says p (side must k) (side may k) q t) (says p (side may k) (side must k) q t) in (
      λ h. pair ∙ symbol_true-from_HoldsIn p (side may k) (side must k) (Predicate q) t e h,
      λ h. HoldsIn-from_symbol_true p (side may k) (side must k) (Predicate q) t e (sym pair ∙ h),
    )

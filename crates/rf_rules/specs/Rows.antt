-- The first rule of a row that fires: of the rules of one kind with the same first numbers.
use Rattle.std.specs.Prelude.{ℕ, Option, length}
use Rattle.std.specs.Bool.{then_some}
use Rattle.std.specs.Option.{option_or}
use Rattle.rf_finite.specs.Range.{first_below}
use Rattle.rf_problem.specs.declared.problem.Problem.{Problem}
use Rattle.rf_state.specs.State.{State}
use Rattle.rf_rules.specs.Rules.{fires}
use Rattle.rf_rules.specs.declared.rule.End.{End}
use Rattle.rf_rules.specs.declared.rule.End.TheVariants.{Target, Source}
use Rattle.rf_rules.specs.declared.rule.Rule.{Rule}
use Rattle.rf_rules.specs.declared.rule.Rule.TheVariants.{Clash, Src, Tgt}

-- the rule of the end whose object keeps the candidates below the class there
abbrev pub end_rule : End → ℕ → ℕ → ℕ → Rule
end_rule Source r a b = Src r a b
end_rule Target r a b = Tgt r a b

-- the first end of a clash that fires at a reference and two objects, and the first object and end of a row
abbrev pub clash_at : Problem → State → ℕ → ℕ → ℕ → Option (ℕ × End)
clash_at p s r a b =
    option_or (then_some (fires p s (Clash r a b Target)) (b, Target)) (then_some (fires p s (Clash r a b Source)) (b, Source))

abbrev pub least_clash : Problem → State → ℕ → ℕ → Option (ℕ × End)
least_clash p s r a = first_below (length s.objects) (clash_at p s r a)

use Rattle.std.proofs.Common.{◌∙◌, sym, subst}
use Rattle.rf_parser.specs.Private.Parts.{features_to_brace}
use Rattle.rf_parser.specs.Private.Parsing.{Parses, never}
use Rattle.rf_parser.proofs.ClassParts.{feature_more, feature_more_stuck, feature_stuck, features_end}
use Rattle.rf_parser.proofs.Lengths.{feature_shorter}
use Rattle.rf_parser.proofs.ListParts.{so_far_end, so_far_more, so_far_start}
use Rattle.rf_parser.proofs.Wholes.{passed_on, returned}
use Rattle.rf_parser.proofs.classes.parse_features.Goals as goal

pub loop-after-init : goal.loop-after-init
loop-after-init c = so_far_start (c.from_vec-features.ensures ∙ c.new.ensures.items)

pub returns-in-Some-clause-ok : goal.returns-in-Some-clause-ok
returns-in-Some-clause-ok c =
    let whole = so_far_end c.loop-after.invariant (features_end c.in-Some.ensures.found) in
    subst (λ fs. Parses features_to_brace never c.args.tokens.now fs c.in-Some.after.now) (sym whole.added) whole.parsed

pub returns-in_err-feature-clause-stop : goal.returns-in_err-feature-clause-stop
returns-in_err-feature-clause-stop c = returned _ c.from_residual.ensures.1 (passed_on c.in_err-feature.ensures.stop (λ left h.
    c.loop-after.invariant.onward.stuck left (feature_stuck c.in_default.ensures.none h)))

pub loop-after-preserved : goal.loop-after-preserved
loop-after-preserved c =
    so_far_more c.loop-after.invariant c.in_ok-push.ensures.ok
    (feature_more c.in_default.ensures.none c.in_ok-feature.ensures.ok)
    (feature_more_stuck c.in_default.ensures.none c.in_ok-feature.ensures.ok)

pub loop-after-smaller : goal.loop-after-smaller
loop-after-smaller c = feature_shorter c.in_ok-feature.ensures.ok

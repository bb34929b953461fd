use Rattle.std.proofs.Common.{◌≡◌, ◌∙◌, ap, cond, Some, nat_cmp}
use Rattle.std.specs.BTreeMap.{get}
use Rattle.std.specs.Cmp.Lexicographic.{slice_cmp}
use Rattle.std.specs.Ordering.{is_eq}
use Rattle.rf_values.specs.Truth.{disjunction}
use Rattle.rf_values.specs.declared.truth.Truth.{Truth}
use Rattle.rf_evaluate.specs.Gathering.{truth_at}
use Rattle.rf_evaluate.proofs.FoundValues.{gathered-value}
use Rattle.rf_evaluate.proofs.gather.BTreeMapTupleTruthGather.add.Goals as goal

pub returns : goal.returns
returns c =
    let old = c.args.self.now in
    let more : c.or-more.result ≡ disjunction (truth_at old c.args.tuple) c.args.value = c.or-more.ensures ∙ ap (λ (v : Truth). disjunction v c.args.value) c.truth_at.ensures in
    gathered-value old c.insert.new.self c.args.tuple c.args.value
    (λ q. c.in_ok-insert.ensures.updates.0 q ∙ ap (λ (v : Truth). cond (is_eq (slice_cmp nat_cmp c.args.tuple q)) (Some v) (get (slice_cmp nat_cmp) old q)) more)
    c.requires

use Rattle.std.proofs.Common.{◌≡◌, ◌∙◌, ◌++◌, ap, subst, get_or, OnOk}
use Rattle.std.proofs.lemmas.List.{get_or_default}
use Rattle.rf_problem.specs.Parts.{no_reference, reference_at}
use Rattle.rf_graph.proofs.ProblemNames.{reference_pushed}
use Rattle.rf_graph.proofs.print.push_reference.Goals as goal

pub returns-clause-ok : goal.returns-clause-ok
returns-clause-ok c =
    let p = c.args.problem.now in
    let declared = c.index-deref-reference.result in
    let is : declared ≡ reference_at p.references c.args.reference =
    c.index-deref-reference.is ∙ ap (λ rs. get_or rs c.args.reference declared) c.deref.ensures ∙ get_or_default p.references c.args.reference declared no_reference c.requires in
    let name = reference_pushed p c.args.reference declared.source declared.name _ _ _ _ c.requires (ap (λ r. r.source) is) (ap (λ r. r.name) is) c.new-name.ensures
    c.in_ok-push_class.ensures.ok c.in_ok-push_str.ensures.ok c.in_ok-push_name.ensures.ok in
    subst (λ bytes. OnOk c.push_str-2.result (c.push_str-2.new.self ≡ c.args.out.now ++ bytes)) (c.as_str.ensures.bytes ∙ name) c.push_str-2.ensures.ok

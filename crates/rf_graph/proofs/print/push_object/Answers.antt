use Rattle.std.proofs.Common.{◌≡◌, ◌∙◌, ◌++◌, sym, ap, subst, get_or, OnOk}
use Rattle.std.proofs.lemmas.List.{get_or_default}
use Rattle.rf_problem.specs.Parts.{no_object, object_at}
use Rattle.rf_problem.specs.declared.object.ObjectName.TheVariants.{Named, NewOf}
use Rattle.rf_graph.specs.Document.{written_object}
use Rattle.rf_graph.proofs.ProblemNames.{new_class, new_pushed, object_name-read}
use Rattle.rf_graph.proofs.print.push_object.Goals as goal

pub push_class-requires : goal.push_class-requires
push_class-requires c =
    let p = c.args.problem.now in
    let is : (object_at p.objects c.args.object).name ≡ NewOf c.in-NewOf.class =
    ap (λ o. o.name) (sym (ap (λ os. get_or os c.args.object c.index-deref-object.result) c.deref.ensures ∙ get_or_default p.objects c.args.object c.index-deref-object.result no_object c.requires))
    ∙ c.in-NewOf.is in
    new_class p c.args.object c.in-NewOf.class c.requires is

pub returns-in-Named-clause-ok : goal.returns-in-Named-clause-ok
returns-in-Named-clause-ok c =
    let p = c.args.problem.now in
    let object = c.index-deref-object.result in
    let read : (get_or p.objects c.args.object object).name ≡ Named c.in-Named.name =
    sym (ap (λ os. (get_or os c.args.object object).name) c.deref.ensures) ∙ c.in-Named.is in
    subst (λ bytes. OnOk c.push_name.result (c.push_name.new.out ≡ c.args.out.now ++ bytes))
    (sym (object_name-read p c.args.object object c.requires ∙ ap (written_object p) read)) c.push_name.ensures.ok

pub returns-in_ok-push_str-in-NewOf-clause-ok : goal.returns-in_ok-push_str-in-NewOf-clause-ok
returns-in_ok-push_str-in-NewOf-clause-ok c =
    let p = c.args.problem.now in
    let object = c.index-deref-object.result in
    let is : (object_at p.objects c.args.object).name ≡ NewOf c.in-NewOf.class =
    ap (λ o. o.name) (sym (ap (λ os. get_or os c.args.object object) c.deref.ensures ∙ get_or_default p.objects c.args.object object no_object c.requires)) ∙ c.in-NewOf.is in
    let name = new_pushed p c.args.object c.in-NewOf.class _ _ _ c.requires is c.new-name.ensures c.in_ok-push_class-in-NewOf.ensures.ok c.in_ok-push_str-in-NewOf.ensures.ok in
    subst (λ bytes. OnOk c.push_str-in-NewOf.result (c.push_str-in-NewOf.new.self ≡ c.args.out.now ++ bytes)) (c.as_str.ensures.bytes ∙ name) c.push_str-in-NewOf.ensures.ok

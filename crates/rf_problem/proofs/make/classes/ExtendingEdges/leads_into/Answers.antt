use Rattle.std.proofs.Common.{◌≡◌, ◌∙◌, ap, sym}
use Rattle.std.specs.FinSet.{contains}
use Rattle.std.specs.List.{list_any}
use Rattle.std.proofs.lemmas.List.{get_or_default}
use Rattle.rf_problem.specs.Classes.{class_at, no_class}
use Rattle.rf_problem.proofs.BelowLemmas.{any_extended, extends_some}
use Rattle.rf_problem.proofs.make.classes.ExtendingEdges.leads_into.Goals as goal

pub returns : goal.returns
returns c =
    let classes = c.args.self.now.classes.now in
    let at : c.extends_some.result ≡ list_any (contains c.args.ends) (class_at classes c.args.from).supers =
    c.extends_some.ensures ∙ ap (λ k. list_any (contains c.args.ends) k.supers) (get_or_default classes c.args.from c.index-self-from.result no_class c.requires) in (
      λ t. (let found = any_extended (contains c.args.ends) (class_at classes c.args.from).supers (sym at ∙ t) in (found.0, found.2, found.1)),
      λ leads. at ∙ extends_some (contains c.args.ends) leads.0 (class_at classes c.args.from).supers leads.1 leads.2,
    )

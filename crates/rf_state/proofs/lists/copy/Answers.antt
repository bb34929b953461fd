use Rattle.std.proofs.Common.{rules}
use Rattle.std.proofs.lemmas.List.Elements.{same_from_all_zip}
use Rattle.rf_state.proofs.ListLemmas.{AreSameLists-from_clone}
use Rattle.rf_state.proofs.lists.copy.Goals as goal

pub returns : goal.returns
returns c = AreSameLists-from_clone _ _ (λ x y h. search rules) (λ v w h. same_from_all_zip _ v.items w.items h.0 (λ a b e. e)) c.args.lists.now c.in_ok-copy.copy c.in_ok-copy.ensures.cases

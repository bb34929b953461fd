use Rattle.std.proofs.Common.{◌∙◌, ap, sym}
use Rattle.std.proofs.lemmas.Result.{on_ok_weaker}
use Rattle.rf_store.specs.Entries.{value_at}
use Rattle.rf_vstate.proofs.CopyLemmas.{HasFacts-put}
use Rattle.rf_vstate.proofs.copies.copy_fact.Goals as goal

pub returns-in-Some-clause-copied : goal.returns-in-Some-clause-copied
returns-in-Some-clause-copied c =
    let sets = rw c.fact_key-in-Some.ensures at c.put.ensures.sets in
    on_ok_weaker c.put.result
    (λ put. HasFacts-put c.args.store.now.current c.put.new.self.current c.args.r c.args.from.0 c.args.from.1 c.args.to.0 c.args.to.1 c.in-Some.value
    (ap (value_at c.args.store.now.current) (sym c.fact_key.ensures) ∙ sym c.get.ensures ∙ c.in-Some.is) put) sets

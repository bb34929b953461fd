use Rattle.std.proofs.lemmas.Result.{on_ok_weaker}
use Rattle.rf_vstate.proofs.SoundLemmas.{fact-made}
use Rattle.rf_vstate.proofs.rows.put_fact.Goals as goal

pub returns-clause-sound : goal.returns-clause-sound
returns-clause-sound c =
    let sets = rw (c.fact_key.ensures, c.fact_value.ensures) at c.put.ensures.sets in
    on_ok_weaker c.put.result
    (λ put. (fact-made c.args.problem.now c.args.store.now.current c.put.new.self.current c.requires.sound c.args.r c.args.a c.args.b c.args.truth
    c.requires.reference c.requires.from c.requires.to c.requires.known put).sound) sets

pub returns-clause-put : goal.returns-clause-put
returns-clause-put c =
    let sets = rw (c.fact_key.ensures, c.fact_value.ensures) at c.put.ensures.sets in
    on_ok_weaker c.put.result
    (λ put. (fact-made c.args.problem.now c.args.store.now.current c.put.new.self.current c.requires.sound c.args.r c.args.a c.args.b c.args.truth
    c.requires.reference c.requires.from c.requires.to c.requires.known put).state) sets

use Rattle.std.proofs.Common.{◌∙◌, List, subst, sym, arith}
use Rattle.rf_store.specs.Entries.{Entry}
use Rattle.rf_state.specs.Meaning.{meaning}
use Rattle.rf_state.specs.State.{IsRoot}
use Rattle.rf_vstate.specs.Maps.{state_of}
use Rattle.rf_vstate.proofs.RootLemmas.{root-all, root-none}
use Rattle.rf_vstate.proofs.versioned.Versioned.root.Goals as goal

pub loop-o-init : goal.loop-o-init
loop-o-init c =
    let put = rw (c.new-store.ensures.current, c.number_key.ensures, c.number_value.ensures) at c.in_ok-put.ensures.sets in
    (root-none c.args.problem.now c.put.new.self.current put, c.in_ok-put.ensures.saved ∙ c.new-store.ensures.saved)

pub returns-clause-root : goal.returns-clause-root
returns-clause-root c =
    subst (λ (entries : List Entry). IsRoot c.args.problem.now (state_of entries)) (sym c.in_ok-place.ensures.current)
    (root-all c.args.problem.now (meaning c.in_ok-root.root) c.loop-o.store.current c.loop-o.o c.loop-o.invariant.0 (omega (arith, c.loop-o-test.false, c.objects-o-end.ensures)) c.in_ok-root.ensures.root)

use Rattle.std.proofs.Common.{ℕ, subst}
use Rattle.std.proofs.lemmas.Result.{on_ok_weaker}
use Rattle.rf_vstate.specs.Copies.{HasFacts, with_copies_from}
use Rattle.rf_vstate.proofs.CopyLemmas.{into-first_free, reference-copied}
use Rattle.rf_vstate.proofs.copies.copy_reference.Goals as goal

pub copy_from-requires-clause-free : goal.copy_from-requires-clause-free
copy_from-requires-clause-free c =
    into-first_free c.args.store.now.current c.copy_into.new.store.current c.args.r c.args.fresh.of c.args.fresh.number c.requires.below c.in_ok-copy_into.ensures.copied

pub returns-clause-copied : goal.returns-clause-copied
returns-clause-copied c =
    on_ok_weaker c.copy_from.result
    (λ copied. reference-copied c.args.store.now.current c.copy_into.new.store.current c.copy_from.new.store.current c.args.r c.args.fresh.of c.args.fresh.number
    c.requires.of c.requires.below c.in_ok-copy_into.ensures.copied
    (subst (λ (end : ℕ). HasFacts c.copy_into.new.store.current c.copy_from.new.store.current
    (with_copies_from c.copy_into.new.store.current c.args.r c.args.fresh.of c.args.fresh.number end)) c.requires.after copied)) c.copy_from.ensures.copied

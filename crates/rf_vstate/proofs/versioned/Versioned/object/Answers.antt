use Rattle.std.proofs.Common.{◌∙◌, sym}
use Rattle.rf_vstate.proofs.Reading.{object-read}
use Rattle.rf_vstate.proofs.versioned.Versioned.object.Goals as goal

pub returns : goal.returns
returns c = c.object_at.ensures ∙ sym (object-read c.args.self.now.store.current c.args.o c.requires)

use Rattle.rf_vstate.specs.Meaning.{current}
use Rattle.rf_vstate.proofs.TableLemmas.{IsMapOf-rows}
use Rattle.rf_vstate.proofs.versioned.Versioned.store.Goals as goal

pub returns : goal.returns
returns c = IsMapOf-rows (current c.args.self.now) c.args.self.now.store.current c.args.self.now.sound.rows c.args.self.now.sound.own

use Rattle.std.proofs.Common.{arith, refl}
use Rattle.rf_tree.proofs.ReaderLemmas.{too_long_so_far}
use Rattle.rf_tree.proofs.line_reader.LineReader.keep.Goals as goal

pub returns-then-len-text-clause-read : goal.returns-then-len-text-clause-read
returns-then-len-text-clause-read c = too_long_so_far c.args.self.now _ c.args.text.now (omega arith) c.requires refl refl

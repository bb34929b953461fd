use Rattle.std.proofs.Common.{◌∷◌, [], arith, refl}
use Rattle.rf_tree.proofs.ReaderLemmas.{refused, taken, too_long}
use Rattle.rf_tree.proofs.line_reader.LineReader.end_line.Goals as goal

pub returns-then-len-text-clause-read : goal.returns-then-len-text-clause-read
returns-then-len-text-clause-read c = too_long c.args.self.now _ c.args.text.now (10 ∷ []) (omega arith) c.requires.whole refl refl

pub returns-in_default-clause-read : goal.returns-in_default-clause-read
returns-in_default-clause-read c = refused c.args.self.now _ c.args.text.now c.requires.whole c.in_default.ensures.none refl refl

pub returns-clause-read : goal.returns-clause-read
returns-clause-read c =
    taken c.args.self.now _ c.args.text.now c.in-Some.entry c.line.result c.in-Some.ensures.found c.after-self.ensures refl c.clear.ensures c.line.ensures

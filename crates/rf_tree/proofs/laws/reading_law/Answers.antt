use Rattle.rf_tree.proofs.StopLemmas.{lines_of_bytes, lines_once}
use Rattle.rf_tree.proofs.laws.reading_law.Goals as goal

pub returns-clause-once : goal.returns-clause-once
returns-clause-once _ lines other bytes a b = lines_once bytes lines other a b

pub returns-clause-read : goal.returns-clause-read
returns-clause-read _ reader bytes lines h = lines_of_bytes reader.lines bytes lines h.follows

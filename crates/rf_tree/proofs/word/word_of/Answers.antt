-- The longest words: their bytes are read one by one.
use Rattle.std.proofs.Common.{arith}
use Rattle.std.proofs.lemmas.Slice.Eq.{text_from_reads}
use Rattle.rf_tree.proofs.word.word_of.Goals as goal

pub returns-in-109-clause-found : goal.returns-in-109-clause-found
returns-in-109-clause-found c =
    text_from_reads _ _ (omega arith)
    (omega arith, (omega arith, (omega arith, (omega arith, (omega arith, (omega arith, (omega arith, (omega arith, (omega arith, (omega arith, (omega arith, (omega arith, tt))))))))))))

pub returns-in-110-3-clause-found : goal.returns-in-110-3-clause-found
returns-in-110-3-clause-found c =
    text_from_reads _ _ (omega arith)
    (omega arith, (omega arith, (omega arith, (omega arith, (omega arith, (omega arith, (omega arith, (omega arith, (omega arith, (omega arith, (omega arith, (omega arith, tt))))))))))))

pub returns-in-115-2-clause-found : goal.returns-in-115-2-clause-found
returns-in-115-2-clause-found c =
    text_from_reads _ _ (omega arith)
    (omega arith, (omega arith, (omega arith, (omega arith, (omega arith, (omega arith, (omega arith, (omega arith, (omega arith, (omega arith, (omega arith, (omega arith, tt))))))))))))

pub returns-in-111-clause-found : goal.returns-in-111-clause-found
returns-in-111-clause-found c =
    text_from_reads _ _ (omega arith)
    (omega arith, (omega arith, (omega arith, (omega arith, (omega arith, (omega arith, (omega arith, (omega arith, (omega arith, (omega arith, (omega arith, (omega arith, (omega arith, tt)))))))))))))

pub returns-in-99-clause-found : goal.returns-in-99-clause-found
returns-in-99-clause-found c =
    text_from_reads _ _ (omega arith)
    (omega arith, (omega arith, (omega arith, (omega arith, (omega arith, (omega arith, (omega arith, (omega arith, (omega arith, (omega arith, (omega arith, (omega arith, (omega arith, tt)))))))))))))

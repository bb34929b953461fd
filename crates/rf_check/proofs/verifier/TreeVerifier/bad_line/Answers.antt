use Rattle.rf_check.proofs.verifier.TreeVerifier.bad_line.Goals.{in-Err-BadLine, in-Err-Memory, in-Ok}
use Rattle.rf_check.proofs.verifier.TreeVerifier.bad_line.Goals as goal

pub returns-clause-good : goal.returns-clause-good
returns-clause-good c e bytes lines read line met =
    let told = c.feed.ensures.met line bytes lines read met in
    elim c.match-feed.branch [ in-Ok w ↦ cc | in-Err-BadLine w ↦ cc | in-Err-Memory w ↦ cc ]

pub returns-clause-bad : goal.returns-clause-bad
returns-clause-bad c line e bytes lines read =
    c.feed.ensures.bad line bytes lines read (elim c.match-feed.branch [ in-Ok w ↦ cc | in-Err-BadLine w ↦ cc | in-Err-Memory w ↦ cc ])

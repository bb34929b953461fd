use Rattle.std.proofs.Common.{◌≡◌, ◌+◌, sym}
use Rattle.rf_check.proofs.CheckingLemmas.{can_stand, refused_of, stands_of}
use Rattle.rf_check.proofs.verifier.TreeVerifier.check.Goals as goal

pub returns-in-Some-clause-refused : goal.returns-in-Some-clause-refused
returns-in-Some-clause-refused c line e p before checked =
    let same : c.in-Some.number + 2 ≡ line = cc in
    record { number = c.in-Some.number; first = refused_of c.in-Some.number c.in-Some.is (c.in_ok-feed.ensures.checked p before checked); line_is = sym same }

pub returns-in-None-clause-stand : goal.returns-in-None-clause-stand
returns-in-None-clause-stand c _ p before checked = can_stand (stands_of c.in-None.is (c.in_ok-feed.ensures.checked p before checked))

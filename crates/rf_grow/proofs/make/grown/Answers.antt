use Rattle.rf_grow.proofs.Made.{is_made}
use Rattle.rf_grow.proofs.make.grown.Goals as goal

pub unwrap-requires : goal.unwrap-requires
unwrap-requires c =
    is_made c.args.n c.requires.some c.requires.most _ _ _ _ _ _ c.in_ok-classes.ensures c.in_ok-references.ensures c.in_ok-predicates.ensures
    c.in_ok-objects.ensures c.in_ok-assertions.ensures c.in_ok-scopes.ensures c.in_ok-made.made c.in_ok-made.ensures.refused

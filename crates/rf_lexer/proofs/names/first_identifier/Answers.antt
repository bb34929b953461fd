use Rattle.rf_lexer.proofs.Takings.{identifier_to}
use Rattle.rf_lexer.proofs.names.first_identifier.Goals as goal

pub identifier_kind-requires : goal.identifier_kind-requires
identifier_kind-requires c = identifier_to _ _ _ c.requires.0 c.requires.1 c.requires.2 c.skip_all-rest.ensures.span

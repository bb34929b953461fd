use Rattle.std.proofs.Common.{◌∙◌, ap}
use Rattle.rf_names.specs.Offsets.{least_of}
use Rattle.rf_name_rules.specs.NameOffsets.{unknown_symbol}
use Rattle.rf_name_rules.proofs.unknowns.UnknownNamesOffsetRuleBodyLiteral.least_in.Goals as goal

pub returns-in_ok-sense-in-Call : goal.returns-in_ok-sense-in-Call
returns-in_ok-sense-in-Call c = rw c.in-Call.is
    (c.unknown_symbol.ensures
    ∙ ap (λ s. least_of (unknown_symbol c.args.self.now.names.now.declared.now s c.in-Call.symbol.name c.in-Call.symbol.member)) c.in_ok-sense-in-Call.ensures)

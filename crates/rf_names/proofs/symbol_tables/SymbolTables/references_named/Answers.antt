use Rattle.std.proofs.Common.{◌∙◌}
use Rattle.rf_names.proofs.NamedLemmas.{references_found}
use Rattle.rf_names.proofs.symbol_tables.SymbolTables.references_named.Goals as goal

pub returns : goal.returns
returns c =
    references_found c.args.self.now.declared.now c.args.text.now c.numbers_under.result.now (c.numbers_under.ensures ∙ c.args.self.now.of_references c.args.text.now)

use Rattle.std.proofs.Common.{◌∙◌}
use Rattle.rf_graph.proofs.Index.{found_called, not_called}
use Rattle.rf_graph.proofs.names.NameIndex.find.Goals as goal

pub returns-clause-found : goal.returns-clause-found
returns-clause-found c =
    found_called c.args.self.now.names.now c.args.self.now.numbers c.args.name.now c.copied.result c.args.self.now.exact (c.copied.ensures ∙ c.get.ensures.value)

pub returns-clause-none : goal.returns-clause-none
returns-clause-none c =
    not_called c.args.self.now.names.now c.args.self.now.numbers c.args.name.now c.copied.result c.args.self.now.exact (c.copied.ensures ∙ c.get.ensures.value)

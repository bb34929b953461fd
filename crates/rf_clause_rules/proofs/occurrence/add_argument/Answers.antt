use Rattle.std.proofs.Common.{◌∙◌, rules, sym}
use Rattle.rf_clause_rules.proofs.LooseLemmas.{atom_added, variable_added}
use Rattle.rf_clause_rules.proofs.occurrence.add_argument.Goals as goal

pub returns-then-is_atom : goal.returns-then-is_atom
returns-then-is_atom c = λ text.
    atom_added c.args.arguments.now.names.now.declared.now c.args.arguments.now.params.now
    c.args.literal c.args.negated c.args.name.now text _ (sym c.is_atom.ensures ∙ c.if-is_atom.true)

pub returns : goal.returns
returns c = search (rules, variable_added)

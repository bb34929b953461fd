use Rattle.std.proofs.Common.{◌≡◌, ◌∙◌, ap, map}
use Rattle.rf_names.proofs.symbol_tables.SymbolTables.of.Goals as goal

pub invariant_of-result-clause-of_predicates : goal.invariant_of-result-clause-of_predicates
invariant_of-result-clause-of_predicates c =
    let forms : c.as_slice.result.now ≡ c.args.declared.now.predicates = c.as_slice.ensures.value ∙ ap (λ d. d.predicates) c.declared.view_is in
    let names = rw (c.in_ok-classes.ensures.second) at c.both.ensures.first in
    (rw names at c.numbered.ensures) ∙ ap (map (λ p. p.name)) forms

pub invariant_of-result-clause-of_references : goal.invariant_of-result-clause-of_references
invariant_of-result-clause-of_references c =
    let forms : c.as_slice-2.result.now ≡ c.args.declared.now.references = c.as_slice-2.ensures.value ∙ ap (λ d. d.references) c.declared.view_is in
    let lists = rw (c.in_ok-classes.ensures.second) at c.both.ensures.second in
    rw forms at (rw lists at c.numbers_by_name.ensures)

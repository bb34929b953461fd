-- What the class declares itself, and what the classes above it do.
use Rattle.std.proofs.Common.{◌≡◌, arith, length}
use Rattle.std.proofs.lemmas.Grind.{common_steps}
use Rattle.rf_names.proofs.NamedLemmas.{inherited_taken, own_taken}
use Rattle.rf_names.proofs.symbol_tables.SymbolTables.members.Goals as goal

pub returns-then-not-is_empty : goal.returns-then-not-is_empty
returns-then-not-is_empty c =
    own_taken c.args.self.now.declared.now c.args.class c.in-Some.class c.args.text.now c.references_named-named.result.now c.in_ok-own.own.items c.in-Some.is
    c.references_named-named.ensures c.in_ok-own.ensures (λ none. grind (arith, common_steps, none))

pub returns : goal.returns
returns c =
    let none : length c.in_ok-own.own.items ≡ 0 = grind (arith, common_steps) in
    inherited_taken c.args.self.now.declared.now c.args.class c.in-Some.class c.args.text.now c.references_named-named.result.now c.in_ok-own.own.items
    c.in_ok-inherited.inherited.items c.in_ok-above.above.items c.in-Some.is
    c.references_named-named.ensures c.in_ok-own.ensures none c.in_ok-above.ensures.len c.in_ok-above.ensures.value (rw c.as_slice.ensures.value at c.in_ok-inherited.ensures)

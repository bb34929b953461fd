use Rattle.std.proofs.Common.{◌<◌, ◌∙◌, List, length, map, drop, arith, sym, ap}
use Rattle.std.proofs.lemmas.List.{length-map}
use Rattle.rf_syntax.specs.declared.name.Name.{Name}
use Rattle.rf_names.specs.Offsets.{least_of}
use Rattle.rf_limits.proofs.VariablesPast.{passed, past}
use Rattle.rf_limits.proofs.variables.past_known.Goals as goal
use denote.Ref.{Bor}

pub returns-then-len-limit : goal.returns-then-len-limit
returns-then-len-limit c =
    let items = c.loop-name.variables.items in
    let known = map (λ (n : Bor Name). n.now) items in
    let rest = map (λ (n : Bor Name). n.now) (drop c.loop-name.name-index c.args.names.now) in
    let e = length-map items (λ (n : Bor Name). n.now) in
    let below : c.args.limit < length known = omega arith in
    c.past_lent.ensures
    ∙ ap (λ (xs : List (Bor Name)). least_of (past c.args.limit (map (λ (n : Bor Name). n.now) xs))) c.as_slice.ensures.value
    ∙ ap least_of (sym (passed c.args.limit known rest below))
    ∙ ap (λ (ns : List Name). least_of (past c.args.limit ns)) c.loop-name.invariant

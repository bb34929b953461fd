use Rattle.std.proofs.Common.{◌∷◌, [], List, false, subst}
use Rattle.std.specs.Prelude.{IfSome, slice_index_or}
use Rattle.rf_problem.specs.declared.predicate.Literal.TheVariants.{Call}
use Rattle.rf_problem.specs.declared.predicate.Term.{Term}
use Rattle.rf_problem.specs.declared.predicate.Term.TheVariants.{Var}
use Rattle.rf_problem.specs.declared.symbol.Symbol.TheVariants.{Reference}
use Rattle.rf_evaluate.specs.Narrowing.{Narrows}
use Rattle.rf_evaluate.proofs.Narrowing.{Narrows-found, Narrows-from, Narrows-to, two_terms}
use Rattle.rf_evaluate.proofs.next.along_edge.Goals as goal

pub returns-in-Some : goal.returns-in-Some
returns-in-Some g c =
    let known = g.K.Knowledge.known c.args.known.now in
    let s = c.args.stage.now in
    let a = slice_index_or c.args.args.now 0 (Var 0) in
    let b = slice_index_or c.args.args.now 1 (Var 0) in
    subst (λ (args : List Term). IfSome c.listed.result (λ next. Narrows known s (Call false false (Reference c.args.reference) args) next.variable next.elements))
    (two_terms c.args.args.now c.if-args-ne2.false)
    (Narrows-found known s (Call false false (Reference c.args.reference) (a ∷ b ∷ [])) c.in-Some.v c.ends_from.result c.listed.result c.listed.ensures.variable c.listed.ensures.elements
    (Narrows-to known s c.args.reference a b c.in-Some.v c.in-Some.x c.ends_from.result c.in-Some.ensures.variable c.in-Some.ensures.other c.ends_from.ensures.below
    c.ends_from.ensures.complete))

pub returns : goal.returns
returns g c =
    let known = g.K.Knowledge.known c.args.known.now in
    let s = c.args.stage.now in
    let a = slice_index_or c.args.args.now 0 (Var 0) in
    let b = slice_index_or c.args.args.now 1 (Var 0) in
    subst (λ (args : List Term). IfSome c.listed-2.result (λ next. Narrows known s (Call false false (Reference c.args.reference) args) next.variable next.elements))
    (two_terms c.args.args.now c.if-args-ne2.false)
    (Narrows-found known s (Call false false (Reference c.args.reference) (a ∷ b ∷ [])) c.in_ok-v.v c.ends_into.result c.listed-2.result c.listed-2.ensures.variable c.listed-2.ensures.elements
    (Narrows-from known s c.args.reference a b c.in_ok-v.v c.in_ok-v.x c.ends_into.result c.in_ok-v.ensures.variable c.in_ok-v.ensures.other c.ends_into.ensures.below
    c.ends_into.ensures.complete))

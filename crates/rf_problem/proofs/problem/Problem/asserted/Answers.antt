use Rattle.std.proofs.Common.{◌∙◌, ◌≤◌, ap, subst, sym, unwrap_or, Option}
use Rattle.std.specs.Option.{option_or}
use Rattle.rf_bounds.specs.declared.TheConstants.{MOST_PARAMETERS}
use Rattle.rf_values.specs.declared.truth.Truth.{Truth}
use Rattle.rf_values.specs.declared.truth.Truth.TheVariants.{Unknown}
use Rattle.rf_problem.specs.Merged.{joined}
use Rattle.rf_problem.specs.declared.heard.Heard.{Heard}
use Rattle.rf_problem.proofs.ArityLemmas.{arity_of-few}
use Rattle.rf_problem.proofs.HeardLemmas.{asserted-heard}
use Rattle.rf_problem.proofs.problem.Problem.asserted.Goals as goal

pub heard-heard-requires : goal.heard-heard-requires
heard-heard-requires c = subst (λ n. n ≤ MOST_PARAMETERS) (sym c.requires) (arity_of-few c.args.self.now.predicates c.args.symbol c.args.self.now.predicates_fit.arities)

pub returns : goal.returns
returns c =
    c.unwrap_or.ensures
    ∙ ap (λ (known : Option Truth). unwrap_or known Unknown) (c.or.ensures ∙ ap (λ (known : Option Truth). option_or known c.heard-heard.result.default) c.joined-ordinary.ensures)
    ∙ ap (λ (h : Heard). unwrap_or (option_or (joined h.ordinary c.unwritten.result) h.default) Unknown) c.heard-heard.ensures
    ∙ asserted-heard c.args.self.now c.args.symbol c.args.tuple.now c.unwritten.result c.unwritten.ensures

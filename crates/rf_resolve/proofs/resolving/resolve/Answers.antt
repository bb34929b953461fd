use Rattle.std.proofs.Common.{subst, sym}
use Rattle.rf_names.specs.Declarations.{AreFew, Declared}
use Rattle.rf_names.proofs.FewDeclared.{few_declared}
use Rattle.rf_resolve.proofs.Made.{answers_for}
use Rattle.rf_resolve.proofs.resolving.resolve.Goals as goal

pub returns : goal.returns
returns c = record {
  answers = answers_for c.args.ast.now _ c.in_ok-declared.ensures c.resolve_declared.result
      c.resolve_declared.ensures.sound c.resolve_declared.ensures.ok c.resolve_declared.ensures.fault;
}

pub resolve_declared-requires-clause-few : goal.resolve_declared-requires-clause-few
resolve_declared-requires-clause-few c =
    subst (λ (d : Declared). AreFew d) (sym c.in_ok-declared.ensures) (few_declared c.args.ast.now c.requires.short)

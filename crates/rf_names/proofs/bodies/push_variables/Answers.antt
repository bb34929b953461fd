use Rattle.std.proofs.Common.{◌∙◌, Bool, ap, map, not, sym}
use Rattle.rf_syntax.specs.declared.name.Name.{Name}
use Rattle.rf_names.specs.Declarations.{is_atom_argument}
use Rattle.rf_names.proofs.LoopSteps.{kept_lent, left_lent}
use Rattle.rf_names.proofs.bodies.push_variables.Goals as goal
use Rattle.rf_names.proofs.bodies.push_variables.Goals.{then-not-is_atom+in_ok-push, else-not-is_atom}

pub loop-name-preserved : goal.loop-name-preserved
loop-name-preserved c =
    let is_variable : Name → Bool = λ n. not (is_atom_argument c.args.arguments.now.names.now.declared.now.atoms c.args.arguments.now.params.now n) in
    let before = map (λ n. n.now) c.args.out.now.items in
    elim c.if-not-is_atom.branch [
      | then-not-is_atom+in_ok-push w ↦ rw w.out-is
          (kept_lent is_variable before c.loop-name.out.items w.push.new.self.items c.args.names.now c.loop-name.name-index c.name-item.result c.loop-name-test.true c.name-item.is
          c.loop-name.invariant (ap not (sym c.is_atom.ensures ∙ w.if-not-is_atom.true)) w.in_ok-push.ensures.items)
      | else-not-is_atom w ↦ rw w.out-is
          (left_lent is_variable before c.loop-name.out.items c.args.names.now c.loop-name.name-index c.name-item.result c.loop-name-test.true c.name-item.is
          c.loop-name.invariant (ap not (sym c.is_atom.ensures ∙ w.if-not-is_atom.false)))
    ]

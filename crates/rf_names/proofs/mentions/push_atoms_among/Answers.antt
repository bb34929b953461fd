use Rattle.std.proofs.Common.{◌∙◌, Bool, map, sym}
use Rattle.rf_syntax.specs.declared.name.Name.{Name}
use Rattle.rf_names.specs.Gathering.{is_atom_among}
use Rattle.rf_names.proofs.LoopSteps.{kept_lent, left_lent}
use Rattle.rf_names.proofs.mentions.push_atoms_among.Goals as goal
use Rattle.rf_names.proofs.mentions.push_atoms_among.Goals.{then-is_atom_among+in_ok-push, else-is_atom_among}

pub loop-name-preserved : goal.loop-name-preserved
loop-name-preserved c =
    let is_atom : Name → Bool = is_atom_among (map (λ n. n.now) c.args.atoms.now.names.items) (map (λ n. n.now) c.args.params.now.names.items) in
    let before = map (λ n. n.now) c.args.out.now.items in
    elim c.if-is_atom_among.branch [
      | then-is_atom_among+in_ok-push w ↦ rw w.out-is
          (kept_lent is_atom before c.loop-name.out.items w.push.new.self.items c.args.names.now c.loop-name.name-index c.name-item.result c.loop-name-test.true c.name-item.is
          c.loop-name.invariant (sym c.is_atom_among.ensures ∙ w.if-is_atom_among.true) w.in_ok-push.ensures.items)
      | else-is_atom_among w ↦ rw w.out-is
          (left_lent is_atom before c.loop-name.out.items c.args.names.now c.loop-name.name-index c.name-item.result c.loop-name-test.true c.name-item.is
          c.loop-name.invariant (sym c.is_atom_among.ensures ∙ w.if-is_atom_among.false))
    ]

use Rattle.std.proofs.Common.{◌∙◌, sym}
use Rattle.rf_rules.proofs.ContainmentLemmas.{AreContainers-with_container, Covers-with_container, covers-with_container}
use Rattle.rf_rules.proofs.containment.possible.with_possible.Goals as goal

pub returns-then-is_possible : goal.returns-then-is_possible
returns-then-is_possible g c = record {
  possible =
      rw c.with.ensures (AreContainers-with_container (g.F.Facts.problem c.args.view.now) (g.F.Facts.state c.args.view.now) c.args.b c.args.found c.args.q c.args.c
      c.requires.possible (record {
        reference = c.requires.reference;
        object = c.requires.from;
        possible = sym c.is_possible.ensures ∙ c.if-is_possible.true;
      }));
  kept = rw c.with.ensures (Covers-with_container c.args.found c.args.q c.args.c);
  here = λ h. rw c.with.ensures (covers-with_container c.args.found c.args.q c.args.c);
}

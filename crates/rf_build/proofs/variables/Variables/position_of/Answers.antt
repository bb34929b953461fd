use Rattle.std.proofs.Common.{◌∙◌, List, ap, sym}
use Rattle.std.specs.Prelude.{position}
use denote.Ref.{Bor}
use Rattle.rf_syntax.specs.declared.name.Name.{Name}
use Rattle.rf_names.specs.Texts.{reads}
use Rattle.rf_build.proofs.KnownVariables.{position_of_made}
use Rattle.rf_build.proofs.variables.Variables.position_of.Goals as goal

pub returns : goal.returns
returns c =
    rw (← c.self.view_is)
    (c.position_among.ensures
    ∙ ap (λ (ns : List (Bor Name)). position (λ n. reads c.args.text.now n.now) ns)
    c.as_slice.ensures.value
    ∙ sym (position_of_made (reads c.args.text.now) (λ (n : Bor Name). n.now) _))

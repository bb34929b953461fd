use Rattle.std.proofs.Common.{◌≡◌, ◌∙◌, sym, ap, arith, length, map}
use Rattle.std.proofs.lemmas.List.{length-map}
use Rattle.rf_names.specs.Tables.{numbers_among}
use Rattle.rf_names.proofs.SuperLemmas.{extends_marked}
use Rattle.rf_names.proofs.class_tables.ClassTables.above.Goals as goal

pub returns-clause-value : goal.returns-clause-value
returns-clause-value c =
    let d = c.args.self.now.declared.now in
    let supers = c.args.self.now.supers.items in
    let many : length supers ≡ length d.classes =
    sym (length-map supers (λ list. list.items)) ∙ ap length c.args.self.now.of_supers ∙ length-map d.classes (λ x. numbers_among (map (λ y. y.name) d.classes) x.supers) in
    λ k within. (rw c.as_slice.ensures.value at c.in_ok-marks.ensures.value) k (omega (arith, many))
    ∙ extends_marked d (map (λ list. list.items) supers) (length supers) c.args.self.now.of_supers many c.args.class k

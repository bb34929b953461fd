use Rattle.std.proofs.Common.{◌≡◌, ◌∙◌, true, sym, ap, length, map}
use Rattle.std.proofs.lemmas.List.{length-map}
use Rattle.rf_names.specs.Tables.{numbers_among}
use Rattle.rf_names.proofs.RankLemmas.{no_walk_back-from_ranks}
use Rattle.rf_names.proofs.SuperLemmas.{extends_marked}
use Rattle.rf_names.proofs.class_tables.ClassTables.has_ranks.Goals as goal

pub returns : goal.returns
returns c =
    let d = c.args.self.now.declared.now in
    let supers = c.args.self.now.supers.items in
    let lists = map (λ list. list.items) supers in
    let many : length supers ≡ length d.classes =
    sym (length-map supers (λ list. list.items)) ∙ ap length c.args.self.now.of_supers ∙ length-map d.classes (λ x. numbers_among (map (λ y. y.name) d.classes) x.supers) in
    λ clear k. sym (extends_marked d lists (length supers) c.args.self.now.of_supers many k k)
    ∙ no_walk_back-from_ranks lists (λ _. true) ((rw c.as_slice.ensures.value at c.in_ok-yes.ensures) clear) (length supers) k

-- What is gathered from one statement more.
use Rattle.std.proofs.Common.{◌≡◌, ◌<◌, ◌+◌, ◌∙◌, ℕ, List, [], ◌∷◌, ◌++◌, length, take, get_or, refl, sym, ap}
use Rattle.std.proofs.lemmas.List.{take_more}
use Rattle.std.specs.List.{flat_map}
use Rattle.rf_syntax.specs.declared.name.Name.{Name}
use Rattle.rf_syntax.specs.declared.statement.Statement.{Statement}
use Rattle.rf_names.specs.Declarations.{ClassDecl, Declared, ReferenceDecl, assertions_in, atoms_in, bounds_in, classes_in, declared_by, items_in, mentions_in, names_in, predicates_in, references_of}
use Rattle.rf_names.specs.Gathering.{gathered_by, with_statement}
use Rattle.rf_names.proofs.LoopSteps.{flat_map_snoc}

gathered_snoc : (atoms : List Name) (ss : List Statement) (s : Statement) → gathered_by atoms (ss ++ s ∷ []) ≡ with_statement (gathered_by atoms ss) s
gathered_snoc atoms ss s =
    rw (flat_map_snoc names_in ss s, flat_map_snoc classes_in ss s, flat_map_snoc predicates_in ss s, flat_map_snoc items_in ss s, flat_map_snoc bounds_in ss s, flat_map_snoc assertions_in ss s, flat_map_snoc (mentions_in atoms) ss s) refl

-- a loop's step
pub gathered_more :
    (atoms : List Name) (ss : List Statement) (i : ℕ) (s : Statement) → i < length ss → s ≡ get_or ss i s →
    with_statement (gathered_by atoms (take i ss)) s ≡ gathered_by atoms (take (i + 1) ss)
gathered_more atoms ss i s below is =
    ap (with_statement (gathered_by atoms (take i ss))) is
    ∙ sym (gathered_snoc atoms (take i ss) (get_or ss i s))
    ∙ ap (gathered_by atoms) (sym (take_more ss i s below))

-- all that is gathered, with the references
pub declared_whole :
    (ss all : List Statement) (inside d : Declared) (atoms : List Name) (references : List ReferenceDecl) (classes : List ClassDecl) → ss ≡ all → inside ≡ d →
    d ≡ gathered_by atoms ss → atoms ≡ flat_map atoms_in ss → classes ≡ inside.classes → references ≡ references_of 0 classes →
    record inside { references = references } ≡ declared_by all
declared_whole ss all inside d atoms references classes same seen gathered are read made =
    ap (λ rs. record inside { references = rs }) (made ∙ ap (references_of 0) read)
    ∙ ap (λ (x : Declared). record x { references = references_of 0 x.classes }) (seen ∙ gathered)
    ∙ ap (λ ns. record (gathered_by ns ss) { references = references_of 0 (flat_map classes_in ss) }) are
    ∙ ap declared_by same

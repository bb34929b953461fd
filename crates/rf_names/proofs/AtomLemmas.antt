-- The atoms that the bodies of a predicate name.
use Rattle.std.proofs.Common.{◌≡◌, ◌∙◌, List, ◌∷◌, ◌++◌, ap, append_assoc}
use Rattle.std.specs.List.{flat_map}
use Rattle.rf_syntax.specs.declared.name.Name.{Name}
use Rattle.rf_syntax.specs.declared.non_empty.NonEmpty.{NonEmpty}
use Rattle.rf_syntax.specs.declared.predicate.BodyLiteral.{BodyLiteral}
use Rattle.rf_syntax.specs.declared.predicate.Param.{Param}
use Rattle.rf_names.specs.Declarations.{atoms_in_clause, items_of, param_names}
use Rattle.rf_names.specs.Gathering.{atoms_among}

pub body_atoms :
    (atoms known : List Name) (params : List Param) (first : NonEmpty BodyLiteral) (rest : List (NonEmpty BodyLiteral)) (old mid new : List Name) →
    known ≡ param_names params → mid ≡ old ++ atoms_among atoms known (items_of first) → new ≡ mid ++ flat_map (λ c. atoms_among atoms known (items_of c)) rest →
    new ≡ old ++ flat_map (λ c. atoms_in_clause atoms params (items_of c)) (first ∷ rest)
body_atoms atoms known params first rest old mid new are one more =
    more ∙ ap (λ ns. ns ++ flat_map (λ c. atoms_among atoms known (items_of c)) rest) one
    ∙ append_assoc old (atoms_among atoms known (items_of first)) (flat_map (λ c. atoms_among atoms known (items_of c)) rest)
    ∙ ap (λ ks. old ++ flat_map (λ c. atoms_among atoms ks (items_of c)) (first ∷ rest)) are

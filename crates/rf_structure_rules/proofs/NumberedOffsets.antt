-- The offsets of items that are counted from the first on.
use Rattle.std.proofs.Common.{◌≡◌, ◌<◌, ◌+◌, ℕ, suc, Bool, true, false, Option, None, Some, List, [], ◌∷◌, ◌++◌, length, take, get_or, refl, sym, ap, ◌∙◌}
use Rattle.rf_names.specs.Declarations.{ClassDecl, Declared, ReferenceDecl}
use Rattle.rf_names.specs.Offsets.{least_of, lesser, offset_if}
use Rattle.rf_names.specs.LookUp.{extends_somehow}
use Rattle.rf_structure_rules.specs.StructureOffsets.{bad_opposite, bad_opposites_from, cycle_offsets, cycles_from}
use Rattle.rf_names.proofs.LeastOffsets.{least_of_numbered, lesser_none}

-- a loop's step over the references
pub least_of_opposites_more : (d : Declared) (rs : List ReferenceDecl) (i : ℕ) (r : ReferenceDecl) → i < length rs → r ≡ get_or rs i r → least_of (bad_opposites_from d 0 (take (i + 1) rs)) ≡ lesser (least_of (bad_opposites_from d 0 (take i rs))) (least_of (bad_opposite d i r r.feature.opposite))
least_of_opposites_more d rs i r below is =
    least_of_numbered (λ k (x : ReferenceDecl). bad_opposite d k x x.feature.opposite) rs i r below is

-- a loop's step over the classes
pub least_of_cycles_more : (d : Declared) (cs : List ClassDecl) (i : ℕ) (c : ClassDecl) → i < length cs → c ≡ get_or cs i c → least_of (cycles_from d 0 (take (i + 1) cs)) ≡ lesser (least_of (cycles_from d 0 (take i cs))) (least_of (offset_if (extends_somehow d i i) c.name.at))
least_of_cycles_more d cs i c below is =
    least_of_numbered (λ k (x : ClassDecl). offset_if (extends_somehow d k k) x.name.at) cs i c below is

-- where no class extends itself, there is no offset of a cycle
no_cycles : (d : Declared) → ((c : ℕ) → extends_somehow d c c ≡ false) → (n : ℕ) (cs : List ClassDecl) → cycles_from d n cs ≡ []
no_cycles d clear n [] = refl
no_cycles d clear n (c ∷ cs) = ap (λ b. offset_if b c.name.at ++ cycles_from d (suc n) cs) (clear n) ∙ no_cycles d clear (suc n) cs

pub no_cycle : (d : Declared) → ((c : ℕ) → extends_somehow d c c ≡ false) → None ≡ least_of (cycle_offsets d)
no_cycle d clear = ap least_of (sym (no_cycles d clear 0 d.classes))

-- an offset that isn't the lesser changes nothing, whether the rule is broken there or not
pub no_lesser : (least : Option ℕ) (broken : Bool) (at : ℕ) → lesser least (Some at) ≡ least → lesser least (least_of (offset_if broken at)) ≡ least
no_lesser least true at same = same
no_lesser least false at same = lesser_none least

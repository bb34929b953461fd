-- The names of a list of objects, one after another.
use Rattle.std.proofs.Common.{◌≡◌, ◌∙◌, ◌<◌, ◌+◌, ℕ, add-one, arith, List, [], ◌∷◌, ◌++◌, codes, refl, sym, ap, length, get_or, take}
use Rattle.std.proofs.lemmas.List.{append_assoc, length-take-le}
use Rattle.std.proofs.Math.Seq.{take-suc}
use Rattle.rf_problem.specs.declared.problem.Problem.{Problem}
use Rattle.rf_graph.specs.Document.{object_name}
use Rattle.rf_valuation.specs.Separator.{separator}
use Rattle.rf_valuation.specs.Valuation.{object_names}

-- with one name more at the end
names-push :
    (p : Problem) (xs : List ℕ) (o : ℕ)
    → object_names p (xs ++ o ∷ []) ≡ object_names p xs ++ separator (length xs) ++ object_name p o
names-push p [] o = refl
names-push p (x ∷ []) o = refl
names-push p (x ∷ y ∷ t) o =
    ap (λ names. object_name p x ++ codes ", " ++ names) (names-push p (y ∷ t) o)
    ∙ sym (append_assoc (object_name p x ++ codes ", ") (object_names p (y ∷ t) ++ codes ", ") (object_name p o))
    ∙ ap (λ names. names ++ object_name p o) (sym (append_assoc (object_name p x ++ codes ", ") (object_names p (y ∷ t)) (codes ", ")))

-- the names of one object more of a list, after what stood before them
pub names-more :
    (p : Problem) (objects : List ℕ) (n d : ℕ) (old before between new : List ℕ) → n < length objects
    → before ≡ old ++ object_names p (take n objects) → between ≡ before ++ separator n
    → new ≡ between ++ object_name p (get_or objects n d)
    → new ≡ old ++ object_names p (take (n + 1) objects)
names-more p objects n d old before between new there was apart is =
    let front = take n objects in
    let names = object_names p front in
    let name = object_name p (get_or objects n d) in
    let many : length front ≡ n = length-take-le n objects (omega (arith, there)) in
    let more : object_names p (take (n + 1) objects) ≡ names ++ separator n ++ name =
    ap (object_names p) (ap (λ k. take k objects) (add-one n) ∙ take-suc objects n d there)
    ∙ names-push p front (get_or objects n d)
    ∙ ap (λ k. names ++ separator k ++ name) many in
    is
    ∙ ap (λ bytes. bytes ++ name) (apart ∙ ap (λ bytes. bytes ++ separator n) was ∙ append_assoc old names (separator n))
    ∙ append_assoc old (names ++ separator n) name
    ∙ ap (λ bytes. old ++ bytes) (sym more)

-- The least offset of lists that are joined, and of one list more in a loop.
use Rattle.std.proofs.Common.{◌≡◌, ◌<◌, ◌+◌, ℕ, List, [], ◌∷◌, ◌++◌, suc, length, map, take, get_or, min, Option, None, Some, arith, refl, sym, ap, ◌∙◌, append_assoc, append-nil}
use Rattle.std.proofs.lemmas.Grind.{common_steps}
use Rattle.std.proofs.lemmas.List.{length-take-le, take_more}
use Rattle.std.proofs.lemmas.List.Concat.{flat_map-append}
use Rattle.std.proofs.lemmas.List.Folds.{flat_map-map}
use Rattle.std.specs.List.{flat_map}
use Rattle.rf_syntax.specs.declared.predicate.BodyLiteral.{BodyLiteral}
use Rattle.rf_syntax.specs.declared.predicate.Param.{Param}
use Rattle.rf_names.specs.Declarations.{Declared, PredicateDecl}
use Rattle.rf_names.specs.LookUp.{SensedDecl, sensed}
use Rattle.rf_names.specs.Offsets.{least_of, lesser, offsets_from, offsets_in_clauses}

lesser_assoc : (a b c : Option ℕ) → lesser (lesser a b) c ≡ lesser a (lesser b c)
lesser_assoc None b c = refl
lesser_assoc (Some a) None c = refl
lesser_assoc (Some a) (Some b) None = refl
lesser_assoc (Some a) (Some b) (Some c) = let e : min (min a b) c ≡ min a (min b c) = omega arith in ap (λ n. Some n) e

pub lesser_none : (a : Option ℕ) → lesser a None ≡ a
lesser_none None = refl
lesser_none (Some a) = refl

pub least_of_append : (xs ys : List ℕ) → least_of (xs ++ ys) ≡ lesser (least_of xs) (least_of ys)
least_of_append [] ys = refl
least_of_append (x ∷ xs) ys =
    ap (lesser (Some x)) (least_of_append xs ys) ∙ sym (lesser_assoc (Some x) (least_of xs) (least_of ys))

-- the least offset of two lists, where the least offsets of both are known
pub least_join : (xs ys : List ℕ) (a b : Option ℕ) → a ≡ least_of xs → b ≡ least_of ys → lesser a b ≡ least_of (xs ++ ys)
least_join xs ys a b first second = rw (first, second) (sym (least_of_append xs ys))

-- the offsets in one more item
pub least_of_snoc : {X : Type 0} (f : X → List ℕ) (xs : List X) (x : X) → least_of (flat_map f (xs ++ x ∷ [])) ≡ lesser (least_of (flat_map f xs)) (least_of (f x))
least_of_snoc f xs x =
    ap least_of (flat_map-append f xs (x ∷ []))
    ∙ least_of_append (flat_map f xs) (flat_map f (x ∷ []))
    ∙ ap (lesser (least_of (flat_map f xs))) (least_of_append (f x) [] ∙ lesser_none (least_of (f x)))

-- a loop's step over a list
pub least_of_more : {X : Type 0} (f : X → List ℕ) (xs : List X) (i : ℕ) (x : X) → i < length xs → x ≡ get_or xs i x → lesser (least_of (flat_map f (take i xs))) (least_of (f x)) ≡ least_of (flat_map f (take (i + 1) xs))
least_of_more f xs i x below is =
    sym (ap (λ ys. least_of (flat_map f ys)) (take_more xs i x below)
    ∙ least_of_snoc f (take i xs) (get_or xs i x)
    ∙ ap (λ y. lesser (least_of (flat_map f (take i xs))) (least_of (f y))) (sym is))

-- the offsets in one more item, by its number
offsets_from_snoc : {T : Type 0} (f : ℕ → T → List ℕ) (n m : ℕ) (xs : List T) (x : T) → m ≡ n + length xs → offsets_from f n (xs ++ x ∷ []) ≡ offsets_from f n xs ++ f m x
offsets_from_snoc f n m [] x is = let e : m ≡ n = omega arith in rw e (append-nil (f n x))
offsets_from_snoc f n m (y ∷ xs) x is =
    let e : m ≡ suc n + length xs = omega arith in
    ap (λ rest. f n y ++ rest) (offsets_from_snoc f (suc n) m xs x e)
    ∙ sym (append_assoc (f n y) (offsets_from f (suc n) xs) (f m x))

-- a loop's step over a list, by numbers
pub least_of_numbered : {T : Type 0} (f : ℕ → T → List ℕ) (xs : List T) (i : ℕ) (x : T) → i < length xs → x ≡ get_or xs i x → least_of (offsets_from f 0 (take (i + 1) xs)) ≡ lesser (least_of (offsets_from f 0 (take i xs))) (least_of (f i x))
least_of_numbered f xs i x below is =
    let same : length (take i xs) ≡ i = length-take-le i xs (omega arith) in
    let here : i ≡ 0 + length (take i xs) = omega arith in
    ap (λ ys. least_of (offsets_from f 0 ys)) (take_more xs i x below)
    ∙ ap least_of (offsets_from_snoc f 0 i (take i xs) (get_or xs i x) here)
    ∙ least_of_append (offsets_from f 0 (take i xs)) (f i (get_or xs i x))
    ∙ ap (λ y. lesser (least_of (offsets_from f 0 (take i xs))) (least_of (f i y))) (sym is)

-- offsets in assertions of which is known what their symbols stand for
pub least_of_sensed : (d : Declared) (f : SensedDecl → List ℕ) (known : List SensedDecl) (at : Option ℕ) → at ≡ least_of (flat_map f known) → known ≡ map (sensed d) d.assertions → at ≡ least_of (flat_map (λ a. f (sensed d a)) d.assertions)
least_of_sensed d f known at least are =
    least ∙ ap (λ xs. least_of (flat_map f xs)) are ∙ ap least_of (flat_map-map f (sensed d) d.assertions)

-- offsets in clauses that don't rest on the numbers of predicates
pub in_clauses : (f : List Param → List BodyLiteral → List ℕ) (n : ℕ) (ps : List PredicateDecl) → offsets_in_clauses (λ _. f) n ps ≡ flat_map (λ p. flat_map (f p.params) p.clauses) ps
in_clauses f n [] = refl
in_clauses f n (p ∷ ps) = ap (λ ats. flat_map (f p.params) p.clauses ++ ats) (in_clauses f (suc n) ps)

-- what a loop that keeps the least offset so far needs, and the end of a function that joins offsets
pub ruleset least_steps = (common_steps, least_of_append, least_of_snoc)

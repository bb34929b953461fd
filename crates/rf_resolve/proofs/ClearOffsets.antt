-- What it says of each part that a list of offsets is empty.
use Rattle.std.proofs.Common.{◌≡◌, ℕ, zero, suc, ◌+◌, ◌≤◌, ◌<◌, Bool, true, false, List, [], ◌∷◌, ◌++◌, length, get_or, All, refl, ap, subst, arith}
use Rattle.std.specs.List.{flat_map}
use Rattle.std.proofs.lemmas.List.Elements.{All-cons, All-nil}
use Rattle.rf_syntax.specs.declared.name.Name.{Name}
use Rattle.rf_syntax.specs.declared.predicate.BodyLiteral.{BodyLiteral}
use Rattle.rf_syntax.specs.declared.predicate.Param.{Param}
use Rattle.rf_names.specs.Declarations.{PredicateDecl}
use Rattle.rf_limits.specs.Limits.{first_past}
use Rattle.rf_names.specs.Offsets.{offset_if, offsets_in_clauses, offsets_in_literals}

-- a list with a first item isn't empty
pub cons_not_nil : {X : Type 0} (x : X) (xs : List X) → x ∷ xs ≡ [] → ⊥
cons_not_nil x xs e = let long = ap length e in absurd (omega arith)

-- both parts of an empty list are empty
pub nil-left : {X : Type 0} (xs ys : List X) → xs ++ ys ≡ [] → xs ≡ []
nil-left [] ys e = refl
nil-left (x ∷ xs) ys e = absurd (cons_not_nil x (xs ++ ys) e)

pub nil-right : {X : Type 0} (xs ys : List X) → xs ++ ys ≡ [] → ys ≡ []
nil-right [] ys e = e
nil-right (x ∷ xs) ys e = absurd (cons_not_nil x (xs ++ ys) e)

-- so are all
pub nil-each : {X A : Type 0} (f : X → List A) (xs : List X) → flat_map f xs ≡ [] → All (λ x. f x ≡ []) xs
nil-each f [] e = All-nil (λ x. f x ≡ [])
nil-each f (x ∷ xs) e =
    All-cons (λ y. f y ≡ []) x xs (nil-left (f x) (flat_map f xs) e) (nil-each f xs (nil-right (f x) (flat_map f xs) e))

-- no offset, so it isn't broken there
pub offset_if-nil : (broken : Bool) (at : ℕ) → offset_if broken at ≡ [] → broken ≡ false
offset_if-nil true at e = absurd (cons_not_nil at [] e)
offset_if-nil false at e = refl

-- no offset in clauses, so none in each clause of each predicate
pub offsets_in_clauses-nil :
    (offsets : ℕ → List Param → List BodyLiteral → List ℕ) (n : ℕ) (ps : List PredicateDecl) → offsets_in_clauses offsets n ps ≡ [] →
    (k : ℕ) (d : PredicateDecl) → k < length ps → All (λ c. offsets (n + k) (get_or ps k d).params c ≡ []) (get_or ps k d).clauses
offsets_in_clauses-nil offsets n [] e k d l = absurd (omega arith)
offsets_in_clauses-nil offsets n (p ∷ ps) e zero d l =
    let same : n ≡ n + 0 = omega arith in
    subst (λ m. All (λ c. offsets m p.params c ≡ []) p.clauses) same
    (nil-each (offsets n p.params) p.clauses (nil-left (flat_map (offsets n p.params) p.clauses) (offsets_in_clauses offsets (suc n) ps) e))
offsets_in_clauses-nil offsets n (p ∷ ps) e (suc k) d l =
    let same : suc n + k ≡ n + suc k = omega arith in
    subst (λ m. All (λ c. offsets m (get_or ps k d).params c ≡ []) (get_or ps k d).clauses) same
    (offsets_in_clauses-nil offsets (suc n) ps (nil-right (flat_map (offsets n p.params) p.clauses) (offsets_in_clauses offsets (suc n) ps) e) k d (omega arith))

-- the same by the number of the predicate
pub offsets_in_clauses-each :
    (offsets : ℕ → List Param → List BodyLiteral → List ℕ) (ps : List PredicateDecl) → offsets_in_clauses offsets 0 ps ≡ [] →
    (k : ℕ) (d : PredicateDecl) → k < length ps → All (λ c. offsets k (get_or ps k d).params c ≡ []) (get_or ps k d).clauses
offsets_in_clauses-each offsets ps e k d l =
    let same : 0 + k ≡ k = omega arith in
    subst (λ m. All (λ c. offsets m (get_or ps k d).params c ≡ []) (get_or ps k d).clauses) same (offsets_in_clauses-nil offsets 0 ps e k d l)

-- no offset in literals, so none in each literal
pub offsets_in_literals-each :
    (offsets : ℕ → BodyLiteral → List ℕ) (ps : List PredicateDecl) → offsets_in_literals offsets ps ≡ [] →
    (k : ℕ) (d : PredicateDecl) → k < length ps → All (λ c. All (λ l. offsets k l ≡ []) c) (get_or ps k d).clauses
offsets_in_literals-each offsets ps e k d l j c m =
    nil-each (offsets k) (get_or (get_or ps k d).clauses j c)
    (offsets_in_clauses-each (λ n params clause. flat_map (offsets n) clause) ps e k d l j c m)

-- nothing past a limit, so no more than that
pub few-from_first_past : {X : Type 0} (name : X → Name) (limit : ℕ) (xs : List X) → first_past limit name xs ≡ [] → length xs ≤ limit
few-from_first_past name limit [] e = omega arith
few-from_first_past name zero (x ∷ xs) e = absurd (cons_not_nil (name x).at [] e)
few-from_first_past name (suc limit) (x ∷ xs) e = let few = few-from_first_past name limit xs e in omega arith

pub nil-parts : {X : Type 0} (xs ys : List X) → xs ++ ys ≡ [] → (xs ≡ []) × (ys ≡ [])
nil-parts xs ys e = (nil-left xs ys e, nil-right xs ys e)

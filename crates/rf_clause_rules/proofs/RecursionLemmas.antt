-- Calls in lists, and where they lead back.
use Rattle.std.proofs.Common.{◌≡◌, ◌<◌, ◌≤◌, ◌+◌, ◌∙◌, ℕ, zero, suc, Bool, true, false, List, [], ◌∷◌, ◌++◌, length, map, take, get_or, Option, None, Some, arith, refl, sym, ap, subst, inl, inr}
use Rattle.std.specs.Prelude.{◌==◌, ◌&&◌, ◌||◌, nat_lt}
use Rattle.std.specs.List.{flat_map, list_any}
use Rattle.std.proofs.lemmas.Bool.{cases_Bool, ltb-false, ltb-true}
use Rattle.std.proofs.lemmas.List.{append-nil, get_or_default, get_or_past, length-map, take_all}
use Rattle.std.proofs.lemmas.List.Concat.{flat_map-append}
use Rattle.std.proofs.lemmas.List.Folds.{list_any-append}
use Rattle.rf_closure.specs.Along.{leads}
use Rattle.rf_finite.proofs.Walks.{walk_below-same}
use Rattle.rf_finite.specs.Walks.{walk_below}
use Rattle.rf_syntax.specs.declared.predicate.BodyLiteral.{BodyLiteral}
use Rattle.rf_syntax.specs.declared.predicate.BodyLiteral.TheVariants.{Call, Same, Differ}
use Rattle.rf_names.specs.Bodies.{called_by, calls_directly, is_called_from, leads_to}
use Rattle.rf_names.specs.LookUp.{is_number, no_predicate_decl, predicate_decl_at}
use Rattle.rf_clause_rules.specs.Calls.{AreCallers, call_at, calls_among, calls_in, calls_of, is_back_at, is_call_of}
use Rattle.rf_names.specs.Declarations.{Declared, PredicateDecl}
use Rattle.rf_names.specs.Offsets.{least_of, lesser, offset_if, offsets_in_literals}
use Rattle.rf_clause_rules.specs.ClauseOffsets.{leads_back_to, recursive_literal, recursive_offsets}
use Rattle.rf_clause_rules.specs.declared.calls.PredicateCall.{PredicateCall}
use Rattle.rf_names.proofs.LeastOffsets.{least_of_numbered}

-- lists of lists
flat_map-flat : {X Y Z : Type 0} (g : Y → List Z) (f : X → List Y) (xs : List X) →
    flat_map g (flat_map f xs) ≡ flat_map (λ x. flat_map g (f x)) xs
flat_map-flat g f [] = refl
flat_map-flat g f (x ∷ xs) = flat_map-append g (f x) (flat_map f xs)
    ∙ ap (λ ys. flat_map g (f x) ++ ys) (flat_map-flat g f xs)

flat_map-same : {X Y : Type 0} (f g : X → List Y) → ((x : X) → f x ≡ g x) → (xs : List X) →
    flat_map f xs ≡ flat_map g xs
flat_map-same f g same [] = refl
flat_map-same f g same (x ∷ xs) = ap (λ ys. ys ++ flat_map f xs) (same x)
    ∙ ap (λ ys. g x ++ ys) (flat_map-same f g same xs)

any-flat : {X Y : Type 0} (p : Y → Bool) (f : X → List Y) (xs : List X) →
    list_any p (flat_map f xs) ≡ list_any (λ x. list_any p (f x)) xs
any-flat p f [] = refl
any-flat p f (x ∷ xs) = list_any-append p (f x) (flat_map f xs)
    ∙ ap (λ b. list_any p (f x) || b) (any-flat p f xs)

any-same : {X : Type 0} (p q : X → Bool) → ((x : X) → p x ≡ q x) → (xs : List X) → list_any p xs
    ≡ list_any q xs
any-same p q same [] = refl
any-same p q same (x ∷ xs) = ap (λ b. b || list_any p xs) (same x)
    ∙ ap (λ b. q x || b) (any-same p q same xs)

or_false : (b : Bool) → (b || false) ≡ b
or_false true = refl
or_false false = refl

module _ (d : Declared) where
  -- the calls in a literal are those that it makes
  any_at : (q : ℕ) (o : Option ℕ) (at : ℕ) → list_any (is_call_of q) (call_at o at) ≡ is_number q o
  any_at q None at = refl
  any_at q (Some n) at = or_false (n == q)

  any_in : (q : ℕ) (l : BodyLiteral) → list_any (is_call_of q) (calls_in d l)
      ≡ is_number q (called_by d l)
  any_in q (Call negated symbol closure args) =
      any_at q (called_by d (Call negated symbol closure args)) symbol.name.at
  any_in q (Same a b) = refl
  any_in q (Differ a b) = refl

  any_of : (q : ℕ) (p : PredicateDecl) → list_any (is_call_of q) (calls_of d p)
      ≡ list_any (λ clause. list_any (λ l. is_number q (called_by d l)) clause) p.clauses
  any_of q p =
      any-flat (is_call_of q) (calls_among d) p.clauses
      ∙ any-same (λ clause. list_any (is_call_of q) (calls_among d clause))
      (λ clause. list_any (λ l. is_number q (called_by d l)) clause)
      (λ clause. any-flat (is_call_of q) (calls_in d) clause
      ∙ any-same (λ l. list_any (is_call_of q) (calls_in d l)) (λ l. is_number q (called_by d l))
      (any_in q) clause)
      p.clauses

  made-at : (ps : List PredicateDecl) (p : ℕ) → get_or (map (calls_of d) ps) p []
      ≡ calls_of d (get_or ps p no_predicate_decl)
  made-at [] p = refl
  made-at (x ∷ ps) zero = refl
  made-at (x ∷ ps) (suc p) = made-at ps p

  directly : (q p : ℕ) → list_any (is_call_of q) (get_or (map (calls_of d) d.predicates) p [])
      ≡ calls_directly d p q
  directly q p = ap (list_any (is_call_of q)) (made-at d.predicates p)
      ∙ any_of q (predicate_decl_at d p)

  -- no walk leads to a number after them all
  no_call : (p q : ℕ) → length d.predicates ≤ q → calls_directly d q p ≡ false
  no_call p q past = ap (λ (x : PredicateDecl). list_any
      (λ clause. list_any (λ l. is_number p (called_by d l)) clause) x.clauses)
      (get_or_past d.predicates q no_predicate_decl past)

  no_walk : (k p q : ℕ) → length d.predicates ≤ q →
      walk_below (λ x y. calls_directly d y x) (λ x. true) k p q ≡ false
  no_walk zero p q past = no_call p q past
  no_walk (suc k) p q past =
      let first = no_walk k p q past in
      let second = no_walk k k q past in
      rw (first, second) (and_false (walk_below (λ x y. calls_directly d y x) (λ x. true) k p k))
    where
      and_false : (b : Bool) → (b && false) ≡ false
      and_false true = refl
      and_false false = refl

  -- the callers lead where calls come from
  module _ (callers : List (List ℕ)) (are : AreCallers (map (calls_of d) d.predicates) callers)
    where
      count : length callers ≡ length d.predicates
      count = are.count ∙ length-map d.predicates (calls_of d)

      walks : (p q : ℕ) → p < length d.predicates → q < length d.predicates →
          walk_below (leads callers) (λ x. true) (length callers) p q ≡ is_called_from d p q
      walks p q l m =
          let n : ℕ = length d.predicates in
          ap (λ k. walk_below (leads callers) (λ x. true) k p q) count
          ∙ walk_below-same (leads callers) (λ x y. calls_directly d y x) (λ x. true) (λ x. true) n
          (λ x y lx ly. let long = length-map d.predicates (calls_of d) in are.each x y (omega arith)
          ∙ directly x y) (λ x lx. refl) n p q (omega arith) l m

      back : (p q : ℕ) → p < length d.predicates → is_back_at callers p q ≡ leads_to d q p
      back p q l = elim (cases_Bool (nat_lt q (length d.predicates))) [
        | inl within ↦ (let here : nat_lt q (length callers) ≡ true = ap (nat_lt q) count ∙ within in
            rw here (ap (λ b. (q == p) || b) (walks p q l (ltb-true q (length d.predicates) within))))
        | inr past ↦ (let there : nat_lt q (length callers) ≡ false = ap (nat_lt q) count ∙ past in
            rw there (ap (λ b. (q == p) || b)
            (sym (no_walk (length d.predicates) p q (ltb-false q (length d.predicates) past)))))
      ]

      offsets_at : (p : ℕ) (o : Option ℕ) (at : ℕ) → p < length d.predicates →
          flat_map (λ c. offset_if (is_back_at callers p c.predicate) c.at) (call_at o at)
          ≡ offset_if (leads_back_to d p o) at
      offsets_at p None at l = refl
      offsets_at p (Some q) at l =
          append-nil (offset_if (is_back_at callers p q) at) ∙ ap (λ b. offset_if b at) (back p q l)

      offsets_in : (p : ℕ) (l : BodyLiteral) → p < length d.predicates →
          flat_map (λ c. offset_if (is_back_at callers p c.predicate) c.at) (calls_in d l)
          ≡ recursive_literal d p l
      offsets_in p (Call negated symbol closure args) l =
          offsets_at p (called_by d (Call negated symbol closure args)) symbol.name.at l
      offsets_in p (Same a b) l = refl
      offsets_in p (Differ a b) l = refl

      -- the offsets in the calls of a predicate are those in its literals
      pub offsets_of : (p : ℕ) (x : PredicateDecl) → p < length d.predicates →
          flat_map (λ c. offset_if (is_back_at callers p c.predicate) c.at) (calls_of d x)
          ≡ flat_map (λ clause. flat_map (recursive_literal d p) clause) x.clauses
      offsets_of p x l =
          let offset : PredicateCall → List ℕ =
          λ c. offset_if (is_back_at callers p c.predicate) c.at in
          flat_map-flat offset (calls_among d) x.clauses
          ∙ flat_map-same (λ clause. flat_map offset (calls_among d clause))
          (λ clause. flat_map (recursive_literal d p) clause)
          (λ clause. flat_map-flat offset (calls_in d) clause
          ∙ flat_map-same (λ m. flat_map offset (calls_in d m)) (recursive_literal d p)
          (λ m. offsets_in p m l) clause)
          x.clauses

-- a loop's step over the lists of calls
pub recursion_more :
    (d : Declared) (callers : List (List ℕ)) (lists : List (List PredicateCall)) →
    lists ≡ map (calls_of d) d.predicates → AreCallers lists callers →
    (i : ℕ) (calls : List PredicateCall) (least more : Option ℕ) → i < length lists →
    get_or lists i [] ≡ calls →
    least ≡ least_of (offsets_in_literals (recursive_literal d) (take i d.predicates)) →
    more ≡ least_of (flat_map (λ c. offset_if (is_back_at callers i c.predicate) c.at) calls) →
    lesser least more ≡ least_of
    (offsets_in_literals (recursive_literal d) (take (i + 1) d.predicates))
recursion_more d callers lists made are i calls least more below at before here =
    let p : PredicateDecl = get_or d.predicates i no_predicate_decl in
    let mine : AreCallers (map (calls_of d) d.predicates) callers =
    subst (λ ls. AreCallers ls callers) made are in
    let long : length lists ≡ length d.predicates = ap length made
    ∙ length-map d.predicates (calls_of d) in
    let less : i < length d.predicates = omega arith in
    let same : calls ≡ calls_of d p = sym at ∙ ap (λ ls. get_or ls i []) made
    ∙ made-at d d.predicates i in
    let found : more ≡ least_of
    (flat_map (λ clause. flat_map (recursive_literal d i) clause) p.clauses) =
    here ∙ ap (λ cs. least_of
    (flat_map (λ c. offset_if (is_back_at callers i c.predicate) c.at) cs)) same
    ∙ ap least_of (offsets_of d callers mine i p less) in
    ap (λ a. lesser a more) before
    ∙ ap (lesser (least_of (offsets_in_literals (recursive_literal d) (take i d.predicates)))) found
    ∙ sym (least_of_numbered
    (λ k (x : PredicateDecl). flat_map (λ clause. flat_map (recursive_literal d k) clause) x.clauses)
    d.predicates i p less (get_or_default d.predicates i no_predicate_decl p less))

pub recursion_all :
    (d : Declared) (lists : List (List PredicateCall)) → lists ≡ map (calls_of d) d.predicates →
    (i : ℕ) (least : Option ℕ) → length lists ≤ i →
    least ≡ least_of (offsets_in_literals (recursive_literal d) (take i d.predicates)) →
    least ≡ least_of (recursive_offsets d)
recursion_all d lists made i least end before =
    let long : length lists ≡ length d.predicates = ap length made
    ∙ length-map d.predicates (calls_of d) in
    before ∙ ap (λ ps. least_of (offsets_in_literals (recursive_literal d) ps))
    (take_all i d.predicates (omega arith))

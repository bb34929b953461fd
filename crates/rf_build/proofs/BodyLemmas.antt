-- The literals of a clause, one more at a time.
use Rattle.std.proofs.Common.{◌≡◌, ◌<◌, ◌≤◌, ◌+◌, ℕ, suc, List, [], ◌∷◌, ◌++◌, length, map, take, drop, get_or, append_assoc, arith, refl, sym, ap, ◌∙◌}
use Rattle.std.proofs.lemmas.List.{append-nil, length-take-le, map-append, take-append-drop, take_more}
use Rattle.std.proofs.lemmas.List.Concat.{flat_map-append}
use Rattle.rf_problem.specs.declared.predicate.Literal.{Literal}
use Rattle.rf_syntax.specs.declared.name.Name.{Name}
use Rattle.rf_syntax.specs.declared.predicate.BodyLiteral.{BodyLiteral}
use Rattle.rf_syntax.specs.declared.predicate.Param.{Param}
use Rattle.rf_names.specs.Bodies.{clause_names, literal_names, with_variables}
use Rattle.rf_names.specs.Declarations.{Declared}
use Rattle.rf_build.specs.Resolved.{class_literal, class_literals, resolved_literal, resolved_literals}
use Rattle.rf_names.proofs.MapLemmas.{map_one_more}
use Rattle.rf_names.proofs.VariableLemmas.{with_variables-append, with_variables-longer}

module _ (d : Declared) (params : List Param) where
  -- the variables after one literal more
  names-snoc : (known : List Name) (ls : List BodyLiteral) (l : BodyLiteral) →
      with_variables known (clause_names d params (ls ++ l ∷ []))
      ≡ with_variables (with_variables known (clause_names d params ls)) (literal_names d params l)
  names-snoc known ls l =
      ap (with_variables known) (flat_map-append (literal_names d params) ls (l ∷ [])
      ∙ ap (λ ns. clause_names d params ls ++ ns) (append-nil (literal_names d params l)))
      ∙ with_variables-append known (clause_names d params ls) (literal_names d params l)

  resolved-append : (known : List Name) (ls ms : List BodyLiteral) →
      resolved_literals d params known (ls ++ ms)
      ≡ resolved_literals d params known ls ++ resolved_literals d params (with_variables known (clause_names d params ls)) ms
  resolved-append known [] ms = refl
  resolved-append known (l ∷ ls) ms =
      let after : List Name = with_variables known (literal_names d params l) in
      ap (λ rs. resolved_literal d params known l ∷ rs)
      (resolved-append after ls ms
      ∙ ap (λ vs. resolved_literals d params after ls ++ resolved_literals d params vs ms)
      (sym (with_variables-append known (literal_names d params l) (clause_names d params ls))))

  -- a loop's step over the literals, each of which is made of an item
  clause_names_more :
      {X : Type 0} (f : X → BodyLiteral) (known : List Name) (xs : List X) (i : ℕ) (x : X) → i < length xs → x ≡ get_or xs i x →
      with_variables known (clause_names d params (map f (take (i + 1) xs)))
      ≡ with_variables (with_variables known (clause_names d params (map f (take i xs)))) (literal_names d params (f x))
  clause_names_more f known xs i x below is =
      ap (λ ls. with_variables known (clause_names d params ls)) (map_one_more f xs i x below is)
      ∙ names-snoc known (map f (take i xs)) (f x)

  resolved_literals_more :
      {X : Type 0} (f : X → BodyLiteral) (known : List Name) (xs : List X) (i : ℕ) (x : X) → i < length xs → x ≡ get_or xs i x →
      resolved_literals d params known (map f (take (i + 1) xs))
      ≡ resolved_literals d params known (map f (take i xs))
      ++ resolved_literal d params (with_variables known (clause_names d params (map f (take i xs)))) (f x) ∷ []
  resolved_literals_more f known xs i x below is =
      ap (resolved_literals d params known) (map_one_more f xs i x below is)
      ∙ resolved-append known (map f (take i xs)) (f x ∷ [])

  -- after some of the literals there are no more variables than after all
  names-part : (known : List Name) (ls ms : List BodyLiteral) →
      length (with_variables known (clause_names d params ls)) ≤ length (with_variables known (clause_names d params (ls ++ ms)))
  names-part known ls ms =
      let more = with_variables-longer (with_variables known (clause_names d params ls)) (clause_names d params ms) in
      let all : with_variables known (clause_names d params (ls ++ ms))
      ≡ with_variables (with_variables known (clause_names d params ls)) (clause_names d params ms) =
      ap (with_variables known) (flat_map-append (literal_names d params) ls ms)
      ∙ with_variables-append known (clause_names d params ls) (clause_names d params ms) in
      rw all more

  pub clause_names_few :
      {X : Type 0} (f : X → BodyLiteral) (known : List Name) (xs : List X) (i : ℕ) (x : X) (limit : ℕ) → i < length xs →
      x ≡ get_or xs i x → length (with_variables known (clause_names d params (map f xs))) ≤ limit →
      length (with_variables (with_variables known (clause_names d params (map f (take i xs)))) (literal_names d params (f x))) ≤ limit
  clause_names_few f known xs i x limit below is few =
      let whole : map f xs ≡ map f (take (i + 1) xs) ++ map f (drop (i + 1) xs) =
      ap (map f) (sym (take-append-drop (i + 1) xs)) ∙ map-append f (take (i + 1) xs) (drop (i + 1) xs) in
      let part = names-part known (map f (take (i + 1) xs)) (map f (drop (i + 1) xs)) in
      let all = ap (λ ls. length (with_variables known (clause_names d params ls))) whole in
      let more = ap length (clause_names_more f known xs i x below is) in
      omega arith

  pub known_step :
      {X : Type 0} (f : X → BodyLiteral) (known : List Name) (xs : List X) (i : ℕ) (x : X) (now new : List Name) →
      i < length xs → x ≡ get_or xs i x → now ≡ with_variables known (clause_names d params (map f (take i xs))) →
      new ≡ with_variables now (literal_names d params (f x)) →
      new ≡ with_variables known (clause_names d params (map f (take (i + 1) xs)))
  known_step f known xs i x now new below is before step =
      step ∙ ap (λ vs. with_variables vs (literal_names d params (f x))) before
      ∙ sym (clause_names_more f known xs i x below is)

  pub written_step :
      {X : Type 0} (f : X → BodyLiteral) (known : List Name) (xs : List X) (i : ℕ) (x : X) (now : List Name)
      (written new : List Literal) (l : Literal) → i < length xs → x ≡ get_or xs i x →
      now ≡ with_variables known (clause_names d params (map f (take i xs))) →
      written ≡ resolved_literals d params known (map f (take i xs)) → l ≡ resolved_literal d params now (f x) →
      new ≡ written ++ l ∷ [] → new ≡ resolved_literals d params known (map f (take (i + 1) xs))
  written_step f known xs i x now written new l below is before so_far here step =
      step ∙ ap (λ ls. ls ++ l ∷ []) so_far
      ∙ ap (λ m. resolved_literals d params known (map f (take i xs)) ++ m ∷ [])
      (here ∙ ap (λ vs. resolved_literal d params vs (f x)) before)
      ∙ sym (resolved_literals_more f known xs i x below is)

-- a loop's step over the typed parameters
class_literals-snoc :
    (d : Declared) (n m : ℕ) (ps : List Param) (p : Param) → m ≡ n + length ps →
    class_literals d n (ps ++ p ∷ []) ≡ class_literals d n ps ++ class_literal d m p.class
class_literals-snoc d n m [] p is = let e : m ≡ n = omega arith in
    rw e (append-nil (class_literal d n p.class))
class_literals-snoc d n m (q ∷ ps) p is =
    let e : m ≡ suc n + length ps = omega arith in
    ap (λ rest. class_literal d n q.class ++ rest) (class_literals-snoc d (suc n) m ps p e)
    ∙ sym (append_assoc (class_literal d n q.class) (class_literals d (suc n) ps)
    (class_literal d m p.class))

pub class_literals_more :
    (d : Declared) (ps : List Param) (i : ℕ) (p : Param) → i < length ps → p ≡ get_or ps i p →
    class_literals d 0 (take (i + 1) ps) ≡ class_literals d 0 (take i ps)
    ++ class_literal d i p.class
class_literals_more d ps i p below is =
    let short = length-take-le i ps (omega arith) in
    let here : i ≡ 0 + length (take i ps) = omega arith in
    ap (class_literals d 0) (take_more ps i p below)
    ∙ class_literals-snoc d 0 i (take i ps) (get_or ps i p) here
    ∙ ap (λ q. class_literals d 0 (take i ps) ++ class_literal d i q.class) (sym is)

pub class_step :
    (d : Declared) (ps : List Param) (i : ℕ) (p : Param) (start now new : List Literal) →
    i < length ps → p ≡ get_or ps i p →
    now ≡ start ++ class_literals d 0 (take i ps) → new ≡ now ++ class_literal d i p.class →
    new ≡ start ++ class_literals d 0 (take (i + 1) ps)
class_step d ps i p start now new below is before step =
    step ∙ ap (λ ls. ls ++ class_literal d i p.class) before
    ∙ append_assoc start (class_literals d 0 (take i ps)) (class_literal d i p.class)
    ∙ ap (λ ls. start ++ ls) (sym (class_literals_more d ps i p below is))

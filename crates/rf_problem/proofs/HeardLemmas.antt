-- What the assertions that pass a test say together.
use Rattle.std.proofs.Common.{rules, inl, inr, ◌≡◌, ◌∙◌, ℕ, Bool, true, false, ◌&&◌, ◌||◌, List, [], ◌∷◌, ◌++◌, Option, Some, None, if◌then◌else◌, refl, sym, ap, ap₂, map, unwrap_or}
use Rattle.std.specs.Prelude.{filter, nat_eq}
use Rattle.std.specs.Option.{option_eq, option_or}
use Rattle.std.proofs.lemmas.Bool.{cases_Bool}
use Rattle.std.proofs.lemmas.List.{map-append}
use Rattle.std.proofs.lemmas.List.Elements.{filter-append}
use Rattle.rf_values.specs.declared.truth.Truth.{Truth}
use Rattle.rf_values.specs.declared.truth.Truth.TheVariants.{Unknown}
use Rattle.rf_values.specs.Truth.{merge}
use Rattle.rf_problem.specs.Asserted.{asserted, heard, match_each, merge_first, unwritten}
use Rattle.rf_problem.specs.Merged.{joined, merged}
use Rattle.rf_problem.specs.Parts.{same_symbol}
use Rattle.rf_problem.specs.Patterns.{begin, fits}
use Rattle.rf_problem.specs.Spoken.{heard_by, is_at, join, same_args, spoken}
use Rattle.rf_problem.specs.Unwritten.{listed}
use Rattle.rf_problem.specs.declared.assertion.Assertion.{Assertion}
use Rattle.rf_problem.specs.declared.heard.Heard.{Heard}
use Rattle.rf_problem.specs.declared.problem.Problem.{Problem}
use Rattle.rf_problem.specs.declared.symbol.Symbol.{Symbol}

merge-unknown : (a : Truth) → merge a Unknown ≡ a
merge-unknown a = search rules

merge-comm : (a b : Truth) → merge a b ≡ merge b a
merge-comm a b = search rules

merge-assoc : (a b c : Truth) → merge (merge a b) c ≡ merge a (merge b c)
merge-assoc a b c = search rules

merge-same : (a : Truth) → merge a a ≡ a
merge-same a = search rules

joined-none : (a : Option Truth) → joined a None ≡ a
joined-none None = refl
joined-none (Some a) = refl

joined-comm : (a b : Option Truth) → joined a b ≡ joined b a
joined-comm None b = sym (joined-none b)
joined-comm (Some a) None = refl
joined-comm (Some a) (Some b) = ap Some (merge-comm a b)

joined-assoc : (a b c : Option Truth) → joined (joined a b) c ≡ joined a (joined b c)
joined-assoc None b c = refl
joined-assoc (Some a) None c = refl
joined-assoc (Some a) (Some b) None = refl
joined-assoc (Some a) (Some b) (Some c) = ap Some (merge-assoc a b c)

-- the first and the third of four beside each other
joined-crossed : (a b c d : Option Truth) → joined (joined a b) (joined c d) ≡ joined (joined a c) (joined b d)
joined-crossed a b c d =
    joined-assoc a b (joined c d)
    ∙ ap (joined a) (sym (joined-assoc b c d) ∙ ap (λ x. joined x d) (joined-comm b c) ∙ joined-assoc c b d)
    ∙ sym (joined-assoc a c (joined b d))

merged-first : (v : Truth) (vs : List Truth) → merged (v ∷ vs) ≡ joined (Some v) (merged vs)
merged-first v [] = ap Some (merge-unknown v)
merged-first v (w ∷ vs) = refl

merged-append : (vs ws : List Truth) → merged (vs ++ ws) ≡ joined (merged vs) (merged ws)
merged-append [] ws = refl
merged-append (v ∷ vs) ws =
    merged-first v (vs ++ ws) ∙ ap (joined (Some v)) (merged-append vs ws) ∙ sym (joined-assoc (Some v) (merged vs) (merged ws))
    ∙ ap (λ x. joined x (merged ws)) (sym (merged-first v vs))

merged-listed : (o : Option Truth) → merged (listed o) ≡ o
merged-listed None = refl
merged-listed (Some v) = ap Some (merge-unknown v)

-- the merge of the values of those that pass
abbrev merged_by : (Assertion → Bool) → List Assertion → Option Truth
merged_by test xs = merged (map (λ a. a.value) (filter test xs))

-- a truth where the test says so
abbrev one : Bool → Truth → Option Truth
one b v = if b then Some v else None

merged_by-first : (p : Assertion → Bool) (a : Assertion) (xs : List Assertion) → merged_by p (a ∷ xs) ≡ joined (one (p a) a.value) (merged_by p xs)
merged_by-first p a xs = elim (cases_Bool (p a)) [
  | inl e ↦ rw e (merged-first a.value (map (λ b. b.value) (filter p xs)))
  | inr e ↦ rw e refl
]

one-or : (b c : Bool) (v : Truth) → one (b || c) v ≡ joined (one b v) (one c v)
one-or true true v = ap Some (sym (merge-same v))
one-or true false v = refl
one-or false c v = refl

merged_by-or : (p q : Assertion → Bool) (xs : List Assertion) → merged_by (λ a. p a || q a) xs ≡ joined (merged_by p xs) (merged_by q xs)
merged_by-or p q [] = refl
merged_by-or p q (a ∷ xs) =
    merged_by-first (λ b. p b || q b) a xs
    ∙ ap₂ joined (one-or (p a) (q a) a.value) (merged_by-or p q xs)
    ∙ joined-crossed (one (p a) a.value) (one (q a) a.value) (merged_by p xs) (merged_by q xs)
    ∙ sym (ap₂ joined (merged_by-first p a xs) (merged_by-first q a xs))

merged_by-last : (p : Assertion → Bool) (xs : List Assertion) (a : Assertion) → merged_by p (xs ++ a ∷ []) ≡ joined (merged_by p xs) (one (p a) a.value)
merged_by-last p xs a =
    ap merged (ap (map (λ b. b.value)) (filter-append p xs (a ∷ [])) ∙ map-append (λ b. b.value) (filter p xs) (filter p (a ∷ [])))
    ∙ merged-append (map (λ b. b.value) (filter p xs)) (map (λ b. b.value) (filter p (a ∷ [])))
    ∙ ap (joined (merged_by p xs)) (merged_by-first p a [] ∙ joined-none (one (p a) a.value))

-- what the ordinary ones and the defaults say
heard-same : (h k : Heard) → h.ordinary ≡ k.ordinary → h.default ≡ k.default → h ≡ k
heard-same h k e f = λ i. record { ordinary = e i; default = f i }

-- tests that say the same
pub heard_by-same : (p q : Assertion → Bool) (xs : List Assertion) → ((a : Assertion) → p a ≡ q a) → heard_by p xs ≡ heard_by q xs
heard_by-same p q xs e = ap (λ (test : Assertion → Bool). heard_by test xs) (λ i a. e a i)

-- what those say that pass one of two tests
pub heard_by-or : (p q : Assertion → Bool) (xs : List Assertion) → heard_by (λ a. p a || q a) xs ≡ join (heard_by p xs) (heard_by q xs)
heard_by-or p q xs = heard-same _ _
    (ap (λ (test : Assertion → Bool). merged_by test xs) (λ i a. ordinary-or a.is_default (p a) (q a) i)
    ∙ merged_by-or (λ a. if a.is_default then false else p a) (λ a. if a.is_default then false else q a) xs)
    (ap (λ (test : Assertion → Bool). merged_by test xs) (λ i a. default-or a.is_default (p a) (q a) i)
    ∙ merged_by-or (λ a. if a.is_default then p a else false) (λ a. if a.is_default then q a else false) xs)
  where
    ordinary-or : (d b c : Bool) → (if d then false else (b || c)) ≡ ((if d then false else b) || (if d then false else c))
    ordinary-or true b c = refl
    ordinary-or false b c = refl

    default-or : (d b c : Bool) → (if d then (b || c) else false) ≡ ((if d then b else false) || (if d then c else false))
    default-or true b c = refl
    default-or false b c = refl

-- one assertion more
pub heard_by-last : (p : Assertion → Bool) (xs : List Assertion) (a : Assertion) →
    heard_by p (xs ++ a ∷ []) ≡ (if p a then join (heard_by p xs) (spoken a) else heard_by p xs)
heard_by-last p xs a =
    heard-same _ _ (merged_by-last (λ b. if b.is_default then false else p b) xs a) (merged_by-last (λ b. if b.is_default then p b else false) xs a)
    ∙ by_case a.is_default (p a) a.value (heard_by p xs)
  where
    by_case : (d b : Bool) (v : Truth) (h : Heard) →
        record { ordinary = joined h.ordinary (one (if d then false else b) v); default = joined h.default (one (if d then b else false) v) }
        ≡ (if b then join h (record { ordinary = if d then None else Some v; default = if d then Some v else None }) else h)
    by_case true true v h = refl
    by_case false true v h = refl
    by_case true false v h = heard-same _ _ (joined-none h.ordinary) (joined-none h.default)
    by_case false false v h = heard-same _ _ (joined-none h.ordinary) (joined-none h.default)

-- where all arguments are known
begin-all : (first args : List (Option ℕ)) → same_args args first ≡ begin first [] args
begin-all [] [] = refl
begin-all [] (a ∷ args) = refl
begin-all (f ∷ first) [] = refl
begin-all (f ∷ first) (a ∷ args) = ap (λ b. option_eq nat_eq a f && b) (begin-all first args)

-- the next argument is the object, or `*`
begin-next : (first : List (Option ℕ)) (o : ℕ) (rest : List ℕ) (args : List (Option ℕ)) →
    begin first (o ∷ rest) args ≡ (begin (first ++ Some o ∷ []) rest args || begin (first ++ None ∷ []) rest args)
begin-next [] o rest [] = refl
begin-next [] o rest (None ∷ args) = refl
begin-next [] o rest (Some a ∷ args) = or-nothing (nat_eq a o && match_each args rest)
  where
    or-nothing : (b : Bool) → b ≡ (b || false)
    or-nothing true = refl
    or-nothing false = refl
begin-next (f ∷ first) o rest [] = refl
begin-next (f ∷ first) o rest (a ∷ args) =
    ap (λ b. option_eq nat_eq a f && b) (begin-next first o rest args)
    ∙ and-or (option_eq nat_eq a f) (begin (first ++ Some o ∷ []) rest args) (begin (first ++ None ∷ []) rest args)
  where
    and-or : (b c d : Bool) → (b && (c || d)) ≡ ((b && c) || (b && d))
    and-or true c d = refl
    and-or false c d = refl

-- what is heard of the ones with just these arguments
pub heard_from-all : (s : Symbol) (first : List (Option ℕ)) (xs : List Assertion) → heard_by (is_at s first) xs ≡ heard_by (fits s first []) xs
heard_from-all s first xs = heard_by-same (is_at s first) (fits s first []) xs (λ a. ap (λ b. same_symbol a.symbol s && b) (begin-all first a.args))

-- and by the next argument
pub heard_from-next : (s : Symbol) (first : List (Option ℕ)) (o : ℕ) (rest : List ℕ) (xs : List Assertion) →
    join (heard_by (fits s (first ++ Some o ∷ []) rest) xs) (heard_by (fits s (first ++ None ∷ []) rest) xs) ≡ heard_by (fits s first (o ∷ rest)) xs
heard_from-next s first o rest xs =
    sym (heard_by-or (fits s (first ++ Some o ∷ []) rest) (fits s (first ++ None ∷ []) rest) xs)
    ∙ heard_by-same (λ a. fits s (first ++ Some o ∷ []) rest a || fits s (first ++ None ∷ []) rest a) (fits s first (o ∷ rest)) xs
    (λ a. sym (and-or (same_symbol a.symbol s) (begin (first ++ Some o ∷ []) rest a.args) (begin (first ++ None ∷ []) rest a.args))
    ∙ ap (λ b. same_symbol a.symbol s && b) (sym (begin-next first o rest a.args)))
  where
    and-or : (b c d : Bool) → (b && (c || d)) ≡ ((b && c) || (b && d))
    and-or true c d = refl
    and-or false c d = refl

-- the ordinary ones, with what is asserted unwritten, before the defaults
first_heard : (vs ds : List Truth) (o : Option Truth) →
    unwrap_or (option_or (joined (merged vs) o) (merged ds)) Unknown ≡ merge_first (vs ++ listed o) ds
first_heard vs ds o = ap (λ (known : Option Truth). unwrap_or (option_or known (merged ds)) Unknown)
    (ap (joined (merged vs)) (sym (merged-listed o)) ∙ sym (merged-append vs (listed o))) ∙ by_list (vs ++ listed o) ds
  where
    by_list : (ws es : List Truth) → unwrap_or (option_or (merged ws) (merged es)) Unknown ≡ merge_first ws es
    by_list [] [] = refl
    by_list [] (e ∷ es) = refl
    by_list (w ∷ ws) es = refl

-- what is heard, with what is asserted unwritten, is what is asserted
pub asserted-heard : (p : Problem) (s : Symbol) (t : List ℕ) (o : Option Truth) → listed o ≡ unwritten p s t →
    unwrap_or (option_or (joined (heard p.assertions s t).ordinary o) (heard p.assertions s t).default) Unknown ≡ asserted p s t
asserted-heard p s t o is = rw (← is) (first_heard _ _ o)

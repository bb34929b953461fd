-- The numbers of the items that pass a test.
use Rattle.std.proofs.Common.{◌≡◌, ◌∙◌, ℕ, suc, ◌+◌, ◌<◌, Bool, true, false, ◌&&◌, List, [], ◌∷◌, ◌++◌, length, take, get_or, map, filter, slice_get, refl, sym, ap, arith, inl, inr}
use Rattle.std.specs.Prelude.{if◌then◌else◌}
use Rattle.std.proofs.lemmas.Bool.{cases_Bool}
use Rattle.std.proofs.lemmas.List.{length-map, length-take, map-append, take_more}
use Rattle.std.proofs.lemmas.Option.{slice_get-get_or}
use Rattle.std.specs.Str.{bytes_eq}
use Rattle.rf_syntax.specs.declared.name.Name.{Name}
use Rattle.rf_names.specs.Declarations.{ReferenceDecl}
use Rattle.rf_names.specs.LookUp.{numbers_where}
use Rattle.rf_names.specs.Texts.{reads}
use Rattle.rf_names.specs.Tables.{passes_at, some_passes}

-- one item more
pub numbers_where-push :
    {T : Type 0} (n : ℕ) (p : T → Bool) (xs : List T) (y : T) →
    numbers_where n p (xs ++ y ∷ []) ≡ numbers_where n p xs ++ (if p y then (n + length xs) ∷ [] else [])
numbers_where-push n p [] y = ap (λ (m : ℕ). if p y then m ∷ [] else []) (omega arith)
numbers_where-push n p (x ∷ xs) y =
    let next : suc n + length xs ≡ n + suc (length xs) = omega arith in
    let rest = numbers_where-push (suc n) p xs y ∙ ap (λ (m : ℕ). numbers_where (suc n) p xs ++ (if p y then m ∷ [] else [])) next in
    elim (cases_Bool (p x)) [
      | inl passes ↦ rw passes (ap (λ ns. n ∷ ns) rest)
      | inr fails ↦ rw fails rest
    ]

-- the items seen through a function
pub numbers_where-map :
    {S T : Type 0} (n : ℕ) (p : T → Bool) (f : S → T) (xs : List S) → numbers_where n p (map f xs) ≡ numbers_where n (λ x. p (f x)) xs
numbers_where-map n p f [] = refl
numbers_where-map n p f (x ∷ xs) =
    let rest = numbers_where-map (suc n) p f xs in
    elim (cases_Bool (p (f x))) [ inl passes ↦ rw passes (ap (λ ns. n ∷ ns) rest) | inr fails ↦ rw fails rest ]

-- tests that agree
pub numbers_where-same :
    {T : Type 0} (n : ℕ) (p q : T → Bool) (xs : List T) → ((x : T) → p x ≡ q x) → numbers_where n p xs ≡ numbers_where n q xs
numbers_where-same n p q [] same = refl
numbers_where-same n p q (x ∷ xs) same =
    let rest = numbers_where-same (suc n) p q xs same in
    ap (λ ns. if p x then n ∷ ns else ns) rest ∙ ap (λ b. if b then n ∷ numbers_where (suc n) q xs else numbers_where (suc n) q xs) (same x)

filter_kept : (f : ℕ → Bool) (n : ℕ) (ns : List ℕ) → f n ≡ true → filter f (n ∷ ns) ≡ n ∷ filter f ns
filter_kept f n ns h = rw h refl

filter_dropped : (f : ℕ → Bool) (n : ℕ) (ns : List ℕ) → f n ≡ false → filter f (n ∷ ns) ≡ filter f ns
filter_dropped f n ns h = rw h refl

-- those among the numbers of one test that pass another
numbers_where-filter :
    {T : Type 0} (f : ℕ → Bool) (p q : T → Bool) (n : ℕ) (xs : List T) → ((k : ℕ) (d : T) → k < length xs → f (n + k) ≡ p (get_or xs k d)) →
    filter f (numbers_where n q xs) ≡ numbers_where n (λ x. p x && q x) xs
numbers_where-filter f p q n [] agree = refl
numbers_where-filter f p q n (x ∷ xs) agree =
    let first : f n ≡ p x = ap f (omega arith) ∙ agree 0 x (omega arith) in
    let tail : (k : ℕ) (d : _) → k < length xs → f (suc n + k) ≡ p (get_or xs k d) =
    λ k d h. (let moved : suc n + k ≡ n + suc k = omega arith in ap f moved ∙ agree (suc k) d (omega arith)) in
    let rest = numbers_where-filter f p q (suc n) xs tail in
    elim (cases_Bool (q x)) [
      | inl read ↦ elim (cases_Bool (p x)) [
        | inl passes ↦ rw (read, passes) (filter_kept f n (numbers_where (suc n) q xs) (first ∙ passes) ∙ ap (λ ns. n ∷ ns) rest)
        | inr fails ↦ rw (read, fails) (filter_dropped f n (numbers_where (suc n) q xs) (first ∙ fails) ∙ rest)
      ]
      | inr other ↦ elim (cases_Bool (p x)) [
        | inl passes ↦ rw (other, passes) rest
        | inr fails ↦ rw (other, fails) rest
      ]
    ]

-- the same where the other test is that of the item at each number
pub numbers_passing :
    {T : Type 0} (p q : T → Bool) (xs : List T) → filter (passes_at p xs) (numbers_where 0 q xs) ≡ numbers_where 0 (λ x. p x && q x) xs
numbers_passing p q xs = numbers_where-filter (passes_at p xs) p q 0 xs (λ k d h.
    let there : 0 + k ≡ k = omega arith in
    ap (λ (m : ℕ). some_passes p (slice_get xs m)) there ∙ ap (some_passes p) (slice_get-get_or xs k d h))

-- one reference more, whose name is this text
pub numbers_more :
    (all : List ReferenceDecl) (i : ℕ) (d : ReferenceDecl) (text : List ℕ) → i < length all → text ≡ (get_or all i d).feature.name.text →
    (query : List ℕ) → numbers_where 0 (reads query) (map (λ r. r.feature.name) (take (i + 1) all))
    ≡ numbers_where 0 (reads query) (map (λ r. r.feature.name) (take i all)) ++ (if bytes_eq text query then i ∷ [] else [])
numbers_more all i d text within is query =
    let name : ReferenceDecl → Name = λ r. r.feature.name in
    let x = get_or all i d in
    let more : map name (take (i + 1) all) ≡ map name (take i all) ++ name x ∷ [] = ap (map name) (take_more all i d within) ∙ map-append name (take i all) (x ∷ []) in
    let here : 0 + length (map name (take i all)) ≡ i = omega (arith, length-map (take i all) name, length-take i all) in
    ap (numbers_where 0 (reads query)) more ∙ numbers_where-push 0 (reads query) (map name (take i all)) (name x)
    ∙ ap (λ (m : ℕ). numbers_where 0 (reads query) (map name (take i all)) ++ (if reads query (name x) then m ∷ [] else [])) here
    ∙ ap (λ t. numbers_where 0 (reads query) (map name (take i all)) ++ (if bytes_eq t query then i ∷ [] else [])) (sym is)

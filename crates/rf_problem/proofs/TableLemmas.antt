-- The table of what is heard, with one assertion more.
use Rattle.std.proofs.Common.{◌≡◌, ◌∙◌, ℕ, ◌+◌, ◌≤◌, ◌<◌, Bool, true, false, cond, if◌then◌else◌, Option, Some, None, List, [], ◌∷◌, ◌++◌, length, take, take_all, get_or, unwrap_or, refl, sym, ap, ap₂, subst, inl, inr, arith, slice_set, true≢false}
use Rattle.std.specs.BTreeMap.{BTreeMap, get}
use Rattle.std.specs.Ordering.{is_eq}
use Rattle.std.proofs.lemmas.Bool.{and_parts, cases_Bool, eqb-false, eqb-true}
use Rattle.std.proofs.lemmas.List.{get_or-set_other, length-set, take_more}
use Rattle.std.proofs.lemmas.Grind.{get_or-set_at}
use Rattle.std.specs.Prelude.{nat_eq, slice_get}
use Rattle.rf_bounds.specs.declared.TheConstants.{MOST_PARAMETERS}
use Rattle.rf_problem.specs.Parts.{same_symbol}
use Rattle.rf_problem.specs.Spoken.{heard_by, is_at, join, same_args, spoken}
use Rattle.rf_problem.specs.Keys.{is_key, key_cmp, key_of, star, stars_of}
use Rattle.rf_problem.specs.Table.{IsTable, heard_at, may_have, nothing}
use Rattle.rf_problem.specs.declared.assertion.Assertion.{Assertion}
use Rattle.rf_problem.specs.declared.heard.Heard.{Heard}
use Rattle.rf_problem.specs.declared.symbol.Symbol.{Symbol}
use Rattle.rf_problem.specs.declared.key.Key.{Key}
use Rattle.rf_problem.proofs.HeardLemmas.{heard_by-last}
use Rattle.rf_problem.proofs.KeyLemmas.{is_key-of, is_key-tied, same_args-same, same_symbol-same}

abbrev pub Heards : Type 0
Heards = BTreeMap Key Heard

-- what is at a key once one is given
pub heard_at-put : (old : Heards) (k : Key) (h : Heard) (q : Key) →
    unwrap_or (cond (is_eq (key_cmp k q)) (Some h) (get key_cmp old q)) nothing ≡ (if is_key k q then h else heard_at old q)
heard_at-put old k h q = elim (cases_Bool (is_key k q)) [
  | inl e ↦ rw (sym (is_key-tied k q)) (rw e refl)
  | inr e ↦ rw (sym (is_key-tied k q)) (rw e refl)
]

-- what the map has, and where nothing is said
abbrev Told : List Assertion → Heards → Type 0
Told xs table = (s : Symbol) (args : List (Option ℕ)) → length args ≤ MOST_PARAMETERS → heard_at table (key_of s args) ≡ heard_by (is_at s args) xs

abbrev Silent : List Assertion → List Bool → Type 0
Silent xs stars = (s : Symbol) (args : List (Option ℕ)) → may_have stars args ≡ false → length args ≤ MOST_PARAMETERS → heard_by (is_at s args) xs ≡ nothing

-- one assertion more
told-put : (xs : List Assertion) (a : Assertion) (old new : Heards) → length a.args ≤ MOST_PARAMETERS →
    ((q : Key) → heard_at new q ≡ (if is_key (key_of a.symbol a.args) q then join (heard_at old (key_of a.symbol a.args)) (spoken a) else heard_at old q)) →
    Told xs old → Told (xs ++ a ∷ []) new
told-put xs a old new few put held s args l =
    put (key_of s args)
    ∙ ap (λ (b : Bool). if b then join (heard_at old (key_of a.symbol a.args)) (spoken a) else heard_at old (key_of s args)) (is_key-of a.symbol s a.args args few l)
    ∙ told ∙ sym (heard_by-last (is_at s args) xs a)
  where
    told : (if is_at s args a then join (heard_at old (key_of a.symbol a.args)) (spoken a) else heard_at old (key_of s args))
        ≡ (if is_at s args a then join (heard_by (is_at s args) xs) (spoken a) else heard_by (is_at s args) xs)
    told = elim (cases_Bool (is_at s args a)) [
      | inl e ↦ (let parts = and_parts (same_symbol a.symbol s) (same_args a.args args) e in
          let here : heard_at old (key_of a.symbol a.args) ≡ heard_by (is_at s args) xs =
          held a.symbol a.args few
          ∙ ap₂ (λ (t : Symbol) (own : List (Option ℕ)). heard_by (is_at t own) xs) (same_symbol-same a.symbol s parts.0) (same_args-same a.args args parts.1) in
          ap (λ (b : Bool). if b then join (heard_at old (key_of a.symbol a.args)) (spoken a) else heard_at old (key_of s args)) e
          ∙ ap (λ (h : Heard). join h (spoken a)) here
          ∙ sym (ap (λ (b : Bool). if b then join (heard_by (is_at s args) xs) (spoken a) else heard_by (is_at s args) xs) e))
      | inr e ↦
          ap (λ (b : Bool). if b then join (heard_at old (key_of a.symbol a.args)) (spoken a) else heard_at old (key_of s args)) e
          ∙ held s args l
          ∙ sym (ap (λ (b : Bool). if b then join (heard_by (is_at s args) xs) (spoken a) else heard_by (is_at s args) xs) e)
    ]

-- one of too many arguments says nothing at the others
heard_by-skip : (xs : List Assertion) (a : Assertion) (s : Symbol) (args : List (Option ℕ)) → MOST_PARAMETERS < length a.args → length args ≤ MOST_PARAMETERS →
    heard_by (is_at s args) (xs ++ a ∷ []) ≡ heard_by (is_at s args) xs
heard_by-skip xs a s args many l =
    heard_by-last (is_at s args) xs a ∙ ap (λ (b : Bool). if b then join (heard_by (is_at s args) xs) (spoken a) else heard_by (is_at s args) xs) apart
  where
    apart : is_at s args a ≡ false
    apart = elim (cases_Bool (is_at s args a)) [
      | inl e ↦ (let long : length a.args ≡ length args = ap length (same_args-same a.args args (and_parts (same_symbol a.symbol s) (same_args a.args args) e).1) in
          absurd (omega arith))
      | inr e ↦ e
    ]

-- the places of `*` of one more assertion
star-digit : (arg : Option (Option ℕ)) → star arg < 2
star-digit None = omega arith
star-digit (Some None) = omega arith
star-digit (Some (Some o)) = omega arith

stars_of-few : (args : List (Option ℕ)) → stars_of args < 16
stars_of-few args =
    let first = star-digit (slice_get args 0) in
    let second = star-digit (slice_get args 1) in
    let third = star-digit (slice_get args 2) in
    let fourth = star-digit (slice_get args 3) in
    omega arith

silent-put : (xs : List Assertion) (a : Assertion) (stars : List Bool) → length stars ≡ 16 → Silent xs stars →
    Silent (xs ++ a ∷ []) (slice_set stars (stars_of a.args) true)
silent-put xs a stars size silent s args unseen l = elim (cases_Bool (nat_eq (stars_of args) (stars_of a.args))) [
  | inl e ↦ absurd (true≢false (sym (get_or-set_at stars (stars_of a.args) (stars_of args) true false (eqb-true (stars_of args) (stars_of a.args) e)
      (subst (λ (n : ℕ). stars_of a.args < n) (sym size) (stars_of-few a.args))) ∙ unseen))
  | inr e ↦ (
      let other : may_have stars args ≡ false =
      sym (get_or-set_other stars (stars_of a.args) (stars_of args) true false (eqb-false (stars_of args) (stars_of a.args) e)) ∙ unseen in
      heard_by-last (is_at s args) xs a
      ∙ ap (λ (b : Bool). if b then join (heard_by (is_at s args) xs) (spoken a) else heard_by (is_at s args) xs) (apart e)
      ∙ silent s args other l)
]
  where
    apart : nat_eq (stars_of args) (stars_of a.args) ≡ false → is_at s args a ≡ false
    apart differ = elim (cases_Bool (is_at s args a)) [
      | inl e ↦ absurd (eqb-false (stars_of args) (stars_of a.args) differ (ap stars_of (sym (same_args-same a.args args (and_parts (same_symbol a.symbol s) (same_args a.args args) e).1))))
      | inr e ↦ e
    ]

-- the table of no assertion
pub IsTable-none : (xs : List Assertion) (table : Heards) (stars : List Bool) → table.entries ≡ [] → length stars ≡ 16 → IsTable (take 0 xs) table stars
IsTable-none xs table stars empty size = record { told = λ s args l. rw empty refl; silent = λ s args unseen l. refl; sixteen = size }

-- that of one assertion more
pub IsTable-put : (xs : List Assertion) (i : ℕ) (a : Assertion) (old new : Heards) (stars : List Bool) → i < length xs → a ≡ get_or xs i a → length a.args ≤ MOST_PARAMETERS →
    (k : Key) (h : Heard) → k ≡ key_of a.symbol a.args → h ≡ spoken a →
    ((q : Key) → heard_at new q ≡ (if is_key k q then join (heard_at old k) h else heard_at old q)) →
    IsTable (take i xs) old stars → IsTable (take (i + 1) xs) new (slice_set stars (stars_of a.args) true)
IsTable-put xs i a old new stars l at few k h key spoke put held =
    subst (λ (ys : List Assertion). IsTable ys new (slice_set stars (stars_of a.args) true))
    (ap (λ (b : Assertion). take i xs ++ b ∷ []) at ∙ sym (take_more xs i a l))
    (record {
      told = told-put (take i xs) a old new few
          (λ q. put q ∙ ap₂ (λ (own : Key) (said : Heard). if is_key own q then join (heard_at old own) said else heard_at old q) key spoke) held.told;
      silent = silent-put (take i xs) a stars held.sixteen held.silent;
      sixteen = length-set stars (stars_of a.args) true ∙ held.sixteen;
    })

pub IsTable-skip : (xs : List Assertion) (i : ℕ) (a : Assertion) (table : Heards) (stars : List Bool) → i < length xs → a ≡ get_or xs i a → MOST_PARAMETERS < length a.args →
    IsTable (take i xs) table stars → IsTable (take (i + 1) xs) table stars
IsTable-skip xs i a table stars l at many held =
    subst (λ (ys : List Assertion). IsTable ys table stars) (ap (λ (b : Assertion). take i xs ++ b ∷ []) at ∙ sym (take_more xs i a l))
    (record {
      told = λ s args m. held.told s args m ∙ sym (heard_by-skip (take i xs) a s args many m);
      silent = λ s args unseen m. heard_by-skip (take i xs) a s args many m ∙ held.silent s args unseen m;
      sixteen = held.sixteen;
    })

pub IsTable-all : (xs : List Assertion) (i : ℕ) (table : Heards) (stars : List Bool) → length xs ≤ i → IsTable (take i xs) table stars → IsTable xs table stars
IsTable-all xs i table stars l held = subst (λ (ys : List Assertion). IsTable ys table stars) (take_all i xs l) held

-- what is looked for only where something may be
pub told-where : (xs : List Assertion) (table : Heards) (stars : List Bool) (s : Symbol) (args : List (Option ℕ)) → IsTable xs table stars → length args ≤ MOST_PARAMETERS →
    (if may_have stars args then heard_at table (key_of s args) else nothing) ≡ heard_by (is_at s args) xs
told-where xs table stars s args held l = elim (cases_Bool (may_have stars args)) [
  | inl e ↦ ap (λ (b : Bool). if b then heard_at table (key_of s args) else nothing) e ∙ held.told s args l
  | inr e ↦ ap (λ (b : Bool). if b then heard_at table (key_of s args) else nothing) e ∙ sym (held.silent s args e l)
]

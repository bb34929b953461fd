-- Where a block comment closes.
use Rattle.std.proofs.Common.{◌≡◌, ◌∙◌, ℕ, ◌≤◌, ◌<◌, ◌+◌, List, [], ◌∷◌, ◌++◌, length, codes, refl, sym, ap, inl, inr, arith, append_assoc, length-append}
use Rattle.std.proofs.lemmas.Bool.{cases_lt}
use Rattle.rf_lexer.specs.Characters.{StandsIn}
use Rattle.rf_lexer.specs.Private.Scan.{IsClosed, IsNotClosed}
use Rattle.rf_lexer.proofs.Prefixes.{length-push, longer_prefix, regrouped, same_prefix}

-- no `*/` begins before rest
pub record NotYet (cs rest : List ℕ) : Type 0 where
  pub prefix : List ℕ
  pub joined : cs ≡ prefix ++ rest
  pub later : (before suffix : List ℕ) → cs ≡ before ++ (42 ∷ 47 ∷ suffix) → length prefix ≤ length before

pub not_yet_none : (cs : List ℕ) → NotYet cs cs
not_yet_none cs = record { prefix = []; joined = refl; later = λ before suffix e. omega arith }

begins_later :
    (z : List ℕ) (c : ℕ) (after suffix : List ℕ) → ((suffix : List ℕ) → c ≡ 42 → after ≡ 47 ∷ suffix → ⊥) →
    c ∷ after ≡ z ++ (42 ∷ 47 ∷ suffix) → 0 < length z
begins_later [] c after suffix none e =
    let first : c ≡ 42 = cc in
    let second : after ≡ 47 ∷ suffix = cc in
    absurd (none suffix first second)
begins_later (x ∷ z) c after suffix none e = omega arith

later_more :
    (cs rest : List ℕ) (c : ℕ) (after : List ℕ) (so_far : NotYet cs rest) → rest ≡ c ∷ after →
    ((suffix : List ℕ) → c ≡ 42 → after ≡ 47 ∷ suffix → ⊥) → (before suffix : List ℕ) → cs ≡ before ++ (42 ∷ 47 ∷ suffix) →
    length (so_far.prefix ++ c ∷ []) ≤ length before
later_more cs rest c after so_far next none before suffix e =
    let past = so_far.later before suffix e in
    let both : so_far.prefix ++ c ∷ after ≡ before ++ (42 ∷ 47 ∷ suffix) = ap (λ r. so_far.prefix ++ r) (sym next) ∙ sym so_far.joined ∙ e in
    let cut = longer_prefix so_far.prefix before (c ∷ after) (42 ∷ 47 ∷ suffix) past both in
    let longer : 0 < length cut.0 = begins_later cut.0 c after suffix none cut.2 in
    let size : length before ≡ length so_far.prefix + length cut.0 = ap length cut.1 ∙ length-append so_far.prefix cut.0 in
    omega (arith, length-push so_far.prefix c)

-- none begins with the next character
pub not_yet_more :
    (cs rest : List ℕ) (c : ℕ) (after : List ℕ) → NotYet cs rest → rest ≡ c ∷ after →
    ((suffix : List ℕ) → c ≡ 42 → after ≡ 47 ∷ suffix → ⊥) → NotYet cs after
not_yet_more cs rest c after so_far next none = record {
  prefix = so_far.prefix ++ c ∷ [];
  joined = so_far.joined ∙ ap (λ r. so_far.prefix ++ r) next ∙ regrouped so_far.prefix c after;
  later = later_more cs rest c after so_far next none;
}

prefix_open :
    (cs rest : List ℕ) (so_far : NotYet cs rest) → StandsIn (codes "*/") so_far.prefix → ⊥
prefix_open cs rest so_far stands =
    let whole : cs ≡ stands.before ++ (42 ∷ 47 ∷ (stands.suffix ++ rest)) =
    so_far.joined ∙ ap (λ f. f ++ rest) stands.joined ∙ append_assoc stands.before (42 ∷ 47 ∷ stands.suffix) rest in
    let past = so_far.later stands.before (stands.suffix ++ rest) whole in
    omega (arith, ap length stands.joined, length-append stands.before (42 ∷ 47 ∷ stands.suffix))

-- it closes here
pub closed_here :
    (cs rest : List ℕ) (c : ℕ) (after suffix : List ℕ) → NotYet cs rest → rest ≡ c ∷ after → c ≡ 42 → after ≡ 47 ∷ suffix →
    IsClosed cs suffix
closed_here cs rest c after suffix so_far next star slash =
    let all : rest ≡ 42 ∷ 47 ∷ suffix = cc in
    record {
      body = so_far.prefix;
      joined = so_far.joined ∙ ap (λ r. so_far.prefix ++ r) all;
      next = prefix_open cs rest so_far;
    }

-- it closes nowhere
pub closed_nowhere : (cs rest : List ℕ) → NotYet cs rest → rest ≡ [] → IsNotClosed cs
closed_nowhere cs rest so_far none stands =
    let past = so_far.later stands.before stands.suffix stands.joined in
    let size : length cs ≡ length so_far.prefix + length rest = ap length so_far.joined ∙ length-append so_far.prefix rest in
    let other : length cs ≡ length stands.before + length (42 ∷ 47 ∷ stands.suffix) =
    ap length stands.joined ∙ length-append stands.before (42 ∷ 47 ∷ stands.suffix) in
    omega (arith, ap length none)

one_left : (x : ℕ) (r s : List ℕ) → 42 ∷ 47 ∷ r ≡ x ∷ 42 ∷ 47 ∷ s → ⊥
one_left x r s e = let second : ◌≡◌ {A = ℕ} 47 42 = cc in absurd (omega arith)

two_left :
    (a b r s z : List ℕ) (x y : ℕ) → (StandsIn (codes "*/") b → ⊥) → b ≡ a ++ x ∷ y ∷ z →
    42 ∷ 47 ∷ r ≡ x ∷ y ∷ (z ++ (42 ∷ 47 ∷ s)) → ⊥
two_left a b r s z x y no_b same ends =
    let first : x ≡ 42 = cc in
    let second : y ≡ 47 = cc in
    let here : b ≡ a ++ (42 ∷ 47 ∷ z) = cc in
    no_b record { before = a; suffix = z; joined = here }

closed_inside :
    (a b r s z : List ℕ) → (StandsIn (codes "*/") b → ⊥) → b ≡ a ++ z → 42 ∷ 47 ∷ r ≡ z ++ (42 ∷ 47 ∷ s) → length b ≤ length a
closed_inside a b r s [] no_b same ends = omega (arith, ap length same, length-append a [])
closed_inside a b r s (x ∷ []) no_b same ends = absurd (one_left x r s ends)
closed_inside a b r s (x ∷ y ∷ z) no_b same ends = absurd (two_left a b r s z x y no_b same ends)

-- no comment goes on after where it closes
closed_longest :
    (a b r s : List ℕ) → (StandsIn (codes "*/") b → ⊥) → a ++ (42 ∷ 47 ∷ r) ≡ b ++ (42 ∷ 47 ∷ s) → length b ≤ length a
closed_longest a b r s no_b e = elim (cases_lt (length a) (length b)) [
  | inl h ↦ (let cut = longer_prefix a b (42 ∷ 47 ∷ r) (42 ∷ 47 ∷ s) (omega arith) e in closed_inside a b r s cut.0 no_b cut.1 cut.2)
  | inr h ↦ h
]

-- a comment closes once
pub closed_once :
    (a b r s : List ℕ) → (StandsIn (codes "*/") a → ⊥) → (StandsIn (codes "*/") b → ⊥) →
    a ++ (42 ∷ 47 ∷ r) ≡ b ++ (42 ∷ 47 ∷ s) → r ≡ s
closed_once a b r s no_a no_b e =
    let short = closed_longest a b r s no_b e in
    let long = closed_longest b a s r no_a (sym e) in
    let ends = same_prefix a b (42 ∷ 47 ∷ r) (42 ∷ 47 ∷ s) (omega arith) e in
    let tails : 42 ∷ 47 ∷ r ≡ 42 ∷ 47 ∷ s = ends.1 in
    cc

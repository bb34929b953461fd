-- Where `*/` stands, a first one does.
use Rattle.std.proofs.Common.{◌≡◌, ◌∙◌, ℕ, List, [], ◌∷◌, ◌++◌, codes, ap, inl, inr}
use Rattle.std.proofs.lemmas.Bool.{cases_eq}
use Rattle.rf_lexer.specs.Characters.{StandsIn}
use Rattle.rf_lexer.specs.Fault.{IsOpenComment}
use Rattle.rf_lexer.specs.Gap.{BeginsNoGap}
use Rattle.rf_lexer.specs.Private.Scan.{IsClosed}
use Rattle.rf_lexer.proofs.Gaps.{past_from_block}

-- some rest follows the first `*/`
record Closes (cs : List ℕ) : Type 0 where
  pub rest : List ℕ
  pub closed : IsClosed cs rest

nothing_stands : (before suffix : List ℕ) → [] ≡ before ++ (42 ∷ 47 ∷ suffix) → ⊥
nothing_stands [] suffix e = cc
nothing_stands (x ∷ before) suffix e = cc

closes_now : (x : ℕ) (cs t : List ℕ) → x ≡ 42 → cs ≡ 47 ∷ t → Closes (x ∷ cs)
closes_now x cs t star slash =
    let whole : x ∷ cs ≡ 42 ∷ 47 ∷ t = cc in
    record { rest = t; closed = record { body = []; joined = whole; next = λ s. nothing_stands s.before s.suffix s.joined } }

begins_or_later :
    (x : ℕ) (body cs rest before suffix : List ℕ) → (StandsIn (codes "*/") body → ⊥) → cs ≡ body ++ (42 ∷ 47 ∷ rest) →
    ((t : List ℕ) → x ≡ 42 → cs ≡ 47 ∷ t → ⊥) → x ∷ body ≡ before ++ (42 ∷ 47 ∷ suffix) → ⊥
begins_or_later x body cs rest [] suffix none e apart j =
    let star : x ≡ 42 = cc in
    let tail : body ≡ 47 ∷ suffix = cc in
    apart (suffix ++ (42 ∷ 47 ∷ rest)) star (e ∙ ap (λ b. b ++ (42 ∷ 47 ∷ rest)) tail)
begins_or_later x body cs rest (y ∷ before) suffix none e apart j =
    let tail : body ≡ before ++ (42 ∷ 47 ∷ suffix) = cc in
    none record { before = before; suffix = suffix; joined = tail }

closes_later : (x : ℕ) (cs : List ℕ) → ((t : List ℕ) → x ≡ 42 → cs ≡ 47 ∷ t → ⊥) → Closes cs → Closes (x ∷ cs)
closes_later x cs apart more = let c = more.closed in record {
  rest = more.rest;
  closed = record {
    body = x ∷ c.body;
    joined = ap (λ l. x ∷ l) c.joined;
    next = λ s. begins_or_later x c.body cs more.rest s.before s.suffix c.next c.joined apart s.joined;
  };
}

-- whether `*/` is at the beginning
closes_here : (x : ℕ) (cs : List ℕ) → Closes cs → Closes (x ∷ cs)
closes_here x [] more = closes_later x [] (λ t a b. cc) more
closes_here x (y ∷ cs) more = elim (cases_eq x 42) [
  | inl star ↦ elim (cases_eq y 47) [
    | inl slash ↦ closes_now x (y ∷ cs) cs star (ap (λ z. z ∷ cs) slash)
    | inr other ↦ closes_later x (y ∷ cs) (λ t a b. other cc) more
  ]
  | inr other ↦ closes_later x (y ∷ cs) (λ t a b. other a) more
]

closes_from : (before suffix cs : List ℕ) → cs ≡ before ++ (42 ∷ 47 ∷ suffix) → Closes cs
closes_from [] suffix [] e = absurd (nothing_stands [] suffix e)
closes_from [] suffix (x ∷ cs) e = let star : x ≡ 42 = cc in let slash : cs ≡ 47 ∷ suffix = cc in closes_now x cs suffix star slash
closes_from (x ∷ before) suffix [] e = absurd (nothing_stands (x ∷ before) suffix e)
closes_from (x ∷ before) suffix (y ∷ cs) e =
    let tail : cs ≡ before ++ (42 ∷ 47 ∷ suffix) = cc in
    closes_here y cs (closes_from before suffix cs tail)

-- a comment that begins and isn't one is open
pub open_comment : (c : ℕ) (cs t : List ℕ) → BeginsNoGap (c ∷ cs) → c ≡ 47 → cs ≡ 42 ∷ t → IsOpenComment (c ∷ cs)
open_comment c cs t none slash star =
    let whole : c ∷ cs ≡ 47 ∷ 42 ∷ t = cc in
    record {
      suffix = t;
      begun = whole;
      open_ended = λ s.
          let end = closes_from s.before s.suffix t s.joined in
          let same : BeginsNoGap (47 ∷ cs) = rw slash at none in
          same end.rest (past_from_block cs t end.rest star end.closed);
    }

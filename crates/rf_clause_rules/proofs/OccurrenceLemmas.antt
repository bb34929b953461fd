-- What the occurrence of a variable says of the literals.
use Rattle.std.proofs.Common.{◌≡◌, ◌<◌, ◌+◌, ◌∙◌, ℕ, suc, Bool, true, false, not, cond, List, [], ◌∷◌, arith, refl, sym, ap, inl, inr}
use Rattle.std.specs.Prelude.{◌==◌, ◌&&◌, ◌||◌, count_by, nat_lt}
use Rattle.std.specs.List.{list_all}
use Rattle.std.proofs.lemmas.Bool.{cases_Bool, le-ltb, lt-ltb, ltb-false, ltb-true, ne_eqb}
use Rattle.std.proofs.lemmas.List.Sums.{sum_by-cons}
use Rattle.rf_syntax.specs.declared.predicate.BodyLiteral.{BodyLiteral}
use Rattle.rf_syntax.specs.declared.predicate.Param.{Param}
use Rattle.rf_names.specs.Bodies.{is_negated, names_variable}
use Rattle.rf_names.specs.Declarations.{Declared}
use Rattle.rf_clause_rules.specs.Occurrences.{after_literals, is_loose_occurrence, occurrence_of}
use Rattle.rf_clause_rules.specs.declared.occurrence.Occurrence.TheVariants.{Nowhere, Inside, Loose, Bound}

module _ (d : Declared) (params : List Param) (text : List ℕ) where
  -- whether a literal doesn't name it, or is negated
  abbrev pub leaves_free : BodyLiteral → Bool
  leaves_free l = not (names_variable d params text l) || is_negated l

  abbrev pub times : List BodyLiteral → ℕ
  times ls = count_by (names_variable d params text) ls

  times-cons : (l : BodyLiteral) (ls : List BodyLiteral) → times (l ∷ ls)
      ≡ cond (names_variable d params text l) 1 0 + times ls
  times-cons l ls = sum_by-cons (λ m. cond (names_variable d params text m) 1 0) l ls

  times-there : (l : BodyLiteral) (ls : List BodyLiteral) → names_variable d params text l ≡ true →
      times (l ∷ ls) ≡ 1 + times ls
  times-there l ls e = times-cons l ls ∙ ap (λ b. cond b 1 0 + times ls) e

  times-gone : (l : BodyLiteral) (ls : List BodyLiteral) → names_variable d params text l ≡ false →
      times (l ∷ ls) ≡ times ls
  times-gone l ls e =
      let count : times (l ∷ ls) ≡ 0 + times ls = times-cons l ls
      ∙ ap (λ b. cond b 1 0 + times ls) e in omega arith

  -- one literal: it doesn't name the variable, or it does and is negated, or it does and isn't
  data Step (k : ℕ) (l : BodyLiteral) : Type 0 where
    gone : names_variable d params text l ≡ false → Step k l
    free : names_variable d params text l ≡ true → is_negated l ≡ true → Step k l
    tied : names_variable d params text l ≡ true → is_negated l ≡ false → Step k l

  step-of : (k : ℕ) (l : BodyLiteral) → Step k l
  step-of k l = elim (cases_Bool (names_variable d params text l)) [
    | inl named ↦ elim (cases_Bool (is_negated l)) [ inl n ↦ free named n | inr n ↦ tied named n ]
    | inr e ↦ gone e
  ]

  bound-stays : (k : ℕ) (ls : List BodyLiteral) →
      is_loose_occurrence (after_literals d params k ls text Bound) ≡ false
  bound-stays k [] = refl
  bound-stays k (l ∷ ls) = elim (step-of k l) [
    | gone e ↦ rw e (bound-stays (suc k) ls)
    | free e n ↦ rw (e, n) (bound-stays (suc k) ls)
    | tied e n ↦ rw (e, n) (bound-stays (suc k) ls)
  ]

  loose-stays : (k : ℕ) (ls : List BodyLiteral) →
      is_loose_occurrence (after_literals d params k ls text Loose) ≡ list_all leaves_free ls
  loose-stays k [] = refl
  loose-stays k (l ∷ ls) = elim (step-of k l) [
    | gone e ↦ rw e (loose-stays (suc k) ls)
    | free e n ↦ rw (e, n) (loose-stays (suc k) ls)
    | tied e n ↦ rw (e, n) (bound-stays (suc k) ls)
  ]

  and_true : (b : Bool) → (b && true) ≡ b
  and_true true = refl
  and_true false = refl

  -- a literal that leaves it free changes nothing but how often it is named
  still_free : (m : BodyLiteral) (ls : List BodyLiteral) (b c : Bool) → leaves_free m ≡ true →
      b ≡ c →
      (list_all leaves_free ls && b) ≡ (list_all leaves_free (m ∷ ls) && c)
  still_free m ls b c leaves e = ap (λ x. list_all leaves_free ls && x) e
      ∙ ap (λ x. (x && list_all leaves_free ls) && c) (sym leaves)

  free-unnamed : (m : BodyLiteral) → names_variable d params text m ≡ false → leaves_free m ≡ true
  free-unnamed m e = rw e refl

  free-negated : (m : BodyLiteral) → names_variable d params text m ≡ true → is_negated m ≡ true →
      leaves_free m ≡ true
  free-negated m e n = rw (e, n) refl

  inside-more : (k j : ℕ) (ls : List BodyLiteral) → j < k →
      is_loose_occurrence (after_literals d params k ls text (Inside j))
      ≡ (list_all leaves_free ls && nat_lt 0 (times ls))
  inside-more k j [] l = refl
  inside-more k j (m ∷ ls) l = elim (step-of k m) [
    | gone e ↦ (let first : is_loose_occurrence (after_literals d params k (m ∷ ls) text (Inside j))
        ≡ (list_all leaves_free ls && nat_lt 0 (times ls)) =
        rw e (inside-more (suc k) j ls (omega arith)) in
        first ∙ still_free m ls (nat_lt 0 (times ls)) (nat_lt 0 (times (m ∷ ls)))
        (free-unnamed m e) (ap (nat_lt 0) (sym (times-gone m ls e))))
    | free e n ↦ (let count = times-there m ls e in
        let some : nat_lt 0 (times (m ∷ ls)) ≡ true = lt-ltb 0 (times (m ∷ ls)) (omega arith) in
        let apart : (j == k) ≡ false = ne_eqb j k (λ same. absurd (omega arith)) in
        let first : is_loose_occurrence (after_literals d params k (m ∷ ls) text (Inside j))
        ≡ list_all leaves_free ls = rw (e, n, apart) (loose-stays (suc k) ls) in
        first ∙ sym (and_true (list_all leaves_free ls))
        ∙ still_free m ls true (nat_lt 0 (times (m ∷ ls))) (free-negated m e n) (sym some))
    | tied e n ↦ rw (e, n) (bound-stays (suc k) ls)
  ]

  once_more : (a b : ℕ) → b ≡ 1 + a → nat_lt 0 a ≡ nat_lt 1 b
  once_more a b e = elim (cases_Bool (nat_lt 0 a)) [
    | inl some ↦ (let less = ltb-true 0 a some in some ∙ sym (lt-ltb 1 b (omega arith)))
    | inr none ↦ (let least = ltb-false 0 a none in none ∙ sym (le-ltb 1 b (omega arith)))
  ]

  nowhere-more : (k : ℕ) (ls : List BodyLiteral) →
      is_loose_occurrence (after_literals d params k ls text Nowhere)
      ≡ (list_all leaves_free ls && nat_lt 1 (times ls))
  nowhere-more k [] = refl
  nowhere-more k (m ∷ ls) = elim (step-of k m) [
    | gone e ↦ (let first : is_loose_occurrence (after_literals d params k (m ∷ ls) text Nowhere)
        ≡ (list_all leaves_free ls && nat_lt 1 (times ls)) =
        rw e (nowhere-more (suc k) ls) in
        first ∙ still_free m ls (nat_lt 1 (times ls)) (nat_lt 1 (times (m ∷ ls)))
        (free-unnamed m e) (ap (nat_lt 1) (sym (times-gone m ls e))))
    | free e n ↦ (let first : is_loose_occurrence (after_literals d params k (m ∷ ls) text Nowhere)
        ≡ (list_all leaves_free ls && nat_lt 0 (times ls)) =
        rw (e, n) (inside-more (suc k) k ls (omega arith)) in
        first ∙ still_free m ls (nat_lt 0 (times ls)) (nat_lt 1 (times (m ∷ ls)))
        (free-negated m e n) (once_more (times ls) (times (m ∷ ls)) (times-there m ls e)))
    | tied e n ↦ rw (e, n) (bound-stays (suc k) ls)
  ]

  -- it occurs loosely exactly where each literal that names it is negated, and there are several
  pub loose_occurrence : (clause : List BodyLiteral) →
      is_loose_occurrence (occurrence_of d params clause text)
      ≡ (list_all leaves_free clause && nat_lt 1 (times clause))
  loose_occurrence clause = nowhere-more 0 clause

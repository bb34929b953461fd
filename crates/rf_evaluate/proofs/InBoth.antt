-- What is said in both readings, as a truth.
use Rattle.std.proofs.Common.{◌≡◌, ℕ, zero, suc, ◌<◌, Bool, true, false, not, ◌&&◌, ◌||◌, refl, sym, ap, ap₂, ◌∙◌, arith}
use Rattle.rf_finite.specs.Range.{some_below}
use Rattle.rf_problem.specs.Reading.{Reading}
use Rattle.rf_values.specs.Truth.{conjunction, disjunction, may, must, negation, truth_of}
use Rattle.rf_values.specs.declared.truth.Truth.{Truth}
use Rattle.rf_values.specs.declared.truth.Truth.TheVariants.{True, False, Unknown, Error}
use Rattle.rf_evaluate.specs.Evaluating.{some_truth}
use Rattle.rf_evaluate.specs.Known.{Known, in_both}

-- each pair is that of its truth
pub must-truth_of : (m n : Bool) → must (truth_of m n) ≡ m
must-truth_of true true = refl
must-truth_of true false = refl
must-truth_of false true = refl
must-truth_of false false = refl

pub may-truth_of : (m n : Bool) → may (truth_of m n) ≡ n
may-truth_of true true = refl
may-truth_of true false = refl
may-truth_of false true = refl
may-truth_of false false = refl

-- and a truth is that of its pair
pub truth_of-pair : (a : Truth) → truth_of (must a) (may a) ≡ a
truth_of-pair True = refl
truth_of-pair False = refl
truth_of-pair Unknown = refl
truth_of-pair Error = refl

pub conjunction-truth_of : (m n p q : Bool) → conjunction (truth_of m n) (truth_of p q) ≡ truth_of (m && p) (n && q)
conjunction-truth_of m n p q = ap₂ truth_of (ap₂ (λ x y. x && y) (must-truth_of m n) (must-truth_of p q)) (ap₂ (λ x y. x && y) (may-truth_of m n) (may-truth_of p q))

pub disjunction-truth_of : (m n p q : Bool) → disjunction (truth_of m n) (truth_of p q) ≡ truth_of (m || p) (n || q)
disjunction-truth_of m n p q = ap₂ truth_of (ap₂ (λ x y. x || y) (must-truth_of m n) (must-truth_of p q)) (ap₂ (λ x y. x || y) (may-truth_of m n) (may-truth_of p q))

pub negation-truth_of : (m n : Bool) → negation (truth_of m n) ≡ truth_of (not n) (not m)
negation-truth_of m n = ap₂ truth_of (ap not (may-truth_of m n)) (ap not (must-truth_of m n))

-- what is said alike in each pair of readings is the same truth
pub in_both-same : (k : Known) (f g : Reading → Reading → Bool) → ((here inside : Reading) → f here inside ≡ g here inside) → in_both k f ≡ in_both k g
in_both-same k f g same = ap₂ truth_of (same _ _) (same _ _)

-- that one of the numbers has to, and that one can
pub some_truth-truth_of : (n : ℕ) (p q : ℕ → Bool) → some_truth n (λ x. truth_of (p x) (q x)) ≡ truth_of (some_below n p) (some_below n q)
some_truth-truth_of zero p q = refl
some_truth-truth_of (suc n) p q =
    ap (λ a. disjunction a (truth_of (p n) (q n))) (some_truth-truth_of n p q) ∙ disjunction-truth_of (some_below n p) (some_below n q) (p n) (q n)

pub some_truth-same : (n : ℕ) (f g : ℕ → Truth) → ((x : ℕ) → x < n → f x ≡ g x) → some_truth n f ≡ some_truth n g
some_truth-same zero f g same = refl
some_truth-same (suc n) f g same = ap₂ disjunction (some_truth-same n f g (λ x l. same x (omega arith))) (same n (omega arith))

pub some_truth-pair : (n : ℕ) (f : ℕ → Truth) → some_truth n f ≡ truth_of (some_below n (λ x. must (f x))) (some_below n (λ x. may (f x)))
some_truth-pair n f =
    some_truth-same n f (λ x. truth_of (must (f x)) (may (f x))) (λ x l. sym (truth_of-pair (f x)))
    ∙ some_truth-truth_of n (λ x. must (f x)) (λ x. may (f x))

-- what is false together with anything is
pub conjunction-False : (a : Truth) → conjunction a False ≡ False
conjunction-False True = refl
conjunction-False False = refl
conjunction-False Unknown = refl
conjunction-False Error = refl

pub conjunction-pair : (a : Truth) (m n : Bool) → conjunction a (truth_of m n) ≡ truth_of (must a && m) (may a && n)
conjunction-pair a m n = ap₂ truth_of (ap (λ x. must a && x) (must-truth_of m n)) (ap (λ x. may a && x) (may-truth_of m n))

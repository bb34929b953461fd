-- What is known of a fact: their order from unknown up to error, and the pairs that they stand for.
use Rattle.std.specs.Prelude.{◌≡◌, ◌↔◌, Bool, true, false, ◌&&◌, ◌||◌, not}
use Rattle.rf_values.specs.declared.truth.Truth.{Truth}
use Rattle.rf_values.specs.declared.truth.Truth.TheVariants.{True, False, Unknown, Error}

-- whether the second knows all that the first does
abbrev pub below : Truth → Truth → Bool
below Unknown b = true
below a Error = true
below True True = true
below False False = true
below _ _ = false

-- the least truth above both
abbrev pub merge : Truth → Truth → Truth
merge Unknown b = b
merge a Unknown = a
merge True True = True
merge False False = False
merge _ _ = Error

-- whether the fact has to hold
abbrev pub must : Truth → Bool
must True = true
must False = false
must Unknown = false
must Error = true

-- whether the fact can hold
abbrev pub may : Truth → Bool
may True = true
may False = false
may Unknown = true
may Error = false

-- the truth of a fact by whether it has to hold and whether it can
abbrev pub truth_of : Bool → Bool → Truth
truth_of true true = True
truth_of false false = False
truth_of false true = Unknown
truth_of true false = Error

-- that two facts both hold: it has to be so where both have to, and can where both can
abbrev pub conjunction : Truth → Truth → Truth
conjunction a b = truth_of (must a && must b) (may a && may b)

-- that one of them does at least
abbrev pub disjunction : Truth → Truth → Truth
disjunction a b = truth_of (must a || must b) (may a || may b)

-- that a fact doesn't hold: it has to be so where the fact can't, and can where it doesn't have to
abbrev pub negation : Truth → Truth
negation a = truth_of (not (may a)) (not (must a))

-- whether a fact that holds, or doesn't, keeps what is known of it: true where it holds, false where it
-- doesn't, unknown always, and error never
abbrev pub keeps : Truth → Bool → Bool
keeps True holds = holds
keeps False holds = not holds
keeps Unknown holds = true
keeps Error holds = false

-- each truth is below itself
abbrev pub BelowIsReflexive : Type 0
BelowIsReflexive = (a : Truth) → below a a ≡ true

-- two truths below each other are the same
abbrev pub BelowIsAntisymmetric : Type 0
BelowIsAntisymmetric = (a b : Truth) → below a b ≡ true → below b a ≡ true → a ≡ b

-- what is below a truth is below all above that
abbrev pub BelowIsTransitive : Type 0
BelowIsTransitive = (a b c : Truth) → below a b ≡ true → below b c ≡ true → below a c ≡ true

abbrev pub UnknownIsLeast : Type 0
UnknownIsLeast = (a : Truth) → below Unknown a ≡ true

abbrev pub ErrorIsGreatest : Type 0
ErrorIsGreatest = (a : Truth) → below a Error ≡ true

-- a truth is above the merged one exactly where it is above both
abbrev pub MergeIsLeastAbove : Type 0
MergeIsLeastAbove =
    (a b c : Truth) → (below (merge a b) c ≡ true) ↔ ((below a c ≡ true) × (below b c ≡ true))

abbrev pub MergeIsAssociative : Type 0
MergeIsAssociative = (a b c : Truth) → merge (merge a b) c ≡ merge a (merge b c)

abbrev pub MergeIsCommutative : Type 0
MergeIsCommutative = (a b : Truth) → merge a b ≡ merge b a

abbrev pub MergeIsIdempotent : Type 0
MergeIsIdempotent = (a : Truth) → merge a a ≡ a

abbrev pub UnknownIsNeutral : Type 0
UnknownIsNeutral = (a : Truth) → merge a Unknown ≡ a

abbrev pub ErrorAbsorbs : Type 0
ErrorAbsorbs = (a : Truth) → merge a Error ≡ Error

-- a fact has to hold by the merged truth where it has to by one, and it can where it can by both
abbrev pub MergeJoinsPairs : Type 0
MergeJoinsPairs =
    (a b : Truth) → (must (merge a b) ≡ (must a || must b)) × (may (merge a b) ≡ (may a && may b))

-- a truth is that of its own pair
abbrev pub TruthIsItsPair : Type 0
TruthIsItsPair = (a : Truth) → truth_of (must a) (may a) ≡ a

-- each pair is that of its truth
abbrev pub PairIsItsTruth : Type 0
PairIsItsTruth = (m n : Bool) → (must (truth_of m n) ≡ m) × (may (truth_of m n) ≡ n)

-- the merged truth is kept exactly where both are
abbrev pub MergeIsKeptWhereBothAre : Type 0
MergeIsKeptWhereBothAre = (a b : Truth) (holds : Bool) → keeps (merge a b) holds ≡ (keeps a holds && keeps b holds)

-- a truth is kept exactly where the fact holds if it has to, and can hold if it does
abbrev pub KeptIsBetweenMustAndMay : Type 0
KeptIsBetweenMustAndMay =
    (a : Truth) (holds : Bool)
    → (keeps a holds ≡ true) ↔ ((must a ≡ true → holds ≡ true) × (holds ≡ true → may a ≡ true))

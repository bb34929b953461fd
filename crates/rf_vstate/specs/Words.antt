-- The keys and the values of entries, by their words.
use Rattle.std.specs.Prelude.{ℕ, ◌-◌, ◌^◌, Option, None, Some, List, [], ◌∷◌}
use Rattle.rf_values.specs.Words.{words_of}
use Rattle.rf_values.specs.declared.truth.Truth.{Truth}
use Rattle.rf_values.specs.declared.truth.Truth.TheVariants.{True, False, Unknown, Error}
use Rattle.rf_state.specs.declared.object.Object.{Object}

-- where the number of objects stands
abbrev pub number_key : List ℕ
number_key = 0 ∷ 0 ∷ 0 ∷ 0 ∷ 0 ∷ 0 ∷ []

-- where an object stands
abbrev pub object_key : ℕ → List ℕ
object_key o = 1 ∷ o ∷ 0 ∷ 0 ∷ 0 ∷ 0 ∷ []

-- where it stands what was added of an edge of reference r from object a to object b
abbrev pub fact_key : ℕ → ℕ → ℕ → List ℕ
fact_key r a b = 2 ∷ r ∷ a ∷ b ∷ 0 ∷ 0 ∷ []

abbrev pub number_value : ℕ → List ℕ
number_value n = n ∷ 0 ∷ 0 ∷ 0 ∷ 0 ∷ 0 ∷ 0 ∷ []

-- the word that stands for no upper end
abbrev pub no_end : ℕ
no_end = 2 ^ 64 - 1

abbrev pub end_word : Option ℕ → ℕ
end_word None = no_end
end_word (Some n) = n

-- the origin, both ends of the count, and the candidates as four words, of which the bit c % 64 of the word c / 64 is that of class c
abbrev pub object_value : Object → List ℕ
object_value x = x.origin ∷ x.count.lo ∷ end_word x.count.hi ∷ words_of x.candidates

abbrev pub truth_word : Truth → ℕ
truth_word True = 1
truth_word False = 2
truth_word Unknown = 3
truth_word Error = 4

abbrev pub fact_value : Truth → List ℕ
fact_value t = truth_word t ∷ 0 ∷ 0 ∷ 0 ∷ 0 ∷ 0 ∷ 0 ∷ []

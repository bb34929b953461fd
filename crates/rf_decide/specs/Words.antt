-- The words by which a search chooses: those of the generator PCG XSH RR 64/32, made from a seed.
use Rattle.std.specs.Prelude.{◌≡◌, ℕ, zero, suc}
use Rattle.rand_core.specs.Pcg32Seed.{pcg32_seed}
use Rattle.rand_pcg.specs.Lcg.{Lcg}
use Rattle.rand_pcg.specs.Pcg.{pcg32, pcg32_of_seed}
use Rattle.rf_decide.specs.declared.words.Words.{Words}

-- the generator of a seed after so many words
abbrev pub generator_after : ℕ → ℕ → Lcg
generator_after seed zero = pcg32_of_seed (pcg32_seed 16 seed)
generator_after seed (suc k) = (pcg32 (generator_after seed k)).1

-- word k of a seed, from 0
abbrev pub word : ℕ → ℕ → ℕ
word seed k = (pcg32 (generator_after seed k)).0

-- so many words of a seed were taken
abbrev pub HasTaken : ℕ → ℕ → Words → Type 0
HasTaken seed k words = words.generator ≡ generator_after seed k

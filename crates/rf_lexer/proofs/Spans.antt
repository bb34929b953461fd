-- How far a scan for a span has come.
use Rattle.std.proofs.Common.{◌≡◌, ◌∙◌, ℕ, Bool, true, false, List, [], ◌∷◌, ◌++◌, refl, ap}
use Rattle.rf_text.specs.Identifier.{EachPasses}
use Rattle.rf_lexer.specs.Private.Scan.{IsSpan}
use Rattle.rf_lexer.proofs.Prefixes.{EachPasses-push, regrouped}

-- all characters before rest pass
pub record Passed (test : ℕ → Bool) (cs rest : List ℕ) : Type 0 where
  pub prefix : List ℕ
  pub joined : cs ≡ prefix ++ rest
  pub each : EachPasses test prefix

pub passed_none : (test : ℕ → Bool) (cs : List ℕ) → Passed test cs cs
passed_none test cs = record { prefix = []; joined = refl; each = tt }

pub passed_more :
    (test : ℕ → Bool) (cs rest : List ℕ) (c : ℕ) (after : List ℕ) → Passed test cs rest → rest ≡ c ∷ after → test c ≡ true →
    Passed test cs after
passed_more test cs rest c after so_far next passes = record {
  prefix = so_far.prefix ++ c ∷ [];
  joined = so_far.joined ∙ ap (λ r. so_far.prefix ++ r) next ∙ regrouped so_far.prefix c after;
  each = EachPasses-push test so_far.prefix c so_far.each passes;
}

-- the next one fails
pub span_before :
    (test : ℕ → Bool) (cs rest : List ℕ) (c : ℕ) (after : List ℕ) → Passed test cs rest → rest ≡ c ∷ after → test c ≡ false →
    IsSpan test cs rest
span_before test cs rest c after so_far next fails = record {
  prefix = so_far.prefix;
  joined = so_far.joined;
  each = so_far.each;
  ends = rw next fails;
}

-- none is left
pub span_all : (test : ℕ → Bool) (cs rest : List ℕ) → Passed test cs rest → rest ≡ [] → IsSpan test cs rest
span_all test cs rest so_far none = record {
  prefix = so_far.prefix;
  joined = so_far.joined;
  each = so_far.each;
  ends = rw none tt;
}

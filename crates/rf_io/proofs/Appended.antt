-- Bytes taken piece by piece are the prefix of the whole.
use Rattle.std.proofs.Common.{◌≡◌, ◌∙◌, ℕ, ◌+◌, List, ◌++◌, Option, Some, None, IfSome, take, drop, refl, append_assoc}
use Rattle.std.proofs.Math.Seq.{take-add}
use Rattle.rf_io.specs.Sink.{Appends, SinkState}

-- two pieces of the same bytes, one after the other
pub appends_more :
    (old mid new : SinkState) (bytes : List ℕ) (i n : ℕ) → Appends old mid (take i bytes) → Appends mid new (take n (drop i bytes)) →
    Appends old new (take (i + n) bytes)
appends_more old mid new bytes i n first then = joined old.contents mid.contents new.contents first then
  where
    joined :
        (a b c : Option (List ℕ)) → IfSome a (λ before. b ≡ Some (before ++ take i bytes)) →
        IfSome b (λ before. c ≡ Some (before ++ take n (drop i bytes))) → IfSome a (λ before. c ≡ Some (before ++ take (i + n) bytes))
    joined None b c first then = tt
    joined (Some before) b c first then =
        let at : c ≡ Some ((before ++ take i bytes) ++ take n (drop i bytes)) = rw first at then in
        at ∙ rw (append_assoc, ← take-add i n bytes) refl

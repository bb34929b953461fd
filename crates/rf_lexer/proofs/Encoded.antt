-- Characters and their bytes.
use Rattle.std.proofs.Common.{◌≡◌, ◌∙◌, ℕ, ◌≤◌, ◌-◌, List, ◌++◌, length, sym, ap, arith, length-append}
use Rattle.std.proofs.Math.Seq.{take-append_seam}
use Rattle.std.proofs.lemmas.Str.{IsCharBoundary-at_seam, encodes-append, encodes-chars}
use Rattle.std.specs.List.{slice_range}
use Rattle.std.specs.Str.{chars, encode_utf8_all, IsCharBoundary, IsUtf8}

range_prefix : (a b : List ℕ) → slice_range (a ++ b) 0 (length a) ≡ a
range_prefix a b = grind (arith, take-append_seam a b)

-- a text with a rest is the bytes of what is before the rest, and the rest
pub text_split :
    (text rest prefix : List ℕ) → IsUtf8 text → IsUtf8 rest → chars text ≡ prefix ++ chars rest → text ≡ encode_utf8_all prefix ++ rest
text_split text rest prefix whole part e =
    sym (encodes-chars text whole) ∙ ap encode_utf8_all e ∙ encodes-append prefix (chars rest) ∙
    ap (λ r. encode_utf8_all prefix ++ r) (encodes-chars rest part)

pub text_longer :
    (text rest prefix : List ℕ) → IsUtf8 text → IsUtf8 rest → chars text ≡ prefix ++ chars rest → length rest ≤ length text
text_longer text rest prefix whole part e =
    omega (arith, ap length (text_split text rest prefix whole part e), length-append (encode_utf8_all prefix) rest)

text_size :
    (text rest prefix : List ℕ) → IsUtf8 text → IsUtf8 rest → chars text ≡ prefix ++ chars rest →
    length text - length rest ≡ length (encode_utf8_all prefix)
text_size text rest prefix whole part e =
    omega (arith, ap length (text_split text rest prefix whole part e), length-append (encode_utf8_all prefix) rest)

pub text_boundary :
    (text rest prefix : List ℕ) → IsUtf8 text → IsUtf8 rest → chars text ≡ prefix ++ chars rest → IsCharBoundary text (length text - length rest)
text_boundary text rest prefix whole part e =
    rw (text_size text rest prefix whole part e)
    (IsCharBoundary-at_seam text (encode_utf8_all prefix) rest (text_split text rest prefix whole part e) part)

-- what is taken of the text before the rest
pub text_before :
    (text rest piece prefix : List ℕ) → piece ≡ slice_range text 0 (length text - length rest) → IsUtf8 text → IsUtf8 rest →
    chars text ≡ prefix ++ chars rest → piece ≡ encode_utf8_all prefix
text_before text rest piece prefix same whole part e =
    let split : text ≡ encode_utf8_all prefix ++ rest = text_split text rest prefix whole part e in
    let size : length text - length rest ≡ length (encode_utf8_all prefix) = text_size text rest prefix whole part e in
    same ∙ ap (λ n. slice_range text 0 n) size ∙ ap (λ t. slice_range t 0 (length (encode_utf8_all prefix))) split ∙
    range_prefix (encode_utf8_all prefix) rest

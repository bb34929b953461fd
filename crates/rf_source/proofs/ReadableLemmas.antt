-- The tokens of a text are readable, and so is a tree that they spell.
use Rattle.std.proofs.Common.{◌≡◌, ◌≢◌, ◌∙◌, ℕ, zero, suc, ◌<◌, ◌^◌, Bool, true, false, not, List, [], ◌∷◌, length, get_or, refl, sym, ap, subst, All, arith, encode_utf8_all}
use Rattle.std.specs.Str.{NonePass}
use Rattle.std.proofs.lemmas.Bool.{not_from_true}
use Rattle.std.proofs.lemmas.List.{get_or_default, length-map}
use Rattle.std.proofs.lemmas.Str.{NoCharPasses-byte}
use Rattle.unicode_ident.specs.Ident.{is_xid_continue}
use Rattle.unicode_ident.proofs.IdentLemmas.{is_xid_continue-ascii}
use Rattle.rf_lexer.specs.Kind.{IsBigNumber, IsLongName, Spells}
use Rattle.rf_lexer.specs.Tokens.{AreTokens}
use Rattle.rf_lexer.specs.declared.token.Kind.{Kind}
use Rattle.rf_lexer.specs.declared.token.Kind.TheVariants.{Word, Name, Quoted, Number, Mark}
use Rattle.rf_lexer.specs.declared.token.Token.{Token}
use Rattle.rf_parser.specs.Fit.{Fits, IsTreeOf, token_kinds}
use Rattle.rf_resolve.specs.Readable.{IsReadable, IsReadableTree}
use Rattle.rf_syntax.specs.Piece.{Piece, kinds_of}
use Rattle.rf_syntax.specs.Statement.{pieces_of, spelling_of}
use Rattle.rf_syntax.specs.declared.statement.Ast.{Ast}
use Rattle.rf_text.specs.Identifier.{EachPasses, IsIdentifier, is_in_quotes}
use Rattle.rf_text.specs.Written.{CanBeQuoted}
use Rattle.rf_text.proofs.IdentifierLemmas.{identifier_continues, identifier_told, none_fails}

-- a character of ASCII that passes a test, as none of the text does, is nowhere in its bytes
lacks : (p : ℕ → Bool) (x : ℕ) (cs : List ℕ) → x < 128 → p x ≡ true → NonePass p cs → All (λ b. b ≢ x) (encode_utf8_all cs)
lacks p x cs low passes none k d h same =
    let here : get_or (encode_utf8_all cs) k 0 ≡ x = sym (get_or_default (encode_utf8_all cs) k d 0 h) ∙ same in
    let kept : p (get_or (encode_utf8_all cs) k 0) ≡ false = NoCharPasses-byte p (encode_utf8_all cs) k (cs, refl, none) h (omega (arith, here)) in
    let there : p (get_or (encode_utf8_all cs) k 0) ≡ p x = ap p here in
    cc

CanBeQuoted-encoded :
    (p : ℕ → Bool) (cs : List ℕ) → p 39 ≡ true → p 10 ≡ true → p 13 ≡ true → NonePass p cs → (255 < length (encode_utf8_all cs) → ⊥) →
    CanBeQuoted (encode_utf8_all cs)
CanBeQuoted-encoded p cs quote line_feed return none short = record {
  no_quote = lacks p 39 cs (omega arith) quote none;
  no_line_feed = lacks p 10 cs (omega arith) line_feed none;
  no_return = lacks p 13 cs (omega arith) return none;
  short = omega (arith, short);
}

-- the bytes of an identifier
CanBeQuoted-identifier : (cs : List ℕ) → IsIdentifier cs → (255 < length (encode_utf8_all cs) → ⊥) → CanBeQuoted (encode_utf8_all cs)
CanBeQuoted-identifier cs named short =
    let none : NonePass (λ c. not (is_xid_continue c)) cs = none_fails cs (identifier_continues cs ((identifier_told cs).1 named)) in
    CanBeQuoted-encoded (λ c. not (is_xid_continue c)) cs (ap not (is_xid_continue-ascii 39 (omega arith)))
    (ap not (is_xid_continue-ascii 10 (omega arith))) (ap not (is_xid_continue-ascii 13 (omega arith))) none short

-- those of a name between quotes
none_outside : (cs : List ℕ) → EachPasses is_in_quotes cs → NonePass (λ c. not (is_in_quotes c)) cs
none_outside [] each = tt
none_outside (c ∷ cs) each = (not_from_true (is_in_quotes c) each.0, none_outside cs each.1)

CanBeQuoted-plain : (cs : List ℕ) → EachPasses is_in_quotes cs → (255 < length (encode_utf8_all cs) → ⊥) → CanBeQuoted (encode_utf8_all cs)
CanBeQuoted-plain cs each short = CanBeQuoted-encoded (λ c. not (is_in_quotes c)) cs refl refl refl (none_outside cs each) short

-- a name by its bytes
as_bytes : (name : List ℕ) (cs : List ℕ) → name ≡ encode_utf8_all cs → (255 < length name → ⊥) → 255 < length (encode_utf8_all cs) → ⊥
as_bytes name cs e short long = short (omega (arith, ap length e))

as_name : (name : List ℕ) (cs : List ℕ) → name ≡ encode_utf8_all cs → CanBeQuoted (encode_utf8_all cs) → CanBeQuoted name
as_name name cs e quoted = subst (λ (l : List ℕ). CanBeQuoted l) (sym e) quoted

-- a lexeme within the limits is readable
IsReadable-spelled : (kind : Kind) (cs : List ℕ) → Spells kind cs → (IsLongName kind → ⊥) → (IsBigNumber kind → ⊥) → IsReadable kind
IsReadable-spelled (Word k) cs s short small = tt
IsReadable-spelled (Name t) cs s short small = as_name t cs s.2 (CanBeQuoted-identifier cs s.0 (as_bytes t cs s.2 short))
IsReadable-spelled (Quoted t) cs s short small = as_name t s.0 s.2 (CanBeQuoted-plain s.0 s.1.plain (as_bytes t s.0 s.2 short))
IsReadable-spelled (Number n) cs s short small = omega (arith, small)
IsReadable-spelled (Mark m) cs s short small = tt

All-cons : (P : Kind → Type 0) (x : Kind) (xs : List Kind) → P x → All P xs → All P (x ∷ xs)
All-cons P x xs here there zero d h = here
All-cons P x xs here there (suc k) d h = there k d (omega arith)

-- so are the tokens of a text
pub IsReadable-tokens : (size : ℕ) (tokens : List Token) (cs rest : List ℕ) → AreTokens size cs tokens rest → All IsReadable (token_kinds tokens)
IsReadable-tokens size [] cs rest are = λ k d h. absurd (omega arith)
IsReadable-tokens size (token ∷ tokens) cs rest are =
    let here = are.3 in
    let longest = here.longest in
    All-cons IsReadable token.kind (token_kinds tokens)
    (IsReadable-spelled token.kind longest.lexeme longest.spelled here.short here.small) (IsReadable-tokens size tokens are.1 rest are.4)

-- the kinds of the tokens are those of the pieces
same_kinds : (tokens : List Token) (pieces : List Piece) → Fits tokens pieces → token_kinds tokens ≡ kinds_of pieces
same_kinds [] [] fits = refl
same_kinds [] (piece ∷ pieces) fits = absurd fits
same_kinds (token ∷ tokens) [] fits = absurd fits
same_kinds (token ∷ tokens) (piece ∷ pieces) fits =
    ap (λ (k : Kind). k ∷ token_kinds tokens) fits.0.kind ∙ ap (λ (ks : List Kind). piece.kind ∷ ks) (same_kinds tokens pieces fits.1)

-- so a tree that readable tokens spell is readable
pub IsReadableTree-tokens : (tokens : List Token) (ast : Ast) → All IsReadable (token_kinds tokens) → IsTreeOf tokens ast → IsReadableTree ast
IsReadableTree-tokens tokens ast readable fits =
    subst (λ (kinds : List Kind). All IsReadable kinds) (same_kinds tokens (pieces_of ast) fits) readable

-- and no longer than they are
pub short_tree : (tokens : List Token) (ast : Ast) → length tokens < 2 ^ 32 → IsTreeOf tokens ast → length (spelling_of ast) < 2 ^ 32
short_tree tokens ast short fits =
    let same : length (token_kinds tokens) ≡ length (spelling_of ast) = ap length (same_kinds tokens (pieces_of ast) fits) in
    omega (arith, same, short, length-map tokens (λ (t : Token). t.kind))

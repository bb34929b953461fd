-- What is parsed of names.
use Rattle.std.proofs.Common.{◌≡◌, ◌⊎◌, ℕ, Bool, true, false, List, [], ◌∷◌, ◌++◌, Option, None, Some, inl, inr, length, if◌then◌else◌, refl, sym, ap, ◌∙◌}
use Rattle.rf_lexer.specs.declared.keyword.Keyword.{Keyword}
use Rattle.rf_lexer.specs.declared.mark.Mark.{Mark as MarkType}
use Rattle.rf_lexer.specs.declared.token.Kind.{Kind}
use Rattle.rf_lexer.specs.declared.token.Kind.TheVariants.{Word, Mark, Number, Quoted, Name as Identifier}
use Rattle.rf_lexer.specs.declared.token.Token.{Token}
use Rattle.rf_syntax.specs.declared.name.Name.{Name}
use Rattle.rf_syntax.specs.Name.{kind_of_name, name_pieces, symbol_pieces}
use Rattle.rf_syntax.specs.Parts.{optional, optional_after}
use Rattle.rf_syntax.specs.Terminals.{colon_colon}
use Rattle.rf_parser.specs.Fit.{Fits, FitsPiece, token_kinds}
use Rattle.rf_parser.specs.Private.Parsing.{BeginsNoName, Halts, IsNameKind, NeverBegins, Parses, IsStuck, either, first_kind, never}
use Rattle.rf_parser.proofs.Prefixes.{halts_never}
use Rattle.rf_parser.proofs.Singles.{parsed_token}
use Rattle.rf_parser.proofs.Wholes.{Begins, IsCase, pair, parsed_as, parsed_nothing, stuck_here}

-- a name, where any will do
pub a_name : Name
a_name = record { text = []; quoted = true; at = 0 }

-- no name is a word, a mark or a number
kind_apart : (q : Bool) (t : List ℕ) (k : Kind) → (Quoted t ≡ k → ⊥) → (Identifier t ≡ k → ⊥) → (if q then Quoted t else Identifier t) ≡ k → ⊥
kind_apart true t k a b e = a e
kind_apart false t k a b e = b e

pub name_no_word : (n : Name) (w : Keyword) → kind_of_name n ≡ Word w → ⊥
name_no_word n w = kind_apart n.quoted n.text (Word w) (λ e. cc) (λ e. cc)

pub name_no_mark : (n : Name) (m : MarkType) → kind_of_name n ≡ Mark m → ⊥
name_no_mark n m = kind_apart n.quoted n.text (Mark m) (λ e. cc) (λ e. cc)

pub name_no_number : (n : Name) (v : ℕ) → kind_of_name n ≡ Number v → ⊥
name_no_number n v = kind_apart n.quoted n.text (Number v) (λ e. cc) (λ e. cc)

pub name_begins : (m : MarkType) → NeverBegins name_pieces (Mark m)
name_begins m n more e = name_no_mark n m (let both = e in cc)

pub mark_no_name : (m : MarkType) → IsNameKind (Mark m) → ⊥
mark_no_name m h = name_no_mark h.0 m (sym h.1)

-- two names of one kind and offset are the same
same_by_kind : (p q : Bool) (t u : List ℕ) → (if p then Quoted t else Identifier t) ≡ (if q then Quoted u else Identifier u) → (p ≡ q) × (t ≡ u)
same_by_kind true true t u e = (refl, cc)
same_by_kind true false t u e = absurd cc
same_by_kind false true t u e = absurd cc
same_by_kind false false t u e = (refl, cc)

same_name : (token : Token) (n m : Name) → FitsPiece token (record { kind = kind_of_name n; at = Some n.at }) → FitsPiece token (record { kind = kind_of_name m; at = Some m.at }) → m ≡ n
same_name token n m h k =
    let both = same_by_kind m.quoted n.quoted m.text n.text (sym k.kind ∙ h.kind) in
    let offset : m.at ≡ n.at = k.at ∙ sym h.at in
    λ i. record { text = both.1 i; quoted = both.0 i; at = offset i }

pub name_parsed : {ts rest : List Token} {token : Token} {name : Name} → ts ≡ token ∷ rest → Fits (token ∷ []) (name_pieces name) → Parses name_pieces never ts name rest
name_parsed {token = token} {name} e h =
    parsed_token token (λ n. record { kind = kind_of_name n; at = Some n.at }) name e (λ n. refl) h.0 (λ n k. same_name token name n h.0 k)

pub name_stuck : {ts : List Token} → BeginsNoName (token_kinds ts) → IsStuck name_pieces never ts (length ts)
name_stuck none = stuck_here a_name (λ n more h e. none n (sym e))

pub no_name_first : {ts rest : List Token} {token : Token} → ts ≡ token ∷ rest → (IsNameKind token.kind → ⊥) → BeginsNoName (token_kinds ts)
no_name_first {token = token} e none n f =
    let both : Some token.kind ≡ Some (kind_of_name n) = sym (ap (λ (xs : List Token). first_kind (token_kinds xs)) e) ∙ f in none (n, cc)

pub no_name_nowhere : {ts : List Token} → ts ≡ [] → BeginsNoName (token_kinds ts)
no_name_nowhere e n f = let both : ◌≡◌ {A = Option Kind} None (Some (kind_of_name n)) = sym (ap (λ (xs : List Token). first_kind (token_kinds xs)) e) ∙ f in cc

-- a name that may be left out
not_halted_name : (n : Name) (more : List Kind) → Halts IsNameKind more → first_kind more ≡ Some (kind_of_name n) → ⊥
not_halted_name n [] h e = cc
not_halted_name n (k ∷ ks) h e = h (n, cc)

some_name : (n : Name) (next : Option Kind) → next ≡ Some (kind_of_name n) → IsCase name_pieces never (optional name_pieces) IsNameKind next (λ m. Some m)
some_name n next e = record { same = λ m. refl; ends = λ more h. halts_never more; cases = cases } where
  cases : (o : Option Name) → ((m : Name) × (Some m ≡ o)) ⊎ Begins (optional name_pieces) IsNameKind next o
  cases None = inr (λ more h f. not_halted_name n more h (f ∙ e))
  cases (Some m) = inl (m, refl)

name_first : (prefix us rest : List Token) (n : Name) → us ≡ prefix ++ rest → Fits prefix (name_pieces n) → first_kind (token_kinds us) ≡ Some (kind_of_name n)
name_first [] us rest n e f = absurd f
name_first (t ∷ prefix) us rest n e f = ap (λ (xs : List Token). first_kind (token_kinds xs)) e ∙ ap (λ (k : Kind). Some k) f.0.kind

pub optional_name : {ts rest : List Token} {name : Name} → Parses name_pieces never ts name rest → Parses (optional name_pieces) IsNameKind ts (Some name) rest
optional_name {name = name} h = parsed_as (some_name name _ (name_first h.prefix _ _ name h.joined h.fits)) h

pub no_optional_name : {ts : List Token} → BeginsNoName (token_kinds ts) → Parses (optional name_pieces) IsNameKind ts None ts
no_optional_name {ts} none = parsed_nothing None refl cases where
  cases : (o : Option Name) → (o ≡ None) ⊎ Begins (optional name_pieces) IsNameKind (first_kind (token_kinds ts)) o
  cases None = inl refl
  cases (Some n) = inr (λ more h e. none n (sym e))

-- symbols
pub symbol_case : (next : Option Kind) → IsCase (pair name_pieces (optional_after colon_colon name_pieces)) (either colon_colon never) symbol_pieces (either colon_colon never) next (λ p. record { name = p.0; member = p.1 })
symbol_case next = record { same = λ p. refl; ends = λ more h. h; cases = λ s. inl ((s.name, s.member), refl) }

-- What is parsed of one word or mark.
use Rattle.std.proofs.Common.{◌≡◌, ◌⊎◌, Bool, true, false, List, [], ◌∷◌, ◌++◌, Option, None, Some, inl, inr, length, refl, sym, ap, ◌∙◌, subst}
use Rattle.rf_lexer.specs.declared.token.Kind.{Kind}
use Rattle.rf_lexer.specs.declared.token.Token.{Token}
use Rattle.rf_syntax.specs.Parts.{flagged}
use Rattle.rf_syntax.specs.Piece.{Piece, kinds_of}
use Rattle.rf_parser.specs.Fit.{Fits, FitsPiece, token_kinds}
use Rattle.rf_parser.specs.Private.Parts.{single}
use Rattle.rf_parser.specs.Private.Parsing.{Halts, Parses, IsStuck, Shares, StartsWith, either, first_kind, never}
use Rattle.rf_parser.proofs.Prefixes.{halts_never}
use Rattle.rf_parser.proofs.Wholes.{Begins, parsed_as, parsed_nothing, stuck_here}

-- one token is parsed as a part of one piece; another part of this kind with this offset is the same
pub parsed_token : {T : Type 0} {pieces : T → List Piece} {longer : Kind → Type 0} {ts rest : List Token} (token : Token) (piece : T → Piece) (part : T)
    → ts ≡ token ∷ rest → ((t : T) → pieces t ≡ piece t ∷ []) → FitsPiece token (piece part)
    → ((t : T) → FitsPiece token (piece t) → t ≡ part) → Parses pieces longer ts part rest
parsed_token {pieces = pieces} {rest = rest} token piece part e one fits same = record {
  prefix = token ∷ [];
  joined = e;
  fits = subst (λ (ps : List Piece). Fits (token ∷ []) ps) (sym (one part)) (fits, tt);
  only = λ t more halts s. record {
    spelled = ap (λ (ps : List Piece). kinds_of ps) (one t) ∙ one_kind (piece t) token (token_kinds rest) more
        (subst (λ (ps : List Piece). Shares (token.kind ∷ []) (token_kinds rest) (kinds_of ps ++ more)) (one t) s);
    same = λ h. same t (subst (λ (ps : List Piece). Fits (token ∷ []) ps) (one t) h).0;
  };
} where
  one_kind : (p : Piece) (x : Token) (after more : List Kind) → Shares (x.kind ∷ []) after (p.kind ∷ more) → p.kind ∷ [] ≡ x.kind ∷ []
  one_kind p x after more s = let e = s.joined in let same : p.kind ≡ x.kind = cc in ap (λ (k : Kind). k ∷ []) same

pub starts_parsed : {kind : Kind} {ts rest : List Token} → StartsWith ts kind rest → Parses (single kind) never ts tt rest
starts_parsed {kind} s = parsed_token s.token (λ u. record { kind = kind; at = None }) tt s.joined (λ u. refl) (record { kind = s.kinds; at = tt }) (λ u h. refl)

-- the tokens begin with the kind
pub starts_first : {kind : Kind} {ts rest : List Token} → StartsWith ts kind rest → first_kind (token_kinds ts) ≡ Some kind
starts_first s = ap (λ (xs : List Token). first_kind (token_kinds xs)) s.joined ∙ ap (λ (k : Kind). Some k) s.kinds

pub single_stuck : {kind : Kind} {ts : List Token} → (first_kind (token_kinds ts) ≡ Some kind → ⊥) → IsStuck (single kind) never ts (length ts)
single_stuck no_kind = stuck_here tt (λ u more halts e. no_kind (sym e))

-- kinds that begin with one that makes a part longer don't halt
pub not_halted : (kind : Kind) (others : Kind → Type 0) (more : List Kind) → Halts (either kind others) more → first_kind more ≡ Some kind → ⊥
not_halted kind others [] halts e = cc
not_halted kind others (k ∷ ks) halts e = let same : k ≡ kind = cc in halts (inl same)

-- a flag
flag_cases : (kind : Kind) (next : Option Kind) → next ≡ Some kind → (is_set : Bool) → ((u : Unit {0}) × (true ≡ is_set)) ⊎ Begins (λ b. flagged b kind) (either kind never) next is_set
flag_cases kind next e true = inl (tt, refl)
flag_cases kind next e false = inr (λ more halts f. not_halted kind never more halts (f ∙ e))

pub flag_is_set : (kind : Kind) {ts rest : List Token} → StartsWith ts kind rest → Parses (λ b. flagged b kind) (either kind never) ts true rest
flag_is_set kind {ts} s = parsed_as {make = λ (u : Unit {0}). true}
    (record { same = λ u. refl; ends = λ more h. halts_never more; cases = flag_cases kind _ (starts_first s) }) (starts_parsed s)

pub flag_is_not_set : (kind : Kind) {ts : List Token} → (first_kind (token_kinds ts) ≡ Some kind → ⊥) → Parses (λ b. flagged b kind) (either kind never) ts false ts
flag_is_not_set kind {ts} no_kind = parsed_nothing false refl cases where
  cases : (b : Bool) → (b ≡ false) ⊎ Begins (λ b. flagged b kind) (either kind never) (first_kind (token_kinds ts)) b
  cases true = inr (λ more halts e. no_kind (sym e))
  cases false = inl refl

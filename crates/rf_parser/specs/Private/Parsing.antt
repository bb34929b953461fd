-- What the parser's functions find, each for a part of the grammar: a part by its pieces, and the
-- kinds that would make a part longer, if one of them followed it.
use Rattle.std.specs.Prelude.{◌≡◌, ◌⊎◌, ℕ, List, [], ◌∷◌, ◌++◌, Option, None, Some, length}
use Rattle.rf_lexer.specs.declared.token.Kind.{Kind}
use Rattle.rf_lexer.specs.declared.token.Token.{Token}
use Rattle.rf_syntax.specs.declared.name.Name.{Name}
use Rattle.rf_syntax.specs.Name.{kind_of_name}
use Rattle.rf_syntax.specs.Piece.{Piece, kinds_of}
use Rattle.rf_syntax.specs.Terminals.{number}
use Rattle.rf_parser.specs.Fit.{Fits, token_kinds}
use Rattle.rf_failure.specs.declared.Failure.{Failure}
use Rattle.rf_failure.specs.declared.Failure.TheVariants.{Fault}

-- the first kind, if there is one
abbrev pub first_kind : List Kind → Option Kind
first_kind [] = None
first_kind (kind ∷ kinds) = Some kind

-- the kinds don't begin with one that would make the part before them longer
abbrev pub Halts : (Kind → Type 0) → List Kind → Type 0
Halts longer [] = Unit {0}
Halts longer (kind ∷ kinds) = longer kind → ⊥

-- no kind makes the part longer
abbrev pub never : Kind → Type 0
never kind = ⊥

-- each kind makes it longer
abbrev pub anything : Kind → Type 0
anything kind = Unit {0}

-- this kind makes it longer, and those others
abbrev pub either : Kind → (Kind → Type 0) → Kind → Type 0
either one others kind = (kind ≡ one) ⊎ others kind

-- the kind of a name
abbrev pub IsNameKind : Kind → Type 0
IsNameKind kind = (name : Name) × (kind ≡ kind_of_name name)

-- the kinds don't begin with that of a name
abbrev pub BeginsNoName : List Kind → Type 0
BeginsNoName kinds = (name : Name) → first_kind kinds ≡ Some (kind_of_name name) → ⊥

-- the kind is first, and then rest
pub record StartsWith (tokens : List Token) (kind : Kind) (rest : List Token) : Type 0 where
  pub token : Token
  pub joined : tokens ≡ token ∷ rest
  pub kinds : token.kind ≡ kind

-- the number is first, at this offset, and then rest
pub record StartsWithNumber (tokens : List Token) (n at : ℕ) (rest : List Token) : Type 0 where
  pub token : Token
  pub joined : tokens ≡ token ∷ rest
  pub kinds : token.kind ≡ number n
  pub offset : token.start ≡ at

-- no part begins with this kind
abbrev pub NeverBegins : {T : Type 0} → (T → List Piece) → Kind → Type 0
NeverBegins {T} pieces kind =
    (part : T) (more : List Kind) → first_kind (kinds_of (pieces part) ++ more) ≡ Some kind → ⊥

-- the kinds go on after the prefix as rest does: with the same kind, or not at all
pub record Shares (prefix rest kinds : List Kind) : Type 0 where
  pub tail : List Kind
  pub joined : kinds ≡ prefix ++ tail
  pub same : first_kind tail ≡ first_kind rest

-- the part is spelled as the prefix, and where the tokens are its own with their offsets, it is this one
pub record IsSame {T : Type 0}
    (pieces : T → List Piece) (prefix : List Token) (part other : T) : Type 0 where
  pub spelled : kinds_of (pieces other) ≡ token_kinds prefix
  pub same : Fits prefix (pieces other) → other ≡ part

-- the tokens before rest are the part's, and no other part shares them and what follows
pub record Parses {T : Type 0}
    (pieces : T → List Piece) (longer : Kind → Type 0)
    (tokens : List Token) (part : T) (rest : List Token) : Type 0 where
  pub prefix : List Token
  pub joined : tokens ≡ prefix ++ rest
  pub fits : Fits prefix (pieces part)
  pub only :
      (other : T) (more : List Kind)
      → Halts longer more
      → Shares (token_kinds prefix) (token_kinds rest) (kinds_of (pieces other) ++ more)
      → IsSame pieces prefix part other

-- a part begins with the tokens before the last ones, so many, but none shares what follows
pub record IsStuck {T : Type 0}
    (pieces : T → List Piece) (longer : Kind → Type 0)
    (tokens : List Token) (left : ℕ) : Type 0 where
  pub prefix : List Token
  pub rest : List Token
  pub joined : tokens ≡ prefix ++ rest
  pub last : length rest ≡ left
  pub part : T
  pub tail : List Kind
  pub begun : kinds_of (pieces part) ≡ token_kinds prefix ++ tail
  pub dead :
      (other : T) (more : List Kind)
      → Halts longer more
      → Shares (token_kinds prefix) (token_kinds rest) (kinds_of (pieces other) ++ more)
      → ⊥

-- memory ran out, or no part is parsed, since the token there is a wrong one
pub record StopsAt {T : Type 0}
    (pieces : T → List Piece) (longer : Kind → Type 0)
    (tokens : List Token) (stop : Failure ℕ) : Type 0 where
  pub stuck : (left : ℕ) → stop ≡ Fault left → IsStuck pieces longer tokens left

-- the tokens before rest are those of the parts that were added
pub record Adds {T : Type 0}
    (pieces : List T → List Piece) (longer : Kind → Type 0)
    (tokens : List Token) (old new : List T) (rest : List Token) : Type 0 where
  pub parts : List T
  pub added : new ≡ old ++ parts
  pub parsed : Parses pieces longer tokens parts rest

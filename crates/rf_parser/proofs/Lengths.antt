-- What is parsed takes tokens.
use Rattle.std.proofs.Common.{◌≡◌, ◌<◌, Bool, List, [], ◌∷◌, ◌++◌, Option, None, Some, length, refl, sym, ap, ◌∙◌, arith}
use Rattle.std.proofs.lemmas.List.{length-append}
use Rattle.rf_lexer.specs.declared.token.Kind.{Kind}
use Rattle.rf_lexer.specs.declared.token.Token.{Token}
use Rattle.rf_syntax.specs.declared.class.Feature.{Feature}
use Rattle.rf_syntax.specs.declared.class.FeatureWord.{FeatureWord}
use Rattle.rf_syntax.specs.declared.class.FeatureWord.TheVariants.{Contains, Container, Refers}
use Rattle.rf_syntax.specs.declared.class.MultPlace.{MultPlace}
use Rattle.rf_syntax.specs.declared.name.Name.{Name}
use Rattle.rf_syntax.specs.declared.statement.Statement.{Statement}
use Rattle.rf_syntax.specs.Class.{feature_pieces}
use Rattle.rf_syntax.specs.Piece.{Piece, kinds_of}
use Rattle.rf_syntax.specs.Statement.{statement_pieces}
use Rattle.rf_syntax.proofs.Beginnings.{statement_begins}
use Rattle.rf_parser.specs.Fit.{token_kinds}
use Rattle.rf_parser.specs.Private.Parsing.{Parses}
use Rattle.rf_parser.proofs.Prefixes.{fits_kinds}

shorter : (prefix ts rest : List Token) (k : Kind) (ks : List Kind) → ts ≡ prefix ++ rest → k ∷ ks ≡ token_kinds prefix → length rest < length ts
shorter [] ts rest k ks e f = let no_kind : k ∷ ks ≡ [] = f in absurd cc
shorter (t ∷ prefix) ts rest k ks e f = omega (arith, ap length e, length-append prefix rest)

-- after a part that has a kind there are fewer tokens
parsed_shorter : {T : Type 0} {pieces : T → List Piece} {longer : Kind → Type 0} {ts rest : List Token} (part : T) (k : Kind) (ks : List Kind)
    → kinds_of (pieces part) ≡ k ∷ ks → Parses pieces longer ts part rest → length rest < length ts
parsed_shorter {pieces = pieces} {ts = ts} {rest} part k ks e h = shorter h.prefix ts rest k ks h.joined (sym e ∙ fits_kinds h.prefix (pieces part) h.fits)

pub statement_shorter : {longer : Kind → Type 0} {ts rest : List Token} {s : Statement} → Parses statement_pieces longer ts s rest → length rest < length ts
statement_shorter {s = s} h = let begun = statement_begins s in parsed_shorter s _ begun.0 begun.1 h

feature_begins : (f : Feature) → (k : Kind) × (ks : List Kind) × (kinds_of (feature_pieces f) ≡ k ∷ ks)
feature_begins f = begins f.word f.target f.name f.mult f.opposite f.semicolon where
  begins : (w : Option FeatureWord) (target name : Name) (mult : MultPlace) (opposite : Option Name) (b : Bool)
      → (k : Kind) × (ks : List Kind) × (kinds_of (feature_pieces (record { word = w; target = target; name = name; mult = mult; opposite = opposite; semicolon = b })) ≡ k ∷ ks)
  begins None target name mult opposite b = (_, _, refl)
  begins (Some Contains) target name mult opposite b = (_, _, refl)
  begins (Some Container) target name mult opposite b = (_, _, refl)
  begins (Some Refers) target name mult opposite b = (_, _, refl)

pub feature_shorter : {longer : Kind → Type 0} {ts rest : List Token} {f : Feature} → Parses feature_pieces longer ts f rest → length rest < length ts
feature_shorter {f = f} h = let begun = feature_begins f in parsed_shorter f begun.0 begun.1 begun.2 h

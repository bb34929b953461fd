-- Trees whose names and numbers are those of texts.
use Rattle.std.specs.Prelude.{◌≤◌, All}
use Rattle.std.specs.Option.{ForSome}
use Rattle.rf_lexer.specs.declared.token.Kind.{Kind}
use Rattle.rf_lexer.specs.declared.token.Kind.TheVariants.{Word, Name, Quoted, Number, Mark}
use Rattle.rf_bounds.specs.declared.TheConstants.{GREATEST_NUMBER}
use Rattle.rf_text.specs.Written.{CanBeQuoted}
use Rattle.rf_syntax.specs.declared.statement.Ast.{Ast}
use Rattle.rf_syntax.specs.Statement.{spelling_of}
use Rattle.rf_syntax.specs.declared.range.Range.{Range}
use Rattle.rf_syntax.specs.declared.class.MultPlace.{MultPlace}
use Rattle.rf_syntax.specs.declared.class.MultPlace.TheVariants.{Absent as NoMult, AfterType, AfterName}
use Rattle.rf_build.specs.Resolved.{upper_end}
use Rattle.rf_names.specs.Declarations.{Declared}

-- a name has at most 255 bytes, and no single quote or line end among them; a number is at most
-- 1,000,000
abbrev pub IsReadable : Kind → Type 0
IsReadable (Word word) = Unit {0}
IsReadable (Name name) = CanBeQuoted name
IsReadable (Quoted name) = CanBeQuoted name
IsReadable (Number number) = number ≤ GREATEST_NUMBER
IsReadable (Mark mark) = Unit {0}

-- each token in the spelling of the tree is so
abbrev pub IsReadableTree : Ast → Type 0
IsReadableTree ast = All IsReadable (spelling_of ast)

-- the numbers of a range are at most that
pub record IsSmallRange (r : Range) : Type 0 where
  pub lower : r.lo ≤ GREATEST_NUMBER
  pub upper : ForSome (upper_end r.lo r.hi) (λ n. n ≤ GREATEST_NUMBER)

-- so are those of a multiplicity
abbrev pub IsSmallMult : MultPlace → Type 0
IsSmallMult NoMult = Unit {0}
IsSmallMult (AfterType m) = ForSome m.range IsSmallRange
IsSmallMult (AfterName m) = ForSome m.range IsSmallRange

-- what is declared has names and numbers of texts
pub record IsReadableDeclared (d : Declared) : Type 0 where
  pub classes : All (λ c. CanBeQuoted c.name.text) d.classes
  pub references : All (λ r. CanBeQuoted r.feature.name.text) d.references
  pub predicates : All (λ p. CanBeQuoted p.name.text) d.predicates
  pub mentions : All (λ n. CanBeQuoted n.text) d.mentions
  pub mults : All (λ r. IsSmallMult r.feature.mult) d.references
  pub items : All (λ i. ForSome i.range IsSmallRange) d.items
  pub bounds : All (λ b. IsSmallRange b.range) d.bounds

-- For private functions: declarations of texts.
use Rattle.std.specs.Prelude.{◌≡◌}
use Rattle.rf_syntax.specs.declared.statement.Ast.{Ast}
use Rattle.rf_names.specs.Declarations.{Declared, declared_in}
use Rattle.rf_resolve.specs.Readable.{IsReadableTree}

-- a tree with names and numbers of texts declares all this, and no more
abbrev pub IsOfText : Declared → Type 0
IsOfText d = (ast : Ast) × IsReadableTree ast × (d ≡ declared_in ast)

-- The kinds with which statements begin.
use Rattle.std.proofs.Common.{true, false, refl}
use Rattle.rf_syntax.specs.declared.assertion.AssertionForm.TheVariants.{Plain, Not, Maybe, Valued}
use Rattle.rf_syntax.specs.declared.predicate.PredicateWord.TheVariants.{Pred, Error, ErrorPred}
use Rattle.rf_syntax.specs.declared.statement.Statement.TheVariants.{Class, Enum, Predicate, Declare, Multi, Atoms, Scope, Assert}
use Rattle.rf_syntax.specs.Laws.{StatementBegins}

pub statement_begins : StatementBegins
statement_begins (Class true name supers body) = (_, refl)
statement_begins (Class false name supers body) = (_, refl)
statement_begins (Enum name literals) = (_, refl)
statement_begins (Predicate Pred name params clauses) = (_, refl)
statement_begins (Predicate Error name params clauses) = (_, refl)
statement_begins (Predicate ErrorPred name params clauses) = (_, refl)
statement_begins (Declare names) = (_, refl)
statement_begins (Multi items) = (_, refl)
statement_begins (Atoms names) = (_, refl)
statement_begins (Scope bounds) = (_, refl)
statement_begins (Assert true assertion) = (_, refl)
statement_begins (Assert false (Plain atom)) = (_, refl)
statement_begins (Assert false (Not atom)) = (_, refl)
statement_begins (Assert false (Maybe atom)) = (_, refl)
statement_begins (Assert false (Valued atom value)) = (_, refl)

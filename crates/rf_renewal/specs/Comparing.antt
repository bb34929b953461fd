-- How what was compared, and the changes, grow.
use Rattle.std.specs.Prelude.{ℕ, false, ◌==◌, ◌||◌, Contains}
use Rattle.rf_problem.specs.Parts.{same_symbol}
use Rattle.rf_problem.specs.declared.symbol.Symbol.{Symbol}
use Rattle.rf_renewal.specs.Changes.{Changes}
use Rattle.rf_renewal.specs.Covered.{Done}
use Rattle.rf_renewal.specs.Patterns.{Pattern}

-- nothing was compared yet
abbrev pub nothing_done : Done
nothing_done = record { predicates = λ q. false; walks = λ symbol. false }

-- and one predicate more, and the walks of one symbol more
abbrev pub with_predicate : Done → ℕ → Done
with_predicate done q = record { predicates = λ d. q == d || done.predicates d; walks = done.walks }

abbrev pub with_walks : Done → Symbol → Done
with_walks done symbol = record {
  predicates = done.predicates;
  walks = λ other. same_symbol symbol other || done.walks other;
}

-- what is among the changes is among others
pub record IsIn (changes more : Changes) : Type 0 where
  pub presences : (x : ℕ) → Contains changes.presences x → Contains more.presences x
  pub tuples : (symbol : Symbol) (pattern : Pattern) → Contains (changes.tuples symbol) pattern
      → Contains (more.tuples symbol) pattern
  pub walks : (symbol : Symbol) (pattern : Pattern) → Contains (changes.walks symbol) pattern
      → Contains (more.walks symbol) pattern
  pub sames : (pattern : Pattern) → Contains changes.sames pattern → Contains more.sames pattern
  pub differences : (pattern : Pattern) → Contains changes.differences pattern → Contains more.differences pattern

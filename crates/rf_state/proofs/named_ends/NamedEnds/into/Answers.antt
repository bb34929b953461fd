use Rattle.std.proofs.Common.{ℕ, ◌<◌, Some, List, subst, sym}
use Rattle.std.specs.Prelude.{All, vec_len}
use Rattle.rf_state.proofs.ListLemmas.{All-listed}
use Rattle.rf_state.proofs.named_ends.NamedEnds.into.Goals as goal

pub returns-then-is_denied-clause-below : goal.returns-then-is_denied-clause-below
returns-then-is_denied-clause-below c = subst (λ (xs : List ℕ). All (λ x. x < vec_len c.args.self.now.numbers) xs) (sym c.listed_at-then-is_denied.ensures)
    (All-listed (vec_len c.args.self.now.numbers) c.args.self.now.into c.args.r (Some c.args.b) c.args.self.now.into_below)

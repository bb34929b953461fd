-- What a scope counts.
use Rattle.std.specs.Prelude.{ℕ, Bool, true, ◌||◌, not, Option, None, Some}
use Rattle.rf_problem.specs.Classes.{is_below}
use Rattle.rf_problem.specs.Parts.{object_at}
use Rattle.rf_problem.specs.Valid.{is_named}
use Rattle.rf_problem.specs.declared.problem.Problem.{Problem}
use Rattle.rf_problem.specs.declared.scope.Scope.{Scope}

-- whether class c is below the class of a scope; each is where the scope is one of all nodes
abbrev pub has_scope_class : Problem → Option ℕ → ℕ → Bool
has_scope_class p None c = true
has_scope_class p (Some k) c = is_below p.classes c k

-- whether a scope counts what comes from object o: where only new nodes count, from some `C::new`
abbrev pub counts_origin : Problem → Scope → ℕ → Bool
counts_origin p s o = not s.only_new || not (is_named (object_at p.objects o).name)

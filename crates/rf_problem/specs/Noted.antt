-- The set of the names of objects so far.
use Rattle.std.specs.Prelude.{◌≡◌, ◌≢◌, ℕ, List, Contains}
use Rattle.std.specs.Bool.{Decides}
use Rattle.std.specs.BTreeSet.{BTreeSet, contains}
use Rattle.std.specs.Cmp.Lexicographic.{slice_cmp}
use Rattle.std.specs.declared.cmp.Ordering.{Ordering}
use Rattle.std.specs.Ordering.{nat_cmp}
use denote.Ref.{Bor}
use Rattle.rf_problem.specs.Valid.{HasName}
use Rattle.rf_problem.specs.declared.object.ObjectDecl.{ObjectDecl}
use Rattle.rf_problem.specs.declared.object.ObjectName.TheVariants.{Named}

-- two objects don't have the same name
abbrev pub AreNamedApart : ObjectDecl → ObjectDecl → Type 0
AreNamedApart o q = HasName o.name (λ name. HasName q.name (λ other. name ≢ other))

abbrev pub text_cmp : Bor (List ℕ) → Bor (List ℕ) → Ordering
text_cmp x y = slice_cmp nat_cmp x.now y.now

-- one of the objects has this name
abbrev pub IsNameAmong : List ObjectDecl → List ℕ → Type 0
IsNameAmong objects name = (o : ObjectDecl) × Contains objects o × (o.name ≡ Named name)

-- the set has the names of these objects
abbrev pub AreNoted : List ObjectDecl → BTreeSet (Bor (List ℕ)) → Type 0
AreNoted objects seen = (q : Bor (List ℕ)) → Decides (contains text_cmp seen q) (IsNameAmong objects q.now)

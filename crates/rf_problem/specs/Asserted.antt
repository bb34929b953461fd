-- What is stated of symbols and objects.
use Rattle.std.specs.Prelude.{ℕ, max, Bool, true, false, ◌==◌, ◌&&◌, if◌then◌else◌, Option, None, Some, List, [], ◌∷◌, ◌++◌, map, filter}
use Rattle.rf_values.specs.declared.count.Count.{Count}
use Rattle.rf_values.specs.declared.truth.Truth.{Truth}
use Rattle.rf_values.specs.declared.truth.Truth.TheVariants.{True, False, Unknown, Error}
use Rattle.rf_values.specs.Count.{lesser_end}
pub use Rattle.rf_problem.specs.Merged.{merge_all}
use Rattle.rf_problem.specs.Merged.{merged}
use Rattle.rf_problem.specs.Parts.{object_at, predicate_at, same_symbol}
use Rattle.rf_problem.specs.declared.assertion.Assertion.{Assertion}
use Rattle.rf_problem.specs.declared.heard.Heard.{Heard}
use Rattle.rf_problem.specs.declared.object.ObjectKind.{ObjectKind}
use Rattle.rf_problem.specs.declared.object.ObjectKind.TheVariants.{Plain, Atom, LiteralOf}
use Rattle.rf_problem.specs.declared.problem.Problem.{Problem}
use Rattle.rf_problem.specs.declared.symbol.Symbol.{Symbol}
use Rattle.rf_problem.specs.declared.symbol.Symbol.TheVariants.{Class, Predicate as Defined, Exists, Equals}

-- whether an argument matches an object: it is that object, or `*`
abbrev pub matches : Option ℕ → ℕ → Bool
matches None o = true
matches (Some a) o = a == o

-- whether the arguments match the objects, one by one
abbrev pub match_each : List (Option ℕ) → List ℕ → Bool
match_each [] [] = true
match_each (a ∷ args) (o ∷ os) = matches a o && match_each args os
match_each _ _ = false

-- whether an assertion speaks of a symbol at a tuple of objects
abbrev pub speaks_of : Symbol → List ℕ → Assertion → Bool
speaks_of s t a = same_symbol a.symbol s && match_each a.args t

-- whether it does, and is ordinary
abbrev pub is_ordinary : Symbol → List ℕ → Assertion → Bool
is_ordinary s t a = if a.is_default then false else speaks_of s t a

-- whether it does, and is a default
abbrev pub is_default : Symbol → List ℕ → Assertion → Bool
is_default s t a = if a.is_default then speaks_of s t a else false

-- what assertions say of a symbol at a tuple: the merge of the ordinary ones, if any speaks of it, and that of the defaults
abbrev pub heard : List Assertion → Symbol → List ℕ → Heard
heard assertions s t = record {
  ordinary = merged (map (λ a. a.value) (filter (is_ordinary s t) assertions));
  default = merged (map (λ a. a.value) (filter (is_default s t) assertions));
}

-- whether an object of this kind is a literal of enum c
abbrev pub is_literal_of : ObjectKind → ℕ → Bool
is_literal_of Plain c = false
is_literal_of Atom c = false
is_literal_of (LiteralOf e) c = e == c

-- this truth where the test says so, else nothing
abbrev pub when : Bool → Truth → List Truth
when b v = if b then v ∷ [] else []

-- what is asserted though no assertion is written: a literal has its enum's class, and an error predicate is false everywhere
abbrev pub unwritten : Problem → Symbol → List ℕ → List Truth
unwritten p (Class c) (o ∷ []) = when (is_literal_of (object_at p.objects o).kind c) True
unwritten p (Defined q) t = when (predicate_at p.predicates q).is_error False
unwritten p _ t = []

-- the values of the ordinary assertions that match, written or not
abbrev pub ordinary_values : Problem → Symbol → List ℕ → List Truth
ordinary_values p s t = map (λ a. a.value) (filter (is_ordinary s t) p.assertions) ++ unwritten p s t

-- the values of the defaults that match
abbrev pub default_values : Problem → Symbol → List ℕ → List Truth
default_values p s t = map (λ a. a.value) (filter (is_default s t) p.assertions)

-- the merge of the first list where it has a value, else that of the second
abbrev pub merge_first : List Truth → List Truth → Truth
merge_first [] others = merge_all others
merge_first (v ∷ vs) others = merge_all (v ∷ vs)

-- the asserted value of a symbol at a tuple of objects: the merge of the ordinary assertions that match, where none
-- does that of the defaults that match, and where none of these does, unknown
abbrev pub asserted : Problem → Symbol → List ℕ → Truth
asserted p s t = merge_first (ordinary_values p s t) (default_values p s t)

-- a count, where this is known of whether the object exists
abbrev pub with_exists : Truth → Count → Count
with_exists True c = record { lo = max 1 c.lo; hi = c.hi }
with_exists False c = record { lo = c.lo; hi = Some 0 }
with_exists Unknown c = c
with_exists Error c = record { lo = max 1 c.lo; hi = Some 0 }

-- a count, where this is known of whether the object equals itself
abbrev pub with_equals : Truth → Count → Count
with_equals True c = record { lo = c.lo; hi = lesser_end c.hi (Some 1) }
with_equals False c = record { lo = c.lo; hi = Some 0 }
with_equals Unknown c = c
with_equals Error c = record { lo = c.lo; hi = Some 0 }

-- how many nodes may come from an object: its count, by what is asserted of `exists` and `equals`
abbrev pub admitted : Problem → ℕ → Count
admitted p o =
    with_equals (asserted p Equals (o ∷ o ∷ [])) (with_exists (asserted p Exists (o ∷ [])) (object_at p.objects o).count)

-- States of partial knowledge: objects, each of which stands for some nodes, and what was added to the facts between them.
use Rattle.std.specs.Prelude.{◌≡◌, ◌<◌, ℕ, Bool, true, ◌==◌, ◌&&◌, ◌||◌, not, if◌then◌else◌, Option, None, Some, List, [], ◌∷◌, ◌++◌, length, slice_index_or, slice_set}
use Rattle.std.specs.FinSet.{contains, empty, intersection}
use Rattle.rf_finite.specs.Range.{all_below, some_below}
use Rattle.rf_values.specs.Count.{less_one, meet}
use Rattle.rf_values.specs.Truth.{keeps, merge}
use Rattle.rf_values.specs.declared.class_set.ClassSet.{ClassSet}
use Rattle.rf_values.specs.declared.count.Count.{Count}
use Rattle.rf_values.specs.declared.truth.Truth.{Truth}
use Rattle.rf_values.specs.declared.truth.Truth.TheVariants.{False, Unknown}
use Rattle.rf_problem.specs.Asserted.{admitted, asserted}
use Rattle.rf_problem.specs.Classes.{is_below, is_concrete, may_have_class}
use Rattle.rf_problem.specs.Parts.{object_at as declared_at, reference_at}
use Rattle.rf_problem.specs.declared.problem.Problem.{Problem}
use Rattle.rf_problem.specs.declared.symbol.Symbol.TheVariants.{Class, Reference}
use Rattle.rf_state.specs.declared.object.Object.{Object}

-- the objects, by number, and for each reference and two objects what was added, unknown where nothing was
pub record State : Type 0 where
  pub objects : List Object
  pub added : ℕ → ℕ → ℕ → Truth

-- what stands where no object has the number
abbrev pub no_object : Object
no_object = record { origin = 0; count = record { lo = 0; hi = Some 0 }; candidates = empty }

abbrev pub object_of : State → ℕ → Object
object_of s o = slice_index_or s.objects o no_object

-- the classes of a set are classes of the problem
abbrev pub AreDeclared : Problem → ClassSet → Type 0
AreDeclared p set = (c : ℕ) → contains set c ≡ true → c < length p.classes

-- whether every, and whether some class that the nodes of an object may have is below class k
abbrev pub all_candidates : Problem → State → ℕ → ℕ → Bool
all_candidates p s o k = all_below (length p.classes) (λ c. not (contains (object_of s o).candidates c) || is_below p.classes c k)

abbrev pub some_candidate : Problem → State → ℕ → ℕ → Bool
some_candidate p s o k = some_below (length p.classes) (λ c. contains (object_of s o).candidates c && is_below p.classes c k)

-- what is known of an edge of reference r from object a to object b by assertions and by what was added
abbrev pub told : Problem → State → ℕ → ℕ → ℕ → Truth
told p s r a b = merge (asserted p (Reference r) ((object_of s a).origin ∷ (object_of s b).origin ∷ [])) (s.added r a b)

-- what is known of it by the opposite
abbrev pub told_back : Problem → State → Option ℕ → ℕ → ℕ → Truth
told_back p s None a b = Unknown
told_back p s (Some q) a b = told p s q b a

-- what is known of it by the classes of both: false where no candidate may be at one of its ends
abbrev pub by_classes : Problem → State → ℕ → ℕ → ℕ → Truth
by_classes p s r a b =
    if some_candidate p s a (reference_at p.references r).source && some_candidate p s b (reference_at p.references r).target then Unknown else False

-- what is known of it altogether
abbrev pub fact : Problem → State → ℕ → ℕ → ℕ → Truth
fact p s r a b = merge (told p s r a b) (merge (told_back p s (reference_at p.references r).opposite a b) (by_classes p s r a b))

-- whether class c keeps what is asserted of class k at object o
abbrev pub keeps_asserted : Problem → ℕ → ℕ → ℕ → Bool
keeps_asserted p o c k = keeps (asserted p (Class k) (o ∷ [])) (is_below p.classes c k)

-- whether the nodes of object o may have class c in the root: the class is concrete, one that such an object may have, and keeps
-- what is asserted of each class
abbrev pub is_candidate : Problem → ℕ → ℕ → Bool
is_candidate p o c =
    is_concrete p.classes c
    && (may_have_class p.classes (declared_at p.objects o).name (declared_at p.objects o).kind c && all_below (length p.classes) (keeps_asserted p o c))

-- the state in which nothing was added: an object for each of the problem's, with the count that it admits and each candidate
pub record IsRoot (p : Problem) (s : State) : Type 0 where
  pub many : length s.objects ≡ length p.objects
  pub origins : (o : ℕ) → o < length p.objects → (object_of s o).origin ≡ o
  pub counts : (o : ℕ) → o < length p.objects → (object_of s o).count ≡ admitted p o
  pub candidates : (o c : ℕ) → o < length p.objects → contains (object_of s o).candidates c ≡ is_candidate p o c
  pub nothing : (r a b : ℕ) → s.added r a b ≡ Unknown

-- whether these are the same reference and objects
abbrev pub is_at : ℕ → ℕ → ℕ → ℕ → ℕ → ℕ → Bool
is_at r a b q x y = q == r && (x == a && y == b)

-- the state with this truth merged into what was added of an edge
abbrev pub merged_at : State → ℕ → ℕ → ℕ → Truth → State
merged_at s r a b v = record {
  objects = s.objects;
  added = λ q x y. if is_at r a b q x y then merge (s.added q x y) v else s.added q x y;
}

-- the state with another object in this place
abbrev pub with_object : State → ℕ → Object → State
with_object s o object = record { objects = slice_set s.objects o object; added = s.added }

-- with an object's count met by another
abbrev pub narrowed : State → ℕ → Count → State
narrowed s o count = with_object s o (record (object_of s o) { count = meet (object_of s o).count count })

-- with only these of its candidates
abbrev pub kept_to : State → ℕ → ClassSet → State
kept_to s o set = with_object s o (record (object_of s o) { candidates = intersection (object_of s o).candidates set })

-- the object whose facts object x has, where object n has those of object o
abbrev pub copied_from : ℕ → ℕ → ℕ → ℕ
copied_from o n x = if x == n then o else x

-- the state with a fresh object of o: one node more of its origin and candidates, which stands in each added fact in which o
-- does; o has one node less
abbrev pub fresh_of : State → ℕ → State
fresh_of s o = record {
  objects = slice_set s.objects o (record (object_of s o) { count = less_one (object_of s o).count })
      ++ record (object_of s o) { count = record { lo = 1; hi = Some 1 } } ∷ [];
  added = λ r a b. s.added r (copied_from o (length s.objects) a) (copied_from o (length s.objects) b);
}

-- The order of classes.
use Rattle.std.specs.Prelude.{◌≡◌, ◌⊎◌, ◌==◌, ◌&&◌, ◌||◌, not, nat_lt, ℕ, Bool, true, false, List, [], length, slice_index_or}
use Rattle.std.specs.List.{list_any}
use Rattle.rf_finite.specs.Walks.{IsReachable, walk_below}
use Rattle.rf_problem.specs.declared.class.Class.{Class}
use Rattle.rf_problem.specs.declared.object.ObjectKind.{ObjectKind}
use Rattle.rf_problem.specs.declared.object.ObjectKind.TheVariants.{Plain, Atom, LiteralOf}
use Rattle.rf_problem.specs.declared.object.ObjectName.{ObjectName}
use Rattle.rf_problem.specs.declared.object.ObjectName.TheVariants.{Named, NewOf}

-- what stands where no class has the number
abbrev pub no_class : Class
no_class = record { name = []; is_abstract = false; is_enum = false; supers = [] }

-- the class of this number
abbrev pub class_at : List Class → ℕ → Class
class_at classes c = slice_index_or classes c no_class

-- whether class c extends class d directly
abbrev pub extends : List Class → ℕ → ℕ → Bool
extends classes c d = list_any (λ s. s == d) (class_at classes c).supers

-- class c is below class d: it is d, or extends it, directly or through others
abbrev pub IsBelow : List Class → ℕ → ℕ → Type 0
IsBelow classes c d = (c ≡ d) ⊎ IsReachable (extends classes) (λ x. true) (length classes) c d

-- whether it is
abbrev pub is_below : List Class → ℕ → ℕ → Bool
is_below classes c d = c == d || walk_below (extends classes) (λ x. true) (length classes) c d

-- whether c is a class that nodes may have; an enum is one
abbrev pub is_concrete : List Class → ℕ → Bool
is_concrete classes c = nat_lt c (length classes) && not (class_at classes c).is_abstract

-- whether the nodes of an object of this name and kind may have class c: `C::new` has nodes of class C, a literal those of its
-- enum, and any other object those of classes that are no enums
abbrev pub may_have_class : List Class → ObjectName → ObjectKind → ℕ → Bool
may_have_class classes (NewOf k) kind c = c == k
may_have_class classes (Named name) (LiteralOf e) c = c == e
may_have_class classes (Named name) Plain c = not (class_at classes c).is_enum
may_have_class classes (Named name) Atom c = not (class_at classes c).is_enum

-- For private functions and fields: tables in which names and their numbers are found without a scan.
use Rattle.std.specs.Prelude.{ℕ, List, Option, ◌≡◌, position, [], None, Some, option_to_list, take, count_by, ◌<◌, length, slice_index_or, Bool, false, slice_get, map, ◌∷◌, ◌++◌, suc}
use Rattle.std.specs.BTreeMap.{BTreeMap, get_by}
use Rattle.std.specs.HashMap.{HashMap, get_by as hash_get_by}
use Rattle.std.specs.Str.{bytes_eq}
use Rattle.std.specs.Cmp.Lexicographic.{slice_cmp}
use Rattle.std.specs.Ordering.{nat_cmp}
use denote.Ref.{Bor}
use Rattle.std.specs.declared.vec.Vec.{Vec}
use Rattle.std.specs.declared.alloc.Global.{Global}
use Rattle.std.specs.List.{flat_map}
use Rattle.rf_syntax.specs.declared.name.Name.{Name}
use Rattle.rf_names.specs.Texts.{reads}
use Rattle.rf_names.specs.LookUp.{has_new, numbers_where}
use Rattle.rf_names.specs.Declarations.{ClassDecl}
use Rattle.rf_names.specs.declared.sense.Sense.{Sense}
use Rattle.rf_names.specs.declared.sense.Sense.TheVariants.{Nothing, One, Several}

-- the number that is stored under a text
abbrev pub number_in : {S : Type 0} → HashMap (Bor (List ℕ)) ℕ S → List ℕ → Option ℕ
number_in numbers text = hash_get_by (λ key. bytes_eq text key.now) numbers

-- stored under each text is the number of the first name that reads so
abbrev pub AreNumbered : {S : Type 0} → List Name → HashMap (Bor (List ℕ)) ℕ S → Type 0
AreNumbered names numbers = (text : List ℕ) → number_in numbers text ≡ position (reads text) names

-- the items of a list that may be missing
abbrev pub items_or_nothing : Option (Vec ℕ Global) → List ℕ
items_or_nothing None = []
items_or_nothing (Some list) = list.items

-- the numbers that are stored under a text
abbrev pub numbers_in : BTreeMap (Bor (List ℕ)) (Vec ℕ Global) → List ℕ → List ℕ
numbers_in lists text = items_or_nothing (get_by (λ key. slice_cmp nat_cmp text key.now) lists)

-- stored under each text are the numbers of all names that read so
abbrev pub AreListed : List Name → BTreeMap (Bor (List ℕ)) (Vec ℕ Global) → Type 0
AreListed names lists = (text : List ℕ) → numbers_in lists text ≡ numbers_where 0 (reads text) names

-- the numbers that these names have among the others; a name that isn't there is left out
abbrev pub numbers_among : List Name → List Name → List ℕ
numbers_among names found = flat_map (λ s. option_to_list (position (reads s.text) names)) found

-- how many of the first c classes have an object that their new nodes come from
abbrev pub new_before : List ClassDecl → ℕ → ℕ
new_before classes c = count_by has_new (take c classes)

-- the counts are those before each class
pub record AreCounts (classes : List ClassDecl) (many : ℕ) (counts : List ℕ) : Type 0 where
  pub count : length counts ≡ many
  pub each : (c : ℕ) → c < many → slice_index_or counts c 0 ≡ new_before classes c

-- for each of the literals of these classes, which have the numbers from n on, the number of its class
abbrev pub owners_from : ℕ → List ClassDecl → List ℕ
owners_from n [] = []
owners_from n (c ∷ cs) = map (λ l. n) c.literals ++ owners_from (suc n) cs

-- whether there is an item, and it passes
abbrev pub some_passes : {T : Type 0} → (T → Bool) → Option T → Bool
some_passes p None = false
some_passes p (Some x) = p x

-- whether the item of this number is there and passes
abbrev pub passes_at : {T : Type 0} → (T → Bool) → List T → ℕ → Bool
passes_at p xs n = some_passes p (slice_get xs n)

-- what stands for one thing or another
abbrev pub joined : Sense → Sense → Sense
joined Nothing b = b
joined (One s) Nothing = One s
joined (One s) (One t) = Several
joined (One s) Several = Several
joined Several b = Several

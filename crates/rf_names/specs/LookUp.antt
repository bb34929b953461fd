-- What names stand for.
use Rattle.std.specs.Prelude.{ℕ, Bool, List, codes, [], ◌∷◌, if◌then◌else◌, suc, false, slice_index_or, position, Option, ◌==◌, None, Some, true, length, ◌&&◌, ◌+◌, ◌++◌, map, not, take, count_by, find}
use Rattle.std.specs.Str.{bytes_eq}
use Rattle.std.specs.List.{list_any}
use Rattle.rf_syntax.specs.declared.name.Name.{Name}
use Rattle.rf_finite.specs.Walks.{walk_below}
use Rattle.rf_problem.specs.declared.symbol.Symbol.{Symbol}
use Rattle.rf_problem.specs.declared.symbol.Symbol.TheVariants.{Class, Reference, Predicate as Defined, Exists, Equals}
use Rattle.rf_syntax.specs.declared.name.SymbolName.{SymbolName}
use Rattle.rf_syntax.specs.declared.statement.Item.{Item}
use Rattle.rf_names.specs.Texts.{reads, is_text_of}
use Rattle.rf_names.specs.Declarations.{AssertDecl, ClassDecl, PredicateDecl, Declared, ReferenceDecl}
use Rattle.rf_names.specs.declared.sense.Sense.{Sense}
use Rattle.rf_names.specs.declared.sense.Sense.TheVariants.{Nothing, One, Several}

-- the first name of each text, but for those of the texts seen before
abbrev pub first_of_each : List (List ℕ) → List Name → List Name
first_of_each seen [] = []
first_of_each seen (n ∷ ns) =
    if is_text_of seen n then first_of_each seen ns else n ∷ first_of_each (n.text ∷ seen) ns

-- the numbers, from n on, of the items that pass
abbrev pub numbers_where : {T : Type 0} → ℕ → (T → Bool) → List T → List ℕ
numbers_where n p [] = []
numbers_where n p (x ∷ xs) = if p x then n ∷ numbers_where (suc n) p xs else numbers_where (suc n) p xs

-- what stands where no class or predicate has the number
abbrev pub no_name : Name
no_name = record { text = []; quoted = false; at = 0 }

abbrev pub no_class_decl : ClassDecl
no_class_decl = record { name = no_name; is_abstract = false; is_enum = false; supers = []; features = []; literals = [] }

abbrev pub no_predicate_decl : PredicateDecl
no_predicate_decl = record { is_error = false; name = no_name; params = []; clauses = [] }

-- the class, the predicate of this number
abbrev pub class_decl_at : Declared → ℕ → ClassDecl
class_decl_at d c = slice_index_or d.classes c no_class_decl

abbrev pub predicate_decl_at : Declared → ℕ → PredicateDecl
predicate_decl_at d q = slice_index_or d.predicates q no_predicate_decl

-- the number of the class, of the predicate of this name
abbrev pub class_named : Declared → List ℕ → Option ℕ
class_named d text = position (λ c. reads text c.name) d.classes

abbrev pub predicate_named : Declared → List ℕ → Option ℕ
predicate_named d text = position (λ p. reads text p.name) d.predicates

-- whether it is this number
abbrev pub is_number : ℕ → Option ℕ → Bool
is_number k None = false
is_number k (Some n) = n == k

-- whether class c names class k after `extends`
abbrev pub extends_directly : Declared → ℕ → ℕ → Bool
extends_directly d c k = list_any (λ s. is_number k (class_named d s.text)) (class_decl_at d c).supers

-- whether class c extends class k, directly or through others
abbrev pub extends_somehow : Declared → ℕ → ℕ → Bool
extends_somehow d c k = walk_below (extends_directly d) (λ x. true) (length d.classes) c k

-- the references of this name
abbrev pub references_named : Declared → List ℕ → List ℕ
references_named d text = numbers_where 0 (λ r. reads text r.feature.name) d.references

-- those that class c declares, and those that the classes above it do
abbrev pub own_members : Declared → ℕ → List ℕ → List ℕ
own_members d c text = numbers_where 0 (λ r. (r.source == c) && reads text r.feature.name) d.references

abbrev pub inherited_members : Declared → ℕ → List ℕ → List ℕ
inherited_members d c text =
    numbers_where 0 (λ r. extends_somehow d c r.source && reads text r.feature.name) d.references

-- the first list, or the second where it is empty
abbrev pub own_or_inherited : List ℕ → List ℕ → List ℕ
own_or_inherited [] inherited = inherited
own_or_inherited (r ∷ rs) inherited = r ∷ rs

-- what a member's name stands for in a class: the references that it declares, else those above it
abbrev pub members_of : Declared → ℕ → List ℕ → List ℕ
members_of d c text = own_or_inherited (own_members d c text) (inherited_members d c text)

-- the same where the class is there; else nothing
abbrev pub members_of_some : Declared → Option ℕ → List ℕ → List ℕ
members_of_some d None text = []
members_of_some d (Some c) text = members_of d c text

-- the symbol of a number that is there
abbrev pub symbol_of_some : (ℕ → Symbol) → Option ℕ → List Symbol
symbol_of_some symbol None = []
symbol_of_some symbol (Some n) = symbol n ∷ []

-- the class, the predicate and the references of a name
abbrev pub symbols_named : Declared → List ℕ → List Symbol
symbols_named d text =
    symbol_of_some Class (class_named d text)
    ++ symbol_of_some Defined (predicate_named d text)
    ++ map Reference (references_named d text)

-- `exists` and `equals`, which assertions may speak of
abbrev pub own_symbols : List ℕ → List Symbol
own_symbols text =
    (if bytes_eq text (codes "exists") then Exists ∷ [] else [])
    ++ (if bytes_eq text (codes "equals") then Equals ∷ [] else [])

-- what a symbol stands for, where these are what its name alone stands for
abbrev pub symbols_or_members : Declared → List Symbol → Name → Option Name → List Symbol
symbols_or_members d alone name None = alone
symbols_or_members d alone name (Some member) =
    map Reference (members_of_some d (class_named d name.text) member.text)

-- what a symbol of a literal, of an assertion stands for
abbrev pub literal_symbols : Declared → SymbolName → List Symbol
literal_symbols d s = symbols_or_members d (symbols_named d s.name.text) s.name s.member

abbrev pub assertion_symbols : Declared → SymbolName → List Symbol
assertion_symbols d s =
    symbols_or_members d (symbols_named d s.name.text ++ own_symbols s.name.text) s.name s.member

-- whether a name stands for nothing, for one symbol, or for several
abbrev pub sense_of : List Symbol → Sense
sense_of [] = Nothing
sense_of (s ∷ []) = One s
sense_of (s ∷ t ∷ ss) = Several

-- an assertion, and what its symbol stands for
pub record SensedDecl : Type 0 where
  pub form : AssertDecl
  pub sense : Sense

abbrev pub sensed : Declared → AssertDecl → SensedDecl
sensed d a = record { form = a; sense = sense_of (assertion_symbols d a.atom.symbol) }

-- the named objects, each by the name at which it occurs first
abbrev pub named_objects : Declared → List Name
named_objects d = first_of_each [] d.mentions

-- the number of the object of this name
abbrev pub object_named : Declared → List ℕ → Option ℕ
object_named d text = position (reads text) (named_objects d)

-- whether a class has an object that its new nodes come from: it is neither abstract nor an enum
abbrev pub has_new : ClassDecl → Bool
has_new c = not c.is_abstract && not c.is_enum

-- the number of the object that the new nodes of class c come from: after the named ones, and those
-- of the classes before it
abbrev pub new_object_of : Declared → ℕ → ℕ
new_object_of d c = length (named_objects d) + count_by has_new (take c d.classes)

-- whether an enum has a literal of this text
abbrev pub has_literal : List ℕ → ClassDecl → Bool
has_literal text c = list_any (reads text) c.literals

-- whether the class of this number is an enum with this literal
abbrev pub is_literal_of : Declared → Option ℕ → List ℕ → Bool
is_literal_of d None text = false
is_literal_of d (Some c) text = has_literal text (class_decl_at d c)

-- the number of the enum that has this literal
abbrev pub enum_of : Declared → List ℕ → Option ℕ
enum_of d text = position (has_literal text) d.classes

-- the item of a `multi` that names this object
abbrev pub item_named : Declared → List ℕ → Option Item
item_named d text = find (λ i. reads text i.name) d.items

-- how many parameters a symbol has
abbrev pub parameters_of : Declared → Symbol → ℕ
parameters_of d (Class c) = 1
parameters_of d (Reference r) = 2
parameters_of d (Defined q) = length (predicate_decl_at d q).params
parameters_of d Exists = 1
parameters_of d Equals = 2

-- whether a symbol may stand before a `+`: it has two parameters, and isn't a class
abbrev pub can_be_closed : Declared → Symbol → Bool
can_be_closed d (Class c) = false
can_be_closed d s = parameters_of d s == 2

-- the number that is there
abbrev pub the_number : Option ℕ → ℕ
the_number None = 0
the_number (Some n) = n

-- the first number
abbrev pub the_first : List ℕ → Option ℕ
the_first [] = None
the_first (n ∷ ns) = Some n

-- the symbol that a name stands for
abbrev pub the_symbol : Sense → Symbol
the_symbol Nothing = Exists
the_symbol (One s) = s
the_symbol Several = Exists

-- what the name after `opposite` stands for: a member of the target
abbrev pub opposites_named : Declared → ReferenceDecl → Name → List ℕ
opposites_named d r name = members_of_some d (class_named d r.feature.target.text) name.text

abbrev pub opposite_of : Declared → ReferenceDecl → Option Name → Option ℕ
opposite_of d r None = None
opposite_of d r (Some name) = the_first (opposites_named d r name)

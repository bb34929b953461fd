-- The classes of a text that breaks no rule of names are those of a problem.
use Rattle.std.proofs.Common.{◌≡◌, ◌≢◌, ◌∙◌, ℕ, zero, suc, ◌+◌, ◌≤◌, ◌<◌, Bool, true, false, not, List, [], ◌∷◌, map, length, get_or, All, AllPairs, is_none, refl, sym, ap, subst, inl, inr, arith, true≢false}
use Rattle.std.specs.Prelude.{◌==◌}
use Rattle.std.specs.List.{flat_map, list_all, list_any}
use Rattle.std.proofs.lemmas.Bool.{and_from, cases_lt}
use Rattle.std.proofs.lemmas.List.{get_or_past, length-map}
use Rattle.std.proofs.lemmas.List.Elements.{All-cons, All-head, All-map, All-nil, All-tail}
use Rattle.rf_bounds.specs.declared.TheConstants.{MOST_CLASSES}
use Rattle.rf_text.specs.Written.{CanBeQuoted}
use Rattle.rf_finite.specs.Walks.{HasNoCycle, walk_below}
use Rattle.rf_finite.proofs.Walks.{walk_below-from_IsWalk}
use Rattle.rf_problem.specs.Classes.{class_at, extends}
use Rattle.rf_problem.specs.Valid.{AreClasses, extends_no_enum, fits_enum}
use Rattle.rf_problem.specs.declared.class.Class.{Class}
use Rattle.rf_syntax.specs.declared.name.Name.{Name}
use Rattle.rf_syntax.specs.declared.statement.Ast.{Ast}
use Rattle.rf_syntax.specs.declared.statement.Statement.{Statement}
use Rattle.rf_syntax.specs.declared.statement.Statement.TheVariants.{Assert, Atoms, Class as ClassOf, Declare, Enum, Multi, Predicate as PredicateOf, Scope}
use Rattle.rf_limits.specs.declared.kind.LimitKind.TheVariants.{Classes}
use Rattle.rf_names.specs.Declarations.{ClassDecl, Declared, classes_in, declared_in, items_or_none, listed_or_none, names_in}
use Rattle.rf_resolve.specs.Passes.{Passes}
use Rattle.rf_names.specs.LookUp.{class_decl_at, class_named, extends_directly, extends_somehow, is_number, no_class_decl, the_number}
use Rattle.rf_name_rules.specs.NameOffsets.{reserved_names}
use Rattle.rf_structure_rules.specs.StructureOffsets.{cycles_from}
use Rattle.rf_names.specs.Offsets.{offset_if}
use Rattle.rf_resolve.specs.Readable.{IsReadableDeclared}
use Rattle.rf_build.specs.Resolved.{resolved_class}
use Rattle.rf_resolve.proofs.ClearOffsets.{nil-parts, few-from_first_past, offset_if-nil}
use Rattle.rf_resolve.proofs.FreshNames.{AreFresh, AreFresh-apart, AreFresh-behind, AreFresh-from_repeated}
use Rattle.rf_resolve.proofs.NumberFacts.{class_below, some_number}
use Rattle.rf_resolve.proofs.PairFacts.{AllPairs-map, AllPairs-unmap, get_or-map_any}
use Rattle.rf_resolve.proofs.RuleParts.{known_supers, once, plain_supers}

-- the names of classes are among those of the common space, in order
abbrev class_name : ClassDecl → Name
class_name c = c.name

class_names_fresh :
    (seen : List (List ℕ)) (ss : List Statement) → AreFresh seen (flat_map names_in ss) →
    AreFresh seen (map class_name (flat_map classes_in ss))
class_names_fresh seen [] fresh = fresh
class_names_fresh seen (ClassOf is_abstract name supers body ∷ ss) fresh = (fresh.0, class_names_fresh (name.text ∷ seen) ss fresh.1)
class_names_fresh seen (Enum name literals ∷ ss) fresh = (
  fresh.0,
  class_names_fresh (name.text ∷ seen) ss
      (AreFresh-behind (name.text ∷ seen) (listed_or_none literals) (flat_map names_in ss) fresh.1),
)
class_names_fresh seen (PredicateOf start name params clauses ∷ ss) fresh =
    class_names_fresh seen ss (AreFresh-behind seen (names_in (PredicateOf start name params clauses)) (flat_map names_in ss) fresh)
class_names_fresh seen (Declare names ∷ ss) fresh =
    class_names_fresh seen ss (AreFresh-behind seen (names_in (Declare names)) (flat_map names_in ss) fresh)
class_names_fresh seen (Multi items ∷ ss) fresh =
    class_names_fresh seen ss (AreFresh-behind seen (names_in (Multi items)) (flat_map names_in ss) fresh)
class_names_fresh seen (Atoms names ∷ ss) fresh =
    class_names_fresh seen ss (AreFresh-behind seen (names_in (Atoms names)) (flat_map names_in ss) fresh)
class_names_fresh seen (Scope bounds ∷ ss) fresh = class_names_fresh seen ss fresh
class_names_fresh seen (Assert is_default assertion ∷ ss) fresh = class_names_fresh seen ss fresh

-- an enum isn't abstract and extends nothing
enums_fit : (d : Declared) (ss : List Statement) → All (λ c. fits_enum (resolved_class d c) ≡ true) (flat_map classes_in ss)
enums_fit d [] = All-nil (λ c. fits_enum (resolved_class d c) ≡ true)
enums_fit d (ClassOf is_abstract name supers body ∷ ss) =
    All-cons (λ c. fits_enum (resolved_class d c) ≡ true)
    record {
      name = name;
      is_abstract = is_abstract;
      is_enum = false;
      supers = items_or_none supers;
      features = listed_or_none body;
      literals = [];
    }
    (flat_map classes_in ss) refl (enums_fit d ss)
enums_fit d (Enum name literals ∷ ss) =
    All-cons (λ c. fits_enum (resolved_class d c) ≡ true)
    record { name = name; is_abstract = false; is_enum = true; supers = []; features = []; literals = listed_or_none literals }
    (flat_map classes_in ss) refl (enums_fit d ss)
enums_fit d (PredicateOf start name params clauses ∷ ss) = enums_fit d ss
enums_fit d (Declare names ∷ ss) = enums_fit d ss
enums_fit d (Multi items ∷ ss) = enums_fit d ss
enums_fit d (Atoms names ∷ ss) = enums_fit d ss
enums_fit d (Scope bounds ∷ ss) = enums_fit d ss
enums_fit d (Assert is_default assertion ∷ ss) = enums_fit d ss

module _ (d : Declared) where
  -- the class of a number
  pub class_at_resolved : (c : ℕ) → class_at (map (resolved_class d) d.classes) c ≡ resolved_class d (class_decl_at d c)
  class_at_resolved c = get_or-map_any (resolved_class d) d.classes c no_class_decl

  pub class_count : length (map (resolved_class d) d.classes) ≡ length d.classes
  class_count = length-map d.classes (resolved_class d)

  -- what a class extends is the same by names and by numbers
  any_extended : (k : ℕ) (ss : List Name) → All (λ s. is_none (class_named d s.text) ≡ false) ss →
      list_any (λ s. s == k) (map (λ s. the_number (class_named d s.text)) ss) ≡ list_any (λ s. is_number k (class_named d s.text)) ss
  any_extended k [] all = refl
  any_extended k (s ∷ ss) all =
      let here : is_number k (class_named d s.text) ≡ (the_number (class_named d s.text) == k) =
      ap (is_number k) (some_number (class_named d s.text) (All-head (λ n. is_none (class_named d n.text) ≡ false) s ss all)) in
      rw (here, any_extended k ss (All-tail (λ n. is_none (class_named d n.text) ≡ false) s ss all)) refl

  supers_known : All (λ c. All (λ s. is_none (class_named d s.text) ≡ false) c.supers) d.classes →
      (c : ℕ) → All (λ s. is_none (class_named d s.text) ≡ false) (class_decl_at d c).supers
  supers_known all c = elim (cases_lt c (length d.classes)) [
    | inl l ↦ all c no_class_decl l
    | inr past ↦ (let none : (class_decl_at d c).supers ≡ [] = ap (λ k. k.supers) (get_or_past d.classes c no_class_decl past) in
        subst (All (λ s. is_none (class_named d s.text) ≡ false)) (sym none) (λ k e l. absurd (omega arith)))
  ]

  pub extends_same : All (λ c. All (λ s. is_none (class_named d s.text) ≡ false) c.supers) d.classes →
      (c k : ℕ) → extends (map (resolved_class d) d.classes) c k ≡ extends_directly d c k
  extends_same all c k =
      ap (λ x. list_any (λ s. s == k) x.supers) (class_at_resolved c) ∙ any_extended k (class_decl_at d c).supers (supers_known all c)

  -- what a class extends isn't an enum
  none_enum : (ss : List Name) → All (λ s. not (class_decl_at d (the_number (class_named d s.text))).is_enum ≡ true) ss →
      list_all (λ s. not (class_at (map (resolved_class d) d.classes) s).is_enum) (map (λ s. the_number (class_named d s.text)) ss) ≡ true
  none_enum [] all = refl
  none_enum (s ∷ ss) all =
      let c : ℕ = the_number (class_named d s.text) in
      and_from (not (class_at (map (resolved_class d) d.classes) c).is_enum)
      (list_all (λ k. not (class_at (map (resolved_class d) d.classes) k).is_enum) (map (λ x. the_number (class_named d x.text)) ss))
      (ap (λ k. not k.is_enum) (class_at_resolved c)
      ∙ All-head (λ x. not (class_decl_at d (the_number (class_named d x.text))).is_enum ≡ true) s ss all)
      (none_enum ss (All-tail (λ x. not (class_decl_at d (the_number (class_named d x.text))).is_enum ≡ true) s ss all))

  -- no class extends itself
  no_cycles_from : (n : ℕ) (cs : List ClassDecl) → cycles_from d n cs ≡ [] → (k : ℕ) → k < length cs →
      extends_somehow d (n + k) (n + k) ≡ false
  no_cycles_from n [] e k l = absurd (omega arith)
  no_cycles_from n (c ∷ cs) e zero l =
      let parts = nil-parts (offset_if (extends_somehow d n n) c.name.at) (cycles_from d (suc n) cs) e in
      let same : n ≡ n + 0 = omega arith in
      subst (λ m. extends_somehow d m m ≡ false) same (offset_if-nil (extends_somehow d n n) c.name.at parts.0)
  no_cycles_from n (c ∷ cs) e (suc k) l =
      let parts = nil-parts (offset_if (extends_somehow d n n) c.name.at) (cycles_from d (suc n) cs) e in
      let same : suc n + k ≡ n + suc k = omega arith in
      subst (λ m. extends_somehow d m m ≡ false) same (no_cycles_from (suc n) cs parts.1 k (omega arith))

  no_cycle : (classes : List Class) → length classes ≡ length d.classes →
      ((c k : ℕ) → extends classes c k ≡ extends_directly d c k) →
      cycles_from d 0 d.classes ≡ [] → HasNoCycle (extends classes) (length classes)
  no_cycle classes long same e x l w =
      let anywhere : ℕ → Bool = λ y. true in
      let found = walk_below-from_IsWalk (extends classes) anywhere (length classes) x w.0 x w.1 in
      let edges : extends classes ≡ extends_directly d = λ i c k. same c k i in
      let there : extends_somehow d x x ≡ true =
      subst (λ n. walk_below (extends_directly d) anywhere n x x ≡ true) long
      (subst (λ edge. walk_below edge anywhere (length classes) x x ≡ true) edges found) in
      let none : extends_somehow d (0 + x) (0 + x) ≡ false = no_cycles_from 0 d.classes e x (omega arith) in
      let at : 0 + x ≡ x = omega arith in
      true≢false (sym there ∙ subst (λ m. extends_somehow d m m ≡ false) at none)

module _ (ast : Ast) (passes : Passes (declared_in ast)) where
  abbrev d : Declared
  d = declared_in ast

  few : length (map (resolved_class d) d.classes) ≤ MOST_CLASSES
  few = let long = class_count d in let most = few-from_first_past class_name MOST_CLASSES d.classes (passes.limits Classes) in omega arith

  apart : AllPairs (λ c e. c.name ≢ e.name) (map (resolved_class d) d.classes)
  apart = AllPairs-map (λ c e. c.name ≢ e.name) (resolved_class d) d.classes
      (AllPairs-unmap (λ m n. m.text ≢ n.text) class_name d.classes
      (AreFresh-apart reserved_names (map class_name d.classes)
      (class_names_fresh reserved_names ast.statements (AreFresh-from_repeated reserved_names d.names (once d passes.twice).names))))

  supers : All (λ c. All (λ s. s < length (map (resolved_class d) d.classes)) c.supers) (map (resolved_class d) d.classes)
  supers = All-map (λ c. All (λ s. s < length (map (resolved_class d) d.classes)) c.supers) (resolved_class d) d.classes
      (λ k c l. All-map (λ s. s < length (map (resolved_class d) d.classes)) (λ s. the_number (class_named d s.text)) (get_or d.classes k c).supers
      (λ j s m. let long = class_count d in
      let below = class_below d (get_or (get_or d.classes k c).supers j s).text (known_supers d passes.unknown k c l j s m) in
      omega arith))

  pub classes_fit : IsReadableDeclared d → AreClasses (map (resolved_class d) d.classes)
  classes_fit readable = record {
    few = few;
    named = All-map (λ c. CanBeQuoted c.name) (resolved_class d) d.classes readable.classes;
    apart = apart;
    supers = supers;
    enums = All-map (λ c. fits_enum c ≡ true) (resolved_class d) d.classes (enums_fit d ast.statements);
    extendable = All-map (λ c. extends_no_enum (map (resolved_class d) d.classes) c ≡ true) (resolved_class d) d.classes
        (λ k c l. none_enum d (get_or d.classes k c).supers (plain_supers d passes.unknown k c l));
    no_cycle = no_cycle d (map (resolved_class d) d.classes) (class_count d) (extends_same d (known_supers d passes.unknown)) passes.cycles;
  }

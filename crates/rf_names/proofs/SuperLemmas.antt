-- The classes that classes extend, by lists of their numbers.
use Rattle.std.proofs.Common.{◌≡◌, ◌∙◌, ℕ, zero, suc, ◌+◌, ◌<◌, ◌≤◌, Bool, true, false, cond, ◌==◌, ◌&&◌, ◌||◌, List, [], ◌∷◌, length, get_or, map, Option, None, Some, refl, sym, ap, arith, inl, inr}
use Rattle.std.specs.Prelude.{option_to_list}
use Rattle.std.proofs.lemmas.Bool.{cases_lt, ne_eqb}
use Rattle.std.proofs.lemmas.Iterator.Adapters.{position_from-zero}
use Rattle.std.proofs.lemmas.List.{get_or_past}
use Rattle.std.proofs.lemmas.List.Folds.{list_any-append}
use Rattle.std.proofs.lemmas.List.Quantifiers.{position-Some}
use Rattle.std.specs.List.{list_any, position, position_from}
use Rattle.rf_closure.specs.Along.{leads}
use Rattle.rf_finite.specs.Walks.{walk_below}
use Rattle.rf_syntax.specs.declared.name.Name.{Name}
use Rattle.rf_names.specs.Declarations.{ClassDecl, Declared}
use Rattle.rf_names.specs.LookUp.{class_decl_at, class_named, extends_directly, extends_somehow, is_number, no_class_decl}
use Rattle.rf_names.specs.Texts.{reads}
use Rattle.rf_names.specs.Tables.{numbers_among}

position_from-map :
    {S T : Type 0} (p : T → Bool) (f : S → T) (i : ℕ) (xs : List S) → position_from p i (map f xs) ≡ position_from (λ x. p (f x)) i xs
position_from-map p f i [] = refl
position_from-map p f i (x ∷ xs) = ap (cond (p (f x)) (Some i)) (position_from-map p f (i + 1) xs)

pub position-map : {S T : Type 0} (p : T → Bool) (f : S → T) (xs : List S) → position p (map f xs) ≡ position (λ x. p (f x)) xs
position-map p f xs = position_from-zero p (map f xs) ∙ position_from-map p f 0 xs ∙ sym (position_from-zero (λ x. p (f x)) xs)

or_false : (b : Bool) → (b || false) ≡ b
or_false true = refl
or_false false = refl

any_number : (k : ℕ) (o : Option ℕ) → list_any (λ c. c == k) (option_to_list o) ≡ is_number k o
any_number k None = refl
any_number k (Some n) = or_false (n == k)

any_among :
    (d : Declared) (k : ℕ) (found : List Name) →
    list_any (λ c. c == k) (numbers_among (map (λ c. c.name) d.classes) found) ≡ list_any (λ s. is_number k (class_named d s.text)) found
any_among d k [] = refl
any_among d k (s ∷ ss) =
    let names = map (λ c. c.name) d.classes in
    let here : option_to_list (position (reads s.text) names) ≡ option_to_list (class_named d s.text) = ap option_to_list (position-map (reads s.text) (λ c. c.name) d.classes) in
    list_any-append (λ c. c == k) (option_to_list (position (reads s.text) names)) (numbers_among names ss)
    ∙ ap (λ ns. list_any (λ c. c == k) ns || list_any (λ c. c == k) (numbers_among names ss)) here
    ∙ ap (λ b. b || list_any (λ c. c == k) (numbers_among names ss)) (any_number k (class_named d s.text))
    ∙ ap (λ b. is_number k (class_named d s.text) || b) (any_among d k ss)

get_or-seen : {S T : Type 0} (f : S → T) (xs : List S) (i : ℕ) (d : S) (e : T) → e ≡ f d → get_or (map f xs) i e ≡ f (get_or xs i d)
get_or-seen f [] i d e same = same
get_or-seen f (x ∷ xs) zero d e same = refl
get_or-seen f (x ∷ xs) (suc i) d e same = get_or-seen f xs i d e same

-- the lists lead from each class to those that it extends directly
pub leads_extends :
    (d : Declared) (supers : List (List ℕ)) → supers ≡ map (λ c. numbers_among (map (λ x. x.name) d.classes) c.supers) d.classes →
    (c k : ℕ) → leads supers c k ≡ extends_directly d c k
leads_extends d supers are c k =
    let row : ClassDecl → List ℕ = λ x. numbers_among (map (λ y. y.name) d.classes) x.supers in
    ap (λ lists. list_any (λ n. n == k) (get_or lists c [])) are
    ∙ ap (list_any (λ n. n == k)) (get_or-seen row d.classes c no_class_decl [] refl)
    ∙ any_among d k (class_decl_at d c).supers

-- walks over edges that agree
walk_below-same :
    (e f : ℕ → ℕ → Bool) (t : ℕ → Bool) (n : ℕ) → ((a b : ℕ) → e a b ≡ f a b) → (a b : ℕ) → walk_below e t n a b ≡ walk_below f t n a b
walk_below-same e f t zero same a b = same a b
walk_below-same e f t (suc n) same a b =
    let straight = walk_below-same e f t n same a b in
    let to = walk_below-same e f t n same a n in
    let from = walk_below-same e f t n same n b in
    ap (λ w. w || (t n && (walk_below e t n a n && walk_below e t n n b))) straight
    ∙ ap (λ w. walk_below f t n a b || (t n && (w && walk_below e t n n b))) to
    ∙ ap (λ w. walk_below f t n a b || (t n && (walk_below f t n a n && w))) from

nowhere : (b c : Bool) → (b && (c && false)) ≡ false
nowhere true true = refl
nowhere true false = refl
nowhere false c = refl

-- no walk leads where no edge does
walk_below-nowhere :
    (e : ℕ → ℕ → Bool) (t : ℕ → Bool) (n b : ℕ) → ((a : ℕ) → e a b ≡ false) → (a : ℕ) → walk_below e t n a b ≡ false
walk_below-nowhere e t zero b none a = none a
walk_below-nowhere e t (suc n) b none a =
    let straight = walk_below-nowhere e t n b none a in
    let last = walk_below-nowhere e t n b none n in
    ap (λ w. w || (t n && (walk_below e t n a n && walk_below e t n n b))) straight
    ∙ ap (λ w. t n && (walk_below e t n a n && w)) last ∙ nowhere (t n) (walk_below e t n a n)

any_none : {T : Type 0} (p : T → Bool) (xs : List T) → ((x : T) → p x ≡ false) → list_any p xs ≡ false
any_none p [] none = refl
any_none p (x ∷ xs) none = ap (λ b. b || list_any p xs) (none x) ∙ any_none p xs none

is_number-beyond : (k many : ℕ) (o : Option ℕ) → ((n : ℕ) → o ≡ Some n → n < many) → many ≤ k → is_number k o ≡ false
is_number-beyond k many None below beyond = refl
is_number-beyond k many (Some n) below beyond = (let less = below n refl in ne_eqb n k (λ e. absurd (omega arith)))

class_named-below : (d : Declared) (text : List ℕ) (n : ℕ) → class_named d text ≡ Some n → n < length d.classes
class_named-below d text n found = (position-Some (λ c. reads text c.name) d.classes n no_class_decl found).0

extends_nowhere : (d : Declared) (k : ℕ) → length d.classes ≤ k → (c : ℕ) → extends_directly d c k ≡ false
extends_nowhere d k beyond c =
    any_none (λ s. is_number k (class_named d s.text)) (class_decl_at d c).supers
    (λ s. is_number-beyond k (length d.classes) (class_named d s.text) (class_named-below d s.text) beyond)

-- what the search along the lists marks
pub extends_marked :
    (d : Declared) (supers : List (List ℕ)) (many : ℕ) → supers ≡ map (λ c. numbers_among (map (λ x. x.name) d.classes) c.supers) d.classes →
    many ≡ length d.classes → (c k : ℕ) → walk_below (leads supers) (λ _. true) many c k ≡ extends_somehow d c k
extends_marked d supers many are len c k =
    ap (λ (n : ℕ). walk_below (leads supers) (λ _. true) n c k) len
    ∙ walk_below-same (leads supers) (extends_directly d) (λ _. true) (length d.classes) (leads_extends d supers are) c k

-- the marks tell of all numbers, also of those that no class has
pub marks_everywhere :
    (d : Declared) (c : ℕ) (marks : List Bool) → length marks ≡ length d.classes →
    ((k : ℕ) → k < length d.classes → get_or marks k false ≡ extends_somehow d c k) → (k : ℕ) → get_or marks k false ≡ extends_somehow d c k
marks_everywhere d c marks len right k = elim (cases_lt k (length d.classes)) [
  | inl below ↦ right k below
  | inr beyond ↦ (let past : length marks ≤ k = omega arith in
      get_or_past marks k false past ∙ sym (walk_below-nowhere (extends_directly d) (λ _. true) (length d.classes) k (extends_nowhere d k beyond) c))
]

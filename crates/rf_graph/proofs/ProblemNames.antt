-- The names of a problem as they are written: each is a line's part, and stands for one number.
use Rattle.std.proofs.Common.{◌≡◌, ◌≢◌, ◌∙◌, ℕ, zero, suc, ◌+◌, ◌<◌, ◌≤◌, true, false, List, [], ◌∷◌, ◌++◌, length, map, get_or, refl, sym, ap, subst, arith, rules, append_assoc, codes, inl, inr, ◌⊎◌, All}
use Rattle.std.specs.Prelude.{if◌then◌else◌}
use Rattle.std.proofs.lemmas.List.{append-nil, get_or-map, length-map}
use Rattle.std.proofs.lemmas.List.Elements.{All-from_recursion, All-append, All-cons, All-nil, All-same, All-head, All-tail, filter_passes}
use Rattle.std.proofs.lemmas.Option.{slice_get-get_or}
use Rattle.std.proofs.lemmas.Bool.{cases_Bool, cases_lt}
use Rattle.rf_text.specs.Line.{NoBreak}
use Rattle.rf_text.specs.Written.{CanBeQuoted, is_bare, written_name}
use Rattle.rf_text.proofs.WrittenLemmas.{one_written, quoted, written_bare, written_injective, written_quoted}
use Rattle.rf_problem.specs.Parts.{no_object, no_reference, object_at, reference_at}
use Rattle.rf_problem.specs.Classes.{class_at, no_class}
use Rattle.rf_problem.specs.Valid.{has_new, is_named, named_objects, new_numbers, new_object}
use Rattle.rf_problem.specs.declared.class.Class.{Class}
use Rattle.rf_problem.specs.declared.object.ObjectDecl.{ObjectDecl}
use Rattle.rf_problem.specs.declared.object.ObjectName.{ObjectName}
use Rattle.rf_problem.specs.declared.object.ObjectName.TheVariants.{Named, NewOf}
use Rattle.rf_problem.specs.declared.problem.Problem.{Problem}
use Rattle.rf_graph.specs.Document.{class_name, object_name, reference_name, written_object}

-- a written name is one line
pub NoBreak-written : (name : List ℕ) → CanBeQuoted name → NoBreak (written_name name)
NoBreak-written name q = elim (cases_Bool (is_bare name)) [
  | inl bare ↦ All-same (λ b. b ≢ 10) (written_name name) name (written_bare name bare) q.no_line_feed
  | inr bare ↦ (let P : ℕ → Type 0 = λ b. b ≢ 10 in
      let last = All-cons P 39 [] (λ e. absurd (omega arith)) (All-nil P) in
      let inside = All-append P name (39 ∷ []) q.no_line_feed last in
      All-same P (written_name name) (quoted name) (written_quoted name bare) (All-cons P 39 (name ++ 39 ∷ []) (λ e. absurd (omega arith)) inside))
]

-- classes
pub CanBeQuoted-class : (p : Problem) (c : ℕ) → c < length p.classes → CanBeQuoted (class_at p.classes c).name
CanBeQuoted-class p c h = p.classes_fit.named c no_class h

pub class_name-read : (p : Problem) (c : ℕ) (d : Class) → c < length p.classes → class_name p c ≡ written_name (get_or p.classes c d).name
class_name-read p c d h = rw (slice_get-get_or p.classes c d h) refl

pub one_class : (p : Problem) (c d : ℕ) → c < length p.classes → d < length p.classes → (class_at p.classes c).name ≡ (class_at p.classes d).name → c ≡ d
one_class p c d hc hd same = elim (cases_lt c d) [
  | inl below ↦ absurd (p.classes_fit.apart c d no_class below hd same)
  | inr above ↦ elim (cases_lt d c) [ inl below ↦ absurd (p.classes_fit.apart d c no_class below hc (sym same)) | inr neither ↦ omega arith ]
]

-- what begins with the name of a class and then a colon
pub one_behind_class :
    (p : Problem) (c d : ℕ) (s t : List ℕ) → c < length p.classes → d < length p.classes →
    class_name p c ++ 58 ∷ s ≡ class_name p d ++ 58 ∷ t → (c ≡ d) × (s ≡ t)
one_behind_class p c d s t hc hd e =
    let whole = ap (λ n. n ++ 58 ∷ s) (sym (class_name-read p c no_class hc)) ∙ e ∙ ap (λ n. n ++ 58 ∷ t) (class_name-read p d no_class hd) in
    let parts = one_written (class_at p.classes c).name (class_at p.classes d).name (58 ∷ s) (58 ∷ t) (CanBeQuoted-class p c hc) (CanBeQuoted-class p d hd) refl refl whole in
    let tails : 58 ∷ s ≡ 58 ∷ t = parts.1 in
    (one_class p c d hc hd parts.0, cc)

pub NoBreak-class : (p : Problem) (c : ℕ) → c < length p.classes → NoBreak (class_name p c)
NoBreak-class p c h = All-same (λ b. b ≢ 10) _ _ (class_name-read p c no_class h) (NoBreak-written _ (CanBeQuoted-class p c h))

-- references
pub reference_name-read :
    (p : Problem) (r : ℕ) → r < length p.references →
    reference_name p r ≡ class_name p (reference_at p.references r).source ++ (codes "::" ++ written_name (reference_at p.references r).name)
reference_name-read p r h = rw (slice_get-get_or p.references r no_reference h) refl

pub one_reference : (p : Problem) (r s : ℕ) → r < length p.references → s < length p.references → reference_name p r ≡ reference_name p s → r ≡ s
one_reference p r s hr hs e =
    let rs = reference_at p.references r in
    let ss = reference_at p.references s in
    let whole = sym (reference_name-read p r hr) ∙ e ∙ reference_name-read p s hs in
    let parts = one_behind_class p rs.source ss.source (58 ∷ written_name rs.name) (58 ∷ written_name ss.name)
    (p.references_fit.sources r no_reference hr) (p.references_fit.sources s no_reference hs) whole in
    let tails : written_name rs.name ≡ written_name ss.name = cc parts.1 in
    let same = written_injective rs.name ss.name (p.references_fit.named r no_reference hr) (p.references_fit.named s no_reference hs) tails in
    elim (cases_lt r s) [
      | inl below ↦ absurd (p.references_fit.apart r s no_reference below hs parts.0 same)
      | inr above ↦ elim (cases_lt s r) [ inl below ↦ absurd (p.references_fit.apart s r no_reference below hr (sym parts.0) (sym same)) | inr neither ↦ omega arith ]
    ]

NoBreak-colons : NoBreak (codes "::")
NoBreak-colons = All-from_recursion (λ b. b ≢ 10) (codes "::") (search rules)

pub NoBreak-reference : (p : Problem) (r : ℕ) → r < length p.references → NoBreak (reference_name p r)
NoBreak-reference p r h =
    let P : ℕ → Type 0 = λ b. b ≢ 10 in
    let last = NoBreak-written _ (p.references_fit.named r no_reference h) in
    let class = NoBreak-class p (reference_at p.references r).source (p.references_fit.sources r no_reference h) in
    All-same P _ _ (reference_name-read p r h) (All-append P _ _ class (All-append P (codes "::") _ NoBreak-colons last))

-- the numbers of the classes that have objects for their new nodes
new_above : (n : ℕ) (cs : List Class) (j : ℕ) → j < length (new_numbers n cs) → n ≤ get_or (new_numbers n cs) j 0
new_above n [] j h = absurd (omega arith)
new_above n (c ∷ cs) j h = elim (cases_Bool (has_new c)) [
  | inr skipped ↦ (let fewer : new_numbers n (c ∷ cs) ≡ new_numbers (suc n) cs = ap (λ b. if b then n ∷ new_numbers (suc n) cs else new_numbers (suc n) cs) skipped in
      let room : j < length (new_numbers (suc n) cs) = subst (λ l. j < length l) fewer h in
      let ih = new_above (suc n) cs j room in
      rw fewer (omega (arith, ih)))
  | inl kept ↦ (let more : new_numbers n (c ∷ cs) ≡ n ∷ new_numbers (suc n) cs = ap (λ b. if b then n ∷ new_numbers (suc n) cs else new_numbers (suc n) cs) kept in
      rw more (at_head n (new_numbers (suc n) cs) j (subst (λ l. j < length l) more h) (λ k within. new_above (suc n) cs k within)))
]
  where
    at_head : (n : ℕ) (rest : List ℕ) (j : ℕ) → j < length (n ∷ rest) → ((k : ℕ) → k < length rest → suc n ≤ get_or rest k 0) → n ≤ get_or (n ∷ rest) j 0
    at_head n rest zero h below = omega arith
    at_head n rest (suc k) h below = let ih = below k (omega arith) in omega (arith, ih)

new_below : (n : ℕ) (cs : List Class) (j : ℕ) → j < length (new_numbers n cs) → get_or (new_numbers n cs) j 0 < n + length cs
new_below n [] j h = absurd (omega arith)
new_below n (c ∷ cs) j h = elim (cases_Bool (has_new c)) [
  | inr skipped ↦ (let fewer : new_numbers n (c ∷ cs) ≡ new_numbers (suc n) cs = ap (λ b. if b then n ∷ new_numbers (suc n) cs else new_numbers (suc n) cs) skipped in
      let ih = new_below (suc n) cs j (subst (λ l. j < length l) fewer h) in
      rw fewer (omega (arith, ih)))
  | inl kept ↦ (let more : new_numbers n (c ∷ cs) ≡ n ∷ new_numbers (suc n) cs = ap (λ b. if b then n ∷ new_numbers (suc n) cs else new_numbers (suc n) cs) kept in
      rw more (at_head n (length cs) (new_numbers (suc n) cs) j (subst (λ l. j < length l) more h) (λ k within. new_below (suc n) cs k within)))
]
  where
    at_head : (n m : ℕ) (rest : List ℕ) (j : ℕ) → j < length (n ∷ rest) → ((k : ℕ) → k < length rest → get_or rest k 0 < suc n + m) → get_or (n ∷ rest) j 0 < n + suc m
    at_head n m rest zero h below = omega arith
    at_head n m rest (suc k) h below = let ih = below k (omega arith) in omega (arith, ih)

-- they ascend
new_ascend :
    (n : ℕ) (cs : List Class) (i j : ℕ) → i < j → j < length (new_numbers n cs) →
    get_or (new_numbers n cs) i 0 < get_or (new_numbers n cs) j 0
new_ascend n [] i j before h = absurd (omega arith)
new_ascend n (c ∷ cs) i j before h = elim (cases_Bool (has_new c)) [
  | inr skipped ↦ (let fewer : new_numbers n (c ∷ cs) ≡ new_numbers (suc n) cs = ap (λ b. if b then n ∷ new_numbers (suc n) cs else new_numbers (suc n) cs) skipped in
      rw fewer (new_ascend (suc n) cs i j before (subst (λ l. j < length l) fewer h)))
  | inl kept ↦ (let more : new_numbers n (c ∷ cs) ≡ n ∷ new_numbers (suc n) cs = ap (λ b. if b then n ∷ new_numbers (suc n) cs else new_numbers (suc n) cs) kept in
      rw more (at_head n (new_numbers (suc n) cs) i j before (subst (λ l. j < length l) more h) (λ k within. new_above (suc n) cs k within)
      (λ k m lt within. new_ascend (suc n) cs k m lt within)))
]
  where
    at_head :
        (n : ℕ) (rest : List ℕ) (i j : ℕ) → i < j → j < length (n ∷ rest) → ((k : ℕ) → k < length rest → suc n ≤ get_or rest k 0) →
        ((k m : ℕ) → k < m → m < length rest → get_or rest k 0 < get_or rest m 0) → get_or (n ∷ rest) i 0 < get_or (n ∷ rest) j 0
    at_head n rest i zero before h above ascend = absurd (omega arith)
    at_head n rest zero (suc j) before h above ascend = let more = above j (omega arith) in omega (arith, more)
    at_head n rest (suc i) (suc j) before h above ascend = ascend i j (omega arith) (omega arith)

-- an object that has no name of its own stands after those that have one, at the place of its class
new_named : (name : ObjectName) (c : ℕ) → name ≡ NewOf c → is_named name ≡ false
new_named name c e = ap is_named e

new_place :
    (named : List ObjectDecl) (numbers : List ℕ) (objects : List ObjectDecl) (o c : ℕ) → All (λ q. is_named q.name ≡ true) named →
    objects ≡ named ++ map new_object numbers → o < length objects → (object_at objects o).name ≡ NewOf c →
    (k : ℕ) × (o ≡ length named + k) × (k < length numbers) × (get_or numbers k 0 ≡ c)
new_place [] numbers objects o c each same within is =
    let read : get_or (map new_object numbers) o no_object ≡ new_object (get_or numbers o 0) = get_or-map new_object numbers o 0 no_object (omega (arith, ap length same, length-map numbers new_object)) in
    let there : NewOf (get_or numbers o 0) ≡ NewOf c = sym (ap (λ q. q.name) read) ∙ ap (λ os. (object_at os o).name) (sym same) ∙ is in
    (o, omega arith, omega (arith, ap length same, length-map numbers new_object), cc there)
new_place (q ∷ named) numbers [] o c each same within is = absurd (omega arith)
new_place (q ∷ named) numbers (x ∷ objects) zero c each same within is =
    let heads : x ≡ q = cc in
    let own : is_named x.name ≡ true = ap (λ y. is_named y.name) heads ∙ All-head (λ y. is_named y.name ≡ true) q named each in
    let new = new_named x.name c is in
    cc
new_place (q ∷ named) numbers (x ∷ objects) (suc o) c each same within is =
    let tails : objects ≡ named ++ map new_object numbers = cc in
    let ih = new_place named numbers objects o c (All-tail (λ y. is_named y.name ≡ true) q named each) tails (omega arith) is in
    (ih.0, omega (arith, ih.1), ih.2, ih.3)

new_place-problem :
    (p : Problem) (o c : ℕ) → o < length p.objects → (object_at p.objects o).name ≡ NewOf c →
    (k : ℕ) × (o ≡ length (named_objects p.objects) + k) × (k < length (new_numbers 0 p.classes)) × (get_or (new_numbers 0 p.classes) k 0 ≡ c)
new_place-problem p o c =
    new_place (named_objects p.objects) (new_numbers 0 p.classes) p.objects o c (filter_passes (λ q. is_named q.name) p.objects) p.objects_fit.stocked

-- an object that has no name of its own is that of a class, and of each class there is one
pub new_class : (p : Problem) (o c : ℕ) → o < length p.objects → (object_at p.objects o).name ≡ NewOf c → c < length p.classes
new_class p o c within is =
    let place = new_place-problem p o c within is in
    let below = new_below 0 p.classes place.0 place.2 in
    omega (arith, below, place.3)

pub one_new :
    (p : Problem) (o q c : ℕ) → o < length p.objects → q < length p.objects → (object_at p.objects o).name ≡ NewOf c →
    (object_at p.objects q).name ≡ NewOf c → o ≡ q
one_new p o q c ho hq io iq =
    let x = new_place-problem p o c ho io in
    let y = new_place-problem p q c hq iq in
    let numbers = new_numbers 0 p.classes in
    elim (cases_lt x.0 y.0) [
      | inl before ↦ (let less = new_ascend 0 p.classes x.0 y.0 before y.2 in absurd (omega (arith, less, x.3, y.3)))
      | inr above ↦ elim (cases_lt y.0 x.0) [
        | inl before ↦ (let less = new_ascend 0 p.classes y.0 x.0 before x.2 in absurd (omega (arith, less, x.3, y.3)))
        | inr neither ↦ omega (arith, x.1, y.1)
      ]
    ]

-- objects
pub object_name-read : (p : Problem) (o : ℕ) (d : ObjectDecl) → o < length p.objects → object_name p o ≡ written_object p (get_or p.objects o d).name
object_name-read p o d h = rw (slice_get-get_or p.objects o d h) refl

-- an object is written by its own name, or as the new one of its class
pub cases_object :
    (p : Problem) (o : ℕ) → o < length p.objects →
    ((own : List ℕ) × ((object_at p.objects o).name ≡ Named own) × CanBeQuoted own × (object_name p o ≡ written_name own))
    ⊎ ((c : ℕ) × ((object_at p.objects o).name ≡ NewOf c) × (c < length p.classes) × (object_name p o ≡ class_name p c ++ codes "::new"))
cases_object p o h = by_name (object_at p.objects o).name refl
  where
    by_name :
        (name : ObjectName) → (object_at p.objects o).name ≡ name →
        ((own : List ℕ) × ((object_at p.objects o).name ≡ Named own) × CanBeQuoted own × (object_name p o ≡ written_name own))
        ⊎ ((c : ℕ) × ((object_at p.objects o).name ≡ NewOf c) × (c < length p.classes) × (object_name p o ≡ class_name p c ++ codes "::new"))
    by_name (Named own) is = inl (own, is, p.objects_fit.named o no_object h own is, object_name-read p o no_object h ∙ ap (written_object p) is)
    by_name (NewOf c) is = inr (c, is, new_class p o c h is, object_name-read p o no_object h ∙ ap (written_object p) is)

NoBreak-new : NoBreak (codes "::new")
NoBreak-new = All-from_recursion (λ b. b ≢ 10) (codes "::new") (search rules)

pub NoBreak-object : (p : Problem) (o : ℕ) → o < length p.objects → NoBreak (object_name p o)
NoBreak-object p o h = elim (cases_object p o h) [
  | inl (own, is, quotable, same) ↦ All-same (λ b. b ≢ 10) _ _ same (NoBreak-written own quotable)
  | inr (c, is, within, same) ↦ All-same (λ b. b ≢ 10) _ _ same (All-append (λ b. b ≢ 10) (class_name p c) (codes "::new") (NoBreak-class p c within) NoBreak-new)
]

-- no own name is written as a new object is
own_not_new :
    (p : Problem) (own : List ℕ) (c : ℕ) → CanBeQuoted own → c < length p.classes → written_name own ≡ class_name p c ++ codes "::new" → ⊥
own_not_new p own c quotable within e =
    let whole = append-nil (written_name own) ∙ e ∙ ap (λ n. n ++ codes "::new") (class_name-read p c no_class within) in
    let parts = one_written own (class_at p.classes c).name [] (codes "::new") quotable (CanBeQuoted-class p c within) tt refl whole in
    let none : [] ≡ codes "::new" = parts.1 in
    cc

pub one_object : (p : Problem) (o q : ℕ) → o < length p.objects → q < length p.objects → object_name p o ≡ object_name p q → o ≡ q
one_object p o q ho hq e = elim (cases_object p o ho) [
  | inl (own, is, quotable, same) ↦ elim (cases_object p q hq) [
    | inl (other, it, quotable', same') ↦ (let names : own ≡ other = written_injective own other quotable quotable' (sym same ∙ e ∙ same') in
        elim (cases_lt o q) [
          | inl below ↦ absurd (p.objects_fit.apart o q no_object below hq own is other it names)
          | inr above ↦ elim (cases_lt q o) [ inl below ↦ absurd (p.objects_fit.apart q o no_object below ho other it own is (sym names)) | inr neither ↦ omega arith ]
        ])
    | inr (c, it, within, same') ↦ absurd (own_not_new p own c quotable within (sym same ∙ e ∙ same'))
  ]
  | inr (c, is, within, same) ↦ elim (cases_object p q hq) [
    | inl (other, it, quotable', same') ↦ absurd (own_not_new p other c quotable' within (sym same' ∙ sym e ∙ same))
    | inr (d, it, within', same') ↦ (let classes : c ≡ d = (one_behind_class p c d (codes ":new") (codes ":new") within within' (sym same ∙ e ∙ same')).0 in
        one_new p o q c ho hq is (it ∙ ap NewOf (sym classes)))
  ]
]

-- names that are put together
pub reference_pushed :
    (p : Problem) (r source : ℕ) (own start a b c : List ℕ) → r < length p.references → source ≡ (reference_at p.references r).source →
    own ≡ (reference_at p.references r).name → start ≡ [] → a ≡ start ++ class_name p source → b ≡ a ++ codes "::" → c ≡ b ++ written_name own →
    c ≡ reference_name p r
reference_pushed p r source own start a b c within is called is0 ia ib ic =
    ic ∙ rw (ib, ia, is0, is, called) (simp append_assoc) ∙ sym (reference_name-read p r within)

pub new_pushed :
    (p : Problem) (o class : ℕ) (start a b : List ℕ) → o < length p.objects → (object_at p.objects o).name ≡ NewOf class → start ≡ [] →
    a ≡ start ++ class_name p class → b ≡ a ++ codes "::new" → b ≡ object_name p o
new_pushed p o class start a b within is is0 ia ib =
    ib ∙ rw (ia, is0) refl ∙ sym (object_name-read p o no_object within ∙ ap (written_object p) is)

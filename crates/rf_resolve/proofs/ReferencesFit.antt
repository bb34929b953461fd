-- The references of a text that breaks no rule of names are those of a problem.
use Rattle.std.proofs.Common.{◌≡◌, ◌≢◌, ◌∙◌, ℕ, zero, suc, ◌+◌, ◌≤◌, ◌<◌, Bool, true, false, ◌&&◌, not, List, [], ◌∷◌, map, length, get_or, All, AllPairs, Option, Some, None, refl, sym, ap, subst, arith, true≢false}
use Rattle.std.specs.Option.{ForSome}
use Rattle.std.proofs.lemmas.Bool.{and_parts}
use Rattle.std.proofs.lemmas.List.{get_or-map, length-map}
use Rattle.std.proofs.lemmas.List.Elements.{All-append, All-head, All-map, All-nil, All-tail, All-weaker}
use Rattle.rf_bounds.specs.declared.TheConstants.{MOST_REFERENCES}
use Rattle.rf_problem.specs.Parts.{no_reference, reference_at}
use Rattle.rf_problem.specs.Valid.{AreMirrored, AreReferences, IsSmall}
use Rattle.rf_problem.specs.declared.reference.Reference.{Reference as Relation}
use Rattle.rf_syntax.specs.declared.class.Feature.{Feature}
use Rattle.rf_syntax.specs.declared.name.Name.{Name}
use Rattle.rf_text.specs.Written.{CanBeQuoted}
use Rattle.rf_limits.specs.declared.kind.LimitKind.TheVariants.{References}
use Rattle.rf_names.specs.Declarations.{ClassDecl, Declared, ReferenceDecl, references_of}
use Rattle.rf_resolve.specs.Passes.{Passes}
use Rattle.rf_names.specs.LookUp.{class_named, opposite_of, opposites_named, the_first, the_number}
use Rattle.rf_name_rules.specs.NameOffsets.{feature_names, repeated, reserved_members, unknown_class, unknown_opposite, unknown_reference}
use Rattle.rf_structure_rules.specs.StructureOffsets.{bad_opposite, bad_opposites_from, is_same_number, leads_back, no_reference_decl, reference_decl_at}
use Rattle.rf_resolve.specs.Readable.{IsReadableDeclared}
use Rattle.rf_build.specs.Resolved.{resolved_class, resolved_reference}
use Rattle.rf_resolve.proofs.ClassesFit.{class_count}
use Rattle.rf_resolve.proofs.ClearOffsets.{nil-parts, few-from_first_past, nil-each, offset_if-nil}
use Rattle.rf_resolve.proofs.FreshNames.{AreFresh, AreFresh-apart, AreFresh-from_repeated}
use Rattle.rf_resolve.proofs.NumberFacts.{class_below, members_below, same_numbers}
use Rattle.rf_resolve.proofs.PairFacts.{AllPairs-append, AllPairs-map, AllPairs-nil, AllPairs-unmap}
use Rattle.rf_resolve.proofs.RuleParts.{known, known_class, once}
use Rattle.rf_resolve.proofs.SmallCounts.{IsSmall-mult}

-- the numbers of the classes that declare references
abbrev IsDeclaredBetween : ℕ → ℕ → ReferenceDecl → Type 0
IsDeclaredBetween n m r = (n ≤ r.source) × (r.source < m)

sources_between : (n m : ℕ) (cs : List ClassDecl) → n + length cs ≤ m → All (IsDeclaredBetween n m) (references_of n cs)
sources_between n m [] l = All-nil (IsDeclaredBetween n m)
sources_between n m (c ∷ cs) l = All-append (IsDeclaredBetween n m) (map (λ f. record { source = n; feature = f }) c.features) (references_of (suc n) cs)
    (All-map (IsDeclaredBetween n m) (λ f. record { source = n; feature = f }) c.features (λ k f b. (omega arith, omega arith)))
    (All-weaker (IsDeclaredBetween (suc n) m) (IsDeclaredBetween n m) (λ r is. (omega (arith, is.0), is.1)) (references_of (suc n) cs)
    (sources_between (suc n) m cs (omega arith)))

-- no two of one class have the same name
abbrev AreNamedApart : ReferenceDecl → ReferenceDecl → Type 0
AreNamedApart r s = r.source ≡ s.source → r.feature.name.text ≢ s.feature.name.text

declared_apart : (n : ℕ) (cs : List ClassDecl) → All (λ c. AreFresh reserved_members (feature_names c)) cs →
    AllPairs AreNamedApart (references_of n cs)
declared_apart n [] fresh = AllPairs-nil AreNamedApart
declared_apart n (c ∷ cs) fresh =
    let fs : List Feature = c.features in
    AllPairs-append AreNamedApart (map (λ f. record { source = n; feature = f }) fs) (references_of (suc n) cs)
    (AllPairs-map AreNamedApart (λ f. record { source = n; feature = f }) fs
    (λ i j f before l same. AllPairs-unmap (λ (x y : Name). x.text ≢ y.text) (λ (f : Feature). f.name) fs
    (AreFresh-apart reserved_members (feature_names c) (All-head (λ c. AreFresh reserved_members (feature_names c)) c cs fresh)) i j f before l))
    (declared_apart (suc n) cs (All-tail (λ c. AreFresh reserved_members (feature_names c)) c cs fresh))
    (All-map (λ r. All (AreNamedApart r) (references_of (suc n) cs)) (λ f. record { source = n; feature = f }) fs
    (λ i f b j s l same. (let later = (sources_between (suc n) (suc n + length cs) cs (omega arith) j s l).0 in absurd (omega arith))))

-- the first of numbers
first_below : (m : ℕ) (ns : List ℕ) (s : ℕ) → All (λ k. k < m) ns → the_first ns ≡ Some s → s < m
first_below m [] s all e = let never : ⊥ = cc in absurd never
first_below m (n ∷ ns) s all e = let same : n ≡ s = cc in subst (λ k. k < m) same (All-head (λ k. k < m) n ns all)

module _ (d : Declared) where
  opposite_below : (r : ReferenceDecl) (name : Option Name) (s : ℕ) → opposite_of d r name ≡ Some s →
      s < length d.references
  opposite_below r None s e = let never : ⊥ = cc in absurd never
  opposite_below r (Some name) s e =
      first_below (length d.references) (opposites_named d r name) s (members_below d (class_named d r.feature.target.text) name.text) e

  -- the opposite leads back
  led_back : (n : ℕ) (r : ReferenceDecl) (name : Option Name) (s : ℕ) → bad_opposite d n r name ≡ [] →
      opposite_of d r name ≡ Some s →
      leads_back d n r (Some s) ≡ true
  led_back n r None s none e = let never : ⊥ = cc in absurd never
  led_back n r (Some name) s none e = subst (λ o. leads_back d n r o ≡ true) e (true_from_not (leads_back d n r (opposite_of d r (Some name)))
      (offset_if-nil (not (leads_back d n r (opposite_of d r (Some name)))) name.at none))
    where
      true_from_not : (b : Bool) → not b ≡ false → b ≡ true
      true_from_not true h = refl
      true_from_not false h = absurd (true≢false h)

  good_opposites : (n : ℕ) (rs : List ReferenceDecl) → bad_opposites_from d n rs ≡ [] →
      (k : ℕ) (e : ReferenceDecl) → k < length rs →
      bad_opposite d (n + k) (get_or rs k e) (get_or rs k e).feature.opposite ≡ []
  good_opposites n [] none k e l = absurd (omega arith)
  good_opposites n (r ∷ rs) none zero e l =
      let parts = nil-parts (bad_opposite d n r r.feature.opposite) (bad_opposites_from d (suc n) rs) none in
      let same : n ≡ n + 0 = omega arith in
      subst (λ m. bad_opposite d m r r.feature.opposite ≡ []) same parts.0
  good_opposites n (r ∷ rs) none (suc k) e l =
      let parts = nil-parts (bad_opposite d n r r.feature.opposite) (bad_opposites_from d (suc n) rs) none in
      let same : suc n + k ≡ n + suc k = omega arith in
      subst (λ m. bad_opposite d m (get_or rs k e) (get_or rs k e).feature.opposite ≡ []) same (good_opposites (suc n) rs parts.1 k e (omega arith))

  abbrev relations : List Relation
  relations = map (resolved_reference d) d.references

  pub reference_count : length relations ≡ length d.references
  reference_count = length-map d.references (resolved_reference d)

  -- the reference of a number
  reference_at_resolved : (r : ℕ) → r < length d.references →
      reference_at relations r ≡ resolved_reference d (reference_decl_at d r)
  reference_at_resolved r l = get_or-map (resolved_reference d) d.references r no_reference_decl no_reference l

  mirrored : bad_opposites_from d 0 d.references ≡ [] → (r : ℕ) → r < length relations →
      ForSome (reference_at relations r).opposite (AreMirrored relations r)
  mirrored none r l s e =
      let long = reference_count in
      let here = reference_at_resolved r (omega arith) in
      let decl : ReferenceDecl = reference_decl_at d r in
      let named : opposite_of d decl decl.feature.opposite ≡ Some s = sym (ap (λ x. x.opposite) here) ∙ e in
      let below = opposite_below decl decl.feature.opposite s named in
      let there = reference_at_resolved s below in
      let other : ReferenceDecl = reference_decl_at d s in
      let at : 0 + r ≡ r = omega arith in
      let good : bad_opposite d r decl decl.feature.opposite ≡ [] =
      subst (λ m. bad_opposite d m decl decl.feature.opposite ≡ []) at (good_opposites 0 d.references none r no_reference_decl (omega arith)) in
      let back = led_back r decl decl.feature.opposite s good named in
      let target : Option ℕ = class_named d decl.feature.target.text in
      let other_target : Option ℕ = class_named d other.feature.target.text in
      let other_opposite : Option ℕ = opposite_of d other other.feature.opposite in
      let one = and_parts (is_same_number target (Some other.source))
      (is_same_number other_target (Some decl.source) && is_same_number other_opposite (Some r)) back in
      let two = and_parts (is_same_number other_target (Some decl.source)) (is_same_number other_opposite (Some r)) one.1 in
      record {
        there = omega arith;
        back = ap (λ x. x.opposite) there ∙ (same_numbers other_opposite (Some r) two.1).0;
        source = ap (λ x. x.source) there ∙ sym (ap the_number (same_numbers target (Some other.source) one.0).0)
            ∙ sym (ap (λ x. x.target) here);
        target = ap (λ x. x.target) there ∙ ap the_number (same_numbers other_target (Some decl.source) two.0).0
            ∙ sym (ap (λ x. x.source) here);
      }

pub references_fit : (d : Declared) → d.references ≡ references_of 0 d.classes → Passes d → IsReadableDeclared d →
    AreReferences (map (resolved_class d) d.classes) (map (resolved_reference d) d.references)
references_fit d own passes readable =
    let long = reference_count d in
    let many = class_count d in
    record {
      few = (let most = few-from_first_past (λ r. r.feature.name) MOST_REFERENCES d.references (passes.limits References) in omega arith);
      named = All-map (λ (r : Relation). CanBeQuoted r.name) (resolved_reference d) d.references readable.references;
      apart = AllPairs-map (λ (r s : Relation). r.source ≡ s.source → r.name ≢ s.name) (resolved_reference d) d.references
          (subst (AllPairs AreNamedApart) (sym own) (declared_apart 0 d.classes (λ k c l.
          AreFresh-from_repeated reserved_members (feature_names (get_or d.classes k c))
          (nil-each (λ c. repeated reserved_members (feature_names c)) d.classes (once d passes.twice).members k c l))));
      sources = All-map (λ (r : Relation). r.source < length (map (resolved_class d) d.classes)) (resolved_reference d) d.references
          (λ k r l. (let all = sources_between 0 (length d.classes) d.classes (omega arith) in
          let within = (subst (All (IsDeclaredBetween 0 (length d.classes))) (sym own) all k r l).1 in omega arith));
      targets = All-map (λ (r : Relation). r.target < length (map (resolved_class d) d.classes)) (resolved_reference d) d.references
          (λ k r l. (let decl : ReferenceDecl = get_or d.references k r in
          let parts = nil-parts (unknown_class d decl.feature.target) (unknown_opposite d decl decl.feature.opposite)
          (nil-each (unknown_reference d) d.references (known d passes.unknown).references k r l) in
          let below = class_below d decl.feature.target.text (known_class d decl.feature.target parts.0) in omega arith));
      ranges = All-map (λ (r : Relation). IsSmall r.range) (resolved_reference d) d.references
          (λ k r l. IsSmall-mult (get_or d.references k r).feature.mult (readable.mults k r l));
      mirrored = mirrored d passes.opposites;
    }

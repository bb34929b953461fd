-- The set of the edges so far.
use Rattle.std.proofs.Common.{◌≡◌, ◌≢◌, ◌∙◌, ℕ, Bool, true, false, List, [], ◌∷◌, ◌++◌, length, refl, sym, ap, subst, inl, inr, not, arith}
use Rattle.std.specs.Bool.{Decides}
use Rattle.std.specs.BTreeSet.{BTreeSet, contains, Updates}
use Rattle.std.specs.Cmp.{Equal-is}
use Rattle.std.specs.declared.cmp.Ordering.{Ordering}
use Rattle.std.specs.declared.cmp.Ordering.TheVariants.{Less, Equal, Greater}
use Rattle.std.specs.Ordering.{is_eq, nat_cmp, ordering_then}
use Rattle.std.specs.Prelude.{AllPairs, Contains}
use Rattle.std.proofs.lemmas.Bool.{both_ways, cases_Bool, not-false}
use Rattle.std.proofs.lemmas.Cmp.{nat_cmp_total, tied_itself}
use Rattle.std.proofs.lemmas.List.{get_or_default}
use Rattle.std.proofs.lemmas.List.Elements.{Contains-append_left, Contains-push, Contains-push_cases}
use Rattle.std.proofs.lemmas.List.Quantifiers.{all_pairs_push}
use Rattle.std.proofs.lemmas.Map.Lookups.{exact_unsigned}
use Rattle.rf_graph.specs.declared.graph.Edge.{Edge}

abbrev pub Key : Type 0
Key = ℕ × ℕ × ℕ

abbrev pub key_cmp : Key → Key → Ordering
key_cmp x y = ordering_then (ordering_then (nat_cmp x.0 y.0) (nat_cmp x.1 y.1)) (nat_cmp x.2 y.2)

abbrev pub key : Edge → Key
key e = (e.reference, e.from, e.to)

then_equal : (a b : Ordering) → ordering_then a b ≡ Equal → (a ≡ Equal) × (b ≡ Equal)
then_equal Less b e = absurd (let none : Less ≡ Equal = e in cc)
then_equal Equal b e = (refl, e)
then_equal Greater b e = absurd (let none : Greater ≡ Equal = e in cc)

one_key : (e f : Edge) → key_cmp (key e) (key f) ≡ Equal → e ≡ f
one_key e f same =
    let outer = then_equal _ _ same in
    let inner = then_equal _ _ outer.0 in
    let reference = exact_unsigned e.reference f.reference inner.0 in
    let from = exact_unsigned e.from f.from inner.1 in
    let to = exact_unsigned e.to f.to outer.1 in
    λ i. record { reference = reference i; from = from i; to = to i }

own_key : (e : Edge) → key_cmp (key e) (key e) ≡ Equal
own_key e = rw (tied_itself nat_cmp_total e.reference, tied_itself nat_cmp_total e.from) (tied_itself nat_cmp_total e.to)

is_key : (e f : Edge) → Decides (is_eq (key_cmp (key e) (key f))) (e ≡ f)
is_key e f = (λ h. one_key e f ((Equal-is (key_cmp (key e) (key f))).0 h), λ same. ap (λ g. is_eq (key_cmp (key e) (key g))) (sym same) ∙ ap is_eq (own_key e))

-- the set has the keys of these edges
abbrev pub Marks : List Edge → BTreeSet Key → Type 0
Marks edges seen = (e : Edge) → Decides (contains key_cmp seen (key e)) (Contains edges e)

pub no_mark : (edges : List Edge) (seen : BTreeSet Key) → edges ≡ [] → seen.keys ≡ [] → Marks edges seen
no_mark edges seen none empty e = (λ h. (let without : contains key_cmp seen (key e) ≡ false = rw empty refl in absurd (both_ways _ without h)), λ c. absurd (omega (arith, c.1, ap length none)))

pub one_more_mark :
    (edges more : List Edge) (old new : BTreeSet Key) (e : Edge) → Marks edges old → Updates key_cmp old new (key e) true → more ≡ edges ++ e ∷ [] →
    Marks more new
one_more_mark edges more old new e marks updates pushed f = rw pushed (elim (cases_Bool (is_eq (key_cmp (key e) (key f)))) [
  | inl same ↦ (let equal = (is_key e f).0 same in
      let now : contains key_cmp new (key f) ≡ true = updates.0 (key f) ∙ rw same refl in
      (λ _. subst (λ g. Contains (edges ++ e ∷ []) g) equal (Contains-push edges e), λ _. now))
  | inr other ↦ (let now : contains key_cmp new (key f) ≡ contains key_cmp old (key f) = updates.0 (key f) ∙ rw other refl in (
    λ h. Contains-append_left edges (e ∷ []) f ((marks f).0 (sym now ∙ h)),
    λ c. elim (Contains-push_cases edges e f c) [
      | inl before ↦ now ∙ (marks f).1 before
      | inr same ↦ absurd (both_ways _ other ((is_key e f).1 same))
    ],
  ))
])

-- an edge whose key is new isn't among them
pub not_among : (edges : List Edge) (old : BTreeSet Key) (e : Edge) (new : Bool) → Marks edges old → new ≡ not (contains key_cmp old (key e)) → new ≡ true → Contains edges e → ⊥
not_among edges old e new marks added is among = let there = (marks e).1 among in both_ways new (added ∙ ap not there) is

pub among : (edges : List Edge) (old : BTreeSet Key) (e : Edge) (new : Bool) → Marks edges old → new ≡ not (contains key_cmp old (key e)) → new ≡ false → Contains edges e
among edges old e new marks added is = (marks e).0 (not-false _ (sym added ∙ is))

pub still_distinct :
    (edges more : List Edge) (e : Edge) → AllPairs (λ x y. x ≢ y) edges → (Contains edges e → ⊥) → more ≡ edges ++ e ∷ [] → AllPairs (λ x y. x ≢ y) more
still_distinct edges more e distinct absent pushed = rw pushed (all_pairs_push (λ x y. x ≢ y) edges e distinct (λ k d h same. absent (k, h, get_or_default edges k e d h ∙ same)))

pub none_distinct : (edges : List Edge) → edges ≡ [] → AllPairs (λ x y. x ≢ y) edges
none_distinct edges none i j d before h = absurd (omega (arith, h, ap length none))

-- Objects whose names are noted one after another.
use Rattle.std.proofs.Common.{◌≡◌, ◌↔◌, ◌∙◌, ◌<◌, ◌+◌, ℕ, Bool, true, false, List, All, [], ◌∷◌, ◌++◌, length, take, get_or, refl, sym, ap, subst, inl, inr, not, arith}
use Rattle.std.specs.Bool.{Decides}
use Rattle.std.specs.BTreeSet.{BTreeSet, contains, Updates}
use Rattle.std.specs.Ordering.{is_eq}
use Rattle.std.specs.Prelude.{AllPairs}
use Rattle.std.proofs.lemmas.Bool.{both_ways, cases_Bool, not-false}
use Rattle.std.proofs.lemmas.Grind.{common_steps}
use Rattle.std.proofs.lemmas.List.{get_or_default, get_or-take, take_more}
use Rattle.std.proofs.lemmas.List.Elements.{Contains-append_left, Contains-push, Contains-push_cases}
use Rattle.std.proofs.lemmas.List.Quantifiers.{all_pairs_push}
use Rattle.std.proofs.lemmas.Map.Text.{is_eq-slice_cmp}
use Rattle.std.proofs.lemmas.Slice.Eq.{bytes_eq-Decides}
use denote.Ref.{Bor}
use Rattle.rf_problem.specs.Noted.{AreNamedApart, AreNoted, text_cmp}
use Rattle.rf_problem.specs.declared.object.ObjectDecl.{ObjectDecl}
use Rattle.rf_problem.specs.declared.object.ObjectName.TheVariants.{Named}

is_text : (x q : Bor (List ℕ)) → Decides (is_eq (text_cmp x q)) (x.now ≡ q.now)
is_text x q = (
  λ h. (bytes_eq-Decides x.now q.now).0 (sym (is_eq-slice_cmp x.now q.now) ∙ h),
  λ same. is_eq-slice_cmp x.now q.now ∙ (bytes_eq-Decides x.now q.now).1 same,
)

one_name : (a b : List ℕ) → Named a ≡ Named b → a ≡ b
one_name a b e = cc

pub none_noted : (seen : BTreeSet (Bor (List ℕ))) → seen.keys ≡ [] → AreNoted [] seen
none_noted seen empty q = (
  λ h. (let without : contains text_cmp seen q ≡ false = rw empty refl in absurd (both_ways _ without h)),
  λ among. absurd (omega (arith, among.1.1)),
)

-- an object with a name
pub named_noted :
    (objects : List ObjectDecl) (old new : BTreeSet (Bor (List ℕ))) (x : ObjectDecl) (k : Bor (List ℕ)) → x.name ≡ Named k.now → AreNoted objects old →
    Updates text_cmp old new k true → AreNoted (objects ++ x ∷ []) new
named_noted objects old new x k is noted updates q = elim (cases_Bool (is_eq (text_cmp k q))) [
  | inl same ↦ (let now : contains text_cmp new q ≡ true = updates.0 q ∙ rw same refl in
      (λ _. (x, Contains-push objects x, is ∙ ap Named ((is_text k q).0 same)), λ _. now))
  | inr differ ↦ (let now : contains text_cmp new q ≡ contains text_cmp old q = updates.0 q ∙ rw differ refl in (
    λ h. (let among = (noted q).0 (sym now ∙ h) in (among.0, Contains-append_left objects (x ∷ []) among.0 among.1, among.2)),
    λ among. elim (Contains-push_cases objects x among.0 among.1) [
      | inl before ↦ now ∙ (noted q).1 (among.0, before, among.2)
      | inr same ↦ (let both : Named k.now ≡ Named q.now = sym is ∙ ap (λ (o : ObjectDecl). o.name) same ∙ among.2 in
          absurd (both_ways _ differ ((is_text k q).1 (one_name _ _ both))))
    ],
  ))
]

-- its name is new exactly where it is apart from those before it
pub named_apart :
    (objects : List ObjectDecl) (old : BTreeSet (Bor (List ℕ))) (x : ObjectDecl) (k : Bor (List ℕ)) (new : Bool) → x.name ≡ Named k.now → AreNoted objects old →
    new ≡ not (contains text_cmp old k) → new ≡ true ↔ All (λ o. AreNamedApart o x) objects
named_apart objects old x k new is noted added = (
  λ h i d l name e other f same.
      (let own : k.now ≡ other = one_name _ _ (sym is ∙ f) in
      let there : contains text_cmp old k ≡ true = (noted k).1 (get_or objects i d, (i, l, get_or_default objects i (get_or objects i d) d l), e ∙ ap Named (same ∙ sym own)) in
      both_ways new (added ∙ ap not there) h),
  λ apart. elim (cases_Bool new) [
    | inl fresh ↦ fresh
    | inr taken ↦ (let among = (noted k).0 (not-false _ (sym added ∙ taken)) in
        let o = among.0 in
        let at = among.1 in
        let named : (get_or objects at.0 o).name ≡ Named k.now = ap (λ (q : ObjectDecl). q.name) at.2 ∙ among.2 in
        absurd (apart at.0 o at.1 k.now named k.now is refl))
  ],
)

-- one more object
module _ (objects : List ObjectDecl) (i : ℕ) (x : ObjectDecl) (below : i < length objects) (at : x ≡ get_or objects i x) where
  pub first_more : take (i + 1) objects ≡ take i objects ++ x ∷ []
  first_more = take_more objects i x below ∙ ap (λ o. take i objects ++ o ∷ []) (sym at)

  pub apart_more : AllPairs AreNamedApart (take i objects) → All (λ o. AreNamedApart o x) (take i objects) → AllPairs AreNamedApart (take (i + 1) objects)
  apart_more so_far here = rw first_more (all_pairs_push AreNamedApart (take i objects) x so_far here)

  pub apart_here : AllPairs AreNamedApart objects → All (λ o. AreNamedApart o x) (take i objects)
  apart_here apart k d l =
      let small : k < i = grind (arith, common_steps) in
      let last : get_or objects i d ≡ x = get_or_default objects i d x below ∙ sym at in
      rw (get_or-take i objects k d small) (subst (λ (o : ObjectDecl). AreNamedApart (get_or objects k d) o) last (apart k i d small below))

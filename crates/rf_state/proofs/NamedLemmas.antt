-- Ends of edges that are named, with those of an assertion or of an added fact.
use Rattle.std.proofs.Common.{◌≡◌, ◌∙◌, ℕ, ◌+◌, ◌<◌, ◌≤◌, length, take, get_or, Bool, true, false, ◌&&◌, ◌||◌, ◌==◌, Option, None, Some, List, [], ◌∷◌, ◌++◌, refl, sym, ap, subst, true≢false, unwrap_or, arith}
use Rattle.std.specs.List.{list_any}
use Rattle.std.specs.Option.{option_eq}
use Rattle.std.specs.Prelude.{nat_eq}
use Rattle.std.proofs.lemmas.Bool.{and_from, and_parts, eq-eqb, eqb-true, false_from_ne_true, or_from, or_parts}
use Rattle.std.proofs.lemmas.List.{take_more}
use Rattle.std.proofs.lemmas.List.Folds.{list_any-append}
use Rattle.rf_values.specs.declared.truth.Truth.TheVariants.{Unknown}
use Rattle.rf_problem.specs.Parts.{reference_at, same_symbol}
use Rattle.rf_problem.specs.Spoken.{is_at as speaks_at, same_args}
use Rattle.rf_problem.specs.declared.assertion.Assertion.{Assertion}
use Rattle.rf_problem.specs.declared.problem.Problem.{Problem}
use Rattle.rf_problem.specs.declared.symbol.Symbol.{Symbol}
use Rattle.rf_problem.specs.declared.symbol.Symbol.TheVariants.{Class, Reference, Predicate as Defined, Exists, Equals}
use Rattle.rf_state.specs.Added.{Added, added_at}
use Rattle.rf_state.specs.Lists.{AreSameLists, is_end}
use Rattle.rf_state.specs.NamedEnds.{AreAdded, AreOthers, AreSameBut, AreStated, AreUnstated, IsEdgeNamed, IsGrown, IsNamedToo, IsUnadded}
use Rattle.rf_state.specs.State.{is_at}
use Rattle.rf_state.specs.declared.named_ends.NamedEnds.{NamedEnds}
use Rattle.rf_state.proofs.FactLemmas.{numbers-from_is_at, opposite}
use Rattle.rf_state.proofs.ListLemmas.{option-same}

option-refl : (x : Option ℕ) → option_eq nat_eq x x ≡ true
option-refl None = refl
option-refl (Some x) = eq-eqb x x refl

-- what isn't listed with these, and where these aren't the ones
left-out : (a b c : Bool) → (a || (b && c)) ≡ false → (b ≡ true → c ≡ true → ⊥)
left-out a b c e t u = let parts = or_parts a (b && c) e in true≢false (sym (and_from b c t u) ∙ parts.1)

not-first : (old new : Bool) (r : ℕ) (x : Option ℕ) (q : ℕ) (u y : Option ℕ) (c : ℕ) → new ≡ (old || (is_end (r, x) (q, u) && option_eq nat_eq y (Some c)))
    → new ≡ false → (old ≡ false) × (q ≡ r → u ≡ x → Some c ≡ y → ⊥)
not-first old new r x q u y c is off =
    let e : (old || (is_end (r, x) (q, u) && option_eq nat_eq y (Some c))) ≡ false = sym is ∙ off in (
      (or_parts old (is_end (r, x) (q, u) && option_eq nat_eq y (Some c)) e).0,
      λ f g h. left-out old (is_end (r, x) (q, u)) (option_eq nat_eq y (Some c)) e
          (and_from (r == q) (option_eq nat_eq x u) (eq-eqb r q (sym f)) (subst (λ w. option_eq nat_eq x w ≡ true) (sym g) (option-refl x)))
          (subst (λ w. option_eq nat_eq y w ≡ true) (sym h) (option-refl y)),
    )

module _ (p : Problem) (old mid new : NamedEnds) (r : ℕ) (x y : Option ℕ) where
  Some-same : (a b : ℕ) → Some a ≡ Some b → a ≡ b
  Some-same a b e = ap (λ (o : Option ℕ). unwrap_or o 0) e

  -- a reference with an opposite
  pub IsEdgeNamed-two : (k : ℕ) → (reference_at p.references r).opposite ≡ Some k → IsNamedToo old r x y mid → IsNamedToo mid k y x new → IsEdgeNamed p old r x y new
  IsEdgeNamed-two k has named more = record {
    from = λ q u c off.
        (let two = not-first _ _ k y q u x c (more.from q u c) off in
        let one = not-first _ _ r x q u y c (named.from q u c) two.0 in
        (one.0, record { there = one.1; back = λ e f g. two.1 (Some-same q k (sym e ∙ has)) f g }));
    into = λ q v c off.
        (let two = not-first _ _ k x q v y c (more.into q v c) off in
        let one = not-first _ _ r y q v x c (named.into q v c) two.0 in
        (one.0, record { there = λ e f g. one.1 e g f; back = λ e f g. two.1 (Some-same q k (sym e ∙ has)) g f }));
  }

-- what is said of ends is said of those that weren't listed before
module _ (p : Problem) (old new : NamedEnds) (grown : IsGrown old new) where
  pub AreStated-grown : (xs : List Assertion) → AreStated p xs old → AreStated p xs new
  AreStated-grown xs held = record { from = λ r x b off. held.from r x b (grown.from r x b off); into = λ r y a off. held.into r y a (grown.into r y a off) }

  pub AreAdded-grown : (added : Added) → AreAdded p added old → AreAdded p added new
  AreAdded-grown added held = record {
    from = λ r a b off. held.from r a b (grown.from r (Some a) b off);
    into = λ r a b off. held.into r a b (grown.into r (Some b) a off);
  }

-- one assertion more of which isn't said
any-last : (test : Assertion → Bool) (xs : List Assertion) (z : Assertion) → list_any test xs ≡ false → test z ≡ false → list_any test (xs ++ z ∷ []) ≡ false
any-last test xs z none off = list_any-append test xs (z ∷ []) ∙ or_from (list_any test xs) (test z || false) none (or_from (test z) false off refl)

-- which ends an assertion of a reference names
ends-same : (r q : ℕ) (x y u v : Option ℕ) → (same_symbol (Reference r) (Reference q) && same_args (x ∷ y ∷ []) (u ∷ v ∷ [])) ≡ true → (q ≡ r) × (u ≡ x) × (v ≡ y)
ends-same r q x y u v e =
    let parts = and_parts (nat_eq r q) (option_eq nat_eq x u && (option_eq nat_eq y v && true)) e in
    let ends = and_parts (option_eq nat_eq x u) (option_eq nat_eq y v && true) parts.1 in
    let second = and_parts (option_eq nat_eq y v) true ends.1 in
    (sym (eqb-true r q parts.0), sym (option-same x u ends.0), sym (option-same y v second.0))

module _ (p : Problem) (xs : List Assertion) (z : Assertion) where
  -- one that speaks of a reference's ends
  module _ (r : ℕ) (x y : Option ℕ) (symbol : z.symbol ≡ Reference r) (args : z.args ≡ x ∷ y ∷ []) where
    speaks-same : (q : ℕ) (u v : Option ℕ) → speaks_at (Reference q) (u ∷ v ∷ []) z ≡ true → (q ≡ r) × (u ≡ x) × (v ≡ y)
    speaks-same q u v e = ends-same r q x y u v
        (sym (λ i. same_symbol (symbol i) (Reference q) && same_args (args i) (u ∷ v ∷ [])) ∙ e)

    AreUnstated-more : (q : ℕ) (u v : Option ℕ) → AreOthers p r x y q u v → AreUnstated p xs q u v → AreUnstated p (xs ++ z ∷ []) q u v
    AreUnstated-more q u v others held = record {
      there = any-last (speaks_at (Reference q) (u ∷ v ∷ [])) xs z held.there (false_from_ne_true _ (λ t. (let at = speaks-same q u v t in others.there at.0 at.1 at.2)));
      back = λ k has. any-last (speaks_at (Reference k) (v ∷ u ∷ [])) xs z (held.back k has) (false_from_ne_true _ (λ t.
          (let at = speaks-same k v u t in
          let m = opposite p q k has in
          others.back (subst (λ (w : ℕ). (reference_at p.references w).opposite ≡ Some q) at.0 m.back) at.2 at.1)));
    }

    pub AreStated-more : (old new : NamedEnds) → IsEdgeNamed p old r x y new → AreStated p xs old → AreStated p (xs ++ z ∷ []) new
    AreStated-more old new named held = record {
      from = λ q u c off. (let was = named.from q u c off in AreUnstated-more q u (Some c) was.1 (held.from q u c was.0));
      into = λ q v c off. (let was = named.into q v c off in AreUnstated-more q (Some c) v was.1 (held.into q v c was.0));
    }

  -- one that doesn't
  pub AreStated-skip : (named : NamedEnds) → ((q : ℕ) (u v : Option ℕ) → speaks_at (Reference q) (u ∷ v ∷ []) z ≡ false) → AreStated p xs named → AreStated p (xs ++ z ∷ []) named
  AreStated-skip named silent held = record { from = λ q u c off. skip q u (Some c) (held.from q u c off); into = λ q v c off. skip q (Some c) v (held.into q v c off) }
    where
      skip : (q : ℕ) (u v : Option ℕ) → AreUnstated p xs q u v → AreUnstated p (xs ++ z ∷ []) q u v
      skip q u v held = record {
        there = any-last (speaks_at (Reference q) (u ∷ v ∷ [])) xs z held.there (silent q u v);
        back = λ k has. any-last (speaks_at (Reference k) (v ∷ u ∷ [])) xs z (held.back k has) (silent k v u);
      }

-- a fact is added
module _ (p : Problem) (before after : Added) (r a b : ℕ) (same : AreSameBut r a b before after) where
  kept : (q x y : ℕ) → (is_at r a b q x y ≡ true → ⊥) → added_at before q x y ≡ Unknown → added_at after q x y ≡ Unknown
  kept q x y apart held = same q x y (false_from_ne_true (is_at r a b q x y) apart) ∙ held

  -- of an edge whose ends are named now
  IsUnadded-more : (q x y : ℕ) → AreOthers p r (Some a) (Some b) q (Some x) (Some y) → IsUnadded p before q x y → IsUnadded p after q x y
  IsUnadded-more q x y others held = record {
    there = kept q x y (λ t. (let at = numbers-from_is_at r a b q x y t in others.there at.0 (ap Some at.1) (ap Some at.2))) held.there;
    back = λ k has. kept k y x (λ t.
        (let at = numbers-from_is_at r a b k y x t in
        let m = opposite p q k has in
        others.back (subst (λ (w : ℕ). (reference_at p.references w).opposite ≡ Some q) at.0 m.back) (ap Some at.2) (ap Some at.1))) (held.back k has);
  }

  pub AreAdded-more : (old new : NamedEnds) → IsEdgeNamed p old r (Some a) (Some b) new → AreAdded p before old → AreAdded p after new
  AreAdded-more old new named held = record {
    from = λ q x y off. (let was = named.from q (Some x) y off in IsUnadded-more q x y was.1 (held.from q x y was.0));
    into = λ q x y off. (let was = named.into q (Some y) x off in IsUnadded-more q x y was.1 (held.into q x y was.0));
  }

  -- or of one of which something was added before
  pub AreAdded-again : (named : NamedEnds) → (added_at before r a b ≡ Unknown → ⊥) → AreAdded p before named → AreAdded p after named
  AreAdded-again named known held = record { from = λ q x y off. again q x y (held.from q x y off); into = λ q x y off. again q x y (held.into q x y off) }
    where
      apart : (q x y : ℕ) → added_at before q x y ≡ Unknown → is_at r a b q x y ≡ true → ⊥
      apart q x y none t =
          let at = numbers-from_is_at r a b q x y t in
          known (sym (λ i. added_at before (at.0 i) (at.1 i) (at.2 i)) ∙ none)

      again : (q x y : ℕ) → IsUnadded p before q x y → IsUnadded p after q x y
      again q x y held = record { there = kept q x y (apart q x y held.there) held.there; back = λ k has. kept k y x (apart k y x (held.back k has)) (held.back k has) }

-- the same named ends once more
pub IsGrown-same : (old new : NamedEnds) → AreSameLists old.from new.from → AreSameLists old.into new.into → IsGrown old new
IsGrown-same old new from into = record { from = λ q u c off. sym (from q u c) ∙ off; into = λ q v c off. sym (into q v c) ∙ off }

-- one assertion more
pub AreStated-next : (p : Problem) (xs : List Assertion) (i : ℕ) (z : Assertion) (old new : NamedEnds) → i < length xs → z ≡ get_or xs i z
    → ((ys : List Assertion) → AreStated p ys old → AreStated p (ys ++ z ∷ []) new) → AreStated p (take i xs) old → AreStated p (take (i + 1) xs) new
AreStated-next p xs i z old new l at more held =
    subst (λ (ys : List Assertion). AreStated p ys new) (ap (λ (y : Assertion). take i xs ++ y ∷ []) at ∙ sym (take_more xs i z l)) (more (take i xs) held)

-- an assertion of no reference, or of another number of arguments
pub no_reference-speaks : (z : Assertion) → ((r : ℕ) → z.symbol ≡ Reference r → ⊥) → (q : ℕ) (u v : Option ℕ) → speaks_at (Reference q) (u ∷ v ∷ []) z ≡ false
no_reference-speaks z apart q u v = false_from_ne_true _ (λ t. apart q (symbol-same z.symbol q (and_parts (same_symbol z.symbol (Reference q)) (same_args z.args (u ∷ v ∷ [])) t).0))
  where
    symbol-same : (s : Symbol) (q : ℕ) → same_symbol s (Reference q) ≡ true → s ≡ Reference q
    symbol-same (Class c) q e = cc
    symbol-same (Reference r) q e = ap Reference (eqb-true r q e)
    symbol-same (Defined c) q e = cc
    symbol-same Exists q e = cc
    symbol-same Equals q e = cc

-- two arguments
pub two_items : (xs : List (Option ℕ)) → 2 ≤ length xs → length xs < 3 → xs ≡ get_or xs 0 None ∷ get_or xs 1 None ∷ []
two_items [] l m = absurd (omega arith)
two_items (x ∷ []) l m = absurd (omega arith)
two_items (x ∷ y ∷ []) l m = refl
two_items (x ∷ y ∷ z ∷ zs) l m = absurd (omega arith)

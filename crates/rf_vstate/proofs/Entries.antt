-- Look-ups in a map against its entries.
use Rattle.std.proofs.Common.{◌≡◌, ◌∙◌, ℕ, List, [], ◌∷◌, Some, Ordering, get_or, refl, sym, ap, inl, inr, subst, arith}
use Rattle.std.specs.Prelude.{Contains}
use Rattle.std.specs.declared.cmp.Ordering.TheVariants.{Less, Equal, Greater}
use Rattle.std.specs.Ordering.{match_ordering}
use Rattle.std.proofs.lemmas.Cmp.{tied_itself}
use Rattle.std.proofs.lemmas.List.Elements.{Contains-get_or}
use Rattle.std.proofs.lemmas.Option.{same_Some}
use Rattle.rf_finite.proofs.Range.{None-ne_Some}
use Rattle.rf_finite.proofs.Repeats.{Contains-cons_cases, Contains-cons}
use Rattle.rf_store.specs.Entries.{Entry, key_cmp, IsBelowAll, IsInOrder, value_at}
use Rattle.rf_store.proofs.Maps.{same_key}
use Rattle.rf_store.proofs.Order.{greater_from_less, key_cmp_total}
use Rattle.rf_vstate.specs.Laws.{LookUpIsEntry}
use Rattle.rf_vstate.specs.Rows.{AreOwn}

-- what a look-up gives is an entry
entry_at : (k v : List ℕ) (e : Entry) (es : List Entry) (o : Ordering) → key_cmp k e.0 ≡ o → (value_at es k ≡ Some v → Contains es (k, v))
    → match_ordering o (value_at es k) (Some e.1) (value_at es k) ≡ Some v → Contains (e ∷ es) (k, v)
entry_at k v e es Less is more found = Contains-cons e es (k, v) (more found)
entry_at k v e es Greater is more found = Contains-cons e es (k, v) (more found)
entry_at k v e es Equal is more found =
    let key = same_key k e.0 is in
    let value = same_Some e.1 v found in
    subst (λ (f : Entry). Contains (e ∷ es) f) (λ i. (sym key i, value i)) (Contains-get_or (e ∷ es) 0 e (omega arith))

pub entry-from_value : (es : List Entry) (k v : List ℕ) → value_at es k ≡ Some v → Contains es (k, v)
entry-from_value [] k v found = absurd (None-ne_Some found)
entry-from_value (e ∷ es) k v found = entry_at k v e es (key_cmp k e.0) refl (entry-from_value es k v) found

-- an entry that is below all others isn't at their keys
below : (k : List ℕ) (es : List Entry) (f : Entry) → IsBelowAll k es → Contains es f → key_cmp f.0 k ≡ Greater
below k [] f s there = absurd (omega (arith, there.1))
below k (e ∷ es) f s there = elim (Contains-cons_cases e es f there) [
  | inl is ↦ subst (λ (g : Entry). key_cmp g.0 k ≡ Greater) is (greater_from_less k e.0 s.0)
  | inr rest ↦ below k es f s.1 rest
]

-- and an entry is what a look-up gives
pub value-from_entry : (es : List Entry) → IsInOrder es → (f : Entry) → Contains es f → value_at es f.0 ≡ Some f.1
value-from_entry [] s f there = absurd (omega (arith, there.1))
value-from_entry (e ∷ es) s f there = elim (Contains-cons_cases e es f there) [
  | inl is ↦ subst (λ (g : Entry). value_at (e ∷ es) g.0 ≡ Some g.1) is
      (ap (λ o. match_ordering o (value_at es e.0) (Some e.1) (value_at es e.0)) (tied_itself key_cmp_total e.0))
  | inr rest ↦ ap (λ o. match_ordering o (value_at es f.0) (Some e.1) (value_at es f.0)) (below e.0 es f s.0 rest)
      ∙ value-from_entry es s.1 f rest
]

pub look_up-is_entry : LookUpIsEntry
look_up-is_entry es s k v = (entry-from_value es k v, value-from_entry es s (k, v))

-- in a map that is in order each entry is what its key gives
pub AreOwn-ordered : (es : List Entry) → IsInOrder es → AreOwn es
AreOwn-ordered es s = λ i d l. value-from_entry es s (get_or es i d) (Contains-get_or es i d l)

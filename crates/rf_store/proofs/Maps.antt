-- What the entries give at each key, and the least entry from a key on.
use Rattle.std.proofs.Common.{◌≡◌, ◌≢◌, ℕ, List, [], ◌∷◌, Some, None, Option, Ordering, refl, sym, ap, ◌∙◌, arith}
use Rattle.std.specs.Prelude.{All, MatchOption}
use Rattle.std.specs.List.{AllByRecursion}
use Rattle.std.specs.declared.cmp.Ordering.TheVariants.{Less, Equal, Greater}
use Rattle.std.specs.Ordering.{match_ordering, is_eq}
use Rattle.std.proofs.lemmas.Cmp.{tied_itself}
use Rattle.std.proofs.lemmas.Map.Text.{is_eq-slice_cmp}
use Rattle.std.proofs.lemmas.Slice.Eq.{bytes_eq-Decides}
use Rattle.std.proofs.lemmas.List.Elements.{All-cons, All-nil, All-from_recursion, Contains-append_right, Contains-get_or}
use Rattle.rf_store.specs.Entries.{Entry, key_cmp, IsBelowAll, IsInOrder, value_at, with_entry, first_from}
use Rattle.rf_store.specs.Contents.{SetsOnly, IsBelow, IsLeastFrom}
use Rattle.rf_store.proofs.Order.{key_cmp_total, greater_from_less, less_from_greater, order_with}

-- keys that compare as equal are one key
pub same_key : (a b : List ℕ) → key_cmp a b ≡ Equal → a ≡ b
unfolding key_cmp
same_key a b h = (bytes_eq-Decides a b).0 (sym (is_eq-slice_cmp a b) ∙ ap is_eq h)

key_itself : (k : List ℕ) → key_cmp k k ≡ Equal
key_itself k = tied_itself key_cmp_total k

-- ---- after putting an entry

this_key_at : (k v : List ℕ) (e : Entry) (es : List Entry) (o : Ordering) → key_cmp k e.0 ≡ o → value_at (with_entry es k v) k ≡ Some v → value_at (match_ordering o ((k, v) ∷ e ∷ es) ((k, v) ∷ es) (e ∷ with_entry es k v)) k ≡ Some v
this_key_at k v e es Less is more = ap (λ o. match_ordering o (value_at (e ∷ es) k) (Some v) (value_at (e ∷ es) k)) (key_itself k)
this_key_at k v e es Equal is more = ap (λ o. match_ordering o (value_at es k) (Some v) (value_at es k)) (key_itself k)
this_key_at k v e es Greater is more = ap (λ o. match_ordering o (value_at (with_entry es k v) k) (Some e.1) (value_at (with_entry es k v) k)) is ∙ more

this_key : (k v : List ℕ) (es : List Entry) → value_at (with_entry es k v) k ≡ Some v
this_key k v [] = ap (λ o. match_ordering o None (Some v) None) (key_itself k)
this_key k v (e ∷ es) = this_key_at k v e es (key_cmp k e.0) refl (this_key k v es)

-- an entry with another key says nothing of a key
skip_at : (q k v : List ℕ) (w : Option (List ℕ)) (o : Ordering) → key_cmp q k ≡ o → q ≢ k → match_ordering o w (Some v) w ≡ w
skip_at q k v w Less is apart = refl
skip_at q k v w Equal is apart = absurd (apart (same_key q k is))
skip_at q k v w Greater is apart = refl

skip : (q k v : List ℕ) (es : List Entry) → q ≢ k → value_at ((k, v) ∷ es) q ≡ value_at es q
skip q k v es apart = skip_at q k v (value_at es q) (key_cmp q k) refl apart

other_key_at : (q k v : List ℕ) (e : Entry) (es : List Entry) (o : Ordering) → q ≢ k → key_cmp k e.0 ≡ o → value_at (with_entry es k v) q ≡ value_at es q → value_at (match_ordering o ((k, v) ∷ e ∷ es) ((k, v) ∷ es) (e ∷ with_entry es k v)) q ≡ value_at (e ∷ es) q
other_key_at q k v e es Less apart is more = skip q k v (e ∷ es) apart
other_key_at q k v e es Equal apart is more = skip q k v es apart ∙ sym (skip q e.0 e.1 es (λ same. apart (same ∙ sym (same_key k e.0 is))))
other_key_at q k v e es Greater apart is more = ap (λ w. match_ordering (key_cmp q e.0) w (Some e.1) w) more

other_key : (q k v : List ℕ) (es : List Entry) → q ≢ k → value_at (with_entry es k v) q ≡ value_at es q
other_key q k v [] apart = skip q k v [] apart
other_key q k v (e ∷ es) apart = other_key_at q k v e es (key_cmp k e.0) apart refl (other_key q k v es apart)

pub sets_only : (k v : List ℕ) (es : List Entry) → IsInOrder es → SetsOnly es (with_entry es k v) k v
sets_only k v es s = record { in_order = order_with k v es s; this_key = this_key k v es; other_keys = λ q apart. other_key q k v es apart }

-- ---- the first entry from a key on is the least

not_less : (a b : List ℕ) (o : Ordering) → key_cmp a b ≡ o → (o ≡ Less → ⊥) → IsBelow a b → ⊥
not_less a b o is apart less = apart (sym is ∙ less)

not_below : (a b : List ℕ) (o : Ordering) → key_cmp b a ≡ o → (o ≡ Greater → ⊥) → IsBelow a b → ⊥
not_below a b o is apart less = apart (sym is ∙ greater_from_less a b less)

least_here : (k : List ℕ) (e : Entry) (es : List Entry) → IsBelowAll e.0 es → AllByRecursion (λ (f : Entry). (IsBelow f.0 k → ⊥) → IsBelow f.0 e.0 → ⊥) es
least_here k e [] s = tt
least_here k e (f ∷ es) s = (λ from. not_below f.0 e.0 Less s.0 (λ h. cc), least_here k e es s.1)

found_here : (k : List ℕ) (e : Entry) (es : List Entry) (o : Ordering) → key_cmp k e.0 ≡ o → (o ≡ Greater → ⊥) → IsBelowAll e.0 es → IsLeastFrom (e ∷ es) k e
found_here k e es o is apart s = record {
  there = Contains-get_or (e ∷ es) 0 e (omega arith);
  from_key = not_below e.0 k o is apart;
  least = All-cons (λ (f : Entry). (IsBelow f.0 k → ⊥) → IsBelow f.0 e.0 → ⊥) e es
      (λ from. not_less e.0 e.0 Equal (key_itself e.0) (λ h. cc))
      (All-from_recursion (λ (f : Entry). (IsBelow f.0 k → ⊥) → IsBelow f.0 e.0 → ⊥) es (least_here k e es s));
}

later : (k : List ℕ) (e : Entry) (es : List Entry) → key_cmp k e.0 ≡ Greater → (o : Option Entry) → MatchOption o (All (λ (f : Entry). IsBelow f.0 k) es) (IsLeastFrom es k) → MatchOption o (All (λ (f : Entry). IsBelow f.0 k) (e ∷ es)) (IsLeastFrom (e ∷ es) k)
later k e es is None all = All-cons (λ (f : Entry). IsBelow f.0 k) e es (less_from_greater k e.0 is) all
later k e es is (Some f) found = record {
  there = Contains-append_right (e ∷ []) es f found.there;
  from_key = found.from_key;
  least = All-cons (λ (g : Entry). (IsBelow g.0 k → ⊥) → IsBelow g.0 f.0 → ⊥) e es (λ from. absurd (from (less_from_greater k e.0 is))) found.least;
}

least_at : (k : List ℕ) (e : Entry) (es : List Entry) (o : Ordering) → key_cmp k e.0 ≡ o → IsBelowAll e.0 es → MatchOption (first_from es k) (All (λ (f : Entry). IsBelow f.0 k) es) (IsLeastFrom es k)
    → MatchOption (match_ordering o (Some e) (Some e) (first_from es k)) (All (λ (f : Entry). IsBelow f.0 k) (e ∷ es)) (IsLeastFrom (e ∷ es) k)
least_at k e es Less is s more = found_here k e es Less is (λ h. cc) s
least_at k e es Equal is s more = found_here k e es Equal is (λ h. cc) s
least_at k e es Greater is s more = later k e es is (first_from es k) more

pub least_from : (k : List ℕ) (es : List Entry) → IsInOrder es → MatchOption (first_from es k) (All (λ (f : Entry). IsBelow f.0 k) es) (IsLeastFrom es k)
least_from k [] s = All-nil (λ (f : Entry). IsBelow f.0 k)
least_from k (e ∷ es) s = least_at k e es (key_cmp k e.0) refl s.0 (least_from k es s.1)

-- Facts on entries in the order of their keys, around one of them.
use Rattle.std.proofs.Common.{◌≡◌, ℕ, ◌+◌, ◌<◌, ◌≤◌, List, [], ◌∷◌, ◌++◌, length, get_or, drop, Some, None, Option, Ordering, refl, ap, ◌∙◌, append_assoc, arith}
use Rattle.std.proofs.lemmas.List.{drop_more, drop_all}
use Rattle.std.proofs.lemmas.Bool.{lt-ltb, le-ltb, eq-eqb, ne_eqb}
use Rattle.std.specs.declared.cmp.Ordering.TheVariants.{Less, Equal, Greater}
use Rattle.std.specs.Ordering.{match_ordering, ordering_reverse, ordering_then, nat_cmp}
use Rattle.std.specs.Cmp.{IsTotalOrder}
use Rattle.std.proofs.lemmas.Cmp.{nat_list_cmp_total}
use Rattle.rf_store.specs.Entries.{Entry, key_cmp, IsBelowAll, IsInOrder, value_at, with_entry, first_from}

pub key_cmp_total : IsTotalOrder key_cmp
unfolding key_cmp
key_cmp_total = nat_list_cmp_total

pub greater_from_less : (a b : List ℕ) → key_cmp a b ≡ Less → key_cmp b a ≡ Greater
greater_from_less a b h = key_cmp_total.antisymm b a ∙ ap ordering_reverse h

pub less_from_greater : (a b : List ℕ) → key_cmp a b ≡ Greater → key_cmp b a ≡ Less
less_from_greater a b h = key_cmp_total.antisymm b a ∙ ap ordering_reverse h

-- each key is below k
abbrev pub AreBelow : List Entry → List ℕ → Type 0
AreBelow [] k = Unit {0}
AreBelow (e ∷ es) k = (key_cmp e.0 k ≡ Less) × AreBelow es k

pub below_all_trans : (a b : List ℕ) (es : List Entry) → key_cmp a b ≡ Less → IsBelowAll b es → IsBelowAll a es
below_all_trans a b [] h s = tt
below_all_trans a b (e ∷ es) h s = (key_cmp_total.trans a b e.0 h s.0, below_all_trans a b es h s.1)

pub below_all_tied : (a b : List ℕ) (es : List Entry) → key_cmp a b ≡ Equal → IsBelowAll b es → IsBelowAll a es
below_all_tied a b [] h s = tt
below_all_tied a b (e ∷ es) h s = (key_cmp_total.congr a b e.0 h ∙ s.0, below_all_tied a b es h s.1)

below_all_front : (k : List ℕ) (l r : List Entry) → IsBelowAll k (l ++ r) → IsBelowAll k l
below_all_front k [] r s = tt
below_all_front k (x ∷ l) r s = (s.0, below_all_front k l r s.1)

below_all_middle : (k : List ℕ) (l : List Entry) (e : Entry) (r : List Entry) → IsBelowAll k (l ++ e ∷ r) → key_cmp k e.0 ≡ Less
below_all_middle k [] e r s = s.0
below_all_middle k (x ∷ l) e r s = below_all_middle k l e r s.1

-- the entries before, after and around one of them
pub order_left : (l r : List Entry) → IsInOrder (l ++ r) → IsInOrder l
order_left [] r s = tt
order_left (x ∷ l) r s = (below_all_front x.0 l r s.0, order_left l r s.1)

pub order_right : (l : List Entry) (e : Entry) (r : List Entry) → IsInOrder (l ++ e ∷ r) → IsInOrder r
order_right [] e r s = s.1
order_right (x ∷ l) e r s = order_right l e r s.1

pub order_above : (l : List Entry) (e : Entry) (r : List Entry) → IsInOrder (l ++ e ∷ r) → IsBelowAll e.0 r
order_above [] e r s = s.0
order_above (x ∷ l) e r s = order_above l e r s.1

pub order_below : (l : List Entry) (e : Entry) (r : List Entry) → IsInOrder (l ++ e ∷ r) → AreBelow l e.0
order_below [] e r s = tt
order_below (x ∷ l) e r s = (below_all_middle x.0 l e r s.0, order_below l e r s.1)

-- the entries below a rotation, grouped the other way
pub regroup : (x : List Entry) (j : Entry) (y : List Entry) (k : Entry) (z : List Entry) → (x ++ j ∷ y) ++ k ∷ z ≡ x ++ j ∷ (y ++ k ∷ z)
regroup x j y k z = append_assoc x (j ∷ y) (k ∷ z)

-- ---- putting an entry

below_all_with_at : (b k v : List ℕ) (e : Entry) (es : List Entry) (o : Ordering) → key_cmp b k ≡ Less → IsBelowAll b (e ∷ es) → IsBelowAll b (with_entry es k v) → IsBelowAll b (match_ordering o ((k, v) ∷ e ∷ es) ((k, v) ∷ es) (e ∷ with_entry es k v))
below_all_with_at b k v e es Less h s more = (h, s)
below_all_with_at b k v e es Equal h s more = (h, s.1)
below_all_with_at b k v e es Greater h s more = (s.0, more)

below_all_with : (b k v : List ℕ) (es : List Entry) → key_cmp b k ≡ Less → IsBelowAll b es → IsBelowAll b (with_entry es k v)
below_all_with b k v [] h s = (h, tt)
below_all_with b k v (e ∷ es) h s = below_all_with_at b k v e es (key_cmp k e.0) h s (below_all_with b k v es h s.1)

order_with_at : (k v : List ℕ) (e : Entry) (es : List Entry) (o : Ordering) → key_cmp k e.0 ≡ o → IsInOrder (e ∷ es) → IsInOrder (with_entry es k v) → IsInOrder (match_ordering o ((k, v) ∷ e ∷ es) ((k, v) ∷ es) (e ∷ with_entry es k v))
order_with_at k v e es Less is s more = ((is, below_all_trans k e.0 es is s.0), s)
order_with_at k v e es Equal is s more = (below_all_tied k e.0 es is s.0, s.1)
order_with_at k v e es Greater is s more = (below_all_with e.0 k v es (less_from_greater k e.0 is) s.0, more)

-- the entries stay in order
pub order_with : (k v : List ℕ) (es : List Entry) → IsInOrder es → IsInOrder (with_entry es k v)
order_with k v [] s = (tt, tt)
order_with k v (e ∷ es) s = order_with_at k v e es (key_cmp k e.0) refl s (order_with k v es s.1)

with_left_at : (k v : List ℕ) (x : Entry) (l m w : List Entry) (o : Ordering) → w ≡ with_entry l k v ++ m → match_ordering o ((k, v) ∷ x ∷ (l ++ m)) ((k, v) ∷ (l ++ m)) (x ∷ w) ≡ match_ordering o ((k, v) ∷ x ∷ l) ((k, v) ∷ l) (x ∷ with_entry l k v) ++ m
with_left_at k v x l m w Less e = refl
with_left_at k v x l m w Equal e = refl
with_left_at k v x l m w Greater e = ap (λ z. x ∷ z) e

-- below an entry, the ones before it change
pub with_left : (k v : List ℕ) (l : List Entry) (e : Entry) (r : List Entry) → key_cmp k e.0 ≡ Less → with_entry (l ++ e ∷ r) k v ≡ with_entry l k v ++ e ∷ r
with_left k v [] e r h = ap (λ o. match_ordering o ((k, v) ∷ e ∷ r) ((k, v) ∷ r) (e ∷ with_entry r k v)) h
with_left k v (x ∷ l) e r h = with_left_at k v x l (e ∷ r) _ (key_cmp k x.0) (with_left k v l e r h)

with_later : (k v : List ℕ) (x : Entry) (es : List Entry) → key_cmp k x.0 ≡ Greater → with_entry (x ∷ es) k v ≡ x ∷ with_entry es k v
with_later k v x es h = ap (λ o. match_ordering o ((k, v) ∷ x ∷ es) ((k, v) ∷ es) (x ∷ with_entry es k v)) h

-- a key that is not below e is above all before e
past_lower : (k : List ℕ) (x e : List ℕ) → key_cmp x e ≡ Less → key_cmp k e ≡ Greater → key_cmp k x ≡ Greater
past_lower k x e lower h = greater_from_less x k (key_cmp_total.trans x e k lower (less_from_greater k e h))

past_tied : (k : List ℕ) (x e : List ℕ) → key_cmp x e ≡ Less → key_cmp k e ≡ Equal → key_cmp k x ≡ Greater
past_tied k x e lower h = key_cmp_total.congr k e x h ∙ greater_from_less x e lower

-- each key is below k, seen from k
abbrev pub IsPastAll : List ℕ → List Entry → Type 0
IsPastAll k [] = Unit {0}
IsPastAll k (e ∷ es) = (key_cmp k e.0 ≡ Greater) × IsPastAll k es

pub past_all_lower : (k : List ℕ) (l : List Entry) (e : List ℕ) → AreBelow l e → key_cmp k e ≡ Greater → IsPastAll k l
past_all_lower k [] e b h = tt
past_all_lower k (x ∷ l) e b h = (past_lower k x.0 e b.0 h, past_all_lower k l e b.1 h)

pub past_all_tied : (k : List ℕ) (l : List Entry) (e : List ℕ) → AreBelow l e → key_cmp k e ≡ Equal → IsPastAll k l
past_all_tied k [] e b h = tt
past_all_tied k (x ∷ l) e b h = (past_tied k x.0 e b.0 h, past_all_tied k l e b.1 h)

with_past : (k v : List ℕ) (l m : List Entry) → IsPastAll k l → with_entry (l ++ m) k v ≡ l ++ with_entry m k v
with_past k v [] m p = refl
with_past k v (x ∷ l) m p = with_later k v x (l ++ m) p.0 ∙ ap (λ z. x ∷ z) (with_past k v l m p.1)

-- above an entry, the ones after it change
pub with_right : (k v : List ℕ) (l : List Entry) (e : Entry) (r : List Entry) → IsInOrder (l ++ e ∷ r) → key_cmp k e.0 ≡ Greater → with_entry (l ++ e ∷ r) k v ≡ l ++ e ∷ with_entry r k v
with_right k v l e r s h = with_past k v l (e ∷ r) (past_all_lower k l e.0 (order_below l e r s) h) ∙ ap (λ z. l ++ z) (with_later k v e r h)

-- at an entry, it is replaced
pub with_middle : (k v : List ℕ) (l : List Entry) (e : Entry) (r : List Entry) → IsInOrder (l ++ e ∷ r) → key_cmp k e.0 ≡ Equal → with_entry (l ++ e ∷ r) k v ≡ l ++ (k, v) ∷ r
with_middle k v l e r s h = with_past k v l (e ∷ r) (past_all_tied k l e.0 (order_below l e r s) h) ∙ ap (λ o. l ++ match_ordering o ((k, v) ∷ e ∷ r) ((k, v) ∷ r) (e ∷ with_entry r k v)) h

-- ---- looking up a value

value_past : (k : List ℕ) (l m : List Entry) → IsPastAll k l → value_at (l ++ m) k ≡ value_at m k
value_past k [] m p = refl
value_past k (x ∷ l) m p = ap (λ o. match_ordering o (value_at (l ++ m) k) (Some x.1) (value_at (l ++ m) k)) p.0 ∙ value_past k l m p.1

value_below : (k : List ℕ) (es : List Entry) → IsBelowAll k es → value_at es k ≡ None
value_below k [] s = refl
value_below k (e ∷ es) s = ap (λ o. match_ordering o (value_at es k) (Some e.1) (value_at es k)) s.0 ∙ value_below k es s.1

value_left_from : (k : List ℕ) (l m : List Entry) → value_at m k ≡ None → value_at (l ++ m) k ≡ value_at l k
value_left_from k [] m none = none
value_left_from k (x ∷ l) m none = ap (λ w. match_ordering (key_cmp k x.0) w (Some x.1) w) (value_left_from k l m none)

pub value_left : (k : List ℕ) (l : List Entry) (e : Entry) (r : List Entry) → IsInOrder (l ++ e ∷ r) → key_cmp k e.0 ≡ Less → value_at (l ++ e ∷ r) k ≡ value_at l k
value_left k l e r s h = value_left_from k l (e ∷ r) (value_below k (e ∷ r) (h, below_all_trans k e.0 r h (order_above l e r s)))

pub value_right : (k : List ℕ) (l : List Entry) (e : Entry) (r : List Entry) → IsInOrder (l ++ e ∷ r) → key_cmp k e.0 ≡ Greater → value_at (l ++ e ∷ r) k ≡ value_at r k
value_right k l e r s h = value_past k l (e ∷ r) (past_all_lower k l e.0 (order_below l e r s) h) ∙ ap (λ o. match_ordering o (value_at r k) (Some e.1) (value_at r k)) h

pub value_middle : (k : List ℕ) (l : List Entry) (e : Entry) (r : List Entry) → IsInOrder (l ++ e ∷ r) → key_cmp k e.0 ≡ Equal → value_at (l ++ e ∷ r) k ≡ Some e.1
value_middle k l e r s h = value_past k l (e ∷ r) (past_all_tied k l e.0 (order_below l e r s) h) ∙ ap (λ o. match_ordering o (value_at r k) (Some e.1) (value_at r k)) h

-- ---- the first entry from a key on

first_past : (k : List ℕ) (l m : List Entry) → IsPastAll k l → first_from (l ++ m) k ≡ first_from m k
first_past k [] m p = refl
first_past k (x ∷ l) m p = ap (λ o. match_ordering o (Some x) (Some x) (first_from (l ++ m) k)) p.0 ∙ first_past k l m p.1

-- the first, or else the second
abbrev pub or_else : Option Entry → Entry → Option Entry
or_else None e = Some e
or_else (Some x) e = Some x

first_left_at : (x e : Entry) (v w : Option Entry) (o : Ordering) → v ≡ or_else w e → match_ordering o (Some x) (Some x) v ≡ or_else (match_ordering o (Some x) (Some x) w) e
first_left_at x e v w Less h = refl
first_left_at x e v w Equal h = refl
first_left_at x e v w Greater h = h

pub first_left : (k : List ℕ) (l : List Entry) (e : Entry) (r : List Entry) → key_cmp k e.0 ≡ Less → first_from (l ++ e ∷ r) k ≡ or_else (first_from l k) e
first_left k [] e r h = ap (λ o. match_ordering o (Some e) (Some e) (first_from r k)) h
first_left k (x ∷ l) e r h = first_left_at x e _ _ (key_cmp k x.0) (first_left k l e r h)

pub first_right : (k : List ℕ) (l : List Entry) (e : Entry) (r : List Entry) → IsInOrder (l ++ e ∷ r) → key_cmp k e.0 ≡ Greater → first_from (l ++ e ∷ r) k ≡ first_from r k
first_right k l e r s h = first_past k l (e ∷ r) (past_all_lower k l e.0 (order_below l e r s) h) ∙ ap (λ o. match_ordering o (Some e) (Some e) (first_from r k)) h

pub first_middle : (k : List ℕ) (l : List Entry) (e : Entry) (r : List Entry) → IsInOrder (l ++ e ∷ r) → key_cmp k e.0 ≡ Equal → first_from (l ++ e ∷ r) k ≡ Some e
first_middle k l e r s h = first_past k l (e ∷ r) (past_all_tied k l e.0 (order_below l e r s) h) ∙ ap (λ o. match_ordering o (Some e) (Some e) (first_from r k)) h

-- ---- comparing two keys word by word

compare_word : (a b : List ℕ) (i : ℕ) → i < length a → i < length b → key_cmp (drop i a) (drop i b) ≡ ordering_then (nat_cmp (get_or a i 0) (get_or b i 0)) (key_cmp (drop (i + 1) a) (drop (i + 1) b))
unfolding key_cmp
compare_word a b i ha hb = rw (drop_more a i 0 ha, drop_more b i 0 hb) refl

nat_cmp_less : (x y : ℕ) → x < y → nat_cmp x y ≡ Less
nat_cmp_less x y h = rw (lt-ltb x y h) refl

nat_cmp_greater : (x y : ℕ) → y < x → nat_cmp x y ≡ Greater
nat_cmp_greater x y h = rw (le-ltb x y (omega arith), ne_eqb x y (omega arith)) refl

nat_cmp_equal : (x y : ℕ) → x ≡ y → nat_cmp x y ≡ Equal
nat_cmp_equal x y h = rw (le-ltb x y (omega arith), eq-eqb x y h) refl

pub compare_less : (a b : List ℕ) (i : ℕ) → i < length a → i < length b → get_or a i 0 < get_or b i 0 → key_cmp (drop i a) (drop i b) ≡ Less
compare_less a b i ha hb h = compare_word a b i ha hb ∙ ap (λ o. ordering_then o (key_cmp (drop (i + 1) a) (drop (i + 1) b))) (nat_cmp_less _ _ h)

pub compare_greater : (a b : List ℕ) (i : ℕ) → i < length a → i < length b → get_or b i 0 < get_or a i 0 → key_cmp (drop i a) (drop i b) ≡ Greater
compare_greater a b i ha hb h = compare_word a b i ha hb ∙ ap (λ o. ordering_then o (key_cmp (drop (i + 1) a) (drop (i + 1) b))) (nat_cmp_greater _ _ h)

pub compare_more : (a b : List ℕ) (i : ℕ) → i < length a → i < length b → get_or a i 0 ≡ get_or b i 0 → key_cmp (drop i a) (drop i b) ≡ key_cmp (drop (i + 1) a) (drop (i + 1) b)
compare_more a b i ha hb h = compare_word a b i ha hb ∙ ap (λ o. ordering_then o (key_cmp (drop (i + 1) a) (drop (i + 1) b))) (nat_cmp_equal _ _ h)

pub compare_all : (a b : List ℕ) (i : ℕ) → length a ≤ i → length b ≤ i → key_cmp (drop i a) (drop i b) ≡ Equal
unfolding key_cmp
compare_all a b i ha hb = rw (drop_all i a ha, drop_all i b hb) refl

-- ---- around a rotation

-- the entries from one on
pub order_tail : (l : List Entry) (r : List Entry) → IsInOrder (l ++ r) → IsInOrder r
order_tail [] r s = s
order_tail (x ∷ l) r s = order_tail l r s.1

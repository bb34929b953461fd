-- What putting an entry makes of a table.
use Rattle.std.proofs.Common.{◌≡◌, ℕ, ◌+◌, ◌*◌, ◌<◌, ◌≤◌, max, List, ◌∷◌, ◌++◌, length, sym, ap, ◌∙◌, subst, inl, inr, arith}
use Rattle.std.proofs.lemmas.Bool.{cases_lt}
use Rattle.std.specs.declared.cmp.Ordering.TheVariants.{Less, Equal, Greater}
use Rattle.rf_store.specs.Entries.{Entry, key_cmp, IsInOrder, with_entry}
use Rattle.rf_store.specs.Part.{Part, Parts, part_at}
use Rattle.rf_store.specs.Rows.{IsNode, IsTree}
use Rattle.rf_store.specs.Tree.{CanJoin, IsPushed, IsJoined, IsPut}
use Rattle.rf_store.specs.declared.table.Row.{Row}
use Rattle.rf_store.proofs.Order.{order_with, with_left, with_right, with_middle}
use Rattle.rf_store.proofs.Trees.{extends_trans}
use Rattle.rf_store.proofs.Joins.{pushed_longer, pushed_extends, pushed_is}

-- the heights and the number of rows, where the side l of a node grew to p and was joined to the other side, r, again
grown : (l r p h m n0 n1 n2 : ℕ) → m ≡ max p r → l ≤ p → p ≤ l + 1 → l ≤ r + 1 → r ≤ l + 1 → m ≤ h → h ≤ m + 1 → n1 + p ≤ n0 + 3 * l + 2 → n2 + h ≤ n1 + m + 3
    → (p ≤ r + 1 → r ≤ p + 1 → (n2 ≡ n1 + 1) × (h ≡ m + 1)) → (max l r + 1 ≤ h) × (h ≤ max l r + 1 + 1) × (n2 + h ≤ n0 + 3 * (max l r + 1) + 2)
grown l r p h m n0 n1 n2 is not_lower higher left_near right_near low high few1 few2 level = elim (cases_lt (r + 1) p) [
  | inl far ↦ (omega arith, omega arith, omega arith)
  | inr near ↦ let flat = level near (omega arith) in (omega (arith, flat.1), omega (arith, flat.1), omega (arith, flat.0, flat.1))
]

module _ (t : Parts) (link : ℕ) (k v : List ℕ) where
  -- ---- into a tree with a root
  module _ (row : Row) (in_table : link < length t.parts) (node : IsNode t.parts link row) (tree : IsTree link (part_at t.parts link)) where
    abbrev pub L : Part
    L = part_at t.parts row.left

    abbrev pub R : Part
    R = part_at t.parts row.right

    abbrev pub e : Entry
    e = (row.key, row.value)

    entries_is : (part_at t.parts link).entries ≡ L.entries ++ e ∷ R.entries
    entries_is = ap (λ (q : Part). q.entries) node.stands

    height_is : (part_at t.parts link).height ≡ max L.height R.height + 1
    height_is = ap (λ (q : Part). q.height) node.stands

    order : IsInOrder (L.entries ++ e ∷ R.entries)
    order = subst IsInOrder entries_is tree.in_order

    -- at its root
    module _ (same : key_cmp k row.key ≡ Equal) where
      middle : with_entry (part_at t.parts link).entries k v ≡ L.entries ++ (k, v) ∷ R.entries
      middle = ap (λ xs. with_entry xs k v) entries_is ∙ with_middle k v L.entries e R.entries order same

      pub equal_can : CanJoin 1 t row.left (k, v) row.right
      equal_can = record {
        left_in = omega (arith, node.left_before, in_table);
        right_in = omega (arith, node.right_before, in_table);
        near = node.balanced;
        in_order = subst IsInOrder middle (order_with k v _ tree.in_order);
      }

      pub equal_done : (t1 : Parts) (new : ℕ) → IsPushed t t1 row.left (k, v) row.right new → IsPut t t1 link k v new
      equal_done t1 new p =
          let is = pushed_is t t1 row.left (k, v) row.right new p in
          let longer = pushed_longer t t1 row.left (k, v) row.right new p in
          let h : (part_at t1.parts new).height ≡ max L.height R.height + 1 = ap (λ (q : Part). q.height) is in
          record {
            extends = pushed_extends t t1 row.left (k, v) row.right new p;
            in_table = omega (arith, longer, p.place);
            room = omega (arith, longer, p.room);
            entries = ap (λ (q : Part). q.entries) is ∙ sym middle;
            not_lower = omega (arith, h, height_is);
            higher = omega (arith, h, height_is);
            few = omega (arith, h, height_is, longer);
          }

    -- on its left side
    module _ (less : key_cmp k row.key ≡ Less) (t1 : Parts) (left : ℕ) (put : IsPut t t1 row.left k v left) where
      left_right : part_at t1.parts row.right ≡ R
      left_right = put.extends.same row.right (omega (arith, node.right_before, in_table))

      left_entries : with_entry (part_at t.parts link).entries k v ≡ (part_at t1.parts left).entries ++ e ∷ R.entries
      left_entries = ap (λ xs. with_entry xs k v) entries_is ∙ with_left k v L.entries e R.entries less ∙ ap (λ xs. xs ++ e ∷ R.entries) (sym put.entries)

      pub left_can : CanJoin 2 t1 left e row.right
      left_can = record {
        left_in = put.in_table;
        right_in = omega (arith, node.right_before, in_table, put.extends.longer);
        near = rw left_right (omega (arith, put.not_lower, put.higher, node.balanced.0, node.balanced.1), omega (arith, put.not_lower, put.higher, node.balanced.0, node.balanced.1));
        in_order = rw left_right (subst IsInOrder left_entries (order_with k v _ tree.in_order));
      }

      pub left_done : (t2 : Parts) (new : ℕ) → IsJoined t1 t2 left e row.right new → IsPut t t2 link k v new
      left_done t2 new done =
          let right_height : (part_at t1.parts row.right).height ≡ R.height = ap (λ (q : Part). q.height) left_right in
          let sizes = grown L.height R.height (part_at t1.parts left).height (part_at t2.parts new).height _ (length t.parts) (length t1.parts) (length t2.parts)
          (ap (λ r. max (part_at t1.parts left).height r) right_height) put.not_lower put.higher node.balanced.0 node.balanced.1 done.not_lower done.higher put.few done.few
          (λ p q. done.level (omega (arith, right_height), omega (arith, right_height))) in
          record {
            extends = extends_trans t.parts t1.parts t2.parts put.extends done.extends;
            in_table = done.in_table;
            room = omega (arith, put.room, done.room);
            entries = done.entries ∙ rw left_right (sym left_entries);
            not_lower = omega (arith, height_is, sizes.0);
            higher = omega (arith, height_is, sizes.1);
            few = omega (arith, height_is, sizes.2);
          }

    -- on its right side
    module _ (greater : key_cmp k row.key ≡ Greater) (t1 : Parts) (right : ℕ) (put : IsPut t t1 row.right k v right) where
      right_left : part_at t1.parts row.left ≡ L
      right_left = put.extends.same row.left (omega (arith, node.left_before, in_table))

      right_entries : with_entry (part_at t.parts link).entries k v ≡ L.entries ++ e ∷ (part_at t1.parts right).entries
      right_entries = ap (λ xs. with_entry xs k v) entries_is ∙ with_right k v L.entries e R.entries order greater ∙ ap (λ xs. L.entries ++ e ∷ xs) (sym put.entries)

      pub right_can : CanJoin 2 t1 row.left e right
      right_can = record {
        left_in = omega (arith, node.left_before, in_table, put.extends.longer);
        right_in = put.in_table;
        near = rw right_left (omega (arith, put.not_lower, put.higher, node.balanced.0, node.balanced.1), omega (arith, put.not_lower, put.higher, node.balanced.0, node.balanced.1));
        in_order = rw right_left (subst IsInOrder right_entries (order_with k v _ tree.in_order));
      }

      pub right_done : (t2 : Parts) (new : ℕ) → IsJoined t1 t2 row.left e right new → IsPut t t2 link k v new
      right_done t2 new done =
          let left_height : (part_at t1.parts row.left).height ≡ L.height = ap (λ (q : Part). q.height) right_left in
          let top : max (part_at t1.parts row.left).height (part_at t1.parts right).height ≡ max (part_at t1.parts right).height L.height = omega (arith, left_height) in
          let sizes = grown R.height L.height (part_at t1.parts right).height (part_at t2.parts new).height _ (length t.parts) (length t1.parts) (length t2.parts)
          top put.not_lower put.higher node.balanced.1 node.balanced.0 done.not_lower done.higher put.few done.few
          (λ p q. done.level (omega (arith, left_height), omega (arith, left_height))) in
          record {
            extends = extends_trans t.parts t1.parts t2.parts put.extends done.extends;
            in_table = done.in_table;
            room = omega (arith, put.room, done.room);
            entries = done.entries ∙ rw right_left (sym right_entries);
            not_lower = omega (arith, height_is, sizes.0);
            higher = omega (arith, height_is, sizes.1);
            few = omega (arith, height_is, sizes.2);
          }

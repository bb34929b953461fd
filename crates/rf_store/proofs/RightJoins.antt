-- What rotating to the left makes of a table.
use Rattle.std.proofs.Common.{◌≡◌, ℕ, ◌+◌, ◌<◌, ◌≤◌, max, ◌∷◌, ◌++◌, length, refl, sym, ap, ◌∙◌, subst, arith}
use Rattle.rf_store.specs.Entries.{Entry, IsInOrder}
use Rattle.rf_store.specs.Part.{Part, Parts, part_at, joined, DifferByAtMost}
use Rattle.rf_store.specs.Rows.{IsNode}
use Rattle.rf_store.specs.Tree.{CanJoin, IsPushed, IsJoined}
use Rattle.rf_store.specs.declared.table.Row.{Row}
use Rattle.rf_store.proofs.Order.{order_left, order_right, regroup}
use Rattle.rf_store.proofs.Trees.{extends_trans}
use Rattle.rf_store.proofs.Joins.{pushed_longer, pushed_extends, pushed_is, kept_at}

-- ---- the right tree is higher by two

module _ (t : Parts) (left : ℕ) (e : Entry) (right : ℕ) (row : Row) (can : CanJoin 2 t left e right) (node : IsNode t.parts right row)
    (higher : (part_at t.parts right).height ≡ (part_at t.parts left).height + 2) where
  abbrev pub Z : Part
  Z = part_at t.parts left

  abbrev pub N : Part
  N = part_at t.parts row.left

  abbrev pub O : Part
  O = part_at t.parts row.right

  abbrev pub j : Entry
  j = (row.key, row.value)

  tall : max N.height O.height + 1 ≡ Z.height + 2
  tall = sym (ap (λ (q : Part). q.height) node.stands) ∙ higher

  entries_right : (part_at t.parts right).entries ≡ N.entries ++ j ∷ O.entries
  entries_right = ap (λ (q : Part). q.entries) node.stands

  order : IsInOrder (Z.entries ++ e ∷ (N.entries ++ j ∷ O.entries))
  order = subst (λ xs. IsInOrder (Z.entries ++ e ∷ xs)) entries_right can.in_order

  order_flat : IsInOrder ((Z.entries ++ e ∷ N.entries) ++ j ∷ O.entries)
  order_flat = subst IsInOrder (sym (regroup Z.entries e N.entries j O.entries)) order

  pub single_lowered : N.height ≤ O.height → CanJoin 1 t left e row.left
  single_lowered le = record {
    left_in = can.left_in;
    right_in = omega (arith, node.left_before, can.right_in);
    near = (omega (arith, tall, node.balanced.0, node.balanced.1), omega (arith, tall, node.balanced.0, node.balanced.1));
    in_order = order_left (Z.entries ++ e ∷ N.entries) (j ∷ O.entries) order_flat;
  }

  module _ (t1 : Parts) (lowered : ℕ) (p1 : IsPushed t t1 left e row.left lowered) (le : N.height ≤ O.height) where
    outer_kept : part_at t1.parts row.right ≡ O
    outer_kept = kept_at t t1 left e row.left lowered row.right p1 (omega (arith, node.right_before, can.right_in))

    lowered_is : part_at t1.parts lowered ≡ joined Z e N
    lowered_is = pushed_is t t1 left e row.left lowered p1

    longer1 : length t1.parts ≡ length t.parts + 1
    longer1 = pushed_longer t t1 left e row.left lowered p1

    near1 : DifferByAtMost 1 (max Z.height N.height + 1) O.height
    near1 = (omega (arith, tall, node.balanced.0, node.balanced.1, le), omega (arith, tall, node.balanced.0, node.balanced.1, le))

    pub single_top : CanJoin 1 t1 lowered j row.right
    single_top = record {
      left_in = omega (arith, longer1, p1.place);
      right_in = omega (arith, node.right_before, can.right_in, longer1);
      near = rw (outer_kept, lowered_is) near1;
      in_order = rw (outer_kept, lowered_is) order_flat;
    }

    pub single_done : (t2 : Parts) (link : ℕ) → IsPushed t1 t2 lowered j row.right link → IsJoined t t2 left e right link
    single_done t2 link p2 =
        let longer2 = pushed_longer t1 t2 lowered j row.right link p2 in
        let is : part_at t2.parts link ≡ joined (joined Z e N) j O = pushed_is t1 t2 lowered j row.right link p2 ∙ rw (outer_kept, lowered_is) refl in
        let h : (part_at t2.parts link).height ≡ max (max Z.height N.height + 1) O.height + 1 = ap (λ (q : Part). q.height) is in
        record {
          extends = extends_trans t.parts t1.parts t2.parts (pushed_extends t t1 left e row.left lowered p1) (pushed_extends t1 t2 lowered j row.right link p2);
          in_table = omega (arith, longer2, p2.place);
          room = omega (arith, longer1, longer2, p1.room, p2.room);
          entries = ap (λ (q : Part). q.entries) is ∙ regroup Z.entries e N.entries j O.entries ∙ sym (ap (λ xs. Z.entries ++ e ∷ xs) entries_right);
          not_lower = omega (arith, h, higher, tall);
          higher = omega (arith, h, higher, tall, node.balanced.0, node.balanced.1);
          few = omega (arith, h, higher, tall, node.balanced.0, node.balanced.1, longer1, longer2);
          level = λ near. absurd (omega (arith, higher, near.1));
        }

  module _ (inner : Row) (mid : IsNode t.parts row.left inner) (lt : O.height < N.height) where
    abbrev pub U : Part
    U = part_at t.parts inner.left

    abbrev pub V : Part
    V = part_at t.parts inner.right

    abbrev pub i : Entry
    i = (inner.key, inner.value)

    tall_mid : N.height ≡ max U.height V.height + 1
    tall_mid = ap (λ (q : Part). q.height) mid.stands

    entries_mid : N.entries ≡ U.entries ++ i ∷ V.entries
    entries_mid = ap (λ (q : Part). q.entries) mid.stands

    order_lower : IsInOrder (Z.entries ++ e ∷ U.entries)
    order_lower =
        let front = order_left (Z.entries ++ e ∷ N.entries) (j ∷ O.entries) order_flat in
        let open_mid = subst (λ ns. IsInOrder (Z.entries ++ e ∷ ns)) entries_mid front in
        order_left (Z.entries ++ e ∷ U.entries) (i ∷ V.entries) (subst IsInOrder (sym (regroup Z.entries e U.entries i V.entries)) open_mid)

    order_upper : IsInOrder (V.entries ++ j ∷ O.entries)
    order_upper =
        let back = order_right Z.entries e (N.entries ++ j ∷ O.entries) order in
        order_right U.entries i (V.entries ++ j ∷ O.entries) (subst IsInOrder (regroup U.entries i V.entries j O.entries) (subst (λ ns. IsInOrder (ns ++ j ∷ O.entries)) entries_mid back))

    flat : Z.entries ++ e ∷ (part_at t.parts right).entries ≡ (Z.entries ++ e ∷ U.entries) ++ i ∷ (V.entries ++ j ∷ O.entries)
    flat =
        ap (λ xs. Z.entries ++ e ∷ xs) entries_right
        ∙ ap (λ ns. Z.entries ++ e ∷ (ns ++ j ∷ O.entries)) entries_mid
        ∙ ap (λ xs. Z.entries ++ e ∷ xs) (regroup U.entries i V.entries j O.entries)
        ∙ sym (regroup Z.entries e U.entries i (V.entries ++ j ∷ O.entries))

    pub double_lower : CanJoin 1 t left e inner.left
    double_lower = record {
      left_in = can.left_in;
      right_in = omega (arith, mid.left_before, node.left_before, can.right_in);
      near = (omega (arith, tall, tall_mid, node.balanced.0, node.balanced.1, mid.balanced.0, mid.balanced.1, lt), omega (arith, tall, tall_mid, node.balanced.0, node.balanced.1, mid.balanced.0, mid.balanced.1, lt));
      in_order = order_lower;
    }

    module _ (t1 : Parts) (lower : ℕ) (p1 : IsPushed t t1 left e inner.left lower) where
      longer_1 : length t1.parts ≡ length t.parts + 1
      longer_1 = pushed_longer t t1 left e inner.left lower p1

      mid_kept : part_at t1.parts inner.right ≡ V
      mid_kept = kept_at t t1 left e inner.left lower inner.right p1 (omega (arith, mid.right_before, node.left_before, can.right_in))

      outer_same : part_at t1.parts row.right ≡ O
      outer_same = kept_at t t1 left e inner.left lower row.right p1 (omega (arith, node.right_before, can.right_in))

      near_upper : DifferByAtMost 1 V.height O.height
      near_upper = (omega (arith, tall, tall_mid, node.balanced.0, node.balanced.1, mid.balanced.0, mid.balanced.1, lt), omega (arith, tall, tall_mid, node.balanced.0, node.balanced.1, mid.balanced.0, mid.balanced.1, lt))

      pub double_upper : CanJoin 1 t1 inner.right j row.right
      double_upper = record {
        left_in = omega (arith, mid.right_before, node.left_before, can.right_in, longer_1);
        right_in = omega (arith, node.right_before, can.right_in, longer_1);
        near = rw (mid_kept, outer_same) near_upper;
        in_order = rw (mid_kept, outer_same) order_upper;
      }

      module _ (t2 : Parts) (upper : ℕ) (p2 : IsPushed t1 t2 inner.right j row.right upper) where
        longer_2 : length t2.parts ≡ length t1.parts + 1
        longer_2 = pushed_longer t1 t2 inner.right j row.right upper p2

        lower_is : part_at t2.parts lower ≡ joined Z e U
        lower_is = kept_at t1 t2 inner.right j row.right upper lower p2 (omega (arith, longer_1, p1.place)) ∙ pushed_is t t1 left e inner.left lower p1

        upper_is : part_at t2.parts upper ≡ joined V j O
        upper_is = pushed_is t1 t2 inner.right j row.right upper p2 ∙ rw (mid_kept, outer_same) refl

        near_top : DifferByAtMost 1 (max Z.height U.height + 1) (max V.height O.height + 1)
        near_top = (omega (arith, tall, tall_mid, node.balanced.0, node.balanced.1, mid.balanced.0, mid.balanced.1, lt), omega (arith, tall, tall_mid, node.balanced.0, node.balanced.1, mid.balanced.0, mid.balanced.1, lt))

        pub double_top : CanJoin 1 t2 lower i upper
        double_top = record {
          left_in = omega (arith, longer_1, longer_2, p1.place);
          right_in = omega (arith, longer_2, p2.place);
          near = rw (lower_is, upper_is) near_top;
          in_order = rw (lower_is, upper_is) (subst IsInOrder flat can.in_order);
        }

        pub double_done : (t3 : Parts) (link : ℕ) → IsPushed t2 t3 lower i upper link → IsJoined t t3 left e right link
        double_done t3 link p3 =
            let longer_3 = pushed_longer t2 t3 lower i upper link p3 in
            let is : part_at t3.parts link ≡ joined (joined Z e U) i (joined V j O) = pushed_is t2 t3 lower i upper link p3 ∙ rw (lower_is, upper_is) refl in
            let h : (part_at t3.parts link).height ≡ max (max Z.height U.height + 1) (max V.height O.height + 1) + 1 = ap (λ (q : Part). q.height) is in
            let same : (part_at t3.parts link).height ≡ Z.height + 2 = omega (arith, h, tall, tall_mid, node.balanced.0, node.balanced.1, mid.balanced.0, mid.balanced.1, lt) in
            record {
              extends = extends_trans t.parts t1.parts t3.parts (pushed_extends t t1 left e inner.left lower p1) (extends_trans t1.parts t2.parts t3.parts (pushed_extends t1 t2 inner.right j row.right upper p2) (pushed_extends t2 t3 lower i upper link p3));
              in_table = omega (arith, longer_3, p3.place);
              room = omega (arith, longer_1, longer_2, longer_3, p1.room, p2.room, p3.room);
              entries = ap (λ (q : Part). q.entries) is ∙ sym flat;
              not_lower = omega (arith, same, higher);
              higher = omega (arith, same, higher);
              few = omega (arith, same, higher, longer_1, longer_2, longer_3);
              level = λ near. absurd (omega (arith, higher, near.1));
            }

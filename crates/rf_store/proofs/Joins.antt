-- What pushing and rotating make of a table.
use Rattle.std.proofs.Common.{◌≡◌, ℕ, ◌+◌, ◌<◌, ◌≤◌, max, [], ◌∷◌, ◌++◌, length, refl, sym, ap, ◌∙◌, subst, arith}
use Rattle.std.proofs.lemmas.List.{get_or_push, length_push}
use Rattle.rf_store.specs.Entries.{Entry, IsInOrder}
use Rattle.rf_store.specs.Part.{Part, Parts, empty_part, part_at, joined, Extends, DifferByAtMost}
use Rattle.rf_store.specs.Rows.{IsNode}
use Rattle.rf_store.specs.Tree.{CanJoin, IsPushed, IsJoined}
use Rattle.rf_store.specs.declared.table.Row.{Row}
use Rattle.rf_store.proofs.Order.{order_left, order_right, regroup}
use Rattle.rf_store.proofs.Trees.{extends_append, extends_trans}

-- ---- one row

module _ (old new : Parts) (l : ℕ) (e : Entry) (r link : ℕ) (p : IsPushed old new l e r link) where
  pub pushed_longer : length new.parts ≡ length old.parts + 1
  pushed_longer = ap length p.parts ∙ length_push old.parts (joined (part_at old.parts l) e (part_at old.parts r))

  pub pushed_extends : Extends old.parts new.parts
  pushed_extends = rw p.parts (extends_append old.parts (joined (part_at old.parts l) e (part_at old.parts r) ∷ []))

  pub pushed_is : part_at new.parts link ≡ joined (part_at old.parts l) e (part_at old.parts r)
  pushed_is = rw p.parts (get_or_push old.parts (joined (part_at old.parts l) e (part_at old.parts r)) empty_part link (sym p.place))

  -- pushing joins
  pub joined_push : DifferByAtMost 1 (part_at old.parts l).height (part_at old.parts r).height → IsJoined old new l e r link
  joined_push near =
      let h : (part_at new.parts link).height ≡ max (part_at old.parts l).height (part_at old.parts r).height + 1 = ap (λ (q : Part). q.height) pushed_is in
      record {
        extends = pushed_extends;
        in_table = omega (arith, pushed_longer, p.place);
        room = omega (arith, pushed_longer, p.room);
        entries = ap (λ (q : Part). q.entries) pushed_is;
        not_lower = omega arith;
        higher = omega arith;
        few = omega (arith, pushed_longer);
        level = λ _. (pushed_longer, h);
      }

-- what a tree of the old table is after one more row
pub kept_at : (old new : Parts) (l : ℕ) (e : Entry) (r link at : ℕ) → IsPushed old new l e r link → at < length old.parts → part_at new.parts at ≡ part_at old.parts at
kept_at old new l e r link at p h = (pushed_extends old new l e r link p).same at h

-- ---- the left tree is higher by two

module _ (t : Parts) (left : ℕ) (e : Entry) (right : ℕ) (row : Row) (can : CanJoin 2 t left e right) (node : IsNode t.parts left row)
    (higher : (part_at t.parts left).height ≡ (part_at t.parts right).height + 2) where
  abbrev pub X : Part
  X = part_at t.parts row.left

  abbrev pub Y : Part
  Y = part_at t.parts row.right

  abbrev pub Z : Part
  Z = part_at t.parts right

  abbrev pub j : Entry
  j = (row.key, row.value)

  tall : max X.height Y.height + 1 ≡ Z.height + 2
  tall = sym (ap (λ (q : Part). q.height) node.stands) ∙ higher

  entries_left : (part_at t.parts left).entries ≡ X.entries ++ j ∷ Y.entries
  entries_left = ap (λ (q : Part). q.entries) node.stands

  order : IsInOrder ((X.entries ++ j ∷ Y.entries) ++ e ∷ Z.entries)
  order = subst (λ xs. IsInOrder (xs ++ e ∷ Z.entries)) entries_left can.in_order

  order_flat : IsInOrder (X.entries ++ j ∷ (Y.entries ++ e ∷ Z.entries))
  order_flat = subst IsInOrder (regroup X.entries j Y.entries e Z.entries) order

  pub single_lowered : Y.height ≤ X.height → CanJoin 1 t row.right e right
  single_lowered le = record {
    left_in = omega (arith, node.right_before, can.left_in);
    right_in = can.right_in;
    near = (omega (arith, tall, node.balanced.0, node.balanced.1), omega (arith, tall, node.balanced.0, node.balanced.1));
    in_order = order_right X.entries j (Y.entries ++ e ∷ Z.entries) order_flat;
  }

  module _ (t1 : Parts) (lowered : ℕ) (p1 : IsPushed t t1 row.right e right lowered) (le : Y.height ≤ X.height) where
    left_kept : part_at t1.parts row.left ≡ X
    left_kept = kept_at t t1 row.right e right lowered row.left p1 (omega (arith, node.left_before, can.left_in))

    lowered_is : part_at t1.parts lowered ≡ joined Y e Z
    lowered_is = pushed_is t t1 row.right e right lowered p1

    longer1 : length t1.parts ≡ length t.parts + 1
    longer1 = pushed_longer t t1 row.right e right lowered p1

    near1 : DifferByAtMost 1 X.height (max Y.height Z.height + 1)
    near1 = (omega (arith, tall, node.balanced.0, node.balanced.1, le), omega (arith, tall, node.balanced.0, node.balanced.1, le))

    pub single_top : CanJoin 1 t1 row.left j lowered
    single_top = record {
      left_in = omega (arith, node.left_before, can.left_in, longer1);
      right_in = omega (arith, longer1, p1.place);
      near = rw (left_kept, lowered_is) near1;
      in_order = rw (left_kept, lowered_is) order_flat;
    }

    pub single_done : (t2 : Parts) (link : ℕ) → IsPushed t1 t2 row.left j lowered link → IsJoined t t2 left e right link
    single_done t2 link p2 =
        let longer2 = pushed_longer t1 t2 row.left j lowered link p2 in
        let is : part_at t2.parts link ≡ joined X j (joined Y e Z) = pushed_is t1 t2 row.left j lowered link p2 ∙ rw (left_kept, lowered_is) refl in
        let h : (part_at t2.parts link).height ≡ max X.height (max Y.height Z.height + 1) + 1 = ap (λ (q : Part). q.height) is in
        record {
          extends = extends_trans t.parts t1.parts t2.parts (pushed_extends t t1 row.right e right lowered p1) (pushed_extends t1 t2 row.left j lowered link p2);
          in_table = omega (arith, longer2, p2.place);
          room = omega (arith, longer1, longer2, p1.room, p2.room);
          entries = ap (λ (q : Part). q.entries) is ∙ sym (ap (λ xs. xs ++ e ∷ Z.entries) entries_left ∙ regroup X.entries j Y.entries e Z.entries);
          not_lower = omega (arith, h, higher, tall);
          higher = omega (arith, h, higher, tall, node.balanced.0, node.balanced.1);
          few = omega (arith, h, higher, tall, node.balanced.0, node.balanced.1, longer1, longer2);
          level = λ near. absurd (omega (arith, higher, near.0));
        }

  module _ (inner : Row) (mid : IsNode t.parts row.right inner) (lt : X.height < Y.height) where
    abbrev pub U : Part
    U = part_at t.parts inner.left

    abbrev pub V : Part
    V = part_at t.parts inner.right

    abbrev pub i : Entry
    i = (inner.key, inner.value)

    tall_mid : Y.height ≡ max U.height V.height + 1
    tall_mid = ap (λ (q : Part). q.height) mid.stands

    entries_mid : Y.entries ≡ U.entries ++ i ∷ V.entries
    entries_mid = ap (λ (q : Part). q.entries) mid.stands

    order_lower : IsInOrder (X.entries ++ j ∷ U.entries)
    order_lower =
        let front = order_left (X.entries ++ j ∷ Y.entries) (e ∷ Z.entries) order in
        let open_mid = subst (λ ys. IsInOrder (X.entries ++ j ∷ ys)) entries_mid front in
        order_left (X.entries ++ j ∷ U.entries) (i ∷ V.entries) (subst IsInOrder (sym (regroup X.entries j U.entries i V.entries)) open_mid)

    order_back : IsInOrder (U.entries ++ i ∷ (V.entries ++ e ∷ Z.entries))
    order_back =
        let back = order_right X.entries j (Y.entries ++ e ∷ Z.entries) order_flat in
        subst IsInOrder (regroup U.entries i V.entries e Z.entries) (subst (λ ys. IsInOrder (ys ++ e ∷ Z.entries)) entries_mid back)

    flat : (part_at t.parts left).entries ++ e ∷ Z.entries ≡ (X.entries ++ j ∷ U.entries) ++ i ∷ (V.entries ++ e ∷ Z.entries)
    flat =
        ap (λ xs. xs ++ e ∷ Z.entries) entries_left
        ∙ regroup X.entries j Y.entries e Z.entries
        ∙ ap (λ ys. X.entries ++ j ∷ (ys ++ e ∷ Z.entries)) entries_mid
        ∙ ap (λ ys. X.entries ++ j ∷ ys) (regroup U.entries i V.entries e Z.entries)
        ∙ sym (regroup X.entries j U.entries i (V.entries ++ e ∷ Z.entries))

    pub double_lower : CanJoin 1 t row.left j inner.left
    double_lower = record {
      left_in = omega (arith, node.left_before, can.left_in);
      right_in = omega (arith, mid.left_before, node.right_before, can.left_in);
      near = (omega (arith, tall, tall_mid, node.balanced.0, node.balanced.1, mid.balanced.0, mid.balanced.1, lt), omega (arith, tall, tall_mid, node.balanced.0, node.balanced.1, mid.balanced.0, mid.balanced.1, lt));
      in_order = order_lower;
    }

    module _ (t1 : Parts) (lower : ℕ) (p1 : IsPushed t t1 row.left j inner.left lower) where
      longer_1 : length t1.parts ≡ length t.parts + 1
      longer_1 = pushed_longer t t1 row.left j inner.left lower p1

      mid_kept : part_at t1.parts inner.right ≡ V
      mid_kept = kept_at t t1 row.left j inner.left lower inner.right p1 (omega (arith, mid.right_before, node.right_before, can.left_in))

      right_kept : part_at t1.parts right ≡ Z
      right_kept = kept_at t t1 row.left j inner.left lower right p1 can.right_in

      near_upper : DifferByAtMost 1 V.height Z.height
      near_upper = (omega (arith, tall, tall_mid, node.balanced.0, node.balanced.1, mid.balanced.0, mid.balanced.1, lt), omega (arith, tall, tall_mid, node.balanced.0, node.balanced.1, mid.balanced.0, mid.balanced.1, lt))

      pub double_upper : CanJoin 1 t1 inner.right e right
      double_upper = record {
        left_in = omega (arith, mid.right_before, node.right_before, can.left_in, longer_1);
        right_in = omega (arith, can.right_in, longer_1);
        near = rw (mid_kept, right_kept) near_upper;
        in_order = rw (mid_kept, right_kept) (order_right U.entries i (V.entries ++ e ∷ Z.entries) order_back);
      }

      module _ (t2 : Parts) (upper : ℕ) (p2 : IsPushed t1 t2 inner.right e right upper) where
        longer_2 : length t2.parts ≡ length t1.parts + 1
        longer_2 = pushed_longer t1 t2 inner.right e right upper p2

        lower_is : part_at t2.parts lower ≡ joined X j U
        lower_is = kept_at t1 t2 inner.right e right upper lower p2 (omega (arith, longer_1, p1.place)) ∙ pushed_is t t1 row.left j inner.left lower p1

        upper_is : part_at t2.parts upper ≡ joined V e Z
        upper_is = pushed_is t1 t2 inner.right e right upper p2 ∙ rw (mid_kept, right_kept) refl

        near_top : DifferByAtMost 1 (max X.height U.height + 1) (max V.height Z.height + 1)
        near_top = (omega (arith, tall, tall_mid, node.balanced.0, node.balanced.1, mid.balanced.0, mid.balanced.1, lt), omega (arith, tall, tall_mid, node.balanced.0, node.balanced.1, mid.balanced.0, mid.balanced.1, lt))

        pub double_top : CanJoin 1 t2 lower i upper
        double_top = record {
          left_in = omega (arith, longer_1, longer_2, p1.place);
          right_in = omega (arith, longer_2, p2.place);
          near = rw (lower_is, upper_is) near_top;
          in_order = rw (lower_is, upper_is) (subst IsInOrder flat can.in_order);
        }

        pub double_done : (t3 : Parts) (link : ℕ) → IsPushed t2 t3 lower i upper link → IsJoined t t3 left e right link
        double_done t3 link p3 =
            let longer_3 = pushed_longer t2 t3 lower i upper link p3 in
            let is : part_at t3.parts link ≡ joined (joined X j U) i (joined V e Z) = pushed_is t2 t3 lower i upper link p3 ∙ rw (lower_is, upper_is) refl in
            let h : (part_at t3.parts link).height ≡ max (max X.height U.height + 1) (max V.height Z.height + 1) + 1 = ap (λ (q : Part). q.height) is in
            let same : (part_at t3.parts link).height ≡ Z.height + 2 = omega (arith, h, tall, tall_mid, node.balanced.0, node.balanced.1, mid.balanced.0, mid.balanced.1, lt) in
            record {
              extends = extends_trans t.parts t1.parts t3.parts (pushed_extends t t1 row.left j inner.left lower p1) (extends_trans t1.parts t2.parts t3.parts (pushed_extends t1 t2 inner.right e right upper p2) (pushed_extends t2 t3 lower i upper link p3));
              in_table = omega (arith, longer_3, p3.place);
              room = omega (arith, longer_1, longer_2, longer_3, p1.room, p2.room, p3.room);
              entries = ap (λ (q : Part). q.entries) is ∙ sym flat;
              not_lower = omega (arith, same, higher);
              higher = omega (arith, same, higher);
              few = omega (arith, same, higher, longer_1, longer_2, longer_3);
              level = λ near. absurd (omega (arith, higher, near.0));
            }

-- Facts on the trees of a table: what a row adds, and what stays.
use Rattle.std.proofs.Common.{◌≡◌, ℕ, ◌+◌, ◌-◌, ◌*◌, ◌^◌, ◌<◌, ◌≤◌, max, List, [], ◌∷◌, ◌++◌, length, get_or, take, drop, refl, sym, ap, ◌∙◌, subst, inl, inr, arith, length-append}
use Rattle.std.proofs.lemmas.List.{get_or_append_left, get_or_past, get_or_push, length_push, take-append-le, take-append-drop, take_all, get_or-take, length-take-le}
use Rattle.std.proofs.lemmas.Bool.{cases_lt, cases_eq}
use Rattle.std.proofs.Math.Nat.{mul-le-mul}
use Rattle.std.proofs.Math.Pow.{pow_mono}
use Rattle.std.proofs.lemmas.Nat.{pow-add}
use Rattle.rf_store.specs.Entries.{Entry, IsInOrder}
use Rattle.rf_store.specs.Part.{Part, empty_part, part_at, joined, Extends, DifferByAtMost}
use Rattle.rf_store.specs.Rows.{part_of, parts_after, parts_of, IsNode, IsTree, IsSound}
use Rattle.rf_store.specs.declared.table.Row.{Row}

-- ---- the trees of the rows

pub parts_after-append : (parts : List Part) (xs ys : List Row) → parts_after parts (xs ++ ys) ≡ parts_after (parts_after parts xs) ys
parts_after-append parts [] ys = refl
parts_after-append parts (x ∷ xs) ys = parts_after-append (parts ++ part_of parts x ∷ []) xs ys

length-parts_after : (parts : List Part) (rows : List Row) → length (parts_after parts rows) ≡ length parts + length rows
length-parts_after parts [] = omega arith
length-parts_after parts (row ∷ rows) = omega (arith, length-parts_after (parts ++ part_of parts row ∷ []) rows, length_push parts (part_of parts row))

pub length-parts_of : (rows : List Row) → length (parts_of rows) ≡ length rows + 1
length-parts_of rows = omega (arith, length-parts_after (empty_part ∷ []) rows)

take-parts_after : (parts : List Part) (rows : List Row) (n : ℕ) → n ≤ length parts → take n (parts_after parts rows) ≡ take n parts
take-parts_after parts [] n h = refl
take-parts_after parts (row ∷ rows) n h =
    take-parts_after (parts ++ part_of parts row ∷ []) rows n (omega (arith, length_push parts (part_of parts row)))
    ∙ take-append-le n parts (part_of parts row ∷ []) h

-- one more row
pub parts_of-push : (rows : List Row) (row : Row) → parts_of (rows ++ row ∷ []) ≡ parts_of rows ++ part_of (parts_of rows) row ∷ []
parts_of-push rows row = parts_after-append (empty_part ∷ []) rows (row ∷ [])

-- the first rows
pub parts_of-take : (rows : List Row) (n : ℕ) → n ≤ length rows → parts_of (take n rows) ≡ take (n + 1) (parts_of rows)
parts_of-take rows n h =
    let first = parts_of (take n rows) in
    let all : parts_of rows ≡ parts_after first (drop n rows) =
    ap parts_of (sym (take-append-drop n rows)) ∙ parts_after-append (empty_part ∷ []) (take n rows) (drop n rows) in
    let size : length first ≡ n + 1 = length-parts_of (take n rows) ∙ ap (λ m. m + 1) (length-take-le n rows h) in
    sym (ap (λ ps. take (n + 1) ps) all ∙ take-parts_after first (drop n rows) (n + 1) (omega arith) ∙ take_all (n + 1) first (omega arith))

-- ---- a table that grows

pub extends_append : (xs ys : List Part) → Extends xs (xs ++ ys)
extends_append xs ys = record { longer = omega (arith, length-append xs ys); same = λ link h. get_or_append_left xs ys empty_part link h }

pub extends_trans : (xs ys zs : List Part) → Extends xs ys → Extends ys zs → Extends xs zs
extends_trans xs ys zs f g = record { longer = omega (arith, f.longer, g.longer); same = λ link h. g.same link (omega (arith, f.longer)) ∙ f.same link h }

pub node_extends : (old new : List Part) (link : ℕ) (row : Row) → Extends old new → link < length old → IsNode old link row → IsNode new link row
node_extends old new link row more h n =
    let here = more.same link h in
    let left = more.same row.left (omega (arith, n.left_before)) in
    let right = more.same row.right (omega (arith, n.right_before)) in
    record {
      left_before = n.left_before;
      right_before = n.right_before;
      stands = rw (here, left, right) n.stands;
      height = rw here n.height;
      balanced = rw (left, right) n.balanced;
    }

-- ---- a tree is not too high for its entries

squares : (p a b : ℕ) → a ≤ b → p ≤ a * a → 4 * p ≤ (a + b) * (a + b)
squares p a b h q =
    let twice : (2 * a) * (2 * a) ≤ (a + b) * (a + b) = mul-le-mul (omega arith) (omega arith) in
    omega (arith, twice)

four_more : (h k : ℕ) → h ≤ k + 2 → 2 ^ h ≤ 4 * 2 ^ k
four_more h k le = omega (arith, pow_mono {i = h} {j = k + 2} le, pow-add 2 k 2)

full_sides : (h l r a b : ℕ) → h ≤ l + 2 → h ≤ r + 2 → 2 ^ l ≤ a * a → 2 ^ r ≤ b * b → 2 ^ h ≤ (a + b) * (a + b)
full_sides h l r a b hl hr fl fr = elim (cases_lt a b) [
  | inl lt ↦ omega (arith, four_more h l hl, squares (2 ^ l) a b (omega arith) fl)
  | inr ge ↦ omega (arith, four_more h r hr, squares (2 ^ r) b a ge fr, Rattle.std.proofs.Math.Nat.add_comm a b)
]

pub tree_joined : (link : ℕ) (l r : Part) (e : Entry) (m n : ℕ) → IsTree m l → IsTree n r → m < link → n < link → DifferByAtMost 1 l.height r.height → IsInOrder (l.entries ++ e ∷ r.entries) → IsTree link (joined l e r)
tree_joined link l r e m n tl tr ml nl near order = record {
  in_order = order;
  low = omega (arith, tl.low, tr.low);
  full =
      let size : length (l.entries ++ e ∷ r.entries) + 1 ≡ (length l.entries + 1) + (length r.entries + 1) = omega (arith, length-append l.entries (e ∷ r.entries)) in
      rw size (full_sides (max l.height r.height + 1) l.height r.height (length l.entries + 1) (length r.entries + 1) (omega (arith, near.0, near.1)) (omega (arith, near.0, near.1)) tl.full tr.full);
}

tree_empty : (link : ℕ) → IsTree link empty_part
tree_empty link = record { in_order = tt; low = omega arith; full = omega arith }

-- ---- sound rows

tree_push : (parts : List Part) (p : Part) → ((link : ℕ) → IsTree link (part_at parts link)) → IsTree (length parts) p → (link : ℕ) → IsTree link (part_at (parts ++ p ∷ []) link)
tree_push parts p old new link = elim (cases_lt link (length parts)) [
  | inl below ↦ rw (get_or_append_left parts (p ∷ []) empty_part link below) (old link)
  | inr past ↦ elim (cases_eq link (length parts)) [
    | inl here ↦ rw (get_or_push parts p empty_part link (sym here), here) new
    | inr later ↦ rw (get_or_past (parts ++ p ∷ []) link empty_part (omega (arith, length_push parts p))) (tree_empty link)
  ]
]

pub sound_push : (rows : List Row) (row : Row) → IsSound rows → row.left ≤ length rows → row.right ≤ length rows
    → DifferByAtMost 1 (part_at (parts_of rows) row.left).height (part_at (parts_of rows) row.right).height
    → row.height ≡ max (part_at (parts_of rows) row.left).height (part_at (parts_of rows) row.right).height + 1
    → IsInOrder ((part_at (parts_of rows) row.left).entries ++ (row.key, row.value) ∷ (part_at (parts_of rows) row.right).entries)
    → IsSound (rows ++ row ∷ [])
sound_push rows row s left_in right_in near height order = record {
  nodes = λ link r some past read. rw (parts_of-push rows row) (node link r some past read);
  trees = rw (parts_of-push rows row) (tree_push parts p s.trees (rw size (tree_joined (length rows + 1) _ _ _ row.left row.right (s.trees row.left) (s.trees row.right) (omega arith) (omega arith) near order)));
}
  where
    parts : List Part
    parts = parts_of rows

    p : Part
    p = part_of parts row

    size : length parts ≡ length rows + 1
    size = length-parts_of rows

    left_same : part_at (parts ++ p ∷ []) row.left ≡ part_at parts row.left
    left_same = get_or_append_left parts (p ∷ []) empty_part row.left (omega (arith, size))

    right_same : part_at (parts ++ p ∷ []) row.right ≡ part_at parts row.right
    right_same = get_or_append_left parts (p ∷ []) empty_part row.right (omega (arith, size))

    new : (link : ℕ) → link ≡ length parts → IsNode (parts ++ p ∷ []) link row
    new link here =
        let at : part_at (parts ++ p ∷ []) link ≡ p = get_or_push parts p empty_part link (sym here) in
        record {
          left_before = omega (arith, size);
          right_before = omega (arith, size);
          stands = rw (at, left_same, right_same) refl;
          height = rw at height;
          balanced = rw (left_same, right_same) near;
        }

    node : (link : ℕ) (r : Row) → 0 < link → link ≤ length (rows ++ row ∷ []) → r ≡ get_or (rows ++ row ∷ []) (link - 1) r → IsNode (parts ++ p ∷ []) link r
    node link r some past read = elim (cases_lt link (length rows + 1)) [
      | inl below ↦
          let old : r ≡ get_or rows (link - 1) r = read ∙ get_or_append_left rows (row ∷ []) r (link - 1) (omega arith) in
          node_extends parts (parts ++ p ∷ []) link r (extends_append parts (p ∷ [])) (omega (arith, size)) (s.nodes link r some (omega arith) old)
      | inr last ↦
          let here : link ≡ length rows + 1 = omega (arith, length_push rows row) in
          let same : r ≡ row = read ∙ get_or_push rows row r (link - 1) (omega arith) in
          subst (λ q. IsNode (parts ++ p ∷ []) link q) (sym same) (new link (omega (arith, size)))
    ]

-- the first rows of sound rows are sound
pub sound_take : (rows : List Row) (n : ℕ) → n ≤ length rows → IsSound rows → IsSound (take n rows)
sound_take rows n h s = record {
  nodes = λ link r some past read. rw (parts_of-take rows n h) (node link r some (rw (length-take-le n rows h) at past) read);
  trees = λ link. rw (parts_of-take rows n h) (tree link);
}
  where
    size : length (parts_of rows) ≡ length rows + 1
    size = length-parts_of rows

    same : (link : ℕ) → link ≤ n → part_at (take (n + 1) (parts_of rows)) link ≡ part_at (parts_of rows) link
    same link le = get_or-take (n + 1) (parts_of rows) link empty_part (omega arith)

    tree : (link : ℕ) → IsTree link (part_at (take (n + 1) (parts_of rows)) link)
    tree link = elim (cases_lt link (n + 1)) [
      | inl below ↦ rw (same link (omega arith)) (s.trees link)
      | inr past ↦ rw (get_or_past (take (n + 1) (parts_of rows)) link empty_part (omega (arith, length-take-le (n + 1) (parts_of rows) (omega (arith, size))))) (tree_empty link)
    ]

    node : (link : ℕ) (r : Row) → 0 < link → link ≤ n → r ≡ get_or (take n rows) (link - 1) r → IsNode (take (n + 1) (parts_of rows)) link r
    node link r some past read =
        let old : r ≡ get_or rows (link - 1) r = read ∙ get_or-take n rows (link - 1) r (omega arith) in
        let was = s.nodes link r some (omega arith) old in
        record {
          left_before = was.left_before;
          right_before = was.right_before;
          stands = rw (same link past, same r.left (omega (arith, was.left_before)), same r.right (omega (arith, was.right_before))) was.stands;
          height = rw (same link past) was.height;
          balanced = rw (same r.left (omega (arith, was.left_before)), same r.right (omega (arith, was.right_before))) was.balanced;
        }

-- the empty tree stands first
pub part_at_zero : (rows : List Row) → part_at (parts_of rows) 0 ≡ empty_part
part_at_zero rows =
    sym (get_or-take 1 (parts_of rows) 0 empty_part (omega arith))
    ∙ ap (λ ps. part_at ps 0) (take-parts_after (empty_part ∷ []) rows 1 (omega arith))

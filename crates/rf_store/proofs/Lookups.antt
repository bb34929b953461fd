-- What a look-up at the root of a tree says of the whole tree.
use Rattle.std.proofs.Common.{◌≡◌, ℕ, List, ◌∷◌, ◌++◌, Some, ap, ◌∙◌, subst}
use Rattle.std.specs.declared.cmp.Ordering.TheVariants.{Less, Equal, Greater}
use Rattle.rf_store.specs.Entries.{Entry, key_cmp, IsInOrder, value_at, first_from}
use Rattle.rf_store.specs.Part.{Part, part_at}
use Rattle.rf_store.specs.Rows.{IsNode, IsTree}
use Rattle.rf_store.specs.declared.table.Row.{Row}
use Rattle.rf_store.proofs.Order.{value_left, value_middle, value_right, first_left, first_middle, first_right, or_else}

module _ (parts : List Part) (link : ℕ) (row : Row) (node : IsNode parts link row) (tree : IsTree link (part_at parts link)) (k : List ℕ) where
  abbrev pub L : List Entry
  L = (part_at parts row.left).entries

  abbrev pub R : List Entry
  R = (part_at parts row.right).entries

  abbrev pub e : Entry
  e = (row.key, row.value)

  entries_is : (part_at parts link).entries ≡ L ++ e ∷ R
  entries_is = ap (λ (q : Part). q.entries) node.stands

  order : IsInOrder (L ++ e ∷ R)
  order = subst IsInOrder entries_is tree.in_order

  pub value_less : key_cmp k row.key ≡ Less → value_at (part_at parts link).entries k ≡ value_at L k
  value_less h = ap (λ es. value_at es k) entries_is ∙ value_left k L e R order h

  pub value_equal : key_cmp k row.key ≡ Equal → value_at (part_at parts link).entries k ≡ Some row.value
  value_equal h = ap (λ es. value_at es k) entries_is ∙ value_middle k L e R order h

  pub value_greater : key_cmp k row.key ≡ Greater → value_at (part_at parts link).entries k ≡ value_at R k
  value_greater h = ap (λ es. value_at es k) entries_is ∙ value_right k L e R order h

  pub first_less : key_cmp k row.key ≡ Less → first_from (part_at parts link).entries k ≡ or_else (first_from L k) e
  first_less h = ap (λ es. first_from es k) entries_is ∙ first_left k L e R h

  pub first_equal : key_cmp k row.key ≡ Equal → first_from (part_at parts link).entries k ≡ Some e
  first_equal h = ap (λ es. first_from es k) entries_is ∙ first_middle k L e R order h

  pub first_greater : key_cmp k row.key ≡ Greater → first_from (part_at parts link).entries k ≡ first_from R k
  first_greater h = ap (λ es. first_from es k) entries_is ∙ first_right k L e R order h

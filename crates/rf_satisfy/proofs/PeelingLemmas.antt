-- Peeling one node after another.
use Rattle.std.proofs.Common.{◌≡◌, ℕ, suc, ◌+◌, ◌-◌, ◌≤◌, ◌<◌, ◌&&◌, Bool, true, false, not, eqb, Option, None, Some, List, length, get_or, set, refl, sym, ap, ◌∙◌, subst, inl, inr, arith, replicate, add-one, get_or-set_same, get_or-set_other, length-set}
use Rattle.std.proofs.lemmas.Bool.{and_parts, and_from, and_right, cases_Bool, cases_eq, both_ways, eq-eqb, ne_eqb, eqb-true, not-true, not_from_false}
use Rattle.std.proofs.lemmas.List.{get_or-replicate, length-replicate}
use Rattle.rf_finite.specs.Range.{count_below}
use Rattle.rf_finite.proofs.Range.{count_below-same, count_below-without, count_below-positive, one-from_count_below}
use Rattle.rf_satisfy.specs.ContainerOf.{contains_by, is_cyclic, is_node}
use Rattle.rf_satisfy.specs.Peeling.{AreAllPeeled, AreOthersPeeled, IsPeeling, is_left}
use Rattle.rf_finite.proofs.Cycles.{off_cycle-from_ends, on_cycle-from_ends}

-- no two nodes contain the same
is_node-one : (o : Option ℕ) (x y : ℕ) → is_node o x ≡ true → is_node o y ≡ true → x ≡ y
is_node-one None x y h k = absurd (both_ways false refl h)
is_node-one (Some z) x y h k = sym (eqb-true z x h) ∙ eqb-true z y k

-- what the test says of a node that is to be peeled
pub parts_of_bare : (contents : List ℕ) (peeled : List Bool) (z : ℕ) → (eqb (get_or contents z 0) 0 && not (get_or peeled z false)) ≡ true
    → (get_or contents z 0 ≡ 0) × (get_or peeled z false ≡ false)
parts_of_bare contents peeled z h =
    let parts = and_parts (eqb (get_or contents z 0) 0) (not (get_or peeled z false)) h in
    (eqb-true (get_or contents z 0) 0 parts.0, not-true (get_or peeled z false) parts.1)

module _ (containers : List (Option ℕ)) where
  -- nothing is peeled yet
  pub IsPeeling-none : (contents : List ℕ) (peeled : List Bool) → length contents ≡ length containers → peeled ≡ replicate (length containers) false
      → ((x : ℕ) → x < length containers → get_or contents x 0 ≡ count_below (length containers) (contains_by containers x)) → IsPeeling containers contents peeled
  IsPeeling-none contents peeled same_len none counts =
      let unmarked : (x : ℕ) → x < length containers → get_or peeled x false ≡ false =
      λ x l. ap (λ marks. get_or marks x false) none ∙ get_or-replicate (length containers) x false false l in record {
        counts = same_len;
        marks = ap length none ∙ length-replicate (length containers) false;
        left = λ x lx. counts x lx ∙ count_below-same (length containers) (contains_by containers x) (is_left containers peeled x)
            (λ k l. sym (ap (λ b. not b && contains_by containers x k) (unmarked k l)));
        off = λ x lx h. absurd (both_ways (get_or peeled x false) (unmarked x lx) h);
      }

  -- the container of z contains one more, and the others as many as before
  pub content_counts-more : (contents : List ℕ) (z x c : ℕ) → length contents ≡ length containers → x < length containers → get_or containers z None ≡ Some x
      → c ≡ get_or contents x 0 + 1 → ((y : ℕ) → y < length containers → get_or contents y 0 ≡ count_below z (contains_by containers y))
      → (y : ℕ) → y < length containers → get_or (set contents x c) y 0 ≡ count_below (z + 1) (contains_by containers y)
  content_counts-more contents z x c same_len lx at more counts y ly = rw add-one (elim (cases_eq y x) [
    | inl s ↦ (let contained : contains_by containers y z ≡ true = ap (λ o. is_node o y) at ∙ eq-eqb x y (sym s) in
        let now : get_or (set contents x c) y 0 ≡ c = subst (λ y. get_or (set contents x c) y 0 ≡ c) (sym s) (get_or-set_same contents x c 0 (omega arith)) in
        let was : get_or contents y 0 ≡ get_or contents x 0 = ap (λ y. get_or contents y 0) s in
        let total = counts y ly in
        rw contained (omega arith))
    | inr ne ↦ (let contained : contains_by containers y z ≡ false = ap (λ o. is_node o y) at ∙ ne_eqb x y (λ e. ne (sym e)) in
        let now = get_or-set_other contents x y c 0 ne in
        let total = counts y ly in
        rw contained (omega arith))
  ])

  -- nothing contains z
  pub content_counts-same : (contents : List ℕ) (z : ℕ) → get_or containers z None ≡ None → ((y : ℕ) → y < length containers → get_or contents y 0 ≡ count_below z (contains_by containers y))
      → (y : ℕ) → y < length containers → get_or contents y 0 ≡ count_below (z + 1) (contains_by containers y)
  content_counts-same contents z at counts y ly = rw add-one (let contained : contains_by containers y z ≡ false = ap (λ o. is_node o y) at in
      let total = counts y ly in rw contained (omega arith))

  -- z is peeled, and x doesn't contain it
  count_below-is_left_same : (peeled : List Bool) (z x : ℕ) → contains_by containers x z ≡ false
      → count_below (length containers) (is_left containers (set peeled z true) x) ≡ count_below (length containers) (is_left containers peeled x)
  count_below-is_left_same peeled z x e = count_below-same (length containers) (is_left containers (set peeled z true) x) (is_left containers peeled x)
      (λ k l. elim (cases_eq k z) [
        | inl s ↦ (let none : contains_by containers x k ≡ false = subst (λ k. contains_by containers x k ≡ false) (sym s) e in
            and_right (not (get_or (set peeled z true) k false)) (contains_by containers x k) none ∙ sym (and_right (not (get_or peeled k false)) (contains_by containers x k) none))
        | inr ne ↦ ap (λ b. not b && contains_by containers x k) (get_or-set_other peeled z k true false ne)
      ])

  -- z is peeled, and x contains it
  count_below-is_left_fewer : (peeled : List Bool) (z x : ℕ) → z < length containers → z < length peeled → get_or peeled z false ≡ false → contains_by containers x z ≡ true
      → count_below (length containers) (is_left containers peeled x) ≡ suc (count_below (length containers) (is_left containers (set peeled z true) x))
  count_below-is_left_fewer peeled z x l lp off e =
      let here : is_left containers peeled x z ≡ true = and_from (not (get_or peeled z false)) (contains_by containers x z) (not_from_false (get_or peeled z false) off) e in
      count_below-without (length containers) (is_left containers peeled x) z l here
      ∙ ap suc (count_below-same (length containers) (λ k. not (eqb k z) && is_left containers peeled x k) (is_left containers (set peeled z true) x)
      (λ k lk. elim (cases_eq k z) [
        | inl s ↦ (let same : eqb k z ≡ true = eq-eqb k z s in
            let now : get_or (set peeled z true) k false ≡ true = subst (λ k. get_or (set peeled z true) k false ≡ true) (sym s) (get_or-set_same peeled z true false lp) in
            rw (same, now) refl)
        | inr ne ↦ (let apart : eqb k z ≡ false = ne_eqb k z ne in
            let now : get_or (set peeled z true) k false ≡ get_or peeled k false = get_or-set_other peeled z k true false ne in
            rw (apart, now) refl)
      ]))

  -- a node that contains only what is peeled lies on no cycle
  off_cycle-from_bare : (contents : List ℕ) (peeled : List Bool) (z : ℕ) → IsPeeling containers contents peeled → z < length containers → get_or contents z 0 ≡ 0 → is_cyclic containers z ≡ false
  off_cycle-from_bare contents peeled z p l bare = off_cycle-from_ends (contains_by containers) (length containers) z l
      (λ k lk e. p.off k lk (elim (cases_Bool (get_or peeled k false)) [
        | inl marked ↦ marked
        | inr off ↦ (let one = count_below-positive (length containers) (is_left containers peeled z) k lk
            (and_from (not (get_or peeled k false)) (contains_by containers z k) (not_from_false (get_or peeled k false) off) e) in
            let total = p.left z l in absurd (omega arith))
      ]))

  off-peeled : (contents : List ℕ) (peeled : List Bool) (z : ℕ) → IsPeeling containers contents peeled → z < length containers → get_or contents z 0 ≡ 0
      → (x : ℕ) → x < length containers → get_or (set peeled z true) x false ≡ true → is_cyclic containers x ≡ false
  off-peeled contents peeled z p l bare x lx h = elim (cases_eq x z) [
    | inl s ↦ subst (λ x. is_cyclic containers x ≡ false) (sym s) (off_cycle-from_bare contents peeled z p l bare)
    | inr ne ↦ p.off x lx (sym (get_or-set_other peeled z x true false ne) ∙ h)
  ]

  -- z is peeled, and nothing contains it
  pub IsPeeling-top : (contents : List ℕ) (peeled : List Bool) (z : ℕ) → IsPeeling containers contents peeled → z < length containers → get_or contents z 0 ≡ 0
      → get_or containers z None ≡ None → IsPeeling containers contents (set peeled z true)
  IsPeeling-top contents peeled z p l bare top = record {
    counts = p.counts;
    marks = rw length-set p.marks;
    left = λ x lx. p.left x lx ∙ sym (count_below-is_left_same peeled z x (ap (λ o. is_node o x) top));
    off = off-peeled contents peeled z p l bare;
  }

  -- z is peeled, and x contains it
  pub IsPeeling-step : (contents : List ℕ) (peeled : List Bool) (z x : ℕ) → IsPeeling containers contents peeled → z < length containers → get_or contents z 0 ≡ 0
      → get_or peeled z false ≡ false → get_or containers z None ≡ Some x → x < length containers
      → IsPeeling containers (set contents x (get_or contents x 0 - 1)) (set peeled z true)
  IsPeeling-step contents peeled z x p l bare unmarked at lx =
      let in_counts : x < length contents = (let e = p.counts in omega arith) in
      let in_marks : z < length peeled = (let e = p.marks in omega arith) in record {
        counts = rw length-set p.counts;
        marks = rw length-set p.marks;
        left = λ y ly. elim (cases_eq y x) [
          | inl s ↦ (let contained : contains_by containers y z ≡ true = ap (λ o. is_node o y) at ∙ eq-eqb x y (sym s) in
              let fewer = count_below-is_left_fewer peeled z y l in_marks unmarked contained in
              let total = p.left y ly in
              let now : get_or (set contents x (get_or contents x 0 - 1)) y 0 ≡ get_or contents x 0 - 1 =
              subst (λ y. get_or (set contents x (get_or contents x 0 - 1)) y 0 ≡ get_or contents x 0 - 1) (sym s) (get_or-set_same contents x (get_or contents x 0 - 1) 0 in_counts) in
              let was : get_or contents y 0 ≡ get_or contents x 0 = ap (λ y. get_or contents y 0) s in
              omega arith)
          | inr ne ↦ (let contained : contains_by containers y z ≡ false = ap (λ o. is_node o y) at ∙ ne_eqb x y (λ e. ne (sym e)) in
              get_or-set_other contents x y (get_or contents x 0 - 1) 0 ne ∙ (p.left y ly ∙ sym (count_below-is_left_same peeled z y contained)))
        ];
        off = off-peeled contents peeled z p l bare;
      }

  -- what x contains is not none, where an unpeeled node is among it
  pub contents-positive : (contents : List ℕ) (peeled : List Bool) (z x : ℕ) → IsPeeling containers contents peeled → z < length containers
      → get_or peeled z false ≡ false → get_or containers z None ≡ Some x → x < length containers → 1 ≤ get_or contents x 0
  contents-positive contents peeled z x p l unmarked at lx =
      let contained : contains_by containers x z ≡ true = ap (λ o. is_node o x) at ∙ eq-eqb x x refl in
      let one = count_below-positive (length containers) (is_left containers peeled x) z l
      (and_from (not (get_or peeled z false)) (contains_by containers x z) (not_from_false (get_or peeled z false) unmarked) contained) in
      let total = p.left x lx in omega arith

  -- the others are still peeled where z is peeled and x contains one fewer
  pub AreOthersPeeled-step : (contents : List ℕ) (peeled : List Bool) (n z x c : ℕ) → AreOthersPeeled contents peeled n z → z < length peeled
      → AreOthersPeeled (set contents x c) (set peeled z true) n x
  AreOthersPeeled-step contents peeled n z x c all lz y ly ne bare = elim (cases_eq y z) [
    | inl s ↦ subst (λ y. get_or (set peeled z true) y false ≡ true) (sym s) (get_or-set_same peeled z true false lz)
    | inr apart ↦ get_or-set_other peeled z y true false apart ∙ all y ly apart (sym (get_or-set_other contents x y c 0 ne) ∙ bare)
  ]

  -- all are peeled where z is peeled as well
  pub AreAllPeeled-top : (contents : List ℕ) (peeled : List Bool) (n z : ℕ) → AreOthersPeeled contents peeled n z → z < length peeled → AreAllPeeled contents (set peeled z true) n
  AreAllPeeled-top contents peeled n z all lz y ly bare = elim (cases_eq y z) [
    | inl s ↦ subst (λ y. get_or (set peeled z true) y false ≡ true) (sym s) (get_or-set_same peeled z true false lz)
    | inr apart ↦ get_or-set_other peeled z y true false apart ∙ all y ly apart bare
  ]

  -- or where z needs no peeling
  pub AreAllPeeled-stop : (contents : List ℕ) (peeled : List Bool) (n z : ℕ) → AreOthersPeeled contents peeled n z
      → (eqb (get_or contents z 0) 0 && not (get_or peeled z false)) ≡ false → AreAllPeeled contents peeled n
  AreAllPeeled-stop contents peeled n z all stop y ly bare = elim (cases_eq y z) [
    | inl s ↦ elim (cases_Bool (get_or peeled y false)) [
      | inl e ↦ e
      | inr e ↦ (let at : (eqb (get_or contents y 0) 0 && not (get_or peeled y false)) ≡ false = subst (λ z. (eqb (get_or contents z 0) 0 && not (get_or peeled z false)) ≡ false) (sym s) stop in
          absurd (both_ways (eqb (get_or contents y 0) 0 && not (get_or peeled y false)) at
          (and_from (eqb (get_or contents y 0) 0) (not (get_or peeled y false)) (eq-eqb (get_or contents y 0) 0 bare) (not_from_false (get_or peeled y false) e))))
    ]
    | inr apart ↦ all y ly apart bare
  ]

  -- once all are peeled that can be, what is left lies on cycles
  pub off_cycles-all : (contents : List ℕ) (peeled : List Bool) → IsPeeling containers contents peeled → AreAllPeeled contents peeled (length containers)
      → (x : ℕ) → x < length containers → get_or peeled x false ≡ not (is_cyclic containers x)
  off_cycles-all contents peeled p all x lx = elim (cases_Bool (get_or peeled x false)) [
    | inl e ↦ e ∙ sym (not_from_false (is_cyclic containers x) (p.off x lx e))
    | inr e ↦ e ∙ sym (ap not (on_cycle-from_ends (contains_by containers) (length containers)
        (λ y y' z. is_node-one (get_or containers z None) y y')
        (λ y. get_or peeled y false ≡ false)
        (λ y ly off. (let total = p.left y ly in
        let some : 1 ≤ count_below (length containers) (is_left containers peeled y) = elim (cases_eq (get_or contents y 0) 0) [
          | inl none ↦ absurd (both_ways (get_or peeled y false) off (all y ly none))
          | inr more ↦ omega arith
        ] in
        let r = one-from_count_below (length containers) (is_left containers peeled y) some in
        let parts = and_parts (not (get_or peeled r.0 false)) (contains_by containers y r.0) r.2 in
        (r.0, r.1, not-true (get_or peeled r.0 false) parts.0, parts.1)))
        x lx e))
  ]

-- How many edges contain a node, and when there is one at most.
use Rattle.std.proofs.Common.{◌≡◌, ℕ, suc, ◌+◌, ◌<◌, ◌&&◌, Bool, true, false, cond, eqb, List, [], ◌∷◌, length, get_or, set, take, refl, sym, ap, ◌∙◌, subst, inl, inr, arith, get_or-set_same, get_or-set_other}
use Rattle.std.specs.Prelude.{All, count_by}
use Rattle.std.proofs.lemmas.Bool.{and_from, and_left, and_right, cases_Bool, cases_eq, eq-eqb, ne_eqb}
use Rattle.std.proofs.lemmas.List.Sums.{sum_by-cons, count_by_more_yes, count_by_more_no}
use Rattle.rf_finite.specs.Range.{count_below, sum_below}
use Rattle.rf_finite.proofs.Range.{sum_below-zero, sum_below-add, sum_below-one, sum_below-same}
use Rattle.rf_graph.specs.declared.graph.Edge.{Edge}
use Rattle.rf_graph.specs.declared.graph.Graph.{Graph}
use Rattle.rf_graph.specs.Graph.{Fits, has_edge, size_of}
use Rattle.rf_problem.specs.Contained.{is_containing}
use Rattle.rf_graph.specs.Violations.{container_count}
use Rattle.rf_problem.specs.declared.problem.Problem.{Problem}
use Rattle.rf_satisfy.specs.Edges.{is_into}
use Rattle.rf_satisfy.specs.Containers.{contains_node}
use Rattle.rf_satisfy.proofs.Counts.{count_by-sources}

-- an edge counts once, at its own reference
sum_below-one_edge : (m : ℕ) (p : ℕ → Bool) (z : ℕ) (e : Edge) → e.reference < m
    → sum_below m p (λ r. cond (is_into r z e) 1 0) ≡ cond (p e.reference && eqb e.to z) 1 0
sum_below-one_edge m p z e l = elim (cases_Bool (eqb e.to z)) [
  | inl t ↦ sum_below-same m p p (λ r. cond (is_into r z e) 1 0) (λ r. cond (eqb e.reference r) 1 0) (λ k h. refl) (λ r h. rw t (and_true (eqb e.reference r)))
      ∙ ((sum_below-one m p e.reference).0 l ∙ rw t (sym (and_true (p e.reference))))
  | inr f ↦ sum_below-same m p p (λ r. cond (is_into r z e) 1 0) (λ r. 0) (λ k h. refl) (λ r h. ap (λ b. cond b 1 0) (and_right (eqb e.reference r) (eqb e.to z) f))
      ∙ (sum_below-zero m p ∙ sym (ap (λ b. cond b 1 0) (and_right (p e.reference) (eqb e.to z) f)))
]
  where
    and_true : (b : Bool) → ◌≡◌ {A = ℕ} (cond (b && true) 1 0) (cond b 1 0)
    and_true true = refl
    and_true false = refl

-- the edges that lead to a node, reference by reference
sum_below-edges : (m : ℕ) (p : ℕ → Bool) (z : ℕ) (es : List Edge) → All (λ e. e.reference < m) es
    → sum_below m p (λ r. count_by (is_into r z) es) ≡ count_by (λ e. p e.reference && eqb e.to z) es
sum_below-edges m p z [] into = sum_below-zero m p
sum_below-edges m p z (e ∷ es) into =
    let rest = sum_below-edges m p z es (λ k d l. into (suc k) d (omega arith)) in
    let here = sum_below-one_edge m p z e (into 0 e (omega arith)) in
    sum_below-same m p p (λ r. count_by (is_into r z) (e ∷ es)) (λ r. cond (is_into r z e) 1 0 + count_by (is_into r z) es) (λ k h. refl)
    (λ r h. sum_by-cons (λ f. cond (is_into r z f) 1 0) e es)
    ∙ (sum_below-add m p (λ r. cond (is_into r z e) 1 0) (λ r. count_by (is_into r z) es)
    ∙ (ap (λ s. s + sum_below m p (λ r. count_by (is_into r z) es)) here
    ∙ (ap (λ s. cond (p e.reference && eqb e.to z) 1 0 + s) rest
    ∙ sym (sum_by-cons (λ f. cond (p f.reference && eqb f.to z) 1 0) e es))))

-- as many edges contain a node as there are pairs of a reference and a node that do
pub count_by-contains_node : (p : Problem) (g : Graph) (z : ℕ) → Fits p g → count_by (contains_node p z) g.edges ≡ container_count p g z
count_by-contains_node p g z fits =
    sym (sum_below-edges (length p.references) (is_containing p) z g.edges (λ k d l. (fits.edges k d l).reference))
    ∙ sum_below-same (length p.references) (is_containing p) (is_containing p) (λ r. count_by (is_into r z) g.edges)
    (λ r. count_below (size_of g) (λ x. has_edge g r x z)) (λ k h. refl) (λ r h. count_by-sources p g r z fits)

-- what stands where a list has no edge
abbrev pub no_edge : Edge
no_edge = record { reference = 0; from = 0; to = 0 }

module _ (p : Problem) (g : Graph) where
  -- one more edge that contains a node
  pub counts-more : (n : ℕ) (counts : List ℕ) (es : List Edge) (i : ℕ) (d : Edge) (c : ℕ) → i < length es → length counts ≡ n → (get_or es i d).to < n
      → is_containing p (get_or es i d).reference ≡ true → c ≡ get_or counts (get_or es i d).to 0 + 1
      → ((z : ℕ) → z < n → get_or counts z 0 ≡ count_by (contains_node p z) (take i es))
      → (z : ℕ) → z < n → get_or (set counts (get_or es i d).to c) z 0 ≡ count_by (contains_node p z) (take (i + 1) es)
  counts-more n counts es i d c l same_len to contained more so_far z lz = elim (cases_eq z (get_or es i d).to) [
    | inl s ↦ (let here : contains_node p z (get_or es i d) ≡ true =
        and_from (is_containing p (get_or es i d).reference) (eqb (get_or es i d).to z) contained (eq-eqb (get_or es i d).to z (sym s)) in
        let now : get_or (set counts (get_or es i d).to c) z 0 ≡ c =
        subst (λ z. get_or (set counts (get_or es i d).to c) z 0 ≡ c) (sym s) (get_or-set_same counts (get_or es i d).to c 0 (omega arith)) in
        let was : get_or counts z 0 ≡ get_or counts (get_or es i d).to 0 = ap (λ z. get_or counts z 0) s in
        let step = count_by_more_yes (contains_node p z) es i d l here in
        let total = so_far z lz in omega arith)
    | inr ne ↦ (let here : contains_node p z (get_or es i d) ≡ false =
        and_right (is_containing p (get_or es i d).reference) (eqb (get_or es i d).to z) (ne_eqb (get_or es i d).to z (λ e. ne (sym e))) in
        get_or-set_other counts (get_or es i d).to z c 0 ne ∙ (so_far z lz ∙ sym (count_by_more_no (contains_node p z) es i d l here)))
  ]

  -- one more edge that contains none
  pub counts-same : (n : ℕ) (counts : List ℕ) (es : List Edge) (i : ℕ) (d : Edge) → i < length es → is_containing p (get_or es i d).reference ≡ false
      → ((z : ℕ) → z < n → get_or counts z 0 ≡ count_by (contains_node p z) (take i es))
      → (z : ℕ) → z < n → get_or counts z 0 ≡ count_by (contains_node p z) (take (i + 1) es)
  counts-same n counts es i d l plain so_far z lz = so_far z lz
      ∙ sym (count_by_more_no (contains_node p z) es i d l (and_left (is_containing p (get_or es i d).reference) (eqb (get_or es i d).to z) plain))

-- An element more that isn't present, and a fresh object.
use Rattle.std.proofs.Common.{◌≡◌, ℕ, suc, ◌<◌, Bool, true, false, ◌&&◌, ◌||◌, ◌==◌, List, [], ◌∷◌, length, refl, sym, ap, ap₂, ◌∙◌, subst, inl, inr, arith, true≢false}
use Rattle.std.proofs.lemmas.Bool.{and_left, cases_lt, eq-eqb, ne_eqb}
use Rattle.rf_finite.specs.Tuples.{IsTuple}
use Rattle.rf_finite.specs.Walks.{walk_below}
use Rattle.rf_finite.proofs.Walks.{walk_below-same}
use Rattle.rf_values.specs.Truth.{may, must, truth_of}
use Rattle.rf_values.specs.declared.truth.Truth.{Truth}
use Rattle.rf_values.specs.declared.truth.Truth.TheVariants.{False}
use Rattle.rf_problem.specs.Follows.{AreRelated, Follows}
use Rattle.rf_problem.specs.Parts.{arity_of, predicate_at}
use Rattle.rf_problem.specs.Reading.{symbol_true}
use Rattle.rf_problem.specs.Valid.{has_steps}
use Rattle.rf_problem.specs.declared.symbol.Symbol.{Symbol}
use Rattle.rf_problem.specs.declared.symbol.Symbol.TheVariants.{Class, Reference, Predicate, Exists, Equals}
use Rattle.rf_problem.proofs.BelowLemmas.{same_tests}
use Rattle.rf_problem.proofs.Following.{predicates_carry_over}
use Rattle.rf_evaluate.specs.Known.{Known, side, value_of, walk_of}
use Rattle.rf_renewal.specs.Grown.{grown}
use Rattle.rf_renewal.specs.Laws.{GrownLeadsTheSame, GrownSaysTheSame}
use Rattle.rf_renewal.proofs.Clauses.{says_of}
use Rattle.rf_renewal.proofs.Elements.{Below}
use Rattle.rf_renewal.proofs.Staying.{steps_two, tuple_below, two_below}

-- nothing is found where the second of two ways is closed
without_last : (a b c : Bool) → b ≡ false → (a || (b && c)) ≡ a
without_last true b c e = refl
without_last false b c e = and_left b c e

module _ (k : Known) (o : ℕ) where
  abbrev more : Known
  more = grown k o

  -- an element and itself, where it was there
  abbrev Same : ℕ → ℕ → Type 0
  Same x y = (x ≡ y) × (x < k.size)

  abbrev Turned : ℕ → ℕ → Type 0
  Turned x y = Same y x

  pub presence-old : (x : ℕ) → x < k.size → more.presence x ≡ k.presence x
  presence-old x l = let e : (x == k.size) ≡ false = ne_eqb x k.size (λ q. absurd (omega (arith, l, q))) in rw e refl

  pub origin-old : (x : ℕ) → x < k.size → more.origin x ≡ k.origin x
  origin-old x l = let e : (x == k.size) ≡ false = ne_eqb x k.size (λ q. absurd (omega (arith, l, q))) in rw e refl

  presence-new : more.presence k.size ≡ False
  presence-new = let e : (k.size == k.size) ≡ true = eq-eqb k.size k.size refl in rw e refl

  module _ (column : Truth → Bool) (none : column False ≡ false) where
    to_more : Follows k.problem (side column k) (side column more) Same
    to_more = record {
      classes = λ c x y l r m. subst (λ z. column (k.class c z) ≡ true) r.0 m;
      edges = λ r x y u v l a b m. subst (λ z. column (k.edge r u z) ≡ true) b.0
          (subst (λ z. column (k.edge r z y) ≡ true) a.0 m);
      sames = λ x y u v a b m. subst (λ z. column (k.same u z) ≡ true) b.0
          (subst (λ z. column (k.same z y) ≡ true) a.0 m);
      differs = λ x y u v a b m. subst (λ z. column (k.different u z) ≡ true) b.0
          (subst (λ z. column (k.different z y) ≡ true) a.0 m);
      elements = λ x l m. (x, (refl, l), omega (arith, l), ap column (presence-old x l) ∙ m, origin-old x l);
    }

    from_more : Follows k.problem (side column more) (side column k) Turned
    from_more = record {
      classes = λ c x y l r m. subst (λ z. column (k.class c z) ≡ true) (sym r.0) m;
      edges = λ r x y u v l a b m. subst (λ z. column (k.edge r u z) ≡ true) (sym b.0)
          (subst (λ z. column (k.edge r z y) ≡ true) (sym a.0) m);
      sames = λ x y u v a b m. subst (λ z. column (k.same u z) ≡ true) (sym b.0)
          (subst (λ z. column (k.same z y) ≡ true) (sym a.0) m);
      differs = λ x y u v a b m. subst (λ z. column (k.different u z) ≡ true) (sym b.0)
          (subst (λ z. column (k.different z y) ≡ true) (sym a.0) m);
      elements = λ x l m. elim (cases_lt x k.size) [
        | inl lx ↦ (x, (refl, lx), lx, ap column (sym (presence-old x lx)) ∙ m, sym (origin-old x lx))
        | inr ge ↦ (let last : x ≡ k.size = omega (arith, l, ge) in
            absurd (true≢false (sym m ∙ (ap (λ z. column (more.presence z)) last ∙ (ap column presence-new ∙ none)))))
      ];
    }

  related : (arity : ℕ) (t : List ℕ) → length t ≡ arity → Below k.size t → AreRelated arity Same t t
  related arity t len below = record { left = len; right = len; each = λ i l. (refl, below i (omega (arith, l, len))) }

  turned : (arity : ℕ) (t : List ℕ) → length t ≡ arity → Below k.size t → AreRelated arity Turned t t
  turned arity t len below = record { left = len; right = len; each = λ i l. (refl, below i (omega (arith, l, len))) }

  module _ (column inner : Truth → Bool) (none : column False ≡ false) (inner_none : inner False ≡ false) where
    says-same : (q : ℕ) (t : List ℕ) → length t ≡ (predicate_at k.problem.predicates q).arity → Below k.size t
        → says_of k.problem (side column more) (side inner more) q t ≡ says_of k.problem (side column k)
        (side inner k) q t
    says-same q t len below =
        let n = length k.problem.predicates in
        let arity = (predicate_at k.problem.predicates q).arity in
        same_tests (says_of k.problem (side column more) (side inner more) q t)
        (says_of k.problem (side column k) (side inner k) q t)
        (λ h. predicates_carry_over k.problem Turned n (side column more) (side inner more) (side column k)
        (side inner k)
        (from_more column none) (to_more inner inner_none) q t t (turned arity t len below) h)
        (λ h. predicates_carry_over k.problem Same n (side column k) (side inner k) (side column more)
        (side inner more)
        (to_more column none) (from_more inner inner_none) q t t (related arity t len below) h)

    step-same : (symbol : Symbol) (t : List ℕ) → length t ≡ arity_of k.problem.predicates symbol → Below k.size t
        → symbol_true (says_of k.problem) (side column more) (side inner more) symbol t ≡ symbol_true
        (says_of k.problem) (side column k) (side inner k) symbol t
    step-same (Class c) t len below = refl
    step-same (Reference r) t len below = refl
    step-same (Predicate q) t len below = says-same q t len below
    step-same Exists t len below = refl
    step-same Equals t len below = refl

    walks-lead : (symbol : Symbol) → has_steps k.problem.predicates symbol ≡ true → (x y : ℕ) → x < k.size → y < k.size
        → walk_below (λ a b. symbol_true (says_of k.problem) (side column more) (side inner more) symbol
        (a ∷ b ∷ [])) (λ z. column (more.presence z)) (suc k.size) x y
        ≡ walk_below (λ a b. symbol_true (says_of k.problem) (side column k) (side inner k) symbol (a ∷ b ∷ []))
        (λ z. column (k.presence z)) k.size x y
    walks-lead symbol steps x y lx ly =
        let last : column (more.presence k.size) ≡ false = ap column presence-new ∙ none in
        let two = steps_two k.problem.predicates symbol steps in
        without_last _ (column (more.presence k.size)) _ last
        ∙ walk_below-same (λ a b. symbol_true (says_of k.problem) (side column more) (side inner more) symbol
        (a ∷ b ∷ []))
        (λ a b. symbol_true (says_of k.problem) (side column k) (side inner k) symbol (a ∷ b ∷ []))
        (λ z. column (more.presence z)) (λ z. column (k.presence z)) k.size
        (λ a b la lb. step-same symbol (a ∷ b ∷ []) (sym two) (two_below k.size a b la lb))
        (λ a la. ap column (presence-old a la)) k.size x y (omega arith) lx ly

  pub value-grown : (q : ℕ) (t : List ℕ) → IsTuple k.size (predicate_at k.problem.predicates q).arity t
      → value_of more (Predicate q) t ≡ value_of k (Predicate q) t
  value-grown q t tuple =
      let below = tuple_below k.size (predicate_at k.problem.predicates q).arity t tuple in
      ap₂ truth_of (says-same must may refl refl q t tuple.many below)
      (says-same may must refl refl q t tuple.many below)

  pub walk-grown : (symbol : Symbol) (x y : ℕ) → has_steps k.problem.predicates symbol ≡ true → x < k.size
      → y < k.size → walk_of more symbol x y ≡ walk_of k symbol x y
  walk-grown symbol x y steps lx ly = ap₂ truth_of (walks-lead must may refl refl symbol steps x y lx ly)
      (walks-lead may must refl refl symbol steps x y lx ly)

pub grown_says_the_same : GrownSaysTheSame
grown_says_the_same k o q t tuple = value-grown k o q t tuple

pub grown_leads_the_same : GrownLeadsTheSame
grown_leads_the_same k o symbol x y steps lx ly = walk-grown k o symbol x y steps lx ly

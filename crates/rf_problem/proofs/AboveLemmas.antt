-- Tables of the classes above each class.
use Rattle.std.proofs.Common.{◌≡◌, ◌∙◌, ℕ, ◌+◌, ◌≤◌, ◌<◌, Bool, true, false, ◌&&◌, ◌||◌, not, List, [], ◌∷◌, length, get_or, take, refl, sym, ap, subst, inl, inr, arith, true≢false}
use Rattle.std.specs.Prelude.{◌==◌}
use Rattle.std.specs.FinSet.{FinSet, contains, contains-empty, empty}
use Rattle.std.specs.List.{list_any}
use Rattle.std.specs.Ordering.{nat_cmp}
use Rattle.std.proofs.Math.ListN.{set, length-set}
use Rattle.std.proofs.Math.Seq.{take-length}
use Rattle.std.proofs.lemmas.Bool.{cases_eq, cases_lt, eq-eqb, eqb-true, or_cases, or_left, or_right}
use Rattle.std.proofs.lemmas.List.{get_or_past, get_or-set_same, get_or-set_other}
use Rattle.std.proofs.lemmas.List.Folds.{list_any_more}
use Rattle.rf_finite.specs.Walks.{IsWalk}
use Rattle.rf_finite.proofs.Walks.{IsWalk-length, IsWalk-without_repeats}
use Rattle.rf_problem.specs.Above.{AreAbove, AreSelves, row}
use Rattle.rf_problem.specs.Classes.{IsBelow, class_at, extends, is_below}
use Rattle.rf_problem.specs.Raised.{AreSound, AreWithin, HaveThrough}
use Rattle.rf_problem.specs.declared.class.Class.{Class}
use Rattle.rf_problem.proofs.Below.{IsBelow-from_is_below, is_below-from_IsBelow}
use Rattle.rf_problem.proofs.BelowLemmas.{IsBelow-from_extends, IsBelow-trans, any_extended, anywhere, extends-in_range, extends_some, none_new, same_tests}

-- a row past the end has no class
row-past : (rows : List (FinSet nat_cmp)) (c d : ℕ) → length rows ≤ c → contains (row rows c) d ≡ false
row-past rows c d past = ap (λ s. contains s d) (get_or_past rows c empty past) ∙ contains-empty nat_cmp d

-- one more row joined
pub joined-more :
    (rows : List (FinSet nat_cmp)) (own : FinSet nat_cmp) (ss : List ℕ) (i d : ℕ) (old now : FinSet nat_cmp) → i < length ss →
    contains old d ≡ (contains own d || list_any (λ t. contains (row rows t) d) (take i ss)) →
    contains now d ≡ (contains old d || contains (row rows (get_or ss i 0)) d) →
    contains now d ≡ (contains own d || list_any (λ t. contains (row rows t) d) (take (i + 1) ss))
joined-more rows own ss i d old now within before joined =
    joined ∙ ap (λ b. b || contains (row rows (get_or ss i 0)) d) before
    ∙ or-assoc (contains own d) (list_any (λ t. contains (row rows t) d) (take i ss)) (contains (row rows (get_or ss i 0)) d)
    ∙ ap (λ b. contains own d || b) (sym (list_any_more (λ t. contains (row rows t) d) ss i 0 within))
  where
    or-assoc : (a b c : Bool) → ((a || b) || c) ≡ (a || (b || c))
    or-assoc true b c = refl
    or-assoc false b c = refl

pub joined-all :
    (rows : List (FinSet nat_cmp)) (own now : FinSet nat_cmp) (ss supers : List ℕ) (i d : ℕ) → i ≡ length ss → ss ≡ supers →
    contains now d ≡ (contains own d || list_any (λ t. contains (row rows t) d) (take i ss)) →
    contains now d ≡ (contains own d || list_any (λ t. contains (row rows t) d) supers)
joined-all rows own now ss supers i d all same h =
    h ∙ ap (λ ts. contains own d || list_any (λ t. contains (row rows t) d) ts) (ap (λ k. take k ss) all ∙ take-length ss ∙ same)

-- the first rows each have their class alone
pub record AreOwn (rows : List (FinSet nat_cmp)) (n : ℕ) : Type 0 where
  pub same_length : length rows ≡ n
  pub alone : (c d : ℕ) → c < n → contains (row rows c) d ≡ (d == c)

module _ (classes : List Class) where
  -- what a round over the classes below i keeps
  pub record IsRaised (old now : List (FinSet nat_cmp)) (i : ℕ) (grew : Bool) : Type 0 where
    pub same_length : length now ≡ length classes
    pub kept : AreWithin old now
    pub through : HaveThrough classes i old now
    pub sound : AreSound classes old → AreSound classes now
    pub settled : grew ≡ false → AreWithin now old

  -- the row of class i, with those of the classes that it extends
  abbrev pub IsJoined : List (FinSet nat_cmp) → ℕ → FinSet nat_cmp → Type 0
  IsJoined rows i joined =
      (d : ℕ) → contains joined d ≡ (contains (row rows i) d || list_any (λ s. contains (row rows s) d) (class_at classes i).supers)

  joined-own : (rows : List (FinSet nat_cmp)) (i : ℕ) (joined : FinSet nat_cmp) → IsJoined rows i joined → (d : ℕ) →
      contains (row rows i) d ≡ true → contains joined d ≡ true
  joined-own rows i joined is d has = is d ∙ or_left (contains (row rows i) d) (list_any (λ s. contains (row rows s) d) (class_at classes i).supers) has

  joined-through : (old now : List (FinSet nat_cmp)) (i : ℕ) (joined : FinSet nat_cmp) → AreWithin old now → IsJoined now i joined → (s d : ℕ) →
      extends classes i s ≡ true → contains (row old s) d ≡ true → contains joined d ≡ true
  joined-through old now i joined kept is s d e has =
      is d ∙ or_right (contains (row now i) d) (list_any (λ t. contains (row now t) d) (class_at classes i).supers)
      (extends_some (λ t. contains (row now t) d) s (class_at classes i).supers e (kept s d has))

  joined-sound : (now : List (FinSet nat_cmp)) (i : ℕ) (joined : FinSet nat_cmp) → AreSound classes now → IsJoined now i joined → (d : ℕ) →
      contains joined d ≡ true → IsBelow classes i d
  joined-sound now i joined sound is d has =
      elim (or_cases (contains (row now i) d) (list_any (λ s. contains (row now s) d) (class_at classes i).supers) (sym (is d) ∙ has)) [
        | inl own ↦ sound i d own
        | inr some ↦ (let found = any_extended (λ s. contains (row now s) d) (class_at classes i).supers some in
            IsBelow-trans classes i found.0 d (IsBelow-from_extends classes i found.0 found.2) (sound found.0 d found.1))
      ]

  -- where the joined row has more, it takes the place of the row
  pub IsRaised-set :
      (old now next : List (FinSet nat_cmp)) (i j : ℕ) (grew : Bool) (joined : FinSet nat_cmp) → i < length classes → IsRaised old now i grew →
      IsJoined now i joined → next ≡ set now i joined → j ≡ i + 1 → IsRaised old next j true
  IsRaised-set old now next i j grew joined l is row_is put after =
      let there : i < length now = omega (arith, is.same_length) in
      let at : row next i ≡ joined = ap (λ rows. row rows i) put ∙ get_or-set_same now i joined empty there in
      let beside : (c : ℕ) → (c ≡ i → ⊥) → row next c ≡ row now c = λ c other. ap (λ rows. row rows c) put ∙ get_or-set_other now i c joined empty other in
      record {
        same_length = ap length put ∙ length-set now i joined ∙ is.same_length;
        kept = λ c d has. elim (cases_eq c i) [
          | inl same ↦ (let here : row next c ≡ joined = ap (row next) same ∙ at in
              ap (λ s. contains s d) here ∙ joined-own now i joined row_is d (subst (λ x. contains (row now x) d ≡ true) same (is.kept c d has)))
          | inr other ↦ ap (λ s. contains s d) (beside c other) ∙ is.kept c d has
        ];
        through = λ c s d less e has. elim (cases_eq c i) [
          | inl same ↦ (let here : row next c ≡ joined = ap (row next) same ∙ at in
              ap (λ t. contains t d) here ∙ joined-through old now i joined is.kept row_is s d (subst (λ x. extends classes x s ≡ true) same e) has)
          | inr other ↦ ap (λ t. contains t d) (beside c other) ∙ is.through c s d (omega arith) e has
        ];
        sound = λ sound c d has. elim (cases_eq c i) [
          | inl same ↦ (let here : row next c ≡ joined = ap (row next) same ∙ at in
              subst (λ x. IsBelow classes x d) (sym same)
              (joined-sound now i joined (is.sound sound) row_is d (ap (λ s. contains s d) (sym here) ∙ has)))
          | inr other ↦ is.sound sound c d (ap (λ s. contains s d) (sym (beside c other)) ∙ has)
        ];
        settled = λ f. absurd (true≢false f);
      }

  -- where it has no more, the rows stay
  pub IsRaised-skip :
      (old now next : List (FinSet nat_cmp)) (i j : ℕ) (grew still : Bool) (joined more : FinSet nat_cmp) → IsRaised old now i grew → IsJoined now i joined →
      ((d : ℕ) → contains more d ≡ (contains joined d && not (contains (row now i) d))) → ((d : ℕ) → contains more d ≡ false) → next ≡ now → still ≡ grew →
      j ≡ i + 1 → IsRaised old next j still
  IsRaised-skip old now next i j grew still joined more is row_is difference none put same_grew after =
      subst (λ rows. IsRaised old rows j still) (sym put) record {
        same_length = is.same_length;
        kept = is.kept;
        through = λ c s d less e has. elim (cases_eq c i) [
          | inl same ↦ subst (λ x. contains (row now x) d ≡ true) (sym same)
              (none_new (contains joined d) (contains (row now i) d) (sym (difference d) ∙ none d)
              (joined-through old now i joined is.kept row_is s d (subst (λ x. extends classes x s ≡ true) same e) has))
          | inr other ↦ is.through c s d (omega arith) e has
        ];
        sound = is.sound;
        settled = λ f. is.settled (sym same_grew ∙ f);
      }

  -- the rows have all that fewer than so many inner places lead to
  pub record AreNear (rows : List (FinSet nat_cmp)) (k : ℕ) : Type 0 where
    pub same_length : length rows ≡ length classes
    pub own : (c : ℕ) → c < length classes → contains (row rows c) c ≡ true
    pub sound : AreSound classes rows
    pub near : (c : ℕ) (cs : List ℕ) (d : ℕ) → d < length classes → IsWalk (extends classes) anywhere (length classes) c cs d → length cs < k →
        contains (row rows c) d ≡ true

  pub AreNear-selves : (rows : List (FinSet nat_cmp)) → AreSelves classes rows → AreNear rows 0
  AreNear-selves rows are = record {
    same_length = are.same_length;
    own = λ c l. are.alone c c l ∙ eq-eqb c c refl;
    sound = λ c d has. elim (cases_lt c (length classes)) [
      | inl l ↦ inl (sym (eqb-true d c (sym (are.alone c d l) ∙ has)))
      | inr past ↦ absurd (true≢false (sym has ∙ row-past rows c d (omega (arith, are.same_length))))
    ];
    near = λ c cs d l w less. absurd (omega arith);
  }

  pub AreNear-more :
      (old now : List (FinSet nat_cmp)) (k j : ℕ) → AreNear old k → length now ≡ length classes → AreWithin old now →
      HaveThrough classes (length classes) old now → (AreSound classes old → AreSound classes now) → j ≡ k + 1 → AreNear now j
  AreNear-more old now k j are same kept through sound after = record {
    same_length = same;
    own = λ c l. kept c c (are.own c l);
    sound = sound are.sound;
    near = near;
  }
    where
      near : (c : ℕ) (cs : List ℕ) (d : ℕ) → d < length classes → IsWalk (extends classes) anywhere (length classes) c cs d → length cs < j →
          contains (row now c) d ≡ true
      near c [] d l w less = through c d d (extends-in_range classes c d w) w (are.own d l)
      near c (x ∷ xs) d l w less = through c x d (extends-in_range classes c x w.0) w.0 (are.near x xs d l w.3 (omega arith))

  -- rows that no round makes more of have all
  closed-reach :
      (rows : List (FinSet nat_cmp)) → ((c s d : ℕ) → extends classes c s ≡ true → contains (row rows s) d ≡ true → contains (row rows c) d ≡ true) →
      (c : ℕ) (cs : List ℕ) (d : ℕ) → IsWalk (extends classes) anywhere (length classes) c cs d → contains (row rows d) d ≡ true →
      contains (row rows c) d ≡ true
  closed-reach rows closed c [] d w own = closed c d d w own
  closed-reach rows closed c (x ∷ xs) d w own = closed c x d w.0 (closed-reach rows closed x xs d w.3 own)

  AreAbove-from :
      (rows : List (FinSet nat_cmp)) (k : ℕ) → AreNear rows k →
      ((c : ℕ) (cs : List ℕ) (d : ℕ) → d < length classes → IsWalk (extends classes) anywhere (length classes) c cs d → contains (row rows c) d ≡ true) →
      AreAbove classes rows
  AreAbove-from rows k are reach = record {
    same_length = are.same_length;
    each = λ c d lc ld. same_tests (contains (row rows c) d) (is_below classes c d)
        (λ has. is_below-from_IsBelow classes c d (are.sound c d has))
        (λ h. elim (IsBelow-from_is_below classes c d h) [
          | inl e ↦ subst (λ x. contains (row rows c) x ≡ true) e (are.own c lc)
          | inr w ↦ reach c w.0 d ld w.1
        ]);
  }

  pub AreAbove-settled :
      (old now : List (FinSet nat_cmp)) (k : ℕ) → AreNear old k → length now ≡ length classes → AreWithin old now →
      HaveThrough classes (length classes) old now → (AreSound classes old → AreSound classes now) → AreWithin now old → AreAbove classes now
  AreAbove-settled old now k are same kept through sound settled =
      let are_now = AreNear-more old now k (k + 1) are same kept through sound refl in
      AreAbove-from now (k + 1) are_now (λ c cs d l w.
      closed-reach now (λ c s d e has. through c s d (extends-in_range classes c s e) e (settled s d has)) c cs d w (are_now.own d l))

  pub AreAbove-past : (rows : List (FinSet nat_cmp)) (k : ℕ) → length classes < k → AreNear rows k → AreAbove classes rows
  AreAbove-past rows k past are = AreAbove-from rows k are (λ c cs d l w.
      let short = IsWalk-without_repeats (extends classes) anywhere (length classes) c cs d w in
      let few = IsWalk-length (extends classes) anywhere (length classes) c short.0 d short.1 short.2 in
      are.near c short.0 d l short.1 (omega arith))

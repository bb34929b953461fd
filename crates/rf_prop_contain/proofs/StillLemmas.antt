-- A rule of containment that fires after a change fired before it, where the change doesn't concern it.
use Rattle.std.proofs.Common.{◌≡◌, ℕ, ◌<◌, Bool, true, false, ◌==◌, ◌&&◌, ◌||◌, not, nat_le, nat_lt, length, refl, sym, ap, ap₂, ◌∙◌, subst, arith}
use Rattle.std.specs.FinSet.{contains, difference}
use Rattle.std.proofs.lemmas.Bool.{and_from, and_parts, lt-ltb, ltb-true}
use Rattle.rf_finite.specs.Ends.{within}
use Rattle.rf_finite.specs.Range.{all_below, some_below}
use Rattle.rf_finite.specs.Walks.{walk_below}
use Rattle.rf_finite.proofs.Range.{all_below-same, some_below-same}
use Rattle.rf_values.specs.ClassSet.{is_same_set}
use Rattle.rf_values.specs.Count.{is_single}
use Rattle.rf_values.specs.declared.truth.Truth.TheVariants.{False, True}
use Rattle.rf_problem.specs.Contained.{is_contained_class, is_containing}
use Rattle.rf_problem.specs.declared.problem.Problem.{Problem}
use Rattle.rf_state.specs.State.{State, fact, object_of}
use Rattle.rf_state.specs.declared.object.Object.{Object}
use Rattle.rf_rules.specs.Containers.{is_held, is_other}
use Rattle.rf_rules.specs.Containment.{acyclic, alone, contain_count, has_possible, is_contained, is_only_possible, is_possible, leads, must_contain, must_hold, no_container, one_container}
use Rattle.rf_rules.specs.Effects.{has_effect, is_ready}
use Rattle.rf_rules.specs.Rules.{fires, is_edge, is_object}
use Rattle.rf_rules.specs.Words.{classes_where, hi, is_one, is_unknown, lo, may, must}
use Rattle.rf_rules.specs.declared.effect.Effect.TheVariants.{Merge}
use Rattle.rf_rules.specs.declared.rule.Rule.TheVariants.{Acyclic, Alone, ContainCount, MustContain, NoContainer, OneContainer}
use Rattle.rf_rules.proofs.ContainmentLemmas.{one_container-ready}
use Rattle.rf_rules.proofs.MergeLemmas.{changes-where_may, changes-where_unknown}
use Rattle.rf_pending.specs.Changes.{FitsChange, IsChange, is_fresh}
use Rattle.rf_pending.specs.declared.change.Change.{Change}
use Rattle.rf_pending.proofs.LeastLemmas.{edge-there}
use Rattle.rf_pending.proofs.SameRows.{same_many}
use Rattle.rf_prop_contain.specs.Touching.{concerns, is_from, is_near_held, renews_walks}
use Rattle.rf_prop_contain.proofs.LeftLemmas.{IsHeldObject, held_object, held_row, less_hi, less_may, more_lo, own_count, walk_below-still, walk_edges, walk_through}

-- what fires for the only possible container
module _ (p : Problem) (s : State) (r a b : ℕ) where
  pub only_from_must_contain : fires p s (MustContain r a b) ≡ true → is_only_possible p s r a b ≡ true
  only_from_must_contain h =
      let ready = (and_parts (is_edge p s r a b) (is_ready s (must_contain p s r a b)) h).1 in
      let holds = (and_parts (must_contain p s r a b).holds (has_effect s (Merge r a b True)) ready).0 in
      let first = and_parts (is_containing p r) _ holds in
      let second = and_parts (is_contained p s b) _ first.1 in
      (and_parts (is_only_possible p s r a b) _ second.1).0

  pub only_from_contain_count : fires p s (ContainCount r a b) ≡ true → is_only_possible p s r a b ≡ true
  only_from_contain_count h =
      let ready = (and_parts (is_edge p s r a b) (is_ready s (contain_count p s r a b)) h).1 in
      let holds = (and_parts (contain_count p s r a b).holds (nat_lt (lo s a) 1) ready).0 in
      let first = and_parts (is_containing p r) _ holds in
      let second = and_parts (is_contained p s b) _ first.1 in
      (and_parts (is_only_possible p s r a b) _ second.1).0

module _ (p : Problem) (s t : State) (change : Change) (is : IsChange change s t) (fits : FitsChange p t change)
    (old : is_fresh change ≡ false) where
  many : length t.objects ≡ length s.objects
  many = same_many p s t change is old

  -- numbers that are there were
  edge-same : (r a b : ℕ) → is_edge p t r a b ≡ is_edge p s r a b
  edge-same r a b = ap (λ n. nat_lt r (length p.references) && (nat_lt a n && nat_lt b n)) many

  object-same : (b : ℕ) → is_object t b ≡ is_object s b
  object-same b = ap (λ n. nat_lt b n) many

  -- the rules of what has a container
  pub one_container-still : (r a : ℕ) → is_near_held p t change r a ≡ false → (b q c : ℕ) → fires p t (OneContainer r a b q c) ≡ true
      → fires p s (OneContainer r a b q c) ≡ true
  one_container-still r a far b q c h =
      let parts = and_parts (is_edge p t r a b && is_edge p t q c b) (is_ready t (one_container p t r a b q c)) h in
      let there = and_parts (is_edge p t r a b) (is_edge p t q c b) parts.0 in
      let ready = sym (one_container-ready p t r a b q c) ∙ parts.1 in
      let first = and_parts (is_containing p q) (is_held p t r a b && is_other p t r a b q c) ready in
      let held = and_parts (is_held p t r a b) (is_other p t r a b q c) first.1 in
      let other = and_parts (not (q == r && c == a)) (may p t q c b) held.1 in
      let row = held_row p s t change is fits old r a (and_parts (is_containing p r) _ held.0).0 far in
      let holds : is_held p s r a b ≡ true = sym (ap₂ (λ m l. is_containing p r && (m && nat_le 1 l)) (row.edges b) row.from) ∙ held.0 in
      and_from (is_edge p s r a b && is_edge p s q c b) (is_ready s (one_container p s r a b q c))
      (and_from (is_edge p s r a b) (is_edge p s q c b) (sym (edge-same r a b) ∙ there.0) (sym (edge-same q c b) ∙ there.1))
      (one_container-ready p s r a b q c
      ∙ and_from (is_containing p q) (is_held p s r a b && is_other p s r a b q c) first.0
      (and_from (is_held p s r a b) (is_other p s r a b q c) holds
      (and_from (not (q == r && c == a)) (may p s q c b) other.0 (less_may p s t change is fits old q c b other.1))))

  pub alone-still : (r a : ℕ) → is_near_held p t change r a ≡ false → (b : ℕ) → fires p t (Alone r a b) ≡ true
      → fires p s (Alone r a b) ≡ true
  alone-still r a far b h =
      let parts = and_parts (is_edge p t r a b) (is_ready t (alone p t r a b)) h in
      let ready = and_parts (is_containing p r && (must p t r a b && nat_le 1 (lo t b))) (within 2 (hi t a)) parts.1 in
      let first = and_parts (is_containing p r) (must p t r a b && nat_le 1 (lo t b)) ready.0 in
      let next = and_parts (must p t r a b) (nat_le 1 (lo t b)) first.1 in
      let row = held_row p s t change is fits old r a first.0 far in
      let held : must p s r a b ≡ true = sym (row.edges b) ∙ next.0 in
      and_from (is_edge p s r a b) (is_ready s (alone p s r a b)) (sym (edge-same r a b) ∙ parts.0)
      (and_from (is_containing p r && (must p s r a b && nat_le 1 (lo s b))) (within 2 (hi s a))
      (and_from (is_containing p r) (must p s r a b && nat_le 1 (lo s b)) first.0
      (and_from (must p s r a b) (nat_le 1 (lo s b)) held (sym (ap (λ n. nat_le 1 n) (row.to b held)) ∙ next.1)))
      (less_hi p s t change is fits old 2 a ready.1))

  -- the rules of what has to have one
  module _ (b : ℕ) (far : concerns p t change b ≡ false) where
    object : IsHeldObject p b s t
    object = held_object p s t change is fits old b far

    only-same : (r a : ℕ) → r < length p.references → is_only_possible p t r a b ≡ is_only_possible p s r a b
    only-same r a l = ap₂ (λ i j. i && j) (object.possible r a l)
        (all_below-same (length p.references) _ _ (λ q lq.
        ap (λ n. all_below n (λ c. not (is_possible p t b q c) || (q == r && c == a))) many
        ∙ all_below-same (length s.objects) (λ c. not (is_possible p t b q c) || (q == r && c == a))
        (λ c. not (is_possible p s b q c) || (q == r && c == a))
        (λ c lc. ap (λ i. not i || (q == r && c == a)) (object.possible q c lq))))

    has-same : has_possible p t b ≡ has_possible p s b
    has-same = some_below-same (length p.references) _ _ (λ q lq.
        ap (λ n. some_below n (is_possible p t b q)) many
        ∙ some_below-same (length s.objects) (is_possible p t b q) (is_possible p s b q) (λ c lc. object.possible q c lq))

    contained-same : is_contained p t b ≡ is_contained p s b
    contained-same = ap (λ z. all_below (length p.classes) (λ c. not (contains z.candidates c) || is_contained_class p c)) object.object

    pub must_contain-still : (r a : ℕ) → is_from change a ≡ false → fires p t (MustContain r a b) ≡ true
        → fires p s (MustContain r a b) ≡ true
    must_contain-still r a own h =
        let parts = and_parts (is_edge p t r a b) (is_ready t (must_contain p t r a b)) h in
        let l = (edge-there p t r a b true (and_from (is_edge p t r a b) true parts.0 refl)).0 in
        let holds = (and_parts (must_contain p t r a b).holds (has_effect t (Merge r a b True)) parts.1).0 in
        let first = and_parts (is_containing p r) _ holds in
        let second = and_parts (is_contained p t b) _ first.1 in
        let third = and_parts (is_only_possible p t r a b) _ second.1 in
        let fourth = and_parts (is_one t a) (is_unknown (fact p t r a b)) third.1 in
        let unknown : is_unknown (fact p s r a b) ≡ true = sym (ap is_unknown (object.facts r a first.0)) ∙ fourth.1 in
        let one : is_one s a ≡ true = sym (ap is_single (own_count p s t change is fits old a own)) ∙ fourth.0 in
        and_from (is_edge p s r a b) (is_ready s (must_contain p s r a b)) (sym (edge-same r a b) ∙ parts.0)
        (and_from (must_contain p s r a b).holds (has_effect s (Merge r a b True))
        (and_from (is_containing p r) _ first.0 (and_from (is_contained p s b) _ (sym contained-same ∙ second.0)
        (and_from (is_only_possible p s r a b) _ (sym (only-same r a l) ∙ third.0)
        (and_from (is_one s a) (is_unknown (fact p s r a b)) one unknown))))
        (changes-where_unknown p s r a b True unknown refl))

    pub contain_count-still : (r a : ℕ) → fires p t (ContainCount r a b) ≡ true → fires p s (ContainCount r a b) ≡ true
    contain_count-still r a h =
        let parts = and_parts (is_edge p t r a b) (is_ready t (contain_count p t r a b)) h in
        let l = (edge-there p t r a b true (and_from (is_edge p t r a b) true parts.0 refl)).0 in
        let ready = and_parts (contain_count p t r a b).holds (nat_lt (lo t a) 1) parts.1 in
        let first = and_parts (is_containing p r) _ ready.0 in
        let second = and_parts (is_contained p t b) _ first.1 in
        let third = and_parts (is_only_possible p t r a b) (nat_le 1 (lo t b)) second.1 in
        let less : lo t a < 1 = ltb-true (lo t a) 1 ready.1 in
        let more = more_lo p s t change is fits old a in
        and_from (is_edge p s r a b) (is_ready s (contain_count p s r a b)) (sym (edge-same r a b) ∙ parts.0)
        (and_from (contain_count p s r a b).holds (nat_lt (lo s a) 1)
        (and_from (is_containing p r) _ first.0 (and_from (is_contained p s b) _ (sym contained-same ∙ second.0)
        (and_from (is_only_possible p s r a b) (nat_le 1 (lo s b)) (sym (only-same r a l) ∙ third.0)
        (sym (ap (λ z. nat_le 1 z.count.lo) object.object) ∙ third.1))))
        (lt-ltb (lo s a) 1 (omega (arith, less, more))))

    pub no_container-still : fires p t (NoContainer b) ≡ true → fires p s (NoContainer b) ≡ true
    no_container-still h =
        let parts = and_parts (is_object t b) (is_ready t (no_container p t b)) h in
        let ready = and_parts (not (has_possible p t b)) (loses (object_of t b)) parts.1 in
        and_from (is_object s b) (is_ready s (no_container p s b)) (sym (object-same b) ∙ parts.0)
        (and_from (not (has_possible p s b)) (loses (object_of s b)) (sym (ap not has-same) ∙ ready.0)
        (sym (ap loses object.object) ∙ ready.1))
      where
        loses : Object → Bool
        loses x = not (is_same_set (difference x.candidates (classes_where p (is_contained_class p))) x.candidates)

  -- walks
  pub acyclic-still : renews_walks p t change ≡ false → (r a b : ℕ) → is_from change a ≡ false → fires p t (Acyclic r a b) ≡ true
      → fires p s (Acyclic r a b) ≡ true
  acyclic-still far r a b own h =
      let parts = and_parts (is_edge p t r a b) (is_ready t (acyclic p t r a b)) h in
      let at = edge-there p t r a b true (and_from (is_edge p t r a b) true parts.0 refl) in
      let holds = (and_parts (acyclic p t r a b).holds (has_effect t (Merge r a b False)) parts.1).0 in
      let first = and_parts (is_containing p r) _ holds in
      let second = and_parts (may p t r a b) ((a == b && is_one t a) || leads p t b a) first.1 in
      let can : may p s r a b ≡ true = less_may p s t change is fits old r a b second.0 in
      let one : is_one t a ≡ is_one s a = ap is_single (own_count p s t change is fits old a own) in
      let led : leads p t b a ≡ true → leads p s b a ≡ true = λ w.
      subst (λ (n : ℕ). walk_below (must_hold p s) (λ c. nat_le 1 (lo s c)) n b a ≡ true) many
      (walk_below-still (must_hold p t) (must_hold p s) (λ c. nat_le 1 (lo t c)) (λ c. nat_le 1 (lo s c)) (length t.objects)
      (λ x y m. walk_edges p s t change is fits old far x y m)
      (λ x y l n m. walk_through p s t change is fits old far x y l n m) b a at.1 w) in
      and_from (is_edge p s r a b) (is_ready s (acyclic p s r a b)) (sym (edge-same r a b) ∙ parts.0)
      (and_from (acyclic p s r a b).holds (has_effect s (Merge r a b False))
      (and_from (is_containing p r) _ first.0 (and_from (may p s r a b) _ can
      (either (a == b && is_one t a) (a == b && is_one s a) (leads p t b a) (leads p s b a) (ap (λ i. a == b && i) one) led second.1)))
      (changes-where_may p s r a b can))
    where
      either : (i j k l : Bool) → i ≡ j → (k ≡ true → l ≡ true) → (i || k) ≡ true → (j || l) ≡ true
      either true j k l e f h = subst (λ x. (x || l) ≡ true) e refl
      either false j k l e f h = subst (λ x. (x || l) ≡ true) e (f h)

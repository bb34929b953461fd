-- What a rule that fires does can be done to the state: what it speaks of is there, and its bounds are small.
use Rattle.std.proofs.Common.{◌≡◌, ◌<◌, ◌≤◌, ℕ, zero, suc, Bool, true, false, ◌&&◌, ◌==◌, not, nat_lt, Option, None, Some, List, [], ◌∷◌, length, slice_index_or, unwrap_or, refl, sym, arith, true≢false}
use Rattle.std.proofs.lemmas.Bool.{and_parts, eqb-true, ltb-true}
use Rattle.std.proofs.lemmas.Option.{same_Some, slice_get-get_or}
use Rattle.rf_finite.proofs.Range.{None-ne_Some}
use Rattle.rf_problem.proofs.Fitting.{FitsCall-from_literal_fits, each-from_literals_fit, literal_fits, may_stand-parts}
use Rattle.rf_problem.specs.Parts.{no_predicate, no_reference, no_scope, predicate_at}
use Rattle.rf_problem.specs.Valid.{IsSmall, fits_term, is_free}
use Rattle.rf_problem.specs.declared.predicate.Literal.{Literal}
use Rattle.rf_problem.specs.declared.predicate.Literal.TheVariants.{Call, Same}
use Rattle.rf_problem.specs.declared.predicate.Term.{Term}
use Rattle.rf_problem.specs.declared.predicate.Term.TheVariants.{Atom, Var}
use Rattle.rf_problem.specs.declared.problem.Problem.{Problem}
use Rattle.rf_problem.specs.declared.symbol.Symbol.TheVariants.{Reference}
use Rattle.rf_state.specs.State.{State}
use Rattle.rf_rules.specs.Applying.{IsApplicable}
use Rattle.rf_rules.specs.Effects.{is_ready, has_effect}
use Rattle.rf_rules.specs.Predicates.{are_there, clause_at, forced_effect, free_count, given, is_open, literal_at, may_be_forced, no_clause, object_of_term, others_hold}
use Rattle.rf_rules.specs.Rules.{are_objects, fires, fits, instance_of, is_edge, is_object, is_scoped}
use Rattle.rf_rules.specs.Scopes.{scope_hi, scope_lo}
use Rattle.rf_rules.specs.Words.{max, min}
use Rattle.rf_rules.specs.declared.rule.End.TheVariants.{Source, Target}
use Rattle.rf_rules.specs.declared.rule.Rule.{Rule}
use Rattle.rf_rules.specs.declared.rule.Rule.TheVariants.{Acyclic, Alone, Broken, Clash, ContainCount, Empty, Forced, Full, MustContain, Need, NeedCount, NoClass, NoContainer, OneContainer, Room, ScopeBottom, ScopeIn, ScopeOut, ScopeTop, Src, Tgt, TypeLow, Under}

-- bounds that are at most those of a small range
most_small : (low : ℕ) (end : Option ℕ) (n : ℕ) → IsSmall (record { lo = low; hi = end }) → n ≤ unwrap_or end 0 → IsSmall (record { lo = 0; hi = Some n })
most_small low None n small l = record { lower = omega arith; upper = λ m e. (let same : n ≡ m = same_Some n m e in omega (arith, l)) }
most_small low (Some k) n small l = record {
  lower = omega arith;
  upper = λ m e. (let same : n ≡ m = same_Some n m e in let most = small.upper k refl in omega (arith, l, most));
}

least_small : (low : ℕ) (end : Option ℕ) (n : ℕ) → IsSmall (record { lo = low; hi = end }) → n ≤ low → IsSmall (record { lo = n; hi = None })
least_small low end n small l = record { lower = (let most = small.lower in omega (arith, l, most)); upper = λ m e. absurd (None-ne_Some e) }

unbounded_small : IsSmall (record { lo = 0; hi = None })
unbounded_small = record { lower = omega arith; upper = λ m e. absurd (None-ne_Some e) }

most_one_small : IsSmall (record { lo = 0; hi = Some 1 })
most_one_small = record { lower = omega arith; upper = λ m e. (let same : 1 ≡ m = same_Some 1 m e in omega arith) }

least_one_small : IsSmall (record { lo = 1; hi = None })
least_one_small = record { lower = omega arith; upper = λ m e. absurd (None-ne_Some e) }

none_small : IsSmall (record { lo = 0; hi = Some 0 })
none_small = most_small 0 None 0 unbounded_small (omega arith)

-- objects that are there
module _ (p : Problem) (s : State) where
  edge_there : (r a b : ℕ) → is_edge p s r a b ≡ true → (r < length p.references) × (a < length s.objects) × (b < length s.objects)
  edge_there r a b h =
      let one = and_parts (nat_lt r (length p.references)) (is_object s a && is_object s b) h in
      let two = and_parts (is_object s a) (is_object s b) one.1 in
      (ltb-true r (length p.references) one.0, ltb-true a (length s.objects) two.0, ltb-true b (length s.objects) two.1)

  -- the object that is given for a variable that ranges over the clause
  given_there : (entries : List (Option ℕ)) (t : List ℕ) (v : ℕ) → length t ≡ free_count entries → are_objects s t ≡ true
      → v < length entries → is_free (slice_index_or entries v None) ≡ true → given entries t v < length s.objects
  given_there [] t v many there l free = absurd (omega arith)
  given_there (Some i ∷ entries) t zero many there l free = absurd (true≢false (sym free))
  given_there (Some i ∷ entries) t (suc v) many there l free = given_there entries t v many there (omega arith) free
  given_there (None ∷ entries) [] v many there l free = absurd (omega arith)
  given_there (None ∷ entries) (o ∷ t) zero many there l free = ltb-true o (length s.objects) (and_parts (is_object s o) (are_objects s t) there).0
  given_there (None ∷ entries) (o ∷ t) (suc v) many there l free =
      given_there entries t v (omega arith) (and_parts (is_object s o) (are_objects s t) there).1 (omega arith) free

  module _ (variables : List (Option ℕ)) (t : List ℕ) (many : length t ≡ free_count variables) (there : are_objects s t ≡ true) where
    term_there : (i : ℕ) (negated : Bool) (term : Term) → fits_term p.objects variables i negated term ≡ true → may_be_forced s variables negated term ≡ true
        → object_of_term (given variables t) term < length s.objects
    term_there i negated (Var v) stands free = given_there variables t v many there (may_stand-parts variables i v negated stands).0 free
    term_there i negated (Atom o) stands free = ltb-true o (length s.objects) (and_parts (not negated) (nat_lt o (length s.objects)) free).1

    -- the edge of an open literal
    open_there : (i : ℕ) (literal : Literal) → literal_fits p variables i literal ≡ true → is_open p s variables (given variables t) literal ≡ true
        → IsApplicable p s (forced_effect (given variables t) literal)
    open_there i (Call negated false (Reference r) (x ∷ y ∷ [])) fit open_edge =
        let call = FitsCall-from_literal_fits p variables i negated false (Reference r) (x ∷ y ∷ []) fit in
        let stand = and_parts (fits_term p.objects variables i negated x) (fits_term p.objects variables i negated y && true) call.stand in
        let last = and_parts (fits_term p.objects variables i negated y) true stand.1 in
        let may = (and_parts (may_be_forced s variables negated x && may_be_forced s variables negated y) _ open_edge).0 in
        let both = and_parts (may_be_forced s variables negated x) (may_be_forced s variables negated y) may in (
          ltb-true r (length p.references) call.declared,
          term_there i negated x stand.0 both.0,
          term_there i negated y last.0 both.1,
        )
    open_there i _ fit open_edge = absurd (true≢false (sym open_edge))

  literal_there : (q k j : ℕ) (t : List ℕ) → fits p s (Forced q k j t) ≡ true → (instance_of p s (Forced q k j t)).holds ≡ true
      → IsApplicable p s (instance_of p s (Forced q k j t)).effect
  literal_there q k j t numbers holds =
      let c = clause_at p q k in
      let clauses = (predicate_at p.predicates q).clauses in
      let one = and_parts _ (are_objects s t) numbers in
      let two = and_parts (nat_lt q (length p.predicates)) _ one.0 in
      let three = and_parts (nat_lt k (length clauses)) _ two.1 in
      let four = and_parts (nat_lt j (length c.literals)) (length t == free_count c.variables) three.1 in
      let clause_fits = p.predicates_fit.clauses q no_predicate (ltb-true q (length p.predicates) two.0) k no_clause (ltb-true k (length clauses) three.0) in
      let there = slice_get-get_or c.literals j (Same (Var 0) (Var 0)) (ltb-true j (length c.literals) four.0) in
      let fit = each-from_literals_fit p c.variables c.literals clause_fits.literals j (literal_at c j) there in
      let asked = (and_parts _ (are_there s t && (others_hold p s c.variables j 0 (given c.variables t) c.literals && is_open p s c.variables (given c.variables t) (literal_at c j))) holds).1 in
      let others = (and_parts (are_there s t) (others_hold p s c.variables j 0 (given c.variables t) c.literals && is_open p s c.variables (given c.variables t) (literal_at c j)) asked).1 in
      let open_edge = (and_parts (others_hold p s c.variables j 0 (given c.variables t) c.literals) (is_open p s c.variables (given c.variables t) (literal_at c j)) others).1 in
      open_there c.variables t (eqb-true (length t) (free_count c.variables) four.1) one.1 j (literal_at c j) fit open_edge

  range_small : (r : ℕ) → r < length p.references → IsSmall (record { lo = min p r; hi = max p r })
  range_small r l = p.references_fit.ranges r no_reference l

  scoped_there : (z o : ℕ) → is_scoped p s z o ≡ true → (z < length p.scopes) × (o < length s.objects)
  scoped_there z o h =
      let parts = and_parts (nat_lt z (length p.scopes)) (is_object s o) h in
      (ltb-true z (length p.scopes) parts.0, ltb-true o (length s.objects) parts.1)

  scope_small : (z : ℕ) → z < length p.scopes → IsSmall (record { lo = scope_lo p z; hi = scope_hi p z })
  scope_small z l = p.scopes_fit.ranges z no_scope l

  applicable : (rule : Rule) → fits p s rule ≡ true → (instance_of p s rule).holds ≡ true → IsApplicable p s (instance_of p s rule).effect
  applicable (Empty o) h holds = tt
  applicable (NoClass o) h holds = (ltb-true o (length s.objects) h, none_small)
  applicable (Src r a b) h holds = (edge_there r a b h).1
  applicable (Tgt r a b) h holds = (edge_there r a b h).2
  applicable (Clash r a b Target) h holds = ((edge_there r a b h).2, none_small)
  applicable (Clash r a b Source) h holds = ((edge_there r a b h).1, none_small)
  applicable (Full r a b) h holds = edge_there r a b h
  applicable (Room r a b) h holds = (let edge = edge_there r a b h in (edge.2, most_small (min p r) (max p r) _ (range_small r edge.0) (omega arith)))
  applicable (Need r a b) h holds = edge_there r a b h
  applicable (NeedCount r a b) h holds = (let edge = edge_there r a b h in (edge.2, least_small (min p r) (max p r) _ (range_small r edge.0) (omega arith)))
  applicable (TypeLow r a) h holds = ltb-true a (length s.objects) (and_parts (nat_lt r (length p.references)) (is_object s a) h).1
  applicable (OneContainer r a b q c) h holds = edge_there q c b (and_parts (is_edge p s r a b) (is_edge p s q c b) h).1
  applicable (Alone r a b) h holds = ((edge_there r a b h).1, most_one_small)
  applicable (MustContain r a b) h holds = edge_there r a b h
  applicable (ContainCount r a b) h holds = ((edge_there r a b h).1, least_one_small)
  applicable (NoContainer b) h holds = ltb-true b (length s.objects) h
  applicable (Acyclic r a b) h holds = edge_there r a b h
  applicable (Under z) h holds = tt
  applicable (ScopeTop z o) h holds = (let at = scoped_there z o h in (at.1, most_small (scope_lo p z) (scope_hi p z) _ (scope_small z at.0) (omega arith)))
  applicable (ScopeBottom z o) h holds = (let at = scoped_there z o h in (at.1, least_small (scope_lo p z) (scope_hi p z) _ (scope_small z at.0) (omega arith)))
  applicable (ScopeOut z o) h holds = (scoped_there z o h).1
  applicable (ScopeIn z o) h holds = (scoped_there z o h).1
  applicable (Broken q t) h holds = tt
  applicable (Forced q k j t) h holds = literal_there q k j t h holds

  pub effect_is_applicable : (rule : Rule) → fires p s rule ≡ true → IsApplicable p s (instance_of p s rule).effect
  effect_is_applicable rule h =
      let instance = instance_of p s rule in
      let one = and_parts (fits p s rule) (is_ready s instance) h in
      applicable rule one.0 (and_parts instance.holds (has_effect s instance.effect) one.1).0

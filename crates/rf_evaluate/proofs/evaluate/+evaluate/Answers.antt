use Rattle.std.proofs.Common.{rules, arith, ◌≡◌, ◌<◌, ◌≤◌, ◌∷◌, ◌+◌, ◌-◌, ◌∙◌, ℕ, true, Some, [], drop, length, refl, sym, ap, ap₂, subst, suc, add-one, Bool, List, All}
use Rattle.std.specs.Prelude.{slice_get, slice_index}
use Rattle.std.proofs.lemmas.Option.{slice_get-get_or}
use Rattle.std.proofs.lemmas.Result.{IfOk-weaker}
use Rattle.rf_values.specs.Truth.{conjunction, disjunction, negation}
use Rattle.rf_values.specs.declared.truth.Truth.{Truth}
use Rattle.rf_values.specs.declared.truth.Truth.TheVariants.{True, False}
use Rattle.rf_problem.specs.Reading.{atoms_among}
use Rattle.rf_problem.specs.declared.predicate.Clause.{Clause as ClauseOf}
use Rattle.rf_problem.specs.declared.predicate.Literal.{Literal as LiteralOf}
use Rattle.rf_evaluate.specs.Elements.{count, element_at}
use Rattle.rf_problem.specs.Parts.{predicate_at}
use Rattle.rf_problem.specs.declared.predicate.Literal.TheVariants.{Call, Same as SameTerms, Differ as DifferentTerms}
use Rattle.rf_problem.specs.declared.predicate.Predicate.{Predicate as PredicateOf}
use Rattle.rf_problem.specs.declared.problem.Problem.{Problem as ProblemOf}
use Rattle.rf_evaluate.specs.declared.stage.Body.{Body}
use Rattle.rf_evaluate.specs.Evaluating.{IsSoundBody, IsSoundClause, claim_value, completed_value, completed_with, literal_value, some_clause_value, without_literal}
use Rattle.rf_evaluate.proofs.Candidates.{element_at-below}
use Rattle.rf_evaluate.proofs.EvaluationTruths.{some_truth-next}
use Rattle.rf_evaluate.specs.Kept.{AreKept}
use Rattle.rf_evaluate.specs.declared.claim.Claim.TheVariants.{Holds}
use Rattle.rf_problem.specs.declared.predicate.Term.{Term}
use Rattle.rf_evaluate.specs.Terms.{AreElements}
use Rattle.rf_evaluate.specs.declared.closures.Closures.{Closures}
use Rattle.rf_evaluate.specs.declared.stage.Stage.{Stage}
use Rattle.rf_evaluate.proofs.Completing.{completed-done, literal-negated}
use Rattle.rf_evaluate.proofs.EvaluationMeasure.{steps_left, steps_left-few, steps_left-inside, steps_left-with, steps_left-without}
use Rattle.rf_evaluate.proofs.EvaluationRows.{IsRowBegun-next, IsRowOf-ended}
use Rattle.rf_evaluate.proofs.EvaluationStages.{AreElements-set, IsClausesLeft-body, IsSoundBody-of_clause, completed-ended, completed-found, completed-literal, none_marked, same_listed}
use Rattle.rf_evaluate.proofs.EvaluationSymbols.{AreElements-pair, IsClausesLeft-found, IsSoundClause-from_problem, value_of-clauses, value_of-same, walk_of-empty}
use Rattle.rf_evaluate.proofs.EvaluationTerms.{AreElements-variables, IsFoundWith, IsFoundWith-absent, IsFoundWith-next, IsSoundCall-from_body, IsValueFor-ended, IsValueFor-ended_elements, IsValueFor-found, claim_value-from_start, literal_value-call, literal_value-different, literal_value-inner, literal_value-same}
use Rattle.rf_evaluate.proofs.evaluate.+evaluate.Goals.{claim_for_atom-then-ne+in_ok-value+else-eq, claim_for_atom-else-ne, literal_value-else-negated-via-then-negated+else-not-body, literal_value-else-negated-via-else-negated, walk_value-then-not-has+in_ok-steps+in_ok-put, walk_value-else-not-has}
use Rattle.rf_evaluate.proofs.evaluate.+evaluate.Goals as goal

pub claim_for_atom-returns-then-eq-clause-value : goal.claim_for_atom-returns-then-eq-clause-value
claim_for_atom-returns-then-eq-clause-value g t c =
    let k = g.K.Knowledge.known c.args.known.now in
    let found : c.or-found.result ≡ True = search rules in
    let is : c.or-found.result ≡ disjunction c.loop-number.found (conjunction c.presence_from-presence.result c.in_ok-value.value) = c.or-found.ensures ∙ ap (disjunction c.loop-number.found) c.and.ensures in
    let more = IsFoundWith-next k c.args.claim c.args.terms.now c.args.places c.args.atom (atoms_among (drop (suc c.args.n) c.args.terms.now)) c.from_object-elements.result
    c.loop-number.number c.loop-number.found c.presence_from-presence.result c.in_ok-value.value c.at-x.result c.with_atom-more.result c.at-x.ensures c.presence_from-presence.ensures
    c.with_atom-more.ensures (rw add-one at c.in_ok-value.ensures.value) c.loop-number.invariant.found in
    let few : c.loop-number.number + 1 ≤ count c.from_object-elements.result = omega (arith, c.count-number-end.ensures) in
    IsValueFor-found k c.args.claim c.args.terms.now c.args.places c.args.atom (atoms_among (drop (suc c.args.n) c.args.terms.now)) c.from_object-elements.result
    c.from_object-elements.ensures.below c.from_object-elements.ensures.complete (c.loop-number.number + 1) c.or-found.result few found (rw (← is) at more)

pub claim_for_atom-loop-number-preserved : goal.claim_for_atom-loop-number-preserved
claim_for_atom-loop-number-preserved g t c =
    let k = g.K.Knowledge.known c.args.known.now in
    let atoms = atoms_among (drop (suc c.args.n) c.args.terms.now) in
    elim c.if-ne.branch [
      | claim_for_atom-then-ne+in_ok-value+else-eq w ↦
          (let is : c.if-ne.found ≡ disjunction c.loop-number.found (conjunction c.presence_from-presence.result w.in_ok-value.value) = w.found-is ∙ (w.or-found.ensures ∙ ap (disjunction c.loop-number.found) w.and.ensures) in
          let more = IsFoundWith-next k c.args.claim c.args.terms.now c.args.places c.args.atom atoms c.from_object-elements.result
          c.loop-number.number c.loop-number.found c.presence_from-presence.result w.in_ok-value.value c.at-x.result w.with_atom-more.result c.at-x.ensures c.presence_from-presence.ensures
          w.with_atom-more.ensures (rw add-one at w.in_ok-value.ensures.value) c.loop-number.invariant.found in
          record {
            kept = subst (λ (x : Closures). AreKept k x) (sym w.closures-is) w.in_ok-value.ensures.kept;
            found = subst (λ (x : Truth). IsFoundWith k c.args.claim c.args.terms.now c.args.places c.args.atom atoms c.from_object-elements.result (c.loop-number.number + 1) x) (sym is) more;
          })
      | claim_for_atom-else-ne w ↦
          (let no = w.if-ne.false in
          let test = c.ne.ensures in
          let absent : c.presence_from-presence.result ≡ False = search rules in
          let more = IsFoundWith-absent k c.args.claim c.args.terms.now c.args.places c.args.atom atoms c.from_object-elements.result
          c.loop-number.number c.loop-number.found c.presence_from-presence.result c.at-x.result c.at-x.ensures c.presence_from-presence.ensures absent c.loop-number.invariant.found in
          record {
            kept = subst (λ (x : Closures). AreKept k x) (sym w.closures-is) c.loop-number.invariant.kept;
            found = subst (λ (x : Truth). IsFoundWith k c.args.claim c.args.terms.now c.args.places c.args.atom atoms c.from_object-elements.result (c.loop-number.number + 1) x) (sym w.found-is) more;
          })
    ]

pub claim_for_atom-returns-clause-value : goal.claim_for_atom-returns-clause-value
claim_for_atom-returns-clause-value g t c =
    let k = g.K.Knowledge.known c.args.known.now in
    let all : count c.from_object-elements.result ≡ c.loop-number.number = omega (arith, c.count-number-end.ensures) in
    IsValueFor-ended_elements k c.args.claim c.args.terms.now c.args.places c.args.atom (atoms_among (drop (suc c.args.n) c.args.terms.now)) c.from_object-elements.result
    c.from_object-elements.ensures.below c.from_object-elements.ensures.complete c.loop-number.number c.loop-number.found all c.loop-number.invariant.found

pub claim_for_atoms-returns-then-n-terms-clause-value : goal.claim_for_atoms-returns-then-n-terms-clause-value
claim_for_atoms-returns-then-n-terms-clause-value g t c =
    let k = g.K.Knowledge.known c.args.known.now in
    let ended : length c.args.terms.now ≤ c.args.n = omega arith in
    IfOk-weaker c.claim_at.result _ _ (λ v. IsValueFor-ended k c.args.claim c.args.terms.now c.args.n c.args.places v ended) c.claim_at.ensures.value

pub claim_value-claim_for_atoms-requires : goal.claim_value-claim_for_atoms-requires
claim_value-claim_for_atoms-requires g t c κs within =
    let places = AreElements-variables c.elements_of_variables-places.result c.args.elements c.args.terms.now (g.K.Knowledge.known c.args.known.now).size c.elements_of_variables-places.ensures c.requires.elements in
    (search rules, (within, (c.requires.sound, (c.requires.depth, (c.requires.few_terms, (places, c.requires.kept))))))

pub claim_value-returns-clause-value : goal.claim_value-returns-clause-value
claim_value-returns-clause-value g t c =
    let k = g.K.Knowledge.known c.args.known.now in
    IfOk-weaker c.claim_for_atoms.result _ _ (λ v. claim_value-from_start k c.args.claim c.args.terms.now c.args.elements c.elements_of_variables-places.result v c.elements_of_variables-places.ensures)
    c.claim_for_atoms.ensures.value

pub completed-returns-then-eq-clause-value : goal.completed-returns-then-eq-clause-value
completed-returns-then-eq-clause-value g t c =
    let k = g.K.Knowledge.known c.args.known.now in
    let no : c.in_ok-value.value ≡ False = search rules in
    let whole = completed-literal k c.args.body.now c.args.stage c.in-Some.i c.in_ok-value.value c.in-Some.ensures.found c.in-Some.ensures.pending c.in-Some.ensures.ground c.in_ok-value.ensures.value in
    no ∙ sym (whole ∙ ap (λ (v : Truth). conjunction v (completed_value k c.args.body.now (without_literal c.args.stage c.in-Some.i))) no)

pub completed-completed-requires : goal.completed-completed-requires
completed-completed-requires g t c κs within =
    let k = g.K.Knowledge.known c.args.known.now in
    let body = c.args.body.now in
    let fewer = subst (λ (s : Stage). steps_left body.is_inner s.unassigned s.pending + 4 ≤ steps_left body.is_inner c.args.stage.unassigned c.args.stage.pending) (sym c.without.ensures)
    (steps_left-without body.is_inner c.args.stage.unassigned c.args.stage.pending c.in-Some.i (omega (arith, c.in-Some.ensures.found, c.requires.sound.few_literals)) c.in-Some.ensures.pending) in
    let elements = subst (λ (s : Stage). AreElements k.size s.elements) (sym c.without.ensures) c.requires.elements in
    (search rules, (within, (c.requires.sound, (elements, c.in_ok-value.ensures.kept))))

pub completed-returns-in-Some-clause-value : goal.completed-returns-in-Some-clause-value
completed-returns-in-Some-clause-value g t c =
    let k = g.K.Knowledge.known c.args.known.now in
    let whole = completed-literal k c.args.body.now c.args.stage c.in-Some.i c.in_ok-value.value c.in-Some.ensures.found c.in-Some.ensures.pending c.in-Some.ensures.ground c.in_ok-value.ensures.value in
    let rest : c.in_ok-completed.field-0 ≡ completed_value k c.args.body.now (without_literal c.args.stage c.in-Some.i) = c.in_ok-completed.ensures.value ∙ ap (completed_value k c.args.body.now) c.without.ensures in
    c.and.ensures ∙ (ap (conjunction c.in_ok-value.value) rest ∙ sym whole)

pub completed-some_element-requires : goal.completed-some_element-requires
completed-some_element-requires g t c κs within =
    let k = g.K.Knowledge.known c.args.known.now in
    let body = c.args.body.now in
    let candidates = c.in-Some-next_variable.ensures.candidates in
    let fewer = steps_left-with body.is_inner c.args.stage.unassigned c.args.stage.pending c.in-Some-next_variable.next.variable candidates.variable candidates.unassigned in
    (search rules, (within, (c.requires.sound, (c.requires.elements, (candidates, c.requires.kept)))))

pub completed-returns-in-None-clause-value : goal.completed-returns-in-None-clause-value
completed-returns-in-None-clause-value g t c =
    let k = g.K.Knowledge.known c.args.known.now in
    let few : length c.args.stage.unassigned ≡ 8 = search rules in
    let none = none_marked c.args.stage.unassigned (omega arith) (c.in-None.ensures.none refl) in
    sym (completed-done k c.args.body.now c.args.stage none (c.in_default.ensures.none refl))

pub literal_value-completed-requires : goal.literal_value-completed-requires
literal_value-completed-requires g t c κs within =
    let k = g.K.Knowledge.known c.args.known.now in
    let fewer = steps_left-inside c.inside-stage.result.unassigned c.inside-stage.result.pending in
    let sound = subst (λ (b : Body). IsSoundBody k b) (sym c.inner_of-inner.ensures) c.requires.sound in
    (search rules, (within, (sound, (subst (AreElements k.size) (sym c.inside-stage.ensures.elements) c.requires.elements, c.requires.kept))))

pub literal_value-returns-then-not-body-clause-value : goal.literal_value-returns-then-not-body-clause-value
literal_value-returns-then-not-body-clause-value g t c =
    let k = g.K.Knowledge.known c.args.known.now in
    let own : slice_get c.args.body.now.literals.now c.args.i ≡ Some (Call true c.in-Call.closure c.in-Call.symbol c.in-Call.args) =
    slice_get-get_or c.args.body.now.literals.now c.args.i c.index-body-i.result c.requires.literal ∙ ap Some (c.in-Call.is ∙ ap (λ (n : Bool). Call n c.in-Call.closure c.in-Call.symbol c.in-Call.args) c.if-negated.true) in
    let few : length c.inside-stage.result.unassigned ≡ 8 = search rules in
    let inner = c.inner_of-inner.result in
    λ l e.
    let negated = literal-negated k c.args.body.now inner c.inside-stage.result c.args.i c.in-Call.closure c.in-Call.symbol c.in-Call.args (slice_index c.args.elements)
    c.if-not-body.true (ap (λ (b : Body). b.is_inner) c.inner_of-inner.ensures) (ap (λ (b : Body). b.variables.now) c.inner_of-inner.ensures) (ap (λ (b : Body). b.literals.now) c.inner_of-inner.ensures)
    own (omega (arith, c.requires.sound.few_variables)) (ap slice_index c.inside-stage.ensures.elements) (rw (ap (λ (b : Body). b.variables.now) c.inner_of-inner.ensures) at c.inside-stage.ensures.unassigned) c.inside-stage.ensures.pending in
    c.negate.ensures ∙ (ap negation c.in_ok-completed-in-Call.ensures.value ∙ (sym negated
    ∙ ap (λ (m : LiteralOf). literal_value k c.args.body.now c.args.i m (slice_index c.args.elements)) (same_listed c.args.body.now.literals.now c.args.i _ l own e)))

pub literal_value-claim_value-requires : goal.literal_value-claim_value-requires
literal_value-claim_value-requires g t c κs within =
    let k = g.K.Knowledge.known c.args.known.now in
    let own : slice_get c.args.body.now.literals.now c.args.i ≡ Some (Call c.in-Call.negated c.in-Call.closure c.in-Call.symbol c.in-Call.args) =
    slice_get-get_or c.args.body.now.literals.now c.args.i c.index-body-i.result c.requires.literal ∙ ap Some c.in-Call.is in
    let sound = IsSoundCall-from_body k c.args.body.now c.args.i c.in-Call.negated c.in-Call.closure c.in-Call.symbol c.in-Call.args c.requires.sound own in
    (search rules, (within, (sound.declared, (sound.within, (omega (arith, sound.few, ap length c.as_slice.ensures), (c.requires.elements, c.requires.kept))))))

pub literal_value-returns-else-negated-clause-value : goal.literal_value-returns-else-negated-clause-value
literal_value-returns-else-negated-clause-value g t c =
    let k = g.K.Knowledge.known c.args.known.now in
    let assignment = slice_index c.args.elements in
    let own : slice_get c.args.body.now.literals.now c.args.i ≡ Some (Call c.in-Call.negated c.in-Call.closure c.in-Call.symbol c.in-Call.args) =
    slice_get-get_or c.args.body.now.literals.now c.args.i c.index-body-i.result c.requires.literal ∙ ap Some c.in-Call.is in
    let says : literal_value k c.args.body.now c.args.i (Call c.in-Call.negated c.in-Call.closure c.in-Call.symbol c.in-Call.args) assignment ≡ claim_value k (Holds c.in-Call.closure c.in-Call.symbol) c.in-Call.args assignment =
    elim c.else-negated.branch [
      | literal_value-else-negated-via-then-negated+else-not-body w ↦ literal_value-inner k c.args.body.now c.args.i c.in-Call.negated c.in-Call.closure c.in-Call.symbol c.in-Call.args assignment w.if-not-body.false
      | literal_value-else-negated-via-else-negated w ↦
          subst (λ (n : Bool). literal_value k c.args.body.now c.args.i (Call n c.in-Call.closure c.in-Call.symbol c.in-Call.args) assignment ≡ claim_value k (Holds c.in-Call.closure c.in-Call.symbol) c.in-Call.args assignment)
          (sym w.if-negated.false) (literal_value-call k c.args.body.now c.args.i c.in-Call.closure c.in-Call.symbol c.in-Call.args assignment)
    ] in
    IfOk-weaker c.claim_value.result _ _ (λ v h l e. h ∙ (ap (λ (terms : List Term). claim_value k (Holds c.in-Call.closure c.in-Call.symbol) terms assignment) c.as_slice.ensures ∙ (sym says
    ∙ ap (λ (m : LiteralOf). literal_value k c.args.body.now c.args.i m assignment) (same_listed c.args.body.now.literals.now c.args.i _ l own e)))) c.claim_value.ensures.value

pub literal_value-returns-in-Same-clause-value : goal.literal_value-returns-in-Same-clause-value
literal_value-returns-in-Same-clause-value g t c =
    let k = g.K.Knowledge.known c.args.known.now in
    let own : slice_get c.args.body.now.literals.now c.args.i ≡ Some (SameTerms c.in-Same.a c.in-Same.b) =
    slice_get-get_or c.args.body.now.literals.now c.args.i c.index-body-i.result c.requires.literal ∙ ap Some c.in-Same.is in
    IfOk-weaker c.claim_value-in-Same.result _ _ (λ v h l e. h ∙ (sym (literal_value-same k c.args.body.now c.args.i c.in-Same.a c.in-Same.b (slice_index c.args.elements))
    ∙ ap (λ (m : LiteralOf). literal_value k c.args.body.now c.args.i m (slice_index c.args.elements)) (same_listed c.args.body.now.literals.now c.args.i _ l own e)))
    c.claim_value-in-Same.ensures.value

pub literal_value-returns-in-Differ-clause-value : goal.literal_value-returns-in-Differ-clause-value
literal_value-returns-in-Differ-clause-value g t c =
    let k = g.K.Knowledge.known c.args.known.now in
    let own : slice_get c.args.body.now.literals.now c.args.i ≡ Some (DifferentTerms c.in-Differ.a c.in-Differ.b) =
    slice_get-get_or c.args.body.now.literals.now c.args.i c.index-body-i.result c.requires.literal ∙ ap Some c.in-Differ.is in
    IfOk-weaker c.claim_value-in-Differ.result _ _ (λ v h l e. h ∙ (sym (literal_value-different k c.args.body.now c.args.i c.in-Differ.a c.in-Differ.b (slice_index c.args.elements))
    ∙ ap (λ (m : LiteralOf). literal_value k c.args.body.now c.args.i m (slice_index c.args.elements)) (same_listed c.args.body.now.literals.now c.args.i _ l own e)))
    c.claim_value-in-Differ.ensures.value

pub predicate_value-some_clause-requires : goal.predicate_value-some_clause-requires
predicate_value-some_clause-requires g t c κs within =
    let k = g.K.Knowledge.known c.args.known.now in
    let sound = IsSoundClause-from_problem k c.args.depth c.args.q c.requires.declared c.requires.depth in
    let predicate : c.predicate-predicate.result.now ≡ predicate_at k.problem.predicates c.args.q = c.predicate-predicate.ensures ∙ ap (λ (p : ProblemOf). predicate_at p.predicates c.args.q) c.problem.ensures in
    let clauses : c.as_slice.result.now ≡ (predicate_at k.problem.predicates c.args.q).clauses = c.as_slice.ensures ∙ ap (λ (p : PredicateOf). p.clauses) predicate in
    (search rules, (within, (subst (All (IsSoundClause k (c.args.depth - 1))) (sym clauses) sound, (c.requires.elements, c.requires.kept))))

pub predicate_value-returns-clause-value : goal.predicate_value-returns-clause-value
predicate_value-returns-clause-value g t c =
    let k = g.K.Knowledge.known c.args.known.now in
    let predicate : c.predicate-predicate.result.now ≡ predicate_at k.problem.predicates c.args.q = c.predicate-predicate.ensures ∙ ap (λ (p : ProblemOf). predicate_at p.predicates c.args.q) c.problem.ensures in
    let clauses : c.as_slice.result.now ≡ (predicate_at k.problem.predicates c.args.q).clauses = c.as_slice.ensures ∙ ap (λ (p : PredicateOf). p.clauses) predicate in
    let whole = value_of-clauses k c.args.q c.args.elements in
    IfOk-weaker c.some_clause.result _ _ (λ v e. e ∙ (ap₂ (λ (a : ℕ) (cs : List ClauseOf). some_clause_value k a c.args.elements cs) (ap (λ (p : PredicateOf). p.arity) predicate) clauses ∙ sym whole))
    c.some_clause.ensures.value

pub row_of-symbol_value-requires : goal.row_of-symbol_value-requires
row_of-symbol_value-requires g t c κs within =
    let k = g.K.Knowledge.known c.args.known.now in
    let y : c.at-y.result < k.size = (let l = element_at-below k.size c.step_ends-ends.result c.loop-number.number c.step_ends-ends.ensures.below (omega (arith, c.count-number-end.ensures)) in omega (arith, c.at-y.ensures)) in
    let cells = AreElements-pair c.of_tuple.result c.args.x c.at-y.result k.size c.of_tuple.ensures (omega (arith, c.requires.from)) (omega arith) in
    (search rules, (within, (c.requires.declared, (c.requires.depth, (cells, c.loop-number.invariant.kept)))))

pub row_of-loop-number-preserved : goal.row_of-loop-number-preserved
row_of-loop-number-preserved g t c =
    let k = g.K.Knowledge.known c.args.known.now in
    let value = c.in_ok-value.ensures.value ∙ value_of-same k c.args.symbol c.of_tuple.result (c.args.x ∷ c.at-y.result ∷ []) c.of_tuple.ensures in
    record {
      kept = c.in_ok-value.ensures.kept;
      row = IsRowBegun-next k c.args.symbol c.args.x c.step_ends-ends.result c.loop-number.number c.loop-number.row c.add.new.self c.at-y.result c.in_ok-value.value c.at-y.ensures value
          c.in_ok-add.ensures.must c.in_ok-add.ensures.may c.loop-number.invariant.row;
    }

pub row_of-returns-clause-value : goal.row_of-returns-clause-value
row_of-returns-clause-value g t c =
    let k = g.K.Knowledge.known c.args.known.now in
    let all : count c.step_ends-ends.result ≡ c.loop-number.number = omega (arith, c.count-number-end.ensures) in
    IsRowOf-ended k c.args.symbol c.args.x c.step_ends-ends.result c.loop-number.number c.loop-number.row all c.step_ends-ends.ensures.complete c.loop-number.invariant.row

pub some_clause-completed-requires : goal.some_clause-completed-requires
some_clause-completed-requires g t c κs within =
    let k = g.K.Knowledge.known c.args.known.now in
    let sound = IsSoundBody-of_clause k c.args.depth c.args.clauses.now c.loop-clause.clause-index c.clause-item.result c.body_of-body.result c.requires.sound c.loop-clause-test.true c.clause-item.is
    c.body_of-body.ensures.variables c.body_of-body.ensures.literals c.body_of-body.ensures.depth in
    let fewer = steps_left-few c.body_of-body.result.is_inner c.of_clause-stage.result.unassigned c.of_clause-stage.result.pending c.body_of-body.ensures.inner in
    (search rules, (within, (sound, (subst (AreElements k.size) (sym c.of_clause-stage.ensures.elements) c.requires.elements, c.loop-clause.invariant.kept))))

pub some_clause-returns-then-eq-clause-value : goal.some_clause-returns-then-eq-clause-value
some_clause-returns-then-eq-clause-value g t c =
    let k = g.K.Knowledge.known c.args.known.now in
    let eight : length c.of_clause-stage.result.unassigned ≡ 8 = search rules in
    let more = IsClausesLeft-body k c.args.depth c.args.arity c.args.elements c.args.clauses.now c.loop-clause.clause-index c.clause-item.result c.body_of-body.result c.of_clause-stage.result
    c.loop-clause.found c.in_ok-completed.field-0 c.or-found.result c.requires.sound c.loop-clause-test.true c.clause-item.is c.body_of-body.ensures.inner c.body_of-body.ensures.variables
    c.body_of-body.ensures.literals eight c.of_clause-stage.ensures.elements c.of_clause-stage.ensures.unassigned c.of_clause-stage.ensures.pending c.in_ok-completed.ensures.value
    c.or-found.ensures c.loop-clause.invariant.found in
    let found : c.or-found.result ≡ True = search rules in
    IsClausesLeft-found k c.args.arity c.args.elements c.args.clauses.now (c.loop-clause.clause-index + 1) c.or-found.result more found

pub some_clause-loop-clause-preserved : goal.some_clause-loop-clause-preserved
some_clause-loop-clause-preserved g t c =
    let k = g.K.Knowledge.known c.args.known.now in
    let eight : length c.of_clause-stage.result.unassigned ≡ 8 = search rules in
    let more = IsClausesLeft-body k c.args.depth c.args.arity c.args.elements c.args.clauses.now c.loop-clause.clause-index c.clause-item.result c.body_of-body.result c.of_clause-stage.result
    c.loop-clause.found c.in_ok-completed.field-0 c.or-found.result c.requires.sound c.loop-clause-test.true c.clause-item.is c.body_of-body.ensures.inner c.body_of-body.ensures.variables
    c.body_of-body.ensures.literals eight c.of_clause-stage.ensures.elements c.of_clause-stage.ensures.unassigned c.of_clause-stage.ensures.pending c.in_ok-completed.ensures.value
    c.or-found.ensures c.loop-clause.invariant.found in
    record { kept = c.in_ok-completed.ensures.kept; found = more }

pub some_element-returns-then-eq-clause-value : goal.some_element-returns-then-eq-clause-value
some_element-returns-then-eq-clause-value g t c =
    let k = g.K.Knowledge.known c.args.known.now in
    let next = some_truth-next c.loop-number.number (λ i. completed_with k c.args.body.now c.args.stage c.args.v (element_at c.args.elements i)) c.loop-number.found c.in_ok-with_element.field-0
    c.loop-number.invariant.found (c.in_ok-with_element.ensures.value ∙ ap (completed_with k c.args.body.now c.args.stage c.args.v) c.at-x.ensures) in
    let found : c.or-found.result ≡ True = search rules in
    let marks : length c.args.stage.unassigned ≤ length c.args.stage.elements = search rules in
    let few : c.loop-number.number + 1 ≤ count c.args.elements = omega (arith, c.count-number-end.ensures) in
    completed-found k c.args.body.now c.args.stage c.args.v c.args.elements marks c.requires.candidates (c.loop-number.number + 1) c.or-found.result few found (c.or-found.ensures ∙ next)

pub some_element-loop-number-preserved : goal.some_element-loop-number-preserved
some_element-loop-number-preserved g t c =
    let k = g.K.Knowledge.known c.args.known.now in
    let next = some_truth-next c.loop-number.number (λ i. completed_with k c.args.body.now c.args.stage c.args.v (element_at c.args.elements i)) c.loop-number.found c.in_ok-with_element.field-0
    c.loop-number.invariant.found (c.in_ok-with_element.ensures.value ∙ ap (completed_with k c.args.body.now c.args.stage c.args.v) c.at-x.ensures) in
    record { kept = c.in_ok-with_element.ensures.kept; found = c.or-found.ensures ∙ next }

pub some_element-returns-clause-value : goal.some_element-returns-clause-value
some_element-returns-clause-value g t c =
    let k = g.K.Knowledge.known c.args.known.now in
    let all : count c.args.elements ≡ c.loop-number.number = omega (arith, c.count-number-end.ensures) in
    let few : length c.args.stage.unassigned ≤ length c.args.stage.elements = search rules in
    completed-ended k c.args.body.now c.args.stage c.args.v c.args.elements few c.requires.candidates c.loop-number.number c.loop-number.found all c.loop-number.invariant.found

pub some_element-with_element-requires : goal.some_element-with_element-requires
some_element-with_element-requires g t c κs within =
    let k = g.K.Knowledge.known c.args.known.now in
    let there : c.at-x.result < k.size =
    (let l = element_at-below k.size c.args.elements c.loop-number.number c.requires.candidates.below (omega (arith, c.count-number-end.ensures)) in omega (arith, c.at-x.ensures)) in
    (omega arith, (within, (c.requires.sound, (c.requires.elements, (c.requires.candidates.variable, (there, c.loop-number.invariant.kept))))))

pub steps_of-loop-x-init : goal.steps_of-loop-x-init
steps_of-loop-x-init g t c = record { kept = c.requires.kept; steps = c.new-steps.ensures (g.K.Knowledge.known c.args.known.now) c.args.symbol }

pub walk_value-symbol_value-requires : goal.walk_value-symbol_value-requires
walk_value-symbol_value-requires g t c κs within =
    let k = g.K.Knowledge.known c.args.known.now in
    (search rules, (within, (c.requires.declared, (c.requires.depth, (AreElements-pair c.of_tuple.result c.args.x c.args.y k.size c.of_tuple.ensures c.requires.from c.requires.to, c.requires.kept)))))

pub walk_value-returns-then-size-eq0-clause-value : goal.walk_value-returns-then-size-eq0-clause-value
walk_value-returns-then-size-eq0-clause-value g t c =
    let k = g.K.Knowledge.known c.args.known.now in
    let none : k.size ≡ 0 = omega (arith, c.size.ensures) in
    IfOk-weaker c.symbol_value.result _ _ (λ v e. e ∙ (value_of-same k c.args.symbol c.of_tuple.result (c.args.x ∷ c.args.y ∷ []) c.of_tuple.ensures ∙ sym (walk_of-empty k c.args.symbol c.args.x c.args.y none)))
    c.symbol_value.ensures.value

pub walk_value-returns-in_err-put-clause-kept : goal.walk_value-returns-in_err-put-clause-kept
walk_value-returns-in_err-put-clause-kept g t c = c.put.ensures.kept (g.K.Knowledge.known c.args.known.now) c.in_ok-steps.ensures.kept c.in_ok-steps.ensures.value

pub walk_value-returns-clause-kept : goal.walk_value-returns-clause-kept
walk_value-returns-clause-kept g t c =
    let k = g.K.Knowledge.known c.args.known.now in
    let kept : AreKept k c.if-not-has.closures = elim c.if-not-has.branch [
      | walk_value-then-not-has+in_ok-steps+in_ok-put w ↦ subst (λ (x : Closures). AreKept k x) (sym w.closures-is) (w.put.ensures.kept k w.in_ok-steps.ensures.kept w.in_ok-steps.ensures.value)
      | walk_value-else-not-has w ↦ subst (λ (x : Closures). AreKept k x) (sym w.closures-is) c.requires.kept
    ] in
    c.walk.ensures.kept k kept

pub walk_value-returns-clause-value : goal.walk_value-returns-clause-value
walk_value-returns-clause-value g t c =
    let k = g.K.Knowledge.known c.args.known.now in
    let kept : AreKept k c.if-not-has.closures = elim c.if-not-has.branch [
      | walk_value-then-not-has+in_ok-steps+in_ok-put w ↦ subst (λ (x : Closures). AreKept k x) (sym w.closures-is) (w.put.ensures.kept k w.in_ok-steps.ensures.kept w.in_ok-steps.ensures.value)
      | walk_value-else-not-has w ↦ subst (λ (x : Closures). AreKept k x) (sym w.closures-is) c.requires.kept
    ] in
    let some : 0 < k.size = omega (arith, c.size.ensures) in
    IfOk-weaker c.walk.result _ _ (λ v h. h k kept (omega (arith, c.requires.from)) (omega (arith, c.requires.to))) c.walk.ensures.value

pub with_element-completed-requires : goal.with_element-completed-requires
with_element-completed-requires g t c κs within =
    let k = g.K.Knowledge.known c.args.known.now in
    let elements = subst (λ (s : Stage). AreElements k.size s.elements) (sym c.with.ensures) (AreElements-set c.args.stage.elements k.size c.args.v c.args.x c.requires.there c.requires.elements) in
    let same = ap (λ (s : Stage). steps_left c.args.body.now.is_inner s.unassigned s.pending) c.with.ensures in
    (search rules, (within, (c.requires.sound, (elements, c.requires.kept))))

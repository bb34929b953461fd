-- A table that was right is right again once what the filters let through is taken anew.
use Rattle.std.proofs.Common.{◌≡◌, ◌<◌, Bool, true, false, List, All, length, refl, sym, ap, ◌∙◌, subst, inl, inr, true≢false}
use Rattle.std.specs.List.{list_any}
use Rattle.std.proofs.lemmas.Bool.{cases_Bool}
use Rattle.std.proofs.lemmas.List.Elements.{All-contains}
use Rattle.std.proofs.lemmas.Option.{slice_get_read}
use Rattle.rf_finite.specs.Tuples.{IsTuple}
use Rattle.rf_finite.proofs.Lists.{one-from_list_any}
use Rattle.rf_problem.specs.Parts.{predicate_at}
use Rattle.rf_problem.specs.Valid.{FitsClause, has_steps}
use Rattle.rf_problem.specs.declared.predicate.Literal.{Literal}
use Rattle.rf_problem.specs.declared.predicate.Literal.TheVariants.{Call, Same, Differ}
use Rattle.rf_problem.specs.declared.predicate.Term.{Term}
use Rattle.rf_problem.specs.declared.problem.Problem.{Problem}
use Rattle.rf_problem.specs.declared.symbol.Symbol.{Symbol}
use Rattle.rf_problem.proofs.Fitting.{FitsCall-from_literal_fits, each-from_literals_fit, literal_fits}
use Rattle.rf_problem.proofs.KeyLemmas.{same_symbol-same}
use Rattle.rf_renewal.specs.Changes.{may_change, row_may_change}
use Rattle.rf_renewal.specs.Laws.{RenewedIsRight}
use Rattle.rf_renewal.specs.Table.{asks_for_walk, is_walked}
use Rattle.rf_renewal.proofs.Staying.{value-stays, walk-stays}

-- a literal that asks for a walk of a symbol is a call of it with closure
walk-asked : (symbol : Symbol) (l : Literal) → asks_for_walk symbol l ≡ true
    → (negated : Bool) × (args : List Term) × (l ≡ Call negated true symbol args)
walk-asked symbol (Call negated true called args) h =
    (negated, args, ap (λ z. Call negated true z args) (same_symbol-same called symbol h))
walk-asked symbol (Call negated false called args) h = absurd (true≢false (sym h))
walk-asked symbol (Same a b) h = absurd (true≢false (sym h))
walk-asked symbol (Differ a b) h = absurd (true≢false (sym h))

-- a symbol of which some literal asks for a walk has steps
pub walked-steps : (p : Problem) (symbol : Symbol) → is_walked p symbol ≡ true → has_steps p.predicates symbol ≡ true
walked-steps p symbol h =
    let definition = one-from_list_any (λ d. list_any
    (λ c. list_any (asks_for_walk symbol) c.literals) d.clauses) p.predicates h in
    let clause = one-from_list_any (λ c. list_any
    (asks_for_walk symbol) c.literals) definition.0.clauses definition.2 in
    let literal = one-from_list_any (asks_for_walk symbol) clause.0.literals clause.2 in
    let call = walk-asked symbol literal.0 literal.2 in
    let at = literal.1 in
    let fits = All-contains (FitsClause (length p.classes)
    (length p.references) p.objects p.predicates definition.0.arity) definition.0.clauses clause.0
    (All-contains (λ d. All (FitsClause (length p.classes)
    (length p.references) p.objects p.predicates d.arity) d.clauses) p.predicates definition.0 p.predicates_fit.clauses definition.1) clause.1 in
    let fit = each-from_literals_fit p clause.0.variables clause.0.literals fits.literals at.0 literal.0
    (slice_get_read clause.0.literals (length clause.0.literals) at.0 literal.0 refl at.1 (sym at.2)) in
    (FitsCall-from_literal_fits p clause.0.variables at.0 call.0 true symbol call.1
    (subst (λ l. literal_fits p clause.0.variables at.0 l ≡ true) call.2 fit)).steps refl

pub renewed_is_right : RenewedIsRight
renewed_is_right was now changes done table c all right = record {
  values = λ q t tuple. (
      let was_tuple : IsTuple was.size (predicate_at was.problem.predicates q).arity t =
      subst (λ (o : Problem). IsTuple was.size (predicate_at o.predicates q).arity t) c.facts.problem
      (subst (λ n. IsTuple n (predicate_at now.problem.predicates q).arity t) c.facts.size tuple) in
      elim (cases_Bool (may_change was changes q t)) [
        | inl e ↦ rw e refl
        | inr e ↦ rw e (right.values q t was_tuple ∙ sym
            (value-stays was now changes done c q t (all.predicates q) was_tuple e))
      ]);
  walks = λ symbol x y walked lx ly. (
      let was_walked : is_walked was.problem symbol ≡ true = subst
      (λ o. is_walked o symbol ≡ true) c.facts.problem walked in
      let mx : x < was.size = subst (λ n. x < n) c.facts.size lx in
      let my : y < was.size = subst (λ n. y < n) c.facts.size ly in
      elim (cases_Bool (row_may_change was changes symbol x)) [
        | inl e ↦ rw e refl
        | inr e ↦ rw e (right.walks symbol x y was_walked mx my ∙ sym
            (walk-stays was now changes done c symbol x y (all.walks symbol was_walked)
            (walked-steps was.problem symbol was_walked) mx my e))
      ]);
}

-- No predicate calls itself, where no literal's calls lead back to its predicate.
use Rattle.std.proofs.Common.{◌≡◌, ◌∙◌, ℕ, zero, suc, ◌<◌, Bool, true, List, [], ◌∷◌, length, get_or, map, All, Option, None, Some, refl, sym, ap, subst, inl, inr, arith, true≢false}
use Rattle.std.specs.Prelude.{◌==◌, reverse}
use Rattle.std.specs.List.{list_any}
use Rattle.std.proofs.lemmas.Bool.{both_ways, eq-eqb, eqb-true, or_cases, or_left, or_right}
use Rattle.std.proofs.lemmas.List.{length-map}
use Rattle.std.proofs.lemmas.List.Folds.{Any-from_list_any, list_any-append}
use Rattle.rf_finite.specs.Walks.{HasNoCycle, IsWalk}
use Rattle.rf_finite.proofs.Lists.{list_any-more_pass}
use Rattle.rf_finite.proofs.Walks.{IsWalk-reverse, walk_below-from_IsWalk}
use Rattle.rf_problem.specs.Parts.{no_predicate, predicate_at}
use Rattle.rf_problem.specs.Valid.{calls, calls_predicate}
use Rattle.rf_problem.specs.declared.predicate.Literal.TheVariants.{Call as Calls}
use Rattle.rf_problem.specs.declared.predicate.Predicate.{Predicate}
use Rattle.rf_problem.specs.declared.predicate.Term.{Term}
use Rattle.rf_problem.specs.declared.symbol.Symbol.TheVariants.{Class, Reference, Predicate as Defined, Exists, Equals}
use Rattle.rf_syntax.specs.declared.name.Name.{Name}
use Rattle.rf_syntax.specs.declared.predicate.BodyLiteral.{BodyLiteral}
use Rattle.rf_syntax.specs.declared.predicate.BodyLiteral.TheVariants.{Call, Same, Differ}
use Rattle.rf_syntax.specs.declared.predicate.Param.{Param}
use Rattle.rf_names.specs.Bodies.{called_by, calls_directly, is_called_from, leads_to, literal_names, predicate_of, with_variables}
use Rattle.rf_names.specs.Declarations.{Declared, param_names, PredicateDecl}
use Rattle.rf_names.specs.LookUp.{is_number, literal_symbols, no_predicate_decl, predicate_decl_at, sense_of, the_symbol}
use Rattle.rf_clause_rules.specs.ClauseOffsets.{leads_back_to, recursive_literal, recursive_offsets}
use Rattle.rf_build.specs.Resolved.{all_literals, class_literal, class_literals, resolved_clause, resolved_literal, resolved_literals, resolved_predicate}
use Rattle.rf_names.specs.declared.sense.Sense.{Sense}
use Rattle.rf_names.specs.declared.sense.Sense.TheVariants.{Nothing, One, Several}
use Rattle.rf_resolve.proofs.ClearOffsets.{offset_if-nil, offsets_in_literals-each}

-- some item of a list passes where the item that it was made of does
any-map : {X Y : Type 0} (p : Y → Bool) (f : X → Y) (xs : List X) → list_any p (map f xs) ≡ true → list_any (λ x. p (f x)) xs ≡ true
any-map p f [] h = h
any-map p f (x ∷ xs) h = elim (or_cases (p (f x)) (list_any p (map f xs)) h) [
  | inl here ↦ or_left (p (f x)) (list_any (λ y. p (f y)) xs) here
  | inr later ↦ or_right (p (f x)) (list_any (λ y. p (f y)) xs) (any-map p f xs later)
]

-- a symbol that is a predicate is what the name stands for
called-from_symbol :
    (q : ℕ) (sense : Sense) (negated closure : Bool) (args : List Term) → calls_predicate q (Calls negated closure (the_symbol sense) args) ≡ true →
    is_number q (predicate_of sense) ≡ true
called-from_symbol q Nothing negated closure args h = absurd (true≢false (sym h))
called-from_symbol q (One (Class c)) negated closure args h = absurd (true≢false (sym h))
called-from_symbol q (One (Reference r)) negated closure args h = absurd (true≢false (sym h))
called-from_symbol q (One (Defined p)) negated closure args h = h
called-from_symbol q (One Exists) negated closure args h = absurd (true≢false (sym h))
called-from_symbol q (One Equals) negated closure args h = absurd (true≢false (sym h))
called-from_symbol q Several negated closure args h = absurd (true≢false (sym h))

module _ (d : Declared) where
  -- the predicates of the problem
  abbrev pub predicates_made : List Predicate
  predicates_made = map (resolved_predicate d) d.predicates

  -- the one of a number is that of its declaration
  made-at : (ps : List PredicateDecl) (q : ℕ) → get_or (map (resolved_predicate d) ps) q no_predicate ≡ resolved_predicate d (get_or ps q no_predicate_decl)
  made-at [] q = refl
  made-at (p ∷ ps) zero = refl
  made-at (p ∷ ps) (suc q) = made-at ps q

  pub predicate_at-made : (q : ℕ) → predicate_at predicates_made q ≡ resolved_predicate d (predicate_decl_at d q)
  predicate_at-made q = made-at d.predicates q

  literal_calls : (q : ℕ) (params : List Param) (known : List Name) (l : BodyLiteral) →
      calls_predicate q (resolved_literal d params known l) ≡ true → is_number q (called_by d l) ≡ true
  literal_calls q params known (Call negated symbol closure args) h =
      called-from_symbol q (sense_of (literal_symbols d symbol)) negated closure _ h
  literal_calls q params known (Same a b) h = absurd (true≢false (sym h))
  literal_calls q params known (Differ a b) h = absurd (true≢false (sym h))

  literals_call :
      (q : ℕ) (params : List Param) (known : List Name) (ls : List BodyLiteral) →
      list_any (calls_predicate q) (resolved_literals d params known ls) ≡ true →
      list_any (λ l. is_number q (called_by d l)) ls ≡ true
  literals_call q params known [] h = h
  literals_call q params known (l ∷ ls) h =
      let after : List Name = with_variables known (literal_names d params l) in
      elim (or_cases (calls_predicate q (resolved_literal d params known l))
      (list_any (calls_predicate q) (resolved_literals d params after ls)) h) [
        | inl here ↦ or_left (is_number q (called_by d l)) (list_any (λ m. is_number q (called_by d m)) ls)
            (literal_calls q params known l here)
        | inr later ↦ or_right (is_number q (called_by d l)) (list_any (λ m. is_number q (called_by d m)) ls)
            (literals_call q params after ls later)
      ]

  -- the literals of typed parameters call no predicate
  class_literal_calls : (q n : ℕ) (o : Option Name) → list_any (calls_predicate q) (class_literal d n o) ≡ true → ⊥
  class_literal_calls q n None h = true≢false (sym h)
  class_literal_calls q n (Some class) h = true≢false (sym h)

  class_literals_call : (q n : ℕ) (ps : List Param) → list_any (calls_predicate q) (class_literals d n ps) ≡ true → ⊥
  class_literals_call q n [] h = true≢false (sym h)
  class_literals_call q n (p ∷ ps) h =
      elim (or_cases (list_any (calls_predicate q) (class_literal d n p.class)) (list_any (calls_predicate q) (class_literals d (suc n) ps))
      (sym (list_any-append (calls_predicate q) (class_literal d n p.class) (class_literals d (suc n) ps)) ∙ h)) [
        | inl here ↦ class_literal_calls q n p.class here
        | inr later ↦ class_literals_call q (suc n) ps later
      ]

  clause_calls :
      (q : ℕ) (params : List Param) (clause : List BodyLiteral) → list_any (calls_predicate q) (all_literals d params clause) ≡ true →
      list_any (λ l. is_number q (called_by d l)) clause ≡ true
  clause_calls q params clause h =
      elim (or_cases (list_any (calls_predicate q) (resolved_literals d params (param_names params) clause))
      (list_any (calls_predicate q) (class_literals d 0 params))
      (sym (list_any-append (calls_predicate q) (resolved_literals d params (param_names params) clause) (class_literals d 0 params)) ∙ h)) [
        | inl written ↦ literals_call q params (param_names params) clause written
        | inr typed ↦ absurd (class_literals_call q 0 params typed)
      ]

  -- what the predicates of the problem call, the declared ones do
  pub calls_directly-from_calls : (p q : ℕ) → calls predicates_made p q ≡ true → calls_directly d p q ≡ true
  calls_directly-from_calls p q h =
      let decl : PredicateDecl = predicate_decl_at d p in
      let made : list_any (λ c. list_any (calls_predicate q) c.literals) (map (resolved_clause d decl.params) decl.clauses) ≡ true =
      ap (λ r. list_any (λ c. list_any (calls_predicate q) c.literals) r.clauses) (sym (predicate_at-made p)) ∙ h in
      list_any-more_pass (λ clause. list_any (calls_predicate q) (all_literals d decl.params clause))
      (λ clause. list_any (λ l. is_number q (called_by d l)) clause) decl.clauses (λ clause. clause_calls q decl.params clause)
      (any-map (λ c. list_any (calls_predicate q) c.literals) (resolved_clause d decl.params) decl.clauses made)

  -- a literal from which no call leads back
  leads_back-from_called : (p q : ℕ) (o : Option ℕ) → is_number q o ≡ true → leads_to d q p ≡ true → leads_back_to d p o ≡ true
  leads_back-from_called p q None here leads = absurd (true≢false (sym here))
  leads_back-from_called p q (Some n) here leads = subst (λ m. leads_to d m p ≡ true) (sym (eqb-true n q here)) leads

  literal_leads : (p q : ℕ) (l : BodyLiteral) → recursive_literal d p l ≡ [] → is_number q (called_by d l) ≡ true → leads_to d q p ≡ true → ⊥
  literal_leads p q (Call negated symbol closure args) none here leads =
      let called : Option ℕ = called_by d (Call negated symbol closure args) in
      both_ways (leads_back_to d p called) (offset_if-nil (leads_back_to d p called) symbol.name.at none)
      (leads_back-from_called p q called here leads)
  literal_leads p q (Same a b) none here leads = true≢false (sym here)
  literal_leads p q (Differ a b) none here leads = true≢false (sym here)

  call_leads : recursive_offsets d ≡ [] → (p q : ℕ) → p < length d.predicates → calls_directly d p q ≡ true → leads_to d q p ≡ true → ⊥
  call_leads none p q l h leads =
      let clause = Any-from_list_any (λ c. list_any (λ l. is_number q (called_by d l)) c) (predicate_decl_at d p).clauses h in
      let literal = Any-from_list_any (λ l. is_number q (called_by d l)) clause.1 clause.4 in
      let each = offsets_in_literals-each (recursive_literal d) d.predicates none p no_predicate_decl l clause.0 clause.1 clause.2 in
      let in_clause : All (λ l. recursive_literal d p l ≡ []) clause.1 =
      subst (λ c. All (λ l. recursive_literal d p l ≡ []) c) clause.3 each in
      literal_leads p q literal.1
      (subst (λ l. recursive_literal d p l ≡ []) literal.3 (in_clause literal.0 literal.1 literal.2)) literal.4 leads

  pub calls-no_cycle : recursive_offsets d ≡ [] → HasNoCycle (calls predicates_made) (length predicates_made)
  calls-no_cycle none x l ([], w) =
      let count = length-map d.predicates (resolved_predicate d) in
      call_leads none x x (omega arith) (calls_directly-from_calls x x w)
      (or_left (x == x) (is_called_from d x x) (eq-eqb x x refl))
  calls-no_cycle none x l (c ∷ cs, w) =
      let count = length-map d.predicates (resolved_predicate d) in
      let less : x < length d.predicates = omega arith in
      let walk : IsWalk (calls predicates_made) (λ y. true) (length d.predicates) c cs x =
      subst (λ n. IsWalk (calls predicates_made) (λ y. true) n c cs x) count w.3 in
      call_leads none x c less (calls_directly-from_calls x c w.0)
      (or_right (c == x) (is_called_from d x c)
      (walk_below-from_IsWalk (λ y z. calls_directly d z y) (λ y. true) (length d.predicates) x (reverse cs) c
      (IsWalk-reverse (calls_directly d) (λ y. true) (length d.predicates) c cs x (directly (length d.predicates) c cs x walk))))
    where
      directly : (n a : ℕ) (cs : List ℕ) (b : ℕ) → IsWalk (calls predicates_made) (λ y. true) n a cs b → IsWalk (calls_directly d) (λ y. true) n a cs b
      directly n a [] b w = calls_directly-from_calls a b w
      directly n a (c ∷ cs) b w = (calls_directly-from_calls a c w.0, w.1, w.2, directly n c cs b w.3)

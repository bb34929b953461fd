-- When an answer is the one thing that is meant, or the one fault that there is.
use Rattle.std.proofs.Common.{◌≡◌, ◌⊎◌, refl, ap, subst, inl, inr, Result, Ok, Err}
use Rattle.rf_failure.specs.declared.Failure.{Failure}
use Rattle.rf_failure.specs.declared.Failure.TheVariants.{Fault, Memory}
use Rattle.rf_failure.specs.Answers.{Answers}

never_failed : {T E : Type 0} (t : T) (a b : E) → (◌≡◌ {A = Result T E} (Ok t) (Err a)) ⊎ (◌≡◌ {A = Result T E} (Ok t) (Err b)) → ⊥
never_failed t a b (inl e) = cc
never_failed t a b (inr e) = cc

same_fault :
    {T F : Type 0} (f g : F) →
    (◌≡◌ {A = Result T (Failure F)} (Err (Fault f)) (Err (Fault g))) ⊎ (◌≡◌ {A = Result T (Failure F)} (Err (Fault f)) (Err Memory)) → f ≡ g
same_fault f g (inl e) = cc
same_fault f g (inr e) = cc

module _ {T X F : Type 0} (view : T → X) (Means : X → Type 0) (Fails : F → Type 0) where
  -- what is meant is an answer where it is the only one, and there is no fault
  pub Answers-found :
      (t : T) → Means (view t) → ((x : X) → Means x → view t ≡ x) → ((f : F) → Fails f → ⊥) → Answers view Means Fails (Ok t)
  Answers-found t means one none = record {
    ok = means;
    found = λ x other. one x other;
    fault = tt;
    stuck = λ f fails. absurd (none f fails);
  }

  -- a fault is an answer where it is the only one, and nothing is meant
  pub Answers-fault :
      (f : F) → Fails f → ((g : F) → Fails g → f ≡ g) → ((x : X) → Means x → ⊥) → Answers {T = T} view Means Fails (Err (Fault f))
  Answers-fault f fails one none = record {
    ok = tt;
    found = λ x means. absurd (none x means);
    fault = fails;
    stuck = λ g other. inl (ap (λ (h : F). Err (Fault h)) (one g other));
  }

  -- running out of memory is always an answer
  pub Answers-memory : Answers {T = T} view Means Fails (Err Memory)
  Answers-memory = record { ok = tt; found = λ x means. refl; fault = tt; stuck = λ f fails. inr refl }

  -- the failure of an answer, by the fault that it is
  pub Answers-as_fault :
      (failure : Failure F) (f : F) → failure ≡ Fault f → Answers {T = T} view Means Fails (Err failure) →
      Answers {T = T} view Means Fails (Err (Fault f))
  Answers-as_fault failure f e answers = subst (λ (g : Failure F). Answers {T = T} view Means Fails (Err g)) e answers

  -- where something is found, there is no fault
  pub found_no_fault : (t : T) → Answers view Means Fails (Ok t) → (f : F) → Fails f → ⊥
  found_no_fault t answers f fails = never_failed t (Fault f) Memory (answers.stuck f fails)

  -- where there is a fault, nothing is meant, and no other fault is there
  pub fault_not_found : (f : F) → Answers {T = T} view Means Fails (Err (Fault f)) → (x : X) → Means x → ⊥
  fault_not_found f answers x means = let none : Fault f ≡ Memory = answers.found x means in cc

  pub one_fault : (f : F) → Answers {T = T} view Means Fails (Err (Fault f)) → (g : F) → Fails g → f ≡ g
  one_fault f answers g fails = same_fault {T = T} f g (answers.stuck g fails)

-- an answer for the same things and faults is one
pub Answers-same :
    {T X F : Type 0} (view : T → X) (Means Means2 : X → Type 0) (Fails Fails2 : F → Type 0) (result : Result T (Failure F)) →
    ((x : X) → Means x → Means2 x) → ((x : X) → Means2 x → Means x) → ((f : F) → Fails f → Fails2 f) → ((f : F) → Fails2 f → Fails f) →
    Answers view Means Fails result → Answers view Means2 Fails2 result
Answers-same view Means Means2 Fails Fails2 (Ok t) to from fails_to fails_from answers = record {
  ok = to (view t) answers.ok;
  found = λ x means. answers.found x (from x means);
  fault = tt;
  stuck = λ f fails. answers.stuck f (fails_from f fails);
}
Answers-same view Means Means2 Fails Fails2 (Err (Fault g)) to from fails_to fails_from answers = record {
  ok = tt;
  found = λ x means. answers.found x (from x means);
  fault = fails_to g answers.fault;
  stuck = λ f fails. answers.stuck f (fails_from f fails);
}
Answers-same view Means Means2 Fails Fails2 (Err Memory) to from fails_to fails_from answers = Answers-memory view Means2 Fails2

-- What a text that breaks no rule gives to those who make its problem.
use Rattle.std.proofs.Common.{◌≡◌, ◌∙◌, ◌≤◌, ◌<◌, ◌^◌, All, map, length, Option, Result, Ok, Err, IfNone, IfOk, IfErr, Some, None, refl, sym, ap, subst, inl, inr, arith}
use Rattle.std.proofs.lemmas.List.Elements.{All-weaker}
use Rattle.rf_bounds.specs.declared.TheConstants.{MOST_CLASSES}
use Rattle.rf_problem.specs.declared.problem.Problem.{Problem}
use Rattle.rf_problem.proofs.ProblemLemmas.{same_problem}
use Rattle.rf_syntax.specs.declared.statement.Ast.{Ast}
use Rattle.rf_names.specs.Declarations.{Declared, declared_in, references_of}
use Rattle.rf_resolve.specs.Fault.{NameFault, Resolves, fault_of}
use Rattle.rf_resolve.specs.Readable.{IsReadableDeclared, IsReadableTree}
use Rattle.rf_build.specs.Resolved.{IsResolved, resolved_class, resolved_objects, resolved_reference}
use Rattle.rf_build.specs.Small.{IsSmall}
use Rattle.rf_limits.specs.declared.kind.LimitKind.TheVariants.{Classes}
use Rattle.rf_resolve.specs.declared.error.NameError.{NameError}
use Rattle.rf_failure.specs.Answers.{Answers, IfFault}
use Rattle.rf_failure.specs.declared.Failure.{Failure}
use Rattle.rf_failure.specs.declared.Failure.TheVariants.{Fault, Memory}
use Rattle.rf_resolve.proofs.ClassesFit.{class_count}
use Rattle.rf_resolve.proofs.ClearOffsets.{few-from_first_past}
use Rattle.rf_resolve.proofs.PairFacts.{All-unmap}
use Rattle.rf_resolve.proofs.Passing.{passes}
use Rattle.rf_resolve.proofs.ReadableParts.{readable_declared}
use Rattle.rf_resolve.proofs.ReferencesFit.{references_fit}
use Rattle.rf_resolve.proofs.SmallLemmas.{small_predicates}

-- there are few classes
classes_few : (d : Declared) → fault_of d ≡ None → length d.classes ≤ MOST_CLASSES
classes_few d sound = few-from_first_past (λ c. c.name) MOST_CLASSES d.classes ((passes d sound).limits Classes)

-- so the number of the class of each reference is small
sources_small :
    (ast : Ast) (d : Declared) → d ≡ declared_in ast → IsReadableTree ast → fault_of d ≡ None →
    All (λ r. r.source < 2 ^ 32) d.references
sources_small ast d is readable sound =
    let fit = references_fit d (ap (λ x. x.references) is ∙ ap (λ x. references_of 0 x.classes) (sym is)) (passes d sound)
    (subst IsReadableDeclared (sym is) (readable_declared ast readable)) in
    let few = classes_few d sound in
    let many = class_count d in
    All-weaker (λ r. r.source < length (map (resolved_class d) d.classes)) (λ r. r.source < 2 ^ 32)
    (λ r below. omega arith) d.references
    (All-unmap (λ r. r.source < length (map (resolved_class d) d.classes)) (resolved_reference d) d.references fit.sources)

-- what is declared can be numbered
pub small : (ast : Ast) (d : Declared) → d ≡ declared_in ast → IsReadableTree ast → fault_of d ≡ None → IsSmall d
small ast d is readable sound = record {
  classes = classes_few d sound;
  sources = sources_small ast d is readable sound;
  predicates = small_predicates d (passes d sound).limits;
}

-- lists that are the parts of a problem aren't refused
pub refused_never : (made : Option Problem) (Fit : Type 0) → made ≡ None → IfNone made (Fit → ⊥) → Fit → ⊥
refused_never None Fit none refused fit = refused fit
refused_never (Some p) Fit none refused fit = let never : ⊥ = cc in never

-- the declarations stand for one problem at most
pub one_problem : (d : Declared) (p q : Problem) → IsResolved d p → IsResolved d q → p ≡ q
one_problem d p q a b =
    let classes : p.classes ≡ q.classes = a.classes ∙ sym b.classes in
    same_problem p q classes (a.references ∙ sym b.references) (a.predicates ∙ sym b.predicates)
    (a.objects ∙ ap (resolved_objects d) classes ∙ sym b.objects)
    (a.assertions ∙ sym b.assertions) (a.scopes ∙ sym b.scopes)

-- running out of memory answers for any tree
pub answers_memory :
    {T X F : Type 0} (view : T → X) (Means : X → Type 0) (Fails : F → Type 0) → Answers view Means Fails (Err Memory)
answers_memory view Means Fails = record {
  ok = tt;
  found = λ x is. refl;
  fault = tt;
  stuck = λ f fails. inr refl;
}

-- a call that makes that problem, or names the fault of the declarations, answers for the tree
pub answers_for :
    (ast : Ast) (d : Declared) → d ≡ declared_in ast → (result : Result Problem (Failure NameError)) →
    IfOk result (λ p. fault_of d ≡ None) → IfOk result (λ p. IsResolved d p) →
    IfErr result (λ e. IfFault e (λ f. fault_of d ≡ Some f)) →
    Answers (λ p. p) (Resolves ast) (NameFault ast) result
answers_for ast d same (Ok q) sound made failed = record {
  ok = record { sound = ap fault_of (sym same) ∙ sound; resolved = subst (λ x. IsResolved x q) same made };
  found = λ p is. one_problem d q p made (subst (λ x. IsResolved x p) (sym same) is.resolved);
  fault = tt;
  stuck = λ f fails. (let never : None ≡ Some f = sym sound ∙ ap fault_of same ∙ fails in absurd cc);
}
answers_for ast d same (Err (Fault e)) sound made failed = record {
  ok = tt;
  found = λ p is. (let never : None ≡ Some e = sym is.sound ∙ ap fault_of (sym same) ∙ failed in absurd cc);
  fault = ap fault_of (sym same) ∙ failed;
  stuck = λ f fails. inl (let one : Some e ≡ Some f = sym failed ∙ ap fault_of same ∙ fails in cc);
}
answers_for ast d same (Err Memory) sound made failed = answers_memory (λ p. p) (Resolves ast) (NameFault ast)

-- How great the numbers of a problem can be.
use Rattle.std.proofs.Common.{◌≡◌, ℕ, suc, ◌+◌, ◌≤◌, Some, List, [], ◌∷◌, length, map, ap, ◌∙◌, inl, inr, arith}
use Rattle.std.proofs.lemmas.Bool.{cases_Bool}
use Rattle.std.proofs.lemmas.List.{length-append, length-map}
use Rattle.std.proofs.lemmas.List.Elements.{All-get_or}
use Rattle.rf_bounds.specs.declared.TheConstants.{GREATEST_NUMBER, MOST_CLASSES, MOST_OBJECTS}
use Rattle.rf_finite.proofs.Range.{count_below-le_bound}
use Rattle.rf_problem.specs.Classes.{is_concrete}
use Rattle.rf_problem.specs.Parts.{no_scope}
use Rattle.rf_problem.specs.Valid.{IsSmall, has_new, named_objects, new_numbers, new_object}
use Rattle.rf_problem.specs.declared.class.Class.{Class}
use Rattle.rf_problem.specs.declared.problem.Problem.{Problem}
use Rattle.rf_depth.specs.Depth.{concrete_classes, node_end}
use Rattle.rf_depth.proofs.NodeEnds.{node_scope}

numbers-few : (n : ℕ) (classes : List Class) → length (new_numbers n classes) ≤ length classes
numbers-few n [] = omega arith
numbers-few n (c ∷ cs) = let rest = numbers-few (suc n) cs in elim (cases_Bool (has_new c)) [ inl e ↦ rw e (omega arith) | inr e ↦ rw e (omega arith) ]

pub objects_few : (p : Problem) → length p.objects ≤ MOST_OBJECTS + MOST_CLASSES
objects_few p =
    let a = p.objects_fit.few in
    let b = numbers-few 0 p.classes in
    let c = p.classes_fit.few in
    let new = new_numbers 0 p.classes in
    let e : length p.objects ≡ length (named_objects p.objects) + length new =
    ap length p.objects_fit.stocked
    ∙ (length-append (named_objects p.objects) (map new_object new) ∙ ap (λ m. length (named_objects p.objects) + m) (length-map new new_object)) in
    omega arith

pub classes_few : (p : Problem) → concrete_classes p ≤ MOST_CLASSES
classes_few p = let a = count_below-le_bound (length p.classes) (is_concrete p.classes) in let b = p.classes_fit.few in omega arith

pub nodes_few : (p : Problem) (n : ℕ) → node_end p.scopes ≡ Some n → n ≤ GREATEST_NUMBER
nodes_few p n e = let z = node_scope p.scopes n e in
    (All-get_or (λ s. IsSmall s.range) p.scopes z.0 no_scope z.1 p.scopes_fit.ranges).upper n z.3

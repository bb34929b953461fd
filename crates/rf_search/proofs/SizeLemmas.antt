-- How many objects a search can meet.
use Rattle.std.proofs.Common.{◌≡◌, ◌≤◌, ℕ, suc, ◌+◌, Bool, true, false, if◌then◌else◌, List, [], ◌∷◌, length, map, ap, ◌∙◌, arith}
use Rattle.std.proofs.lemmas.List.{length-append, length-map}
use Rattle.rf_bounds.specs.declared.TheConstants.{MOST_DECISIONS}
use Rattle.rf_problem.specs.Valid.{has_new, named_objects, new_numbers, new_object}
use Rattle.rf_problem.specs.declared.class.Class.{Class}
use Rattle.rf_problem.specs.declared.problem.Problem.{Problem}
use Rattle.rf_state.specs.State.{IsRoot, State}
use Rattle.rf_decide.specs.declared.limit.TheConstants.{MOST_OBJECTS}
use Rattle.rf_tree.specs.declared.line.Line.{Line}
use Rattle.rf_search.specs.Stack.{IsSearching, untried_places}
use Rattle.rf_search.specs.declared.untried.Untried.{Untried}
use Rattle.rf_search.proofs.ReachLemmas.{first-on_course}

one-more : (b : Bool) (n : ℕ) (ns : List ℕ) (m : ℕ) → length ns ≤ m → length (if b then n ∷ ns else ns) ≤ suc m
one-more true n ns m h = omega arith
one-more false n ns m h = omega arith

new-few : (n : ℕ) (cs : List Class) → length (new_numbers n cs) ≤ length cs
new-few n [] = omega arith
new-few n (c ∷ cs) = one-more (has_new c) n (new_numbers (suc n) cs) (length cs) (new-few (suc n) cs)

objects-few : (p : Problem) → length p.objects ≤ 4352
objects-few p =
    let few = p.objects_fit.few in
    let classes = p.classes_fit.few in
    let numbers = new_numbers 0 p.classes in
    let e : length p.objects ≡ length (named_objects p.objects) + length (map new_object numbers) =
    ap length p.objects_fit.stocked ∙ length-append (named_objects p.objects) (map new_object numbers) in
    let f = length-map numbers new_object in
    let r = new-few 0 p.classes in
    omega arith

pub searching-few : (p : Problem) (seed budget : ℕ) (root : State) (made : ℕ) (lines : List Line) (s : State) (kept : List State) (us : List Untried)
    → IsRoot p root → budget ≤ MOST_DECISIONS → IsSearching p seed budget root made lines s kept us → length s.objects ≤ MOST_OBJECTS
searching-few p seed budget root made lines s kept us at most h =
    let small = (first-on_course p seed root lines (record { state = s; way = kept }) (untried_places p kept us []) at h.leads).small in
    let e = objects-few p in
    let m = h.count in
    let f = h.few in
    omega arith

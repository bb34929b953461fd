use Rattle.std.proofs.Common.{◌≡◌, ◌∙◌, ℕ, Some, [], ◌∷◌, ◌++◌, length, slice_set, ap, ap₂, arith}
use Rattle.std.proofs.lemmas.List.{set-append_left}
use Rattle.rf_values.specs.Count.{less_one}
use Rattle.rf_state.specs.Added.{added_at}
use Rattle.rf_state.specs.Meaning.{meaning}
use Rattle.rf_state.specs.State.{copied_from, object_of}
use Rattle.rf_state.specs.declared.object.Object.{Object}
use Rattle.rf_state.proofs.state.State.fresh.Goals as goal

pub returns-clause-fresh : goal.returns-clause-fresh
returns-clause-fresh c =
    let old = c.args.self.now in
    let read : Object = c.object-object.result.now in
    let here : read ≡ object_of (meaning old) c.args.o = c.object-object.ensures in
    let rest : Object = record { origin = read.origin; count = c.less_one.result; candidates = read.candidates } in
    let made : Object = record { origin = read.origin; count = record { lo = 1; hi = Some 1 }; candidates = read.candidates } in
    let rest-is : rest ≡ record (object_of (meaning old) c.args.o) { count = less_one (object_of (meaning old) c.args.o).count } =
    λ i. record { origin = (here i).origin; count = (c.less_one.ensures ∙ ap (λ (x : Object). less_one x.count) here) i; candidates = (here i).candidates } in
    let made-is : made ≡ record (object_of (meaning old) c.args.o) { count = record { lo = 1; hi = Some 1 } } =
    λ i. record { origin = (here i).origin; count = record { lo = 1; hi = Some 1 }; candidates = (here i).candidates } in
    let objects : slice_set c.push.new.self.items c.args.o rest ≡ _ =
    ap (λ l. slice_set l c.args.o rest) c.in_ok-push.ensures.items
    ∙ set-append_left old.objects.items (made ∷ []) c.args.o rest c.requires.object
    ∙ ap₂ (λ (x y : Object). slice_set old.objects.items c.args.o x ++ y ∷ []) rest-is made-is in
    let number : c.len-number.result ≡ length old.objects.items = omega (arith, c.len-number.ensures) in
    λ i. record {
      objects = objects i;
      added = λ r x y.
          (c.in_ok-added.ensures r x y
          ∙ ap (λ (n : ℕ). added_at old.added r (copied_from c.args.o n x) (copied_from c.args.o n y)) number) i;
    }

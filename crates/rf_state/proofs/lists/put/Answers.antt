use Rattle.std.proofs.Common.{◌≡◌, ◌∙◌, ℕ, Option, None, Some, List, [], ◌∷◌, ◌++◌, cond, ap, sym, refl, subst}
use Rattle.std.specs.BTreeMap.{get}
use Rattle.std.specs.Option.{IsSome}
use Rattle.std.specs.Ordering.{is_eq}
use Rattle.std.specs.Prelude.{Vec}
use Rattle.std.specs.declared.alloc.Global.{Global}
use Rattle.rf_state.specs.Lists.{End, Lists, end_cmp, items_of, listed_at}
use Rattle.rf_state.proofs.ListLemmas.{AreSameLists-from_put, IsListedToo-from_put, on_err-always}
use Rattle.rf_state.proofs.lists.put.Goals as goal

pub returns-in_err-push-clause-unchanged : goal.returns-in_err-push-clause-unchanged
returns-in_err-push-clause-unchanged c =
    let written = c.get_mut.follows.holds c.push.new.self in
    let put = (written.3 (subst (λ (o : Option (Vec ℕ Global)). IsSome o) c.in-Some.ensures.value refl)).0 in
    let same : c.push.new.self.items ≡ listed_at c.args.lists.now c.args.end = ◌∙◌ {A = List ℕ} c.in_err-push.ensures.items (ap items_of c.in-Some.ensures.value) in
    on_err-always c.from_residual.result (AreSameLists-from_put c.args.lists.now (c.get_mut.follows.lender c.push.new.self) c.args.end 0 c.push.new.self put same)

pub returns-in-Some-clause-put : goal.returns-in-Some-clause-put
returns-in-Some-clause-put c =
    let written = c.get_mut.follows.holds c.push.new.self in
    let put = (written.3 (subst (λ (o : Option (Vec ℕ Global)). IsSome o) c.in-Some.ensures.value refl)).0 in
    let more : c.push.new.self.items ≡ listed_at c.args.lists.now c.args.end ++ c.args.other ∷ [] =
    ◌∙◌ {A = List ℕ} c.in_ok-push.ensures.items (ap (λ (l : List ℕ). l ++ c.args.other ∷ []) (ap items_of c.in-Some.ensures.value)) in
    IsListedToo-from_put c.args.lists.now (c.get_mut.follows.lender c.push.new.self) c.args.end c.args.other c.push.new.self put more

pub returns-clause-put : goal.returns-clause-put
returns-clause-put c =
    let old = c.args.lists.now in
    let gone : get end_cmp old c.args.end ≡ None = sym c.in_default.ensures.value in
    let put : (q : End) → get end_cmp c.insert.new.self q ≡ cond (is_eq (end_cmp c.args.end q)) (Some c.push-2.new.self) (get end_cmp old q) =
    λ q. c.in_ok-insert.ensures.updates.0 q ∙ ap (λ (m : Lists). cond (is_eq (end_cmp c.args.end q)) (Some c.push-2.new.self) (get end_cmp m q)) c.get_mut.follows.holds-at-none in
    let items : c.push-2.new.self.items ≡ listed_at old c.args.end ++ c.args.other ∷ [] =
    c.in_ok-push-2.ensures.items ∙ ap (λ (l : List ℕ). l ++ c.args.other ∷ []) (c.new-others.ensures.items ∙ sym (ap items_of gone)) in
    IsListedToo-from_put old c.insert.new.self c.args.end c.args.other c.push-2.new.self put items

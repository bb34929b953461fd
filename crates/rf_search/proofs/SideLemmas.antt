-- What a side of a decision changes, and which state is gone back to.
use Rattle.std.proofs.Common.{◌≡◌, ◌<◌, ℕ, zero, suc, Bool, true, false, List, [], ◌∷◌, length, refl, sym, subst, arith}
use Rattle.std.specs.Prelude.{IfSome, slice_get, ◌&&◌, nat_lt}
use Rattle.std.proofs.lemmas.Bool.{and_parts, ltb-true}
use Rattle.std.proofs.lemmas.List.{length-set}
use Rattle.rf_problem.specs.declared.problem.Problem.{Problem}
use Rattle.rf_state.specs.State.{State}
use Rattle.rf_rules.specs.Decisions.{allowed, fits, is_open, side}
use Rattle.rf_rules.specs.Rules.{is_edge, is_object}
use Rattle.rf_rules.specs.declared.decision.Decision.{Decision}
use Rattle.rf_rules.specs.declared.decision.Decision.TheVariants.{Fresh, Kind, Ref}
use Rattle.rf_pending.specs.Changes.{FitsChange, IsChange}
use Rattle.rf_search.specs.Sides.{change_on}
use Rattle.rf_search.specs.Stack.{kept_at}
use Rattle.rf_search.proofs.ReachLemmas.{fresh-objects}

pub side-is_change : (p : Problem) (s : State) (d : Decision) (first : Bool) → IsChange (change_on d first) s (side p s d first)
side-is_change p s (Fresh o) true = refl
side-is_change p s (Fresh o) false = (_, refl)
side-is_change p s (Kind o c) true = (_, refl)
side-is_change p s (Kind o c) false = (_, refl)
side-is_change p s (Ref r a b) true = (_, refl)
side-is_change p s (Ref r a b) false = (_, refl)

edge-fits : (p : Problem) (s : State) (r a b : ℕ) → is_edge p s r a b ≡ true → (r < length p.references) × (a < length s.objects) × (b < length s.objects)
edge-fits p s r a b h =
    let parts = and_parts (nat_lt r (length p.references)) (is_object s a && is_object s b) h in
    let ends = and_parts (is_object s a) (is_object s b) parts.1 in
    (ltb-true r (length p.references) parts.0, ltb-true a (length s.objects) ends.0, ltb-true b (length s.objects) ends.1)

pub side-fits_change : (p : Problem) (s : State) (d : Decision) (first : Bool) → allowed p s d ≡ true → FitsChange p (side p s d first) (change_on d first)
side-fits_change p s (Fresh o) true ok =
    let l : o < length s.objects = ltb-true o (length s.objects) (and_parts (is_object s o) (is_open p s (Fresh o)) ok).0 in
    let e = fresh-objects s o in
    omega arith
side-fits_change p s (Fresh o) false ok =
    let l : o < length s.objects = ltb-true o (length s.objects) (and_parts (is_object s o) (is_open p s (Fresh o)) ok).0 in
    subst (λ (n : ℕ). o < n) (sym (length-set s.objects o _)) l
side-fits_change p s (Kind o c) true ok =
    let l : o < length s.objects = ltb-true o (length s.objects) (and_parts (is_object s o) (nat_lt c (length p.classes)) (and_parts (fits p s (Kind o c)) (is_open p s (Kind o c)) ok).0).0 in
    subst (λ (n : ℕ). o < n) (sym (length-set s.objects o _)) l
side-fits_change p s (Kind o c) false ok =
    let l : o < length s.objects = ltb-true o (length s.objects) (and_parts (is_object s o) (nat_lt c (length p.classes)) (and_parts (fits p s (Kind o c)) (is_open p s (Kind o c)) ok).0).0 in
    subst (λ (n : ℕ). o < n) (sym (length-set s.objects o _)) l
side-fits_change p s (Ref r a b) true ok = edge-fits p s r a b (and_parts (fits p s (Ref r a b)) (is_open p s (Ref r a b)) ok).0
side-fits_change p s (Ref r a b) false ok = edge-fits p s r a b (and_parts (fits p s (Ref r a b)) (is_open p s (Ref r a b)) ok).0

pub kept-from_slice_get : (kept : List State) (v : ℕ) (s : State) → v < length kept → IfSome (slice_get kept v) (λ (x : State). s ≡ x) → s ≡ kept_at kept v
kept-from_slice_get [] v s l h = absurd (omega arith)
kept-from_slice_get (x ∷ xs) zero s l h = h
kept-from_slice_get (x ∷ xs) (suc v) s l h = kept-from_slice_get xs v s (omega arith) h

-- The root of a problem is one state.
use Rattle.std.proofs.Common.{◌≡◌, ◌∙◌, ◌<◌, ℕ, subst, sym, length}
use Rattle.std.specs.Cmp.{nat_cmp_total}
use Rattle.std.specs.FinSet.{same_set, nat_cmp-IsAntisymmetric}
use Rattle.std.proofs.lemmas.List.{ext_get_or}
use Rattle.rf_problem.specs.declared.problem.Problem.{Problem}
use Rattle.rf_state.specs.Laws.{RootIsUnique}
use Rattle.rf_state.specs.State.{IsRoot, State, no_object, object_of}
use Rattle.rf_state.specs.declared.object.Object.{Object}

-- objects with the same fields are one
object-same : (x y : Object) → x.origin ≡ y.origin → x.count ≡ y.count → x.candidates ≡ y.candidates → x ≡ y
object-same x y origin count candidates = λ i. record { origin = origin i; count = count i; candidates = candidates i }

-- and so are states with the same objects and added facts
state-same : (s u : State) → s.objects ≡ u.objects → ((r a b : ℕ) → s.added r a b ≡ u.added r a b) → s ≡ u
state-same s u objects added = λ i. record { objects = objects i; added = λ r a b. added r a b i }

-- the objects of two roots are the same
root-object : (p : Problem) (s u : State) (o : ℕ) → IsRoot p s → IsRoot p u → o < length p.objects → object_of s o ≡ object_of u o
root-object p s u o from to there = object-same (object_of s o) (object_of u o)
    (from.origins o there ∙ sym (to.origins o there))
    (from.counts o there ∙ sym (to.counts o there))
    (same_set nat_cmp_total nat_cmp-IsAntisymmetric (object_of s o).candidates (object_of u o).candidates
    (λ c. from.candidates o c there ∙ sym (to.candidates o c there)))

pub root-unique : RootIsUnique
root-unique p s u from to = state-same s u
    (ext_get_or no_object s.objects u.objects (from.many ∙ sym to.many)
    (λ o l. root-object p s u o from to (subst (λ n. o < n) from.many l)))
    (λ r a b. from.nothing r a b ∙ sym (to.nothing r a b))

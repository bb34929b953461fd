-- What a literal says depends on the variables that it names alone.
use Rattle.std.proofs.Common.{◌≡◌, ℕ, Bool, false, ◌||◌, List, [], ◌∷◌, refl, ap₂, ◌∙◌, slice_index_or}
use Rattle.std.specs.List.{list_any}
use Rattle.std.proofs.lemmas.Bool.{or_parts}
use Rattle.rf_problem.specs.Reading.{Assignment, literal_true}
use Rattle.rf_problem.specs.declared.predicate.Literal.{Literal}
use Rattle.rf_problem.specs.declared.predicate.Literal.TheVariants.{Call, Same, Differ}
use Rattle.rf_problem.specs.declared.predicate.Term.{Term}
use Rattle.rf_problem.specs.declared.predicate.Term.TheVariants.{Var, Atom}
use Rattle.rf_evaluate.specs.Evaluating.{calls_of, literal_value, standing}
use Rattle.rf_evaluate.specs.Known.{Known}
use Rattle.rf_evaluate.specs.Terms.{is_unassigned, names_unassigned}
use Rattle.rf_evaluate.specs.declared.stage.Body.{Body}
use Rattle.rf_evaluate.proofs.Completing.{names_unassigned-standing}
use Rattle.rf_evaluate.proofs.InBoth.{in_both-same}
use Rattle.rf_evaluate.proofs.Unassigned.{AgreeOutside, literal-same}

-- a literal that names no unassigned variable has the same value for assignments that agree on the others
pub literal_value-agreeing : (k : Known) (b : Body) (i : ℕ) (l : Literal) (unassigned : List Bool) (f g : Assignment) → AgreeOutside unassigned f g
    → names_unassigned unassigned l ≡ false → literal_value k b i l f ≡ literal_value k b i l g
literal_value-agreeing k b i l unassigned f g agree ground =
    in_both-same k (λ here inside. literal_true (calls_of k) here inside b.variables.now i f (standing b.is_inner l))
    (λ here inside. literal_true (calls_of k) here inside b.variables.now i g (standing b.is_inner l))
    (λ here inside. literal-same unassigned (calls_of k) here inside b.variables.now i (standing b.is_inner l)
    (names_unassigned-standing unassigned b.is_inner l ∙ ground) f g agree)

term-fewer : (us vs : List Bool) (a : Term) → ((u : ℕ) → slice_index_or us u false ≡ false → slice_index_or vs u false ≡ false)
    → is_unassigned us a ≡ false → is_unassigned vs a ≡ false
term-fewer us vs (Var v) h e = h v e
term-fewer us vs (Atom o) h e = refl

any-fewer : (us vs : List Bool) (args : List Term) → ((u : ℕ) → slice_index_or us u false ≡ false → slice_index_or vs u false ≡ false)
    → list_any (is_unassigned us) args ≡ false → list_any (is_unassigned vs) args ≡ false
any-fewer us vs [] h e = refl
any-fewer us vs (t ∷ rest) h e =
    let parts = or_parts (is_unassigned us t) (list_any (is_unassigned us) rest) e in
    ap₂ (λ x y. x || y) (term-fewer us vs t h parts.0) (any-fewer us vs rest h parts.1)

-- where fewer variables are unassigned, a literal names none of them still
pub names_unassigned-fewer : (us vs : List Bool) (l : Literal) → ((u : ℕ) → slice_index_or us u false ≡ false → slice_index_or vs u false ≡ false)
    → names_unassigned us l ≡ false → names_unassigned vs l ≡ false
names_unassigned-fewer us vs (Call negated closure symbol args) h e = any-fewer us vs args h e
names_unassigned-fewer us vs (Same a b) h e =
    let parts = or_parts (is_unassigned us a) (is_unassigned us b) e in ap₂ (λ x y. x || y) (term-fewer us vs a h parts.0) (term-fewer us vs b h parts.1)
names_unassigned-fewer us vs (Differ a b) h e =
    let parts = or_parts (is_unassigned us a) (is_unassigned us b) e in ap₂ (λ x y. x || y) (term-fewer us vs a h parts.0) (term-fewer us vs b h parts.1)

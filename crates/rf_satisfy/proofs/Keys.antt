-- Lemmas on edges as keys of a set.
use Rattle.std.proofs.Common.{◌≡◌, ℕ, ◌+◌, ◌<◌, Bool, true, false, ◌&&◌, ◌||◌, cond, eqb, List, length, get_or, take, refl, sym, ap, ◌∙◌}
use Rattle.std.specs.List.{list_any}
use Rattle.std.specs.Ordering.{is_eq}
use Rattle.std.specs.Cmp.{unsigned_ties, both_tied}
use Rattle.std.specs.BTreeSet.{BTreeSet, contains}
use Rattle.std.proofs.lemmas.List.Folds.{list_any_more}
use Rattle.rf_graph.specs.declared.graph.Edge.{Edge}
use Rattle.rf_satisfy.specs.Edges.{Key, key_cmp, is_edge, AreKeysOf}

pub and_right : (a b c : Bool) → (a && (b && c)) ≡ ((a && b) && c)
and_right true b c = refl
and_right false b c = refl

-- keys are tied where they are of the same edge
is_edge-tied : (r x y : ℕ) (e : Edge) → is_edge r x y e ≡ is_eq (key_cmp (e.reference, e.from, e.to) (r, x, y))
is_edge-tied r x y e =
    and_right (eqb e.reference r) (eqb e.from x) (eqb e.to y)
    ∙ both_tied _ _ _ _ (both_tied _ _ _ _ (unsigned_ties e.reference r) (unsigned_ties e.from x)) (unsigned_ties e.to y)

cond_or : (a b : Bool) → cond a true b ≡ (b || a)
cond_or true true = refl
cond_or true false = refl
cond_or false true = refl
cond_or false false = refl

-- with the key of one edge more
pub AreKeysOf-more : (old new : BTreeSet Key) (edges : List Edge) (i : ℕ) (d : Edge) → i < length edges
    → ((q : Key) → contains key_cmp new q ≡ cond (is_eq (key_cmp ((get_or edges i d).reference, (get_or edges i d).from, (get_or edges i d).to) q)) true (contains key_cmp old q))
    → AreKeysOf old (take i edges) → AreKeysOf new (take (i + 1) edges)
AreKeysOf-more old new edges i d l added held r x y =
    let e = get_or edges i d in
    added (r, x, y)
    ∙ ap (λ b. cond b true (contains key_cmp old (r, x, y))) (sym (is_edge-tied r x y e))
    ∙ ap (λ b. cond (is_edge r x y e) true b) (held r x y)
    ∙ cond_or (is_edge r x y e) (list_any (is_edge r x y) (take i edges))
    ∙ sym (list_any_more (is_edge r x y) edges i d l)

-- The bound on all nodes is the least of those of the scopes that count them.
use Rattle.std.proofs.Common.{◌≡◌, ℕ, zero, suc, ◌≤◌, ◌<◌, true, min, Option, Some, None, List, length, ◌⊎◌, refl, sym, ap, ◌∙◌, subst, inl, inr, arith}
use Rattle.std.specs.Option.{option_map}
use Rattle.std.proofs.lemmas.Bool.{cases_Bool, cases_lt}
use Rattle.std.proofs.lemmas.Option.{same_Some}
use Rattle.rf_finite.proofs.Range.{None-ne_Some, below_or_last}
use Rattle.rf_values.specs.Count.{lesser_end}
use Rattle.rf_problem.specs.Parts.{scope_at}
use Rattle.rf_problem.specs.declared.problem.Problem.{Problem}
use Rattle.rf_problem.specs.declared.scope.Scope.{Scope}
use Rattle.rf_depth.specs.Depth.{IsEndOfSome, counts_all, depth, depth_with, end_of, node_end, node_end_below}
use Rattle.rf_depth.specs.Laws.{DepthIsNone, NodeEndIsLeast}

lesser-is : (a b : Option ℕ) (n : ℕ) → lesser_end a b ≡ Some n → (a ≡ Some n) ⊎ (b ≡ Some n)
lesser-is None b n h = inr h
lesser-is (Some a) None n h = inl h
lesser-is (Some a) (Some b) n h = elim (cases_lt b a) [
  | inl lt ↦ (let e : min a b ≡ b = omega arith in inr (ap Some (sym e) ∙ h))
  | inr ge ↦ (let e : min a b ≡ a = omega arith in inl (ap Some (sym e) ∙ h))
]

end-parts : (z : Scope) (n : ℕ) → end_of z ≡ Some n → (counts_all z ≡ true) × (z.range.hi ≡ Some n)
end-parts z n h = elim (cases_Bool (counts_all z)) [ inl e ↦ (e, rw e at h) | inr e ↦ absurd (None-ne_Some (rw e at h)) ]

some-below : (zs : List Scope) (m n : ℕ) → m ≤ length zs → node_end_below zs m ≡ Some n → IsEndOfSome zs n
some-below zs zero n l h = absurd (None-ne_Some h)
some-below zs (suc m) n l h = elim (lesser-is (node_end_below zs m) (end_of (scope_at zs m)) n h) [
  | inl e ↦ some-below zs m n (omega arith) e
  | inr e ↦ (let x = end-parts (scope_at zs m) n e in (m, omega arith, x.0, x.1))
]

-- the bound is that of some scope
pub node_scope : (zs : List Scope) (n : ℕ) → node_end zs ≡ Some n → IsEndOfSome zs n
node_scope zs n h = some-below zs (length zs) n (omega arith) h

abbrev IsAtMost : Option ℕ → ℕ → Type 0
IsAtMost u j = (n : ℕ) × (u ≡ Some n) × (n ≤ j)

lesser-first : (a b : Option ℕ) (j : ℕ) → IsAtMost a j → IsAtMost (lesser_end a b) j
lesser-first None b j h = absurd (None-ne_Some h.1)
lesser-first (Some a) None j h = h
lesser-first (Some a) (Some b) j h = (let e : a ≡ h.0 = same_Some a h.0 h.1 in let l = h.2 in (min a b, refl, omega arith))

lesser-second : (a b : Option ℕ) (j : ℕ) → b ≡ Some j → IsAtMost (lesser_end a b) j
lesser-second None b j h = (j, h, omega arith)
lesser-second (Some a) None j h = absurd (None-ne_Some h)
lesser-second (Some a) (Some b) j h = (let e : b ≡ j = same_Some b j h in (min a b, refl, omega arith))

end-at_most : (zs : List Scope) (m k j : ℕ) → k < m → end_of (scope_at zs k) ≡ Some j → IsAtMost (node_end_below zs m) j
end-at_most zs zero k j l h = absurd (omega arith)
end-at_most zs (suc m) k j l h = elim (below_or_last m k l) [
  | inl lt ↦ lesser-first (node_end_below zs m) (end_of (scope_at zs m)) j (end-at_most zs m k j lt h)
  | inr e ↦ lesser-second (node_end_below zs m) (end_of (scope_at zs m)) j (subst (λ k. end_of (scope_at zs k) ≡ Some j) e h)
]

node-at_most : (zs : List Scope) (j : ℕ) → IsEndOfSome zs j → IsAtMost (node_end zs) j
node-at_most zs j k = end-at_most zs (length zs) k.0 j k.1 (rw k.2 k.3)

pub node_end_is_least : NodeEndIsLeast
node_end_is_least zs n h = (node_scope zs n h, λ m k. (let r = node-at_most zs m k in let e : r.0 ≡ n = same_Some r.0 n (sym r.1 ∙ h) in let l = r.2 in omega arith))

none-from_each : (p : Problem) → ((m : ℕ) → IsEndOfSome p.scopes m → ⊥) → (u : Option ℕ) → node_end p.scopes ≡ u → depth p ≡ None
none-from_each p h None e = ap (option_map (depth_with p)) e
none-from_each p h (Some n) e = absurd (h n (node_scope p.scopes n e))

pub depth_is_none : DepthIsNone
depth_is_none p = (
  λ e m k. (let r = node-at_most p.scopes m k in None-ne_Some (sym e ∙ ap (option_map (depth_with p)) r.1)),
  λ h. none-from_each p h (node_end p.scopes) refl,
)

-- Facts on the saved versions of a store.
use Rattle.std.proofs.Common.{◌≡◌, ℕ, zero, suc, ◌+◌, ◌-◌, ◌*◌, ◌^◌, ◌<◌, ◌≤◌, List, [], ◌∷◌, length, get_or, map, take, refl, sym, ap, ◌∙◌, subst, inl, inr, arith}
use Rattle.std.specs.Prelude.{IfSome, slice_get}
use Rattle.std.proofs.lemmas.Bool.{cases_lt}
use Rattle.std.proofs.lemmas.List.{get_or-take, length-take-le, take-map}
use Rattle.std.proofs.Math.Nat.{mul-le-mul}
use Rattle.std.proofs.Math.Pow.{pow_mono}
use native.Mathlib.Nat.{pow-zero}
use Rattle.std.proofs.lemmas.Grind.{pow_more}
use Rattle.rf_store.specs.Part.{Part, empty_part, part_at, Extends}
use Rattle.rf_store.specs.Contents.{Version, IsGreatestHeight}
use Rattle.rf_store.specs.Store.{version_of, IsSaved, IsStore}
use Rattle.rf_store.specs.declared.store.Saved.{Saved}

-- versions whose trees are the same in both tables
pub versions_same : (old new : List Part) (saved : List Saved) → ((i : ℕ) (k : Saved) → i < length saved → k ≡ get_or saved i k → part_at new k.root ≡ part_at old k.root) → map (version_of new) saved ≡ map (version_of old) saved
versions_same old new [] same = refl
versions_same old new (k ∷ saved) same =
    ap (λ (p : Part). record { entries = p.entries; rows = k.rows } ∷ map (version_of new) saved) (same 0 k (omega arith) refl)
    ∙ ap (λ vs. version_of old k ∷ vs) (versions_same old new saved (λ i m h read. same (suc i) m (omega arith) read))

-- a table that grew keeps the versions
pub versions_extend : (old new : List Part) (root : ℕ) (saved : List Saved) → IsStore old root saved → Extends old new → map (version_of new) saved ≡ map (version_of old) saved
versions_extend old new root saved s more = versions_same old new saved (λ i k h read. let at = s.versions i k h read in more.same k.root (omega (arith, at.root_in, at.rows_in)))

-- what is saved at a place
pub version_at : (parts : List Part) (saved : List Saved) (v : ℕ) (k : Saved) (P : Version → Type 0) → v < length saved → k ≡ get_or saved v k → P (version_of parts k) → IfSome (slice_get (map (version_of parts) saved) v) P
version_at parts [] v k P h read p = absurd (omega arith)
version_at parts (m ∷ saved) zero k P h read p = subst (λ (q : Saved). P (version_of parts q)) read p
version_at parts (m ∷ saved) (suc v) k P h read p = version_at parts saved v k P (omega arith) read p

-- ---- back to a version

module _ (parts : List Part) (root : ℕ) (saved : List Saved) (v : ℕ) (k : Saved) (s : IsStore parts root saved) (h : v < length saved) (read : k ≡ get_or saved v k) where
  at : IsSaved (length parts) saved v k
  at = s.versions v k h read

  shorter : length (take (k.rows + 1) parts) ≡ k.rows + 1
  shorter = length-take-le (k.rows + 1) parts (omega (arith, at.rows_in))

  still : (i : ℕ) (m : Saved) → i < length (take (v + 1) saved) → m ≡ get_or (take (v + 1) saved) i m → record { old : i < length saved; read : m ≡ get_or saved i m; upto : i ≤ v }
  still i m below again =
      let size : length (take (v + 1) saved) ≡ v + 1 = length-take-le (v + 1) saved (omega arith) in
      record { old = omega (arith, size); read = again ∙ get_or-take (v + 1) saved i m (omega (arith, size)); upto = omega (arith, size) }

  pub pruned_versions : map (version_of (take (k.rows + 1) parts)) (take (v + 1) saved) ≡ take (v + 1) (map (version_of parts) saved)
  pruned_versions =
      versions_same parts (take (k.rows + 1) parts) (take (v + 1) saved)
      (λ i m below again.
      let old = still i m below again in
      let was = s.versions i m old.old old.read in
      get_or-take (k.rows + 1) parts m.root empty_part (omega (arith, was.root_in, was.later v k old.upto h read)))
      ∙ sym (take-map (version_of parts) (v + 1) saved)

  pub pruned_length : length (take (k.rows + 1) parts) - 1 ≡ k.rows
  pruned_length = omega (arith, shorter)

-- ---- how high a tree of so many entries may be

squared : (x : ℕ) → x ^ 2 ≡ x * x
squared x =
    let none : 1 * x ≡ x = omega arith in
    let first : x ^ 1 ≡ x = pow_more x 0 ∙ ap (λ y. y * x) (pow-zero x) ∙ none in
    pow_more x 1 ∙ ap (λ y. y * x) first

pub no_higher : (n h m : ℕ) → 2 ^ h ≤ (n + 1) * (n + 1) → IsGreatestHeight n m → h ≤ m
no_higher n h m full most = elim (cases_lt m h) [
  | inl higher ↦
      let square : (n + 2) ^ 2 ≡ (n + 2) * (n + 2) = squared (n + 2) in
      let below : (n + 1) * (n + 1) ≤ (n + 2) * (n + 2) = mul-le-mul (omega arith) (omega arith) in
      absurd (omega (arith, most.no_more, square, below, pow_mono {i = m + 1} {j = h} (omega arith)))
  | inr le ↦ le
]

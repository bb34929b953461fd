-- Rows that are written block by block, and made one after another.
use Rattle.std.proofs.Common.{◌≡◌, ◌≢◌, ◌∙◌, ℕ, ◌+◌, ◌*◌, ◌/◌, ◌%◌, ◌<◌, ◌≤◌, Bool, true, false, ◌==◌, ◌&&◌, ◌↔◌, nat_lt, length, List, [], ◌∷◌, get_or, refl, sym, ap, subst, inl, inr, arith}
use Rattle.std.specs.Prelude.{slice_index, unwrap_or}
use Rattle.std.specs.Int.{bit_at}
use Rattle.std.proofs.lemmas.Bool.{cases_eq, cases_lt, le-ltb, lt-ltb}
use Rattle.std.proofs.lemmas.List.{get_or_past}
use Rattle.rf_finite.specs.Walks.{IsReachable, walk_below}
use Rattle.rf_finite.proofs.Walks.{IsReachable-from_walk_below, walk_below-from_IsWalk}
use Rattle.rf_store.specs.Contents.{Contents}
use Rattle.rf_store.specs.Entries.{Entry, value_at}
use Rattle.rf_incr_closure.specs.Entries.{BeginsWith, HasRow, LeavesOtherRows, LeavesOtherTags, is_marked, row_key, words_at}
use Rattle.rf_incr_closure.specs.Words.{AreWritten, AreWrittenRows, IsWrittenRow, block_words}
use Rattle.rf_incr_closure.specs.Writes.{Writes, mark_at}
use Rattle.rf_incr_closure.proofs.Bits.{bit_in}

-- ---- keys

from-same : (tag a block c other : ℕ) → row_key tag a block ≡ row_key tag c other → a ≡ c
from-same tag a block c other e = ap (λ k. get_or k 1 0) e

block-same : (tag a block other : ℕ) → row_key tag a block ≡ row_key tag a other → block ≡ other
block-same tag a block other e = ap (λ k. get_or k 2 0) e

begins : (tag a block : ℕ) (k : List ℕ) → k ≡ row_key tag a block → BeginsWith tag k
begins tag a block k e = subst (BeginsWith tag) (sym e) refl

-- ---- marks that stay

-- a mark is a matter of one key
pub mark-same : (old new : List Entry) (tag a b : ℕ)
    → value_at new (row_key tag a (b / 448)) ≡ value_at old (row_key tag a (b / 448)) → is_marked new tag a b ≡ is_marked old tag a b
mark-same old new tag a b e =
    ap (λ v. bit_at (slice_index (unwrap_or v (0 ∷ 0 ∷ 0 ∷ 0 ∷ 0 ∷ 0 ∷ 0 ∷ [])) (b % 448 / 64)) (b % 64) == 1) e

-- the row of another vertex stays
pub HasRow-other : (old new : List Entry) (tag n c a : ℕ) (row : ℕ → Bool)
    → LeavesOtherRows old new tag n c → (a ≡ c → ⊥) → HasRow old tag n a row → HasRow new tag n a row
HasRow-other old new tag n c a row left ne held b l =
    mark-same old new tag a b (left (row_key tag a (b / 448)) (λ of. ne (from-same tag a (b / 448) c of.0 of.2))) ∙ held b l

-- what changes only a row changes only its tag
pub LeavesOtherTags-row : (old new : List Entry) (tag n a : ℕ) → LeavesOtherRows old new tag n a → LeavesOtherTags old new tag
LeavesOtherTags-row old new tag n a left k apart = left k (λ of. apart (begins tag a of.0 k of.2))

-- ---- marks that are written

-- written marks are read
pub written-marks : (entries : List Entry) (tag n a : ℕ) (marked : ℕ → Bool) → AreWritten entries tag n a marked → HasRow entries tag n a marked
written-marks entries tag n a marked held b l =
    ap (λ ws. bit_at (slice_index ws (b % 448 / 64)) (b % 64) == 1) (held (b / 448) (omega (arith, l))) ∙ bit_in marked b

pub written-row : (entries : List Entry) (tag n a : ℕ) (row : ℕ → Bool) → IsWrittenRow entries tag n a row → HasRow entries tag n a row
written-row entries tag n a row held b l =
    written-marks entries tag n a (λ c. nat_lt c n && row c) held b l ∙ ap (λ t. t && row b) (lt-ltb b n l)

-- a list marks no number that isn't a place of it
pub marks-below : (marks : List Bool) (n : ℕ) (row : ℕ → Bool) → length marks ≡ n → ((b : ℕ) → b < n → mark_at marks b ≡ row b)
    → mark_at marks ≡ (λ b. nat_lt b n && row b)
marks-below marks n row size is = λ i b. point b i
  where
    point : (b : ℕ) → mark_at marks b ≡ (nat_lt b n && row b)
    point b = elim (cases_lt b n) [
      | inl l ↦ is b l ∙ sym (ap (λ t. t && row b) (lt-ltb b n l))
      | inr m ↦ get_or_past marks b false (omega (arith, m, size)) ∙ sym (ap (λ t. t && row b) (le-ltb b n m))
    ]

-- the marks of a list are written exactly where the row is
pub written-from_marks : (entries : List Entry) (tag n m a : ℕ) (marked row : ℕ → Bool) → m ≡ n → marked ≡ row
    → AreWritten entries tag m a marked → AreWritten entries tag n a row
written-from_marks entries tag n m a marked row size same held block l =
    held block (omega (arith, size, l)) ∙ ap (λ p. block_words p (block * 448)) same

-- a row of another vertex stays as it is written
pub written-other : (old new : List Entry) (tag n c a : ℕ) (marked : ℕ → Bool)
    → LeavesOtherRows old new tag n c → (a ≡ c → ⊥) → AreWritten old tag n a marked → AreWritten new tag n a marked
written-other old new tag n c a marked left ne held block l =
    ap (λ v. unwrap_or v (0 ∷ 0 ∷ 0 ∷ 0 ∷ 0 ∷ 0 ∷ 0 ∷ [])) (left (row_key tag a block) (λ of. ne (from-same tag a block c of.0 of.2))) ∙ held block l

-- ---- a row that is written block by block

pub record IsWriting (old new : Contents) (tag n a : ℕ) (marked : ℕ → Bool) (blocks : ℕ) : Type 0 where
  pub each : (d : ℕ) → d < blocks → words_at new.current (row_key tag a d) ≡ block_words marked (d * 448)
  pub others : LeavesOtherRows old.current new.current tag n a
  pub saved : new.saved ≡ old.saved
  pub unchanged : AreWritten old.current tag n a marked → new ≡ old

pub IsWriting-none : (old : Contents) (tag n a : ℕ) (marked : ℕ → Bool) → IsWriting old old tag n a marked 0
IsWriting-none old tag n a marked = record {
  each = λ b l. absurd (omega (arith, l));
  others = λ k apart. refl;
  saved = refl;
  unchanged = λ h. refl;
}

-- one block more
module _ (old now new : Contents) (tag n a : ℕ) (marked : ℕ → Bool) (block : ℕ) (key words : List ℕ)
    (is : key ≡ row_key tag a block) (l : block * 448 < n) (held : IsWriting old now tag n a marked block)
    (other : (k : List ℕ) → k ≢ key → value_at new.current k ≡ value_at now.current k) where
  pub others-more : LeavesOtherRows old.current new.current tag n a
  others-more k apart = other k (λ e. apart (block, l, e ∙ is)) ∙ held.others k apart

  module _ (spelled : words ≡ block_words marked (block * 448)) (same : words_at now.current key ≡ words → new ≡ now) where
    pub unchanged-more : AreWritten old.current tag n a marked → new ≡ old
    unchanged-more whole =
        let before = held.unchanged whole in
        same (ap (λ (s : Contents). words_at s.current key) before ∙ ap (words_at old.current) is ∙ whole block l ∙ sym spelled) ∙ before

    pub IsWriting-more : Writes now.current new.current key words → new.saved ≡ now.saved → IsWriting old new tag n a marked (block + 1)
    IsWriting-more put kept = record {
      each = λ d m. elim (cases_eq d block) [
        | inl e ↦ ap (λ c. words_at new.current (row_key tag a c)) e ∙ ap (words_at new.current) (sym is) ∙ put.this_key ∙ spelled
            ∙ ap (λ c. block_words marked (c * 448)) (sym e)
        | inr ne ↦ ap (λ v. unwrap_or v (0 ∷ 0 ∷ 0 ∷ 0 ∷ 0 ∷ 0 ∷ 0 ∷ [])) (other (row_key tag a d) (λ e. ne (block-same tag a d block (e ∙ is))))
            ∙ held.each d (omega (arith, m, ne))
      ];
      others = others-more;
      saved = kept ∙ held.saved;
      unchanged = unchanged-more;
    }

-- all blocks
pub IsWriting-all : (old new : Contents) (tag n a : ℕ) (marked : ℕ → Bool) (blocks : ℕ) → n ≤ blocks * 448
    → IsWriting old new tag n a marked blocks → AreWritten new.current tag n a marked
IsWriting-all old new tag n a marked blocks all held block l = held.each block (omega (arith, all, l))

-- ---- a row marks what walks lead to

abbrev pub MarksWalks : List Entry → ℕ → (ℕ → ℕ → Bool) → (ℕ → Bool) → ℕ → ℕ → Type 0
MarksWalks entries tag edge through n a = (b : ℕ) → b < n → (is_marked entries tag a b ≡ true) ↔ IsReachable edge through n a b

pub row-walks : (entries : List Entry) (tag : ℕ) (edge : ℕ → ℕ → Bool) (through : ℕ → Bool) (n a : ℕ)
    → HasRow entries tag n a (walk_below edge through n a) → MarksWalks entries tag edge through n a
row-walks entries tag edge through n a held b l = (
  λ t. IsReachable-from_walk_below edge through n a b (sym (held b l) ∙ t),
  λ w. held b l ∙ walk_below-from_IsWalk edge through n a w.0 b w.1,
)

-- ---- rows that are made one after another

pub record IsMaking (old new : Contents) (tag n : ℕ) (rows : ℕ → ℕ → Bool) (end : ℕ) : Type 0 where
  pub each : (a : ℕ) → a < end → IsWrittenRow new.current tag n a (rows a)
  pub others : LeavesOtherTags old.current new.current tag
  pub saved : new.saved ≡ old.saved
  pub unchanged : AreWrittenRows old.current tag n rows → new ≡ old

pub IsMaking-none : (old : Contents) (tag n : ℕ) (rows : ℕ → ℕ → Bool) → IsMaking old old tag n rows 0
IsMaking-none old tag n rows = record {
  each = λ a l. absurd (omega (arith, l));
  others = λ k apart. refl;
  saved = refl;
  unchanged = λ h. refl;
}

-- one row more
module _ (old now new : Contents) (tag n : ℕ) (rows : ℕ → ℕ → Bool) (a : ℕ) (within : a < n)
    (held : IsMaking old now tag n rows a) (left : LeavesOtherRows now.current new.current tag n a) where
  pub making-others : LeavesOtherTags old.current new.current tag
  making-others k apart = LeavesOtherTags-row now.current new.current tag n a left k apart ∙ held.others k apart

  module _ (same : IsWrittenRow now.current tag n a (rows a) → new ≡ now) where
    pub making-unchanged : AreWrittenRows old.current tag n rows → new ≡ old
    making-unchanged whole =
        let before = held.unchanged whole in
        same (subst (λ (s : Contents). IsWrittenRow s.current tag n a (rows a)) (sym before) (whole a within)) ∙ before

    pub IsMaking-more : IsWrittenRow new.current tag n a (rows a) → new.saved ≡ now.saved → IsMaking old new tag n rows (a + 1)
    IsMaking-more row kept = record {
      each = λ c l. elim (cases_eq c a) [
        | inl e ↦ subst (λ d. IsWrittenRow new.current tag n d (rows d)) (sym e) row
        | inr ne ↦ written-other now.current new.current tag n a c (λ b. nat_lt b n && rows c b) left ne (held.each c (omega (arith, l, ne)))
      ];
      others = making-others;
      saved = kept ∙ held.saved;
      unchanged = making-unchanged;
    }

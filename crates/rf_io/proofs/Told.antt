-- What is read piece by piece is the file, as far as the folder tells.
use Rattle.std.proofs.Common.{◌≡◌, ◌∙◌, ◌<◌, ◌≤◌, ◌+◌, ◌-◌, ℕ, arith, List, ◌++◌, Option, Some, None, IfSome, take, length, refl}
use Rattle.std.proofs.Math.Seq.{take-add}
use Rattle.std.proofs.lemmas.List.{length-append, length-drop, length-take-le, take_all}
use Rattle.rf_io.specs.Folder.{FolderState, IsMissing, IsTold, ReadsAt, Stores, told}

-- the bytes so far are a prefix of the file, and the next read goes on there
pub read_more :
    (folder now : FolderState) (name bytes more buf : List ℕ) (k at n k' : ℕ) → told now name ≡ told folder name → at ≡ k →
    more ≡ bytes ++ take n buf → k' ≡ k + n → ((file : List ℕ) → Stores folder name file → bytes ≡ take k file) →
    ((file : List ℕ) → Stores now name file → ReadsAt file at n buf) → (file : List ℕ) → Stores folder name file → more ≡ take k' file
read_more folder now name bytes more buf k at n k' same place joined count so_far read = λ file stored.
    let known : ReadsAt file k n buf = rw place at (read file (same ∙ stored)) in
    rw (joined, count, take-add k n file, so_far file stored, known.bytes) refl

-- what holds where nothing is told, and of a file that is told, holds as far as the folder tells
pub as_told :
    (T : List ℕ → Type 0) (folder : FolderState) (name read : List ℕ) → (IsMissing folder name → ⊥) → T read →
    ((file : List ℕ) → Stores folder name file → T file) → (bytes : List ℕ) × IsTold folder name bytes × T bytes
as_told T folder name read there unknown known = by_case (told folder name) refl
  where
    by_case : (o : Option (Option (List ℕ))) → told folder name ≡ o → (bytes : List ℕ) × IfSome o (λ file. file ≡ Some bytes) × T bytes
    by_case None is = (read, tt, unknown)
    by_case (Some None) is = absurd (there is)
    by_case (Some (Some file)) is = (file, refl, known file is)

-- the whole file was read, as far as the folder tells
pub whole_file :
    (folder : FolderState) (name read : List ℕ) → (IsMissing folder name → ⊥) → ((file : List ℕ) → Stores folder name file → read ≡ file) →
    IsTold folder name read
whole_file folder name read there known = by_case (told folder name) refl
  where
    by_case : (o : Option (Option (List ℕ))) → told folder name ≡ o → IfSome o (λ file. file ≡ Some read)
    by_case None is = tt
    by_case (Some None) is = absurd (there is)
    by_case (Some (Some file)) is = rw (known file is) refl

-- a read of nothing ends the file
pub read_to_end : (file bytes buf : List ℕ) (k at n : ℕ) → at ≡ k → n ≡ 0 → bytes ≡ take k file → ReadsAt file at n buf → bytes ≡ file
read_to_end file bytes buf k at n place none so_far reads =
    let short : length file ≤ k = grind (arith, place, none, reads.begun) in
    so_far ∙ take_all k file short

-- a read beyond the limit shows that the file is longer
pub read_beyond : (file buf : List ℕ) (k at n limit : ℕ) → at ≡ k → k ≤ limit → limit < k + n → ReadsAt file at n buf → limit < length file
read_beyond file buf k at n limit place before beyond reads =
    let more : n ≤ length file - at = rw (length-drop at file) at reads.within in
    omega (arith, place, before, beyond, more)

-- what was read beyond the limit is longer than it
pub long_read : (bytes buf : List ℕ) (k n limit : ℕ) → length bytes ≡ k → n ≤ length buf → limit < k + n → limit < length (bytes ++ take n buf)
long_read bytes buf k n limit is bound beyond = rw (length-append, length-take-le n buf bound, is) beyond

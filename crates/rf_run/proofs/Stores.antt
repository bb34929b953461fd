-- What is told of files, before and after reads.
use Rattle.std.proofs.Common.{◌≡◌, ℕ, List, [], Option, None, Some, IfSome, refl, sym, arith, subst, ◌∙◌}
use Rattle.rf_io.specs.Folder.{FolderState, IsMissing, IsTold, NoneFell, ReadFailed, SameFiles, Stores, told}
use Rattle.rf_run.specs.Ends.{IsRead, IsStored, NoReadFailed}

-- a file that is told has the bytes that are stored
pub told_stored : (s : FolderState) (name bytes file : List ℕ) → IsTold s name bytes → Stores s name file → bytes ≡ file
told_stored s name bytes file is_told stores = same (told s name) is_told stores
  where
    same : (o : Option (Option (List ℕ))) → IfSome o (λ f. f ≡ Some bytes) → o ≡ Some (Some file) → bytes ≡ file
    same None is_told stores = absurd cc
    same (Some f) is_told stores = cc

-- a file that is told isn't missing
pub told_there : (s : FolderState) (name bytes : List ℕ) → IsTold s name bytes → IsMissing s name → ⊥
told_there s name bytes is_told missing = never (told s name) is_told missing
  where
    never : (o : Option (Option (List ℕ))) → IfSome o (λ f. f ≡ Some bytes) → o ≡ Some None → ⊥
    never None is_told missing = cc
    never (Some f) is_told missing = cc

-- what is told stays told
pub told_same : (s m : FolderState) (name bytes : List ℕ) → SameFiles s m → IsTold m name bytes → IsTold s name bytes
told_same s m name bytes same is_told = subst (λ o. IfSome o (λ f. f ≡ Some bytes)) (same name) is_told

-- the bytes of a file, as far as the folder tells
abbrev pub bytes_in : Option (Option (List ℕ)) → List ℕ
bytes_in None = []
bytes_in (Some None) = []
bytes_in (Some (Some file)) = file

abbrev pub bytes_of : FolderState → Option (List ℕ) → List ℕ
bytes_of s None = []
bytes_of s (Some name) = bytes_in (told s name)

pub bytes_read : (s : FolderState) (file : Option (List ℕ)) → IsRead s file (bytes_of s file)
bytes_read s None = refl
bytes_read s (Some name) = λ file stores. by_case (told s name) file stores
  where
    by_case : (o : Option (Option (List ℕ))) (file : List ℕ) → o ≡ Some (Some file) → bytes_in o ≡ file
    by_case None file stores = absurd cc
    by_case (Some None) file stores = absurd cc
    by_case (Some (Some f)) file stores = cc

-- a file that is told was read
pub read_told : (s : FolderState) (file : Option (List ℕ)) (name bytes : List ℕ) → file ≡ Some name → IsTold s name bytes → IsRead s file bytes
read_told s file name bytes is is_told = rw is (λ stored stores. told_stored s name bytes stored is_told stores)

-- a read that failed after others, failed among all
pub failed_later : (s m n : FolderState) (name : List ℕ) → NoneFell s m → ReadFailed m n name → ReadFailed s n name
failed_later s m n name later failed = omega (arith, later name, failed)

pub failed_earlier : (s m n : FolderState) (name : List ℕ) → NoneFell m n → ReadFailed s m name → ReadFailed s n name
failed_earlier s m n name later failed = omega (arith, later name, failed)

-- what was read, and what is stored, are the same where a folder tells the same
pub read_same : (s m : FolderState) (file : Option (List ℕ)) (bytes : List ℕ) → SameFiles s m → IsRead m file bytes → IsRead s file bytes
read_same s m None bytes same read = read
read_same s m (Some name) bytes same read = λ stored stores. read stored (same name ∙ stores)

pub stored_same : (s m : FolderState) (file : Option (List ℕ)) (bytes : List ℕ) → SameFiles s m → IsStored s file bytes → IsStored m file bytes
stored_same s m None bytes same stored = stored
stored_same s m (Some name) bytes same stored = same name ∙ stored

-- no read that failed among all, none that failed after some
pub unfailed_later : (s m n : FolderState) (file : Option (List ℕ)) → NoneFell s m → NoReadFailed s n file → NoReadFailed m n file
unfailed_later s m n None later unfailed = unfailed
unfailed_later s m n (Some name) later unfailed = λ failed. unfailed (failed_later s m n name later failed)

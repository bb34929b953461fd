use Rattle.std.proofs.Common.{◌≡◌, ◌≤◌, ◌-◌, ◌+◌, ℕ, List, take, vec_len}
use Rattle.rf_io.specs.Folder.{NoneFell, SameFiles, Stores}
use Rattle.rf_io.proofs.read.read_file.Given as goal

abbrev pub invariant-loop-count : goal.invariant-loop-count
invariant-loop-count g l = record {
  within : vec_len l.bytes ≤ l.limit;
  told : (file : List ℕ) → Stores (g.F.Folder.state l.initial.folder) l.name file → l.bytes.items ≡ take (vec_len l.bytes) file;
  same : SameFiles (g.F.Folder.state l.initial.folder) (g.F.Folder.state l.folder);
  later : NoneFell (g.F.Folder.state l.initial.folder) (g.F.Folder.state l.folder);
}

abbrev pub decreases-loop-count : goal.decreases-loop-count
decreases-loop-count g l = l.limit + 1 - vec_len l.bytes

-- Folders and sinks in memory: what is known of them beyond what every folder and sink promises.
use Rattle.std.specs.Prelude.{◌+◌, ◌-◌, ◌^◌, ℕ, Bool, if◌then◌else◌, List, ◌++◌, Option, Some, find, min}
use Rattle.std.specs.Option.{option_map}
use Rattle.std.specs.Str.{bytes_eq}
use Rattle.std.specs.declared.vec.Vec.{Vec}
use Rattle.std.specs.declared.alloc.Global.{Global}
use Rattle.rf_io.specs.Folder.{FolderState}
use Rattle.rf_io.specs.Sink.{SinkState}

-- a count that stands still at the end of its type
abbrev pub raised : ℕ → ℕ
raised n = min (n + 1) (2 ^ 64 - 1)

-- the bytes of the first file with this name
abbrev pub file_named : List (List ℕ × Vec ℕ Global) → List ℕ → Option (List ℕ)
file_named files name = option_map (λ f. f.1.items) (find (λ f. bytes_eq f.0 name) files)

-- files in memory: which calls fail, by their numbers; the most bytes that a call gives; how many
-- calls were made, and how many of them failed
pub record MemoryFolder : Type 0 where
  pub files : List (List ℕ × Vec ℕ Global)
  pub failing : List ℕ
  pub step : ℕ
  pub calls : ℕ
  pub faults : ℕ

-- files in memory, as a folder: they are told, and one count serves all names
abbrev pub folder_state : MemoryFolder → FolderState
folder_state m = record { files = Some (file_named m.files); faults = λ name. m.faults }

-- the folder after a call, which failed or did not
abbrev pub folder_after : MemoryFolder → Bool → MemoryFolder
folder_after m failed = record m { calls = raised m.calls; faults = if failed then raised m.faults else m.faults }

-- a sink in memory: the bytes written, and the room for them; the rest as for a folder
pub record MemorySink : Type 0 where
  pub bytes : List ℕ
  pub room : ℕ
  pub failing : List ℕ
  pub step : ℕ
  pub calls : ℕ
  pub faults : ℕ

-- a sink in memory, as a sink: the bytes are told
abbrev pub sink_state : MemorySink → SinkState
sink_state m = record { contents = Some m.bytes; faults = m.faults }

-- the sink after a call that failed
abbrev pub sink_failed : MemorySink → MemorySink
sink_failed m = record m { calls = raised m.calls; faults = raised m.faults }

-- the sink after a call that took these bytes
abbrev pub sink_after : MemorySink → List ℕ → MemorySink
sink_after m taken = record m { bytes = m.bytes ++ taken; calls = raised m.calls }

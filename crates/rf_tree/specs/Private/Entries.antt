-- The lines of a document one by one: what each says, and where the next one stands.
use Rattle.std.specs.Prelude.{◌≡◌, ℕ, Option, None, Some, List, codes}
use Rattle.rf_tree.specs.Document.{IsWritable, head, line_text}
use Rattle.rf_tree.specs.Reading.{Stage, after_end, inside, line_limit, outside}
use Rattle.rf_tree.specs.declared.entry.Entry.{Entry}
use Rattle.rf_tree.specs.declared.entry.Entry.TheVariants as entry
use Rattle.rf_tree.specs.declared.entry.Place.{Place}
use Rattle.rf_tree.specs.declared.entry.Place.TheVariants as place
use Rattle.rf_tree.specs.declared.line.Line.{Line}

-- where the next line stands after what was read
abbrev pub place_of : Stage → Place
place_of outside = place.Outside
place_of (inside format lines) = place.Inside format
place_of (after_end format lines) = place.AfterEnd

-- how many bytes it may have there
abbrev pub room_of : Place → ℕ
room_of place.Outside = 256
room_of (place.Inside format) = line_limit format
room_of place.AfterEnd = 0
room_of place.Bad = 0

-- the text is that of an entry, which may stand there
abbrev pub IsEntry : Place → List ℕ → Entry → Type 0
IsEntry place.Outside text (entry.Head format) = text ≡ head format
IsEntry (place.Inside format) text (entry.Line line) = IsWritable format line × (text ≡ line_text line)
IsEntry (place.Inside format) text entry.End = text ≡ codes "end"
IsEntry _ text _ = ⊥

-- where the line after it stands, and the line of the tree that it is
abbrev pub place_after : Place → Entry → Place
place_after p (entry.Head format) = place.Inside format
place_after p (entry.Line line) = p
place_after p entry.End = place.AfterEnd

abbrev pub line_in : Entry → Option Line
line_in (entry.Line line) = Some line
line_in _ = None

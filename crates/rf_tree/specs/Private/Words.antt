-- How the words of lines are written.
use Rattle.std.specs.Prelude.{ℕ, List, codes}
use Rattle.rf_tree.specs.declared.word.Tail.{Tail}
use Rattle.rf_tree.specs.declared.word.Tail.TheVariants.{First, Second, Source, Target}
use Rattle.rf_tree.specs.declared.word.Word.{Word}
use Rattle.rf_tree.specs.declared.word.Word.TheVariants.{Acyclic, Alone, Broken, Clash, ContainCount, Empty, Forced, Fresh, Full, Kind, MustContain, Need, NeedCount, NoClass, NoContainer, OneContainer, Ref, Room, ScopeBottom, ScopeIn, ScopeOut, ScopeTop, Src, Tgt, TypeLow, Under}

-- how the words are written
abbrev pub word_spelling : Word → List ℕ
word_spelling Empty = codes "empty"
word_spelling NoClass = codes "no-class"
word_spelling Src = codes "src"
word_spelling Tgt = codes "tgt"
word_spelling Clash = codes "clash"
word_spelling Full = codes "full"
word_spelling Room = codes "room"
word_spelling Need = codes "need"
word_spelling NeedCount = codes "need-count"
word_spelling TypeLow = codes "type-low"
word_spelling OneContainer = codes "one-container"
word_spelling Alone = codes "alone"
word_spelling MustContain = codes "must-contain"
word_spelling ContainCount = codes "contain-count"
word_spelling NoContainer = codes "no-container"
word_spelling Acyclic = codes "acyclic"
word_spelling Under = codes "under"
word_spelling ScopeTop = codes "scope-top"
word_spelling ScopeBottom = codes "scope-bottom"
word_spelling ScopeOut = codes "scope-out"
word_spelling ScopeIn = codes "scope-in"
word_spelling Broken = codes "broken"
word_spelling Forced = codes "forced"
word_spelling Fresh = codes "new"
word_spelling Kind = codes "type"
word_spelling Ref = codes "ref"

abbrev pub tail_spelling : Tail → List ℕ
tail_spelling Target = codes "target"
tail_spelling Source = codes "source"
tail_spelling First = codes "first"
tail_spelling Second = codes "second"

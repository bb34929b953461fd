-- A reader of lines follows the bytes that it is fed.
use Rattle.std.proofs.Common.{Option, None, Some, ◌≡◌, ◌≢◌, ◌∙◌, ℕ, ◌<◌, ◌≤◌, ◌+◌, List, [], ◌∷◌, ◌++◌, length, refl, sym, ap, subst, arith, append_assoc, Option, inl, inr, length-append}
use Rattle.std.specs.Prelude.{option_to_list}
use Rattle.std.proofs.lemmas.List.{append-nil, take-append-le}
use Rattle.std.proofs.lemmas.List.Elements.{All-append, All-nil, All-take}
use Rattle.rf_text.specs.Line.{IsLine, NoBreak, joined_lines}
use Rattle.rf_tree.specs.Private.Entries.{IsEntry, line_in, place_after, place_of, room_of}
use Rattle.rf_tree.specs.Private.Readers.{Follows, HasMet, HoldsLine, IsInPiece, ReadsMore}
use Rattle.rf_tree.specs.Reading.{IsBad, IsReadTo, IsTooLong, Stage, after_end, inside, lines_in, outside, room_at, texts_in}
use Rattle.rf_tree.specs.declared.entry.Entry.{Entry}
use Rattle.rf_tree.specs.declared.entry.Place.{Place}
use Rattle.rf_tree.specs.declared.entry.Place.TheVariants as place
use Rattle.rf_tree.specs.declared.line.Line.{Line}
use Rattle.rf_tree.specs.declared.line_reader.LineReader.{LineReader}
use Rattle.rf_tree.proofs.DocumentLemmas.{entry_read, refused_there, stage_after}

room_there : (stage : Stage) → room_of (place_of stage) ≡ room_at stage
room_there outside = refl
room_there (inside format lines) = refl
room_there (after_end format lines) = refl

-- what was read of bytes was read of more bytes, and a line that is bad stays so
pub read_before : (bytes more : List ℕ) (stage : Stage) (rest : List ℕ) → IsReadTo bytes stage rest → IsReadTo (bytes ++ more) stage (rest ++ more)
read_before bytes more stage rest read = record {
  possible = read.possible;
  begun = ap (λ b. b ++ more) read.begun ∙ append_assoc (joined_lines (texts_in stage)) rest more;
}

long_before : (stage : Stage) (rest more : List ℕ) → IsTooLong stage rest → IsTooLong stage (rest ++ more)
long_before stage rest more long = record {
  long = omega (arith, long.long, length-append rest more);
  whole = subst NoBreak (sym (take-append-le (room_at stage + 1) rest more (omega (arith, long.long)))) long.whole;
}

pub bad_before : (stage : Stage) (rest more : List ℕ) → IsBad stage rest → IsBad stage (rest ++ more)
bad_before stage rest more (inl bad) = inl (record {
  text = bad.text;
  more = bad.more ++ more;
  ended = ap (λ b. b ++ more) bad.ended ∙ append_assoc bad.text (10 ∷ bad.more) more;
  whole = bad.whole;
  refused = bad.refused;
})
bad_before stage rest more (inr long) = inr (long_before stage rest more long)

-- once a bad line was met it stays met
stays_met :
    (old new : LineReader) (bytes more : List ℕ) (lines : List Line) (f : Follows old bytes lines) → HasMet old f.stage f.rest
    → new.place ≡ place.Bad → new.number ≡ old.number → Follows new (bytes ++ more) (lines ++ [])
stays_met old new bytes more lines f met stuck count = record {
  stage = f.stage;
  rest = f.rest ++ more;
  read = read_before bytes more f.stage f.rest f.read;
  held = inr (record { place = stuck; bad = bad_before f.stage f.rest more met.bad });
  number = count ∙ f.number;
  given = append-nil lines ∙ f.given;
}

-- a line that would be too long is bad
now_long :
    (old new : LineReader) (bytes text more : List ℕ) (lines : List Line) (f : Follows old bytes lines) → HoldsLine old f.stage f.rest
    → room_of old.place < length old.part + length text → NoBreak text → new.place ≡ place.Bad → new.number ≡ old.number
    → Follows new (bytes ++ (text ++ more)) (lines ++ [])
now_long old new bytes text more lines f holds over whole stuck count =
    let room : room_of old.place ≡ room_at f.stage = ap room_of holds.place ∙ room_there f.stage in
    let size : length f.rest ≡ length old.part = ap length holds.held in
    let whole_line : NoBreak (f.rest ++ text) = All-append (λ b. b ≢ 10) f.rest text holds.unended.whole whole in
    let long : IsTooLong f.stage (f.rest ++ text) = record {
      long = omega (arith, over, room, size, length-append f.rest text);
      whole = All-take (λ b. b ≢ 10) (room_at f.stage + 1) (f.rest ++ text) whole_line;
    } in
    record {
      stage = f.stage;
      rest = f.rest ++ (text ++ more);
      read = read_before bytes (text ++ more) f.stage f.rest f.read;
      held = inr (record { place = stuck; bad = inr (subst (IsTooLong f.stage) (append_assoc f.rest text more) (long_before f.stage (f.rest ++ text) more long)) });
      number = count ∙ f.number;
      given = append-nil lines ∙ f.given;
    }

pub too_long :
    (old new : LineReader) (text more : List ℕ) → room_of old.place < length old.part + length text → NoBreak text
    → new.place ≡ place.Bad → new.number ≡ old.number → ReadsMore old new (text ++ more) []
too_long old new text more over whole stuck count bytes lines f = elim f.held [
  | inl holds ↦ now_long old new bytes text more lines f holds over whole stuck count
  | inr met ↦ stays_met old new bytes (text ++ more) lines f met stuck count
]

pub too_long_so_far :
    (old new : LineReader) (text : List ℕ) → room_of old.place < length old.part + length text → NoBreak text
    → new.place ≡ place.Bad → new.number ≡ old.number → ReadsMore old new text []
too_long_so_far old new text over whole stuck count = subst (λ t. ReadsMore old new t []) (append-nil text) (too_long old new text [] over whole stuck count)

-- a part of a line that isn't too long is kept
pub kept :
    (old new : LineReader) (text : List ℕ) → length old.part + length text ≤ room_of old.place → NoBreak text
    → new.place ≡ old.place → new.number ≡ old.number → new.part ≡ old.part ++ text → ReadsMore old new text []
kept old new text few whole same count part bytes lines f = elim f.held [
  | inl holds ↦ record {
    stage = f.stage;
    rest = f.rest ++ text;
    read = read_before bytes text f.stage f.rest f.read;
    held = inl (record {
      place = same ∙ holds.place;
      held = ap (λ b. b ++ text) holds.held ∙ sym part;
      unended = record {
        short = omega (arith, few, ap room_of holds.place ∙ room_there f.stage, ap length holds.held, length-append f.rest text);
        whole = All-append (λ b. b ≢ 10) f.rest text holds.unended.whole whole;
      };
    });
    number = count ∙ f.number;
    given = append-nil lines ∙ f.given;
  }
  | inr met ↦ stays_met old new bytes text lines f met (same ∙ met.place) count
]

-- a line that says nothing that may stand there is bad
pub refused :
    (old new : LineReader) (text : List ℕ) → NoBreak text → ((e : Entry) → IsEntry old.place (old.part ++ text) e → ⊥)
    → new.place ≡ place.Bad → new.number ≡ old.number → ReadsMore old new (text ++ 10 ∷ []) []
refused old new text whole none stuck count bytes lines f = elim f.held [
  | inl holds ↦ record {
    stage = f.stage;
    rest = f.rest ++ (text ++ 10 ∷ []);
    read = read_before bytes (text ++ 10 ∷ []) f.stage f.rest f.read;
    held = inr (record {
      place = stuck;
      bad = inl (record {
        text = f.rest ++ text;
        more = [];
        ended = sym (append_assoc f.rest text (10 ∷ []));
        whole = All-append (λ b. b ≢ 10) f.rest text holds.unended.whole whole;
        refused = refused_there f.stage (f.rest ++ text) f.read.possible
            (λ e is. none e (subst (λ p. IsEntry p (old.part ++ text) e) (sym holds.place) (subst (λ b. IsEntry (place_of f.stage) (b ++ text) e) holds.held is)));
      });
    });
    number = count ∙ f.number;
    given = append-nil lines ∙ f.given;
  }
  | inr met ↦ stays_met old new bytes (text ++ 10 ∷ []) lines f met stuck count
]

-- nothing may stand after a bad line
none_stuck : (text : List ℕ) (e : Entry) (p : Place) → p ≡ place.Bad → IsEntry p text e → ⊥
none_stuck text e p stuck is = subst (λ q. IsEntry q text e) stuck is

-- a line that may stand there is read
pub taken :
    (old new : LineReader) (text : List ℕ) (e : Entry) (line : Option Line) → IsEntry old.place (old.part ++ text) e
    → new.place ≡ place_after old.place e → new.number ≡ old.number + 1 → new.part ≡ [] → line ≡ line_in e
    → ReadsMore old new (text ++ 10 ∷ []) (option_to_list line)
taken old new text e line is after count empty same bytes lines f = elim f.held [
  | inl holds ↦ (
      let there : IsEntry (place_of f.stage) (f.rest ++ text) e =
      subst (λ p. IsEntry p (f.rest ++ text) e) holds.place (subst (λ b. IsEntry old.place (b ++ text) e) (sym holds.held) is) in
      let read : IsReadTo (bytes ++ (text ++ 10 ∷ [])) f.stage ((f.rest ++ text) ++ 10 ∷ []) =
      subst (IsReadTo (bytes ++ (text ++ 10 ∷ [])) f.stage) (sym (append_assoc f.rest text (10 ∷ []))) (read_before bytes (text ++ 10 ∷ []) f.stage f.rest f.read) in
      let next = entry_read (bytes ++ (text ++ 10 ∷ [])) f.stage (f.rest ++ text) [] e read there in
      record {
        stage = stage_after f.stage e;
        rest = [];
        read = next.read;
        held = inl (record {
          place = after ∙ ap (λ p. place_after p e) holds.place ∙ sym next.place;
          held = sym empty;
          unended = record { short = omega arith; whole = All-nil (λ b. b ≢ 10) };
        });
        number = count ∙ ap (λ n. n + 1) f.number ∙ ap (λ n. n + 1) (sym next.count);
        given = ap (λ l. l ++ option_to_list line) f.given ∙ ap (λ l. lines_in f.stage ++ option_to_list l) same ∙ sym next.lines;
      })
  | inr met ↦ absurd (none_stuck (old.part ++ text) e old.place met.place is)
]

-- a piece line by line
pub piece_begun : (reader : LineReader) (piece : List ℕ) → IsInPiece reader reader piece piece []
piece_begun reader piece = record {
  taken = [];
  joined = refl;
  read = λ bytes lines f. subst (λ b. Follows reader b (lines ++ [])) (sym (append-nil bytes)) (subst (Follows reader bytes) (sym (append-nil lines)) f);
}

pub piece_more :
    (old mid new : LineReader) (piece rest text after : List ℕ) (a b : List Line) → IsInPiece old mid piece rest a → IsLine rest text after
    → ReadsMore mid new (text ++ 10 ∷ []) b → IsInPiece old new piece after (a ++ b)
piece_more old mid new piece rest text after a b so line more = record {
  taken = so.taken ++ (text ++ 10 ∷ []);
  joined = so.joined ∙ ap (λ r. so.taken ++ r) (line.joined ∙ sym (append_assoc text (10 ∷ []) after)) ∙ sym (append_assoc so.taken (text ++ 10 ∷ []) after);
  read = λ bytes lines f.
      subst (λ x. Follows new x (lines ++ (a ++ b))) (append_assoc bytes so.taken (text ++ 10 ∷ []))
      (subst (Follows new ((bytes ++ so.taken) ++ (text ++ 10 ∷ []))) (append_assoc lines a b) (more (bytes ++ so.taken) (lines ++ a) (so.read bytes lines f)));
}

pub piece_done :
    (old mid new : LineReader) (piece rest : List ℕ) (a : List Line) → IsInPiece old mid piece rest a → ReadsMore mid new rest [] → ReadsMore old new piece a
piece_done old mid new piece rest a so more bytes lines f =
    subst (λ x. Follows new x (lines ++ a)) (append_assoc bytes so.taken rest ∙ ap (λ p. bytes ++ p) (sym so.joined))
    (subst (Follows new ((bytes ++ so.taken) ++ rest)) (append-nil (lines ++ a)) (more (bytes ++ so.taken) (lines ++ a) (so.read bytes lines f)))

-- a line, with its line feed, is shorter than what begins with it
pub shorter : (rest text after : List ℕ) → IsLine rest text after → length after + 1 ≤ length rest
shorter rest text after line = omega (arith, ap length line.joined, length-append text (10 ∷ after))

-- an option has one element at most
pub few-in_option : {X : Type 0} (o : Option X) → length (option_to_list o) ≤ 1
few-in_option None = omega arith
few-in_option (Some x) = omega arith

-- What one word does to the walk of a reader.
use Rattle.std.proofs.Common.{◌≡◌, ℕ, Bool, true, false, not, ◌==◌, List, [], ◌∷◌, Option, Some, None, codes, refl}
use Rattle.std.proofs.Math.Bool.{and-false}
use Rattle.clap.specs.Walk.{Held, Row, Waiting, Walk, idle, is_pending, option, positional, settled_rows, walked}
use Rattle.clap.specs.Faults.{settle_fault, turn_fault}
use Rattle.clap.specs.declared.error.kind.ErrorKind.TheVariants as kind
use Rattle.rf_words.specs.Arguments.{Text, is_among, is_plain, name_of_option, value_of_option}
use Rattle.rf_words.specs.Reader.{are_names}
use Rattle.rf_words.proofs.Rows.{add, same_text}
use Rattle.rf_words.proofs.Readers.{by_id, by_long, plain_filled, rules, shape}

abbrev pub Pending : Type 0
Pending = Option (Text × List Text)

abbrev pub held : Pending → List Row → Held
held pending rows = record { rows = rows; pending = pending; skip = 0 }

abbrev pub standing : Pending → List Row → Waiting → Walk
standing pending rows waiting =
    record { held = held pending rows; waiting = waiting; position = 1; is_trailing = false; stopped = None }

-- no option waits for its value
abbrev pub IsIdle : Waiting → Type 0
IsIdle idle = Unit {0}
IsIdle (option id) = ⊥
IsIdle positional = Unit {0}

no_dash : (x : ℕ) → not (x == 45) ≡ true → (x == 45) ≡ false
no_dash x e = go (x == 45) refl e
  where
    go : (b : Bool) → (x == 45) ≡ b → not b ≡ true → (x == 45) ≡ false
    go true e f = cc
    go false e f = e

pub plain_fault :
    (names : List Text) (pending : Pending) (rows : List Row) (waiting : Waiting) (word : Text) → is_plain word ≡ true → IsIdle waiting →
    settle_fault (rules names) false (held pending rows) ≡ [] → turn_fault (shape names) [] (standing pending rows waiting) word ≡ []
plain_fault names pending rows waiting [] plain at fine = cc
plain_fault names pending rows (option id) (x ∷ xs) plain at fine = absurd at
plain_fault names pending rows idle (x ∷ xs) plain at fine =
    let e = no_dash x plain in
    rw (e, e, and-false (is_pending plain_filled pending)) fine
plain_fault names pending rows positional (x ∷ xs) plain at fine =
    let e = no_dash x plain in
    rw (e, e, and-false (is_pending plain_filled pending)) fine

pub plain_walked :
    (names : List Text) (pending : Pending) (rows : List Row) (waiting : Waiting) (word : Text) → is_plain word ≡ true → IsIdle waiting →
    walked (rules names) [] (standing pending rows waiting) word
    ≡ standing (Some (codes "plain", word ∷ [])) (settled_rows (rules names) pending rows) positional
unfolding walked
plain_walked names pending rows waiting [] plain at = cc
plain_walked names pending rows (option id) (x ∷ xs) plain at = absurd at
plain_walked names pending rows idle (x ∷ xs) plain at =
    let e = no_dash x plain in
    rw (e, e, and-false (is_pending plain_filled pending)) refl
plain_walked names pending rows positional (x ∷ xs) plain at =
    let e = no_dash x plain in
    rw (e, e, and-false (is_pending plain_filled pending)) refl

pub value_fault :
    (names : List Text) (name : Text) (rows : List Row) (word : Text) → is_plain word ≡ true →
    turn_fault (shape names) [] (standing (Some (name, [])) rows (option name)) word ≡ []
value_fault names name rows [] plain = cc
value_fault names name rows (x ∷ xs) plain =
    let e = no_dash x plain in
    rw (e, e) refl

pub value_walked :
    (names : List Text) (name : Text) (rows : List Row) (word : Text) → is_plain word ≡ true → is_among names name ≡ true → are_names names ≡ true →
    walked (rules names) [] (standing (Some (name, [])) rows (option name)) word ≡ standing (Some (name, word ∷ [])) rows idle
unfolding walked
value_walked names name rows [] plain among names_fit = cc
value_walked names name rows (x ∷ xs) plain among names_fit =
    let e = no_dash x plain in
    let found = by_id names name among names_fit in
    rw (e, e, found, same_text name) refl

-- the word of an option, after its two dashes
abbrev pub dashed : ℕ → Text → Text
dashed x xs = 45 ∷ 45 ∷ x ∷ xs

pub given_fault :
    (names : List Text) (pending : Pending) (rows : List Row) (waiting : Waiting) (x : ℕ) (xs value : Text) → IsIdle waiting →
    value_of_option (x ∷ xs) ≡ Some value → is_among names (name_of_option (x ∷ xs)) ≡ true → settle_fault (rules names) false (held pending rows) ≡ [] →
    turn_fault (shape names) [] (standing pending rows waiting) (dashed x xs) ≡ []
given_fault names pending rows (option id) x xs value at long among fine = absurd at
given_fault names pending rows idle x xs value at long among fine =
    let found = by_long names (name_of_option (x ∷ xs)) among in
    rw (found, long, fine) refl
given_fault names pending rows positional x xs value at long among fine =
    let found = by_long names (name_of_option (x ∷ xs)) among in
    rw (found, long, fine) refl

pub given_walked :
    (names : List Text) (pending : Pending) (rows : List Row) (waiting : Waiting) (x : ℕ) (xs value : Text) → IsIdle waiting →
    value_of_option (x ∷ xs) ≡ Some value → is_among names (name_of_option (x ∷ xs)) ≡ true →
    walked (rules names) [] (standing pending rows waiting) (dashed x xs) ≡ standing None (add (name_of_option (x ∷ xs)) value (settled_rows (rules names) pending rows)) idle
unfolding walked
given_walked names pending rows (option id) x xs value at long among = absurd at
given_walked names pending rows idle x xs value at long among =
    let found = by_long names (name_of_option (x ∷ xs)) among in
    rw (found, long) refl
given_walked names pending rows positional x xs value at long among =
    let found = by_long names (name_of_option (x ∷ xs)) among in
    rw (found, long) refl

pub alone_fault :
    (names : List Text) (pending : Pending) (rows : List Row) (waiting : Waiting) (x : ℕ) (xs : Text) → IsIdle waiting →
    value_of_option (x ∷ xs) ≡ None → is_among names (name_of_option (x ∷ xs)) ≡ true → settle_fault (rules names) false (held pending rows) ≡ [] →
    turn_fault (shape names) [] (standing pending rows waiting) (dashed x xs) ≡ []
alone_fault names pending rows (option id) x xs at long among fine = absurd at
alone_fault names pending rows idle x xs at long among fine =
    let found = by_long names (name_of_option (x ∷ xs)) among in
    rw (found, long, fine) refl
alone_fault names pending rows positional x xs at long among fine =
    let found = by_long names (name_of_option (x ∷ xs)) among in
    rw (found, long, fine) refl

pub alone_walked :
    (names : List Text) (pending : Pending) (rows : List Row) (waiting : Waiting) (x : ℕ) (xs : Text) → IsIdle waiting →
    value_of_option (x ∷ xs) ≡ None → is_among names (name_of_option (x ∷ xs)) ≡ true →
    walked (rules names) [] (standing pending rows waiting) (dashed x xs)
    ≡ standing (Some (name_of_option (x ∷ xs), [])) (settled_rows (rules names) pending rows) (option (name_of_option (x ∷ xs)))
unfolding walked
alone_walked names pending rows (option id) x xs at long among = absurd at
alone_walked names pending rows idle x xs at long among =
    let found = by_long names (name_of_option (x ∷ xs)) among in
    rw (found, long) refl
alone_walked names pending rows positional x xs at long among =
    let found = by_long names (name_of_option (x ∷ xs)) among in
    rw (found, long) refl

-- an option whose value is missing
pub unsettled :
    (names : List Text) (name : Text) (rows : List Row) → is_among names name ≡ true → are_names names ≡ true →
    settle_fault (rules names) false (held (Some (name, [])) rows) ≡ kind.InvalidValue ∷ []
unsettled names name rows among names_fit =
    let found = by_id names name among names_fit in
    rw found refl

pub missing_fault :
    (names : List Text) (waits : Text) (rows : List Row) (x : ℕ) (xs : Text) (value : Option Text) →
    value_of_option (x ∷ xs) ≡ value → is_among names (name_of_option (x ∷ xs)) ≡ true → is_among names waits ≡ true → are_names names ≡ true →
    turn_fault (shape names) [] (standing (Some (waits, [])) rows (option waits)) (dashed x xs) ≡ kind.InvalidValue ∷ []
missing_fault names waits rows x xs None long among known names_fit =
    let found = by_long names (name_of_option (x ∷ xs)) among in
    let open_yet = unsettled names waits rows known names_fit in
    rw (found, long, open_yet) refl
missing_fault names waits rows x xs (Some value) long among known names_fit =
    let found = by_long names (name_of_option (x ∷ xs)) among in
    let open_yet = unsettled names waits rows known names_fit in
    rw (found, long, open_yet) refl

-- what is pending where a value or a plain word is
pub plain_settled :
    (names : List Text) (word : Text) (rows : List Row) →
    (settled_rows (rules names) (Some (codes "plain", word ∷ [])) rows ≡ add (codes "plain") word rows)
    × (settle_fault (rules names) false (held (Some (codes "plain", word ∷ [])) rows) ≡ [])
plain_settled names word rows = (refl, refl)

pub value_settled :
    (names : List Text) (name word : Text) (rows : List Row) → is_among names name ≡ true → are_names names ≡ true →
    (settled_rows (rules names) (Some (name, word ∷ [])) rows ≡ add name word rows)
    × (settle_fault (rules names) false (held (Some (name, word ∷ [])) rows) ≡ [])
value_settled names name word rows among names_fit =
    let found = by_id names name among names_fit in
    (rw found refl, rw found refl)

-- The walk of a reader over checked words, and what they say.
use Rattle.std.proofs.Common.{◌≡◌, ℕ, Bool, true, false, not, ◌&&◌, ◌||◌, ◌==◌, List, [], ◌∷◌, ◌++◌, fold, Option, Some, None, option_map, option_and_then, codes, if◌then◌else◌, refl, sym, subst, ◌∙◌, ap, ap₂, append_assoc, append-nil, is_some}
use Rattle.std.specs.List.{list_all}
use Rattle.std.specs.Str.{bytes_eq}
use Rattle.clap.specs.Kinds.{Kinds, or_else}
use Rattle.clap.specs.Walk.{Row, Waiting, Walk, idle, option, positional, settled_rows, walked}
use Rattle.clap.specs.Faults.{settle_fault, turn_fault, walk_fault}
use Rattle.std.proofs.lemmas.Bool.Decides.{Decides-eqb}
use Rattle.clap.specs.declared.error.kind.ErrorKind.TheVariants as kind
use Rattle.rf_words.specs.Arguments.{Arguments, Text, is_among, is_plain, name_of_option, option_of, said_from, value_of_option, values_of, with_plain, with_value}
use Rattle.rf_words.specs.Reader.{are_names, is_word}
use Rattle.rf_words.specs.Reader.{values_at}
use Rattle.rf_words.proofs.Rows.{add, is_text, same_text, values_other, values_same}
use Rattle.rf_words.proofs.Readers.{both, differs_here, empty_apart, rules, shape}
use Rattle.rf_words.proofs.Turns.{IsIdle, Pending, alone_fault, alone_walked, dashed, given_fault, given_walked, held, missing_fault, plain_fault, plain_walked, standing, unsettled, value_fault, value_settled, value_walked}

abbrev pub ending : List Text → Walk → List Text → Walk
ending names w words = fold (walked (rules names) []) w words

-- why the walk from here on and the use of what is pending at its end fail
abbrev pub fault_from : List Text → Walk → List Text → Kinds
fault_from names w words =
    or_else (walk_fault (shape names) [] w words) (settle_fault (rules names) false (ending names w words).held)

-- the rows at the end
abbrev pub rows_from : List Text → Walk → List Text → List Row
rows_from names w words = settled_rows (rules names) (ending names w words).held.pending (ending names w words).held.rows

-- the walk ends well, and adds what the arguments say to the rows
pub record Adds (names : List Text) (w : Walk) (words : List Text) (before : List Row) (a : Arguments) : Type 0 where
  pub fault : fault_from names w words ≡ []
  pub plain : values_at (codes "plain") (rows_from names w words) ≡ values_at (codes "plain") before ++ a.plain
  pub values : (name : Text) → is_among names name ≡ true
      → values_at name (rows_from names w words) ≡ values_at name before ++ values_of name a.values

-- the walk goes as is said
abbrev pub Comes : List Text → Walk → List Text → List Row → Option Arguments → Type 0
Comes names w words before None = fault_from names w words ≡ [] → ⊥
Comes names w words before (Some a) = Adds names w words before a

one_fault :
    (names : List Text) (w next : Walk) (word : Text) (rest : List Text) → turn_fault (shape names) [] w word ≡ [] →
    walked (rules names) [] w word ≡ next → fault_from names w (word ∷ rest) ≡ fault_from names next rest
unfolding walk_fault
one_fault names w next word rest fine moved =
    ap₂ (λ turn v. or_else (or_else turn (walk_fault (shape names) [] v rest)) (settle_fault (rules names) false (ending names v rest).held)) fine moved

one_rows :
    (names : List Text) (w next : Walk) (word : Text) (rest : List Text) → walked (rules names) [] w word ≡ next →
    rows_from names w (word ∷ rest) ≡ rows_from names next rest
one_rows names w next word rest moved = ap (λ v. rows_from names v rest) moved

pub one_stops :
    (names : List Text) (w : Walk) (word : Text) (rest : List Text) (k : _) → turn_fault (shape names) [] w word ≡ k ∷ [] →
    fault_from names w (word ∷ rest) ≡ [] → ⊥
unfolding walk_fault
one_stops names w word rest k stops e =
    let more : fault_from names w (word ∷ rest) ≡ or_else (or_else (k ∷ []) (walk_fault (shape names) [] (walked (rules names) [] w word) rest)) (settle_fault (rules names) false (ending names (walked (rules names) [] w word) rest).held) =
    ap (λ turn. or_else (or_else turn (walk_fault (shape names) [] (walked (rules names) [] w word) rest)) (settle_fault (rules names) false (ending names (walked (rules names) [] w word) rest).held)) stops in
    cc

apart_back : (s t : Text) → bytes_eq s t ≡ false → bytes_eq t s ≡ false
apart_back s t e = go (bytes_eq t s) refl
  where
    go : (b : Bool) → bytes_eq t s ≡ b → bytes_eq t s ≡ false
    go true f = let same : bytes_eq s t ≡ true = subst (λ u. bytes_eq s u ≡ true) (sym (is_text t s f)) (same_text s) in cc
    go false f = f

after_plain :
    (names : List Text) (w next : Walk) (word : Text) (rest : List Text) (before : List Row) (r : Option Arguments) → are_names names ≡ true →
    turn_fault (shape names) [] w word ≡ [] → walked (rules names) [] w word ≡ next →
    Comes names next rest (add (codes "plain") word before) r → Comes names w (word ∷ rest) before (option_map (with_plain word) r)
after_plain names w next word rest before None fit fine moved h = λ e. h (sym (one_fault names w next word rest fine moved) ∙ e)
after_plain names w next word rest before (Some a) fit fine moved h = record {
  fault = one_fault names w next word rest fine moved ∙ h.fault;
  plain = ap (values_at (codes "plain")) (one_rows names w next word rest moved) ∙ h.plain
      ∙ ap (λ vs. vs ++ a.plain) (values_same (codes "plain") word before) ∙ append_assoc (values_at (codes "plain") before) (word ∷ []) a.plain;
  values = λ name among. ap (values_at name) (one_rows names w next word rest moved) ∙ h.values name among
      ∙ ap (λ vs. vs ++ values_of name a.values) (values_other (codes "plain") name word before (differs_here names name among fit));
}

one_value :
    (name value other : Text) (before : List Row) (values : List (Text × Text)) (b : Bool) → bytes_eq name other ≡ b →
    values_at other (add name value before) ++ values_of other values ≡ values_at other before ++ values_of other ((name, value) ∷ values)
one_value name value other before values true e =
    rw e (subst (λ t. values_at t (add name value before) ++ values_of t values ≡ values_at t before ++ (value ∷ values_of t values)) (is_text name other e)
    (ap (λ vs. vs ++ values_of name values) (values_same name value before) ∙ append_assoc (values_at name before) (value ∷ []) (values_of name values)))
one_value name value other before values false e =
    rw e (ap (λ vs. vs ++ values_of other values) (values_other name other value before e))

after_value :
    (names : List Text) (w next : Walk) (word name value : Text) (rest : List Text) (before : List Row) (r : Option Arguments) → are_names names ≡ true →
    is_among names name ≡ true → turn_fault (shape names) [] w word ≡ [] → walked (rules names) [] w word ≡ next →
    Comes names next rest (add name value before) r → Comes names w (word ∷ rest) before (option_map (with_value name value) r)
after_value names w next word name value rest before None fit known fine moved h = λ e. h (sym (one_fault names w next word rest fine moved) ∙ e)
after_value names w next word name value rest before (Some a) fit known fine moved h = record {
  fault = one_fault names w next word rest fine moved ∙ h.fault;
  plain = ap (values_at (codes "plain")) (one_rows names w next word rest moved) ∙ h.plain
      ∙ ap (λ vs. vs ++ a.plain) (values_other name (codes "plain") value before (apart_back (codes "plain") name (differs_here names name known fit)));
  values = λ other among. ap (values_at other) (one_rows names w next word rest moved) ∙ h.values other among
      ∙ one_value name value other before a.values (bytes_eq name other) refl;
}

-- a word on its own way says nothing yet
after_alone :
    (names : List Text) (w next : Walk) (word : Text) (rest : List Text) (before : List Row) (r : Option Arguments) →
    turn_fault (shape names) [] w word ≡ [] → walked (rules names) [] w word ≡ next →
    Comes names next rest before r → Comes names w (word ∷ rest) before r
after_alone names w next word rest before None fine moved h = λ e. h (sym (one_fault names w next word rest fine moved) ∙ e)
after_alone names w next word rest before (Some a) fine moved h = record {
  fault = one_fault names w next word rest fine moved ∙ h.fault;
  plain = ap (values_at (codes "plain")) (one_rows names w next word rest moved) ∙ h.plain;
  values = λ name among. ap (values_at name) (one_rows names w next word rest moved) ∙ h.values name among;
}

-- a checked word is a plain one, or an option
abbrev IsOption : List Text → Text → Type 0
IsOption names word = (x : ℕ) × (xs : Text) × (word ≡ dashed x xs) × (is_among names (name_of_option (x ∷ xs)) ≡ true)

option_parts : (names : List Text) (word : Text) → are_names names ≡ true → is_plain word ≡ false → is_word names word ≡ true → IsOption names word
option_parts names [] fit plain checked = cc
option_parts names (a ∷ []) fit plain checked = let e : (not (a == 45) || false) ≡ true = checked in cc
option_parts names (a ∷ b ∷ rest) fit plain checked = go (a == 45) (b == 45) refl refl plain checked
  where
    found : (b : Bool) → is_among names (name_of_option rest) ≡ b → is_some (option_of names rest) ≡ true → is_among names (name_of_option rest) ≡ true
    found true e some = e
    found false e some = let never : false ≡ true = rw e at some in cc

    parts : (text : Text) → text ≡ rest → a ≡ 45 → b ≡ 45 → is_among names (name_of_option text) ≡ true → IsOption names (a ∷ b ∷ rest)
    parts [] is first second among = absurd (empty_apart names fit among)
    parts (x ∷ xs) is first second among = (x, xs, ap₂ (λ c d. c ∷ d) first (ap₂ (λ c d. c ∷ d) second (sym is)), among)

    go : (p q : Bool) → (a == 45) ≡ p → (b == 45) ≡ q → not p ≡ false → (not p || is_some (option_and_then (option_of names) (if p && q then Some rest else None))) ≡ true
        → IsOption names (a ∷ b ∷ rest)
    go false q e f dash checked = cc
    go true false e f dash checked = cc
    go true true e f dash checked = parts rest refl ((Decides-eqb a 45).0 e) ((Decides-eqb b 45).0 f) (found (is_among names (name_of_option rest)) refl checked)

said_plain : (names : List Text) (word : Text) (rest : List Text) → is_plain word ≡ true → said_from names None (word ∷ rest) ≡ option_map (with_plain word) (said_from names None rest)
said_plain names word rest e = rw e refl

said_value : (names : List Text) (name word : Text) (rest : List Text) → is_plain word ≡ true → said_from names (Some name) (word ∷ rest) ≡ option_map (with_value name word) (said_from names None rest)
said_value names name word rest e = rw e refl

said_given :
    (names : List Text) (x : ℕ) (xs value : Text) (rest : List Text) → is_among names (name_of_option (x ∷ xs)) ≡ true → value_of_option (x ∷ xs) ≡ Some value →
    said_from names None (dashed x xs ∷ rest) ≡ option_map (with_value (name_of_option (x ∷ xs)) value) (said_from names None rest)
said_given names x xs value rest among given = rw (among, given) refl

said_alone :
    (names : List Text) (x : ℕ) (xs : Text) (rest : List Text) → is_among names (name_of_option (x ∷ xs)) ≡ true → value_of_option (x ∷ xs) ≡ None →
    said_from names None (dashed x xs ∷ rest) ≡ said_from names (Some (name_of_option (x ∷ xs))) rest
said_alone names x xs rest among alone = rw (among, alone) refl

pub record Walks (names words : List Text) : Type 0 where
  pub idle : (pending : Pending) (rows : List Row) (waiting : Waiting) (before : List Row) → IsIdle waiting
      → settled_rows (rules names) pending rows ≡ before → settle_fault (rules names) false (held pending rows) ≡ []
      → Comes names (standing pending rows waiting) words before (said_from names None words)
  pub waits : (name : Text) (rows : List Row) → is_among names name ≡ true
      → Comes names (standing (Some (name, [])) rows (option name)) words rows (said_from names (Some name) words)

ends : (names : List Text) → are_names names ≡ true → Walks names []
unfolding walk_fault
ends names fit = record {
  idle = λ pending rows waiting before at settled fine. record {
    fault = fine;
    plain = ap (values_at (codes "plain")) settled ∙ sym (append-nil (values_at (codes "plain") before));
    values = λ name among. ap (values_at name) settled ∙ sym (append-nil (values_at name before));
  };
  waits = λ name rows among e. let open_yet = unsettled names name rows among fit in cc;
}

plain_first : (names : List Text) (word : Text) (rest : List Text) → are_names names ≡ true → is_plain word ≡ true → Walks names rest → Walks names (word ∷ rest)
plain_first names word rest fit plain more = record {
  idle = λ pending rows waiting before at settled fine.
      subst (Comes names (standing pending rows waiting) (word ∷ rest) before) (sym (said_plain names word rest plain))
      (after_plain names (standing pending rows waiting) (standing (Some (codes "plain", word ∷ [])) before positional) word rest before (said_from names None rest) fit
      (plain_fault names pending rows waiting word plain at fine)
      (plain_walked names pending rows waiting word plain at ∙ ap (λ b. standing (Some (codes "plain", word ∷ [])) b positional) settled)
      (more.idle (Some (codes "plain", word ∷ [])) before positional (add (codes "plain") word before) tt refl refl));
  waits = λ name rows among.
      let after = value_settled names name word rows among fit in
      subst (Comes names (standing (Some (name, [])) rows (option name)) (word ∷ rest) rows) (sym (said_value names name word rest plain))
      (after_value names (standing (Some (name, [])) rows (option name)) (standing (Some (name, word ∷ [])) rows idle) word name word rest rows (said_from names None rest) fit among
      (value_fault names name rows word plain) (value_walked names name rows word plain among fit)
      (more.idle (Some (name, word ∷ [])) rows idle (add name word rows) tt after.0 after.1));
}

option_first :
    (names : List Text) (x : ℕ) (xs : Text) (rest : List Text) (value : Option Text) → are_names names ≡ true → is_among names (name_of_option (x ∷ xs)) ≡ true →
    value_of_option (x ∷ xs) ≡ value → Walks names rest → Walks names (dashed x xs ∷ rest)
option_first names x xs rest None fit among has more = record {
  idle = λ pending rows waiting before at settled fine.
      subst (Comes names (standing pending rows waiting) (dashed x xs ∷ rest) before) (sym (said_alone names x xs rest among has))
      (after_alone names (standing pending rows waiting) (standing (Some (name_of_option (x ∷ xs), [])) before (option (name_of_option (x ∷ xs)))) (dashed x xs) rest before
      (said_from names (Some (name_of_option (x ∷ xs))) rest)
      (alone_fault names pending rows waiting x xs at has among fine)
      (alone_walked names pending rows waiting x xs at has among ∙ ap (λ b. standing (Some (name_of_option (x ∷ xs), [])) b (option (name_of_option (x ∷ xs)))) settled)
      (more.waits (name_of_option (x ∷ xs)) before among));
  waits = λ name rows known. one_stops names (standing (Some (name, [])) rows (option name)) (dashed x xs) rest kind.InvalidValue (missing_fault names name rows x xs None has among known fit);
}
option_first names x xs rest (Some value) fit among has more = record {
  idle = λ pending rows waiting before at settled fine.
      subst (Comes names (standing pending rows waiting) (dashed x xs ∷ rest) before) (sym (said_given names x xs value rest among has))
      (after_value names (standing pending rows waiting) (standing None (add (name_of_option (x ∷ xs)) value before) idle) (dashed x xs) (name_of_option (x ∷ xs)) value rest before
      (said_from names None rest) fit among
      (given_fault names pending rows waiting x xs value at has among fine)
      (given_walked names pending rows waiting x xs value at has among ∙ ap (λ b. standing None (add (name_of_option (x ∷ xs)) value b) idle) settled)
      (more.idle None (add (name_of_option (x ∷ xs)) value before) idle (add (name_of_option (x ∷ xs)) value before) tt refl refl));
  waits = λ name rows known. one_stops names (standing (Some (name, [])) rows (option name)) (dashed x xs) rest kind.InvalidValue (missing_fault names name rows x xs (Some value) has among known fit);
}

-- the walk over checked words goes as they say
pub walks : (names words : List Text) → are_names names ≡ true → list_all (is_word names) words ≡ true → Walks names words
walks names [] fit checked = ends names fit
walks names (word ∷ rest) fit checked =
    let parts = both (is_word names word) (list_all (is_word names) rest) checked in
    go (is_plain word) refl parts.0 (walks names rest fit parts.1)
  where
    go : (b : Bool) → is_plain word ≡ b → is_word names word ≡ true → Walks names rest → Walks names (word ∷ rest)
    go true e fits more = plain_first names word rest fit e more
    go false e fits more =
        let o = option_parts names word fit e fits in
        subst (λ w. Walks names (w ∷ rest)) (sym o.2) (option_first names o.0 o.1 rest (value_of_option (o.0 ∷ o.1)) fit o.3 refl more)

-- What is parsed of lists.
use Rattle.std.proofs.Common.{◌≡◌, ◌⊎◌, ℕ, List, [], ◌∷◌, ◌++◌, Option, None, Some, inl, inr, refl, sym, ap, ◌∙◌, subst, append_assoc}
use Rattle.rf_lexer.specs.declared.token.Kind.{Kind}
use Rattle.rf_lexer.specs.declared.token.Token.{Token}
use Rattle.rf_syntax.specs.Parts.{dot_or_braces, each_after, separated}
use Rattle.rf_syntax.specs.Piece.{Piece, kinds_of, terminal}
use Rattle.rf_syntax.specs.Terminals.{comma, dot, left_brace, left_paren, right_brace, right_paren}
use Rattle.rf_parser.specs.Fit.{token_kinds}
use Rattle.rf_parser.specs.Private.Parts.{listed_in_parens, listed_to, single}
use Rattle.rf_parser.specs.Private.Parsing.{Adds, Halts, Parses, IsStuck, NeverBegins, StartsWith, either, first_kind, never}
use Rattle.rf_parser.proofs.Prefixes.{append_nil, kinds_then}
use Rattle.rf_parser.proofs.Optionals.{halts_less}
use Rattle.rf_parser.proofs.Singles.{not_halted, starts_first, starts_parsed}
use Rattle.rf_parser.proofs.Wholes.{Apart, Begins, IsCase, pair, parsed_as, parsed_next, parsed_nothing, parsed_then, stuck_as, stuck_first, stuck_next, stuck_then}

-- what is parsed of the parts from rest on, with those before it, is parsed of all of them
pub record Onward {T : Type 0} (pieces : List T → List Piece) (longer : Kind → Type 0) (tokens : List Token) (parts : List T) (rest : List Token) : Type 0 where
  pub parsed : (others : List T) (after : List Token) → Parses pieces longer rest others after → Parses pieces longer tokens (parts ++ others) after
  pub stuck : (left : ℕ) → IsStuck pieces longer rest left → IsStuck pieces longer tokens left

pub onward_start : {T : Type 0} {pieces : List T → List Piece} {longer : Kind → Type 0} {tokens : List Token} → Onward pieces longer tokens [] tokens
onward_start = record { parsed = λ others after h. h; stuck = λ left h. h }

-- one part more, where the parts that begin with it are parsed by the rest
pub onward_more : {T : Type 0} {pieces : List T → List Piece} {longer : Kind → Type 0} {tokens rest next : List Token} {parts : List T} (part : T)
    → Onward pieces longer tokens parts rest
    → ((others : List T) (after : List Token) → Parses pieces longer next others after → Parses pieces longer rest (part ∷ others) after)
    → ((left : ℕ) → IsStuck pieces longer next left → IsStuck pieces longer rest left)
    → Onward pieces longer tokens (parts ++ part ∷ []) next
onward_more {pieces = pieces} {longer} {tokens} {rest} {next} {parts} part so_far parsed stuck = record {
  parsed = λ others after h. subst (λ ps. Parses pieces longer tokens ps after) (sym (append_assoc parts (part ∷ []) others))
      (so_far.parsed (part ∷ others) after (parsed others after h));
  stuck = λ left h. so_far.stuck left (stuck left h);
}

-- the parts that a loop has added so far
pub record SoFar {T : Type 0} (pieces : List T → List Piece) (longer : Kind → Type 0) (tokens : List Token) (old new : List T) (rest : List Token) : Type 0 where
  pub parts : List T
  pub added : new ≡ old ++ parts
  pub onward : Onward pieces longer tokens parts rest

pub so_far_start : {T : Type 0} {pieces : List T → List Piece} {longer : Kind → Type 0} {tokens : List Token} {old new : List T} → new ≡ old ++ [] → SoFar pieces longer tokens old new tokens
so_far_start e = record { parts = []; added = e; onward = onward_start }

pub so_far_more : {T : Type 0} {pieces : List T → List Piece} {longer : Kind → Type 0} {tokens rest next : List Token} {old new more : List T} {part : T}
    → SoFar pieces longer tokens old new rest
    → more ≡ new ++ part ∷ []
    → ((others : List T) (after : List Token) → Parses pieces longer next others after → Parses pieces longer rest (part ∷ others) after)
    → ((left : ℕ) → IsStuck pieces longer next left → IsStuck pieces longer rest left)
    → SoFar pieces longer tokens old more next
so_far_more {old = old} {part = part} h e parsed stuck = record {
  parts = h.parts ++ part ∷ [];
  added = e ∙ ap (λ xs. xs ++ part ∷ []) h.added ∙ append_assoc old h.parts (part ∷ []);
  onward = onward_more part h.onward parsed stuck;
}

pub so_far_end : {T : Type 0} {pieces : List T → List Piece} {longer : Kind → Type 0} {tokens rest after : List Token} {old new : List T}
    → SoFar pieces longer tokens old new rest → Parses pieces longer rest [] after → Adds pieces longer tokens old new after
so_far_end {pieces = pieces} {longer} {tokens} {after = after} h k = record {
  parts = h.parts;
  added = h.added;
  parsed = subst (λ ps. Parses pieces longer tokens ps after) (append_nil h.parts) (h.onward.parsed [] after k);
}

-- parts, each after a kind
module _ {T : Type 0} (pieces : T → List Piece) (longer : Kind → Type 0) (kind : Kind) where
  more_cases : (next : Option Kind) → next ≡ Some kind → (parts : List T)
      → ((p : Unit {0} × (T × List T)) × (p.1.0 ∷ p.1.1 ≡ parts)) ⊎ Begins (each_after kind pieces) (either kind longer) next parts
  more_cases next e [] = inr (λ more h f. not_halted kind longer more h (f ∙ e))
  more_cases next e (part ∷ parts) = inl ((tt, (part, parts)), refl)

  pub more_case : {ts after : List Token} → StartsWith ts kind after
      → IsCase (pair (single kind) (pair pieces (each_after kind pieces))) (either kind longer) (each_after kind pieces) (either kind longer) (first_kind (token_kinds ts)) (λ p. p.1.0 ∷ p.1.1)
  more_case s = record { same = λ p. refl; ends = λ more h. h; cases = more_cases _ (starts_first s) }

  -- the next part's kind doesn't make a part longer
  pub each_apart : (longer kind → ⊥) → Apart longer (each_after kind pieces) (either kind longer)
  each_apart apart [] more h = halts_less kind longer more h
  each_apart apart (part ∷ parts) more h = apart

  no_more_cases : (next : Option Kind) → (next ≡ Some kind → ⊥) → (parts : List T) → (parts ≡ []) ⊎ Begins (each_after kind pieces) (either kind longer) next parts
  no_more_cases next none [] = inl refl
  no_more_cases next none (part ∷ parts) = inr (λ more h e. none (sym e))

module _ {T : Type 0} {pieces : T → List Piece} {longer : Kind → Type 0} {kind : Kind} where
  pub more_parsed : {ts after next : List Token} {part : T} → (longer kind → ⊥) → StartsWith ts kind after → Parses pieces longer after part next
      → (others : List T) (rest : List Token) → Parses (each_after kind pieces) (either kind longer) next others rest
      → Parses (each_after kind pieces) (either kind longer) ts (part ∷ others) rest
  more_parsed apart s h others rest k =
      parsed_as (more_case pieces longer kind s) (parsed_next (starts_parsed s) (parsed_then (each_apart pieces longer kind apart) h k))

  pub more_stuck : {ts after next : List Token} {part : T} → (longer kind → ⊥) → StartsWith ts kind after → Parses pieces longer after part next
      → (left : ℕ) → IsStuck (each_after kind pieces) (either kind longer) next left → IsStuck (each_after kind pieces) (either kind longer) ts left
  more_stuck apart s h left k =
      stuck_as (more_case pieces longer kind s) (stuck_next (starts_parsed s) (stuck_then (each_apart pieces longer kind apart) h k))

  pub more_stuck_part : {ts after : List Token} {left : ℕ} → (longer kind → ⊥) → StartsWith ts kind after → IsStuck pieces longer after left
      → IsStuck (each_after kind pieces) (either kind longer) ts left
  more_stuck_part apart s h =
      stuck_as (more_case pieces longer kind s)
      (stuck_next (starts_parsed s) (stuck_first (each_after kind pieces) [] (each_apart pieces longer kind apart) h))

pub no_more : {T : Type 0} (pieces : T → List Piece) (longer : Kind → Type 0) (kind : Kind) {ts : List Token} → (first_kind (token_kinds ts) ≡ Some kind → ⊥) → Parses (each_after kind pieces) (either kind longer) ts [] ts
no_more pieces longer kind none = parsed_nothing [] refl (no_more_cases pieces longer kind _ none)

-- a first part and others after a kind
module _ {T : Type 0} (pieces : T → List Piece) (longer : Kind → Type 0) (kind : Kind) where
  separated_case : (next : Option Kind) → IsCase (pair pieces (each_after kind pieces)) (either kind longer) (separated kind pieces) (either kind longer) next (λ p. record { first = p.0; rest = p.1 })
  separated_case next = record { same = λ p. refl; ends = λ more h. h; cases = λ ps. inl ((ps.first, ps.rest), refl) }

module _ {T : Type 0} {pieces : T → List Piece} {longer : Kind → Type 0} {kind : Kind} where
  pub separated_stuck : {ts : List Token} {left : ℕ} → (longer kind → ⊥) → IsStuck pieces longer ts left → IsStuck (separated kind pieces) (either kind longer) ts left
  separated_stuck apart h = stuck_as (separated_case pieces longer kind _) (stuck_first (each_after kind pieces) [] (each_apart pieces longer kind apart) h)

  pub separated_stuck_after : {ts after : List Token} {part : T} {left : ℕ} → (longer kind → ⊥) → Parses pieces longer ts part after
      → IsStuck (each_after kind pieces) (either kind longer) after left → IsStuck (separated kind pieces) (either kind longer) ts left
  separated_stuck_after apart h k = stuck_as (separated_case pieces longer kind _) (stuck_then (each_apart pieces longer kind apart) h k)

  pub separated_parsed : {ts after rest : List Token} {part : T} {old new : List T} → (longer kind → ⊥) → Parses pieces longer ts part after
      → old ≡ [] → Adds (each_after kind pieces) (either kind longer) after old new rest
      → Parses (separated kind pieces) (either kind longer) ts (record { first = part; rest = new }) rest
  separated_parsed {ts} {rest = rest} {part} apart h e k =
      let whole = k.added ∙ ap (λ xs. xs ++ k.parts) e in
      subst (λ ps. Parses (separated kind pieces) (either kind longer) ts (record { first = part; rest = ps }) rest) (sym whole)
      (parsed_as (separated_case pieces longer kind _) (parsed_then (each_apart pieces longer kind apart) h k.parsed))

-- what parts with commas between them, up to a closing kind, need of a part
pub record Listed {T : Type 0} (close : Kind) (pieces : T → List Piece) (longer : Kind → Type 0) : Type 0 where
  pub differs : close ≡ comma → ⊥
  pub no_comma : longer comma → ⊥
  pub no_close : longer close → ⊥
  pub begins : NeverBegins pieces close

module _ {T : Type 0} (close : Kind) (pieces : T → List Piece) (longer : Kind → Type 0) where
  begins_part : NeverBegins pieces close → (part : T) (parts : List T) (more : List Kind) → first_kind (kinds_of (listed_to close pieces (part ∷ parts)) ++ more) ≡ Some close → ⊥
  begins_part begins part parts more e =
      let rest = each_after comma pieces parts in
      let whole = kinds_then (pieces part ++ rest) (terminal close ∷ []) more ∙ kinds_then (pieces part) rest (close ∷ more) in
      begins part (kinds_of rest ++ close ∷ more) (sym (ap first_kind whole) ∙ e)

  empty_cases : NeverBegins pieces close → (next : Option Kind) → next ≡ Some close → (parts : List T) → ((u : Unit {0}) × ([] ≡ parts)) ⊎ Begins (listed_to close pieces) never next parts
  empty_cases begins next e [] = inl (tt, refl)
  empty_cases begins next e (part ∷ parts) = inr (λ more h f. begins_part begins part parts more (f ∙ e))

  empty_case : NeverBegins pieces close → (next : Option Kind) → next ≡ Some close → IsCase (single close) never (listed_to close pieces) never next (λ u. [])
  empty_case begins next e = record { same = λ u. refl; ends = λ more h. h; cases = empty_cases begins next e }

  some_cases : (next : Option Kind) → (next ≡ Some close → ⊥) → (parts : List T)
      → ((p : T × (List T × Unit {0})) × (p.0 ∷ p.1.0 ≡ parts)) ⊎ Begins (listed_to close pieces) never next parts
  some_cases next none [] = inr (λ more h e. none (sym e))
  some_cases next none (part ∷ parts) = inl ((part, (parts, tt)), refl)

  some_case : (next : Option Kind) → (next ≡ Some close → ⊥)
      → IsCase (pair pieces (pair (each_after comma pieces) (single close))) never (listed_to close pieces) never next (λ p. p.0 ∷ p.1.0)
  some_case next none = record {
    same = λ p. append_assoc (pieces p.0) (each_after comma pieces p.1.0) (terminal close ∷ []);
    ends = λ more h. h;
    cases = some_cases next none;
  }

  part_apart : Listed close pieces longer → Apart longer (pair (each_after comma pieces) (single close)) never
  part_apart l b more h = apart b.0 where
    apart : (parts : List T) → Halts longer (kinds_of (each_after comma pieces parts ++ terminal close ∷ []) ++ more)
    apart [] = l.no_close
    apart (part ∷ parts) = l.no_comma

  each_to_close : Listed close pieces longer → Apart (either comma longer) (single close) never
  each_to_close l b more h = λ e. elim e [ inl same ↦ l.differs same | inr other ↦ l.no_close other ]

module _ {T : Type 0} {close : Kind} {pieces : T → List Piece} {longer : Kind → Type 0} where
  pub listed_empty : {ts rest : List Token} {parts : List T} → Listed close pieces longer → parts ≡ [] → StartsWith ts close rest → Parses (listed_to close pieces) never ts parts rest
  listed_empty {ts} {rest = rest} l e s =
      subst (λ ps. Parses (listed_to close pieces) never ts ps rest) (sym e) (parsed_as (empty_case close pieces longer l.begins _ (starts_first s)) (starts_parsed s))

  pub listed_stuck_first : {ts : List Token} {left : ℕ} → Listed close pieces longer → (first_kind (token_kinds ts) ≡ Some close → ⊥)
      → IsStuck pieces longer ts left → IsStuck (listed_to close pieces) never ts left
  listed_stuck_first l none h =
      stuck_as (some_case close pieces longer _ none) (stuck_first (pair (each_after comma pieces) (single close)) ([], tt) (part_apart close pieces longer l) h)

  pub listed_stuck_each : {ts after : List Token} {part : T} {left : ℕ} → Listed close pieces longer → (first_kind (token_kinds ts) ≡ Some close → ⊥)
      → Parses pieces longer ts part after → IsStuck (each_after comma pieces) (either comma longer) after left → IsStuck (listed_to close pieces) never ts left
  listed_stuck_each l none h k =
      stuck_as (some_case close pieces longer _ none) (stuck_then (part_apart close pieces longer l) h (stuck_first (single close) tt (each_to_close close pieces longer l) k))

  pub listed_stuck_end : {ts after end : List Token} {part : T} {old new : List T} {left : ℕ} → Listed close pieces longer → (first_kind (token_kinds ts) ≡ Some close → ⊥)
      → Parses pieces longer ts part after → Adds (each_after comma pieces) (either comma longer) after old new end → IsStuck (single close) never end left → IsStuck (listed_to close pieces) never ts left
  listed_stuck_end l none h k m =
      stuck_as (some_case close pieces longer _ none) (stuck_then (part_apart close pieces longer l) h (stuck_then (each_to_close close pieces longer l) k.parsed m))

  pub listed_parsed : {ts after end rest : List Token} {part : T} {old new : List T} → Listed close pieces longer → (first_kind (token_kinds ts) ≡ Some close → ⊥)
      → Parses pieces longer ts part after → old ≡ part ∷ [] → Adds (each_after comma pieces) (either comma longer) after old new end → Parses (single close) never end tt rest
      → Parses (listed_to close pieces) never ts new rest
  listed_parsed {ts} {rest = rest} {part} l none h e k m =
      let whole = k.added ∙ ap (λ xs. xs ++ k.parts) e in
      subst (λ ps. Parses (listed_to close pieces) never ts ps rest) (sym whole)
      (parsed_as (some_case close pieces longer _ none) (parsed_then (part_apart close pieces longer l) h (parsed_then (each_to_close close pieces longer l) k.parsed m)))

-- parts in parentheses
pub parens_case : {T : Type 0} (pieces : T → List Piece) (next : Option Kind) → IsCase (pair (single left_paren) (listed_to right_paren pieces)) never (listed_in_parens pieces) never next (λ p. p.1)
parens_case pieces next = record { same = λ p. refl; ends = λ more h. h; cases = λ ps. inl ((tt, ps), refl) }

-- parts between braces, or a full stop
abbrev pub to_brace : {T : Type 0} → (T → List Piece) → T → List Piece
to_brace inner part = inner part ++ terminal right_brace ∷ []

pub brace_case : {T : Type 0} (inner : T → List Piece) (next : Option Kind) → next ≡ Some left_brace → IsCase (pair (single left_brace) (to_brace inner)) never (dot_or_braces inner) never next (λ p. Some p.1)
brace_case {T} inner next e = record { same = λ p. refl; ends = λ more h. h; cases = cases } where
  cases : (o : Option T) → ((p : Unit {0} × T) × (Some p.1 ≡ o)) ⊎ Begins (dot_or_braces inner) never next o
  cases None = inr (λ more h f. let both : Some dot ≡ Some left_brace = f ∙ e in cc)
  cases (Some part) = inl ((tt, part), refl)

pub dot_case : {T : Type 0} (inner : T → List Piece) (next : Option Kind) → (next ≡ Some left_brace → ⊥) → IsCase (single dot) never (dot_or_braces inner) never next (λ u. None)
dot_case {T} inner next none = record { same = λ u. refl; ends = λ more h. h; cases = cases } where
  cases : (o : Option T) → ((u : Unit {0}) × (None ≡ o)) ⊎ Begins (dot_or_braces inner) never next o
  cases None = inl (tt, refl)
  cases (Some part) = inr (λ more h e. none (sym e))

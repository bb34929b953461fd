-- What is parsed of a whole text.
use Rattle.std.specs.Prelude.{◌==◌}
use Rattle.std.proofs.lemmas.Bool.Decides.{nat_tests}
use Rattle.std.proofs.Common.{◌≡◌, ◌⊎◌, ℕ, true, false, ◌+◌, ◌-◌, ◌<◌, ◌≤◌, List, [], ◌∷◌, ◌++◌, Option, None, Ok, Err, inl, inr, length, take, drop, refl, sym, ap, ◌∙◌, subst, append_assoc, arith}
use Rattle.std.proofs.lemmas.List.{length-append, length-map, take-append-drop}
use Rattle.std.proofs.Math.Seq.{take-add, take-append-add, take-append_seam}
use Rattle.rf_lexer.specs.declared.token.Kind.{Kind}
use Rattle.rf_lexer.specs.declared.token.Token.{Token}
use Rattle.rf_syntax.specs.declared.statement.Ast.{Ast}
use Rattle.rf_syntax.specs.declared.statement.Statement.{Statement}
use Rattle.rf_syntax.specs.Piece.{kinds_of}
use Rattle.rf_syntax.specs.Statement.{pieces_of, spelling_of, statement_pieces}
use Rattle.rf_syntax.proofs.Beginnings.{statement_begins}
use Rattle.rf_failure.specs.Answers.{Answers}
use Rattle.rf_failure.specs.declared.Failure.TheVariants.{Fault}
use Rattle.rf_failure.proofs.AnswersLemmas.{Answers-fault, Answers-found}
use Rattle.rf_parser.specs.declared.error.ParseError.{ParseError}
use Rattle.rf_parser.specs.declared.error.ParseError.TheVariants.{Unexpected}
use Rattle.rf_parser.specs.Fit.{Fits, IsTreeOf, token_kinds}
use Rattle.rf_parser.specs.Private.Parts.{statements_pieces}
use Rattle.rf_parser.specs.Private.Parsing.{Halts, Parses, IsStuck, Shares, anything, first_kind, never}
use Rattle.rf_parser.specs.Refusal.{BeginsText, IsFirstRefused, IsText, ParseFault}
use Rattle.rf_parser.proofs.Prefixes.{append_nil, fits_kinds, kinds_then, tokens_joined}
use Rattle.rf_parser.proofs.Wholes.{Begins, IsCase, pair, parsed_as, parsed_next, parsed_nothing, stuck_as, stuck_next, stuck_start}

-- statements up to the end
more_statements : (next : Option Kind) → (next ≡ None → ⊥) → IsCase (pair statement_pieces statements_pieces) anything statements_pieces anything next (λ p. p.0 ∷ p.1)
more_statements next some = record { same = λ p. refl; ends = λ more h. h; cases = cases } where
  nothing : (more : List Kind) → Halts anything more → first_kind more ≡ next → ⊥
  nothing [] h e = some (sym e)
  nothing (k ∷ ks) h e = h tt

  cases : (ss : List Statement) → ((p : Statement × List Statement) × (p.0 ∷ p.1 ≡ ss)) ⊎ Begins statements_pieces anything next ss
  cases [] = inr nothing
  cases (s ∷ ss) = inl ((s, ss), refl)

-- whether there are tokens
pub some_rest : (ts : List Token) → false ≡ (length ts == 0) → first_kind (token_kinds ts) ≡ None → ⊥
some_rest [] e f = cc
some_rest (t ∷ ts) e f = cc

pub empty_rest : (ts : List Token) → true ≡ (length ts == 0) → ts ≡ []
empty_rest [] e = refl
empty_rest (t ∷ ts) e = absurd (grind (arith, nat_tests, e))

pub statement_more : {ts next : List Token} {s : Statement} → (first_kind (token_kinds ts) ≡ None → ⊥) → Parses statement_pieces never ts s next
    → (ss : List Statement) (after : List Token) → Parses statements_pieces anything next ss after → Parses statements_pieces anything ts (s ∷ ss) after
statement_more some h ss after k = parsed_as (more_statements _ some) (parsed_next h k)

pub statement_more_stuck : {ts next : List Token} {s : Statement} → (first_kind (token_kinds ts) ≡ None → ⊥) → Parses statement_pieces never ts s next
    → (left : ℕ) → IsStuck statements_pieces anything next left → IsStuck statements_pieces anything ts left
statement_more_stuck some h left k = stuck_as (more_statements _ some) (stuck_next h k)

pub statement_stuck : {ts : List Token} {left : ℕ} → (first_kind (token_kinds ts) ≡ None → ⊥) → IsStuck statement_pieces never ts left → IsStuck statements_pieces anything ts left
statement_stuck some h = stuck_as (more_statements _ some) (stuck_start statements_pieces [] h)

pub statements_end : {ts : List Token} → ts ≡ [] → Parses statements_pieces anything ts [] []
statements_end e = subst (λ us. Parses statements_pieces anything us [] []) (sym e) (parsed_nothing [] refl cases) where
  cases : (ss : List Statement) → (ss ≡ []) ⊎ Begins statements_pieces anything None ss
  cases [] = inl refl
  cases (s ∷ ss) = inr (λ more h f.
      let begun = statement_begins s in
      let whole = kinds_then (statement_pieces s) (statements_pieces ss) more ∙ ap (λ (ks : List Kind). ks ++ (kinds_of (statements_pieces ss) ++ more)) begun.1 in
      let both = sym (ap first_kind whole) ∙ f in cc)

-- a tree is parsed
whole_prefix : {ts prefix : List Token} → ts ≡ prefix ++ [] → ts ≡ prefix
whole_prefix {prefix = prefix} e = e ∙ append_nil prefix

pub tree_parsed : {ts : List Token} {ss : List Statement} → Parses statements_pieces anything ts ss [] → IsTreeOf ts (record { statements = ss })
tree_parsed {ss = ss} h = subst (λ us. Fits us (statements_pieces ss)) (sym (whole_prefix h.joined)) h.fits

whole_shares : (ts prefix : List Token) (kinds : List Kind) → ts ≡ prefix → kinds ≡ token_kinds ts → Shares (token_kinds prefix) [] (kinds ++ [])
whole_shares ts prefix kinds e f = record { tail = []; joined = ap (λ (ks : List Kind). ks ++ []) (f ∙ ap (λ (us : List Token). token_kinds us) e); same = refl }

pub tree_only : {ts : List Token} {ss : List Statement} (ast : Ast) → Parses statements_pieces anything ts ss [] → IsTreeOf ts ast → record { statements = ss } ≡ ast
tree_only {ts} {ss} ast h fits =
    let e = whole_prefix h.joined in
    let same = h.only ast.statements [] tt (whole_shares ts h.prefix (spelling_of ast) e (fits_kinds ts (pieces_of ast) fits)) in
    ap (λ (xs : List Statement). record { statements = xs }) (sym (same.same (subst (λ us. Fits us (pieces_of ast)) e fits)))

-- no tree is parsed
module _ {ts : List Token} {left : ℕ} (h : IsStuck statements_pieces anything ts left) where
  kinds_joined_here : token_kinds ts ≡ token_kinds h.prefix ++ token_kinds h.rest
  kinds_joined_here = ap (λ (us : List Token). token_kinds us) h.joined ∙ tokens_joined h.prefix h.rest

  prefix_length : length (token_kinds h.prefix) ≡ length h.prefix
  prefix_length = length-map h.prefix (λ (t : Token). t.kind)

  pub left_within : left ≤ length ts
  left_within = omega (arith, h.last, ap length h.joined, length-append h.prefix h.rest)

  index : length ts - left ≡ length h.prefix
  index = omega (arith, h.last, ap length h.joined, length-append h.prefix h.rest)

  begun_here : BeginsText (take (length h.prefix) (token_kinds ts))
  begun_here = record {
    ast = record { statements = h.part };
    more = h.tail;
    joined = ap (λ (ks : List Kind). ks ++ h.tail) (ap (λ (n : ℕ). take n (token_kinds ts)) (sym prefix_length) ∙ ap (λ (ks : List Kind). take (length (token_kinds h.prefix)) ks) kinds_joined_here
        ∙ take-append_seam (token_kinds h.prefix) (token_kinds h.rest)) ∙ sym h.begun;
  }

  shares_next : (rest : List Kind) (kinds : List Kind) (more : List Kind) → rest ≡ token_kinds h.rest → take 1 rest ++ more ≡ kinds → (rest ≡ [] → ⊥)
      → Shares (token_kinds h.prefix) (token_kinds h.rest) (token_kinds h.prefix ++ kinds)
  shares_next [] kinds more e f some = absurd (some refl)
  shares_next (k ∷ ks) kinds more e f some = record { tail = kinds; joined = refl; same = ap first_kind (sym f) ∙ ap first_kind e }

  refused_next : length h.prefix < length ts → BeginsText (take (length h.prefix + 1) (token_kinds ts)) → ⊥
  refused_next lt b =
      let prefixes : take (length h.prefix + 1) (token_kinds ts) ≡ token_kinds h.prefix ++ take 1 (token_kinds h.rest) =
      ap (λ (n : ℕ). take (n + 1) (token_kinds ts)) (sym prefix_length) ∙ ap (λ (ks : List Kind). take (length (token_kinds h.prefix) + 1) ks) kinds_joined_here
      ∙ take-append-add (token_kinds h.prefix) (token_kinds h.rest) 1 in
      let whole : spelling_of b.ast ≡ token_kinds h.prefix ++ (take 1 (token_kinds h.rest) ++ b.more) =
      sym b.joined ∙ ap (λ (ks : List Kind). ks ++ b.more) prefixes ∙ append_assoc (token_kinds h.prefix) (take 1 (token_kinds h.rest)) b.more in
      let shared = shares_next (token_kinds h.rest) (take 1 (token_kinds h.rest) ++ b.more) b.more refl refl (some_rest h.rest (omega (arith, ap length h.joined, length-append h.prefix h.rest))) in
      h.dead b.ast.statements [] tt (subst (λ ks. Shares (token_kinds h.prefix) (token_kinds h.rest) ks) (sym whole ∙ sym (append_nil (spelling_of b.ast))) shared)
    where
      some_rest : (rest : List Token) → 0 < length rest → token_kinds rest ≡ [] → ⊥
      some_rest [] lt e = omega (arith, lt)
      some_rest (t ∷ rest) lt e = cc

  no_rest : (rest : List Token) → length rest ≡ 0 → rest ≡ []
  no_rest [] e = refl
  no_rest (t ∷ rest) e = absurd (omega (arith, e))

  refused_last : length h.prefix ≡ length ts → IsText (token_kinds ts) → ⊥
  refused_last e t =
      let none : h.rest ≡ [] = no_rest h.rest (omega (arith, ap length h.joined, length-append h.prefix h.rest)) in
      let whole : ts ≡ h.prefix = h.joined ∙ ap (λ (us : List Token). h.prefix ++ us) none ∙ append_nil h.prefix in
      h.dead t.ast.statements [] tt
      (subst (λ us. Shares (token_kinds h.prefix) (token_kinds us) (spelling_of t.ast ++ [])) (sym none) (whole_shares ts h.prefix (spelling_of t.ast) whole (sym t.spelled)))

  first_refused : IsFirstRefused ts (length h.prefix)
  first_refused = record {
    within = omega (arith, ap length h.joined, length-append h.prefix h.rest);
    begun = begun_here;
    next = refused_next;
    last = refused_last;
  }

  pub stuck_refused : IsFirstRefused ts (length ts - left)
  stuck_refused = subst (λ k. IsFirstRefused ts k) (sym index) first_refused

below_or_at : (k n : ℕ) → k ≤ n → (k < n) ⊎ (k ≡ n)
below_or_at k n h = grind (arith, h)

-- tokens with a tree are nowhere refused
pub tree_not_refused : {ts : List Token} (ast : Ast) (k : ℕ) → IsTreeOf ts ast → IsFirstRefused ts k → ⊥
tree_not_refused {ts} ast k fits r =
    let kinds = fits_kinds ts (pieces_of ast) fits in
    elim (below_or_at k (length ts) r.within) [
      | inl lt ↦ r.next lt (record { ast = ast; more = drop (k + 1) (token_kinds ts); joined = take-append-drop (k + 1) (token_kinds ts) ∙ sym kinds })
      | inr e ↦ r.last e (record { ast = ast; spelled = sym kinds })
    ]

-- a text that begins with more kinds begins with fewer
begins_fewer : (j k : ℕ) (kinds : List Kind) → j ≤ k → BeginsText (take k kinds) → BeginsText (take j kinds)
begins_fewer j k kinds le b = record {
  ast = b.ast;
  more = take (k - j) (drop j kinds) ++ b.more;
  joined = sym (append_assoc (take j kinds) (take (k - j) (drop j kinds)) b.more)
      ∙ ap (λ (ks : List Kind). ks ++ b.more) (sym (take-add j (k - j) kinds) ∙ ap (λ (n : ℕ). take n kinds) (omega (arith, le))) ∙ b.joined;
}

not_after : {ts : List Token} (j k : ℕ) → IsFirstRefused ts j → IsFirstRefused ts k → j < k → ⊥
not_after {ts} j k r s lt = r.next (omega (arith, lt, s.within)) (begins_fewer (j + 1) k (token_kinds ts) (omega (arith, lt)) s.begun)

three : (j k : ℕ) → (j < k) ⊎ ((j ≡ k) ⊎ (k < j))
three j k = grind arith

pub refused_once : {ts : List Token} (j k : ℕ) → IsFirstRefused ts j → IsFirstRefused ts k → j ≡ k
refused_once j k r s =
    elim (three j k) [ inl lt ↦ absurd (not_after j k r s lt) | inr other ↦ elim other [ inl e ↦ e | inr gt ↦ absurd (not_after k j s r gt) ] ]

-- what the statements of the tokens up to their end answer
pub Answers-parsed : {ts : List Token} {ss : List Statement} → Parses statements_pieces anything ts ss []
    → Answers {T = Ast} (λ ast. ast) (IsTreeOf ts) (ParseFault ts) (Ok (record { statements = ss }))
Answers-parsed {ts} {ss} h = Answers-found (λ ast. ast) (IsTreeOf ts) (ParseFault ts) (record { statements = ss }) (tree_parsed h) (λ ast fits. tree_only ast h fits) none where
  none : (e : ParseError) → ParseFault ts e → ⊥
  none (Unexpected k) refused = tree_not_refused (record { statements = ss }) k (tree_parsed h) refused

pub Answers-stuck : {ts : List Token} {left k : ℕ} → IsStuck statements_pieces anything ts left → k ≡ length ts - left
    → Answers {T = Ast} (λ ast. ast) (IsTreeOf ts) (ParseFault ts) (Err (Fault (Unexpected k)))
Answers-stuck {ts} {left} {k} h e =
    let refused : IsFirstRefused ts k = subst (λ j. IsFirstRefused ts j) (sym e) (stuck_refused h) in
    Answers-fault (λ ast. ast) (IsTreeOf ts) (ParseFault ts) (Unexpected k) refused (one refused) (λ ast fits. tree_not_refused ast k fits refused)
  where
    one : IsFirstRefused ts k → (e : ParseError) → ParseFault ts e → Unexpected k ≡ e
    one refused (Unexpected j) other = ap (λ (n : ℕ). Unexpected n) (refused_once k j refused other)

-- How the answer of one stage is the answer of the whole.
use Rattle.std.proofs.Common.{◌≡◌, ◌∙◌, ℕ, List, refl, sym, ap, subst, inl, inr, Result, Ok, Err, arith, length}
use Rattle.std.specs.Str.{IsUtf8, IsValidUpTo}
use Rattle.std.proofs.lemmas.Bool.{cases_lt}
use Rattle.rf_failure.specs.Answers.{Answers}
use Rattle.rf_failure.specs.declared.Failure.{Failure}
use Rattle.rf_failure.specs.declared.Failure.TheVariants.{Fault}
use Rattle.rf_failure.proofs.AnswersLemmas.{Answers-fault, Answers-found, Answers-same, fault_not_found, found_no_fault, one_fault}
use Rattle.rf_lexer.specs.Fault.{LexFault}
use Rattle.rf_lexer.specs.Tokens.{Lexemes}
use Rattle.rf_lexer.specs.declared.error.LexError.{LexError}
use Rattle.rf_lexer.specs.declared.token.Token.{Token}
use Rattle.rf_parser.specs.Fit.{IsTreeOf}
use Rattle.rf_parser.specs.Refusal.{IsFirstRefused, ParseFault}
use Rattle.rf_parser.specs.declared.error.ParseError.{ParseError}
use Rattle.rf_parser.specs.declared.error.ParseError.TheVariants.{Unexpected as Refused}
use Rattle.rf_problem.specs.declared.problem.Problem.{Problem}
use Rattle.rf_resolve.specs.Fault.{NameFault, Resolves}
use Rattle.rf_resolve.specs.declared.error.NameError.{NameError}
use Rattle.rf_syntax.specs.declared.statement.Ast.{Ast}
use Rattle.rf_source.specs.Source.{IsSource, SourceFault, offset_of_token}
use Rattle.rf_source.specs.Private.Stages.{IsTokens, TokensFault, TreeFault, located_fault}
use Rattle.rf_source.specs.declared.error.SourceError.{SourceError}
use Rattle.rf_source.specs.declared.error.SourceError.TheVariants.{NotUtf8, Lexical, Unexpected, Names}

-- what a stage answers: a problem, where its definitions are these
abbrev pub Tells : (Problem → Type 0) → (SourceError → Type 0) → Result Problem (Failure SourceError) → Type 0
Tells Means Fails result = Answers (λ p. p) Means Fails result

-- a text has one longest prefix that is UTF-8
one_prefix : (bytes : List ℕ) (m n : ℕ) → IsValidUpTo bytes m → IsValidUpTo bytes n → m ≡ n
one_prefix bytes m n a b = elim (cases_lt m n) [
  | inl less ↦ absurd (a.longest n less b.front)
  | inr no_less ↦ elim (cases_lt n m) [
    | inl less ↦ absurd (b.longest m less a.front)
    | inr no_more ↦ omega arith
  ]
]

-- bytes that aren't UTF-8 have no other fault, and are not a text of a problem
pub Answers-not_utf8 :
    (bytes : List ℕ) (at : ℕ) → (IsUtf8 bytes → ⊥) → IsValidUpTo bytes at → Tells (IsSource bytes) (SourceFault bytes) (Err (Fault (NotUtf8 at)))
Answers-not_utf8 bytes at no_text valid =
    Answers-fault (λ p. p) (IsSource bytes) (SourceFault bytes) (NotUtf8 at) (no_text, valid) others (λ p s. no_text s.parsed.lexed.utf8)
  where
    others : (e : SourceError) → SourceFault bytes e → NotUtf8 at ≡ e
    others (NotUtf8 n) f = ap (λ (k : ℕ). NotUtf8 k) (one_prefix bytes at n valid f.1)
    others (Lexical e) f = absurd (no_text f.0)
    others (Unexpected token offset) f = absurd (no_text f.lexed.utf8)
    others (Names e) f = absurd (no_text f.1.lexed.utf8)

-- a text that isn't tokens has no other fault
pub Answers-lexical :
    (text : List ℕ) (error : LexError) → IsUtf8 text → LexFault text error → ((tokens : List Token) → Lexemes text tokens → ⊥) →
    ((e : LexError) → LexFault text e → error ≡ e) → Tells (IsSource text) (SourceFault text) (Err (Fault (Lexical error)))
Answers-lexical text error utf8 fault none one =
    Answers-fault (λ p. p) (IsSource text) (SourceFault text) (Lexical error) (utf8, fault) others (λ p s. none s.parsed.tokens s.parsed.lexed.lexemes)
  where
    others : (e : SourceError) → SourceFault text e → Lexical error ≡ e
    others (NotUtf8 n) f = absurd (f.0 utf8)
    others (Lexical e) f = ap (λ (x : LexError). Lexical x) (one e f.1)
    others (Unexpected token offset) f = absurd (none f.tokens f.lexed.lexemes)
    others (Names e) f = absurd (none f.1.tokens f.1.lexed.lexemes)

-- the answer of a text's tokens is that of the text
tokens_answer :
    (text : List ℕ) (tokens : List Token) (result : Result Problem (Failure SourceError)) → IsUtf8 text → Lexemes text tokens →
    ((ts : List Token) → Lexemes text ts → tokens ≡ ts) → ((e : LexError) → LexFault text e → ⊥) →
    Tells (IsTokens tokens) (TokensFault tokens (length text)) result → Tells (IsSource text) (SourceFault text) result
tokens_answer text tokens result utf8 lexemes one none answers =
    Answers-same (λ p. p) (IsTokens tokens) (IsSource text) (TokensFault tokens (length text)) (SourceFault text) result
    (λ p t. record { ast = t.0; parsed = record { tokens = tokens; lexed = record { utf8 = utf8; lexemes = lexemes }; tree = t.1 }; resolved = t.2 })
    (λ p s. (s.ast, fits s.parsed.tokens s.ast s.parsed.lexed.lexemes s.parsed.tree, s.resolved)) to from answers
  where
    fits : (ts : List Token) (ast : Ast) → Lexemes text ts → IsTreeOf ts ast → IsTreeOf tokens ast
    fits ts ast there tree = subst (λ (l : List Token). IsTreeOf l ast) (sym (one ts there)) tree

    to : (e : SourceError) → TokensFault tokens (length text) e → SourceFault text e
    to (NotUtf8 n) f = absurd f
    to (Lexical e) f = absurd f
    to (Unexpected token offset) f = record { tokens = tokens; lexed = record { utf8 = utf8; lexemes = lexemes }; refused = f.0; offset = f.1 }
    to (Names e) f = (f.0, record { tokens = tokens; lexed = record { utf8 = utf8; lexemes = lexemes }; tree = f.1 }, f.2)

    from : (e : SourceError) → SourceFault text e → TokensFault tokens (length text) e
    from (NotUtf8 n) f = absurd (f.0 utf8)
    from (Lexical e) f = absurd (none e f.1)
    from (Unexpected token offset) f =
        let same : f.tokens ≡ tokens = sym (one f.tokens f.lexed.lexemes) in (
          subst (λ (l : List Token). IsFirstRefused l token) same f.refused,
          subst (λ (l : List Token). offset ≡ offset_of_token l (length text) token) same f.offset,
        )
    from (Names e) f = (f.0, fits f.1.tokens f.0 f.1.lexed.lexemes f.1.tree, f.2)

pub Answers-tokens :
    (text : List ℕ) (tokens slice : List Token) (result : Result Problem (Failure SourceError)) → slice ≡ tokens → IsUtf8 text → Lexemes text tokens →
    ((ts : List Token) → Lexemes text ts → tokens ≡ ts) → ((e : LexError) → LexFault text e → ⊥) →
    Tells (IsTokens slice) (TokensFault slice (length text)) result → Tells (IsSource text) (SourceFault text) result
Answers-tokens text tokens slice result e utf8 lexemes one none answers =
    tokens_answer text tokens result utf8 lexemes one none
    (subst (λ (l : List Token). Tells (IsTokens l) (TokensFault l (length text)) result) e answers)

-- the answer of the tree of tokens is that of the tokens
pub Answers-tree :
    (tokens : List Token) (end : ℕ) (ast : Ast) (result : Result Problem (Failure SourceError)) →
    Answers {T = Ast} (λ ast. ast) (IsTreeOf tokens) (ParseFault tokens) (Ok ast) →
    Tells (Resolves ast) (TreeFault ast) result → Tells (IsTokens tokens) (TokensFault tokens end) result
Answers-tree tokens end ast result parsed answers =
    Answers-same (λ p. p) (Resolves ast) (IsTokens tokens) (TreeFault ast) (TokensFault tokens end) result
    (λ p r. (ast, parsed.ok, r)) (λ p t. subst (λ (a : Ast). Resolves a p) (sym (one t.0 t.1)) t.2) to from answers
  where
    one : (other : Ast) → IsTreeOf tokens other → ast ≡ other
    one other tree = parsed.found other tree

    to : (e : SourceError) → TreeFault ast e → TokensFault tokens end e
    to (NotUtf8 n) f = absurd f
    to (Lexical e) f = absurd f
    to (Unexpected token offset) f = absurd f
    to (Names e) f = (ast, parsed.ok, f)

    from : (e : SourceError) → TokensFault tokens end e → TreeFault ast e
    from (NotUtf8 n) f = absurd f
    from (Lexical e) f = absurd f
    from (Unexpected token offset) f = absurd (found_no_fault (λ (a : Ast). a) (IsTreeOf tokens) (ParseFault tokens) ast parsed (Refused token) f.0)
    from (Names e) f = subst (λ (a : Ast). TreeFault a (Names e)) (sym (one f.0 f.1)) f.2

-- tokens that are refused have no other fault
refused_at :
    (tokens : List Token) (end k : ℕ) → Answers {T = Ast} (λ ast. ast) (IsTreeOf tokens) (ParseFault tokens) (Err (Fault (Refused k))) →
    Tells (IsTokens tokens) (TokensFault tokens end) (Err (Fault (Unexpected k (offset_of_token tokens end k))))
refused_at tokens end k refused =
    Answers-fault (λ p. p) (IsTokens tokens) (TokensFault tokens end) (Unexpected k (offset_of_token tokens end k)) (refused.fault, refl) others
    (λ p t. no_tree t.0 t.1)
  where
    no_tree : (ast : Ast) → IsTreeOf tokens ast → ⊥
    no_tree ast tree = fault_not_found {T = Ast} (λ (a : Ast). a) (IsTreeOf tokens) (ParseFault tokens) (Refused k) refused ast tree

    others : (e : SourceError) → TokensFault tokens end e → Unexpected k (offset_of_token tokens end k) ≡ e
    others (NotUtf8 n) f = absurd f
    others (Lexical e) f = absurd f
    others (Unexpected j offset) f =
        let same : Refused k ≡ Refused j = one_fault {T = Ast} (λ (a : Ast). a) (IsTreeOf tokens) (ParseFault tokens) (Refused k) refused (Refused j) f.0 in
        let one : k ≡ j = cc in
        let there : offset_of_token tokens end k ≡ offset = ap (λ (i : ℕ). offset_of_token tokens end i) one ∙ sym f.1 in
        cc
    others (Names e) f = absurd (no_tree f.0 f.1)

pub Answers-refused :
    (tokens : List Token) (end : ℕ) (error : ParseError) (fault : SourceError) → fault ≡ located_fault tokens end error →
    Answers {T = Ast} (λ ast. ast) (IsTreeOf tokens) (ParseFault tokens) (Err (Fault error)) →
    Tells (IsTokens tokens) (TokensFault tokens end) (Err (Fault fault))
Answers-refused tokens end (Refused k) fault e refused =
    subst (λ (f : SourceError). Tells (IsTokens tokens) (TokensFault tokens end) (Err (Fault f))) (sym e) (refused_at tokens end k refused)

-- the problem of a tree, and its fault
pub Answers-resolved :
    (ast : Ast) (p : Problem) → Answers {F = NameError} (λ (q : Problem). q) (Resolves ast) (NameFault ast) (Ok p) → Tells (Resolves ast) (TreeFault ast) (Ok p)
Answers-resolved ast p answers =
    Answers-found (λ (q : Problem). q) (Resolves ast) (TreeFault ast) p answers.ok (λ q r. answers.found q r) none
  where
    none : (e : SourceError) → TreeFault ast e → ⊥
    none (NotUtf8 n) f = f
    none (Lexical e) f = f
    none (Unexpected token offset) f = f
    none (Names e) f = found_no_fault (λ (q : Problem). q) (Resolves ast) (NameFault ast) p answers e f

pub Answers-named :
    (ast : Ast) (error : NameError) → Answers {T = Problem} (λ q. q) (Resolves ast) (NameFault ast) (Err (Fault error)) →
    Tells (Resolves ast) (TreeFault ast) (Err (Fault (Names error)))
Answers-named ast error answers =
    Answers-fault (λ p. p) (Resolves ast) (TreeFault ast) (Names error) answers.fault others
    (λ p r. fault_not_found {T = Problem} (λ (q : Problem). q) (Resolves ast) (NameFault ast) error answers p r)
  where
    others : (e : SourceError) → TreeFault ast e → Names error ≡ e
    others (NotUtf8 n) f = absurd f
    others (Lexical e) f = absurd f
    others (Unexpected token offset) f = absurd f
    others (Names e) f = ap (λ (x : NameError). Names x) (one_fault {T = Problem} (λ (q : Problem). q) (Resolves ast) (NameFault ast) error answers e f)

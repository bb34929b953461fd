-- A text has one first fault, and a text with a fault is not a list of tokens.
use Rattle.std.proofs.Common.{◌≡◌, ◌∙◌, ℕ, List, [], ◌∷◌, ◌++◌, length, refl, sym, ap, subst, inl, inr, ◌⊎◌, true, false, arith, Result, Ok, Err, IfOk, IfErr, append_assoc}
use Rattle.std.proofs.lemmas.Bool.Decides.{nat_tests}
use Rattle.std.specs.Str.{chars}
use Rattle.std.specs.declared.vec.Vec.{Vec}
use Rattle.std.specs.declared.alloc.Global.{Global}
use Rattle.rf_failure.specs.Answers.{Answers, IfFault}
use Rattle.rf_failure.specs.declared.Failure.{Failure}
use Rattle.rf_failure.specs.declared.Failure.TheVariants.{Fault, Memory}
use Rattle.rf_lexer.specs.Characters.{StopsAt}
use Rattle.rf_lexer.specs.Fault.{IsBadCharacter, IsBigNumberAt, IsCause, IsLongNameAt, IsOpenComment, IsOpenQuote, LexFault}
use Rattle.rf_lexer.specs.Gap.{BeginsNoGap, is_in_line}
use Rattle.rf_lexer.specs.Kind.{IsBigNumber, IsLongest, IsLongName, Spells}
use Rattle.rf_text.specs.Identifier.{IsQuoted, is_in_quotes}
use Rattle.rf_lexer.specs.Tokens.{IsToken, Lexemes, StandsAt}
use Rattle.rf_lexer.specs.declared.error.LexError.{LexError}
use Rattle.rf_lexer.specs.declared.error.LexError.TheVariants.{BadCharacter, OpenComment, OpenQuote, LongName, BigNumber}
use Rattle.rf_lexer.specs.declared.token.Kind.{Kind}
use Rattle.rf_lexer.specs.declared.token.Kind.TheVariants.{Word, Name, Quoted, Number, Mark}
use Rattle.rf_lexer.specs.declared.token.Token.{Token}
use Rattle.rf_lexer.proofs.Prefixes.{span_same}
use Rattle.rf_lexer.proofs.Gaps.{no_gap_none, no_gap_open}
use Rattle.rf_lexer.proofs.Heads.{Headed, prefix_head, head_once, kind_sort, kind_sort_small, past_head}
use Rattle.rf_lexer.proofs.Longest.{lexeme_no_gap, one_longest}
use Rattle.rf_lexer.proofs.Sequences.{Ends, one_lexing}

comment_head : (cs : List ℕ) → IsOpenComment cs → Headed 4 cs
comment_head cs o = record { head = 47; tail = 42 ∷ o.suffix; joined = o.begun; is = refl }

quote_head : (cs : List ℕ) → IsOpenQuote cs → Headed 1 cs
quote_head cs o = record { head = 39; tail = o.name ++ o.suffix; joined = o.begun; is = refl }

longest_head : (kind : Kind) (cs rest : List ℕ) → IsLongest kind cs rest → Headed (kind_sort kind) cs
longest_head kind cs rest l = prefix_head kind cs l.lexeme rest l.spelled l.joined

ended_quote : (c : ℕ) → is_in_line c ≡ false → is_in_quotes c ≡ false
ended_quote c e = grind (arith, nat_tests)

sort_not_quote :
    (kind : Kind) (cs prefix rest : List ℕ) → IsOpenQuote cs → Spells kind prefix → cs ≡ prefix ++ rest → (kind_sort kind ≡ 1 → ⊥) → ⊥
sort_not_quote kind cs prefix rest o s e apart =
    apart (head_once (kind_sort kind) 1 cs (prefix_head kind cs prefix rest s e) (quote_head cs o))

past_limit : (kind : Kind) → (IsLongName kind ⊎ IsBigNumber kind) → (IsLongName kind → ⊥) → (IsBigNumber kind → ⊥) → ⊥
past_limit kind (inl long) a b = a long
past_limit kind (inr big) a b = b big

token_small :
    (size : ℕ) (kind : Kind) (cs rest : List ℕ) (t : Token) (after : List ℕ) → IsLongest kind cs rest →
    (IsLongName kind ⊎ IsBigNumber kind) → IsToken size t cs after → ⊥
token_small size kind cs rest t after l past one =
    let same = one_longest t.kind kind cs after rest one.longest l in
    past_limit kind past (subst (λ (k : Kind). IsLongName k → ⊥) same.0 one.short) (subst (λ (k : Kind). IsBigNumber k → ⊥) same.0 one.small)

-- what ends a line ends what is in quotes
ended_quotes : (cs : List ℕ) → StopsAt is_in_line cs → StopsAt is_in_quotes cs
ended_quotes [] s = tt
ended_quotes (c ∷ cs) s = ended_quote c s

open_not_quoted : (cs name lexeme rest : List ℕ) → IsOpenQuote cs → cs ≡ lexeme ++ rest → IsQuoted name lexeme → ⊥
open_not_quoted cs name lexeme rest o e q =
    let whole : cs ≡ 39 ∷ (name ++ 39 ∷ rest) = e ∙ ap (λ l. l ++ rest) q.joined ∙ ap (λ l. 39 ∷ l) (append_assoc name (39 ∷ []) rest) in
    let both : 39 ∷ (o.name ++ o.suffix) ≡ 39 ∷ (name ++ 39 ∷ rest) = sym o.begun ∙ whole in
    let tails : o.name ++ o.suffix ≡ name ++ 39 ∷ rest = cc in
    let same = span_same is_in_quotes o.name name o.suffix (39 ∷ rest) o.plain (ended_quotes o.suffix o.ended) q.plain refl tails in
    let stop : StopsAt is_in_line (39 ∷ rest) = subst (λ (z : List ℕ). StopsAt is_in_line z) same.1 o.ended in
    let fails : true ≡ false = stop in
    cc

open_no_lexeme : (kind : Kind) (cs prefix rest : List ℕ) → IsOpenQuote cs → Spells kind prefix → cs ≡ prefix ++ rest → ⊥
open_no_lexeme (Word k) cs f r o s e = sort_not_quote (Word k) cs f r o s e (λ h. omega arith)
open_no_lexeme (Name t) cs f r o s e = sort_not_quote (Name t) cs f r o s e (λ h. omega arith)
open_no_lexeme (Quoted t) cs f r o s e = open_not_quoted cs s.0 f r o e s.1
open_no_lexeme (Number n) cs f r o s e = sort_not_quote (Number n) cs f r o s e (λ h. omega arith)
open_no_lexeme (Mark m) cs f r o s e = sort_not_quote (Mark m) cs f r o s e (λ h. omega arith)

comment_no_lexeme : (kind : Kind) (cs prefix rest : List ℕ) → IsOpenComment cs → Spells kind prefix → cs ≡ prefix ++ rest → ⊥
comment_no_lexeme kind cs f r o s e =
    let same : kind_sort kind ≡ 4 = head_once (kind_sort kind) 4 cs (prefix_head kind cs f r s e) (comment_head cs o) in
    let small = kind_sort_small kind in
    absurd (omega arith)

not_both : (kind : Kind) → IsLongName kind → IsBigNumber kind → ⊥
not_both (Word k) a b = a
not_both (Name t) a b = b
not_both (Quoted t) a b = b
not_both (Number n) a b = a
not_both (Mark m) a b = a

long_not_big : (cs : List ℕ) → IsLongNameAt cs → IsBigNumberAt cs → ⊥
long_not_big cs a b =
    let same = one_longest a.kind b.kind cs a.rest b.rest a.longest b.longest in
    not_both b.kind (subst (λ (k : Kind). IsLongName k) same.0 a.long) b.big

bad_not_comment : (cs : List ℕ) → IsBadCharacter cs → IsOpenComment cs → ⊥
bad_not_comment cs a b = a.no_comment b.suffix b.begun

bad_not_quote : (cs : List ℕ) → IsBadCharacter cs → IsOpenQuote cs → ⊥
bad_not_quote cs a b = a.no_quote (b.name ++ b.suffix) b.begun

bad_not_longest : (kind : Kind) (cs rest : List ℕ) → IsBadCharacter cs → IsLongest kind cs rest → ⊥
bad_not_longest kind cs rest a l = a.no_lexeme kind l.lexeme rest l.spelled l.joined

comment_not_longest : (kind : Kind) (cs rest : List ℕ) → IsOpenComment cs → IsLongest kind cs rest → ⊥
comment_not_longest kind cs rest a l = comment_no_lexeme kind cs l.lexeme rest a l.spelled l.joined

quote_not_longest : (kind : Kind) (cs rest : List ℕ) → IsOpenQuote cs → IsLongest kind cs rest → ⊥
quote_not_longest kind cs rest a l = open_no_lexeme kind cs l.lexeme rest a l.spelled l.joined

comment_not_quote : (cs : List ℕ) → IsOpenComment cs → IsOpenQuote cs → ⊥
comment_not_quote cs a b = let same : ◌≡◌ {A = ℕ} 4 1 = head_once 4 1 cs (comment_head cs a) (quote_head cs b) in absurd (omega arith)

-- at one offset there is one cause
pub one_cause : (e f : LexError) (offset : ℕ) (cs : List ℕ) → IsCause e offset cs → IsCause f offset cs → e ≡ f
one_cause (BadCharacter p) (BadCharacter q) at cs x y = ap BadCharacter (x.0 ∙ sym y.0)
one_cause (BadCharacter p) (OpenComment q) at cs x y = absurd (bad_not_comment cs x.1 y.1)
one_cause (BadCharacter p) (OpenQuote q) at cs x y = absurd (bad_not_quote cs x.1 y.1)
one_cause (BadCharacter p) (LongName q) at cs x y = let b = y.1 in absurd (bad_not_longest b.kind cs b.rest x.1 b.longest)
one_cause (BadCharacter p) (BigNumber q) at cs x y = let b = y.1 in absurd (bad_not_longest b.kind cs b.rest x.1 b.longest)
one_cause (OpenComment p) (BadCharacter q) at cs x y = absurd (bad_not_comment cs y.1 x.1)
one_cause (OpenComment p) (OpenComment q) at cs x y = ap OpenComment (x.0 ∙ sym y.0)
one_cause (OpenComment p) (OpenQuote q) at cs x y = absurd (comment_not_quote cs x.1 y.1)
one_cause (OpenComment p) (LongName q) at cs x y = let b = y.1 in absurd (comment_not_longest b.kind cs b.rest x.1 b.longest)
one_cause (OpenComment p) (BigNumber q) at cs x y = let b = y.1 in absurd (comment_not_longest b.kind cs b.rest x.1 b.longest)
one_cause (OpenQuote p) (BadCharacter q) at cs x y = absurd (bad_not_quote cs y.1 x.1)
one_cause (OpenQuote p) (OpenComment q) at cs x y = absurd (comment_not_quote cs y.1 x.1)
one_cause (OpenQuote p) (OpenQuote q) at cs x y = ap OpenQuote (x.0 ∙ sym y.0)
one_cause (OpenQuote p) (LongName q) at cs x y = let b = y.1 in absurd (quote_not_longest b.kind cs b.rest x.1 b.longest)
one_cause (OpenQuote p) (BigNumber q) at cs x y = let b = y.1 in absurd (quote_not_longest b.kind cs b.rest x.1 b.longest)
one_cause (LongName p) (BadCharacter q) at cs x y = let b = x.1 in absurd (bad_not_longest b.kind cs b.rest y.1 b.longest)
one_cause (LongName p) (OpenComment q) at cs x y = let b = x.1 in absurd (comment_not_longest b.kind cs b.rest y.1 b.longest)
one_cause (LongName p) (OpenQuote q) at cs x y = let b = x.1 in absurd (quote_not_longest b.kind cs b.rest y.1 b.longest)
one_cause (LongName p) (LongName q) at cs x y = ap LongName (x.0 ∙ sym y.0)
one_cause (LongName p) (BigNumber q) at cs x y = absurd (long_not_big cs x.1 y.1)
one_cause (BigNumber p) (BadCharacter q) at cs x y = let b = x.1 in absurd (bad_not_longest b.kind cs b.rest y.1 b.longest)
one_cause (BigNumber p) (OpenComment q) at cs x y = let b = x.1 in absurd (comment_not_longest b.kind cs b.rest y.1 b.longest)
one_cause (BigNumber p) (OpenQuote q) at cs x y = let b = x.1 in absurd (quote_not_longest b.kind cs b.rest y.1 b.longest)
one_cause (BigNumber p) (LongName q) at cs x y = absurd (long_not_big cs y.1 x.1)
one_cause (BigNumber p) (BigNumber q) at cs x y = ap BigNumber (x.0 ∙ sym y.0)

longest_ends :
    (size : ℕ) (kind : Kind) (cs rest : List ℕ) → IsLongest kind cs rest → (IsLongName kind ⊎ IsBigNumber kind) → Ends size cs
longest_ends size kind cs rest l past = record {
  no_gap = lexeme_no_gap kind cs l.lexeme rest l.spelled l.joined;
  no_token = λ t after one. token_small size kind cs rest t after l past one;
}

quote_no_gap : (cs : List ℕ) → IsOpenQuote cs → BeginsNoGap cs
quote_no_gap cs o rest one =
    let same : ◌≡◌ {A = ℕ} 1 4 = head_once 1 4 cs (quote_head cs o) (past_head cs rest one) in
    absurd (omega arith)

comment_no_gap : (cs : List ℕ) → IsOpenComment cs → BeginsNoGap cs
comment_no_gap cs o =
    subst (λ (z : List ℕ). BeginsNoGap z) (sym o.begun) (no_gap_open (42 ∷ o.suffix) o.suffix refl o.open_ended)

-- where a cause stands, nothing more begins
pub cause_ends : (size : ℕ) (e : LexError) (offset : ℕ) (cs : List ℕ) → IsCause e offset cs → Ends size cs
cause_ends size (BadCharacter p) at cs x = let b = x.1 in record {
  no_gap = b.no_gap;
  no_token = λ t after one. bad_not_longest t.kind cs after b one.longest;
}
cause_ends size (OpenComment p) at cs x = record {
  no_gap = comment_no_gap cs x.1;
  no_token = λ t after one. comment_not_longest t.kind cs after x.1 one.longest;
}
cause_ends size (OpenQuote p) at cs x = record {
  no_gap = quote_no_gap cs x.1;
  no_token = λ t after one. quote_not_longest t.kind cs after x.1 one.longest;
}
cause_ends size (LongName p) at cs x = let b = x.1 in longest_ends size b.kind cs b.rest b.longest (inl b.long)
cause_ends size (BigNumber p) at cs x = let b = x.1 in longest_ends size b.kind cs b.rest b.longest (inr b.big)

headed_more : (sort : ℕ) → Headed sort [] → ⊥
headed_more sort h = let e : [] ≡ h.head ∷ h.tail = h.joined in cc

pub nothing_ends : (size : ℕ) → Ends size []
nothing_ends size = record {
  no_gap = no_gap_none [] refl;
  no_token = λ t after one. headed_more (kind_sort t.kind) (longest_head t.kind [] after one.longest);
}

-- a cause needs a character
cause_more : (e : LexError) (offset : ℕ) → IsCause e offset [] → ⊥
cause_more (BadCharacter p) at x = let b = x.1 in let more = b.more in absurd (omega arith)
cause_more (OpenComment p) at x = headed_more 4 (comment_head [] x.1)
cause_more (OpenQuote p) at x = headed_more 1 (quote_head [] x.1)
cause_more (LongName p) at x = let b = x.1 in headed_more (kind_sort b.kind) (longest_head b.kind [] b.rest b.longest)
cause_more (BigNumber p) at x = let b = x.1 in headed_more (kind_sort b.kind) (longest_head b.kind [] b.rest b.longest)

pub one_fault : (text : List ℕ) (e f : LexError) → LexFault text e → LexFault text f → e ≡ f
one_fault text e f x y =
    let size = length text in
    let same = one_lexing (length text) (chars text) x.tokens y.tokens x.rest y.rest x.lexed y.lexed
    (cause_ends (length text) e x.offset x.rest x.cause) (cause_ends (length text) f y.offset y.rest y.cause) in
    let rests : y.rest ≡ x.rest = sym same.1 in
    let moved : IsCause f y.offset x.rest = subst (λ (z : List ℕ). IsCause f y.offset z) rests y.cause in
    let stands : StandsAt (length text) y.offset x.rest = subst (λ (z : List ℕ). StandsAt (length text) y.offset z) rests y.stands in
    let offsets : y.offset ≡ x.offset = let a = x.stands in omega arith in
    one_cause e f x.offset x.rest x.cause (subst (λ (p : ℕ). IsCause f p x.rest) offsets moved)

pub fault_no_tokens : (text : List ℕ) (ts : List Token) (e : LexError) → Lexemes text ts → LexFault text e → ⊥
fault_no_tokens text ts e x y =
    let same = one_lexing (length text) (chars text) ts y.tokens [] y.rest x y.lexed (nothing_ends (length text))
    (cause_ends (length text) e y.offset y.rest y.cause) in
    cause_more e y.offset (subst (λ (z : List ℕ). IsCause e y.offset z) (sym same.1) y.cause)

pub one_tokens : (text : List ℕ) (ts us : List Token) → Lexemes text ts → Lexemes text us → ts ≡ us
one_tokens text ts us x y =
    (one_lexing (length text) (chars text) ts us [] [] x y (nothing_ends (length text)) (nothing_ends (length text))).0

-- what a scan that is right both ways answers
pub Answers-scan :
    (text : List ℕ) (r : Result (Vec Token Global) (Failure LexError)) → IfOk r (λ v. Lexemes text v.items) →
    IfErr r (λ e. IfFault e (LexFault text)) → Answers (λ v. v.items) (Lexemes text) (LexFault text) r
Answers-scan text (Ok v) ok fault = record {
  ok = ok;
  found = λ ts x. one_tokens text v.items ts ok x;
  fault = tt;
  stuck = λ e x. absurd (fault_no_tokens text v.items e ok x);
}
Answers-scan text (Err (Fault e)) ok fault = record {
  ok = tt;
  found = λ ts x. absurd (fault_no_tokens text ts e x fault);
  fault = fault;
  stuck = λ f x. inl (ap (λ (g : LexError). Err (Fault g)) (one_fault text e f fault x));
}
Answers-scan text (Err Memory) ok fault = record { ok = tt; found = λ ts x. refl; fault = tt; stuck = λ f x. inr refl }

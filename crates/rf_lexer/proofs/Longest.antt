-- The longest lexeme is one, and what the code finds is the longest.
use Rattle.std.proofs.Common.{◌≡◌, ◌∙◌, ℕ, ◌≤◌, List, [], ◌∷◌, ◌++◌, length, refl, sym, ap, subst, arith, append_assoc, length-append}
use Rattle.std.specs.Str.{encode_utf8_all}
use Rattle.std.proofs.lemmas.List.{append_cancel_right}
use Rattle.unicode_ident.specs.Ident.{is_xid_continue}
use Rattle.rf_lexer.specs.Characters.{StopsAt}
use Rattle.rf_lexer.specs.Gap.{BeginsNoGap}
use Rattle.rf_lexer.specs.Kind.{IsLongest, Spells}
use Rattle.rf_text.specs.Identifier.{IsIdentifier, IsQuoted, is_in_quotes}
use Rattle.rf_lexer.specs.Private.Scan.{IsIdentifierTo, IsLongestMark, IsNumberTo}
use Rattle.rf_lexer.specs.Spelling.{mark_spelling}
use Rattle.rf_lexer.specs.declared.mark.Mark.{Mark as AnyMark}
use Rattle.rf_lexer.specs.declared.token.Kind.{Kind}
use Rattle.rf_lexer.specs.declared.token.Kind.TheVariants.{Word, Name, Quoted, Number, Mark}
use Rattle.rf_lexer.proofs.Prefixes.{same_prefix, span_longest}
use Rattle.rf_lexer.proofs.Heads.{prefix_head, head_prefix, head_once, identifier_head, kind_head, kind_sort, kind_sort_small, mark_head, number_head, past_head, quoted_head}
use Rattle.rf_lexer.proofs.Spellings.{keyword_spelling-inj, mark_spelling-inj}

-- lexemes of two sorts don't begin at one offset
pub sorts_agree :
    (a b : Kind) (cs f g r s : List ℕ) → Spells a f → cs ≡ f ++ r → Spells b g → cs ≡ g ++ s → kind_sort a ≡ kind_sort b
sorts_agree a b cs f g r s x e y h = head_once (kind_sort a) (kind_sort b) cs (prefix_head a cs f r x e) (prefix_head b cs g s y h)

name_once : (m n cs : List ℕ) → IsQuoted m cs → IsQuoted n cs → m ≡ n
name_once m n cs x y =
    let both : 39 ∷ (m ++ 39 ∷ []) ≡ 39 ∷ (n ++ 39 ∷ []) = sym x.joined ∙ y.joined in
    let tails : m ++ 39 ∷ [] ≡ n ++ 39 ∷ [] = cc in
    append_cancel_right m n (39 ∷ []) tails

kind_apart : (a b : Kind) (cs : List ℕ) (P : Type 0) → Spells a cs → Spells b cs → (kind_sort a ≡ kind_sort b → ⊥) → P
kind_apart a b cs P x y apart = absurd (apart (head_once (kind_sort a) (kind_sort b) cs (kind_head a cs x) (kind_head b cs y)))

-- characters are a lexeme of one kind
pub one_kind : (a b : Kind) (cs : List ℕ) → Spells a cs → Spells b cs → a ≡ b
one_kind (Word k) (Word j) cs x y = ap Word (keyword_spelling-inj k j (sym x.1 ∙ y.1))
one_kind (Word k) (Name u) cs x y = absurd (y.1 k x.1)
one_kind (Word k) (Quoted u) cs x y = kind_apart (Word k) (Quoted u) cs _ x y (λ e. omega arith)
one_kind (Word k) (Number n) cs x y = kind_apart (Word k) (Number n) cs _ x y (λ e. omega arith)
one_kind (Word k) (Mark n) cs x y = kind_apart (Word k) (Mark n) cs _ x y (λ e. omega arith)
one_kind (Name t) (Word j) cs x y = absurd (x.1 j y.1)
one_kind (Name t) (Name u) cs x y = ap Name (x.2 ∙ sym y.2)
one_kind (Name t) (Quoted u) cs x y = kind_apart (Name t) (Quoted u) cs _ x y (λ e. omega arith)
one_kind (Name t) (Number n) cs x y = kind_apart (Name t) (Number n) cs _ x y (λ e. omega arith)
one_kind (Name t) (Mark n) cs x y = kind_apart (Name t) (Mark n) cs _ x y (λ e. omega arith)
one_kind (Quoted t) (Word j) cs x y = kind_apart (Quoted t) (Word j) cs _ x y (λ e. omega arith)
one_kind (Quoted t) (Name u) cs x y = kind_apart (Quoted t) (Name u) cs _ x y (λ e. omega arith)
one_kind (Quoted t) (Quoted u) cs x y = ap Quoted (x.2 ∙ ap encode_utf8_all (name_once x.0 y.0 cs x.1 y.1) ∙ sym y.2)
one_kind (Quoted t) (Number n) cs x y = kind_apart (Quoted t) (Number n) cs _ x y (λ e. omega arith)
one_kind (Quoted t) (Mark n) cs x y = kind_apart (Quoted t) (Mark n) cs _ x y (λ e. omega arith)
one_kind (Number m) (Word j) cs x y = kind_apart (Number m) (Word j) cs _ x y (λ e. omega arith)
one_kind (Number m) (Name u) cs x y = kind_apart (Number m) (Name u) cs _ x y (λ e. omega arith)
one_kind (Number m) (Quoted u) cs x y = kind_apart (Number m) (Quoted u) cs _ x y (λ e. omega arith)
one_kind (Number m) (Number n) cs x y = ap Number (x.1 ∙ sym y.1)
one_kind (Number m) (Mark n) cs x y = kind_apart (Number m) (Mark n) cs _ x y (λ e. omega arith)
one_kind (Mark m) (Word j) cs x y = kind_apart (Mark m) (Word j) cs _ x y (λ e. omega arith)
one_kind (Mark m) (Name u) cs x y = kind_apart (Mark m) (Name u) cs _ x y (λ e. omega arith)
one_kind (Mark m) (Quoted u) cs x y = kind_apart (Mark m) (Quoted u) cs _ x y (λ e. omega arith)
one_kind (Mark m) (Number n) cs x y = kind_apart (Mark m) (Number n) cs _ x y (λ e. omega arith)
one_kind (Mark m) (Mark n) cs x y = ap Mark (mark_spelling-inj m n (sym x ∙ y))

-- the longest lexeme is one
pub one_longest :
    (a b : Kind) (cs r s : List ℕ) → IsLongest a cs r → IsLongest b cs s → (a ≡ b) × (r ≡ s)
one_longest a b cs r s x y =
    let short = x.longest b y.lexeme s y.spelled y.joined in
    let long = y.longest a x.lexeme r x.spelled x.joined in
    let both : x.lexeme ++ r ≡ y.lexeme ++ s = sym x.joined ∙ y.joined in
    let same = same_prefix x.lexeme y.lexeme r s (omega arith) both in
    let spelled : Spells b x.lexeme = subst (λ (l : List ℕ). Spells b l) (sym same.0) y.spelled in
    (one_kind a b x.lexeme x.spelled spelled, same.1)

-- where a lexeme begins, neither a space nor a comment does
pub lexeme_no_gap : (kind : Kind) (cs prefix suffix : List ℕ) → Spells kind prefix → cs ≡ prefix ++ suffix → BeginsNoGap cs
lexeme_no_gap kind cs prefix suffix s e rest one =
    let same : kind_sort kind ≡ 4 = head_once (kind_sort kind) 4 cs (prefix_head kind cs prefix suffix s e) (past_head cs rest one) in
    let small = kind_sort_small kind in
    absurd (omega arith)

identifier_longest :
    (a b r s : List ℕ) → IsIdentifier a → StopsAt is_xid_continue r → IsIdentifier b → a ++ r ≡ b ++ s → length b ≤ length a
identifier_longest [] b r s i stops j e = absurd i
identifier_longest (x ∷ a) [] r s i stops j e = absurd j
identifier_longest (x ∷ a) (y ∷ b) r s i stops j e =
    let tails : a ++ r ≡ b ++ s = cc in
    let short = span_longest is_xid_continue a b r s j.1 stops tails in
    omega arith

quoted_longest :
    (m n a b r s : List ℕ) → IsQuoted m a → IsQuoted n b → a ++ r ≡ b ++ s → length b ≤ length a
quoted_longest m n a b r s x y e =
    let first : a ++ r ≡ 39 ∷ (m ++ 39 ∷ r) = ap (λ l. l ++ r) x.joined ∙ ap (λ l. 39 ∷ l) (append_assoc m (39 ∷ []) r) in
    let second : b ++ s ≡ 39 ∷ (n ++ 39 ∷ s) = ap (λ l. l ++ s) y.joined ∙ ap (λ l. 39 ∷ l) (append_assoc n (39 ∷ []) s) in
    let both : 39 ∷ (m ++ 39 ∷ r) ≡ 39 ∷ (n ++ 39 ∷ s) = sym first ∙ e ∙ second in
    let tails : m ++ 39 ∷ r ≡ n ++ 39 ∷ s = cc in
    let short = span_longest is_in_quotes m n (39 ∷ r) (39 ∷ s) y.plain refl tails in
    omega (arith, ap length x.joined, ap length y.joined, length-append m (39 ∷ []), length-append n (39 ∷ []))

-- no prefix of cs that is a lexeme is longer than this
abbrev pub NoneLonger : List ℕ → List ℕ → Type 0
NoneLonger cs lexeme = (other : Kind) (prefix suffix : List ℕ) → Spells other prefix → cs ≡ prefix ++ suffix → length prefix ≤ length lexeme

not_identifier :
    (other : Kind) (cs rest : List ℕ) (i : IsIdentifierTo cs rest) (f b : List ℕ) → Spells other f → cs ≡ f ++ b →
    (kind_sort other ≡ 0 → ⊥) → ⊥
not_identifier other cs rest i f b s e apart =
    apart (head_once (kind_sort other) 0 cs (prefix_head other cs f b s e)
    (head_prefix 0 cs i.word rest i.joined (identifier_head i.word i.identifier)))

not_quoted :
    (other : Kind) (cs name lexeme rest : List ℕ) → cs ≡ lexeme ++ rest → IsQuoted name lexeme → (f b : List ℕ) → Spells other f →
    cs ≡ f ++ b → (kind_sort other ≡ 1 → ⊥) → ⊥
not_quoted other cs name lexeme rest j q f b s e apart =
    apart (head_once (kind_sort other) 1 cs (prefix_head other cs f b s e) (head_prefix 1 cs lexeme rest j (quoted_head name lexeme q)))

not_number :
    (other : Kind) (cs rest : List ℕ) (i : IsNumberTo cs rest) (f b : List ℕ) → Spells other f → cs ≡ f ++ b →
    (kind_sort other ≡ 2 → ⊥) → ⊥
not_number other cs rest i f b s e apart =
    apart (head_once (kind_sort other) 2 cs (prefix_head other cs f b s e)
    (head_prefix 2 cs i.digits rest i.joined (number_head i.digits i.number)))

not_mark :
    (m : AnyMark) (other : Kind) (cs rest : List ℕ) (i : IsLongestMark m cs rest) (f b : List ℕ) → Spells other f → cs ≡ f ++ b →
    (kind_sort other ≡ 3 → ⊥) → ⊥
not_mark m other cs rest i f b s e apart =
    apart (head_once (kind_sort other) 3 cs (prefix_head other cs f b s e) (head_prefix 3 cs (mark_spelling m) rest i.joined (mark_head m)))

pub none_longer_identifier : (cs rest : List ℕ) (i : IsIdentifierTo cs rest) → NoneLonger cs i.word
none_longer_identifier cs rest i (Word k) f b s e =
    identifier_longest i.word f rest b i.identifier i.ends s.0 (sym i.joined ∙ e)
none_longer_identifier cs rest i (Name t) f b s e =
    identifier_longest i.word f rest b i.identifier i.ends s.0 (sym i.joined ∙ e)
none_longer_identifier cs rest i (Quoted t) f b s e = absurd (not_identifier (Quoted t) cs rest i f b s e (λ h. omega arith))
none_longer_identifier cs rest i (Number n) f b s e = absurd (not_identifier (Number n) cs rest i f b s e (λ h. omega arith))
none_longer_identifier cs rest i (Mark m) f b s e = absurd (not_identifier (Mark m) cs rest i f b s e (λ h. omega arith))

pub none_longer_quoted :
    (cs name lexeme rest : List ℕ) → cs ≡ lexeme ++ rest → IsQuoted name lexeme → NoneLonger cs lexeme
none_longer_quoted cs name lexeme rest j q (Word k) f b s e = absurd (not_quoted (Word k) cs name lexeme rest j q f b s e (λ h. omega arith))
none_longer_quoted cs name lexeme rest j q (Name t) f b s e = absurd (not_quoted (Name t) cs name lexeme rest j q f b s e (λ h. omega arith))
none_longer_quoted cs name lexeme rest j q (Quoted t) f b s e = quoted_longest name s.0 lexeme f rest b q s.1 (sym j ∙ e)
none_longer_quoted cs name lexeme rest j q (Number n) f b s e = absurd (not_quoted (Number n) cs name lexeme rest j q f b s e (λ h. omega arith))
none_longer_quoted cs name lexeme rest j q (Mark m) f b s e = absurd (not_quoted (Mark m) cs name lexeme rest j q f b s e (λ h. omega arith))

pub none_longer_number : (cs rest : List ℕ) (n : IsNumberTo cs rest) → NoneLonger cs n.digits
none_longer_number cs rest i (Word k) f b s e = absurd (not_number (Word k) cs rest i f b s e (λ h. omega arith))
none_longer_number cs rest i (Name t) f b s e = absurd (not_number (Name t) cs rest i f b s e (λ h. omega arith))
none_longer_number cs rest i (Quoted t) f b s e = absurd (not_number (Quoted t) cs rest i f b s e (λ h. omega arith))
none_longer_number cs rest i (Number n) f b s e = i.ends f b s.0 e
none_longer_number cs rest i (Mark m) f b s e = absurd (not_number (Mark m) cs rest i f b s e (λ h. omega arith))

pub none_longer_mark : (m : AnyMark) (cs rest : List ℕ) → IsLongestMark m cs rest → NoneLonger cs (mark_spelling m)
none_longer_mark m cs rest i (Word k) f b s e = absurd (not_mark m (Word k) cs rest i f b s e (λ h. omega arith))
none_longer_mark m cs rest i (Name t) f b s e = absurd (not_mark m (Name t) cs rest i f b s e (λ h. omega arith))
none_longer_mark m cs rest i (Quoted t) f b s e = absurd (not_mark m (Quoted t) cs rest i f b s e (λ h. omega arith))
none_longer_mark m cs rest i (Number n) f b s e = absurd (not_mark m (Number n) cs rest i f b s e (λ h. omega arith))
none_longer_mark m cs rest i (Mark n) f b s e =
    let short = i.longest n b (e ∙ ap (λ l. l ++ b) s) in
    omega (arith, ap length s)

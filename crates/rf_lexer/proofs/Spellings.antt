-- Keywords and marks by their indices among all of them.
use Rattle.std.proofs.Common.{◌≡◌, ◌∙◌, ℕ, suc, cond, List, [], ◌∷◌, get_or, map, refl, sym, ap}
use Rattle.std.specs.Str.{bytes_eq, encode_utf8_all}
use Rattle.std.specs.Char.{encode_utf8}
use Rattle.rf_lexer.specs.Spelling.{keyword_spelling, mark_spelling}
use Rattle.rf_lexer.specs.declared.keyword.Keyword.{Keyword}
use Rattle.rf_lexer.specs.declared.keyword.Keyword.TheVariants.{Abstract, Atom, Class, Container, Contains, Declare, Default, Enum, Error, Extends, False, Multi, Opposite, Pred, Refers, Scope, True, Unknown}
use Rattle.rf_lexer.specs.declared.mark.Mark.{Mark}
use Rattle.rf_lexer.specs.declared.mark.Mark.TheVariants.{Dot, DotDot, Comma, Semicolon, Colon, ColonColon, LeftParen, RightParen, LeftBracket, RightBracket, LeftBrace, RightBrace, Bang, Question, Star, Plus, Equal, PlusEqual, EqualEqual, BangEqual, Iff}

-- the index of a list among others, where it is first
abbrev index_in : List (List ℕ) → List ℕ → ℕ
index_in [] cs = 0
index_in (x ∷ xs) cs = cond (bytes_eq x cs) 0 (suc (index_in xs cs))

abbrev pub all_keywords : List Keyword
all_keywords = Abstract ∷ Atom ∷ Class ∷ Container ∷ Contains ∷ Declare ∷ Default ∷ Enum ∷ Error ∷ Extends ∷ False ∷ Multi ∷ Opposite ∷ Pred ∷ Refers ∷ Scope ∷ True ∷ Unknown ∷ []

abbrev keyword_index : Keyword → ℕ
keyword_index Abstract = 0
keyword_index Atom = 1
keyword_index Class = 2
keyword_index Container = 3
keyword_index Contains = 4
keyword_index Declare = 5
keyword_index Default = 6
keyword_index Enum = 7
keyword_index Error = 8
keyword_index Extends = 9
keyword_index False = 10
keyword_index Multi = 11
keyword_index Opposite = 12
keyword_index Pred = 13
keyword_index Refers = 14
keyword_index Scope = 15
keyword_index True = 16
keyword_index Unknown = 17

abbrev keyword_list : List (List ℕ)
keyword_list = map keyword_spelling all_keywords

keyword_found : (k : Keyword) → index_in keyword_list (keyword_spelling k) ≡ keyword_index k
keyword_found Abstract = refl
keyword_found Atom = refl
keyword_found Class = refl
keyword_found Container = refl
keyword_found Contains = refl
keyword_found Declare = refl
keyword_found Default = refl
keyword_found Enum = refl
keyword_found Error = refl
keyword_found Extends = refl
keyword_found False = refl
keyword_found Multi = refl
keyword_found Opposite = refl
keyword_found Pred = refl
keyword_found Refers = refl
keyword_found Scope = refl
keyword_found True = refl
keyword_found Unknown = refl

keyword_listed : (k d : Keyword) → get_or all_keywords (keyword_index k) d ≡ k
keyword_listed Abstract d = refl
keyword_listed Atom d = refl
keyword_listed Class d = refl
keyword_listed Container d = refl
keyword_listed Contains d = refl
keyword_listed Declare d = refl
keyword_listed Default d = refl
keyword_listed Enum d = refl
keyword_listed Error d = refl
keyword_listed Extends d = refl
keyword_listed False d = refl
keyword_listed Multi d = refl
keyword_listed Opposite d = refl
keyword_listed Pred d = refl
keyword_listed Refers d = refl
keyword_listed Scope d = refl
keyword_listed True d = refl
keyword_listed Unknown d = refl

pub encodes-keyword_spelling : (k : Keyword) → encode_utf8_all (keyword_spelling k) ≡ keyword_spelling k
unfolding encode_utf8
encodes-keyword_spelling Abstract = refl
encodes-keyword_spelling Atom = refl
encodes-keyword_spelling Class = refl
encodes-keyword_spelling Container = refl
encodes-keyword_spelling Contains = refl
encodes-keyword_spelling Declare = refl
encodes-keyword_spelling Default = refl
encodes-keyword_spelling Enum = refl
encodes-keyword_spelling Error = refl
encodes-keyword_spelling Extends = refl
encodes-keyword_spelling False = refl
encodes-keyword_spelling Multi = refl
encodes-keyword_spelling Opposite = refl
encodes-keyword_spelling Pred = refl
encodes-keyword_spelling Refers = refl
encodes-keyword_spelling Scope = refl
encodes-keyword_spelling True = refl
encodes-keyword_spelling Unknown = refl

-- a spelling is that of one keyword
pub keyword_spelling-inj : (k j : Keyword) → keyword_spelling k ≡ keyword_spelling j → k ≡ j
keyword_spelling-inj k j e =
    let indices : keyword_index k ≡ keyword_index j = sym (keyword_found k) ∙ ap (index_in keyword_list) e ∙ keyword_found j in
    sym (keyword_listed k k) ∙ ap (λ i. get_or all_keywords i k) indices ∙ keyword_listed j k

abbrev all_marks : List Mark
all_marks = Iff ∷ DotDot ∷ ColonColon ∷ PlusEqual ∷ EqualEqual ∷ BangEqual ∷ Dot ∷ Comma ∷ Semicolon ∷ Colon ∷ LeftParen ∷ RightParen ∷ LeftBracket ∷ RightBracket ∷ LeftBrace ∷ RightBrace ∷ Bang ∷ Question ∷ Star ∷ Plus ∷ Equal ∷ []

abbrev mark_index : Mark → ℕ
mark_index Dot = 6
mark_index DotDot = 1
mark_index Comma = 7
mark_index Semicolon = 8
mark_index Colon = 9
mark_index ColonColon = 2
mark_index LeftParen = 10
mark_index RightParen = 11
mark_index LeftBracket = 12
mark_index RightBracket = 13
mark_index LeftBrace = 14
mark_index RightBrace = 15
mark_index Bang = 16
mark_index Question = 17
mark_index Star = 18
mark_index Plus = 19
mark_index Equal = 20
mark_index PlusEqual = 3
mark_index EqualEqual = 4
mark_index BangEqual = 5
mark_index Iff = 0

abbrev mark_list : List (List ℕ)
mark_list = map mark_spelling all_marks

mark_found : (m : Mark) → index_in mark_list (mark_spelling m) ≡ mark_index m
mark_found Dot = refl
mark_found DotDot = refl
mark_found Comma = refl
mark_found Semicolon = refl
mark_found Colon = refl
mark_found ColonColon = refl
mark_found LeftParen = refl
mark_found RightParen = refl
mark_found LeftBracket = refl
mark_found RightBracket = refl
mark_found LeftBrace = refl
mark_found RightBrace = refl
mark_found Bang = refl
mark_found Question = refl
mark_found Star = refl
mark_found Plus = refl
mark_found Equal = refl
mark_found PlusEqual = refl
mark_found EqualEqual = refl
mark_found BangEqual = refl
mark_found Iff = refl

mark_listed : (m d : Mark) → get_or all_marks (mark_index m) d ≡ m
mark_listed Dot d = refl
mark_listed DotDot d = refl
mark_listed Comma d = refl
mark_listed Semicolon d = refl
mark_listed Colon d = refl
mark_listed ColonColon d = refl
mark_listed LeftParen d = refl
mark_listed RightParen d = refl
mark_listed LeftBracket d = refl
mark_listed RightBracket d = refl
mark_listed LeftBrace d = refl
mark_listed RightBrace d = refl
mark_listed Bang d = refl
mark_listed Question d = refl
mark_listed Star d = refl
mark_listed Plus d = refl
mark_listed Equal d = refl
mark_listed PlusEqual d = refl
mark_listed EqualEqual d = refl
mark_listed BangEqual d = refl
mark_listed Iff d = refl

-- a spelling is that of one mark
pub mark_spelling-inj : (m n : Mark) → mark_spelling m ≡ mark_spelling n → m ≡ n
mark_spelling-inj m n e =
    let indices : mark_index m ≡ mark_index n = sym (mark_found m) ∙ ap (index_in mark_list) e ∙ mark_found n in
    sym (mark_listed m m) ∙ ap (λ i. get_or all_marks i m) indices ∙ mark_listed n m

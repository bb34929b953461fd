-- What holds of keywords.
use Rattle.std.specs.Prelude.{◌≡◌, ◌↔◌, ℕ, IsTrue, List}
use Rattle.rf_text.specs.Keyword.{is_keyword}
use Rattle.rf_lexer.specs.Spelling.{keyword_spelling}
use Rattle.rf_lexer.specs.declared.keyword.Keyword.{Keyword}

-- a word is a keyword exactly where it is how some keyword is written
abbrev pub KeywordsAreTold : Type 0
KeywordsAreTold =
    (word : List ℕ) → IsTrue (is_keyword word) ↔ ((k : Keyword) × (word ≡ keyword_spelling k))

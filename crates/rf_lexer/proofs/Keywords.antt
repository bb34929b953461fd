-- The keywords and how they are written.
use Rattle.std.proofs.Common.{◌≡◌, ◌↔◌, ◌∙◌, ℕ, true, false, IsTrue, List, [], ◌∷◌, map, refl, sym, ap, inl, inr}
use Rattle.std.specs.List.{list_any}
use Rattle.std.specs.Str.{bytes_eq}
use Rattle.std.proofs.lemmas.Bool.{or_cases}
use Rattle.std.proofs.lemmas.Slice.Eq.{bytes_eq-Decides}
use Rattle.rf_text.specs.Keyword.{is_keyword}
use Rattle.rf_lexer.specs.Spelling.{keyword_spelling}
use Rattle.rf_lexer.specs.declared.keyword.Keyword.{Keyword}
use Rattle.rf_lexer.proofs.Spellings.{all_keywords}
use Rattle.rf_lexer.specs.declared.keyword.Keyword.TheVariants.{Abstract, Atom, Class, Container, Contains, Declare, Default, Enum, Error, Extends, False, Multi, Opposite, Pred, Refers, Scope, True, Unknown}

abbrev IsSpelling : List ℕ → Type 0
IsSpelling word = (k : Keyword) × (word ≡ keyword_spelling k)

one_of : (ks : List Keyword) (word : List ℕ) → list_any (λ w. bytes_eq w word) (map keyword_spelling ks) ≡ true → IsSpelling word
one_of [] word e = let none : false ≡ true = e in cc
one_of (k ∷ ks) word e =
    let others = list_any (λ w. bytes_eq w word) (map keyword_spelling ks) in
    elim (or_cases (bytes_eq (keyword_spelling k) word) others e) [
      | inl here ↦ (k, sym ((bytes_eq-Decides (keyword_spelling k) word).0 here))
      | inr later ↦ one_of ks word later
    ]

keyword_kept : (k : Keyword) → is_keyword (keyword_spelling k) ≡ true
keyword_kept Abstract = refl
keyword_kept Atom = refl
keyword_kept Class = refl
keyword_kept Container = refl
keyword_kept Contains = refl
keyword_kept Declare = refl
keyword_kept Default = refl
keyword_kept Enum = refl
keyword_kept Error = refl
keyword_kept Extends = refl
keyword_kept False = refl
keyword_kept Multi = refl
keyword_kept Opposite = refl
keyword_kept Pred = refl
keyword_kept Refers = refl
keyword_kept Scope = refl
keyword_kept True = refl
keyword_kept Unknown = refl

pub keywords_told : (word : List ℕ) → IsTrue (is_keyword word) ↔ IsSpelling word
keywords_told word = (λ e. one_of all_keywords word e, λ s. ap is_keyword s.1 ∙ keyword_kept s.0)

-- Names compared by their texts.
use Rattle.std.specs.Prelude.{Bool, List, ℕ, codes}
use Rattle.std.specs.Str.{bytes_eq}
use Rattle.std.specs.List.{list_any}
use Rattle.rf_syntax.specs.declared.name.Name.{Name}

-- whether a name is this text
abbrev pub reads : List ℕ → Name → Bool
reads text name = bytes_eq name.text text

-- whether it is one of these texts
abbrev pub is_text_of : List (List ℕ) → Name → Bool
is_text_of texts name = list_any (λ text. bytes_eq name.text text) texts

-- the name that stands for a variable of its own each time
abbrev pub is_blank : Name → Bool
is_blank name = reads (codes "_") name

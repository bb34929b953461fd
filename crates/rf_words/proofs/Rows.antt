-- The rows of a reader's matches, and the values that they have.
use Rattle.std.proofs.Common.{◌≡◌, Bool, true, false, List, [], ◌∷◌, ◌++◌, refl, ◌∙◌, ap}
use Rattle.std.proofs.lemmas.Slice.Eq.{bytes_eq-Decides}
use Rattle.std.specs.Str.{bytes_eq}
use Rattle.clap.specs.Walk.{Row, with_values}
use Rattle.clap.specs.declared.builder.value_parser.Reading.TheVariants as reading
use Rattle.clap.specs.declared.parser.matches.ValueSource.TheVariants.{CommandLine}
use Rattle.rf_words.specs.Arguments.{Text}
use Rattle.rf_words.specs.Reader.{values_at}

pub same_text : (t : Text) → bytes_eq t t ≡ true
same_text t = (bytes_eq-Decides t t).1 refl

pub is_text : (s t : Text) → bytes_eq s t ≡ true → s ≡ t
is_text s t e = (bytes_eq-Decides s t).0 e

-- one more value of an id
abbrev pub add : Text → Text → List Row → List Row
add id value rows = with_values id reading.AsWritten CommandLine (value ∷ []) rows

pub values_same : (id value : Text) (rows : List Row) → values_at id (add id value rows) ≡ values_at id rows ++ value ∷ []
values_same id value [] = rw (same_text id) refl
values_same id value (r ∷ rs) = go (bytes_eq r.id id) refl (values_same id value rs)
  where
    go : (b : Bool) → bytes_eq r.id id ≡ b → values_at id (add id value rs) ≡ values_at id rs ++ value ∷ []
        → values_at id (add id value (r ∷ rs)) ≡ values_at id (r ∷ rs) ++ value ∷ []
    go true e more = rw (e, e) refl
    go false e more = rw (e, e) more

pub values_other : (id other value : Text) (rows : List Row) → bytes_eq id other ≡ false → values_at other (add id value rows) ≡ values_at other rows
values_other id other value [] apart = rw apart refl
values_other id other value (r ∷ rs) apart = go (bytes_eq r.id id) refl (values_other id other value rs apart)
  where
    next : (b : Bool) → bytes_eq r.id other ≡ b → bytes_eq r.id id ≡ false → values_at other (add id value rs) ≡ values_at other rs
        → values_at other (add id value (r ∷ rs)) ≡ values_at other (r ∷ rs)
    next true e f more = rw (f, e) refl
    next false e f more = rw (f, e) more

    go : (b : Bool) → bytes_eq r.id id ≡ b → values_at other (add id value rs) ≡ values_at other rs
        → values_at other (add id value (r ∷ rs)) ≡ values_at other (r ∷ rs)
    go true e more =
        let differs : bytes_eq r.id other ≡ false = ap (λ t. bytes_eq t other) (is_text r.id id e) ∙ apart in
        rw (e, differs) refl
    go false e more = next (bytes_eq r.id other) refl e more

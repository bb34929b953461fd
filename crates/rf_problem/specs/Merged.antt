-- The merge of any number of truths.
use Rattle.std.specs.Prelude.{List, [], ◌∷◌, Option, None, Some}
use Rattle.rf_values.specs.declared.truth.Truth.{Truth}
use Rattle.rf_values.specs.declared.truth.Truth.TheVariants.{Unknown}
use Rattle.rf_values.specs.Truth.{merge}

-- the merge of truths, unknown where there is none
abbrev pub merge_all : List Truth → Truth
merge_all [] = Unknown
merge_all (v ∷ vs) = merge v (merge_all vs)

-- the merge of truths, if there is any
abbrev pub merged : List Truth → Option Truth
merged [] = None
merged (v ∷ vs) = Some (merge_all (v ∷ vs))

-- the merge of two truths, each of which may be missing
abbrev pub joined : Option Truth → Option Truth → Option Truth
joined None b = b
joined (Some a) None = Some a
joined (Some a) (Some b) = Some (merge a b)

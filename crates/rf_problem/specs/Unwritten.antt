-- Private: no public contract cites this.
-- A truth that may be missing, as a list.
use Rattle.std.specs.Prelude.{List, [], ◌∷◌, Option, None, Some}
use Rattle.rf_values.specs.declared.truth.Truth.{Truth}

-- a truth as a list of at most one
abbrev pub listed : Option Truth → List Truth
listed None = []
listed (Some v) = v ∷ []

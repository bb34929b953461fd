-- Private: no public contract cites this.
-- What stands between the names of a list.
use Rattle.std.specs.Prelude.{ℕ, zero, suc, List, [], codes}

-- what stands before the name of this number: nothing before the first, a comma and a space before each other
abbrev pub separator : ℕ → List ℕ
separator zero = []
separator (suc n) = codes ", "

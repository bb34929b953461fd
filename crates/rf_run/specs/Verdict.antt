-- How the verdict on a graph is printed.
use Rattle.std.specs.Prelude.{◌≡◌, ◌<◌, ℕ, List, [], ◌∷◌, ◌++◌, length, codes, true}
use Rattle.rf_problem.specs.declared.problem.Problem.{Problem}
use Rattle.rf_problem.specs.Valid.{is_declared}
use Rattle.rf_graph.specs.Document.{object_name, reference_name, symbol_name}
use Rattle.rf_graph.specs.declared.verdict.Verdict.{Verdict}
use Rattle.rf_graph.specs.declared.verdict.Verdict.TheVariants.{Satisfied, Violated}
use Rattle.rf_graph.specs.declared.verdict.Violation.{Violation}
use Rattle.rf_graph.specs.declared.verdict.Violation.TheVariants.{Class, Edge, Opposite, Degree, Containers, Cycle, Object, Asserted, Scope}
use Rattle.rf_tree.specs.Document.{spaced}
use Rattle.rf_run.specs.declared.end.Sign.{Sign}
use Rattle.rf_run.specs.declared.end.Sign.TheVariants.{Yes, No}

-- a violation as it is printed: its kind, and its place
abbrev pub violation_text : Problem → Violation → List ℕ
violation_text p (Class x) = codes "class" ++ spaced (x ∷ [])
violation_text p (Edge r x y) = codes "edge " ++ reference_name p r ++ spaced (x ∷ y ∷ [])
violation_text p (Opposite r x y) = codes "opposite " ++ reference_name p r ++ spaced (x ∷ y ∷ [])
violation_text p (Degree r x) = codes "degree " ++ reference_name p r ++ spaced (x ∷ [])
violation_text p (Containers z) = codes "containers" ++ spaced (z ∷ [])
violation_text p (Cycle x) = codes "cycle" ++ spaced (x ∷ [])
violation_text p (Object o) = codes "object " ++ object_name p o
violation_text p (Asserted symbol t) = codes "asserted " ++ symbol_name p symbol ++ spaced t
violation_text p (Scope s) = codes "scope" ++ spaced (s ∷ [])

-- a verdict as it is printed
abbrev pub verdict_text : Problem → Verdict → List ℕ
verdict_text p Satisfied = codes "satisfied\n"
verdict_text p (Violated v) = codes "violated " ++ violation_text p v ++ codes "\n"

-- a verdict is a yes or a no
abbrev pub sign_of : Verdict → Sign
sign_of Satisfied = Yes
sign_of (Violated v) = No

-- for private functions: what a violation names by name is there
abbrev pub IsNamed : Problem → Violation → Type 0
IsNamed p (Edge r x y) = r < length p.references
IsNamed p (Opposite r x y) = r < length p.references
IsNamed p (Degree r x) = r < length p.references
IsNamed p (Object o) = o < length p.objects
IsNamed p (Asserted symbol t) = is_declared (length p.classes) (length p.references) (length p.predicates) symbol ≡ true
IsNamed p _ = Unit {0}

-- for private functions: a verdict names only what is there
abbrev pub IsPrintable : Problem → Verdict → Type 0
IsPrintable p Satisfied = Unit {0}
IsPrintable p (Violated v) = IsNamed p v

-- The first bad line is one.
use Rattle.std.proofs.Common.{◌≡◌, ◌<◌, ◌≤◌, ◌-◌, ◌⊎◌, ◌∙◌, inl, inr, IfOk, Result, Ok, Err, ℕ, List, ◌++◌, length, take, drop, refl, sym, ap, arith, append_assoc, length-take}
use Rattle.std.proofs.lemmas.List.{take-append-drop}
use Rattle.rf_text.specs.Line.{joined_lines}
use Rattle.rf_text.proofs.LineLemmas.{joined_lines-append}
use Rattle.rf_problem.specs.declared.problem.Problem.{Problem}
use Rattle.rf_graph.specs.BadLine.{Begins, IsBadLine}
use Rattle.rf_graph.specs.Document.{IsDocument}
use Rattle.rf_graph.specs.declared.graph.Graph.{Graph}
use Rattle.rf_graph.specs.declared.read.GraphError.{GraphError}
use Rattle.rf_graph.specs.declared.read.GraphError.TheVariants.{BadLine, Memory}

-- what begins with so many lines begins with fewer
pub Begins-fewer : (p : Problem) (bytes : List ℕ) (j k : ℕ) → j ≤ k → Begins p bytes k → Begins p bytes j
Begins-fewer p bytes j k fewer b =
    let parts : take j b.prefix ++ drop j b.prefix ≡ b.prefix = take-append-drop j b.prefix in
    let room : j ≤ length b.prefix = omega (arith, b.many) in
    record {
      prefix = take j b.prefix;
      rest = joined_lines (drop j b.prefix) ++ b.rest;
      graph = b.graph;
      more = drop j b.prefix ++ b.more;
      fits = b.fits;
      many = omega (arith, length-take j b.prefix);
      begun =
          b.begun ∙ ap (λ ls. joined_lines ls ++ b.rest) (sym parts)
          ∙ ap (λ bs. bs ++ b.rest) (joined_lines-append (take j b.prefix) (drop j b.prefix))
          ∙ append_assoc (joined_lines (take j b.prefix)) (joined_lines (drop j b.prefix)) b.rest;
      continued = b.continued ∙ ap (λ ls. ls ++ b.more) (sym parts) ∙ append_assoc (take j b.prefix) (drop j b.prefix) b.more;
    }

-- no bad line comes before another
bad_no_sooner : (p : Problem) (bytes : List ℕ) (n m : ℕ) → IsBadLine p bytes n → IsBadLine p bytes m → n < m → ⊥
bad_no_sooner p bytes n m first second sooner = first.here (Begins-fewer p bytes n (m - 1) (omega arith) second.before)

pub one_bad_line : (p : Problem) (bytes : List ℕ) (n m : ℕ) → IsBadLine p bytes n → IsBadLine p bytes m → n ≡ m
one_bad_line p bytes n m first second =
    let no_sooner : n < m → ⊥ = bad_no_sooner p bytes n m first second in
    let no_later : m < n → ⊥ = bad_no_sooner p bytes m n second first in
    omega (arith, no_sooner, no_later)

-- the graph whose document the bytes are is read, or memory runs out
pub document_found :
    (p : Problem) (bytes : List ℕ) (g : Graph) (result : Result Graph GraphError) → IfOk result (λ h. (other : Graph) → IsDocument p other bytes → other ≡ h) →
    ((line : ℕ) → result ≡ Err (BadLine line) → IsBadLine p bytes line) → IsDocument p g bytes → (result ≡ Ok g) ⊎ (result ≡ Err Memory)
document_found p bytes g (Ok h) same bad drawn = inl (ap Ok (sym (same g drawn)))
document_found p bytes g (Err (BadLine line)) same bad drawn = absurd ((bad line refl).none g drawn)
document_found p bytes g (Err Memory) same bad drawn = inr refl

-- the first bad line is told, or memory runs out
pub bad_line_found :
    (p : Problem) (bytes : List ℕ) (line : ℕ) (result : Result Graph GraphError) → IfOk result (λ g. IsDocument p g bytes) →
    ((line : ℕ) → result ≡ Err (BadLine line) → IsBadLine p bytes line) → IsBadLine p bytes line → (result ≡ Err (BadLine line)) ⊎ (result ≡ Err Memory)
bad_line_found p bytes line (Ok g) ok bad here = absurd (here.none g ok)
bad_line_found p bytes line (Err (BadLine k)) ok bad here = inl (ap (λ n. Err (BadLine n)) (one_bad_line p bytes k line (bad k refl) here))
bad_line_found p bytes line (Err Memory) ok bad here = inr refl

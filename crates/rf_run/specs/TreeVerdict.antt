-- How the verdict on a tree is printed.
use Rattle.std.specs.Prelude.{ℕ, List, ◌++◌, codes, decimal}
use Rattle.rf_check.specs.declared.verdict.TreeVerdict.{TreeVerdict}
use Rattle.rf_check.specs.declared.verdict.TreeVerdict.TheVariants.{Refuted, Rejected, Unfinished}
use Rattle.rf_run.specs.declared.end.Sign.{Sign}
use Rattle.rf_run.specs.declared.end.Sign.TheVariants.{Yes, No, Unfinished as More}

-- a verdict as it is printed: with the number of decisions, or that of the first rejected line
abbrev pub tree_verdict_text : TreeVerdict → List ℕ
tree_verdict_text (Refuted decisions) = codes "refuted " ++ (decimal decisions ++ codes "\n")
tree_verdict_text (Unfinished decisions) = codes "unfinished " ++ (decimal decisions ++ codes "\n")
tree_verdict_text (Rejected line) = codes "rejected " ++ (decimal line ++ codes "\n")

-- a refutation is a yes, a rejected line a no
abbrev pub sign_of_tree : TreeVerdict → Sign
sign_of_tree (Refuted decisions) = Yes
sign_of_tree (Unfinished decisions) = More
sign_of_tree (Rejected line) = No

-- Private: no public contract cites this.
-- A graph as what is known of its nodes: each fact holds or doesn't, and all of them are present.
use Rattle.std.specs.Prelude.{Bool, not, ◌==◌}
use Rattle.rf_values.specs.Truth.{truth_of}
use Rattle.rf_values.specs.declared.truth.Truth.{Truth}
use Rattle.rf_values.specs.declared.truth.Truth.TheVariants.{True}
use Rattle.rf_problem.specs.Classes.{is_below}
use Rattle.rf_problem.specs.declared.problem.Problem.{Problem}
use Rattle.rf_graph.specs.Graph.{class_of, has_edge, origin_of, size_of}
use Rattle.rf_graph.specs.declared.graph.Graph.{Graph}
use Rattle.rf_evaluate.specs.Known.{Known}

-- the truth of what holds or doesn't
abbrev pub certain : Bool → Truth
certain holds = truth_of holds holds

abbrev pub graph_known : Problem → Graph → Known
graph_known p g = record {
  problem = p;
  size = size_of g;
  origin = origin_of g;
  presence = λ x. True;
  class = λ k x. certain (is_below p.classes (class_of g x) k);
  edge = λ r x y. certain (has_edge g r x y);
  same = λ x y. certain (x == y);
  different = λ x y. certain (not (x == y));
}

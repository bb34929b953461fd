-- The scopes of a text that breaks no rule of names are those of a problem.
use Rattle.std.proofs.Common.{◌<◌, map, length, get_or, arith}
use Rattle.std.specs.Option.{ForSome}
use Rattle.std.proofs.lemmas.List.{length-map}
use Rattle.std.proofs.lemmas.List.Elements.{All-map}
use Rattle.rf_bounds.specs.declared.TheConstants.{MOST_SCOPES}
use Rattle.rf_problem.specs.Valid.{AreScopes, IsSmall}
use Rattle.rf_limits.specs.declared.kind.LimitKind.TheVariants.{Scopes}
use Rattle.rf_names.specs.Declarations.{Declared}
use Rattle.rf_resolve.specs.Passes.{Passes}
use Rattle.rf_resolve.specs.Readable.{IsReadableDeclared}
use Rattle.rf_build.specs.Resolved.{resolved_class, resolved_scope}
use Rattle.rf_resolve.proofs.ClassesFit.{class_count}
use Rattle.rf_resolve.proofs.ClearOffsets.{few-from_first_past}
use Rattle.rf_resolve.proofs.NumberFacts.{position_below}
use Rattle.rf_resolve.proofs.SmallCounts.{IsSmall-range}

pub scopes_fit : (d : Declared) → Passes d → IsReadableDeclared d →
    AreScopes (map (resolved_class d) d.classes) (map (resolved_scope d) d.bounds)
scopes_fit d passes readable = record {
  few =
      let long = length-map d.bounds (resolved_scope d) in
      let most = few-from_first_past (λ b. b.name) MOST_SCOPES d.bounds (passes.limits Scopes) in omega arith;
  classes_there = All-map (λ s. ForSome s.class (λ c. c < length (map (resolved_class d) d.classes))) (resolved_scope d) d.bounds
      (λ k b l c is. let long = class_count d in let below = position_below _ d.classes c is in omega arith);
  ranges = All-map (λ s. IsSmall s.range) (resolved_scope d) d.bounds (λ k b l. IsSmall-range (get_or d.bounds k b).range (readable.bounds k b l));
}

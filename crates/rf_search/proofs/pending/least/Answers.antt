use Rattle.std.proofs.Common.{None, subst}
use Rattle.rf_pending.specs.Families.{IsLeastOf, is_of_containment, is_of_degrees, is_of_scopes, is_of_types}
use Rattle.rf_search.proofs.FamilyLemmas.{from_containment, from_degrees, from_scopes, from_types}
use Rattle.rf_search.proofs.pending.least.Goals as goal

pub returns-in-Some-clause-least : goal.returns-in-Some-clause-least
returns-in-Some-clause-least g c =
    let p = g.V.Facts.problem c.args.view.now in
    let s = g.V.Facts.state c.args.view.now in
    from_types p s c.in-Some.rule (subst (IsLeastOf is_of_types p s) c.in-Some.is c.in_ok-rule.ensures.least)

pub returns-in-Some-2-clause-least : goal.returns-in-Some-2-clause-least
returns-in-Some-2-clause-least g c =
    let p = g.V.Facts.problem c.args.view.now in
    let s = g.V.Facts.state c.args.view.now in
    let t : IsLeastOf is_of_types p s None = subst (IsLeastOf is_of_types p s) c.in_default.is c.in_ok-rule.ensures.least in
    from_degrees p s t c.in-Some-2.rule (subst (IsLeastOf is_of_degrees p s) c.in-Some-2.is c.in_ok-rule-2.ensures.least)

pub returns-in-Some-3-clause-least : goal.returns-in-Some-3-clause-least
returns-in-Some-3-clause-least g c =
    let p = g.V.Facts.problem c.args.view.now in
    let s = g.V.Facts.state c.args.view.now in
    let t : IsLeastOf is_of_types p s None = subst (IsLeastOf is_of_types p s) c.in_default.is c.in_ok-rule.ensures.least in
    let d : IsLeastOf is_of_degrees p s None = subst (IsLeastOf is_of_degrees p s) c.in_default-2.is c.in_ok-rule-2.ensures.least in
    from_containment p s t d c.in-Some-3.rule (subst (IsLeastOf is_of_containment p s) c.in-Some-3.is c.in_ok-rule-3.ensures.least)

pub returns-in-Some-4-clause-least : goal.returns-in-Some-4-clause-least
returns-in-Some-4-clause-least g c =
    let p = g.V.Facts.problem c.args.view.now in
    let s = g.V.Facts.state c.args.view.now in
    let t : IsLeastOf is_of_types p s None = subst (IsLeastOf is_of_types p s) c.in_default.is c.in_ok-rule.ensures.least in
    let d : IsLeastOf is_of_degrees p s None = subst (IsLeastOf is_of_degrees p s) c.in_default-2.is c.in_ok-rule-2.ensures.least in
    let k : IsLeastOf is_of_containment p s None = subst (IsLeastOf is_of_containment p s) c.in_default-3.is c.in_ok-rule-3.ensures.least in
    from_scopes p s t d k c.in-Some-4.rule (subst (IsLeastOf is_of_scopes p s) c.in-Some-4.is c.in_ok-rule-4.ensures.least)

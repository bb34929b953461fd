use Rattle.std.proofs.Common.{◌≡◌, ◌≢◌, ◌∷◌, ◌∙◌, [], ℕ, List, None, Some}
use Rattle.std.specs.Cmp.{unsigned_Decides}
use Rattle.std.proofs.lemmas.Slice.Eq.{strip_prefix_is}
use Rattle.rf_text.proofs.WrittenLemmas.{bare_found, quoted_closed, quoted_found}
use Rattle.rf_text.proofs.written.split_written.Goals as goal

pub returns-in_err-name-in-Some-clause-found : goal.returns-in_err-name-in-Some-clause-found
returns-in_err-name-in-Some-clause-found c name tail w =
    let begun : c.args.bytes.now ≡ 39 ∷ c.in-Some.inside.now = strip_prefix_is unsigned_Decides _ (39 ∷ []) (Some c.in-Some.inside) c.in-Some.ensures.cases in
    absurd (quoted_closed _ _ name tail begun c.in_err-name-in-Some.ensures.none w)

pub returns-in_ok-name-in-Some-clause-whole : goal.returns-in_ok-name-in-Some-clause-whole
returns-in_ok-name-in-Some-clause-whole c name tail w =
    let begun : c.args.bytes.now ≡ 39 ∷ c.in-Some.inside.now = strip_prefix_is unsigned_Decides _ (39 ∷ []) (Some c.in-Some.inside) c.in-Some.ensures.cases in
    let found = quoted_found _ _ _ _ name tail begun c.in_ok-name-in-Some.ensures.joined c.in_ok-name-in-Some.ensures.first w in
    c.split_at.ensures.front ∙ found.0

pub returns-in_ok-name-in-Some-clause-tail : goal.returns-in_ok-name-in-Some-clause-tail
returns-in_ok-name-in-Some-clause-tail c name tail w =
    let begun : c.args.bytes.now ≡ 39 ∷ c.in-Some.inside.now = strip_prefix_is unsigned_Decides _ (39 ∷ []) (Some c.in-Some.inside) c.in-Some.ensures.cases in
    let found = quoted_found _ _ _ _ name tail begun c.in_ok-name-in-Some.ensures.joined c.in_ok-name-in-Some.ensures.first w in
    c.split_at.ensures.back ∙ found.1

pub returns-in-None-clause-whole : goal.returns-in-None-clause-whole
returns-in-None-clause-whole c name tail w =
    let unquoted : (rest : List ℕ) → c.args.bytes.now ≢ 39 ∷ rest = strip_prefix_is unsigned_Decides c.args.bytes.now (39 ∷ []) None c.in-None.ensures.cases in
    (bare_found _ _ _ name tail unquoted c.split_bare.ensures.joined c.split_bare.ensures.plain c.split_bare.ensures.ended w).0

pub returns-in-None-clause-tail : goal.returns-in-None-clause-tail
returns-in-None-clause-tail c name tail w =
    let unquoted : (rest : List ℕ) → c.args.bytes.now ≢ 39 ∷ rest = strip_prefix_is unsigned_Decides c.args.bytes.now (39 ∷ []) None c.in-None.ensures.cases in
    (bare_found _ _ _ name tail unquoted c.split_bare.ensures.joined c.split_bare.ensures.plain c.split_bare.ensures.ended w).1

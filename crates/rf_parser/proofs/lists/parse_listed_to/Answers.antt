use Rattle.std.proofs.Common.{[], ◌∷◌, ◌++◌, ◌∙◌, ap}
use Rattle.rf_parser.proofs.ListParts.{Listed, listed_empty, listed_parsed, listed_stuck_each, listed_stuck_end, listed_stuck_first}
use Rattle.rf_parser.proofs.Wholes.{passed_on, returned}
use Rattle.rf_parser.proofs.lists.parse_listed_to.Goals as goal

pub returns-in-Some-clause-ok : goal.returns-in-Some-clause-ok
returns-in-Some-clause-ok g c =
    let l : Listed _ g.T.Part.pieces g.T.Part.longer = record { differs = c.requires.differs; no_comma = c.requires.comma; no_close = c.requires.close; begins = c.requires.begins } in
    listed_empty l (c.from_vec.ensures ∙ c.new.ensures.items) c.in-Some.ensures.found

pub returns-in_err-first-clause-stop : goal.returns-in_err-first-clause-stop
returns-in_err-first-clause-stop g c =
    let l : Listed _ g.T.Part.pieces g.T.Part.longer = record { differs = c.requires.differs; no_comma = c.requires.comma; no_close = c.requires.close; begins = c.requires.begins } in
    returned _ c.from_residual.ensures.1 (passed_on c.in_err-first.ensures.stop (λ left h. listed_stuck_first l c.in_default.ensures.none h))

pub returns-in_err-after-clause-stop : goal.returns-in_err-after-clause-stop
returns-in_err-after-clause-stop g c =
    let l : Listed _ g.T.Part.pieces g.T.Part.longer = record { differs = c.requires.differs; no_comma = c.requires.comma; no_close = c.requires.close; begins = c.requires.begins } in
    returned _ c.from_residual-in_err-after.ensures.1 (passed_on c.in_err-after.ensures.stop (λ left h. listed_stuck_each l c.in_default.ensures.none c.in_ok-first.ensures.ok h))

pub returns-in_err-rest-clause-stop : goal.returns-in_err-rest-clause-stop
returns-in_err-rest-clause-stop g c =
    let l : Listed _ g.T.Part.pieces g.T.Part.longer = record { differs = c.requires.differs; no_comma = c.requires.comma; no_close = c.requires.close; begins = c.requires.begins } in
    returned _ c.from_residual-in_err-rest.ensures.1 (passed_on c.in_err-rest.ensures.stop (λ left h.
    listed_stuck_end l c.in_default.ensures.none c.in_ok-first.ensures.ok c.in_ok-after.ensures.ok h))

pub returns-clause-ok : goal.returns-clause-ok
returns-clause-ok g c =
    let l : Listed _ g.T.Part.pieces g.T.Part.longer = record { differs = c.requires.differs; no_comma = c.requires.comma; no_close = c.requires.close; begins = c.requires.begins } in
    listed_parsed l c.in_default.ensures.none c.in_ok-first.ensures.ok (c.in_ok-push.ensures.ok ∙ ap (λ xs. xs ++ c.in_ok-first.first ∷ []) (c.from_vec-parts.ensures ∙ c.in_ok-with_capacity.ensures.items))
    c.in_ok-after.ensures.ok c.in_ok-rest.ensures.ok

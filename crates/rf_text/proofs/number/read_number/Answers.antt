use Rattle.std.proofs.Common.{◌∙◌, sym, refl}
use Rattle.std.proofs.lemmas.Fmt.{parse-decimal}
use Rattle.std.specs.Str.{IsUtf8}
use Rattle.rf_text.specs.Private.Number.{IsPlain}
use Rattle.rf_text.proofs.Decimals.{IsPlain-decimal, IsUtf8-decimal, spelled}
use Rattle.rf_text.proofs.number.read_number.Goals as goal

pub returns-then-not-is_plain-clause-found : goal.returns-then-not-is_plain-clause-found
returns-then-not-is_plain-clause-found c n small e =
    let p : IsPlain c.args.bytes.now = rw e (IsPlain-decimal n small) in
    let no = c.if-not-is_plain.ensures.1 p in
    cc

pub returns-in_default-clause-found : goal.returns-in_default-clause-found
returns-in_default-clause-found c n small e =
    let u : IsUtf8 c.args.bytes.now = rw e (IsUtf8-decimal n small) in
    absurd (c.in_default.ensures.cases.0 u)

pub returns-in-Ok-parse-clause-spelled : goal.returns-in-Ok-parse-clause-spelled
returns-in-Ok-parse-clause-spelled c =
    let same = c.in-Ok.ensures.cases.0 in
    sym same
    ∙ spelled c.in-Ok.text.now c.in-Ok-parse.n c.parse.result (rw same (c.if-not-is_plain.ensures.0 refl)) c.parse.ensures.value.0 c.in-Ok-parse.is

pub returns-in-Ok-parse-clause-found : goal.returns-in-Ok-parse-clause-found
returns-in-Ok-parse-clause-found c n small e =
    let read = parse-decimal 64 n c.in-Ok.text.now c.parse.result small small (c.in-Ok.ensures.cases.0 ∙ e) c.parse.ensures.value.0 in
    cc

pub returns-in-Err-clause-found : goal.returns-in-Err-clause-found
returns-in-Err-clause-found c n small e =
    let read = parse-decimal 64 n c.in-Ok.text.now c.parse.result small small (c.in-Ok.ensures.cases.0 ∙ e) c.parse.ensures.value.0 in
    cc

use Rattle.std.proofs.Common.{◌∙◌, ◌<◌, ◌+◌, ◌++◌, rules, arith, take, length, vec_len}
use Rattle.std.proofs.lemmas.Grind.{common_steps}
use Rattle.rf_io.specs.Folder.{IsMissing}
use Rattle.rf_io.proofs.Told.{as_told, long_read, read_beyond, read_more, read_to_end, whole_file}
use Rattle.rf_io.proofs.read.read_file.Goals as goal

pub loop-count-preserved : goal.loop-count-preserved
loop-count-preserved g c = record {
  within = grind (arith, common_steps);
  told =
      read_more (g.F.Folder.state c.args.folder.now) (g.F.Folder.state c.loop-count.folder) c.args.name.now c.loop-count.bytes.items c.extend_from_slice.new.self.items c.read_at.new.buf (vec_len c.loop-count.bytes) _ c.in-Ok.count _
      (c.loop-count.invariant.same c.args.name.now) (search rules) (grind (arith, common_steps)) (grind (arith, common_steps)) c.loop-count.invariant.told c.in-Ok.ensures.bytes;
  same = λ name. c.in-Ok.ensures.same name ∙ c.loop-count.invariant.same name;
  later = λ name. omega (arith, c.loop-count.invariant.later name, c.in-Ok.ensures.later name);
}

pub returns-then-count-eq0-clause-whole : goal.returns-then-count-eq0-clause-whole
returns-then-count-eq0-clause-whole g c =
    let here = c.loop-count.invariant.same c.args.name.now in
    let there : IsMissing (g.F.Folder.state c.args.folder.now) c.args.name.now → ⊥ = λ missing. (let e = c.in-Ok.ensures.missing (here ∙ missing) in cc) in
    whole_file (g.F.Folder.state c.args.folder.now) c.args.name.now c.loop-count.bytes.items there
    (λ file stored.
    read_to_end file c.loop-count.bytes.items c.read_at.new.buf (vec_len c.loop-count.bytes) _ c.in-Ok.count (search rules) c.if-count-eq0.true
    (c.loop-count.invariant.told file stored) (c.in-Ok.ensures.bytes file (here ∙ stored)))

pub returns-then-count-limit-clause-too_long : goal.returns-then-count-limit-clause-too_long
returns-then-count-limit-clause-too_long g c = λ long.
    let here = c.loop-count.invariant.same c.args.name.now in
    let there : IsMissing (g.F.Folder.state c.args.folder.now) c.args.name.now → ⊥ = λ missing. (let e = c.in-Ok.ensures.missing (here ∙ missing) in cc) in
    let beyond : c.args.limit < vec_len c.loop-count.bytes + c.in-Ok.count = grind (arith, common_steps) in
    as_told (λ bytes. c.args.limit < length bytes) (g.F.Folder.state c.args.folder.now) c.args.name.now
    (c.loop-count.bytes.items ++ take c.in-Ok.count c.read_at.new.buf) there
    (long_read c.loop-count.bytes.items c.read_at.new.buf (vec_len c.loop-count.bytes) c.in-Ok.count c.args.limit (search rules) c.in-Ok.ensures.bound beyond)
    (λ file stored.
    read_beyond file c.read_at.new.buf (vec_len c.loop-count.bytes) _ c.in-Ok.count c.args.limit (search rules) c.loop-count.invariant.within beyond
    (c.in-Ok.ensures.bytes file (here ∙ stored)))

use Rattle.std.proofs.Common.{rules, ◌≡◌, ◌<◌, ◌≤◌, None, inl, inr, ap, sym, ◌∙◌, get_or, length, not, true≢false}
use Rattle.std.specs.Option.{is_some}
use Rattle.rf_rules.proofs.PredicateLemmas.{AreGiven-ended, AreGiven-with, AreGiven-without}
use Rattle.rf_rules.proofs.predicates.given.Goals.{then-is_none+then-used-objects, else-is_none}
use Rattle.rf_rules.proofs.predicates.given.Goals as goal

pub loop-v-preserved : goal.loop-v-preserved
loop-v-preserved c =
    let there : c.loop-v.v < length c.args.variables.now = c.loop-v-test.true in
    elim c.if-is_none.branch [
      | then-is_none+then-used-objects w ↦
          (let none : get_or c.args.variables.now c.loop-v.v None ≡ None = search rules in
          let left : c.loop-v.used < length c.args.objects.now = search rules in
          let more = AreGiven-with c.args.variables.now c.args.objects.now c.loop-v.places c.loop-v.v c.loop-v.used there c.loop-v.invariant c.requires none left in
          rw (w.places-is, w.used-is) more)
      | else-is_none w ↦ (let ended : get_or c.args.variables.now c.loop-v.v None ≡ None → length c.args.objects.now ≤ c.loop-v.used = λ e.
          elim w.else-is_none.either [
            | inl h ↦ h.1
            | inr some ↦ absurd (true≢false (sym (ap is_some (sym e) ∙ c.is_none.ensures ∙ ap not some)))
          ] in
          rw (w.places-is, w.used-is) (AreGiven-without c.args.variables.now c.args.objects.now c.loop-v.places c.loop-v.v c.loop-v.used there c.loop-v.invariant ended))
    ]

pub returns : goal.returns
returns c =
    let past : length c.args.variables.now ≤ c.loop-v.v = search rules in
    AreGiven-ended c.args.variables.now c.args.objects.now c.loop-v.places c.loop-v.v c.loop-v.used past c.loop-v.invariant

-- What a run leaves, whatever is known of its end.
use Rattle.std.proofs.Common.{◌≡◌, sym, subst, inl, inr}
use Rattle.rf_io.specs.Sink.{SinkState}
use Rattle.rf_run.specs.Leaves.{CameTo, Complained, HasAnswered, NoWriteFailed, Wrote, status_of_sign}
use Rattle.rf_run.specs.Stages.{IsAnAnswer, LeftAs}
use Rattle.rf_run.specs.declared.end.End.{End}
use Rattle.rf_run.specs.declared.end.End.TheVariants.{Usage as EndsUsage, Refused as EndsRefused, Answered}
use Rattle.rf_run.specs.declared.end.Sign.{Sign}
use Rattle.rf_run.specs.declared.end.Sign.TheVariants.{Yes as SaysYes, No as SaysNo, Unfinished as SaysUnfinished}
use Rattle.rf_run.specs.declared.status.Status.{Status}
use Rattle.rf_run.specs.declared.status.Status.TheVariants.{Yes, No, Usage, Refused, ReadFault, WriteFault, Unfinished, NoMemory}

pub wrote_as :
    (P Q : End → Type 0) → ((e : End) → P e → Q e) → (old new : SinkState) (s : Status) → Wrote P old new s → Wrote Q old new s
wrote_as P Q step old new Yes wrote = (wrote.0, step (Answered wrote.0) wrote.1, wrote.2, wrote.3)
wrote_as P Q step old new No wrote = (wrote.0, step (Answered wrote.0) wrote.1, wrote.2, wrote.3)
wrote_as P Q step old new Unfinished wrote = (wrote.0, step (Answered wrote.0) wrote.1, wrote.2, wrote.3)
wrote_as P Q step old new WriteFault wrote = (wrote.0, step (Answered wrote.0) wrote.1, wrote.2)
wrote_as P Q step old new Usage wrote = wrote
wrote_as P Q step old new Refused wrote = wrote
wrote_as P Q step old new ReadFault wrote = wrote
wrote_as P Q step old new NoMemory wrote = wrote

pub complained_as :
    (P Q : End → Type 0) → ((e : End) → P e → Q e) → (old new : SinkState) (s : Status) → Complained P old new s → Complained Q old new s
complained_as P Q step old new Usage said = (step EndsUsage said.0, said.1)
complained_as P Q step old new Refused said = (said.0, step (EndsRefused said.0) said.1, said.2)
complained_as P Q step old new ReadFault said = said
complained_as P Q step old new WriteFault said = said
complained_as P Q step old new NoMemory said = said
complained_as P Q step old new Yes said = said
complained_as P Q step old new No said = said
complained_as P Q step old new Unfinished said = said

-- where no write of the answer failed, the run came to its end, or memory ran out
pub came_to :
    (x end : End) (s : Status) (out out_now err err_now : SinkState) → x ≡ end → LeftAs x s out out_now →
    Wrote (λ e. e ≡ x) out out_now s → Complained (λ e. e ≡ x) err err_now s → NoWriteFailed end out out_now →
    CameTo end s out out_now err err_now
came_to x end s out out_now err err_now is left wrote said unfailed =
    subst (λ y. NoWriteFailed y out out_now → CameTo y s out out_now err err_now) is here unfailed
  where
    here : NoWriteFailed x out out_now → CameTo x s out out_now err err_now
    here unfailed = elim left [
      | inl e ↦ inr (e, wrote, said)
      | inr other ↦ elim other [ inl e ↦ inl e | inr failed ↦ absurd (failed.1 unfailed) ]
    ]

-- the status after an answer
pub answered_as : (x : End) (s : Status) (out out_now : SinkState) → IsAnAnswer x → LeftAs x s out out_now → HasAnswered s
answered_as EndsUsage s out out_now is left = absurd is
answered_as (EndsRefused r) s out out_now is left = absurd is
answered_as (Answered a) s out out_now is left = elim left [
  | inl e ↦ subst HasAnswered (sym e) (of_sign a.sign)
  | inr other ↦ elim other [
    | inl e ↦ subst HasAnswered (sym e) tt
    | inr failed ↦ subst HasAnswered (sym failed.0) tt
  ]
]
  where
    of_sign : (sign : Sign) → HasAnswered (status_of_sign sign)
    of_sign SaysYes = tt
    of_sign SaysNo = tt
    of_sign SaysUnfinished = tt

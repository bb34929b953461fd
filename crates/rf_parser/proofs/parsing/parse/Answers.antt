use Rattle.std.proofs.Common.{refl}
use Rattle.rf_parser.proofs.TextParts.{Answers-parsed, Answers-stuck, left_within}
use Rattle.rf_parser.proofs.parsing.parse.Goals as goal

pub overflow_sub-result : goal.overflow_sub-result
overflow_sub-result c = left_within (c.in-Err-Fault.ensures.stop.stuck _ c.in-Err-Fault.field-0-is)

pub returns-in-Ok : goal.returns-in-Ok
returns-in-Ok c = record { answers = Answers-parsed c.in-Ok.ensures.ok }

pub returns-in-Err-Fault : goal.returns-in-Err-Fault
returns-in-Err-Fault c = record { answers = Answers-stuck (c.in-Err-Fault.ensures.stop.stuck _ c.in-Err-Fault.field-0-is) refl }

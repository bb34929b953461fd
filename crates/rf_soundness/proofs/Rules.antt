-- Each rule is sound.
use Rattle.rf_rules.specs.declared.rule.Rule.TheVariants.{Acyclic, Alone, Broken, Clash, ContainCount, Empty, Forced, Full, MustContain, Need, NeedCount, NoClass, NoContainer, OneContainer, Room, ScopeBottom, ScopeIn, ScopeOut, ScopeTop, Src, Tgt, TypeLow, Under}
use Rattle.rf_soundness.specs.Laws.{RulesAreSound}
use Rattle.rf_soundness.proofs.Broken.{broken_sound}
use Rattle.rf_soundness.proofs.Containment.{acyclic_sound, alone_sound, contain_count_sound, must_contain_sound, no_container_sound, one_container_sound}
use Rattle.rf_soundness.proofs.Degrees.{full_sound, need_count_sound, need_sound, room_sound, type_low_sound}
use Rattle.rf_soundness.proofs.Forced.{forced_sound}
use Rattle.rf_soundness.proofs.Scopes.{scope_bottom_sound, scope_in_sound, scope_out_sound, scope_top_sound, under_sound}
use Rattle.rf_soundness.proofs.Types.{clash_sound, empty_sound, no_class_sound, src_sound, tgt_sound}

pub rules_are_sound : RulesAreSound
rules_are_sound p (Empty o) = empty_sound p o
rules_are_sound p (NoClass o) = no_class_sound p o
rules_are_sound p (Src r a b) = src_sound p r a b
rules_are_sound p (Tgt r a b) = tgt_sound p r a b
rules_are_sound p (Clash r a b end) = clash_sound p r a b end
rules_are_sound p (Full r a b) = full_sound p r a b
rules_are_sound p (Room r a b) = room_sound p r a b
rules_are_sound p (Need r a b) = need_sound p r a b
rules_are_sound p (NeedCount r a b) = need_count_sound p r a b
rules_are_sound p (TypeLow r a) = type_low_sound p r a
rules_are_sound p (OneContainer r a b q c) = one_container_sound p r a b q c
rules_are_sound p (Alone r a b) = alone_sound p r a b
rules_are_sound p (MustContain r a b) = must_contain_sound p r a b
rules_are_sound p (ContainCount r a b) = contain_count_sound p r a b
rules_are_sound p (NoContainer b) = no_container_sound p b
rules_are_sound p (Acyclic r a b) = acyclic_sound p r a b
rules_are_sound p (Under z) = under_sound p z
rules_are_sound p (ScopeTop z o) = scope_top_sound p z o
rules_are_sound p (ScopeBottom z o) = scope_bottom_sound p z o
rules_are_sound p (ScopeOut z o) = scope_out_sound p z o
rules_are_sound p (ScopeIn z o) = scope_in_sound p z o
rules_are_sound p (Broken q t) = broken_sound p q t
rules_are_sound p (Forced q k j t) = forced_sound p q k j t

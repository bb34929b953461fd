-- The map of the root, one object after another.
use Rattle.std.proofs.Common.{◌≡◌, ◌∙◌, ℕ, ◌+◌, ◌<◌, ◌≤◌, List, [], length, take, refl, sym, ap, ap₂, subst, arith}
use Rattle.std.proofs.lemmas.List.{take_all, take_more}
use Rattle.rf_values.specs.declared.truth.Truth.TheVariants.{Unknown}
use Rattle.rf_problem.specs.declared.problem.Problem.{Problem}
use Rattle.rf_store.specs.Contents.{SetsOnly}
use Rattle.rf_store.specs.Entries.{Entry}
use Rattle.rf_state.specs.State.{IsRoot, State, no_object, object_of}
use Rattle.rf_state.specs.declared.object.Object.{Object}
use Rattle.rf_vstate.specs.Maps.{state_of}
use Rattle.rf_vstate.specs.Rows.{AreKept, HasRows, IsSound, with_one_more}
use Rattle.rf_vstate.specs.Words.{number_key, number_value}
use Rattle.rf_vstate.proofs.Entries.{AreOwn-ordered}
use Rattle.rf_vstate.proofs.KeyKinds.{number-ne_fact}
use Rattle.rf_vstate.proofs.Reading.{IsSound-rows, state-read}
use Rattle.rf_vstate.proofs.SoundLemmas.{IsMade}

-- the state of these objects, in which nothing was added
abbrev pub of_objects : List Object → State
of_objects objects = record { objects = objects; added = λ r a b. Unknown }

pub root-none : (p : Problem) (new : List Entry) → SetsOnly [] new number_key (number_value 0) → IsMade p (of_objects []) new
root-none p new put = record {
  sound = IsSound-rows p (of_objects []) new rows (λ o l. absurd (omega (arith, l))) (AreOwn-ordered new put.in_order) (λ i d l. absurd (omega (arith, l)))
      (λ r a b some. absurd (some refl));
  state = state-read (of_objects []) new rows (λ o l. absurd (omega (arith, l)));
}
  where
    rows : HasRows (of_objects []) new
    rows = record {
      number = put.this_key;
      objects = λ o l. absurd (omega (arith, l));
      facts = λ r a b. put.other_keys _ (λ e. number-ne_fact r a b (sym e));
      others = λ k other. put.other_keys k other.number;
    }

-- one object more
pub root-more : (p : Problem) (root : State) (old new : List Entry) (o : ℕ) (x : Object) → IsMade p (of_objects (take o root.objects)) old → o < length root.objects
    → x ≡ object_of root o → IsSound p new → state_of new ≡ with_one_more (state_of old) x → IsMade p (of_objects (take (o + 1) root.objects)) new
root-more p root old new o x made there is sound pushed = record {
  sound = sound;
  state = pushed ∙ ap₂ (λ (s : State) (y : Object). with_one_more s y) made.state is ∙ ap of_objects (sym (take_more root.objects o no_object there));
}

pub root-all : (p : Problem) (root : State) (entries : List Entry) (o : ℕ) → IsMade p (of_objects (take o root.objects)) entries → length root.objects ≤ o → IsRoot p root
    → IsRoot p (state_of entries)
root-all p root entries o made all is = subst (IsRoot p) (sym (made.state ∙ ap of_objects (take_all o root.objects all) ∙ whole)) is
  where
    whole : of_objects root.objects ≡ root
    whole = λ i. record { objects = root.objects; added = λ r a b. sym (is.nothing r a b) i }

pub AreKept-none : (p : Problem) → AreKept p [] []
AreKept-none p = record {
  there = λ i d l. absurd (omega (arith, l));
  sound = λ i d l. absurd (omega (arith, l));
  ordered = λ i j le l. absurd (omega (arith, l));
}

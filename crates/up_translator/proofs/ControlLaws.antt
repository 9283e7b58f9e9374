-- The outcome of a control change is what the meaning of MIDI 1.0 says.
use Rattle.std.proofs.Common.{◌≡◌, ℕ, Bool, true, false, ◌-◌, ◌∙◌, ap, sym, refl, [], ◌∷◌}
use Rattle.std.proofs.Common.{Option, Some, None, cond, not, ◌&&◌, is_some, eq-eqb, ◌*◌}
use Rattle.std.specs.Option.{unwrap_or, option_and_then}
use Rattle.voice_messages.specs.declared.voice1.Voice1.TheVariants as voice1
use Rattle.voice_messages.specs.declared.voice2.Param.{Param}
use Rattle.voice_messages.specs.declared.voice2.Voice2.TheVariants as voice2
use Rattle.bit_scaling.specs.Scaling.{up}
use Rattle.midi_meaning.specs.Registers.{selected}
use Rattle.midi_meaning.specs.Controllers.{Role, bank_msb, bank_lsb, data_msb, data_lsb, data_increment, data_decrement}
use Rattle.midi_meaning.specs.Controllers.{number_msb, number_lsb, reset_all, channel_mode, coarse, fine, plain, role_of, pairing}
use Rattle.midi_meaning.specs.State.{Channel, GroupState}
use Rattle.midi_meaning.specs.Messages.{as_they_come, of_bytes, control, enter_msb, enter_lsb, with_new_lsb}
use Rattle.midi_meaning.specs.Raising.{raised_control, raised_entry}
use Rattle.midi_meaning.specs.Refusal.{bad_role}
use Rattle.midi_meaning.specs.StepListing.{is_entry}
use Rattle.midi_meaning.proofs.Pairs.{bad-pairing}
use Rattle.midi_meaning.proofs.SameParam.{same_param-refl}
use Rattle.param_collector.specs.Control.{answer_by, answer_of, entered, value_after}
use Rattle.param_collector.specs.Holding.{Holding, registers_at, msb_at, pair_at}
use Rattle.param_collector.specs.Keeps.{meant, control_step, controller_of, value_of}
use Rattle.up_translator.specs.Outcome.{messages_in, is_ignored_in, refusal_in, outcome_by, IsRaisedVoice}

-- ---- a channel

messages_meant : (paired : Bool) (role : Role) (ch : Channel) (channel index value : ℕ) →
    messages_in (outcome_by (answer_by role index (selected ch.registers) (value_of (control (of_bytes paired) role index value ch))
    (controller_of (control (of_bytes paired) role index value ch)))
    channel index value)
    ≡ raised_control ch role channel index value
messages_meant paired bank_msb ch channel index value = refl
messages_meant paired bank_lsb ch channel index value = refl
messages_meant paired data_msb ch channel index value = entry (selected ch.registers)
  where
    entry : (o : Option Param)
        → messages_in (outcome_by (entered o (λ param. value_of (enter_msb as_they_come o value ch) param)) channel index value)
        ≡ raised_entry channel o (value * 128)
    entry None = refl
    entry (Some q) = λ i. voice2.Set channel q (up (unwrap_or (cond (same_param-refl q i) (Some (value * 128)) (ch.params q)) 0) 14 32) ∷ []
messages_meant paired data_lsb ch channel index value = entry (selected ch.registers)
  where
    entry : (o : Option Param)
        → messages_in (outcome_by (entered o (λ param. value_of (enter_lsb as_they_come o value ch) param)) channel index value)
        ≡ raised_entry channel o (with_new_lsb as_they_come (option_and_then ch.params o) value)
    entry None = refl
    entry (Some q) =
        λ i. voice2.Set channel q
        (up (unwrap_or (cond (same_param-refl q i) (Some (with_new_lsb as_they_come (ch.params q) value)) (ch.params q)) 0) 14 32)
        ∷ []
messages_meant paired data_increment ch channel index value = refl
messages_meant paired data_decrement ch channel index value = refl
messages_meant paired (number_msb kind) ch channel index value = refl
messages_meant paired (number_lsb kind) ch channel index value = refl
messages_meant paired reset_all ch channel index value = refl
messages_meant paired channel_mode ch channel index value = refl
messages_meant paired coarse ch channel index value =
    λ i. voice2.Control channel index
    (up (unwrap_or (cond (eq-eqb index index refl i) (Some (value * 128)) (ch.controllers index)) 0) 14 32)
    ∷ []
messages_meant paired fine ch channel index value =
    let at : ℕ = index - 32 in
    λ i.
    voice2.Control channel at (up
    (unwrap_or (cond (eq-eqb at at refl i) (Some (with_new_lsb as_they_come (ch.controllers at) value)) (ch.controllers at)) 0) 14 32)
    ∷ []
messages_meant paired plain ch channel index value = refl

ignored_meant : (role : Role) (o : Option Param) (values : Param → ℕ) (controllers : ℕ → ℕ) (channel index value : ℕ) →
    is_ignored_in (outcome_by (answer_by role index o values controllers) channel index value) ≡ (is_entry role && not (is_some o))
ignored_meant bank_msb o values controllers channel index value = refl
ignored_meant bank_lsb o values controllers channel index value = refl
ignored_meant data_msb None values controllers channel index value = refl
ignored_meant data_msb (Some q) values controllers channel index value = refl
ignored_meant data_lsb None values controllers channel index value = refl
ignored_meant data_lsb (Some q) values controllers channel index value = refl
ignored_meant data_increment o values controllers channel index value = refl
ignored_meant data_decrement o values controllers channel index value = refl
ignored_meant (number_msb kind) o values controllers channel index value = refl
ignored_meant (number_lsb kind) o values controllers channel index value = refl
ignored_meant reset_all o values controllers channel index value = refl
ignored_meant channel_mode o values controllers channel index value = refl
ignored_meant coarse o values controllers channel index value = refl
ignored_meant fine o values controllers channel index value = refl
ignored_meant plain o values controllers channel index value = refl

-- ---- a group

-- the channel after a control change of its own
channel_after : (paired : Bool) (state : GroupState) (channel index value : ℕ) →
    control (of_bytes paired) (pairing paired (role_of index)) index value (state.channels channel)
    ≡ (control_step paired state channel index value).channels channel
channel_after paired state channel index value =
    λ i. cond (sym (eq-eqb channel channel refl) i)
    (control (of_bytes paired) (pairing paired (role_of index)) index value (state.channels channel)) (state.channels channel)

entry-pairing : (paired : Bool) (role : Role) → is_entry (pairing paired role) ≡ is_entry role
entry-pairing true coarse = refl
entry-pairing false coarse = refl
entry-pairing true fine = refl
entry-pairing false fine = refl
entry-pairing paired _ = refl

pub raised_as_meant : (paired : Bool) (state : GroupState) (channel index value : ℕ)
    → IsRaisedVoice paired state (voice1.Control channel index value)
    (outcome_by (meant paired state channel index value) channel index value)
raised_as_meant paired state channel index value =
    let role : Role = pairing paired (role_of index) in
    let after : Channel = (control_step paired state channel index value).channels channel in
    let param : Option Param = selected (state.channels channel).registers in
    record {
      messages =
          ap (λ (c : Channel). messages_in (outcome_by (answer_by role index param (value_of c) (controller_of c)) channel index value))
          (sym (channel_after paired state channel index value))
          ∙ messages_meant paired role (state.channels channel) channel index value;
      ignored =
          ignored_meant role param (value_of after) (controller_of after) channel index value
          ∙ ap (λ t. t && not (is_some param)) (entry-pairing paired (role_of index));
    }

-- ---- refused

refused_by : (role : Role) (o : Option Param) (values : Param → ℕ) (controllers : ℕ → ℕ) (channel index value : ℕ) →
    refusal_in (outcome_by (answer_by role index o values controllers) channel index value) ≡ bad_role role
refused_by bank_msb o values controllers channel index value = refl
refused_by bank_lsb o values controllers channel index value = refl
refused_by data_msb None values controllers channel index value = refl
refused_by data_msb (Some q) values controllers channel index value = refl
refused_by data_lsb None values controllers channel index value = refl
refused_by data_lsb (Some q) values controllers channel index value = refl
refused_by data_increment o values controllers channel index value = refl
refused_by data_decrement o values controllers channel index value = refl
refused_by (number_msb kind) o values controllers channel index value = refl
refused_by (number_lsb kind) o values controllers channel index value = refl
refused_by reset_all o values controllers channel index value = refl
refused_by channel_mode o values controllers channel index value = refl
refused_by coarse o values controllers channel index value = refl
refused_by fine o values controllers channel index value = refl
refused_by plain o values controllers channel index value = refl

pub refused_by_index : (holding : Holding) (channel index value : ℕ) →
    refusal_in (outcome_by (answer_of (pairing holding.paired (role_of index)) holding channel index value) channel index value)
    ≡ bad_role (role_of index)
refused_by_index holding channel index value =
    let role : Role = pairing holding.paired (role_of index) in
    refused_by role (selected (registers_at holding channel))
    (λ param. value_after role value (msb_at holding channel param)) (λ pair. value_after role value (pair_at holding channel pair)) channel
    index value
    ∙ bad-pairing holding.paired (role_of index)

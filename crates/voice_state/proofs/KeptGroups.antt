-- What is kept of a group and of all groups after a change of one channel, or of one group.
use Rattle.std.proofs.Common.{◌≡◌, sym, subst, ℕ, ◌<◌, ◌==◌, Bool, true, false, if◌then◌else◌}
use Rattle.std.proofs.Common.{List, length, slice_index_or, slice_set, None, ⊎_elim}
use Rattle.std.proofs.lemmas.Bool.{cases_eq, eq-eqb, ne_eqb}
use Rattle.std.proofs.lemmas.Grind.{get_or-set_at}
use Rattle.std.proofs.lemmas.List.{get_or-set_other}
use Rattle.voice_messages.specs.declared.voice1.System.{System}
use Rattle.voice_messages.specs.declared.voice1.System.TheVariants as system
use Rattle.ump_grammar.specs.declared.packet.Packet.TheVariants as packet
use Rattle.midi1_bytes.specs.Messages.{Message, system_message}
use Rattle.midi_meaning.specs.Messages.{Scale, raised}
use Rattle.midi_meaning.specs.State.{Channel, GroupState, at_channel, with_common, with_real_time}
use Rattle.voice_state.specs.declared.channel.Channel as kept_channel
use Rattle.voice_state.specs.Kept.{KeepsChannel, KeepsGroup, Keeps, KeptGroup}
use Rattle.voice_state.specs.States.{States, after_packet, at_group, is_real_time}

pub channel_kept : (scale : Scale) (kept : KeptGroup) (state : GroupState) (channel : ℕ) (new : kept_channel.Channel)
    (change : Channel → Channel) →
    channel < length kept.channels → KeepsGroup scale kept state → KeepsChannel scale new (change (state.channels channel)) →
    KeepsGroup scale (record kept { channels = slice_set kept.channels channel new }) (at_channel channel change state)
channel_kept scale kept state channel new change within keeps keeps_new = record {
  channels = λ index other below. ⊎_elim
      (λ same. subst (λ now. KeepsChannel scale now (if index == channel then change (state.channels index) else state.channels index))
      (sym (get_or-set_at kept.channels channel index new other same within))
      (subst (λ is_same. KeepsChannel scale new (if is_same then change (state.channels index) else state.channels index))
      (sym (eq-eqb index channel same))
      (subst (λ at. KeepsChannel scale new (change (state.channels at))) (sym same) keeps_new)))
      (λ apart. subst (λ now. KeepsChannel scale now (if index == channel then change (state.channels index) else state.channels index))
      (sym (get_or-set_other kept.channels channel index new other apart))
      (subst (λ is_same. KeepsChannel scale (slice_index_or kept.channels index other)
      (if is_same then change (state.channels index) else state.channels index))
      (sym (ne_eqb index channel apart))
      (keeps.channels index other below)))
      (cases_eq index channel);
  commons = keeps.commons;
  real_times = keeps.real_times;
}

pub group_kept : (scale : Scale) (kept : List KeptGroup) (states : States) (group : ℕ) (new : KeptGroup)
    (change : GroupState → GroupState) →
    group < length kept → Keeps scale kept states → KeepsGroup scale new (change (states group)) →
    Keeps scale (slice_set kept group new) (at_group group change states)
group_kept scale kept states group new change within keeps keeps_new = λ index other below. ⊎_elim
    (λ same. subst (λ now. KeepsGroup scale now (if group == index then change (states index) else states index))
    (sym (get_or-set_at kept group index new other (sym same) within))
    (subst (λ is_same. KeepsGroup scale new (if is_same then change (states index) else states index)) (sym (eq-eqb group index same))
    (subst (λ at. KeepsGroup scale new (change (states at))) same keeps_new)))
    (λ apart. subst (λ now. KeepsGroup scale now (if group == index then change (states index) else states index))
    (sym (get_or-set_other kept group index new other (λ is. apart (sym is))))
    (subst (λ is_same. KeepsGroup scale (slice_index_or kept index other) (if is_same then change (states index) else states index))
    (sym (ne_eqb group index apart))
    (keeps index other below)))
    (cases_eq group index)

-- a system packet is counted by its kind
pub system_kept : (new : List KeptGroup) (group : ℕ) (message : System) (states : States) (counted : Bool)
    → counted ≡ is_real_time (system_message message) →
    (counted ≡ false → (common : Message) → Keeps raised new (at_group group (with_common common) states)) →
    (counted ≡ true → (real_time : System) → Keeps raised new (at_group group (with_real_time real_time) states)) →
    Keeps raised new (after_packet (packet.System group message) None states)
system_kept new group (system.Quarter value) states counted is commons real_times = commons is (system_message (system.Quarter value))
system_kept new group (system.Position value) states counted is commons real_times = commons is (system_message (system.Position value))
system_kept new group (system.Song value) states counted is commons real_times = commons is (system_message (system.Song value))
system_kept new group system.Tune states counted is commons real_times = commons is (system_message system.Tune)
system_kept new group system.Clock states counted is commons real_times = real_times is system.Clock
system_kept new group system.Start states counted is commons real_times = real_times is system.Start
system_kept new group system.Continue states counted is commons real_times = real_times is system.Continue
system_kept new group system.Stop states counted is commons real_times = real_times is system.Stop
system_kept new group system.Sensing states counted is commons real_times = real_times is system.Sensing
system_kept new group system.Reset states counted is commons real_times = real_times is system.Reset

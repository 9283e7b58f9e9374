-- A message changes one channel of a group, and one group of a state: what is then kept, which list is full,
-- and the rooms.
use Rattle.std.proofs.Common.{◌≡◌, ℕ, ◌<◌, refl, sym, subst, arith, List, length, slice_index_or, slice_set, Result, OnOk}
use Rattle.std.proofs.lemmas.Result.{on_ok_weaker}
use Rattle.midi_meaning.specs.Messages.{Scale}
use Rattle.midi_meaning.specs.State.{Channel, GroupState, at_channel}
use Rattle.voice_state.specs.declared.channel.Channel as kept_channel
use Rattle.voice_state.specs.declared.not_kept.NotKept.{NotKept}
use Rattle.voice_state.specs.Kept.{Keeps, KeepsChannel, KeepsGroup, KeptGroup}
use Rattle.voice_state.specs.Rooms.{ChannelIs, GroupIs, IsFullWhere, KeepsAllRooms, KeepsRooms}
use Rattle.voice_state.specs.States.{States, at_group}
use Rattle.voice_state.proofs.KeptGroups.{channel_kept, group_kept}
use Rattle.voice_state.proofs.Rooms.{full_at, related}

-- the channel at a place was found, and a new one put there
module _ (old : KeptGroup) (place channel : ℕ) (found new : kept_channel.Channel) (sixteen : length old.channels ≡ 16) (below : place < 16)
    (same : place ≡ channel) (is : found ≡ slice_index_or old.channels place found) where
  abbrev pub with_channel : KeptGroup
  with_channel = record old { channels = slice_set old.channels place new }

  within : place < length old.channels
  within = omega (arith, below, sixteen)

  pub channel_step : {B : Type 0} (scale : Scale) (change : Channel → Channel) (result : Result B NotKept) (seen : KeptGroup) → old ≡ seen →
      OnOk result ((state : Channel) → KeepsChannel scale found state → KeepsChannel scale new (change state)) →
      OnOk result ((state : GroupState) → KeepsGroup scale seen state → KeepsGroup scale with_channel (at_channel channel change state))
  channel_step scale change result seen view =
      on_ok_weaker result
      (λ step state keeps.
      let kept : KeepsGroup scale old state = subst (λ group. KeepsGroup scale group state) (sym view) keeps in
      let at_place : KeepsChannel scale found (state.channels place) =
      subst (λ at. KeepsChannel scale at (state.channels place)) (sym is) (kept.channels place found below) in
      subst (λ at. KeepsGroup scale with_channel (at_channel at change state)) same
      (channel_kept scale old state place new change within kept (step (state.channels place) at_place)))

  pub channel_full : {B : Type 0} (F : kept_channel.Channel → Type 0) (result : Result B NotKept) (seen : KeptGroup) → old ≡ seen →
      IsFullWhere result (F found) → IsFullWhere result (ChannelIs seen channel F)
  channel_full F result seen view full =
      subst (λ (group : KeptGroup). IsFullWhere result (ChannelIs group channel F)) view
      (full_at F old.channels place channel found result within same is full)

  pub channel_rooms : (seen : KeptGroup) → old ≡ seen → new.room ≡ found.room → KeepsRooms seen with_channel
  channel_rooms seen view kept =
      subst (λ (group : KeptGroup). KeepsRooms group with_channel) view
      (related (λ (x y : kept_channel.Channel). y.room ≡ x.room) (λ x. refl) old.channels place found new within is kept)

-- the same of a group
module _ (old : List KeptGroup) (place group : ℕ) (found new : KeptGroup) (sixteen : length old ≡ 16) (below : place < 16)
    (same : place ≡ group) (is : found ≡ slice_index_or old place found) where
  inside : place < length old
  inside = omega (arith, below, sixteen)

  pub group_changed : (scale : Scale) (change : GroupState → GroupState) (seen : List KeptGroup) → old ≡ seen →
      ((state : GroupState) → KeepsGroup scale found state → KeepsGroup scale new (change state)) →
      (states : States) → Keeps scale seen states → Keeps scale (slice_set old place new) (at_group group change states)
  group_changed scale change seen view step states keeps =
      let kept : Keeps scale old states = subst (λ groups. Keeps scale groups states) (sym view) keeps in
      let at_place : KeepsGroup scale found (states place) =
      subst (λ at. KeepsGroup scale at (states place)) (sym is) (kept place found below) in
      subst (λ at. Keeps scale (slice_set old place new) (at_group at change states)) same
      (group_kept scale old states place new change inside kept (step (states place) at_place))

  pub group_step : {B : Type 0} (scale : Scale) (change : GroupState → GroupState) (result : Result B NotKept) (seen : List KeptGroup)
      → old ≡ seen →
      OnOk result ((state : GroupState) → KeepsGroup scale found state → KeepsGroup scale new (change state)) →
      OnOk result ((states : States) → Keeps scale seen states → Keeps scale (slice_set old place new) (at_group group change states))
  group_step scale change result seen view = on_ok_weaker result (group_changed scale change seen view)

  pub group_full : {B : Type 0} (F : KeptGroup → Type 0) (result : Result B NotKept) (seen : List KeptGroup) → old ≡ seen →
      IsFullWhere result (F found) → IsFullWhere result (GroupIs seen group F)
  group_full F result seen view full =
      subst (λ (groups : List KeptGroup). IsFullWhere result (GroupIs groups group F)) view
      (full_at F old place group found result inside same is full)

  pub group_rooms : (seen : List KeptGroup) → old ≡ seen → KeepsRooms found new → KeepsAllRooms seen (slice_set old place new)
  group_rooms seen view kept =
      subst (λ (groups : List KeptGroup). KeepsAllRooms groups (slice_set old place new)) view
      (related KeepsRooms (λ group channel other. refl) old place found new inside is kept)

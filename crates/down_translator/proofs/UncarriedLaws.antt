-- The first word of a packet tells whether no message of MIDI 1.0 carries it, and then that is its whole step.
use Rattle.std.proofs.Common.{◌≡◌, ◌≢◌, ◌+◌, ℕ, Bool, true, false, ◌&&◌, List, [], length, Option, Some, None, refl, sym, ap, ◌∙◌, arith}
use Rattle.std.specs.Prelude.{◌==◌, if◌then◌else◌}
use Rattle.std.specs.Option.{option_map}
use Rattle.voice_messages.specs.declared.voice2.ParamKind.{ParamKind}
use Rattle.voice_messages.specs.declared.voice2.ParamKind.TheVariants as kind
use Rattle.voice_messages.specs.declared.voice2.Voice2.{Voice2}
use Rattle.voice_messages.specs.declared.voice2.Voice2.TheVariants as voice2
use Rattle.ump_grammar.specs.declared.packet.Packet.{Packet}
use Rattle.ump_grammar.specs.declared.packet.Packet.TheVariants as packet
use Rattle.ump_grammar.specs.Spelling.{HasRow, IsRead, SpellsVoice2, has_row, kind_number}
use Rattle.ump_grammar.specs.WordFields.{byte, opcode_of, type_of}
use Rattle.ump_grammar.specs.WordFields as fields
use Rattle.midi_meaning.specs.declared.listed.Kind.{Kind}
use Rattle.midi_meaning.specs.declared.listed.Kind.TheVariants as kinds
use Rattle.midi_meaning.specs.declared.listed.Listed.{Listed}
use Rattle.midi_meaning.specs.Listing.{is_carried_voice, line_offset, listed, voice_kind}
use Rattle.midi_meaning.specs.Parts.{group_of}
use Rattle.midi_meaning.specs.Plain.{voice_messages}
use Rattle.midi_meaning.specs.Refusal.{bad_voice2}
use Rattle.midi_meaning.specs.Registers.{is_null}
use Rattle.down_translator.specs.declared.carried.Carried.{Carried}
use Rattle.down_translator.specs.declared.uncarried.Uncarried.{Uncarried}
use Rattle.down_translator.specs.Carried.{lane_in, line_in}
use Rattle.down_translator.specs.Held.{DownState, down_after, unless_refused}
use Rattle.down_translator.specs.KeptLanes.{IsUnpaired, lane_at, lanes_after}
use Rattle.down_translator.specs.Step.{IsStep, lane_of}
use Rattle.down_translator.specs.Uncarried.{IsUncarried, has_group, kind_in, row_kind_in, shift_kind, uncarried_kind, uncarried_voice}
use Rattle.down_translator.specs.Uncarried.{voice_kind_in}
use Rattle.down_translator.proofs.PieceLaws.{is_several, kept_none, no_piece}

-- ---- the kind

module _ (words : List ℕ) where
  controller-kind : (k : ParamKind) → opcode_of words ≡ kind_number k → voice_kind_in words ≡ Some kinds.NoteController
  controller-kind kind.Registered e = rw e refl
  controller-kind kind.Assignable e = rw e refl

  set-kind : (k : ParamKind) → opcode_of words ≡ 2 + kind_number k → voice_kind_in words ≡ None
  set-kind kind.Registered e = rw e refl
  set-kind kind.Assignable e = rw e refl

  shift-kind : (k : ParamKind) → opcode_of words ≡ 4 + kind_number k
      → voice_kind_in words ≡ Some (shift_kind (byte words 3 == 127 && byte words 4 == 127))
  shift-kind kind.Registered e = rw e refl
  shift-kind kind.Assignable e = rw e refl

  voice_kind_is : (m : Voice2) → SpellsVoice2 m words → voice_kind_in words ≡ uncarried_voice m
  voice_kind_is (voice2.NoteController channel k note index value) s = controller-kind k s.0
  voice_kind_is (voice2.Set channel param value) s = set-kind param.kind s.0
  voice_kind_is (voice2.Shift channel param value) s =
      shift-kind param.kind s.0
      ∙ ap (λ bank. Some (shift_kind (bank == 127 && byte words 4 == 127))) (sym s.2)
      ∙ ap (λ index. Some (shift_kind (param.bank == 127 && index == 127))) (sym s.3)
  voice_kind_is (voice2.NoteBend channel note value) s = rw s.0 refl
  voice_kind_is (voice2.NoteOff channel note velocity attribute_type attribute) s = rw s.0 refl
  voice_kind_is (voice2.NoteOn channel note velocity attribute_type attribute) s = rw s.0 refl
  voice_kind_is (voice2.PolyPressure channel note value) s = rw s.0 refl
  voice_kind_is (voice2.Control channel index value) s = rw s.0 refl
  voice_kind_is (voice2.Program channel program bank) s = rw s.0 refl
  voice_kind_is (voice2.Pressure channel value) s = rw s.0 refl
  voice_kind_is (voice2.Bend channel value) s = rw s.0 refl
  voice_kind_is (voice2.NoteManagement channel note flags) s = rw s.0 refl

  of_row : has_row words ≡ true → kind_in words ≡ row_kind_in words
  of_row e = ap (λ row. if row then row_kind_in words else Some kinds.Reserved) e

  of_type : (n : ℕ) → type_of words ≡ n
      → row_kind_in words
      ≡ (if n == 0x0 then Some kinds.Utility
      else if n == 0x4 then voice_kind_in words
      else if n == 0x5 then Some kinds.Data8
      else if n == 0xD then Some kinds.Flex
      else if n == 0xF then Some kinds.Stream
      else None)
  of_type n e =
      ap (λ n. if n == 0x0 then Some kinds.Utility
      else if n == 0x4 then voice_kind_in words
      else if n == 0x5 then Some kinds.Data8
      else if n == 0xD then Some kinds.Flex
      else if n == 0xF then Some kinds.Stream
      else None) e

abbrev RowsAreNotReserved : Type 0
RowsAreNotReserved = (p : Packet) (words : List ℕ) → IsRead p → HasRow p words → has_row words ≡ true

pub kind_is : RowsAreNotReserved → (p : Packet) (words : List ℕ) → HasRow p words → kind_in words ≡ uncarried_kind p
kind_is law (packet.Utility status value) words r =
    of_row words (law (packet.Utility status value) words tt r) ∙ of_type words 0 r.0
kind_is law (packet.System group message) words r =
    of_row words (law (packet.System group message) words tt r) ∙ of_type words 1 r.0
kind_is law (packet.Voice1 group message) words r =
    of_row words (law (packet.Voice1 group message) words tt r) ∙ of_type words 2 r.0
kind_is law (packet.Exclusive group form bytes) words r =
    of_row words (law (packet.Exclusive group form bytes) words tt r) ∙ of_type words 3 r.0
kind_is law (packet.Voice2 group message) words r =
    of_row words (law (packet.Voice2 group message) words tt r) ∙ of_type words 4 r.0 ∙ voice_kind_is words message r.2
kind_is law (packet.Data8 group kept) words r = of_row words (law (packet.Data8 group kept) words tt r) ∙ of_type words 5 r.0
kind_is law (packet.Flex group kept) words r = of_row words (law (packet.Flex group kept) words tt r) ∙ of_type words 13 r.0
kind_is law (packet.Stream format status low second third fourth) words r =
    of_row words (law (packet.Stream format status low second third fourth) words tt r) ∙ of_type words 15 r.0
kind_is law (packet.Reserved kept) words r = ap (λ row. if row then row_kind_in words else Some kinds.Reserved) r.0

-- ---- the group

abbrev group_by : List ℕ → Option Kind → Option ℕ
group_by words None = None
group_by words (Some k) = if has_group k then Some (fields.group_of words) else None

voice_group : (m : Voice2) (words : List ℕ) (group : ℕ) (k : Kind) → group ≡ fields.group_of words → uncarried_voice m ≡ Some k
    → Some group ≡ group_by words (Some k)
voice_group (voice2.NoteController channel kind note index value) words group k same e = ap Some same ∙ ap (group_by words) e
voice_group (voice2.NoteBend channel note value) words group k same e = ap Some same ∙ ap (group_by words) e
voice_group (voice2.NoteManagement channel note flags) words group k same e = ap Some same ∙ ap (group_by words) e
voice_group (voice2.Shift channel param value) words group k same e = go (is_null param) e
  where
    go : (null : Bool) → Some (shift_kind null) ≡ Some k → Some group ≡ group_by words (Some k)
    go true e = ap Some same ∙ ap (group_by words) e
    go false e = ap Some same ∙ ap (group_by words) e
voice_group _ words group k same e = cc

pub group_is : (p : Packet) (words : List ℕ) (k : Kind) → HasRow p words → uncarried_kind p ≡ Some k
    → group_of p ≡ (if has_group k then Some (fields.group_of words) else None)
group_is (packet.Utility status value) words k r e = ap (group_by words) e
group_is (packet.System group message) words k r e = cc
group_is (packet.Voice1 group message) words k r e = cc
group_is (packet.Exclusive group form bytes) words k r e = cc
group_is (packet.Voice2 group message) words k r e = voice_group message words group k r.1 e
group_is (packet.Data8 group kept) words k r e = ap Some r.1 ∙ ap (group_by words) e
group_is (packet.Flex group kept) words k r e = ap Some r.1 ∙ ap (group_by words) e
group_is (packet.Stream format status low second third fourth) words k r e = ap (group_by words) e
group_is (packet.Reserved kept) words k r e = ap (group_by words) e

-- ---- the step

-- what tells of a voice message that nothing carries
pub record IsNothing (paired : Bool) (message : Voice2) (k : Kind) : Type 0 where
  pub accepted : bad_voice2 message ≡ None
  pub unpaired : IsUnpaired paired message
  pub few : length (voice_messages paired message) ≢ 1
  pub alone : is_several message ≡ false
  pub carried : is_carried_voice paired message ≡ false
  pub kind : voice_kind paired message ≡ Some k

not-one : (n : ℕ) → n ≡ 0 → n ≢ 1
not-one n e one = omega (arith, e, one)

nothing : (paired : Bool) (message : Voice2) (k : Kind) → uncarried_voice message ≡ Some k → IsNothing paired message k
nothing paired (voice2.NoteController channel kind note index value) k e =
    record { accepted = refl; unpaired = tt; few = not-one 0 refl; alone = refl; carried = refl; kind = e }
nothing paired (voice2.NoteBend channel note value) k e =
    record { accepted = refl; unpaired = tt; few = not-one 0 refl; alone = refl; carried = refl; kind = e }
nothing paired (voice2.NoteManagement channel note flags) k e =
    record { accepted = refl; unpaired = tt; few = not-one 0 refl; alone = refl; carried = refl; kind = e }
nothing paired (voice2.Shift channel param value) k e =
    record { accepted = refl; unpaired = tt; few = not-one 0 refl; alone = refl; carried = refl; kind = e }
nothing paired _ k e = cc

abbrev line_at : ℕ → Option ℕ → Kind → Listed
line_at offset group k = record { offset = offset; group = group; kind = k }

module _ (state : DownState) (offset : ℕ) (told : Uncarried) (carried : Carried) (piece : carried.piece.now ≡ []) (lane : lane_in carried ≡ 0)
    (line : line_in carried ≡ Some (line_at offset told.group told.kind)) where
  line_is : (p : Packet) → group_of p ≡ told.group → listed state.lanes.paired None offset p ≡ Some (line_at offset (group_of p) told.kind)
      → line_in carried ≡ listed state.lanes.paired None offset p
  line_is p group here = line ∙ ap (λ group. Some (line_at offset group told.kind)) (sym group) ∙ sym here

  voice_step : (group : ℕ) (message : Voice2) → IsNothing state.lanes.paired message told.kind → Some group ≡ told.group
      → listed state.lanes.paired None offset (packet.Voice2 group message) ≡ Some (line_at offset (Some group) told.kind)
      → IsStep state offset (packet.Voice2 group message) carried
  voice_step group message is in_group here = record {
    accepted = is.accepted;
    piece = piece ∙ no_piece state.lanes.paired state.lanes.style (lane_at state.lanes.states group) group message is.unpaired is.few is.alone;
    lane = lane ∙ sym (ap (λ told. lane_of (Some group) told) is.carried);
    line = line_is (packet.Voice2 group message) in_group here;
  }

  voice_line : (group : ℕ) (message : Voice2) → uncarried_voice message ≡ Some told.kind
      → listed state.lanes.paired None offset (packet.Voice2 group message) ≡ Some (line_at offset (Some group) told.kind)
  voice_line group (voice2.NoteController channel kind note index value) e = ap (option_map (line_at offset (Some group))) e
  voice_line group (voice2.NoteBend channel note value) e = ap (option_map (line_at offset (Some group))) e
  voice_line group (voice2.NoteManagement channel note flags) e = ap (option_map (line_at offset (Some group))) e
  voice_line group (voice2.Shift channel param value) e = go (is_null param) e
    where
      go : (null : Bool) → Some (shift_kind null) ≡ Some told.kind
          → option_map (λ k. record { offset = line_offset k None offset; group = Some group; kind = k }) (Some (shift_kind null))
          ≡ Some (line_at offset (Some group) told.kind)
      go true e = ap (option_map (line_at offset (Some group))) e
      go false e = ap (option_map (line_at offset (Some group))) e
  voice_line group _ e = cc

  pub uncarried_step : (p : Packet) → IsUncarried p told → IsStep state offset p carried
  uncarried_step (packet.Utility status value) is = record {
    accepted = refl;
    piece = piece;
    lane = lane;
    line = line_is (packet.Utility status value) is.group (ap (option_map (line_at offset None)) is.kind);
  }
  uncarried_step (packet.System group message) is = absurd (let e = is.kind in cc)
  uncarried_step (packet.Voice1 group message) is = absurd (let e = is.kind in cc)
  uncarried_step (packet.Exclusive group form bytes) is = absurd (let e = is.kind in cc)
  uncarried_step (packet.Voice2 group message) is =
      voice_step group message (nothing state.lanes.paired message told.kind is.kind) is.group (voice_line group message is.kind)
  uncarried_step (packet.Data8 group kept) is = record {
    accepted = refl;
    piece = piece;
    lane = lane;
    line = line_is (packet.Data8 group kept) is.group (ap (option_map (line_at offset (Some group))) is.kind);
  }
  uncarried_step (packet.Flex group kept) is = record {
    accepted = refl;
    piece = piece;
    lane = lane;
    line = line_is (packet.Flex group kept) is.group (ap (option_map (line_at offset (Some group))) is.kind);
  }
  uncarried_step (packet.Stream format status low second third fourth) is = record {
    accepted = refl;
    piece = piece;
    lane = lane;
    line = line_is (packet.Stream format status low second third fourth) is.group (ap (option_map (line_at offset None)) is.kind);
  }
  uncarried_step (packet.Reserved kept) is = record {
    accepted = refl;
    piece = piece;
    lane = lane;
    line = line_is (packet.Reserved kept) is.group (ap (option_map (line_at offset None)) is.kind);
  }

-- nothing is kept of it
pub uncarried_after : (state : DownState) (offset : ℕ) (p : Packet) (k : Kind) → uncarried_kind p ≡ Some k → down_after offset p state ≡ state
uncarried_after state offset (packet.Utility status value) k e = refl
uncarried_after state offset (packet.System group message) k e = cc
uncarried_after state offset (packet.Voice1 group message) k e = cc
uncarried_after state offset (packet.Exclusive group form bytes) k e = cc
uncarried_after state offset (packet.Voice2 group message) k e =
    let is : IsNothing state.lanes.paired message k = nothing state.lanes.paired message k e in
    ap (λ lanes. record { exclusives = state.exclusives; lanes = lanes })
    (ap (λ bad. lanes_after (unless_refused bad (Some group)) None (packet.Voice2 group message) state.lanes) is.accepted
    ∙ sym (kept_none state.lanes group message is.unpaired is.few is.alone))
uncarried_after state offset (packet.Data8 group kept) k e = refl
uncarried_after state offset (packet.Flex group kept) k e = refl
uncarried_after state offset (packet.Stream format status low second third fourth) k e = refl
uncarried_after state offset (packet.Reserved kept) k e = refl

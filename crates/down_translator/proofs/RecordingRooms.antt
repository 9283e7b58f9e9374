-- What a limit that isn't exceeded leaves as it is.
use Rattle.std.proofs.Common.{ℕ, ◌≡◌, ◌≤◌, ◌∙◌, ap, refl, arith, List, [], ◌∷◌, Some, None, Bool, true, false, cond}
use Rattle.std.specs.Option.{option_map}
use Rattle.ump_grammar.specs.declared.packet.Packet.{Packet}
use Rattle.ump_grammar.specs.declared.packet.Packet.TheVariants as packet
use Rattle.sysex_groups.specs.Exclusives.{Part, ended_by, passes_room, start_of}
use Rattle.midi_meaning.specs.declared.listed.BadStep.TheVariants as bad
use Rattle.midi_meaning.specs.Laws.{JoinedBytesKnowNoOffsets, RoomsThatAreNotPassedDoNotMatter}
use Rattle.midi_meaning.specs.Parts.{Placed, parts_of, whole_by, whole_of}
use Rattle.midi_meaning.specs.Packets.{IsInRange}
use Rattle.midi_meaning.specs.Listing.{listed, begun_before, line_of}
use Rattle.midi_meaning.specs.Refusal.{bad_step}
use Rattle.midi_meaning.specs.Rooms.{AreWithinRoom}
use Rattle.down_translator.specs.Recording.{packets_of, AreInRange, AreAccepted}

not-passed : (t : Bool) → cond t (Some bad.ExclusiveTooLong) None ≡ None → t ≡ false
not-passed true e = cc
not-passed false e = refl

more_within : (room offset : ℕ) (p : Packet) (past : List Placed) → 6 ≤ room → IsInRange p → bad_step (Some room) (parts_of past) p ≡ None
    → AreWithinRoom room (parts_of past) → AreWithinRoom room (parts_of (record { offset = offset; packet = p } ∷ past))
more_within room offset (packet.Exclusive g f bytes) past least h b w = (
  not-passed (passes_room (Some room) (parts_of past) (record { group = g; form = f; bytes = bytes; offset = 0 })) b,
  omega (arith, least, h.1),
  w,
)
more_within room offset (packet.Utility s v) past least h b w = w
more_within room offset (packet.System g m) past least h b w = w
more_within room offset (packet.Voice1 g m) past least h b w = w
more_within room offset (packet.Voice2 g m) past least h b w = w
more_within room offset (packet.Data8 g wd) past least h b w = w
more_within room offset (packet.Flex g wd) past least h b w = w
more_within room offset (packet.Stream f s l wd x y) past least h b w = w
more_within room offset (packet.Reserved wd) past least h b w = w

pub accepted-within : (room : ℕ) (past : List Placed) → 6 ≤ room → AreInRange past → AreAccepted room past
    → AreWithinRoom room (parts_of past)
accepted-within room [] least a b = tt
accepted-within room (placed ∷ past) least a b =
    more_within room placed.offset placed.packet past least a.0 b.0 (accepted-within room past least a.1 b.1)

-- the exclusive that a packet ends is that without a limit
pub whole-without_room : RoomsThatAreNotPassedDoNotMatter → JoinedBytesKnowNoOffsets → (room : ℕ) (past : List Placed) (p : Packet)
    → AreWithinRoom room (parts_of past) → bad_step (Some room) (parts_of past) p ≡ None
    → whole_by (Some room) (parts_of past) p ≡ whole_of (packets_of past) p
whole-without_room rooms offsets room past (packet.Exclusive g f bytes) w b =
    let part : Part = record { group = g; form = f; bytes = bytes; offset = 0 } in
    rooms.ended room (parts_of past) part w (not-passed (passes_room (Some room) (parts_of past) part) b)
    ∙ ap (λ o. ended_by None f o bytes) (offsets g past)
whole-without_room rooms offsets room past (packet.Utility s v) w b = refl
whole-without_room rooms offsets room past (packet.System g m) w b = refl
whole-without_room rooms offsets room past (packet.Voice1 g m) w b = refl
whole-without_room rooms offsets room past (packet.Voice2 g m) w b = refl
whole-without_room rooms offsets room past (packet.Data8 g wd) w b = refl
whole-without_room rooms offsets room past (packet.Flex g wd) w b = refl
whole-without_room rooms offsets room past (packet.Stream f s l wd x y) w b = refl
whole-without_room rooms offsets room past (packet.Reserved wd) w b = refl

-- the line of a packet too
begun-without_room : RoomsThatAreNotPassedDoNotMatter → (room : ℕ) (parts : List Part) (p : Packet) → AreWithinRoom room parts
    → begun_before (Some room) parts p ≡ begun_before None parts p
begun-without_room rooms room parts (packet.Exclusive g f bytes) w = ap (option_map start_of) (rooms.opened room g parts w)
begun-without_room rooms room parts (packet.Utility s v) w = refl
begun-without_room rooms room parts (packet.System g m) w = refl
begun-without_room rooms room parts (packet.Voice1 g m) w = refl
begun-without_room rooms room parts (packet.Voice2 g m) w = refl
begun-without_room rooms room parts (packet.Data8 g wd) w = refl
begun-without_room rooms room parts (packet.Flex g wd) w = refl
begun-without_room rooms room parts (packet.Stream f s l wd x y) w = refl
begun-without_room rooms room parts (packet.Reserved wd) w = refl

module _ (paired : Bool) where
  pub line-without_room : RoomsThatAreNotPassedDoNotMatter → (room : ℕ) (past : List Placed) (placed : Placed)
      → AreWithinRoom room (parts_of past) → line_of paired (Some room) (parts_of past) placed ≡ line_of paired None (parts_of past) placed
  line-without_room rooms room past placed w =
      ap (λ o. listed paired o placed.offset placed.packet) (begun-without_room rooms room (parts_of past) placed.packet w)

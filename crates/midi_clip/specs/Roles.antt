-- What packets say about a clip (M2-104-UM: Delta Clockstamp Ticks Per Quarter Note has status 3 of the utility messages, Delta
-- Clockstamp status 4; Start of Clip and End of Clip are stream messages of one packet with the statuses 020 and 021).
use Rattle.std.specs.Prelude.{ℕ, ◌==◌, ◌%◌, ◌^◌, Bool, true, false, ◌&&◌, if◌then◌else◌}
use Rattle.ump_grammar.specs.declared.packet.Packet.{Packet}
use Rattle.ump_grammar.specs.declared.packet.Packet.TheVariants as packet
use Rattle.midi_clip.specs.declared.role.Role.{Role}
use Rattle.midi_clip.specs.declared.role.Role.TheVariants.{StartOfClip, EndOfClip, Resolution, Delta, Other}

-- a utility message; the ticks for a quarter note are its low 16 bits
abbrev pub utility_role : ℕ → ℕ → Role
utility_role status value =
    if status == 3 then Resolution (value % 2 ^ 16) else if status == 4 then Delta value else Other

-- a stream message
abbrev pub stream_role : ℕ → ℕ → Role
stream_role format status =
    if format == 0 && status == 0x020 then StartOfClip
    else if format == 0 && status == 0x021 then EndOfClip
    else Other

abbrev pub role_of : Packet → Role
role_of (packet.Utility status value) = utility_role status value
role_of (packet.Stream format status low second third fourth) = stream_role format status
role_of _ = Other

abbrev pub is_start : Role → Bool
is_start StartOfClip = true
is_start _ = false

abbrev pub is_end : Role → Bool
is_end EndOfClip = true
is_end _ = false

abbrev pub is_resolution : Role → Bool
is_resolution (Resolution ticks) = true
is_resolution _ = false

-- the ticks that a Delta Clockstamp adds; anything else adds none
abbrev pub ticks_added : Role → ℕ
ticks_added (Delta ticks) = ticks
ticks_added _ = 0

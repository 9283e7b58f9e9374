-- The packets of a self test (own rule), drawn from a linear congruential sequence.
use Rattle.std.specs.Prelude.{◌≡◌, ℕ, ◌+◌, ◌*◌, ◌/◌, ◌%◌, ◌^◌, ◌==◌, if◌then◌else◌, zero, suc, Option, Some, None}
use Rattle.voice_messages.specs.declared.voice2.Bank.{Bank}
use Rattle.voice_messages.specs.declared.voice2.ParamKind.TheVariants.{Registered}
use Rattle.voice_messages.specs.declared.voice2.Voice2.{Voice2}
use Rattle.voice_messages.specs.declared.voice2.Voice2.TheVariants as voice2
use Rattle.ump_grammar.specs.declared.packet.Packet.{Packet}
use Rattle.ump_grammar.specs.declared.packet.Packet.TheVariants as packet

-- ---- the draws

-- a draw sets the number to this, of 32 bits
abbrev pub after_draw : ℕ → ℕ
after_draw number = (number * 1664525 + 1013904223) % 2 ^ 32

-- and gives the upper 16 bits of it
abbrev pub upper_half : ℕ → ℕ
upper_half number = number / 65536

-- the number after so many draws from a seed
unfoldable pub number_over : ℕ → ℕ → ℕ
number_over seed zero = seed
number_over seed (suc draws) = after_draw (number_over seed draws)

-- a draw by its place, counted from 0
abbrev pub draw_at : ℕ → ℕ → ℕ
draw_at seed place = upper_half (number_over seed (suc place))

-- ---- the packet of five draws: of its kind, its channel, its number, and the two halves of its value

abbrev pub bank_of : ℕ → ℕ → Option Bank
bank_of high low = if high % 2 == 1 then Some (record { msb = high / 2 % 128; lsb = low % 128 }) else None

abbrev pub message_by : ℕ → ℕ → ℕ → ℕ → ℕ → Voice2
message_by kind channel number high low =
    if kind == 0 then voice2.NoteOn channel (number % 128) low 0 0
    else (if kind == 1 then voice2.NoteOff channel (number % 128) low 0 0
    else (if kind == 2 then voice2.Control channel (1 + number % 95) (high * 65536 + low)
    else (if kind == 3 then voice2.Set channel (record { kind = Registered; bank = number % 128; index = high % 128 }) (low * 65536)
    else (if kind == 4 then voice2.Program channel (number % 128) (bank_of high low)
    else (if kind == 5 then voice2.Bend channel (high * 65536 + low)
    else (if kind == 6 then voice2.PolyPressure channel (number % 128) (high * 65536 + low)
    else voice2.Pressure channel (high * 65536 + low)))))))

unfoldable pub drawn_message : ℕ → ℕ → ℕ → ℕ → ℕ → Voice2
drawn_message kind channel number high low = message_by (kind % 8) (channel % 16) number high low

-- ---- the packets

-- a packet of a seed by its place, counted from 0: it takes five draws, and is in group 0
unfoldable pub generated : ℕ → ℕ → Packet
generated seed place =
    packet.Voice2 0
    (drawn_message (draw_at seed (5 * place)) (draw_at seed (5 * place + 1)) (draw_at seed (5 * place + 2)) (draw_at seed (5 * place + 3))
    (draw_at seed (5 * place + 4)))

-- a generator, by the number that its next draw begins with, has given so many packets of a seed
abbrev pub HasGiven : ℕ → ℕ → ℕ → Type 0
HasGiven seed count number = number ≡ number_over seed (5 * count)

-- An input, cut into packets: a recording from its start, or a file after its first bytes. These count in each offset, and the limit is
-- that of the whole input.
use Rattle.std.specs.Prelude.{◌≡◌, ◌⊎◌, ℕ, ◌+◌, ◌*◌, ◌-◌, ◌%◌, ◌^◌, ◌<◌, ◌≤◌, List, [], ◌∷◌, ◌++◌, false, drop, length, map, Option, None, Some, IfOk, IfSome, Result, Ok, Err}
use Rattle.std.specs.List.{AllByRecursion}
use Rattle.item_reader.specs.Cut.{IsCutInto}
use Rattle.item_reader.specs.Reading.{held_bytes, new_reading}
use Rattle.item_reader.specs.SoFar.{Given, ReadSoFar, given}
use Rattle.item_reader.specs.declared.cutting.Tail as tails
use Rattle.item_reader.specs.declared.cutting.Tail.TheVariants as tail
use Rattle.encoded_packets.specs.Pairs.{is_low_pair, is_low_voice1}
use Rattle.ump_words.specs.Cut.{bytes_asked, word_at, words_of}
use Rattle.ump_words.specs.Reader.{IsHeldAt, Reading}
use Rattle.ump_words.specs.declared.words.Framed.{Framed}
use Rattle.ump_words.specs.declared.words.Order.{Order}
use Rattle.ump_grammar.specs.declared.packet.Bad.{Bad}
use Rattle.ump_grammar.specs.declared.packet.Bad.TheVariants as bad
use Rattle.ump_grammar.specs.declared.packet.Packet.{Packet}
use Rattle.ump_grammar.specs.Ranges.{IsPacket}
use Rattle.ump_grammar.specs.Reading.{Decodes}
use Rattle.ump_grammar.specs.Reason.{reason as reason_of}
use Rattle.ump_grammar.specs.Spelling.{Spells}
use Rattle.outside.specs.declared.objects.ReadStop.{ReadStop}
use Rattle.outside.specs.declared.objects.ReadStop.TheVariants as stop
use Rattle.outside.specs.declared.objects.Source as source
use Rattle.pass_loop.specs.Items.{limit}
use Rattle.pass_loop.specs.Next.{ComesNearer, GivesNext, NextCause}
use Rattle.pass_loop.specs.Pass.{Cutting, Tail}
use Rattle.pass_loop.specs.declared.pass.Found.{Found}
use Rattle.pass_loop.specs.declared.pass.Found.TheVariants as found
use Rattle.pass_loop.specs.declared.pass.Next.{Next}
use Rattle.pass_loop.specs.declared.pass.Next.TheVariants as next
use Rattle.pass_loop.specs.declared.ends.Reason.{Reason}
use Rattle.pass_loop.specs.declared.ends.Reason.TheVariants.{Truncated, InputTooLong, BadCount, HighBit}

-- the most bytes that may come after so many
abbrev pub room_behind : ℕ → ℕ
room_behind before = limit - before

-- the words of a packet, with the offset that it has if so many bytes stand before the first one
abbrev pub framed_behind : ℕ → Order → ℕ → List ℕ → Framed
framed_behind before order at chunk = record { offset = at + before; words = words_of order chunk }

abbrev pub framed_of : List (Framed × Packet) → List Framed
framed_of items = map (λ item. item.0) items

-- the words spell the packet, and there is no reason to refuse them
pub record IsRead (item : Framed × Packet) : Type 0 where
  pub fine : reason_of item.0.words ≡ None
  pub spells : Spells item.1 item.0.words

abbrev pub AreRead : List (Framed × Packet) → Type 0
AreRead items = AllByRecursion IsRead items

-- what comes after so many bytes is cut into these words of packets, and then comes what makes the tail
abbrev pub IsCutBehind : Order → ℕ → List ℕ → List Framed → tails.Tail → Type 0
IsCutBehind order before bytes framed tail =
    IsCutInto (bytes_asked order) (framed_behind before order) (room_behind before) bytes framed tail

-- the refusal if the packets end otherwise than with the last byte
abbrev pub refusal_behind : ℕ → tails.Tail → Tail
refusal_behind before tail.End = None
refusal_behind before (tail.Truncated at) = Some (Truncated, at + before)
refusal_behind before tail.TooLong = Some (InputTooLong, limit)

-- the reason for words that are refused
abbrev pub reason_for : Bad → Reason
reason_for bad.BadCount = BadCount
reason_for bad.HighBit = HighBit

module _ (order : Order) (before : ℕ) where
  -- all of what comes is cut into these packets
  pub record EndsAt (bytes : List ℕ) (items : List (Framed × Packet)) (end : Tail) : Type 0 where
    pub tail : tails.Tail
    pub cut : IsCutBehind order before bytes (framed_of items) tail
    pub end_is : end ≡ refusal_behind before tail

  -- after these packets stand words that are refused
  pub record RefusesWords (bytes : List ℕ) (items : List (Framed × Packet)) (end : Tail) : Type 0 where
    pub refused : Framed
    pub after : List Framed
    pub tail : tails.Tail
    pub cut : IsCutBehind order before bytes (framed_of items ++ refused ∷ after) tail
    pub cause : Bad
    pub cause_is : reason_of refused.words ≡ Some cause
    pub end_is : end ≡ Some (reason_for cause, refused.offset)

  -- What comes after so many bytes is cut into the packets that its words spell: into all of them, or into those before the first words
  -- that are refused.
  abbrev pub packets_behind : Cutting (Framed × Packet)
  packets_behind bytes items end = AreRead items × (EndsAt bytes items end ⊎ RefusesWords bytes items end)

-- a recording is cut into the packets that its words spell, from its start
abbrev pub packet_cutting : Order → Cutting (Framed × Packet)
packet_cutting order = packets_behind order 0

-- ---- a reader

-- a reader that has read nothing after so many bytes, or of a recording
abbrev pub words_behind : Order → ℕ → Reading
words_behind order before = new_reading order (room_behind before)

abbrev pub new_words : Order → Reading
new_words order = new_reading order limit

-- it has given these packets of what came after so many bytes, and goes on
pub record GivenBehind (order : Order) (before : ℕ) (reader : Reading) (so_far : Given (Framed × Packet)) : Type 0 where
  pub read : ReadSoFar (bytes_asked order) (framed_behind before order) order (room_behind before) reader
      (given so_far.all so_far.left (framed_of so_far.items))
  pub are : AreRead so_far.items

abbrev pub GivenSoFar : Order → Reading → Given (Framed × Packet) → Type 0
GivenSoFar order = GivenBehind order 0

-- the bytes that a reader holds begin with a whole packet at this place
abbrev pub BeginsPacket : Reading → ℕ → Type 0
BeginsPacket reader place =
    bytes_asked reader.how (drop place (held_bytes reader)) ≤ length (drop place (held_bytes reader))

-- what words are read into, before the place at which the next ones begin: a packet, or a refusal
abbrev pub found_of : Framed → ℕ → Result Packet Bad → Found Framed Packet
found_of framed next (Ok packet) = found.Item framed packet next
found_of framed next (Err why) = found.Refused (reason_for why) framed.offset

abbrev pub IsReadInto : Framed → ℕ → Found Framed Packet → Type 0
IsReadInto framed next result =
    (read : Result Packet Bad) × Decodes framed.words read × IfOk read IsPacket × (result ≡ found_of framed next read)

-- what the words that a reader holds at a place are read into
abbrev pub ReadsAt : Reading → ℕ → Found Framed Packet → Type 0
ReadsAt reader place result =
    (framed : Framed) × (next : ℕ) × IsHeldAt place next reader framed × IsReadInto framed next result

-- The first two words at a place of a reader don't show the packet there: they aren't both read yet, or neither these two nor the
-- first alone are a packet that is known at once, by few of their bytes.
abbrev pub IsUnknownAt : Reading → ℕ → Type 0
IsUnknownAt reader place =
    let rest = drop place (held_bytes reader) in
    let first = word_at reader.how rest 0 in
    (length (held_bytes reader) < place + 8)
    ⊎ ((is_low_pair (first ∷ word_at reader.how rest 1 ∷ []) ≡ false) × (is_low_voice1 (first ∷ []) ≡ false))

-- a packet stands at the place of the reader, which is after it then, within the limit; when the input ends, all of it is read
abbrev pub MovesOn : ℕ → Reading → Reading → Option (List ℕ) → Next Framed Packet → Type 0
MovesOn before old new all (next.Item at packet) =
    (at.offset ≡ old.offset + before) × (0 < length at.words) × (new.offset ≡ old.offset + 4 * length at.words)
    × (new.offset ≤ room_behind before)
MovesOn before old new all next.End = IfSome all (λ bytes. old.offset ≡ length bytes)
MovesOn before old new all _ = Unit {0}

-- the reasons for which bytes are refused, and not what packets are to something else
abbrev pub IsOfBytes : Reason → Type 0
IsOfBytes Truncated = Unit {0}
IsOfBytes InputTooLong = Unit {0}
IsOfBytes BadCount = Unit {0}
IsOfBytes HighBit = Unit {0}
IsOfBytes _ = ⊥

abbrev pub RefusesBytes : Next Framed Packet → Type 0
RefusesBytes (next.Refused reason offset) = IsOfBytes reason
RefusesBytes _ = Unit {0}

-- What is given out next of an input in which so many bytes stand before the first word: by what was given before, if a
-- packet stands, for what bytes are refused, how the end comes nearer, and when the source failed. The second reader and the second
-- source are those after it.
pub record GivesNextPacket {S : Type 0} (source : source.Ghosts S) (before : ℕ) (words words' : Reading)
    (input input' : S) (result : Next Framed Packet) : Type 0 where
  pub answer : (order : Order) (all : Option (List ℕ)) (items : List (Framed × Packet))
      → GivenBehind order before words (given all (source.left input) items)
      → GivesNext (packets_behind order before) (λ past item. IsPacket item.1)
      (GivenBehind order before words') (given all (source.left input') items) result
  pub place : (order : Order) (all : Option (List ℕ)) (items : List (Framed × Packet))
      → GivenBehind order before words (given all (source.left input) items) → MovesOn before words words' all result
  pub reason : RefusesBytes result
  pub nearer : ComesNearer (words.limit - words.offset) (words'.limit - words'.offset) result
  pub cause : NextCause (source.faults input) (source.faults input') result

-- the refusal if the words of an input stop, with the offset of a part in the whole input, as a sum of 64 bits; none if a read failed
abbrev pub refusal_of_stop : ℕ → ReadStop → Option (Reason × ℕ)
refusal_of_stop before (stop.Read failed) = None
refusal_of_stop before (stop.Truncated at) = Some (Truncated, (at + before) % 2 ^ 64)
refusal_of_stop before stop.TooLong = Some (InputTooLong, limit)

-- what is given out if the words of an input stop
abbrev pub next_of_stop : {P : Type 0} → ℕ → ReadStop → Next Framed P
next_of_stop before (stop.Read failed) = next.Failed
next_of_stop before (stop.Truncated at) = next.Refused Truncated ((at + before) % 2 ^ 64)
next_of_stop before stop.TooLong = next.Refused InputTooLong limit

-- What of exclusives is listed (M2-104-UM, default translation), and refused (own rule). Parts are listed the
-- newest first.
use Rattle.std.specs.Prelude.{ℕ, if◌then◌else◌, List, [], ◌∷◌, Option, Some, None}
use Rattle.std.specs.List.{flat_map}
use Rattle.std.specs.Option.{option_map, option_to_list}
use Rattle.voice_messages.specs.declared.voice2.Form.{Form}
use Rattle.voice_messages.specs.declared.voice2.Form.TheVariants as form
use Rattle.ump_grammar.specs.declared.packet.Packet.{Packet}
use Rattle.ump_grammar.specs.declared.packet.Packet.TheVariants as packet
use Rattle.sysex_groups.specs.Exclusives.{Part, Room, passes_room, started}
use Rattle.listing_terms.specs.declared.listed.BadStep.{BadStep}
use Rattle.listing_terms.specs.declared.listed.BadStep.TheVariants as bad
use Rattle.listing_terms.specs.declared.listed.Kind.{Kind}
use Rattle.listing_terms.specs.declared.listed.Kind.TheVariants as kinds
use Rattle.listing_terms.specs.declared.listed.Listed.{Listed}

-- an exclusive that is open is cut when another one begins; a part that continues or ends one is stray if
-- none is open
abbrev pub exclusive_kind : Form → Option ℕ → Option Kind
exclusive_kind form.Complete (Some start) = Some kinds.CutExclusive
exclusive_kind form.Start (Some start) = Some kinds.CutExclusive
exclusive_kind form.Continue None = Some kinds.StrayExclusive
exclusive_kind form.End None = Some kinds.StrayExclusive
exclusive_kind _ _ = None

-- a line has the packet's offset, or that of the packet that began what is cut
abbrev pub line_offset : Kind → Option ℕ → ℕ → ℕ
line_offset kinds.CutExclusive (Some start) offset = start
line_offset _ begun offset = offset

-- the offset at which the exclusive that the packet's group has open started; only packets of exclusives ask
-- for it
abbrev pub begun_before : Room → List Part → Packet → Option ℕ
begun_before room parts (packet.Exclusive group form bytes) = started room group parts
begun_before room parts _ = None

-- ---- at the end of input

-- the line of a group at the end of input, if an exclusive is still open
abbrev pub end_line : Room → List Part → ℕ → Option Listed
end_line room parts group =
    option_map (λ start. record { offset = start; group = Some group; kind = kinds.OpenExclusive })
    (started room group parts)

abbrev pub groups : List ℕ
groups = 0 ∷ 1 ∷ 2 ∷ 3 ∷ 4 ∷ 5 ∷ 6 ∷ 7 ∷ 8 ∷ 9 ∷ 10 ∷ 11 ∷ 12 ∷ 13 ∷ 14 ∷ 15 ∷ []

abbrev pub end_lines : Room → List Part → List Listed
end_lines room parts = flat_map (λ group. option_to_list (end_line room parts group)) groups

-- the line of a part; the exclusive that its group has open, if it has one, started there
abbrev pub exclusive_listed : Option ℕ → Part → Option Listed
exclusive_listed begun part =
    option_map (λ kind. record { offset = line_offset kind begun part.offset; group = Some part.group; kind = kind })
    (exclusive_kind part.form begun)

-- the line of a part after these
abbrev pub exclusive_line : Room → List Part → Part → Option Listed
exclusive_line room parts part = exclusive_listed (started room part.group parts) part

-- ---- refused

abbrev pub bad_part : Room → List Part → Option Part → Option BadStep
bad_part room parts None = None
bad_part room parts (Some part) = if passes_room room parts part then Some bad.ExclusiveTooLong else None

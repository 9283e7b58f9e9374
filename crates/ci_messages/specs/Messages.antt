-- The messages of MIDI-CI (M2-101-UM), a row for each.
use Rattle.std.specs.Prelude.{ℕ, ◌==◌, nat_le, Bool, ◌&&◌, ◌||◌, not, if◌then◌else◌, List, [], ◌∷◌, replicate}
use Rattle.ci_messages.specs.declared.kind.Format.{Format}
use Rattle.ci_messages.specs.declared.kind.Format.TheVariants as format
use Rattle.ci_messages.specs.declared.kind.Kind.{Kind}
use Rattle.ci_messages.specs.declared.kind.Kind.TheVariants as kind
use Rattle.ci_messages.specs.declared.view.Body.{Body}
use Rattle.ci_messages.specs.declared.view.Body.TheVariants as body
use Rattle.ci_messages.specs.Fields.{Field, Value, byte, number2, number4, bytes, counted, reserved, absent, unread, number, list, nothing}

-- Version 00 has no rows, and version 01 none for the messages of the endpoint: such a body is left unread
-- (own rule).
abbrev pub has_row : ℕ → ℕ → Bool
has_row sub version = not (version == 0 || (version == 1 && (sub == 0x72 || sub == 0x73)))

-- The kind of a message, by its sub-id and version.
abbrev pub kind_of : ℕ → ℕ → Kind
kind_of sub version =
    if not (has_row sub version) then kind.Other
    else if sub == 0x70 then kind.Discovery
    else if sub == 0x71 then kind.DiscoveryReply
    else if sub == 0x72 then kind.EndpointInquiry
    else if sub == 0x73 then kind.EndpointReply
    else if sub == 0x7E then kind.Invalidate
    else if sub == 0x7F then kind.Nak
    else if sub == 0x20 then kind.ProfileInquiry
    else if sub == 0x21 then kind.ProfileReply
    else if sub == 0x22 then kind.SetOn
    else if sub == 0x23 then kind.SetOff
    else if sub == 0x24 then kind.EnabledReport
    else if sub == 0x25 then kind.DisabledReport
    else if nat_le 0x30 sub && nat_le sub 0x3F then kind.Property
    else kind.Other

-- The sub-id of a kind of message: its only one. Property Exchange has 30 to 3F, and the messages without a
-- kind of their own have many; of these it is the least.
abbrev pub sub_of : Kind → ℕ
sub_of kind.Discovery = 0x70
sub_of kind.DiscoveryReply = 0x71
sub_of kind.EndpointInquiry = 0x72
sub_of kind.EndpointReply = 0x73
sub_of kind.Invalidate = 0x7E
sub_of kind.Nak = 0x7F
sub_of kind.ProfileInquiry = 0x20
sub_of kind.ProfileReply = 0x21
sub_of kind.SetOn = 0x22
sub_of kind.SetOff = 0x23
sub_of kind.EnabledReport = 0x24
sub_of kind.DisabledReport = 0x25
sub_of kind.Property = 0x30
sub_of kind.Other = 0x00

-- Messages of version 01 are in the short format (own rule), all others in the full one of version 02.
abbrev pub format_of : ℕ → Format
format_of version = if version == 1 then format.Short else format.Full

-- a field that the short format has no place for: there it always holds this value (own rule)
abbrev pub full_only : Format → Field → Value → Field
full_only format.Full field only = field
full_only format.Short field only = absent only

abbrev pub path_in : Format → Field
path_in form = full_only form byte (number 0)

-- 7F is no function block
abbrev pub block_in : Format → Field
block_in form = full_only form byte (number 0x7F)

abbrev pub channels_in : Format → Field
channels_in form = full_only form number2 (number 0)

-- a byte of a NAK
abbrev pub nak_byte_in : Format → Field
nak_byte_in form = full_only form byte (number 0)

-- The fields of a body in each format, in their order. This is the one table of places: it decides which
-- messages are too short, what is read, which values fit, and what is written.
abbrev pub fields_of : Format → Kind → List Field
fields_of form kind.Discovery = bytes 3 ∷ bytes 2 ∷ bytes 2 ∷ bytes 4 ∷ byte ∷ number4 ∷ path_in form ∷ []
fields_of form kind.DiscoveryReply =
    bytes 3 ∷ bytes 2 ∷ bytes 2 ∷ bytes 4 ∷ byte ∷ number4 ∷ path_in form ∷ block_in form ∷ []
fields_of form kind.EndpointInquiry = byte ∷ []
fields_of form kind.EndpointReply = byte ∷ counted 1 ∷ []
fields_of form kind.Invalidate = number4 ∷ []
fields_of form kind.Nak =
    nak_byte_in form ∷ nak_byte_in form ∷ nak_byte_in form
    ∷ full_only form (bytes 5) (list (replicate 5 0)) ∷ full_only form (counted 1) (list []) ∷ []
fields_of form kind.ProfileInquiry = []
fields_of form kind.ProfileReply = counted 5 ∷ counted 5 ∷ []
fields_of form kind.SetOn = bytes 5 ∷ channels_in form ∷ []
fields_of form kind.SetOff = bytes 5 ∷ full_only form (reserved 2) nothing ∷ []
fields_of form kind.EnabledReport = bytes 5 ∷ channels_in form ∷ []
fields_of form kind.DisabledReport = bytes 5 ∷ channels_in form ∷ []
fields_of form kind.Property = unread ∷ []
fields_of form kind.Other = unread ∷ []

-- what a body says for each of its fields
abbrev pub values_of : Body → List Value
values_of (body.Discovery manufacturer family model revision category size path) =
    list manufacturer ∷ list family ∷ list model ∷ list revision
    ∷ number category ∷ number size ∷ number path ∷ []
values_of (body.DiscoveryReply manufacturer family model revision category size path block) =
    list manufacturer ∷ list family ∷ list model ∷ list revision
    ∷ number category ∷ number size ∷ number path ∷ number block ∷ []
values_of (body.EndpointInquiry status) = number status ∷ []
values_of (body.EndpointReply status text) = number status ∷ list text.now ∷ []
values_of (body.Invalidate target) = number target ∷ []
values_of (body.Nak original code value details text) =
    number original ∷ number code ∷ number value ∷ list details ∷ list text.now ∷ []
values_of body.ProfileInquiry = []
values_of (body.ProfileReply on off) = list on.now ∷ list off.now ∷ []
values_of (body.SetOn id channels) = list id.bytes ∷ number channels ∷ []
values_of (body.SetOff id) = list id.bytes ∷ nothing ∷ []
values_of (body.EnabledReport id channels) = list id.bytes ∷ number channels ∷ []
values_of (body.DisabledReport id channels) = list id.bytes ∷ number channels ∷ []
values_of (body.Property lent) = list lent.now ∷ []
values_of (body.Other lent) = list lent.now ∷ []

-- the kind of the message that has a body
abbrev pub body_kind : Body → Kind
body_kind (body.Discovery manufacturer family model revision category size path) = kind.Discovery
body_kind (body.DiscoveryReply manufacturer family model revision category size path block) =
    kind.DiscoveryReply
body_kind (body.EndpointInquiry status) = kind.EndpointInquiry
body_kind (body.EndpointReply status text) = kind.EndpointReply
body_kind (body.Invalidate target) = kind.Invalidate
body_kind (body.Nak original code value details text) = kind.Nak
body_kind body.ProfileInquiry = kind.ProfileInquiry
body_kind (body.ProfileReply on off) = kind.ProfileReply
body_kind (body.SetOn id channels) = kind.SetOn
body_kind (body.SetOff id) = kind.SetOff
body_kind (body.EnabledReport id channels) = kind.EnabledReport
body_kind (body.DisabledReport id channels) = kind.DisabledReport
body_kind (body.Property lent) = kind.Property
body_kind (body.Other lent) = kind.Other

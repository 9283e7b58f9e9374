-- What an initiator asks, as messages from F0 to F7 (M2-101-UM). All are of version 02.
use Rattle.std.specs.Prelude.{ℕ, List, [], ◌∷◌, replicate, slice_get, Option, Some, None}
use Rattle.ci_messages.specs.declared.kind.Format.TheVariants as format
use Rattle.ci_messages.specs.declared.kind.Kind.{Kind}
use Rattle.ci_messages.specs.declared.kind.Kind.TheVariants as kind
use Rattle.ci_messages.specs.declared.view.Address.{Address}
use Rattle.ci_messages.specs.declared.view.Address.TheVariants as address
use Rattle.ci_messages.specs.Fields.{Value, number, list, nothing, bytes_of_fields}
use Rattle.ci_messages.specs.Messages.{fields_of, sub_of}
use Rattle.ci_messages.specs.Writing.{channels_of}
use Rattle.ci_responder.specs.Replies.{message_of_payload, payload_with}
use Rattle.ci_responder.specs.Rows.{broadcast}
use Rattle.ci_initiator.specs.declared.ask.Ask.{Ask}
use Rattle.ci_initiator.specs.declared.ask.Ask.TheVariants as ask
use Rattle.ci_initiator.specs.declared.watch.Watch.{Watch}

-- a message of version 02; its sub-id and its fields are those of its kind
abbrev pub message : Address → ℕ → ℕ → Kind → List Value → List ℕ
message address source destination kind values =
    message_of_payload (payload_with address (sub_of kind) 2 source destination (bytes_of_fields (fields_of format.Full kind) values))

-- Discovery of a device without an identity, with the category of profiles, 04; it takes exclusives of up to
-- 512 bytes
abbrev pub discovery : ℕ → List ℕ
discovery muid = message address.Block muid broadcast kind.Discovery
    (list (replicate 3 0) ∷ list (replicate 2 0) ∷ list (replicate 2 0) ∷ list (replicate 4 0)
    ∷ number 4 ∷ number 512 ∷ number 0 ∷ [])

abbrev pub inquiry : ℕ → ℕ → Watch → List ℕ
inquiry muid peer watch = message watch.address muid peer kind.ProfileInquiry []

-- a profile of a channel is for one channel
abbrev pub set_on : ℕ → ℕ → Watch → List ℕ
set_on muid peer watch = message watch.address muid peer kind.SetOn
    (list watch.id.bytes ∷ number (channels_of watch.address) ∷ [])

abbrev pub set_off : ℕ → ℕ → Watch → List ℕ
set_off muid peer watch = message watch.address muid peer kind.SetOff (list watch.id.bytes ∷ nothing ∷ [])

-- what is asked of a peer by a message about a watch
abbrev pub asked_with : (ℕ → ℕ → Watch → List ℕ) → ℕ → Option ℕ → Option Watch → Option (List ℕ)
asked_with write muid (Some peer) (Some watch) = Some (write muid peer watch)
asked_with write muid _ _ = None

-- The message that an initiator with this MUID and this peer writes. There is none if the watch isn't there,
-- or if the message is for a peer and none is known.
abbrev pub asked : ℕ → Option ℕ → List Watch → Ask → Option (List ℕ)
asked muid peer watches ask.Discover = Some (discovery muid)
asked muid peer watches (ask.Inquire k) = asked_with inquiry muid peer (slice_get watches k)
asked muid peer watches (ask.On k) = asked_with set_on muid peer (slice_get watches k)
asked muid peer watches (ask.Off k) = asked_with set_off muid peer (slice_get watches k)

-- the group on which it is sent: that of its watch, and for Discovery that of the first watch, or 0
abbrev pub group_of_watch : Option Watch → ℕ
group_of_watch None = 0
group_of_watch (Some watch) = watch.group

abbrev pub group_asked : List Watch → Ask → ℕ
group_asked watches ask.Discover = group_of_watch (slice_get watches 0)
group_asked watches (ask.Inquire k) = group_of_watch (slice_get watches k)
group_asked watches (ask.On k) = group_of_watch (slice_get watches k)
group_asked watches (ask.Off k) = group_of_watch (slice_get watches k)

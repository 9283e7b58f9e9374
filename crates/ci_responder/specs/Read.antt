-- What a message says, by its bytes.
use Rattle.std.specs.Prelude.{ℕ, true, false, List, unwrap_or}
use Rattle.ci_messages.specs.declared.kind.Format.{Format}
use Rattle.ci_messages.specs.declared.kind.Format.TheVariants as format
use Rattle.ci_messages.specs.declared.kind.Kind.{Kind}
use Rattle.ci_messages.specs.declared.kind.Kind.TheVariants as kind
use Rattle.ci_messages.specs.declared.view.Address.TheVariants as address
use Rattle.ci_messages.specs.Positions.{byte_at, number4_at, part_at}
use Rattle.ci_messages.specs.Reading.{address_of, body_of, message_format, message_kind}
use Rattle.ci_responder.specs.Messages.{SaidToResponder, Received, discovery, endpoint, invalidate, other, profiles, switch}

-- the path of a Discovery, which has no place in the short format
abbrev pub path_at : Format → List ℕ → ℕ
path_at format.Short body = 0
path_at format.Full body = byte_at body 16

-- what a body of a kind says, by its bytes
abbrev pub said_by : Format → Kind → List ℕ → SaidToResponder
said_by form kind.Discovery body = discovery (path_at form body)
said_by form kind.EndpointInquiry body = endpoint (byte_at body 0)
said_by form kind.Invalidate body = invalidate (number4_at body 0)
said_by form kind.ProfileInquiry body = profiles
said_by form kind.SetOn body = switch (record { bytes = part_at body 0 5 }) true
said_by form kind.SetOff body = switch (record { bytes = part_at body 0 5 }) false
said_by form _ body = other

-- what a message from F0 to F7 that has no fault says, on its group
abbrev pub received_in : ℕ → List ℕ → Received
received_in group message = record {
  group = group;
  message = record {
    address = unwrap_or (address_of (byte_at message 2)) address.Block;
    sub = byte_at message 4;
    version = byte_at message 5;
    source = number4_at message 6;
    destination = number4_at message 10;
    said = said_by (message_format message) (message_kind message) (body_of message);
  };
}

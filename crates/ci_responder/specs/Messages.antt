-- What a responder looks at in a message.
use Rattle.std.specs.Prelude.{ℕ, Bool, true, false}
use Rattle.ci_messages.specs.declared.view.Address.{Address}
use Rattle.ci_messages.specs.declared.view.Address.TheVariants as address
use Rattle.ci_messages.specs.declared.view.Body.{Body}
use Rattle.ci_messages.specs.declared.view.Body.TheVariants as body
use Rattle.ci_messages.specs.declared.view.CiView.{CiView}
use Rattle.ci_messages.specs.declared.view.ProfileId.{ProfileId}
use Rattle.function_blocks.specs.declared.setup.Place.{Place}
use Rattle.function_blocks.specs.declared.setup.Place.TheVariants as place
use Rattle.ci_responder.specs.declared.keys.Key.{Key}

-- what a message asks for or says
pub data SaidToResponder : Type 0 where
  discovery : ℕ → SaidToResponder  -- with an output path
  endpoint : ℕ → SaidToResponder  -- an inquiry of the endpoint, with a status
  invalidate : ℕ → SaidToResponder  -- of a MUID
  profiles : SaidToResponder  -- an inquiry of profiles
  switch : ProfileId → Bool → SaidToResponder  -- a profile is set on or off
  other : SaidToResponder

abbrev pub said_in : Body → SaidToResponder
said_in (body.Discovery manufacturer family model revision category size path) = discovery path
said_in (body.EndpointInquiry status) = endpoint status
said_in (body.Invalidate target) = invalidate target
said_in body.ProfileInquiry = profiles
said_in (body.SetOn id channels) = switch id true
said_in (body.SetOff id) = switch id false
said_in _ = other

pub record Message : Type 0 where
  pub address : Address
  pub sub : ℕ
  pub version : ℕ
  pub source : ℕ
  pub destination : ℕ
  pub said : SaidToResponder

-- what a view says, wherever in memory the bytes are that it lends
abbrev pub viewed_message : CiView → Message
viewed_message view = record {
  address = view.address;
  sub = view.sub;
  version = view.version;
  source = view.source;
  destination = view.destination;
  said = said_in view.body;
}

-- a message, and the group on which it came
pub record Received : Type 0 where
  pub group : ℕ
  pub message : Message

abbrev pub received_of : ℕ → CiView → Received
received_of group view = record { group = group; message = viewed_message view }

-- The place of an address (M2-101-UM, device id): a channel of the message's group, that group, or the
-- function block.
abbrev pub place_at : Address → ℕ → Place
place_at (address.Channel channel) group = place.Channel group channel
place_at address.Group group = place.Group group
place_at address.Block group = place.Function

-- the key of the profile with this id at the message's place in a block
abbrev pub key_at : ℕ → Received → ProfileId → Key
key_at block received id = record { block = block; place = place_at received.message.address received.group; id = id }

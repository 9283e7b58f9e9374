-- What an initiator looks at in a message that comes in.
use Rattle.std.specs.Prelude.{ℕ, Bool, true, false, ◌+◌, ◌*◌, ◌||◌, List, [], ◌∷◌, unwrap_or}
use Rattle.std.specs.Str.{bytes_eq}
use Rattle.ci_messages.specs.declared.kind.Kind.{Kind}
use Rattle.ci_messages.specs.declared.kind.Kind.TheVariants as kind
use Rattle.ci_messages.specs.declared.view.Address.{Address}
use Rattle.ci_messages.specs.declared.view.Address.TheVariants as address
use Rattle.ci_messages.specs.declared.view.Body.{Body}
use Rattle.ci_messages.specs.declared.view.Body.TheVariants as body
use Rattle.ci_messages.specs.declared.view.CiView.{CiView}
use Rattle.ci_messages.specs.Positions.{byte_at, number2_at, number4_at, part_at}
use Rattle.ci_messages.specs.Reading.{address_of, body_of, message_kind}

-- what a message says
pub data SaidToInitiator : Type 0 where
  device : SaidToInitiator  -- a Reply to Discovery
  invalidate : ℕ → SaidToInitiator  -- of a MUID
  report : List ℕ → Bool → SaidToInitiator  -- a profile, by its id, is on or off
  inventory : List ℕ → List ℕ → SaidToInitiator  -- the ids of the profiles of a place that are on, and of those that are off
  other : SaidToInitiator

abbrev pub said_in : Body → SaidToInitiator
said_in (body.DiscoveryReply manufacturer family model revision category size path block) = device
said_in (body.Invalidate target) = invalidate target
said_in (body.EnabledReport id channels) = report id.bytes true
said_in (body.DisabledReport id channels) = report id.bytes false
said_in (body.ProfileReply on off) = inventory on.now off.now
said_in _ = other

-- a message that comes in, and its group
pub record Incoming : Type 0 where
  pub group : ℕ
  pub address : Address
  pub source : ℕ
  pub destination : ℕ
  pub said : SaidToInitiator

-- what a view tells, wherever the bytes are that it borrows
abbrev pub incoming_of : ℕ → CiView → Incoming
incoming_of group view = record {
  group = group;
  address = view.address;
  source = view.source;
  destination = view.destination;
  said = said_in view.body;
}

-- the ids of a list that begins at a place of a body with its count, of five bytes each
abbrev pub ids_from : List ℕ → ℕ → List ℕ
ids_from body at = part_at body (at + 2) (5 * number2_at body at)

-- what a body of a kind says, by its bytes
abbrev pub said_by : Kind → List ℕ → SaidToInitiator
said_by kind.DiscoveryReply body = device
said_by kind.Invalidate body = invalidate (number4_at body 0)
said_by kind.EnabledReport body = report (part_at body 0 5) true
said_by kind.DisabledReport body = report (part_at body 0 5) false
said_by kind.ProfileReply body = inventory (ids_from body 0) (ids_from body (2 + 5 * number2_at body 0))
said_by _ body = other

-- what is told by a message from F0 to F7 that has no fault, on its group
abbrev pub incoming_in : ℕ → List ℕ → Incoming
incoming_in group message = record {
  group = group;
  address = unwrap_or (address_of (byte_at message 2)) address.Block;
  source = number4_at message 6;
  destination = number4_at message 10;
  said = said_by (message_kind message) (body_of message);
}

-- an id is one of a list of ids of five bytes each
abbrev pub lists : List ℕ → List ℕ → Bool
lists id (a ∷ b ∷ c ∷ d ∷ e ∷ rest) = bytes_eq (a ∷ b ∷ c ∷ d ∷ e ∷ []) id || lists id rest
lists id _ = false

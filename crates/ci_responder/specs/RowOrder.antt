-- In which order the rows of a message stand.
use Rattle.std.specs.Prelude.{◌≡◌, ◌≢◌, ℕ, Bool, true, false, replicate}
use Rattle.ci_messages.specs.declared.view.Address.TheVariants as address
use Rattle.ci_responder.specs.declared.heard.Heard.TheVariants as heard
use Rattle.ci_responder.specs.Messages.{SaidToResponder, Message, discovery, endpoint, invalidate, profiles, switch, other}
use Rattle.ci_responder.specs.Rows.{broadcast, heard_row}

-- a message at the function block: its sub-id, its version, its source and its destination
abbrev pub worked : ℕ → ℕ → ℕ → ℕ → SaidToResponder → Message
worked sub version source destination said = record {
  address = address.Block;
  sub = sub;
  version = version;
  source = source;
  destination = destination;
  said = said;
}

-- a profile is switched on
abbrev pub on : SaidToResponder
on = switch (record { bytes = replicate 5 0 }) true

pub record RowsInOrder : Type 0 where
  -- a message from one's own MUID is a collision, whatever its version and whatever it says
  pub collision : (muid : ℕ) (named : Bool) (message : Message) → message.source ≡ muid →
      heard_row muid named message ≡ heard.Collision
  -- any other message of version 00 is an old one, whatever it says
  pub old_version : (muid : ℕ) (named : Bool) (message : Message) → message.source ≢ muid →
      message.version ≡ 0 →
      heard_row muid named message ≡ heard.OldVersion

-- Messages to a block of MUID 300, from the device of MUID 5 unless said otherwise. Each meets two rows, of
-- which the first counts, except the last five, which meet one.
pub record WorkedRows : Type 0 where
  pub own_discovery_of_version_00 : heard_row 300 false (worked 0x70 0 300 broadcast other) ≡ heard.Collision
  pub own_invalidation : heard_row 300 false (worked 0x7E 2 300 broadcast (invalidate 300)) ≡ heard.Collision
  pub version_00_to_another : heard_row 300 false (worked 0x22 0 5 7 other) ≡ heard.OldVersion
  pub invalidation_to_another : heard_row 300 false (worked 0x7E 2 5 7 (invalidate 300)) ≡ heard.NotOurs
  pub report_to_another : heard_row 300 false (worked 0x24 2 5 7 other) ≡ heard.NotOurs
  pub invalidation_of_another : heard_row 300 false (worked 0x7E 2 5 broadcast (invalidate 7)) ≡ heard.NotOurs
  pub invalidation_to_all : heard_row 300 false (worked 0x7E 2 5 broadcast (invalidate 300)) ≡ heard.Moved
  pub report_to_all : heard_row 300 false (worked 0x24 2 5 broadcast other) ≡ heard.Report
  pub nak_to_all : heard_row 300 false (worked 0x7F 2 5 broadcast other) ≡ heard.Report
  pub inquiry_to_all : heard_row 300 false (worked 0x20 2 5 broadcast profiles) ≡ heard.Broadcast
  pub named_switch_to_all : heard_row 300 true (worked 0x22 2 5 broadcast on) ≡ heard.Broadcast
  pub properties_to_all : heard_row 300 false (worked 0x34 2 5 broadcast other) ≡ heard.Broadcast
  pub discovery_to_all : heard_row 300 false (worked 0x70 2 5 broadcast (discovery 0)) ≡ heard.Answered
  pub named_switch : heard_row 300 true (worked 0x22 2 5 300 on) ≡ heard.Answered
  pub endpoint_of_status_1 : heard_row 300 false (worked 0x72 2 5 300 (endpoint 1)) ≡ heard.Nak
  pub switch_that_is_not_named : heard_row 300 false (worked 0x22 2 5 300 on) ≡ heard.Nak
  pub properties : heard_row 300 false (worked 0x34 2 5 300 other) ≡ heard.Passed

-- What an initiator knows by the messages that it has heard. They are listed the newest first, and searched
-- from the newest back.
use Rattle.std.specs.Prelude.{ℕ, Bool, if◌then◌else◌, List, [], ◌∷◌, Option, Some, None}
use Rattle.ci_initiator.specs.declared.watch.Watch.{Watch}
use Rattle.ci_initiator.specs.declared.noted.Noted.{Noted}
use Rattle.ci_responder.specs.History.{newer_or}
use Rattle.ci_initiator.specs.Incoming.{Incoming}
use Rattle.ci_initiator.specs.Rows.{noted_row, is_gone, is_peer, tells_by}

-- a message that was heard, and what was noted of it
pub record Entry : Type 0 where
  pub heard : Incoming
  pub noted : Noted

-- those that came after the last one by which the peer was gone, or all
abbrev pub since_gone : List Entry → List Entry
since_gone [] = []
since_gone (entry ∷ past) = if is_gone entry.noted then [] else entry ∷ since_gone past

-- the older of two, if it is there
abbrev pub older_or : {A : Type 0} → Option A → Option A → Option A
older_or (Some older) newer = Some older
older_or None newer = newer

-- the source of the first message that was noted as the peer's
abbrev pub first_peer : List Entry → Option ℕ
first_peer [] = None
first_peer (entry ∷ past) = older_or (first_peer past) (if is_peer entry.noted then Some entry.heard.source else None)

-- what the last message says that told of a watch
abbrev pub last_told : Watch → List Entry → Option Bool
last_told watch [] = None
last_told watch (entry ∷ past) = newer_or (tells_by entry.noted entry.heard watch) (last_told watch past)

module _ (muid : ℕ) (watches : List Watch) where
  -- each message with its row, by the peer that was known before it
  abbrev pub entries : List Incoming → List Entry
  entries [] = []
  entries (heard ∷ past) =
      record { heard = heard; noted = noted_row muid (first_peer (since_gone (entries past))) watches heard }
      ∷ entries past

  -- the peer: the source of the first message of a peer after the last one by which it was gone
  abbrev pub peer_at : List Incoming → Option ℕ
  peer_at past = first_peer (since_gone (entries past))

  -- what is noted of a message that comes after these
  abbrev pub noted_at : List Incoming → Incoming → Noted
  noted_at past heard = noted_row muid (peer_at past) watches heard

  -- the state of a watch: what the newest message about it said, unless the peer was gone after it
  abbrev pub held_at : List Incoming → Watch → Option Bool
  held_at past watch = last_told watch (since_gone (entries past))

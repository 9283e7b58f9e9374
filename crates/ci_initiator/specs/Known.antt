-- What an initiator keeps, and what one message does to it.
use Rattle.std.specs.Prelude.{ℕ, ◌<◌, ◌≤◌, ◌^◌, ◌==◌, Bool, true, ◌&&◌, not, List, [], ◌∷◌, length, map, Option, Some, None, IfSome}
use Rattle.std.specs.List.{list_any}
use Rattle.std.specs.Str.{bytes_eq}
use Rattle.ci_initiator.specs.declared.ask.Ask.{Ask}
use Rattle.ci_initiator.specs.declared.watch.Watch.{Watch}
use Rattle.ci_initiator.specs.declared.watch.Watched.{Watched}
use Rattle.ci_initiator.specs.declared.noted.Noted.{Noted}
use Rattle.ci_initiator.specs.declared.noted.Noted.TheVariants as noted
use Rattle.ci_initiator.specs.Incoming.{Incoming}
use Rattle.ci_initiator.specs.Rows.{noted_row, same_address, tells}
use Rattle.ci_initiator.specs.Asks.{asked}
use Rattle.ci_initiator.specs.History.{held_at, peer_at}
use Rattle.ci_responder.specs.History.{newer_or}

-- its own MUID, the peer's, and what it holds of each watch
pub record Known : Type 0 where
  pub muid : ℕ
  pub peer : Option ℕ
  pub watched : List Watched

-- MUIDs aren't reserved, and there are few watches
pub record IsKnown (known : Known) : Type 0 where
  pub muid : known.muid < 0x0FFFFF00
  pub peer : IfSome known.peer (λ muid. muid < 2 ^ 28)
  pub few : length known.watched ≤ 64

abbrev pub watches_of : Known → List Watch
watches_of known = map (λ watched. watched.watch) known.watched

abbrev pub noted_in : Known → Incoming → Noted
noted_in known heard = noted_row known.muid known.peer (watches_of known) heard

-- the state of a watch after a message that is noted so
abbrev pub held_by : Noted → Incoming → Watched → Watched
held_by noted.Gone heard watched = record { watch = watched.watch; held = None }
held_by row heard watched = record { watch = watched.watch; held = newer_or (tells heard watched.watch) watched.held }

-- what is known after a message that is noted so
abbrev pub after_by : Noted → Known → Incoming → Known
after_by noted.Other known heard = known
after_by noted.Peer known heard = record known { peer = Some heard.source }
after_by noted.Gone known heard = record known { peer = None; watched = map (held_by noted.Gone heard) known.watched }
after_by (noted.Told k) known heard = record known { watched = map (held_by (noted.Told k) heard) known.watched }
after_by noted.Inventory known heard = record known { watched = map (held_by noted.Inventory heard) known.watched }

-- what is known after a message
abbrev pub after : Known → Incoming → Known
after known heard = after_by (noted_in known heard) known heard

-- the message that it asks by, if any
abbrev pub asked_by : Known → Ask → Option (List ℕ)
asked_by known what = asked known.muid known.peer (watches_of known) what

-- what the history of messages says is known
abbrev pub known_at : ℕ → List Watch → List Incoming → Known
known_at muid watches past = record {
  muid = muid;
  peer = peer_at muid watches past;
  watched = map (λ watch. record { watch = watch; held = held_at muid watches past watch }) watches;
}

-- watches that are all different
abbrev pub same_watch : Watch → Watch → Bool
same_watch one other = one.group == other.group && (same_address one.address other.address && bytes_eq one.id.bytes other.id.bytes)

abbrev pub are_different : List Watch → Bool
are_different [] = true
are_different (watch ∷ watches) = not (list_any (same_watch watch) watches) && are_different watches

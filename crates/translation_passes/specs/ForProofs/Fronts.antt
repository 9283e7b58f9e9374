-- Several bytes that are taken up at once, and what is done with the packet to which they are raised.
use Rattle.std.specs.Prelude.{◌≡◌, ◌⊎◌, ◌≤◌, ℕ, List, length, take, Result, Ok, Err}
use Rattle.encoded_packets.specs.declared.direct_message.DirectMessage.{DirectMessage}
use Rattle.up_translator.specs.DirectWords.{packet_of}
use Rattle.up_translator.specs.Fronts.{IsDirectFront, RaiseNothing}
use Rattle.up_translator.specs.Held.{UpState}
use Rattle.pass_loop.specs.Places.{Places}
use Rattle.pass_loop.specs.declared.ends.RunEnd.{RunEnd}
use Rattle.translation_passes.specs.Raised.{CarriesOut, Doing}

module _ {Held : Type 0} (IsDone : Doing Held) (before after : UpState) (bytes : List ℕ) (from to : Held) (old new : Places) where
  -- the first `count` bytes are raised to this one packet, and it is done, or a put failed
  abbrev pub IsDoneOfFront : ℕ → Result (Unit {0}) RunEnd → Type 0
  IsDoneOfFront count result =
      (message : DirectMessage) × IsDirectFront before bytes message count after
      × CarriesOut (IsDone from (packet_of message)) to old new result

  -- of the first `count` bytes nothing is raised, and nothing is done
  abbrev pub IsNothing : ℕ → Type 0
  IsNothing count =
      ((offset : ℕ) → RaiseNothing (take count bytes) before offset after) × (to ≡ from) × (new ≡ old)

  abbrev pub FrontIsTaken : Result ℕ RunEnd → Type 0
  FrontIsTaken (Ok count) = (count ≤ length bytes) × (IsDoneOfFront count (Ok tt) ⊎ IsNothing count)
  FrontIsTaken (Err end) = (count : ℕ) × IsDoneOfFront count (Err end)

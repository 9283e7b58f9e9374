-- The engine back over bytes that are taken at once.
use Rattle.std.proofs.Common.{ℕ, List, [], ◌∷◌, length, refl}
use Rattle.ump_grammar.specs.declared.packet.Packet.{Packet}
use Rattle.midi_meaning.specs.UpLaws.{RaisedPacketsAreInRange, RaisedPacketsComeBackInSilence}
use Rattle.up_translator.specs.Fronts.{RaisesAlone}
use Rattle.up_translator.specs.Held.{UpState, up_after}
use Rattle.up_translator.specs.Laws.{RaisedBytesAreTheDefinition}
use Rattle.down_translator.specs.Held.{DownState}
use Rattle.down_translator.specs.Laws.{WhatIsHeldIsTheDefinition}
use Rattle.pass_loop.specs.Put.{Put}
use Rattle.translation_passes.specs.Back.{HoldsBack, PutsDown, back_options, returning}
use Rattle.translation_passes.specs.declared.back.BackEngine.{BackEngine}
use Rattle.translation_passes.proofs.BackLaws.{alone_is_returned}
use Rattle.translation_passes.proofs.FrontLaws.{ByteIsPut}
use Rattle.translation_passes.proofs.RaisedLaws.{one_done}

abbrev pub engine_of : UpState → DownState → BackEngine
engine_of up down = record { up = up; down = down }

abbrev pub HoldsBackFrom : BackEngine → BackEngine → List (ℕ × ℕ) → Type 0
HoldsBackFrom first now past = HoldsBack (back_options first.up) now.up now.down past

module _ (first : BackEngine) (law : RaisedBytesAreTheDefinition first.up.holding.paired)
    (silence : RaisedPacketsComeBackInSilence first.up.holding.paired) (laws : WhatIsHeldIsTheDefinition first.up.holding.paired)
    (in_range : RaisedPacketsAreInRange first.up.holding.paired) (down : DownState)
    (up : UpState) (past : List (ℕ × ℕ)) (byte : ℕ) (holds : HoldsBackFrom first (engine_of up down) past) where
  -- a byte of which nothing is raised
  pub silent_back : RaisesAlone up (length past) byte []
      → ByteIsPut (returning (back_options first.up)) (HoldsBackFrom first (engine_of (up_after up (length past) byte) down)) past byte []
  silent_back raises =
      let one = alone_is_returned (back_options first.up) law silence laws in_range up down past byte holds [] down [] raises (refl, refl) in
      record { accepted = one.accepted; put = one.put; holds = one.holds }

  -- a byte of which one packet is raised, which comes down
  pub last_back : (packet : Packet) (to : DownState) (puts : List Put) → RaisesAlone up (length past) byte (packet ∷ [])
      → PutsDown 0 down packet to puts
      → ByteIsPut (returning (back_options first.up)) (HoldsBackFrom first (engine_of (up_after up (length past) byte) to)) past byte puts
  last_back packet to puts raises done =
      let one =
      alone_is_returned (back_options first.up) law silence laws in_range up down past byte holds (packet ∷ []) to puts raises
      (one_done (PutsDown 0) down packet to puts done) in
      record { accepted = one.accepted; put = one.put; holds = one.holds }

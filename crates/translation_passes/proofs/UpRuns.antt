-- The engine up over bytes that are taken at once.
use Rattle.std.proofs.Common.{◌≡◌, ℕ, List, [], ◌∷◌, length, refl, ap, sym, ◌∙◌, subst}
use Rattle.std.proofs.lemmas.List.{append-nil}
use Rattle.packet_words.specs.declared.words.Order.{Order}
use Rattle.ump_grammar.specs.declared.packet.Packet.{Packet}
use Rattle.up_translator.specs.Fronts.{RaisesAlone}
use Rattle.up_translator.specs.Held.{UpState, up_after}
use Rattle.up_translator.specs.Laws.{RaisedBytesAreTheDefinition}
use Rattle.pass_loop.specs.Put.{Put}
use Rattle.packet_input.specs.Written.{IsWritten}
use Rattle.translation_passes.specs.declared.up.UpEngine.{UpEngine}
use Rattle.translation_passes.specs.declared.up.WordOutput.{WordOutput}
use Rattle.translation_passes.specs.Options.{UpOptions}
use Rattle.translation_passes.specs.Up.{HoldsRaised, raising, up_options}
use Rattle.translation_passes.proofs.FrontLaws.{ByteIsPut}
use Rattle.translation_passes.proofs.UpLaws.{WritesWords, alone_is_put}

abbrev pub engine_of : UpState → WordOutput → UpEngine
engine_of up words = record { up = up; words = words }

abbrev pub options_of : UpEngine → UpOptions
options_of first = up_options first.up first.words.order

abbrev pub HoldsUpFrom : UpEngine → UpEngine → List (ℕ × ℕ) → Type 0
HoldsUpFrom first now past = (now.words ≡ first.words) × HoldsRaised (options_of first) now.up past

module _ (first : UpEngine) (law : RaisedBytesAreTheDefinition first.up.holding.paired) (words : WordOutput)
    (up : UpState) (past : List (ℕ × ℕ)) (byte : ℕ) (holds : HoldsUpFrom first (engine_of up words) past) where
  -- a byte of which nothing is raised
  pub silent_up : RaisesAlone up (length past) byte []
      → ByteIsPut (raising (options_of first)) (HoldsUpFrom first (engine_of (up_after up (length past) byte) words)) past byte []
  silent_up raises =
      let one = alone_is_put (options_of first) law up past byte holds.1 [] [] raises refl in
      record { accepted = one.accepted; put = one.put; holds = (holds.0, one.holds) }

  -- a byte of which one packet is raised, whose words are written
  pub last_up : (packet : Packet) (to : WordOutput) (puts : List Put) → RaisesAlone up (length past) byte (packet ∷ [])
      → WritesWords words packet to puts
      → ByteIsPut (raising (options_of first)) (HoldsUpFrom first (engine_of (up_after up (length past) byte) to)) past byte puts
  last_up packet to puts raises done =
      let W : Order → Type 0 = λ order. IsWritten order packet puts in
      let written : IsWritten first.words.order packet puts = subst W (ap (λ w. w.order) holds.0) done.1 in
      let one =
      alone_is_put (options_of first) law up past byte holds.1 (packet ∷ []) puts raises (puts, [], written, refl, sym (append-nil puts)) in
      record { accepted = one.accepted; put = one.put; holds = (done.0 ∙ holds.0, one.holds) }

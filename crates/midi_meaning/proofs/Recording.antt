-- A whole recording: the bytes of each lane denote the packets of its group.
use Rattle.std.proofs.Common.{ℕ, ◌≡◌, ◌<◌, ◌∙◌, ap, sym, refl, subst, arith, List, [], ◌∷◌, ◌++◌}
use Rattle.std.proofs.Common.{reverse, length, Option, Some, None, Bool, true, false, cond}
use Rattle.std.proofs.lemmas.Bool.{cond_both}
use Rattle.std.proofs.lemmas.List.{append-nil, reverse-append}
use Rattle.std.proofs.lemmas.Grind.{flat_map-append}
use Rattle.std.specs.Prelude.{◌↔◌, IsTrue, not}
use Rattle.std.specs.List.{flat_map, AllByRecursion}
use mathlib.Core.List.{reverse_aux}
use lib.Dec.{eqb}
use Rattle.voice_messages.specs.declared.voice2.Voice2.{Voice2}
use Rattle.voice_messages.specs.declared.voice2.Voice2.TheVariants as voice2
use Rattle.ump_grammar.specs.declared.packet.Packet.{Packet}
use Rattle.ump_grammar.specs.declared.packet.Packet.TheVariants as packet
use Rattle.voice_messages.specs.declared.voice1.Voice1.{Voice1}
use Rattle.voice_messages.specs.declared.voice1.Voice1.TheVariants as voice1
use Rattle.voice_messages.specs.declared.voice1.System.{System}
use Rattle.voice_messages.specs.declared.voice1.System.TheVariants as system
use Rattle.bit_scaling.specs.Scaling.{down14}
use Rattle.midi1_bytes.specs.Messages.{Message, system_message, spelled, spelled_voice}
use Rattle.midi1_bytes.specs.Laws.{WrittenMessagesAreReadAgain}
use Rattle.midi_meaning.specs.Registers.{is_null}
use Rattle.midi_meaning.specs.Controllers.{Role, channel_mode, reset_all, coarse, plain, role_of, pairing}
use Rattle.listing_terms.specs.Parts.{group_of, is_group, whole_of}
use Rattle.midi_meaning.specs.Messages.{mean1}
use Rattle.midi_meaning.specs.Packets.{mean2, IsInRange}
use Rattle.midi_meaning.specs.Agreement.{Agrees}
use Rattle.midi_meaning.specs.Listing.{is_carried, is_carried_voice, is_carried_role}
use Rattle.midi_meaning.specs.Plain.{set_messages, control_messages, voice_messages, plain_piece}
use Rattle.midi_meaning.specs.Lanes.{pair_by, pair_of, pairs_over, plain_pairs, bytes_for, lane_bytes, Denotes, lane_after}
use Rattle.midi_meaning.proofs.Induction.{start_denotes, one_more}

-- ---- control changes of MIDI 2.0

pub uncarried_control : (r : Role) (ch i v : ℕ) → is_carried_role r ≡ false → control_messages r ch i v ≡ []
uncarried_control channel_mode ch i v e = cc
uncarried_control reset_all ch i v e = cc
uncarried_control coarse ch i v e = cc
uncarried_control plain ch i v e = cc
uncarried_control _ ch i v e = refl

abbrev IsPiece : List ℕ → Type 0
IsPiece bytes = 0 < length bytes

carried_control : (r : Role) (ch i v : ℕ) → is_carried_role r ≡ true → IsPiece (flat_map spelled (control_messages r ch i v))
carried_control channel_mode ch i v e = omega arith
carried_control reset_all ch i v e = omega arith
carried_control coarse ch i v e = omega arith
carried_control plain ch i v e = omega arith
carried_control _ ch i v e = cc

spelled_voice_piece : (m : Voice1) → IsPiece (spelled_voice m)
spelled_voice_piece (voice1.NoteOff ch n v) = omega arith
spelled_voice_piece (voice1.NoteOn ch n v) = omega arith
spelled_voice_piece (voice1.PolyPressure ch n v) = omega arith
spelled_voice_piece (voice1.Control ch i v) = omega arith
spelled_voice_piece (voice1.Program ch p) = omega arith
spelled_voice_piece (voice1.Pressure ch v) = omega arith
spelled_voice_piece (voice1.Bend ch v) = omega arith

first_piece : (xs ys : List ℕ) → IsPiece xs → IsPiece (xs ++ ys)
first_piece [] ys h = absurd (omega (arith, h))
first_piece (x ∷ xs) ys h = omega arith

carried_system : (m : System) → IsPiece (flat_map spelled (system_message m ∷ []))
carried_system (system.Quarter n) = omega arith
carried_system (system.Position n) = omega arith
carried_system (system.Song n) = omega arith
carried_system _ = omega arith

pub lane_bytes-pair : (g : ℕ) (o : Option ℕ) (t : Bool) (piece : List ℕ) → (t ≡ false → piece ≡ [])
    → lane_bytes g (pair_by o t piece) ≡ cond (is_group o g) piece []
lane_bytes-pair g None t piece h = refl
lane_bytes-pair g (Some l) true piece h = append-nil (cond (eqb l g) piece [])
lane_bytes-pair g (Some l) false piece h = cond_both (eqb l g) piece [] (λ bytes. [] ≡ bytes) (λ e. sym (h refl)) (λ e. refl)

all_reverse : (xs acc : List Packet) → AllByRecursion IsInRange xs → AllByRecursion IsInRange acc
    → AllByRecursion IsInRange (reverse_aux xs acc)
all_reverse [] acc h k = k
all_reverse (x ∷ xs) acc h k = all_reverse xs (x ∷ acc) h.1 (h.0, k)

-- ---- a packet that isn't carried has no piece

module _ (paired : Bool) where
  uncarried_voice : (m : Voice2) → is_carried_voice paired m ≡ false → flat_map spelled (voice_messages paired m) ≡ []
  uncarried_voice (voice2.Control ch i v) e = ap (flat_map spelled) (uncarried_control (pairing paired (role_of i)) ch i v e)
  uncarried_voice (voice2.Set ch p v) e = at (is_null p) _ e
    where
      at : (t : Bool) (ms : List Message) → not t ≡ false → flat_map spelled (cond t [] ms) ≡ []
      at true ms e = refl
      at false ms e = cc
  uncarried_voice (voice2.Shift ch p v) e = refl
  uncarried_voice (voice2.NoteController ch k n i v) e = refl
  uncarried_voice (voice2.NoteBend ch n v) e = refl
  uncarried_voice (voice2.NoteManagement ch n f) e = refl
  uncarried_voice _ e = cc

  pub uncarried : (whole : Option (List ℕ)) (p : Packet) → is_carried paired whole p ≡ false → plain_piece paired whole p ≡ []
  uncarried whole (packet.System g m) e = cc
  uncarried whole (packet.Voice1 g m) e = cc
  uncarried None (packet.Exclusive g f bytes) e = refl
  uncarried (Some js) (packet.Exclusive g f bytes) e = cc
  uncarried whole (packet.Voice2 g m) e = uncarried_voice m e
  uncarried whole _ e = refl

  -- ---- a packet that is carried has one

  carried_voice : (m : Voice2) → is_carried_voice paired m ≡ true → IsPiece (flat_map spelled (voice_messages paired m))
  carried_voice (voice2.NoteOff ch n v t a) e = omega arith
  carried_voice (voice2.NoteOn ch n v t a) e = omega arith
  carried_voice (voice2.PolyPressure ch n v) e = omega arith
  carried_voice (voice2.Control ch i v) e = carried_control (pairing paired (role_of i)) ch i v e
  carried_voice (voice2.Set ch p v) e = at (is_null p) e
    where
      at : (t : Bool) → not t ≡ true → IsPiece (flat_map spelled (cond t [] (set_messages ch p (down14 v))))
      at true e = cc
      at false e = omega arith
  carried_voice (voice2.Program ch p None) e = omega arith
  carried_voice (voice2.Program ch p (Some b)) e = omega arith
  carried_voice (voice2.Pressure ch v) e = omega arith
  carried_voice (voice2.Bend ch v) e = omega arith
  carried_voice _ e = cc

  pub carried : (whole : Option (List ℕ)) (p : Packet) → is_carried paired whole p ≡ true → IsPiece (plain_piece paired whole p)
  carried whole (packet.System g m) e = carried_system m
  carried whole (packet.Voice1 g m) e = first_piece (spelled_voice m) [] (spelled_voice_piece m)
  carried None (packet.Exclusive g f bytes) e = cc
  carried (Some js) (packet.Exclusive g f bytes) e = omega arith
  carried whole (packet.Voice2 g m) e = carried_voice m e
  carried whole _ e = cc

  pub carried_has_piece : (whole : Option (List ℕ)) (p : Packet)
      → IsTrue (is_carried paired whole p) ↔ (0 < length (plain_piece paired whole p))
  carried_has_piece whole p = (carried whole p, go (is_carried paired whole p) refl)
    where
      go : (t : Bool) → is_carried paired whole p ≡ t → 0 < length (plain_piece paired whole p) → is_carried paired whole p ≡ true
      go true e h = e
      go false e h = absurd (nothing_below (plain_piece paired whole p) (uncarried whole p e) h)
        where
          nothing_below : (xs : List ℕ) → xs ≡ [] → 0 < length xs → ⊥
          nothing_below xs e h = omega (arith, subst (λ ys. 0 < length ys) e h)

  -- ---- the lanes

  lane_bytes-more : (g : ℕ) (past : List Packet) (p : Packet)
      → reverse (lane_bytes g (pairs_over paired (p ∷ past))) ≡ lane_after paired (reverse (lane_bytes g (pairs_over paired past))) past p g
  lane_bytes-more g past p =
      let whole = whole_of past p in
      let piece = plain_piece paired whole p in
      let bytes = lane_bytes g (pairs_over paired past) in
      ap reverse (flat_map-append (bytes_for g) (pairs_over paired past) (pair_of paired past p)
      ∙ ap (λ l. bytes ++ l) (lane_bytes-pair g (group_of p) (is_carried paired whole p) piece (uncarried whole p)))
      ∙ at (is_group (group_of p) g) bytes piece
    where
      at : (t : Bool) (bytes piece : List ℕ) → reverse (bytes ++ cond t piece []) ≡ cond t (reverse piece ++ reverse bytes) (reverse bytes)
      at true bytes piece = reverse-append bytes piece
      at false bytes piece = ap reverse (append-nil bytes)

  pub recording_denotes : WrittenMessagesAreReadAgain → (g : ℕ) (past : List Packet) → AllByRecursion IsInRange past
      → Denotes paired (reverse (lane_bytes g (pairs_over paired past))) past g
  recording_denotes reads g [] a = start_denotes paired g
  recording_denotes reads g (p ∷ past) a =
      subst (λ bytes. Denotes paired bytes (p ∷ past) g) (sym (lane_bytes-more g past p))
      (one_more paired reads (reverse (lane_bytes g (pairs_over paired past))) past p g a.1 a.0 (recording_denotes reads g past a.1))

  pub recording_agrees : WrittenMessagesAreReadAgain → (packets : List Packet) (g : ℕ) → AllByRecursion IsInRange packets
      → Agrees paired (mean1 paired (lane_bytes g (plain_pairs paired packets))) (mean2 paired packets g)
  recording_agrees reads packets g a = (recording_denotes reads g (reverse packets) (all_reverse packets [] a tt)).agrees

  -- the pairs of one more packet come after those before
  pub plain_pairs-more : (packets : List Packet) (p : Packet)
      → plain_pairs paired (packets ++ p ∷ []) ≡ plain_pairs paired packets ++ pair_of paired (reverse packets) p
  plain_pairs-more packets p = ap (pairs_over paired) (reverse-append packets (p ∷ []))

-- The main induction: one more packet, with its plain piece, keeps what the lanes denote.
use Rattle.std.proofs.Common.{ℕ, ◌≡◌, ◌<◌, ◌∙◌, ap, sym, refl, subst, arith, List, [], ◌∷◌}
use Rattle.std.proofs.Common.{◌++◌, reverse, Option, Some, None, Bool, true, false, cond}
use Rattle.std.proofs.lemmas.Bool.{cond_both}
use Rattle.std.proofs.lemmas.Grind.{fold-append}
use Rattle.std.specs.Option.{IfSome}
use Rattle.std.specs.List.{fold, AllByRecursion}
use Rattle.voice_messages.specs.declared.voice1.System.{System}
use Rattle.voice_messages.specs.declared.voice1.System.TheVariants as system
use Rattle.voice_messages.specs.declared.voice2.ParamKind.{ParamKind}
use Rattle.voice_messages.specs.declared.voice2.ParamKind.TheVariants.{Registered, Assignable}
use Rattle.voice_messages.specs.declared.voice2.Voice2.{Voice2}
use Rattle.voice_messages.specs.declared.voice2.Voice2.TheVariants as voice2
use Rattle.voice_messages.specs.Ranges.{IsSystem, IsVoice2}
use Rattle.ump_grammar.specs.declared.packet.Packet.{Packet}
use Rattle.ump_grammar.specs.declared.packet.Packet.TheVariants as packet
use Rattle.bit_scaling.specs.Scaling.{up, down7, down14}
use Rattle.midi1_bytes.specs.Messages.{Message, system_message, IsMessage, AreData}
use Rattle.midi1_bytes.specs.Stream.{open_in}
use Rattle.midi1_bytes.specs.Steps.{ReadsAs, completed}
use Rattle.midi1_bytes.specs.Laws.{WrittenMessagesAreReadAgain}
use Rattle.midi_meaning.specs.Registers.{is_null}
use Rattle.midi_meaning.specs.Controllers.{Role, reset_all, channel_mode, coarse, plain}
use Rattle.midi_meaning.specs.Controllers.{role_of, pairing, number_msb_index, number_lsb_index}
use Rattle.midi_meaning.specs.Messages.{as_they_come, start, step1, meaning1}
use Rattle.listing_terms.specs.Parts.{group_of, is_group, whole_of}
use Rattle.midi_meaning.specs.Packets.{meaning2, step2, IsInRange}
use Rattle.midi_meaning.specs.Plain.{control_messages, voice_messages, ended_messages, plain_messages, plain_piece}
use Rattle.midi_meaning.specs.Lanes.{Denotes, lane_after}
use Rattle.bit_scaling.specs.ForProofs.Scaled.{down7_fits, down14_fits, release_down_fits, velocity_down_fits}
use Rattle.midi_meaning.proofs.Pairs.{pair_below}
use Rattle.midi_meaning.proofs.Packets.{GroupMatches, matches-packet}
use Rattle.midi_meaning.proofs.Joined.{whole_data}

-- ---- the plain messages can be spelled

system_is_message : (m : System) → IsSystem m → IsMessage (system_message m)
system_is_message (system.Quarter n) b = b
system_is_message (system.Position n) b = b
system_is_message (system.Song n) b = b
system_is_message _ b = tt

kind_numbers : (k : ParamKind) → (number_msb_index k < 128) × (number_lsb_index k < 128)
kind_numbers Registered = (omega arith, omega arith)
kind_numbers Assignable = (omega arith, omega arith)

whole_is_message : (o : Option (List ℕ)) → IfSome o AreData → AllByRecursion IsMessage (ended_messages o)
whole_is_message None h = tt
whole_is_message (Some bytes) h = (h, tt)

module _ (paired : Bool) where
  control_is_message : (r : Role) (ch i v : ℕ) → pairing paired (role_of i) ≡ r → IsVoice2 (voice2.Control ch i v)
      → AllByRecursion IsMessage (control_messages r ch i v)
  control_is_message channel_mode ch i v e b = ((b.0, b.1, down7_fits v b.2), tt)
  control_is_message reset_all ch i v e b = ((b.0, b.1, down7_fits v b.2), tt)
  control_is_message plain ch i v e b = ((b.0, b.1, down7_fits v b.2), tt)
  control_is_message coarse ch i v e b =
      let w : down14 v < 16384 = down14_fits v b.2 in
      ((b.0, b.1, omega (arith, w)), ((b.0, pair_below paired i e, omega arith), tt))
  control_is_message _ ch i v e b = tt

  voice_is_message : (m : Voice2) → IsVoice2 m → AllByRecursion IsMessage (voice_messages paired m)
  voice_is_message (voice2.NoteOff ch n v t a) b = ((b.0, b.1, release_down_fits v b.2), tt)
  voice_is_message (voice2.NoteOn ch n v t a) b = ((b.0, b.1, velocity_down_fits v b.2), tt)
  voice_is_message (voice2.PolyPressure ch n v) b = ((b.0, b.1, down7_fits v b.2), tt)
  voice_is_message (voice2.Control ch i v) b = control_is_message (pairing paired (role_of i)) ch i v refl b
  voice_is_message (voice2.Set ch p v) b =
      let w = down14_fits v b.2 in
      cond_both (is_null p) _ _ (AllByRecursion IsMessage) (λ e. tt)
      (λ e. (
        (b.0, (kind_numbers p.kind).0, b.1.0),
        ((b.0, (kind_numbers p.kind).1, b.1.1), ((b.0, omega arith, omega arith), ((b.0, omega arith, omega arith), tt))),
      ))
  voice_is_message (voice2.Shift ch p v) b = tt
  voice_is_message (voice2.Program ch p None) b = ((b.0, b.1), tt)
  voice_is_message (voice2.Program ch p (Some k)) b = ((b.0, omega arith, b.2.0), ((b.0, omega arith, b.2.1), ((b.0, b.1), tt)))
  voice_is_message (voice2.Pressure ch v) b = ((b.0, down7_fits v b.1), tt)
  voice_is_message (voice2.Bend ch v) b = ((b.0, down14_fits v b.1), tt)
  voice_is_message _ b = tt

  pub plain_is_message : (whole : Option (List ℕ)) (p : Packet) → IfSome whole AreData → IsInRange p
      → AllByRecursion IsMessage (plain_messages paired whole p)
  plain_is_message whole (packet.System g m) a b = (system_is_message m b.1, tt)
  plain_is_message whole (packet.Voice1 g v) a b = (b.1, tt)
  plain_is_message whole (packet.Exclusive g f bytes) a b = whole_is_message whole a
  plain_is_message whole (packet.Voice2 g v) a b = voice_is_message v b.1
  plain_is_message whole _ a b = tt

  -- ---- the induction

  abbrev pub matches_of : (bytes : List ℕ) (past : List Packet) (g : ℕ) → Denotes paired bytes past g
      → GroupMatches paired (meaning1 paired bytes) (meaning2 paired past g)
  matches_of bytes past g d = record {
    channels = λ j. record {
      follows = record { agrees = d.agrees.channels j; bounded = d.bounded j; controllers_bounded = d.controllers_bounded j };
      registers = d.registers j;
    };
    commons = d.agrees.commons;
    real_times = d.agrees.real_times;
  }

  pub denotes_of : (bytes : List ℕ) (past : List Packet) (g : ℕ) → GroupMatches paired (meaning1 paired bytes) (meaning2 paired past g)
      → open_in None bytes ≡ None → Denotes paired bytes past g
  denotes_of bytes past g m h = record {
    agrees = record { channels = λ j. (m.channels j).follows.agrees; commons = m.commons; real_times = m.real_times };
    registers = λ j. (m.channels j).registers;
    closed = h;
    bounded = λ j. (m.channels j).follows.bounded;
    controllers_bounded = λ j. (m.channels j).follows.controllers_bounded;
  }

  pub start_denotes : (g : ℕ) → Denotes paired [] [] g
  unfolding up down7 down14
  start_denotes g = record {
    agrees = record {
      channels = λ j. record {
        acts = refl;
        poly = λ n. refl;
        controllers = λ n. refl;
        pressure = refl;
        bend = refl;
        program = refl;
        params = λ p l. refl;
      };
      commons = refl;
      real_times = refl;
    };
    registers = λ j. refl;
    closed = refl;
    bounded = λ j p. omega arith;
    controllers_bounded = λ j i. omega arith;
  }

  -- after a piece that is read as these messages, they are folded
  pub meaning1-piece : (bytes piece : List ℕ) (ms : List Message) → ReadsAs bytes piece ms
      → meaning1 paired (reverse piece ++ bytes) ≡ fold (step1 paired) (meaning1 paired bytes) ms
  meaning1-piece bytes piece ms r =
      ap (fold (step1 paired) (start as_they_come)) r.completes ∙ fold-append (step1 paired) (start as_they_come) (completed bytes) ms

  pub one_more : WrittenMessagesAreReadAgain → (bytes : List ℕ) (past : List Packet) (p : Packet) (g : ℕ) → AllByRecursion IsInRange past
      → IsInRange p → Denotes paired bytes past g → Denotes paired (lane_after paired bytes past p g) (p ∷ past) g
  one_more reads bytes past p g a b d = go (is_group (group_of p) g) refl
    where
      matched : (t : Bool) → is_group (group_of p) g ≡ t
          → GroupMatches paired (meaning1 paired (cond t (reverse (plain_piece paired (whole_of past p) p) ++ bytes) bytes))
          (cond t (step2 paired (meaning2 paired past g) p (whole_of past p)) (meaning2 paired past g))
          → open_in None (cond t (reverse (plain_piece paired (whole_of past p) p) ++ bytes) bytes) ≡ None
          → Denotes paired (lane_after paired bytes past p g) (p ∷ past) g
      matched t e m h =
          denotes_of (lane_after paired bytes past p g) (p ∷ past) g
          (subst (λ u. GroupMatches paired (meaning1 paired (cond u (reverse (plain_piece paired (whole_of past p) p) ++ bytes) bytes))
          (cond u (step2 paired (meaning2 paired past g) p (whole_of past p)) (meaning2 paired past g)))
          (sym e) m)
          (subst (λ u. open_in None (cond u (reverse (plain_piece paired (whole_of past p) p) ++ bytes) bytes) ≡ None) (sym e) h)

      go : (t : Bool) → is_group (group_of p) g ≡ t → Denotes paired (lane_after paired bytes past p g) (p ∷ past) g
      go true e =
          let ms = plain_messages paired (whole_of past p) p in
          let r = reads ms bytes (plain_is_message (whole_of past p) p (whole_data past p a b) b) d.closed in
          let m =
          matches-packet paired (whole_of past p) p (meaning1 paired bytes) (meaning2 paired past g) b (matches_of bytes past g d) in
          matched true e (subst (λ s. GroupMatches paired s (step2 paired (meaning2 paired past g) p (whole_of past p)))
          (sym (meaning1-piece bytes (plain_piece paired (whole_of past p) p) ms r)) m)
          r.closed
      go false e = matched false e (matches_of bytes past g d) d.closed

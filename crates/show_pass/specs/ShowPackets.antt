-- A recording that is shown: the line of each packet, and after that of a packet that ends a text the line of
-- the text; at the end, if the state is asked for, the lines of what the packets mean.
use Rattle.std.specs.Prelude.{ℕ, true, false, ◌≤◌, Option, None, Some, is_some, option_and_then}
use Rattle.std.proofs.Common.{◌≡◌, List, [], ◌∷◌, refl, sym, subst}
use Rattle.packet_words.specs.declared.words.Framed.{Framed}
use Rattle.packet_words.specs.declared.words.Order.TheVariants.{Big}
use Rattle.ump_grammar.specs.declared.packet.Packet.{Packet}
use Rattle.sysex_groups.specs.Table.{Table, answer_to, empty_table, table_over}
use Rattle.midi_meaning.specs.declared.listed.BadStep.{BadStep}
use Rattle.midi_meaning.specs.Messages.{raised}
use Rattle.midi_meaning.specs.Packets.{meaning2}
use Rattle.midi_meaning.specs.Parts.{part_of, parts_of}
use Rattle.midi_meaning.specs.Refusal.{bad_part}
use Rattle.midi_meaning.specs.Rooms.{AreWithinRoom}
use Rattle.voice_state.specs.Facts.{facts_of}
use Rattle.midi_lines.specs.PacketLines.{packet_text}
use Rattle.down_translator.specs.Held.{bad_answer}
use Rattle.down_translator.specs.Recording.{AreInRange, packets_of}
use Rattle.pass_loop.specs.Named.{AreNamed}
use Rattle.pass_loop.specs.Pass.{Work}
use Rattle.pass_loop.specs.Put.{Put, in_output, output_in}
use Rattle.listing_lines.specs.Refusal.{refusal_by}
use Rattle.show_pass.specs.KeptState.{Kept, StandsFor, state_named, state_puts}
use Rattle.show_pass.specs.Options.{PacketLineOptions}
use Rattle.packet_input.specs.Placed.{all_placed}
use Rattle.show_pass.specs.ShownLines.{shown_packets}
use Rattle.show_pass.specs.Texts.{new_texts, text_line, text_puts, texts_of}
use Rattle.show_pass.specs.declared.texts.Texts.{Texts}

-- the lines of a packet, by those before it
abbrev pub packet_puts : List Packet → Framed × Packet → List Put
packet_puts past item =
    in_output (packet_text item.1 item.0.words item.0.offset) ∷ text_puts (text_line past item.1)

-- What is done with a recording that is shown: a packet is refused only if it passes the room for its
-- exclusive. Keeping a state takes memory; what is told of it are the facts of what all packets mean, in each
-- group. What is put is the lines of all packets.
abbrev pub showing : PacketLineOptions → Work (Framed × Packet)
showing options =
    record {
      names = record { lanes = false; output = true; notes = false };
      grows = options.state;
      refusal = λ past item. refusal_by (bad_part (Some options.room) (parts_of (all_placed past)) (part_of 0 item.1)) item.0.offset;
      IsPut = λ past item puts. puts ≡ packet_puts (packets_of (all_placed past)) item;
      refusal_at_end = λ past. None;
      IsPutAtEnd = λ past puts. puts ≡ state_puts options.state (facts_of raised (meaning2 false (packets_of (all_placed past))));
      Means = λ past puts. output_in puts ≡ shown_packets past;
    }

-- the options of an engine: the order is that of its reader, and says nothing of the work
abbrev pub packet_line_options : Table → Kept → PacketLineOptions
packet_line_options table kept = record { state = is_some kept; order = Big; room = table.room }

text_named : (line : Option (List ℕ)) →
    AreNamed (record { lanes = false; output = true; notes = false }) (text_puts line)
text_named None = tt
text_named (Some line) = (refl, tt)

pub shows_named : (options : PacketLineOptions) (past : List (Framed × Packet)) (item : Framed × Packet) (puts : List Put)
    → (showing options).IsPut past item puts → AreNamed (showing options).names puts
shows_named options past item puts put =
    let A : List Put → Type 0 = λ ps. AreNamed (showing options).names ps in
    subst A (sym put) (refl, text_named (text_line (packets_of (all_placed past)) item.1))

pub shows_last_named : (options : PacketLineOptions) (past : List (Framed × Packet)) (puts : List Put) →
    (showing options).IsPutAtEnd past puts → AreNamed (showing options).names puts
shows_last_named options past puts put =
    let A : List Put → Type 0 = λ ps. AreNamed (showing options).names ps in
    subst A (sym put)
    (state_named (showing options).names refl options.state (facts_of raised (meaning2 false (packets_of (all_placed past)))))

-- why a packet is refused, by what the groups have open
abbrev pub bad_join : Table → Packet → Option BadStep
bad_join table packet = option_and_then (λ part. bad_answer (answer_to table part)) (part_of 0 packet)

-- nothing is open, and what is kept stands for the meaning of no packets
pub record IsReadyShow (first : Table) (texts : Texts) (kept : Kept) : Type 0 where
  pub empty : first ≡ empty_table first.room
  pub none_open : texts ≡ new_texts
  pub least : 6 ≤ first.room
  pub stands : StandsFor raised kept (meaning2 false [])

-- The groups hold what these packets leave, and so do the texts; what is kept stands for what they mean. No
-- packet passed the room.
pub record HoldsShow (first now : Table) (texts : Texts) (started kept : Kept) (past : List (Framed × Packet)) : Type 0 where
  pub least : 6 ≤ first.room
  pub range : AreInRange (all_placed past)
  pub within : AreWithinRoom first.room (parts_of (all_placed past))
  pub table_is : now ≡ table_over first.room (parts_of (all_placed past))
  pub texts_are : texts ≡ texts_of (packets_of (all_placed past))
  pub is_kept : is_some kept ≡ is_some started
  pub stands : StandsFor raised kept (meaning2 false (packets_of (all_placed past)))

pub shows_nothing : (first : Table) (texts : Texts) (kept : Kept) → IsReadyShow first texts kept → HoldsShow first first texts kept kept []
shows_nothing first texts kept ready =
    record {
      least = ready.least;
      range = tt;
      within = tt;
      table_is = ready.empty;
      texts_are = ready.none_open;
      is_kept = refl;
      stands = ready.stands;
    }

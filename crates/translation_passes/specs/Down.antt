-- A recording that is carried down: the piece and the line of each packet, and at the end the lines of the exclusives that are
-- still begun.
use Rattle.std.specs.Prelude.{◌≡◌, ◌||◌, ℕ, Bool, true, false, ◌≤◌, List, [], ◌∷◌, ◌++◌, map, reverse, None, Some, Result}
use Rattle.std.specs.List.{flat_map}
use Rattle.std.specs.Option.{option_to_list}
use Rattle.packet_words.specs.declared.words.Framed.{Framed}
use Rattle.packet_words.specs.declared.words.Order.TheVariants.{Big}
use Rattle.ump_grammar.specs.declared.packet.Packet.{Packet}
use Rattle.text_lines.specs.ListingLines.{listing_text}
use Rattle.midi_meaning.specs.Listing.{end_lines, line_of, lines_over}
use Rattle.midi_meaning.specs.Parts.{Placed, parts_of}
use Rattle.midi_meaning.specs.Refusal.{bad_step}
use Rattle.midi_meaning.specs.StyleLaws.{StyledPairsAreATranslation}
use Rattle.midi_meaning.specs.Styles.{Style, styled_over, styled_pair}
use Rattle.midi_meaning.specs.Translation.{IsTranslation}
use Rattle.down_translator.specs.declared.carried.Carried.{Carried}
use Rattle.down_translator.specs.declared.lowered.LoweredMessage.{LoweredMessage}
use Rattle.down_translator.specs.declared.shortened.ShortenedMessage.{ShortenedMessage}
use Rattle.down_translator.specs.Carried.{line_in}
use Rattle.down_translator.specs.Held.{DownState, limit_of, new_down, paired_of, refusal_in, style_of}
use Rattle.down_translator.specs.HeldStep.{goes_held}
use Rattle.down_translator.specs.Lowered.{attribute_line, goes_direct, goes_shortened, lowered_bytes, shortened_bytes}
use Rattle.down_translator.specs.Recording.{AreAccepted, AreInRange, packets_of, pair_put, state_of}
use Rattle.down_translator.specs.Step.{IsStep}
use Rattle.pass_loop.specs.Pass.{Takes, Work}
use Rattle.pass_loop.specs.Places.{Places}
use Rattle.pass_loop.specs.Put.{Put, in_lane, notes_in, pairs_in}
use Rattle.pass_loop.specs.declared.ends.RunEnd.{RunEnd}
use Rattle.listing_lines.specs.Lines.{line_puts}
use Rattle.listing_lines.specs.Refusal.{refusal_by}
use Rattle.translation_passes.specs.Options.{DownOptions}
use Rattle.packet_input.specs.Placed.{all_placed, placed_of}

-- the puts of pairs
abbrev pub pair_puts : List (ℕ × List ℕ) → List Put
pair_puts pairs = map (λ pair. in_lane pair.0 pair.1) pairs

-- ---- by the packets before, the newest first

module _ (paired : Bool) where
  -- a packet's pair in the style, if it is carried, and its line, if it is listed
  abbrev pub carried_puts : Style → ℕ → List Placed → Placed → List Put
  carried_puts style room past placed =
      pair_puts (styled_pair paired style (styled_over paired style (packets_of past)) (packets_of past) placed.packet)
      ++ line_puts (option_to_list (line_of paired (Some room) (parts_of past) placed))

-- What is done with a recording that is carried down. The pairs that are put are the pairs of the packets in the style, and their
-- translation: after each packet the bytes so far of each lane mean what the packets so far of its group mean. The lines that are put
-- are those of the listing of the packets.
abbrev pub carrying : DownOptions → Work (Framed × Packet)
carrying options =
    record {
      names = record { lanes = true; output = false; notes = true };
      grows = false;
      refusal = λ past item. refusal_by (bad_step (Some options.room) (parts_of (all_placed past)) item.1) item.0.offset;
      IsPut = λ past item puts. puts ≡ carried_puts options.paired options.style options.room (all_placed past) (placed_of item);
      refusal_at_end = λ past. None;
      IsPutAtEnd = λ past puts. puts ≡ line_puts (end_lines (Some options.room) (parts_of (all_placed past)));
      Means =
          λ past puts. (pairs_in puts ≡ styled_over options.paired options.style (packets_of (all_placed past)))
          × IsTranslation options.paired (reverse (packets_of (all_placed past))) (pairs_in puts)
          × (notes_in puts ≡ flat_map listing_text (lines_over options.paired (Some options.room) (all_placed past)));
    }

-- ---- by what the translator holds

-- what is put for an answer
abbrev pub puts_for : Carried → List Put
puts_for carried = pair_puts (pair_put carried) ++ line_puts (option_to_list (line_in carried))

-- what is put for a message of these bytes that alone carries a packet
abbrev pub message_puts : ℕ → ℕ → List ℕ → Bool → List Put
message_puts offset lane bytes left_out =
    in_lane lane bytes ∷ [] ++ line_puts (option_to_list (attribute_line offset lane left_out))

abbrev pub lowered_puts : ℕ → LoweredMessage → List Put
lowered_puts offset message = message_puts offset message.lane (lowered_bytes message) message.has_attribute

abbrev pub shortened_puts : ℕ → ShortenedMessage → List Put
shortened_puts offset message = message_puts offset message.lane (shortened_bytes message) message.has_attribute

-- the packets that one message carries, in plain or in compact style, and those that only add six bytes to an exclusive
abbrev pub goes_at_once : DownState → Packet → Bool
goes_at_once state packet = goes_direct state packet || goes_shortened state packet || goes_held state packet

-- a packet is refused, or what is put for its answer is put, or one of these puts failed
abbrev pub Carries : DownState → ℕ → Packet → Places → Places → Result (Unit {0}) RunEnd → Type 0
Carries state offset packet old new result =
    (puts : List Put)
    × (refusal_in state packet ≡ None → (carried : Carried) × IsStep state offset packet carried
    × (puts ≡ puts_for carried))
    × Takes (refusal_by (refusal_in state packet) offset) puts old new result

-- ---- from the first to the last

-- the options of an engine; the order belongs to its reader, and the work doesn't depend on it
abbrev pub down_options : DownState → DownOptions
down_options state = record { paired = paired_of state; style = style_of state; order = Big; room = limit_of state }

-- a translator in which nothing is open
pub record IsReadyDown (first : DownState) : Type 0 where
  pub empty : first ≡ new_down (paired_of first) (style_of first) (limit_of first)
  pub least : 6 ≤ limit_of first
  pub translates : StyledPairsAreATranslation (paired_of first)

-- the translator holds what these packets leave, which are accepted
pub record HoldsDown (first now : DownState) (past : List (Framed × Packet)) : Type 0 where
  pub least : 6 ≤ limit_of first
  pub translates : StyledPairsAreATranslation (paired_of first)
  pub range : AreInRange (all_placed past)
  pub accepted : AreAccepted (limit_of first) (all_placed past)
  pub state_is : now ≡ state_of (paired_of first) (style_of first) (limit_of first) (all_placed past)

-- A stream of bytes that is shown: the lines of each byte, and at the end that of what is open and, if the
-- state is asked for, those of what the bytes mean.
use Rattle.std.specs.Prelude.{ℕ, true, false, map, Option, None, Some, is_some}
use Rattle.std.proofs.Common.{◌≡◌, List, [], ◌∷◌, ◌++◌, refl, sym, subst}
use Rattle.std.specs.Option.{option_map, option_to_list}
use Rattle.midi1_bytes.specs.declared.step.AfterCut.{AfterCut}
use Rattle.midi1_bytes.specs.declared.step.CutKind.{CutKind}
use Rattle.midi1_bytes.specs.Parsing.{Parsing, held_over, idle}
use Rattle.midi1_bytes.specs.Steps.{Step, cut, step_of}
use Rattle.midi1_bytes.specs.Stream.{Open, open_at_end}
use Rattle.midi_meaning.specs.declared.listed.Kind.{Kind}
use Rattle.midi_meaning.specs.Messages.{as_they_come, meaning1}
use Rattle.midi_meaning.specs.StepListing.{kinds_after, kinds_at_end, kinds_of_step}
use Rattle.midi_meaning.specs.UpRefusal.{AreStepsWithinRoom}
use Rattle.voice_state.specs.Facts.{facts_of}
use Rattle.voice_state.specs.States.{states_of_stream}
use Rattle.midi_lines.specs.StepLines.{byte_listing_text, step_text}
use Rattle.pass_loop.specs.Bytes.{bytes_read}
use Rattle.pass_loop.specs.Named.{AreNamed, named-then}
use Rattle.pass_loop.specs.Pass.{Work}
use Rattle.listing_lines.specs.Refusal.{refusal_of}
use Rattle.show_pass.specs.KeptState.{Kept, StandsFor, state_named, state_puts}
use Rattle.show_pass.specs.Options.{ByteLineOptions}
use Rattle.show_pass.specs.ShownLines.{shown_items}
use Rattle.pass_loop.specs.Put.{Put, in_output, output_in}

-- a line of the listing for each of these kinds
abbrev pub listing_puts : List (Kind × ℕ) → List Put
listing_puts kinds = map (λ line. in_output (byte_listing_text line.0 line.1)) kinds

-- the lines of a step at this offset: what it cuts off or fails to belong to, and then the message that it
-- completes
abbrev pub shown_puts : Step → ℕ → List Put
shown_puts step offset =
    listing_puts (kinds_of_step step offset) ++ option_to_list (option_map in_output (step_text step offset))

-- the lines of a byte that cut something off, after the line of that
abbrev pub puts_after : ℕ → CutKind → AfterCut → ℕ → List Put
puts_after start what after offset =
    listing_puts (kinds_after after offset)
    ++ option_to_list (option_map in_output (step_text (cut start what after) offset))

-- the line of what is open at the end
abbrev pub open_puts : Option Open → List Put
open_puts begun = listing_puts (kinds_at_end (option_map (λ b. (b.start, b.kind)) begun))

-- the options of an engine
abbrev pub byte_line_options : Parsing → Kept → ByteLineOptions
byte_line_options parsing kept = record { state = is_some kept; room = parsing.room }

-- What is done with a stream that is shown. Keeping a state takes memory; what is told of it are the facts of
-- what all bytes mean, in group 0. What is put is the lines of all bytes.
abbrev pub showing_bytes : ByteLineOptions → Work (ℕ × ℕ)
showing_bytes options =
    record {
      names = record { lanes = false; output = true; notes = false };
      grows = options.state;
      refusal = λ past item. refusal_of (step_of (Some options.room) (bytes_read past) item.1) item.0;
      IsPut = λ past item puts. puts ≡ shown_puts (step_of (Some options.room) (bytes_read past) item.1) item.0;
      refusal_at_end = λ past. None;
      IsPutAtEnd = λ past puts. puts ≡ open_puts (open_at_end (Some options.room) (bytes_read past))
          ++ state_puts options.state (facts_of as_they_come (states_of_stream (meaning1 false (bytes_read past))));
      Means = λ past puts. output_in puts ≡ shown_items options.room past;
    }

lines_named : (kinds : List (Kind × ℕ)) (text : Option (List ℕ)) →
    AreNamed (record { lanes = false; output = true; notes = false })
    (listing_puts kinds ++ option_to_list (option_map in_output text))
lines_named [] None = tt
lines_named [] (Some text) = (refl, tt)
lines_named (kind ∷ kinds) text = (refl, lines_named kinds text)

listing_named : (kinds : List (Kind × ℕ)) →
    AreNamed (record { lanes = false; output = true; notes = false }) (listing_puts kinds)
listing_named [] = tt
listing_named (kind ∷ kinds) = (refl, listing_named kinds)

pub shows_named : (options : ByteLineOptions) (past : List (ℕ × ℕ)) (item : ℕ × ℕ) (puts : List Put) →
    (showing_bytes options).IsPut past item puts → AreNamed (showing_bytes options).names puts
shows_named options past item puts put =
    let A : List Put → Type 0 = λ ps. AreNamed (showing_bytes options).names ps in
    let step : Step = step_of (Some options.room) (bytes_read past) item.1 in
    subst A (sym put) (lines_named (kinds_of_step step item.0) (step_text step item.0))

pub shows_last_named : (options : ByteLineOptions) (past : List (ℕ × ℕ)) (puts : List Put) →
    (showing_bytes options).IsPutAtEnd past puts → AreNamed (showing_bytes options).names puts
shows_last_named options past puts put =
    let A : List Put → Type 0 = λ ps. AreNamed (showing_bytes options).names ps in
    let begun : Option Open = open_at_end (Some options.room) (bytes_read past) in
    subst A (sym put)
    (named-then (showing_bytes options).names (open_puts begun)
    (state_puts options.state (facts_of as_they_come (states_of_stream (meaning1 false (bytes_read past)))))
    (listing_named (kinds_at_end (option_map (λ b. (b.start, b.kind)) begun)))
    (state_named (showing_bytes options).names refl options.state
    (facts_of as_they_come (states_of_stream (meaning1 false (bytes_read past))))))

-- ---- the state

-- nothing is open, and what is kept stands for the meaning of no bytes
pub record IsReadyBytes (first : Parsing) (kept : Kept) : Type 0 where
  pub empty : first ≡ idle first.room
  pub stands : StandsFor as_they_come kept (states_of_stream (meaning1 false []))

-- The parser holds what these bytes leave, and what is kept stands for what they mean. No byte passed the
-- room.
pub record HoldsBytes (first now : Parsing) (started kept : Kept) (past : List (ℕ × ℕ)) : Type 0 where
  pub within : AreStepsWithinRoom first.room (bytes_read past)
  pub parsing_is : now ≡ held_over first.room (bytes_read past)
  pub is_kept : is_some kept ≡ is_some started
  pub stands : StandsFor as_they_come kept (states_of_stream (meaning1 false (bytes_read past)))

pub shows_no_bytes : (first : Parsing) (kept : Kept) → IsReadyBytes first kept → HoldsBytes first first kept kept []
shows_no_bytes first kept ready = record { within = tt; parsing_is = ready.empty; is_kept = refl; stands = ready.stands }

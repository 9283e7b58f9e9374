-- What is put for a message that alone carries a packet is what is put for an answer with its bytes; so is nothing for a packet that is
-- only held.
use Rattle.std.proofs.Common.{◌≡◌, ◌<◌, ℕ, Bool, true, false, List, [], ◌∷◌, ◌++◌, length, refl, ap, sym, ◌∙◌, subst, arith, Option, Some, None}
use Rattle.std.specs.Prelude.{◌==◌, ◌||◌, if◌then◌else◌, Result, Ok}
use Rattle.std.specs.Option.{option_map, option_to_list}
use Rattle.std.proofs.lemmas.Bool.{cond_both, eqb-true}
use Rattle.midi_meaning.specs.declared.listed.BadStep.{BadStep}
use Rattle.midi_meaning.specs.declared.listed.Kind.TheVariants as kinds
use Rattle.ump_grammar.specs.declared.packet.Packet.{Packet}
use Rattle.down_translator.specs.declared.carried.Carried.{Carried}
use Rattle.down_translator.specs.declared.carried.LentLine.{LentLine}
use Rattle.down_translator.specs.declared.lowered.LoweredMessage.{LoweredMessage}
use Rattle.down_translator.specs.declared.shortened.ShortenedMessage.{ShortenedMessage}
use Rattle.down_translator.specs.Carried.{line_in, listed_by}
use Rattle.down_translator.specs.Held.{DownState}
use Rattle.down_translator.specs.HeldStep.{IsNothing}
use Rattle.down_translator.specs.Lowered.{IsAnsweredAs, attribute_line, lowered_bytes, shortened_bytes, unless_running}
use Rattle.down_translator.specs.Step.{IsStep}
use Rattle.listing_lines.specs.Lines.{line_puts}
use Rattle.listing_lines.specs.Refusal.{refusal_by}
use Rattle.pass_loop.specs.ForProofs.PutLaws.{over_puts-none}
use Rattle.pass_loop.specs.Pass.{Takes}
use Rattle.pass_loop.specs.Places.{Places, Puts}
use Rattle.pass_loop.specs.Put.{Put}
use Rattle.pass_loop.specs.declared.ends.RunEnd.{RunEnd}
use Rattle.translation_passes.specs.Down.{Carries, message_puts, pair_puts, puts_for}

module _ (offset lane : ℕ) (bytes : List ℕ) (left_out : Bool) (below : lane < 16) where
  abbrev line_at : Bool → Option LentLine
  line_at left_out =
      if left_out
      then Some (record { offset = offset; group = Some (record { number = lane; below = below }); kind = kinds.NoteAttribute })
      else None

  -- an answer with these bytes
  abbrev pub carried_as : Carried
  carried_as =
      record {
        piece = record { ref_ptr = (0, 0); now = bytes };
        lane = record { number = lane; below = below };
        line = line_at left_out;
      }

  line_told : (left_out : Bool) → option_map listed_by (line_at left_out) ≡ attribute_line offset lane left_out
  line_told true = refl
  line_told false = refl

  pub is_carried_as : IsAnsweredAs offset lane bytes left_out carried_as
  is_carried_as = record { piece = refl; lane = refl; line = line_told left_out }

  abbrev one : List (ℕ × List ℕ)
  one = (lane, bytes) ∷ []

  pair_is : 0 < length bytes → (if length bytes == 0 then [] else one) ≡ one
  pair_is some =
      cond_both (length bytes == 0) [] one (λ pairs. pairs ≡ one)
      (λ e. absurd (omega (arith, some, eqb-true (length bytes) 0 e))) (λ e. refl)

  pub puts_are : 0 < length bytes → puts_for carried_as ≡ message_puts offset lane bytes left_out
  puts_are some =
      ap (λ pairs. pair_puts pairs ++ line_puts (option_to_list (line_in carried_as))) (pair_is some)
      ∙ ap (λ line. pair_puts one ++ line_puts (option_to_list line)) (line_told left_out)

-- a step whose answer has these bytes carries the packet when they are put
pub carries_message : (state : DownState) (offset lane : ℕ) (bytes : List ℕ) (left_out : Bool) → lane < 16 → (packet : Packet)
    → 0 < length bytes
    → ((carried : Carried) → IsAnsweredAs offset lane bytes left_out carried → IsStep state offset packet carried)
    → (old new : Places) (result : Result (Unit {0}) RunEnd) → Puts (message_puts offset lane bytes left_out) old new result
    → Carries state offset packet old new result
carries_message state offset lane bytes left_out below packet some step old new result puts =
    let carried = carried_as offset lane bytes left_out below in
    let is = step carried (is_carried_as offset lane bytes left_out below) in
    let T : Option BadStep → Type 0 = λ bad. Takes (refusal_by bad offset) (puts_for carried) old new result in
    let S : List Put → Type 0 = λ p. Puts p old new result in (
      puts_for carried,
      λ fine. (carried, is, refl),
      subst T (sym is.accepted) (subst S (sym (puts_are offset lane bytes left_out below some)) puts),
    )

first_lane : 0 < 16
first_lane = omega arith

-- a step whose answer has neither bytes nor a line carries the packet when nothing is put
pub carries_nothing : (state : DownState) (offset : ℕ) (packet : Packet)
    → ((carried : Carried) → IsNothing carried → IsStep state offset packet carried)
    → (places : Places) → Carries state offset packet places places (Ok tt)
carries_nothing state offset packet step places =
    let carried = carried_as offset 0 [] false first_lane in
    let is = step carried (record { piece = refl; lane = refl; line = refl }) in
    let T : Option BadStep → Type 0 = λ bad. Takes (refusal_by bad offset) (puts_for carried) places places (Ok tt) in
    (puts_for carried, λ fine. (carried, is, refl), subst T (sym is.accepted) (sym (over_puts-none places)))

-- none of the ways to take a packet at once takes it
pub none_takes : (direct short held : Bool) → direct ≡ false → short ≡ false → held ≡ false → (direct || short || held) ≡ false
none_takes false false false e f g = refl
none_takes false false true e f g = cc
none_takes false true held e f g = cc
none_takes true short held e f g = cc

-- a message has a status byte
some_whole : (status : ℕ) (others : List ℕ) → 0 < length (status ∷ others)
some_whole status others = omega arith

pub some_lowered : (m : LoweredMessage) → 0 < length (lowered_bytes m)
some_lowered m = some_whole m.status (m.first ∷ option_to_list m.second)

-- without it, a data byte
some_bytes : (is_running : Bool) (status first : ℕ) (second : Option ℕ)
    → 0 < length (unless_running is_running status (first ∷ option_to_list second))
some_bytes true status first second = omega arith
some_bytes false status first second = omega arith

pub some_shortened : (m : ShortenedMessage) → 0 < length (shortened_bytes m)
some_shortened m = some_bytes m.is_running m.status m.first m.second

-- What is done with one packet.
use Rattle.std.proofs.Common.{◌≡◌, ℕ, Bool, true, false, List, [], ◌++◌, Option, None, Some, refl, ap, sym, subst}
use Rattle.std.specs.Prelude.{Result, Ok, Err}
use Rattle.std.specs.Option.{option_to_list}
use Rattle.packet_words.specs.declared.words.Order.{Order}
use Rattle.ump_grammar.specs.declared.packet.Packet.{Packet}
use Rattle.ump_grammar.specs.Replies.{AddsPackets}
use Rattle.listing_terms.specs.declared.listed.BadStep.{BadStep}
use Rattle.pass_loop.specs.Pass.{Takes}
use Rattle.pass_loop.specs.Places.{Places, Puts}
use Rattle.pass_loop.specs.Put.{Put}
use Rattle.pass_loop.specs.ForProofs.PutLaws.{stops_more, then_puts}
use Rattle.pass_loop.specs.declared.ends.RunEnd.{RunEnd}
use Rattle.pass_loop.specs.declared.ends.RunEnd.TheVariants.{Refused}
use Rattle.listing_lines.specs.Lines.{line_puts}
use Rattle.listing_lines.specs.Refusal.{reason_of, refusal_by}
use Rattle.ump_endpoint.specs.Held.{EndpointState, refusal_in, replies_in, taken_by, taken_in}
use Rattle.ump_endpoint.specs.declared.taken.Taken.{Taken}
use Rattle.endpoint_pass.specs.Answering.{outcome_lines}
use Rattle.endpoint_pass.specs.ForProofs.Taking.{PutsPackets, TakesPacket, lines_in}
use Rattle.endpoint_pass.proofs.ReplyLaws.{can_be_written}

abbrev is_taken : Result Taken BadStep → Bool
is_taken (Ok taken) = true
is_taken (Err bad) = false

abbrev taken_or : Taken → Result Taken BadStep → Taken
taken_or other (Ok taken) = taken
taken_or other (Err bad) = other

abbrev reason_in : Result Taken BadStep → Option BadStep
reason_in (Ok taken) = None
reason_in (Err bad) = Some bad

taken_is : (refusal : Option BadStep) (all taken : Taken) → Ok taken ≡ taken_by refusal all → (refusal ≡ None) × (taken ≡ all)
taken_is None all taken is = (refl, ap (taken_or all) is)
taken_is (Some bad) all taken is = absurd (let e : true ≡ false = ap is_taken is in cc)

refused_is : (refusal : Option BadStep) (all : Taken) (bad : BadStep) → Err bad ≡ taken_by refusal all → refusal ≡ Some bad
refused_is None all bad is = absurd (let e : false ≡ true = ap is_taken is in cc)
refused_is (Some why) all bad is = sym (ap reason_in is)

module _ (order : Order) (held : EndpointState) (offset : ℕ) (packet : Packet) where
  abbrev lines : List Put
  lines = lines_in held offset packet

  abbrev TakesBy : List Put → Places → Places → Result (Unit {0}) RunEnd → Option BadStep → Type 0
  TakesBy written old new result refusal = Takes (refusal_by refusal offset) (written ++ lines) old new result

  pub taken_puts : (taken : Taken) (old mid new : Places) (result : Result (Unit {0}) RunEnd) → Ok taken ≡ taken_in held offset packet
      → PutsPackets order (replies_in held packet) old mid (Ok tt)
      → Puts (outcome_lines offset packet taken.outcome ++ line_puts (option_to_list taken.listed)) mid new result
      → TakesPacket order held offset packet old new result
  taken_puts taken old mid new result is out puts =
      let fine = taken_is (refusal_in held packet) _ taken is in
      let L : Taken → Type 0 = λ t. Puts (outcome_lines offset packet t.outcome ++ line_puts (option_to_list t.listed)) mid new result in (
        out.0 ++ lines,
        (out.0, out.1, refl),
        subst (TakesBy out.0 old new result) (sym fine.0) (then_puts out.0 lines old mid new result out.2 (subst L fine.1 puts)),
      )

  pub replies_fail : (taken : Taken) (old mid : Places) (end : RunEnd) → Ok taken ≡ taken_in held offset packet
      → PutsPackets order (replies_in held packet) old mid (Err end)
      → TakesPacket order held offset packet old mid (Err end)
  replies_fail taken old mid end is out =
      let fine = taken_is (refusal_in held packet) _ taken is in (
        out.0 ++ lines,
        (out.0, out.1, refl),
        subst (TakesBy out.0 old mid (Err end)) (sym fine.0) (stops_more out.0 lines end old mid out.2),
      )

  pub packet_refused : (bad : BadStep) (words : List ℕ) (s : Places) → Err bad ≡ taken_in held offset packet
      → AddsPackets (replies_in held packet) [] words
      → TakesPacket order held offset packet s s (Err (Refused (reason_of bad) offset))
  packet_refused bad words s is adds =
      let written = can_be_written order (replies_in held packet) [] words adds in (
        written.0 ++ lines,
        (written.0, written.1, refl),
        subst (TakesBy written.0 s s (Err (Refused (reason_of bad) offset))) (sym (refused_is (refusal_in held packet) _ bad is))
            (refl, refl),
      )

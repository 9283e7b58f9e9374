use Rattle.std.proofs.Common.{◌≡◌, ◌≤◌, ◌∙◌, ℕ, List, length, refl, ap, sym, subst, arith}
use Rattle.std.specs.Prelude.{Result, Ok, Err}
use Rattle.std.specs.List.{concat}
use Rattle.usb_midi1.specs.Held.{PackerState, step_in}
use Rattle.midi1_bytes.specs.Steps.{Step}
use Rattle.c_answers.specs.Lines.{listed_line}
use Rattle.c_answers.specs.Outcomes.{outcome_of}
use Rattle.c_answers.specs.declared.outcome.ByteOutcome.{ByteOutcome}
use Rattle.c_answers.specs.declared.status.Status.{Status}
use Rattle.c_answers.specs.declared.status.Status.TheVariants as statuses
use Rattle.c_streams.specs.Readers.{Reads}
use Rattle.c_streams.specs.Usb.{events}
use Rattle.c_streams.proofs.PackedLaws.{outcome_in, packed_fits, refused, shown}
use Rattle.c_streams.proofs.usb.CUsbByteReader.take.Goals as goal
use Rattle.c_streams.proofs.usb.CUsbByteReader.take.Goals.{in-Ok, in-Err}

pub put_events-requires-clause-fits : goal.put_events-requires-clause-fits
put_events-requires-clause-fits c =
    let packer = c.self.inside.packer in
    let stays = c.exclusives_stay_within_their_limit.ensures packer.parsing c.args.offset c.args.byte c.self.invariant.3 in
    let short = packed_fits packer.cable packer.parsing.room (step_in packer c.args.offset c.args.byte) (omega arith) stays.completed in
    let same : packer.parsing.room ≡ c.args.self.now.parsing.room = ap (λ (p : PackerState). p.parsing.room) c.self.view_is in
    let E : List (List ℕ) → Type 0 = λ events. length (concat events) ≤ length c.args.buffer.now in
    subst E (sym c.in-Ok.ensures.answer.events) (omega (arith, short, same))

alike : (packer self : PackerState) (byte offset : ℕ) (old new buffer : List ℕ) (result answer : Result ByteOutcome Status)
    → packer ≡ self → answer ≡ result → buffer ≡ new → Reads events packer byte offset old result new
    → Reads events self byte offset old answer buffer
alike packer self byte offset old new buffer result answer e f g reads =
    let A : PackerState → Type 0 = λ p. Reads events p byte offset old answer buffer in
    let B : Result ByteOutcome Status → Type 0 = λ r. Reads events packer byte offset old r buffer in
    let C : List ℕ → Type 0 = λ b. Reads events packer byte offset old result b in
    subst A e (subst B (sym f) (subst C (sym g) reads))

pub returns-clause-answer : goal.returns-clause-answer
returns-clause-answer c =
    let packer = c.self.inside.packer in
    let step : Step = step_in packer c.args.offset c.args.byte in
    let old = c.args.buffer.now in
    elim c.match-byte.branch [
      | in-Ok w ↦
          let one = w.in-Ok.packed in
          let outcome : w.of.result ≡ outcome_in one c.args.offset =
          w.of.ensures ∙ (λ i. outcome_of c.args.offset (w.put_events.ensures.count i) ((w.listed.ensures ∙ ap listed_line w.first.ensures) i)
          ((w.listed-in-Ok.ensures ∙ ap listed_line w.second.ensures) i)) in
          alike packer c.args.self.now c.args.byte c.args.offset old w.put_events.new.buffer c.match-byte.buffer
          (Ok (outcome_in one c.args.offset)) c.match-byte.result c.self.view_is (w.result-is ∙ ap Ok outcome) w.buffer-is
          (shown packer.cable c.args.offset step one old w.put_events.new.buffer w.in-Ok.ensures.answer w.put_events.ensures.written)
      | in-Err w ↦
          alike packer c.args.self.now c.args.byte c.args.offset old old c.match-byte.buffer (Err statuses.ExclusiveTooLong)
          c.match-byte.result c.self.view_is w.result-is w.buffer-is (refused step w.in-Err.ensures.answer, refl)
    ]

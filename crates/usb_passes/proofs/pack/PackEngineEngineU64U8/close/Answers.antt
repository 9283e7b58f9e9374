use Rattle.std.proofs.Common.{ℕ, ap, ◌∙◌}
use Rattle.std.specs.Option.{option_map}
use Rattle.midi1_bytes.specs.Parsing.{open_of}
use Rattle.midi1_bytes.specs.Stream.{Open}
use Rattle.pass_loop.specs.Bytes.{bytes_read}
use Rattle.midi_meaning.specs.StepListing.{kinds_at_end}
use Rattle.usb_midi1.specs.Held.{PackerState}
use Rattle.listing_lines.specs.Lines.{line_puts}
use Rattle.usb_passes.specs.Pack.{open_lines}
use Rattle.usb_passes.proofs.pack.PackEngineEngineU64U8.close.Goals as goal

pub returns : goal.returns
returns g c = λ first past holds.
    let packer : PackerState = c.args.self.now.packer in
    let room : ℕ = first.packer.parsing.room in
    let cable : ℕ = first.packer.cable in (
      open_lines packer.cable (kinds_at_end (option_map (λ (begun : Open). (begun.start, begun.kind)) (open_of packer.parsing))),
      ap (λ (p : PackerState). open_lines p.cable
          (kinds_at_end (option_map (λ (begun : Open). (begun.start, begun.kind)) (open_of p.parsing))))
          holds.packer_is
          ∙ ap line_puts (c.packed_bytes_are_the_definition.ensures.end room cable (bytes_read past)),
      c.put_open.ensures,
    )

-- What a packer holds and answers is the definition that looks back over the bytes.
use Rattle.std.proofs.Common.{length, map, ap, subst, Option}
use Rattle.std.specs.Option.{option_map}
use Rattle.midi1_bytes.specs.Laws.{ParsedBytesAreTheDefinition}
use Rattle.midi1_bytes.specs.Parsing.{Parsing}
use Rattle.midi1_bytes.specs.Steps.{Step}
use Rattle.midi1_bytes.specs.Stream.{Open}
use Rattle.midi_meaning.specs.StepListing.{kinds_at_end, line_up}
use Rattle.usb_midi1.specs.Held.{PackerState}
use Rattle.usb_midi1.specs.Laws.{PackedBytesAreTheDefinition}
use Rattle.usb_midi1.specs.Packed.{PacksStep}

pub packed_is : ParsedBytesAreTheDefinition → PackedBytesAreTheDefinition
packed_is parsed =
    record {
      new = λ room cable. let with : Parsing → PackerState = λ parsing. record { cable = cable; parsing = parsing } in
          ap with (parsed.new room);
      answer = λ room cable past byte result packs.
          let P : Step → Type 0 = λ step. PacksStep cable (length past) step result in
          subst P (parsed.step room past byte) packs;
      after = λ room cable past byte.
          let with : Parsing → PackerState = λ parsing. record { cable = cable; parsing = parsing } in
          ap with (parsed.after room past byte);
      end = λ room cable past.
          ap (λ (o : Option Open). map (line_up cable) (kinds_at_end (option_map (λ (begun : Open). (begun.start, begun.kind)) o)))
          (parsed.end room past);
    }

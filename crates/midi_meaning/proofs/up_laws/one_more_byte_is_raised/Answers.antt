use Rattle.std.proofs.Common.{◌∙◌, ap, sym, [], ◌∷◌}
use Rattle.std.specs.List.{fold}
use Rattle.std.specs.Option.{option_to_list}
use Rattle.std.proofs.lemmas.List.{reverse-append}
use Rattle.midi1_bytes.specs.Steps.{completed_by}
use Rattle.midi_meaning.specs.Messages.{meaning1, step1}
use Rattle.midi_meaning.specs.Raising.{packets_up}
use Rattle.midi_meaning.specs.StepListing.{lines_up}
use Rattle.midi_meaning.specs.Back.{back}
use Rattle.midi_meaning.proofs.ByteRooms.{step_in_room}
use Rattle.midi_meaning.proofs.Up.{meaning1-more}
use Rattle.midi_meaning.proofs.up_laws.one_more_byte_is_raised.Goals as goal

pub returns : goal.returns
returns c = record {
  packets = λ paired room group bytes byte. ap (packets_up paired room group) (reverse-append bytes (byte ∷ []));
  lines = λ paired room group bytes byte. ap (lines_up paired room group) (reverse-append bytes (byte ∷ []));
  pieces = λ paired room group bytes byte. ap (back paired room group) (reverse-append bytes (byte ∷ []));
  meaning = meaning1-more;
  meaning_in_room =
      λ paired room past byte a. meaning1-more paired past byte
      ∙ ap (λ step. fold (step1 paired) (meaning1 paired past) (option_to_list (completed_by step))) (sym (step_in_room room past byte a));
}

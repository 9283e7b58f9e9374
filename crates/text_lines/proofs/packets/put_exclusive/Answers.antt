use Rattle.std.proofs.Common.{◌++◌, codes, decimal, ap, ◌∙◌}
use Rattle.text_lines.specs.Fields.{hex_bytes}
use Rattle.text_lines.specs.PacketLines.{form_word}
use Rattle.text_lines.proofs.Pieces.{three_fields}
use Rattle.text_lines.proofs.packets.put_exclusive.Goals as goal

pub returns-clause-text : goal.returns-clause-text
returns-clause-text c =
    let line = c.args.line.now in
    c.put_hex_bytes.ensures.text
    ∙ ap (λ bytes. c.put_text.new.line ++ hex_bytes bytes) c.as_slice.ensures.value
    ∙ ap (λ l. l ++ hex_bytes c.args.bytes.now) c.put_text.ensures
    ∙ ap (λ l. (l ++ codes " bytes=") ++ hex_bytes c.args.bytes.now) c.put_word_field.ensures.text
    ∙ ap (λ word. (((c.put_field.new.line ++ codes " form=") ++ word) ++ codes " bytes=") ++ hex_bytes c.args.bytes.now)
    c.form_name.ensures.word
    ∙ ap (λ l. (((l ++ codes " form=") ++ form_word c.args.form) ++ codes " bytes=") ++ hex_bytes c.args.bytes.now) c.put_field.ensures.text
    ∙ ap (λ g. (((((line ++ codes "exclusive group=") ++ decimal g) ++ codes " form=") ++ form_word c.args.form) ++ codes " bytes=")
    ++ hex_bytes c.args.bytes.now)
    c.get.ensures.value
    ∙ three_fields line (codes "exclusive group=") (decimal c.args.group) (codes " form=") (form_word c.args.form) (codes " bytes=")
    (hex_bytes c.args.bytes.now)

-- A message in several packets (M2-104-UM, system exclusive and stream messages).
use Rattle.std.specs.Prelude.{ℕ, ◌+◌, ◌==◌, if◌then◌else◌}
use Rattle.voice_messages.specs.declared.voice2.Form.{Form}
use Rattle.voice_messages.specs.declared.voice2.Form.TheVariants as form

-- the form of packet k, counted from 0, of this many
abbrev pub form_at : ℕ → ℕ → Form
form_at count k =
    if count == 1 then form.Complete else (if k == 0 then form.Start else (if k + 1 == count then form.End else form.Continue))

-- What the End of an exclusive answers: the joined bytes between F0 and F7, which are data bytes.
use Rattle.std.proofs.Common.{ℕ, ◌≡◌, ◌<◌, ◌≤◌, ap, List, ◌++◌, length, Option, Some}
use Rattle.std.proofs.lemmas.Bool.{le-leb}
use Rattle.std.proofs.lemmas.List.Elements.{All-append}
use Rattle.std.specs.Option.{option_map}
use Rattle.voice_messages.specs.declared.voice2.Form.TheVariants as form
use Rattle.sysex_groups.specs.Exclusives.{IsData, IsExclusive, framed, whole}
use Rattle.sysex_groups.specs.Table.{answer_of}

pub end-answers : (room start : ℕ) (begun : Option ℕ) (before bytes all : List ℕ) → begun ≡ Some start → length (before ++ bytes) ≤ room
    → all ≡ framed (before ++ bytes) →
    whole all ≡ answer_of (Some room) (option_map (λ offset. record { start = offset; bytes = before }) begun) form.End bytes
end-answers room start begun before bytes all is fitting joins = rw (is, le-leb (length (before ++ bytes)) room fitting) (ap whole joins)

pub end-data : (before bytes all : List ℕ) → all ≡ framed (before ++ bytes) → IsData before → IsData bytes → IsExclusive all
end-data before bytes all joins older newer = (before ++ bytes, joins, All-append (λ byte. byte < 128) before bytes older newer)

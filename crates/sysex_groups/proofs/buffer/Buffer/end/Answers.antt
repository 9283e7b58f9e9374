use Rattle.std.proofs.Common.{◌≡◌, ◌∙◌, ◌++◌, ◌≤◌, ◌+◌, sym, List, ℕ, refl, drop, length, arith, length-append, length-drop}
use Rattle.std.proofs.lemmas.Bool.{ltb-false}
use Rattle.sysex_groups.specs.Exclusives.{framed}
use Rattle.sysex_groups.proofs.DataLaws.{end-answers, end-data}
use Rattle.sysex_groups.proofs.buffer.Buffer.end.Goals as goal

pub returns : goal.returns
returns c =
    let buffer = c.args.self.now in
    let before : List ℕ = drop 1 buffer.bytes.items in
    let bytes : List ℕ = c.args.bytes.now in
    let joins : c.as_slice.result.now ≡ framed (before ++ bytes) = c.as_slice.ensures.value ∙ c.close.ensures.items in
    let fitting : length (before ++ bytes) ≤ buffer.room =
    omega (
      arith,
      length-append before bytes,
      length-drop 1 buffer.bytes.items,
      ltb-false (buffer.room + 1) (length buffer.bytes.items + length bytes) (sym c.passes_room-passed.ensures ∙ c.if-passed.false),
    ) in (
      (refl, (λ _. tt), refl),
      record {
        answer = end-answers buffer.room c.in-Some.field-0 buffer.start before bytes c.as_slice.result.now c.in-Some.is fitting joins;
        data_bytes =
            end-data before bytes c.as_slice.result.now joins (buffer.data_bytes c.in-Some.field-0 c.in-Some.is) c.requires.data_bytes;
        after = tt;
      },
    )

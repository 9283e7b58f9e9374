-- Bytes that are taken one after another.
use Rattle.std.proofs.Common.{ℕ, ◌≡◌, ◌≤◌, ◌<◌, ◌+◌, ◌*◌, ◌-◌, ◌%◌, ◌^◌, ◌∙◌, refl, ap, sym, subst, arith, false}
use Rattle.std.proofs.Common.{List, [], ◌∷◌, ◌++◌, length, take, drop}
use Rattle.std.proofs.lemmas.List.{drop-drop}
use Rattle.std.specs.Prelude.{slice_index}
use Rattle.up_translator.specs.Held.{KeepsAfter, UpState, step_in, up_after}
use Rattle.c_answers.specs.Blocks.{is_full, nothing_taken, with_item}
use Rattle.c_answers.specs.Fronts.{with_front}
use Rattle.c_answers.specs.Outcomes.{items_of}
use Rattle.c_answers.specs.Within.{ExclusivesStayWithinTheirLimit}
use Rattle.c_answers.specs.declared.block.Block.{Block}
use Rattle.c_answers.specs.declared.status.Status.{Status}
use Rattle.c_answers.specs.declared.outcome.ByteOutcome.{ByteOutcome}
use Rattle.c_translators.specs.ByteBlocks.{RefusesByte, TakesByte, TakesRun, bytes}
use Rattle.c_translators.specs.Up.{IsAccepted, IsSound, most_words, outcome_shown}
use Rattle.c_answers.proofs.BlockLaws as laws
use Rattle.c_answers.proofs.FrontLaws.{written_behind}
use Rattle.c_translators.proofs.UpLaws.{refused_after, sound_after, stays_within}

-- the first of some bytes, as the list of one
pub first_byte : (bytes : List ℕ) → 0 < length bytes → take 1 bytes ≡ slice_index bytes 0 ∷ []
first_byte [] some = absurd (omega (arith, some))
first_byte (byte ∷ more) some = refl

-- the first of the bytes at the front, and the others
first_of : (byte : ℕ) (more all : List ℕ) → byte ∷ more ≡ take (length (byte ∷ more)) all → byte ∷ [] ≡ take 1 all
first_of byte more [] is = absurd (omega (arith, ap length is))
first_of byte more (first ∷ all) is = ap (take 1) is

rest_of : (byte : ℕ) (more all : List ℕ) → byte ∷ more ≡ take (length (byte ∷ more)) all → more ≡ take (length more) (drop 1 all)
rest_of byte more [] is = absurd (omega (arith, ap length is))
rest_of byte more (first ∷ all) is = ap (drop 1) is

-- a byte that is accepted is taken with its item
pub byte_taken : (up : UpState) (byte offset : ℕ) (old : List ℕ) (outcome : ByteOutcome) (new : List ℕ) (after : UpState)
    (accepted : IsAccepted up byte offset old outcome new) → after ≡ up_after up offset byte →
    TakesByte up offset (byte ∷ []) accepted.written.words.words (items_of outcome) after
byte_taken up byte offset old outcome new after accepted after_is =
    record {
      byte = byte;
      raised = accepted.raised;
      accepts = accepted.accepts;
      keeps = accepted.keeps;
      encoded = accepted.written.words.encoded;
      bytes_are = refl;
      outcomes_are = ap items_of (accepted.written.shown
          ∙ ap (λ n. outcome_shown offset n accepted.raised) accepted.written.words.count_is);
      after_is = after_is;
    }

-- ---- so far

-- a buffer that was large enough stays so, and the translator sound
abbrev pub Stays : UpState → UpState → Type 0
Stays up held = (most_words held ≡ most_words up) × IsSound held

abbrev pub AreSoFar : UpState → ℕ → List ℕ → List ℕ → List ByteOutcome → Block → ℕ → UpState → List ℕ → List ByteOutcome → Type 0
AreSoFar up offset input old old_outcomes block next now words outcomes =
    laws.AreSoFar bytes (Stays up) up offset input old old_outcomes block next now words outcomes

pub none_yet : (up : UpState) (offset : ℕ) (input old : List ℕ) (old_outcomes : List ByteOutcome) → IsSound up
    → AreSoFar up offset input old old_outcomes nothing_taken offset up old old_outcomes
none_yet up offset input old old_outcomes sound = laws.none_yet bytes (Stays up) up offset input old old_outcomes (refl, sound)

-- a byte keeps what stays
stays_after : ExclusivesStayWithinTheirLimit → (up now : UpState) (offset byte : ℕ) (after : UpState) → Stays up now
    → KeepsAfter now.holding (step_in now offset byte) → after ≡ up_after now offset byte → Stays up after
stays_after law up now offset byte after stays keeps is =
    subst (Stays up) (sym is) (
      (stays_within law now offset byte stays.1.within).0 ∙ stays.0,
      sound_after law now offset byte stays.1 keeps,
    )

module _ (law : ExclusivesStayWithinTheirLimit) (up : UpState) (offset : ℕ) (input old : List ℕ) (old_outcomes : List ByteOutcome) where
  -- one more byte, with what it writes in both buffers
  one_more : (block : Block) (next : ℕ) (now : UpState) (words : List ℕ) (outcomes : List ByteOutcome)
      (are : AreSoFar up offset input old old_outcomes block next now words outcomes) (byte : ℕ) (put : List ℕ)
      (items : List ByteOutcome) (rest : List ℕ) (rest_items : List ByteOutcome) (after : UpState)
      → byte ∷ [] ≡ take 1 (drop block.taken input) → 1 ≤ length input - block.taken →
      is_full bytes old old_outcomes are.progress ≡ false → TakesByte now next (byte ∷ []) put items after → Stays up after →
      rest ≡ with_front put (drop block.written words) → rest_items ≡ with_front items (drop block.items outcomes) →
      AreSoFar up offset input old old_outcomes (with_item block 1 (length put) (length items)) ((next + 1) % 2 ^ 64) after
      (take block.written words ++ rest) (take block.items outcomes ++ rest_items)
  one_more block next now words outcomes are byte put items rest rest_items after byte_is some full takes stays rest_is items_is =
      let told : block.items ≡ length are.progress.items = ap (λ (b : Block). b.items) are.block_is in
      laws.one_more bytes (Stays up) up offset input old old_outcomes block next now words outcomes are (byte ∷ []) put items (length put) rest
      (take block.items outcomes ++ rest_items) after byte_is (omega (arith, some)) full refl takes refl rest_is
      (written_behind are.progress.items items old_outcomes outcomes rest_items block.items told are.items_are items_is) stays

  -- the bytes that a call takes at once
  pub run_more : (run : List ℕ) (block : Block) (next : ℕ) (now : UpState) (words : List ℕ) (outcomes : List ByteOutcome)
      → AreSoFar up offset input old old_outcomes block next now words outcomes → (put : List ℕ) (items : List ByteOutcome) (rest : List ℕ)
      (rest_items : List ByteOutcome) (after : UpState)
      → run ≡ take (length run) (drop block.taken input) → length run ≤ length input - block.taken →
      (1 < length run → next + length run < 2 ^ 64) → 0 < length run → most_words now ≤ length old - block.written →
      1 ≤ length old_outcomes - block.items → TakesRun now next run put items after →
      rest ≡ with_front put (drop block.written words) → rest_items ≡ with_front items (drop block.items outcomes) →
      AreSoFar up offset input old old_outcomes (with_item block (length run) (length put) (length items))
      ((next + length run) % 2 ^ 64) after (take block.written words ++ rest) (take block.items outcomes ++ rest_items)
  run_more [] block next now words outcomes are put items rest rest_items after run_is there wrap some room item_room takes rest_is items_is =
      absurd (omega (arith, some))
  run_more (byte ∷ []) block next now words outcomes are put items rest rest_items after run_is there wrap some room item_room takes rest_is
      items_is =
      let full = laws.room_left bytes (Stays up) up offset input old old_outcomes block next now words outcomes are room item_room in
      one_more block next now words outcomes are byte put items rest rest_items after run_is (omega (arith, there)) full takes
      (stays_after law up now next takes.byte after are.keeps takes.keeps takes.after_is) rest_is items_is
  run_more (byte ∷ second ∷ more) block next now words outcomes are put items rest rest_items after run_is there wrap some room item_room
      takes rest_is items_is =
      let full = laws.room_left bytes (Stays up) up offset input old old_outcomes block next now words outcomes are room item_room in
      let silent = takes.0 in
      let mid : UpState = up_after now next byte in
      let stays = stays_after law up now next silent.byte mid are.keeps silent.keeps silent.after_is in
      let first = first_of byte (second ∷ more) (drop block.taken input) run_is in
      let one : 1 ≤ length input - block.taken = omega (arith, there) in
      let step =
      laws.one_silent bytes (Stays up) up offset input old old_outcomes block next now words outcomes are (byte ∷ []) mid first one full refl
      silent stays in
      let block1 : Block = record {
        taken = block.taken + 1;
        written = block.written;
        items = block.items;
        refused = block.refused;
        need = block.need;
        need_items = block.need_items;
      } in
      let e_written : block.written + 0 ≡ block.written = omega arith in
      let e_items : block.items + 0 ≡ block.items = omega arith in
      let same1 : with_item block 1 0 0 ≡ block1 = λ i. record {
        taken = block.taken + 1;
        written = e_written i;
        items = e_items i;
        refused = block.refused;
        need = block.need;
        need_items = block.need_items;
      } in
      let within : next + length (byte ∷ second ∷ more) < 2 ^ 64 = wrap (omega arith) in
      let at : (next + 1 * 1) % 2 ^ 64 ≡ next + 1 = omega (arith, within) in
      let are1 : AreSoFar up offset input old old_outcomes block1 (next + 1) mid words outcomes =
      subst (λ n. AreSoFar up offset input old old_outcomes block1 n mid words outcomes) at
      (subst (λ b. AreSoFar up offset input old old_outcomes b ((next + 1 * 1) % 2 ^ 64) mid words outcomes) same1 step) in
      let run1 : second ∷ more ≡ take (length (second ∷ more)) (drop (block.taken + 1) input) =
      rest_of byte (second ∷ more) (drop block.taken input) run_is
      ∙ ap (take (length (second ∷ more))) (drop-drop 1 block.taken input) in
      let room1 : most_words mid ≤ length old - block.written = omega (arith, room, stays.0, are.keeps.0) in
      let all =
      run_more (second ∷ more) block1 (next + 1) mid words outcomes are1 put items rest rest_items after run1 (omega (arith, there))
      (λ longer. omega (arith, within)) (omega arith) room1 item_room takes.1 rest_is items_is in
      let e_taken : block.taken + 1 + length (second ∷ more) ≡ block.taken + length (byte ∷ second ∷ more) = omega arith in
      let e_next : next + 1 + length (second ∷ more) ≡ next + length (byte ∷ second ∷ more) = omega arith in
      let S : ℕ → ℕ → Type 0 =
      λ t n. AreSoFar up offset input old old_outcomes
      (record {
        taken = t;
        written = block.written + length put;
        items = block.items + length items;
        refused = block.refused;
        need = block.need;
        need_items = block.need_items;
      })
      (n % 2 ^ 64) after (take block.written words ++ rest) (take block.items outcomes ++ rest_items) in
      subst (λ t. S t (next + length (byte ∷ second ∷ more))) e_taken
      (subst (λ n. S (block.taken + 1 + length (second ∷ more)) n) e_next all)

-- a byte that is refused keeps what stays
pub refused_keeps : ExclusivesStayWithinTheirLimit → (up now : UpState) (offset : ℕ) (own : List ℕ) (why : Status) (after : UpState)
    → Stays up now → RefusesByte now offset own why after → Stays up after
refused_keeps law up now offset own why after stays refuses =
    stays_after law up now offset refuses.byte after stays refuses.keeps
    (refuses.after_is ∙ sym (refused_after now offset refuses.byte refuses.step refuses.refused))

-- What some bytes begin with, taken at once, is what is taken byte by byte.
use Rattle.std.proofs.Common.{◌≡◌, ◌<◌, ◌≤◌, ◌+◌, ◌-◌, ℕ, List, Option, [], ◌∷◌, ◌++◌, Some, None, Bool, true, false, cond}
use Rattle.std.proofs.Common.{ap, arith, refl, sym, subst, ◌∙◌, length, suc, take, drop, length-append, slice_index}
use Rattle.std.specs.Prelude.{IfSome, MatchOption}
use Rattle.voice_messages.specs.declared.voice1.Voice1.{Voice1}
use Rattle.std.proofs.lemmas.Bool.{le-leb, ltb-true}
use Rattle.std.proofs.lemmas.List.{append_assoc, append-nil, length-take-le, take-take, take_all}
use lib.Dec.{ltb}
use Rattle.midi1_bytes.specs.declared.spoken.VoiceBytes.{VoiceBytes}
use Rattle.midi1_bytes.specs.Sorts.{one, two, Sort, data_byte, voice_status, exclusive_start, common_status, tune_request}
use Rattle.midi1_bytes.specs.Sorts.{undefined_status, exclusive_end, real_time_status, undefined_real_time, sort_of}
use Rattle.midi1_bytes.specs.Messages.{AreData}
use Rattle.midi1_bytes.specs.Spoken.{voice_in}
use Rattle.midi1_bytes.specs.Stream.{fits}
use Rattle.midi1_bytes.specs.declared.begun.Begun as declared
use Rattle.midi1_bytes.specs.declared.begun.Begun.TheVariants as kind
use Rattle.midi1_bytes.specs.Held.{begun_view, HoldsData, IsKept}
use Rattle.midi1_bytes.specs.Parsing.{Begun, begun_exclusive, Parsing, quiet, AreHeld}
use Rattle.midi1_bytes.specs.Fronts.{IsFront, front_voice, leading_data, voice_from, voice_running, voice_with}
use Rattle.midi1_bytes.proofs.SortLaws.{data_below, data_is}

-- ---- what a parser has at the front

quiet_is : (parsing : Parsing) → parsing.begun ≡ None → quiet parsing.room parsing.running ≡ parsing
quiet_is parsing nothing = ap (λ (b : Option Begun). record { room = parsing.room; running = parsing.running; begun = b }) (sym nothing)

running_is : (parsing : Parsing) (status : ℕ) → parsing.begun ≡ None → parsing.running ≡ Some status
    → quiet parsing.room (Some status) ≡ parsing
running_is parsing status nothing running = ap (quiet parsing.room) (sym running) ∙ quiet_is parsing nothing

-- the first two, and those after them
pub two_and_more : (bytes : List ℕ) → 2 ≤ length bytes
    → bytes ≡ slice_index bytes 0 ∷ slice_index bytes 1 ∷ take (length bytes - 2) (drop 2 bytes)
two_and_more [] long = absurd (omega (arith, long))
two_and_more (byte ∷ []) long = absurd (omega (arith, long))
two_and_more (byte ∷ next ∷ more) long =
    ap (λ (l : List ℕ). byte ∷ next ∷ l) (sym (take_all (length (byte ∷ next ∷ more) - 2) more (omega arith)))

pub three_and_more : (bytes : List ℕ) → 3 ≤ length bytes
    → bytes ≡ slice_index bytes 0 ∷ slice_index bytes 1 ∷ slice_index bytes 2 ∷ take (length bytes - 3) (drop 3 bytes)
three_and_more [] long = absurd (omega (arith, long))
three_and_more (byte ∷ []) long = absurd (omega (arith, long))
three_and_more (byte ∷ next ∷ []) long = absurd (omega (arith, long))
three_and_more (byte ∷ next ∷ third ∷ more) long =
    ap (λ (l : List ℕ). byte ∷ next ∷ third ∷ l) (sym (take_all (length (byte ∷ next ∷ third ∷ more) - 3) more (omega arith)))

-- fewer than two data bytes are none of a message
none_of_one : (sort : Sort) (status byte : ℕ) → voice_with sort status (byte ∷ []) ≡ None
none_of_one (voice_status one) status byte = refl
none_of_one (voice_status two) status byte = refl
none_of_one data_byte status byte = refl
none_of_one exclusive_start status byte = refl
none_of_one (common_status count) status byte = refl
none_of_one tune_request status byte = refl
none_of_one undefined_status status byte = refl
none_of_one exclusive_end status byte = refl
none_of_one real_time_status status byte = refl
none_of_one undefined_real_time status byte = refl

none_of_nothing : (sort : Sort) (status : ℕ) → voice_with sort status [] ≡ None
none_of_nothing (voice_status one) status = refl
none_of_nothing (voice_status two) status = refl
none_of_nothing data_byte status = refl
none_of_nothing exclusive_start status = refl
none_of_nothing (common_status count) status = refl
none_of_nothing tune_request status = refl
none_of_nothing undefined_status status = refl
none_of_nothing exclusive_end status = refl
none_of_nothing real_time_status status = refl
none_of_nothing undefined_real_time status = refl

none_running : (running : Option ℕ) (byte : ℕ) → voice_running running (byte ∷ []) ≡ None
none_running None byte = refl
none_running (Some status) byte = none_of_one (sort_of status) status byte

none_from : (sort : Sort) (running : Option ℕ) (byte : ℕ) → voice_from sort running byte [] ≡ None
none_from data_byte running byte = none_running running byte
none_from (voice_status count) running byte = none_of_nothing (voice_status count) byte
none_from exclusive_start running byte = refl
none_from (common_status count) running byte = refl
none_from tune_request running byte = refl
none_from undefined_status running byte = refl
none_from exclusive_end running byte = refl
none_from real_time_status running byte = refl
none_from undefined_real_time running byte = refl

-- one byte alone is no message
pub none_of_short : (parsing : Parsing) (bytes : List ℕ) → parsing.begun ≡ None → length bytes < 2 → front_voice parsing bytes ≡ None
none_of_short parsing [] nothing short = rw nothing refl
none_of_short parsing (byte ∷ []) nothing short = rw nothing (none_from (sort_of byte) parsing.running byte)
none_of_short parsing (byte ∷ next ∷ more) nothing short = absurd (omega (arith, short))

-- if the first byte is a status byte
pub status_first : (parsing : Parsing) (bytes more : List ℕ) (byte : ℕ) → parsing.begun ≡ None → bytes ≡ byte ∷ more → 128 ≤ byte
    → front_voice parsing bytes ≡ voice_with (sort_of byte) byte more
status_first parsing bytes more byte nothing is above =
    ap (front_voice parsing) is ∙ rw nothing (by_sort (sort_of byte) refl)
  where
    by_sort : (sort : Sort) → sort_of byte ≡ sort → voice_from sort parsing.running byte more ≡ voice_with sort byte more
    by_sort data_byte e = absurd (omega (arith, above, data_below byte e))
    by_sort (voice_status count) e = refl
    by_sort exclusive_start e = refl
    by_sort (common_status count) e = refl
    by_sort tune_request e = refl
    by_sort undefined_status e = refl
    by_sort exclusive_end e = refl
    by_sort real_time_status e = refl
    by_sort undefined_real_time e = refl

-- a status byte with one byte after it is no message
pub none_of_status : (parsing : Parsing) (bytes : List ℕ) → parsing.begun ≡ None → 2 ≤ length bytes → length bytes < 3
    → 128 ≤ slice_index bytes 0 → front_voice parsing bytes ≡ None
none_of_status parsing [] nothing long short above = absurd (omega (arith, long))
none_of_status parsing (byte ∷ []) nothing long short above = absurd (omega (arith, long))
none_of_status parsing (byte ∷ next ∷ []) nothing long short above =
    let more : List ℕ = next ∷ [] in
    status_first parsing (byte ∷ next ∷ []) more byte nothing refl above ∙ none_of_one (sort_of byte) byte next
none_of_status parsing (byte ∷ next ∷ third ∷ more) nothing long short above = absurd (omega (arith, short))

-- if it is a data byte
pub data_first : (parsing : Parsing) (bytes more : List ℕ) (byte : ℕ) (running : Option ℕ) → parsing.begun ≡ None
    → parsing.running ≡ running → bytes ≡ byte ∷ more → byte < 128 → front_voice parsing bytes ≡ voice_running running (byte ∷ more)
data_first parsing bytes more byte running nothing under is below =
    ap (front_voice parsing) is ∙ rw (nothing, data_is byte below, under) refl

-- what is given of the first byte and those after it
pub given_of_status : (parsing : Parsing) (bytes more : List ℕ) (status first second : ℕ) (given : Option (VoiceBytes × ℕ))
    → parsing.begun ≡ None → bytes ≡ status ∷ first ∷ second ∷ more
    → IfSome given (λ g. (room : ℕ) (running : Option ℕ) (more : List ℕ) →
    IsFront (quiet room running) (status ∷ first ∷ second ∷ more) g.0 g.1)
    → IfSome given (λ g. IsFront parsing bytes g.0 g.1)
given_of_status parsing bytes more status first second None nothing is law = tt
given_of_status parsing bytes more status first second (Some given) nothing is law =
    subst (λ (l : List ℕ). IsFront parsing l given.0 given.1) (sym is)
    (subst (λ (p : Parsing). IsFront p (status ∷ first ∷ second ∷ more) given.0 given.1) (quiet_is parsing nothing)
    (law parsing.room parsing.running more))

pub given_of_two : (parsing : Parsing) (bytes more : List ℕ) (first second status : ℕ) (given : Option (VoiceBytes × ℕ))
    → parsing.begun ≡ None → parsing.running ≡ Some status → bytes ≡ first ∷ second ∷ more
    → IfSome given (λ g. (room : ℕ) (more : List ℕ) → IsFront (quiet room (Some status)) (first ∷ second ∷ more) g.0 g.1)
    → IfSome given (λ g. IsFront parsing bytes g.0 g.1)
given_of_two parsing bytes more first second status None nothing running is law = tt
given_of_two parsing bytes more first second status (Some given) nothing running is law =
    subst (λ (l : List ℕ). IsFront parsing l given.0 given.1) (sym is)
    (subst (λ (p : Parsing). IsFront p (first ∷ second ∷ more) given.0 given.1) (running_is parsing status nothing running)
    (law parsing.room more))

pub given_of_one : (parsing : Parsing) (bytes more : List ℕ) (byte status : ℕ) (given : VoiceBytes × ℕ) → parsing.begun ≡ None
    → parsing.running ≡ Some status → bytes ≡ byte ∷ more
    → ((room : ℕ) (more : List ℕ) → IsFront (quiet room (Some status)) (byte ∷ more) given.0 given.1)
    → IsFront parsing bytes given.0 given.1
given_of_one parsing bytes more byte status given nothing running is law =
    subst (λ (l : List ℕ). IsFront parsing l given.0 given.1) (sym is)
    (subst (λ (p : Parsing). IsFront p (byte ∷ more) given.0 given.1) (running_is parsing status nothing running) (law parsing.room more))

-- the message that is told is the one with which the bytes begin
pub told_as : (voice front : Option Voice1) (given : Option (VoiceBytes × ℕ)) → front ≡ voice
    → MatchOption given (voice ≡ None) (λ g. voice ≡ Some (voice_in g.0))
    → MatchOption given (front ≡ None) (λ g. front ≡ Some (voice_in g.0))
told_as voice front None is told = is ∙ told
told_as voice front (Some given) is told = is ∙ told

-- ---- the data bytes of an exclusive

-- with data bytes that its limit allows
pub exclusive_held : (room : ℕ) (running : Option ℕ) (start : ℕ) (before bytes : List ℕ) (offset : ℕ) → AreData bytes
    → length before + length bytes ≤ room
    → AreHeld bytes (record { room = room; running = running; begun = Some (begun_exclusive start before) }) offset
    (record { room = room; running = running; begun = Some (begun_exclusive start (before ++ bytes)) })
exclusive_held room running start before [] offset all_data fits_all =
    ap (λ (bytes : List ℕ). record { room = room; running = running; begun = Some (begun_exclusive start bytes) }) (append-nil before)
exclusive_held room running start before (byte ∷ more) offset all_data fits_all =
    let byte_list : List ℕ = byte ∷ [] in
    let allowed : fits (Some room) (suc (length before)) ≡ true = le-leb _ _ (omega (arith, fits_all)) in
    let longer : length (before ++ byte_list) + length more ≤ room = omega (arith, fits_all, length-append before byte_list) in
    let rest : AreHeld more (record { room = room; running = running; begun = Some (begun_exclusive start (before ++ byte_list)) })
    (offset + 1) (record { room = room; running = running; begun = Some (begun_exclusive start ((before ++ byte_list) ++ more)) }) =
    exclusive_held room running start (before ++ byte_list) more (offset + 1) all_data.1 longer in
    rw (data_is byte all_data.0) (rw allowed (
      refl,
      subst (λ (all : List ℕ). AreHeld more (record { room = room; running = running; begun = Some (begun_exclusive start (before ++ byte_list)) })
          (offset + 1) (record { room = room; running = running; begun = Some (begun_exclusive start all) }))
          (append_assoc before byte_list more) rest,
    ))

-- the first of them that are data bytes
pub leading_are_data : (bytes : List ℕ) → AreData (take (leading_data bytes) bytes)
leading_are_data [] = tt
leading_are_data (byte ∷ more) = which (ltb byte 128) refl (leading_are_data more)
  where
    which : (t : Bool) → ltb byte 128 ≡ t → AreData (take (leading_data more) more)
        → AreData (take (cond t (suc (leading_data more)) 0) (byte ∷ more))
    which true is rest = (ltb-true byte 128 is, rest)
    which false is rest = tt

pub leading_of_all : (bytes : List ℕ) (most : ℕ) → length bytes < most → leading_data bytes ≡ leading_data (take most bytes)
leading_of_all bytes most short = ap leading_data (sym (take_all most bytes (omega (arith, short))))

-- and so are as many of all the bytes
pub leading_within : (bytes : List ℕ) (most count : ℕ) → count ≡ leading_data (take most bytes) → count ≤ most → AreData (take count bytes)
leading_within bytes most count is within =
    subst (λ (taken : List ℕ). AreData taken) (ap (λ (n : ℕ). take n (take most bytes)) (sym is) ∙ take-take count most bytes within)
    (leading_are_data (take most bytes))

first_stays : (items more : List ℕ) → take 1 items ≡ 240 ∷ [] → take 1 (items ++ more) ≡ 240 ∷ []
first_stays [] more framed = absurd cc
first_stays (first ∷ rest) more framed = framed

behind_first : (items more : List ℕ) → take 1 items ≡ 240 ∷ [] → drop 1 (items ++ more) ≡ drop 1 items ++ more
behind_first [] more framed = absurd cc
behind_first (first ∷ rest) more framed = refl

all_are_data : (before more : List ℕ) → AreData before → AreData more → AreData (before ++ more)
all_are_data [] more of_before of_more = of_more
all_are_data (byte ∷ before) more of_before of_more = (of_before.0, all_are_data before more of_before.1 of_more)

size_behind_first : (items : List ℕ) → take 1 items ≡ 240 ∷ [] → length items ≡ suc (length (drop 1 items))
size_behind_first [] framed = absurd cc
size_behind_first (first ∷ rest) framed = refl

-- with as many bytes as its limit leaves
pub exclusive_size : (room start : ℕ) (begun : declared.Begun) (items bytes : List ℕ) (count : ℕ) → begun ≡ kind.Exclusive start
    → IsKept room begun (length items) → count ≤ length bytes → count ≤ room + 1 - length items
    → length items + length (take count bytes) ≤ room + 1
exclusive_size room start begun items bytes count is kept within left =
    let limit : length items ≤ room + 1 = subst (λ (b : declared.Begun). IsKept room b (length items)) is kept in
    let size : length (take count bytes) ≡ count = length-take-le count bytes within in
    omega (arith, limit, size, left)

-- what the parser holds of an open exclusive, with data bytes that its limit allows
pub exclusive_kept : (room start : ℕ) (begun : declared.Begun) (items more new : List ℕ) → begun ≡ kind.Exclusive start
    → take 1 items ≡ 240 ∷ [] → HoldsData begun items → AreData more → length items + length more ≤ room + 1 → new ≡ items ++ more
    → (take 1 new ≡ 240 ∷ []) × IsKept room begun (length new) × HoldsData begun new
exclusive_kept room start begun items more new is framed holds all_data fits_all added =
    let P : List ℕ → Type 0 = λ l. (take 1 l ≡ 240 ∷ []) × IsKept room begun (length l) × HoldsData begun l in
    let Kept : declared.Begun → Type 0 = λ b. IsKept room b (length (items ++ more)) in
    let Holds : declared.Begun → Type 0 = λ b. HoldsData b items → HoldsData b (items ++ more) in
    let kept : Kept (kind.Exclusive start) = omega (arith, fits_all, length-append items more) in
    let holding : Holds (kind.Exclusive start) = λ before.
    subst (λ (l : List ℕ). AreData l) (sym (behind_first items more framed)) (all_are_data (drop 1 items) more before all_data) in
    subst P (sym added) (first_stays items more framed, subst Kept (sym is) kept, subst Holds (sym is) holding holds)

pub exclusive_taken : (room : ℕ) (running : Option ℕ) (start : ℕ) (begun : declared.Begun) (items more new : List ℕ) (old : Parsing)
    → begun ≡ kind.Exclusive start → record { room = room; running = running; begun = begun_view begun items } ≡ old
    → take 1 items ≡ 240 ∷ [] → AreData more → length items + length more ≤ room + 1 → new ≡ items ++ more → (offset : ℕ)
    → AreHeld more old offset (record { room = room; running = running; begun = begun_view begun new })
exclusive_taken room running start begun items more new old is view framed all_data fits_all added offset =
    let holding : Option Begun → Parsing = λ b. record { room = room; running = running; begun = b } in
    let size : length (drop 1 items) + length more ≤ room = omega (arith, fits_all, size_behind_first items framed) in
    let before : holding (Some (begun_exclusive start (drop 1 items))) ≡ old =
    ap (λ (b : declared.Begun). holding (begun_view b items)) (sym is) ∙ view in
    let after : holding (Some (begun_exclusive start (drop 1 items ++ more))) ≡ holding (begun_view begun new) =
    ap (λ (l : List ℕ). holding (Some (begun_exclusive start l))) (sym (behind_first items more framed) ∙ ap (drop 1) (sym added))
    ∙ ap (λ (b : declared.Begun). holding (begun_view b new)) (sym is) in
    subst (λ (p : Parsing). AreHeld more p offset (holding (begun_view begun new))) before
    (subst (λ (p : Parsing). AreHeld more (holding (Some (begun_exclusive start (drop 1 items)))) offset p) after
    (exclusive_held room running start (drop 1 items) more offset all_data size))

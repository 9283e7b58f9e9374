-- What events carry is what they were made of.
use Rattle.std.proofs.Common.{◌≡◌, ◌+◌, ◌*◌, ◌/◌, ◌%◌, ◌<◌, ℕ, List, [], ◌∷◌, ◌++◌, take, Option}
use Rattle.std.proofs.Common.{None, Some, Bool, true, false, refl, ap, sym, ◌∙◌, subst, arith, lit<}
use Rattle.std.specs.Prelude.{◌==◌, if◌then◌else◌, IfSome, reverse, slice_index}
use Rattle.std.specs.List.{AllByRecursion, concat, flat_map}
use Rattle.std.specs.Option.{option_to_list}
use Rattle.std.proofs.lemmas.List.{append_assoc, append-nil}
use Rattle.voice_messages.specs.declared.voice1.Voice1.{Voice1}
use Rattle.voice_messages.specs.declared.voice1.Voice1.TheVariants as voice1
use Rattle.voice_messages.specs.declared.voice1.System.{System}
use Rattle.voice_messages.specs.declared.voice1.System.TheVariants as system
use Rattle.voice_messages.specs.Ranges.{IsVoice1}
use Rattle.midi1_bytes.specs.Answers.{framed}
use Rattle.midi1_bytes.specs.Laws.{CompletedMessagesAreInRange, WrittenMessagesAreReadAgain}
use Rattle.midi1_bytes.specs.Messages.{Message, voice, common, exclusive, real_time, spelled, spelled_voice, spelled_system, IsMessage}
use Rattle.midi1_bytes.specs.Steps.{completed, completed_by, step_of}
use Rattle.midi1_bytes.specs.Stream.{Room}
use Rattle.midi_meaning.specs.UpLaws.{RoomsThatAreNotReachedDoNotMatterInBytes}
use Rattle.midi_meaning.specs.UpRefusal.{AreStepsWithinRoom}
use Rattle.usb_midi1.specs.Codes.{carried_count, is_reserved}
use Rattle.usb_midi1.specs.Laws.{SplitEventsMeanTheBytes}
use Rattle.usb_midi1.specs.Packing.{code_before, event, events_by, exclusive_events, message_events, stream_events, system_code}
use Rattle.usb_midi1.specs.Split.{on_cable, split}

abbrev places : List ℕ → List ℕ
places bytes = slice_index bytes 0 ∷ slice_index bytes 1 ∷ slice_index bytes 2 ∷ []

same_number : (n : ℕ) → (n == n) ≡ true
same_number n = grind arith

concat-then : (xs ys : List (List ℕ)) → concat (xs ++ ys) ≡ concat xs ++ concat ys
concat-then [] ys = refl
concat-then (x ∷ xs) ys = ap (λ zs. x ++ zs) (concat-then xs ys) ∙ sym (append_assoc x (concat xs) (concat ys))

-- a piece on the cable
on-piece : (cable on code : ℕ) (bytes : List ℕ) (pieces : List (ℕ × List ℕ)) → on ≡ cable → is_reserved code ≡ false
    → on_cable cable ((if is_reserved code then [] else (on, take (carried_count code) bytes) ∷ []) ++ pieces)
    ≡ take (carried_count code) bytes ++ on_cable cable pieces
on-piece cable on code bytes pieces is used =
    ap (λ (t : Bool). on_cable cable ((if t then [] else (on, take (carried_count code) bytes) ∷ []) ++ pieces)) used
    ∙ ap (λ n. (if n == cable then take (carried_count code) bytes else []) ++ on_cable cable pieces) is
    ∙ ap (λ (t : Bool). (if t then take (carried_count code) bytes else []) ++ on_cable cable pieces) (same_number cable)

module _ (cable : ℕ) (below : cable < 16) where
  cable-is : (code : ℕ) → code < 16 → (cable * 16 + code) / 16 % 16 ≡ cable
  cable-is code small = omega arith

  code-is : (code : ℕ) → code < 16 → (cable * 16 + code) % 16 ≡ code
  code-is code small = omega arith

  -- an event in front carries its bytes
  event-carries : (code k : ℕ) (bytes rest : List ℕ) → code ≡ k → k < 16 → is_reserved k ≡ false
      → on_cable cable (split (event cable code bytes ++ rest)) ≡ take (carried_count k) (places bytes) ++ on_cable cable (split rest)
  event-carries code k bytes rest is small used =
      let small' : code < 16 = omega arith in
      let same : (cable * 16 + code) % 16 ≡ k = code-is code small' ∙ is in
      let free : is_reserved ((cable * 16 + code) % 16) ≡ false = ap is_reserved same ∙ used in
      on-piece cable ((cable * 16 + code) / 16 % 16) ((cable * 16 + code) % 16) (places bytes) (split rest) (cable-is code small') free
      ∙ ap (λ n. take (carried_count n) (places bytes) ++ on_cable cable (split rest)) same

  voice-carries : (message : Voice1) (rest : List ℕ) → IsVoice1 message
      → on_cable cable (split (concat (message_events cable (voice message)) ++ rest))
      ≡ spelled_voice message ++ on_cable cable (split rest)
  voice-carries (voice1.NoteOff channel note velocity) rest is =
      event-carries ((0x80 + channel) / 16) 8 (spelled_voice (voice1.NoteOff channel note velocity)) rest (omega (arith, is)) (lit< tt) refl
  voice-carries (voice1.NoteOn channel note velocity) rest is =
      event-carries ((0x90 + channel) / 16) 9 (spelled_voice (voice1.NoteOn channel note velocity)) rest (omega (arith, is)) (lit< tt) refl
  voice-carries (voice1.PolyPressure channel note value) rest is =
      event-carries ((0xa0 + channel) / 16) 10 (spelled_voice (voice1.PolyPressure channel note value)) rest (omega (arith, is)) (lit< tt)
      refl
  voice-carries (voice1.Control channel index value) rest is =
      event-carries ((0xb0 + channel) / 16) 11 (spelled_voice (voice1.Control channel index value)) rest (omega (arith, is)) (lit< tt) refl
  voice-carries (voice1.Program channel program) rest is =
      event-carries ((0xc0 + channel) / 16) 12 (spelled_voice (voice1.Program channel program)) rest (omega (arith, is)) (lit< tt) refl
  voice-carries (voice1.Pressure channel value) rest is =
      event-carries ((0xd0 + channel) / 16) 13 (spelled_voice (voice1.Pressure channel value)) rest (omega (arith, is)) (lit< tt) refl
  voice-carries (voice1.Bend channel value) rest is =
      event-carries ((0xe0 + channel) / 16) 14 (spelled_voice (voice1.Bend channel value)) rest (omega (arith, is)) (lit< tt) refl

  system-carries : (message : System) (rest : List ℕ)
      → on_cable cable (split (event cable (system_code message) (spelled_system message) ++ rest))
      ≡ spelled_system message ++ on_cable cable (split rest)
  system-carries (system.Quarter value) rest = event-carries 2 2 (spelled_system (system.Quarter value)) rest refl (lit< tt) refl
  system-carries (system.Position value) rest = event-carries 3 3 (spelled_system (system.Position value)) rest refl (lit< tt) refl
  system-carries (system.Song value) rest = event-carries 2 2 (spelled_system (system.Song value)) rest refl (lit< tt) refl
  system-carries system.Tune rest = event-carries 5 5 (spelled_system system.Tune) rest refl (lit< tt) refl
  system-carries system.Clock rest = event-carries 15 15 (spelled_system system.Clock) rest refl (lit< tt) refl
  system-carries system.Start rest = event-carries 15 15 (spelled_system system.Start) rest refl (lit< tt) refl
  system-carries system.Continue rest = event-carries 15 15 (spelled_system system.Continue) rest refl (lit< tt) refl
  system-carries system.Stop rest = event-carries 15 15 (spelled_system system.Stop) rest refl (lit< tt) refl
  system-carries system.Sensing rest = event-carries 15 15 (spelled_system system.Sensing) rest refl (lit< tt) refl
  system-carries system.Reset rest = event-carries 15 15 (spelled_system system.Reset) rest refl (lit< tt) refl

  -- three bytes of an exclusive, whatever comes after them
  three-carry : (first second third : ℕ) (more rest : List ℕ)
      → on_cable cable (split (event cable (code_before more) (first ∷ second ∷ third ∷ []) ++ rest))
      ≡ first ∷ second ∷ third ∷ [] ++ on_cable cable (split rest)
  three-carry first second third [] rest = event-carries 7 7 (first ∷ second ∷ third ∷ []) rest refl (lit< tt) refl
  three-carry first second third (byte ∷ more) rest = event-carries 4 4 (first ∷ second ∷ third ∷ []) rest refl (lit< tt) refl

  exclusive-carries : (bytes rest : List ℕ)
      → on_cable cable (split (concat (exclusive_events cable bytes) ++ rest)) ≡ bytes ++ on_cable cable (split rest)
  exclusive-carries [] rest = refl
  exclusive-carries (first ∷ []) rest = event-carries 5 5 (first ∷ []) rest refl (lit< tt) refl
  exclusive-carries (first ∷ second ∷ []) rest = event-carries 6 6 (first ∷ second ∷ []) rest refl (lit< tt) refl
  exclusive-carries (first ∷ second ∷ third ∷ more) rest =
      three-carry first second third more (concat (exclusive_events cable more) ++ rest)
      ∙ ap (λ xs. first ∷ second ∷ third ∷ xs) (exclusive-carries more rest)

  message-carries : (message : Message) (rest : List ℕ) → IsMessage message
      → on_cable cable (split (concat (message_events cable message) ++ rest)) ≡ spelled message ++ on_cable cable (split rest)
  message-carries (voice message) rest is = voice-carries message rest is
  message-carries (common message) rest is = system-carries message rest
  message-carries (real_time message) rest is = system-carries message rest
  message-carries (exclusive bytes) rest is = exclusive-carries (framed bytes) rest

  messages-carry : (messages : List Message) → AllByRecursion IsMessage messages
      → on_cable cable (split (concat (flat_map (message_events cable) messages))) ≡ flat_map spelled messages
  messages-carry [] are = refl
  messages-carry (message ∷ messages) are =
      ap (λ xs. on_cable cable (split xs)) (concat-then (message_events cable message) (flat_map (message_events cable) messages))
      ∙ message-carries message (concat (flat_map (message_events cable) messages)) are.0
      ∙ ap (λ xs. spelled message ++ xs) (messages-carry messages are.1)

  -- ---- all on the cable

  abbrev AreOn : List (ℕ × List ℕ) → Type 0
  AreOn pieces = AllByRecursion (λ piece. piece.0 ≡ cable) pieces

  event-on : (code : ℕ) (bytes rest : List ℕ) → code < 16 → AreOn (split rest) → AreOn (split (event cable code bytes ++ rest))
  event-on code bytes rest small on = go (is_reserved ((cable * 16 + code) % 16))
    where
      go : (t : Bool)
          → AreOn ((if t then [] else ((cable * 16 + code) / 16 % 16, take (carried_count ((cable * 16 + code) % 16)) (places bytes)) ∷ [])
          ++ split rest)
      go true = on
      go false = (cable-is code small, on)

  voice-on : (message : Voice1) (rest : List ℕ) → IsVoice1 message → AreOn (split rest)
      → AreOn (split (concat (message_events cable (voice message)) ++ rest))
  voice-on (voice1.NoteOff channel note velocity) rest is on =
      event-on ((0x80 + channel) / 16) (spelled_voice (voice1.NoteOff channel note velocity)) rest (omega (arith, is)) on
  voice-on (voice1.NoteOn channel note velocity) rest is on =
      event-on ((0x90 + channel) / 16) (spelled_voice (voice1.NoteOn channel note velocity)) rest (omega (arith, is)) on
  voice-on (voice1.PolyPressure channel note value) rest is on =
      event-on ((0xa0 + channel) / 16) (spelled_voice (voice1.PolyPressure channel note value)) rest (omega (arith, is)) on
  voice-on (voice1.Control channel index value) rest is on =
      event-on ((0xb0 + channel) / 16) (spelled_voice (voice1.Control channel index value)) rest (omega (arith, is)) on
  voice-on (voice1.Program channel program) rest is on =
      event-on ((0xc0 + channel) / 16) (spelled_voice (voice1.Program channel program)) rest (omega (arith, is)) on
  voice-on (voice1.Pressure channel value) rest is on =
      event-on ((0xd0 + channel) / 16) (spelled_voice (voice1.Pressure channel value)) rest (omega (arith, is)) on
  voice-on (voice1.Bend channel value) rest is on =
      event-on ((0xe0 + channel) / 16) (spelled_voice (voice1.Bend channel value)) rest (omega (arith, is)) on

  system-below : (message : System) → system_code message < 16
  system-below (system.Quarter value) = lit< tt
  system-below (system.Position value) = lit< tt
  system-below (system.Song value) = lit< tt
  system-below system.Tune = lit< tt
  system-below system.Clock = lit< tt
  system-below system.Start = lit< tt
  system-below system.Continue = lit< tt
  system-below system.Stop = lit< tt
  system-below system.Sensing = lit< tt
  system-below system.Reset = lit< tt

  before-below : (more : List ℕ) → code_before more < 16
  before-below [] = lit< tt
  before-below (byte ∷ more) = lit< tt

  exclusive-on : (bytes rest : List ℕ) → AreOn (split rest) → AreOn (split (concat (exclusive_events cable bytes) ++ rest))
  exclusive-on [] rest on = on
  exclusive-on (first ∷ []) rest on = event-on 5 (first ∷ []) rest (lit< tt) on
  exclusive-on (first ∷ second ∷ []) rest on = event-on 6 (first ∷ second ∷ []) rest (lit< tt) on
  exclusive-on (first ∷ second ∷ third ∷ more) rest on =
      event-on (code_before more) (first ∷ second ∷ third ∷ []) (concat (exclusive_events cable more) ++ rest) (before-below more)
      (exclusive-on more rest on)

  message-on : (message : Message) (rest : List ℕ) → IsMessage message → AreOn (split rest)
      → AreOn (split (concat (message_events cable message) ++ rest))
  message-on (voice message) rest is on = voice-on message rest is on
  message-on (common message) rest is on = event-on (system_code message) (spelled_system message) rest (system-below message) on
  message-on (real_time message) rest is on = event-on (system_code message) (spelled_system message) rest (system-below message) on
  message-on (exclusive bytes) rest is on = exclusive-on (framed bytes) rest on

  messages-on : (messages : List Message) → AllByRecursion IsMessage messages
      → AreOn (split (concat (flat_map (message_events cable) messages)))
  messages-on [] are = tt
  messages-on (message ∷ messages) are =
      let P : List ℕ → Type 0 = λ xs. AreOn (split xs) in
      subst P (sym (concat-then (message_events cable message) (flat_map (message_events cable) messages)))
      (message-on message (concat (flat_map (message_events cable) messages)) are.0 (messages-on messages are.1))

-- ---- of a stream

-- the messages that bytes complete within a limit
completed_in : Room → List ℕ → List Message
completed_in room [] = []
completed_in room (byte ∷ past) = completed_in room past ++ option_to_list (completed_by (step_of room past byte))

events-one : (cable : ℕ) (message : Option Message) → events_by cable message ≡ flat_map (message_events cable) (option_to_list message)
events-one cable None = refl
events-one cable (Some message) = sym (append-nil (message_events cable message))

flat_map-then : {A B : Type 0} (f : A → List B) (xs ys : List A) → flat_map f (xs ++ ys) ≡ flat_map f xs ++ flat_map f ys
flat_map-then f [] ys = refl
flat_map-then f (x ∷ xs) ys = ap (λ zs. f x ++ zs) (flat_map-then f xs ys) ∙ sym (append_assoc (f x) (flat_map f xs) (flat_map f ys))

stream-is : (room : Room) (cable : ℕ) (past : List ℕ)
    → stream_events room cable past ≡ flat_map (message_events cable) (completed_in room past)
unfolding completed_in
stream-is room cable [] = refl
stream-is room cable (byte ∷ past) =
    let one : Option Message = completed_by (step_of room past byte) in
    ap (λ xs. xs ++ events_by cable one) (stream-is room cable past)
    ∙ ap (λ xs. flat_map (message_events cable) (completed_in room past) ++ xs) (events-one cable one)
    ∙ sym (flat_map-then (message_events cable) (completed_in room past) (option_to_list one))

within-is : RoomsThatAreNotReachedDoNotMatterInBytes false → (room : ℕ) (past : List ℕ) → AreStepsWithinRoom room past
    → completed_in (Some room) past ≡ completed past
unfolding completed_in
within-is rooms room [] within = refl
within-is rooms room (byte ∷ past) within =
    ap (λ xs. xs ++ option_to_list (completed_by (step_of (Some room) past byte))) (within-is rooms room past within.1)
    ∙ ap (λ step. completed past ++ option_to_list (completed_by step)) (rooms.step room past byte within)

append-all : (xs ys : List Message) → AllByRecursion IsMessage xs → AllByRecursion IsMessage ys → AllByRecursion IsMessage (xs ++ ys)
append-all [] ys p q = q
append-all (x ∷ xs) ys p q = (p.0, append-all xs ys p.1 q)

one-message : (message : Option Message) → IfSome message IsMessage → AllByRecursion IsMessage (option_to_list message)
one-message None is = tt
one-message (Some message) is = (is, tt)

are-messages : CompletedMessagesAreInRange → (room : Room) (past : List ℕ) → AllByRecursion IsMessage (completed_in room past)
unfolding completed_in
are-messages in_range room [] = tt
are-messages in_range room (byte ∷ past) =
    append-all (completed_in room past) (option_to_list (completed_by (step_of room past byte))) (are-messages in_range room past)
    (one-message (completed_by (step_of room past byte)) (in_range room past byte))

all-on : CompletedMessagesAreInRange → (room cable : ℕ) (past : List ℕ) → cable < 16
    → AllByRecursion (λ (piece : ℕ × List ℕ). piece.0 ≡ cable) (split (concat (stream_events (Some room) cable past)))
all-on in_range room cable past below =
    let P : List (List ℕ) → Type 0 = λ xs. AllByRecursion (λ (piece : ℕ × List ℕ). piece.0 ≡ cable) (split (concat xs)) in
    subst P (sym (stream-is (Some room) cable past))
    (messages-on cable below (completed_in (Some room) past) (are-messages in_range (Some room) past))

same-messages : CompletedMessagesAreInRange → RoomsThatAreNotReachedDoNotMatterInBytes false → WrittenMessagesAreReadAgain
    → (room cable : ℕ) (past : List ℕ) → cable < 16 → AreStepsWithinRoom room past
    → completed (reverse (on_cable cable (split (concat (stream_events (Some room) cable past))))) ≡ completed past
same-messages in_range rooms written room cable past below within =
    let messages : List Message = completed_in (Some room) past in
    let are = are-messages in_range (Some room) past in
    let piece : List ℕ = flat_map spelled messages in
    let carried : on_cable cable (split (concat (stream_events (Some room) cable past))) ≡ piece =
    ap (λ xs. on_cable cable (split (concat xs))) (stream-is (Some room) cable past) ∙ messages-carry cable below messages are in
    ap (λ xs. completed (reverse xs)) carried
    ∙ ap completed (sym (append-nil (reverse piece)))
    ∙ (written messages [] are refl).completes
    ∙ within-is rooms room past within

pub split_means : CompletedMessagesAreInRange → RoomsThatAreNotReachedDoNotMatterInBytes false → WrittenMessagesAreReadAgain
    → SplitEventsMeanTheBytes
split_means in_range rooms written =
    record {
      cable = λ room cable past below. all-on in_range room cable past below;
      messages = λ room cable past below within. same-messages in_range rooms written room cable past below within;
    }

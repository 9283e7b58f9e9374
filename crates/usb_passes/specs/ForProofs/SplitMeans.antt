-- What is put for events that are split goes to the lanes and the notes, and is what they carry and the lines of those that carry nothing.
use Rattle.std.proofs.Common.{◌≡◌, ℕ, Bool, true, false, List, [], ◌∷◌, ◌++◌, refl, ap, sym, ◌∙◌, subst}
use Rattle.std.specs.Prelude.{if◌then◌else◌, reverse}
use Rattle.std.specs.List.{flat_map}
use Rattle.std.proofs.lemmas.List.{append-nil, map-append, reverse-append}
use Rattle.std.proofs.lemmas.List.Concat.{flat_map-append}
use Rattle.pass_loop.specs.Named.{AreNamed}
use Rattle.pass_loop.specs.Pass.{ArePut}
use Rattle.pass_loop.specs.Put.{Put, in_lane, in_notes, notes_in, notes_of, pair_of, pairs_in}
use Rattle.usb_midi1.specs.Codes.{is_reserved}
use Rattle.usb_midi1.specs.Events.{carried_by}
use Rattle.usb_midi1.specs.Split.{pieces_of}
use Rattle.usb_midi1.specs.declared.event.Event.{Event}
use Rattle.usb_passes.specs.Events.{events_of}
use Rattle.usb_passes.specs.Split.{event_puts, reserved_lines, reserved_text, splitting}

-- ---- the places

event-named : (item : ℕ × Event) → AreNamed splitting.names (event_puts item)
event-named item = go (is_reserved item.1.code)
  where
    go : (reserved : Bool) →
        AreNamed splitting.names
        (if reserved then in_notes (reserved_text item.0 item.1.cable) ∷ [] else in_lane item.1.cable (carried_by item.1) ∷ [])
    go true = (refl, tt)
    go false = (refl, tt)

pub splits_named : (past : List (ℕ × Event)) (item : ℕ × Event) (puts : List Put) → splitting.IsPut past item puts →
    AreNamed splitting.names puts
splits_named past item puts put =
    let A : List Put → Type 0 = λ ps. AreNamed splitting.names ps in subst A (sym put) (event-named item)

pub none_named : (past : List (ℕ × Event)) (puts : List Put) → splitting.IsPutAtEnd past puts → AreNamed splitting.names puts
none_named past puts put = let A : List Put → Type 0 = λ ps. AreNamed splitting.names ps in subst A (sym put) tt

-- ---- what they mean

event-pairs : (item : ℕ × Event) → pairs_in (event_puts item) ≡ pieces_of item.1
event-pairs item = go (is_reserved item.1.code)
  where
    go : (reserved : Bool) →
        pairs_in (if reserved then in_notes (reserved_text item.0 item.1.cable) ∷ [] else in_lane item.1.cable (carried_by item.1) ∷ [])
        ≡ (if reserved then [] else (item.1.cable, carried_by item.1) ∷ [])
    go true = refl
    go false = refl

event-notes : (item : ℕ × Event) → notes_in (event_puts item) ≡ reserved_lines item
event-notes item = go (is_reserved item.1.code)
  where
    go : (reserved : Bool) →
        notes_in (if reserved then in_notes (reserved_text item.0 item.1.cable) ∷ [] else in_lane item.1.cable (carried_by item.1) ∷ [])
        ≡ (if reserved then reserved_text item.0 item.1.cable else [])
    go true = append-nil (reserved_text item.0 item.1.cable)
    go false = refl

pairs-are : (past : List (ℕ × Event)) (puts : List Put) → ArePut splitting past puts →
    pairs_in puts ≡ flat_map pieces_of (events_of (reverse past))
pairs-are [] puts put = ap pairs_in put
pairs-are (item ∷ past) puts put =
    let before : List (ℕ × Event) = reverse past in
    let turned : events_of (reverse (item ∷ past)) ≡ events_of before ++ item.1 ∷ [] =
    ap events_of (reverse-append (item ∷ []) past) ∙ map-append (λ (i : ℕ × Event). i.1) before (item ∷ []) in
    ap pairs_in put.4
    ∙ flat_map-append pair_of put.0 put.1
    ∙ ap (λ xs. xs ++ pairs_in put.1) (pairs-are past put.0 put.2)
    ∙ ap (λ ps. flat_map pieces_of (events_of before) ++ pairs_in ps) put.3
    ∙ ap (λ xs. flat_map pieces_of (events_of before) ++ xs) (event-pairs item ∙ sym (append-nil (pieces_of item.1)))
    ∙ sym (flat_map-append pieces_of (events_of before) (item.1 ∷ []))
    ∙ ap (flat_map pieces_of) (sym turned)

notes-are : (past : List (ℕ × Event)) (puts : List Put) → ArePut splitting past puts →
    notes_in puts ≡ flat_map reserved_lines (reverse past)
notes-are [] puts put = ap notes_in put
notes-are (item ∷ past) puts put =
    let before : List (ℕ × Event) = reverse past in
    ap notes_in put.4
    ∙ flat_map-append notes_of put.0 put.1
    ∙ ap (λ xs. xs ++ notes_in put.1) (notes-are past put.0 put.2)
    ∙ ap (λ ps. flat_map reserved_lines before ++ notes_in ps) put.3
    ∙ ap (λ xs. flat_map reserved_lines before ++ xs) (event-notes item ∙ sym (append-nil (reserved_lines item)))
    ∙ sym (flat_map-append reserved_lines before (item ∷ []))
    ∙ ap (flat_map reserved_lines) (sym (reverse-append (item ∷ []) past))

pub splits_mean : (past : List (ℕ × Event)) (puts : List Put) → ArePut splitting past puts → splitting.Means past puts
splits_mean past puts put = (pairs-are past puts put, notes-are past puts put)

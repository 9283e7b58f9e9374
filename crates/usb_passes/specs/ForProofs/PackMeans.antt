-- What is put for bytes that are packed goes to the output and the notes, and carries the messages of the bytes.
use Rattle.std.proofs.Common.{◌≡◌, ℕ, List, [], ◌∷◌, ◌++◌, refl, ap, sym, ◌∙◌, subst}
use Rattle.std.specs.Prelude.{map, Some}
use Rattle.std.specs.List.{concat}
use Rattle.std.proofs.lemmas.List.{append_assoc, append-nil}
use Rattle.std.proofs.lemmas.List.Concat.{flat_map-append}
use Rattle.midi1_bytes.specs.Steps.{Step, completed_by, step_of}
use Rattle.midi_meaning.specs.StepListing.{kinds_at_end, kinds_of_step, line_up, open_pair}
use Rattle.listing_terms.specs.declared.listed.Listed.{Listed}
use Rattle.pass_loop.specs.Bytes.{bytes_read}
use Rattle.pass_loop.specs.Named.{AreNamed, named-then}
use Rattle.pass_loop.specs.Pass.{ArePut}
use Rattle.pass_loop.specs.Put.{Put, output_in, output_of}
use Rattle.usb_midi1.specs.Held.{PackerState}
use Rattle.usb_midi1.specs.Packing.{events_by, stream_events}
use Rattle.usb_passes.specs.Options.{PackOptions}
use Rattle.listing_lines.specs.ForProofs.LineLaws.{lines_named, output-lines}
use Rattle.listing_lines.specs.Lines.{line_puts}
use Rattle.usb_passes.specs.Pack.{CarryTheMessages, HoldsPacked, event_puts, packed_puts, packing}

-- ---- the places

module _ (options : PackOptions) where
  abbrev Are : List Put → Type 0
  Are puts = AreNamed (packing options).names puts

  events_named : (events : List (List ℕ)) → Are (event_puts events)
  events_named [] = tt
  events_named (event ∷ events) = (refl, events_named events)

  pub packs_named : (past : List (ℕ × ℕ)) (item : ℕ × ℕ) (puts : List Put) → (packing options).IsPut past item puts → Are puts
  packs_named past item puts put =
      let step : Step = step_of (Some options.room) (bytes_read past) item.1 in
      let events : List (List ℕ) = events_by options.cable (completed_by step) in
      let lines : List Listed = map (line_up options.cable) (kinds_of_step step item.0) in
      let A : List Put → Type 0 = λ ps. Are ps in
      subst A (sym put)
      (named-then (packing options).names (event_puts events) (line_puts lines) (events_named events)
      (lines_named (packing options).names refl lines))

  pub last_named : (past : List (ℕ × ℕ)) (puts : List Put) → (packing options).IsPutAtEnd past puts → Are puts
  last_named past puts put =
      let A : List Put → Type 0 = λ ps. Are ps in
      subst A (sym put) (lines_named (packing options).names refl
      (map (line_up options.cable) (kinds_at_end (open_pair (Some options.room) (bytes_read past)))))

-- ---- what they mean

output-events : (events : List (List ℕ)) → output_in (event_puts events) ≡ concat events
output-events [] = refl
output-events (event ∷ events) = ap (λ xs. event ++ xs) (output-events events)

output-packed : (cable : ℕ) (step : Step) (offset : ℕ) →
    output_in (packed_puts cable step offset) ≡ concat (events_by cable (completed_by step))
output-packed cable step offset =
    let events : List (List ℕ) = events_by cable (completed_by step) in
    let lines : List Listed = map (line_up cable) (kinds_of_step step offset) in
    flat_map-append output_of (event_puts events) (line_puts lines)
    ∙ ap (λ xs. output_in (event_puts events) ++ xs) (output-lines lines)
    ∙ append-nil (output_in (event_puts events))
    ∙ output-events events

concat-then : (xs ys : List (List ℕ)) → concat (xs ++ ys) ≡ concat xs ++ concat ys
concat-then [] ys = refl
concat-then (x ∷ xs) ys = ap (λ zs. x ++ zs) (concat-then xs ys) ∙ sym (append_assoc x (concat xs) (concat ys))

output-is : (options : PackOptions) (past : List (ℕ × ℕ)) (puts : List Put) → ArePut (packing options) past puts →
    output_in puts ≡ concat (stream_events (Some options.room) options.cable (bytes_read past))
output-is options [] puts put = ap output_in put
output-is options (item ∷ past) puts put =
    let step : Step = step_of (Some options.room) (bytes_read past) item.1 in
    let before : List (List ℕ) = stream_events (Some options.room) options.cable (bytes_read past) in
    let now : List (List ℕ) = events_by options.cable (completed_by step) in
    ap output_in put.4
    ∙ flat_map-append output_of put.0 put.1
    ∙ ap (λ xs. xs ++ output_in put.1) (output-is options past put.0 put.2)
    ∙ ap (λ ps. concat before ++ output_in ps) put.3
    ∙ ap (λ xs. concat before ++ xs) (output-packed options.cable step item.0)
    ∙ sym (concat-then before now)

pub packs_mean : (options : PackOptions) (packer : PackerState) (past : List (ℕ × ℕ)) (puts : List Put) →
    HoldsPacked options packer past → ArePut (packing options) past puts → (packing options).Means past puts
packs_mean options packer past puts holds put =
    let is = output-is options past puts put in
    let C : List ℕ → Type 0 = λ output. CarryTheMessages options.cable (bytes_read past) output in (
      is,
      subst C (sym is) (
        holds.law.cable options.room options.cable (bytes_read past) holds.few,
        holds.law.messages options.room options.cable (bytes_read past) holds.few holds.within,
      ),
    )

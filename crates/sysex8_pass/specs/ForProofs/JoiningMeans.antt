-- For 8-bit exclusives the lanes and the notes gain the bytes of those that the packets complete, and their lines.
use Rattle.std.proofs.Common.{◌≡◌, ◌<◌, ◌≤◌, ℕ, Bool, true, false, cond, ◌==◌, length, List, []}
use Rattle.std.proofs.Common.{◌∷◌, ◌++◌, map, Option, None, Some, refl, ap, sym, ◌∙◌, subst, arith}
use Rattle.std.specs.Prelude.{◌/◌, IfSome}
use Rattle.std.specs.List.{flat_map}
use Rattle.std.specs.Option.{option_to_list}
use Rattle.std.proofs.lemmas.Bool.{cond_both, eqb-true}
use Rattle.std.proofs.lemmas.List.{append-nil}
use Rattle.std.proofs.lemmas.List.Concat.{flat_map-append}
use Rattle.std.proofs.lemmas.List.Elements.{filter-append}
use Rattle.packet_words.specs.declared.words.Framed.{Framed}
use Rattle.ump_grammar.specs.WordFields.{byte}
use Rattle.ump_grammar.specs.declared.packet.Packet.{Packet}
use Rattle.ump_grammar.specs.declared.packet.Packet.TheVariants as packet
use Rattle.pass_loop.specs.Named.{AreNamed, named-then}
use Rattle.pass_loop.specs.Pass.{ArePut}
use Rattle.pass_loop.specs.Put.{Put, in_lane, notes_in, notes_of, pair_of, pairs_in}
use Rattle.sysex_groups.specs.Exclusives.{Part, of_group}
use Rattle.sysex8_streams.specs.declared.part8.Part8.{Part8}
use Rattle.sysex8_streams.specs.History.{Answer8, held8, whole8, stray8, restarted8, restarted_whole8}
use Rattle.sysex8_streams.specs.History.{too_long8, full8, key_of, part_of, answer8}
use Rattle.sysex8_streams.specs.Laws.{FedStreamsAreTheDefinition}
use Rattle.sysex8_streams.specs.Reading.{is_left_out}
use Rattle.sysex8_pass.specs.declared.lines.Kind8.TheVariants as kinds
use Rattle.sysex8_pass.specs.Completed.{completed8, given_by, of_stream, piece_of, whole_in}
use Rattle.sysex8_pass.specs.Held.{Holds8}
use Rattle.sysex8_pass.specs.Joining.{CompleteAlone, answer_puts, cut_lines, cut_puts, data8_puts, group_puts}
use Rattle.sysex8_pass.specs.Joining.{joining, listed, open_put, packet_puts, piece_puts, whole_puts}
use Rattle.sysex8_pass.specs.Lines.{kind_text, whole_text}
use Rattle.sysex8_pass.specs.Listing.{answer_lines, below, data8_lines, lines_of, packet_lines}
use Rattle.sysex8_pass.specs.Options.{Sysex8Options, options8}
use Rattle.sysex8_pass.specs.Parts.{open_since, part_in, parts_at, parts_of, spelled8}
use Rattle.sysex8_streams.specs.Table.{Table8}

-- ---- the places

abbrev AreIn8 : List Put → Type 0
AreIn8 puts = AreNamed (record { lanes = true; output = false; notes = true }) puts

piece-named : (group : ℕ) (bytes : List ℕ) → AreIn8 (piece_puts group bytes)
piece-named group bytes = go (length bytes == 0)
  where
    go : (none : Bool) → AreIn8 (cond none [] (in_lane group bytes ∷ []))
    go true = tt
    go false = (refl, tt)

whole-named : (offset group stream : ℕ) (bytes : List ℕ) → AreIn8 (whole_puts offset group stream bytes)
whole-named offset group stream bytes =
    named-then (record { lanes = true; output = false; notes = true }) (piece_puts group bytes)
    (listed (whole_text offset group stream (length bytes))) (piece-named group bytes) (refl, tt)

cut-named : (at offset group stream : ℕ) (bytes : List ℕ) → AreIn8 (cut_puts at offset group stream bytes)
cut-named at offset group stream bytes =
    named-then (record { lanes = true; output = false; notes = true }) (piece_puts group bytes)
    (cut_lines at offset group stream (length bytes)) (piece-named group bytes) (refl, (refl, tt))

answer-named : (offset group stream : ℕ) (answer : Answer8) → AreIn8 (answer_puts offset group stream answer)
answer-named offset group stream held8 = tt
answer-named offset group stream (whole8 bytes) = whole-named offset group stream bytes
answer-named offset group stream stray8 = (refl, tt)
answer-named offset group stream (restarted8 at) = (refl, tt)
answer-named offset group stream (restarted_whole8 at bytes) = cut-named at offset group stream bytes
answer-named offset group stream too_long8 = tt
answer-named offset group stream full8 = (refl, tt)

packet-named : (answer : Part → Answer8) (offset : ℕ) (p : Packet) → AreIn8 (packet_puts answer offset p)
packet-named answer offset (packet.Data8 group words) = go (part_in words)
  where
    go : (part : Option Part8) → AreIn8 (data8_puts answer offset group part)
    go None = (refl, tt)
    go (Some part) = answer-named offset part.group part.stream (answer (part_of part offset))
packet-named answer offset (packet.Utility status value) = tt
packet-named answer offset (packet.System group message) = tt
packet-named answer offset (packet.Voice1 group message) = tt
packet-named answer offset (packet.Exclusive group form bytes) = tt
packet-named answer offset (packet.Voice2 group message) = tt
packet-named answer offset (packet.Flex group words) = tt
packet-named answer offset (packet.Stream format status low second third fourth) = tt
packet-named answer offset (packet.Reserved words) = tt

each-named : (f : ℕ → List Put) → ((n : ℕ) → AreIn8 (f n)) → (numbers : List ℕ) → AreIn8 (flat_map f numbers)
each-named f each [] = tt
each-named f each (n ∷ numbers) =
    named-then (record { lanes = true; output = false; notes = true }) (f n) (flat_map f numbers) (each n) (each-named f each numbers)

open-named : (group : ℕ) (start : Option ℕ) → AreIn8 (open_put group start)
open-named group None = tt
open-named group (Some start) = (refl, tt)

pub joins_named : (options : Sysex8Options) (past : List (Framed × Packet)) (item : Framed × Packet) (puts : List Put)
    → (joining options).IsPut past item puts →
    AreNamed (joining options).names puts
joins_named options past item puts put =
    subst AreIn8 (sym put) (packet-named (answer8 options.slots options.room (parts_at past)) item.0.offset item.1)

pub open_named : (options : Sysex8Options) (past : List (Framed × Packet)) (puts : List Put) → (joining options).IsPutAtEnd past puts
    → AreNamed (joining options).names puts
open_named options past puts put =
    let starts : ℕ → Option ℕ = open_since options.slots options.room (parts_at past) in
    subst AreIn8 (sym put)
    (each-named (group_puts starts) (λ group. each-named (λ stream. open_put group (starts (key_of group stream)))
    (λ stream. open-named group (starts (key_of group stream))) (below 256))
    (below 16))

-- ---- what they mean

-- the group of a key
group-of-key : (group stream : ℕ) → stream < 256 → key_of group stream / 256 ≡ group
group-of-key group stream few = omega (arith, few)

piece-notes : (group : ℕ) (bytes : List ℕ) → notes_in (piece_puts group bytes) ≡ []
piece-notes group bytes = go (length bytes == 0)
  where
    go : (none : Bool) → notes_in (cond none [] (in_lane group bytes ∷ [])) ≡ []
    go true = refl
    go false = refl

piece-pairs : (group stream : ℕ) (bytes : List ℕ) → stream < 256 → pairs_in (piece_puts group bytes) ≡ piece_of (key_of group stream, bytes)
piece-pairs group stream bytes few = go (length bytes == 0)
  where
    go : (none : Bool) → pairs_in (cond none [] (in_lane group bytes ∷ [])) ≡ cond none [] ((key_of group stream / 256, bytes) ∷ [])
    go true = refl
    go false = ap (λ g. (g, bytes) ∷ []) (sym (group-of-key group stream few))

whole-notes : (offset group stream : ℕ) (bytes : List ℕ)
    → notes_in (whole_puts offset group stream bytes) ≡ whole_text offset group stream (length bytes)
whole-notes offset group stream bytes =
    let line : List ℕ = whole_text offset group stream (length bytes) in
    flat_map-append notes_of (piece_puts group bytes) (listed line)
    ∙ ap (λ xs. xs ++ notes_in (listed line)) (piece-notes group bytes)
    ∙ append-nil line

whole-pairs : (offset group stream : ℕ) (bytes : List ℕ) → stream < 256
    → pairs_in (whole_puts offset group stream bytes) ≡ flat_map piece_of ((key_of group stream, bytes) ∷ [])
whole-pairs offset group stream bytes few =
    flat_map-append pair_of (piece_puts group bytes) (listed (whole_text offset group stream (length bytes)))
    ∙ ap (λ xs. xs ++ []) (piece-pairs group stream bytes few)

cut-notes : (at offset group stream : ℕ) (bytes : List ℕ) →
    notes_in (cut_puts at offset group stream bytes) ≡ kind_text kinds.Cut at group ++ whole_text offset group stream (length bytes)
cut-notes at offset group stream bytes =
    flat_map-append notes_of (piece_puts group bytes) (cut_lines at offset group stream (length bytes))
    ∙ ap (λ xs. xs ++ notes_in (cut_lines at offset group stream (length bytes))) (piece-notes group bytes)
    ∙ ap (λ xs. kind_text kinds.Cut at group ++ xs) (append-nil (whole_text offset group stream (length bytes)))

cut-pairs : (at offset group stream : ℕ) (bytes : List ℕ) → stream < 256
    → pairs_in (cut_puts at offset group stream bytes) ≡ flat_map piece_of ((key_of group stream, bytes) ∷ [])
cut-pairs at offset group stream bytes few =
    flat_map-append pair_of (piece_puts group bytes) (cut_lines at offset group stream (length bytes))
    ∙ ap (λ xs. xs ++ []) (piece-pairs group stream bytes few)

answer-notes : (offset group stream : ℕ) (answer : Answer8)
    → notes_in (answer_puts offset group stream answer) ≡ answer_lines offset group stream answer
answer-notes offset group stream held8 = refl
answer-notes offset group stream (whole8 bytes) = whole-notes offset group stream bytes
answer-notes offset group stream stray8 = append-nil (kind_text kinds.Stray offset group)
answer-notes offset group stream (restarted8 at) = append-nil (kind_text kinds.Cut at group)
answer-notes offset group stream (restarted_whole8 at bytes) = cut-notes at offset group stream bytes
answer-notes offset group stream too_long8 = refl
answer-notes offset group stream full8 = append-nil (kind_text kinds.Full offset group)

answer-pairs : (offset group stream : ℕ) (answer : Answer8) → stream < 256
    → pairs_in (answer_puts offset group stream answer) ≡ flat_map piece_of (given_by (key_of group stream) answer)
answer-pairs offset group stream held8 few = refl
answer-pairs offset group stream (whole8 bytes) few = whole-pairs offset group stream bytes few
answer-pairs offset group stream stray8 few = refl
answer-pairs offset group stream (restarted8 at) few = refl
answer-pairs offset group stream (restarted_whole8 at bytes) few = cut-pairs at offset group stream bytes few
answer-pairs offset group stream too_long8 few = refl
answer-pairs offset group stream full8 few = refl

packet-notes : (answer : Part → Answer8) (offset : ℕ) (p : Packet) → notes_in (packet_puts answer offset p) ≡ packet_lines answer offset p
packet-notes answer offset (packet.Data8 group words) = go (part_in words)
  where
    go : (part : Option Part8) → notes_in (data8_puts answer offset group part) ≡ data8_lines answer offset group part
    go None = append-nil (kind_text kinds.Other offset group)
    go (Some part) = answer-notes offset part.group part.stream (answer (part_of part offset))
packet-notes answer offset (packet.Utility status value) = refl
packet-notes answer offset (packet.System group message) = refl
packet-notes answer offset (packet.Voice1 group message) = refl
packet-notes answer offset (packet.Exclusive group form bytes) = refl
packet-notes answer offset (packet.Voice2 group message) = refl
packet-notes answer offset (packet.Flex group words) = refl
packet-notes answer offset (packet.Stream format status low second third fourth) = refl
packet-notes answer offset (packet.Reserved words) = refl

-- a stream id has eight bits
few-streams : (words : List ℕ) → IfSome (part_in words) (λ part. part.stream < 256)
few-streams words = go (is_left_out words)
  where
    small : byte words 3 < 256
    small = omega arith

    go : (left : Bool) → IfSome (cond left None (Some (spelled8 words))) (λ part. part.stream < 256)
    go true = tt
    go false = small

module _ (slots room : ℕ) where
  -- the pieces of the exclusives that these parts complete
  abbrev pieces : List Part → List (ℕ × List ℕ)
  pieces parts = flat_map piece_of (completed8 slots room parts)

  pieces-then : (offset : ℕ) (p : Packet) (past : List Part)
      → pieces past ++ pairs_in (packet_puts (answer8 slots room past) offset p) ≡ pieces (parts_of offset p ++ past)
  pieces-then offset (packet.Data8 group words) past = go (part_in words) (few-streams words)
    where
      go : (part : Option Part8) → IfSome part (λ q. q.stream < 256) →
          pieces past ++ pairs_in (data8_puts (answer8 slots room past) offset group part)
          ≡ pieces (map (λ q. part_of q offset) (option_to_list part) ++ past)
      go None few = append-nil (pieces past)
      go (Some part) few =
          let answer : Answer8 = answer8 slots room past (part_of part offset) in
          ap (λ xs. pieces past ++ xs) (answer-pairs offset part.group part.stream answer few)
          ∙ sym (flat_map-append piece_of (completed8 slots room past) (given_by (key_of part.group part.stream) answer))
  pieces-then offset (packet.Utility status value) past = append-nil (pieces past)
  pieces-then offset (packet.System group message) past = append-nil (pieces past)
  pieces-then offset (packet.Voice1 group message) past = append-nil (pieces past)
  pieces-then offset (packet.Exclusive group form bytes) past = append-nil (pieces past)
  pieces-then offset (packet.Voice2 group message) past = append-nil (pieces past)
  pieces-then offset (packet.Flex group words) past = append-nil (pieces past)
  pieces-then offset (packet.Stream format status low second third fourth) past = append-nil (pieces past)
  pieces-then offset (packet.Reserved words) past = append-nil (pieces past)

  -- ---- a stream alone

  given-own : (key own : ℕ) (answer : Answer8) → (own == key) ≡ true → of_stream key (given_by own answer) ≡ given_by own answer
  given-own key own answer same = go (whole_in answer)
    where
      go : (whole : Option (List ℕ))
          → of_stream key (map (λ bytes. (own, bytes)) (option_to_list whole)) ≡ map (λ bytes. (own, bytes)) (option_to_list whole)
      go None = refl
      go (Some bytes) = rw same refl

  given-other : (key own : ℕ) (answer : Answer8) → (own == key) ≡ false → of_stream key (given_by own answer) ≡ []
  given-other key own answer other = go (whole_in answer)
    where
      go : (whole : Option (List ℕ)) → of_stream key (map (λ bytes. (own, bytes)) (option_to_list whole)) ≡ []
      go None = refl
      go (Some bytes) = rw other refl

  complete-alone : FedStreamsAreTheDefinition → 1 ≤ slots → (parts : List Part) → CompleteAlone slots room parts
  complete-alone law some [] = λ never key. refl
  complete-alone law some (part ∷ past) = λ never key.
      let own : List Part = of_group key past in
      let answer : Answer8 = answer8 slots room past part in
      let test : ℕ × List ℕ → Bool = λ exclusive. exclusive.0 == key in
      let rest : of_stream key (completed8 slots room past) ≡ completed8 slots room own = complete-alone law some past never.1 key in
      let apart : of_stream key (completed8 slots room (part ∷ past))
      ≡ completed8 slots room own ++ of_stream key (given_by part.group answer) =
      filter-append test (completed8 slots room past) (given_by part.group answer)
      ∙ ap (λ xs. xs ++ of_stream key (given_by part.group answer)) rest in
      let P : List Part → Type 0 = λ parts. of_stream key (completed8 slots room (part ∷ past)) ≡ completed8 slots room parts in
      cond_both (part.group == key) (part ∷ own) own P
      (λ same.
      apart
      ∙ ap (λ xs. completed8 slots room own ++ xs) (given-own key part.group answer same)
      ∙ ap (λ a. completed8 slots room own ++ given_by part.group a) (law.answers_alone slots room past part some never)
      ∙ ap (λ k. completed8 slots room own ++ given_by part.group (answer8 slots room (of_group k past) part))
      (eqb-true part.group key same))
      (λ other.
      apart ∙ ap (λ xs. completed8 slots room own ++ xs) (given-other key part.group answer other) ∙ append-nil (completed8 slots room own))

-- ---- all that is put

module _ (options : Sysex8Options) where
  pairs-are : (past : List (Framed × Packet)) (puts : List Put) → ArePut (joining options) past puts →
      pairs_in puts ≡ flat_map piece_of (completed8 options.slots options.room (parts_at past))
  pairs-are [] puts put = ap pairs_in put
  pairs-are (item ∷ past) puts put =
      let before : List (ℕ × List ℕ) = flat_map piece_of (completed8 options.slots options.room (parts_at past)) in
      ap pairs_in put.4
      ∙ flat_map-append pair_of put.0 put.1
      ∙ ap (λ xs. xs ++ pairs_in put.1) (pairs-are past put.0 put.2)
      ∙ ap (λ ps. before ++ pairs_in ps) put.3
      ∙ pieces-then options.slots options.room item.0.offset item.1 (parts_at past)

  notes-are : (past : List (Framed × Packet)) (puts : List Put) → ArePut (joining options) past puts →
      notes_in puts ≡ lines_of options.slots options.room past
  notes-are [] puts put = ap notes_in put
  notes-are (item ∷ past) puts put =
      let before : List ℕ = lines_of options.slots options.room past in
      ap notes_in put.4
      ∙ flat_map-append notes_of put.0 put.1
      ∙ ap (λ xs. xs ++ notes_in put.1) (notes-are past put.0 put.2)
      ∙ ap (λ ps. before ++ notes_in ps) put.3
      ∙ ap (λ xs. before ++ xs) (packet-notes (answer8 options.slots options.room (parts_at past)) item.0.offset item.1)

pub joins_mean : (first now : Table8) (past : List (Framed × Packet)) (puts : List Put) → Holds8 first now past
    → ArePut (joining (options8 first)) past puts →
    (joining (options8 first)).Means past puts
joins_mean first now past puts holds put =
    record {
      pieces = pairs-are (options8 first) past puts put;
      alone = complete-alone (length first.slots) first.room holds.law holds.some (parts_at past);
      lines = notes-are (options8 first) past puts put;
    }

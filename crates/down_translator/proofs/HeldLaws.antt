-- The state equals the definition that looks back over the packets.
use Rattle.std.proofs.Common.{ℕ, ◌≡◌, ◌≢◌, ◌<◌, ◌≤◌, ◌∙◌, ap, refl, List, [], ◌∷◌, ◌++◌}
use Rattle.std.proofs.Common.{length, Option, Some, None, Bool, true, false, cond}
use Rattle.std.proofs.lemmas.List.Elements.{recursion_from_All}
use Rattle.std.specs.Option.{option_map}
use Rattle.voice_messages.specs.declared.voice2.Form.{Form}
use Rattle.voice_messages.specs.declared.voice2.Form.TheVariants as form
use Rattle.ump_grammar.specs.declared.packet.Packet.{Packet}
use Rattle.ump_grammar.specs.declared.packet.Packet.TheVariants as packet
use Rattle.ump_grammar.specs.Ranges.{IsPacket}
use Rattle.sysex_groups.specs.Exclusives.{Answer, held, whole, stray, restarted, restarted_whole, too_long, Part, Room, opened}
use Rattle.sysex_groups.specs.Exclusives.{joined, started, ended_by, passes_by, fits, goes_on, bytes_of, start_of, answer_from}
use Rattle.sysex_groups.specs.Table.{Begun, answer_to, begun_in, begun_of, table_over, AreParts}
use Rattle.sysex_groups.specs.Laws.{FedPartsAreTheDefinition}
use Rattle.midi_meaning.specs.declared.listed.BadStep.{BadStep}
use Rattle.midi_meaning.specs.declared.listed.BadStep.TheVariants as bad
use Rattle.midi_meaning.specs.Parts.{Placed, parts_of, whole_by}
use Rattle.midi_meaning.specs.Packets.{IsInRange}
use Rattle.midi_meaning.specs.Listing.{begun_before}
use Rattle.midi_meaning.specs.Refusal.{bad_step}
use Rattle.midi_meaning.specs.Styles.{Style}
use Rattle.down_translator.specs.Held.{DownState, whole_in, begun_at_in, bad_answer, refusal_in, down_after, unless_refused}
use Rattle.down_translator.specs.KeptLanes.{lanes_after}
use Rattle.down_translator.specs.Recording.{AreInRange, state_of}

-- ---- ranges

pub packet_in_range : (p : Packet) → IsPacket p → IsInRange p
packet_in_range (packet.Utility s v) h = tt
packet_in_range (packet.System g m) h = h
packet_in_range (packet.Voice1 g m) h = h
packet_in_range (packet.Exclusive g f bytes) h = (h.0, h.1, recursion_from_All (λ b. b < 128) bytes h.2)
packet_in_range (packet.Voice2 g m) h = h
packet_in_range (packet.Data8 g w) h = tt
packet_in_range (packet.Flex g w) h = tt
packet_in_range (packet.Stream f s l w x y) h = tt
packet_in_range (packet.Reserved w) h = tt

more_parts : (offset : ℕ) (p : Packet) (past : List Placed) → IsInRange p → AreParts (parts_of past)
    → AreParts (parts_of (record { offset = offset; packet = p } ∷ past))
more_parts offset (packet.Exclusive g f bytes) past h a = ((h.0, h.1), a)
more_parts offset (packet.Utility s v) past h a = a
more_parts offset (packet.System g m) past h a = a
more_parts offset (packet.Voice1 g m) past h a = a
more_parts offset (packet.Voice2 g m) past h a = a
more_parts offset (packet.Data8 g w) past h a = a
more_parts offset (packet.Flex g w) past h a = a
more_parts offset (packet.Stream f s l w x y) past h a = a
more_parts offset (packet.Reserved w) past h a = a

pub parts_in_range : (past : List Placed) → AreInRange past → AreParts (parts_of past)
parts_in_range [] a = tt
parts_in_range (placed ∷ past) a = more_parts placed.offset placed.packet past a.0 (parts_in_range past a.1)

-- ---- what is open

table_room : (room : ℕ) (parts : List Part) → (table_over room parts).room ≡ room
table_room room [] = refl
table_room room (part ∷ parts) = table_room room parts

begun-bytes : (o : Option (List Part)) → option_map (λ (begun : Begun). begun.bytes) (option_map begun_of o) ≡ option_map bytes_of o
begun-bytes None = refl
begun-bytes (Some parts) = refl

begun-start : (o : Option (List Part)) → option_map (λ (begun : Begun). begun.start) (option_map begun_of o) ≡ option_map start_of o
begun-start None = refl
begun-start (Some parts) = refl

-- an answer is that the exclusive is too long exactly when the part exceeds the limit
bad-answer : (room : Room) (f : Form) (start : Option ℕ) (before : Option (List ℕ)) (bytes : List ℕ) (alone : Bool) →
    bad_answer (answer_from (cond (goes_on f) None start) (ended_by room f before bytes)
    (cond (goes_on f) (passes_by room before bytes) false) (cond (goes_on f) alone false)) ≡
    cond (cond (goes_on f) (passes_by room before bytes) false) (Some bad.ExclusiveTooLong) None
bad-answer room form.Complete None before bytes alone = refl
bad-answer room form.Complete (Some start) before bytes alone = refl
bad-answer room form.Start None before bytes alone = refl
bad-answer room form.Start (Some start) before bytes alone = refl
bad-answer room form.Continue start before bytes alone = go (passes_by room before bytes) alone
  where
    go : (t u : Bool) → bad_answer (answer_from None None t u) ≡ cond t (Some bad.ExclusiveTooLong) None
    go true u = refl
    go false true = refl
    go false false = refl
bad-answer room form.End start None bytes true = refl
bad-answer room form.End start None bytes false = refl
bad-answer room form.End start (Some before) bytes alone = go (fits room (length (before ++ bytes))) alone
  where
    go : (t u : Bool)
        → bad_answer (answer_from None (cond t (Some (before ++ bytes)) None) (cond t false true) u)
        ≡ cond (cond t false true) (Some bad.ExclusiveTooLong) None
    go true u = refl
    go false u = refl

module _ (paired : Bool) where
  -- what the state tells of a packet is what the packets before it tell: the exclusive that it ends, where the exclusive that its
  -- group has open started, and why it is refused
  pub record IsTold (style : Style) (room : ℕ) (past : List Placed) (p : Packet) : Type 0 where
    pub whole : whole_in (state_of paired style room past) p ≡ whole_by (Some room) (parts_of past) p
    pub begun : begun_at_in (state_of paired style room past) p ≡ begun_before (Some room) (parts_of past) p
    pub refusal : refusal_in (state_of paired style room past) p ≡ bad_step (Some room) (parts_of past) p

  pub held-told : FedPartsAreTheDefinition → (style : Style) (room : ℕ) (past : List Placed) → 6 ≤ room → AreInRange past → (p : Packet)
      → IsTold style room past p
  held-told fed style room past least a (packet.Exclusive g f bytes) =
      let parts : List Part = parts_of past in
      let part : Part = record { group = g; form = f; bytes = bytes; offset = 0 } in
      let open_is = fed.begun room parts least (parts_in_range past a) g in
      record {
        whole =
            ap (λ r. ended_by (Some r) f
            (option_map (λ (begun : Begun). begun.bytes) (begun_in (state_of paired style room past).exclusives g)) bytes)
            (table_room room parts)
            ∙ ap (λ o. ended_by (Some room) f (option_map (λ (begun : Begun). begun.bytes) o) bytes) open_is
            ∙ ap (λ o. ended_by (Some room) f o bytes) (begun-bytes (opened (Some room) g parts));
        begun = ap (option_map (λ (begun : Begun). begun.start)) open_is ∙ begun-start (opened (Some room) g parts);
        refusal =
            ap bad_answer (fed.answers room parts least (parts_in_range past a) part)
            ∙ bad-answer (Some room) f (started (Some room) g parts) (joined (Some room) g parts) bytes _;
      }
  held-told fed style room past least a (packet.Utility s v) = record { whole = refl; begun = refl; refusal = refl }
  held-told fed style room past least a (packet.System g m) = record { whole = refl; begun = refl; refusal = refl }
  held-told fed style room past least a (packet.Voice1 g m) = record { whole = refl; begun = refl; refusal = refl }
  held-told fed style room past least a (packet.Voice2 g m) = record { whole = refl; begun = refl; refusal = refl }
  held-told fed style room past least a (packet.Data8 g w) = record { whole = refl; begun = refl; refusal = refl }
  held-told fed style room past least a (packet.Flex g w) = record { whole = refl; begun = refl; refusal = refl }
  held-told fed style room past least a (packet.Stream f s l w x y) = record { whole = refl; begun = refl; refusal = refl }
  held-told fed style room past least a (packet.Reserved w) = record { whole = refl; begun = refl; refusal = refl }

  -- ---- what comes after a packet

  pub held-behind : (style : Style) (room : ℕ) (past : List Placed) (placed : Placed)
      → down_after placed.offset placed.packet (state_of paired style room past) ≡ state_of paired style room (placed ∷ past)
  held-behind style room past placed = go placed.offset placed.packet
    where
      go : (offset : ℕ) (p : Packet)
          → down_after offset p (state_of paired style room past)
          ≡ state_of paired style room (record { offset = offset; packet = p } ∷ past)
      go offset (packet.Exclusive g f bytes) = refl
      go offset (packet.Utility s v) = refl
      go offset (packet.System g m) = refl
      go offset (packet.Voice1 g m) = refl
      go offset (packet.Voice2 g m) = refl
      go offset (packet.Data8 g w) = refl
      go offset (packet.Flex g w) = refl
      go offset (packet.Stream f s l w x y) = refl
      go offset (packet.Reserved w) = refl

-- ---- what is refused

only-too-long : (a : Answer) (why : BadStep) → bad_answer a ≡ Some why → why ≢ bad.ExclusiveTooLong → ⊥
only-too-long held why is other = let e = is in cc
only-too-long (whole bytes) why is other = let e = is in cc
only-too-long stray why is other = let e = is in cc
only-too-long (restarted start) why is other = let e = is in cc
only-too-long (restarted_whole start bytes) why is other = let e = is in cc
only-too-long too_long why is other = other (let e = is in cc)

-- a refused data increment or decrement leaves the translator as it was
pub unchanged : (state : DownState) (offset : ℕ) (p : Packet) (why : BadStep) → refusal_in state p ≡ Some why → why ≢ bad.ExclusiveTooLong
    → down_after offset p state ≡ state
unchanged state offset (packet.Voice1 g m) why is other =
    ap (λ r. record { exclusives = state.exclusives; lanes = lanes_after (unless_refused r (Some g)) None (packet.Voice1 g m) state.lanes })
    is
unchanged state offset (packet.Voice2 g m) why is other =
    ap (λ r. record { exclusives = state.exclusives; lanes = lanes_after (unless_refused r (Some g)) None (packet.Voice2 g m) state.lanes })
    is
unchanged state offset (packet.Exclusive g f bytes) why is other =
    let part : Part = record { group = g; form = f; bytes = bytes; offset = 0 } in
    absurd (only-too-long (answer_to state.exclusives part) why is other)
unchanged state offset (packet.Utility s v) why is other = absurd (let e = is in cc)
unchanged state offset (packet.System g m) why is other = absurd (let e = is in cc)
unchanged state offset (packet.Data8 g w) why is other = absurd (let e = is in cc)
unchanged state offset (packet.Flex g w) why is other = absurd (let e = is in cc)
unchanged state offset (packet.Stream f s l w x y) why is other = absurd (let e = is in cc)
unchanged state offset (packet.Reserved w) why is other = absurd (let e = is in cc)

-- The raised packets are accepted on the way down, carried unless they are held, and not listed.
use Rattle.std.proofs.Common.{ℕ, ◌+◌, ◌*◌, ◌≡◌, ◌<◌, ◌≤◌, ◌∙◌, ap, sym, refl, subst, zero, suc, map, List}
use Rattle.std.proofs.Common.{[], ◌∷◌, ◌++◌, reverse, take, drop, length, Option, Some, None, true, false}
use Rattle.std.proofs.Common.{cond, arith, length-take, length-drop, length-append, inl, inr, Bool, ◌-◌}
use Rattle.std.specs.Prelude.{is_some}
use Rattle.std.proofs.lemmas.Bool.{cond_both, eq-eqb, ne_eqb, cases_eq}
use Rattle.std.proofs.lemmas.Option.{same_Some}
use Rattle.std.proofs.Math.Seq.{take-add}
use Rattle.std.specs.Option.{option_to_list, unwrap_or}
use Rattle.std.specs.List.{AllByRecursion}
use Rattle.std.specs.Fork.{slice_chunk}
use lib.Dec.{eqb}
use Rattle.voice_messages.specs.declared.voice1.Voice1.{Voice1}
use Rattle.voice_messages.specs.declared.voice1.Voice1.TheVariants as voice1
use Rattle.voice_messages.specs.declared.voice2.Form.{Form}
use Rattle.voice_messages.specs.declared.voice2.Form.TheVariants as form
use Rattle.voice_messages.specs.declared.voice2.Param.{Param}
use Rattle.voice_messages.specs.declared.voice2.Voice2.{Voice2}
use Rattle.voice_messages.specs.declared.voice2.Voice2.TheVariants as voice2
use Rattle.ump_grammar.specs.declared.packet.Packet.{Packet}
use Rattle.ump_grammar.specs.declared.packet.Packet.TheVariants as packet
use Rattle.bit_scaling.specs.Scaling.{up}
use Rattle.sysex_groups.specs.Exclusives.{Part, joined, goes_on}
use Rattle.sysex_groups.specs.Cut.{part_count, form_at}
use Rattle.midi1_bytes.specs.Messages.{Message, voice, common, exclusive, real_time}
use Rattle.midi1_bytes.specs.Steps.{completed_by, step_of}
use Rattle.midi_meaning.specs.Registers.{selected}
use Rattle.midi_meaning.specs.Controllers.{Role, data_msb, data_lsb, reset_all, channel_mode, coarse, fine, plain, role_of, pairing}
use Rattle.midi_meaning.specs.State.{Channel, GroupState}
use Rattle.midi_meaning.specs.Messages.{channel_of, meaning1}
use Rattle.listing_terms.specs.Parts.{group_of, part_of, packet_parts}
use Rattle.midi_meaning.specs.Listing.{is_carried_role, is_carried_voice, voice_kind}
use Rattle.midi_meaning.specs.Refusal.{bad_role, bad_voice2}
use Rattle.midi_meaning.specs.Raising.{raised_entry, raised_control, raised_voice, exclusive_packet}
use Rattle.midi_meaning.specs.Raising.{exclusive_packets, raised_message, raised_completed, packets_up}
use Rattle.midi_meaning.proofs.Joined.{begun_with, joined_by_part, joined-is}
use Rattle.midi_meaning.proofs.Pairs.{bad-pairing, pair_coarse}
use Rattle.midi_meaning.proofs.Raising.{selected-is}
use Rattle.midi_meaning.proofs.Up.{turned, behind, turned-first, packets_up-turned}
use Rattle.midi_meaning.proofs.Back.{AreOf}
use Rattle.midi_meaning.proofs.ByteRooms.{FitsMessage, completed_fits_room}

-- ---- a packet that is silent after others, newest first

-- what a group has open, by its bytes
abbrev pub begun : ℕ → List Packet → Option (List ℕ)
begun g past = joined None g (packet_parts past)

pub record IsSilentPart (room : ℕ) (before : Option (List ℕ)) (f : Form) (bytes : List ℕ) : Type 0 where
  pub follows : goes_on f ≡ is_some before
  pub fits : length (unwrap_or before [] ++ bytes) ≤ room

-- the first packet continues nothing, and all others go on
first_form : (count : ℕ) → goes_on (form_at count 0) ≡ false
first_form count = cond_both (eqb count 1) form.Complete _ (λ f. goes_on f ≡ false) (λ e. refl) (λ e. refl)

later_form : (count k : ℕ) → suc k < count → goes_on (form_at count (suc k)) ≡ true
later_form count k h =
    rw (ne_eqb count 1 (λ e. omega arith), ne_eqb (suc k) 0 (λ e. omega arith))
    (cond_both (eqb (suc k + 1) count) form.End form.Continue (λ f. goes_on f ≡ true) (λ e. refl) (λ e. refl))

-- what is open after the first k packets
begun-more : (g : ℕ) (payload : List ℕ) (past : List Packet) (k : ℕ)
    → begun g (exclusive_packet g payload k ∷ behind g payload past k)
    ≡ begun_with (form_at (part_count payload) k) (slice_chunk payload 6 k) (begun g (behind g payload past k))
begun-more g payload past k =
    let f = form_at (part_count payload) k in
    let chunk = slice_chunk payload 6 k in
    let parts = packet_parts (behind g payload past k) in
    joined-is g (packet_parts (exclusive_packet g payload k ∷ behind g payload past k))
    ∙ ap (λ t. cond t (begun_with f chunk (joined_by_part g parts)) (joined_by_part g parts)) (eq-eqb g g refl)
    ∙ ap (begun_with f chunk) (sym (joined-is g parts))

begun-front : (g : ℕ) (payload : List ℕ) (past : List Packet) (k : ℕ) → suc k < part_count payload
    → begun g (behind g payload past (suc k)) ≡ Some (take (suc k * 6) payload)
unfolding behind
begun-front g payload past zero h =
    let first : form_at (part_count payload) 0 ≡ form.Start = rw (ne_eqb (part_count payload) 1 (λ e. omega arith)) refl in
    begun-more g payload past zero
    ∙ ap (λ f. begun_with f (slice_chunk payload 6 0) (begun g past)) first
begun-front g payload past (suc k) h =
    let before : List ℕ = take (suc k * 6) payload in
    let chunk : List ℕ = slice_chunk payload 6 (suc k) in
    let more : suc k * 6 + 6 ≡ suc (suc k) * 6 = omega arith in
    let inner : form_at (part_count payload) (suc k) ≡ form.Continue =
    rw (
      ne_eqb (part_count payload) 1 (λ e. omega arith),
      ne_eqb (suc k) 0 (λ e. omega arith),
      ne_eqb (suc k + 1) (part_count payload) (λ e. omega arith),
    )
    refl in
    begun-more g payload past (suc k)
    ∙ ap (λ f. begun_with f chunk (begun g (behind g payload past (suc k)))) inner
    ∙ ap (begun_with form.Continue chunk) (begun-front g payload past k (omega arith))
    ∙ ap Some (sym (take-add (suc k * 6) 6 payload) ∙ ap (λ n. take n payload) more)

-- the last packet ends it
last_form : (count n : ℕ) (bytes : List ℕ) (o : Option (List ℕ)) → count ≡ suc n → begun_with (form_at count n) bytes o ≡ None
last_form count n bytes o e = elim (cases_eq count 1) [
  | inl only ↦ rw (eq-eqb count 1 only) refl
  | inr many ↦ rw (ne_eqb count 1 many, ne_eqb n 0 (λ q. many (omega arith)), eq-eqb (n + 1) count (omega arith)) refl
]

begun-end : (g : ℕ) (payload : List ℕ) (past : List Packet) (n : ℕ) → part_count payload ≡ suc n
    → begun g (behind g payload past (suc n)) ≡ None
unfolding behind
begun-end g payload past n e = begun-more g payload past n ∙ last_form (part_count payload) n (slice_chunk payload 6 n) _ e

part_silent : (room g : ℕ) (payload : List ℕ) (past : List Packet) (k : ℕ) → begun g past ≡ None → length payload ≤ room
    → k < part_count payload
    → IsSilentPart room (begun g (behind g payload past k)) (form_at (part_count payload) k) (slice_chunk payload 6 k)
unfolding behind
part_silent room g payload past zero n b h =
    subst (λ o. IsSilentPart room o (form_at (part_count payload) 0) (slice_chunk payload 6 0)) (sym n) (record {
      follows = first_form (part_count payload);
      fits = omega (arith, length-take 6 (drop (0 * 6) payload), length-drop (0 * 6) payload);
    })
part_silent room g payload past (suc k) n b h =
    subst (λ o. IsSilentPart room o (form_at (part_count payload) (suc k)) (slice_chunk payload 6 (suc k)))
    (sym (begun-front g payload past k h)) (record {
      follows = later_form (part_count payload) k h;
      fits = omega (
        arith,
        length-append (take (suc k * 6) payload) (slice_chunk payload 6 (suc k)),
        length-take (suc k * 6) payload,
        length-take 6 (drop (suc k * 6) payload),
        length-drop (suc k * 6) payload,
      );
    })

pub others_begin_nothing : (g other : ℕ) (past : List Packet) → AreOf g past → (g ≡ other → ⊥) → begun other past ≡ None
others_begin_nothing g other past o n = joined-is other (packet_parts past) ∙ go past o
  where
    one : (p : Packet) (parts : List Part) → group_of p ≡ Some g → joined_by_part other parts ≡ None
        → joined_by_part other (option_to_list (part_of 0 p) ++ parts) ≡ None
    one (packet.Exclusive gr f bytes) parts e h = rw (ne_eqb gr other (λ q. n (sym (same_Some gr g e) ∙ q))) h
    one (packet.Utility s v) parts e h = h
    one (packet.System gr m) parts e h = h
    one (packet.Voice1 gr m) parts e h = h
    one (packet.Voice2 gr m) parts e h = h
    one (packet.Data8 gr w) parts e h = h
    one (packet.Flex gr w) parts e h = h
    one (packet.Stream f s l w x y) parts e h = h
    one (packet.Reserved w) parts e h = h

    go : (ps : List Packet) → AreOf g ps → joined_by_part other (packet_parts ps) ≡ None
    go [] o = refl
    go (p ∷ ps) o = one p (packet_parts ps) o.0 (go ps o.1)

module _ (paired : Bool) where
  pub record IsSilentVoice (m : Voice2) : Type 0 where
    pub unlisted : voice_kind paired m ≡ None
    pub accepted : bad_voice2 m ≡ None
    pub carried : is_carried_voice paired m ≡ true

  abbrev pub IsSilent : ℕ → List Packet → Packet → Type 0
  IsSilent room past (packet.System g m) = Unit {0}
  IsSilent room past (packet.Exclusive g f bytes) = IsSilentPart room (begun g past) f bytes
  IsSilent room past (packet.Voice2 g m) = IsSilentVoice m
  IsSilent room past _ = ⊥

  abbrev pub AreSilent : ℕ → List Packet → Type 0
  AreSilent room [] = Unit {0}
  AreSilent room (p ∷ past) = IsSilent room past p × AreSilent room past

  -- ---- voice messages

  control_silent : (r : Role) (ch i v : ℕ) → pairing paired (role_of i) ≡ r → is_carried_role r ≡ true
      → IsSilentVoice (voice2.Control ch i v)
  control_silent reset_all ch i v e c =
      record { unlisted = simp e; accepted = sym (bad-pairing paired (role_of i)) ∙ ap bad_role e; carried = simp e }
  control_silent channel_mode ch i v e c =
      record { unlisted = simp e; accepted = sym (bad-pairing paired (role_of i)) ∙ ap bad_role e; carried = simp e }
  control_silent coarse ch i v e c =
      record { unlisted = simp e; accepted = sym (bad-pairing paired (role_of i)) ∙ ap bad_role e; carried = simp e }
  control_silent plain ch i v e c =
      record { unlisted = simp e; accepted = sym (bad-pairing paired (role_of i)) ∙ ap bad_role e; carried = simp e }
  control_silent _ ch i v e c = cc

  entry_silent : (o : Option Param) (s : Channel) (ch w : ℕ) → selected s.registers ≡ o → AllByRecursion IsSilentVoice (raised_entry ch o w)
  entry_silent None s ch w e = tt
  entry_silent (Some p) s ch w e =
      let n = selected-is s.registers p e in
      (record { unlisted = simp n; accepted = refl; carried = simp n }, tt)

  raised_control_silent : (r : Role) (s : Channel) (ch i v : ℕ) → pairing paired (role_of i) ≡ r
      → AllByRecursion IsSilentVoice (raised_control s r ch i v)
  raised_control_silent data_msb s ch i v e = entry_silent (selected s.registers) s ch _ refl
  raised_control_silent data_lsb s ch i v e = entry_silent (selected s.registers) s ch _ refl
  raised_control_silent reset_all s ch i v e = (control_silent reset_all ch i (up v 7 32) e refl, tt)
  raised_control_silent channel_mode s ch i v e = (control_silent channel_mode ch i (up v 7 32) e refl, tt)
  raised_control_silent coarse s ch i v e = (control_silent coarse ch i _ e refl, tt)
  raised_control_silent fine s ch i v e = (control_silent coarse ch (i - 32) _ (pair_coarse paired i e) refl, tt)
  raised_control_silent plain s ch i v e = (control_silent plain ch i (up v 7 32) e refl, tt)
  raised_control_silent _ s ch i v e = tt

  voice_silent : (m : Voice1) (s : Channel) → AllByRecursion IsSilentVoice (raised_voice paired s m)
  voice_silent (voice1.NoteOff ch n v) s = (record { unlisted = refl; accepted = refl; carried = refl }, tt)
  voice_silent (voice1.NoteOn ch n v) s = (
    cond_both (eqb v 0) (voice2.NoteOff ch n 0x8000 0 0) (voice2.NoteOn ch n (up v 7 16) 0 0) IsSilentVoice
        (λ e. record { unlisted = refl; accepted = refl; carried = refl })
        (λ e. record { unlisted = refl; accepted = refl; carried = refl }),
    tt,
  )
  voice_silent (voice1.PolyPressure ch n v) s = (record { unlisted = refl; accepted = refl; carried = refl }, tt)
  voice_silent (voice1.Control ch i v) s = raised_control_silent (pairing paired (role_of i)) s ch i v refl
  voice_silent (voice1.Program ch p) s = (record { unlisted = refl; accepted = refl; carried = refl }, tt)
  voice_silent (voice1.Pressure ch v) s = (record { unlisted = refl; accepted = refl; carried = refl }, tt)
  voice_silent (voice1.Bend ch v) s = (record { unlisted = refl; accepted = refl; carried = refl }, tt)

  -- ---- exclusives

  behind_silent : (room g : ℕ) (payload : List ℕ) (past : List Packet) (k : ℕ) → begun g past ≡ None → length payload ≤ room
      → AreSilent room past → k ≤ part_count payload → AreSilent room (behind g payload past k)
  unfolding behind
  behind_silent room g payload past zero n b a h = a
  behind_silent room g payload past (suc k) n b a h =
      (part_silent room g payload past k n b (omega arith), behind_silent room g payload past k n b a (omega arith))

  -- ---- the packets of a message

  -- after these packets nothing of the group is open
  pub record LeavesNothing (room g : ℕ) (past : List Packet) : Type 0 where
    pub silent : AreSilent room past
    pub nothing : begun g past ≡ None

  exclusive_silent : (room g : ℕ) (payload : List ℕ) (past : List Packet) → length payload ≤ room → LeavesNothing room g past
      → LeavesNothing room g (reverse (exclusive_packets g payload) ++ past)
  exclusive_silent room g payload past b h =
      subst (LeavesNothing room g) (sym (turned-first g payload past (part_count payload))) (go (part_count payload) refl)
    where
      go : (n : ℕ) → part_count payload ≡ n → LeavesNothing room g (behind g payload past n)
      go zero e = absurd (omega (arith, e))
      go (suc n) e = record {
        silent = behind_silent room g payload past (suc n) h.nothing b h.silent (omega (arith, e));
        nothing = begun-end g payload past n e;
      }

  voices_silent : (room g : ℕ) (ms : List Voice2) (past : List Packet) → AllByRecursion IsSilentVoice ms → LeavesNothing room g past
      → LeavesNothing room g (reverse (map (packet.Voice2 g) ms) ++ past)
  voices_silent room g [] past a h = h
  voices_silent room g (m ∷ ms) past a h =
      subst (LeavesNothing room g) (sym (turned (packet.Voice2 g m) (map (packet.Voice2 g) ms) past))
      (voices_silent room g ms (packet.Voice2 g m ∷ past) a.1 (record { silent = (a.0, h.silent); nothing = h.nothing }))

  message_silent : (room g : ℕ) (s : GroupState) (m : Message) (past : List Packet) → FitsMessage room (Some m) → LeavesNothing room g past
      → LeavesNothing room g (reverse (raised_message paired s g m) ++ past)
  message_silent room g s (voice m) past b h =
      voices_silent room g (raised_voice paired (s.channels (channel_of m)) m) past (voice_silent m (s.channels (channel_of m))) h
  message_silent room g s (common m) past b h = record { silent = (tt, h.silent); nothing = h.nothing }
  message_silent room g s (real_time m) past b h = record { silent = (tt, h.silent); nothing = h.nothing }
  message_silent room g s (exclusive bytes) past b h = exclusive_silent room g bytes past b h

  completed_silent : (room g : ℕ) (s : GroupState) (o : Option Message) (past : List Packet) → FitsMessage room o
      → LeavesNothing room g past → LeavesNothing room g (reverse (raised_completed paired s g o) ++ past)
  completed_silent room g s None past b h = h
  completed_silent room g s (Some m) past b h = message_silent room g s m past b h

  pub raised_silent : (room g : ℕ) (past : List ℕ) → LeavesNothing room g (reverse (packets_up paired (Some room) g past))
  raised_silent room g [] = record { silent = tt; nothing = refl }
  raised_silent room g (b ∷ past) =
      subst (LeavesNothing room g) (sym (packets_up-turned paired (Some room) g past b))
      (completed_silent room g (meaning1 paired past) (completed_by (step_of (Some room) past b))
      (reverse (packets_up paired (Some room) g past)) (completed_fits_room room past b) (raised_silent room g past))

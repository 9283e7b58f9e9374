-- One more packet, with its compact piece, keeps what a lane denotes, and what is relied on.
use Rattle.std.proofs.Common.{ℕ, ◌≡◌, ◌<◌, ◌/◌, ◌%◌, ◌∙◌, ap, sym, refl, subst, List, [], ◌∷◌, ◌++◌, reverse}
use Rattle.std.proofs.Common.{length, drop, Option, Some, None, Bool, true, false, cond, arith, ◌⊎◌, inl, inr}
use Rattle.std.proofs.lemmas.Bool.{cond_both, ne_eqb}
use Rattle.std.proofs.lemmas.List.{append-nil}
use Rattle.std.specs.List.{fold, AllByRecursion}
use mathlib.Core.List.{reverse_aux}
use mathlib.Core.Path.{subst₂}
use lib.Dec.{eqb}
use Rattle.voice_messages.specs.declared.voice1.System.{System}
use Rattle.voice_messages.specs.declared.voice1.System.TheVariants as system
use Rattle.voice_messages.specs.declared.voice1.Voice1.{Voice1}
use Rattle.voice_messages.specs.declared.voice1.Voice1.TheVariants as voice1
use Rattle.voice_messages.specs.declared.voice2.Bank.{Bank}
use Rattle.voice_messages.specs.declared.voice2.Form.{Form}
use Rattle.voice_messages.specs.declared.voice2.Param.{Param}
use Rattle.voice_messages.specs.declared.voice2.Voice2.{Voice2}
use Rattle.voice_messages.specs.declared.voice2.Voice2.TheVariants as voice2
use Rattle.ump_grammar.specs.declared.packet.Packet.{Packet}
use Rattle.ump_grammar.specs.declared.packet.Packet.TheVariants as packet
use Rattle.bit_scaling.specs.Scaling.{down14}
use Rattle.midi1_bytes.specs.Laws.{StatusesThatRunCanBeLeftOut}
use Rattle.midi1_bytes.specs.Messages.{Message, voice, common, exclusive, real_time, spelled, spelled_voice, IsMessage}
use Rattle.midi1_bytes.specs.RunningStatus.{IsKnownIn, is_running, without_status, written_behind}
use Rattle.midi1_bytes.specs.Steps.{ReadsAs}
use Rattle.midi1_bytes.specs.Stream.{open_in, running}
use Rattle.midi_meaning.specs.Registers.{Pair, Registers, is_null}
use Rattle.midi_meaning.specs.Controllers.{Role, channel_mode, reset_all, coarse, plain, role_of, pairing}
use Rattle.listing_terms.specs.Parts.{whole_of}
use Rattle.midi_meaning.specs.State.{GroupState}
use Rattle.midi_meaning.specs.Messages.{meaning1, step1}
use Rattle.midi_meaning.specs.Packets.{meaning2, step2, IsInRange}
use Rattle.midi_meaning.specs.Listing.{is_carried}
use Rattle.midi_meaning.specs.Plain.{control_messages, program_messages, set_messages}
use Rattle.midi_meaning.specs.Plain.{voice_messages, ended_messages, plain_messages, plain_piece}
use Rattle.midi_meaning.specs.Lanes.{Denotes}
use Rattle.midi_meaning.specs.Compact.{since_reset, has_bank, is_selected, registers_in, needed_messages, needed_set, compact_piece}
use Rattle.midi_meaning.specs.StyleLaws.{selects}
use Rattle.midi_meaning.specs.Relied.{PairIsSameIn, AreSameIn, IsRelied}
use Rattle.midi_meaning.proofs.Induction.{plain_is_message, matches_of, meaning1-piece}
use Rattle.midi_meaning.proofs.Joined.{whole_data}
use Rattle.midi_meaning.proofs.Packets.{GroupMatches, matches-packet}
use Rattle.midi_meaning.proofs.SameRegisters.{same-fold}
use Rattle.midi_meaning.proofs.Needed.{IsSome, needed-means, all_needed, carried-needs, uncarried-needs}

-- ---- bytes that are no System Reset

abbrev pub NotReset : Message → Type 0
NotReset (real_time system.Reset) = ⊥
NotReset _ = Unit {0}

abbrev IsOther : ℕ → Type 0
IsOther b = eqb b 0xff ≡ false

other : (b : ℕ) → b < 0xff → IsOther b
other b h = ne_eqb b 0xff (λ e. omega arith)

others_append : (xs ys : List ℕ) → AllByRecursion IsOther xs → AllByRecursion IsOther ys → AllByRecursion IsOther (xs ++ ys)
others_append [] ys h k = k
others_append (x ∷ xs) ys h k = (h.0, others_append xs ys h.1 k)

others_data : (xs : List ℕ) → AllByRecursion (λ b. b < 128) xs → AllByRecursion IsOther xs
others_data [] h = tt
others_data (x ∷ xs) h = (other x (omega arith), others_data xs h.1)

others_reverse : (xs acc : List ℕ) → AllByRecursion IsOther xs → AllByRecursion IsOther acc → AllByRecursion IsOther (reverse_aux xs acc)
others_reverse [] acc h k = k
others_reverse (x ∷ xs) acc h k = others_reverse xs (x ∷ acc) h.1 (h.0, k)

spelled_others : (m : Message) → IsMessage m → NotReset m → AllByRecursion IsOther (spelled m)
spelled_others (voice (voice1.NoteOff ch n v)) b h = (other _ (omega arith), (other n (omega arith), (other v (omega arith), tt)))
spelled_others (voice (voice1.NoteOn ch n v)) b h = (other _ (omega arith), (other n (omega arith), (other v (omega arith), tt)))
spelled_others (voice (voice1.PolyPressure ch n v)) b h = (other _ (omega arith), (other n (omega arith), (other v (omega arith), tt)))
spelled_others (voice (voice1.Control ch n v)) b h = (other _ (omega arith), (other n (omega arith), (other v (omega arith), tt)))
spelled_others (voice (voice1.Program ch v)) b h = (other _ (omega arith), (other v (omega arith), tt))
spelled_others (voice (voice1.Pressure ch v)) b h = (other _ (omega arith), (other v (omega arith), tt))
spelled_others (voice (voice1.Bend ch v)) b h = (other _ (omega arith), (other _ (omega arith), (other _ (omega arith), tt)))
spelled_others (common (system.Quarter n)) b h = (refl, (other n (omega arith), tt))
spelled_others (common (system.Position n)) b h = (refl, (other _ (omega arith), (other _ (omega arith), tt)))
spelled_others (common (system.Song n)) b h = (refl, (other n (omega arith), tt))
spelled_others (common system.Tune) b h = (refl, tt)
spelled_others (common _) b h = absurd b
spelled_others (exclusive bytes) b h = (refl, others_append bytes (0xf7 ∷ []) (others_data bytes b) (refl, tt))
spelled_others (real_time system.Clock) b h = (refl, tt)
spelled_others (real_time system.Start) b h = (refl, tt)
spelled_others (real_time system.Continue) b h = (refl, tt)
spelled_others (real_time system.Stop) b h = (refl, tt)
spelled_others (real_time system.Sensing) b h = (refl, tt)
spelled_others (real_time system.Reset) b h = absurd h
spelled_others (real_time _) b h = absurd b

less_others : (r : Option ℕ) (bytes : List ℕ) → AllByRecursion IsOther bytes → AllByRecursion IsOther (without_status r bytes)
less_others r [] h = tt
less_others r (s ∷ bytes) h = cond_both (is_running r s) bytes (s ∷ bytes) (AllByRecursion IsOther) (λ e. h.1) (λ e. h)

written_others : (ms : List Message) (before : List ℕ) → AllByRecursion IsMessage ms → AllByRecursion NotReset ms
    → AllByRecursion IsOther (written_behind before ms)
written_others [] before a h = tt
written_others (m ∷ ms) before a h =
    others_append (without_status (running before) (spelled m)) _ (less_others (running before) (spelled m) (spelled_others m a.0 h.0))
    (written_others ms _ a.1 h.1)

after_others : (bytes past : List ℕ) → AllByRecursion IsOther bytes → since_reset (bytes ++ past) ≡ bytes ++ since_reset past
after_others [] past h = refl
after_others (b ∷ bytes) past h = rw h.0 (ap (λ l. b ∷ l) (after_others bytes past h.1))

-- ---- packets that are no System Reset

abbrev pub IsReset : Packet → Type 0
IsReset p = (gr : ℕ) × (p ≡ packet.System gr system.Reset)

not_reset_control : (r : Role) (ch i v : ℕ) → AllByRecursion NotReset (control_messages r ch i v)
not_reset_control channel_mode ch i v = (tt, tt)
not_reset_control reset_all ch i v = (tt, tt)
not_reset_control plain ch i v = (tt, tt)
not_reset_control coarse ch i v = (tt, (tt, tt))
not_reset_control _ ch i v = tt

not_reset_set : (t : Bool) (ms : List Message) → AllByRecursion NotReset ms → AllByRecursion NotReset (cond t [] ms)
not_reset_set true ms h = tt
not_reset_set false ms h = h

not_reset_ended : (whole : Option (List ℕ)) → AllByRecursion NotReset (ended_messages whole)
not_reset_ended None = tt
not_reset_ended (Some bytes) = (tt, tt)

-- the registers of a channel
abbrev SameAt : ℕ → GroupState → GroupState → Type 0
SameAt j g1 g2 = AreSameIn (g1.channels j).registers (g2.channels j).registers

module _ (paired : Bool) where
  not_reset_voice : (v : Voice2) → AllByRecursion NotReset (voice_messages paired v)
  not_reset_voice (voice2.Control ch i v) = not_reset_control (pairing paired (role_of i)) ch i v
  not_reset_voice (voice2.Set ch p v) = not_reset_set (is_null p) (set_messages ch p (down14 v)) (tt, (tt, (tt, (tt, tt))))
  not_reset_voice (voice2.Program ch p None) = (tt, tt)
  not_reset_voice (voice2.Program ch p (Some b)) = (tt, (tt, (tt, tt)))
  not_reset_voice (voice2.NoteOff ch n v t a) = (tt, tt)
  not_reset_voice (voice2.NoteOn ch n v t a) = (tt, tt)
  not_reset_voice (voice2.PolyPressure ch n v) = (tt, tt)
  not_reset_voice (voice2.Pressure ch v) = (tt, tt)
  not_reset_voice (voice2.Bend ch v) = (tt, tt)
  not_reset_voice _ = tt

  pub reset_or_other : (whole : Option (List ℕ)) (p : Packet) → IsReset p ⊎ AllByRecursion NotReset (plain_messages paired whole p)
  reset_or_other whole (packet.System gr system.Reset) = inl (gr, refl)
  reset_or_other whole (packet.System gr (system.Quarter n)) = inr (tt, tt)
  reset_or_other whole (packet.System gr (system.Position n)) = inr (tt, tt)
  reset_or_other whole (packet.System gr (system.Song n)) = inr (tt, tt)
  reset_or_other whole (packet.System gr system.Tune) = inr (tt, tt)
  reset_or_other whole (packet.System gr system.Clock) = inr (tt, tt)
  reset_or_other whole (packet.System gr system.Start) = inr (tt, tt)
  reset_or_other whole (packet.System gr system.Continue) = inr (tt, tt)
  reset_or_other whole (packet.System gr system.Stop) = inr (tt, tt)
  reset_or_other whole (packet.System gr system.Sensing) = inr (tt, tt)
  reset_or_other whole (packet.Voice1 gr v) = inr (tt, tt)
  reset_or_other whole (packet.Exclusive gr f bytes) = inr (not_reset_ended whole)
  reset_or_other whole (packet.Voice2 gr v) = inr (not_reset_voice v)
  reset_or_other whole _ = inr tt

  -- what is written of a packet that is no System Reset comes after what was relied on
  pub after_piece : (past : List ℕ) (whole : Option (List ℕ)) (p : Packet) → AllByRecursion IsMessage (plain_messages paired whole p)
      → AllByRecursion NotReset (plain_messages paired whole p)
      → since_reset (reverse (compact_piece paired past whole p) ++ past) ≡ reverse (compact_piece paired past whole p) ++ since_reset past
  after_piece past whole p a n =
      let before = since_reset past in
      let r = registers_in paired before in
      let piece = compact_piece paired past whole p in
      let others : AllByRecursion IsOther piece =
      written_others (needed_messages paired r whole p) before (all_needed paired IsMessage r whole p a)
      (all_needed paired NotReset r whole p n) in
      after_others (reverse piece) past (others_reverse piece [] others tt)

  -- nothing is relied on after System Reset
  pub reset_piece : StatusesThatRunCanBeLeftOut → (all : List ℕ) (whole : Option (List ℕ)) (gr : ℕ)
      → reverse (compact_piece paired all whole (packet.System gr system.Reset)) ++ all ≡ 0xff ∷ all
  reset_piece rules all whole gr = ap (λ l. reverse (l ++ []) ++ all) (rules.system system.Reset (since_reset all))

  pub start_relied : IsRelied paired []
  start_relied = record {
    running = λ s e. e;
    registers = λ j. record { bank = same_pair; registered = same_pair; assignable = same_pair; touched = λ x e. e };
    closed = refl;
  }
    where
      same_pair : {p : Pair} → PairIsSameIn p p
      same_pair = record { msb = λ x e. e; lsb = λ x e. e }

  reset_relied : (all : List ℕ) → IsRelied paired (0xff ∷ all)
  reset_relied all = record {
    running = λ s e. cc;
    registers = λ j. record { bank = nothing_in; registered = nothing_in; assignable = nothing_in; touched = λ x e. cc };
    closed = refl;
  }
    where
      nothing_in : {p : Pair} → PairIsSameIn (record { msb = None; lsb = None }) p
      nothing_in = record { msb = λ x e. cc; lsb = λ x e. cc }

  -- ---- one more packet

  -- after the last bytes alone
  pub last_read : StatusesThatRunCanBeLeftOut → (all : List ℕ) (whole : Option (List ℕ)) (p : Packet)
      → AllByRecursion IsMessage (plain_messages paired whole p) → IsRelied paired all
      → ReadsAs (since_reset all) (compact_piece paired all whole p)
      (needed_messages paired (registers_in paired (since_reset all)) whole p)
  last_read rules all whole p a k =
      let before = since_reset all in
      rules.reads (needed_messages paired (registers_in paired before) whole p) before before
      (all_needed paired IsMessage (registers_in paired before) whole p a) k.closed (λ s e. e)

  -- what a piece leaves, after all bytes and after those that are relied on
  record BothRead (all : List ℕ) (whole : Option (List ℕ)) (p : Packet) : Type 0 where
    all_reads : ReadsAs all (compact_piece paired all whole p) (needed_messages paired (registers_in paired (since_reset all)) whole p)
    last_reads : ReadsAs (since_reset all) (compact_piece paired all whole p)
        (needed_messages paired (registers_in paired (since_reset all)) whole p)

  both_read : StatusesThatRunCanBeLeftOut → (all : List ℕ) (whole : Option (List ℕ)) (p : Packet)
      → AllByRecursion IsMessage (plain_messages paired whole p) → open_in None all ≡ None → IsRelied paired all → BothRead all whole p
  both_read rules all whole p a closed k =
      let before = since_reset all in
      let ms = needed_messages paired (registers_in paired before) whole p in
      let am : AllByRecursion IsMessage ms = all_needed paired IsMessage (registers_in paired before) whole p a in
      record { all_reads = rules.reads ms before all am closed k.running; last_reads = last_read rules all whole p a k }

  other_relied : StatusesThatRunCanBeLeftOut → (all : List ℕ) (whole : Option (List ℕ)) (p : Packet)
      → AllByRecursion IsMessage (plain_messages paired whole p) → AllByRecursion NotReset (plain_messages paired whole p)
      → BothRead all whole p → IsRelied paired all → IsRelied paired (reverse (compact_piece paired all whole p) ++ all)
  other_relied rules all whole p a n both k =
      let before = since_reset all in
      let piece = compact_piece paired all whole p in
      let ms = needed_messages paired (registers_in paired before) whole p in
      let grown : since_reset (reverse piece ++ all) ≡ reverse piece ++ before = after_piece all whole p a n in
      record {
        running = subst (λ l. IsKnownIn (running l) (reverse piece ++ all)) (sym grown) (rules.known (reverse piece) before all k.running);
        registers = λ j. subst (λ l. AreSameIn (registers_in paired l j) (registers_in paired (reverse piece ++ all) j)) (sym grown)
            (subst₂ (SameAt j) (sym (meaning1-piece paired before piece ms both.last_reads))
            (sym (meaning1-piece paired all piece ms both.all_reads))
            (same-fold paired ms (meaning1 paired before) (meaning1 paired all) k.registers j));
        closed = ap (open_in None) grown ∙ both.last_reads.closed;
      }

  pub more_relied : StatusesThatRunCanBeLeftOut → (all : List ℕ) (whole : Option (List ℕ)) (p : Packet)
      → AllByRecursion IsMessage (plain_messages paired whole p) → open_in None all ≡ None → IsRelied paired all
      → IsRelied paired (reverse (compact_piece paired all whole p) ++ all)
  more_relied rules all whole p a closed k = either (reset_or_other whole p)
    where
      either : IsReset p ⊎ AllByRecursion NotReset (plain_messages paired whole p)
          → IsRelied paired (reverse (compact_piece paired all whole p) ++ all)
      either (inl e) =
          subst (IsRelied paired) (sym (ap (λ q. reverse (compact_piece paired all whole q) ++ all) e.1 ∙ reset_piece rules all whole e.0))
          (reset_relied all)
      either (inr n) = other_relied rules all whole p a n (both_read rules all whole p a closed k) k

  pub compact_matches : StatusesThatRunCanBeLeftOut → (all : List ℕ) (past : List Packet) (p : Packet) (g : ℕ)
      → AllByRecursion IsInRange past → IsInRange p → Denotes paired all past g → IsRelied paired all
      → GroupMatches paired (meaning1 paired (reverse (compact_piece paired all (whole_of past p) p) ++ all))
      (step2 paired (meaning2 paired past g) p (whole_of past p))
      × (open_in None (reverse (compact_piece paired all (whole_of past p) p) ++ all) ≡ None)
  compact_matches rules all past p g a b d k =
      let whole = whole_of past p in
      let before = since_reset all in
      let piece = compact_piece paired all whole p in
      let ms = needed_messages paired (registers_in paired before) whole p in
      let both = both_read rules all whole p (plain_is_message paired whole p (whole_data past p a b) b) d.closed k in
      let means : meaning1 paired (reverse piece ++ all) ≡ fold (step1 paired) (meaning1 paired all) (plain_messages paired whole p) =
      meaning1-piece paired all piece ms both.all_reads
      ∙ needed-means paired (registers_in paired before) whole p (meaning1 paired all) k.registers in (
        subst (λ s. GroupMatches paired s (step2 paired (meaning2 paired past g) p whole)) (sym means)
            (matches-packet paired whole p (meaning1 paired all) (meaning2 paired past g) b (matches_of paired all past g d)),
        both.all_reads.closed,
      )

  -- ---- pieces that are empty

  pub uncarried_compact : (past : List ℕ) (whole : Option (List ℕ)) (p : Packet) → is_carried paired whole p ≡ false
      → compact_piece paired past whole p ≡ []
  uncarried_compact past whole p e =
      ap (written_behind (since_reset past)) (uncarried-needs paired (registers_in paired (since_reset past)) whole p e)

  pub carried_compact : StatusesThatRunCanBeLeftOut → (past : List ℕ) (whole : Option (List ℕ)) (p : Packet)
      → is_carried paired whole p ≡ true → 0 < length (compact_piece paired past whole p)
  carried_compact rules past whole p e =
      some (needed_messages paired (registers_in paired (since_reset past)) whole p)
      (carried-needs paired (registers_in paired (since_reset past)) whole p e)
    where
      some : (ms : List Message) → IsSome ms → 0 < length (written_behind (since_reset past) ms)
      some [] h = absurd h
      some (m ∷ ms) h = rules.something m ms (since_reset past)

  -- ---- system messages and exclusives are written whole

  pub system_plain : StatusesThatRunCanBeLeftOut → (past : List ℕ) (whole : Option (List ℕ)) (gr : ℕ) (m : System)
      → compact_piece paired past whole (packet.System gr m) ≡ plain_piece paired whole (packet.System gr m)
  system_plain rules past whole gr (system.Quarter n) = ap (λ l. l ++ []) (rules.system (system.Quarter n) (since_reset past))
  system_plain rules past whole gr (system.Position n) = ap (λ l. l ++ []) (rules.system (system.Position n) (since_reset past))
  system_plain rules past whole gr (system.Song n) = ap (λ l. l ++ []) (rules.system (system.Song n) (since_reset past))
  system_plain rules past whole gr system.Tune = ap (λ l. l ++ []) (rules.system system.Tune (since_reset past))
  system_plain rules past whole gr system.Clock = ap (λ l. l ++ []) (rules.system system.Clock (since_reset past))
  system_plain rules past whole gr system.Start = ap (λ l. l ++ []) (rules.system system.Start (since_reset past))
  system_plain rules past whole gr system.Continue = ap (λ l. l ++ []) (rules.system system.Continue (since_reset past))
  system_plain rules past whole gr system.Stop = ap (λ l. l ++ []) (rules.system system.Stop (since_reset past))
  system_plain rules past whole gr system.Sensing = ap (λ l. l ++ []) (rules.system system.Sensing (since_reset past))
  system_plain rules past whole gr system.Reset = ap (λ l. l ++ []) (rules.system system.Reset (since_reset past))

  pub exclusive_plain : StatusesThatRunCanBeLeftOut → (past : List ℕ) (whole : Option (List ℕ)) (gr : ℕ) (f : Form) (bytes : List ℕ)
      → compact_piece paired past whole (packet.Exclusive gr f bytes) ≡ plain_piece paired whole (packet.Exclusive gr f bytes)
  exclusive_plain rules past None gr f bytes = refl
  exclusive_plain rules past (Some js) gr f bytes = ap (λ l. l ++ []) (rules.exclusive js (since_reset past))

  -- ---- what is left out

  pub midi1_written : (past : List ℕ) (whole : Option (List ℕ)) (gr : ℕ) (m : Voice1)
      → compact_piece paired past whole (packet.Voice1 gr m) ≡ without_status (running (since_reset past)) (spelled_voice m)
  midi1_written past whole gr m = append-nil (without_status (running (since_reset past)) (spelled_voice m))

  pub other_written : (past : List ℕ) (whole : Option (List ℕ)) (p : Packet) → selects p ≡ false
      → compact_piece paired past whole p ≡ written_behind (since_reset past) (plain_messages paired whole p)
  other_written past whole (packet.Utility s v) isnt = refl
  other_written past whole (packet.System gr m) isnt = refl
  other_written past whole (packet.Voice1 gr m) isnt = refl
  other_written past whole (packet.Exclusive gr f bytes) isnt = refl
  other_written past whole (packet.Voice2 gr (voice2.NoteOff ch n v t a)) isnt = refl
  other_written past whole (packet.Voice2 gr (voice2.NoteOn ch n v t a)) isnt = refl
  other_written past whole (packet.Voice2 gr (voice2.PolyPressure ch n v)) isnt = refl
  other_written past whole (packet.Voice2 gr (voice2.Control ch i v)) isnt = refl
  other_written past whole (packet.Voice2 gr (voice2.Set ch p v)) isnt = absurd (let e = isnt in cc)
  other_written past whole (packet.Voice2 gr (voice2.Shift ch p v)) isnt = refl
  other_written past whole (packet.Voice2 gr (voice2.Program ch n None)) isnt = refl
  other_written past whole (packet.Voice2 gr (voice2.Program ch n (Some b))) isnt = absurd (let e = isnt in cc)
  other_written past whole (packet.Voice2 gr (voice2.Pressure ch v)) isnt = refl
  other_written past whole (packet.Voice2 gr (voice2.Bend ch v)) isnt = refl
  other_written past whole (packet.Voice2 gr (voice2.NoteController ch k n i v)) isnt = refl
  other_written past whole (packet.Voice2 gr (voice2.NoteBend ch n v)) isnt = refl
  other_written past whole (packet.Voice2 gr (voice2.NoteManagement ch n flags)) isnt = refl
  other_written past whole (packet.Data8 gr w) isnt = refl
  other_written past whole (packet.Flex gr w) isnt = refl
  other_written past whole (packet.Stream f s l w x y) isnt = refl
  other_written past whole (packet.Reserved w) isnt = refl

  pub new_parameter_written : (past : List ℕ) (whole : Option (List ℕ)) (gr ch v : ℕ) (p : Param)
      → is_selected (registers_in paired (since_reset past) ch) p ≡ false
      → compact_piece paired past whole (packet.Voice2 gr (voice2.Set ch p v)) ≡
      written_behind (since_reset past) (plain_messages paired whole (packet.Voice2 gr (voice2.Set ch p v)))
  new_parameter_written past whole gr ch v p isnt =
      let ms : List Message = set_messages ch p (down14 v) in
      ap (λ t. written_behind (since_reset past) (cond (is_null p) [] (cond t (drop 2 ms) ms))) isnt

  pub new_bank_written : (past : List ℕ) (whole : Option (List ℕ)) (gr ch program : ℕ) (b : Bank)
      → has_bank (registers_in paired (since_reset past) ch) b ≡ false
      → compact_piece paired past whole (packet.Voice2 gr (voice2.Program ch program (Some b))) ≡
      written_behind (since_reset past) (plain_messages paired whole (packet.Voice2 gr (voice2.Program ch program (Some b))))
  new_bank_written past whole gr ch program b isnt =
      let ms : List Message = program_messages ch program (Some b) in
      ap (λ t. written_behind (since_reset past) (cond t (drop 2 ms) ms)) isnt

  pub parameter_written : (past : List ℕ) (whole : Option (List ℕ)) (gr ch v : ℕ) (p : Param)
      → is_null p ≡ false → is_selected (registers_in paired (since_reset past) ch) p ≡ true
      → compact_piece paired past whole (packet.Voice2 gr (voice2.Set ch p v)) ≡
      written_behind (since_reset past) (voice (voice1.Control ch 6 (down14 v / 128)) ∷ voice (voice1.Control ch 38 (down14 v % 128)) ∷ [])
  parameter_written past whole gr ch v p some is =
      let ms : List Message = set_messages ch p (down14 v) in
      let rs : Registers = registers_in paired (since_reset past) ch in
      ap (λ t. written_behind (since_reset past) (cond t [] (needed_set rs ch p (down14 v)))) some
      ∙ ap (λ t. written_behind (since_reset past) (cond t (drop 2 ms) ms)) is

  pub program_written : (past : List ℕ) (whole : Option (List ℕ)) (gr ch program : ℕ) (b : Bank)
      → has_bank (registers_in paired (since_reset past) ch) b ≡ true
      → compact_piece paired past whole (packet.Voice2 gr (voice2.Program ch program (Some b))) ≡
      without_status (running (since_reset past)) (spelled_voice (voice1.Program ch program))
  program_written past whole gr ch program b is =
      let ms : List Message = program_messages ch program (Some b) in
      ap (λ t. written_behind (since_reset past) (cond t (drop 2 ms) ms)) is
      ∙ append-nil (without_status (running (since_reset past)) (spelled_voice (voice1.Program ch program)))

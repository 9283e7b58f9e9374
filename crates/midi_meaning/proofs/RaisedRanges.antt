-- The packets of the way up have their fields in range: the halves of registers stay below 128.
use Rattle.std.proofs.Common.{ℕ, ◌+◌, ◌*◌, ◌/◌, ◌≡◌, ◌<◌, ◌≤◌, sym, refl, subst, zero, suc, List, [], ◌∷◌, ◌++◌, map}
use Rattle.std.proofs.Common.{take, drop, length, Option, Some, None, Bool, true, false, cond, arith, length-take, ◌-◌}
use Rattle.std.specs.Prelude.{◌&&◌}
use Rattle.std.proofs.lemmas.Bool.{cond_both}
use Rattle.std.proofs.lemmas.Option.{same_Some}
use Rattle.std.proofs.lemmas.List.Elements.{All-from_recursion}
use Rattle.std.specs.Option.{IfSome, unwrap_or, option_and_then, option_to_list}
use Rattle.std.specs.List.{AllByRecursion, fold}
use Rattle.std.specs.Fork.{slice_chunk}
use lib.Dec.{eqb}
use Rattle.voice_messages.specs.declared.voice1.Voice1.{Voice1}
use Rattle.voice_messages.specs.declared.voice1.Voice1.TheVariants as voice1
use Rattle.voice_messages.specs.declared.voice1.System.{System}
use Rattle.voice_messages.specs.declared.voice1.System.TheVariants as system
use Rattle.voice_messages.specs.declared.voice2.Voice2.{Voice2}
use Rattle.voice_messages.specs.declared.voice2.Voice2.TheVariants as voice2
use Rattle.voice_messages.specs.declared.voice2.ParamKind.{ParamKind}
use Rattle.voice_messages.specs.declared.voice2.ParamKind.TheVariants.{Registered, Assignable}
use Rattle.voice_messages.specs.declared.voice2.Param.{Param}
use Rattle.voice_messages.specs.Ranges.{IsVoice1, IsVoice2, IsBank, IsParam, IsSystem}
use Rattle.bit_scaling.specs.Scaling.{up}
use Rattle.bit_scaling.specs.ForProofs.Scaled.{up_7_16_fits, up_7_32_fits, up_14_32_fits}
use Rattle.ump_grammar.specs.declared.packet.Packet.{Packet}
use Rattle.ump_grammar.specs.declared.packet.Packet.TheVariants as packet
use Rattle.ump_grammar.specs.Ranges.{IsPacket}
use Rattle.sysex_groups.specs.Cut.{part_count}
use Rattle.midi1_bytes.specs.Messages.{Message, voice, common, exclusive, real_time, IsMessage, IsCommon, IsRealTime, AreData}
use Rattle.midi1_bytes.specs.Stream.{Room}
use Rattle.midi1_bytes.specs.Steps.{completed_by, step_of}
use Rattle.midi1_bytes.specs.Laws.{CompletedMessagesAreInRange}
use Rattle.sysex_groups.specs.Laws.{CutPayloadIsJoined}
use Rattle.midi_meaning.specs.Registers.{Pair, Registers, bank_of, bank_by, selected, selected_by, selected_of}
use Rattle.midi_meaning.specs.Controllers.{Role, bank_msb, bank_lsb, data_msb, data_lsb, data_increment, data_decrement}
use Rattle.midi_meaning.specs.Controllers.{number_msb, number_lsb, reset_all, channel_mode, coarse, fine, plain, role_of, pairing}
use Rattle.midi_meaning.specs.State.{Channel, GroupState}
use Rattle.midi_meaning.specs.Messages.{of_bytes, as_they_come, enter_msb, enter_lsb, control, voice_at, channel_of, step1, meaning1}
use Rattle.midi_meaning.specs.Packets.{IsInRange}
use Rattle.midi_meaning.specs.Raising.{selected_value, raised_entry, raised_control, raised_voice, exclusive_packet}
use Rattle.midi_meaning.specs.Raising.{first_exclusive_packets, raised_message, raised_completed, packets_at, packets_up}
use Rattle.midi_meaning.proofs.Up.{raises, meaning1-more}

-- ---- registers

abbrev pub IsSmall : Option ℕ → Type 0
IsSmall half = IfSome half (λ n. n < 128)

pub record IsSmallPair (pair : Pair) : Type 0 where
  pub msb : IsSmall pair.msb
  pub lsb : IsSmall pair.lsb

pub record AreSmall (registers : Registers) : Type 0 where
  pub bank : IsSmallPair registers.bank
  pub registered : IsSmallPair registers.registered
  pub assignable : IsSmallPair registers.assignable

msb_kept : (o : Option Param) (v : ℕ) (c : Channel) → AreSmall c.registers → AreSmall (enter_msb as_they_come o v c).registers
msb_kept None v c h = h
msb_kept (Some p) v c h = h

lsb_kept : (o : Option Param) (v : ℕ) (c : Channel) → AreSmall c.registers → AreSmall (enter_lsb as_they_come o v c).registers
lsb_kept None v c h = h
lsb_kept (Some p) v c h = h

abbrev pub IsSmallState : GroupState → Type 0
IsSmallState g = (j : ℕ) → AreSmall (g.channels j).registers

bank_small : (a b : Option ℕ) → IsSmall a → IsSmall b → IsBank (bank_by a b)
bank_small None None h k = tt
bank_small (Some m) None h k = (h, omega arith)
bank_small None (Some l) h k = (omega arith, k)
bank_small (Some m) (Some l) h k = (h, k)

-- the selected parameter has the halves of its number
selected_by-parts : (k : ParamKind) (a b : Option ℕ) (p : Param) → selected_by k a b ≡ Some p → IsSmall a → IsSmall b → IsParam p
selected_by-parts k None b p e x y = cc
selected_by-parts k (Some m) None p e x y = cc
selected_by-parts k (Some m) (Some l) p e x y = go (eqb m 127 && eqb l 127) e
  where
    go : (t : Bool) → cond t None (Some (record { kind = k; bank = m; index = l })) ≡ Some p → IsParam p
    go true q = cc
    go false q = subst IsParam (same_Some _ _ q) (x, y)

param_small : (r : Registers) (o : Option ParamKind) (p : Param) → selected_of o r ≡ Some p → AreSmall r → IsParam p
param_small r None p e h = cc
param_small r (Some Registered) p e h = selected_by-parts Registered r.registered.msb r.registered.lsb p e h.registered.msb h.registered.lsb
param_small r (Some Assignable) p e h = selected_by-parts Assignable r.assignable.msb r.assignable.lsb p e h.assignable.msb h.assignable.lsb

entry_small : (o : Option Param) (c : Channel) (ch w : ℕ) → selected c.registers ≡ o → ch < 16 → w < 16384 → AreSmall c.registers
    → AllByRecursion IsVoice2 (raised_entry ch o w)
entry_small None c ch w e b u h = tt
entry_small (Some p) c ch w e b u h = ((b, param_small c.registers c.registers.touched p e h, up_14_32_fits w u), tt)

value_small : (o : Option Param) (c : Channel) → ((p : Param) → unwrap_or (c.params p) 0 < 16384)
    → unwrap_or (option_and_then c.params o) 0 < 16384
value_small None c h = omega arith
value_small (Some p) c h = h p

-- values of parameters and of controllers have at most fourteen bits
pub record AreBounded (c : Channel) : Type 0 where
  pub params : (p : Param) → unwrap_or (c.params p) 0 < 16384
  pub controllers : (i : ℕ) → unwrap_or (c.controllers i) 0 < 16384

control_small : (r : Role) (c : Channel) (ch i v : ℕ) → (ch < 16) × (i < 128) × (v < 128) → AreSmall c.registers → AreBounded c
    → AllByRecursion IsVoice2 (raised_control c r ch i v)
control_small data_msb c ch i v b h k =
    let v_small : v < 128 = b.2 in
    entry_small (selected c.registers) c ch (v * 128) refl b.0 (omega arith) h
control_small data_lsb c ch i v b h k =
    let v_small : v < 128 = b.2 in
    let old : unwrap_or (selected_value c) 0 < 16384 = value_small (selected c.registers) c k.params in
    entry_small (selected c.registers) c ch (unwrap_or (selected_value c) 0 / 128 * 128 + v) refl b.0 (omega arith) h
control_small reset_all c ch i v b h k = ((b.0, b.1, up_7_32_fits v b.2), tt)
control_small channel_mode c ch i v b h k = ((b.0, b.1, up_7_32_fits v b.2), tt)
control_small coarse c ch i v b h k = let v_small : v < 128 = b.2 in ((b.0, b.1, up_14_32_fits (v * 128) (omega arith)), tt)
control_small fine c ch i v b h k =
    let v_small : v < 128 = b.2 in
    let old : unwrap_or (c.controllers (i - 32)) 0 < 16384 = k.controllers (i - 32) in
    ((b.0, omega (arith, b.1), up_14_32_fits (unwrap_or (c.controllers (i - 32)) 0 / 128 * 128 + v) (omega arith)), tt)
control_small plain c ch i v b h k = ((b.0, b.1, up_7_32_fits v b.2), tt)
control_small _ c ch i v b h k = tt

-- some words spell it, and its fields are in range
abbrev pub Fits : Packet → Type 0
Fits p = IsPacket p × IsInRange p

pub fits_append : (xs ys : List Packet) → AllByRecursion Fits xs → AllByRecursion Fits ys → AllByRecursion Fits (xs ++ ys)
fits_append [] ys h k = k
fits_append (x ∷ xs) ys h k = (h.0, fits_append xs ys h.1 k)

data_take : (n : ℕ) (xs : List ℕ) → AreData xs → AreData (take n xs)
data_take zero xs h = tt
data_take (suc n) [] h = tt
data_take (suc n) (x ∷ xs) h = (h.0, data_take n xs h.1)

data_drop : (n : ℕ) (xs : List ℕ) → AreData xs → AreData (drop n xs)
data_drop zero xs h = h
data_drop (suc n) [] h = tt
data_drop (suc n) (x ∷ xs) h = data_drop n xs h.1

pub exclusive_fits : (g : ℕ) (payload : List ℕ) (k : ℕ) → g < 16 → AreData payload → Fits (exclusive_packet g payload k)
exclusive_fits g payload k b a =
    let chunk : List ℕ = slice_chunk payload 6 k in
    let few : length chunk ≤ 6 = omega (arith, length-take 6 (drop (k * 6) payload)) in
    let own : AreData chunk = data_take 6 (drop (k * 6) payload) (data_drop (k * 6) payload a) in
    ((b, few, All-from_recursion (λ (n : ℕ). n < 128) chunk own), (b, few, own))

first_fit : (g : ℕ) (payload : List ℕ) (k : ℕ) → g < 16 → AreData payload → AllByRecursion Fits (first_exclusive_packets g payload k)
first_fit g payload zero b a = tt
first_fit g payload (suc k) b a =
    fits_append (first_exclusive_packets g payload k) _ (first_fit g payload k b a) (exclusive_fits g payload k b a, tt)

voices_fit : (g : ℕ) (ms : List Voice2) → g < 16 → AllByRecursion IsVoice2 ms → AllByRecursion Fits (map (packet.Voice2 g) ms)
voices_fit g [] b a = tt
voices_fit g (m ∷ ms) b a = (((b, a.0), (b, a.0)), voices_fit g ms b a.1)

common_is_system : (m : System) → IsCommon m → IsSystem m
common_is_system (system.Quarter n) b = b
common_is_system (system.Position n) b = b
common_is_system (system.Song n) b = b
common_is_system _ b = tt

real_time_is_system : (m : System) → IsRealTime m → IsSystem m
real_time_is_system (system.Quarter n) b = absurd b
real_time_is_system (system.Position n) b = absurd b
real_time_is_system (system.Song n) b = absurd b
real_time_is_system _ b = tt

pub all_packets : (ps : List Packet) → AllByRecursion Fits ps → AllByRecursion IsPacket ps
all_packets [] h = tt
all_packets (p ∷ ps) h = (h.0.0, all_packets ps h.1)

pub all_in_range : (ps : List Packet) → AllByRecursion Fits ps → AllByRecursion IsInRange ps
all_in_range [] h = tt
all_in_range (p ∷ ps) h = (h.0.1, all_in_range ps h.1)

module _ (paired : Bool) where
  small-control : (r : Role) (i v : ℕ) (c : Channel) → v < 128 → AreSmall c.registers
      → AreSmall (control (of_bytes paired) r i v c).registers
  small-control bank_msb i v c b h =
      record { bank = record { msb = b; lsb = h.bank.lsb }; registered = h.registered; assignable = h.assignable }
  small-control bank_lsb i v c b h =
      record { bank = record { msb = h.bank.msb; lsb = b }; registered = h.registered; assignable = h.assignable }
  small-control (number_msb Registered) i v c b h =
      record { bank = h.bank; registered = record { msb = b; lsb = h.registered.lsb }; assignable = h.assignable }
  small-control (number_msb Assignable) i v c b h =
      record { bank = h.bank; registered = h.registered; assignable = record { msb = b; lsb = h.assignable.lsb } }
  small-control (number_lsb Registered) i v c b h =
      record { bank = h.bank; registered = record { msb = h.registered.msb; lsb = b }; assignable = h.assignable }
  small-control (number_lsb Assignable) i v c b h =
      record { bank = h.bank; registered = h.registered; assignable = record { msb = h.assignable.msb; lsb = b } }
  small-control data_msb i v c b h = msb_kept (selected c.registers) v c h
  small-control data_lsb i v c b h = lsb_kept (selected c.registers) v c h
  small-control data_increment i v c b h = h
  small-control data_decrement i v c b h = h
  small-control reset_all i v c b h = record {
    bank = h.bank;
    registered = record { msb = omega arith; lsb = omega arith };
    assignable = record { msb = omega arith; lsb = omega arith };
  }
  small-control channel_mode i v c b h = h
  small-control coarse i v c b h = h
  small-control fine i v c b h = h
  small-control plain i v c b h = h

  small-voice : (m : Voice1) (c : Channel) → IsVoice1 m → AreSmall c.registers → AreSmall (voice_at (of_bytes paired) m c).registers
  small-voice (voice1.Control ch i v) c b h = small-control (pairing paired (role_of i)) i v c b.2 h
  small-voice (voice1.NoteOff ch n v) c b h = h
  small-voice (voice1.NoteOn ch n v) c b h = h
  small-voice (voice1.PolyPressure ch n v) c b h = h
  small-voice (voice1.Program ch p) c b h = h
  small-voice (voice1.Pressure ch v) c b h = h
  small-voice (voice1.Bend ch v) c b h = h

  small-step : (m : Message) (g : GroupState) → IsMessage m → IsSmallState g → IsSmallState (step1 paired g m)
  small-step (voice m) g b h j =
      cond_both (eqb j (channel_of m)) (voice_at (of_bytes paired) m (g.channels j)) (g.channels j) (λ c. AreSmall c.registers)
      (λ e. small-voice m (g.channels j) b (h j)) (λ e. h j)
  small-step (common m) g b h j = h j
  small-step (exclusive bytes) g b h j = h j
  small-step (real_time m) g b h j = h j

  small-completed : (o : Option Message) (g : GroupState) → IfSome o IsMessage → IsSmallState g
      → IsSmallState (fold (step1 paired) g (option_to_list o))
  small-completed None g b h = h
  small-completed (Some m) g b h = small-step m g b h

  pub small-meaning : CompletedMessagesAreInRange → (past : List ℕ) → IsSmallState (meaning1 paired past)
  small-meaning sound [] = λ j. record {
    bank = record { msb = tt; lsb = tt };
    registered = record { msb = tt; lsb = tt };
    assignable = record { msb = tt; lsb = tt };
  }
  small-meaning sound (b ∷ past) =
      subst IsSmallState (sym (meaning1-more paired past b))
      (small-completed (completed_by (step_of None past b)) (meaning1 paired past) (sound None past b) (small-meaning sound past))

  -- ---- voice messages

  pub voice_small : (m : Voice1) (c : Channel) → IsVoice1 m → AreSmall c.registers → AreBounded c
      → AllByRecursion IsVoice2 (raised_voice paired c m)
  voice_small (voice1.NoteOff ch n v) c b h k = ((b.0, b.1, up_7_16_fits v b.2, omega arith, omega arith), tt)
  voice_small (voice1.NoteOn ch n v) c b h k = (
    cond_both (eqb v 0) (voice2.NoteOff ch n 0x8000 0 0) (voice2.NoteOn ch n (up v 7 16) 0 0) IsVoice2
        (λ e. (b.0, b.1, omega arith, omega arith, omega arith)) (λ e. (b.0, b.1, up_7_16_fits v b.2, omega arith, omega arith)),
    tt,
  )
  voice_small (voice1.PolyPressure ch n v) c b h k = ((b.0, b.1, up_7_32_fits v b.2), tt)
  voice_small (voice1.Control ch i v) c b h k = control_small (pairing paired (role_of i)) c ch i v b h k
  voice_small (voice1.Program ch p) c b h k = ((b.0, b.1, bank_small c.registers.bank.msb c.registers.bank.lsb h.bank.msb h.bank.lsb), tt)
  voice_small (voice1.Pressure ch v) c b h k = ((b.0, up_7_32_fits v b.1), tt)
  voice_small (voice1.Bend ch v) c b h k = ((b.0, up_14_32_fits v b.1), tt)

  -- ---- packets

  bounded : CutPayloadIsJoined → CompletedMessagesAreInRange → (g : ℕ) (past : List ℕ) (ch : ℕ)
      → AreBounded ((meaning1 paired past).channels ch)
  bounded joined sound g past ch =
      let follows = ((raises paired joined sound g past).channels ch).follows in
      record { params = follows.bounded; controllers = follows.controllers_bounded }

  message_fits : CutPayloadIsJoined → CompletedMessagesAreInRange → (g : ℕ) (m : Message) (past : List ℕ) → g < 16 → IsMessage m
      → AllByRecursion Fits (raised_message paired (meaning1 paired past) g m)
  message_fits joined sound g (voice m) past l b =
      voices_fit g _ l (voice_small m ((meaning1 paired past).channels (channel_of m)) b (small-meaning sound past (channel_of m))
      (bounded joined sound g past (channel_of m)))
  message_fits joined sound g (common m) past l b = (((l, common_is_system m b), (l, common_is_system m b)), tt)
  message_fits joined sound g (real_time m) past l b = (((l, real_time_is_system m b), (l, real_time_is_system m b)), tt)
  message_fits joined sound g (exclusive bytes) past l b = first_fit g bytes (part_count bytes) l b

  completed_fits : CutPayloadIsJoined → CompletedMessagesAreInRange → (g : ℕ) (o : Option Message) (past : List ℕ) → g < 16
      → IfSome o IsMessage → AllByRecursion Fits (raised_completed paired (meaning1 paired past) g o)
  completed_fits joined sound g None past l b = tt
  completed_fits joined sound g (Some m) past l b = message_fits joined sound g m past l b

  pub packets_at_fit : CutPayloadIsJoined → CompletedMessagesAreInRange → (room : Room) (g : ℕ) (past : List ℕ) (b : ℕ) → g < 16
      → AllByRecursion Fits (packets_at paired room g past b)
  packets_at_fit joined sound room g past b l =
      completed_fits joined sound g (completed_by (step_of room past b)) past l (sound room past b)

  pub packets_up_fit : CutPayloadIsJoined → CompletedMessagesAreInRange → (room : Room) (g : ℕ) (past : List ℕ) → g < 16
      → AllByRecursion Fits (packets_up paired room g past)
  packets_up_fit joined sound room g [] l = tt
  packets_up_fit joined sound room g (b ∷ past) l =
      fits_append (packets_up paired room g past) _ (packets_up_fit joined sound room g past l)
      (packets_at_fit joined sound room g past b l)

  -- ---- what is left in a receiver

  pub bank_in_range : CompletedMessagesAreInRange → (past : List ℕ) (ch : ℕ)
      → IsBank (bank_of ((meaning1 paired past).channels ch).registers)
  bank_in_range sound past ch =
      let r = ((meaning1 paired past).channels ch).registers in
      bank_small r.bank.msb r.bank.lsb (small-meaning sound past ch).bank.msb (small-meaning sound past ch).bank.lsb

  pub number_in_range : CompletedMessagesAreInRange → (past : List ℕ) (ch : ℕ)
      → IfSome (selected ((meaning1 paired past).channels ch).registers) IsParam
  number_in_range sound past ch = go (selected ((meaning1 paired past).channels ch).registers) refl
    where
      go : (o : Option Param) → selected ((meaning1 paired past).channels ch).registers ≡ o → IfSome o IsParam
      go None e = tt
      go (Some p) e =
          param_small ((meaning1 paired past).channels ch).registers ((meaning1 paired past).channels ch).registers.touched p e
          (small-meaning sound past ch)

  pub values_in_range : CutPayloadIsJoined → CompletedMessagesAreInRange → (past : List ℕ) (ch : ℕ) (p : Param)
      → unwrap_or (((meaning1 paired past).channels ch).params p) 0 < 16384
  values_in_range joined sound past ch p = ((raises paired joined sound 0 past).channels ch).follows.bounded p

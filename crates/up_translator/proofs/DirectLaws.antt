-- Messages that are raised alone, whatever came before.
use Rattle.std.proofs.Common.{⊎_elim, cond, ◌≡◌, ◌≢◌, ◌≤◌, ◌<◌, ◌+◌, ◌-◌, ◌*◌, ◌/◌, ◌%◌, ◌^◌, ◌∙◌, ℕ, Bool, true}
use Rattle.std.proofs.Common.{false, ◌&&◌, not, eqb, [], ◌∷◌, Option, Some, None, refl, sym, ap, subst, arith}
use Rattle.std.specs.Prelude.{◌==◌, if◌then◌else◌, is_some, nat_lt}
use Rattle.std.proofs.lemmas.Bool.{and_parts, cases_lt, eqb-true, eq-eqb, ltb-true, true≢false}
use Rattle.std.proofs.lemmas.Bool.Decides.{nat_tests}
use Rattle.voice_messages.specs.Ranges.{IsVoice2}
use Rattle.voice_messages.specs.declared.voice1.Voice1.{Voice1}
use Rattle.voice_messages.specs.declared.voice1.Voice1.TheVariants as voice1
use Rattle.voice_messages.specs.declared.voice2.Voice2.{Voice2}
use Rattle.voice_messages.specs.declared.voice2.Voice2.TheVariants as voice2
use Rattle.ump_grammar.specs.Ranges.{IsPacket}
use Rattle.bit_scaling.specs.Scaling.{up}
use Rattle.bit_scaling.proofs.ScalingLaws.{high_7_16, high_7_32, low_7_16, low_7_32, high_14_32, low_14_32}
use Rattle.midi1_bytes.specs.Sorts.{one, two, Sort, voice_status, sort_of}
use Rattle.midi1_bytes.specs.Messages.{Message, fourteen_bits, voice, voice_of_one, voice_of_two}
use Rattle.midi1_bytes.specs.Spoken.{voice_by}
use Rattle.encoded_packets.specs.declared.direct_message.DirectMessage.{DirectMessage}
use Rattle.encoded_packets.specs.DirectMessages.{is_direct_opcode, message_by, direct_voice, one_of_six}
use Rattle.midi_meaning.specs.Controllers.{Role, channel_mode, coarse, fine, plain, is_direct, is_direct_in, pairing, role_of}
use Rattle.midi_meaning.specs.State.{Channel, GroupState}
use Rattle.midi_meaning.specs.Messages.{control, of_bytes, step1}
use Rattle.midi_meaning.specs.Raising.{raised_control}
use Rattle.midi_meaning.specs.Refusal.{bad_role, bad_voice1}
use Rattle.midi_meaning.specs.StepListing.{is_entry, is_ignored_voice}
use Rattle.param_collector.specs.Holding.{Holding}
use Rattle.param_collector.specs.Control.{holding_after}
use Rattle.param_collector.specs.Keeps.{Keeps, controller_of, is_control_change, value_of}
use Rattle.voice_messages.specs.declared.voice2.Param.{Param}
use Rattle.midi_meaning.specs.State.{at_channel}
use Rattle.up_translator.specs.Direct.{RaisesTo, is_silent, raised_by, goes_direct, value_by}
use Rattle.up_translator.specs.Outcome.{holding_with}
use Rattle.up_translator.specs.DirectWords.{IsRaisedDirect, packet_of}

-- ---- values

pub upper_half : (value : ℕ) → value < 128 → up value 7 32 / 2 ^ 16 * 2 ^ 16 ≡ up value 7 16 * 2 ^ 16
upper_half value below =
    ⊎_elim
    (λ low. let a = low_7_32 value (omega (arith, low)) in let b = low_7_16 value (omega (arith, low)) in omega (arith, a, b))
    (λ high. let a = high_7_32 value (omega (arith, high)) below in
    let b = high_7_16 value (omega (arith, high)) below in
    omega (arith, a, b, below, high))
    (cases_lt value 65)

seven_below : (value : ℕ) → value < 128 → up value 7 32 < 2 ^ 32
seven_below value below =
    ⊎_elim
    (λ low. let a = low_7_32 value (omega (arith, low)) in omega (arith, a, low))
    (λ high. let a = high_7_32 value (omega (arith, high)) below in omega (arith, a, below, high))
    (cases_lt value 65)

velocity_below : (value : ℕ) → value < 128 → up value 7 16 < 2 ^ 16
velocity_below value below =
    ⊎_elim
    (λ low. let a = low_7_16 value (omega (arith, low)) in omega (arith, a, low))
    (λ high. let a = high_7_16 value (omega (arith, high)) below in omega (arith, a, below, high))
    (cases_lt value 65)

fourteen_below : (value : ℕ) → value < 16384 → up value 14 32 < 2 ^ 32
fourteen_below value below =
    ⊎_elim
    (λ low. let a = low_14_32 value (omega (arith, low)) in omega (arith, a, low))
    (λ high. let a = high_14_32 value (omega (arith, high)) below in omega (arith, a, below, high))
    (cases_lt value 8193)

-- ---- by the opcode

two-sort : (status : ℕ) → 128 ≤ status → status < 240 → status / 16 ≢ 0xC → status / 16 ≢ 0xD → sort_of status ≡ voice_status two
unfolding sort_of
two-sort status least most no_program no_pressure = grind (arith, nat_tests)

one-sort : (status : ℕ) → 0xC ≤ status / 16 → status / 16 < 0xE → sort_of status ≡ voice_status one
unfolding sort_of
one-sort status least most = grind (arith, nat_tests)

value_opcode : (opcode : ℕ) → 8 ≤ opcode → opcode < 15 → opcode ≢ 0xC → is_direct_opcode opcode ≡ true
value_opcode opcode least most other = grind (arith, nat_tests)

direct-64 : (paired : Option Bool) → is_direct_in paired 64 ≡ is_some paired
unfolding role_of
direct-64 None = refl
direct-64 (Some paired) = refl

-- ---- a message that is raised alone

direct_role : (paired : Bool) (index : ℕ) → is_direct_in (Some paired) index ≡ true → is_direct (pairing paired (role_of index)) ≡ true
direct_role paired index direct = direct

accepted-role : (paired : Bool) (role : Role) → is_direct (pairing paired role) ≡ true → bad_role role ≡ None
accepted-role paired channel_mode direct = refl
accepted-role paired coarse direct = refl
accepted-role paired fine direct = refl
accepted-role paired plain direct = refl
accepted-role paired _ direct = absurd (cc direct)

pub accepted : (paired : Bool) (message : Voice1) → goes_direct (Some paired) message ≡ true → bad_voice1 message ≡ None
accepted paired (voice1.Control channel index value) alone = accepted-role paired (role_of index) alone
accepted paired (voice1.NoteOff channel note velocity) alone = refl
accepted paired (voice1.NoteOn channel note velocity) alone = refl
accepted paired (voice1.PolyPressure channel note value) alone = refl
accepted paired (voice1.Program channel program) alone = refl
accepted paired (voice1.Pressure channel value) alone = refl
accepted paired (voice1.Bend channel value) alone = refl

pub held : (holding : Holding) (message : Voice1) → goes_direct (Some holding.paired) message ≡ true
    → holding_with holding message ≡ holding
held holding (voice1.Control channel index value) alone = go (pairing holding.paired (role_of index)) alone
  where
    go : (role : Role) → is_direct role ≡ true → holding_after role holding channel index value ≡ holding
    go channel_mode direct = refl
    go plain direct = refl
    go _ direct = absurd (cc direct)
held holding (voice1.NoteOff channel note velocity) alone = refl
held holding (voice1.NoteOn channel note velocity) alone = refl
held holding (voice1.PolyPressure channel note value) alone = refl
held holding (voice1.Program channel program) alone = refl
held holding (voice1.Pressure channel value) alone = refl
held holding (voice1.Bend channel value) alone = refl

no_entry : (paired : Bool) (role : Role) → is_direct (pairing paired role) ≡ true → is_entry role ≡ false
no_entry paired channel_mode direct = refl
no_entry paired coarse direct = refl
no_entry paired fine direct = refl
no_entry paired plain direct = refl
no_entry paired _ direct = absurd (cc direct)

pub not_ignored : (paired : Bool) (channel : Channel) (message : Voice1) → goes_direct (Some paired) message ≡ true
    → is_ignored_voice channel message ≡ false
not_ignored paired ch (voice1.Control channel index value) alone = rw (no_entry paired (role_of index) alone) refl
not_ignored paired ch (voice1.NoteOff channel note velocity) alone = refl
not_ignored paired ch (voice1.NoteOn channel note velocity) alone = refl
not_ignored paired ch (voice1.PolyPressure channel note value) alone = refl
not_ignored paired ch (voice1.Program channel program) alone = refl
not_ignored paired ch (voice1.Pressure channel value) alone = refl
not_ignored paired ch (voice1.Bend channel value) alone = refl

-- a direct control change leaves what is kept
module _ (holding : Holding) (group : GroupState) (channel index value : ℕ) (keeps : Keeps holding group) where
  abbrev after : Role → Channel → Channel
  after role ch = control (of_bytes holding.paired) role index value ch

  same-registers : (role : Role) → is_direct role ≡ true → (t : Bool) (ch : Channel) → ch.registers ≡ (cond t (after role ch) ch).registers
  same-registers channel_mode direct true ch = refl
  same-registers plain direct true ch = refl
  same-registers _ direct true ch = absurd (cc direct)
  same-registers _ direct false ch = refl

  same-params : (role : Role) → is_direct role ≡ true → (t : Bool) (ch : Channel) (param : Param)
      → value_of ch param ≡ value_of (cond t (after role ch) ch) param
  same-params channel_mode direct true ch param = refl
  same-params plain direct true ch param = refl
  same-params _ direct true ch param = absurd (cc direct)
  same-params _ direct false ch param = refl

  same-pairs : (role : Role) → role ≡ pairing holding.paired (role_of index) → is_direct role ≡ true → (t : Bool) (ch : Channel) (pair : ℕ)
      → pairing holding.paired (role_of pair) ≡ coarse
      → controller_of ch pair ≡ controller_of (cond t (after role ch) ch) pair
  same-pairs channel_mode e direct true ch pair is = refl
  same-pairs plain e direct true ch pair is = go (eqb pair index) refl
    where
      go : (t : Bool) → eqb pair index ≡ t → controller_of ch pair ≡ controller_of (after plain ch) pair
      go true at =
          absurd (let both : plain ≡ coarse = e ∙ ap (λ n. pairing holding.paired (role_of n)) (sym (eqb-true pair index at)) ∙ is in cc)
      go false other = rw other refl
  same-pairs _ e direct true ch pair is = absurd (cc direct)
  same-pairs _ e direct false ch pair is = refl

  keeps-by : (role : Role) → role ≡ pairing holding.paired (role_of index) → is_direct role ≡ true
      → Keeps holding (at_channel channel (after role) group)
  keeps-by role e direct = record {
    registers = λ other within. keeps.registers other within ∙ same-registers role direct (eqb other channel) (group.channels other);
    msbs =
        λ other param within known. keeps.msbs other param within known
        ∙ ap (λ n. n / 128) (same-params role direct (eqb other channel) (group.channels other) param);
    pairs =
        λ other pair within is. keeps.pairs other pair within is
        ∙ ap (λ n. n / 128) (same-pairs role e direct (eqb other channel) (group.channels other) pair is);
  }

abbrev pub OthersKeep : Type 0
OthersKeep =
    (holding : Holding) (group : GroupState) (message : Message) → is_control_change message ≡ false → Keeps holding group
    → Keeps holding (step1 holding.paired group message)

pub kept : OthersKeep → (holding : Holding) (group : GroupState) (message : Voice1) → goes_direct (Some holding.paired) message ≡ true
    → Keeps holding group → Keeps holding (step1 holding.paired group (voice message))
kept others holding group (voice1.Control channel index value) alone keeps =
    keeps-by holding group channel index value keeps (pairing holding.paired (role_of index)) refl alone
kept others holding group (voice1.NoteOff channel note velocity) alone keeps =
    others holding group (voice (voice1.NoteOff channel note velocity)) refl keeps
kept others holding group (voice1.NoteOn channel note velocity) alone keeps =
    others holding group (voice (voice1.NoteOn channel note velocity)) refl keeps
kept others holding group (voice1.PolyPressure channel note value) alone keeps =
    others holding group (voice (voice1.PolyPressure channel note value)) refl keeps
kept others holding group (voice1.Program channel program) alone keeps =
    others holding group (voice (voice1.Program channel program)) refl keeps
kept others holding group (voice1.Pressure channel value) alone keeps =
    others holding group (voice (voice1.Pressure channel value)) refl keeps
kept others holding group (voice1.Bend channel value) alone keeps = others holding group (voice (voice1.Bend channel value)) refl keeps

-- ---- from the bytes

module _ (status first second : ℕ) (least : 128 ≤ status) (most : status < 240) (first_below : first < 128) (second_below : second < 128)
  where
    abbrev message : Voice1
    message = voice_by (sort_of status) status first second

    opcode-least : 8 ≤ status / 16
    opcode-least = omega (arith, least)

    opcode-most : status / 16 < 15
    opcode-most = omega (arith, most)

    -- the message by its opcode
    of-two : (opcode : ℕ) → status / 16 ≡ opcode → opcode ≢ 0xC → opcode ≢ 0xD → message ≡ voice_of_two opcode (status % 16) first second
    of-two opcode e no_program no_pressure =
        ap (λ (sort : Sort). voice_by sort status first second)
        (two-sort status least most (λ same. no_program (sym e ∙ same)) (λ same. no_pressure (sym e ∙ same)))
        ∙ ap (λ n. voice_of_two n (status % 16) first second) e

    of-one : (opcode : ℕ) → status / 16 ≡ opcode → 0xC ≤ opcode → opcode < 0xE → message ≡ voice_of_one opcode (status % 16) first
    of-one opcode e from to =
        ap (λ (sort : Sort). voice_by sort status first second) (one-sort status (omega (arith, e, from)) (omega (arith, e, to)))
        ∙ ap (λ n. voice_of_one n (status % 16) first) e

    -- whether it is raised alone
    abbrev asked : Option Bool → ℕ → Bool
    asked direct opcode = not (opcode == 0xC) && is_direct_in direct (if opcode == 0xB then first else 64)

    abbrev IsAsked : Option Bool → ℕ → Type 0
    IsAsked direct opcode = status / 16 ≡ opcode → asked direct opcode ≡ goes_direct direct message

    asked-two : (direct : Option Bool) (opcode : ℕ) → opcode ≢ 0xC → opcode ≢ 0xD
        → asked direct opcode ≡ goes_direct direct (voice_of_two opcode (status % 16) first second) → IsAsked direct opcode
    asked-two direct opcode no_program no_pressure same e = same ∙ ap (goes_direct direct) (sym (of-two opcode e no_program no_pressure))

    pub direct_by : (direct : Option Bool) → asked direct (status / 16) ≡ goes_direct direct message
    direct_by direct = go (eqb (status / 16) 0xC) refl
      where
        go : (t : Bool) → eqb (status / 16) 0xC ≡ t → asked direct (status / 16) ≡ goes_direct direct message
        go true is =
            let e : status / 16 ≡ 0xC = eqb-true (status / 16) 0xC is in
            ap (asked direct) e ∙ ap (goes_direct direct) (sym (of-one 0xC e (omega arith) (omega arith)))
        go false other =
            one_of_six (IsAsked direct)
            (asked-two direct 0x8 (omega arith) (omega arith) (direct-64 direct))
            (asked-two direct 0x9 (omega arith) (omega arith) (direct-64 direct))
            (asked-two direct 0xA (omega arith) (omega arith) (direct-64 direct))
            (asked-two direct 0xB (omega arith) (omega arith) refl)
            (λ e. direct-64 direct ∙ ap (goes_direct direct) (sym (of-one 0xD e (omega arith) (omega arith))))
            (asked-two direct 0xE (omega arith) (omega arith) (direct-64 direct))
            (status / 16)
            (value_opcode (status / 16) opcode-least opcode-most (λ same. true≢false (sym (eq-eqb (status / 16) 0xC same) ∙ other))) refl

    -- its value
    value-below : (opcode : ℕ) → value_by opcode first second < 2 ^ 32
    value-below opcode = go (eqb opcode 0xE) (nat_lt opcode 0xA) (eqb opcode 0xD)
      where
        go : (t u v : Bool)
            → (if t then up (fourteen_bits first second) 14 32 else if u then up second 7 16 * 2 ^ 16
            else up (if v then first else second) 7 32)
            < 2 ^ 32
        go true u v = fourteen_below (fourteen_bits first second) (omega (arith, first_below, second_below))
        go false true v = let below : up second 7 16 < 2 ^ 16 = velocity_below second second_below in omega (arith, below)
        go false false true = seven_below first first_below
        go false false false = seven_below second second_below

    -- ---- the message to which it is raised

    module _ (group : ℕ) (group_below : group < 16) (other : status / 16 ≢ 0xC) where
      abbrev to : ℕ → DirectMessage
      to opcode = raised_by opcode group status first second

      opcode-in : (opcode : ℕ) → status / 16 ≡ opcode → (t : Bool) → is_silent opcode second ≡ t
          → is_direct_opcode ((if t then status - 16 else status) / 16) ≡ true
      opcode-in opcode e false is = value_opcode (status / 16) opcode-least opcode-most other
      opcode-in opcode e true is =
          let nine : opcode ≡ 0x9 = eqb-true opcode 0x9 (and_parts (opcode == 0x9) (second == 0) is).0 in
          value_opcode ((status - 16) / 16) (omega (arith, e, nine)) (omega (arith, most)) (omega (arith, e, nine))

      index-in : (opcode : ℕ) → (t : Bool) → (if t then first else 0) < 128
      index-in opcode true = first_below
      index-in opcode false = omega arith

      whole-in : (opcode : ℕ) → (t : Bool) → (if t then 2 ^ 31 else value_by opcode first second) < 2 ^ 32
      whole-in opcode true = omega arith
      whole-in opcode false = value-below opcode

      no-index : (opcode : ℕ) → status / 16 ≡ opcode → (silent : Bool) → is_silent opcode second ≡ silent → (t : Bool)
          → nat_lt opcode 0xD ≡ t →
          0xD ≤ (if silent then status - 16 else status) / 16 → (if t then first else 0) ≡ 0
      no-index opcode e silent is false above from = refl
      no-index opcode e true is true below from =
          let nine : opcode ≡ 0x9 = eqb-true opcode 0x9 (and_parts (opcode == 0x9) (second == 0) is).0 in
          absurd (omega (arith, e, nine, from))
      no-index opcode e false is true below from =
          absurd (let under : opcode < 0xD = ltb-true opcode 0xD below in omega (arith, e, under, from))

      pub bare_by : IsRaisedDirect (to (status / 16))
      bare_by = record {
        is_message = record {
          opcode = opcode-in (status / 16) refl (is_silent (status / 16) second) refl;
          group = group_below;
          index = index-in (status / 16) (nat_lt (status / 16) 0xD);
          value = whole-in (status / 16) (is_silent (status / 16) second);
        };
        attribute = refl;
        index = no-index (status / 16) refl (is_silent (status / 16) second) refl (nat_lt (status / 16) 0xD) refl;
      }

    module _ (group : ℕ) (other : status / 16 ≢ 0xC) where
      abbrev raised : ℕ → DirectMessage
      raised opcode = raised_by opcode group status first second

      abbrev IsRaised : ℕ → Type 0
      IsRaised opcode = status / 16 ≡ opcode → RaisesTo message (direct_voice (raised opcode))

      -- by the message of the opcode
      raised-two : (opcode : ℕ) → opcode ≢ 0xC → opcode ≢ 0xD
          → (status / 16 ≡ opcode → RaisesTo (voice_of_two opcode (status % 16) first second) (direct_voice (raised opcode)))
          → IsRaised opcode
      raised-two opcode no_program no_pressure by e =
          subst (λ (m : Voice1). RaisesTo m (direct_voice (raised opcode))) (sym (of-two opcode e no_program no_pressure)) (by e)

      -- if it keeps its status byte
      kept-status : (opcode : ℕ) → status / 16 ≡ opcode → (m : Voice1) → (raised opcode).status ≡ status
          → RaisesTo m (message_by opcode (raised opcode)) → RaisesTo m (direct_voice (raised opcode))
      kept-status opcode e m same by = subst (λ n. RaisesTo m (message_by n (raised opcode))) (sym (ap (λ n. n / 16) same ∙ e)) by

      raised-8 : status / 16 ≡ 0x8 → RaisesTo (voice1.NoteOff (status % 16) first second) (direct_voice (raised 0x8))
      raised-8 e =
          let velocity : ℕ = up second 7 16 in
          let upper : velocity ≡ velocity * 2 ^ 16 / 2 ^ 16 = omega arith in
          let lower : 0 ≡ velocity * 2 ^ 16 % 2 ^ 16 = omega arith in
          kept-status 0x8 e (voice1.NoteOff (status % 16) first second) refl
          (λ paired channel alone i. voice2.NoteOff (status % 16) first (upper i) 0 (lower i) ∷ [])

      -- a note on, silent or not
      abbrev by : Bool → DirectMessage
      by silent = record {
        group = group;
        status = if silent then status - 16 else status;
        index = first;
        attribute_type = 0;
        value = if silent then 2 ^ 31 else up second 7 16 * 2 ^ 16;
      }

      abbrev note : Bool → Voice2
      note silent = if silent then voice2.NoteOff (status % 16) first 0x8000 0 0 else voice2.NoteOn (status % 16) first (up second 7 16) 0 0

      note-by : status / 16 ≡ 0x9 → (silent : Bool) → note silent ≡ direct_voice (by silent)
      note-by e true =
          let opcode : (status - 16) / 16 ≡ 0x8 = omega (arith, e) in
          let channel : status % 16 ≡ (status - 16) % 16 = omega (arith, least) in
          (λ i. voice2.NoteOff (channel i) first 0x8000 0 0) ∙ ap (λ n. message_by n (by true)) (sym opcode)
      note-by e false =
          let velocity : ℕ = up second 7 16 in
          let upper : velocity ≡ velocity * 2 ^ 16 / 2 ^ 16 = omega arith in
          let lower : 0 ≡ velocity * 2 ^ 16 % 2 ^ 16 = omega arith in
          (λ i. voice2.NoteOn (status % 16) first (upper i) 0 (lower i)) ∙ ap (λ n. message_by n (by false)) (sym e)

      raised-9 : status / 16 ≡ 0x9 → RaisesTo (voice1.NoteOn (status % 16) first second) (direct_voice (raised 0x9))
      raised-9 e paired channel alone = ap (λ (m : Voice2). m ∷ []) (note-by e (second == 0))

      raised-B : status / 16 ≡ 0xB → RaisesTo (voice1.Control (status % 16) first second) (direct_voice (raised 0xB))
      raised-B e =
          kept-status 0xB e (voice1.Control (status % 16) first second) refl
          (λ paired channel alone. by channel (pairing paired (role_of first)) alone)
        where
          by : (channel : Channel) (role : Role) → is_direct role ≡ true
              → raised_control channel role (status % 16) first second ≡ voice2.Control (status % 16) first (up second 7 32) ∷ []
          by channel channel_mode direct = refl
          by channel plain direct = refl
          by channel _ direct = absurd (cc direct)

      pub raises_by : RaisesTo message (direct_voice (raised (status / 16)))
      raises_by =
          one_of_six IsRaised
          (raised-two 0x8 (omega arith) (omega arith) raised-8)
          (raised-two 0x9 (omega arith) (omega arith) raised-9)
          (raised-two 0xA (omega arith) (omega arith)
          (λ e. kept-status 0xA e (voice1.PolyPressure (status % 16) first second) refl (λ paired channel alone. refl)))
          (raised-two 0xB (omega arith) (omega arith) raised-B)
          (λ e. subst (λ (m : Voice1). RaisesTo m (direct_voice (raised 0xD))) (sym (of-one 0xD e (omega arith) (omega arith)))
          (kept-status 0xD e (voice1.Pressure (status % 16) first) refl (λ paired channel alone. refl)))
          (raised-two 0xE (omega arith) (omega arith)
          (λ e. kept-status 0xE e (voice1.Bend (status % 16) (fourteen_bits first second)) refl (λ paired channel alone. refl)))
          (status / 16) (value_opcode (status / 16) opcode-least opcode-most other) refl

-- ---- its packet fits

pub fits : (m : DirectMessage) → IsRaisedDirect m → IsPacket (packet_of m)
fits m raised_direct =
    let is = raised_direct.is_message in
    let channel : m.status % 16 < 16 = omega arith in
    let value : m.value < 2 ^ 32 = is.value in
    let attribute : m.attribute_type ≡ 0 = raised_direct.attribute in
    let type : m.attribute_type < 256 = omega arith in
    let upper : m.value / 65536 < 65536 = omega arith in
    let lower : m.value % 65536 < 65536 = omega arith in (
      is.group,
      one_of_six (λ opcode. IsVoice2 (message_by opcode m))
          (channel, is.index, upper, type, lower)
          (channel, is.index, upper, type, lower)
          (channel, is.index, value)
          (channel, is.index, value)
          (channel, value)
          (channel, value)
          (m.status / 16) is.opcode,
    )

-- ---- not a program change

pub no_program : (direct : Option Bool) (status first second : ℕ)
    → goes_direct direct (voice_by (sort_of status) status first second) ≡ true → status / 16 ≢ 0xC
no_program direct status first second alone e =
    let message : voice_by (sort_of status) status first second ≡ voice1.Program (status % 16) first =
    ap (λ (sort : Sort). voice_by sort status first second) (one-sort status (omega (arith, e)) (omega (arith, e)))
    ∙ ap (λ n. voice_of_one n (status % 16) first) e in
    true≢false (sym alone ∙ ap (goes_direct direct) message)

-- ---- a control change

module _ (group channel index value : ℕ) (group_below : group < 16) (channel_below : channel < 16) (index_below : index < 128)
    (value_below : value < 2 ^ 32) where
  abbrev control_of : DirectMessage
  control_of = record { group = group; status = 0xB0 + channel; index = index; attribute_type = 0; value = value }

  opcode_B : (0xB0 + channel) / 16 ≡ 0xB
  opcode_B = omega (arith, channel_below)

  pub bare_control : IsRaisedDirect control_of
  bare_control = record {
    is_message = record { opcode = ap is_direct_opcode opcode_B; group = group_below; index = index_below; value = value_below };
    attribute = refl;
    index = λ from. absurd (omega (arith, from, opcode_B));
  }

  pub control_is : direct_voice control_of ≡ voice2.Control channel index value
  control_is =
      let same : (0xB0 + channel) % 16 ≡ channel = omega (arith, channel_below) in
      ap (λ n. message_by n control_of) opcode_B ∙ (λ i. voice2.Control (same i) index value)

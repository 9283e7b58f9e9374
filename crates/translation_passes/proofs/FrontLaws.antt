-- Bytes that are taken up at once are stepped over one by one.
use Rattle.std.proofs.Common.{◌≡◌, ◌+◌, ◌≤◌, ℕ, List, [], ◌∷◌, ◌++◌, length, take, drop, None, refl, ap, sym, ◌∙◌, subst, arith, inl, inr}
use Rattle.std.specs.Prelude.{IfOk, Result, Ok, Err}
use Rattle.std.proofs.lemmas.List.{take-append-drop}
use Rattle.ump_grammar.specs.declared.packet.Packet.{Packet}
use Rattle.encoded_packets.specs.declared.direct_message.DirectMessage.{DirectMessage}
use Rattle.up_translator.specs.DirectWords.{packet_of}
use Rattle.midi1_bytes.specs.Fronts.{data_taken}
use Rattle.up_translator.specs.Fronts.{HasNoDirectFront, IsDirectFront, RaiseNothing, RaiseOne, RaisesAlone}
use Rattle.up_translator.specs.Held.{UpState, up_after}
use Rattle.pass_loop.specs.Pass.{StepEnds, Steps, Tail, Takes, Work}
use Rattle.pass_loop.specs.Places.{Places}
use Rattle.pass_loop.specs.Put.{Put}
use Rattle.pass_loop.specs.Runs.{EndsWithin, StepsOver, TakesRun, next_item}
use Rattle.pass_loop.specs.declared.ends.RunEnd.{RunEnd}
use Rattle.pass_loop.specs.ForProofs.PutLaws.{over_puts-none}
use Rattle.pass_loop.specs.ForProofs.StepLaws.{takes_steps}
use Rattle.translation_passes.specs.ForProofs.Fronts.{FrontIsTaken}
use Rattle.translation_passes.specs.Raised.{Doing, TakesNothing}

-- the outcome of one byte: it is accepted, this is put for it, and the state then
pub record ByteIsPut (work : Work (ℕ × ℕ)) (HoldsNow : List (ℕ × ℕ) → Type 0) (past : List (ℕ × ℕ)) (byte : ℕ) (puts : List Put) : Type 0
  where
    pub accepted : work.refusal past (next_item past byte) ≡ None
    pub put : work.IsPut past (next_item past byte) puts
    pub holds : HoldsNow (next_item past byte ∷ past)

module _ {Held Engine : Type 0} (work : Work (ℕ × ℕ)) (Holds : Engine → List (ℕ × ℕ) → Type 0) (engine_of : UpState → Held → Engine)
    (from : Held)
    (silent : (up : UpState) (past : List (ℕ × ℕ)) (byte : ℕ) → Holds (engine_of up from) past → RaisesAlone up (length past) byte []
    → ByteIsPut work (Holds (engine_of (up_after up (length past) byte) from)) past byte []) where
  -- a byte of which nothing is raised is stepped over
  silent_step : (up : UpState) (past : List (ℕ × ℕ)) (byte : ℕ) (places : Places) → Holds (engine_of up from) past
      → RaisesAlone up (length past) byte [] → Steps work past places places (next_item past byte) (Ok tt)
  silent_step up past byte places holds raises =
      let one = silent up past byte holds raises in (one.accepted, ([], one.put, sym (over_puts-none places)))

  -- so are several
  pub nothing_raised : (bytes : List ℕ) (past : List (ℕ × ℕ)) (up new : UpState) (places : Places) → Holds (engine_of up from) past
      → RaiseNothing bytes up (length past) new → StepsOver work Holds (engine_of new from) past bytes places places
  nothing_raised [] past up new places holds is =
      let H : UpState → Type 0 = λ u. Holds (engine_of u from) past in (subst H (sym is) holds, refl)
  nothing_raised (byte ∷ bytes) past up new places holds raises =
      let after : UpState = up_after up (length past) byte in
      let one = silent up past byte holds raises.0 in
      let sum : length past + 1 ≡ length (next_item past byte ∷ past) = omega arith in
      let N : ℕ → Type 0 = λ n. RaiseNothing bytes after n new in (
        places,
        engine_of after from,
        silent_step up past byte places holds raises.0,
        one.holds,
        nothing_raised bytes (next_item past byte ∷ past) after new places one.holds (subst N sum raises.1),
      )

  -- The last of some bytes, of which one packet is raised: those before it are stepped over.
  pub record HasLast (past : List (ℕ × ℕ)) (bytes : List ℕ) (packet : Packet) (new : UpState) : Type 0 where
    pub before : List (ℕ × ℕ)
    pub up : UpState
    pub byte : ℕ
    pub holds : Holds (engine_of up from) before
    pub raised : RaisesAlone up (length before) byte (packet ∷ [])
    pub after : new ≡ up_after up (length before) byte
    pub steps : (engine : Engine) (old new : Places) → Steps work before old new (next_item before byte) (Ok tt)
        → Holds engine (next_item before byte ∷ before) → StepsOver work Holds engine past bytes old new
    pub ends : (rest : List ℕ) (end : RunEnd) (old new : Places) → StepEnds work before old new (next_item before byte) end
        → EndsWithin work Holds past (bytes ++ rest) old new end

  pub last_of : (bytes : List ℕ) (past : List (ℕ × ℕ)) (up : UpState) (packet : Packet) (new : UpState) → Holds (engine_of up from) past
      → RaiseOne bytes up (length past) packet new → HasLast past bytes packet new
  last_of [] past up packet new holds raises = absurd raises
  last_of (byte ∷ []) past up packet new holds raises =
      record {
        before = past;
        up = up;
        byte = byte;
        holds = holds;
        raised = raises.0;
        after = raises.1;
        steps = λ engine old new steps held. (new, engine, steps, held, (held, refl));
        ends = λ rest end old new ends. inl ends;
      }
  last_of (byte ∷ next ∷ more) past up packet new holds raises =
      let after : UpState = up_after up (length past) byte in
      let one = silent up past byte holds raises.0 in
      let sum : length past + 1 ≡ length (next_item past byte ∷ past) = omega arith in
      let N : ℕ → Type 0 = λ n. RaiseOne (next ∷ more) after n packet new in
      let last = last_of (next ∷ more) (next_item past byte ∷ past) after packet new one.holds (subst N sum raises.1) in
      record {
        before = last.before;
        up = last.up;
        byte = last.byte;
        holds = last.holds;
        raised = last.raised;
        after = last.after;
        steps = λ engine old new steps held. (
          old,
          engine_of after from,
          silent_step up past byte old holds raises.0,
          one.holds,
          last.steps engine old new steps held,
        );
        ends = λ rest end old new ends.
            inr (old, engine_of after from, silent_step up past byte old holds raises.0, one.holds, last.ends rest end old new ends);
      }

  -- the last of the bytes at the front that are raised to a packet
  pub front_last : (bytes : List ℕ) (past : List (ℕ × ℕ)) (up : UpState) (message : DirectMessage) (count : ℕ) (new : UpState)
      → Holds (engine_of up from) past → IsDirectFront up bytes message count new → HasLast past (take count bytes) (packet_of message) new
  front_last bytes past up message count new holds front =
      last_of (take count bytes) past up (packet_of message) new holds (front.raised (length past))

  -- what is taken at the front is stepped over, or ends the pass, as by as many steps
  module _ (IsDone : Doing Held)
      (last : (up : UpState) (past : List (ℕ × ℕ)) (byte : ℕ) (packet : Packet) (to : Held) (puts : List Put) → Holds (engine_of up from) past
      → RaisesAlone up (length past) byte (packet ∷ []) → IsDone from packet to puts
      → ByteIsPut work (Holds (engine_of (up_after up (length past) byte) to)) past byte puts) where
    pub takes_run : (past : List (ℕ × ℕ)) (bytes : List ℕ) (before after : UpState) (to : Held) (old new : Places) (result : Result ℕ RunEnd)
        → Holds (engine_of before from) past → FrontIsTaken IsDone before after bytes from to old new result
        → TakesRun work Holds bytes (engine_of after to) past old new result
    takes_run past bytes before after to old new (Ok count) holds (within, inl done) =
        let l = front_last bytes past before done.0 count after holds done.1 in
        let out = done.2 in
        let one = last l.up l.before l.byte (packet_of done.0) to out.0 l.holds l.raised out.1 in
        let H : UpState → Type 0 = λ u. Holds (engine_of u to) (next_item l.before l.byte ∷ l.before) in
        l.steps (engine_of after to) old new (one.accepted, (out.0, one.put, out.2)) (subst H (sym l.after) one.holds)
    takes_run past bytes before after to old new (Ok count) holds (within, inr none) =
        let E : Held → Type 0 = λ h. StepsOver work Holds (engine_of after h) past (take count bytes) old new in
        let P : Places → Type 0 = λ places. StepsOver work Holds (engine_of after from) past (take count bytes) old places in
        subst E (sym none.1) (subst P (sym none.2)
        (nothing_raised (take count bytes) past before after old holds (none.0 (length past))))
    takes_run past bytes before after to old new (Err end) holds front =
        let count : ℕ = front.0 in
        let done = front.1 in
        let l = front_last bytes past before done.0 count after holds done.1 in
        let out = done.2 in
        let one = last l.up l.before l.byte (packet_of done.0) out.0 out.1 l.holds l.raised out.2 in
        let item = next_item l.before l.byte in
        let T : Tail → Type 0 = λ tail. Takes tail out.1 old new (Err end) in
        let ends =
        (takes_steps work l.before item old new (Unit {0}) (Err end) out.1 (subst T (sym one.accepted) out.3) (λ _. (one.put, tt))).0 in
        let W : List ℕ → Type 0 = λ xs. EndsWithin work Holds past xs old new end in
        subst W (take-append-drop count bytes) (l.ends (drop count bytes) end old new ends)

-- no more bytes are taken than there are
pub front_count : {Held : Type 0} (IsDone : Doing Held) (before after : UpState) (bytes : List ℕ) (from to : Held) (old new : Places)
    (result : Result ℕ RunEnd) → FrontIsTaken IsDone before after bytes from to old new result
    → IfOk result (λ count. count ≤ length bytes)
front_count IsDone before after bytes from to old new (Ok count) taken = taken.0
front_count IsDone before after bytes from to old new (Err end) taken = tt

-- a message at the front has some bytes
pub some_taken : (up new : UpState) (bytes : List ℕ) (message : DirectMessage) (count : ℕ) → IsDirectFront up bytes message count new
    → count ≡ 0 → TakesNothing up bytes
some_taken up new bytes message count front none = absurd (omega (arith, front.some, none))

-- without one, data are taken
pub none_taken : (up new : UpState) (bytes : List ℕ) (count : ℕ) → HasNoDirectFront up bytes × (new ≡ up)
    → count ≡ data_taken new.parsing bytes → count ≡ 0 → TakesNothing up bytes
none_taken up new bytes count front taken none =
    (front.0, ap (λ (u : UpState). data_taken u.parsing bytes) (sym front.1) ∙ sym taken ∙ none)

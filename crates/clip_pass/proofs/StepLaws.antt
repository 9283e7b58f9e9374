-- What one more packet does to the state, and what each end says.
use Rattle.std.proofs.Common.{◌≡◌, ◌+◌, ◌*◌, ◌≤◌, ◌<◌, ◌^◌, ◌==◌, ◌%◌, ℕ, Bool, true, false, List, [], ◌∷◌}
use Rattle.std.proofs.Common.{◌++◌, length, is_some, Option, None, Some, refl, ap, sym, ◌∙◌, subst, arith}
use Rattle.std.specs.Prelude.{Result, Ok, Err, if◌then◌else◌}
use Rattle.std.proofs.lemmas.List.Concat.{flat_map-append}
use Rattle.ump_words.specs.declared.words.Framed.{Framed}
use Rattle.ump_grammar.specs.declared.packet.Packet.{Packet}
use Rattle.ump_grammar.specs.declared.packet.Packet.TheVariants as packet
use Rattle.ump_grammar.specs.Ranges.{IsPacket}
use Rattle.midi_clip.specs.History.{end_by, ended_clip, is_ended, step_at, step_by}
use Rattle.midi_clip.specs.Laws.{ClipsAreTheDefinition}
use Rattle.midi_clip.specs.Roles.{role_of}
use Rattle.midi_clip.specs.Stages.{end_of, new_stage, stage_after, stage_over, step_of, ticks_of}
use Rattle.midi_clip.specs.declared.role.Role.{Role}
use Rattle.midi_clip.specs.declared.role.Role.TheVariants.{StartOfClip, EndOfClip, Resolution, Delta, Other}
use Rattle.midi_clip.specs.declared.step.ClipFault.{ClipFault}
use Rattle.midi_clip.specs.declared.step.ClipFault.TheVariants as fault
use Rattle.midi_clip.specs.declared.step.ClipStep.{ClipStep}
use Rattle.midi_clip.specs.declared.step.ClipStep.TheVariants as step
use Rattle.midi_clip.specs.declared.step.Stage.{Stage}
use Rattle.midi_clip.specs.declared.step.Stage.TheVariants.{NotStarted, Started, Ended}
use Rattle.pass_loop.specs.Named.{AreNamed}
use Rattle.pass_loop.specs.Pass.{ArePut, StepEnds}
use Rattle.pass_loop.specs.Places.{Places}
use Rattle.pass_loop.specs.Put.{Put, output_in, output_of}
use Rattle.pass_loop.specs.declared.ends.Reason.{Reason}
use Rattle.pass_loop.specs.declared.ends.Reason.TheVariants as reason
use Rattle.pass_loop.specs.declared.ends.RunEnd.{RunEnd}
use Rattle.pass_loop.specs.declared.ends.RunEnd.TheVariants.{Done, Refused, ReadFault, LaneFault, OutputFault, NoteFault, NoMemory}
use Rattle.clip_pass.specs.Clipping.{clip_text, clipping, puts_by, refusal_by}
use Rattle.clip_pass.specs.Cutting.{packets_of}
use Rattle.packet_input.specs.Packets.{IsOfBytes}

-- ---- ticks

-- a Delta Clockstamp has 20 bits
abbrev IsFew : Role → Type 0
IsFew (Delta ticks) = ticks < 2 ^ 20
IsFew _ = Unit {0}

few-utility : (status value : ℕ) → value < 2 ^ 20 → IsFew (role_of (packet.Utility status value))
few-utility status value few = go (status == 3) (status == 4)
  where
    go : (three four : Bool) → IsFew (if three then Resolution (value % 2 ^ 16) else if four then Delta value else Other)
    go true four = tt
    go false true = few
    go false false = tt

few-stream : (start end : Bool) → IsFew (if start then StartOfClip else if end then EndOfClip else Other)
few-stream true end = tt
few-stream false true = tt
few-stream false false = tt

few-in : (p : Packet) → IsPacket p → IsFew (role_of p)
few-in (packet.Utility status value) is = few-utility status value is.1
few-in (packet.Stream format status low second third fourth) is = few-stream _ _
few-in (packet.System group message) is = tt
few-in (packet.Voice1 group message) is = tt
few-in (packet.Exclusive group form bytes) is = tt
few-in (packet.Voice2 group message) is = tt
few-in (packet.Data8 group words) is = tt
few-in (packet.Flex group words) is = tt
few-in (packet.Reserved words) is = tt

few-more : (stage : Stage) (role : Role) → IsFew role → ticks_of (stage_after stage role) ≤ ticks_of stage + 2 ^ 20
few-more (NotStarted None) StartOfClip few = omega arith
few-more (NotStarted (Some n)) StartOfClip few = omega arith
few-more (NotStarted None) EndOfClip few = omega arith
few-more (NotStarted (Some n)) EndOfClip few = omega arith
few-more (NotStarted None) (Resolution ticks) few = omega arith
few-more (NotStarted (Some n)) (Resolution ticks) few = omega arith
few-more (NotStarted None) (Delta ticks) few = omega arith
few-more (NotStarted (Some n)) (Delta ticks) few = omega arith
few-more (NotStarted None) Other few = omega arith
few-more (NotStarted (Some n)) Other few = omega arith
few-more (Started ticks) StartOfClip few = omega arith
few-more (Started ticks) EndOfClip few = omega arith
few-more (Started ticks) (Resolution n) few = omega arith
few-more (Started ticks) (Delta more) few = omega (arith, few)
few-more (Started ticks) Other few = omega arith
few-more (Ended ticks) role few = omega arith

-- ---- the state

-- the clip is that of these packets, newest first, and its ticks are few
pub record HoldsClip (clip : Stage) (past : List (Framed × Packet)) : Type 0 where
  pub stage : clip ≡ stage_over (packets_of past)
  pub few : ticks_of clip ≤ 2 ^ 20 * length past

pub holds-none : (clip : Stage) → clip ≡ new_stage → HoldsClip clip []
holds-none clip is_new = let H : Stage → Type 0 = λ c. HoldsClip c [] in subst H (sym is_new) (record { stage = refl; few = omega arith })

pub holds-more : (clip clip' : Stage) (past : List (Framed × Packet)) (item : Framed × Packet) → IsPacket item.1 → HoldsClip clip past
    → clip' ≡ stage_after clip (role_of item.1) → HoldsClip clip' (item ∷ past)
holds-more clip clip' past item is holds after =
    let H : Stage → Type 0 = λ c. HoldsClip c (item ∷ past) in
    subst H (sym after)
    (record {
      stage = ap (λ s. stage_after s (role_of item.1)) holds.stage;
      few = omega (arith, holds.few, few-more clip (role_of item.1) (few-in item.1 is));
    })

-- whether the clip has ended, by its answer at the end
ended-by : (clip : Option (List Packet)) (ticks : ℕ) → end_by clip ≡ Ok ticks → is_some clip ≡ true
ended-by (Some within) ticks e = refl
ended-by None ticks e = absurd cc

open-by : (clip : Option (List Packet)) (f : ClipFault) → end_by clip ≡ Err f → is_some clip ≡ false
open-by None f e = refl
open-by (Some within) f e = absurd cc

pub has-ended : (laws : ClipsAreTheDefinition) (clip : Stage) (past : List (Framed × Packet)) (ticks : ℕ) → HoldsClip clip past
    → end_of clip ≡ Ok ticks → is_ended (packets_of past) ≡ true
has-ended laws clip past ticks holds e =
    ended-by (ended_clip (packets_of past)) ticks (sym (laws.end (packets_of past)) ∙ ap end_of (sym holds.stage) ∙ e)

pub has-not-ended : (laws : ClipsAreTheDefinition) (clip : Stage) (past : List (Framed × Packet)) (f : ClipFault) → HoldsClip clip past
    → end_of clip ≡ Err f → is_ended (packets_of past) ≡ false
has-not-ended laws clip past f holds e =
    open-by (ended_clip (packets_of past)) f (sym (laws.end (packets_of past)) ∙ ap end_of (sym holds.stage) ∙ e)

pub steps-are : (laws : ClipsAreTheDefinition) (clip : Stage) (past : List (Framed × Packet)) (p : Packet) → HoldsClip clip past
    → step_of clip (role_of p) ≡ step_at (packets_of past) p
steps-are laws clip past p holds = ap (λ s. step_of s (role_of p)) holds.stage ∙ laws.steps (packets_of past) p

-- ---- what is put

pub text-is : (past : List (Framed × Packet)) (puts : List Put) → ArePut clipping past puts → output_in puts ≡ clip_text past
text-is [] puts put = ap output_in put
text-is (item ∷ past) puts put =
    ap output_in put.4
    ∙ flat_map-append output_of put.0 put.1
    ∙ ap (λ xs. xs ++ output_in put.1) (text-is past put.0 put.2)
    ∙ ap (λ ps. clip_text past ++ output_in ps) put.3

named-by : (result : Result ClipStep ClipFault) (item : Framed × Packet) → AreNamed clipping.names (puts_by result item)
named-by (Ok step.Before) item = tt
named-by (Ok (step.Began n)) item = (refl, tt)
named-by (Ok (step.Event n)) item = (refl, tt)
named-by (Ok step.Delta) item = tt
named-by (Ok (step.Ended n)) item = (refl, tt)
named-by (Err f) item = tt

pub puts-named : (past : List (Framed × Packet)) (item : Framed × Packet) (puts : List Put) → clipping.IsPut past item puts
    → AreNamed clipping.names puts
puts-named past item puts put =
    let A : List Put → Type 0 = λ ps. AreNamed clipping.names ps in
    subst A (sym put) (named-by (step_at (packets_of past) item.1) item)

pub last-named : (past : List (Framed × Packet)) (puts : List Put) → clipping.IsPutAtEnd past puts → AreNamed clipping.names puts
last-named past puts put = let A : List Put → Type 0 = λ ps. AreNamed clipping.names ps in subst A (sym put) tt

-- ---- ends that any pass has

abbrev pub IsAny : RunEnd → Type 0
IsAny (Refused reason.NotClip offset) = ⊥
IsAny (Refused reason.NoEnd offset) = ⊥
IsAny _ = Unit {0}

-- the words are refused for a reason of theirs
abbrev pub IsOfWords : RunEnd → Type 0
IsOfWords (Refused why offset) = IsOfBytes why
IsOfWords _ = ⊥

-- a packet isn't refused because the clip doesn't end
abbrev IsStepFault : Result ClipStep ClipFault → Type 0
IsStepFault (Ok s) = Unit {0}
IsStepFault (Err fault.NoResolution) = Unit {0}
IsStepFault (Err fault.AfterEnd) = Unit {0}
IsStepFault (Err fault.NoEnd) = ⊥

step-fault : (resolution : Option ℕ) (started ended : Bool) (ticks : ℕ) (role : Role)
    → IsStepFault (step_by resolution started ended ticks role)
step-fault None false ended ticks StartOfClip = tt
step-fault (Some n) false ended ticks StartOfClip = tt
step-fault None false ended ticks EndOfClip = tt
step-fault (Some n) false ended ticks EndOfClip = tt
step-fault None false ended ticks (Resolution m) = tt
step-fault (Some n) false ended ticks (Resolution m) = tt
step-fault None false ended ticks (Delta m) = tt
step-fault (Some n) false ended ticks (Delta m) = tt
step-fault None false ended ticks Other = tt
step-fault (Some n) false ended ticks Other = tt
step-fault resolution true false ticks role = tt
step-fault resolution true true ticks role = tt

abbrev reason_or : Reason → Option (Reason × ℕ) → Reason
reason_or other None = other
reason_or other (Some refusal) = refusal.0

any-reason : (result : Result ClipStep ClipFault) (at : ℕ) (why : Reason) (offset : ℕ) → IsStepFault result
    → refusal_by result at ≡ Some (why, offset) → IsAny (Refused why offset)
any-reason (Ok s) at why offset is e = absurd (let f : None ≡ Some (why, offset) = e in cc)
any-reason (Err fault.NoResolution) at why offset is e =
    let A : Reason → Type 0 = λ r. IsAny (Refused r offset) in
    subst A (ap (reason_or why) e) tt
any-reason (Err fault.AfterEnd) at why offset is e =
    let A : Reason → Type 0 = λ r. IsAny (Refused r offset) in
    subst A (ap (reason_or why) e) tt
any-reason (Err fault.NoEnd) at why offset is e = absurd is

pub any-step : (past : List (Framed × Packet)) (old new : Places) (item : Framed × Packet) (end : RunEnd)
    → StepEnds clipping past old new item end → IsAny end
any-step past old new item Done ends = tt
any-step past old new item ReadFault ends = tt
any-step past old new item LaneFault ends = tt
any-step past old new item OutputFault ends = tt
any-step past old new item NoteFault ends = tt
any-step past old new item NoMemory ends = tt
any-step past old new item (Refused why offset) ends =
    any-reason (step_at (packets_of past) item.1) item.0.offset why offset (step-fault _ _ _ _ (role_of item.1)) ends.0

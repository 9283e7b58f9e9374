-- What stands at each end of a clip file.
use Rattle.std.specs.Prelude.{◌≡◌, ◌⊎◌, ℕ, ◌<◌, false, List, [], length, reverse, None, Some, IfSome}
use Rattle.ump_words.specs.declared.words.Framed.{Framed}
use Rattle.ump_grammar.specs.declared.packet.Packet.{Packet}
use Rattle.midi_clip.specs.Header.{HasTaken, header_bytes}
use Rattle.midi_clip.specs.History.{is_ended}
use Rattle.outside.specs.Outside.{Loses, Rose, ahead}
use Rattle.pass_loop.specs.Pass.{Ends, IsWork, Seen}
use Rattle.pass_loop.specs.Places.{over_puts}
use Rattle.pass_loop.specs.Put.{Put}
use Rattle.pass_loop.specs.declared.ends.Reason.TheVariants.{NotClip, NoEnd}
use Rattle.pass_loop.specs.declared.ends.RunEnd.{RunEnd}
use Rattle.pass_loop.specs.declared.ends.RunEnd.TheVariants.{Refused, ReadFault}
use Rattle.clip_pass.specs.Clipping.{clipping}
use Rattle.clip_pass.specs.Cutting.{clip_cutting, packets_of}

-- what is seen before the header is taken, by what is seen after it
abbrev pub with_header : Seen → Seen
with_header old = record old { left = ahead header_bytes old.left }

-- The input doesn't begin with the header: its first eight bytes are others, or it has fewer. No more was taken, and nothing is put.
pub record IsNoClip (offset : ℕ) (old new : Seen) : Type 0 where
  pub first : offset ≡ 0
  pub taken : HasTaken old.left new.left false
  pub places : new.places ≡ old.places
  pub reads : new.reads ≡ old.reads

-- The input is a header and packets, none of which is refused, and was read to its end, but the clip did not end: all lines of the
-- packets are put.
pub record IsUnended (offset : ℕ) (old new : Seen) : Type 0 where
  pub items : List (Framed × Packet)
  pub puts : List Put
  pub cut : IfSome old.left (λ bytes. clip_cutting bytes items None × (new.left ≡ Some []) × (offset ≡ length bytes))
  pub done : IsWork clipping items puts
  pub goes_on : is_ended (packets_of (reverse items)) ≡ false
  pub places : new.places ≡ over_puts puts old.places
  pub reads : new.reads ≡ old.reads

-- A read failed before eight bytes were taken: nothing is put.
pub record FailsInHeader (old new : Seen) : Type 0 where
  pub taken : List ℕ
  pub few : length taken < 8
  pub lost : Loses old.left new.left taken
  pub places : new.places ≡ old.places
  pub reads : Rose old.reads new.reads

-- what any pass says of its end; and of an input without the header and of a clip that doesn't end, what is said above
pub record EndsAsAny (old new : Seen) (end : RunEnd) : Type 0 where
  pub any : Ends clip_cutting clipping old new end
  pub no_clip : (offset : ℕ) → end ≡ Refused NotClip offset → IsNoClip offset old new
  pub unended : (offset : ℕ) → end ≡ Refused NoEnd offset → IsUnended offset old new

-- what each end says: that, or that a read failed within the header
abbrev pub ClipEnds : Seen → Seen → RunEnd → Type 0
ClipEnds old new end = EndsAsAny old new end ⊎ ((end ≡ ReadFault) × FailsInHeader old new)

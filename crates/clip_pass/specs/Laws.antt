-- What holds of every clip file that is shown to its end.
use Rattle.std.specs.Prelude.{◌≡◌, true, false, ℕ, List, [], ◌∷◌, ◌++◌, reverse, None, Some, Ok}
use Rattle.std.specs.List.{AllByRecursion}
use Rattle.ump_words.specs.declared.words.Framed.{Framed}
use Rattle.ump_grammar.specs.declared.packet.Packet.{Packet}
use Rattle.midi_clip.specs.History.{can_start, step_at, step_within, ticks_in}
use Rattle.midi_clip.specs.Roles.{is_end, is_start, role_of}
use Rattle.pass_loop.specs.Pass.{Seen}
use Rattle.pass_loop.specs.Places.{Places, with_more}
use Rattle.pass_loop.specs.declared.ends.RunEnd.TheVariants.{Done}
use Rattle.clip_pass.specs.Clipping.{clip_text}
use Rattle.clip_pass.specs.Cutting.{clip_cutting, packets_of}
use Rattle.clip_pass.specs.Ends.{ClipEnds}

-- a packet after these, in the order in which they came, could start the clip
abbrev pub CanStart : List (Framed × Packet) → Framed × Packet → Type 0
CanStart before item = can_start (packets_of (reverse before)) item.1 ≡ true

-- The bytes are the header and these packets: one that starts the clip, no Start of Clip before it, and after it one End of Clip, with
-- which the bytes end. Each packet between the two is what its role says, at the sum of the Delta Clockstamps between the start and it.
-- The output gained the lines of the clip.
pub record IsShownClip (bytes : List ℕ) (old new : Places) : Type 0 where
  pub before : List (Framed × Packet)
  pub start : Framed × Packet
  pub within : List (Framed × Packet)
  pub end : Framed × Packet
  pub cut : clip_cutting bytes (before ++ start ∷ (within ++ end ∷ [])) None
  pub starts : CanStart before start
  pub first : AllByRecursion (λ item. is_start (role_of item.1) ≡ false) before
  pub ends : is_end (role_of end.1) ≡ true
  pub none_before : AllByRecursion (λ item. is_end (role_of item.1) ≡ false) within
  pub stands : (earlier later : List (Framed × Packet)) (item : Framed × Packet) → within ++ end ∷ [] ≡ earlier ++ item ∷ later →
      step_at (packets_of (reverse (before ++ start ∷ earlier))) item.1 ≡ Ok (step_within (ticks_in (packets_of earlier)) (role_of item.1))
  pub output : new.output ≡ with_more old.output (clip_text (reverse (before ++ start ∷ (within ++ end ∷ []))))

abbrev pub DoneShowsTheClip : Type 0
DoneShowsTheClip =
    (old new : Seen) (bytes : List ℕ) → old.left ≡ Some bytes → ClipEnds old new Done → IsShownClip bytes old.places new.places

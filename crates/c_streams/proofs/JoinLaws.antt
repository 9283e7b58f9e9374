-- Packets that the join takes one after another.
use Rattle.std.proofs.Common.{◌≡◌, ◌∙◌, ℕ, List, [], ◌∷◌, length, refl, ap, sym, Bool, true, false, Some}
use Rattle.std.specs.Prelude.{Ok, Err}
use Rattle.sysex8_streams.specs.History.{Answer8, held8, whole8, stray8, restarted8, restarted_whole8, too_long8, full8, part_of}
use Rattle.sysex8_streams.specs.Table.{Table8, answer8_to}
use Rattle.c_answers.specs.Fronts.{with_front}
use Rattle.c_answers.specs.declared.block.Block.{Block}
use Rattle.c_answers.specs.declared.status.Status.{Status}
use Rattle.c_answers.specs.declared.status.Status.TheVariants as statuses
use Rattle.c_answers.proofs.BlockLaws as laws
use Rattle.c_streams.specs.ForProofs.Joined.{TakesPacket}
use Rattle.c_streams.specs.Sysex8.{JoinsPacket, RefusesPacket, Reply, ended_by, has_part, joining, refusal_of, replies}
use Rattle.c_streams.specs.declared.sysex8.JoinedPart.{JoinedPart}
use Rattle.c_streams.specs.declared.sysex8.TooLong.{TooLong}

-- the limit stays
abbrev pub Keeps : Table8 → Table8 → Type 0
Keeps held now = now.room ≡ held.room

abbrev pub AreSoFar : Table8 → ℕ → List ℕ → List ℕ → List JoinedPart → Block → ℕ → Table8 → List ℕ → List JoinedPart → Type 0
AreSoFar held offset words old old_parts block next now buffer parts =
    laws.AreSoFar joining (Keeps held) held offset words old old_parts block next now buffer parts

-- a part has as many bytes written as the exclusive has that it ends
written_size : (there : Bool) (table : Table8) (words : List ℕ) (offset : ℕ) (reply : Reply) → replies there table words offset reply
    → reply.joined.written ≡ length reply.ended
written_size false table words offset reply is =
    ap (λ (r : Reply). r.joined.written) is ∙ ap (λ (r : Reply). length r.ended) (sym is)
written_size true table words offset reply is =
    ap (λ (r : Reply). r.joined.written) is.2 ∙ ap (λ (r : Reply). length r.ended) (sym is.2)

-- and ends nothing if it is refused
refused_ends : (answer : Answer8) (why : Status) → refusal_of answer ≡ Some why → ended_by answer ≡ []
refused_ends held8 why is = absurd cc
refused_ends (whole8 bytes) why is = absurd cc
refused_ends stray8 why is = absurd cc
refused_ends (restarted8 at) why is = absurd cc
refused_ends (restarted_whole8 at bytes) why is = absurd cc
refused_ends too_long8 why is = refl
refused_ends full8 why is = absurd cc

nothing_ended : (there : Bool) (table : Table8) (words : List ℕ) (offset : ℕ) (reply : Reply) (why : Status)
    → replies there table words offset reply → reply.refusal ≡ Some why → reply.ended ≡ []
nothing_ended false table words offset reply why is refused = ap (λ (r : Reply). r.ended) is
nothing_ended true table words offset reply why is refused =
    let answer : Answer8 = answer8_to table (part_of is.0 offset) in
    ap (λ (r : Reply). r.ended) is.2 ∙ refused_ends answer why (ap (λ (r : Reply). r.refusal) (sym is.2) ∙ refused)

module _ (now : Table8) (own : List ℕ) (next : ℕ) (left : List ℕ) where
  -- a packet that is taken is joined
  pub joins : (part : JoinedPart) (rest : List ℕ) (after : Table8) (takes : TakesPacket now own next left (Ok part) rest after) →
      JoinsPacket now next own takes.0.ended (part ∷ []) after
  joins part rest after takes =
      record {
        reply = takes.0;
        replied = takes.1;
        accepted = takes.2.shown.0;
        written_are = refl;
        parts_are = ap (λ (p : JoinedPart). p ∷ []) takes.2.shown.1;
        after_is = takes.2.after_is;
      }

  pub part_written : (part : JoinedPart) (rest : List ℕ) (after : Table8) (takes : TakesPacket now own next left (Ok part) rest after) →
      part.written ≡ length takes.0.ended
  part_written part rest after takes =
      ap (λ (p : JoinedPart). p.written) takes.2.shown.1 ∙ written_size (has_part own) now own next takes.0 takes.1

  -- one that isn't is refused, and leaves the buffer as it was
  pub refuses : (refused : TooLong) (rest : List ℕ) (after : Table8) → TakesPacket now own next left (Err refused) rest after →
      RefusesPacket now next own statuses.ExclusiveTooLong after
  refuses refused rest after takes =
      record { reply = takes.0; replied = takes.1; refused = takes.2.shown.0; after_is = takes.2.after_is }

  pub unchanged : (refused : TooLong) (rest : List ℕ) (after : Table8) → TakesPacket now own next left (Err refused) rest after → rest ≡ left
  unchanged refused rest after takes =
      takes.2.front
      ∙ ap (λ ended. with_front ended left)
      (nothing_ended (has_part own) now own next takes.0 statuses.ExclusiveTooLong takes.1 takes.2.shown.0)

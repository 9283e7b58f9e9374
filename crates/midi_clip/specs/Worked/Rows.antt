-- Worked rows: the definitions, computed.
use Rattle.std.specs.Prelude.{◌≡◌, ℕ, List, [], ◌∷◌, ◌++◌, Result, Ok, Err}
use Rattle.ump_grammar.specs.declared.packet.Packet.{Packet}
use Rattle.ump_grammar.specs.declared.packet.Packet.TheVariants.{Utility, Stream}
use Rattle.midi_clip.specs.declared.step.ClipStep.{ClipStep}
use Rattle.midi_clip.specs.declared.step.ClipStep.TheVariants.{Before, Began, Event, Delta, Ended}
use Rattle.midi_clip.specs.declared.step.ClipFault.{ClipFault}
use Rattle.midi_clip.specs.declared.step.ClipFault.TheVariants.{NoResolution, AfterEnd, NoEnd}
use Rattle.midi_clip.specs.History.{end_at, step_at}

-- what each of these packets is, in the order in which they came
abbrev pub steps : List Packet → List (Result ClipStep ClipFault)
steps [] = []
steps (packet ∷ past) = steps past ++ step_at past packet ∷ []

abbrev pub resolution : ℕ → Packet
resolution ticks = Utility 3 ticks

abbrev pub stamp : ℕ → Packet
stamp ticks = Utility 4 ticks

abbrev pub start : Packet
start = Stream 0 0x020 0 0 0 0

abbrev pub end : Packet
end = Stream 0 0x021 0 0 0 0

-- a NOOP stands for any other packet
abbrev pub noop : Packet
noop = Utility 0 0

-- a clip of 96 ticks with one event in the middle, after clockstamps that don't count
abbrev pub one_event : List Packet
one_event = end ∷ stamp 48 ∷ noop ∷ stamp 48 ∷ start ∷ stamp 5 ∷ resolution 96 ∷ stamp 0 ∷ []

-- a start without a resolution, one with 0, ends before the start, a clip with a second start, and what comes after its end
abbrev pub many : List Packet
many =
    end ∷ noop ∷ end ∷ start ∷ resolution 7 ∷ stamp 1048575 ∷ Stream 1 0x021 0 0 0 0 ∷ Stream 1 0x020 0 0 0 0 ∷ stamp 2
    ∷ start ∷ end ∷ resolution 0x10060 ∷ start ∷ resolution 0x20000 ∷ resolution 96 ∷ stamp 9 ∷ start ∷ []

pub record WorkedRows : Type 0 where
  pub one : steps one_event ≡ Ok Before ∷ Ok Before ∷ Ok Before ∷ Ok (Began 96) ∷ Ok Delta ∷ Ok (Event 48) ∷ Ok Delta ∷ Ok (Ended 96) ∷ []
  pub one_end : end_at one_event ≡ Ok 96
  pub more : steps many ≡
      Err NoResolution ∷ Ok Before ∷ Ok Before ∷ Ok Before ∷ Err NoResolution ∷ Ok Before ∷ Ok Before ∷ Ok (Began 96) ∷ Ok Delta
      ∷ Ok (Event 2) ∷ Ok (Event 2) ∷ Ok Delta ∷ Ok (Event 1048577) ∷ Ok (Event 1048577) ∷ Ok (Ended 1048577) ∷ Err AfterEnd ∷ Err AfterEnd
      ∷ []
  pub more_end : end_at many ≡ Ok 1048577
  pub none : end_at [] ≡ Err NoEnd
  pub not_ended : end_at (noop ∷ stamp 48 ∷ start ∷ resolution 96 ∷ []) ≡ Err NoEnd
  pub not_started : end_at (end ∷ start ∷ []) ≡ Err NoEnd

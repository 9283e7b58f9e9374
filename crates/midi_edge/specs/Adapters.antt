-- What a clause reads of the adapters.
use Rattle.std.specs.Prelude.{◌≡◌, ◌⊎◌, ◌<◌, ◌&&◌, ◌==◌, Bool, true, not, ℕ, List, [], All, length}
use Rattle.std.specs.Prelude.{take, Option, Result, MatchResult, Some, slice_get, slice_set}
use Rattle.std.specs.List.{AllZip}
use Rattle.std.specs.Io.Buffered.{reader_buffer, reader_remaining}
use Rattle.std.specs.Io.KnownBytes.{Appends, Keeps, append_known}
use Rattle.outside.specs.Outside.{Rose}
use Rattle.midi_edge.specs.declared.adapters.write_sink.WriteSink.{WriteSink}
use Rattle.midi_edge.specs.declared.adapters.folder_lanes.FolderLanes.{FolderLanes}
use Rattle.midi_edge.specs.declared.adapters.buffered_source.BufferedSource.{BufferedSource}
use Rattle.midi_edge.specs.declared.adapters.read_source.ReadSource.{ReadSource}

-- the bytes that the reader of a source will give, if it tells them
abbrev pub to_come : {R : Type 0} → (R → Option (List ℕ)) → ReadSource R → Option (List ℕ)
to_come remaining s = remaining s.reader

-- the bytes that are held and then those that the reader will give, if it tells them
abbrev pub to_be_given : {R : Type 0} → (R → Option (List ℕ)) → BufferedSource R → Option (List ℕ)
to_be_given remaining s = reader_remaining remaining s.reader

-- the source is a file's
abbrev pub never_waits : {R : Type 0} → BufferedSource R → Bool
never_waits s = s.is_file

-- the source isn't a file's, and holds no byte
abbrev pub is_waiting : {R : Type 0} → BufferedSource R → Bool
is_waiting s = not (never_waits s) && length (reader_buffer s.reader) == 0

-- the bytes that a sink has accepted and not yet written out
abbrev pub unwritten : {W : Type 0} → WriteSink W → List ℕ
unwritten s = s.gathered

-- `write_out` of a sink has failed
abbrev pub has_failed_early : {W : Type 0} → WriteSink W → Bool
has_failed_early s = s.room.bytes == 0

-- the bytes that the writer of a sink holds, if it tells them, and then those not yet written out
abbrev pub accepted : {W : Type 0} → (W → Option (List ℕ)) → WriteSink W → Option (List ℕ)
accepted contents s = append_known (contents s.writer) (unwritten s)

-- the piece is accepted after the earlier bytes, or at `Err` a front of it that isn't all of it
abbrev pub Accepts : {T E : Type 0} → Option (List ℕ) → Option (List ℕ) → Result T E → List ℕ → Type 0
Accepts old new result piece =
    MatchResult result (λ _. Appends old new piece) (λ _. (n : ℕ) × (n < length piece) × Appends old new (take n piece))

-- there are as many sinks as before, and each keeps what it has accepted
abbrev pub KeepsEach : {W : Type 0} → (W → Option (List ℕ)) → List (WriteSink W) → List (WriteSink W) → Type 0
KeepsEach contents old new = AllZip (λ before after. Keeps (accepted contents before) (accepted contents after)) old new

-- there are as many lanes as before, and each keeps what it has accepted
abbrev pub KeepsLanes : {R F A : Type 0} → (F → Option (List ℕ)) → FolderLanes R F A → FolderLanes R F A → Type 0
KeepsLanes contents old new = KeepsEach contents old.lanes.items new.lanes.items

-- there are as many sinks as before, and each has nothing left to write out, or its own count of faults rose
abbrev pub TriesEach : {W : Type 0} → List (WriteSink W) → List (WriteSink W) → Type 0
TriesEach old new = AllZip (λ before after. (unwritten after ≡ []) ⊎ Rose before.faults after.faults) old new

-- each lane has nothing left to write out, or its own count of faults rose
abbrev pub TriesLanes : {R F A : Type 0} → FolderLanes R F A → FolderLanes R F A → Type 0
TriesLanes old new = TriesEach old.lanes.items new.lanes.items

-- no lane holds bytes that are not yet written out
abbrev pub IsWrittenOut : {R F A : Type 0} → FolderLanes R F A → Type 0
IsWrittenOut l = All (λ s. unwritten s ≡ []) l.lanes.items

-- `write_out` of lanes has failed, at one lane or more
abbrev pub lanes_failed_early : {R F A : Type 0} → FolderLanes R F A → Bool
lanes_failed_early l = l.has_failed_early

-- the same, and it counts as failed at every lane
abbrev pub HasFailedEarly : {R F A : Type 0} → FolderLanes R F A → Type 0
HasFailedEarly l = (lanes_failed_early l ≡ true) × All (λ s. has_failed_early s ≡ true) l.lanes.items

-- one lane accepts the piece, or at `Err` a front of it that isn't all of it, and the others are unchanged
abbrev pub AcceptsInLane : {R F A T E : Type 0} → (F → Option (List ℕ)) → FolderLanes R F A → FolderLanes R F A → ℕ × List ℕ → Result T E
    → Type 0
AcceptsInLane {F = F} contents old new (lane, piece) result =
    (before after : WriteSink F) × (slice_get old.lanes.items lane ≡ Some before) × (new.lanes.items ≡ slice_set old.lanes.items lane after)
    × Accepts (accepted contents before) (accepted contents after) result piece

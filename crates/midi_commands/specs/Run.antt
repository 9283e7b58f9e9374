-- What a run says, by what its words ask for and by its status.
use Rattle.std.specs.Prelude.{◌≡◌, ◌⊎◌, ℕ, true, List, [], ◌∷◌, Option, Some, None, IfSome, Result, Ok, Err}
use Rattle.outside.specs.Outside.{Rose, kept_bytes}
use Rattle.outside.specs.declared.objects.Lanes as lanes
use Rattle.outside.specs.declared.objects.Shelf as shelf
use Rattle.outside.specs.declared.objects.Sink as sink
use Rattle.outside.specs.declared.objects.Source as source
use Rattle.command_line.specs.Asked.{Asked}
use Rattle.function_blocks.specs.Setups.{SetupData, setup_of}
use Rattle.function_blocks.specs.declared.rules.SetupFault.TheVariants as fault
use Rattle.pass_loop.specs.Pass.{Pass, Ends, HasNoRefusal, NothingFails, Seen, seen}
use Rattle.pass_loop.specs.Places.{Fails, Places, Puts}
use Rattle.pass_loop.specs.Put.{in_output}
use Rattle.pass_loop.specs.declared.ends.RunEnd.{RunEnd}
use Rattle.pass_loop.specs.declared.ends.RunEnd.TheVariants as end
use Rattle.midi_commands.specs.Command.{Plan, by_pass, into_folder, with_setup, over_clip, by_line, clip_file_pass, plan_of}
use Rattle.clip_pass.specs.Ends.{ClipEnds}
use Rattle.midi_commands.specs.LastLine.{last_puts}
use Rattle.midi_commands.specs.declared.status.Status.{Status}
use Rattle.midi_commands.specs.declared.status.Status.TheVariants.{Done, Refused, ReadFault, LaneFault, OutputFault, NoteFault}
use Rattle.midi_commands.specs.declared.status.Status.TheVariants.{ShelfFault, Usage, SetupSyntax, SetupField, NoMemory}

-- ---- the objects of a run

-- the content of a shelf, as far as a contract can see it, and its count of faults
pub record ShelfSeen : Type 0 where
  pub asked : Option (List ℕ)
  pub texts : Option (List ℕ → Option (List ℕ))
  pub faults : ℕ

abbrev pub shelf_seen : {K : Type 0} → shelf.Ghosts K → K → ShelfSeen
shelf_seen K k = record { asked = K.asked k; texts = K.texts k; faults = K.faults k }

-- the same of the objects of a pass, and of the shelf
pub record Objects : Type 0 where
  pub seen : Seen
  pub shelf : ShelfSeen

abbrev pub objects : {S L W N K : Type 0} → source.Ghosts S → lanes.Ghosts L → sink.Ghosts W → sink.Ghosts N →
    shelf.Ghosts K → S → L → W → N → K → Objects
objects S L W N K s l w n k = record { seen = seen S L W N s l w n; shelf = shelf_seen K k }

-- ---- a pass

-- the status for an end
abbrev pub status_after : RunEnd → Status
status_after end.Done = Done
status_after (end.Refused reason offset) = Refused reason offset
status_after end.ReadFault = ReadFault
status_after end.LaneFault = LaneFault
status_after end.OutputFault = OutputFault
status_after end.NoteFault = NoteFault
status_after end.NoMemory = NoMemory

-- the status for the end of a pass, or this one if the pass has none
abbrev pub status_in : Result RunEnd Status → Status
status_in (Ok end) = status_after end
status_in (Err status) = status

-- the pass ran to the end that has this status, or there was no memory and nothing changed
abbrev pub Runs : Pass → Seen → Seen → Status → Type 0
Runs pass old new status =
    ((end : RunEnd) × (status ≡ status_after end) × Ends pass.IsCut pass.work old new end)
    ⊎ ((status ≡ NoMemory) × (new ≡ old))

-- ---- a pass into a folder

-- the lanes are opened in the folder
abbrev pub opened : List ℕ → Seen → Seen
opened folder old =
    record old { places = record old.places { begun = true; folder = Some (kept_bytes folder) } }

-- they could not be opened there, and the count of their faults rose; or there was no memory for it
abbrev pub FailsToOpen : List ℕ → Seen → Seen → Status → Type 0
FailsToOpen folder old new LaneFault =
    (new ≡ record old {
      places = record old.places {
        folder = Some (kept_bytes folder);
        faults = new.places.faults;
      };
    })
    × Fails end.LaneFault old.places.faults new.places.faults
FailsToOpen folder old new NoMemory =
    new ≡ record old { places = record old.places { folder = Some (kept_bytes folder) } }
FailsToOpen folder old new _ = ⊥

-- the lanes were opened and then the pass ran, or they could not be opened, or there was no memory before
-- that
abbrev pub RunsInto : List ℕ → Pass → Seen → Seen → Status → Type 0
RunsInto folder pass old new status =
    ((end : RunEnd) × (status ≡ status_after end) × Ends pass.IsCut pass.work (opened folder old) new end)
    ⊎ FailsToOpen folder old new status ⊎ ((status ≡ NoMemory) × (new ≡ old))

-- ---- a pass with a setup

-- the shelf has been asked for a name
abbrev pub asked_for : List ℕ → ShelfSeen → ShelfSeen
asked_for name old = record old { asked = Some (kept_bytes name) }

-- this is the text of the name, if a contract can see the texts of the shelf
abbrev pub IsNamed : ShelfSeen → List ℕ → List ℕ → Type 0
IsNamed old name text = IfSome old.texts (λ texts. texts name ≡ Some text)

-- The shelf was asked for a name: its text is a setup; or it could not be read, and the count of the shelf's
-- faults rose; or it is no TOML, or breaks this rule first; or there was no memory for it.
abbrev pub FindsSetup : List ℕ → ShelfSeen → ShelfSeen → Result SetupData Status → Type 0
FindsSetup name old new (Ok setup) =
    (text : List ℕ) × IsNamed old name text × (setup_of text ≡ Ok setup) × (new ≡ asked_for name old)
FindsSetup name old new (Err ShelfFault) =
    (new ≡ record (asked_for name old) { faults = new.faults }) × Rose old.faults new.faults
FindsSetup name old new (Err SetupSyntax) =
    (text : List ℕ) × IsNamed old name text × (setup_of text ≡ Err fault.Syntax) × (new ≡ asked_for name old)
FindsSetup name old new (Err (SetupField rule)) =
    (text : List ℕ) × IsNamed old name text × (setup_of text ≡ Err (fault.Field rule))
    × (new ≡ asked_for name old)
FindsSetup name old new (Err NoMemory) = new ≡ asked_for name old
FindsSetup name old new (Err _) = ⊥

-- the setup was found and then its pass ran, or it wasn't found, or there was no memory before that
abbrev pub RunsWith : List ℕ → (SetupData → Pass) → Objects → Objects → Status → Type 0
RunsWith name pass old new status =
    ((setup : SetupData) × FindsSetup name old.shelf new.shelf (Ok setup)
    × Runs (pass setup) old.seen new.seen status)
    ⊎ (FindsSetup name old.shelf new.shelf (Err status) × (new.seen ≡ old.seen))
    ⊎ ((status ≡ NoMemory) × (new ≡ old))

-- ---- a clip file

-- the clip file was shown to the end that has this status, or there was no memory for the words and nothing
-- changed
abbrev pub ShowsClip : Seen → Seen → Status → Type 0
ShowsClip old new status =
    ((end : RunEnd) × (status ≡ status_after end) × ClipEnds old new end)
    ⊎ ((status ≡ NoMemory) × (new ≡ old))

-- ---- a line, without an input

-- the status once a line is put, or that failed
abbrev pub status_put : Result (Unit {0}) RunEnd → Status
status_put (Ok done) = Done
status_put (Err end) = status_after end

-- the line was put in the output, or that failed; or there was no memory, and nothing changed
abbrev pub PutsLine : List ℕ → Places → Places → Status → Type 0
PutsLine text old new status =
    ((answer : Result (Unit {0}) RunEnd) × (status ≡ status_put answer)
    × Puts (in_output text ∷ []) old new answer)
    ⊎ ((status ≡ NoMemory) × (new ≡ old))

-- the same, and the input and the shelf are unchanged
abbrev pub PutsLineAlone : List ℕ → Objects → Objects → Status → Type 0
PutsLineAlone text old new status =
    PutsLine text old.seen.places new.seen.places status × (new.seen.left ≡ old.seen.left)
    × (new.seen.reads ≡ old.seen.reads) × (new.shelf ≡ old.shelf)

-- ---- a run

-- what the command asks for is done, as far as the status says
abbrev pub Does : Plan → Objects → Objects → Status → Type 0
Does (by_pass pass) old new status = Runs pass old.seen new.seen status × (new.shelf ≡ old.shelf)
Does (into_folder folder pass) old new status =
    RunsInto folder pass old.seen new.seen status × (new.shelf ≡ old.shelf)
Does (with_setup name pass) old new status = RunsWith name pass old new status
Does over_clip old new status = ShowsClip old.seen new.seen status × (new.shelf ≡ old.shelf)
Does (by_line text) old new status = PutsLineAlone text old new status

-- If the words are no command nothing changes.
abbrev pub RunSays : Option Asked → Objects → Objects → Status → Type 0
RunSays (Some asked) old new status = Does (plan_of asked) old new status
RunSays None old new status = ((status ≡ Usage) ⊎ (status ≡ NoMemory)) × (new ≡ old)

-- the last line of the status is put in the notes, or that failed and a front of it stands there
abbrev pub HasLastLine : Objects → Objects → Status → Type 0
HasLastLine old new status =
    (answer : Result (Unit {0}) RunEnd) × (new.seen.left ≡ old.seen.left) × (new.seen.reads ≡ old.seen.reads)
    × (new.shelf ≡ old.shelf) × Puts (last_puts status) old.seen.places new.seen.places answer

-- if nothing is refused and nothing fails, a pass is done, or there was no memory
abbrev pub IsDonePass : Pass → Seen → Seen → Status → Type 0
IsDonePass pass old new status =
    IfSome old.left (λ bytes. HasNoRefusal pass.IsCut pass.work bytes → NothingFails old new → (status ≡ Done)
    ⊎ (status ≡ NoMemory))

-- the same, for the setup of the text that the shelf has by a name
abbrev pub IsDoneWith : List ℕ → (SetupData → Pass) → Objects → Objects → Status → Type 0
IsDoneWith name pass old new status =
    IfSome old.shelf.texts
    (λ texts. (text : List ℕ) (setup : SetupData) → texts name ≡ Some text → setup_of text ≡ Ok setup
    → (Rose old.shelf.faults new.shelf.faults → ⊥) → IsDonePass (pass setup) old.seen new.seen status)

-- if the output doesn't fail a line is put, or there was no memory
abbrev pub IsDoneLine : Places → Places → Status → Type 0
IsDoneLine old new status =
    (Rose old.faults.output new.faults.output → ⊥) → (status ≡ Done) ⊎ (status ≡ NoMemory)

abbrev pub IsDonePlan : Plan → Objects → Objects → Status → Type 0
IsDonePlan (by_pass pass) old new status = IsDonePass pass old.seen new.seen status
IsDonePlan (into_folder folder pass) old new status = IsDonePass pass old.seen new.seen status
IsDonePlan (with_setup name pass) old new status = IsDoneWith name pass old new status
IsDonePlan over_clip old new status = IsDonePass clip_file_pass old.seen new.seen status
IsDonePlan (by_line text) old new status = IsDoneLine old.seen.places new.seen.places status

abbrev pub IsDoneOrNoMemory : Option Asked → Objects → Objects → Status → Type 0
IsDoneOrNoMemory (Some asked) old new status = IsDonePlan (plan_of asked) old new status
IsDoneOrNoMemory None old new status = Unit {0}

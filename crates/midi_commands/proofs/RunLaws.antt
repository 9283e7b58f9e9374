-- What is done before the last line is done with it.
use Rattle.std.proofs.Common.{◌≡◌, ℕ, List, Option, None, Some, sym, subst, arith}
use Rattle.std.specs.Prelude.{◌⊎◌, IfSome, Result, Ok, Err}
use Rattle.outside.specs.Outside.{Rose}
use Rattle.command_line.specs.Asked.{Asked}
use Rattle.function_blocks.specs.Setups.{SetupData, setup_of}
use Rattle.pass_loop.specs.Pass.{HasNoRefusal, NothingFails, Pass, Seen}
use Rattle.pass_loop.specs.Places.{Counts, Places, Fails, Puts}
use Rattle.pass_loop.specs.Put.{Put}
use Rattle.pass_loop.specs.declared.ends.RunEnd.{RunEnd}
use Rattle.pass_loop.specs.declared.ends.RunEnd.TheVariants as end
use Rattle.midi_commands.specs.Command.{Plan, by_pass, into_folder, with_setup, over_clip, by_line, clip_file_pass, plan_of}
use Rattle.midi_commands.specs.Run.{IsDoneOrNoMemory, IsDonePass, IsDonePlan, Objects, ShelfSeen}
use Rattle.midi_commands.specs.declared.status.Status.{Status}
use Rattle.midi_commands.specs.declared.status.Status.TheVariants.{Done, NoMemory}

-- a count that rose has risen later too
still_rose : (first before now : ℕ) → Rose before now → Rose first before → Rose first now
still_rose first before now rose first_rose = omega (arith, rose, first_rose)

-- no count falls when puts are put, or one of them fails
counts_rise : (end : RunEnd) (old new : Counts) → Fails end old new → (first : ℕ)
    → (Rose first old.lanes → Rose first new.lanes) × (Rose first old.output → Rose first new.output)
    × (Rose first old.notes → Rose first new.notes)
counts_rise end.LaneFault old new fails first =
    let O : Counts → Type 0 = λ c. Rose first old.output → Rose first c.output in
    let N : Counts → Type 0 = λ c. Rose first old.notes → Rose first c.notes in
    (still_rose first old.lanes new.lanes fails.0, subst O (sym fails.1) (λ r. r), subst N (sym fails.1) (λ r. r))
counts_rise end.OutputFault old new fails first =
    let L : Counts → Type 0 = λ c. Rose first old.lanes → Rose first c.lanes in
    let N : Counts → Type 0 = λ c. Rose first old.notes → Rose first c.notes in
    (subst L (sym fails.1) (λ r. r), still_rose first old.output new.output fails.0, subst N (sym fails.1) (λ r. r))
counts_rise end.NoteFault old new fails first =
    let L : Counts → Type 0 = λ c. Rose first old.lanes → Rose first c.lanes in
    let O : Counts → Type 0 = λ c. Rose first old.output → Rose first c.output in
    (subst L (sym fails.1) (λ r. r), subst O (sym fails.1) (λ r. r), still_rose first old.notes new.notes fails.0)
counts_rise end.Done old new fails first = absurd fails
counts_rise (end.Refused reason offset) old new fails first = absurd fails
counts_rise end.ReadFault old new fails first = absurd fails
counts_rise end.NoMemory old new fails first = absurd fails

puts_rise : (puts : List Put) (old new : Places) (answer : Result (Unit {0}) RunEnd) → Puts puts old new answer → (first : ℕ)
    → (Rose first old.faults.lanes → Rose first new.faults.lanes) × (Rose first old.faults.output → Rose first new.faults.output)
    × (Rose first old.faults.notes → Rose first new.faults.notes)
puts_rise puts old new (Ok done) put first =
    let L : Places → Type 0 = λ s. Rose first old.faults.lanes → Rose first s.faults.lanes in
    let O : Places → Type 0 = λ s. Rose first old.faults.output → Rose first s.faults.output in
    let N : Places → Type 0 = λ s. Rose first old.faults.notes → Rose first s.faults.notes in
    (subst L (sym put) (λ r. r), subst O (sym put) (λ r. r), subst N (sym put) (λ r. r))
puts_rise puts old new (Err end) stops first = counts_rise end old.faults new.faults stops.counts first

-- with more puts nothing fails only if nothing failed before them
fails_before : (puts : List Put) (old unended new : Seen) (answer : Result (Unit {0}) RunEnd) → unended.reads ≡ new.reads
    → Puts puts unended.places new.places answer → NothingFails old new → NothingFails old unended
fails_before puts old unended new answer reads put well =
    let R : ℕ → Type 0 = λ n. Rose old.reads n in (
      λ rose. well.0 (subst R reads rose),
      λ rose. well.1 ((puts_rise puts unended.places new.places answer put old.places.faults.lanes).0 rose),
      λ rose. well.2 ((puts_rise puts unended.places new.places answer put old.places.faults.output).1 rose),
      λ rose. well.3 ((puts_rise puts unended.places new.places answer put old.places.faults.notes).2 rose),
    )

-- what holds if nothing failed before more puts holds if nothing failed with them
done_told : (Holds : List ℕ → Type 0) (Ends : Type 0) (puts : List Put) (old unended new : Seen) (answer : Result (Unit {0}) RunEnd)
    → unended.reads ≡ new.reads
    → Puts puts unended.places new.places answer → IfSome old.left (λ bytes. Holds bytes → NothingFails old unended → Ends)
    → IfSome old.left (λ bytes. Holds bytes → NothingFails old new → Ends)
done_told Holds Ends puts old unended new answer reads put done = by_told old.left done
  where
    by_told : (left : Option (List ℕ)) → IfSome left (λ bytes. Holds bytes → NothingFails old unended → Ends)
        → IfSome left (λ bytes. Holds bytes → NothingFails old new → Ends)
    by_told None done = tt
    by_told (Some bytes) done = λ holds well. done holds (fails_before puts old unended new answer reads put well)

done_pass : (puts : List Put) (pass : Pass) (old unended new : Seen) (status : Status) (answer : Result (Unit {0}) RunEnd)
    → unended.reads ≡ new.reads → Puts puts unended.places new.places answer
    → IsDonePass pass old unended status → IsDonePass pass old new status
done_pass puts pass old unended new status answer reads put done =
    done_told (HasNoRefusal pass.IsCut pass.work) ((status ≡ Done) ⊎ (status ≡ NoMemory)) puts old unended new answer reads put done

done_plan : (puts : List Put) (plan : Plan) (old unended new : Objects) (status : Status) (answer : Result (Unit {0}) RunEnd)
    → unended.seen.reads ≡ new.seen.reads → unended.shelf ≡ new.shelf → Puts puts unended.seen.places new.seen.places answer
    → IsDonePlan plan old unended status → IsDonePlan plan old new status
done_plan puts (by_pass pass) old unended new status answer reads shelf put done =
    done_pass puts pass old.seen unended.seen new.seen status answer reads put done
done_plan puts (into_folder folder pass) old unended new status answer reads shelf put done =
    done_pass puts pass old.seen unended.seen new.seen status answer reads put done
done_plan puts over_clip old unended new status answer reads shelf put done =
    done_pass puts clip_file_pass old.seen unended.seen new.seen status answer reads put done
done_plan puts (by_line text) old unended new status answer reads shelf put done =
    λ well. done (λ rose. well ((puts_rise puts unended.seen.places new.seen.places answer put old.seen.places.faults.output).1 rose))
done_plan puts (with_setup name pass) old unended new status answer reads shelf put done = by_told old.shelf.texts done
  where
    Done : ShelfSeen → Seen → Option (List ℕ → Option (List ℕ)) → Type 0
    Done shelf seen told =
        IfSome told (λ texts. (text : List ℕ) (setup : SetupData) → texts name ≡ Some text → setup_of text ≡ Ok setup
        → (Rose old.shelf.faults shelf.faults → ⊥) → IsDonePass (pass setup) old.seen seen status)

    by_told : (told : Option (List ℕ → Option (List ℕ))) → Done unended.shelf unended.seen told → Done new.shelf new.seen told
    by_told None done = tt
    by_told (Some texts) done = λ text setup named is well.
        let R : ShelfSeen → Type 0 = λ s. Rose old.shelf.faults s.faults in
        done_pass puts (pass setup) old.seen unended.seen new.seen status answer reads put
        (done text setup named is (λ rose. well (subst R shelf rose)))

pub done_with_more : (puts : List Put) (asked : Option Asked) (old unended new : Objects) (status : Status)
    (answer : Result (Unit {0}) RunEnd)
    → unended.seen.reads ≡ new.seen.reads → unended.shelf ≡ new.shelf
    → Puts puts unended.seen.places new.seen.places answer → IsDoneOrNoMemory asked old unended status
    → IsDoneOrNoMemory asked old new status
done_with_more puts None old unended new status answer reads shelf put done = tt
done_with_more puts (Some asked) old unended new status answer reads shelf put done =
    done_plan puts (plan_of asked) old unended new status answer reads shelf put done

-- What a run that is done leaves is what the laws of the passes tell of the whole input.
use Rattle.std.proofs.Common.{◌≡◌, ℕ, List, [], ◌∷◌, ◌++◌, Option, None, Some, refl, ap, sym, ◌∙◌, subst, inl, inr}
use Rattle.std.specs.Prelude.{IfSome, Ok, Err, Result}
use Rattle.clip_pass.specs.Ends.{ClipEnds}
use Rattle.clip_pass.specs.Laws.{DoneShowsTheClip}
use Rattle.command_line.specs.Asked.{Asked, down, up, back, show, show_bytes, endpoint}
use Rattle.command_line.specs.Asked.{usb_split, usb_pack, sysex8, rehearse, clip, self_test}
use Rattle.endpoint_pass.specs.Laws.{DoneAnswersTheInput}
use Rattle.function_blocks.specs.Setups.{SetupData}
use Rattle.pass_loop.specs.Pass.{Ends, IsDone, Pass, Seen}
use Rattle.pass_loop.specs.Places.{Places, Puts}
use Rattle.pass_loop.specs.Put.{Put}
use Rattle.pass_loop.specs.ForProofs.PutLaws.{over_puts-none}
use Rattle.pass_loop.specs.declared.ends.RunEnd.{RunEnd}
use Rattle.pass_loop.specs.declared.ends.RunEnd.TheVariants as end
use Rattle.rehearsal_pass.specs.Laws.{DoneRehearsesTheInput}
use Rattle.sysex8_pass.specs.Laws.{DoneJoinsTheInput}
use Rattle.translation_passes.specs.Laws.{DoneCarriesTheInput, DoneRaisesTheInput, DoneReturnsTheInput}
use Rattle.show_pass.specs.Laws.{DoneShowsTheRecording, DoneShowsTheStream}
use Rattle.usb_passes.specs.Laws.{DonePacksTheInput, DoneSplitsTheInput}
use Rattle.usb_passes.specs.Split.{splitting}
use Rattle.midi_commands.specs.Command.{back_pass, back_pass_options, called_event_pass, down_pass, down_pass_options}
use Rattle.midi_commands.specs.Command.{endpoint_pass, endpoint_pass_options, event_pass, pack_pass, pack_pass_options, plan_of}
use Rattle.midi_commands.specs.Command.{show_bytes_pass, show_bytes_pass_options, show_pass, show_pass_options, sysex8_pass}
use Rattle.midi_commands.specs.Command.{sysex8_pass_options, up_pass, up_pass_options}
use Rattle.midi_commands.specs.Run.{Does, FindsSetup, HasLastLine, Objects, RunSays, Runs, RunsInto, RunsWith, ShelfSeen, ShowsClip}
use Rattle.midi_commands.specs.Run.{opened, status_after}
use Rattle.midi_commands.specs.WholeInput.{DoneLeavesTheWhole, LeavesAll, LeavesTheWhole, input_of}
use Rattle.midi_commands.specs.declared.status.Status.{Status}
use Rattle.midi_commands.specs.declared.status.Status.TheVariants.{Done, NoMemory, Usage}

-- ---- what is done

end_is : (e : RunEnd) → Done ≡ status_after e → e ≡ end.Done
end_is end.Done is = refl
end_is (end.Refused reason offset) is = cc
end_is end.ReadFault is = cc
end_is end.LaneFault is = cc
end_is end.OutputFault is = cc
end_is end.NoteFault is = cc
end_is end.NoMemory is = cc

not_memory : Done ≡ NoMemory → ⊥
not_memory is = cc

no_usage : Done ≡ Usage → ⊥
no_usage is = cc

-- a pass that ran to its end is done
module _ (pass : Pass) (old new : Seen) where
  done_by : (e : RunEnd) → Done ≡ status_after e → Ends pass.IsCut pass.work old new e → IsDone pass.IsCut pass.work old new
  done_by e is ends =
      let E : RunEnd → Type 0 = λ x. Ends pass.IsCut pass.work old new x in
      (subst E (end_is e is) ends).0

  done_pass : Runs pass old new Done → IsDone pass.IsCut pass.work old new
  done_pass (inl ran) = done_by ran.0 ran.1 ran.2
  done_pass (inr none) = absurd (not_memory none.0)

done_into : (folder : List ℕ) (pass : Pass) (old new : Seen) → RunsInto folder pass old new Done
    → IsDone pass.IsCut pass.work (opened folder old) new
done_into folder pass old new (inl ran) = done_by pass (opened folder old) new ran.0 ran.1 ran.2
done_into folder pass old new (inr (inl fails)) = absurd fails
done_into folder pass old new (inr (inr none)) = absurd (not_memory none.0)

done_with : (name : List ℕ) (pass : SetupData → Pass) (old new : Objects) → RunsWith name pass old new Done
    → (setup : SetupData) × FindsSetup name old.shelf new.shelf (Ok setup)
    × IsDone (pass setup).IsCut (pass setup).work old.seen new.seen
done_with name pass old new (inl ran) = (ran.0, ran.1, done_pass (pass ran.0) old.seen new.seen ran.2)
done_with name pass old new (inr (inl fails)) = absurd fails.0
done_with name pass old new (inr (inr none)) = absurd (not_memory none.0)

done_clip : (old new : Seen) → ShowsClip old new Done → ClipEnds old new end.Done
done_clip old new (inl ran) = let E : RunEnd → Type 0 = λ e. ClipEnds old new e in subst E (end_is ran.0 ran.1) ran.2
done_clip old new (inr none) = absurd (not_memory none.0)

-- ---- the laws of the passes

pub record PassLaws : Type 0 where
  pub carries : DoneCarriesTheInput
  pub raises : DoneRaisesTheInput
  pub returns : DoneReturnsTheInput
  pub shows : DoneShowsTheRecording
  pub shows_bytes : DoneShowsTheStream
  pub answers : DoneAnswersTheInput
  pub splits : DoneSplitsTheInput
  pub packs : DonePacksTheInput
  pub joins : DoneJoinsTheInput
  pub rehearses : DoneRehearsesTheInput
  pub clips : DoneShowsTheClip

module _ (laws : PassLaws) where
  leaves_all : (asked : Asked) (bytes : List ℕ) (old new : Objects) → input_of asked old ≡ Some bytes → Does (plan_of asked) old new Done
      → LeavesAll asked bytes old new
  leaves_all (down folder options) bytes old new told does =
      laws.carries (down_pass_options options) bytes (opened folder old.seen) new.seen told
      (done_into folder (down_pass options) old.seen new.seen does.0)
  leaves_all (up options) bytes old new told does =
      laws.raises (up_pass_options options) bytes old.seen new.seen told (done_pass (up_pass options) old.seen new.seen does.0)
  leaves_all (back options) bytes old new told does =
      laws.returns (back_pass_options options) bytes old.seen new.seen told (done_pass (back_pass options) old.seen new.seen does.0)
  leaves_all (show options) bytes old new told does =
      laws.shows (show_pass_options options) bytes old.seen new.seen told (done_pass (show_pass options) old.seen new.seen does.0)
  leaves_all (show_bytes options) bytes old new told does =
      laws.shows_bytes (show_bytes_pass_options options) bytes old.seen new.seen told
      (done_pass (show_bytes_pass options) old.seen new.seen does.0)
  leaves_all (endpoint name options) bytes old new told does =
      let done = done_with name (endpoint_pass options) old new does in
      (done.0, done.1, laws.answers (endpoint_pass_options options done.0) bytes old.seen new.seen told done.2)
  leaves_all (usb_split folder) bytes old new told does =
      laws.splits bytes (opened folder old.seen) new.seen told (done_into folder (event_pass splitting) old.seen new.seen does.0)
  leaves_all (usb_pack options) bytes old new told does =
      laws.packs (pack_pass_options options) bytes old.seen new.seen told (done_pass (pack_pass options) old.seen new.seen does.0)
  leaves_all (sysex8 folder options) bytes old new told does =
      laws.joins (sysex8_pass_options options) bytes (opened folder old.seen) new.seen told
      (done_into folder (sysex8_pass options) old.seen new.seen does.0)
  leaves_all (rehearse name) bytes old new told does =
      let done = done_with name called_event_pass old new does in
      (done.0, done.1, laws.rehearses done.0 bytes old.seen new.seen told done.2)
  leaves_all clip bytes old new told does = laws.clips old.seen new.seen bytes told (done_clip old.seen new.seen does.0)
  leaves_all (self_test options) bytes old new told does = does

  pub leaves_the_whole : DoneLeavesTheWhole
  leaves_the_whole = λ asked old new does. by_left asked old new does (input_of asked old) refl
    where
      by_left : (asked : Asked) (old new : Objects) → Does (plan_of asked) old new Done → (left : Option (List ℕ))
          → input_of asked old ≡ left → IfSome left (λ bytes. LeavesAll asked bytes old new)
      by_left asked old new does None told = tt
      by_left asked old new does (Some bytes) told = leaves_all asked bytes old new told does

-- ---- a run that is done has no last line

same_places : (old new : Places) (answer : Result (Unit {0}) RunEnd) → Puts [] old new answer → new ≡ old
same_places old new (Ok done) put = put ∙ over_puts-none old
same_places old new (Err e) fails = absurd (no_put fails.before fails.after fails.failed fails.parts)
  where
    no_put : (before after : List Put) (failed : Put) → [] ≡ before ++ failed ∷ after → ⊥
    no_put [] after failed parts = cc
    no_put (put ∷ before) after failed parts = cc

same_objects : (old new : Objects) → HasLastLine old new Done → new ≡ old
same_objects old new last =
    let places : new.seen.places ≡ old.seen.places = same_places old.seen.places new.seen.places last.0 last.4 in
    ap (λ l. made l new.seen.reads new.seen.places new.shelf) last.1
    ∙ ap (λ r. made old.seen.left r new.seen.places new.shelf) last.2
    ∙ ap (λ p. made old.seen.left old.seen.reads p new.shelf) places
    ∙ ap (made old.seen.left old.seen.reads old.seen.places) last.3
  where
    made : Option (List ℕ) → ℕ → Places → ShelfSeen → Objects
    made left reads places shelf = record { seen = record { left = left; reads = reads; places = places }; shelf = shelf }

pub run_leaves : DoneLeavesTheWhole → (asked : Option Asked) (old ended new : Objects) (status : Status) → status ≡ Done
    → RunSays asked old ended status → HasLastLine ended new status → LeavesTheWhole asked old new
run_leaves law asked old ended new status is says last =
    let S : Status → Type 0 = λ s. RunSays asked old ended s in
    let H : Status → Type 0 = λ s. HasLastLine ended new s in
    let L : Objects → Type 0 = λ o. LeavesTheWhole asked old o in
    subst L (sym (same_objects ended new (subst H is last))) (by_words asked (subst S is says))
  where
    by_words : (asked : Option Asked) → RunSays asked old ended Done → LeavesTheWhole asked old ended
    by_words (Some asked) says = law asked old ended says
    by_words None says = elim says.0 [
      | inl usage ↦ absurd (no_usage usage)
      | inr none ↦ absurd (not_memory none)
    ]

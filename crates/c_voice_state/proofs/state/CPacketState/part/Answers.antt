use Rattle.std.proofs.Common.{List, ap, sym, subst, ◌∙◌, refl}
use Rattle.sysex_groups.specs.Exclusives.{Answer, Part}
use Rattle.sysex_groups.specs.Fed.{fed_view}
use Rattle.sysex_groups.specs.Table.{answer_to}
use Rattle.sysex_groups.specs.declared.fed.Fed.{Fed}
use Rattle.midi_meaning.specs.Messages.{raised}
use Rattle.voice_state.specs.Kept.{KeptGroup, Keeps}
use Rattle.voice_state.specs.Rooms.{KeepsAllRooms}
use Rattle.c_voice_state.specs.Kept.{takes_part, StateKept}
use Rattle.c_voice_state.proofs.state.CPacketState.part.Goals as goal

pub returns-in-Whole-clause-kept : goal.returns-in-Whole-clause-kept
returns-in-Whole-clause-kept c =
    let part : Part = record { group = c.args.group; form = c.args.form; bytes = c.args.bytes.now; offset = 0 } in
    let old = c.args.self.now in
    let A : Answer → Type 0 = λ answer. takes_part answer c.args.group old.kept 0 c.system.new.self in
    let F : Fed → Type 0 = λ fed. takes_part (fed_view fed) c.args.group old.kept 0 c.system.new.self in
    let same = ap (λ (s : StateKept). s.kept) c.self.view_is in
    let known = c.feed.ensures.answer ∙ ap (λ (s : StateKept). answer_to s.exclusives part) c.self.view_is in
    subst A known (subst F (sym c.in-Whole.is) (
      refl,
      (let R : List KeptGroup → Type 0 = λ k. KeepsAllRooms k c.system.new.self in subst R same c.system.ensures.rooms),
      λ states message keeps. let K : List KeptGroup → Type 0 = λ k. Keeps raised k states in
          c.system.ensures.common refl raised states message (subst K (sym same) keeps),
    ))

pub returns-in-RestartedWhole-clause-kept : goal.returns-in-RestartedWhole-clause-kept
returns-in-RestartedWhole-clause-kept c =
    let part : Part = record { group = c.args.group; form = c.args.form; bytes = c.args.bytes.now; offset = 0 } in
    let old = c.args.self.now in
    let new = c.system-in-RestartedWhole.new.self in
    let A : Answer → Type 0 = λ answer. takes_part answer c.args.group old.kept 0 new in
    let F : Fed → Type 0 = λ fed. takes_part (fed_view fed) c.args.group old.kept 0 new in
    let same = ap (λ (s : StateKept). s.kept) c.self.view_is in
    let known = c.feed.ensures.answer ∙ ap (λ (s : StateKept). answer_to s.exclusives part) c.self.view_is in
    subst A known (subst F (sym c.in-RestartedWhole.is) (
      refl,
      (let R : List KeptGroup → Type 0 = λ k. KeepsAllRooms k c.system-in-RestartedWhole.new.self in subst R same c.system-in-RestartedWhole.ensures.rooms),
      λ states message keeps. let K : List KeptGroup → Type 0 = λ k. Keeps raised k states in
          c.system-in-RestartedWhole.ensures.common refl raised states message (subst K (sym same) keeps),
    ))

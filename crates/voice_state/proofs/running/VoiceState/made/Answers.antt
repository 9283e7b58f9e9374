use Rattle.std.proofs.Common.{◌≡◌, ◌∙◌, ◌+◌, ◌++◌, ◌∷◌, [], ap, sym, subst, length, length-append, All, not, if◌then◌else◌}
use Rattle.std.proofs.lemmas.List.Elements.{All-push}
use Rattle.midi_meaning.specs.Messages.{as_they_come, raised, start}
use Rattle.voice_state.specs.Kept.{KeepsGroup}
use Rattle.voice_state.specs.Rooms.{ChannelsHaveRoom}
use Rattle.voice_state.proofs.running.VoiceState.made.Goals as goal

pub loop-index-preserved : goal.loop-index-preserved
loop-index-preserved c =
    let groups = c.loop-index.groups.items in
    let group = c.in-Ok-new.group in
    let pushed : c.push.new.self.items ≡ groups ++ group ∷ [] =
    c.push.ensures.items
    ∙ ap (λ is_pushed. if is_pushed then groups ++ group ∷ [] else groups) (c.is_err.ensures.negation ∙ ap not c.if-is_err.false) in
    subst
    (λ items. (length items ≡ c.loop-index.index + 1) × All (λ at. KeepsGroup as_they_come at (start as_they_come)) items
    × All (λ at. KeepsGroup raised at (start raised)) items
    × All (ChannelsHaveRoom c.args.room) items)
    (sym pushed) (
      length-append groups (group ∷ []) ∙ ap (λ n. n + 1) c.loop-index.invariant.0,
      All-push (λ at. KeepsGroup as_they_come at (start as_they_come)) groups group c.loop-index.invariant.1 c.in-Ok-new.ensures.midi1,
      All-push (λ at. KeepsGroup raised at (start raised)) groups group c.loop-index.invariant.2 c.in-Ok-new.ensures.packets,
      All-push (ChannelsHaveRoom c.args.room) groups group c.loop-index.invariant.3 c.in-Ok-new.ensures.rooms,
    )

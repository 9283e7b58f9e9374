use Rattle.std.proofs.Common.{◌≡◌, ◌∙◌, ◌+◌, ◌++◌, ◌∷◌, [], ap, sym, subst, length, length-append, All, not, if◌then◌else◌}
use Rattle.std.proofs.lemmas.List.Elements.{All-push}
use Rattle.midi_meaning.specs.Messages.{as_they_come, raised, start_channel}
use Rattle.voice_state.specs.Kept.{KeepsChannel}
use Rattle.voice_state.proofs.group.Group.new.Goals as goal

pub loop-preserved : goal.loop-preserved
loop-preserved c =
    let channels = c.loop.channels.items in
    let channel = c.in-Ok-new.channel in
    let pushed : c.push.new.self.items ≡ channels ++ channel ∷ [] =
    c.push.ensures.items
    ∙ ap (λ is_pushed. if is_pushed then channels ++ channel ∷ [] else channels) (c.is_err.ensures.negation ∙ ap not c.if-is_err.false) in
    subst
    (λ items. (length items ≡ c.loop.counter + 1) × All (λ at. KeepsChannel as_they_come at (start_channel as_they_come)) items
    × All (λ at. KeepsChannel raised at (start_channel raised)) items
    × All (λ at. at.room ≡ c.args.room) items)
    (sym pushed) (
      length-append channels (channel ∷ []) ∙ ap (λ n. n + 1) c.loop.invariant.0,
      All-push (λ at. KeepsChannel as_they_come at (start_channel as_they_come)) channels channel c.loop.invariant.1
          c.in-Ok-new.ensures.midi1,
      All-push (λ at. KeepsChannel raised at (start_channel raised)) channels channel c.loop.invariant.2 c.in-Ok-new.ensures.packets,
      All-push (λ at. at.room ≡ c.args.room) channels channel c.loop.invariant.3 c.in-Ok-new.ensures.room,
    )

use Rattle.std.proofs.Common.{refl, ◌∙◌, ◌+◌, ◌-◌, ◌^◌, ap, min, sym, subst}
use Rattle.voice_state.specs.Kept.{KeepsGroup, KeptGroup}
use Rattle.voice_state.specs.Rooms.{KeepsRooms}
use Rattle.voice_state.proofs.Counts.{count_more}
use Rattle.voice_state.proofs.group.Group.count_common.Goals as goal

pub returns-clause-step : goal.returns-clause-step
returns-clause-step c = λ scale state message keeps.
    let kept = subst (λ group. KeepsGroup scale group state) (sym c.self.view_is) keeps in
    record {
      channels = kept.channels;
      commons =
          c.saturating_add-self-inside.ensures ∙ ap (λ n. min (n + 1) (2 ^ 64 - 1)) kept.commons ∙ sym (count_more state.commons message);
      real_times = kept.real_times;
    }

pub returns-clause-rooms : goal.returns-clause-rooms
returns-clause-rooms c =
    let new : KeptGroup = record {
      channels = c.self.inside.channels.items;
      commons = c.saturating_add-self-inside.result;
      real_times = c.self.inside.real_times;
    } in
    subst (λ (kept : KeptGroup). KeepsRooms kept new) c.self.view_is (λ channel other. refl)

use Rattle.std.proofs.Common.{refl, ◌∙◌, ◌+◌, ◌-◌, ◌^◌, ap, min, sym, subst}
use Rattle.voice_state.specs.Kept.{KeepsGroup, KeptGroup}
use Rattle.voice_state.specs.Rooms.{KeepsRooms}
use Rattle.voice_state.proofs.Counts.{count_more}
use Rattle.voice_state.proofs.group.Group.count_real_time.Goals as goal

pub returns-clause-step : goal.returns-clause-step
returns-clause-step c = λ scale state message keeps.
    let kept = subst (λ group. KeepsGroup scale group state) (sym c.self.view_is) keeps in
    record {
      channels = kept.channels;
      commons = kept.commons;
      real_times =
          c.saturating_add-self-inside.ensures
          ∙ ap (λ n. min (n + 1) (2 ^ 64 - 1)) kept.real_times
          ∙ sym (count_more state.real_times message);
    }

pub returns-clause-rooms : goal.returns-clause-rooms
returns-clause-rooms c =
    let new : KeptGroup = record {
      channels = c.self.inside.channels.items;
      commons = c.self.inside.commons;
      real_times = c.saturating_add-self-inside.result;
    } in
    subst (λ (kept : KeptGroup). KeepsRooms kept new) c.self.view_is (λ channel other. refl)

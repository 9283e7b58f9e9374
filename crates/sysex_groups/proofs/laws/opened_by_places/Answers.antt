use Rattle.sysex_groups.proofs.PlaceLaws.{opens_by, is_opened_by}
use Rattle.sysex_groups.proofs.laws.opened_by_places.Goals as goal

pub returns : goal.returns
returns c = record { opens = opens_by; is_opened = is_opened_by }

use Rattle.std.proofs.Common.{◌≡◌, ◌∙◌, ℕ, List, Some, length, ap}
use Rattle.std.specs.Option.{option_map}
use Rattle.sysex_groups.specs.Exclusives.{Part, started}
use Rattle.sysex8_streams.specs.History.{taken}
use Rattle.sysex8_pass.specs.Held.{starts_in}
use Rattle.sysex8_pass.specs.Joining.{open_puts}
use Rattle.sysex8_pass.specs.Parts.{parts_at}
use Rattle.sysex8_pass.proofs.PartLaws.{begun-started}
use Rattle.sysex8_pass.proofs.joining.Sysex8EngineEngineFramedPacket.close.Goals as goal

pub returns : goal.returns
returns g c = λ first past holds.
    let laws = holds.law in
    let slots : ℕ = length first.streams.slots in
    let room : ℕ = first.streams.room in
    let parts : List Part = parts_at past in
    let starts : (key : ℕ) → starts_in c.args.self.now.streams key ≡ started (Some room) key (taken slots room parts) =
    λ key. ap (λ table. starts_in table key) holds.table_is
    ∙ ap (option_map (λ begun. begun.start)) (laws.begun slots room parts holds.least holds.parts key)
    ∙ begun-started room key (taken slots room parts) in
    (open_puts (starts_in c.args.self.now.streams), ap open_puts (λ i key. starts key i), c.list_open.ensures)

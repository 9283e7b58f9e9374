use Rattle.pass_loop.specs.ForProofs.FirstRefusalLaws.{one_refusal}
use Rattle.translation_passes.specs.Down.{carrying}
use Rattle.packet_input.specs.Packets.{packet_cutting}
use Rattle.translation_passes.proofs.laws.a_recording_has_one_first_refusal.Goals as goal

pub returns : goal.returns
returns c = λ options. one_refusal (packet_cutting options.order) (carrying options) (c.packets_are_cut_once.ensures options.order 0)

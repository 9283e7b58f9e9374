use Rattle.pass_loop.specs.ForProofs.FirstRefusalLaws.{one_refusal}
use Rattle.packet_input.specs.Packets.{packet_cutting}
use Rattle.show_pass.specs.ShowPackets.{showing}
use Rattle.show_pass.proofs.laws.a_recording_that_is_shown_has_one_first_refusal.Goals as goal

pub returns : goal.returns
returns c = λ options. one_refusal (packet_cutting options.order) (showing options) (c.packets_are_cut_once.ensures options.order 0)

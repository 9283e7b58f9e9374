use Rattle.pass_loop.specs.Bytes.{byte_cutting}
use Rattle.pass_loop.specs.ForProofs.FirstRefusalLaws.{one_refusal}
use Rattle.show_pass.specs.ShowBytes.{showing_bytes}
use Rattle.show_pass.proofs.laws.a_stream_that_is_shown_has_one_first_refusal.Goals as goal

pub returns : goal.returns
returns c = λ options. one_refusal byte_cutting (showing_bytes options) c.bytes_are_cut_once.ensures

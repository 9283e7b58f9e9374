use Rattle.pass_loop.specs.Bytes.{byte_cutting}
use Rattle.pass_loop.specs.ForProofs.FirstRefusalLaws.{one_refusal}
use Rattle.translation_passes.specs.Back.{returning}
use Rattle.translation_passes.specs.Up.{raising}
use Rattle.translation_passes.proofs.laws.a_stream_has_one_first_refusal.Goals as goal

pub returns : goal.returns
returns c =
    let once = c.bytes_are_cut_once.ensures in
    record {
      raised = λ options. one_refusal byte_cutting (raising options) once;
      returned = λ options. one_refusal byte_cutting (returning options) once;
    }

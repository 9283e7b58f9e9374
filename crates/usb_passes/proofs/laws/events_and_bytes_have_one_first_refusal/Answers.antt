use Rattle.pass_loop.specs.Bytes.{byte_cutting}
use Rattle.pass_loop.specs.ForProofs.FirstRefusalLaws.{one_refusal}
use Rattle.usb_passes.specs.Events.{event_cutting}
use Rattle.usb_passes.specs.Pack.{packing}
use Rattle.usb_passes.specs.Split.{splitting}
use Rattle.usb_passes.proofs.laws.events_and_bytes_have_one_first_refusal.Goals as goal

pub returns : goal.returns
returns c =
    record {
      split = one_refusal event_cutting splitting c.events_are_cut_once.ensures;
      packed = λ options. one_refusal byte_cutting (packing options) c.bytes_are_cut_once.ensures;
    }

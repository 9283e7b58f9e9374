use Rattle.up_translator.specs.DirectWords.{packet_of}
use Rattle.translation_passes.proofs.BackLaws.{lowered_is_put}
use Rattle.translation_passes.proofs.back.DownPacketWork.put_direct.Goals as goal

pub returns-in-Some : goal.returns-in-Some
returns-in-Some g c =
    lowered_is_put c.args.offset c.args.self.now (packet_of c.args.message.now) c.in-Some.lowered c.in-Some.ensures _ _ _
    c.put_message.ensures

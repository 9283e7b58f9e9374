use Rattle.std.proofs.Common.{◌∙◌, refl, sym}
use Rattle.ump_grammar.specs.declared.packet.Packet.TheVariants as packet
use Rattle.encoded_packets.specs.DirectMessages.{direct_voice}
use Rattle.down_translator.proofs.LoweredLaws.{direct_step}
use Rattle.down_translator.proofs.down.Down.lowered_message.Goals as goal

pub returns-then-is_lowered : goal.returns-then-is_lowered
returns-then-is_lowered c =
    let message = c.args.message.now in
    direct_step c.args.self.now (packet.Voice2 message.group (direct_voice message)) message c.lowered.result c.requires refl
    (sym c.is_lowered.ensures ∙ c.if-is_lowered.true) c.lowered.ensures.lane c.lowered.ensures.bytes c.lowered.ensures.attribute

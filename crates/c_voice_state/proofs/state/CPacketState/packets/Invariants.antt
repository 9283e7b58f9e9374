use Rattle.std.proofs.Common.{◌-◌, length}
use Rattle.packet_words.specs.Words.{words_asked}
use Rattle.c_answers.specs.Numbers.{number_of}
use Rattle.c_answers.specs.declared.status.Status.TheVariants as statuses
use Rattle.c_voice_state.specs.Kept.{IsPacketTaken, RefusesPacket}
use Rattle.c_voice_state.proofs.BlockLaws.{AreSoFar}
use Rattle.c_voice_state.proofs.state.CPacketState.packets.Given as goal

abbrev pub invariant-loop-block : goal.invariant-loop-block
invariant-loop-block l =
    AreSoFar words_asked (λ held words after. IsPacketTaken held words (number_of statuses.Done) after) RefusesPacket l.fn.self l.words
    l.block l.self

abbrev pub decreases-loop-block : goal.decreases-loop-block
decreases-loop-block l = length l.words - l.block.taken

-- Packets that an endpoint takes one after another.
use Rattle.std.proofs.Common.{ℕ, List}
use Rattle.ump_endpoint.specs.Held.{EndpointState}
use Rattle.c_answers.specs.declared.block.Block.{Block}
use Rattle.c_answers.proofs.BlockLaws as laws
use Rattle.c_endpoint.specs.Packets.{packets_in}
use Rattle.c_endpoint.specs.declared.replies.PacketReplies.{PacketReplies}

abbrev pub AreSoFar : EndpointState → ℕ → List ℕ → List ℕ → List PacketReplies → Block → ℕ → EndpointState → List ℕ → List PacketReplies → Type 0
AreSoFar self offset words old old_replies block next now buffer replies =
    laws.AreSoFar packets_in (λ held. Unit {0}) self offset words old old_replies block next now buffer replies

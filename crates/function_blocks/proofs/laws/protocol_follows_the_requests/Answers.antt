use Rattle.function_blocks.proofs.InForceLaws.{protocol-follows, protocol-stays, replies-follow}
use Rattle.function_blocks.proofs.laws.protocol_follows_the_requests.Goals as goal

pub returns : goal.returns
returns c = record { protocol = protocol-follows; replies = replies-follow; unread = protocol-stays }

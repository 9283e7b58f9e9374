use Rattle.std.proofs.Common.{sym, ◌∙◌}
use Rattle.system_stream.specs.declared.texts.TextKind.TheVariants as kinds
use Rattle.show_pass.proofs.texts.put_part.Goals as goal

pub put_joined-requires : goal.put_joined-requires
put_joined-requires g c = record { kind = c.requires.kinds kinds.EndpointName ∙ sym c.in-EndpointName.is }

pub put_joined-requires-in-ProductId : goal.put_joined-requires-in-ProductId
put_joined-requires-in-ProductId g c = record { kind = c.requires.kinds kinds.ProductId ∙ sym c.in-ProductId.is }

pub put_joined-requires-in-BlockName : goal.put_joined-requires-in-BlockName
put_joined-requires-in-BlockName g c = record { kind = c.requires.kinds kinds.BlockName ∙ sym c.in-BlockName.is }
